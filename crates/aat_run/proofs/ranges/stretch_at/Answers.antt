use Rattle.std.proofs.Common.{sym, arith}
use Rattle.std.proofs.lemmas.Bool.Decides.{nat_tests}
use Rattle.aat_run.proofs.Stretched.{found_holds, switched_alike}
use Rattle.aat_run.proofs.ranges.stretch_at.Goals as goal

pub returns-in-Some-clause-first : goal.returns-in-Some-clause-first
returns-in-Some-clause-first c =
    grind (arith, nat_tests, found_holds c.args.cluster c.args.ranges.now c.in-Some.range (sym c.in-Some.ensures))

pub returns-in-Some-clause-last : goal.returns-in-Some-clause-last
returns-in-Some-clause-last c =
    grind (arith, nat_tests, found_holds c.args.cluster c.args.ranges.now c.in-Some.range (sym c.in-Some.ensures))

pub returns-in-Some-clause-alike : goal.returns-in-Some-clause-alike
returns-in-Some-clause-alike c x first last =
    switched_alike c.args.ranges.now c.args.feature_flags c.args.cluster x c.in-Some.range c.requires (sym c.in-Some.ensures) (omega (arith, c.ranges.cluster.fits)) first last
