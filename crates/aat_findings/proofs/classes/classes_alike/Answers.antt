use Rattle.std.proofs.Common.{◌≡◌, ℕ, subst, arith}
use Rattle.aat_findings.specs.Alike.{AreTwins}
use Rattle.aat_findings.proofs.Twins.{twins_none}
use Rattle.aat_findings.proofs.classes.classes_alike.Goals as goal

pub loop-class-init : goal.loop-class-init
loop-class-init g c = twins_none c.args.table.now c.new-pairs.result.items c.new-pairs.ensures.items

pub add_twin-requires-clause-states : goal.add_twin-requires-clause-states
add_twin-requires-clause-states g c = c.in_ok-states.ensures.count

pub returns : goal.returns
returns g c =
    let all : c.loop-class.class ≡ c.args.table.now.class_count = omega arith in
    subst (λ (n : ℕ). AreTwins c.args.table.now c.loop-class.pairs.items n) all c.loop-class.invariant
