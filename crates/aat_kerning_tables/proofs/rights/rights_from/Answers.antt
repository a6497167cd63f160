use Rattle.std.proofs.Common.{length, arith}
use Rattle.aat_kerning_tables.proofs.RightBits.{rights_told}
use Rattle.aat_kerning_tables.proofs.rights.rights_from.Goals as goal

pub returns : goal.returns
returns g c =
    let was = c.loop-place.invariant in
    let end = c.loop-place.auto.place-end in
    record {
      told = rights_told c.args.lowest c.loop-place.words.items c.args.pairs.now (length c.args.starts.now) (omega (arith, was.long, end, c.loop-place-test.false)) c.requires.starts.1 (λ k lt. was.told k (omega (arith, c.loop-place-test.false)));
    }
