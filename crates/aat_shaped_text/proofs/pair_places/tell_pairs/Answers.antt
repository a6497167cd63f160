use Rattle.std.proofs.Common.{◌∙◌, false, rules}
use Rattle.std.proofs.lemmas.List.{length-set}
use Rattle.aat_cut_kinds.specs.KernedTables.{by_pairs}
use Rattle.aat_shaped_text.proofs.PairsTold.{told_more}
use Rattle.aat_shaped_text.proofs.pair_places.tell_pairs.Goals as goal
use Rattle.aat_kerning.specs.Values.{values_of}

pub loop-place-preserved : goal.loop-place-preserved
loop-place-preserved g c =
    let l = c.loop-place in
    record {
      long = length-set l.opens l.place c.leaves_open.result ∙ l.invariant.long;
      found = c.left_behind-left.ensures;
      told = told_more l.opens (λ q. (by_pairs c.args.skips 8 false (values_of c.args.values)).opens q c.args.buffer.now) l.place c.leaves_open.result
          (search rules) l.invariant.told c.leaves_open.ensures;
    }
