use Rattle.std.proofs.Common.{sym, ◌∙◌}
use Rattle.aat_bytes.specs.Bisection.{is_found}
use Rattle.aat_read_pairs.specs.ListedPairs.{key_at, pair_at}
use Rattle.aat_read_lookup.specs.facts.PassedRows.{passes_none, passes_one}
use Rattle.aat_read_pairs.proofs.listed.bisected_pairs.Goals as goal
use Rattle.aat_read_pairs.proofs.listed.bisected_pairs.Goals.{then-is_found+in_ok-push, else-is_found}

pub loop-i-preserved : goal.loop-i-preserved
loop-i-preserved g c =
    let pair = pair_at c.args.bytes.now c.args.tuples c.args.place in
    let test = is_found (key_at c.args.bytes.now c.args.place) c.args.count in
    elim c.if-is_found.branch [
      | then-is_found+in_ok-push w ↦
          rw w.pairs-is
          (passes_one pair test c.loop-i.pairs.items w.push.new.self.items c.loop-i.i w.pair_at.result c.loop-i.invariant
          (sym c.is_found.ensures ∙ w.if-is_found.true) w.pair_at.ensures w.in_ok-push.ensures.items)
      | else-is_found w ↦
          rw w.pairs-is
          (passes_none pair test c.loop-i.pairs.items c.loop-i.i c.loop-i.invariant
          (sym c.is_found.ensures ∙ w.if-is_found.false))
    ]
