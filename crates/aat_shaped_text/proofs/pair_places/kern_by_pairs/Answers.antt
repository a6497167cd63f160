use Rattle.std.proofs.Common.{◌≡◌, ◌∙◌, ℕ, Bool, List, ap, length, rules, subst, sym, take, drop, ◌++◌}
use Rattle.std.proofs.Math.Seq.{take-append_seam}
use Rattle.aat_cut_kinds.specs.KernedTables.{by_marked_pairs}
use Rattle.aat_cut_kinds.specs.OpenPlaces.{KernsOpenly}
use Rattle.aat_kerning.specs.Values.{values_of}
use Rattle.aat_shaped_text.proofs.PairsTold.{pairs_kern}
use Rattle.aat_shaped_text.proofs.pair_places.kern_by_pairs.Goals as goal

pub returns-clause-kerned : goal.returns-clause-kerned
returns-clause-kerned g c =
    let run = c.args.run.now in
    let b = c.args.buffer.now in
    let after = c.kern_line.new.buffer in
    let new = c.tell_pairs.new.opens in
    let items = c.in_ok-is_open.is_open.items in
    let count = c.in_ok-is_open.is_open.len in
    let long : length new ≡ length b.line = search rules in
    let same : count ≡ length new = c.in_ok-is_open.ensures.len ∙ (c.len.ensures.count ∙ sym long) in
    let whole : take count (new ++ drop (length new) items) ≡ new =
    ap (λ (n : ℕ). take n (new ++ drop (length new) items)) same ∙ take-append_seam new (drop (length new) items) in
    subst (λ (told : List Bool). KernsOpenly (by_marked_pairs c.args.marks_line run.skips 8 run.is_cross_stream (values_of run.values)) b after told)
    (sym whole)
    (pairs_kern run.skips run.kern_mask (values_of run.values) c.args.marks_line run.is_cross_stream b after new c.requires.mask
    c.kern_line.ensures.kerned long c.tell_pairs.ensures.told)
