use Rattle.std.proofs.Common.{◌≡◌, ℕ, ◌<◌, List, drop, length, get_or, replicate, unwrap_or, ap, ◌∙◌, arith}
use Rattle.std.proofs.lemmas.List.{get_or-replicate, take_at}
use Rattle.aat_lookup.specs.EachGlyph.{pairs_of_each}
use Rattle.aat_read_sfnt.specs.Metrics.{advance_of}
use Rattle.aat_face.proofs.Pairs.{each_value}
use Rattle.aat_face.proofs.lists.advance_lookup.Goals as goal

pub returns-clause-ok : goal.returns-clause-ok
returns-clause-ok c =
    let metrics = c.args.metrics.now in
    let n = c.args.glyph_count in
    let other = c.args.other in
    let old : List ℕ = c.in_ok-advances.advances.items in
    let new : List ℕ = c.write_advances.new.advances in
    let filled : old ≡ replicate n other = c.in_ok-advances.ensures.items_if_clones_equal (λ y e. e) in
    let before : (k : ℕ) → k < n → get_or c.deref_mut.result.now k 0 ≡ other =
    λ k lt. ap (λ (l : List ℕ). get_or l k 0) (c.deref_mut.ensures.value ∙ filled) ∙ get_or-replicate n k other 0 lt in
    let long : length new ≡ n =
    omega (arith, c.write_advances.ensures.long, ap length c.deref_mut.ensures.value, c.in_ok-advances.ensures.len) in
    c.of_values.ensures
    ∙ ap pairs_of_each (take_at new (drop (length new) old) c.in_ok-advances.advances.len (omega (arith, long, c.in_ok-advances.ensures.len)))
    ∙ each_value (λ (g : ℕ). unwrap_or (advance_of metrics g) other) new n long
    (λ k lt. c.write_advances.ensures.each k (omega (arith, long, c.write_advances.ensures.long)) ∙ ap (unwrap_or (advance_of metrics k)) (before k lt))
