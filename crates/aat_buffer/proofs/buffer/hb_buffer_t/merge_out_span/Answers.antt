use Rattle.std.proofs.Common.{◌≡◌, ◌⊎◌, ◌<◌, inl, inr, ◌-◌, ◌+◌, ◌∙◌, ℕ, ap, arith, subst, sym}
use Rattle.aat_glyph.specs.declared.glyph.hb_glyph_info_t.{hb_glyph_info_t}
use Rattle.aat_buffer.specs.Buffer.{Buffer, with_line}
use Rattle.aat_buffer.specs.Marks.{cluster_at, run_after, run_before}
use Rattle.aat_buffer.specs.inside.Marked.{IsMerged}
use Rattle.aat_buffer.proofs.Marked.{one_is_marked}
use Rattle.aat_buffer.proofs.MergedOut.{grown_by, merged_has, merged_out_is}
use Rattle.aat_buffer.proofs.buffer.hb_buffer_t.merge_out_span.Goals.{then-first-least, else-first-least, then-last-least, else-last-least}
use Rattle.aat_buffer.proofs.buffer.hb_buffer_t.merge_out_span.Goals as goal

pub invariant_of-self : goal.invariant_of-self
invariant_of-self g c =
    let gs = c.args.self.now.line in
    let i : ℕ = c.args.start in
    let j : ℕ = c.args.end in
    let known = c.merged_until-known in
    let first : ℕ = c.glyph-first.result.cluster in
    let last : ℕ = c.glyph-last.result.cluster in
    let m : ℕ = c.least_from-least.result in
    let from : ℕ = c.if-first-least.from in
    let to : ℕ = c.if-last-least.to in
    let is_first : first ≡ cluster_at gs i = ap (λ (x : hb_glyph_info_t). x.cluster) c.glyph-first.ensures in
    let is_last : last ≡ cluster_at gs (j - 1) = ap (λ (x : hb_glyph_info_t). x.cluster) c.glyph-last.ensures in
    let front : ((from ≡ known.result) × (first ≡ m)) ⊎ (from ≡ i - run_before gs 0 i (cluster_at gs i)) = elim c.if-first-least.branch [
      | then-first-least w ↦ inl (w.from-is, w.if-first-least.true)
      | else-first-least w ↦ inr (w.from-is ∙ (w.run_start-from.ensures.run ∙ ap (λ (x : ℕ). i - run_before gs 0 i x) is_first))
    ] in
    let rest : ((to ≡ j) × (last ≡ m)) ⊎ (to ≡ j + run_after gs j (cluster_at gs (j - 1))) = elim c.if-last-least.branch [
      | then-last-least w ↦ inl (w.to-is, w.if-last-least.true)
      | else-last-least w ↦ inr (w.to-is ∙ (w.run_end-to.ensures.run ∙ ap (λ (x : ℕ). j + run_after gs j x) is_last))
    ] in
    let grown = grown_by gs i j known.result first last m c.requires.long c.requires.in_line known.ensures.behind known.ensures.within known.ensures.one is_first is_last c.least_from-least.ensures from to front rest in
    let n : ℕ = c.min-start.result in
    let some : n < to = omega (arith, c.min-start.ensures, c.requires.long, grown.beyond) in
    let here : IsMerged c.self.inside.line.glyphs (record { start = n; end = to; cluster = m }) = subst (λ (k : ℕ). IsMerged c.self.inside.line.glyphs (record { start = k; end = to; cluster = m })) (sym c.min-start.ensures)
    (merged_has gs i j known.result first last m c.requires.long c.requires.in_line known.ensures.behind known.ensures.within known.ensures.one is_first is_last c.least_from-least.ensures from to grown
    c.self.inside.line.glyphs (ap (λ (b : Buffer). b.line) (c.self.view_is ∙ c.set_cluster.ensures.after))) in
    record {
      in_line = c.self.invariant.in_line;
      within_max = c.self.invariant.within_max;
      small = c.self.invariant.small;
      placed = c.self.invariant.placed;
      marked = one_is_marked c.self.inside.line.glyphs n to m some here;
      merged = here;
    }

pub returns-clause-after : goal.returns-clause-after
returns-clause-after g c =
    let gs = c.args.self.now.line in
    let i : ℕ = c.args.start in
    let j : ℕ = c.args.end in
    let known = c.merged_until-known in
    let first : ℕ = c.glyph-first.result.cluster in
    let last : ℕ = c.glyph-last.result.cluster in
    let m : ℕ = c.least_from-least.result in
    let from : ℕ = c.if-first-least.from in
    let to : ℕ = c.if-last-least.to in
    let is_first : first ≡ cluster_at gs i = ap (λ (x : hb_glyph_info_t). x.cluster) c.glyph-first.ensures in
    let is_last : last ≡ cluster_at gs (j - 1) = ap (λ (x : hb_glyph_info_t). x.cluster) c.glyph-last.ensures in
    let front : ((from ≡ known.result) × (first ≡ m)) ⊎ (from ≡ i - run_before gs 0 i (cluster_at gs i)) = elim c.if-first-least.branch [
      | then-first-least w ↦ inl (w.from-is, w.if-first-least.true)
      | else-first-least w ↦ inr (w.from-is ∙ (w.run_start-from.ensures.run ∙ ap (λ (x : ℕ). i - run_before gs 0 i x) is_first))
    ] in
    let rest : ((to ≡ j) × (last ≡ m)) ⊎ (to ≡ j + run_after gs j (cluster_at gs (j - 1))) = elim c.if-last-least.branch [
      | then-last-least w ↦ inl (w.to-is, w.if-last-least.true)
      | else-last-least w ↦ inr (w.to-is ∙ (w.run_end-to.ensures.run ∙ ap (λ (x : ℕ). j + run_after gs j x) is_last))
    ] in
    let grown = grown_by gs i j known.result first last m c.requires.long c.requires.in_line known.ensures.behind known.ensures.within known.ensures.one is_first is_last c.least_from-least.ensures from to front rest in
    c.self.view_is ∙ (c.set_cluster.ensures.after
    ∙ ap (with_line c.args.self.now) (merged_out_is gs i j known.result first last m c.requires.long c.requires.in_line known.ensures.behind known.ensures.within known.ensures.one is_first is_last c.least_from-least.ensures from to grown))
