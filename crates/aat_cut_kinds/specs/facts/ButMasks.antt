-- Any complete insertion subtable leaves the parts of a line, but for their masks, at an unmarked rise of the clusters,
-- and at an unmarked fall: its plain table leaves them with their masks.
use Rattle.std.proofs.Common.{◌≡◌, ◌∙◌, inl, inr, ℕ, ◌-◌, ◌<◌, Bool, List, [], ◌∷◌, ◌++◌, length, map, reverse, refl, ap, sym, arith}
use Rattle.std.proofs.lemmas.List.{map-append, reverse-append}
use Rattle.aat_buffer.specs.Buffer.{Buffer, reversed}
use Rattle.aat_machine_tables.specs.Table.{TableValue}
use Rattle.aat_lookup.specs.declared.glyph_id.GlyphId.{GlyphId}
use Rattle.aat_glyph.specs.declared.glyph.hb_glyph_info_t.{hb_glyph_info_t}
use Rattle.aat_run.specs.Budget.{operations_left}
use Rattle.aat_run.specs.Outcome.{Outcome}
use Rattle.aat_kinds.specs.Insertion.{Entry}
use Rattle.aat_kinds.specs.Kinds.{insertion_run, reversed_run}
use Rattle.aat_cut_kinds.specs.Parts.{back_part, front_part}
use Rattle.aat_cut_kinds.specs.Cuts.{IsUnmarkedBackwardRise, IsUnmarkedFall, IsUnmarkedRise, LeavesParts, LeavesPartsButMasks, unmasked, without_masks}
use Rattle.aat_cut_kinds.specs.Settled.{HasEntries}
use Rattle.aat_cut_kinds.specs.facts.BackwardCuts.{fall_of_rise, turned_leaves_parts}
use Rattle.aat_cut_kinds.specs.facts.EmptyRuns.{IsBarerBuffer}
use Rattle.aat_cut_kinds.specs.facts.FewerMarks.{barer_reverse, barer_same, barer_unflagged}
use Rattle.aat_cut_kinds.specs.facts.InsertionCuts.{leaves_parts_at_fall, leaves_parts_at_rise}
use Rattle.aat_cut_kinds.specs.facts.PlainRuns.{plain_run_is_barer}
use Rattle.aat_cut_kinds.specs.facts.PlainTables.{is_plain, plain_complete, plain_table}

-- the budget is the same
same_budget : (b d : Buffer) → IsBarerBuffer b d → operations_left d.max_ops ≡ operations_left b.max_ops
same_budget b d k = ap (λ (x : Buffer). operations_left x.max_ops) k.rest

module _ (glyphs : List GlyphId) (on : ℕ → Bool) (table : TableValue Entry) where
  -- the runs of the table and of the plain one
  abbrev whole : Buffer → Outcome
  whole = insertion_run on table glyphs

  abbrev plain : Buffer → Outcome
  plain = insertion_run on (plain_table table) glyphs

  -- where the plain table leaves the parts, the table leaves them but for the masks
  but_masks : (q : ℕ) (b : Buffer) → 0 < operations_left (whole b).buffer.max_ops → LeavesParts plain q b → LeavesPartsButMasks whole q b
  but_masks q b some parts =
      let all = plain_run_is_barer table on glyphs b (inl some) in
      let budget = same_budget (whole b).buffer (plain b).buffer all in
      let front_left = parts.front_budget in
      let back_left = parts.back_budget in
      let front = plain_run_is_barer table on glyphs (front_part q b) (inr (omega (arith, some, budget, front_left))) in
      let back = plain_run_is_barer table on glyphs (back_part q b) (inr (omega (arith, some, budget, back_left))) in
      let front_budget = same_budget (whole (front_part q b)).buffer (plain (front_part q b)).buffer front in
      let back_budget = same_budget (whole (back_part q b)).buffer (plain (back_part q b)).buffer back in
      let same_front = barer_same (whole (front_part q b)).buffer.line (plain (front_part q b)).buffer.line front.line in
      let same_back = barer_same (whole (back_part q b)).buffer.line (plain (back_part q b)).buffer.line back.line in
      record {
        line =
            barer_same (whole b).buffer.line (plain b).buffer.line all.line
            ∙ (ap (map unmasked) parts.line
            ∙ (map-append unmasked (plain (front_part q b)).buffer.line (plain (back_part q b)).buffer.line
            ∙ (λ i. sym same_front i ++ sym same_back i)));
        front_budget = omega (arith, budget, front_left, front_budget);
        back_budget = omega (arith, budget, back_left, back_budget);
      }

  module _ (reached : ℕ → Bool) (entries : HasEntries table reached) (c q : ℕ) (b : Buffer) where
    -- at an unmarked rise
    pub any_at_rise : IsUnmarkedRise whole on c q b → LeavesPartsButMasks whole q b
    any_at_rise cut =
        let some = cut.budget in
        let all = plain_run_is_barer table on glyphs b (inl some) in
        let budget = same_budget (whole b).buffer (plain b).buffer all in
        but_masks q b some
        (leaves_parts_at_rise glyphs on (plain_table table) reached (plain_complete table reached entries) (is_plain table) c q b
        (record {
          behind_first = cut.behind_first;
          before_end = cut.before_end;
          split = cut.split;
          is_on = cut.is_on;
          unflagged = barer_unflagged c (whole b).buffer.line (plain b).buffer.line all.line cut.unflagged;
          budget = omega (arith, some, budget);
        }))

    -- at an unmarked fall
    pub any_at_fall : IsUnmarkedFall whole on c q b → LeavesPartsButMasks whole q b
    any_at_fall cut =
        let some = cut.budget in
        let all = plain_run_is_barer table on glyphs b (inl some) in
        let budget = same_budget (whole b).buffer (plain b).buffer all in
        let turned = barer_reverse (whole b).buffer.line (plain b).buffer.line all.line in
        but_masks q b some
        (leaves_parts_at_fall glyphs on (plain_table table) reached (plain_complete table reached entries) (is_plain table) c q b
        (record {
          behind_first = cut.behind_first;
          before_end = cut.before_end;
          split = cut.split;
          is_on = cut.is_on;
          unflagged = barer_unflagged c (reverse (whole b).buffer.line) (reverse (plain b).buffer.line) turned cut.unflagged;
          budget = omega (arith, some, budget);
        }))

-- a line turned round, without masks
reverse_unmasked : (gs : List hb_glyph_info_t) → reverse (map unmasked gs) ≡ map unmasked (reverse gs)
reverse_unmasked [] = refl
reverse_unmasked (g ∷ gs) =
    reverse-append (unmasked g ∷ []) (map unmasked gs)
    ∙ (ap (λ (xs : List hb_glyph_info_t). xs ++ (unmasked g ∷ [])) (reverse_unmasked gs)
    ∙ (sym (map-append unmasked (reverse gs) (g ∷ [])) ∙ ap (map unmasked) (sym (reverse-append (g ∷ []) gs))))

module _ (glyphs : List GlyphId) (on : ℕ → Bool) (table : TableValue Entry) (reached : ℕ → Bool) (entries : HasEntries table reached) (c q : ℕ) (b : Buffer) where
  -- on the line in the opposite order, at an unmarked rise
  pub any_backward : IsUnmarkedBackwardRise (reversed_run (insertion_run on table glyphs)) on c q b → LeavesPartsButMasks (reversed_run (insertion_run on table glyphs)) q b
  any_backward cut =
      let run = insertion_run on table glyphs in
      let bare : Buffer → Outcome = λ d. record (run d) { buffer = without_masks (run d).buffer } in
      let parts = turned_leaves_parts bare q b (any_at_fall glyphs on table reached entries c (length b.line - q) (reversed b) (fall_of_rise run q b on c cut)) in
      let turned = λ (d : Buffer). reverse_unmasked (run (reversed d)).buffer.line in
      record {
        line = sym (turned b) ∙ (parts.line ∙ (λ i. turned (front_part q b) i ++ turned (back_part q b) i));
        front_budget = parts.front_budget;
        back_budget = parts.back_budget;
      }
