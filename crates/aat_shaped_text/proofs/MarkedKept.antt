-- Where pairs alone kern along the line, each part of a text tells the breaks on its side.
use Rattle.std.proofs.Common.{◌≡◌, ◌∙◌, sym, ap, refl, ℕ, ◌+◌, ◌-◌, ◌<◌, ◌≤◌, true, List, ◌++◌, map, length, arith, subst}
use Rattle.std.proofs.lemmas.List.{length-append}
use Rattle.std.specs.Prelude.{ℤ}
use Rattle.aat_glyph.specs.Directions.{is_backward}
use Rattle.aat_glyph.specs.declared.glyph.Direction.{Direction}
use Rattle.aat_buffer.specs.Buffer.{glyph_at}
use Rattle.aat_font.specs.declared.face.hb_font_t.{hb_font_t}
use Rattle.aat_font.specs.declared.plan.Feature.{Feature}
use Rattle.aat_run.specs.Budget.{operations_left}
use Rattle.aat_kerning.specs.Cut.{PartsAreKernedApart, ordered_line}
use Rattle.aat_kerning.specs.KerningLawful.{KerningChangesLittle}
use Rattle.aat_kerning.specs.Pairs.{is_solid}
use Rattle.aat_glyph.specs.placement.TrackingLaws.{PartsAreTrackedApart}
use Rattle.aat_shaped_text.specs.Breaks.{kept_before, kerns_by_pairs, skips_of, substitutes_evenly}
use Rattle.aat_shaped_text.specs.ShapedText.{closed_text, kerned_closed, may_cut_text, tells_breaks}
use Rattle.aat_shaped_text.proofs.BreakPlaces.{MeetsAt}
use Rattle.aat_shaped_text.proofs.BreaksKept.{AllTell}
use Rattle.aat_shaped_text.proofs.KernedGlyphs.{IsCalmer, IsWithin}
use Rattle.aat_shaped_text.proofs.KernedPairs.{AreInTwo, in_two_of}
use Rattle.aat_shaped_text.proofs.KernedTexts.{text_in_two}
use Rattle.aat_shaped_text.proofs.LineRuns.{text_plain}
use Rattle.aat_shaped_text.proofs.Looks.{plain}
use Rattle.aat_shaped_text.proofs.MarkedParts.{TellsRising}
use Rattle.aat_shaped_text.proofs.MarkedWay.{along, b, marked_is, marked_line, may_by_marks, says_by_marks, way_apart}
use Rattle.aat_shaped_text.proofs.PartBreaks.{part_may_break}
use Rattle.aat_shaped_text.proofs.PartsHold.{Way, same_length, same_solid, spends, tells_all, tells_of}
use Rattle.aat_shaped_text.proofs.SpotsRuns.{Glyphs}
use Rattle.aat_shaped_text.proofs.TextCut.{Text}
use Rattle.aat_shaped_text.proofs.TextLooks.{Behind, advanced_text, direction_is, drawn, drawn_line, drawn_plain_line, kerned, line_before, ordered, plain_text}
use Rattle.aat_shaped_text.proofs.Texts.{length-turned, turned}

module _ (little : KerningChangesLittle) (tracks : PartsAreTrackedApart) (apart : PartsAreKernedApart)
    (v : ℤ) (face : hb_font_t) (d : Direction) (features : List Feature) (pairs : kerns_by_pairs face d ≡ true)
  where
    abbrev c : Behind face d features
    c = b little tracks apart v face d features pairs

    abbrev the_way : Way little tracks v face d features
    the_way = way_apart little tracks apart v face d features pairs

    abbrev behind_line : Text → Glyphs
    behind_line text = marked_line little tracks apart v face d features pairs text

    module _ (text first second : Text) (k i : ℕ) (m : MeetsAt (drawn face d features c text).line k i)
        (whole_is : ordered face d features c text ≡ ordered face d features c first ++ ordered face d features c second)
        (short_is : length (c.substituted first).line ≡ i)
      where
        abbrev before : Text → Glyphs
        before part = ordered_line (advanced_text face d features c part)

        abbrev n : ℕ
        n = length (before second)

        joined : before text ≡ before first ++ before second
        joined =
            line_before face d features c text
            ∙ (whole_is
            ∙ (ap (λ gs. gs ++ ordered face d features c second) (sym (line_before face d features c first))
            ∙ ap (λ gs. before first ++ gs) (sym (line_before face d features c second))))

        short : length (before first) ≡ i
        short = ap length (line_before face d features c first) ∙ (length-turned (is_backward d) (c.substituted first).line ∙ short_is)

        plain_drawn : map plain (drawn face d features c text).line ≡ map plain (before text)
        plain_drawn = drawn_plain_line face d features c text ∙ ap (map plain) (sym (line_before face d features c text))

        some_behind : 0 < n
        some_behind =
            let within = m.before_end in
            omega (arith, within, ap length joined, length-append (before first) (before second), same_length (drawn face d features c text).line (before text) plain_drawn, short)

        -- kerning does not skip the glyph at a place that is open by marks
        solid_before : may_cut_text face d features text i ≡ true → is_solid (skips_of face) (glyph_at (before text) i) ≡ true
        solid_before may =
            sym (same_solid (skips_of face) (behind_line text) (before text) i (ap (map plain) (sym (drawn_line face d features c text)) ∙ plain_drawn))
            ∙ (says_by_marks little tracks apart v face d features pairs text i may).solid

        -- the three lines behind kerning
        kerned_in_two :
            may_cut_text face d features text i ≡ true
            → AreInTwo (skips_of face) i n (ordered_line (kerned face d features c text)) (ordered_line (kerned face d features c first))
            (ordered_line (kerned face d features c second))
        kerned_in_two may =
            text_in_two face features i n d (advanced_text face d features c text) (advanced_text face d features c first) (advanced_text face d features c second) (along little tracks apart v face d features pairs)
            (plain_text face d features c text) (plain_text face d features c first) (plain_text face d features c second)
            (in_two_of (skips_of face) i n (before text) (before first) (before second) joined short refl some_behind
            (solid_before may))

    -- kerning takes nothing of the budget
    nothing_taken : (part : Text) → (kerned_closed face d features part).max_ops ≡ (closed_text face d features part).buffer.max_ops
    nothing_taken part = (text_plain face d features (along little tracks apart v face d features pairs) (advanced_text face d features c part) (direction_is face d features c part)).budget

    part_tells : (text part : Text) → tells_breaks face d features text ≡ true → TellsRising face d features text part → tells_breaks face d features part ≡ true
    part_tells text part tells more =
        let few = (tells_all face d features text tells).few in
        let taken = more.more.takes in
        let left = ap operations_left (nothing_taken part) in
        tells_of face d features part
        (record { told = more.more.told; few = omega (arith, few, taken, left, spends little tracks v face d features text) })

    -- a part may be broken where the whole may
    module _ (text part : Text) (more : TellsRising face d features text part) (q r p : ℕ) (within : IsWithin q r (behind_line text) (behind_line part))
        (long : length (behind_line part) ≡ r) (longer : q + r ≤ length (behind_line text))
      where
        part_may :
            (place : ℕ) → p ≡ q + place → place < r → 0 < place → 0 < kept_before (behind_line part) place
            → may_cut_text face d features text p ≡ true → may_cut_text face d features part place ≡ true
        part_may place at inside some kept_some may =
            let says = says_by_marks little tracks apart v face d features pairs text p may in
            let calmer : IsCalmer (glyph_at (behind_line text) p) (glyph_at (behind_line part) place) = within place p at inside in
            may_by_marks little tracks apart v face d features pairs part place
            (record {
              rising = more.rising;
              tells = part_tells text part says.tells more;
              solid = ap (is_solid (skips_of face)) calmer.same ∙ says.solid;
              may =
                  part_may_break (substitutes_evenly face d features) features (behind_line text) (behind_line part) q r p place within long
                  longer at inside some kept_some says.may;
            })

    behind_is : (part : Text) → turned (is_backward d) (kerned face d features c part).line ≡ behind_line part
    behind_is part = sym (marked_is little tracks apart v face d features pairs part)

    pub apart_tell : AllTell little tracks v face d features the_way
    apart_tell text first second k i may m whole long first_more second_more =
        let two = kerned_in_two text first second k i m whole long may in
        let r = n text first second k i m whole long in
        let all_long = two.long in
        record {
          before = λ p some low may kept_some.
              part_may text first first_more 0 i p two.front two.short (omega (arith, all_long)) p (omega arith) low some
              (subst (λ (gs : Glyphs). 0 < kept_before gs p) (behind_is first) kept_some) may;
          behind = λ p high inside may kept_some.
              let within = ap length (behind_is text) in
              part_may text second second_more i r p two.back two.rest (omega (arith, all_long)) (p - i)
              (omega (arith, high)) (omega (arith, inside, within, all_long, high)) (omega (arith, high))
              (subst (λ (gs : Glyphs). 0 < kept_before gs (p - i)) (behind_is second) kept_some) may;
        }
