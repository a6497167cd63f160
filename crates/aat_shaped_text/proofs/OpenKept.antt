-- Where texts are told breaks by where kerning leaves a line open, each part of a text tells the breaks on its side.
use Rattle.std.proofs.Common.{◌≡◌, ◌∙◌, sym, ap, refl, ℕ, ◌+◌, ◌-◌, ◌<◌, ◌≤◌, true, false, List, ◌++◌, map, length, arith, subst}
use Rattle.std.proofs.lemmas.List.{length-map}
use Rattle.std.specs.Prelude.{ℤ}
use Rattle.aat_glyph.specs.Directions.{is_backward}
use Rattle.aat_glyph.specs.declared.glyph.Direction.{Direction}
use Rattle.aat_font.specs.declared.face.hb_font_t.{hb_font_t}
use Rattle.aat_font.specs.declared.plan.Feature.{Feature}
use Rattle.aat_run.specs.Budget.{operations_left}
use Rattle.aat_kerning.specs.Cut.{ordered_line, ordered_positions}
use Rattle.aat_kerning.specs.KerningLawful.{KerningChangesLittle}
use Rattle.aat_glyph.specs.placement.TrackingLaws.{PartsAreTrackedApart}
use Rattle.aat_shaped_text.specs.Breaks.{is_unchained, kept_before, kerns_by_pairs, substitutes_evenly}
use Rattle.aat_shaped_text.specs.KernedBreaks.{kerning_opens}
use Rattle.aat_shaped_text.specs.ShapedText.{advanced_closed, kerned_closed, may_cut_text, most_operations}
use Rattle.aat_shaped_text.proofs.BreaksKept.{AllTell}
use Rattle.aat_shaped_text.proofs.ChainsSplit.{back_unchained, front_unchained}
use Rattle.aat_shaped_text.proofs.KernedGlyphs.{IsWithin}
use Rattle.aat_shaped_text.proofs.KernedPairs.{IsJoined, joined_of}
use Rattle.aat_shaped_text.proofs.Looks.{Positions, plain}
use Rattle.aat_shaped_text.proofs.MarkedParts.{TellsRising}
use Rattle.aat_shaped_text.proofs.OpenParts.{parts_open, table_opens}
use Rattle.aat_shaped_text.proofs.OpenWay.{SaysOpenly, c, have_enough, may_openly, says_openly, some_left, way_open}
use Rattle.aat_shaped_text.proofs.PartBreaks.{part_may_break}
use Rattle.aat_shaped_text.proofs.PartsHold.{Way, tells_all, tells_of}
use Rattle.aat_shaped_text.proofs.SpotsRuns.{Glyphs}
use Rattle.aat_shaped_text.proofs.TextCut.{Text}
use Rattle.aat_shaped_text.proofs.TextLooks.{Behind, drawn, drawn_plain_line, kerned, length_of_ordered, line_before, ordered}
use Rattle.aat_shaped_text.proofs.Texts.{length-turned}

-- a shorter text has no more operations
fewer_operations : (n m : ℕ) → n ≤ m → most_operations n ≤ most_operations m
fewer_operations n m most = omega (arith, most)

-- a part takes few operations where the whole does, and takes no more of its budget than the whole, or had more
part_takes :
    (w0 w1 w2 f0 f1 f2 : ℕ) → w0 < w2 + 16384 → f0 + w1 ≤ w0 + f1 → f0 ≤ w0 → w2 < f2 + ((w1 - f1) + 1) → f0 < f2 + 16384
part_takes w0 w1 w2 f0 f1 f2 few takes less spends = omega (arith, few, takes, less, spends)

module _ (little : KerningChangesLittle) (tracks : PartsAreTrackedApart)
    (v : ℤ) (face : hb_font_t) (d : Direction) (features : List Feature) (runs : kerns_by_pairs face d ≡ false)
  where
    abbrev b : Behind face d features
    b = c little tracks v face d features runs

    abbrev the_way : Way little tracks v face d features
    the_way = way_open little tracks v face d features runs

    abbrev before : Text → Glyphs
    before part = ordered_line (advanced_closed face d features part)

    before_is : (part : Text) → before part ≡ ordered face d features b part
    before_is part = line_before face d features b part

    module _ (text first second : Text) (i : ℕ)
        (whole_is : ordered face d features b text ≡ ordered face d features b first ++ ordered face d features b second)
        (short_is : length (b.substituted first).line ≡ i)
      where
        abbrev n : ℕ
        n = length (before second)

        joined : before text ≡ before first ++ before second
        joined =
            before_is text
            ∙ (whole_is
            ∙ (ap (λ gs. gs ++ ordered face d features b second) (sym (before_is first))
            ∙ ap (λ gs. before first ++ gs) (sym (before_is second))))

        short : length (before first) ≡ i
        short = ap length (before_is first) ∙ (length-turned (is_backward d) (b.substituted first).line ∙ short_is)

        plain_drawn : map plain (drawn face d features b text).line ≡ map plain (before text)
        plain_drawn = drawn_plain_line face d features b text ∙ ap (map plain) (sym (before_is text))

        drawn_long : length (drawn face d features b text).line ≡ length (before text)
        drawn_long = sym (length-map (drawn face d features b text).line plain) ∙ (ap length plain_drawn ∙ length-map (before text) plain)

        -- the three lines before kerning
        in_two : IsJoined i n (before text) (before first) (before second)
        in_two = joined_of i n (before text) (before first) (before second) joined short refl

        -- a part may be broken where the whole may, and kerning leaves the part open
        module _ (part : Text) (more : TellsRising face d features text part)
            (takes :
            operations_left (kerned_closed face d features text).max_ops
            < operations_left (kerned_closed face d features part).max_ops
            + ((operations_left (advanced_closed face d features text).max_ops - operations_left (advanced_closed face d features part).max_ops) + 1))
            (q r p : ℕ) (within : IsWithin q r (before text) (before part)) (long : length (before part) ≡ r) (longer : q + r ≤ length (before text))
          where
            few : SaysOpenly face d features text p → most_operations (length part) < operations_left (kerned_closed face d features part).max_ops + 16384
            few says =
                part_takes (most_operations (length text)) (operations_left (advanced_closed face d features text).max_ops) (operations_left (kerned_closed face d features text).max_ops)
                (most_operations (length part)) (operations_left (advanced_closed face d features part).max_ops) (operations_left (kerned_closed face d features part).max_ops)
                (tells_all face d features text says.tells).few more.more.takes (fewer_operations (length part) (length text) more.shorter) takes

            part_may :
                (place : ℕ) → p ≡ q + place → place < r → 0 < place → 0 < kept_before (before part) place
                → kerning_opens face d features (advanced_closed face d features part) place ≡ true
                → is_unchained d (ordered_positions (kerned_closed face d features part)) place ≡ true
                → may_cut_text face d features text p ≡ true → may_cut_text face d features part place ≡ true
            part_may place at inside some kept_some opens unchained may =
                let says = says_openly face d features runs text p may in
                may_openly face d features runs part place
                (record {
                  rising = more.rising;
                  tells = tells_of face d features part (record { told = more.more.told; few = few says });
                  may =
                      part_may_break (substitutes_evenly face d features) features (before text) (before part) q r p place within long longer at
                      inside some kept_some says.may;
                  opens = opens;
                  unchained = unchained;
                })

    -- the parts are unchained where the whole is
    abbrev places : Text → Positions
    places part = ordered_positions (kerned face d features b part)

    module _ (text first second : Text) (i : ℕ) (split : places text ≡ places first ++ places second) where
      chains_before : (p : ℕ) → is_unchained d (places text) p ≡ true → is_unchained d (places first) p ≡ true
      chains_before p un = front_unchained d (places first) (places second) p (ap (λ (qs : Positions). is_unchained d qs p) (sym split) ∙ un)

      chains_behind :
          length (places first) ≡ i → is_unchained d (places text) i ≡ true → (p : ℕ) → i ≤ p → is_unchained d (places text) p ≡ true
          → is_unchained d (places second) (p - i) ≡ true
      chains_behind long here p high un =
          let there : (j : ℕ) → is_unchained d (places text) j ≡ true → is_unchained d (places first ++ places second) j ≡ true =
          λ j is. ap (λ (qs : Positions). is_unchained d qs j) (sym split) ∙ is in
          ap (λ (n : ℕ). is_unchained d (places second) (p - n)) (sym long)
          ∙ back_unchained d (places first) (places second)
          (ap (λ (n : ℕ). is_unchained d (places first ++ places second) n) long ∙ there i here) p (omega (arith, high, long)) (there p un)

    pub open_tell : AllTell little tracks v face d features the_way
    open_tell text first second k i may m whole long first_more second_more =
        let says = says_openly face d features runs text i may in
        let two = in_two text first second i whole long in
        let r = n text first second i whole long in
        let all_long = two.long in
        let within = m.before_end in
        let line_long : length (before text) ≡ length (b.substituted text).line = ap length (before_is text) ∙ length-turned (is_backward d) (b.substituted text).line in
        let opens = parts_open face d features b text first second i whole long m.behind_first
        (omega (arith, within, line_long, drawn_long text first second i whole long))
        says.opens (some_left little tracks v face d features runs text first second i says first_more second_more)
        (have_enough little tracks v face d features runs text first second i says first_more second_more) (table_opens face d features) in
        let split = the_way.splits text first second k i may m whole long first_more second_more in
        let first_long : length (places first) ≡ i =
        length_of_ordered face d features b first
        ∙ (length-map (ordered face d features b first) plain ∙ (length-turned (is_backward d) (b.substituted first).line ∙ long)) in
        record {
          before = λ p some low may_p kept_some.
              let says_p = says_openly face d features runs text p may_p in
              part_may text first second i whole long first first_more opens.first_takes 0 i p two.front two.short (omega (arith, all_long)) p (omega arith) low some
              (subst (λ (gs : Glyphs). 0 < kept_before gs p) (sym (before_is first)) kept_some)
              (opens.first_opens p some low says_p.opens) (chains_before text first second i split p says_p.unchained) may_p;
          behind = λ p high inside may_p kept_some.
              let says_p = says_openly face d features runs text p may_p in
              let inside_line : p < length (b.substituted text).line = omega (arith, inside, length-turned (is_backward d) (b.substituted text).line) in
              part_may text first second i whole long second second_more opens.second_takes i r p two.back two.rest (omega (arith, all_long)) (p - i)
              (omega (arith, high)) (omega (arith, inside_line, line_long, all_long, high)) (omega (arith, high))
              (subst (λ (gs : Glyphs). 0 < kept_before gs (p - i)) (sym (before_is second)) kept_some)
              (opens.second_opens p high inside_line says_p.opens)
              (chains_behind text first second i split first_long says.unchained p (omega (arith, high)) says_p.unchained) may_p;
        }
