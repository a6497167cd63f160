-- The parts of a text keep its breaks, where each tells those on its side.
use Rattle.std.proofs.Common.{◌≡◌, ◌∙◌, ◌⊎◌, sym, ap, inl, inr, ℕ, ◌+◌, ◌-◌, ◌<◌, ◌≤◌, true, true≢false, List, [], ◌∷◌, ◌++◌, map, take, drop, length, arith, nat_lt, subst}
use Rattle.std.proofs.lemmas.Bool.{cases_lt}
use Rattle.std.proofs.lemmas.Bool.Decides.{nat_tests}
use Rattle.std.proofs.lemmas.List.{get_or_past, length-drop, length-map, length-take, map-append, take-map}
use Rattle.std.specs.Prelude.{ℤ}
use Rattle.aat_glyph.specs.Directions.{is_backward}
use Rattle.aat_glyph.specs.declared.glyph.Direction.{Direction}
use Rattle.aat_font.specs.declared.face.hb_font_t.{hb_font_t}
use Rattle.aat_font.specs.declared.plan.Feature.{Feature}
use Rattle.aat_kerning.specs.KerningLawful.{KerningChangesLittle}
use Rattle.aat_glyph.specs.placement.TrackingLaws.{PartsAreTrackedApart}
use Rattle.aat_shaped_text.specs.Breaks.{front_of, kept_before}
use Rattle.aat_shaped_text.specs.Parts.{BreaksAsParts, BreaksInParts, looks, no_shaped_glyph, shaped_at}
use Rattle.aat_shaped_text.specs.ShapedText.{drawn_glyphs, drawn_text, may_break_text, may_cut_text, shaped_text}
use Rattle.aat_shaped_text.specs.declared.text.ShapedGlyph.{ShapedGlyph}
use Rattle.aat_shaped_text.proofs.BreakPlaces.{MeetsAt}
use Rattle.aat_shaped_text.proofs.Fronts.{count_kept, front_before, front_behind, front_keeps, front_most, front_plain, front_some}
use Rattle.aat_shaped_text.proofs.KeptPlaces.{StandsAt, says_as_line, stands_before, stands_behind, stands_of}
use Rattle.aat_shaped_text.proofs.Looks.{plain}
use Rattle.aat_shaped_text.proofs.LooksSplit.{stays}
use Rattle.aat_shaped_text.proofs.MarkedParts.{TellsRising}
use Rattle.aat_shaped_text.proofs.PartsHold.{Way, are_parts, asked, breaks_where, cut_at, cuts_at, drawn_is, in_order, same_length, same_plain, same_spots, shaped_is, split, x}
use Rattle.aat_shaped_text.proofs.Places.{breaks_at}
use Rattle.aat_shaped_text.proofs.Spots.{Spot}
use Rattle.aat_shaped_text.proofs.SpotsRuns.{Glyphs, spot, spots}
use Rattle.aat_shaped_text.proofs.TextCut.{Text}
use Rattle.aat_shaped_text.proofs.TextLooks.{Behind, drawn, drawn_plain_line}
use Rattle.aat_shaped_text.proofs.TextParts.{IsInParts, before_is, behind_is, xs_is, ys_is}
use Rattle.aat_shaped_text.proofs.Texts.{turned}

-- how many are kept before a place, and before the place at which its glyph begins
kept_spots : (gs : Glyphs) (i : ℕ) → kept_before gs i ≡ stays (take i (spots gs))
kept_spots gs i = count_kept (take i gs) ∙ ap stays (sym (take-map spot i gs))

front_stays : (gs : Glyphs) (i : ℕ) → i ≤ length gs → stays (take (front_of gs i) (spots gs)) ≡ stays (take i (spots gs))
front_stays gs i inside = sym (kept_spots gs (front_of gs i)) ∙ (front_keeps gs i inside ∙ kept_spots gs i)

some_kept : (n : ℕ) → nat_lt 0 n ≡ true → 0 < n
some_kept n test = grind (arith, nat_tests, test)

-- what is drawn past its end says nothing
drawn_within : (glyphs : List ShapedGlyph) (j : ℕ) → (shaped_at glyphs j).may_break_before ≡ true → j < length glyphs
drawn_within glyphs j may = by (cases_lt j (length glyphs))
  where
    by : ((j < length glyphs) ⊎ (length glyphs ≤ j)) → j < length glyphs
    by (inl low) = low
    by (inr high) = absurd (true≢false (sym may ∙ ap (λ (g : ShapedGlyph). g.may_break_before) (get_or_past glyphs j no_shaped_glyph high)))

module _ (little : KerningChangesLittle) (tracks : PartsAreTrackedApart)
    (v : ℤ) (face : hb_font_t) (d : Direction) (features : List Feature) (way : Way little tracks v face d features)
  where
    abbrev b : Behind face d features
    b = x little tracks v face d features

    -- the line that is asked for marks, in drawing order
    abbrev pub asked_line : Text → Glyphs
    asked_line text = asked little tracks v face d features way text

    abbrev glyphs_of : Text → List ShapedGlyph
    glyphs_of text = drawn_glyphs (may_break_text face d features text) (drawn face d features b text)

    asked_plain : (text : Text) → map plain (drawn face d features b text).line ≡ map plain (asked_line text)
    asked_plain text = same_plain little tracks v face d features way text

    kept_is : (text : Text) (place : ℕ) → kept_before (asked_line text) place ≡ stays (take place (spots (drawn face d features b text).line))
    kept_is text place =
        kept_spots (asked_line text) place
        ∙ ap (λ (ss : List Spot). stays (take place ss)) (sym (same_spots (drawn face d features b text).line (asked_line text) (asked_plain text)))

    -- Of a text that is cut at place i, each part may be cut where the text may on its side, but for its end.
    pub record PartsTell (text first second : Text) (i : ℕ) : Type 0 where
      pub before :
          (p : ℕ) → 0 < p → p < i → may_cut_text face d features text p ≡ true → 0 < kept_before (asked_line first) p → may_cut_text face d features first p ≡ true
      pub behind :
          (p : ℕ) → i < p → p < length (asked_line text) → may_cut_text face d features text p ≡ true → 0 < kept_before (asked_line second) (p - i)
          → may_cut_text face d features second (p - i) ≡ true

    -- so it is wherever a text is cut
    abbrev pub AllTell : Type 0
    AllTell =
        (text first second : Text) (k i : ℕ)
        → may_cut_text face d features text i ≡ true → MeetsAt (drawn face d features b text).line k i
        → turned (is_backward d) (b.substituted text).line
        ≡ turned (is_backward d) (b.substituted first).line ++ turned (is_backward d) (b.substituted second).line
        → length (b.substituted first).line ≡ i → TellsRising face d features text first → TellsRising face d features text second
        → PartsTell text first second i

    -- a part says so where it may be broken
    part_says :
        (part : Text) (j place : ℕ) → StandsAt (spots (drawn face d features b part).line) j place → j < length (glyphs_of part)
        → may_break_text face d features part place ≡ true → (shaped_at (drawn_glyphs (may_break_text face d features part) (drawn_text v face d features part)) j).may_break_before ≡ true
    part_says part j place stands low may =
        ap (λ (gs : List ShapedGlyph). (shaped_at gs j).may_break_before) (drawn_is little tracks v face d features (may_break_text face d features part) part)
        ∙ (says_as_line (may_break_text face d features part) (drawn face d features b part) j place low stands ∙ may)

    module _ (tell : AllTell) (text : Text) (k i : ℕ) (m : MeetsAt (drawn face d features b text).line k i) (may : may_cut_text face d features text i ≡ true)
        (low : k < length (glyphs_of text))
      where
        abbrev first : Text
        first = (split little tracks v face d features way text k i m may).first

        abbrev second : Text
        second = (split little tracks v face d features way text k i m may).second

        abbrev parts : IsInParts face d features b text (split little tracks v face d features way text k i m may).first (split little tracks v face d features way text k i m may).second k i
        parts = are_parts little tracks v face d features way text k i m may

        both_tell : PartsTell text first second i
        both_tell =
            let p = split little tracks v face d features way text k i m may in
            tell text first second k i may m p.whole p.long p.first_more p.second_more

        abbrev front : Glyphs
        front = m.front ++ m.last ∷ []

        abbrev behind : Glyphs
        behind = m.here ∷ m.back

        whole_spots : spots (drawn face d features b text).line ≡ spots front ++ spots behind
        whole_spots = ap spots m.whole ∙ map-append spot front behind

        first_plain : map plain (drawn face d features b first).line ≡ map plain front
        first_plain = drawn_plain_line face d features b first ∙ xs_is face d features b text first second k i parts

        second_plain : map plain (drawn face d features b second).line ≡ map plain behind
        second_plain = drawn_plain_line face d features b second ∙ ys_is face d features b text first second k i parts

        first_spots : spots front ≡ spots (drawn face d features b first).line
        first_spots = sym (same_spots (drawn face d features b first).line front first_plain)

        second_spots : spots behind ≡ spots (drawn face d features b second).line
        second_spots = sym (same_spots (drawn face d features b second).line behind second_plain)

        -- a glyph of a part begins where it does in the whole
        first_front : (p : ℕ) → p < i → front_of (drawn face d features b first).line p ≡ front_of (drawn face d features b text).line p
        first_front p low =
            front_plain (drawn face d features b first).line front p first_plain
            ∙ (sym (front_before front behind p (omega (arith, low, m.long))) ∙ ap (λ (gs : Glyphs). front_of gs p) (sym m.whole))

        second_front :
            (p q : ℕ) → p ≡ i + q → q ≤ length behind → 0 < kept_before behind q
            → front_of (drawn face d features b text).line p ≡ i + front_of (drawn face d features b second).line q
        second_front p q at inside some =
            ap (front_of (drawn face d features b text).line) at
            ∙ (ap (λ (gs : Glyphs). front_of gs (i + q)) m.whole
            ∙ (front_behind front behind i q m.long inside some
            ∙ ap (λ n. i + n) (sym (front_plain (drawn face d features b second).line behind q second_plain))))

        first_long : length (glyphs_of first) ≡ k
        first_long =
            let same = ap length (before_is face d features b text first second k i parts (may_break_text face d features text) (may_break_text face d features first)) in
            let taken = length-take k (glyphs_of text) in
            omega (arith, same, length-map (take k (glyphs_of text)) looks, length-map (glyphs_of first) looks, taken, low)

        second_long : k + length (glyphs_of second) ≡ length (glyphs_of text)
        second_long =
            let same = ap length (behind_is face d features b text first second k i parts (may_break_text face d features text) (may_break_text face d features second)) in
            let dropped = length-drop k (glyphs_of text) in
            omega (arith, same, length-map (drop k (glyphs_of text)) looks, length-map (glyphs_of second) looks, dropped, low)

        -- before the cut
        keeps_before : (j : ℕ) → j < k → (shaped_at (glyphs_of text) j).may_break_before ≡ true
            → (shaped_at (drawn_glyphs (may_break_text face d features first) (drawn_text v face d features first)) j).may_break_before ≡ true
        keeps_before j less says =
            let there = breaks_at (may_break_text face d features text) (drawn face d features b text) j (omega (arith, less, low)) says in
            let line : Glyphs = (drawn face d features b text).line in
            let first_line : Glyphs = (drawn face d features b first).line in
            let p : ℕ = there.place in
            let cut : ℕ = front_of line p in
            let may_cut = cuts_at little tracks v face d features text p there.may in
            let stands : StandsAt (spots line) j p = stands_of line j p there.at_place in
            let within = stands.inside in
            let in_line : p ≤ length line = omega (arith, within, length-map line spot) in
            let in_front : StandsAt (spots front) j p = stands_before (spots front) (spots behind) k j p m.count less (subst (λ (ss : List Spot). StandsAt ss j p) whole_spots stands) in
            let inside : p < i = let inner = in_front.inside in omega (arith, inner, length-map front spot, m.long) in
            let of_first : StandsAt (spots first_line) j p = subst (λ (ss : List Spot). StandsAt ss j p) first_spots in_front in
            let in_first : p ≤ length first_line = let inner = of_first.inside in omega (arith, inner, length-map first_line spot) in
            let same : front_of first_line p ≡ cut = first_front p inside in
            let kept_some = (way.says text cut may_cut).may.some in
            let some : 0 < kept_before (asked_line text) cut = some_kept (kept_before (asked_line text) cut) kept_some in
            let count = stands.count in
            let first_count = of_first.count in
            let some_drawn : 0 < j = omega (arith, some, kept_is text cut, front_stays line p in_line, count) in
            let some_first : 0 < kept_before (asked_line first) cut =
            omega (arith, kept_is first cut, ap (λ n. stays (take n (spots first_line))) (sym same), front_stays first_line p in_first, first_count, some_drawn) in
            part_says first j p of_first (omega (arith, less, first_long))
            (breaks_where little tracks v face d features first p
            (ap (may_cut_text face d features first) same
            ∙ both_tell.before cut (front_some line p in_line (omega (arith, kept_spots line p, count, some_drawn)))
            (omega (arith, front_most line p, inside)) may_cut some_first))

        -- and behind it
        keeps_behind : (j : ℕ) → 0 < j → (shaped_at (glyphs_of text) (k + j)).may_break_before ≡ true
            → (shaped_at (drawn_glyphs (may_break_text face d features second) (drawn_text v face d features second)) j).may_break_before ≡ true
        keeps_behind j some says =
            let inside = drawn_within (glyphs_of text) (k + j) says in
            let there = breaks_at (may_break_text face d features text) (drawn face d features b text) (k + j) inside says in
            let line : Glyphs = (drawn face d features b text).line in
            let second_line : Glyphs = (drawn face d features b second).line in
            let p : ℕ = there.place in
            let q : ℕ = p - i in
            let cut : ℕ = front_of line p in
            let may_cut = cuts_at little tracks v face d features text p there.may in
            let stands : StandsAt (spots line) (k + j) p = stands_of line (k + j) p there.at_place in
            let within = stands.inside in
            let past = stands_behind (spots front) (spots behind) k i j p m.count (length-map front spot ∙ m.long) some (subst (λ (ss : List Spot). StandsAt ss (k + j) p) whole_spots stands) in
            let high = past.0 in
            let stands_past = past.1 in
            let past_count = stands_past.count in
            let in_behind : q ≤ length behind = let inner = stands_past.inside in omega (arith, inner, length-map behind spot) in
            let of_second : StandsAt (spots second_line) j q = subst (λ (ss : List Spot). StandsAt ss j q) second_spots stands_past in
            let in_second : q ≤ length second_line = let inner = of_second.inside in omega (arith, inner, length-map second_line spot) in
            let second_count = of_second.count in
            let same : cut ≡ i + front_of second_line q =
            second_front p q (omega (arith, high)) in_behind (omega (arith, kept_spots behind q, past_count, some)) in
            let place : cut - i ≡ front_of second_line q = omega (arith, same) in
            let further : 0 < front_of second_line q = front_some second_line q in_second (omega (arith, kept_spots second_line q, second_count, some)) in
            let some_second : 0 < kept_before (asked_line second) (cut - i) =
            omega (arith, kept_is second (cut - i), ap (λ n. stays (take n (spots second_line))) place, front_stays second_line q in_second, second_count, some) in
            part_says second j q of_second (omega (arith, inside, second_long))
            (breaks_where little tracks v face d features second q
            (ap (may_cut_text face d features second) (sym place)
            ∙ both_tell.behind cut (omega (arith, same, further))
            (omega (arith, front_most line p, within, length-map line spot, same_length line (asked_line text) (asked_plain text)))
            may_cut some_second))

        pub kept_in_parts : BreaksInParts v face d features text (glyphs_of text) k
        kept_in_parts =
            in_order little tracks v face d features way text k i m may (λ early late. BreaksAsParts v face d features early late (glyphs_of text) k) low
            (record { before = keeps_before; behind = keeps_behind })

    -- where each part tells the breaks on its side, the parts keep the breaks of a text
    pub parts_keep :
        AllTell → (text : Text) (k : ℕ) → k < length (shaped_text v face d features text)
        → (shaped_at (shaped_text v face d features text) k).may_break_before ≡ true
        → BreaksInParts v face d features text (shaped_text v face d features text) k
    parts_keep tell text k low may =
        let same = shaped_is little tracks v face d features text in
        let inside = subst (λ (glyphs : List ShapedGlyph). k < length glyphs) same low in
        let cut = cut_at little tracks v face d features way text k inside (subst (λ (glyphs : List ShapedGlyph). (shaped_at glyphs k).may_break_before ≡ true) same may) in
        subst (λ (glyphs : List ShapedGlyph). BreaksInParts v face d features text glyphs k) (sym same)
        (kept_in_parts tell text k cut.place cut.meets cut.may inside)
