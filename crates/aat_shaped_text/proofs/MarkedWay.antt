-- Where pairs alone kern along the line, texts are told breaks by marks.
use Rattle.std.proofs.Common.{◌≡◌, ◌∙◌, sym, ap, refl, ℕ, not, Bool, true, false, cond, List, [], ◌∷◌, ◌++◌, map, length, subst}
use Rattle.std.proofs.lemmas.Bool.{and_parts}
use Rattle.std.specs.List.{list_any}
use Rattle.std.specs.Prelude.{ℤ}
use Rattle.aat_glyph.specs.Directions.{is_backward, is_horizontal}
use Rattle.aat_glyph.specs.declared.glyph.Direction.{Direction}
use Rattle.aat_glyph.specs.declared.glyph.hb_glyph_info_t.{hb_glyph_info_t}
use Rattle.aat_buffer.specs.Buffer.{glyph_at}
use Rattle.aat_font.specs.Face.{advance_of}
use Rattle.aat_font.specs.declared.face.hb_font_t.{hb_font_t}
use Rattle.aat_font.specs.declared.plan.Feature.{Feature}
use Rattle.aat_kerning.specs.Cut.{PartsAreKernedApart, ordered_line, ordered_positions}
use Rattle.aat_kerning.specs.KerningLawful.{KerningChangesLittle}
use Rattle.aat_kerning.specs.Pairs.{is_solid}
use Rattle.aat_glyph.specs.placement.TrackingLaws.{PartsAreTrackedApart}
use Rattle.aat_layout.specs.Shaping.{advanced, with_advances}
use Rattle.aat_shaped_text.specs.Breaks.{is_rising, is_unchained, is_unsafe, kerns_apart, kerns_by_pairs, later_run, skips_of, substitutes_evenly}
use Rattle.aat_shaped_text.specs.ShapedText.{closed_text, is_open_by_kerning, is_open_by_marks, kerned_closed, may_break_line, may_cut_text, tells_breaks}
use Rattle.aat_shaped_text.proofs.ApartParts.{positions_apart}
use Rattle.aat_shaped_text.proofs.BreakPlaces.{MayBreak, MeetsAt, cut_place, may_break_is}
use Rattle.aat_shaped_text.proofs.KernedApart.{Plain, plain_reverse}
use Rattle.aat_shaped_text.proofs.KernedText.{text_changes_little}
use Rattle.aat_shaped_text.proofs.KernsApart.{pairs_apart}
use Rattle.aat_shaped_text.proofs.LineRuns.{text_plain}
use Rattle.aat_shaped_text.proofs.Looks.{Positions}
use Rattle.aat_shaped_text.proofs.PartsHold.{Says, Way, all_three, both_true, three, x}
use Rattle.aat_shaped_text.proofs.SpotsRuns.{Glyphs}
use Rattle.aat_shaped_text.proofs.TextCut.{Text}
use Rattle.aat_shaped_text.proofs.TextLooks.{Behind, advanced_text, direction_is, drawn, drawn_line, kerned, kerned_direction, ordered_places_are, places}
use Rattle.aat_shaped_text.proofs.Texts.{ordered_line_is, plain_unchained, turned}

advance_plain : (h : Bool) (f : hb_glyph_info_t → ℕ) (gs : Glyphs) → Plain (map (λ g. advanced h (f g)) gs)
advance_plain h f [] = tt
advance_plain true f (g ∷ gs) = (refl, advance_plain true f gs)
advance_plain false f (g ∷ gs) = (refl, advance_plain false f gs)

plain_turned : (t : Bool) (qs : Positions) → Plain qs → Plain (turned t qs)
plain_turned true qs all = plain_reverse qs all
plain_turned false qs all = all

module _ (little : KerningChangesLittle) (tracks : PartsAreTrackedApart) (apart : PartsAreKernedApart)
    (v : ℤ) (face : hb_font_t) (d : Direction) (features : List Feature) (pairs : kerns_by_pairs face d ≡ true)
  where
    abbrev pub b : Behind face d features
    b = x little tracks v face d features

    pub along : kerns_apart face d ≡ true
    along = pairs_apart face d pairs

    -- the line behind kerning
    abbrev pub marked_line : Text → Glyphs
    marked_line text = ordered_line (kerned_closed face d features text)

    -- what is said of a place that is told so
    pub record SaysByMarks (text : Text) (i : ℕ) : Type 0 where
      pub rising : is_rising text ≡ true
      pub tells : tells_breaks face d features text ≡ true
      pub solid : is_solid (skips_of face) (glyph_at (marked_line text) i) ≡ true
      pub may : may_break_line face d features (marked_line text) i ≡ true

    pub says_by_marks : (text : Text) (i : ℕ) → may_cut_text face d features text i ≡ true → SaysByMarks text i
    says_by_marks text i may =
        let marks = is_open_by_marks face d features text i in
        let runs = is_open_by_kerning face d features text i in
        let all = three (is_rising text) (tells_breaks face d features text) (cond (kerns_by_pairs face d) marks runs) may in
        let both =
        and_parts (is_solid (skips_of face) (glyph_at (marked_line text) i)) (may_break_line face d features (marked_line text) i)
        (sym (ap (λ t. cond t marks runs) pairs) ∙ all.2) in
        record { rising = all.0; tells = all.1; solid = both.0; may = both.1 }

    pub may_by_marks : (text : Text) (i : ℕ) → SaysByMarks text i → may_cut_text face d features text i ≡ true
    may_by_marks text i says =
        let marks = is_open_by_marks face d features text i in
        let runs = is_open_by_kerning face d features text i in
        all_three (is_rising text) (tells_breaks face d features text) (cond (kerns_by_pairs face d) marks runs) says.rising says.tells
        (ap (λ t. cond t marks runs) pairs
        ∙ both_true (is_solid (skips_of face) (glyph_at (marked_line text) i)) (may_break_line face d features (marked_line text) i) says.solid says.may)

    pub marked_is : (text : Text) → marked_line text ≡ turned (is_backward d) (kerned face d features b text).line
    marked_is text = ordered_line_is (kerned face d features b text) (is_backward d) (ap is_backward (kerned_direction face d features b text))

    marks_open : (text : Text) (i : ℕ) → may_cut_text face d features text i ≡ true
        → MayBreak (substitutes_evenly face d features) features (marked_line text) i
    marks_open text i may = may_break_is (substitutes_evenly face d features) features (marked_line text) i (says_by_marks text i may).may

    pub says_apart : (text : Text) (i : ℕ) → may_cut_text face d features text i ≡ true → Says face d features text (marked_line text) i
    says_apart text i may = let says = says_by_marks text i may in record { rising = says.rising; tells = says.tells; may = marks_open text i may }

    pub splits_apart :
        (text first second : Text) (k i : ℕ) → may_cut_text face d features text i ≡ true
        → MeetsAt (drawn face d features b text).line k i
        → turned (is_backward d) (b.substituted text).line
        ≡ turned (is_backward d) (b.substituted first).line ++ turned (is_backward d) (b.substituted second).line
        → length (b.substituted first).line ≡ i
        → ordered_positions (kerned face d features b text)
        ≡ ordered_positions (kerned face d features b first) ++ ordered_positions (kerned face d features b second)
    splits_apart text first second k i may m whole long =
        let same : (drawn face d features b text).line ≡ marked_line text = drawn_line face d features b text in
        positions_apart face d features b apart along text first second i whole long
        (cut_place (skips_of face) k i (drawn face d features b text).line (kerned face d features b text) same m
        (subst (λ (zs : Glyphs). is_solid (skips_of face) (glyph_at zs i) ≡ true) (sym same) (says_by_marks text i may).solid)
        (subst (λ (zs : Glyphs). not (list_any is_unsafe (later_run zs i)) ≡ true) (sym same) (marks_open text i may).safe))

    -- nothing is attached
    places_plain : (text : Text) → Plain (places face d features b text)
    places_plain text =
        (text_plain face d features along (advanced_text face d features b text) (direction_is face d features b text)).plain
        (advance_plain (is_horizontal (b.substituted text).direction) (λ g. advance_of face g.glyph_id) (b.substituted text).line)

    pub unchained_apart : (text : Text) (i : ℕ) → is_unchained d (ordered_positions (kerned face d features b text)) i ≡ true
    unchained_apart text i =
        ap (λ (qs : Positions). is_unchained d qs i) (ordered_places_are face d features b text)
        ∙ plain_unchained d (turned (is_backward d) (places face d features b text)) i
        (plain_turned (is_backward d) (places face d features b text) (places_plain text))

    abbrev pub way_apart : Way little tracks v face d features
    way_apart = record {
      line = λ text. (kerned face d features b text).line;
      marked = λ text. (text_changes_little face features (with_advances (advance_of face) (closed_text face d features text).buffer) little).line;
      says = λ text i may. subst (λ (zs : Glyphs). Says face d features text zs i) (marked_is text) (says_apart text i may);
      splits = λ text first second k i may m whole long first_more second_more. splits_apart text first second k i may m whole long;
      unchained = λ text i may. unchained_apart text i;
    }
