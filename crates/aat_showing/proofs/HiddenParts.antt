-- Where what is drawn of a text may be broken, its marks without width and its ignorable glyphs hidden.
use Rattle.std.proofs.Common.{◌≡◌, ◌∙◌, sym, ap, ap₂, refl, subst, ℕ, zero, suc, ◌+◌, ◌-◌, ◌<◌, ◌&&◌, Bool, true, false, not, cond, List, [], ◌∷◌, ◌++◌, Option, Some, None, drop, filter, get_or, length, map, max, take, arith, true≢false}
use Rattle.std.specs.Bool.{MatchBool}
use Rattle.std.specs.List.{range_with_len}
use Rattle.std.proofs.lemmas.List.{drop-map, get_or-append-add, get_or-drop, get_or-map, get_or-take, length-append, length-drop, length-map, length-take-le, take-map}
use Rattle.std.specs.Prelude.{pos}
use Rattle.aat_glyph.specs.Directions.{is_backward, is_vertical}
use Rattle.aat_glyph.specs.declared.glyph.Direction.{Direction}
use Rattle.aat_lookup.specs.declared.glyph_id.GlyphId.{GlyphId}
use Rattle.aat_shaped_text.specs.Parts.{IsDrawnInParts, LooksAsParts, TextsAreDrawnInParts, cut_before, looks, no_shaped_glyph, shaped_at, text_before, text_from}
use Rattle.aat_shaped_text.specs.ShapedText.{shaped_text}
use Rattle.aat_shaped_text.specs.declared.text.ShapedGlyph.{ShapedGlyph}
use Rattle.aat_shaped_text.specs.declared.text.TextGlyph.{TextGlyph}
use Rattle.aat_showing.specs.Columns.{ColumnMetrics, in_column, in_columns}
use Rattle.aat_showing.specs.HiddenParts.{BreaksHoldAsShown, Hiding, ShowsAsParts, Showing, asked, hide_ignorables, shown, shown_text}
use Rattle.aat_showing.specs.Ignorables.{drawn_without_ignorables, kept_glyph, kept_glyphs, places_kept, space_for, stays}
use Rattle.aat_showing.specs.MarkBoxes.{place_marks, placed_marks}
use Rattle.aat_showing.specs.Marks.{zero_marks, zeroed_mark}
use Rattle.aat_showing.specs.Spaces.{SpaceMetrics, widen_spaces, widened}
use Rattle.aat_shaped_text.proofs.Looks.{looks_of_places}
use Rattle.aat_showing.proofs.HiddenGlyphs.{passed_more}
use Rattle.aat_showing.proofs.PlacedMarks.{placed_keep}
use Rattle.aat_showing.proofs.Shown.{Drawn, IsByGlyph, KeepsBreaks, ShownAt, as_they_are, by_column, by_mark, by_width, glyph_by_glyph, one_by_one}

-- the places from a on, of n, that pass a test
abbrev passed : (ℕ → Bool) → ℕ → ℕ → List ℕ
passed p a n = filter p (range_with_len a n)

-- the place that passes behind k others, and the places before it and from it on
record PassedAt (p : ℕ → Bool) (a n k : ℕ) : Type 0 where
  at : ℕ
  left : ℕ
  whole : at + left ≡ n
  low : at < n
  is : get_or (passed p a n) k 0 ≡ a + at
  front : take k (passed p a n) ≡ passed p a at
  back : drop k (passed p a n) ≡ passed p (a + at) left

passed_at : (p : ℕ → Bool) (a n k : ℕ) → k < length (passed p a n) → PassedAt p a n k
passed_at p a zero k low = absurd (omega (arith, low))
passed_at p a (suc n) k low = by (p a) refl k low (λ j lower. passed_at p (a + 1) n j lower)
  where
    rest : List ℕ
    rest = passed p (a + 1) n

    by :
        (t : Bool) → p a ≡ t → (k : ℕ) → k < length (passed p a (suc n)) → ((j : ℕ) → j < length rest → PassedAt p (a + 1) n j)
        → PassedAt p a (suc n) k
    by false fails k low below =
        let whole : passed p a (suc n) ≡ rest = ap (λ (t : Bool). cond t (a ∷ rest) rest) fails in
        let x = below k (omega (arith, low, ap length whole)) in
        let next : (a + 1) + x.at ≡ a + suc x.at = omega arith in
        record {
          at = suc x.at;
          left = x.left;
          whole = omega (arith, x.whole);
          low = omega (arith, x.low);
          is = ap (λ (is : List ℕ). get_or is k 0) whole ∙ (x.is ∙ next);
          front = ap (take k) whole ∙ (x.front ∙ sym (ap (λ (t : Bool). cond t (a ∷ passed p (a + 1) x.at) (passed p (a + 1) x.at)) fails));
          back = ap (drop k) whole ∙ (x.back ∙ ap (λ (i : ℕ). passed p i x.left) next);
        }
    by true passes zero low below =
        let whole : passed p a (suc n) ≡ a ∷ rest = ap (λ (t : Bool). cond t (a ∷ rest) rest) passes in
        let here : a ≡ a + 0 = omega arith in
        record {
          at = 0;
          left = suc n;
          whole = omega arith;
          low = omega arith;
          is = ap (λ (is : List ℕ). get_or is 0 0) whole ∙ here;
          front = refl;
          back = ap (λ (i : ℕ). passed p i (suc n)) here;
        }
    by true passes (suc k) low below =
        let whole : passed p a (suc n) ≡ a ∷ rest = ap (λ (t : Bool). cond t (a ∷ rest) rest) passes in
        let x = below k (omega (arith, low, ap length whole)) in
        let next : (a + 1) + x.at ≡ a + suc x.at = omega arith in
        record {
          at = suc x.at;
          left = x.left;
          whole = omega (arith, x.whole);
          low = omega (arith, x.low);
          is = ap (λ (is : List ℕ). get_or is (suc k) 0) whole ∙ (x.is ∙ next);
          front =
              ap (take (suc k)) whole
              ∙ (ap (λ (is : List ℕ). a ∷ is) x.front
              ∙ sym (ap (λ (t : Bool). cond t (a ∷ passed p (a + 1) x.at) (passed p (a + 1) x.at)) passes));
          back = ap (drop (suc k)) whole ∙ (x.back ∙ ap (λ (i : ℕ). passed p i x.left) next);
        }

-- where the place right before it passes too, that is the one before
passed_before :
    (p : ℕ → Bool) (is : List ℕ) (k i h j : ℕ) → k < length is → take k is ≡ passed p 0 i → get_or is k 0 ≡ i
    → h ≡ k - 1 → j ≡ i - 1 → p j ≡ true → get_or is h 0 ≡ j
passed_before p is zero zero h j low front at first before passes =
    let none : h ≡ 0 = omega (arith, first) in
    let start : 0 ≡ j = omega (arith, before) in
    ap (λ (m : ℕ). get_or is m 0) none ∙ (at ∙ start)
passed_before p is zero (suc i) h j low front at first before passes =
    let stands : j ≡ i = omega (arith, before) in
    let more : passed p 0 (i + 1) ≡ passed p 0 i ++ i ∷ [] =
    passed_more p i ∙ ap (λ (t : Bool). passed p 0 i ++ cond t (i ∷ []) []) (ap p (sym stands) ∙ passes) in
    let same : suc i ≡ i + 1 = omega arith in
    let none : 0 ≡ length (passed p 0 i ++ i ∷ []) = ap length (front ∙ (ap (passed p 0) same ∙ more)) in
    absurd (omega (arith, none, length-append (passed p 0 i) (i ∷ [])))
passed_before p is (suc k) zero h j low front at first before passes =
    let none : length (take (suc k) is) ≡ 0 = ap length front in
    absurd (omega (arith, none, length-take-le (suc k) is (omega (arith, low))))
passed_before p is (suc k) (suc i) h j low front at first before passes =
    let stands : j ≡ i = omega (arith, before) in
    let place : h ≡ k = omega (arith, first) in
    let more : passed p 0 (i + 1) ≡ passed p 0 i ++ i ∷ [] =
    passed_more p i ∙ ap (λ (t : Bool). passed p 0 i ++ cond t (i ∷ []) []) (ap p (sym stands) ∙ passes) in
    let same : suc i ≡ i + 1 = omega arith in
    let begun : take (suc k) is ≡ passed p 0 i ++ i ∷ [] = front ∙ (ap (passed p 0) same ∙ more) in
    let long : length (take (suc k) is) ≡ length (passed p 0 i ++ i ∷ []) = ap length begun in
    let last : h ≡ length (passed p 0 i) + 0 =
    omega (arith, place, long, length-take-le (suc k) is (omega (arith, low)), length-append (passed p 0 i) (i ∷ [])) in
    sym (get_or-take (suc k) is h 0 (omega (arith, place)))
    ∙ (ap (λ (js : List ℕ). get_or js h 0) begun
    ∙ (ap (λ (m : ℕ). get_or (passed p 0 i ++ i ∷ []) m 0) last
    ∙ (get_or-append-add (passed p 0 i) (i ∷ []) 0 0 ∙ sym stands)))

-- how those of some places look
looks_from :
    (glyphs : Drawn) (a : ℕ) (xs : Drawn) → ((j : ℕ) → j < length xs → shaped_at glyphs (a + j) ≡ shaped_at xs j)
    → map (λ i. looks (shaped_at glyphs i)) (passed (λ i. stays (shaped_at glyphs i)) a (length xs)) ≡ filter stays (map looks xs)
looks_from glyphs a [] same = refl
looks_from glyphs a (x ∷ xs) same =
    let here : a + 0 ≡ a = omega arith in
    let first : shaped_at glyphs a ≡ x = sym (ap (shaped_at glyphs) here) ∙ same 0 (omega arith) in
    by x.is_ignorable (ap (λ (g : ShapedGlyph). g.is_ignorable) first) (ap looks first)
    (looks_from glyphs (a + 1) xs
    (λ j low. let next : (a + 1) + j ≡ a + suc j = omega arith in ap (shaped_at glyphs) next ∙ same (suc j) (omega (arith, low))))
  where
    look_at : ℕ → ShapedGlyph
    look_at i = looks (shaped_at glyphs i)

    rest : List ℕ
    rest = passed (λ i. stays (shaped_at glyphs i)) (a + 1) (length xs)

    whole :
        {t : Bool} → (shaped_at glyphs a).is_ignorable ≡ t
        → map look_at (cond (not (shaped_at glyphs a).is_ignorable) (a ∷ rest) rest) ≡ map look_at (cond (not t) (a ∷ rest) rest)
    whole is = ap (λ (u : Bool). map look_at (cond (not u) (a ∷ rest) rest)) is

    by :
        (t : Bool) → (shaped_at glyphs a).is_ignorable ≡ t → looks (shaped_at glyphs a) ≡ looks x
        → map look_at rest ≡ filter stays (map looks xs)
        → map look_at (cond (not (shaped_at glyphs a).is_ignorable) (a ∷ rest) rest)
        ≡ cond (not t) (looks x ∷ filter stays (map looks xs)) (filter stays (map looks xs))
    by true is look below = whole is ∙ below
    by false is look below = whole is ∙ ap₂ (λ (h : ShapedGlyph) (hs : Drawn). h ∷ hs) look below

-- a space in place of an ignorable glyph
abbrev narrow : GlyphId → ShapedGlyph → ShapedGlyph
narrow space g = record g { glyph_id = space.0; x_advance = pos 0; y_advance = pos 0 }

abbrev on : Bool → ShapedGlyph → ShapedGlyph
on v g = cond v (record g { y_offset = pos 0 }) (record g { x_offset = pos 0 })

by_space : (d : Direction) (space : GlyphId) → IsByGlyph (space_for d space)
by_space d space = record {
  look = λ g. look g g.is_ignorable (is_vertical d);
  cluster = λ g. cluster g g.is_ignorable (is_vertical d);
  break = λ g. break g g.is_ignorable (is_vertical d);
}
  where
    look : (g : ShapedGlyph) (t v : Bool) → looks (cond t (on v (narrow space g)) g) ≡ cond t (on v (narrow space (looks g))) (looks g)
    look g true true = refl
    look g true false = refl
    look g false v = refl

    cluster : (g : ShapedGlyph) (t v : Bool) → (cond t (on v (narrow space g)) g).cluster ≡ g.cluster
    cluster g true true = refl
    cluster g true false = refl
    cluster g false v = refl

    break : (g : ShapedGlyph) (t v : Bool) → (cond t (on v (narrow space g)) g).may_break_before ≡ g.may_break_before
    break g true true = refl
    break g true false = refl
    break g false v = refl

both : (t u : Bool) → (t && u) ≡ true → (t ≡ true) × (u ≡ true)
both true u e = (refl, e)
both false u e = absurd (true≢false (sym e))

-- where they are taken out
module _ (glyphs : Drawn) where
  abbrev stays_at : ℕ → Bool
  stays_at i = stays (shaped_at glyphs i)

  abbrev look_at : ℕ → ShapedGlyph
  look_at i = looks (shaped_at glyphs i)

  kept_at : (k : ℕ) → k < length (places_kept glyphs) → shaped_at (kept_glyphs glyphs) k ≡ kept_glyph glyphs (get_or (places_kept glyphs) k 0)
  kept_at k low = get_or-map (kept_glyph glyphs) (places_kept glyphs) k 0 no_shaped_glyph low

  shown_kept :
      (k : ℕ) → k < length (kept_glyphs glyphs) → (shaped_at (kept_glyphs glyphs) k).may_break_before ≡ true
      → ShownAt (filter stays) glyphs (kept_glyphs glyphs) k
  shown_kept k low may =
      let is = places_kept glyphs in
      let inside : k < length is = omega (arith, low, length-map is (kept_glyph glyphs)) in
      let x = passed_at stays_at 0 (length glyphs) k inside in
      let zero_more : 0 + x.at ≡ x.at = omega arith in
      let place : get_or is k 0 ≡ x.at = x.is ∙ zero_more in
      let here : shaped_at (kept_glyphs glyphs) k ≡ kept_glyph glyphs x.at = kept_at k inside ∙ ap (kept_glyph glyphs) place in
      let says = both (shaped_at glyphs x.at).may_break_before (stays_at (x.at - 1)) (sym (ap (λ (g : ShapedGlyph). g.may_break_before) here) ∙ may) in
      let before : get_or is (k - 1) 0 ≡ x.at - 1 =
      passed_before stays_at is k x.at (k - 1) (x.at - 1) inside x.front place refl refl says.1 in
      let there : shaped_at (kept_glyphs glyphs) (k - 1) ≡ kept_glyph glyphs (x.at - 1) =
      kept_at (k - 1) (omega (arith, inside)) ∙ ap (kept_glyph glyphs) before in
      let long_front : length (take x.at glyphs) ≡ x.at = length-take-le x.at glyphs (omega (arith, x.low)) in
      let long_back : length (drop x.at glyphs) ≡ x.left = omega (arith, length-drop x.at glyphs, x.whole) in
      record {
        at = x.at;
        low = x.low;
        breaks = says.0;
        cut = ap₂ max (ap (λ (g : ShapedGlyph). g.cluster) there) (ap (λ (g : ShapedGlyph). g.cluster) here);
        front =
            ap (map looks) (take-map (kept_glyph glyphs) k is)
            ∙ (looks_of_places (kept_glyph glyphs) (take k is)
            ∙ (ap (map look_at) (x.front ∙ ap (passed stays_at 0) (sym long_front))
            ∙ looks_from glyphs 0 (take x.at glyphs)
            (λ j less. let same : 0 + j ≡ j = omega arith in
            ap (shaped_at glyphs) same ∙ sym (get_or-take x.at glyphs j no_shaped_glyph (omega (arith, less, long_front))))));
        back =
            ap (map looks) (drop-map (kept_glyph glyphs) k is)
            ∙ (looks_of_places (kept_glyph glyphs) (drop k is)
            ∙ (ap (map look_at) (x.back ∙ (ap (λ (i : ℕ). passed stays_at i x.left) zero_more ∙ ap (passed stays_at x.at) (sym long_back)))
            ∙ looks_from glyphs x.at (drop x.at glyphs) (λ j less. sym (get_or-drop x.at glyphs j no_shaped_glyph))));
      }

looks_kept : (glyphs : Drawn) → map looks (kept_glyphs glyphs) ≡ filter stays (map looks glyphs)
looks_kept glyphs =
    looks_of_places (kept_glyph glyphs) (places_kept glyphs)
    ∙ looks_from glyphs 0 glyphs (λ j low. let same : 0 + j ≡ j = omega arith in ap (shaped_at glyphs) same)

-- How showing changes looks.
abbrev seen_change : Direction → Option GlyphId → Drawn → Drawn
seen_change d (Some space) glyphs = map (space_for d space) glyphs
seen_change d None glyphs = filter stays glyphs

abbrev hidden_change : Hiding → Drawn → Drawn
hidden_change h = seen_change h.direction h.space

abbrev change : Showing → Drawn → Drawn
change s glyphs =
    asked hidden_change s.ignorables
    (asked placed_marks s.boxes (asked zero_marks s.marks (asked widen_spaces s.spaces (asked in_columns s.columns glyphs))))

asked_keep :
    {X : Type 0} (show change : X → Drawn → Drawn) → ((x : X) → KeepsBreaks (show x) (change x)) → (o : Option X)
    → KeepsBreaks (asked show o) (asked change o)
asked_keep show change keep None = as_they_are
asked_keep show change keep (Some x) = keep x

seen_keep : (d : Direction) (o : Option GlyphId) → KeepsBreaks (drawn_without_ignorables d o) (seen_change d o)
seen_keep d (Some space) = glyph_by_glyph (space_for d space) (by_space d space)
seen_keep d None = record { looked = looks_kept; shown_at = shown_kept }

hidden_keep : (h : Hiding) → KeepsBreaks (hide_ignorables h) (hidden_change h)
hidden_keep h = seen_keep h.direction h.space

columns_keep : (m : ColumnMetrics) → KeepsBreaks (in_columns m) (in_columns m)
columns_keep m = glyph_by_glyph (in_column m) (by_column m)

spaces_keep : (m : SpaceMetrics) → KeepsBreaks (widen_spaces m) (widen_spaces m)
spaces_keep m = glyph_by_glyph (λ g. widened m g.kind g) (by_width m)

marks_keep : (moves : Bool) → KeepsBreaks (zero_marks moves) (zero_marks moves)
marks_keep moves = glyph_by_glyph (zeroed_mark moves) (by_mark moves)

-- one way to show glyphs behind another one that is asked
then_asked :
    {X : Type 0} (before after : Drawn → Drawn) (show change : X → Drawn → Drawn) → KeepsBreaks before after
    → ((x : X) → KeepsBreaks (show x) (change x)) → (o : Option X)
    → KeepsBreaks (λ glyphs. asked show o (before glyphs)) (λ glyphs. asked change o (after glyphs))
then_asked before after show change first keep o =
    one_by_one before after (asked show o) (asked change o) first (asked_keep show change keep o)

showing_keeps : (s : Showing) → KeepsBreaks (shown s) (change s)
showing_keeps s =
    then_asked _ _ hide_ignorables hidden_change
    (then_asked _ _ place_marks placed_marks
    (then_asked _ _ zero_marks zero_marks
    (then_asked _ _ widen_spaces widen_spaces (asked_keep in_columns in_columns columns_keep s.columns) spaces_keep s.spaces)
    marks_keep s.marks)
    placed_keep s.boxes)
    hidden_keep s.ignorables

match_map : {A B C D : Type 0} (t : Bool) → (A → C) → (B → D) → MatchBool t A B → MatchBool t C D
match_map true f g m = f m
match_map false f g m = g m

-- what is shown of a text may be broken before each glyph that says so
pub breaks_hold : TextsAreDrawnInParts → BreaksHoldAsShown
breaks_hold holds s v face d features text short k low may =
    let glyphs = shaped_text v face d features text in
    let seen = shown_text s v face d features text in
    let keeps = showing_keeps s in
    let x = keeps.shown_at glyphs k low may in
    let parts : IsDrawnInParts v face d features text glyphs x.at = holds v face d features text short x.at x.low x.breaks in
    let part : (first second : List TextGlyph) → LooksAsParts v face d features first second glyphs x.at
    → ShowsAsParts s v face d features first second seen k =
    λ first second as_parts. record {
      before = x.front ∙ (ap (change s) as_parts.before ∙ sym (keeps.looked (shaped_text v face d features first)));
      behind = x.back ∙ (ap (change s) as_parts.behind ∙ sym (keeps.looked (shaped_text v face d features second)));
    } in
    subst
    (λ (c : ℕ). MatchBool (is_backward d) (ShowsAsParts s v face d features (text_from c text) (text_before c text) seen k)
    (ShowsAsParts s v face d features (text_before c text) (text_from c text) seen k))
    (sym x.cut)
    (match_map (is_backward d)
    (part (text_from (cut_before glyphs x.at) text) (text_before (cut_before glyphs x.at) text))
    (part (text_before (cut_before glyphs x.at) text) (text_from (cut_before glyphs x.at) text)) parts)
