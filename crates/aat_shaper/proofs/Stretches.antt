-- A stretch of what is drawn of a text, between two places where it parts as the text does, looks as the text between
-- them does by itself.
use Rattle.std.proofs.Common.{◌≡◌, ◌∙◌, ap, refl, sym, subst, ℕ, ℤ, ◌-◌, ◌<◌, ◌≤◌, max, Bool, true, false, cond, not, List, [], ◌∷◌, ◌++◌, arith, append-nil, drop, take, get_or, length, map, inl, inr, ◌⊎◌}
use Rattle.std.proofs.lemmas.Bool.{MatchBool-at_false, MatchBool-at_true, lt-ltb, le-ltb}
use Rattle.std.proofs.lemmas.List.{drop-drop, drop-map, drop-take, get_or-take, length-drop, length-map, length-take, take-append-drop, take-take, take_all}
use Rattle.std.proofs.lemmas.List.Elements.{All-drop, All-head, All-tail, All-take, filter-append}
use Rattle.std.proofs.Math.ListN.{get_or-map}
use Rattle.std.specs.Prelude.{All, filter, nat_lt, slice_range}
use Rattle.aat_font.specs.declared.face.hb_font_t.{hb_font_t}
use Rattle.aat_font.specs.declared.plan.Feature.{Feature}
use Rattle.aat_glyph.specs.Directions.{is_backward}
use Rattle.aat_glyph.specs.declared.glyph.Direction.{Direction}
use Rattle.aat_shaped_text.specs.Parts.{BreaksAsParts, LooksAsParts, PartsKeepBreaks, TextsAreDrawnInParts, cut_before, looks, no_shaped_glyph, shaped_at, text_before, text_from}
use Rattle.aat_run.specs.declared.error.AatError.{AatError}
use Rattle.aat_shaped_text.specs.ShapedText.{RefusesText, most_text, shaped_text}
use Rattle.aat_shaper.specs.Lines.{RefusesLines}
use Rattle.aat_shaped_text.specs.declared.text.ShapedGlyph.{ShapedGlyph}
use Rattle.aat_shaped_text.specs.declared.text.TextGlyph.{TextGlyph}
use Rattle.aat_shaper.specs.inside.Filling.{IsCut, IsOpen, IsParted}

-- a filter keeps all where each passes, and nothing where none does
filter_all : {X : Type 0} (p : X → Bool) (xs : List X) → All (λ x. p x ≡ true) xs → filter p xs ≡ xs
filter_all p [] all = refl
filter_all p (x ∷ xs) all =
    let here = All-head (λ y. p y ≡ true) x xs all in
    rw here (ap (λ ys. x ∷ ys) (filter_all p xs (All-tail (λ y. p y ≡ true) x xs all)))

filter_none : {X : Type 0} (p : X → Bool) (xs : List X) → All (λ x. p x ≡ false) xs → filter p xs ≡ []
filter_none p [] all = refl
filter_none p (x ∷ xs) all =
    let here = All-head (λ y. p y ≡ false) x xs all in
    rw here (filter_none p xs (All-tail (λ y. p y ≡ false) x xs all))

module _ (c i : ℕ) (text : List TextGlyph) (parted : IsParted c i text) where
  -- the text before the cluster is that before the place, and the text from it on that from the place on
  pub before_place : text_before c text ≡ take i text
  before_place =
      let p : TextGlyph → Bool = λ g. nat_lt g.cluster c in
      let both : filter p text ≡ filter p (take i text) ++ filter p (drop i text) =
      ap (filter p) (sym (take-append-drop i text)) ∙ filter-append p (take i text) (drop i text)
      in
      let left : filter p (take i text) ≡ take i text =
      filter_all p (take i text) (λ k d low. lt-ltb (get_or (take i text) k d).cluster c (parted.below k d low))
      in
      let right : filter p (drop i text) ≡ [] =
      filter_none p (drop i text) (λ k d low. le-ltb (get_or (drop i text) k d).cluster c (parted.above k d low))
      in
      both ∙ (ap (λ ys. filter p (take i text) ++ ys) right ∙ (append-nil (filter p (take i text)) ∙ left))

  pub from_place : text_from c text ≡ drop i text
  from_place =
      let p : TextGlyph → Bool = λ g. not (nat_lt g.cluster c) in
      let both : filter p text ≡ filter p (take i text) ++ filter p (drop i text) =
      ap (filter p) (sym (take-append-drop i text)) ∙ filter-append p (take i text) (drop i text)
      in
      let left : filter p (take i text) ≡ [] =
      filter_none p (take i text)
      (λ k d low. ap not (lt-ltb (get_or (take i text) k d).cluster c (parted.below k d low)))
      in
      let right : filter p (drop i text) ≡ drop i text =
      filter_all p (drop i text)
      (λ k d low. ap not (le-ltb (get_or (drop i text) k d).cluster c (parted.above k d low)))
      in
      both ∙ (ap (λ ys. ys ++ filter p (drop i text)) left ∙ right)

  -- so it is in a part of the text with the place
  pub parted_before : (j : ℕ) → i ≤ j → IsParted c i (take j text)
  parted_before j le = record {
    below = rw (take-take i j text le) parted.below;
    above =
        let same : drop i (take j text) ≡ take (j - i) (drop i text) =
        ap (λ n. drop i (take n text)) (omega arith) ∙ drop-take i (j - i) text
        in
        rw same (All-take (λ g. c ≤ g.cluster) (j - i) (drop i text) parted.above);
  }

  pub parted_behind : (j : ℕ) → j ≤ i → IsParted c (i - j) (drop j text)
  parted_behind j le = record {
    below =
        let same : take (i - j) (drop j text) ≡ drop j (take i text) =
        sym (drop-take j (i - j) text) ∙ ap (λ n. drop j (take n text)) (omega arith)
        in
        rw same (All-drop (λ g. g.cluster < c) j (take i text) parted.below);
    above =
        let same : drop (i - j) (drop j text) ≡ drop i text =
        drop-drop (i - j) j text ∙ ap (λ n. drop n text) (omega arith)
        in
        rw same parted.above;
  }

-- what looks alike has the same clusters
same_cluster :
    (xs ys : List ShapedGlyph) (k : ℕ) → map looks xs ≡ map looks ys → (shaped_at xs k).cluster ≡ (shaped_at ys k).cluster
same_cluster xs ys k same =
    sym (ap (λ (g : ShapedGlyph). g.cluster) (get_or-map looks xs k no_shaped_glyph))
    ∙ (ap (λ (gs : List ShapedGlyph). (get_or gs k no_shaped_glyph).cluster) same
    ∙ ap (λ (g : ShapedGlyph). g.cluster) (get_or-map looks ys k no_shaped_glyph))

same_length : (xs ys : List ShapedGlyph) → map looks xs ≡ map looks ys → length xs ≡ length ys
same_length xs ys same = sym (length-map xs looks) ∙ (ap length same ∙ length-map ys looks)

-- the cut before a place of the front of what is drawn
same_cut :
    (glyphs front : List ShapedGlyph) (k end : ℕ) → k < end → map looks (take end glyphs) ≡ map looks front
    → cut_before front k ≡ cut_before glyphs k
same_cut glyphs front k end low same =
    let at = λ (j : ℕ) (l : j < end).
    sym (same_cluster (take end glyphs) front j same)
    ∙ ap (λ (g : ShapedGlyph). g.cluster) (get_or-take end glyphs j no_shaped_glyph l)
    in
    let here = at k low in
    let before = at (k - 1) (omega arith) in
    ap (λ (m : ℕ). max m (shaped_at front k).cluster) before ∙ ap (λ (m : ℕ). max (shaped_at glyphs (k - 1)).cluster m) here

-- What is drawn looks before place k as one text does that is drawn by itself, and may be broken where that may; and
-- from there on as another one.
pub record Parts
    (draw : List TextGlyph → List ShapedGlyph) (first second : List TextGlyph) (glyphs : List ShapedGlyph) (k : ℕ)
    : Type 0
  where
    pub before : map looks (take k glyphs) ≡ map looks (draw first)
    pub behind : map looks (drop k glyphs) ≡ map looks (draw second)
    pub kept :
        (j : ℕ) → j < k → (shaped_at glyphs j).may_break_before ≡ true
        → (shaped_at (draw first) j).may_break_before ≡ true

-- what is drawn of a text of at most n glyphs is so where it may be broken
abbrev pub ArePartedAtBreaks : Bool → ℕ → (List TextGlyph → List ShapedGlyph) → Type 0
ArePartedAtBreaks backward n draw =
    (text : List TextGlyph) (k : ℕ) → length text ≤ n → k < length (draw text)
    → (shaped_at (draw text) k).may_break_before ≡ true →
    let c = cut_before (draw text) k in
    Parts draw (cond backward (text_from c text) (text_before c text))
    (cond backward (text_before c text) (text_from c text)) (draw text) k

-- a place of the front of what is drawn, where it may be broken
open_in_front :
    (draw : List TextGlyph → List ShapedGlyph) (text first second part : List TextGlyph) (glyphs : List ShapedGlyph)
    (k end i j : ℕ) → Parts draw first second glyphs end → IsOpen text glyphs k i → k < end → end ≤ length glyphs
    → first ≡ part → IsParted (cut_before glyphs k) j part → IsOpen part (draw part) k j
open_in_front draw text first second part glyphs k end i j parts is_open low within same parted =
    let front : map looks (take end glyphs) ≡ map looks (draw part) =
    parts.before ∙ ap (λ (t : List TextGlyph). map looks (draw t)) same
    in
    record {
      behind = is_open.behind;
      within =
          let long = same_length (take end glyphs) (draw part) front in
          omega (arith, low, within, long, length-take end glyphs);
      breaks =
          subst (λ (t : List TextGlyph). (shaped_at (draw t) k).may_break_before ≡ true) same
          (parts.kept k low is_open.breaks);
      parted = subst (λ (c : ℕ). IsParted c j part) (sym (same_cut glyphs (draw part) k end low front)) parted;
    }

-- what is drawn of the front, from a place on
rest_of_front :
    (glyphs front : List ShapedGlyph) (low high : ℕ) → low ≤ high → map looks (take high glyphs) ≡ map looks front
    → map looks (slice_range glyphs low high) ≡ map looks (drop low front)
rest_of_front glyphs front low high le same =
    let range : slice_range glyphs low high ≡ drop low (take high glyphs) =
    sym (ap (λ (n : ℕ). drop low (take n glyphs)) (omega arith) ∙ drop-take low (high - low) glyphs)
    in
    ap (map looks) range
    ∙ (sym (drop-map looks low (take high glyphs)) ∙ (ap (drop low) same ∙ drop-map looks low front))

module _ (n : ℕ) (draw : List TextGlyph → List ShapedGlyph) (parts : ArePartedAtBreaks false n draw) where
  -- a forward text up to a place, which parts where the text did
  forward_front :
      (text : List TextGlyph) (a b i j : ℕ) → length text ≤ n → i < j → j ≤ length text → a < b
      → IsCut false text (draw text) a i → IsCut false text (draw text) b j
      → (map looks (take b (draw text)) ≡ map looks (draw (take j text)))
      × (IsOpen (take j text) (draw (take j text)) a i ⊎ ((a ≡ 0) × (i ≡ 0)))
  forward_front text a b i j short lt in_text low (inl at_start) (inl start) = absurd (omega (arith, start.0, lt))
  forward_front text a b i j short lt in_text low (inl at_start) (inr (inl end)) = (
    ap (map looks) (take_all b (draw text) (omega (arith, end.1)))
        ∙ ap (λ (t : List TextGlyph). map looks (draw t)) (sym (take_all j text (omega (arith, end.0)))),
    inr (at_start.1, at_start.0),
  )
  forward_front text a b i j short lt in_text low (inl at_start) (inr (inr here)) =
      let p = parts text b short here.within here.breaks in (
        p.before
            ∙ ap (λ (t : List TextGlyph). map looks (draw t)) (before_place (cut_before (draw text) b) j text here.parted),
        inr (at_start.1, at_start.0),
      )
  forward_front text a b i j short lt in_text low (inr (inl at_end)) cut = absurd (omega (arith, at_end.0, lt, in_text))
  forward_front text a b i j short lt in_text low (inr (inr there)) (inl start) = absurd (omega (arith, start.0, lt))
  forward_front text a b i j short lt in_text low (inr (inr there)) (inr (inl end)) =
      let whole : take j text ≡ text = take_all j text (omega (arith, end.0)) in (
        ap (map looks) (take_all b (draw text) (omega (arith, end.1)))
            ∙ ap (λ (t : List TextGlyph). map looks (draw t)) (sym whole),
        inl (subst (λ (t : List TextGlyph). IsOpen t (draw t) a i) (sym whole) there),
      )
  forward_front text a b i j short lt in_text low (inr (inr there)) (inr (inr here)) =
      let p = parts text b short here.within here.breaks in
      let same = before_place (cut_before (draw text) b) j text here.parted in (
        p.before ∙ ap (λ (t : List TextGlyph). map looks (draw t)) same,
        inl
            (open_in_front draw text (text_before (cut_before (draw text) b) text) (text_from (cut_before (draw text) b) text)
            (take j text) (draw text) a b i i p there low (omega (arith, here.within)) same
            (parted_before (cut_before (draw text) a) i text there.parted j (omega (arith, lt)))),
      )

  forward_rest :
      (text : List TextGlyph) (a i : ℕ) → length text ≤ n → IsOpen text (draw text) a i ⊎ ((a ≡ 0) × (i ≡ 0))
      → map looks (drop a (draw text)) ≡ map looks (draw (drop i text))
  forward_rest text a i short (inl there) =
      let p = parts text a short there.within there.breaks in
      p.behind
      ∙ ap (λ (t : List TextGlyph). map looks (draw t)) (from_place (cut_before (draw text) a) i text there.parted)
  forward_rest text a i short (inr start) = rw (start.0, start.1) refl

  pub forward :
      (text : List TextGlyph) (a b i j : ℕ) → length text ≤ n → i < j → j ≤ length text → a < b
      → IsCut false text (draw text) a i → IsCut false text (draw text) b j
      → map looks (slice_range (draw text) a b) ≡ map looks (draw (slice_range text i j))
  forward text a b i j short lt in_text low first last =
      let front = forward_front text a b i j short lt in_text low first last in
      let part : drop i (take j text) ≡ slice_range text i j =
      ap (λ (m : ℕ). drop i (take m text)) (omega arith) ∙ drop-take i (j - i) text
      in
      rest_of_front (draw text) (draw (take j text)) a b (omega (arith, low)) front.0
      ∙ (forward_rest (take j text) a i (omega (arith, short, length-take j text)) front.1
      ∙ ap (λ (t : List TextGlyph). map looks (draw t)) part)

module _ (n : ℕ) (draw : List TextGlyph → List ShapedGlyph) (parts : ArePartedAtBreaks true n draw) where
  -- a backward text from a place on, which parts where the text did
  backward_front :
      (text : List TextGlyph) (a b i j : ℕ) → length text ≤ n → i < j → j ≤ length text → b < a
      → IsCut true text (draw text) a i → IsCut true text (draw text) b j
      → (map looks (take a (draw text)) ≡ map looks (draw (drop i text)))
      × (IsOpen (drop i text) (draw (drop i text)) b (j - i) ⊎ ((b ≡ 0) × (j ≡ length text)))
  backward_front text a b i j short lt in_text low (inr (inl at_end)) cut =
      absurd (omega (arith, at_end.0, lt, in_text))
  backward_front text a b i j short lt in_text low (inl at_start) (inl start) = absurd (omega (arith, start.0, lt))
  backward_front text a b i j short lt in_text low (inl at_start) (inr (inl end)) = (
    ap (map looks) (take_all a (draw text) (omega (arith, at_start.1)))
        ∙ ap (λ (m : ℕ). map looks (draw (drop m text))) (sym at_start.0),
    inr (end.1, end.0),
  )
  backward_front text a b i j short lt in_text low (inl at_start) (inr (inr here)) = (
    ap (map looks) (take_all a (draw text) (omega (arith, at_start.1)))
        ∙ ap (λ (m : ℕ). map looks (draw (drop m text))) (sym at_start.0),
    inl
        (subst (λ (m : ℕ). IsOpen (drop m text) (draw (drop m text)) b (j - m)) (sym at_start.0)
        (subst (λ (m : ℕ). IsOpen text (draw text) b m) (omega arith) here)),
  )
  backward_front text a b i j short lt in_text low (inr (inr there)) (inl start) = absurd (omega (arith, start.0, lt))
  backward_front text a b i j short lt in_text low (inr (inr there)) (inr (inl end)) =
      let p = parts text a short there.within there.breaks in (
        p.before
            ∙ ap (λ (t : List TextGlyph). map looks (draw t)) (from_place (cut_before (draw text) a) i text there.parted),
        inr (end.1, end.0),
      )
  backward_front text a b i j short lt in_text low (inr (inr there)) (inr (inr here)) =
      let p = parts text a short there.within there.breaks in
      let same = from_place (cut_before (draw text) a) i text there.parted in (
        p.before ∙ ap (λ (t : List TextGlyph). map looks (draw t)) same,
        inl
            (open_in_front draw text (text_from (cut_before (draw text) a) text) (text_before (cut_before (draw text) a) text)
            (drop i text) (draw text) b a j (j - i) p here low (omega (arith, there.within)) same
            (parted_behind (cut_before (draw text) b) j text here.parted i (omega (arith, lt)))),
      )

  backward_rest :
      (text : List TextGlyph) (b m : ℕ) → length text ≤ n → IsOpen text (draw text) b m ⊎ ((b ≡ 0) × (m ≡ length text))
      → map looks (drop b (draw text)) ≡ map looks (draw (take m text))
  backward_rest text b m short (inl here) =
      let p = parts text b short here.within here.breaks in
      p.behind
      ∙ ap (λ (t : List TextGlyph). map looks (draw t)) (before_place (cut_before (draw text) b) m text here.parted)
  backward_rest text b m short (inr end) =
      ap (λ (k : ℕ). map looks (drop k (draw text))) end.0
      ∙ ap (λ (t : List TextGlyph). map looks (draw t)) (sym (take_all m text (omega (arith, end.1))))

  rest_end :
      (text : List TextGlyph) (b i j : ℕ) → i < j
      → IsOpen (drop i text) (draw (drop i text)) b (j - i) ⊎ ((b ≡ 0) × (j ≡ length text))
      → IsOpen (drop i text) (draw (drop i text)) b (j - i) ⊎ ((b ≡ 0) × (j - i ≡ length (drop i text)))
  rest_end text b i j lt (inl here) = inl here
  rest_end text b i j lt (inr end) = inr (end.0, ap (λ (m : ℕ). m - i) end.1 ∙ sym (length-drop i text))

  pub backward :
      (text : List TextGlyph) (a b i j : ℕ) → length text ≤ n → i < j → j ≤ length text → b < a
      → IsCut true text (draw text) a i → IsCut true text (draw text) b j
      → map looks (slice_range (draw text) b a) ≡ map looks (draw (slice_range text i j))
  backward text a b i j short lt in_text low first last =
      let front = backward_front text a b i j short lt in_text low first last in
      rest_of_front (draw text) (draw (drop i text)) b a (omega (arith, low)) front.0
      ∙ backward_rest (drop i text) b (j - i) (omega (arith, short, length-drop i text))
      (rest_end text b i j lt front.1)

module _
    (drawn_in_parts : TextsAreDrawnInParts) (keep_breaks : PartsKeepBreaks) (v : ℤ) (face : hb_font_t) (d : Direction)
    (features : List Feature)
  where
    -- the laws of what is drawn, in these words
    parted_at_breaks : (b : Bool) → is_backward d ≡ b → ArePartedAtBreaks b most_text (shaped_text v face d features)
    parted_at_breaks true e text k short low breaks =
        let glyphs = shaped_text v face d features text in
        let early = text_before (cut_before glyphs k) text in
        let late = text_from (cut_before glyphs k) text in
        let p = MatchBool-at_true (LooksAsParts v face d features late early glyphs k)
        (LooksAsParts v face d features early late glyphs k) e (drawn_in_parts v face d features text short k low breaks)
        in
        let q = MatchBool-at_true (BreaksAsParts v face d features late early glyphs k)
        (BreaksAsParts v face d features early late glyphs k) e (keep_breaks v face d features text short k low breaks)
        in
        record { before = p.before; behind = p.behind; kept = q.before }
    parted_at_breaks false e text k short low breaks =
        let glyphs = shaped_text v face d features text in
        let early = text_before (cut_before glyphs k) text in
        let late = text_from (cut_before glyphs k) text in
        let p = MatchBool-at_false (LooksAsParts v face d features late early glyphs k)
        (LooksAsParts v face d features early late glyphs k) e (drawn_in_parts v face d features text short k low breaks)
        in
        let q = MatchBool-at_false (BreaksAsParts v face d features late early glyphs k)
        (BreaksAsParts v face d features early late glyphs k) e (keep_breaks v face d features text short k low breaks)
        in
        record { before = p.before; behind = p.behind; kept = q.before }

    pub forward_stretch :
        (text : List TextGlyph) (glyphs : List ShapedGlyph) (a b i j : ℕ)
        → glyphs ≡ shaped_text v face d features text → length text ≤ most_text → is_backward d ≡ false → i < j
        → j ≤ length text → a < b → IsCut (is_backward d) text glyphs a i → IsCut (is_backward d) text glyphs b j
        → map looks (slice_range glyphs a b) ≡ map looks (shaped_text v face d features (slice_range text i j))
    forward_stretch text glyphs a b i j drawn short e lt in_text low first last =
        let draw = shaped_text v face d features in
        let at : (k m : ℕ) → IsCut (is_backward d) text glyphs k m → IsCut false text (draw text) k m = λ k m cut.
        subst (λ (w : Bool). IsCut w text (draw text) k m) e
        (subst (λ (gs : List ShapedGlyph). IsCut (is_backward d) text gs k m) drawn cut)
        in
        ap (λ (gs : List ShapedGlyph). map looks (slice_range gs a b)) drawn
        ∙ forward most_text draw (parted_at_breaks false e) text a b i j short lt in_text low (at a i first) (at b j last)

    pub backward_stretch :
        (text : List TextGlyph) (glyphs : List ShapedGlyph) (a b i j : ℕ)
        → glyphs ≡ shaped_text v face d features text → length text ≤ most_text → is_backward d ≡ true → i < j
        → j ≤ length text → b < a → IsCut (is_backward d) text glyphs a i → IsCut (is_backward d) text glyphs b j
        → map looks (slice_range glyphs b a) ≡ map looks (shaped_text v face d features (slice_range text i j))
    backward_stretch text glyphs a b i j drawn short e lt in_text low first last =
        let draw = shaped_text v face d features in
        let at : (k m : ℕ) → IsCut (is_backward d) text glyphs k m → IsCut true text (draw text) k m = λ k m cut.
        subst (λ (w : Bool). IsCut w text (draw text) k m) e
        (subst (λ (gs : List ShapedGlyph). IsCut (is_backward d) text gs k m) drawn cut)
        in
        ap (λ (gs : List ShapedGlyph). map looks (slice_range gs b a)) drawn
        ∙ backward most_text draw (parted_at_breaks true e) text a b i j short lt in_text low (at a i first) (at b j last)

-- what is shaped by itself
pub drawn_by_itself :
    (glyphs : List ShapedGlyph) (v w : ℤ) (face font : hb_font_t) (d : Direction) (features : List Feature)
    (text part : List TextGlyph) (s start e end : ℕ)
    → glyphs ≡ shaped_text v face d features part → v ≡ w → face ≡ font → part ≡ slice_range text s e → s ≡ start
    → e ≡ end → map looks glyphs ≡ map looks (shaped_text w font d features (slice_range text start end))
drawn_by_itself glyphs v w face font d features text part s start e end drawn values fonts parts starts ends =
    ap (map looks)
    (drawn
    ∙ (ap (λ (z : ℤ). shaped_text z face d features part) values
    ∙ (ap (λ (f : hb_font_t). shaped_text w f d features part) fonts
    ∙ ap (λ (t : List TextGlyph). shaped_text w font d features t)
    (parts
    ∙ (ap (λ (m : ℕ). slice_range text m e) starts ∙ ap (λ (m : ℕ). slice_range text start m) ends)))))

-- the whole text as a part of it
pub whole_range : (text : List TextGlyph) → slice_range text 0 (length text) ≡ text
whole_range text = take_all (length text - 0) text (omega arith)

-- a text that is refused is a part that is
pub whole_refused :
    (face : hb_font_t) (d : Direction) (features : List Feature) (text : List TextGlyph) (error : AatError)
    → RefusesText face d features text error → RefusesLines face d features text error
whole_refused face d features text error refused = (
  0,
  length text,
  subst (λ (t : List TextGlyph). RefusesText face d features t error) (sym (whole_range text)) refused,
)
