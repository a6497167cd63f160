-- Marks that are placed by boxes: two texts, one behind the other, are placed each by itself where the second begins a run,
-- and the text may be broken only there.
use Rattle.std.proofs.Common.{◌≡◌, ◌∙◌, sym, ap, ap₂, refl, ℕ, zero, suc, ◌+◌, ◌-◌, ◌<◌, ◌≤◌, ◌&&◌, ◌==◌, Bool, true, false, not, cond, [], ◌∷◌, ◌++◌, drop, get_or, length, map, max, reverse, take, arith, true≢false}
use Rattle.std.specs.List.{scan}
use Rattle.std.specs.Prelude.{Option, Some, None, pos}
use Rattle.std.proofs.lemmas.List.{drop-map, get_or-drop, get_or-map, get_or-reverse, length-map, length-take-le, map-append, get_or-take, reverse-append, reverse-reverse, take-append-drop, take-map}
use Rattle.std.proofs.Math.Seq.{drop-append_seam, take-append_seam}
use Rattle.aat_read_metrics.specs.declared.glyph_metrics.GlyphBox.{GlyphBox}
use Rattle.aat_glyph.specs.Directions.{is_backward}
use Rattle.aat_shaped_text.specs.Parts.{looks, no_shaped_glyph, shaped_at}
use Rattle.aat_shaped_text.specs.declared.text.CharacterKind.{CharacterKind}
use Rattle.aat_shaped_text.specs.declared.text.CharacterKind.TheVariants.{Mark, Other, Space}
use Rattle.aat_shaped_text.specs.declared.text.ShapedGlyph.{ShapedGlyph}
use Rattle.aat_showing.specs.MarkBoxes.{MarkPlacing, base_of, begins_run, boxed_base, class_of, followed_base, held, held_runs, is_mark, next_base, place_marks, placed, placed_in_order, placed_marks, set_on}
use Rattle.aat_showing.specs.Marks.{without_width, zeroed_mark}
use Rattle.aat_showing.specs.declared.mark_bases.Base.{Base}
use Rattle.aat_showing.specs.declared.mark_bases.MarkBase.{MarkBase}
use Rattle.aat_showing.specs.declared.mark_bases.MarkBase.TheVariants.{Boxed, Missing, Unboxed}
use Rattle.aat_showing.proofs.Scanned.{left_by, left_by_more, scan_alike, scan_append, scan_at, scan_seen}
use Rattle.aat_showing.proofs.Shown.{Drawn, KeepsBreaks, ShownAt}

-- a glyph without its place
abbrev bare : ShapedGlyph → ShapedGlyph
bare g = record g { x_advance = pos 0; y_advance = pos 0; x_offset = pos 0; y_offset = pos 0 }

bare_cond : (t : Bool) (f g h : ShapedGlyph) → bare f ≡ bare h → bare g ≡ bare h → bare (cond t f g) ≡ bare h
bare_cond true f g h a b = a
bare_cond false f g h a b = b

looks_cond : (t : Bool) (f g : ShapedGlyph) → looks (cond t f g) ≡ cond t (looks f) (looks g)
looks_cond true f g = refl
looks_cond false f g = refl

map_reverse : (f : ShapedGlyph → ShapedGlyph) (xs : Drawn) → map f (reverse xs) ≡ reverse (map f xs)
map_reverse f [] = refl
map_reverse f (x ∷ xs) =
    ap (map f) (reverse-append (x ∷ []) xs)
    ∙ (map-append f (reverse xs) (x ∷ [])
    ∙ (ap (λ (gs : Drawn). gs ++ f x ∷ []) (map_reverse f xs) ∙ sym (reverse-append (f x ∷ []) (map f xs))))

both : (t u : Bool) → (t && u) ≡ true → (t ≡ true) × (u ≡ true)
both true u e = (refl, e)
both false u e = absurd (true≢false (sym e))

-- what begins a run has no combining class
no_class : (t : Bool) (k : CharacterKind) → (not t && not (is_mark k)) ≡ true → (class_of k == 0) ≡ true
no_class t Other e = refl
no_class t (Space width) e = refl
no_class t (Mark class) e = absurd (true≢false (sym (both (not t) false e).1))

module _ (p : MarkPlacing) where
  set_bare : (b : Base) (class : ℕ) (box : Option GlyphBox) (g : ShapedGlyph) → bare (set_on p.direction p.gap b class box g) ≡ bare g
  set_bare b class None g = refl
  set_bare b class (Some mark) g = refl

  -- placing changes places alone
  placed_bare : (b : MarkBase) (g : ShapedGlyph) → bare (placed p b g) ≡ bare g
  placed_bare Missing g = refl
  placed_bare Unboxed g =
      bare_cond (begins_run g) g (zeroed_mark p.moves g) g refl
      (bare_cond g.is_mark (without_width p.moves g) g g refl refl)
  placed_bare (Boxed b) g =
      bare_cond (class_of g.kind == 0) g (set_on p.direction p.gap b (class_of g.kind) (p.box g.glyph_id) g) g refl
      (set_bare b (class_of g.kind) (p.box g.glyph_id) g)

  set_looks :
      (b : Base) (class : ℕ) (box : Option GlyphBox) (g : ShapedGlyph)
      → looks (set_on p.direction p.gap b class box g) ≡ set_on p.direction p.gap b class box (looks g)
  set_looks b class None g = refl
  set_looks b class (Some mark) g = refl

  -- and looks at how a glyph looks alone
  placed_looks : (b : MarkBase) (g : ShapedGlyph) → looks (placed p b g) ≡ placed p b (looks g)
  placed_looks Missing g = refl
  placed_looks Unboxed g =
      looks_cond (begins_run g) g (zeroed_mark p.moves g)
      ∙ ap (λ (h : ShapedGlyph). cond (begins_run g) (looks g) h) (looks_cond g.is_mark (without_width p.moves g) g)
  placed_looks (Boxed b) g =
      looks_cond (class_of g.kind == 0) g (set_on p.direction p.gap b (class_of g.kind) (p.box g.glyph_id) g)
      ∙ ap (λ (h : ShapedGlyph). cond (class_of g.kind == 0) (looks g) h) (set_looks b (class_of g.kind) (p.box g.glyph_id) g)

  boxed_looks :
      (advance : ℕ) (box : Option GlyphBox) (g : ShapedGlyph)
      → boxed_base p.direction advance box (looks g) ≡ boxed_base p.direction advance box g
  boxed_looks advance None g = refl
  boxed_looks advance (Some box) g = refl

  base_looks : (g : ShapedGlyph) → base_of p (looks g) ≡ base_of p g
  base_looks g = boxed_looks (p.across g.glyph_id) (p.box g.glyph_id) g

  followed_looks : (b : MarkBase) (g : ShapedGlyph) → followed_base p b (looks g) ≡ followed_base p b g
  followed_looks Missing g = ap (λ (base : MarkBase). cond (is_mark g.kind) Missing base) (base_looks g)
  followed_looks Unboxed g = refl
  followed_looks (Boxed b) g = refl

  next_looks : (b : MarkBase) (g : ShapedGlyph) → next_base p b (looks g) ≡ next_base p b g
  next_looks b g =
      ap₂ (λ (base after : MarkBase). cond (begins_run g) base after) (base_looks g) (followed_looks b g)

  -- a glyph that begins a run begins anew
  placed_anew : (b : MarkBase) (g : ShapedGlyph) → begins_run g ≡ true → placed p b g ≡ g
  placed_anew Missing g begins = refl
  placed_anew Unboxed g begins = ap (λ (t : Bool). cond t g (zeroed_mark p.moves g)) begins
  placed_anew (Boxed b) g begins =
      ap (λ (t : Bool). cond t g (set_on p.direction p.gap b (class_of g.kind) (p.box g.glyph_id) g))
      (no_class g.is_ignorable g.kind begins)

  next_anew : (b : MarkBase) (g : ShapedGlyph) → begins_run g ≡ true → next_base p b g ≡ base_of p g
  next_anew b g begins = ap (λ (t : Bool). cond t (base_of p g) (followed_base p b g)) begins

  run_anew :
      (b : MarkBase) (ys : Drawn) → begins_run (shaped_at ys 0) ≡ true
      → scan (next_base p) (placed p) b ys ≡ placed_in_order p ys
  run_anew b [] begins = refl
  run_anew b (y ∷ ys) begins =
      ap₂ (λ (g : ShapedGlyph) (c : MarkBase). g ∷ scan (next_base p) (placed p) c ys)
      (placed_anew b y begins ∙ sym (placed_anew Missing y begins))
      (next_anew b y begins ∙ sym (next_anew Missing y begins))

  in_order_append :
      (xs ys : Drawn) → begins_run (shaped_at ys 0) ≡ true
      → placed_in_order p (xs ++ ys) ≡ placed_in_order p xs ++ placed_in_order p ys
  in_order_append xs ys begins =
      scan_append (next_base p) (placed p) Missing xs ys
      ∙ ap (λ (gs : Drawn). placed_in_order p xs ++ gs) (run_anew (left_by (next_base p) (placed p) Missing xs) ys begins)

  -- in drawing order: t says whether the text is backward
  abbrev in_drawing : Bool → Drawn → Drawn
  in_drawing t glyphs = cond t (reverse (placed_in_order p (reverse glyphs))) (placed_in_order p glyphs)

  -- the later one in the order of the text of two parts
  abbrev later_at : Bool → Drawn → Drawn → ShapedGlyph
  later_at t xs ys = cond t (shaped_at (reverse xs) 0) (shaped_at ys 0)

  drawing_append :
      (t : Bool) (xs ys : Drawn) → begins_run (later_at t xs ys) ≡ true
      → in_drawing t (xs ++ ys) ≡ in_drawing t xs ++ in_drawing t ys
  drawing_append false xs ys begins = in_order_append xs ys begins
  drawing_append true xs ys begins =
      ap (λ (gs : Drawn). reverse (placed_in_order p gs)) (reverse-append xs ys)
      ∙ (ap reverse (in_order_append (reverse ys) (reverse xs) begins)
      ∙ reverse-append (placed_in_order p (reverse ys)) (placed_in_order p (reverse xs)))

  drawing_seen :
      (see : ShapedGlyph → ShapedGlyph) → ((gs : Drawn) → map see (placed_in_order p gs) ≡ placed_in_order p (map see gs))
      → (t : Bool) (gs : Drawn) → map see (in_drawing t gs) ≡ in_drawing t (map see gs)
  drawing_seen see same false gs = same gs
  drawing_seen see same true gs =
      map_reverse see (placed_in_order p (reverse gs))
      ∙ ap reverse (same (reverse gs) ∙ ap (placed_in_order p) (map_reverse see gs))

  order_looks : (gs : Drawn) → map looks (placed_in_order p gs) ≡ placed_in_order p (map looks gs)
  order_looks gs = scan_seen (next_base p) (placed p) looks placed_looks next_looks Missing gs

  order_bare : (gs : Drawn) → map bare (placed_in_order p gs) ≡ map bare gs
  order_bare gs = scan_alike (next_base p) (placed p) bare placed_bare Missing gs

  drawing_bare : (t : Bool) (gs : Drawn) → map bare (in_drawing t gs) ≡ map bare gs
  drawing_bare false gs = order_bare gs
  drawing_bare true gs =
      map_reverse bare (placed_in_order p (reverse gs))
      ∙ (ap reverse (order_bare (reverse gs)) ∙ (sym (map_reverse bare (reverse gs)) ∙ ap (map bare) (reverse-reverse gs)))

  -- held runs
  abbrev begun_before : Drawn → ℕ → Bool
  begun_before gs k = left_by (λ (b : Bool) (g : ShapedGlyph). begins_run g) (held p.direction) true (take k gs)

  held_at :
      (gs : Drawn) (k : ℕ) → k < length gs
      → shaped_at (held_runs p.direction gs) k ≡ held p.direction (begun_before gs k) (shaped_at gs k)
  held_at gs k low = scan_at (λ (b : Bool) (g : ShapedGlyph). begins_run g) (held p.direction) true gs k no_shaped_glyph no_shaped_glyph low

  held_looks : (gs : Drawn) → map looks (held_runs p.direction gs) ≡ map looks gs
  held_looks gs = scan_alike (λ (b : Bool) (g : ShapedGlyph). begins_run g) (held p.direction) looks (λ (b : Bool) (g : ShapedGlyph). refl) true gs

  length_held : (gs : Drawn) → length (held_runs p.direction gs) ≡ length gs
  length_held gs =
      sym (length-map (held_runs p.direction gs) looks) ∙ (ap length (held_looks gs) ∙ length-map gs looks)

  length_placed : (gs : Drawn) → length (placed_marks p gs) ≡ length gs
  length_placed gs =
      sym (length-map (placed_marks p gs) bare)
      ∙ (ap length (drawing_bare (is_backward p.direction) gs) ∙ length-map gs bare)

  -- a placed glyph is the same one, but for its place
  same_at : (gs : Drawn) (k : ℕ) → k < length gs → bare (shaped_at (placed_marks p gs) k) ≡ bare (shaped_at gs k)
  same_at gs k low =
      sym (get_or-map bare (placed_marks p gs) k no_shaped_glyph no_shaped_glyph (omega (arith, low, length_placed gs)))
      ∙ (ap (λ (hs : Drawn). get_or hs k no_shaped_glyph) (drawing_bare (is_backward p.direction) gs)
      ∙ get_or-map bare gs k no_shaped_glyph no_shaped_glyph low)

  begun_at :
      (gs : Drawn) (k : ℕ) → k < length gs → begins_run (shaped_at gs k) ≡ begun_before gs (suc k)
  begun_at gs k low =
      sym (left_by_more (λ (b : Bool) (g : ShapedGlyph). begins_run g) (held p.direction) true gs k no_shaped_glyph low)

  -- what is told of the glyph before: it is the first one of the part before it, put the other way round
  before_first : (gs : Drawn) (k : ℕ) → k ≤ length gs → begun_before gs k ≡ begins_run (shaped_at (reverse (take k gs)) 0)
  before_first gs zero low = refl
  before_first gs (suc k) low =
      let long : length (take (suc k) gs) ≡ suc k = length-take-le (suc k) gs low in
      let place : length (take (suc k) gs) - 1 - 0 ≡ k = omega (arith, long) in
      let last : shaped_at (reverse (take (suc k) gs)) 0 ≡ shaped_at gs k =
      get_or-reverse (take (suc k) gs) 0 no_shaped_glyph (omega (arith, long))
      ∙ (ap (shaped_at (take (suc k) gs)) place ∙ get_or-take (suc k) gs k no_shaped_glyph (omega arith))
      in
      sym (begun_at gs k (omega (arith, low))) ∙ ap begins_run (sym last)

  later_begins :
      (t : Bool) (gs : Drawn) (k : ℕ) → k < length gs
      → cond t (begun_before (placed_marks p gs) k) (begins_run (shaped_at (placed_marks p gs) k)) ≡ true
      → begins_run (later_at t (take k (map looks gs)) (drop k (map looks gs))) ≡ true
  later_begins false gs k low begins =
      let stands : k + 0 ≡ k = omega arith in
      let here : shaped_at (drop k (map looks gs)) 0 ≡ looks (shaped_at gs k) =
      get_or-drop k (map looks gs) 0 no_shaped_glyph
      ∙ (ap (shaped_at (map looks gs)) stands ∙ get_or-map looks gs k no_shaped_glyph no_shaped_glyph low)
      in
      ap begins_run here ∙ (sym (ap begins_run (same_at gs k low)) ∙ begins)
  later_begins true gs k low begins = before_begins gs k low begins
    where
      before_begins :
          (gs : Drawn) (k : ℕ) → k < length gs → begun_before (placed_marks p gs) k ≡ true
          → begins_run (shaped_at (reverse (take k (map looks gs))) 0) ≡ true
      before_begins gs zero low begins = refl
      before_begins gs (suc k) low begins =
          let lower : k < length gs = omega (arith, low) in
          let looked : begun_before (map looks gs) (suc k) ≡ begun_before (placed_marks p gs) (suc k) =
          sym (begun_at (map looks gs) k (omega (arith, lower, length-map gs looks)))
          ∙ (ap begins_run (get_or-map looks gs k no_shaped_glyph no_shaped_glyph lower)
          ∙ (sym (ap begins_run (same_at gs k lower)) ∙ begun_at (placed_marks p gs) k (omega (arith, lower, length_placed gs))))
          in
          sym (before_first (map looks gs) (suc k) (omega (arith, low, length-map gs looks))) ∙ (looked ∙ begins)

  looked : (gs : Drawn) → map looks (place_marks p gs) ≡ placed_marks p (map looks gs)
  looked gs = held_looks (placed_marks p gs) ∙ drawing_seen looks order_looks (is_backward p.direction) gs

  shown_placed :
      (gs : Drawn) (k : ℕ) → k < length (place_marks p gs) → (shaped_at (place_marks p gs) k).may_break_before ≡ true
      → ShownAt (placed_marks p) gs (place_marks p gs) k
  shown_placed gs k low may =
      let t = is_backward p.direction in
      let mid = placed_marks p gs in
      let inside : k < length mid = omega (arith, low, length_held mid) in
      let within : k < length gs = omega (arith, inside, length_placed gs) in
      let here = held_at mid k inside in
      let says = both (shaped_at mid k).may_break_before (cond t (begun_before mid k) (begins_run (shaped_at mid k)))
      (sym (ap (λ (g : ShapedGlyph). g.may_break_before) here) ∙ may) in
      let ls = map looks gs in
      let parts : take k ls ++ drop k ls ≡ ls = take-append-drop k ls in
      let apart : placed_marks p ls ≡ placed_marks p (take k ls) ++ placed_marks p (drop k ls) =
      ap (placed_marks p) (sym parts) ∙ drawing_append t (take k ls) (drop k ls) (later_begins t gs k within says.1) in
      let long : length (placed_marks p (take k ls)) ≡ k =
      length_placed (take k ls) ∙ length-take-le k ls (omega (arith, within, length-map gs looks)) in
      let cluster : (j : ℕ) → j < length gs → (shaped_at (place_marks p gs) j).cluster ≡ (shaped_at gs j).cluster =
      λ j less. ap (λ (g : ShapedGlyph). g.cluster) (held_at mid j (omega (arith, less, length_placed gs)))
      ∙ ap (λ (g : ShapedGlyph). g.cluster) (same_at gs j less) in
      record {
        at = k;
        low = within;
        breaks = sym (ap (λ (g : ShapedGlyph). g.may_break_before) (same_at gs k within)) ∙ says.0;
        cut = ap₂ max (cluster (k - 1) (omega (arith, within))) (cluster k within);
        front =
            sym (take-map looks k (place_marks p gs))
            ∙ (ap (take k) (looked gs ∙ apart)
            ∙ (ap (λ (n : ℕ). take n (placed_marks p (take k ls) ++ placed_marks p (drop k ls))) (sym long)
            ∙ (take-append_seam (placed_marks p (take k ls)) (placed_marks p (drop k ls))
            ∙ ap (placed_marks p) (take-map looks k gs))));
        back =
            sym (drop-map looks k (place_marks p gs))
            ∙ (ap (drop k) (looked gs ∙ apart)
            ∙ (ap (λ (n : ℕ). drop n (placed_marks p (take k ls) ++ placed_marks p (drop k ls))) (sym long)
            ∙ (drop-append_seam (placed_marks p (take k ls)) (placed_marks p (drop k ls))
            ∙ ap (placed_marks p) (drop-map looks k gs))));
      }

  -- so marks that are placed keep what is told of breaks
  pub placed_keep : KeepsBreaks (place_marks p) (placed_marks p)
  placed_keep = record { looked = looked; shown_at = shown_placed }
