-- Marks change masks alone.
use Rattle.std.proofs.Common.{◌≡◌, ◌∙◌, ℕ, ◌+◌, ◌≤◌, ◌==◌, Bool, true, false, List, [], ◌∷◌, ◌++◌, length, take, drop, cond, map, nat_le, Option, refl, ap, sym, arith, get_or}
use Rattle.std.proofs.lemmas.Bool.Decides.{nat_tests}
use Rattle.std.proofs.Math.ListN.{get_or-map}
use Rattle.std.proofs.lemmas.List.{map-append, take-append-drop}
use Rattle.std.proofs.lemmas.List.Folds.{drop_split}
use Rattle.std.specs.Prelude.{slice_range}
use Rattle.aat_buffer.specs.Buffer.{Buffer, glyph_at, no_glyph}
use Rattle.aat_buffer.specs.facts.Cases.{either}
use Rattle.aat_buffer.specs.Marks.{break_marked, end_place, least_of, marked_above, on_long_span, on_span, start_place, unsafe_to_break, with_mask_bits}
use Rattle.aat_glyph.specs.declared.glyph.hb_glyph_info_t.{hb_glyph_info_t}

-- of a glyph, what its mask does not change
module _ {A : Type 0} (f : hb_glyph_info_t → A) (blind : (bits : ℕ) (g : hb_glyph_info_t) → f (with_mask_bits bits g) ≡ f g) where
  of_glyphs : (least : ℕ) (gs : List hb_glyph_info_t) → map f (map (marked_above least 3) gs) ≡ map f gs
  of_glyphs least [] = refl
  of_glyphs least (g ∷ gs) =
      let head : f (marked_above least 3 g) ≡ f g = either f (g.cluster == least) g (with_mask_bits 3 g) (f g) refl (blind 3 g) in
      rw (head, of_glyphs least gs) refl

  of_span : (i j : ℕ) (gs : List hb_glyph_info_t) → i ≤ j → map f (on_span break_marked i j gs) ≡ map f gs
  of_span i j gs low =
      let span = slice_range gs i j in
      let whole : gs ≡ take i gs ++ (span ++ drop j gs) = sym (take-append-drop i gs) ∙ ap (λ t. take i gs ++ t) (drop_split gs i j low) in
      let left : map f (on_span break_marked i j gs) ≡ map f (take i gs) ++ (map f (break_marked span) ++ map f (drop j gs)) =
      map-append f (take i gs) (break_marked span ++ drop j gs) ∙ ap (λ t. map f (take i gs) ++ t) (map-append f (break_marked span) (drop j gs)) in
      let right : map f (take i gs ++ (span ++ drop j gs)) ≡ map f (take i gs) ++ (map f span ++ map f (drop j gs)) =
      map-append f (take i gs) (span ++ drop j gs) ∙ ap (λ t. map f (take i gs) ++ t) (map-append f span (drop j gs)) in
      left ∙ (ap (λ t. map f (take i gs) ++ (t ++ map f (drop j gs))) (of_glyphs (least_of span) span) ∙ (sym right ∙ ap (map f) (sym whole)))

  of_long_span : (i j : ℕ) (gs : List hb_glyph_info_t) → map f (on_long_span break_marked i j gs) ≡ map f gs
  of_long_span i j gs = by_length (nat_le (i + 2) j) refl
    where
      by_length : (t : Bool) → nat_le (i + 2) j ≡ t → map f (cond t (on_span break_marked i j gs) gs) ≡ map f gs
      by_length true is = of_span i j gs (grind (arith, nat_tests, is))
      by_length false is = refl

  -- a line keeps it under marks
  pub of_unsafe : (b : Buffer) (start end : Option ℕ) → map f (unsafe_to_break b start end).line ≡ map f b.line
  of_unsafe b start end = of_long_span (start_place start) (end_place end (length b.line)) b.line

-- lines that are alike in something have the same of it at each place
pub same_at : {A : Type 0} (f : hb_glyph_info_t → A) (gs hs : List hb_glyph_info_t) (k : ℕ) → map f gs ≡ map f hs → f (glyph_at gs k) ≡ f (glyph_at hs k)
same_at f gs hs k same = sym (get_or-map f gs k no_glyph) ∙ (ap (λ xs. get_or xs k (f no_glyph)) same ∙ get_or-map f hs k no_glyph)
