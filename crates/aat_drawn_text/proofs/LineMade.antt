-- The line of a text, one glyph more, and the buffer that it is put into.
use Rattle.std.proofs.Common.{◌≡◌, ◌∙◌, ap, refl, sym, ℕ, ℤ, ◌+◌, ◌<◌, ◌++◌, ◌∷◌, [], ◌&&◌, Bool, true, false, cond, List, get_or, length, map, reverse, take}
use Rattle.std.specs.List.{list_any}
use Rattle.std.specs.Option.{option_map_or}
use Rattle.std.specs.Prelude.{None, Option, Some, find}
use Rattle.std.proofs.lemmas.Bool.{or_parts}
use Rattle.std.proofs.lemmas.List.{append-nil, map_more}
use Rattle.std.proofs.lemmas.List.Sorted.{IsPermutation-reverse, list_any-IsPermutation}
use Rattle.aat_buffer.specs.Buffer.{empty_buffer, with_cursor, with_direction, with_glyphs_in, with_line}
use Rattle.aat_font.specs.declared.face.hb_font_t.{hb_font_t}
use Rattle.aat_font.specs.declared.plan.Feature.{Feature}
use Rattle.aat_glyph.specs.declared.glyph.Direction.{Direction}
use Rattle.aat_glyph.specs.declared.glyph.hb_glyph_info_t.{hb_glyph_info_t}
use Rattle.aat_shaped_text.specs.ShapedText.{line_glyph}
use Rattle.aat_shaped_text.specs.TextFeatures.{holds, is_kern, is_kerned_at, is_on}
use Rattle.aat_shaped_text.specs.declared.text.TextGlyph.{TextGlyph}

pub line_more :
    {after : List hb_glyph_info_t} (face : hb_font_t) (features : List Feature) (text : List TextGlyph) (i : ℕ) (none : TextGlyph) (x : hb_glyph_info_t) (now : List hb_glyph_info_t) → i < length text
    → x ≡ line_glyph face features (get_or text i none) → after ≡ now ++ x ∷ []
    → now ≡ map (line_glyph face features) (take i text)
    → after ≡ map (line_glyph face features) (take (i + 1) text)
line_more face features text i none x now low value pushed was =
    pushed
    ∙ (ap (λ (gs : List hb_glyph_info_t). gs ++ x ∷ []) was
    ∙ sym (map_more (line_glyph face features) text i none low
    ∙ ap (λ (y : hb_glyph_info_t). map (line_glyph face features) (take i text) ++ y ∷ []) (sym value)))

-- glyphs that go into an empty line are the line
pub filled : (most : ℕ) (ops : ℤ) (d : Direction) (gs : List hb_glyph_info_t)
    → with_cursor (with_glyphs_in (with_direction (empty_buffer most ops) d) gs) 0
    ≡ with_line (with_direction (empty_buffer most ops) d) gs
filled most ops d gs = ap (λ (line : List hb_glyph_info_t). with_line (with_direction (empty_buffer most ops) d) line) (append-nil gs)

-- where no feature is `kern` none of them is found to be
none_found : (features : List Feature) (c : ℕ) → list_any is_kern features ≡ false → find (λ f. is_kern f && holds c f) features ≡ None
none_found [] c none = refl
none_found (f ∷ features) c none =
    let both = or_parts (is_kern f) (list_any is_kern features) none in
    ap (λ (t : Bool). cond (t && holds c f) (Some f) (find (λ f. is_kern f && holds c f) features)) both.0
    ∙ none_found features c both.1

-- and each cluster is kerned
pub kerned_unasked : (features : List Feature) (c : ℕ) → list_any is_kern features ≡ false → is_kerned_at features c ≡ true
kerned_unasked features c none =
    ap (λ (o : Option Feature). option_map_or is_on o true)
    (none_found (reverse features) c
    (sym (list_any-IsPermutation is_kern features (reverse features) (IsPermutation-reverse features)) ∙ none))
