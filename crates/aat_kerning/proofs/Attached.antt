-- One step of the attachment of all glyphs.
use Rattle.std.proofs.Common.{◌≡◌, ◌∙◌, ap, sym, refl, ℕ, ◌<◌, ◌≤◌, ◌+◌, List, [], ◌++◌, Option, Some, None, map, take, drop, length, get_or, set, arith}
use Rattle.std.specs.Prelude.{option_map, unwrap_or, slice_get}
use Rattle.std.proofs.lemmas.List.{take_all, drop_all, append-nil, length-map, length-append, length-take, length-drop}
use Rattle.std.proofs.lemmas.List.Edits.{map_over_more}
use Rattle.std.proofs.lemmas.Option.{get_or_from_slice_get}
use Rattle.aat_buffer.specs.Buffer.{Buffer, position_list, with_position}
use Rattle.aat_glyph.specs.declared.glyph.GlyphPosition.{GlyphPosition}
use Rattle.aat_kerning_machines.specs.Positions.{on_positions}

-- the first i positions are changed
abbrev pub on_first : (GlyphPosition → GlyphPosition) → ℕ → Option (List GlyphPosition) → Option (List GlyphPosition)
on_first f i o = option_map (λ qs. map f (take i qs) ++ drop i qs) o

-- the same of a buffer
abbrev pub on_first_positions : (GlyphPosition → GlyphPosition) → ℕ → Buffer → Buffer
on_first_positions f i b = record b { positions = on_first f i b.positions }

none_changed : (f : GlyphPosition → GlyphPosition) (o : Option (List GlyphPosition)) → o ≡ on_first f 0 o
none_changed f None = refl
none_changed f (Some qs) = refl

pub attached_none : (f : GlyphPosition → GlyphPosition) (b : Buffer) → b ≡ on_first_positions f 0 b
attached_none f b = ap (λ (o : Option (List GlyphPosition)). record b { positions = o }) (none_changed f b.positions)

first_more :
    (f : GlyphPosition → GlyphPosition) (i : ℕ) (o : Option (List GlyphPosition)) (x : GlyphPosition)
    → i < length (unwrap_or o []) → x ≡ get_or (unwrap_or (on_first f i o) []) i x
    → Some (set (unwrap_or (on_first f i o) []) i (f x)) ≡ on_first f (i + 1) o
first_more f i None x low read = absurd (omega (arith, low))
first_more f i (Some qs) x low read = ap Some (map_over_more f qs (map f (take i qs) ++ drop i qs) i x low refl read)

-- the position at i, which is x, is changed to y
pub attached_more :
    (f : GlyphPosition → GlyphPosition) (start now : Buffer) (i : ℕ) (x y : GlyphPosition)
    → i < length (position_list start) → now ≡ on_first_positions f i start
    → slice_get (position_list now) i ≡ Some x → y ≡ f x → with_position now i y ≡ on_first_positions f (i + 1) start
attached_more f start now i x y low was read wrote =
    let ys = position_list (on_first_positions f i start) in
    let found : x ≡ get_or ys i x =
    sym (get_or_from_slice_get (position_list now) i x x read) ∙ ap (λ (b : Buffer). get_or (position_list b) i x) was in
    ap (λ (b : Buffer). with_position b i y) was
    ∙ ap (with_position (on_first_positions f i start) i) wrote
    ∙ ap (λ (o : Option (List GlyphPosition)). record start { positions = o }) (first_more f i start.positions x low found)

all_changed :
    (f : GlyphPosition → GlyphPosition) (i : ℕ) (o : Option (List GlyphPosition)) → length (unwrap_or o []) ≤ i
    → on_first f i o ≡ option_map (λ qs. map f qs) o
all_changed f i None past = refl
all_changed f i (Some qs) past =
    ap (λ ps. Some (map f ps ++ drop i qs)) (take_all i qs past)
    ∙ ap (λ ps. Some (map f qs ++ ps)) (drop_all i qs past)
    ∙ ap Some (append-nil (map f qs))

pub attached_all :
    (f : GlyphPosition → GlyphPosition) (start now : Buffer) (i : ℕ) → length (position_list start) ≤ i
    → now ≡ on_first_positions f i start → now ≡ on_positions f start
attached_all f start now i past was =
    was ∙ ap (λ (o : Option (List GlyphPosition)). record start { positions = o }) (all_changed f i start.positions past)

first_long :
    (f : GlyphPosition → GlyphPosition) (i : ℕ) (o : Option (List GlyphPosition))
    → length (unwrap_or (on_first f i o) []) ≡ length (unwrap_or o [])
first_long f i None = refl
first_long f i (Some qs) =
    length-append (map f (take i qs)) (drop i qs)
    ∙ omega (arith, length-map (take i qs) f, length-take i qs, length-drop i qs)

-- there are as many as before
pub attached_places :
    (f : GlyphPosition → GlyphPosition) (start now : Buffer) (i : ℕ) → now ≡ on_first_positions f i start
    → length (position_list now) ≡ length (position_list start)
attached_places f start now i was = ap (λ (b : Buffer). length (position_list b)) was ∙ first_long f i start.positions
