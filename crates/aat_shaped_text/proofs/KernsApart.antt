-- Whether a font kerns pairs along the line, or kerns at all, by the table that is in use.
use Rattle.std.proofs.Common.{◌≡◌, ◌∙◌, ap, refl, sym, Bool, true, false, List, [], ◌∷◌, ◌&&◌, ◌||◌, None, map, if◌then◌else◌}
use Rattle.std.specs.Prelude.{is_some}
use Rattle.std.specs.List.{list_all, list_any}
use Rattle.std.proofs.lemmas.Bool.{and_parts}
use Rattle.aat_font.specs.Face.{kern_in, kerx_in, tables_of}
use Rattle.aat_font.specs.declared.face.hb_font_t.{hb_font_t}
use Rattle.aat_glyph.specs.declared.glyph.Direction.{Direction}
use Rattle.aat_kerning.specs.Positioning.{is_for_direction, kerning_of_kern_subtable, kerning_of_kerx_subtable}
use Rattle.aat_shaped_text.specs.Breaks.{kernings_of, kerns_apart, kerns_by_pairs, kerns_pairs_along}

all_made : {X Y : Type 0} (test : Y → Bool) (make : X → Y) (xs : List X)
    → list_all (λ x. test (make x)) xs ≡ list_all test (map make xs)
all_made test make [] = refl
all_made test make (x ∷ xs) = ap (λ (t : Bool). test (make x) && t) (all_made test make xs)

pub by_kerx :
    (face : hb_font_t) (d : Direction) → is_some (tables_of face).kerx ≡ true
    → list_all (λ s. kerns_pairs_along d (kerning_of_kerx_subtable 8 None s)) (kerx_in (tables_of face).kerx) ≡ kerns_apart face d
by_kerx face d is =
    all_made (kerns_pairs_along d) (kerning_of_kerx_subtable 8 (tables_of face).ankr) (kerx_in (tables_of face).kerx)
    ∙ ap (λ (t : Bool). list_all (kerns_pairs_along d)
    (if t then map (kerning_of_kerx_subtable 8 (tables_of face).ankr) (kerx_in (tables_of face).kerx)
    else map (kerning_of_kern_subtable 8) (kern_in (tables_of face).kern))) (sym is)

pub by_kern :
    (face : hb_font_t) (d : Direction) → is_some (tables_of face).kerx ≡ false
    → list_all (λ s. kerns_pairs_along d (kerning_of_kern_subtable 8 s)) (kern_in (tables_of face).kern) ≡ kerns_apart face d
by_kern face d is =
    all_made (kerns_pairs_along d) (kerning_of_kern_subtable 8) (kern_in (tables_of face).kern)
    ∙ ap (λ (t : Bool). list_all (kerns_pairs_along d)
    (if t then map (kerning_of_kerx_subtable 8 (tables_of face).ankr) (kerx_in (tables_of face).kerx)
    else map (kerning_of_kern_subtable 8) (kern_in (tables_of face).kern))) (sym is)

any_made : {X Y : Type 0} (test : Y → Bool) (make : X → Y) (xs : List X)
    → list_any (λ x. test (make x)) xs ≡ list_any test (map make xs)
any_made test make [] = refl
any_made test make (x ∷ xs) = ap (λ (t : Bool). test (make x) || t) (any_made test make xs)

pub some_by_kerx :
    (face : hb_font_t) (d : Direction) → is_some (tables_of face).kerx ≡ true
    → list_any (λ s. is_for_direction (kerning_of_kerx_subtable 8 None s) d) (kerx_in (tables_of face).kerx)
    ≡ list_any (λ k. is_for_direction k d) (kernings_of face)
some_by_kerx face d is =
    any_made (λ k. is_for_direction k d) (kerning_of_kerx_subtable 8 (tables_of face).ankr) (kerx_in (tables_of face).kerx)
    ∙ ap (λ (t : Bool). list_any (λ k. is_for_direction k d)
    (if t then map (kerning_of_kerx_subtable 8 (tables_of face).ankr) (kerx_in (tables_of face).kerx)
    else map (kerning_of_kern_subtable 8) (kern_in (tables_of face).kern))) (sym is)

pub some_by_kern :
    (face : hb_font_t) (d : Direction) → is_some (tables_of face).kerx ≡ false
    → list_any (λ s. is_for_direction (kerning_of_kern_subtable 8 s) d) (kern_in (tables_of face).kern)
    ≡ list_any (λ k. is_for_direction k d) (kernings_of face)
some_by_kern face d is =
    any_made (λ k. is_for_direction k d) (kerning_of_kern_subtable 8) (kern_in (tables_of face).kern)
    ∙ ap (λ (t : Bool). list_any (λ k. is_for_direction k d)
    (if t then map (kerning_of_kerx_subtable 8 (tables_of face).ankr) (kerx_in (tables_of face).kerx)
    else map (kerning_of_kern_subtable 8) (kern_in (tables_of face).kern))) (sym is)

-- where pairs along the line alone kern, each subtable that is for the direction is of them
pub pairs_apart : (face : hb_font_t) (d : Direction) → kerns_by_pairs face d ≡ true → kerns_apart face d ≡ true
pairs_apart face d pairs = (and_parts (list_any (λ k. is_for_direction k d) (kernings_of face)) (kerns_apart face d) pairs).1
