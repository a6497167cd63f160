-- The glyphs of a text in which each character is a cluster by itself.
use Rattle.std.proofs.Common.{◌≡◌, ◌≢◌, ℕ, zero, suc, ◌+◌, Bool, true, false, ◌&&◌, cond, arith, Option, Some, None, List, [], ◌∷◌, ◌++◌, length, map, refl, sym, ap, ap₂, ◌∙◌, append_assoc, append-nil}
use Rattle.std.proofs.lemmas.Bool.{and_parts}
use Rattle.std.proofs.lemmas.List.{map-append}
use Rattle.std.proofs.lemmas.Str.{chars_past_char}
use Rattle.std.specs.List.{find, flat_map, list_all}
use Rattle.std.specs.Option.{option_map_or}
use Rattle.std.specs.Prelude.{encode_utf8, is_some, if◌then◌else◌}
use Rattle.std.specs.Str.{chars, IsUtf8}
use Rattle.aat_characters.specs.Composed.{normalized}
use Rattle.aat_characters.specs.Decomposed.{decomposed_character, decomposed_part, has_glyph, has_selector, stand_in, ways_of_parts}
use Rattle.aat_characters.specs.Parts.{parts_of}
use Rattle.aat_characters.specs.PlacedCharacters.{has_mark, placed, written_as}
use Rattle.aat_characters.specs.Apart.{is_apart}
use Rattle.aat_characters.specs.declared.placed_character.PlacedCharacter.{PlacedCharacter}
use Rattle.aat_characters.proofs.Apart.{apart_merged, apart_normalized, kept_single}
use Rattle.aat_face.specs.Faces.{FaceValue, glyph_of_character}
use Rattle.aat_glyph.specs.declared.glyph.Direction.{Direction}
use Rattle.aat_lookup.specs.declared.glyph_id.GlyphId.{GlyphId}
use Rattle.aat_text.specs.Places.{width_in, with_places}
use Rattle.aat_text.specs.Prepared.{by_level, exchanged, exchanged_at, own_characters, placed_glyph}
use Rattle.aat_text.specs.declared.clusters.ClusterLevel.{ClusterLevel}
use Rattle.aat_text.specs.declared.clusters.ClusterLevel.TheVariants.{Graphemes, Characters}
use Rattle.aat_text.specs.declared.unit.ClusterUnit.{ClusterUnit}
use Rattle.aat_text.specs.inside.Lone.{IsWrittenAlone, exchanged_glyphs, lone_glyphs, stand_apart}
use Rattle.aat_text.specs.inside.Turning.{characters_when}
use Rattle.aat_text.proofs.Chars.{chars_of_empty}

-- characters with places stand apart as they do without
placed_apart : (unit : ClusterUnit) (place : ℕ) (cs : List ℕ) → list_all is_apart cs ≡ true
    → list_all (λ c. is_apart c.character) (map placed (with_places (width_in unit) place cs)) ≡ true
placed_apart unit place [] h = refl
placed_apart unit place (c ∷ cs) h =
    let both = and_parts (is_apart c) (list_all is_apart cs) h in
    ap (λ b. b && list_all (λ c. is_apart c.character) (map placed (with_places (width_in unit) (place + width_in unit c) cs))) both.0
    ∙ placed_apart unit (place + width_in unit c) cs both.1

-- so do they as they are exchanged
exchanged_apart : (has : ℕ → Bool) (direction : Direction) (unit : ClusterUnit) (place : ℕ) (cs : List ℕ)
    → list_all (λ c. is_apart (exchanged has direction c)) cs ≡ true
    → list_all (λ c. is_apart c.character) (map (exchanged_at has direction) (map placed (with_places (width_in unit) place cs))) ≡ true
exchanged_apart has direction unit place [] h = refl
exchanged_apart has direction unit place (c ∷ cs) h =
    let here = is_apart (exchanged has direction c) in
    let both = and_parts here (list_all (λ c. is_apart (exchanged has direction c)) cs) h in
    let next = place + width_in unit c in
    ap (λ b. b && list_all (λ c. is_apart c.character) (map (exchanged_at has direction) (map placed (with_places (width_in unit) next cs)))) both.0
    ∙ exchanged_apart has direction unit next cs both.1

-- what holds of each in two ways holds in the one and the other
first_of : (p q : ℕ → Bool) (cs : List ℕ) → list_all (λ c. p c && q c) cs ≡ true → list_all p cs ≡ true
first_of p q [] h = refl
first_of p q (c ∷ cs) h =
    let both = and_parts (p c && q c) (list_all (λ c. p c && q c) cs) h in
    ap (λ b. b && list_all p cs) (and_parts (p c) (q c) both.0).0 ∙ first_of p q cs both.1

second_of : (p q : ℕ → Bool) (cs : List ℕ) → list_all (λ c. p c && q c) cs ≡ true → list_all q cs ≡ true
second_of p q [] h = refl
second_of p q (c ∷ cs) h =
    let both = and_parts (p c && q c) (list_all (λ c. p c && q c) cs) h in
    ap (λ b. b && list_all q cs) (and_parts (p c) (q c) both.0).1 ∙ second_of p q cs both.1

level_same : (level : ClusterLevel) (cs : List PlacedCharacter) → list_all (λ c. is_apart c.character) cs ≡ true → by_level level cs ≡ cs
level_same Graphemes cs h = apart_merged cs h
level_same Characters cs h = refl

map_flat : {X Y Z : Type 0} (f : Y → Z) (g : X → List Y) (xs : List X) → map f (flat_map g xs) ≡ flat_map (λ x. map f (g x)) xs
map_flat f g [] = refl
map_flat f g (x ∷ xs) = map-append f (g x) (flat_map g xs) ∙ ap (λ ys. map f (g x) ++ ys) (map_flat f g xs)

flat_map_of : {X Y Z : Type 0} (g : Y → List Z) (f : X → Y) (xs : List X) → flat_map g (map f xs) ≡ flat_map (λ x. g (f x)) xs
flat_map_of g f [] = refl
flat_map_of g f (x ∷ xs) = ap (λ zs. g (f x) ++ zs) (flat_map_of g f xs)

pub lone_text : (face : FaceValue) (turned : Bool) (direction : Direction) (level : ClusterLevel) (unit : ClusterUnit) (text : List ℕ)
    → turned ≡ false → stand_apart (has_glyph face) direction text ≡ true
    → flat_map (exchanged_glyphs face direction) (own_characters unit text) ≡ map (placed_glyph face) (characters_when (has_glyph face) turned direction level unit text)
lone_text face true direction level unit text f h = cc
lone_text face false direction level unit text f h =
    let has = has_glyph face in
    let own = own_characters unit text in
    let seen = map (exchanged_at has direction) own in
    let apart = placed_apart unit 0 (chars text) (first_of is_apart (λ c. is_apart (exchanged has direction c)) (chars text) h) in
    let apart_seen = exchanged_apart has direction unit 0 (chars text) (second_of is_apart (λ c. is_apart (exchanged has direction c)) (chars text) h) in
    sym
    (ap (λ cs. map (placed_glyph face) (normalized has (map (exchanged_at has direction) cs))) (level_same level own apart)
    ∙ (ap (map (placed_glyph face)) (apart_normalized has seen apart_seen)
    ∙ (map_flat (placed_glyph face) (λ c. normalized has (c ∷ [])) seen
    ∙ flat_map_of (lone_glyphs face) (exchanged_at has direction) own)))

module _ {X : Type 0} (f : PlacedCharacter → List X) (width : ℕ → ℕ) (done all now : List X) (place next : ℕ) (bs rest : List ℕ) (c : ℕ) where
  -- one more character is written
  pub lone_more : IsUtf8 bs → bs ≡ encode_utf8 c ++ rest → next ≡ place + width c → now ≡ done ++ f (placed (place, c))
      → done ++ flat_map f (map placed (with_places width place (chars bs))) ≡ all → now ++ flat_map f (map placed (with_places width next (chars rest))) ≡ all
  lone_more u e n put h =
      ap₂ (λ xs k. xs ++ flat_map f (map placed (with_places width k (chars rest)))) put n ∙ append_assoc done (f (placed (place, c))) _
      ∙ ap (λ cs. done ++ flat_map f (map placed (with_places width place cs))) (sym (chars_past_char bs rest c u e)) ∙ h

-- none is left
pub lone_done : {X : Type 0} (f : PlacedCharacter → List X) (width : ℕ → ℕ) (done all : List X) (place : ℕ) (bs : List ℕ) → length bs ≡ 0
    → done ++ flat_map f (map placed (with_places width place (chars bs))) ≡ all → done ≡ all
lone_done f width done all place bs e h =
    sym (append-nil done) ∙ ap (λ cs. done ++ flat_map f (map placed (with_places width place cs))) (sym (chars_of_empty bs e)) ∙ h

module _ (p : ℕ → Bool) (all : Bool) (bs : List ℕ) where
  -- whether characters stand apart is told of the first one and of those behind it
  pub apart_past : (rest : List ℕ) (c : ℕ) (one : Bool) → IsUtf8 bs → bs ≡ encode_utf8 c ++ rest → one ≡ p c
      → list_all p (chars bs) ≡ all → (one && list_all p (chars rest)) ≡ all
  apart_past rest c one u e is h =
      ap (λ b. b && list_all p (chars rest)) is ∙ ap (list_all p) (sym (chars_past_char bs rest c u e)) ∙ h

  -- none is left
  pub apart_done : length bs ≡ 0 → list_all p (chars bs) ≡ all → true ≡ all
  apart_done e h = ap (list_all p) (sym (chars_of_empty bs e)) ∙ h

-- a glyph that the font has is that of its character
pub kept_glyph : (face : FaceValue) (c : PlacedCharacter) → (placed_glyph face c).glyph_id ≢ 0 → placed_glyph face c ∷ [] ≡ lone_glyphs face c
kept_glyph face c h =
    sym (ap (map (placed_glyph face)) (kept_single (has_glyph face) c (there (glyph_of_character face c.character) h)))
  where
    there : (found : Option GlyphId) → option_map_or (λ glyph. glyph.0) found 0 ≢ 0 → is_some found ≡ true
    there (Some glyph) h = refl
    there None h = absurd (h refl)

-- ---- a character that is written as itself

module _ (has : ℕ → Bool) (c : PlacedCharacter) (alone : IsWrittenAlone c.character) where
  -- where the font lacks it, no other one is written
  unwritten : has c.character ≡ false → decomposed_character has true c ≡ c ∷ []
  unwritten missing =
      ap (λ parts. option_map_or (map (written_as c)) (cond (has c.character && true) (Some (c.character ∷ [])) (find (list_all has) (ways_of_parts parts))) (stand_in has c ∷ [])) alone.parts
      ∙ (ap (λ b. option_map_or (map (written_as c)) (cond (b && true) (Some (c.character ∷ [])) (cond (b && true) (Some (c.character ∷ [])) None)) (stand_in has c ∷ [])) missing
      ∙ ap₂ (λ s h. (if s && has 0x20 then record c { character = 0x20; space = Some c.character } else if h && has 0x2010 then written_as c 0x2010 else c) ∷ []) alone.space alone.hyphen)

  part_stays : has c.character ≡ false → decomposed_part has (c ∷ []) ≡ c ∷ []
  part_stays missing = by (has_selector (c ∷ []))
    where
      by : (b : Bool) → (if b then c ∷ [] else flat_map (decomposed_character has true) (c ∷ [])) ≡ c ∷ []
      by true = refl
      by false = append-nil (decomposed_character has true c) ∙ unwritten missing

  one_part : parts_of (λ part d. has_mark d) (c ∷ []) ≡ (c ∷ []) ∷ []
  one_part = by (has_mark c)
    where
      by : (b : Bool) → (if b then (c ∷ []) ∷ [] else (c ∷ []) ∷ []) ≡ (c ∷ []) ∷ []
      by true = refl
      by false = refl

  missing_single : has c.character ≡ false → normalized has (c ∷ []) ≡ c ∷ []
  missing_single missing =
      ap (flat_map (decomposed_part has)) one_part ∙ (append-nil (decomposed_part has (c ∷ [])) ∙ part_stays missing)

  alone_single : normalized has (c ∷ []) ≡ c ∷ []
  alone_single = by (has c.character) refl
    where
      by : (b : Bool) → has c.character ≡ b → normalized has (c ∷ []) ≡ c ∷ []
      by true e = kept_single has c e
      by false e = missing_single e

-- its glyph is that of the character, whatever its number
pub alone_glyph :
    (face : FaceValue) (c : PlacedCharacter) (id : ℕ) → id ≡ (placed_glyph face c).glyph_id → (id ≡ 0 → IsWrittenAlone c.character)
    → placed_glyph face c ∷ [] ≡ lone_glyphs face c
alone_glyph face c zero is alone = sym (ap (map (placed_glyph face)) (alone_single (has_glyph face) c (alone refl)))
alone_glyph face c (suc n) is alone = kept_glyph face c (λ e. omega (arith, is, e))
