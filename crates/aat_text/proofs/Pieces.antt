-- The clusters of a text as their characters.
use Rattle.std.proofs.Common.{◌≡◌, ℕ, ◌+◌, ◌≤◌, Bool, true, false, ◌&&◌, List, [], ◌∷◌, ◌++◌, length, map, refl, sym, ap, ap₂, ◌∙◌, append_assoc, length-append, arith}
use Rattle.std.proofs.Math.Utf8.{scalar, scalars}
use Rattle.std.proofs.lemmas.List.{map-append}
use Rattle.std.proofs.lemmas.Str.{chars-encodes, encodes-append, length-le-encodes, scalars-chars}
use Rattle.std.specs.List.{concat}
use Rattle.std.specs.Prelude.{encode_utf8_all, if◌then◌else◌}
use Rattle.std.specs.Str.{chars}
use Rattle.unicode_segmentation.specs.Grapheme.{graphemes, is_grapheme_break}
use Rattle.unicode_segmentation.specs.Segments.{Rule, cut, prepend, segments}
use Rattle.aat_face.specs.Faces.{FaceValue}
use Rattle.aat_text.specs.Places.{count_in}
use Rattle.aat_text.specs.TextGlyphs.{text_glyph}
use Rattle.aat_text.specs.TextLaws.{CharactersHaveGlyphs, without_cluster}
use Rattle.aat_text.specs.declared.unit.ClusterUnit.{ClusterUnit}
use Rattle.aat_text.specs.declared.unit.ClusterUnit.TheVariants.{Bytes, Characters}
use Rattle.aat_text.proofs.Placed.{glyphs_from}

-- each piece has a character
abbrev pub AreSome : List (List ℕ) → Type 0
AreSome [] = Unit {0}
AreSome (piece ∷ pieces) = (1 ≤ length piece) × AreSome pieces

concat-prepend : (part : List ℕ) (pieces : List (List ℕ)) → concat (prepend part pieces) ≡ part ++ concat pieces
concat-prepend part [] = refl
concat-prepend part (piece ∷ pieces) = append_assoc part piece (concat pieces)

some-prepend : (c : ℕ) (pieces : List (List ℕ)) → AreSome pieces → AreSome (prepend (c ∷ []) pieces)
some-prepend c [] h = (omega arith, tt)
some-prepend c (piece ∷ pieces) h = (omega arith, h.1)

-- what is cut makes up the characters, and no piece is empty
pub concat-cut : (rule : Rule) (before cs after : List ℕ) → concat (cut rule before cs after) ≡ cs
unfolding cut
concat-cut rule before [] after = refl
concat-cut rule before (c ∷ cs) after =
    joined (rule (c ∷ before) (cs ++ after)) (cut rule (c ∷ before) cs after) ∙ ap (λ t. c ∷ t) (concat-cut rule (c ∷ before) cs after)
  where
    joined : (b : Bool) (rest : List (List ℕ)) → concat (if b then (c ∷ []) ∷ rest else prepend (c ∷ []) rest) ≡ c ∷ concat rest
    joined true rest = refl
    joined false rest = concat-prepend (c ∷ []) rest

some-cut : (rule : Rule) (before cs after : List ℕ) → AreSome (cut rule before cs after)
unfolding cut
some-cut rule before [] after = tt
some-cut rule before (c ∷ cs) after = joined (rule (c ∷ before) (cs ++ after)) (cut rule (c ∷ before) cs after) (some-cut rule (c ∷ before) cs after)
  where
    joined : (b : Bool) (rest : List (List ℕ)) → AreSome rest → AreSome (if b then (c ∷ []) ∷ rest else prepend (c ∷ []) rest)
    joined true rest h = (omega arith, h)
    joined false rest h = some-prepend c rest h

-- the clusters of a text as characters: none is empty, and they make up those of the text
pub clusters_as_characters : (text : List ℕ)
    → (pieces : List (List ℕ)) × (graphemes true text ≡ map encode_utf8_all pieces) × (concat pieces ≡ chars text) × AreSome pieces
unfolding segments
clusters_as_characters text = (
  cut (is_grapheme_break true) [] (chars text) [],
  refl,
  concat-cut (is_grapheme_break true) [] (chars text) [],
  some-cut (is_grapheme_break true) [] (chars text) [],
)

-- the characters of one part and of the other
pub scalars-parts : (cs ds : List ℕ) → scalars (cs ++ ds) ≡ true → (scalars cs ≡ true) × (scalars ds ≡ true)
scalars-parts [] ds h = (refl, h)
scalars-parts (c ∷ cs) ds h =
    let both = parts (scalar c) (scalars (cs ++ ds)) h in
    let rest = scalars-parts cs ds both.1 in
    (ap₂ ◌&&◌ both.0 rest.0, rest.1)
  where
    parts : (a b : Bool) → (a && b) ≡ true → (a ≡ true) × (b ≡ true)
    parts true b e = (refl, e)
    parts false b e = cc

-- a piece counts at least 1, and behind it the rest
pub count_some : (unit : ClusterUnit) (piece : List ℕ) → scalars piece ≡ true → 1 ≤ length piece → 1 ≤ count_in unit (encode_utf8_all piece)
count_some Bytes piece s h = omega (arith, length-le-encodes piece)
count_some Characters piece s h = omega (arith, ap length (chars-encodes piece s))

pub count-append : (unit : ClusterUnit) (cs ds : List ℕ) → scalars (cs ++ ds) ≡ true
    → count_in unit (encode_utf8_all (cs ++ ds)) ≡ count_in unit (encode_utf8_all cs) + count_in unit (encode_utf8_all ds)
count-append Bytes cs ds s = ap length (encodes-append cs ds) ∙ length-append (encode_utf8_all cs) (encode_utf8_all ds)
count-append Characters cs ds s =
    let parts = scalars-parts cs ds s in
    ap length (chars-encodes (cs ++ ds) s) ∙ length-append cs ds
    ∙ ap₂ ◌+◌ (ap length (sym (chars-encodes cs parts.0))) (ap length (sym (chars-encodes ds parts.1)))

-- ---- the glyphs of the characters

unplaced_glyphs : (face : FaceValue) (place : ℕ) (cs : List ℕ) → map without_cluster (map (text_glyph face place) cs) ≡ map (text_glyph face 0) cs
unplaced_glyphs face place [] = refl
unplaced_glyphs face place (c ∷ cs) = ap (λ t. text_glyph face 0 c ∷ t) (unplaced_glyphs face place cs)

unplaced_from : (face : FaceValue) (unit : ClusterUnit) (place : ℕ) (pieces : List (List ℕ)) → scalars (concat pieces) ≡ true
    → map without_cluster (glyphs_from face unit place (map encode_utf8_all pieces)) ≡ map (text_glyph face 0) (concat pieces)
unplaced_from face unit place [] s = refl
unplaced_from face unit place (piece ∷ pieces) s =
    let parts = scalars-parts piece (concat pieces) s in
    map-append without_cluster (map (text_glyph face place) (chars (encode_utf8_all piece))) _
    ∙ ap₂ ◌++◌ (unplaced_glyphs face place (chars (encode_utf8_all piece)) ∙ ap (map (text_glyph face 0)) (chars-encodes piece parts.0))
    (unplaced_from face unit (place + count_in unit (encode_utf8_all piece)) pieces parts.1)
    ∙ sym (map-append (text_glyph face 0) piece (concat pieces))

pub characters_have_glyphs : CharactersHaveGlyphs
characters_have_glyphs face unit text u =
    let made = clusters_as_characters text in
    ap (λ ps. map without_cluster (glyphs_from face unit 0 ps)) made.1
    ∙ unplaced_from face unit 0 made.0 (ap scalars made.2 ∙ scalars-chars text u)
    ∙ ap (map (text_glyph face 0)) made.2
