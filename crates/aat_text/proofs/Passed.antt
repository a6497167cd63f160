-- The glyphs of a text, made of its characters one by one.
use Rattle.std.proofs.Common.{◌≡◌, ℕ, ◌+◌, ◌≤◌, Bool, true, false, List, [], ◌∷◌, ◌++◌, length, map, refl, sym, ap, ap₂, ◌∙◌, append_assoc, append-nil, arith}
use Rattle.std.proofs.Math.Utf8.{scalars}
use Rattle.std.proofs.lemmas.Str.{chars-encodes, chars_past_char, length-encode, scalars-chars}
use Rattle.std.specs.List.{concat}
use Rattle.std.specs.Prelude.{encode_utf8, encode_utf8_all, if◌then◌else◌}
use Rattle.std.specs.Str.{chars, IsUtf8}
use Rattle.unicode_segmentation.specs.Grapheme.{is_grapheme_break}
use Rattle.unicode_segmentation.specs.Segments.{cut, prepend, segments}
use Rattle.aat_face.specs.Faces.{FaceValue}
use Rattle.aat_shaped_text.specs.declared.text.TextGlyph.{TextGlyph}
use Rattle.aat_text.specs.Places.{count_in, width_in}
use Rattle.aat_text.specs.TextGlyphs.{text_glyph, text_of}
use Rattle.aat_text.specs.declared.unit.ClusterUnit.{ClusterUnit}
use Rattle.aat_text.specs.declared.unit.ClusterUnit.TheVariants.{Bytes, Characters}
use Rattle.aat_text.specs.inside.ClusterStarts.{begins_behind}
use Rattle.aat_text.proofs.Chars.{chars_of_empty}
use Rattle.aat_text.proofs.Pieces.{concat-cut, count-append, scalars-parts}
use Rattle.aat_text.proofs.Placed.{glyphs_from}

-- where the cluster of a character behind others begins, and where that of the last of them does
abbrev pub cluster_start : List ℕ → ℕ → ℕ → ℕ → ℕ
cluster_start before cluster place c = if begins_behind before c then place else cluster

-- the glyphs of characters behind others
abbrev pub glyphs_behind : FaceValue → ClusterUnit → List ℕ → ℕ → ℕ → List ℕ → List TextGlyph
glyphs_behind face unit before cluster place [] = []
glyphs_behind face unit before cluster place (c ∷ cs) =
    text_glyph face (cluster_start before cluster place c) c
    ∷ glyphs_behind face unit (c ∷ before) (cluster_start before cluster place c) (place + width_in unit c) cs

-- how much some characters count
abbrev size : ClusterUnit → List ℕ → ℕ
size unit cs = count_in unit (encode_utf8_all cs)

size_one : (unit : ClusterUnit) (c : ℕ) → scalars (c ∷ []) ≡ true → size unit (c ∷ []) ≡ width_in unit c
size_one Bytes c s = ap length (append-nil (encode_utf8 c)) ∙ length-encode c
size_one Characters c s = ap length (chars-encodes (c ∷ []) s)

module _ (face : FaceValue) (unit : ClusterUnit) where
  -- the glyphs of clusters, of which the first has a place of its own
  abbrev glyphs_in : ℕ → ℕ → List (List ℕ) → List TextGlyph
  glyphs_in cluster place [] = []
  glyphs_in cluster place (piece ∷ pieces) =
      map (text_glyph face cluster) piece ++ glyphs_in (place + size unit piece) (place + size unit piece) pieces

  in_pieces : (place : ℕ) (pieces : List (List ℕ)) → scalars (concat pieces) ≡ true → glyphs_in place place pieces ≡ glyphs_from face unit place (map encode_utf8_all pieces)
  in_pieces place [] s = refl
  in_pieces place (piece ∷ pieces) s =
      let parts = scalars-parts piece (concat pieces) s in
      ap₂ ◌++◌ (ap (map (text_glyph face place)) (sym (chars-encodes piece parts.0))) (in_pieces (place + size unit piece) pieces parts.1)

  -- a character before the first cluster
  in_front : (cluster place c : ℕ) (pieces : List (List ℕ)) → scalars (c ∷ concat pieces) ≡ true
      → glyphs_in cluster place (prepend (c ∷ []) pieces) ≡ text_glyph face cluster c ∷ glyphs_in cluster (place + width_in unit c) pieces
  in_front cluster place c [] s = refl
  in_front cluster place c (piece ∷ pieces) s =
      let first = scalars-parts (c ∷ []) (concat (piece ∷ pieces)) s in
      let front = scalars-parts (c ∷ piece) (concat pieces) s in
      let all = count-append unit (c ∷ []) piece front.0 in
      let one = size_one unit c first.0 in
      let next : place + size unit (c ∷ piece) ≡ place + width_in unit c + size unit piece = omega arith in
      ap (λ n. text_glyph face cluster c ∷ map (text_glyph face cluster) piece ++ glyphs_in n n pieces) next

  -- the clusters of characters behind others, of which the first one begins at the first character
  in_cut : (before : List ℕ) (cluster place c : ℕ) (cs : List ℕ) → scalars (c ∷ cs) ≡ true
      → glyphs_in cluster place (cut (is_grapheme_break true) before (c ∷ cs) [])
      ≡ text_glyph face cluster c ∷ glyphs_behind face unit (c ∷ before) cluster (place + width_in unit c) cs
  unfolding cut is_grapheme_break
  in_cut before cluster place c [] s = one (is_grapheme_break true (c ∷ before) [])
    where
      one : (b : Bool) → glyphs_in cluster place (if b then (c ∷ []) ∷ [] else prepend (c ∷ []) []) ≡ text_glyph face cluster c ∷ []
      one true = refl
      one false = refl
  in_cut before cluster place c (d ∷ ds) s =
      let parts = scalars-parts (c ∷ []) (d ∷ ds) s in
      let whole = ap (λ cs. scalars (c ∷ cs)) (concat-cut (is_grapheme_break true) (c ∷ before) (d ∷ ds) []) ∙ s in
      joined (cut (is_grapheme_break true) (c ∷ before) (d ∷ ds) []) (begins_behind (c ∷ before) d) (size_one unit c parts.0) whole
      (λ cluster place. in_cut (c ∷ before) cluster place d ds parts.1)
    where
      joined : (rest : List (List ℕ)) (b : Bool) → size unit (c ∷ []) ≡ width_in unit c → scalars (c ∷ concat rest) ≡ true
          → ((cluster place : ℕ) → glyphs_in cluster place rest
          ≡ text_glyph face cluster d ∷ glyphs_behind face unit (d ∷ (c ∷ before)) cluster (place + width_in unit d) ds)
          → glyphs_in cluster place (if b then (c ∷ []) ∷ rest else prepend (c ∷ []) rest)
          ≡ text_glyph face cluster c ∷ text_glyph face (if b then place + width_in unit c else cluster) d
          ∷ glyphs_behind face unit (d ∷ (c ∷ before)) (if b then place + width_in unit c else cluster) (place + width_in unit c + width_in unit d) ds
      joined rest true one t deeper =
          ap (λ n. text_glyph face cluster c ∷ glyphs_in (place + n) (place + n) rest) one
          ∙ ap (λ gs. text_glyph face cluster c ∷ gs) (deeper (place + width_in unit c) (place + width_in unit c))
      joined rest false one t deeper =
          in_front cluster place c rest t ∙ ap (λ gs. text_glyph face cluster c ∷ gs) (deeper cluster (place + width_in unit c))

  -- the glyphs of a text are those of its characters behind nothing
  pub glyphs_at_start : (text : List ℕ) → IsUtf8 text → glyphs_behind face unit [] 0 0 (chars text) ≡ text_of face unit text
  unfolding segments is_grapheme_break cut
  glyphs_at_start text u =
      let pieces = cut (is_grapheme_break true) [] (chars text) [] in
      let whole = ap scalars (concat-cut (is_grapheme_break true) [] (chars text) []) ∙ scalars-chars text u in
      first (chars text) (scalars-chars text u) ∙ in_pieces 0 pieces whole
    where
      first : (cs : List ℕ) → scalars cs ≡ true → glyphs_behind face unit [] 0 0 cs ≡ glyphs_in 0 0 (cut (is_grapheme_break true) [] cs [])
      first [] s = refl
      first (c ∷ cs) s = sym (in_cut [] 0 0 c cs s)

  -- one more character
  pub glyphs_past : (before : List ℕ) (cluster place c start next : ℕ) (bs rest : List ℕ) (done made all : List TextGlyph) → IsUtf8 bs
      → bs ≡ encode_utf8 c ++ rest → start ≡ cluster_start before cluster place c → next ≡ place + width_in unit c → made ≡ done ++ text_glyph face start c ∷ []
      → done ++ glyphs_behind face unit before cluster place (chars bs) ≡ all → made ++ glyphs_behind face unit (c ∷ before) start next (chars rest) ≡ all
  glyphs_past before cluster place c start next bs rest done made all u e s n put h =
      ap₂ (λ m k. m ++ glyphs_behind face unit (c ∷ before) start k (chars rest)) put n
      ∙ append_assoc done (text_glyph face start c ∷ []) _
      ∙ ap (λ k. done ++ text_glyph face k c ∷ glyphs_behind face unit (c ∷ before) k (place + width_in unit c) (chars rest)) s
      ∙ ap (λ cs. done ++ glyphs_behind face unit before cluster place cs) (sym (chars_past_char bs rest c u e)) ∙ h

  -- no character is left
  pub glyphs_done : (before : List ℕ) (cluster place : ℕ) (bs : List ℕ) (done all : List TextGlyph) → length bs ≡ 0
      → done ++ glyphs_behind face unit before cluster place (chars bs) ≡ all → done ≡ all
  glyphs_done before cluster place bs done all e h =
      sym (append-nil done) ∙ ap (λ cs. done ++ glyphs_behind face unit before cluster place cs) (sym (chars_of_empty bs e)) ∙ h

-- a cluster begins at a place or before it
pub starts_within : (begins : Bool) (place cluster start : ℕ) → cluster ≤ place → start ≡ (if begins then place else cluster) → start ≤ place
starts_within true place cluster start le e = omega arith
starts_within false place cluster start le e = omega arith
