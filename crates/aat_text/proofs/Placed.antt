-- What is made of the parts of a text that are left behind a place.
use Rattle.std.proofs.Common.{◌≡◌, ℕ, ◌+◌, ◌≤◌, true, false, List, [], ◌∷◌, ◌++◌, length, map, drop, Option, Some, None, refl, sym, ap, ap₂, ◌∙◌, append_assoc, append-nil, length-append, arith}
use Rattle.std.proofs.lemmas.Str.{chars_past_char, length-encode, len_utf8_bounds}
use Rattle.std.specs.List.{concat, cons_option, filter, filter_map, flat_map, zip}
use Rattle.std.specs.Prelude.{encode_utf8, option_and_then}
use Rattle.std.specs.Str.{chars, IsUtf8}
use Rattle.unicode_segmentation.specs.Grapheme.{graphemes, is_grapheme_break}
use Rattle.unicode_segmentation.proofs.SegmentsLemmas.{concat-segments}
use Rattle.aat_face.specs.Faces.{FaceValue}
use Rattle.aat_shaped_text.specs.declared.text.TextGlyph.{TextGlyph}
use Rattle.aat_text.specs.LineEnds.{end_before, end_between, line_end, line_ends, role_at_end, role_at_start}
use Rattle.aat_text.specs.Missing.{is_missing}
use Rattle.aat_text.specs.Places.{count_in, width_in, with_places}
use Rattle.aat_text.specs.TextGlyphs.{text_glyph}
use Rattle.aat_text.specs.declared.lines.LineEnd.{LineEnd}
use Rattle.aat_text.specs.declared.missing.MissingCharacter.{MissingCharacter}
use Rattle.aat_text.specs.declared.role.LineRole.{LineRole}
use Rattle.aat_text.specs.declared.unit.ClusterUnit.{ClusterUnit}
use Rattle.aat_text.specs.declared.unit.ClusterUnit.TheVariants.{Bytes, Characters}
use Rattle.aat_text.proofs.Chars.{chars_of_empty}

-- the glyphs of clusters from a place on
abbrev pub glyphs_from : FaceValue → ClusterUnit → ℕ → List (List ℕ) → List TextGlyph
glyphs_from face unit place pieces =
    flat_map (λ (place, piece). map (text_glyph face place) (chars piece)) (with_places (count_in unit) place pieces)

-- the characters that the font lacks from a place on
abbrev pub missing_from : FaceValue → ClusterUnit → ℕ → List ℕ → List MissingCharacter
missing_from face unit place cs =
    map (λ (place, character). record { place = place; character = character })
    (filter (λ (_, character). is_missing face character) (with_places (width_in unit) place cs))

-- the end of a line before a cluster, where a cluster of this role may stand before it
abbrev pub end_behind : Option LineRole → ℕ × List ℕ → Option LineEnd
end_behind before (place, piece) = option_and_then (λ role. line_end place (end_between role (role_at_start piece))) before

-- the ends of lines in clusters behind one of this role
abbrev pub ends_behind : Option LineRole → List (ℕ × List ℕ) → List LineEnd
ends_behind before [] = []
ends_behind before (cluster ∷ rest) = cons_option (end_behind before cluster) (ends_behind (Some (role_at_end cluster.1)) rest)

-- the same from a place on
abbrev pub ends_from : ClusterUnit → Option LineRole → ℕ → List (List ℕ) → List LineEnd
ends_from unit before place pieces = ends_behind before (with_places (count_in unit) place pieces)

module _ (face : FaceValue) (unit : ClusterUnit) (done all : List TextGlyph) (place : ℕ) where
  -- the glyphs of one more cluster are made
  pub glyphs_more : (next : ℕ) (piece : List ℕ) (pieces left : List (List ℕ)) (made : List TextGlyph) → left ≡ piece ∷ pieces
      → made ≡ done ++ map (text_glyph face place) (chars piece) → next ≡ place + count_in unit piece
      → done ++ glyphs_from face unit place left ≡ all → made ++ glyphs_from face unit next pieces ≡ all
  glyphs_more next piece pieces left made e put n h =
      ap₂ (λ m k. m ++ glyphs_from face unit k pieces) put n
      ∙ append_assoc done (map (text_glyph face place) (chars piece)) _
      ∙ ap (λ ps. done ++ glyphs_from face unit place ps) (sym e) ∙ h

  -- no cluster is left
  pub glyphs_all : (left : List (List ℕ)) → left ≡ [] → done ++ glyphs_from face unit place left ≡ all → done ≡ all
  glyphs_all left e h = sym (append-nil done) ∙ ap (λ ps. done ++ glyphs_from face unit place ps) (sym e) ∙ h

-- ---- room for places

-- the clusters of a text have its length
pub room_at_start : (text : List ℕ) (left : List (List ℕ)) → IsUtf8 text → left ≡ graphemes true text → 0 + length (concat left) ≤ length text
room_at_start text left u e =
    let all : length (concat left) ≡ length text = ap (λ ps. length (concat ps)) e ∙ ap length (concat-segments (is_grapheme_break true) text u) in
    omega arith

-- behind one of them less is left
pub room_more : (place count n : ℕ) (piece : List ℕ) (pieces left : List (List ℕ)) → left ≡ piece ∷ pieces → count ≤ length piece
    → place + length (concat left) ≤ n → place + count + length (concat pieces) ≤ n
room_more place count n piece pieces left e small h =
    let all : length (concat left) ≡ length piece + length (concat pieces) = ap (λ ps. length (concat ps)) e ∙ length-append piece (concat pieces) in
    omega arith

-- behind a character less is left
pub room_past_char : (unit : ClusterUnit) (place count n : ℕ) (bs rest : List ℕ) (c : ℕ) → bs ≡ encode_utf8 c ++ rest → count ≡ width_in unit c
    → place + length bs ≤ n → place + count + length rest ≤ n
room_past_char unit place count n bs rest c e w h =
    let all : length bs ≡ length (encode_utf8 c) + length rest = ap length e ∙ length-append (encode_utf8 c) rest in
    let small : width_in unit c ≤ length (encode_utf8 c) = width_fits unit c in
    omega arith
  where
    width_fits : (unit : ClusterUnit) (c : ℕ) → width_in unit c ≤ length (encode_utf8 c)
    width_fits Bytes c = omega (arith, length-encode c)
    width_fits Characters c = omega (arith, length-encode c, len_utf8_bounds c)

-- ---- missing characters

module _ (face : FaceValue) (unit : ClusterUnit) (done all made : List MissingCharacter) (place next : ℕ) (bs rest : List ℕ) (c : ℕ) where
  -- what is made of one more character, which is missing or not
  pub missing_here : IsUtf8 bs → bs ≡ encode_utf8 c ++ rest → next ≡ place + width_in unit c → is_missing face c ≡ true
      → made ≡ done ++ record { place = place; character = c } ∷ []
      → done ++ missing_from face unit place (chars bs) ≡ all → made ++ missing_from face unit next (chars rest) ≡ all
  missing_here u e n m put h =
      let past : done ++ missing_from face unit place (c ∷ chars rest) ≡ all = ap (λ cs. done ++ missing_from face unit place cs) (sym (chars_past_char bs rest c u e)) ∙ h in
      ap₂ (λ m k. m ++ missing_from face unit k (chars rest)) put n
      ∙ append_assoc done (record { place = place; character = c } ∷ []) (missing_from face unit (place + width_in unit c) (chars rest))
      ∙ rw m at past

  pub missing_there : IsUtf8 bs → bs ≡ encode_utf8 c ++ rest → next ≡ place + width_in unit c → is_missing face c ≡ false → made ≡ done
      → done ++ missing_from face unit place (chars bs) ≡ all → made ++ missing_from face unit next (chars rest) ≡ all
  missing_there u e n m put h =
      let past : done ++ missing_from face unit place (c ∷ chars rest) ≡ all = ap (λ cs. done ++ missing_from face unit place cs) (sym (chars_past_char bs rest c u e)) ∙ h in
      ap₂ (λ m k. m ++ missing_from face unit k (chars rest)) put n ∙ rw m at past

-- no character is left
pub missing_all : (face : FaceValue) (unit : ClusterUnit) (done all : List MissingCharacter) (place : ℕ) (bs : List ℕ) → length bs ≡ 0
    → done ++ missing_from face unit place (chars bs) ≡ all → done ≡ all
missing_all face unit done all place bs e h =
    sym (append-nil done) ∙ ap (λ cs. done ++ missing_from face unit place cs) (sym (chars_of_empty bs e)) ∙ h

-- ---- ends of lines

ends_between : (cluster : ℕ × List ℕ) (rest : List (ℕ × List ℕ)) → ends_behind (Some (role_at_end cluster.1)) rest ≡ filter_map end_before (zip (cluster ∷ rest) rest)
ends_between cluster [] = refl
ends_between cluster (next ∷ rest) = ap (cons_option (end_before (cluster, next))) (ends_between next rest)

-- the ends between neighbors are those behind each role
pub ends_at_start : (unit : ClusterUnit) (text : List ℕ) (left : List (List ℕ)) → left ≡ graphemes true text → ends_from unit None 0 left ≡ line_ends unit text
ends_at_start unit text left e = ap (ends_from unit None 0) e ∙ pairs (with_places (count_in unit) 0 (graphemes true text))
  where
    pairs : (clusters : List (ℕ × List ℕ)) → ends_behind None clusters ≡ filter_map end_before (zip clusters (drop 1 clusters))
    pairs [] = refl
    pairs (cluster ∷ rest) = ends_between cluster rest

module _ (unit : ClusterUnit) (done all : List LineEnd) (before : Option LineRole) (place : ℕ) where
  module _ (role : LineRole) (next : ℕ) (piece : List ℕ) (pieces left : List (List ℕ)) (made : List LineEnd) where
    -- what is made of one more cluster, before which a line may end or not
    pub ends_here : (found : LineEnd) → left ≡ piece ∷ pieces → role ≡ role_at_end piece → next ≡ place + count_in unit piece
        → Some found ≡ end_behind before (place, piece) → made ≡ done ++ found ∷ []
        → done ++ ends_from unit before place left ≡ all → made ++ ends_from unit (Some role) next pieces ≡ all
    ends_here found e r n is put h =
        let past : done ++ cons_option (end_behind before (place, piece)) (ends_from unit (Some (role_at_end piece)) (place + count_in unit piece) pieces) ≡ all =
        ap (λ ps. done ++ ends_from unit before place ps) (sym e) ∙ h in
        ap₂ (λ m k. m ++ ends_from unit (Some role) k pieces) put n ∙ append_assoc done (found ∷ []) _
        ∙ ap (λ last. done ++ found ∷ ends_from unit (Some last) (place + count_in unit piece) pieces) r
        ∙ rw (← is) at past

    pub ends_nowhere : left ≡ piece ∷ pieces → role ≡ role_at_end piece → next ≡ place + count_in unit piece
        → None ≡ end_behind before (place, piece) → made ≡ done
        → done ++ ends_from unit before place left ≡ all → made ++ ends_from unit (Some role) next pieces ≡ all
    ends_nowhere e r n is put h =
        let past : done ++ cons_option (end_behind before (place, piece)) (ends_from unit (Some (role_at_end piece)) (place + count_in unit piece) pieces) ≡ all =
        ap (λ ps. done ++ ends_from unit before place ps) (sym e) ∙ h in
        ap₂ (λ m k. m ++ ends_from unit (Some role) k pieces) put n
        ∙ ap (λ last. done ++ ends_from unit (Some last) (place + count_in unit piece) pieces) r
        ∙ rw (← is) at past

  -- no cluster is left
  pub ends_all : (left : List (List ℕ)) → left ≡ [] → done ++ ends_from unit before place left ≡ all → done ≡ all
  ends_all left e h = sym (append-nil done) ∙ ap (λ ps. done ++ ends_from unit before place ps) (sym e) ∙ h
