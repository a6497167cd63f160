-- Offsets of outlines, one after the other.
use Rattle.std.proofs.Common.{◌≡◌, ◌∙◌, ap, sym, ℕ, ◌+◌, ◌<◌, ◌≤◌, List, [], ◌∷◌, ◌++◌, length, get_or, map, take, drop, length-append, zero-add, arith}
use Rattle.std.specs.List.{range_with_len}
use Rattle.std.specs.Int.{to_be_bytes, w32}
use Rattle.std.proofs.lemmas.List.{append-nil, take-append-drop, take_more}
use Rattle.std.proofs.lemmas.List.Concat.{flat_map-append}
use Rattle.std.proofs.lemmas.List.FromFn.{map-range_with_len_more}
use Rattle.aat_read_outlines.specs.Outlines.{PointLists}
use Rattle.aat_write_machine.specs.Words.{long_bytes}
use Rattle.aat_write_truetype.specs.outlines.GlyphData.{glyph_data}
use Rattle.aat_write_truetype.specs.outlines.Tables.{glyf_bytes, offset_of}

-- the data of one outline more
pub data_more :
    (outlines : List PointLists) (i : ℕ) (outline : PointLists) (here new : List ℕ)
    → i < length outlines
    → outline ≡ get_or outlines i outline
    → here ≡ glyf_bytes (take i outlines)
    → new ≡ here ++ glyph_data outline
    → new ≡ glyf_bytes (take (i + 1) outlines)
data_more outlines i outline here new below is so_far appended =
    let more : take (i + 1) outlines ≡ take i outlines ++ outline ∷ [] = take_more outlines i outline below ∙ ap (λ o. take i outlines ++ o ∷ []) (sym is) in
    appended
    ∙ ap (λ (xs : List ℕ). xs ++ glyph_data outline) so_far
    ∙ ap (λ (xs : List ℕ). glyf_bytes (take i outlines) ++ xs) (sym (append-nil (glyph_data outline)))
    ∙ sym (flat_map-append glyph_data (take i outlines) (outline ∷ []))
    ∙ ap glyf_bytes (sym more)

-- the offset of one outline more
pub offset_more :
    (outlines : List PointLists) (i : ℕ) (bytes here new : List ℕ)
    → bytes ≡ glyf_bytes (take i outlines)
    → here ≡ long_bytes (map (offset_of outlines) (range_with_len 0 i))
    → new ≡ here ++ long_bytes (length bytes ∷ [])
    → new ≡ long_bytes (map (offset_of outlines) (range_with_len 0 (i + 1)))
offset_more outlines i bytes here new is so_far appended =
    appended
    ∙ ap (λ n. here ++ long_bytes (n ∷ [])) (ap length is)
    ∙ ap (λ (xs : List ℕ). xs ++ long_bytes (offset_of outlines i ∷ [])) so_far
    ∙ sym (flat_map-append (to_be_bytes w32) (map (offset_of outlines) (range_with_len 0 i)) (offset_of outlines i ∷ []))
    ∙ ap long_bytes (sym (map-range_with_len_more (offset_of outlines) 0 i i (zero-add i)))

-- the data of some outlines is no longer than that of all
pub part_short : (outlines : List PointLists) (i : ℕ) → length (glyf_bytes (take i outlines)) ≤ length (glyf_bytes outlines)
part_short outlines i =
    let all : glyf_bytes outlines ≡ glyf_bytes (take i outlines) ++ glyf_bytes (drop i outlines) =
    ap glyf_bytes (sym (take-append-drop i outlines)) ∙ flat_map-append glyph_data (take i outlines) (drop i outlines) in
    omega (arith, ap length all, length-append (glyf_bytes (take i outlines)) (glyf_bytes (drop i outlines)))
