-- What is drawn of a line, place by place.
use Rattle.std.proofs.Common.{◌≡◌, ◌∙◌, ap, refl, sym, ℕ, zero, suc, ◌+◌, ◌<◌, Bool, true, false, List, [], ◌∷◌, ◌++◌, arith, cond, drop, get_or, length, map, set, take}
use Rattle.std.specs.Prelude.{filter}
use Rattle.std.specs.List.{range_with_len}
use Rattle.std.proofs.lemmas.List.{append-nil, map-append, map-id}
use Rattle.std.proofs.lemmas.List.FromFn.{filter_of_map_range_with_len_more}
use Rattle.aat_buffer.specs.Buffer.{no_glyph}
use Rattle.aat_glyph.specs.declared.glyph.hb_glyph_info_t.{hb_glyph_info_t}
use Rattle.aat_shaped_text.specs.ShapedText.{with_clusters_of}
use Rattle.aat_shaped_text.specs.declared.text.ShapedGlyph.{ShapedGlyph}

-- places that pass a test, one more
pub passed_more :
    (test : ℕ → Bool) (i : ℕ)
    → filter test (range_with_len 0 (i + 1)) ≡ filter test (range_with_len 0 i) ++ cond (test i) (i ∷ []) []
passed_more test i =
    ap (filter test) (sym (map-id (range_with_len 0 (i + 1))))
    ∙ (filter_of_map_range_with_len_more test (λ (n : ℕ). n) 0 i i (omega arith)
    ∙ ap (λ (is : List ℕ). filter test is ++ cond (test i) (i ∷ []) []) (map-id (range_with_len 0 i)))

-- what is made of those places: the place passes
pub made_more :
    (test : ℕ → Bool) (make : ℕ → ShapedGlyph) (i : ℕ) → test i ≡ true
    → map make (filter test (range_with_len 0 (i + 1))) ≡ map make (filter test (range_with_len 0 i)) ++ make i ∷ []
made_more test make i passes =
    ap (map make) (passed_more test i)
    ∙ (ap (λ (t : Bool). map make (filter test (range_with_len 0 i) ++ cond t (i ∷ []) [])) passes
    ∙ map-append make (filter test (range_with_len 0 i)) (i ∷ []))

-- and it does not
pub made_same :
    (test : ℕ → Bool) (make : ℕ → ShapedGlyph) (i : ℕ) → test i ≡ false
    → map make (filter test (range_with_len 0 (i + 1))) ≡ map make (filter test (range_with_len 0 i))
made_same test make i fails =
    ap (map make) (passed_more test i)
    ∙ (ap (λ (t : Bool). map make (filter test (range_with_len 0 i) ++ cond t (i ∷ []) [])) fails
    ∙ (map-append make (filter test (range_with_len 0 i)) []
    ∙ append-nil (map make (filter test (range_with_len 0 i)))))

-- glyphs, of which the first i have the clusters of a line
abbrev pub taken_first : ℕ → List hb_glyph_info_t → List ShapedGlyph → List ShapedGlyph
taken_first i line glyphs = with_clusters_of (take i line) (take i glyphs) ++ drop i glyphs

-- the cluster at i is taken
pub taken_step :
    (line : List hb_glyph_info_t) (glyphs : List ShapedGlyph) (i : ℕ) (g : ShapedGlyph)
    → i < length line → i < length glyphs
    → set (taken_first i line glyphs) i
    (record (get_or (taken_first i line glyphs) i g) { cluster = (get_or line i no_glyph).cluster })
    ≡ taken_first (suc i) line glyphs
taken_step [] glyphs i g low within = absurd (omega (arith, low))
taken_step (h ∷ line) [] i g low within = absurd (omega (arith, within))
taken_step (h ∷ line) (x ∷ glyphs) zero g low within = refl
taken_step (h ∷ line) (x ∷ glyphs) (suc i) g low within =
    ap (λ (xs : List ShapedGlyph). record x { cluster = h.cluster } ∷ xs)
    (taken_step line glyphs i g (omega (arith, low)) (omega (arith, within)))
