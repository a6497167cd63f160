-- Steps over glyphs that are drawn, of which the ignorable ones are hidden.
use Rattle.std.proofs.Common.{◌≡◌, ℕ, ◌+◌, ◌<◌, ◌≤◌, Bool, true, false, not, cond, List, [], ◌∷◌, ◌++◌, length, map, take, get_or, Option, Some, None, sym, ap, ap₂, ◌∙◌, append-nil, ⊎_elim, arith, length-take, zero-add}
use Rattle.std.proofs.Math.Path.{fun_ext}
use Rattle.std.proofs.lemmas.Bool.{cases_lt}
use Rattle.std.proofs.lemmas.List.{map-append, map-id}
use Rattle.std.proofs.lemmas.List.FromFn.{filter_of_map_range_with_len_more, get_or-map-range_with_len, length-map-range_with_len, map-range_with_len_more}
use Rattle.std.proofs.lemmas.List.Sums.{count_by-le-length, count_by_more_no, count_by_more_yes}
use Rattle.std.proofs.lemmas.Option.{slice_get-get_or, slice_get_past}
use Rattle.std.specs.List.{count_by, filter, range_with_len}
use Rattle.std.specs.Prelude.{IfSome, option_and_then, slice_get, if◌then◌else◌}
use Rattle.aat_shaped_text.specs.Parts.{no_shaped_glyph, shaped_at}
use Rattle.aat_shaped_text.specs.declared.text.ShapedGlyph.{ShapedGlyph}
use Rattle.aat_showing.specs.Ignorables.{kept_glyph, kept_place, stays}
use Rattle.aat_showing.specs.inside.Listed.{AreAtMost, listed_place}

-- places that pass a test, one more
pub passed_more :
    (test : ℕ → Bool) (i : ℕ)
    → filter test (range_with_len 0 (i + 1)) ≡ filter test (range_with_len 0 i) ++ cond (test i) (i ∷ []) []
passed_more test i =
    ap (filter test) (sym (map-id (range_with_len 0 (i + 1))))
    ∙ (filter_of_map_range_with_len_more test (λ (n : ℕ). n) 0 i i (omega arith)
    ∙ ap (λ (is : List ℕ). filter test is ++ cond (test i) (i ∷ []) []) (map-id (range_with_len 0 i)))

module _ (glyphs : List ShapedGlyph) (i : ℕ) (low : i < length glyphs) where
  -- the glyph at the place
  abbrev here : ShapedGlyph
  here = get_or glyphs i no_shaped_glyph

  -- the place of one more glyph
  kept_place_at : kept_place glyphs i ≡ (if here.is_ignorable then None else Some (count_by stays (take i glyphs)))
  kept_place_at =
      ap (option_and_then (λ g. if g.is_ignorable then None else Some (count_by stays (take i glyphs)))) (slice_get-get_or glyphs i no_shaped_glyph low)

  places_more : (done made : List (Option ℕ)) (shown : Option ℕ) → shown ≡ kept_place glyphs i → made ≡ done ++ shown ∷ []
      → done ≡ map (kept_place glyphs) (range_with_len 0 i) → made ≡ map (kept_place glyphs) (range_with_len 0 (i + 1))
  places_more done made shown is put h =
      put ∙ ap₂ (λ xs x. xs ++ x ∷ []) h is ∙ sym (map-range_with_len_more (kept_place glyphs) 0 i i (zero-add i))

  pub place_gone : (done made : List (Option ℕ)) → here.is_ignorable ≡ true → made ≡ done ++ None ∷ []
      → done ≡ map (kept_place glyphs) (range_with_len 0 i) → made ≡ map (kept_place glyphs) (range_with_len 0 (i + 1))
  place_gone done made gone = places_more done made None (sym (rw gone at kept_place_at))

  pub place_kept : (done made : List (Option ℕ)) (kept : ℕ) → here.is_ignorable ≡ false → kept ≡ count_by stays (take i glyphs)
      → made ≡ done ++ Some kept ∷ []
      → done ≡ map (kept_place glyphs) (range_with_len 0 i) → made ≡ map (kept_place glyphs) (range_with_len 0 (i + 1))
  place_kept done made kept seen count = places_more done made (Some kept) (ap Some count ∙ sym (rw seen at kept_place_at))

  pub count_gone : (kept : ℕ) → here.is_ignorable ≡ true → kept ≡ count_by stays (take i glyphs) → kept ≡ count_by stays (take (i + 1) glyphs)
  count_gone kept gone h = h ∙ sym (count_by_more_no stays glyphs i no_shaped_glyph low (ap not gone))

  pub count_kept : (kept : ℕ) → here.is_ignorable ≡ false → kept ≡ count_by stays (take i glyphs) → kept + 1 ≡ count_by stays (take (i + 1) glyphs)
  count_kept kept seen h = ap (λ n. n + 1) h ∙ sym (count_by_more_yes stays glyphs i no_shaped_glyph low (ap not seen))

  -- one more glyph that stays or not
  abbrev stays_at : ℕ → Bool
  stays_at j = stays (shaped_at glyphs j)

  pub glyph_kept : (done made : List ShapedGlyph) (shown : ShapedGlyph) → here.is_ignorable ≡ false → shown ≡ kept_glyph glyphs i
      → made ≡ done ++ shown ∷ [] → done ≡ map (kept_glyph glyphs) (filter stays_at (range_with_len 0 i))
      → made ≡ map (kept_glyph glyphs) (filter stays_at (range_with_len 0 (i + 1)))
  glyph_kept done made shown seen is put h =
      let one : filter stays_at (range_with_len 0 (i + 1)) ≡ filter stays_at (range_with_len 0 i) ++ i ∷ [] =
      passed_more stays_at i ∙ ap (λ (t : Bool). filter stays_at (range_with_len 0 i) ++ cond t (i ∷ []) []) (ap not seen) in
      put ∙ ap₂ (λ xs x. xs ++ x ∷ []) h is
      ∙ sym (ap (map (kept_glyph glyphs)) one ∙ map-append (kept_glyph glyphs) (filter stays_at (range_with_len 0 i)) (i ∷ []))

  pub glyph_gone : (done : List ShapedGlyph) → here.is_ignorable ≡ true
      → done ≡ map (kept_glyph glyphs) (filter stays_at (range_with_len 0 i))
      → done ≡ map (kept_glyph glyphs) (filter stays_at (range_with_len 0 (i + 1)))
  glyph_gone done gone h =
      let none : filter stays_at (range_with_len 0 (i + 1)) ≡ filter stays_at (range_with_len 0 i) =
      passed_more stays_at i ∙ (ap (λ (t : Bool). filter stays_at (range_with_len 0 i) ++ cond t (i ∷ []) []) (ap not gone) ∙ append-nil _) in
      h ∙ sym (ap (map (kept_glyph glyphs)) none)

module _ (glyphs : List ShapedGlyph) (places : List (Option ℕ)) where
  -- the place at which the glyph of a place stays, as the list of places has it
  place_listed : places ≡ map (kept_place glyphs) (range_with_len 0 (length glyphs)) → (i : ℕ)
      → option_and_then (λ kept. kept) (slice_get places i) ≡ kept_place glyphs i
  place_listed listed i =
      let long : length places ≡ length glyphs = ap length listed ∙ length-map-range_with_len (kept_place glyphs) 0 (length glyphs) in
      ⊎_elim (λ low. let within : i < length places = omega arith in
      ap (option_and_then (λ kept. kept)) (slice_get-get_or places i None within)
      ∙ ap (λ ps. get_or ps i None) listed
      ∙ get_or-map-range_with_len (kept_place glyphs) 0 (length glyphs) i i None low (zero-add i))
      (λ past. let beyond : length places ≤ i = omega arith in
      ap (option_and_then (λ kept. kept)) (slice_get_past places i beyond)
      ∙ sym (ap (option_and_then (λ g. if g.is_ignorable then None else Some (count_by stays (take i glyphs)))) (slice_get_past glyphs i past)))
      (cases_lt i (length glyphs))

  -- what the glyph at a place is attached to
  pub attached_kept : places ≡ map (kept_place glyphs) (range_with_len 0 (length glyphs)) → (o : Option ℕ)
      → listed_place places o ≡ option_and_then (kept_place glyphs) o
  attached_kept listed o = ap (λ f. option_and_then f o) (fun_ext (place_listed listed))

  -- and no more stay before a place than stand there
  pub few_listed : places ≡ map (kept_place glyphs) (range_with_len 0 (length glyphs)) → AreAtMost places
  few_listed listed i = rw (place_listed listed i) (by_glyph (slice_get glyphs i))
    where
      few : count_by stays (take i glyphs) ≤ i
      few = omega (arith, count_by-le-length stays (take i glyphs), length-take i glyphs)

      by_seen : (t : Bool) → IfSome (if t then None else Some (count_by stays (take i glyphs))) (λ kept. kept ≤ i)
      by_seen true = tt
      by_seen false = few

      by_glyph : (o : Option ShapedGlyph)
          → IfSome (option_and_then (λ (g : ShapedGlyph). if g.is_ignorable then None else Some (count_by stays (take i glyphs))) o) (λ kept. kept ≤ i)
      by_glyph None = tt
      by_glyph (Some g) = by_seen g.is_ignorable
