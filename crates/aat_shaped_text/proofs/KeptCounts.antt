-- How many glyphs are kept before a place, glyph by glyph, and the places of a line that stay open.
use Rattle.std.proofs.Common.{◌≡◌, ◌∙◌, ◌⊎◌, ap, inl, inr, sym, ℕ, suc, ◌+◌, ◌<◌, ◌≤◌, ◌≢◌, Bool, true, false, not, List, [], ◌∷◌, arith, cond, get_or, length, length-take, set, take}
use Rattle.std.proofs.lemmas.Bool.{cases_eq}
use Rattle.std.proofs.lemmas.Grind.{get_or-set_at}
use Rattle.std.proofs.lemmas.List.{get_or-set_other}
use Rattle.std.proofs.lemmas.List.Filters.{length-filter_more}
use Rattle.std.specs.Prelude.{filter}
use Rattle.aat_buffer.specs.Buffer.{glyph_at, no_glyph}
use Rattle.aat_buffer.specs.Removal.{is_deleted}
use Rattle.aat_glyph.specs.declared.glyph.hb_glyph_info_t.{hb_glyph_info_t}
use Rattle.aat_shaped_text.specs.Breaks.{kept_before}

-- no more pass a test than there are
pub length_passed : {X : Type 0} (test : X → Bool) (xs : List X) → length (filter test xs) ≤ length xs
length_passed test [] = omega arith
length_passed test (x ∷ xs) = by_test (test x) (length_passed test xs)
  where
    by_test : (t : Bool) → length (filter test xs) ≤ length xs → length (cond t (x ∷ filter test xs) (filter test xs)) ≤ suc (length xs)
    by_test true below = omega (arith, below)
    by_test false below = omega (arith, below)

-- no more are kept before a place than stand there
pub few_before : (line : List hb_glyph_info_t) (i : ℕ) → kept_before line i ≤ i
few_before line i =
    omega (arith, length_passed (λ g. not (is_deleted g)) (take i line), length-take i line)

-- one glyph more is counted, or not
module _ (line : List hb_glyph_info_t) (i : ℕ) (g : hb_glyph_info_t) (read : g ≡ glyph_at line i) (t : Bool) (told : t ≡ not (is_deleted g)) where
  test_at : not (is_deleted (glyph_at line i)) ≡ t
  test_at = sym (told ∙ ap (λ h. not (is_deleted h)) read)

  counted_more : i < length line → kept_before line (i + 1) ≡ kept_before line i + cond t 1 0
  counted_more low = length-filter_more (λ h. not (is_deleted h)) line i no_glyph low ∙ ap (λ u. kept_before line i + cond u 1 0) test_at

  pub counted_kept : {new : ℕ} (kept : ℕ) → i < length line → t ≡ true → new ≡ kept + 1 → kept ≡ kept_before line i → new ≡ kept_before line (i + 1)
  counted_kept kept low is_kept is was = is ∙ (ap (λ n. n + 1) was ∙ sym (counted_more low ∙ ap (λ u. kept_before line i + cond u 1 0) is_kept))

  pub counted_gone : {new : ℕ} (kept : ℕ) → i < length line → t ≡ false → new ≡ kept → kept ≡ kept_before line i → new ≡ kept_before line (i + 1)
  counted_gone kept low is_gone is was = is ∙ (was ∙ sym (counted_more low ∙ (ap (λ u. kept_before line i + cond u 1 0) is_gone ∙ omega arith)))

-- of places that are changed one by one, one more
pub changed_more :
    (xs : List Bool) (i : ℕ) (x : Bool) (f : ℕ → Bool) → i < length xs → x ≡ f i → (j : ℕ)
    → (j ≢ i → get_or xs j false ≡ f j) → get_or (set xs i x) j false ≡ f j
changed_more xs i x f low is j before = by (cases_eq j i)
  where
    by : ((j ≡ i) ⊎ (j ≢ i)) → get_or (set xs i x) j false ≡ f j
    by (inl same) = get_or-set_at xs i j x false same low ∙ (is ∙ ap f (sym same))
    by (inr other) = get_or-set_other xs i j x false other ∙ before other
