-- Values of glyphs, written one after the other.
use Rattle.std.proofs.Common.{◌≡◌, ℕ, zero, suc, ◌+◌, ◌<◌, List, ◌∷◌, length, get_or, map, refl, ap, ◌∙◌}
use Rattle.std.specs.List.{enumerate_from, range_with_len}
use Rattle.std.proofs.lemmas.List.FromFn.{fill_by_all}
use Rattle.aat_lookup.specs.EachGlyph.{pairs_of_each}
use Rattle.aat_face.specs.Lists.{pairs_over}

-- the values of glyphs from one on, with their glyphs
numbered :
    (value : ℕ → ℕ) (a n : ℕ)
    → enumerate_from a (map value (range_with_len a n)) ≡ map (λ glyph. (glyph, value glyph)) (range_with_len a n)
numbered value a zero = refl
numbered value a (suc n) = ap (λ pairs. (a, value a) ∷ pairs) (numbered value (a + 1) n)

-- a list that has the value of each glyph
pub each_value :
    (value : ℕ → ℕ) (values : List ℕ) (n : ℕ)
    → length values ≡ n
    → ((k : ℕ) → k < n → get_or values k 0 ≡ value k)
    → pairs_of_each values ≡ pairs_over n value
each_value value values n long each = ap pairs_of_each (fill_by_all value values n 0 long each) ∙ numbered value 0 n
