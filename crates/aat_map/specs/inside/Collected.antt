-- The clusters at which ranges begin, as they are collected.
use Rattle.std.specs.Prelude.{◌≡◌, ℕ, ◌==◌, ◌||◌, ◌&&◌, Bool, not, List, [], ◌∷◌, ◌++◌, fold, if◌then◌else◌}
use Rattle.std.specs.List.{list_any}
use Rattle.std.specs.List.Sorted.{IsStrictlyIncreasing}
use Rattle.aat_map.specs.Live.{is_edge}
use Rattle.aat_map.specs.declared.feature.feature_range_t.{feature_range_t}

-- a cluster more, where it is no end of the text
abbrev pub with_cut : List ℕ → ℕ → List ℕ
with_cut xs x = if is_edge x then xs else xs ++ x ∷ []

-- the starts of requests more
abbrev pub with_starts : List ℕ → List feature_range_t → List ℕ
with_starts xs rs = fold (λ ys r. with_cut ys r.start) xs rs

-- their ends more
abbrev pub with_ends : List ℕ → List feature_range_t → List ℕ
with_ends xs rs = fold (λ ys r. with_cut ys r.end) xs rs

-- a request starts at x, which is no end of the text
abbrev pub starts_at : ℕ → feature_range_t → Bool
starts_at x r = (r.start == x) && not (is_edge x)

-- a request ends at x, which is no end of the text
abbrev pub ends_at : ℕ → feature_range_t → Bool
ends_at x r = (r.end == x) && not (is_edge x)

-- these are 0 and where, within the text, one of some requests starts or one of others ends, each once and rising
pub record AreCollected (ordered ending : List feature_range_t) (starts : List ℕ) : Type 0 where
  pub rising : IsStrictlyIncreasing starts
  pub exact :
      (x : ℕ)
      → list_any (λ s. s == x) starts
      ≡ ((x == 0) || (list_any (starts_at x) ordered || list_any (ends_at x) ending))
