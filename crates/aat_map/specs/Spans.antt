-- Ranges of clusters, from where they begin.
use Rattle.std.specs.Prelude.{ℕ, ◌-◌, List, [], ◌∷◌}
use Rattle.aat_run.specs.Ranges.{last_cluster}

-- the first and the last cluster of each range: each ends before the next one, and the last at the last cluster
abbrev pub spans : List ℕ → List (ℕ × ℕ)
spans [] = []
spans (s ∷ []) = (s, last_cluster) ∷ []
spans (s ∷ (t ∷ ss)) = (s, t - 1) ∷ spans (t ∷ ss)
