-- Where the range of a cluster is looked for first.
use Rattle.std.specs.Prelude.{ℕ, ◌+◌, ◌-◌, List, [], ◌∷◌, Option, find}
use Rattle.aat_run.specs.RangeOf.{is_held_at}
use Rattle.aat_run.specs.declared.ranges.range_flags_t.{range_flags_t}

-- of a place, the one behind it and the one before it the first at which the range of a cluster stands
abbrev pub place_near : List range_flags_t → ℕ → ℕ → Option ℕ
place_near ranges place x = find (λ p. is_held_at ranges p x) (place ∷ (place + 1) ∷ (place - 1) ∷ [])
