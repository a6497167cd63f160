-- Characters that are clusters by themselves in a text that has no others.
use Rattle.std.specs.Prelude.{ℕ, Bool, not, ◌||◌}
use Rattle.aat_characters.specs.Clusters.{extends}
use Rattle.aat_characters.specs.Native.{is_regional_indicator}

-- a character that continues no cluster, but behind a joiner, and is no half of a flag
abbrev pub is_apart : ℕ → Bool
is_apart c = not (extends c || is_regional_indicator c)
