-- The walk over a line that finds its pairs from the left, one place after another.
use Rattle.std.specs.Prelude.{ℕ, Bool, ◌&&◌, Option, Some, None, option_map, if◌then◌else◌}
use Rattle.std.specs.Bool.{then_some}
use Rattle.std.specs.Option.{option_or}
use Rattle.aat_buffer.specs.Buffer.{Buffer}
use Rattle.aat_kerning.specs.PairKerning.{PairValues, kerned}
use Rattle.aat_kerning.specs.Pairs.{Pair}

-- the left glyph of the pairs whose right glyph stands behind place t: a solid t is a wall, and a t whose mask meets
-- the kern mask is taken where there is none
abbrev pub left_behind : Bool → Bool → ℕ → Option ℕ → Option ℕ
left_behind is_solid is_asked t left = option_or (if is_solid then None else left) (then_some is_asked t)

-- the pair whose right glyph stands at place t
abbrev pub pair_with : Bool → Bool → ℕ → Option ℕ → Option Pair
pair_with is_solid is_asked t left =
    if is_solid && is_asked then option_map (λ i. record { left = i; right = t }) left else None

-- a pair is kerned where there is one
abbrev pub kerned_where : Bool → PairValues → Option Pair → Buffer → Buffer
kerned_where is_cross values None b = b
kerned_where is_cross values (Some p) b = kerned is_cross values p b
