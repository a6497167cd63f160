-- The pairs of a line that kerning looks at, each found from its right glyph. TrueType Reference Manual: The 'kern'
-- table and The 'kerx' table.
use Rattle.std.specs.Prelude.{zero, suc, ℕ, ◌+◌, ◌-◌, ◌==◌, ◌&&◌, ◌||◌, not, Bool, bit_and, List, [], ◌∷◌, length, Option, None, option_map, find, filter_map, if◌then◌else◌}
use Rattle.aat_buffer.specs.Buffer.{glyph_at}
use Rattle.aat_glyph.specs.declared.glyph.hb_glyph_info_t.{hb_glyph_info_t}
use Rattle.aat_run.specs.Switches.{meets}

-- the glyph props that `kerx` skips: base, ligature and mark
abbrev pub kerx_skips : ℕ
kerx_skips = 0x000E

-- the glyph props that `kern` skips: mark
abbrev pub kern_skips : ℕ
kern_skips = 0x0008

-- a glyph is solid unless it has such a property, or is ignorable and was not substituted
abbrev pub is_solid : ℕ → hb_glyph_info_t → Bool
is_solid skips g =
    (bit_and g.glyph_props skips == 0) && ((bit_and g.unicode_props 0x20 == 0) || not (bit_and g.glyph_props 0x10 == 0))

-- n places from i on
abbrev pub places : ℕ → ℕ → List ℕ
places i zero = []
places i (suc n) = i ∷ places (i + 1) n

-- the places of the two glyphs of a pair. TrueType Reference Manual: The 'kern' table, format 0.
pub record Pair : Type 0 where
  pub left : ℕ
  pub right : ℕ

module _ (skips kern_mask : ℕ) (line : List hb_glyph_info_t) where
  -- the last solid place before t, or 0
  abbrev pub last_solid : ℕ → ℕ
  last_solid zero = 0
  last_solid (suc t) = if is_solid skips (glyph_at line t) then t else last_solid t

  -- the first place from there up to t - 1 whose mask meets the kern mask
  abbrev pub left_of : ℕ → Option ℕ
  left_of t = find (λ i. meets (glyph_at line i).mask kern_mask) (places (last_solid t) (t - last_solid t))

  -- the pair whose right glyph is solid and stands at t
  abbrev pub pair_at : ℕ → Option Pair
  pair_at t =
      if is_solid skips (glyph_at line t) && meets (glyph_at line t).mask kern_mask
      then option_map (λ i. record { left = i; right = t }) (left_of t)
      else None

  -- all pairs, from the first right glyph to the last
  unfoldable pub pairs_of : List Pair
  pairs_of = filter_map pair_at (places 0 (length line))
