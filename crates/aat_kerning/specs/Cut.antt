-- The cut: where a line can be kerned in two parts, by pairs. (No chapter of the manual: the marks that say where a
-- line can be broken are the shaper's own.)
use Rattle.std.specs.Prelude.{◌≡◌, ◌≢◌, ℕ, ◌<◌, ◌-◌, Bool, true, nat_lt, bit_and, List, ◌++◌, length, take, drop, map, All, Option, if◌then◌else◌}
use Rattle.aat_buffer.specs.Buffer.{Buffer, glyph_at, position_list}
use Rattle.aat_buffer.specs.Marks.{cluster_at}
use Rattle.aat_kerning_tables.specs.AnchorPoints.{Points}
use Rattle.aat_kerning_tables.specs.declared.kern.KernSubtable.{KernSubtable}
use Rattle.aat_kerning_tables.specs.declared.kerx.KerxSubtable.{KerxSubtable}
use Rattle.aat_glyph.specs.declared.glyph.GlyphPosition.{GlyphPosition}
use Rattle.aat_glyph.specs.declared.glyph.hb_glyph_info_t.{hb_glyph_info_t}
use Rattle.aat_run.specs.Outcome.{Outcome}
use Rattle.aat_kerning.specs.Pairs.{kerx_skips, kern_skips, is_solid}
use Rattle.aat_kerning.specs.Positioning.{Kerning, is_for_text, in_processing_order, kerning_of_kerx_subtable, kerning_of_kern_subtable, kerx_positioning, kern_positioning}

-- the glyphs of a buffer in processing order
abbrev pub ordered_line : Buffer → List hb_glyph_info_t
ordered_line b = (in_processing_order b).line

-- its positions in processing order, and none where no positions stand
abbrev pub ordered_positions : Buffer → List GlyphPosition
ordered_positions b = position_list (in_processing_order b)

-- of the two glyphs at the cut, the place of the one with the greater cluster
abbrev pub greater_at : ℕ → List hb_glyph_info_t → ℕ
greater_at q gs = if nat_lt (cluster_at gs (q - 1)) (cluster_at gs q) then q else q - 1

-- that glyph is without UNSAFE_TO_BREAK (1)
abbrev pub IsUnflaggedAt : ℕ → List hb_glyph_info_t → Type 0
IsUnflaggedAt q gs = bit_and (glyph_at gs (greater_at q gs)).mask 1 ≡ 0

-- a place q inside a line that was kerned, in processing order, whose glyph kerning does not skip and starts a
-- cluster, and where of the two glyphs at the cut the one with the greater cluster was left without the flag
pub record IsCutPlace (skips q : ℕ) (left : Buffer) : Type 0 where
  pub behind_first : 0 < q
  pub before_end : q < length (ordered_line left)
  pub solid : is_solid skips (glyph_at (ordered_line left) q) ≡ true
  pub starts : cluster_at (ordered_line left) q ≢ cluster_at (ordered_line left) (q - 1)
  pub unflagged : IsUnflaggedAt q (ordered_line left)

-- a part of a buffer has these glyphs and positions, in processing order, and its direction; all else may be anything
pub record IsPart (b part : Buffer) (glyphs : List hb_glyph_info_t) (positions : List GlyphPosition) : Type 0 where
  pub line : ordered_line part ≡ glyphs
  pub places : ordered_positions part ≡ positions
  pub direction : part.direction ≡ b.direction

-- the two parts of a buffer that is cut: what stands before q, and what stands from q on
pub record AreParts (q : ℕ) (b first second : Buffer) : Type 0 where
  pub front : IsPart b first (take q (ordered_line b)) (take q (ordered_positions b))
  pub back : IsPart b second (drop q (ordered_line b)) (drop q (ordered_positions b))

-- each subtable that is for the text of a buffer is of pairs
abbrev pub PairsAlone : List Kerning → Buffer → Type 0
PairsAlone ks b = All (λ k. is_for_text k b ≡ true → k.is_pairs ≡ true) ks

-- the positions that were left of a line, in processing order, are those that a kerning leaves of the first part, and
-- then those that it leaves of the second
abbrev pub IsKernedInParts : (Buffer → Outcome) → Buffer → Buffer → Buffer → Type 0
IsKernedInParts kern left first second =
    ordered_positions left ≡ ordered_positions (kern first).buffer ++ ordered_positions (kern second).buffer

-- the parts ask for the marks that the whole asks for
pub record HaveFlagsOf (b first second : Buffer) : Type 0 where
  pub front : first.flags ≡ b.flags
  pub back : second.flags ≡ b.flags

-- the two parts of a buffer that is cut, with its buffer flags
pub record AreAlikeParts (q : ℕ) (b first second : Buffer) : Type 0 where
  pub parts : AreParts q b first second
  pub flags : HaveFlagsOf b first second

-- What was left of b by this kerning is left of all of these parts: where pairs alone are for the text, at each cut
-- place of what was left, the positions that were left are those of the first part, and then those of the second.
abbrev pub IsLeftOfAll :
    (ℕ → Buffer → Buffer → Buffer → Type 0) → ℕ → List Kerning → (Buffer → Outcome) → Buffer → Buffer → Type 0
IsLeftOfAll AreThese skips ks kern b left =
    (q : ℕ) (first second : Buffer)
    → PairsAlone ks b → IsCutPlace skips q left → AreThese q b first second → IsKernedInParts kern left first second

-- of parts with any buffer flags
abbrev pub IsLeftOfParts : ℕ → List Kerning → (Buffer → Outcome) → Buffer → Buffer → Type 0
IsLeftOfParts skips ks kern b left = IsLeftOfAll AreParts skips ks kern b left

-- of parts with the buffer flags of the whole
abbrev pub IsLeftOfAlikeParts : ℕ → List Kerning → (Buffer → Outcome) → Buffer → Buffer → Type 0
IsLeftOfAlikeParts skips ks kern b left = IsLeftOfAll AreAlikeParts skips ks kern b left

-- a kerning by these subtables can be cut: it leaves of all parts, with any buffer flags, what it leaves of the whole
abbrev pub CanBeCut : ℕ → List Kerning → (Buffer → Outcome) → Buffer → Type 0
CanBeCut skips ks kern b = IsLeftOfParts skips ks kern b (kern b).buffer

-- into parts with the buffer flags of the whole
abbrev pub CanBeCutAlike : ℕ → List Kerning → (Buffer → Outcome) → Buffer → Type 0
CanBeCutAlike skips ks kern b = IsLeftOfAlikeParts skips ks kern b (kern b).buffer

-- by a kern mask without glyph flags (7), pairs can be kerned in two parts
pub record PartsAreKernedApart : Type 0 where
  pub kerx :
      (requested : Bool) (kern_mask : ℕ) (points : Option Points) (subtables : List KerxSubtable) (b : Buffer)
      → bit_and kern_mask 7 ≡ 0
      → CanBeCut kerx_skips (map (kerning_of_kerx_subtable kern_mask points) subtables)
      (kerx_positioning requested kern_mask points subtables) b
  pub kern :
      (requested : Bool) (kern_mask : ℕ) (subtables : List KernSubtable) (b : Buffer)
      → bit_and kern_mask 7 ≡ 0
      → CanBeCut kern_skips (map (kerning_of_kern_subtable kern_mask) subtables)
      (kern_positioning requested kern_mask subtables) b

-- by every kern mask they can, where the parts have the flags of the whole
pub record AlikePartsAreKernedApart : Type 0 where
  pub kerx :
      (requested : Bool) (kern_mask : ℕ) (points : Option Points) (subtables : List KerxSubtable) (b : Buffer)
      → CanBeCutAlike kerx_skips (map (kerning_of_kerx_subtable kern_mask points) subtables)
      (kerx_positioning requested kern_mask points subtables) b
  pub kern :
      (requested : Bool) (kern_mask : ℕ) (subtables : List KernSubtable) (b : Buffer)
      → CanBeCutAlike kern_skips (map (kerning_of_kern_subtable kern_mask) subtables)
      (kern_positioning requested kern_mask subtables) b
