-- The sum of the advances of a line: how long it is. TrueType Reference Manual: The 'kern' table.
use Rattle.std.specs.Prelude.{◌≡◌, ℕ, Bool, true, false, List, length, ℤ, pos, ◌+ℤ◌, All, None, fold, FitsSigned, if◌then◌else◌}
use Rattle.std.specs.Int.{int_wrap, w16, w32}
use Rattle.aat_buffer.specs.Buffer.{Buffer, glyph_at, position_list}
use Rattle.aat_kerning_tables.specs.Classes.{kerning_by_classes}
use Rattle.aat_kerning_tables.specs.declared.kern.KernKind.{KernKind}
use Rattle.aat_kerning_tables.specs.declared.kern.KernKind.TheVariants as kind
use Rattle.aat_kerning_tables.specs.declared.kern.KernSubtable.{KernSubtable}
use Rattle.aat_kerning_tables.specs.declared.kerx.KerxFormat.{KerxFormat}
use Rattle.aat_kerning_tables.specs.declared.kerx.KerxFormat.TheVariants.{Format0, Format1, Format2, Format2Classes, Format4, Format6, Format6Classes}
use Rattle.aat_kerning_tables.specs.declared.kerx.KerxSubtable.{KerxSubtable}
use Rattle.aat_glyph.specs.Directions.{is_horizontal}
use Rattle.aat_glyph.specs.declared.glyph.GlyphPosition.{GlyphPosition}
use Rattle.aat_glyph.specs.declared.glyph.hb_glyph_info_t.{hb_glyph_info_t}
use Rattle.aat_kerning.specs.Cut.{ordered_line}
use Rattle.aat_kerning.specs.PairKerning.{PairValues, pair_kerning, value_of}
use Rattle.aat_kerning.specs.Pairs.{Pair, kern_skips, kerx_skips, pairs_of}
use Rattle.aat_kerning.specs.Positioning.{Kerning, is_for_text, kerning_of_kern_subtable, kerning_of_kerx_subtable}

-- the advance along the line: in x where the text is horizontal, and else in y
abbrev pub advance : Bool → GlyphPosition → ℤ
advance true q = q.x_advance
advance false q = q.y_advance

-- the sum of the advances
abbrev pub all_advances : Bool → List GlyphPosition → ℤ
all_advances h qs = fold (λ s q. s +ℤ advance h q) (pos 0) qs

-- the sum of the values of some pairs of a line
abbrev pub all_values : PairValues → List hb_glyph_info_t → List Pair → ℤ
all_values values line ps =
    fold (λ s p. s +ℤ values (glyph_at line p.left).glyph_id (glyph_at line p.right).glyph_id) (pos 0) ps

-- each value has 16 bits
abbrev pub HaveSixteenBits : PairValues → Type 0
HaveSixteenBits values = (left right : ℕ) → FitsSigned w16 (values left right)

-- Over a line with one position a glyph, advances of 32 bits and values of 16, kerning by pairs in the stream changes
-- the sum of the advances by the sum of the values of its pairs, modulo 2 ^ 32.
abbrev pub PairsChangeTheAdvances : Type 0
PairsChangeTheAdvances =
    (skips kern_mask : ℕ) (values : PairValues) (b : Buffer) →
    let h = is_horizontal b.direction in
    length (position_list b) ≡ length b.line
    → All (λ q. FitsSigned w32 (advance h q)) (position_list b)
    → HaveSixteenBits values
    → int_wrap w32 (all_advances h (position_list (pair_kerning skips kern_mask false values b)))
    ≡ int_wrap w32 (all_advances h (position_list b) +ℤ all_values values b.line (pairs_of skips kern_mask b.line))

-- the values of a machine, which has none by pairs
abbrev pub no_values : PairValues
no_values left right = pos 0

-- the values of the pairs of a `kerx` subtable, and none of a machine
abbrev pub kerx_values : KerxFormat → PairValues
kerx_values (Format0 pairs) = value_of pairs
kerx_values (Format1 s) = no_values
kerx_values (Format2 pairs) = value_of pairs
kerx_values (Format2Classes pairs) = kerning_by_classes pairs
kerx_values (Format4 s) = no_values
kerx_values (Format6 pairs) = value_of pairs
kerx_values (Format6Classes pairs) = kerning_by_classes pairs

-- those of a `kern` subtable
abbrev pub kern_values : KernKind → PairValues
kern_values (kind.Pairs pairs) = value_of pairs
kern_values (kind.Classes pairs) = kerning_by_classes pairs
kern_values (kind.Machine s) = no_values

-- a subtable of pairs in the stream, whose values have 16 bits
pub record IsInStream (k : Kerning) (values : PairValues) : Type 0 where
  pub pairs : k.is_pairs ≡ true
  pub in_stream : k.has_cross_stream ≡ false
  pub small : HaveSixteenBits values

-- the sum of the values of the pairs of a line, in processing order, by a subtable that is for its text, and else 0
abbrev pub values_by : Kerning → PairValues → ℕ → ℕ → Buffer → ℤ
values_by k values skips kern_mask b =
    let line = ordered_line b in
    if is_for_text k b then all_values values line (pairs_of skips kern_mask line) else pos 0

-- and by all subtables
abbrev pub values_by_all : {X : Type 0} → (X → Kerning) → (X → PairValues) → ℕ → ℕ → List X → Buffer → ℤ
values_by_all kerning values_of skips kern_mask xs b =
    fold (λ s x. s +ℤ values_by (kerning x) (values_of x) skips kern_mask b) (pos 0) xs

-- What was left of a line with advances of 32 bits, where the subtables that are for its text are of pairs in the
-- stream: the sum of the advances is changed by the sum of the values of all of them, modulo 2 ^ 32.
abbrev pub AdvancesGainValues :
    {X : Type 0} → (X → Kerning) → (X → PairValues) → ℕ → ℕ → List X → Buffer → Buffer → Type 0
AdvancesGainValues kerning values_of skips kern_mask xs b left =
    let h = is_horizontal b.direction in
    All (λ q. FitsSigned w32 (advance h q)) (position_list b)
    → All (λ x. is_for_text (kerning x) b ≡ true → IsInStream (kerning x) (values_of x)) xs
    → int_wrap w32 (all_advances h (position_list left))
    ≡ int_wrap w32 (all_advances h (position_list b) +ℤ values_by_all kerning values_of skips kern_mask xs b)

-- so it is of the subtables of a `kerx` table
abbrev pub KerxSumsAdvances : ℕ → List KerxSubtable → Buffer → Buffer → Type 0
KerxSumsAdvances kern_mask subtables b left =
    AdvancesGainValues (kerning_of_kerx_subtable kern_mask None) (λ s. kerx_values s.format) kerx_skips kern_mask
    subtables b left

-- and of those of a `kern` table
abbrev pub KernSumsAdvances : ℕ → List KernSubtable → Buffer → Buffer → Type 0
KernSumsAdvances kern_mask subtables b left =
    AdvancesGainValues (kerning_of_kern_subtable kern_mask) (λ s. kern_values s.kind) kern_skips kern_mask
    subtables b left
