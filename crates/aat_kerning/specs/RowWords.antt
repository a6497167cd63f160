-- The words of kerning's worked rows and examples.
use Rattle.std.specs.Prelude.{ℕ, ◌+◌, ℤ, pos, true, false, List, [], ◌∷◌, Option, Some, map}
use Rattle.aat_buffer.specs.Buffer.{Buffer}
use Rattle.aat_glyph.specs.declared.glyph.hb_glyph_info_t.{hb_glyph_info_t}
use Rattle.aat_glyph.specs.declared.glyph.GlyphPosition.{GlyphPosition}
use Rattle.aat_glyph.specs.declared.glyph.Direction.{Direction}
use Rattle.aat_machine_tables.specs.Table.{TableValue}
use Rattle.aat_machine_tables.specs.declared.state_table.GenericStateEntry.{GenericStateEntry}
use Rattle.aat_machine_tables.specs.declared.entries.EntryData.{EntryData}
use Rattle.aat_machine_tables.specs.declared.entries.KernEntryData.{KernEntryData}
use Rattle.aat_kerning_tables.specs.declared.kern.KernKind.{KernKind}
use Rattle.aat_kerning_tables.specs.declared.kern.KernKind.TheVariants as kind
use Rattle.aat_kerning_tables.specs.declared.kern.KernSubtable.{KernSubtable}
use Rattle.aat_kerning_tables.specs.declared.kerx.KerxFormat.{KerxFormat}
use Rattle.aat_kerning_tables.specs.declared.kerx.KerxFormat.TheVariants.{Format1, Format4}
use Rattle.aat_kerning_tables.specs.declared.kerx.KerxSubtable.{KerxSubtable}
use Rattle.aat_kerning_tables.specs.AnchorPoints.{Points}
use Rattle.aat_run.specs.Outcome.{Outcome}
use Rattle.aat_run.specs.Rows.{glyph, entry, table, buffer_with, many}
use Rattle.aat_kerning.specs.Positioning.{kerx_positioning, kern_positioning}

-- a position by its numbers, without an attachment
abbrev pub position : ℤ → ℤ → ℤ → ℤ → GlyphPosition
position xa ya xo yo = record {
  x_advance = xa;
  y_advance = ya;
  x_offset = xo;
  y_offset = yo;
  attach_type = 0;
  attach_chain = pos 0;
}

-- the position that each glyph of a row has at first
abbrev pub untouched_position : GlyphPosition
untouched_position = position (pos 500) (pos 0) (pos 0) (pos 0)

-- a position of horizontal text by its advance and its offset along the line
abbrev pub along_x : ℤ → ℤ → GlyphPosition
along_x advance offset = position advance (pos 0) offset (pos 0)

-- what kerning leaves: the line, the positions, the scratch flags, the turns and the budget
pub record PrintedKerning : Type 0 where
  pub line : List hb_glyph_info_t
  pub positions : Option (List GlyphPosition)
  pub scratch : ℕ
  pub turns : ℕ
  pub budget : ℤ

-- these of an outcome
abbrev pub printed_kerning : Outcome → PrintedKerning
printed_kerning o = record {
  line = o.buffer.line;
  positions = o.buffer.positions;
  scratch = o.buffer.scratch_flags.0;
  turns = o.turns;
  budget = o.buffer.max_ops;
}

-- a line with positions, behind no turn
abbrev pub shows_positions : List hb_glyph_info_t → List GlyphPosition → PrintedKerning
shows_positions line positions =
    record { line = line; positions = Some positions; scratch = 0; turns = 0; budget = many }

-- the same behind three turns of a machine
abbrev pub shows_three_turns : List hb_glyph_info_t → List GlyphPosition → PrintedKerning
shows_three_turns line positions = record (shows_positions line positions) { turns = 3; budget = pos 16382 }

-- glyphs that ask for kerning by the bit 8, with clusters from one on
abbrev pub asking_from : ℕ → List ℕ → List hb_glyph_info_t
asking_from c [] = []
asking_from c (id ∷ ids) = glyph id c 8 ∷ asking_from (c + 1) ids

-- the line of the glyphs 1 and 2
abbrev pub two_glyphs : List hb_glyph_info_t
two_glyphs = asking_from 0 (1 ∷ 2 ∷ [])

-- the same with the second glyph marked unsafe to break
abbrev pub two_glyphs_marked : List hb_glyph_info_t
two_glyphs_marked = glyph 1 0 8 ∷ glyph 2 1 11 ∷ []

-- a buffer with advances of 500
abbrev pub buffer_with_advances : Direction → ℤ → List hb_glyph_info_t → Buffer
buffer_with_advances direction budget line =
    record (buffer_with line budget) { direction = direction; positions = Some (map (λ g. untouched_position) line) }

-- the pairs of a `kern` subtable
abbrev pub pairs_of_kern : List (ℕ × ℕ × ℤ) → KernKind
pairs_of_kern values = kind.Pairs values

-- the machine of a `kern` subtable
abbrev pub machine_of_kern : TableValue (GenericStateEntry KernEntryData) → List ℤ → KernKind
machine_of_kern table values = kind.Machine (record { state_table = table; values = values })

-- the stack machine of a `kerx` subtable
abbrev pub stack_of_kerx : TableValue (GenericStateEntry EntryData) → List ℤ → KerxFormat
stack_of_kerx table values = Format1 (record { state_table = table; values = values })

-- the anchor machine of a `kerx` subtable
abbrev pub anchors_of_kerx : TableValue (GenericStateEntry EntryData) → List (ℕ × ℕ) → KerxFormat
anchors_of_kerx table pairs = Format4 (record { state_table = table; anchor_points = pairs })

-- a horizontal `kern` subtable in the stream
abbrev pub kern_subtable : KernKind → KernSubtable
kern_subtable how = record { kind = how; horizontal = true; has_cross_stream = false; variable = false }

-- a horizontal `kerx` subtable in the stream
abbrev pub kerx_subtable : KerxFormat → KerxSubtable
kerx_subtable format = record {
  format = format;
  horizontal = true;
  has_cross_stream = false;
  variable = false;
  is_last_to_first = false;
  tuple_count = 0;
}

-- kerning by `kern` subtables, where it is requested
abbrev pub by_kern : List KernSubtable → Buffer → PrintedKerning
by_kern subtables b = printed_kerning (kern_positioning true 8 subtables b)

-- kerning by `kerx` subtables, where it is requested
abbrev pub by_kerx : Option Points → List KerxSubtable → Buffer → PrintedKerning
by_kerx points subtables b = printed_kerning (kerx_positioning true 8 points subtables b)

-- an entry's index of values in a `kern` machine
abbrev pub values_from : ℕ → KernEntryData
values_from i = record { value_index = i }

-- no index of values
abbrev pub no_values : KernEntryData
no_values = values_from 0xFFFF

-- an entry's index of an action in a `kerx` machine
abbrev pub action_at : ℕ → EntryData
action_at i = record { action_index = i }

-- no index of an action
abbrev pub no_action : EntryData
no_action = action_at 0xFFFF

-- a `kern` state table in which the glyph 1 has class 4 and the glyph 2 class 5
abbrev pub kern_rules : List (ℕ × ℕ × GenericStateEntry KernEntryData) → TableValue (GenericStateEntry KernEntryData)
kern_rules listed = table no_values 6 ((1, 4) ∷ (2, 5) ∷ []) listed

-- the same of `kerx`
abbrev pub kerx_rules : List (ℕ × ℕ × GenericStateEntry EntryData) → TableValue (GenericStateEntry EntryData)
kerx_rules listed = table no_action 6 ((1, 4) ∷ (2, 5) ∷ []) listed

-- a `kern` machine that pushes 1, and pushes 2 and takes the values from 0
abbrev pub kern_entries : TableValue (GenericStateEntry KernEntryData)
kern_entries = kern_rules ((0, 4, entry 0 0x8000 no_values) ∷ (0, 5, entry 0 0x8000 (values_from 0)) ∷ [])

-- the same of `kerx`
abbrev pub kerx_entries : TableValue (GenericStateEntry EntryData)
kerx_entries = kerx_rules ((0, 4, entry 0 0x8000 no_action) ∷ (0, 5, entry 0 0x8000 (action_at 0)) ∷ [])

-- a `kerx` anchor machine that marks 1, and attaches 2 by the first pair of points
abbrev pub anchor_entries : TableValue (GenericStateEntry EntryData)
anchor_entries = kerx_rules ((0, 4, entry 0 0x8000 no_action) ∷ (0, 5, entry 0 0 (action_at 0)) ∷ [])

-- one `kern` subtable of pairs, in a direction
abbrev pub kern_pairs : Direction → List (ℕ × ℕ × ℤ) → List hb_glyph_info_t → PrintedKerning
kern_pairs direction values line =
    by_kern (kern_subtable (pairs_of_kern values) ∷ []) (buffer_with_advances direction many line)
