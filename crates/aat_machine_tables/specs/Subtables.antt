-- What the kinds of subtables with more than one table have. Apple's TrueType Reference Manual, "The 'morx' table".
use Rattle.std.specs.Prelude.{ℕ, List}
use Rattle.aat_machine_tables.specs.Table.{TableValue}
use Rattle.aat_machine_tables.specs.declared.entries.ContextualEntryData.{ContextualEntryData}
use Rattle.aat_machine_tables.specs.declared.entries.InsertionEntryData.{InsertionEntryData}
use Rattle.aat_lookup.specs.declared.glyph_id.GlyphId.{GlyphId}
use Rattle.aat_machine_tables.specs.declared.state_table.GenericStateEntry.{GenericStateEntry}

-- contextual glyph substitution: the machine, and the lookups, each a list of pairs, that its entries name by place
pub record ContextualTables : Type 0 where
  pub state : TableValue (GenericStateEntry ContextualEntryData)
  pub lookups : List (List (ℕ × ℕ))

-- ligature substitution: the machine, whose entries name the place of their first action, the actions, the numbers
-- that are added up to a place in the ligatures, and the ligatures
pub record LigatureTables : Type 0 where
  pub state : TableValue (GenericStateEntry ℕ)
  pub actions : List ℕ
  pub components : List ℕ
  pub ligatures : List GlyphId

-- glyph insertion: the machine, and the glyphs that its entries name by the place of the first and their number
pub record InsertionTables : Type 0 where
  pub state : TableValue (GenericStateEntry InsertionEntryData)
  pub glyphs : List GlyphId
