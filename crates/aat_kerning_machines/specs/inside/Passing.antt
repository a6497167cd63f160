-- Glyphs that a kerning machine passes in state 0. No contract but those of the run's parts cites this.
use Rattle.std.specs.Prelude.{ℕ, ◌==◌, ◌&&◌, Bool, not, Option, unwrap_or, List, length, nat_lt, if◌then◌else◌}
use Rattle.aat_buffer.specs.Buffer.{glyph_at}
use Rattle.aat_machine_tables.specs.Entries.{goes_on}
use Rattle.aat_font.specs.Idle.{has_entry}
use Rattle.aat_machine_tables.specs.Table.{TableValue, class_of, entry_of}
use Rattle.aat_machine_tables.specs.declared.state_table.GenericStateEntry.{GenericStateEntry}
use Rattle.aat_glyph.specs.declared.glyph.hb_glyph_info_t.{hb_glyph_info_t}

-- state 0 has an entry for the end of the text, which is not actionable: the look ahead finds it and marks nothing
abbrev pub is_quiet_at_end : {T : Type 0} → (GenericStateEntry T → Bool) → TableValue (GenericStateEntry T) → Bool
is_quiet_at_end actionable table = has_entry (λ e. not (actionable e)) (entry_of table 0 0)

-- an entry that rests and leads over its glyph to state 0
abbrev pub leads_over : {T : Type 0} → (GenericStateEntry T → Bool) → GenericStateEntry T → Bool
leads_over rests e = rests e && (goes_on e && (e.new_state == 0))

module _ {T : Type 0} (table : TableValue (GenericStateEntry T)) where
  -- the entry that state 0 has for a glyph
  abbrev pub first_entry : ℕ → Option (GenericStateEntry T)
  first_entry g = entry_of table 0 (unwrap_or (class_of table g) 1)

  -- the one that it has for the glyph at a place among some, or for the end of the text behind them
  abbrev pub first_entry_at : List hb_glyph_info_t → ℕ → Option (GenericStateEntry T)
  first_entry_at glyphs i =
      if nat_lt i (length glyphs) then first_entry (glyph_at glyphs i).glyph_id else entry_of table 0 0

-- state 0 has an entry for a glyph that rests and leads over it to state 0
abbrev pub is_passed : {T : Type 0} → (GenericStateEntry T → Bool) → TableValue (GenericStateEntry T) → ℕ → Bool
is_passed rests table g = has_entry (leads_over rests) (first_entry table g)
