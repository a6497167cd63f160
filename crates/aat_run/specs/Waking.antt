-- Glyphs that may wake a machine, and those that it passes in state 0. Apple's TrueType Reference Manual, "Font Tables",
-- section on state tables.
use Rattle.std.specs.Prelude.{◌≡◌, ◌==◌, ◌&&◌, ◌<◌, ℕ, Bool, true}
use Rattle.std.specs.Int.{bit_at}
use Rattle.std.specs.Option.{unwrap_or}
use Rattle.aat_font.specs.Idle.{has_entry}
use Rattle.aat_machine_tables.specs.Table.{TableValue, class_of, entry_of}
use Rattle.aat_font.specs.Wakers.{word_of}
use Rattle.aat_machine_tables.specs.declared.state_table.GenericStateEntry.{GenericStateEntry}
use Rattle.aat_run.specs.declared.wakers.Wakers.{Wakers}

-- an entry leads over its glyph to state 0, and rests
abbrev pub passes_by : {T : Type 0} → (GenericStateEntry T → Bool) → (GenericStateEntry T → Bool) → GenericStateEntry T → Bool
passes_by advances rests e = (e.new_state == 0) && (advances e && rests e)

-- a glyph whose bit is clear has such an entry in state 0
abbrev pub PassesOthers : {T : Type 0} → (GenericStateEntry T → Bool) → (GenericStateEntry T → Bool) → TableValue (GenericStateEntry T) → Wakers → Type 0
PassesOthers advances rests table wakers =
    (wakers.bit < 64) × ((g : ℕ) → bit_at (word_of wakers.words.now g) wakers.bit ≡ 0
    → has_entry (passes_by advances rests) (entry_of table 0 (unwrap_or (class_of table g) 1)) ≡ true)
