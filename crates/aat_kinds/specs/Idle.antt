-- Subtables over lines on which no glyph wakes them. Apple's TrueType Reference Manual, "The 'morx' table".
use Rattle.std.specs.Prelude.{◌≡◌, ◌+◌, ◌<◌, ℕ, Bool, true, is_none, List, length}
use Rattle.std.specs.Int.{bit_at}
use Rattle.aat_buffer.specs.Buffer.{Buffer, with_cursor, without_positions, glyph_at}
use Rattle.aat_font.specs.Idle.{is_idle}
use Rattle.aat_lookup.specs.Keys.{value_in}
use Rattle.aat_font.specs.Wakers.{word_of}
use Rattle.aat_machine_tables.specs.declared.morx.SubtableKind.{SubtableKind}
use Rattle.aat_machine_tables.specs.declared.morx.SubtableKind.TheVariants.{Rearrangement, Contextual, Ligature, NonContextual, Insertion}
use Rattle.aat_glyph.specs.declared.glyph.hb_glyph_info_t.{hb_glyph_info_t}
use Rattle.aat_run.specs.Outcome.{Outcome}
use Rattle.aat_run.specs.declared.wakers.Wakers.{Wakers}

-- a subtable does nothing over each glyph of a line
abbrev pub IsIdleLineOf : SubtableKind → List hb_glyph_info_t → Type 0
IsIdleLineOf kind line = (k : ℕ) → k < length line → is_idle kind (glyph_at line k).glyph_id ≡ true

-- each glyph whose bit is clear is idle, by a test
abbrev pub SleepOthers : (ℕ → Bool) → Wakers → Type 0
SleepOthers test wakers = (wakers.bit < 64) × ((g : ℕ) → bit_at (word_of wakers.words.now g) wakers.bit ≡ 0 → test g ≡ true)

-- a lookup has no value for a glyph
abbrev pub has_no_value : List (ℕ × ℕ) → ℕ → Bool
has_no_value lookup g = is_none (value_in lookup g)

-- a machine takes a turn for each glyph and one more
abbrev pub passed_over : Buffer → Outcome
passed_over b = record { buffer = with_cursor b 0; turns = length b.line + 1 }

-- what a subtable leaves over such a line: the line stays, in its turns
abbrev pub at_rest : SubtableKind → Buffer → Outcome
at_rest (Rearrangement table) b = passed_over b
at_rest (Contextual s) b = passed_over b
at_rest (Ligature s) b = passed_over (without_positions b)
at_rest (NonContextual lookup) b = record { buffer = b; turns = length b.line }
at_rest (Insertion s) b = passed_over (without_positions b)
