-- Ligature substitution and glyph insertion as bytes. Apple's TrueType Reference Manual, "The 'morx' table".
use Rattle.std.specs.Prelude.{ℕ, ◌+◌, ◌*◌, List, [], ◌∷◌, ◌++◌, length, map, Bool, Result, Ok, Err, if◌then◌else◌, nat_lt, ◌||◌}
use Rattle.aat_machine_tables.specs.Subtables.{InsertionTables, LigatureTables}
use Rattle.aat_lookup.specs.declared.glyph_id.GlyphId.{GlyphId}
use Rattle.aat_write_machine.specs.Words.{long_bytes, word_bytes}
use Rattle.aat_write_machine.specs.EntryWords.{insertion_words, one_word}
use Rattle.aat_write_machine.specs.Machines.{class_table_written, machine_bytes}
use Rattle.aat_write_machine.specs.MorxWriteErrors.{after_written}
use Rattle.aat_write_machine.specs.declared.error.MorxWriteError.{MorxWriteError}
use Rattle.aat_write_machine.specs.declared.error.MorxWriteError.TheVariants.{TooLong}

-- the numbers of glyphs
abbrev pub glyph_words : List GlyphId → List ℕ
glyph_words glyphs = map (λ g. g.0) glyphs

-- where a state table ends that has so many further offsets and cells, whose entries have so many bytes beside a state
-- and flags
abbrev pub machine_end : ℕ → ℕ → List ℕ → ℕ → ℕ
machine_end further size classes cells = 16 + 4 * further + length classes + 2 * cells + (4 + size) * cells

-- whether a list has more elements than its offsets have room for
abbrev pub is_too_long : {X : Type 0} → List X → Bool
is_too_long list = nat_lt 268435455 (length list)

-- glyph insertion: the machine, with the offset of the glyphs, and the glyphs
abbrev pub insertion_bytes : List ℕ → InsertionTables → List ℕ
insertion_bytes classes t =
    let offset = machine_end 1 4 classes (length t.state.rules) in
    machine_bytes insertion_words (offset ∷ []) t.state.class_count classes t.state.rules
    ++ word_bytes (glyph_words t.glyphs)

-- its bytes, or why it is not written
abbrev pub insertion_written : InsertionTables → Result (List ℕ) MorxWriteError
insertion_written t = after_written (class_table_written t.state) (λ classes.
    if is_too_long t.glyphs then Err TooLong else Ok (insertion_bytes classes t))

-- where the lists of ligature substitution start: actions of four bytes, then components of two, then ligatures
abbrev pub ligature_offsets : List ℕ → LigatureTables → List ℕ
ligature_offsets classes t =
    let end = machine_end 3 2 classes (length t.state.rules) in
    let components = end + 4 * length t.actions in
    end ∷ components ∷ (components + 2 * length t.components) ∷ []

-- the lists
abbrev pub list_bytes : LigatureTables → List ℕ
list_bytes t = long_bytes t.actions ++ (word_bytes t.components ++ word_bytes (glyph_words t.ligatures))

-- ligature substitution: the machine, with the offsets of the lists, and the lists
abbrev pub ligature_bytes : List ℕ → LigatureTables → List ℕ
ligature_bytes classes t =
    machine_bytes one_word (ligature_offsets classes t) t.state.class_count classes t.state.rules
    ++ list_bytes t

-- whether a list has more elements than its offsets have room for
abbrev pub has_long_list : LigatureTables → Bool
has_long_list t = is_too_long t.actions || (is_too_long t.components || is_too_long t.ligatures)

-- its bytes, or why it is not written
abbrev pub ligature_written : LigatureTables → Result (List ℕ) MorxWriteError
ligature_written t = after_written (class_table_written t.state) (λ classes.
    if has_long_list t then Err TooLong else Ok (ligature_bytes classes t))
