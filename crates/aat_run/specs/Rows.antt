-- The words of the worked rows.
use Rattle.std.specs.Prelude.{ℕ, ◌+◌, ℤ, pos, List, [], ◌∷◌, ◌++◌, map, replicate}
use Rattle.aat_buffer.specs.Buffer.{Buffer, empty_buffer}
use Rattle.aat_glyph.specs.declared.glyph.hb_glyph_info_t.{hb_glyph_info_t}
use Rattle.aat_machine_tables.specs.Table.{TableValue}
use Rattle.aat_machine_tables.specs.declared.state_table.GenericStateEntry.{GenericStateEntry}
use Rattle.aat_run.specs.Outcome.{Outcome}

-- a glyph by id, cluster and flags
abbrev pub glyph : ℕ → ℕ → ℕ → hb_glyph_info_t
glyph id cluster flags = record { glyph_id = id; mask = flags; cluster = cluster; glyph_props = 0; unicode_props = 0 }

-- glyphs with clusters that rise from a first one, and glyphs all of one cluster
abbrev pub rising_from : ℕ → List ℕ → List hb_glyph_info_t
rising_from cluster [] = []
rising_from cluster (id ∷ ids) = glyph id cluster 0 ∷ rising_from (cluster + 1) ids

abbrev pub all_at : ℕ → List ℕ → List hb_glyph_info_t
all_at cluster ids = map (λ id. glyph id cluster 0) ids

-- a glyph that went into a ligature, and such glyphs with clusters that rise from a first one
abbrev pub deleted_in : ℕ → hb_glyph_info_t
deleted_in cluster = record (glyph 0xFFFF cluster 0) { unicode_props = 0x20 }

abbrev pub deleted_from : ℕ → List ℕ → List hb_glyph_info_t
deleted_from cluster [] = []
deleted_from cluster (id ∷ ids) = deleted_in cluster ∷ deleted_from (cluster + 1) ids

-- a buffer, left to right, with a line and a budget
abbrev pub buffer_with : List hb_glyph_info_t → ℤ → Buffer
buffer_with line budget = record (empty_buffer 16384 budget) { line = line }

abbrev pub many : ℤ
many = pos 16384

-- what the program prints of a run: the line, the turns and the budget
pub record Printed : Type 0 where
  pub line : List hb_glyph_info_t
  pub turns : ℕ
  pub budget : ℤ

abbrev pub printed : Outcome → Printed
printed o = record { line = o.buffer.line; turns = o.turns; budget = o.buffer.max_ops }

abbrev pub entry : {T : Type 0} → ℕ → ℕ → T → GenericStateEntry T
entry state flags extra = record { new_state = state; flags = flags; extra = extra }

-- a state's entries for classes from one on, which stay in state 0 and do nothing
abbrev pub idle_entries : {T : Type 0} → T → ℕ → ℕ → List ℕ → List (ℕ × ℕ × GenericStateEntry T)
idle_entries nothing state class [] = []
idle_entries nothing state class (c ∷ cs) =
    (state, class, entry 0 0 nothing) ∷ idle_entries nothing state (class + 1) cs

-- a table of so many classes: what is not listed in states 0 and 1 does nothing
abbrev pub table : {T : Type 0} → T → ℕ → List (ℕ × ℕ) → List (ℕ × ℕ × GenericStateEntry T)
    → TableValue (GenericStateEntry T)
table nothing count classes listed = record {
  class_count = count;
  classes = classes;
  rules = listed ++ (idle_entries nothing 0 0 (replicate count 0) ++ idle_entries nothing 1 0 (replicate count 0));
}

abbrev pub shows : List hb_glyph_info_t → ℕ → Printed
shows line turns = record { line = line; turns = turns; budget = many }

abbrev pub shows_with : ℤ → List hb_glyph_info_t → ℕ → Printed
shows_with budget line turns = record { line = line; turns = turns; budget = budget }
