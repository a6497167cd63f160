-- The rules of rows. Apple's TrueType Reference Manual, "Font Tables", section on state tables: the state array has a
-- row for each state, and a row the index of an entry for each class.
use Rattle.std.specs.Prelude.{ℕ, ◌*◌, ◌/◌, ◌%◌, ◌<◌, List, [], ◌∷◌, length, take, drop, slice_get, Option, None, Some, if◌then◌else◌, nat_lt}
use Rattle.std.specs.Int.{w16, from_be_bytes}
use Rattle.std.specs.List.{flat_map, range_with_len}
use Rattle.aat_machine_tables.specs.Table.{Rule}
use Rattle.aat_lookup.specs.declared.error.TableError.{TableError}
use Rattle.aat_lookup.specs.declared.error.TableError.TheVariants.{FewClasses}

-- a cell is a state and a class, row by row: here its index, on two bytes, of which the first is the higher one
abbrev pub index_in : List ℕ → ℕ → ℕ
index_in rows cell = from_be_bytes w16 (take 2 (drop (2 * cell) rows))

-- the entry of a cell, if rows have the cell, and the entry of its index is there
abbrev pub entry_of_cell : {E : Type 0} → List E → List ℕ → ℕ → Option E
entry_of_cell entries rows cell =
    if nat_lt cell (length rows / 2) then slice_get entries (index_in rows cell) else None

-- each cell of rows names one of so many entries
abbrev pub NamesEntries : ℕ → List ℕ → Type 0
NamesEntries count rows = (cell : ℕ) → cell < length rows / 2 → index_in rows cell < count

-- the rule of a cell, where rows have so many classes, and none where it has no entry
abbrev pub rule_of_cell : {E : Type 0} → ℕ → ℕ → Option E → List (Rule E)
rule_of_cell count cell None = []
rule_of_cell count cell (Some e) = (cell / count, cell % count, e) ∷ []

-- the rules of rows of so many classes
abbrev pub rules_of_rows : {E : Type 0} → ℕ → List E → List ℕ → List (Rule E)
rules_of_rows count entries rows =
    flat_map (λ cell. rule_of_cell count cell (entry_of_cell entries rows cell)) (range_with_len 0 (length rows / 2))

-- the fault of a number of classes: it is below 4
abbrev pub count_fault : ℕ → Option TableError
count_fault count = if nat_lt count 4 then Some FewClasses else None
