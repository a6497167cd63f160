-- Machines with a stack, as bytes. Apple's TrueType Reference Manual, "The 'kern' table", format 1.
use Rattle.std.specs.Prelude.{ℕ, ◌+◌, ◌*◌, ◌/◌, ◌%◌, List, [], ◌∷◌, ◌++◌, length, map, max, Bool, not, Option, Some, None, option_map, Result, if◌then◌else◌, nat_lt, ◌==◌, ◌&&◌, ◌||◌, bit_and}
use Rattle.std.specs.List.{flat_map, range_with_len}
use Rattle.std.specs.Option.{option_or}
use Rattle.aat_kerning_tables.specs.KerningTables.{KernMachineTables}
use Rattle.aat_machine_tables.specs.Table.{Rule, rule_key}
use Rattle.aat_machine_tables.specs.declared.entries.KernEntryData.{KernEntryData}
use Rattle.aat_machine_tables.specs.declared.state_table.GenericStateEntry.{GenericStateEntry}
use Rattle.aat_write_machine.specs.Words.{word_bytes}
use Rattle.aat_write_truetype.specs.kern.DenseClasses.{class_gap, first_glyph}
use Rattle.aat_write_truetype.specs.kern.KernWriteErrors.{unless_refused}
use Rattle.aat_write_truetype.specs.kern.PairBytes.{value_word}
use Rattle.aat_write_truetype.specs.declared.kern.error.KernWriteError.{KernWriteError}
use Rattle.aat_write_truetype.specs.declared.kern.error.KernWriteError.TheVariants.{ClassCount, RuleCount, TooLong, Class, Rule as RuleError}

-- a rule of a machine of the kerning table
abbrev pub KernRule : Type 0
KernRule = Rule (GenericStateEntry KernEntryData)

-- where the rows start: behind the header of 10 bytes and the class table, which has a byte for each glyph
abbrev pub row_offset : ℕ → ℕ
row_offset glyphs = 14 + glyphs

-- where the entries start: behind the rows, which have a byte for each cell
abbrev pub entry_offset : ℕ → ℕ → ℕ
entry_offset glyphs cells = row_offset glyphs + cells

-- where the values start: behind the entries, of which each cell has one
abbrev pub value_offset : ℕ → ℕ → ℕ
value_offset glyphs cells = entry_offset glyphs cells + 4 * cells

-- the flags of an entry: its two highest bits, and where its values start. Value 65535 is none
abbrev pub flags_word : ℕ → GenericStateEntry KernEntryData → ℕ
flags_word values entry =
    if entry.extra.value_index == 65535 then entry.flags else entry.flags + (values + 2 * entry.extra.value_index)

-- an entry: where the row of its state starts, and its flags
abbrev pub entry_words : ℕ → ℕ → ℕ → KernRule → List ℕ
entry_words width rows values rule = (rows + rule.2.new_state * width) ∷ flags_word values rule.2 ∷ []

-- the number of classes, the offsets of the class table, of the rows, of the entries and of the values, and of the
-- class table its first glyph and the number of its glyphs
abbrev pub header_words : KernMachineTables → List ℕ
header_words m =
    let glyphs = length m.state_table.classes in
    let cells = length m.state_table.rules in
    m.state_table.class_count ∷ 10 ∷ row_offset glyphs ∷ entry_offset glyphs cells ∷ value_offset glyphs cells
    ∷ first_glyph m.state_table.classes ∷ glyphs ∷ []

-- the entries, one for each cell, and the values
abbrev pub entries_words : KernMachineTables → List ℕ
entries_words m =
    let glyphs = length m.state_table.classes in
    let cells = length m.state_table.rules in
    flat_map (entry_words m.state_table.class_count (row_offset glyphs) (value_offset glyphs cells)) m.state_table.rules
    ++ map value_word m.values

-- a machine: the headers, the class of each glyph, the index of each cell, the entries and the values
abbrev pub machine_bytes : KernMachineTables → List ℕ
machine_bytes m =
    word_bytes (header_words m) ++ (map (λ pair. pair.1) m.state_table.classes
    ++ (range_with_len 0 (length m.state_table.rules) ++ word_bytes (entries_words m)))

-- whether there is a rule for each class of some states, at most 256 together
abbrev pub fill_rows : ℕ → ℕ → Bool
fill_rows width cells = nat_lt 0 cells && nat_lt cells 257 && (cells % width == 0)

-- whether the flags of an entry are no more than the two highest bits, and its values are near enough for the others
abbrev pub fits_flags : ℕ → GenericStateEntry KernEntryData → Bool
fits_flags values entry =
    (bit_and entry.flags 49152 == entry.flags)
    && ((entry.extra.value_index == 65535) || nat_lt (values + 2 * entry.extra.value_index) 16384)

-- whether a rule is that of a cell, the rules before it name its state or one behind it, and it names one that has
-- a row
abbrev pub is_at_cell : ℕ → ℕ → ℕ → ℕ → KernRule → Bool
is_at_cell width states cell highest rule =
    (rule_key rule == cell / width * 65536 + cell % width)
    && nat_lt (cell / width) (highest + 1)
    && nat_lt rule.2.new_state states

module _ (width states values : ℕ) where
  -- the first rule, from a cell on, that is not the one that is read there, where the rules before it name no state
  -- above the highest
  abbrev pub wrong_from : ℕ → ℕ → List KernRule → Option ℕ
  wrong_from cell highest [] = None
  wrong_from cell highest (rule ∷ rules) =
      if is_at_cell width states cell highest rule && fits_flags values rule.2 then
      wrong_from (cell + 1) (max highest rule.2.new_state) rules else Some cell

-- the first rule of a machine with values at an offset that is not the one that is read there
abbrev pub wrong_rule : ℕ → ℕ → List KernRule → Option ℕ
wrong_rule width values rules = wrong_from width (length rules / width) values 0 0 rules

-- the first refusal of the classes and the rules of a machine whose values start at an offset
abbrev pub parts_refusal : ℕ → ℕ → List (ℕ × ℕ) → List KernRule → Option KernWriteError
parts_refusal width values classes rules =
    option_or (option_map Class (class_gap 256 classes)) (option_map RuleError (wrong_rule width values rules))

-- the first refusal of a machine of so many classes, with so many values
abbrev pub rules_refusal : ℕ → List (ℕ × ℕ) → List KernRule → ℕ → Option KernWriteError
rules_refusal width classes rules count =
    let values = value_offset (length classes) (length rules) in
    if nat_lt width 4 then Some ClassCount else
    if not (fill_rows width (length rules)) then Some RuleCount else
    if nat_lt 65535 values || nat_lt 16384 count then Some TooLong else
    parts_refusal width values classes rules

-- the first refusal of a machine
abbrev pub machine_refusal : KernMachineTables → Option KernWriteError
machine_refusal m =
    rules_refusal m.state_table.class_count m.state_table.classes m.state_table.rules (length m.values)

-- the bytes of a machine, or why it is not written
abbrev pub machine_written : KernMachineTables → Result (List ℕ) KernWriteError
machine_written m = unless_refused (machine_refusal m) (machine_bytes m)
