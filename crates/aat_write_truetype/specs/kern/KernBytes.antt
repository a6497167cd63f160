-- The kerning table as bytes. Apple's TrueType Reference Manual, "The 'kern' table".
use Rattle.std.specs.Prelude.{ℕ, ◌+◌, List, [], ◌∷◌, ◌++◌, length, Bool, Result, Ok, Err, if◌then◌else◌}
use Rattle.aat_kerning_tables.specs.declared.kern.KernKind.{KernKind}
use Rattle.aat_kerning_tables.specs.declared.kern.KernKind.TheVariants.{Classes, Machine, Pairs}
use Rattle.aat_kerning_tables.specs.declared.kern.KernSubtable.{KernSubtable}
use Rattle.aat_write_machine.specs.Words.{long_bytes, word_bytes}
use Rattle.aat_write_truetype.specs.kern.ClassBytes.{classes_written}
use Rattle.aat_write_truetype.specs.kern.KernWriteErrors.{after_written}
use Rattle.aat_write_truetype.specs.kern.MachineBytes.{machine_written}
use Rattle.aat_write_truetype.specs.kern.PairBytes.{pairs_written}
use Rattle.aat_write_truetype.specs.declared.kern.error.KernWriteError.{KernWriteError}
use Rattle.aat_write_truetype.specs.declared.kern.error.KernWriteError.TheVariants.{Variable}

-- the number of a format
abbrev pub format_number : KernKind → ℕ
format_number (Pairs pairs) = 0
format_number (Machine machine) = 1
format_number (Classes pairs) = 2

-- a bit of a coverage
abbrev pub bit : Bool → ℕ → ℕ
bit is_set number = if is_set then number else 0

-- the coverage of a subtable: 0x80 for vertical text, 0x40 across the line
abbrev pub coverage_number : KernSubtable → ℕ
coverage_number s = (if s.horizontal then 0 else 128) + bit s.has_cross_stream 64

-- the header of a subtable: its length, which counts the header, its coverage, its format and a number that is passed
abbrev pub header_bytes : KernSubtable → ℕ → List ℕ
header_bytes s size = long_bytes ((8 + size) ∷ []) ++ (coverage_number s ∷ format_number s.kind ∷ 0 ∷ 0 ∷ [])

-- the bytes of how a subtable kerns, by its kind, or why it is not written
abbrev pub kind_written : KernKind → Result (List ℕ) KernWriteError
kind_written (Pairs pairs) = pairs_written pairs
kind_written (Machine machine) = machine_written machine
kind_written (Classes pairs) = classes_written pairs

-- the bytes of a subtable, or why it is not written: one of variations is not
abbrev pub subtable_written : KernSubtable → Result (List ℕ) KernWriteError
subtable_written s =
    if s.variable then Err Variable else
    after_written (kind_written s.kind) (λ body. Ok (header_bytes s (length body) ++ body))

-- the bytes of subtables, or why the first that is not written is not
abbrev pub subtables_written : List KernSubtable → Result (List ℕ) KernWriteError
subtables_written [] = Ok []
subtables_written (s ∷ ss) =
    after_written (subtable_written s) (λ bytes. after_written (subtables_written ss) (λ more. Ok (bytes ++ more)))

-- the bytes of a table, or why it is not written: version 1.0, the number of subtables, and these
abbrev pub kern_written : List KernSubtable → Result (List ℕ) KernWriteError
kern_written subtables = after_written (subtables_written subtables)
    (λ bytes. Ok ((word_bytes (1 ∷ 0 ∷ []) ++ long_bytes (length subtables ∷ [])) ++ bytes))
