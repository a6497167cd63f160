-- A kerning table that is written is read again. Apple's TrueType Reference Manual, "The 'kern' table".
use Rattle.std.specs.Prelude.{◌≡◌, ℕ, ℤ, ◌<◌, ◌≤◌, ◌^◌, List, [], length, All, None, Ok}
use Rattle.std.specs.Int.{w16}
use Rattle.std.specs.Int.RustNames.{FitsSigned}
use Rattle.aat_kerning_tables.specs.Classes.{ClassValues}
use Rattle.aat_kerning_tables.specs.KerningTables.{KernMachineTables}
use Rattle.aat_lookup.specs.Keys.{first_fall}
use Rattle.aat_kerning_tables.specs.Pairs.{key_of_pair}
use Rattle.aat_kerning_tables.specs.declared.kern.KernKind.{KernKind}
use Rattle.aat_kerning_tables.specs.declared.kern.KernKind.TheVariants.{Classes, Machine, Pairs}
use Rattle.aat_kerning_tables.specs.declared.kern.KernSubtable.{KernSubtable}
use Rattle.aat_read_kern.specs.Kern.{kern_of}
use Rattle.aat_write_machine.specs.LookupLaws.{IsPair}
use Rattle.aat_write_truetype.specs.kern.KernBytes.{kern_written}
use Rattle.aat_write_truetype.specs.kern.MachineBytes.{KernRule}

-- a number has 16 bits
abbrev pub IsWord : ℕ → Type 0
IsWord number = number < 2 ^ 16

-- a value has 16 bits and a sign
abbrev pub IsValue : ℤ → Type 0
IsValue value = FitsSigned w16 value

-- the numbers of a listed pair have 16 bits each
abbrev pub IsListedPair : ℕ × ℕ × ℤ → Type 0
IsListedPair pair = IsWord pair.0 × IsWord pair.1 × IsValue pair.2

-- the numbers of listed pairs have their bits, and the pairs rise
abbrev pub ArePairs : List (ℕ × ℕ × ℤ) → Type 0
ArePairs pairs = All IsListedPair pairs × (first_fall key_of_pair pairs ≡ None)

-- the numbers of pairs by classes have their bits
abbrev pub AreByClasses : ClassValues → Type 0
AreByClasses p = All IsPair p.left × All IsPair p.right × All IsValue p.values

-- the class of a rule has 16 bits
abbrev pub IsKernRule : KernRule → Type 0
IsKernRule rule = IsWord rule.1

-- the numbers of a machine have their bits
abbrev pub IsKernMachine : KernMachineTables → Type 0
IsKernMachine m =
    IsWord m.state_table.class_count × All IsPair m.state_table.classes
    × All IsKernRule m.state_table.rules × All IsValue m.values

-- the numbers of how a subtable kerns have their bits, and its pairs rise
abbrev pub IsKind : KernKind → Type 0
IsKind (Pairs pairs) = ArePairs pairs
IsKind (Machine machine) = IsKernMachine machine
IsKind (Classes pairs) = AreByClasses pairs

-- such a subtable
abbrev pub IsKernSubtable : KernSubtable → Type 0
IsKernSubtable s = IsKind s.kind

-- the reader gives the very subtables that were written, and none is left out
abbrev pub WrittenKernIsRead : Type 0
WrittenKernIsRead =
    (subtables : List KernSubtable) (bytes : List ℕ)
    → All IsKernSubtable subtables
    → length subtables ≤ 65535
    → kern_written subtables ≡ Ok bytes
    → kern_of bytes ≡ Ok (record { subtables = subtables; left_out = [] })
