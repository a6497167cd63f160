-- Why a table cannot be read.
use Rattle.std.specs.Prelude.{ℕ, Result, Ok, Err}
use Rattle.aat_bytes.specs.declared.error.Fault.{Fault}
use Rattle.aat_bytes.specs.declared.error.FaultKind.{FaultKind}
use Rattle.aat_bytes.specs.declared.tag.Tag.{Tag}
use Rattle.aat_bytes.specs.declared.error.FaultKind.TheVariants.{PastEnd, UnknownFormat, ShortLength, Missing, NotRising}

-- the numbers of the kinds
abbrev pub number_of_fault : FaultKind → ℕ
number_of_fault PastEnd = 1
number_of_fault UnknownFormat = 2
number_of_fault ShortLength = 3
number_of_fault Missing = 4
number_of_fault NotRising = 5

-- the fault of a table at a place
abbrev pub fault_at : Tag → FaultKind → ℕ → Fault
fault_at table kind place = record { table = table; kind = kind; place = place }

-- what comes after a result, or the fault that is there already
abbrev pub after : {X Y : Type 0} → Result X Fault → (X → Result Y Fault) → Result Y Fault
after (Ok x) next = next x
after (Err fault) next = Err fault
