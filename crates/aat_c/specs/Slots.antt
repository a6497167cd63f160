-- What a slot owns.
use base.Fml.{Fml, ftrue}
use base.Stored.{Coded}
use denote.RawPtr.{Ptr}
use mathlib.Core.Bool.{Bool, true, false}
use Rattle.std.specs.Box.Ownership.{box_owns}
use mathlib.Core.Path.{◌≡◌}
use Rattle.std.specs.Global.{Global, Box}
use Rattle.std.specs.declared.option.Option.{Option}
use Rattle.std.specs.declared.option.Option.TheVariants.{None, Some}
use Rattle.std.specs.contracts.option.Option as option
use Rattle.std.specs.contracts.impls.GlobalAllocator.TheImpl.{ghosts}
use Rattle.aat_records.specs.declared.held.Held.{Held}
use Rattle.aat_records.specs.contracts.held.Held.{the_row}

-- the box at p with its value, or nothing
abbrev pub slot_owns : Option Held → Global → Ptr → Fml
slot_owns (Some v) alloc p = box_owns (ghosts.dealloc_token alloc) the_row p v
slot_owns None alloc p = ftrue

-- whether there is a box
abbrev pub holds : Option Held → Bool
holds (Some v) = true
holds None = false

-- how the logic stores it
abbrev pub held_coded : Coded (Option Held)
held_coded = (option.the_row the_row).coded

-- a box is what was held, or there was none
abbrev pub taken_from : Option Held → Option (Box Held) → Type 0
taken_from o (Some b) = o ≡ Some b.value
taken_from o None = o ≡ None
