-- Which subtables of a font are settled. Apple's TrueType Reference Manual, "The 'morx' table", chains.
use Rattle.std.specs.Prelude.{◌≡◌, ℕ, List, Some, slice_get, take}
use Rattle.std.specs.List.{All}
use Rattle.aat_machine_tables.specs.declared.morx.Chain.{Chain}
use Rattle.aat_machine_tables.specs.declared.morx.Subtable.{Subtable}
use Rattle.aat_cuts.specs.Kinds.{IsSettled, IsVerdictOn}
use Rattle.aat_cuts.specs.declared.font.UnsettledSubtable.{UnsettledSubtable}
use Rattle.aat_cuts.specs.declared.unsettled.Unsettled.{Unsettled}

-- each subtable is settled
abbrev pub AreSettled : List Subtable → Type 0
AreSettled subtables = All (λ s. IsSettled s.kind) subtables

-- and so is each one of each chain
abbrev pub AreAllSettled : List Chain → Type 0
AreAllSettled chains = All (λ chain. AreSettled chain.subtables.items) chains

-- the subtable at a place is the first that is not, for a reason
abbrev pub IsReasonAt : List Subtable → ℕ → Unsettled → Type 0
IsReasonAt subtables place reason =
    (s : Subtable) × (slice_get subtables place ≡ Some s) × IsVerdictOn s.kind (Some reason)
    × AreSettled (take place subtables)

-- the subtable of the chain and the place that are named is the first that is not, for the reason that is
abbrev pub IsReasonIn : List Chain → UnsettledSubtable → Type 0
IsReasonIn chains u =
    (c : Chain) × (slice_get chains u.chain ≡ Some c) × IsReasonAt c.subtables.items u.subtable u.reason
    × AreAllSettled (take u.chain chains)
