-- Which tables make no line longer.
use Rattle.std.specs.Prelude.{Bool, List}
use Rattle.std.specs.List.{list_any}
use Rattle.aat_machine_tables.specs.declared.morx.Chain.{Chain}
use Rattle.aat_machine_tables.specs.declared.morx.Subtable.{Subtable}
use Rattle.aat_kinds.specs.Kinds.{is_insertion}

-- one of these subtables is one of insertion
abbrev pub inserts : List Subtable → Bool
inserts subtables = list_any (λ s. is_insertion s.kind) subtables

-- some subtable of some chain is
abbrev pub has_insertion : List Chain → Bool
has_insertion chains = list_any (λ c. inserts c.subtables.items) chains
