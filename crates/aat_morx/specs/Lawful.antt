-- What holds of substitution as a whole: its bounds, and the order of its clusters.
use Rattle.std.specs.Prelude.{◌+◌, ◌*◌, ◌<◌, ◌≤◌, List, length}
use Rattle.aat_buffer.specs.Buffer.{Buffer}
use Rattle.aat_machine_tables.specs.declared.morx.Subtable.{Subtable}
use Rattle.aat_run.specs.Budget.{extent}
use Rattle.aat_run.specs.Laws.{HasOrderOf, IsBounded}
use Rattle.aat_run.specs.Switches.{Switch}
use Rattle.aat_map.specs.SwitchedChains.{SwitchedChain}
use Rattle.aat_kinds.specs.Kinds.{Sizes}
use Rattle.aat_morx.specs.Substitution.{subtable_run, substituted, subtables_in}

-- the bounds of a subtable; S subtables take at most S(n + M + 1) turns, and length and budget together do not grow,
-- so that at most n + M glyphs are left; no run shortens the line
pub record RunsAreBounded : Type 0 where
  pub subtable :
      (z : Sizes) (switch : Switch) (s : Subtable) (b : Buffer) → 0 < z.slots → IsBounded b (subtable_run z switch s b)
  pub turns : (z : Sizes) (chains : List SwitchedChain) (b : Buffer) → 0 < z.slots
      → (substituted z chains b).turns ≤ subtables_in chains * (extent b + 1)
  pub extent :
      (z : Sizes) (chains : List SwitchedChain) (b : Buffer) → 0 < z.slots
      → extent (substituted z chains b).buffer ≤ extent b
  pub length :
      (z : Sizes) (chains : List SwitchedChain) (b : Buffer) → 0 < z.slots
      → length b.line ≤ length (substituted z chains b).buffer.line

-- where clusters merge, clusters that never fall along the line never fall behind substitution, and those that
-- never rise never rise; at every level each of them stood on the line before
abbrev pub ClustersKeepTheirOrder : Type 0
ClustersKeepTheirOrder =
    (z : Sizes) (chains : List SwitchedChain) (b : Buffer) → 0 < z.slots → HasOrderOf b (substituted z chains b).buffer
