-- What a kerning table weighs that is read: the bytes of memory that it takes.
use Rattle.std.specs.Prelude.{ℕ, ◌+◌, ◌*◌, ◌/◌, length, sum_by}
use Rattle.aat_kerning_tables.specs.Classes.{ClassValues}
use Rattle.aat_kerning_tables.specs.KerningTables.{KernMachineTables}
use Rattle.aat_kerning_tables.specs.declared.kern.KernKind.{KernKind}
use Rattle.aat_kerning_tables.specs.declared.kern.KernKind.TheVariants.{Classes, Machine, Pairs}
use Rattle.aat_kerning_tables.specs.declared.kern.KernSubtable.{KernSubtable}
use Rattle.aat_read_lookup.specs.Sizes.{pairs_size}
use Rattle.aat_read_machine.specs.Weights.{machine_weight}
use Rattle.aat_read_pairs.specs.Weights.{pairs_weight}
use Rattle.aat_read_pairs.specs.declared.weights.TheConstants.{LEFT_OUT_SIZE}
use Rattle.aat_read_kern.specs.Kern.{KernValue}
use Rattle.aat_read_kern.specs.declared.weights.TheConstants.{KERN_RULE_SIZE, KERN_SUBTABLE_SIZE}

-- pairs by classes: the classes of left and of right glyphs with the cells beside them, values of two bytes, and a byte
-- for each left class that they reach
abbrev pub class_pairs_weight : ClassValues → ℕ
class_pairs_weight pairs =
    pairs_size pairs.left + pairs_size pairs.right + 2 * length pairs.values
    + (length pairs.values / pairs.right_count + 1)

-- a machine, its classes with the cells beside them, and its values of two bytes
abbrev pub machine_tables_weight : KernMachineTables → ℕ
machine_tables_weight t =
    machine_weight KERN_RULE_SIZE t.state_table + pairs_size t.state_table.classes + 2 * length t.values

-- how a subtable kerns
abbrev pub kind_weight : KernKind → ℕ
kind_weight (Pairs pairs) = pairs_weight pairs
kind_weight (Classes pairs) = class_pairs_weight pairs
kind_weight (Machine t) = machine_tables_weight t

-- a subtable that kerns
abbrev pub subtable_weight : KernSubtable → ℕ
subtable_weight subtable = KERN_SUBTABLE_SIZE + kind_weight subtable.kind

-- all subtables of a table, and what is told of those that are left out
abbrev pub kern_weight : KernValue → ℕ
kern_weight kern = sum_by subtable_weight kern.subtables + LEFT_OUT_SIZE * length kern.left_out
