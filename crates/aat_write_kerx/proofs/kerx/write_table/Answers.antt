use Rattle.std.proofs.Common.{rules, ◌*◌, ◌≤◌, ◌<◌, ◌^◌, length, arith}
use Rattle.std.specs.Prelude.{sum_by}
use Rattle.aat_write_kerx.specs.KerxBytes.{subtable_size, table_size}
use Rattle.aat_write_kerx.proofs.Appended.{each_takes}
use Rattle.aat_write_kerx.proofs.kerx.write_table.Goals as goal

pub overflow_cast-subtables : goal.overflow_cast-subtables
overflow_cast-subtables c =
    let subtables = c.args.subtables.now in
    let many : 12 * length subtables ≤ sum_by subtable_size subtables = each_takes subtable_size 12 (λ s. omega arith) subtables in
    let small : table_size subtables < 2 ^ 32 = search rules in
    omega (arith, many, small)
