use Rattle.std.proofs.Common.{rules, ◌≡◌, ◌*◌, ◌≤◌, length, arith}
use Rattle.std.specs.Prelude.{sum_by}
use Rattle.aat_write_machine.specs.ChainBytes.{subtable_size}
use Rattle.aat_write_machine.proofs.Appended.{each_takes}
use Rattle.aat_write_machine.proofs.write.append_chain.Goals as goal

pub overflow_cast-subtables : goal.overflow_cast-subtables
overflow_cast-subtables c =
    let subtables = c.args.chain.now.subtables in
    let many : 12 * length subtables ≤ sum_by subtable_size subtables = each_takes subtable_size 12 (λ s. omega arith) subtables in
    let counted : c.len-subtables.result ≡ length subtables = search rules in
    let small = c.requires in
    omega (arith, many, small, counted)
