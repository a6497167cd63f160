use Rattle.std.proofs.Common.{rules, ◌*◌, ◌≤◌, ◌<◌, ◌^◌, length, arith}
use Rattle.std.specs.Prelude.{sum_by}
use Rattle.aat_write_machine.specs.ChainBytes.{chain_size, table_size}
use Rattle.aat_write_machine.proofs.Appended.{each_takes}
use Rattle.aat_write_machine.proofs.write.write_chains.Goals as goal

pub overflow_cast-chains : goal.overflow_cast-chains
overflow_cast-chains c =
    let chains = c.args.chains.now in
    let many : 16 * length chains ≤ sum_by chain_size chains = each_takes chain_size 16 (λ s. omega arith) chains in
    let small : table_size chains < 2 ^ 32 = search rules in
    omega (arith, many, small)
