use Rattle.std.proofs.Common.{◌≡◌, ◌≤◌, take}
use Rattle.aat_machine_tables.specs.Chains.{subtable_count}
use Rattle.aat_font.proofs.morx.Morx.new.Given as goal

abbrev pub invariant-loop-chain : goal.invariant-loop-chain
invariant-loop-chain l = record {
  count : l.count ≡ subtable_count (take l.chain-index l.chain-items);
  few : l.count ≤ 65535;
}
