use Rattle.std.proofs.Common.{◌≡◌, ℕ, ◌<◌, Some, take}
use Rattle.std.specs.List.{slice_get}
use Rattle.aat_font.specs.Wakers.{AreWakers}
use Rattle.aat_machine_tables.specs.Chains.{subtable_count}
use Rattle.aat_machine_tables.specs.declared.morx.Chain.{Chain}
use Rattle.aat_font.proofs.wakers.words_of_chains.Given as goal

abbrev pub invariant-loop-chain : goal.invariant-loop-chain
invariant-loop-chain l = record {
  first : l.first ≡ subtable_count (take l.chain-index l.fn.chains);
  awake : (i : ℕ) (c : Chain) → i < l.chain-index → slice_get l.fn.chains i ≡ Some c → AreWakers c.subtables.items l.words.items (subtable_count (take i l.fn.chains));
}
