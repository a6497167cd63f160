use Rattle.std.proofs.Common.{◌≡◌, ◌≤◌, min, length}
use Rattle.aat_map.specs.Map.{lists, resized}
use Rattle.aat_map.proofs.map.hb_aat_map_t.resize.Given as goal

abbrev pub invariant-loop-next : goal.invariant-loop-next
invariant-loop-next g l = record {
  made : lists l.self-inside.chain_flags.items ≡ resized l.next l.fn.self;
  reached : min (length l.fn.self) l.fn.count ≤ l.next;
}
