use Rattle.std.proofs.Common.{◌≡◌, ◌<◌, ◌≤◌, ◌-◌, take, slice_index_or, length, false, IsPermutation}
use Rattle.aat_map.specs.Spans.{spans}
use Rattle.aat_map.specs.inside.CompiledSpans.{all_flags_for, compiled_lists}
use Rattle.aat_map.specs.Live.{infos, kept_at}
use Rattle.aat_map.specs.inside.Firsts.{AreGroupsOf, firsts_of, present}
use Rattle.aat_map.specs.inside.Placed.{ArePlaced, place_lists}
use Rattle.aat_map.specs.inside.Walked.{IsWalkedUpTo}
use Rattle.aat_map.proofs.compile.walk_spans.Given as goal

abbrev pub invariant-loop-i : goal.invariant-loop-i
invariant-loop-i g l = record {
  lists : l.map ≡ compiled_lists l.fn.builder.features l.fn.chains (take l.i (spans l.fn.starts));
  kept :
      0 < l.i
      → IsPermutation (kept_at (slice_index_or l.fn.starts (l.i - 1) 0) l.fn.builder.features) (present l.live.firsts.items);
  begun : l.passed.0 ≤ length l.fn.ordered;
  ended : l.passed.1 ≤ length l.fn.ending;
  each : length l.flags.items ≡ length l.fn.chains;
  valid : l.live.is_changed ≡ false → l.flags.items ≡ all_flags_for (present l.live.firsts.items) l.fn.chains;
  groups : AreGroupsOf (infos l.fn.ordered) l.live.groups.items;
  firsts : l.live.firsts.items ≡ firsts_of l.live.groups.items l.live.active.items;
  placed : ArePlaced l.live.groups.items l.fn.chains (place_lists l.placed.of_chains.items) l.placed.small_caps;
  walked :
      l.i < length l.fn.starts
      → IsWalkedUpTo (slice_index_or l.fn.starts l.i 0) l.fn.ordered l.fn.ending l.live.active.items l.passed.0 l.passed.1;
}
