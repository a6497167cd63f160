use Rattle.std.proofs.Common.{◌≡◌, take, length}
use Rattle.aat_map.specs.inside.CompiledSpans.{all_flags_for}
use Rattle.aat_map.specs.inside.Firsts.{present}
use Rattle.aat_map.proofs.placed.write_flags.Given as goal

abbrev pub invariant-loop-i : goal.invariant-loop-i
invariant-loop-i g l = record {
  each : length l.flags ≡ length l.fn.chains;
  written : take l.i l.flags ≡ all_flags_for (present l.fn.live.firsts.items) (take l.i l.fn.chains);
}
