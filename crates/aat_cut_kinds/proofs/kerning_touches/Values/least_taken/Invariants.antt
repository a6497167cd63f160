use Rattle.std.proofs.Common.{◌≡◌, ◌+◌, ◌*◌, ◌≤◌, length}
use Rattle.aat_kerning_machines.specs.inside.StackValues.{value_at}
use Rattle.aat_cut_kinds.specs.KerningClosing.{taken_by}
use Rattle.aat_cut_kinds.specs.inside.OpenRuns.{least_of}
use Rattle.aat_cut_kinds.proofs.kerning_touches.Values.least_taken.Given as goal

abbrev pub invariant-loop-place : goal.invariant-loop-place
invariant-loop-place l =
    let value = value_at l.self.ends_at_missing l.self.values.now l.self.step in
    record {
      least : least_of (taken_by value l.self.step l.len l.stack l.index) l.least
          ≡ least_of (taken_by value l.self.step l.len l.fn.stack l.first) l.most;
      below : l.index + 65535 * length l.stack ≤ 65535 * 9;
    }

abbrev pub decreases-loop-place : goal.decreases-loop-place
decreases-loop-place l = length l.stack
