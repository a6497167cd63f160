use Rattle.std.proofs.Common.{◌≡◌, ◌-◌, ◌≤◌, length}
use Rattle.aat_read_outlines.specs.Flags.{flags_from, run_at}
use Rattle.aat_read_outlines.proofs.FlagSteps.{still}
use Rattle.aat_read_outlines.proofs.flags.flags_from.Given as goal

abbrev pub invariant-loop-done : goal.invariant-loop-done
invariant-loop-done g l = record {
  inside : l.run.place ≤ length l.bytes;
  counted : length l.flags.items ≡ l._done;
  rest : still l.bytes l.flags.items l.run (l.count - l._done) ≡ flags_from l.bytes (run_at l.place) l.count;
}
