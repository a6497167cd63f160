-- The examples of open places of a front, by computing.
use Rattle.std.proofs.Common.{refl}
use Rattle.std.specs.Int.{int_wrap}
use Rattle.aat_run.specs.Machine.{run}
use Rattle.aat_kerning_machines.specs.KerningMachine.{driver_run, kerning_acted, kerning_by_entry, kerning_marked, kerning_turn, kerning_whole, looked_ahead}
use Rattle.aat_kerning_machines.specs.Stack.{kern_act, popped}
use Rattle.aat_cut_kinds.specs.KerningClosing.{first_at, is_open, passes_each, taken_by}
use Rattle.aat_cut_kinds.specs.KerningOpenExamples as examples

pub kerning_open_examples : examples.KerningOpenExamples
unfolding int_wrap driver_run kerning_whole run kerning_turn kerning_by_entry kerning_marked looked_ahead kerning_acted kern_act popped is_open first_at passes_each taken_by
kerning_open_examples = record {
  seven_is_open = refl;
  a_push_at_the_end_closes = refl;
  nine_is_closed = refl;
  nine_is_open_without = refl;
  an_end_that_does_nothing_does_not = refl;
}
