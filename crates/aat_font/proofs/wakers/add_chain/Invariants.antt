use Rattle.std.proofs.Common.{◌≡◌, ℕ, ◌+◌, ◌<◌, Some}
use Rattle.std.specs.List.{slice_get}
use Rattle.aat_font.specs.Wakers.{WakeAt}
use Rattle.aat_font.specs.inside.MarkedWords.{KeepsWakers}
use Rattle.aat_machine_tables.specs.declared.morx.Subtable.{Subtable}
use Rattle.aat_font.proofs.wakers.add_chain.Given as goal

abbrev pub invariant-loop-i : goal.invariant-loop-i
invariant-loop-i l = record {
  kept : KeepsWakers l.fn.words.items l.words.items l.fn.first;
  awake : (k : ℕ) (s : Subtable) → k < l.i → slice_get l.fn.subtables k ≡ Some s → WakeAt s l.words.items (l.fn.first + k);
}
