use Rattle.std.proofs.Common.{◌≡◌, ◌-◌, ◌≤◌, length}
use Rattle.aat_read_outlines.specs.Components.{components_from}
use Rattle.aat_read_outlines.proofs.ComponentSteps.{still}
use Rattle.aat_read_outlines.proofs.components.components_of.Given as goal

abbrev pub invariant-loop-done : goal.invariant-loop-done
invariant-loop-done g l = record {
  inside : l.place ≤ length l.glyph.bytes;
  few : length l.components.items ≤ l._done;
  rest : still l.glyph l.components.items l.place (l.limit - l._done) ≡ components_from l.glyph 10 l.limit;
}
