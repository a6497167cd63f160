use Rattle.aat_font.specs.Face.{advance_of}
use Rattle.aat_buffer.specs.Clusters.{IsSmall}
use Rattle.aat_layout.proofs.Advancing.{IsAdvancing}
use Rattle.aat_layout.proofs.shaping.advance.Given as goal

abbrev pub invariant-loop-i : goal.invariant-loop-i
invariant-loop-i g l = record {
  advancing : IsAdvancing (advance_of l.fn.face) l.fn.buffer l.buffer l.i;
  ids : IsSmall l.buffer;
}
