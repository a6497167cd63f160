use Rattle.std.proofs.Common.{◌≡◌, ◌++◌}
use Rattle.std.specs.Prelude.{replicate}
use Rattle.aat_write_truetype.proofs.outlines.glyph.append_padding.Given as goal

abbrev pub invariant-loop-done : goal.invariant-loop-done
invariant-loop-done g l = l.out.items ≡ l.fn.out.items ++ replicate l._done 0
