use Rattle.std.proofs.Common.{◌≡◌, ◌++◌, replicate}
use Rattle.aat_write_sfnt.proofs.font.append_zeros.Given as goal

abbrev pub invariant-loop-place : goal.invariant-loop-place
invariant-loop-place g l = l.out.items ≡ l.fn.out.items ++ replicate l._place 0
