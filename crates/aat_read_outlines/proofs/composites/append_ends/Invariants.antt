use Rattle.std.proofs.Common.{◌≡◌, ◌+◌, ◌++◌, map, take}
use Rattle.aat_read_outlines.proofs.composites.append_ends.Given as goal

abbrev pub invariant-loop-end : goal.invariant-loop-end
invariant-loop-end g l =
    l.ends.items ≡ l.fn.ends.items ++ map (λ end. l.count + end) (take l.end-index l.inner)
