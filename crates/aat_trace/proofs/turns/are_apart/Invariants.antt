use Rattle.std.proofs.Common.{ℕ, ◌+◌, ◌<◌, get_or}
use Rattle.aat_trace.specs.declared.traced.TracedAct.{TracedAct}
use Rattle.aat_trace.proofs.turns.are_apart.Given as goal

abbrev pub invariant-loop-i : goal.invariant-loop-i
invariant-loop-i l =
    (j : ℕ) (d : TracedAct) → j + 1 < l.i → (get_or l.acts j d).transition < (get_or l.acts (j + 1) d).transition
