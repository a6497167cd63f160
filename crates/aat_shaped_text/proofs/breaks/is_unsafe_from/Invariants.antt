use Rattle.std.proofs.Common.{◌≡◌, drop, take_while}
use Rattle.std.specs.List.{list_any}
use Rattle.aat_shaped_text.specs.Breaks.{is_unsafe, run_from, shares_cluster}
use Rattle.aat_shaped_text.proofs.breaks.is_unsafe_from.Given as goal

abbrev pub invariant-loop-j : goal.invariant-loop-j
invariant-loop-j l =
    let line = l.fn.line in
    list_any is_unsafe (run_from line l.fn.i)
    ≡ list_any is_unsafe (take_while (shares_cluster line l.fn.i) (drop l.j line))
