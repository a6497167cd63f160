use Rattle.std.proofs.Common.{◌≡◌, ◌-◌, reverse, take, take_while}
use Rattle.std.specs.List.{list_any}
use Rattle.aat_shaped_text.specs.Breaks.{is_unsafe, run_up_to, shares_cluster}
use Rattle.aat_shaped_text.proofs.breaks.is_unsafe_before.Given as goal

abbrev pub invariant-loop-behind : goal.invariant-loop-behind
invariant-loop-behind l =
    let line = l.fn.line in
    list_any is_unsafe (run_up_to line (l.fn.end - 1))
    ≡ list_any is_unsafe (take_while (shares_cluster line (l.fn.end - 1)) (reverse (take (l.fn.end - l.behind) line)))
