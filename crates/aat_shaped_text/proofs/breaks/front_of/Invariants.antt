use Rattle.std.proofs.Common.{◌≡◌, ◌+◌, ◌-◌, ◌&&◌, reverse, take}
use Rattle.std.specs.List.{prefix_len}
use Rattle.aat_buffer.specs.Removal.{is_deleted}
use Rattle.aat_shaped_text.specs.Breaks.{gone_before, shares_cluster}
use Rattle.aat_shaped_text.proofs.breaks.front_of.Given as goal

abbrev pub invariant-loop-behind : goal.invariant-loop-behind
invariant-loop-behind l =
    let line = l.fn.line in
    gone_before line l.fn.i
    ≡ l.behind + prefix_len (λ g. is_deleted g && shares_cluster line l.fn.i g) (reverse (take (l.fn.i - l.behind) line))
