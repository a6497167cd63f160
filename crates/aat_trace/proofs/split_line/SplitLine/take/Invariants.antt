use Rattle.std.proofs.Common.{◌≡◌, ◌++◌, reverse, take}
use Rattle.aat_trace.proofs.split_line.SplitLine.take.Given as goal

abbrev pub invariant-loop-id : goal.invariant-loop-id
invariant-loop-id l =
    (l.self.front.items ≡ l.fn.self.front.items)
    × (reverse l.fn.self.behind.items ≡ take l.id-index l.taken ++ reverse l.self.behind.items)
