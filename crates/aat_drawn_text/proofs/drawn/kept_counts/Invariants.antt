use Rattle.std.proofs.Common.{◌≡◌, map}
use Rattle.std.specs.List.{range_with_len}
use Rattle.aat_shaped_text.specs.Breaks.{kept_before}
use Rattle.aat_drawn_text.proofs.drawn.kept_counts.Given as goal

abbrev pub invariant-loop-i : goal.invariant-loop-i
invariant-loop-i g l = record {
  listed : l.counts.items ≡ map (kept_before l.fn.line) (range_with_len 0 l.i);
  counted : l.kept ≡ kept_before l.fn.line l.i;
}
