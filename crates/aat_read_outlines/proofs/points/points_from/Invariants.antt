use Rattle.std.proofs.Common.{◌≡◌, ◌+◌, ◌*◌, ◌≤◌, ◌++◌, drop, length}
use Rattle.std.specs.Prelude.{sum_by, unsigned_abs}
use Rattle.aat_read_outlines.specs.Points.{points_from, x_size, y_size}
use Rattle.aat_read_outlines.proofs.points.points_from.Given as goal

abbrev pub invariant-loop-flag : goal.invariant-loop-flag
invariant-loop-flag g l = record {
  rest : l.points.items ++ points_from l.bytes l.now (drop l.flag-index l.flags) ≡ points_from l.bytes l.fn.pen l.flags;
  counted : length l.points.items ≡ l.flag-index;
  x_inside : l.now.x_place + sum_by x_size (drop l.flag-index l.flags) ≤ length l.bytes;
  y_inside : l.now.y_place + sum_by y_size (drop l.flag-index l.flags) ≤ length l.bytes;
  x_near : unsigned_abs l.now.x ≤ 32768 * l.flag-index;
  y_near : unsigned_abs l.now.y ≤ 32768 * l.flag-index;
}
