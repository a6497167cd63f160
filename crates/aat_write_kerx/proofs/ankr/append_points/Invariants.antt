use Rattle.std.proofs.Common.{◌≡◌, ◌++◌, take}
use Rattle.std.specs.List.{flat_map}
use Rattle.aat_write_machine.specs.Words.{word_bytes}
use Rattle.aat_write_kerx.specs.AnkrBytes.{point_words}
use Rattle.aat_write_kerx.proofs.ankr.append_points.Given as goal

abbrev pub invariant-loop-point : goal.invariant-loop-point
invariant-loop-point l =
    l.out.items ≡ l.fn.out.items ++ word_bytes (flat_map point_words (take l.point-index l.points))
