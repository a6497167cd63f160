use Rattle.std.proofs.Common.{◌≡◌, ◌++◌, take}
use Rattle.std.specs.List.{flat_map}
use Rattle.aat_write_sfnt.specs.LongMetrics.{metric_words}
use Rattle.aat_write_machine.specs.Words.{word_bytes}
use Rattle.aat_write_sfnt.proofs.metrics.append_metrics.Given as goal

abbrev pub invariant-loop-advance : goal.invariant-loop-advance
invariant-loop-advance g l =
    l.out.items ≡ l.fn.out.items ++ word_bytes (flat_map metric_words (take l.advance-index l.advances))
