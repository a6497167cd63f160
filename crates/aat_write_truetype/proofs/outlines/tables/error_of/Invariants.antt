use Rattle.std.proofs.Common.{◌≡◌, drop}
use Rattle.aat_write_truetype.specs.outlines.Tables.{first_error}
use Rattle.aat_write_truetype.proofs.outlines.tables.error_of.Given as goal

abbrev pub invariant-loop-index : goal.invariant-loop-index
invariant-loop-index g l = first_error l.index (drop l.index l.outlines) ≡ first_error 0 l.outlines
