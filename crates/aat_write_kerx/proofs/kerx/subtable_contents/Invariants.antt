use Rattle.std.proofs.Common.{◌≡◌, drop}
use Rattle.aat_write_kerx.specs.KerxBytes.{contents_from}
use Rattle.aat_write_kerx.proofs.Contents.{behind}
use Rattle.aat_write_kerx.proofs.kerx.subtable_contents.Given as goal

abbrev pub invariant-loop-number : goal.invariant-loop-number
invariant-loop-number l =
    contents_from 0 l.subtables ≡ behind l.contents.items (contents_from l.number (drop l.number l.subtables))
