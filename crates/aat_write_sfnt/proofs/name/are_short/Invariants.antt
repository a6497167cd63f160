use Rattle.std.proofs.Common.{◌≡◌, ◌+◌, length, take}
use Rattle.aat_write_sfnt.specs.NameTables.{text_bytes}
use Rattle.aat_write_sfnt.proofs.name.are_short.Given as goal

abbrev pub invariant-loop-name : goal.invariant-loop-name
invariant-loop-name l = l.rest + length (text_bytes (take l.name-index l.names)) ≡ 65535
