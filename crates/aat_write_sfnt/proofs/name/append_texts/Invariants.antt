use Rattle.std.proofs.Common.{◌≡◌, ◌++◌, take}
use Rattle.aat_write_sfnt.specs.NameTables.{text_bytes}
use Rattle.aat_write_sfnt.proofs.name.append_texts.Given as goal

abbrev pub invariant-loop-name : goal.invariant-loop-name
invariant-loop-name g l = l.out.items ≡ l.fn.out.items ++ text_bytes (take l.name-index l.names)
