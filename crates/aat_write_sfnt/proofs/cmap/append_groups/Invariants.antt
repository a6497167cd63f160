use Rattle.std.proofs.Common.{◌≡◌, ◌++◌, take}
use Rattle.std.specs.List.{flat_map}
use Rattle.aat_write_sfnt.specs.CharacterMaps.{group_words}
use Rattle.aat_write_machine.specs.Words.{word_bytes}
use Rattle.aat_write_sfnt.proofs.cmap.append_groups.Given as goal

abbrev pub invariant-loop-mapping : goal.invariant-loop-mapping
invariant-loop-mapping g l =
    l.out.items ≡ l.fn.out.items ++ word_bytes (flat_map group_words (take l.mapping-index l.mappings))
