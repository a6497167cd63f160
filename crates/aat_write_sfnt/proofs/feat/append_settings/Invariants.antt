use Rattle.std.proofs.Common.{◌≡◌, ◌++◌, take}
use Rattle.std.specs.List.{flat_map}
use Rattle.aat_write_sfnt.specs.NamedFeatures.{setting_words}
use Rattle.aat_write_machine.specs.Words.{word_bytes}
use Rattle.aat_write_sfnt.proofs.feat.append_settings.Given as goal

abbrev pub invariant-loop-setting : goal.invariant-loop-setting
invariant-loop-setting g l =
    l.out.items ≡ l.fn.out.items ++ word_bytes (flat_map setting_words (take l.setting-index l.settings))
