use Rattle.std.proofs.Common.{◌≡◌, ◌++◌, take}
use Rattle.aat_write_sfnt.specs.NamedFeatures.{all_setting_bytes}
use Rattle.aat_write_sfnt.proofs.feat.append_all_settings.Given as goal

abbrev pub invariant-loop-feature : goal.invariant-loop-feature
invariant-loop-feature g l = l.out.items ≡ l.fn.out.items ++ all_setting_bytes (take l.feature-index l.features)
