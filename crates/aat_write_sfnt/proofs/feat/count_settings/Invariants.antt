use Rattle.std.proofs.Common.{◌≡◌, take}
use Rattle.std.specs.Prelude.{min, sum_by}
use Rattle.aat_write_sfnt.specs.NamedFeatures.{setting_count}
use Rattle.aat_write_sfnt.proofs.feat.count_settings.Given as goal

abbrev pub invariant-loop-feature : goal.invariant-loop-feature
invariant-loop-feature l = l.count ≡ min (sum_by setting_count (take l.feature-index l.features)) 65536
