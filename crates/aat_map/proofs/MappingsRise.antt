-- The table of features rises by tag.
use Rattle.std.proofs.Common.{refl}
use Rattle.aat_lookup.specs.Keys.{IsRising}
use Rattle.aat_lookup.specs.facts.Falls.{rising}
use Rattle.aat_map.specs.Mappings.{mapped_tag}
use Rattle.aat_map.specs.declared.mapping.TheConstants.{feature_mappings}

-- the whole table is looked at once, by computing
pub mappings_rise : IsRising mapped_tag feature_mappings
mappings_rise = rising mapped_tag feature_mappings refl
