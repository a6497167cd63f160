use Rattle.aat_map.proofs.MappingsRise.{mappings_rise}
use Rattle.aat_map.proofs.mapping.mapping_of.Goals as goal

pub row_at-requires : goal.row_at-requires
row_at-requires c = mappings_rise
