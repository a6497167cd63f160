-- The table of features as a total function. Apple's TrueType Reference Manual, "The 'feat' table", feature registry.
use Rattle.std.specs.Prelude.{ℕ, Option}
use Rattle.aat_lookup.specs.Keys.{IsRising, at_key}
use Rattle.aat_map.specs.declared.mapping.hb_aat_feature_mapping_t.{hb_aat_feature_mapping_t}
use Rattle.aat_map.specs.declared.mapping.TheConstants.{feature_mappings}

-- a row's tag as a number
abbrev pub mapped_tag : hb_aat_feature_mapping_t → ℕ
mapped_tag m = m.ot_feature_tag.0

-- the row of a tag, if there is one
abbrev pub mapping_of : ℕ → Option hb_aat_feature_mapping_t
mapping_of tag = at_key mapped_tag feature_mappings tag

-- the tag of each row is below those of the rows after it, so a tag has one row at most
abbrev pub MappingsRise : Type 0
MappingsRise = IsRising mapped_tag feature_mappings
