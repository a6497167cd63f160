-- How the fields of a map builder show its value.
use Rattle.aat_map.specs.Builder.{Builder}
use Rattle.aat_map.specs.declared.builder.hb_aat_map_builder_t.TheInside.{Inside}

-- the value of its fields
abbrev pub builder_of : {Z : Type 0} → Inside Z → Builder
builder_of a = record {
  features = a.features.items;
  current_features = a.current_features.items;
  range_first = a.range_first;
  range_last = a.range_last;
}
