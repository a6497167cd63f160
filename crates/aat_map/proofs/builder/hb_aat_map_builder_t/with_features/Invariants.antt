use Rattle.std.proofs.Common.{◌≡◌, ◌++◌, take, drop, find}
use Rattle.aat_font.specs.Face.{tables_of}
use Rattle.aat_map.specs.Adding.{before_too_large}
use Rattle.aat_map.specs.Builder.{builder_with}
use Rattle.aat_map.specs.Requests.{requests_of, is_too_large}
use Rattle.aat_map.proofs.builder.hb_aat_map_builder_t.with_features.Given as goal

abbrev pub invariant-loop-feature : goal.invariant-loop-feature
invariant-loop-feature g l = record {
  added : l.builder ≡ builder_with (requests_of (tables_of l.fn.face).feat (take l.feature-index l.fn.features));
  same : find (is_too_large (tables_of l.fn.face).feat) (drop l.feature-index l.fn.features) ≡ find (is_too_large (tables_of l.fn.face).feat) l.fn.features;
  passed : before_too_large (tables_of l.fn.face).feat l.fn.features ≡ take l.feature-index l.fn.features ++ before_too_large (tables_of l.fn.face).feat (drop l.feature-index l.fn.features);
}
