-- Requests over the whole text.
use Rattle.std.specs.Prelude.{◌==◌, ◌&&◌, Bool, List}
use Rattle.std.specs.List.{list_all}
use Rattle.aat_run.specs.Ranges.{last_cluster}
use Rattle.aat_map.specs.declared.feature.feature_range_t.{feature_range_t}

-- a request starts at 0 and never ends
abbrev pub is_over_all : feature_range_t → Bool
is_over_all r = (r.start == 0) && (r.end == last_cluster)

-- each does
abbrev pub are_over_all : List feature_range_t → Bool
are_over_all requests = list_all is_over_all requests
