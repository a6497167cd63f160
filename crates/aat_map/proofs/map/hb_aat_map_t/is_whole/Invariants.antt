use Rattle.std.proofs.Common.{◌≡◌, drop}
use Rattle.std.specs.List.{list_all}
use Rattle.aat_run.specs.Ranges.{is_whole_list}
use Rattle.aat_map.proofs.map.hb_aat_map_t.is_whole.Given as goal

abbrev pub invariant-loop-ranges : goal.invariant-loop-ranges
invariant-loop-ranges g l = list_all is_whole_list (drop l.ranges-index l.fn.self) ≡ list_all is_whole_list l.fn.self
