use Rattle.std.proofs.Common.{◌≡◌, map}
use Rattle.std.specs.List.{filter, range_with_len}
use Rattle.aat_bytes.specs.Bisection.{is_found}
use Rattle.aat_read_lookup.specs.Features.{feature_name, kind_at}
use Rattle.aat_read_lookup.proofs.feat.feature_names.Given as goal

abbrev pub invariant-loop-i : goal.invariant-loop-i
invariant-loop-i g l =
    l.names.items
    ≡ map (feature_name l.bytes) (filter (is_found (kind_at l.bytes) l.count) (range_with_len 0 l.i))
