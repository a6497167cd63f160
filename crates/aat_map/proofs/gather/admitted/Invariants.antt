use Rattle.std.proofs.Common.{◌≡◌, take, filter, All}
use Rattle.aat_map.specs.Live.{is_admitted}
use Rattle.aat_map.specs.inside.CompiledSpans.{EndsWithinText}
use Rattle.aat_map.proofs.gather.admitted.Given as goal

abbrev pub invariant-loop-request : goal.invariant-loop-request
invariant-loop-request g l = record {
  made : l.list.items ≡ filter is_admitted (take l.request-index l.fn.requests);
  bounded : All EndsWithinText (take l.request-index l.fn.requests);
}
