use Rattle.std.proofs.Common.{◌∙◌, ◌∷◌, ◌++◌, [], List, ap, cond, false, slice_index_or, sym}
use Rattle.std.proofs.lemmas.List.{take_all}
use Rattle.std.proofs.lemmas.List.Elements.{All-more, filter_more}
use Rattle.aat_map.specs.Live.{is_admitted}
use Rattle.aat_map.specs.declared.feature.feature_range_t.{feature_range_t}
use Rattle.aat_map.specs.inside.CompiledSpans.{EndsWithinText}
use Rattle.aat_map.proofs.gather.admitted.Goals as goal

pub loop-request-preserved : goal.loop-request-preserved
loop-request-preserved g c =
    let none : feature_range_t = record { info = record { kind = 0; setting = 0; is_exclusive = false }; start = 0; end = 0 } in
    let requests = c.args.requests.now in
    let i = c.loop-request.request-index in
    let r = slice_index_or requests i none in
    record {
      made = c.in_ok-push_admitted.ensures.ok ∙ (ap (λ (list : List feature_range_t). list ++ cond (is_admitted r) (r ∷ []) []) c.loop-request.invariant.made
          ∙ sym (filter_more is_admitted requests i none c.loop-request-test.true));
      bounded = All-more EndsWithinText requests i none c.loop-request-test.true c.loop-request.invariant.bounded c.push_admitted.ensures.bounded;
    }

pub returns-clause-ok : goal.returns-clause-ok
returns-clause-ok g c = rw (take_all c.loop-request.request-index c.args.requests.now c.loop-request-test.false) at c.loop-request.invariant.made

pub returns-clause-bounded : goal.returns-clause-bounded
returns-clause-bounded g c = rw (take_all c.loop-request.request-index c.args.requests.now c.loop-request-test.false) at c.loop-request.invariant.bounded
