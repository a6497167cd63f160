use Rattle.std.proofs.Common.{◌∙◌, List, ap, false, slice_index_or, sym, ℕ}
use Rattle.std.proofs.lemmas.List.{take_all}
use Rattle.std.proofs.lemmas.List.Sums.{fold_more}
use Rattle.aat_map.specs.declared.feature.feature_range_t.{feature_range_t}
use Rattle.aat_map.specs.inside.Collected.{with_cut}
use Rattle.aat_map.proofs.starts.push_ends.Goals as goal

pub loop-request-preserved : goal.loop-request-preserved
loop-request-preserved g c =
    let none : feature_range_t = record { info = record { kind = 0; setting = 0; is_exclusive = false }; start = 0; end = 0 } in
    let requests = c.args.ending.now in
    let i = c.loop-request.request-index in
    let r = slice_index_or requests i none in
    c.in_ok-push_cut.ensures.ok ∙ (ap (λ (xs : List ℕ). with_cut xs r.end) c.loop-request.invariant
    ∙ sym (fold_more (λ (xs : List ℕ) (q : feature_range_t). with_cut xs q.end) c.args.starts.now.items requests i none c.loop-request-test.true))

pub returns-clause-ok : goal.returns-clause-ok
returns-clause-ok g c = rw (take_all c.loop-request.request-index c.args.ending.now c.loop-request-test.false) at c.loop-request.invariant
