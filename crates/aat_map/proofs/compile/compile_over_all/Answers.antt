use Rattle.std.proofs.Common.{◌∙◌, ap, length}
use Rattle.std.proofs.lemmas.Result.{on_ok_weaker}
use Rattle.aat_map.specs.Builder.{Builder}
use Rattle.aat_map.specs.Compiled.{compiled_ranges}
use Rattle.aat_map.specs.Map.{resized, with_ranges}
use Rattle.aat_map.proofs.OverAll.{compiled_over_all, over_all_bounded, over_all_ordered}
use Rattle.aat_map.proofs.compile.compile_over_all.Goals as goal

pub returns-clause-ok : goal.returns-clause-ok
returns-clause-ok g c =
    let b = c.set_range.new.self in
    let requests = c.args.builder.now.features in
    let chains = c.args.chains.now in
    let empty = c.in_ok-resize.ensures.ok ∙ ap (λ m. resized (length chains) m) c.requires.empty in
    on_ok_weaker
    c.push_ranges.result
    (λ made.
    compiled_over_all requests requests chains c.in_ok-kept.kept.items c.args.builder.now b c.push_ranges.new.map
    (over_all_ordered requests c.requires.over_all) c.requires.over_all (over_all_bounded requests c.requires.over_all) (rw c.features.ensures at c.in_ok-kept.ensures.kept) c.in_ok-kept.ensures.rising c.set_range.ensures
    (made ∙ ap (λ m. with_ranges (compiled_ranges b chains) m) empty))
    c.push_ranges.ensures.ok

pub returns-clause-requests : goal.returns-clause-requests
returns-clause-requests g c = ap (λ (t : Builder). t.features) c.set_range.ensures

pub returns-in_err-resize-clause-requests : goal.returns-in_err-resize-clause-requests
returns-in_err-resize-clause-requests g c = ap (λ (t : Builder). t.features) c.set_range.ensures
