use Rattle.std.proofs.Common.{◌∙◌, ◌∷◌, ◌++◌, [], List, Option, ap, false, slice_index_or, sym}
use Rattle.std.proofs.lemmas.List.{map_more, take_all}
use Rattle.aat_map.specs.declared.feature.feature_info_t.{feature_info_t}
use Rattle.aat_map.specs.inside.Firsts.{first_of}
use Rattle.aat_map.proofs.live.firsts_of.Goals as goal

pub loop-group-preserved : goal.loop-group-preserved
loop-group-preserved g c =
    let none : feature_info_t = record { kind = 0; setting = 0; is_exclusive = false } in
    let groups = c.args.groups.now in
    let list = c.args.list.now.items in
    let i = c.loop-group.group-index in
    let found = first_of list (slice_index_or groups i none) in
    c.in_ok-push.ensures.items ∙ (ap (λ (o : Option feature_info_t). c.loop-group.firsts.items ++ o ∷ []) c.first_of.ensures
    ∙ (ap (λ (os : List (Option feature_info_t)). os ++ found ∷ []) c.loop-group.invariant
    ∙ sym (map_more (first_of list) groups i none c.loop-group-test.true)))

pub returns-clause-ok : goal.returns-clause-ok
returns-clause-ok g c = rw (take_all c.loop-group.group-index c.args.groups.now c.loop-group-test.false) at c.loop-group.invariant
