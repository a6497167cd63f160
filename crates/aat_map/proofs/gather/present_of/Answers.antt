use Rattle.std.proofs.Common.{slice_index_or, None}
use Rattle.std.proofs.lemmas.List.{get_or_default, take_all}
use Rattle.aat_map.proofs.KeptFirsts.{present_more}
use Rattle.aat_map.proofs.gather.present_of.Goals as goal

pub loop-first-preserved : goal.loop-first-preserved
loop-first-preserved g c =
    let os = c.args.firsts.now in
    let i = c.loop-first.first-index in
    let o = slice_index_or os i None in
    present_more os c.loop-first.list.items c.push_present.new.list.items o i c.loop-first-test.true (get_or_default os i None o c.loop-first-test.true) c.loop-first.invariant c.in_ok-push_present.ensures.ok

pub returns-clause-ok : goal.returns-clause-ok
returns-clause-ok g c = rw (take_all c.loop-first.first-index c.args.firsts.now c.loop-first-test.false) at c.loop-first.invariant
