use Rattle.std.proofs.Common.{◌∙◌, arith}
use Rattle.aat_map.proofs.FirstLemmas.{ended_set, ended_not_put, length_firsts}
use Rattle.aat_map.proofs.live.end.Goals as goal

pub set_first-requires : goal.set_first-requires
set_first-requires g c =
    let live = c.args.live.now in
    omega (arith, length_firsts live.groups.items live.active.items live.firsts.items c.requires.firsts, c.len.ensures, c.if-place-len.true)

pub returns-then-place-len-clause-firsts : goal.returns-then-place-len-clause-firsts
returns-then-place-len-clause-firsts g c =
    let live = c.args.live.now in
    rw (c.set_first.ensures.groups, c.set_first.ensures.active)
    (ended_set live.groups.items live.active.items c.take_out.new.list.items live.firsts.items c.args.info.now c.index.result.now c.place_of-place.result c.first_of-first.result c.set_first.new.live.firsts.items
    c.requires.firsts c.requires.apart c.take_out.ensures (rw c.deref.ensures.value at c.place_of-place.ensures.count)
    c.index.ensures c.first_of-first.ensures c.set_first.ensures.firsts)

pub returns-else-place-len-clause-firsts : goal.returns-else-place-len-clause-firsts
returns-else-place-len-clause-firsts g c =
    let live = c.args.live.now in
    c.requires.firsts
    ∙ ended_not_put live.groups.items live.active.items c.take_out.new.list.items c.args.info.now c.place_of-place.result
    c.take_out.ensures (rw c.deref.ensures.value at c.place_of-place.ensures.count)
    (omega (arith, c.len.ensures, c.if-place-len.false))
