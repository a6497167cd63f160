use Rattle.std.proofs.Common.{arith}
use Rattle.aat_map.proofs.FirstLemmas.{begun_set, begun_kept, length_firsts}
use Rattle.aat_map.proofs.live.begin.Goals as goal

pub set_first-requires : goal.set_first-requires
set_first-requires g c =
    let live = c.args.live.now in
    omega (arith, length_firsts live.groups.items live.active.items live.firsts.items c.requires.firsts, c.len.ensures, c.if-place-len.true)

pub returns-then-place-len-clause-firsts : goal.returns-then-place-len-clause-firsts
returns-then-place-len-clause-firsts g c =
    let live = c.args.live.now in
    rw (c.set_first.ensures.groups, c.set_first.ensures.active)
    (begun_set live.groups.items live.active.items c.push_back.new.self.items live.firsts.items c.args.info.now c.args.info.now c.place_of-place.result c.index.result.now c.or-first.result c.set_first.new.live.firsts.items
    c.requires.firsts c.requires.apart c.in_ok-push_back.ensures.items (rw c.deref.ensures.value at c.place_of-place.ensures.count)
    (omega (arith, c.len.ensures, c.if-place-len.true)) c.index.ensures c.or-first.ensures c.set_first.ensures.firsts)

pub returns-else-place-len-clause-firsts : goal.returns-else-place-len-clause-firsts
returns-else-place-len-clause-firsts g c =
    let live = c.args.live.now in
    begun_kept live.groups.items live.active.items c.push_back.new.self.items live.firsts.items c.args.info.now c.place_of-place.result
    c.requires.firsts c.in_ok-push_back.ensures.items (rw c.deref.ensures.value at c.place_of-place.ensures.count)
    (omega (arith, c.len.ensures, c.if-place-len.false))
