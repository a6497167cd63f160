use Rattle.std.proofs.Common.{◌<◌, length, arith}
use Rattle.aat_map.specs.Map.{lists}
use Rattle.aat_map.proofs.MapLemmas.{lists_pushed, lists_kept, length_lists, gapless_pushed}
use Rattle.aat_map.proofs.map.hb_aat_map_t.push.Goals as goal

pub invariant_of-self : goal.invariant_of-self
invariant_of-self g c =
    let old = c.self.inside.chain_flags.items in
    rw (lists_kept old c.args.chain c.index_mut.result.now c.push.new.self c.index_mut.ensures.value c.in_err-push.ensures.items) c.self.invariant

pub invariant_of-self-2 : goal.invariant_of-self-2
invariant_of-self-2 g c =
    let old = c.self.inside.chain_flags.items in
    let here : c.args.chain < length (lists old) = rw c.self.view_is c.requires.exists in
    let below : c.args.chain < length old = omega (arith, length_lists old, here) in
    let follows = rw (← c.self.view_is) at c.requires.follows in
    rw (lists_pushed old c.args.chain c.index_mut.result.now c.push.new.self c.args.range below c.index_mut.ensures.value c.in_ok-push.ensures.items)
    (gapless_pushed (lists old) c.args.chain c.args.range c.self.invariant here follows c.requires.ordered)

pub returns-clause-ok : goal.returns-clause-ok
returns-clause-ok g c =
    let old = c.self.inside.chain_flags.items in
    let here : c.args.chain < length (lists old) = rw c.self.view_is c.requires.exists in
    let below : c.args.chain < length old = omega (arith, length_lists old, here) in
    rw (← c.self.view_is) (lists_pushed old c.args.chain c.index_mut.result.now c.push.new.self c.args.range below c.index_mut.ensures.value c.in_ok-push.ensures.items)
