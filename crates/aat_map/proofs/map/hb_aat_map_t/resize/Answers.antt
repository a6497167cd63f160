use Rattle.std.proofs.Common.{◌≡◌, ◌∙◌, ap, arith, length, [], ◌∷◌, ◌++◌, All}
use Rattle.aat_run.specs.Ranges.{IsGapless}
use Rattle.aat_map.proofs.MapLemmas.{length_lists, lists_take, lists_more, resized_start, resized_more, gapless_resized}
use Rattle.aat_map.specs.Map.{lists}
use Rattle.aat_map.proofs.map.hb_aat_map_t.resize.Goals as goal

pub loop-next-init : goal.loop-next-init
loop-next-init g c =
    let old = c.self.inside.chain_flags.items in
    let n : length c.args.self.now ≡ length old = rw (← c.self.view_is) (length_lists old) in
    record {
      made = rw (c.truncate.ensures.items, ← c.self.view_is) (lists_take old c.args.count ∙ resized_start c.args.count c.len-next.result (lists old) (omega (arith, length_lists old)));
      reached = omega (arith, n);
    }

pub loop-next-preserved : goal.loop-next-preserved
loop-next-preserved g c =
    let more = lists_more c.loop-next.self-inside.chain_flags.items c.new.result c.new.ensures.items in
    record {
      made = rw c.in_ok-push.ensures.items (more ∙ ap (λ ls. ls ++ ([] ∷ [])) c.loop-next.invariant.made ∙ resized_more c.loop-next.next c.args.self.now (omega (arith, c.loop-next.invariant.reached)));
      reached = omega (arith, c.loop-next.invariant.reached);
    }

pub invariant_of-self : goal.invariant_of-self
invariant_of-self g c =
    let gapless : All IsGapless c.args.self.now = rw (← c.self.view_is) c.self.invariant in
    rw c.loop-next.invariant.made (gapless_resized c.loop-next.next c.args.self.now gapless)

pub invariant_of-self-in_err-push : goal.invariant_of-self-in_err-push
invariant_of-self-in_err-push g c =
    let gapless : All IsGapless c.args.self.now = rw (← c.self.view_is) c.self.invariant in
    rw (c.in_err-push.ensures.items, c.loop-next.invariant.made) (gapless_resized c.loop-next.next c.args.self.now gapless)
