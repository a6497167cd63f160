use Rattle.std.proofs.Common.{◌≡◌, ◌∙◌, ap, arith, length}
use Rattle.aat_kerning.specs.PairKerning.{pair_kerning}
use Rattle.aat_kerning.specs.Pairs.{pairs_of}
use Rattle.aat_kerning.proofs.Walk.{kerned_before, walk_more, walk_none}
use Rattle.aat_kerning.proofs.pair_kerning.kern_pairs.Goals as goal

pub loop-place-init : goal.loop-place-init
loop-place-init g c = record { walk = walk_none _ _ _ _ c.args.buffer.now c.requires.placed c.requires.ids }

pub loop-place-preserved : goal.loop-place-preserved
loop-place-preserved g c = record {
  walk = walk_more _ _ _ _ _ _ _ _ _ _ (omega (arith, c.loop-place-test.true)) c.loop-place.invariant.walk c.kern_at-left.ensures.left c.kern_at-left.ensures.kerned;
}

pub returns-clause-kerned : goal.returns-clause-kerned
unfolding pair_kerning pairs_of
returns-clause-kerned g c =
    let walk = c.loop-place.invariant.walk in
    let end : c.loop-place.place ≡ length c.args.buffer.now.line = omega (arith, c.loop-place-test.false, c.len-place-end.ensures.count) in
    walk.done ∙ ap (kerned_before _ _ _ _ c.args.buffer.now) end
