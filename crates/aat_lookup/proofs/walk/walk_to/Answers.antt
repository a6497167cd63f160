use Rattle.std.proofs.Common.{arith}
use Rattle.aat_lookup.specs.facts.Walks.{below_more, not_below_from}
use Rattle.aat_lookup.proofs.walk.walk_to.Goals as goal

pub loop-place-preserved : goal.loop-place-preserved
loop-place-preserved g c =
    below_more g.R.Keyed.key_of c.args.rows.now c.loop-place.place c.args.key c.index-rows-place.result c.loop-place.invariant c.index-rows-place.is (omega (arith, c.key.ensures, c.if-key.false))

pub returns-then-key-clause-below : goal.returns-then-key-clause-below
returns-then-key-clause-below g c = c.loop-place.invariant

pub returns-then-key-clause-above : goal.returns-then-key-clause-above
returns-then-key-clause-above g c =
    not_below_from g.R.Keyed.key_of c.args.rows.now c.requires.rising c.loop-place.place c.args.key c.index-rows-place.result (omega arith) c.index-rows-place.is (omega (arith, c.key.ensures, c.if-key.true))

pub returns-clause-below : goal.returns-clause-below
returns-clause-below g c i d lt within = c.loop-place.invariant i d (omega arith) within
