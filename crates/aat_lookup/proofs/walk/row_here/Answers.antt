use Rattle.std.proofs.Common.{◌≢◌, ◌∙◌, sym, arith}
use Rattle.aat_lookup.specs.facts.Walks.{at_end, here, not_here}
use Rattle.aat_lookup.proofs.walk.row_here.Goals as goal

pub returns-then-place-rows : goal.returns-then-place-rows
returns-then-place-rows g c =
    at_end g.R.Keyed.key_of c.args.rows.now c.args.place c.args.key c.requires.below (omega arith)

pub returns-then-key : goal.returns-then-key
returns-then-key g c =
    let other : g.R.Keyed.key_of c.index-rows-place.result ≢ c.args.key = λ e. absurd (c.if-key.true (c.key.ensures ∙ e)) in
    not_here g.R.Keyed.key_of c.args.rows.now c.requires.rising c.args.place c.args.key c.index-rows-place.result c.requires.below c.requires.above (omega arith) c.index-rows-place.is other

pub returns : goal.returns
returns g c =
    here g.R.Keyed.key_of c.args.rows.now c.requires.rising c.args.place c.args.key c.index-rows-place.result c.requires.below (omega arith) c.index-rows-place.is (sym c.key.ensures ∙ c.if-key.false)
