use Rattle.std.proofs.Common.{◌∙◌, sym, arith}
use Rattle.aat_lookup.specs.facts.Search.{found_there}
use Rattle.aat_lookup.proofs.keys.row_close.Goals as goal

pub returns-then-key : goal.returns-then-key
returns-then-key g c =
    let has = sym c.key-then-place-rows.ensures ∙ c.if-key.true in
    found_there g.R.Keyed.key_of c.args.rows.now c.requires c.args.key _ c.index-rows-place.result (omega arith) c.index-rows-place.is has
