use Rattle.std.proofs.Common.{rules, refl, ap, Some}
use Rattle.std.proofs.lemmas.List.Sorted.{answers_always}
use Rattle.aat_lookup.specs.facts.Search.{searched}
use Rattle.aat_lookup.proofs.keys.row_in.Goals as goal

pub returns-in-Ok : goal.returns-in-Ok
returns-in-Ok g c =
    let key = g.R.Keyed.key_of in
    let facts = c.binary_search_by_key.ensures in
    let by_key = facts.position key (search (rules, answers_always)) in
    let found = rw c.in-Ok.is at (searched key c.args.rows.now c.requires c.args.key _ facts.bound by_key) in
    rw (found c.index-rows-at.result) (ap Some c.index-rows-at.is)

pub returns-in-Err : goal.returns-in-Err
returns-in-Err g c =
    let key = g.R.Keyed.key_of in
    let facts = c.binary_search_by_key.ensures in
    let by_key = facts.position key (search (rules, answers_always)) in
    let found = rw c.in-Err.is at (searched key c.args.rows.now c.requires c.args.key _ facts.bound by_key) in
    rw found refl
