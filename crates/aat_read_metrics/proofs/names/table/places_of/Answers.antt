use Rattle.std.proofs.Common.{◌≡◌, ◌∙◌, subst, IfOk, List, ℕ}
use Rattle.aat_read_metrics.proofs.names.PlaceSteps.{places_numbered}
use Rattle.aat_read_metrics.proofs.names.table.places_of.Goals as goal

pub returns-then-has_numbers : goal.returns-then-has_numbers
returns-then-has_numbers c =
    let post = c.args.post.now in
    let P : List ℕ → Type 0 = λ all. IfOk c.places_from.result (λ places. places.items ≡ all) in
    subst P (places_numbered post c.has_numbers.result c.from.result c.has_numbers.ensures.numbers c.if-has_numbers.true (c.from.ensures ∙ c.be16.ensures)) c.places_from.ensures
