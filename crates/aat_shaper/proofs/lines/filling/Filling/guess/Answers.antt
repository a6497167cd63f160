use Rattle.std.proofs.Common.{inl, inr}
use Rattle.std.proofs.lemmas.Bool.{cases_lt}
use Rattle.aat_shaper.proofs.lines.filling.Filling.guess.Goals as goal

pub returns-clause-unforced : goal.returns-clause-unforced
returns-clause-unforced c =
    λ i from low.
    elim (cases_lt i c.begun_at-begun.result) [
      | inl lt ↦ c.begun_at-begun.ensures.unforced i from lt
      | inr ge ↦ c.guess_from-2.ensures.unforced i ge low
    ]
