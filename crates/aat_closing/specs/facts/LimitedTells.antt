-- The closing runs of chains tell of the parts of a line that have limits of their own.
use Rattle.std.proofs.Common.{◌∙◌, arith}
use Rattle.aat_closing.specs.LimitedParts.{ChainsTellOfLimitedPartsAbout}
use Rattle.aat_closing.specs.facts.ChainsSteady.{chains_leave_parts_limited}

pub chains_tell_of_limited_parts_about : ChainsTellOfLimitedPartsAbout
chains_tell_of_limited_parts_about z d low c chains slots even q b front back is cursor plain rise tells between limited_front limited_back few_front few_back =
    let parts = chains_leave_parts_limited z d low c chains slots even q b front back is cursor plain rise tells between limited_front limited_back few_front few_back in
    let more_front = parts.whole.parts.front_budget in
    let more_back = parts.whole.parts.back_budget in
    let front_taken = parts.first.budget in
    let back_taken = parts.second.budget in (
      record { told = parts.first.told ∙ parts.whole.front_told; budget = omega (arith, more_front, front_taken) },
      record { told = parts.second.told ∙ parts.whole.back_told; budget = omega (arith, more_back, back_taken) },
    )
