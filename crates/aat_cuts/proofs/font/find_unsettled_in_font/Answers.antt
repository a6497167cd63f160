use Rattle.aat_cuts.proofs.font.find_unsettled_in_font.Goals as goal

pub returns-clause-none : goal.returns-clause-none
returns-clause-none c = rw (← c.chains-chains.ensures.listed) c.in_ok-found.ensures.none

pub returns-clause-some : goal.returns-clause-some
returns-clause-some c = rw (← c.chains-chains.ensures.listed) c.in_ok-found.ensures.some
