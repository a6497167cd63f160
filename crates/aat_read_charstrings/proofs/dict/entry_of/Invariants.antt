use Rattle.std.proofs.Common.{◌≡◌, ◌-◌}
use Rattle.aat_read_charstrings.specs.Dicts.{dict_start, stepped_on}
use Rattle.aat_read_charstrings.specs.Runs.{run}
use Rattle.aat_read_charstrings.proofs.dict.entry_of.Given as goal

abbrev pub invariant-loop-turn : goal.invariant-loop-turn
invariant-loop-turn l =
    run (stepped_on l.bytes l.dict.end l.key) (λ state. state.is_done) (l.dict.end - l._turn) l.state
    ≡ run (stepped_on l.bytes l.dict.end l.key) (λ state. state.is_done) (l.dict.end - l.dict.start) (dict_start l.dict)
