use Rattle.std.proofs.Common.{◌≡◌, ◌-◌}
use Rattle.aat_read_charstrings.specs.Machines.{started, turned}
use Rattle.aat_read_charstrings.specs.Runs.{run}
use Rattle.aat_read_charstrings.specs.declared.machine.TheConstants.{TURN_LIMIT}
use Rattle.aat_read_charstrings.proofs.machine.drawn_glyph.Given as goal

abbrev pub invariant-loop-turn : goal.invariant-loop-turn
invariant-loop-turn g l =
    run (turned l.program) (λ now. now.is_done) (TURN_LIMIT - l._turn) l.machine
    ≡ run (turned l.program) (λ now. now.is_done) TURN_LIMIT (started l.at)
