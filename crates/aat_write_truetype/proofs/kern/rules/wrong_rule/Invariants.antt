use Rattle.std.proofs.Common.{◌≡◌, drop}
use Rattle.aat_write_truetype.specs.kern.MachineBytes.{wrong_from, wrong_rule}
use Rattle.aat_write_truetype.proofs.kern.rules.wrong_rule.Given as goal

abbrev pub invariant-loop-cell : goal.invariant-loop-cell
invariant-loop-cell l =
    wrong_from l.width l.states l.values l.cell l.highest (drop l.cell l.rules) ≡ wrong_rule l.width l.values l.rules
