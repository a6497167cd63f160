use Rattle.std.proofs.Common.{◌≡◌, ℕ, subst, arith}
use Rattle.aat_cuts.specs.Reached.{AreGathered}
use Rattle.aat_cuts.proofs.Gathered.{gathered_more}
use Rattle.aat_cuts.proofs.cells.cells_of.Goals as goal

pub loop-state-preserved : goal.loop-state-preserved
loop-state-preserved g c =
    let here = c.in_ok-gather_row.ensures in
    gathered_more c.args.table.now c.loop-state.cells.items c.gather_row.new.cells.items c.loop-state.state c.loop-state.invariant here.kept here.row here.sound

pub returns : goal.returns
returns g c =
    let all : c.loop-state.state ≡ 65536 = omega arith in
    subst (λ (n : ℕ). AreGathered c.args.table.now c.loop-state.cells.items n) all c.loop-state.invariant
