use Rattle.std.proofs.Common.{◌≡◌, map, refl}
use Rattle.aat_cuts.specs.inside.Steps.{step_of}
use Rattle.aat_cuts.proofs.Settling.{found_in}
use Rattle.aat_cuts.proofs.register.find_in_register.Goals as goal

pub returns : goal.returns
returns g c =
    let register = g.R.MachineRegister.means c.args.register.now in
    let table = c.args.table.now in
    let classes = c.args.classes.now in
    let cells = c.args.reached.now.cells.items in
    let are : c.deref.result.now ≡ map (step_of register table classes) cells =
    let listed : c.in_ok-steps.steps.items ≡ map (step_of register table classes) c.as_slice-cells.result.now = c.in_ok-steps.ensures in
    rw (c.deref.ensures.value, listed, c.as_slice-cells.ensures.value) refl
    in
    found_in table c.args.reached.now.labels.items cells c.requires.reached register classes c.requires.classes c.deref.result.now are c.in_ok-found.found c.in_ok-found.ensures
