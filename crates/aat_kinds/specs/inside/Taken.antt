-- What the contracts of a ligature machine's parts say of components that are taken in.
use Rattle.std.specs.Prelude.{ℕ, if◌then◌else◌, slice_get}
use Rattle.aat_buffer.specs.Buffer.{Buffer}
use Rattle.aat_machine_tables.specs.Actions.{is_store}
use Rattle.aat_machine_tables.specs.Subtables.{LigatureTables}
use Rattle.aat_run.specs.Context.{Moved}
use Rattle.aat_run.specs.inside.Places.{left_with}
use Rattle.aat_kinds.specs.Ligature.{Registers, Step, GoesOn, component_step, ligated, stored_by}

-- one component by the action at a place
abbrev pub step_of : LigatureTables → ℕ → ℕ → ℕ → Registers → Buffer → Step
step_of t place c sum r b =
    component_step t.actions t.components t.ligatures (slice_get t.actions place) c sum (left_with r b)

-- one component by an action, with its value in the sum
abbrev pub taken_by : LigatureTables → ℕ → ℕ → ℕ → Registers → Buffer → Step
taken_by t action c sum r b =
    if is_store action
    then stored_by t.actions t.components t.ligatures action c sum (slice_get t.ligatures sum) (left_with r b)
    else GoesOn sum (left_with r b)

-- all components that are held, by the actions from a place on
abbrev pub all_taken : LigatureTables → ℕ → Registers → Buffer → Moved Registers
all_taken t first r b = ligated t.actions t.components t.ligatures r.count first 0 (left_with r b)
