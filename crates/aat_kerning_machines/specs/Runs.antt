-- What a driver does over what its run is given: the state table, the subtable, the plan, and how values stand in it; and
-- how far a run is.
use Rattle.std.specs.Prelude.{ℕ, Bool}
use Rattle.aat_buffer.specs.Buffer.{Buffer}
use Rattle.aat_machine_tables.specs.declared.state_table.GenericStateEntry.{GenericStateEntry}
use Rattle.aat_kerning_machines.specs.KerningMachine.{Driver, KerningMachine, driver_from, kerning_machine_with}
use Rattle.aat_kerning_machines.specs.declared.run.KerningRun.{KerningRun}
use Rattle.aat_kerning_machines.specs.declared.run_state.RunState.{RunState}
use Rattle.aat_run.specs.Context.{Config, Moved, first_config}

-- a buffer, registers and a state make up how far a run is, which looks at no cluster
abbrev pub config : {R : Type 0} → Buffer → R → RunState → Config R
config b r at = record (first_config b r) { state = at.state; turns = at.turns }

module _ {Table E R : Type 0} (run : KerningRun Table E) (actionable : GenericStateEntry E → Bool)
    (act : Table → Bool → ℕ → ℕ → GenericStateEntry E → R → Buffer → Moved R)
  where
    -- the act of an entry, by the table, the cross-stream, the kern mask and the tuple count of the run
    abbrev pub act_over : GenericStateEntry E → R → Buffer → Moved R
    act_over = act run.table.now run.has_cross_stream run.plan.now.kern_mask run.tuple_count

    -- the machine of the run's state table and of that act
    abbrev pub machine_over : Bool → KerningMachine R (GenericStateEntry E)
    machine_over pays_first = kerning_machine_with pays_first run.state_table.now actionable act_over

    -- the driver with that act that has these registers at first
    abbrev pub driver_over : R → Driver R (GenericStateEntry E)
    driver_over fresh = driver_from actionable act_over fresh
