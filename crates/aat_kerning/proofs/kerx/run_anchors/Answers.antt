use Rattle.std.proofs.Common.{rules, ◌≡◌, ◌∙◌, ap, false}
use Rattle.std.specs.Option.{option_copied}
use Rattle.aat_machine_tables.specs.Table.{TableValue}
use Rattle.aat_machine_tables.specs.declared.entries.EntryData.{EntryData}
use Rattle.aat_machine_tables.specs.declared.state_table.GenericStateEntry.{GenericStateEntry}
use Rattle.aat_kerning_machines.specs.Anchors.{Held, anchor_driver, held_act}
use Rattle.aat_kerning_machines.specs.KerningMachine.{driver_from, driver_run, has_action}
use Rattle.aat_kerning_machines.specs.facts.AnchorRuns.{anchors_are_driven}
use Rattle.aat_run.specs.Outcome.{Outcome}
use Rattle.aat_kerning.proofs.kerx.run_anchors.Goals as goal

pub returns-clause-run : goal.returns-clause-run
returns-clause-run g c =
    let table = c.machine.inside.state_table in
    let pairs = c.args.machine.now.anchor_points in
    let same : table ≡ c.args.machine.now.state_table = search rules in
    let run : Held → Outcome = λ h. driver_run false table (driver_from has_action (held_act pairs) h) c.args.buffer.now in
    ◌∙◌ {b = run c.new-driver.result} c.drive_kerning.ensures.run (
    ap run c.new-driver.ensures
    ∙ anchors_are_driven (option_copied c.args.ankr) pairs false table c.args.buffer.now
    ∙ ap (λ (t : TableValue (GenericStateEntry EntryData)). driver_run false t (anchor_driver (option_copied c.args.ankr) pairs) c.args.buffer.now) same)
