use Rattle.std.proofs.Common.{◌≡◌, ◌∙◌, Bool, List, ap, false, option_copied, subst}
use Rattle.std.proofs.lemmas.Result.{IfOk-weaker}
use Rattle.aat_machine_tables.specs.Table.{TableValue}
use Rattle.aat_machine_tables.specs.declared.entries.EntryData.{EntryData}
use Rattle.aat_machine_tables.specs.declared.state_table.GenericStateEntry.{GenericStateEntry}
use Rattle.aat_run.specs.Outcome.{Outcome}
use Rattle.aat_kerning_machines.specs.Anchors.{Held, held_act, held_fresh}
use Rattle.aat_kerning_machines.specs.KerningMachine.{driver_from, has_action}
use Rattle.aat_kerning_machines.specs.facts.AnchorRuns.{anchors_are_driven}
use Rattle.aat_cut_kinds.specs.KerningCuts.{kerned_run}
use Rattle.aat_cut_kinds.specs.OpenPlaces.{KernsOpenly}
use Rattle.aat_cut_kinds.specs.facts.HeldAnchors.{held_opens}
use Rattle.aat_cut_kinds.specs.inside.OpenRuns.{held_touching}
use Rattle.aat_cut_kinds.proofs.kerning_opens.kern_by_anchors.Goals as goal

pub returns-clause-kerned : goal.returns-clause-kerned
returns-clause-kerned g c =
    let points = option_copied c.args.ankr in
    let pairs = c.args.machine.now.anchor_points in
    let table = c.args.machine.now.state_table in
    let b = c.args.buffer.now in
    let new = c.kern_openly.new.buffer in
    let Told : TableValue (GenericStateEntry EntryData) → Held → List Bool → Type 0 =
    λ t r told. KernsOpenly (kerned_run held_touching false t (driver_from has_action (held_act pairs) r)) b new told in
    IfOk-weaker c.kern_openly.result _ _ (λ told h.
    let there : Told table (held_fresh points) told.items =
    subst (λ (r : Held). Told table r told.items) c.new-driver.ensures
    (subst (λ (t : TableValue (GenericStateEntry EntryData)). Told t c.new-driver.result told.items) (ap (λ m. m.state_table) c.machine.view_is) h) in
    record {
      left = there.left ∙ ap (λ (o : Outcome). o.buffer) (anchors_are_driven points pairs false table b);
      long = there.long;
      opens = λ q more inside. there.opens q more inside ∙ held_opens false points pairs table q b;
    }) c.kern_openly.ensures.kerned
