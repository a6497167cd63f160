use Rattle.std.proofs.Common.{◌≡◌, Some, option_map, sym, ap}
use Rattle.aat_machine_tables.specs.Table.{entry_of}
use Rattle.aat_machine_tables.specs.declared.state_table.GenericStateEntry.{GenericStateEntry}
use Rattle.aat_findings.specs.Reached.{next_state}
use Rattle.aat_findings.proofs.Reaching.{reached_next, sound_more}
use Rattle.aat_findings.proofs.reached.mark_next.Goals as goal

pub returns-in_ok-mark-in-Some-clause-sound : goal.returns-in_ok-mark-in-Some-clause-sound
returns-in_ok-mark-in-Some-clause-sound g c reached all =
    let is : entry_of c.args.table.now c.args.state c.args.class ≡ Some c.in-Some.entry = sym {b = entry_of c.args.table.now c.args.state c.args.class} c.in-Some.ensures in
    let next : next_state c.args.table.now c.args.state c.args.class ≡ Some c.in-Some.entry.new_state = ap (option_map (λ (e : GenericStateEntry g.row.T.Denot). e.new_state)) is in
    sound_more c.args.table.now c.args.marks.now c.mark.new.marks c.in-Some.entry.new_state (reached_next c.args.table.now c.args.state c.args.class c.in-Some.entry.new_state reached next) all c.in_ok-mark-in-Some.ensures.only
