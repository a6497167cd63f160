use Rattle.std.proofs.Common.{rules, ◌≡◌, ℕ, [], position, Option, None, sym, subst}
use Rattle.aat_machine_tables.specs.Table.{TableValue}
use Rattle.aat_machine_tables.specs.declared.state_table.GenericStateEntry.{GenericStateEntry}
use Rattle.aat_write_machine.specs.EntryWords.{one_word}
use Rattle.aat_write_machine.specs.Machines as plain
use Rattle.aat_write_machine.specs.Machines.{class_table_written}
use Rattle.aat_write_machine.specs.MorxWriteErrors as machines
use Rattle.aat_write_kerx.specs.KerxWriteErrors.{RefusesWithin, error_of_machine, of_machine}
use Rattle.aat_write_kerx.specs.MachineBytes.{is_far, table_written, unless_far}
use Rattle.aat_write_kerx.specs.inside.Plain.{numbered}
use Rattle.aat_write_kerx.proofs.PlainMachines.{machine_refused}
use Rattle.aat_write_kerx.proofs.machines.plain_machine.Goals as goal

pub returns-in_err-write_machine-clause-refused : goal.returns-in_err-write_machine-clause-refused
returns-in_err-write_machine-clause-refused c =
    let t = c.args.machine.now in
    let e = c.in_err-write_machine.field-0.0 in
    let none : position (is_far c.args.counts_bytes) t.rules ≡ None = search rules in
    let same : c.in_ok-numbered.numbered ≡ numbered c.args.counts_bytes t = c.in_ok-numbered.ensures in
    let was : machines.RefusesWithin (plain.machine_written one_word [] (numbered c.args.counts_bytes t)) e =
    subst (λ (m : TableValue (GenericStateEntry ℕ)). machines.RefusesWithin (plain.machine_written one_word [] m) e) same
    c.in_err-write_machine.ensures in
    let refuses : RefusesWithin (of_machine (class_table_written t)) (error_of_machine e) =
    machine_refused c.args.counts_bytes t e was in
    let refused : RefusesWithin (table_written c.args.counts_bytes t) (error_of_machine e) =
    subst (λ (o : Option ℕ). RefusesWithin (unless_far t o) (error_of_machine e)) (sym none) refuses in
    search rules
