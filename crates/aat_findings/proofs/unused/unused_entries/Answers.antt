use Rattle.std.proofs.Common.{◌∙◌, List, ℕ, ap, subst, sym}
use Rattle.std.specs.List.{filter}
use Rattle.aat_machine_tables.specs.Table.{Rule}
use Rattle.aat_machine_tables.specs.declared.state_table.GenericStateEntry.{GenericStateEntry}
use Rattle.aat_findings.specs.inside.Marks.{AreReachMarks, is_unmarked}
use Rattle.aat_findings.proofs.Wanting.{unused_of}
use Rattle.aat_findings.proofs.unused.unused_entries.Goals as goal

pub returns : goal.returns
returns g c =
    let table = c.args.table.now in
    let marks = c.as_slice-of_marks.result.now in
    let are = subst (λ (l : List ℕ). AreReachMarks table l) (sym c.as_slice-of_marks.ensures.value) c.in_ok-marks.ensures in
    let is = c.in_ok-found.ensures ∙ ap (λ (rs : List (Rule (GenericStateEntry g.row.T.Denot))). filter (λ r. is_unmarked marks r.0) rs) (c.deref.ensures.value ∙ c.in_ok-rules.ensures) in
    unused_of table marks are c.in_ok-found.found.items is
