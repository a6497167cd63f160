use Rattle.std.proofs.Common.{◌≡◌, ◌<◌, ◌∙◌, ℕ, List, true, subst, sym}
use Rattle.aat_machine_tables.specs.Table.{Rule}
use Rattle.aat_machine_tables.specs.declared.entries.ContextualEntryData.{ContextualEntryData}
use Rattle.aat_machine_tables.specs.declared.state_table.GenericStateEntry.{GenericStateEntry}
use Rattle.aat_findings.specs.Named.{is_unnamed}
use Rattle.aat_findings.specs.Reached.{AreExactly}
use Rattle.aat_findings.specs.inside.Marks.{AreReachMarks}
use Rattle.aat_findings.proofs.Naming.{unnamed_of}
use Rattle.aat_findings.proofs.named.unnamed_lookups.Goals as goal

pub returns : goal.returns
returns c =
    let table = c.args.table.now in
    let marks = c.as_slice-of_marks.result.now in
    let places = c.in_ok-places.places.items in
    let are = subst (λ (l : List ℕ). AreReachMarks table l) (sym c.as_slice-of_marks.ensures.value) c.in_ok-marks.ensures in
    let found = subst (λ (rs : List (Rule (GenericStateEntry ContextualEntryData))). AreExactly (λ i. (i < c.args.lookup_count) × (is_unnamed marks rs i ≡ true)) places) (c.deref.ensures.value ∙ c.in_ok-rules.ensures) c.in_ok-places.ensures in
    unnamed_of table marks are c.args.lookup_count places found
