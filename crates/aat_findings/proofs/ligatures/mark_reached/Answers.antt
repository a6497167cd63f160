use Rattle.std.proofs.Common.{◌∙◌, ℕ, List, length, subst, sym}
use Rattle.aat_machine_tables.specs.Subtables.{LigatureTables}
use Rattle.aat_machine_tables.specs.Table.{Rule}
use Rattle.aat_machine_tables.specs.declared.state_table.GenericStateEntry.{GenericStateEntry}
use Rattle.aat_findings.specs.Ligatures.{IsNamed}
use Rattle.aat_findings.specs.inside.Making.{AreMarksOf, AreMore, IsAmong, IsTold}
use Rattle.aat_findings.specs.inside.Marks.{AreReachMarks}
use Rattle.aat_findings.proofs.Making.{named_marks}
use Rattle.aat_findings.proofs.ligatures.mark_reached.Goals as goal

pub returns-clause-classes : goal.returns-clause-classes
returns-clause-classes c =
    let a = c.subtable.inside in
    let u : LigatureTables = record { state = a.state; actions = a.ligature_actions.items; components = a.components.items; ligatures = a.ligatures.items } in
    let marks = c.deref-2.result.now in
    let new = c.mark_rules.new.classes in
    let reach = subst (λ (l : List ℕ). AreReachMarks u.state l) (sym c.deref-2.ensures.value) c.in_ok-marks.ensures in
    let more = subst (λ (rs : List (Rule (GenericStateEntry ℕ))). AreMore c.args.classes.now (λ n. IsAmong rs (length rs) (λ place. IsTold marks 0x8000 (λ r. r.1) n)) new) (c.deref.ensures.value ∙ c.in_ok-rules.ensures) c.mark_rules.ensures.classes in
    let named = named_marks u marks reach 0x8000 (λ r. r.1) c.args.classes.now new c.requires.classes more in
    subst (λ (t : LigatureTables). AreMarksOf (IsNamed t 0x8000 (λ r. r.1)) new) c.subtable.view_is named

pub returns-clause-starts : goal.returns-clause-starts
returns-clause-starts c =
    let a = c.subtable.inside in
    let u : LigatureTables = record { state = a.state; actions = a.ligature_actions.items; components = a.components.items; ligatures = a.ligatures.items } in
    let marks = c.deref-2.result.now in
    let new = c.mark_rules.new.starts in
    let reach = subst (λ (l : List ℕ). AreReachMarks u.state l) (sym c.deref-2.ensures.value) c.in_ok-marks.ensures in
    let more = subst (λ (rs : List (Rule (GenericStateEntry ℕ))). AreMore c.args.starts.now (λ n. IsAmong rs (length rs) (λ place. IsTold marks 0x2000 (λ r. r.2.extra) n)) new) (c.deref.ensures.value ∙ c.in_ok-rules.ensures) c.mark_rules.ensures.starts in
    let named = named_marks u marks reach 0x2000 (λ r. r.2.extra) c.args.starts.now new c.requires.starts more in
    subst (λ (t : LigatureTables). AreMarksOf (IsNamed t 0x2000 (λ r. r.2.extra)) new) c.subtable.view_is named
