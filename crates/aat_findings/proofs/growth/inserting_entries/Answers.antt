use Rattle.std.proofs.Common.{◌∙◌, List, ℕ, ap, subst, sym}
use Rattle.std.specs.List.{filter}
use Rattle.aat_machine_tables.specs.Table.{Rule}
use Rattle.aat_findings.specs.Growth.{Entry}
use Rattle.aat_findings.specs.inside.Growing.{is_told}
use Rattle.aat_findings.specs.inside.Marks.{AreReachMarks}
use Rattle.aat_findings.proofs.Growing.{inserting_of}
use Rattle.aat_findings.proofs.growth.inserting_entries.Goals as goal

pub returns : goal.returns
returns c =
    let table = c.args.table.now in
    let glyphs = c.args.glyphs.now in
    let marks = c.as_slice-of_marks.result.now in
    let are = subst (λ (l : List ℕ). AreReachMarks table l) (sym c.as_slice-of_marks.ensures.value) c.in_ok-marks.ensures in
    let is = c.in_ok-found.ensures ∙ ap (λ (rs : List (Rule Entry)). filter (is_told table glyphs marks c.args.kind) rs) (c.deref.ensures.value ∙ c.in_ok-rules.ensures) in
    inserting_of table glyphs marks c.args.kind are c.in_ok-found.found.items is
