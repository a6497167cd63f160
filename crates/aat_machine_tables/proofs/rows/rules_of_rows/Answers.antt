use Rattle.std.proofs.Common.{◌≡◌, ◌/◌, ◌++◌, [], ◌∷◌, Some, None, length, sym, ap, ◌∙◌, arith}
use Rattle.std.specs.List.{flat_map, range_with_len}
use Rattle.std.proofs.lemmas.List.{append-nil}
use Rattle.aat_machine_tables.specs.Rows.{entry_of_cell, rule_of_cell}
use Rattle.aat_machine_tables.proofs.RowAnswers.{rules_more}
use Rattle.aat_machine_tables.proofs.rows.rules_of_rows.Goals as goal
use Rattle.aat_machine_tables.proofs.rows.rules_of_rows.Goals.{in-Some+in_ok-push, in_default}

pub loop-cell-preserved : goal.loop-cell-preserved
loop-cell-preserved g c =
    let count = c.args.class_count in
    let cell = c.loop-cell.cell in
    let entry = entry_of_cell c.args.entries.now c.args.rows.now cell in
    let before = flat_map (λ cell. rule_of_cell count cell (entry_of_cell c.args.entries.now c.args.rows.now cell)) (range_with_len 0 cell) in
    let more = rules_more count c.args.entries.now c.args.rows.now cell in
    elim c.match-entry_of_cell.branch [
      | in-Some+in_ok-push w ↦
          let found : Some w.in-Some.entry ≡ entry = sym w.in-Some.is ∙ c.entry_of_cell.ensures in
          ap (λ v. v.items) w.rules-is ∙ w.in_ok-push.ensures.items
          ∙ ap (λ xs. xs ++ w.rule_at-rule.result ∷ []) c.loop-cell.invariant
          ∙ ap (λ r. before ++ r ∷ []) w.rule_at-rule.ensures
          ∙ ap (λ o. before ++ rule_of_cell count cell o) found
          ∙ sym more
      | in_default w ↦
          let missing : None ≡ entry = sym w.in_default.is ∙ c.entry_of_cell.ensures in
          ap (λ v. v.items) w.rules-is ∙ c.loop-cell.invariant ∙ sym (append-nil before)
          ∙ ap (λ o. before ++ rule_of_cell count cell o) missing
          ∙ sym more
    ]

pub returns : goal.returns
returns g c =
    let all : c.loop-cell.cell ≡ length c.args.rows.now / 2 = omega arith in
    c.loop-cell.invariant
    ∙ ap (λ n. flat_map (λ cell. rule_of_cell c.args.class_count cell (entry_of_cell c.args.entries.now c.args.rows.now cell)) (range_with_len 0 n)) all
