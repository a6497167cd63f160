use Rattle.std.proofs.Common.{◌≡◌, ℕ, ◌+◌, ◌*◌, length, sym, ap, ◌∙◌, arith}
use Rattle.std.proofs.lemmas.List.FromFn.{length-map-range_with_len}
use Rattle.aat_machine_tables.specs.Rows.{rules_of_rows}
use Rattle.aat_machine_tables.specs.Table.{table_value}
use Rattle.aat_read_machine.specs.Entries.{entry_at}
use Rattle.aat_read_machine.specs.inside.OfRows.{entries_of}
use Rattle.aat_read_machine.proofs.OfRows.{names, rows_inside, rules_are}
use Rattle.aat_read_machine.proofs.machine.of_rows.Goals as goal

pub rows-requires-clause-few : goal.rows-requires-clause-few
rows-requires-clause-few g c = omega (arith, c.requires.few, c.class_count-class_count.ensures)

pub rows-requires-clause-inside : goal.rows-requires-clause-inside
rows-requires-clause-inside g c = rows_inside c.args.array.now c.args.cells c.requires.some c.requires.indexed

pub of_rows-requires-clause-known : goal.of_rows-requires-clause-known
of_rows-requires-clause-known g c =
    let m = c.args.array.now in
    let inside = rows_inside m c.args.cells c.requires.some c.requires.indexed in
    let entry = λ (i : ℕ). entry_at g.T.EntryRead.extra_at m.bytes (m.entries + m.entry_size * i) in
    let long : length c.in_ok-entries.entries.items ≡ c.args.entries = ap length c.in_ok-entries.ensures ∙ length-map-range_with_len entry 0 c.args.entries in
    rw c.in_ok-rows.ensures (rw long (names m c.args.cells inside c.args.entries c.requires.named))

pub returns-in-Ok-clause-ok : goal.returns-in-Ok-clause-ok
returns-in-Ok-clause-ok g c =
    let m = c.args.array.now in
    let inside = rows_inside m c.args.cells c.requires.some c.requires.indexed in
    let made = rw c.in-Ok.is at c.of_rows.ensures.ok in
    let classes = c.args.classes in
    made
    ∙ ap (λ (n : ℕ). table_value n classes (rules_of_rows n c.in_ok-entries.entries.items c.in_ok-rows.rows.items)) c.class_count-class_count.ensures
    ∙ ap (λ es. table_value m.class_count classes (rules_of_rows m.class_count es c.in_ok-rows.rows.items)) c.in_ok-entries.ensures
    ∙ ap (λ rs. table_value m.class_count classes (rules_of_rows m.class_count (entries_of g.T.EntryRead.extra_at m c.args.entries) rs)) c.in_ok-rows.ensures
    ∙ ap (λ rules. table_value m.class_count classes rules) (sym (rules_are m c.args.cells inside c.args.entries c.requires.named g.T.EntryRead.extra_at))
