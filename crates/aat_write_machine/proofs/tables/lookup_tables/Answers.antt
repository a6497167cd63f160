use Rattle.std.proofs.Common.{◌+◌, [], ◌∷◌, length, ap, ◌∙◌}
use Rattle.std.proofs.lemmas.List.{length-append}
use Rattle.std.proofs.lemmas.Result.{err_from_is_err_and}
use Rattle.aat_write_machine.specs.Contextual.{byte_lists}
use Rattle.aat_write_machine.proofs.Joined.{lists_pushed, lookup_is_pushed, lookup_is_refused, lookups_are_written}
use Rattle.aat_write_machine.proofs.tables.lookup_tables.Goals as goal

pub loop-lookup-preserved : goal.loop-lookup-preserved
loop-lookup-preserved c =
    let now = c.loop-lookup.tables.items in
    let table = c.in_ok-table.table in
    record {
      written = lookup_is_pushed c.args.lookups.now c.loop-lookup.lookup-index c.lookup-item.result (byte_lists now) (byte_lists c.push.new.self.items) table.items
          c.loop-lookup-test.true c.lookup-item.is c.loop-lookup.invariant.written c.in_ok-table.ensures.writes
          (lists_pushed now c.push.new.self.items table c.in_ok-push.ensures.items);
      count = ap length c.in_ok-push.ensures.items ∙ length-append now (table ∷ []) ∙ ap (λ n. n + 1) c.loop-lookup.invariant.count;
    }

pub returns-in_err-table-clause-writes : goal.returns-in_err-table-clause-writes
returns-in_err-table-clause-writes c =
    let p = err_from_is_err_and c.from_residual.result c.from_residual.ensures.1 in
    rw (p.1, p.2) (lookup_is_refused c.args.lookups.now c.loop-lookup.lookup-index c.lookup-item.result (byte_lists c.loop-lookup.tables.items) c.in_err-table.field-0.0
    c.loop-lookup-test.true c.lookup-item.is c.loop-lookup.invariant.written c.in_err-table.ensures.writes)

pub returns-clause-writes : goal.returns-clause-writes
returns-clause-writes c =
    lookups_are_written c.args.lookups.now c.loop-lookup.lookup-index (byte_lists c.loop-lookup.tables.items) c.loop-lookup-test.false c.loop-lookup.invariant.written
