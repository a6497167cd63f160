use Rattle.std.proofs.Common.{◌<◌, sym, length, arith}
use Rattle.aat_write_sfnt.specs.Fonts.{padded}
use Rattle.aat_write_sfnt.proofs.Appending.{too_long}
use Rattle.aat_write_sfnt.proofs.font.is_within.Goals as goal

pub returns-then-size-rest : goal.returns-then-size-rest
returns-then-size-rest c =
    let loop = c.loop-table in
    let past : loop.rest < length (padded c.table-item.result) = omega (arith, c.if-size-rest.true, c.padded_length-size.ensures) in
    too_long c.args.tables.now loop.table-index loop.rest c.table-item.result c.loop-table-test.true (sym c.table-item.is) loop.invariant past
