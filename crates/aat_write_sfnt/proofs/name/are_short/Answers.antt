use Rattle.std.proofs.Common.{◌<◌, sym, length, arith}
use Rattle.aat_write_sfnt.specs.NameTables.{text_of_name}
use Rattle.aat_write_sfnt.proofs.Appending.{texts_too_long}
use Rattle.aat_write_sfnt.proofs.name.are_short.Goals as goal

pub returns-then-size-rest : goal.returns-then-size-rest
returns-then-size-rest c =
    let loop = c.loop-name in
    let past : loop.rest < length (text_of_name c.name-item.result) = omega (arith, c.if-size-rest.true, c.text_length-size.ensures) in
    texts_too_long c.args.names.now loop.name-index loop.rest c.name-item.result c.loop-name-test.true (sym c.name-item.is) loop.invariant past
