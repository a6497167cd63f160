use Rattle.std.proofs.Common.{rules}
use Rattle.aat_read_lookup.proofs.KeptPairs.{long_rows_are}
use Rattle.aat_read_lookup.proofs.rows.long_rows_of.Goals as goal

pub returns : goal.returns
returns g c =
    let same = long_rows_are c.args.bytes.now c.args.width c.args.layout in
    search (rules, same)
