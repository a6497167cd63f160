use Rattle.std.proofs.Common.{rules, ◌≡◌, length, arith}
use Rattle.aat_write_truetype.proofs.kern.KindsAgain.{kind_is_short}
use Rattle.aat_write_truetype.proofs.kern.table.write_subtable.Goals as goal

pub append_header-requires : goal.append_header-requires
append_header-requires c =
    let short = kind_is_short c.args.subtable.now.kind c.in_ok-body.body.items c.in_ok-body.ensures in
    let counted : c.len.result ≡ length c.in_ok-body.body.items = search rules in
    omega (arith, short, counted)
