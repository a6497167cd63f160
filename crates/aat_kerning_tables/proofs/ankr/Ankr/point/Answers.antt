use Rattle.std.proofs.Common.{rules}
use Rattle.aat_kerning_tables.proofs.AnchorRows.{listed}
use Rattle.aat_kerning_tables.proofs.ankr.Ankr.point.Goals as goal

pub returns-in-Some : goal.returns-in-Some
returns-in-Some c =
    let found = rw c.deref.ensures.value at c.row_close.ensures in
    let is_listed = listed _ c.args.glyph.0 c.args.index c.row_close.result found in
    rw (← c.self.view_is, is_listed, c.in-Some.is) (search rules)

pub returns-in-None : goal.returns-in-None
returns-in-None c =
    let found = rw c.deref.ensures.value at c.row_close.ensures in
    let is_listed = listed _ c.args.glyph.0 c.args.index c.row_close.result found in
    rw (← c.self.view_is, is_listed, c.in-None.is) (search rules)
