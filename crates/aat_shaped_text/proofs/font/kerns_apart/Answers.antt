use Rattle.std.proofs.Common.{◌∙◌, sym}
use Rattle.aat_shaped_text.proofs.KernsApart.{by_kern, by_kerx}
use Rattle.aat_shaped_text.proofs.font.kerns_apart.Goals as goal

pub returns-then-is_some : goal.returns-then-is_some
returns-then-is_some c =
    c.kerx_apart.ensures
    ∙ by_kerx c.args.face.now c.args.direction (rw c.tables.ensures at (sym c.is_some.ensures ∙ c.if-is_some.true))

pub returns-else-is_some : goal.returns-else-is_some
returns-else-is_some c =
    c.kern_apart.ensures
    ∙ by_kern c.args.face.now c.args.direction (rw c.tables.ensures at (sym c.is_some.ensures ∙ c.if-is_some.false))
