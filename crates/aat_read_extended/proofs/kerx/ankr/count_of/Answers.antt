use Rattle.std.proofs.Common.{◌≡◌, ◌<◌, ◌==◌, false, length, sym, ◌∙◌, arith}
use Rattle.std.proofs.lemmas.Bool.Decides.{nat_tests}
use Rattle.aat_read_extended.proofs.kerx.AnchorRows.{few_glyphs}
use Rattle.aat_read_extended.proofs.kerx.ankr.count_of.Goals as goal

pub returns-clause-count : goal.returns-clause-count
returns-clause-count c =
    let glyphs = c.args.glyphs.now in
    let other : (length glyphs == 0) ≡ false = sym c.is_empty.ensures ∙ c.if-is_empty.false in
    let some : 0 < length glyphs = grind (arith, nat_tests, other) in
    let few = few_glyphs glyphs c.requires some in
    omega (arith, c.min.ensures, few)
