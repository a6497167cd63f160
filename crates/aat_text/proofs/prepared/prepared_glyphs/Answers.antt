use Rattle.std.proofs.Common.{◌≡◌, sym, ◌∙◌}
use Rattle.aat_text.proofs.LoneTexts.{lone_text}
use Rattle.aat_text.proofs.prepared.prepared_glyphs.Goals as goal

pub returns-then-branch : goal.returns-then-branch
returns-then-branch g c =
    let made = c.in_ok-put_lone_glyphs.ensures in
    made.glyphs c.if-branch.true
    ∙ lone_text c.args.face.now c.args.is_turned c.args.direction c.args.level c.args.unit c.args.text.now c.if-not-is_turned.true (sym made.apart ∙ c.if-branch.true)
