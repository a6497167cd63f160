use Rattle.std.proofs.Common.{◌∙◌}
use Rattle.std.specs.Option.{option_copied}
use Rattle.aat_drawn_text.proofs.ClosedLines.{closed_so}
use Rattle.aat_drawn_text.proofs.substitution.close.Goals as goal

pub returns-clause-left : goal.returns-clause-left
returns-clause-left g c =
    (closed_so c.args.face.now (option_copied c.args.map) c.args.buffer.now c.close_table.new.buffer c.in_ok-answer.answer
    c.in_ok-answer.ensures.known c.in_ok-answer.ensures.run).0

pub returns-clause-told : goal.returns-clause-told
returns-clause-told g c =
    c.told_by.ensures
    ∙ (closed_so c.args.face.now (option_copied c.args.map) c.args.buffer.now c.close_table.new.buffer c.in_ok-answer.answer
    c.in_ok-answer.ensures.known c.in_ok-answer.ensures.run).1
