use Rattle.std.proofs.Common.{◌∙◌, sym}
use Rattle.aat_read_metrics.proofs.names.Texts.{IsUtf8-shown}
use Rattle.aat_read_metrics.proofs.names.shown.shown.Goals as goal

pub returns-in-Err : goal.returns-in-Err
returns-in-Err c =
    absurd (c.in-Err.ensures.cases.0 (IsUtf8-shown c.args.name.now (sym c.are_shown.ensures ∙ c.if-not-are_shown.false)))
