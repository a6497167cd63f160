use Rattle.std.proofs.Common.{rules}
use Rattle.aat_morx.proofs.Refused.{refusal_turned}
use Rattle.aat_run.specs.facts.Settings.{refused_behind}
use Rattle.aat_closing.proofs.subtable.close_turned.Goals as goal

-- answered here, so that a wrong body is refused sooner
pub returns-clause-run : goal.returns-clause-run
returns-clause-run g c = search (rules, refusal_turned, refused_behind)
