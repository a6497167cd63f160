use Rattle.aat_closing.specs.facts.ErasedClosing.{closing_runs_alike}
use Rattle.aat_closing.proofs.laws.closing_flags_alone.Goals as goal

pub returns : goal.returns
returns c = closing_runs_alike
