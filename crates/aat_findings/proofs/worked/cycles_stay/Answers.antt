use Rattle.aat_findings.proofs.Staying.{never_left}
use Rattle.aat_findings.proofs.worked.cycles_stay.Goals as goal

pub returns : goal.returns
returns c table class state turns cycle left = never_left table class turns state cycle left
