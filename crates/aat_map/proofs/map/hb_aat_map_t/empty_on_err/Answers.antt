use Rattle.std.proofs.Common.{rules}
use Rattle.aat_map.proofs.map.hb_aat_map_t.empty_on_err.Goals as goal

-- answered here, so that a wrong body is refused sooner
pub returns-then-is_err-clause-err : goal.returns-then-is_err-clause-err
returns-then-is_err-clause-err g c = search rules
