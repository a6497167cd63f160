use Rattle.std.proofs.Common.{rules}
use Rattle.aat_machine_tables.proofs.state_table.ExtendedStateTable.class.Goals as goal

-- answered here, so that a wrong body is refused sooner
pub returns-then-glyph-eq-DELETED_GLYPH : goal.returns-then-glyph-eq-DELETED_GLYPH
returns-then-glyph-eq-DELETED_GLYPH g c = search rules
