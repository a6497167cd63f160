-- What is known of a contextual subtable that is not written, or is.
use Rattle.std.proofs.Common.{◌≡◌, ℕ, List, Result, Ok, ap, ◌∙◌}
use Rattle.aat_machine_tables.specs.Subtables.{ContextualTables}
use Rattle.aat_write_machine.specs.Contextual.{contextual_bytes, contextual_written, substitutions_written}
use Rattle.aat_write_machine.specs.Machines.{class_table_written}
use Rattle.aat_write_machine.specs.MorxWriteErrors.{RefusesWithin, after_written}
use Rattle.aat_write_machine.specs.declared.error.MorxWriteError.{MorxWriteError}
use Rattle.aat_write_machine.proofs.Refused.{refuses_whole}

-- what refuses the lookups refuses the subtable
pub lookups_refuse :
    (t : ContextualTables) (classes : List ℕ) (e : MorxWriteError)
    → class_table_written t.state ≡ Ok classes → RefusesWithin (substitutions_written t) e → RefusesWithin (contextual_written t) e
lookups_refuse t classes e table is =
    refuses_whole (substitutions_written t) (contextual_written t) e (λ f refused.
    ap (λ (r : Result (List ℕ) MorxWriteError). after_written r (λ c. after_written (substitutions_written t) (λ tables. Ok (contextual_bytes c tables t)))) table
    ∙ ap (λ (r : Result (List (List ℕ)) MorxWriteError). after_written r (λ tables. Ok (contextual_bytes classes tables t))) refused) is
