-- The closing runs of subtables in their chains. TrueType Reference Manual: The 'morx' table, chains and the coverage of
-- subtables.
use Rattle.std.specs.Prelude.{List, if◌then◌else◌}
use Rattle.aat_buffer.specs.Buffer.{Buffer}
use Rattle.aat_machine_tables.specs.declared.morx.Subtable.{Subtable}
use Rattle.aat_run.specs.Switches.{Switch}
use Rattle.aat_kinds.specs.Kinds.{Sizes}
use Rattle.aat_map.specs.SwitchedChains.{SwitchedChain}
use Rattle.aat_morx.specs.Substitution.{is_skipped, prepared}
use Rattle.aat_closing.specs.ClosingRuns.{Told, closing_ordered, nothing_run, told_in_order}

-- the run of a subtable in its chain, of a chain, and of all chains over what is prepared
unfoldable pub closing_subtable : Sizes → Switch → Subtable → Buffer → Told
closing_subtable z switch s b =
    if is_skipped switch s b.direction then nothing_run b
    else closing_ordered z (switch.is_on s.feature_flags) s.coverage s.kind b

abbrev pub closing_chain : Sizes → SwitchedChain → Buffer → Told
closing_chain z c b = told_in_order (closing_subtable z c.switch) c.subtables b

abbrev pub closing_substituted : Sizes → List SwitchedChain → Buffer → Told
closing_substituted z chains b = told_in_order (closing_chain z) chains (prepared b)
