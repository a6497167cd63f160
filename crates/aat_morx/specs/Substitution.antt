-- Substitution: all subtables of all chains over a line. Apple's TrueType Reference Manual, "The 'morx' table".
use Rattle.std.specs.Prelude.{ℕ, ◌&&◌, ◌||◌, not, Bool, List, length, sum_by, None, if◌then◌else◌}
use Rattle.aat_buffer.specs.Buffer.{Buffer, without_positions}
use Rattle.aat_buffer.specs.Marks.{unsafe_to_concat}
use Rattle.aat_glyph.specs.declared.glyph.Direction.{Direction}
use Rattle.aat_machine_tables.specs.declared.morx.Subtable.{Subtable}
use Rattle.aat_run.specs.Switches.{Switch}
use Rattle.aat_run.specs.Outcome.{Outcome, untouched, in_order}
use Rattle.aat_map.specs.SwitchedChains.{SwitchedChain}
use Rattle.aat_kinds.specs.Kinds.{Sizes, is_for, kind_run, ordered_run}

-- before a run the positions are dropped, and the whole line gets the mark against joining, where the caller asks for
-- it
abbrev pub prepared : Buffer → Buffer
prepared b = unsafe_to_concat (without_positions b) None None

-- a subtable is left out: its chain has one range alone and it is off there, or it is not for text of this direction
abbrev pub is_skipped : Switch → Subtable → Direction → Bool
is_skipped switch s direction =
    (switch.has_one_range && not (switch.is_on s.feature_flags 0)) || not (is_for direction s.coverage)

-- the run of a subtable: by its kind, in the order of its coverage; one that is left out leaves the buffer, in no turn
unfoldable pub subtable_run : Sizes → Switch → Subtable → Buffer → Outcome
subtable_run z switch s b =
    if is_skipped switch s b.direction then untouched b
    else ordered_run s.coverage (kind_run z (switch.is_on s.feature_flags) s.kind) b

-- the run of a chain: its subtables in order
abbrev pub chain_run : Sizes → SwitchedChain → Buffer → Outcome
chain_run z c b = in_order (subtable_run z c.switch) c.subtables b

-- substitution: all subtables of all chains in order, each with the budget that the one before left, over what is
-- prepared
abbrev pub substituted : Sizes → List SwitchedChain → Buffer → Outcome
substituted z chains b = in_order (chain_run z) chains (prepared b)

-- the number of subtables of all chains
abbrev pub subtables_in : List SwitchedChain → ℕ
subtables_in chains = sum_by (λ c. length c.subtables) chains
