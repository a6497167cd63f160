-- Where the turns of a kerning machine leave a place open, one after another. No contract but those of a run's parts
-- cites this.
use Rattle.std.specs.Prelude.{ℕ, ◌+◌, ◌&&◌, Bool, true, min, List, [], ◌∷◌}
use Rattle.aat_lookup.specs.Truth.{is_some_and}
use Rattle.aat_machine_tables.specs.Table.{TableValue}
use Rattle.aat_machine_tables.specs.declared.entries.EntryData.{EntryData}
use Rattle.aat_machine_tables.specs.declared.state_table.GenericStateEntry.{GenericStateEntry}
use Rattle.aat_run.specs.Budget.{potential}
use Rattle.aat_run.specs.Context.{Config}
use Rattle.aat_run.specs.Machine.{Turn}
use Rattle.aat_kerning_machines.specs.Anchors.{Held}
use Rattle.aat_cut_kinds.specs.KerningClosing.{Touching, anchor_touching, first_at, goes_as_from_start, is_apart, passes_each, rests_if_over}

-- the least of some places and of one more
unfoldable pub least_of : List ℕ → ℕ → ℕ
least_of [] least = least
least_of (i ∷ places) least = least_of places (min least i)

-- anchors, asked of registers that hold the points of the font beside the mark
abbrev pub held_touching : Touching Held EntryData
held_touching = record {
  index = anchor_touching.index;
  touched = λ e h p n. anchor_touching.touched e h.mark p n;
  rests_at_end = λ e h. anchor_touching.rests_at_end e h.mark;
}

module _ {R T : Type 0} (k : Touching R T) (table : TableValue (GenericStateEntry T)) where
  -- the first turn at a place is harmless
  abbrev pub is_harmless : Config R → Bool
  is_harmless c = goes_as_from_start k table c && rests_if_over k table c

  module _ (turn : Config R → Turn (Config R)) where
    -- no turn from here on touches a place before q
    unfoldable pub stays_apart : ℕ → Config R → Bool
    stays_apart q c = passes_each turn (is_apart k table q) (potential c.buffer + 1) c

    -- the run will leave place q open
    unfoldable pub will_open : ℕ → Config R → Bool
    will_open q c =
        is_some_and (first_at turn q (potential c.buffer + 1) c) (λ d. is_harmless d && stays_apart q d)
