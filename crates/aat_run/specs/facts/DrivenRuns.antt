-- What a run of a lawful context over a state table leaves.
use Rattle.std.proofs.Common.{◌≡◌, ℕ, Bool, true, false, length, refl, arith}
use Rattle.aat_buffer.specs.Buffer.{Buffer}
use Rattle.aat_machine_tables.specs.Table.{TableValue}
use Rattle.aat_machine_tables.specs.declared.state_table.GenericStateEntry.{GenericStateEntry}
use Rattle.aat_run.specs.Context.{Context, Config, Machine, machine_of, start}
use Rattle.aat_run.specs.Driven.{machine_run, outcome_of, positions_behind}
use Rattle.aat_run.specs.Laws.{KeepsFit, PassesFit, Pays, Bounded, Lengthens, MakesNoPositions, KeepsSettings, KeepsPlaceWhere, SameSettings, IsBounded}
use Rattle.aat_run.specs.Machine.{run_to_end}
use Rattle.aat_run.specs.facts.MachineRuns.{whole_bounded, whole_counts, whole_longer, whole_in_place, whole_settings, whole_keeps_positions, whole_makes_none}

module _ {T R : Type 0} (on : ℕ → Bool) (table : TableValue (GenericStateEntry T)) (x : Context R (GenericStateEntry T)) (fits : R → ℕ → ℕ → Type 0)
    (keeps : KeepsFit x.act fits) (passes : PassesFit fits) (pays : Pays x.act fits) (b : Buffer) (fit : fits x.fresh 0 (length b.line))
  where
    m : Machine R (GenericStateEntry T)
    m = machine_of on table x

    from_place : Bool → Config R
    from_place in_place = start in_place b x.fresh

    -- in as many turns as n + M + 1, with length and budget that do not grow
    pub run_is_bounded : Bounded x.act fits → Lengthens x.act fits → IsBounded b (machine_run on table x b)
    unfolding machine_run m from_place
    run_is_bounded bounded lengthens = by_place x.in_place
      where
        by_place : (p : Bool) → IsBounded b (outcome_of (run_to_end m (from_place p)))
        by_place true = record {
          turns = omega (arith, whole_counts m fits keeps passes pays (from_place true) fit);
          extent = whole_bounded m fits keeps passes pays bounded (from_place true) fit;
          length = whole_longer m fits keeps passes pays lengthens (length b.line) (from_place true) fit (omega arith);
        }
        by_place false = record {
          turns = omega (arith, whole_counts m fits keeps passes pays (from_place false) fit);
          extent = whole_bounded m fits keeps passes pays bounded (from_place false) fit;
          length = whole_longer m fits keeps passes pays lengthens (length b.line) (from_place false) fit (omega arith);
        }

    -- with the settings as they were
    pub run_keeps_settings : KeepsSettings x.act fits → SameSettings b (machine_run on table x b).buffer
    unfolding machine_run m from_place
    run_keeps_settings settings = by_place x.in_place
      where
        by_place : (p : Bool) → SameSettings b (outcome_of (run_to_end m (from_place p))).buffer
        by_place true =
            let k = whole_settings m fits keeps passes pays settings (from_place true) fit in
            record { direction = k.direction; cluster_level = k.cluster_level; flags = k.flags; scratch_flags = k.scratch_flags; max_len = k.max_len; successful = k.successful }
        by_place false =
            let k = whole_settings m fits keeps passes pays settings (from_place false) fit in
            record { direction = k.direction; cluster_level = k.cluster_level; flags = k.flags; scratch_flags = k.scratch_flags; max_len = k.max_len; successful = k.successful }

    -- with the positions of a context in place, and without those of another
    pub run_positions : MakesNoPositions x.act fits → KeepsPlaceWhere x.act fits x.in_place → (machine_run on table x b).buffer.positions ≡ positions_behind x.in_place b
    unfolding machine_run m from_place
    run_positions none place = by_place x.in_place place
      where
        by_place : (p : Bool) → KeepsPlaceWhere x.act fits p → (outcome_of (run_to_end m (from_place p))).buffer.positions ≡ positions_behind p b
        by_place true place = whole_keeps_positions m fits keeps passes pays (place refl).positions (from_place true) fit
        by_place false place = whole_makes_none m fits keeps passes pays none (from_place false) fit refl

    -- a context in place keeps the number of glyphs
    pub run_in_place : KeepsPlaceWhere x.act fits x.in_place → x.in_place ≡ true → length (machine_run on table x b).buffer.line ≡ length b.line
    unfolding machine_run m from_place
    run_in_place place is_so = by_place x.in_place place is_so
      where
        by_place : (p : Bool) → KeepsPlaceWhere x.act fits p → p ≡ true → length (outcome_of (run_to_end m (from_place p))).buffer.line ≡ length b.line
        by_place true place is_so = whole_in_place m fits keeps passes pays (place refl).length (from_place true) fit
        by_place false place is_so = absurd (grind (arith, is_so))
