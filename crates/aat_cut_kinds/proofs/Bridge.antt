-- A subtable that is settled as the question of subtables says it is so as the laws of cuts say it.
use Rattle.std.proofs.Common.{◌≡◌, ℕ, ◌-◌, Bool, true, false, ◌&&◌, ◌||◌, not, length, sym, ap, ◌∙◌, refl}
use Rattle.std.specs.Prelude.{nat_lt}
use Rattle.aat_buffer.specs.Buffer.{reversed}
use Rattle.aat_machine_tables.specs.Entries.{has_flag, is_present}
use Rattle.aat_machine_tables.specs.Subtables.{ContextualTables}
use Rattle.aat_machine_tables.specs.Table.{TableValue}
use Rattle.aat_machine_tables.specs.declared.morx.SubtableKind.TheVariants.{Contextual, Insertion}
use Rattle.aat_machine_tables.specs.declared.state_table.GenericStateEntry.{GenericStateEntry}
use Rattle.aat_kinds.specs.Contextual.{Entry}
use Rattle.aat_kinds.specs.Kinds.{kind_run}
use Rattle.aat_cuts.specs.Kinds as question
use Rattle.aat_cuts.specs.Reached.{IsComplete}
use Rattle.aat_cuts.specs.Settled.{the_mark}
use Rattle.aat_cut_kinds.specs.Settled.{HasEntries, IsSettled, may_replace}
use Rattle.aat_cut_kinds.specs.facts.BackwardCuts.{fall_of_rise, turned_leaves_parts}
use Rattle.aat_cut_kinds.specs.facts.ButMasks.{any_at_fall, any_at_rise, any_backward}
use Rattle.aat_cut_kinds.specs.facts.ContextualCuts as contextual
use Rattle.aat_cut_kinds.specs.facts.InsertionCuts.{leaves_parts_at_fall, leaves_parts_at_rise}
use Rattle.aat_cut_kinds.specs.SettledCuts.{AnySettledBackwardInsertionLeavesParts, AnySettledInsertionLeavesParts, AnySettledInsertionLeavesPartsAtFall, SettledBackwardInsertionLeavesParts, SettledContextualLeavesParts, SettledInsertionLeavesParts, SettledInsertionLeavesPartsAtFall}

-- a complete table has its entries
has_entries : {T : Type 0} (table : TableValue (GenericStateEntry T)) (reached : ℕ → Bool) → IsComplete table reached → HasEntries table reached
has_entries table reached complete = record { first = complete.first; entries = complete.entries }

-- an entry that may replace nothing may idle
idles : (lookups : ℕ) (e : Entry) → may_replace e ≡ false → (the_mark lookups).may_idle e ≡ true
idles lookups e none = ap not none

-- and it sets the mark where it has the flag
sets_by_flag : (lookups : ℕ) (e : Entry) → may_replace e ≡ false → (the_mark lookups).sets e ≡ has_flag e 0x8000
sets_by_flag lookups e = by_indexes (is_present e.extra.mark_index) (is_present e.extra.current_index) (has_flag e 0x8000) (nat_lt e.extra.mark_index lookups) (nat_lt e.extra.current_index lookups)
  where
    by_indexes : (m c h x y : Bool) → (m || c) ≡ false → (h && ((not m || x) && (not c || y))) ≡ h
    by_indexes true c h x y none = absurd (cc)
    by_indexes false true h x y none = absurd (cc)
    by_indexes false false true x y none = refl
    by_indexes false false false x y none = refl

-- the two say the same of a contextual subtable
contextual_settled : (tables : ContextualTables) → question.IsSettled (Contextual tables) → IsSettled tables.state tables.lookups
contextual_settled tables (reached, complete, (live, tidy, agreeing)) =
    let lookups = length tables.lookups in (
      record { is_reached = reached; is_live = live },
      record {
        complete = has_entries tables.state reached complete;
        tidy = record { first = tidy.first; kept = tidy.kept; used = tidy.used; at_end = tidy.at_end };
        agreeing = record {
          agreed = λ s k e f known class entry from_start none none_start to going alive.
              sym (sets_by_flag lookups e none)
              ∙ (agreeing.agreed s k e f known class entry from_start (idles lookups e none) (idles lookups f none_start) to going alive
              ∙ sets_by_flag lookups f none_start);
        };
      },
    )

pub settled_contextual_leaves_parts : SettledContextualLeavesParts
settled_contextual_leaves_parts z on tables q b settled cut =
    let shown = contextual_settled tables settled in
    contextual.leaves_parts z.classes tables.lookups on tables.state shown.0 shown.1 q b cut

pub settled_insertion_leaves_parts : SettledInsertionLeavesParts
settled_insertion_leaves_parts z on tables c q b settled plain cut =
    leaves_parts_at_rise tables.glyphs on tables.state settled.0 (has_entries tables.state settled.0 settled.1) plain c q b cut

pub settled_insertion_leaves_parts_at_fall : SettledInsertionLeavesPartsAtFall
settled_insertion_leaves_parts_at_fall z on tables c q b settled plain cut =
    leaves_parts_at_fall tables.glyphs on tables.state settled.0 (has_entries tables.state settled.0 settled.1) plain c q b cut

pub settled_backward_insertion_leaves_parts : SettledBackwardInsertionLeavesParts
settled_backward_insertion_leaves_parts z on tables c q b settled plain cut =
    let run = kind_run z on (Insertion tables) in
    turned_leaves_parts run q b (settled_insertion_leaves_parts_at_fall z on tables c (length b.line - q) (reversed b) settled plain (fall_of_rise run q b on c cut))

pub any_settled_insertion_leaves_parts : AnySettledInsertionLeavesParts
any_settled_insertion_leaves_parts z on tables c q b settled cut =
    any_at_rise tables.glyphs on tables.state settled.0 (has_entries tables.state settled.0 settled.1) c q b cut

pub any_settled_insertion_leaves_parts_at_fall : AnySettledInsertionLeavesPartsAtFall
any_settled_insertion_leaves_parts_at_fall z on tables c q b settled cut =
    any_at_fall tables.glyphs on tables.state settled.0 (has_entries tables.state settled.0 settled.1) c q b cut

pub any_settled_backward_insertion_leaves_parts : AnySettledBackwardInsertionLeavesParts
any_settled_backward_insertion_leaves_parts z on tables c q b settled cut =
    any_backward tables.glyphs on tables.state settled.0 (has_entries tables.state settled.0 settled.1) c q b cut
