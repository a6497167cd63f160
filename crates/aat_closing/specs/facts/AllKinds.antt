-- The theorem of each kind.
use Rattle.std.proofs.Common.{◌∙◌, ℕ, Bool, List, take, drop, refl, ap, sym, arith}
use Rattle.std.proofs.lemmas.List.{map-append, take-append-drop}
use Rattle.std.specs.Prelude.{map}
use Rattle.aat_buffer.specs.Buffer.{Buffer}
use Rattle.aat_machine_tables.specs.declared.morx.SubtableKind.TheVariants.{Rearrangement, Contextual, Ligature, NonContextual, Insertion}
use Rattle.aat_kinds.specs.Kinds.{Sizes, noncontextual_run}
use Rattle.aat_kinds.specs.Values.{with_looked_up_value}
use Rattle.aat_cut_kinds.specs.Parts.{back_part, front_part}
use Rattle.aat_closing.specs.ClosingCuts.{KindsLeavePartsAtFall, KindsLeavePartsAtRise}
use Rattle.aat_closing.specs.ClosingRuns.{closing_run}
use Rattle.aat_closing.specs.ToldParts.{ToldInParts}
use Rattle.aat_closing.specs.facts.KindParts.{contextual_at_fall, contextual_at_rise, insertion_at_fall, insertion_at_rise, rearrangement_at_rise}
use Rattle.aat_closing.specs.facts.LigatureParts.{ligature_at_fall, ligature_at_rise}

-- each glyph is taken by itself
pub noncontextual_parts : (z : Sizes) (on : ℕ → Bool) (lookup : List (ℕ × ℕ)) (q : ℕ) (b : Buffer)
    → ToldInParts (closing_run z on (NonContextual lookup) b) (closing_run z on (NonContextual lookup) (front_part q b)) (closing_run z on (NonContextual lookup) (back_part q b))
unfolding noncontextual_run
noncontextual_parts z on lookup q b =
    let f = with_looked_up_value on z.classes lookup in
    record {
      parts = record {
        line = ap (map f) (sym (take-append-drop q b.line)) ∙ map-append f (take q b.line) (drop q b.line);
        front_budget = omega arith;
        back_budget = omega arith;
      };
      front_told = refl;
      back_told = refl;
    }

pub kinds_at_rise : KindsLeavePartsAtRise
kinds_at_rise z on (Rearrangement table) slots = rearrangement_at_rise z.bound on table
kinds_at_rise z on (Contextual s) slots = contextual_at_rise z.classes s.lookups on s.state
kinds_at_rise z on (Ligature s) slots = ligature_at_rise s.actions s.components s.ligatures z.slots slots on s.state
kinds_at_rise z on (NonContextual lookup) slots = λ c q b rise is_on tells. noncontextual_parts z on lookup q b
kinds_at_rise z on (Insertion s) slots = insertion_at_rise s.glyphs on s.state

pub kinds_at_fall : KindsLeavePartsAtFall
kinds_at_fall z on (Rearrangement table) slots never = absurd (cc)
kinds_at_fall z on (Contextual s) slots never = contextual_at_fall z.classes s.lookups on s.state
kinds_at_fall z on (Ligature s) slots never = ligature_at_fall s.actions s.components s.ligatures z.slots slots on s.state
kinds_at_fall z on (NonContextual lookup) slots never = λ c q b fall is_on tells. noncontextual_parts z on lookup q b
kinds_at_fall z on (Insertion s) slots never = insertion_at_fall s.glyphs on s.state
