-- The drivers meet their laws, kerning is bounded, its runs end, and it changes little.
use Rattle.std.proofs.Common.{◌≡◌, ℕ, ◌+◌, ◌*◌, ◌≤◌, ◌&&◌, ◌||◌, not, Bool, true, false, cond, List, [], ◌∷◌, length, map, Option, None, inr, refl, ap, arith}
use Rattle.std.specs.Prelude.{fold}
use Rattle.std.proofs.lemmas.Slice.Zip.{AllZip-long}
use Rattle.std.proofs.lemmas.List.{length-reverse}
use Rattle.aat_buffer.specs.Buffer.{Buffer, with_cursor, reversed}
use Rattle.aat_buffer.specs.Marks.{unsafe_to_concat}
use Rattle.aat_buffer.specs.facts.Cases.{chosen, either}
use Rattle.aat_glyph.specs.Directions.{is_backward}
use Rattle.aat_machine_tables.specs.Table.{TableValue}
use Rattle.aat_machine_tables.specs.declared.state_table.GenericStateEntry.{GenericStateEntry}
use Rattle.aat_kerning_tables.specs.declared.kern.KernKind.{KernKind}
use Rattle.aat_kerning_tables.specs.declared.kern.KernKind.TheVariants as kind
use Rattle.aat_kerning_tables.specs.declared.kern.KernSubtable.{KernSubtable}
use Rattle.aat_kerning_tables.specs.declared.kerx.KerxFormat.{KerxFormat}
use Rattle.aat_kerning_tables.specs.declared.kerx.KerxFormat.TheVariants.{Format0, Format1, Format2, Format2Classes, Format4, Format6, Format6Classes}
use Rattle.aat_kerning_tables.specs.declared.kerx.KerxSubtable.{KerxSubtable}
use Rattle.aat_kerning_tables.specs.AnchorPoints.{Points}
use Rattle.aat_run.specs.Budget.{operations_left}
use Rattle.aat_run.specs.Context.{start}
use Rattle.aat_run.specs.Laws.{FitsAlways}
use Rattle.aat_run.specs.Outcome.{Outcome, untouched}
use Rattle.aat_kerning_machines.specs.Anchors.{anchor_driver, IsFit}
use Rattle.aat_run.specs.Laws.{RunsEnd}
use Rattle.aat_kerning_machines.specs.KerningLaws.{IsLawfulDriver, IsMarkedFrom, IsKernedFrom}
use Rattle.aat_kerning.specs.KerningLawful.{DriversAreLawful, IsPaidBeyond, KerningIsBounded, KerningChangesLittle}
use Rattle.aat_kerning_machines.specs.KerningMachine.{Driver, driver_run, kerning_machine_of, kerning_turn, kerning_whole}
use Rattle.aat_kerning.specs.Positioning.{Kerning, Positioned, positioned, positioning, cursively_attached, in_processing_order, is_for_text, is_turned_round, run_turned_round, run_of_kerx_subtable, run_of_kern_subtable, kerning_of_kerx_subtable, kerning_of_kern_subtable, kerx_positioning, kern_positioning}
use Rattle.aat_kerning_machines.specs.Stack.{kerx_driver, kern_driver}
use Rattle.aat_kerning_machines.specs.facts.AnchorLaws.{anchors_are_lawful}
use Rattle.aat_kerning_machines.specs.facts.StackLaws.{kerx_is_lawful, kern_is_lawful}
use Rattle.aat_kerning.proofs.Changes.{IsKernedInside, inside, inside_twice, kerned_twice, same, of_break, of_place, of_cursor, of_payment, of_pair_kerning, of_marked, of_attachment, turned_back, in_order}
use Rattle.aat_kerning_machines.specs.facts.KerningRuns.{spends, runs_end, buffer_kept}
use Rattle.aat_kerning.proofs.Positioned.{positioned_so_far}
use Rattle.aat_kerning.specs.PairKerning.{value_of}
use Rattle.aat_kerning_tables.specs.Classes.{kerning_by_classes}

pub drivers_are_lawful : DriversAreLawful
drivers_are_lawful = record { kerx_stack = kerx_is_lawful; kern_stack = kern_is_lawful; anchors = anchors_are_lawful }

-- a kerned line is as long as before
long : (b d : Buffer) → IsKernedFrom b d → length d.line ≡ length b.line
long b d k = AllZip-long IsMarkedFrom b.line d.line k.line

-- what a subtable leaves: its turns are paid for, but for n + 1 of them, and little is changed
pub record IsPaid (b : Buffer) (o : Outcome) : Type 0 where
  pub turns : o.turns + operations_left o.buffer.max_ops ≤ length b.line + 1 + operations_left b.max_ops
  pub kept : IsKernedFrom b o.buffer

paid_without_turns : (b d : Buffer) → IsKernedFrom b d → IsPaid b (untouched d)
paid_without_turns b d k = record { turns = omega (arith, k.budget); kept = k }

-- the run of a lawful driver
module _ {T R : Type 0} (pays_first : Bool) (x : Driver R (GenericStateEntry T)) (fits : R → ℕ → ℕ → Type 0) (laws : IsLawfulDriver x fits) where
  driver_changes :
      (table : TableValue (GenericStateEntry T)) (b : Buffer)
      → IsKernedInside b (kerning_whole (kerning_machine_of pays_first table x) (start true b x.fresh)).buffer
  driver_changes table b =
      buffer_kept (kerning_machine_of pays_first table x) fits laws.keeps_place laws.keeps_fit laws.passes_fit (IsKernedInside b)
      (λ d i j q. inside_twice b d _ q (inside d _ (of_break d i j)))
      (λ e r d fit q. inside_twice b d _ q (inside d _ (of_place d _ (laws.keeps_place e r d fit))))
      (λ d q. inside_twice b d _ q (of_cursor d _))
      (λ d q. inside_twice b d _ q (of_payment d))
      (start true b x.fresh) (laws.fresh (length b.line)) (of_cursor b 0)

  driver_is_paid : (table : TableValue (GenericStateEntry T)) (b : Buffer) → IsPaid b (driver_run pays_first table x b)
  unfolding driver_run
  driver_is_paid table b =
      let m = kerning_machine_of pays_first table x in
      let d = kerning_whole m (start true b x.fresh) in
      let bound =
      spends m fits laws.keeps_place laws.keeps_fit laws.passes_fit (start true b x.fresh) (laws.fresh (length b.line)) in
      let k = inside_twice b d.buffer (with_cursor d.buffer 0) (driver_changes table b) (of_cursor d.buffer 0) in
      record {
        turns = omega (arith, bound);
        kept = record { line = k.line; cursor = inr refl; budget = k.budget; text = k.text };
      }

  always_ends :
      (table : TableValue (GenericStateEntry T)) → RunsEnd (kerning_turn (kerning_machine_of pays_first table x)) fits
  always_ends table =
      runs_end (kerning_machine_of pays_first table x) fits laws.keeps_place laws.keeps_fit laws.passes_fit

kerx_is_paid :
    (kern_mask : ℕ) (points : Option Points) (is_cross : Bool) (tuple_count : ℕ) (k : KerxFormat) (b : Buffer)
    → IsPaid b (run_of_kerx_subtable kern_mask points is_cross tuple_count k b)
kerx_is_paid kern_mask points is_cross tuple_count (Format0 pairs) b =
    paid_without_turns b _ (of_pair_kerning _ kern_mask is_cross (value_of pairs) false b)
kerx_is_paid kern_mask points is_cross tuple_count (Format1 s) b =
    driver_is_paid false (kerx_driver is_cross kern_mask tuple_count s.values) FitsAlways (kerx_is_lawful is_cross kern_mask tuple_count s.values) s.state_table b
kerx_is_paid kern_mask points is_cross tuple_count (Format2 pairs) b =
    paid_without_turns b _ (of_pair_kerning _ kern_mask is_cross (value_of pairs) true b)
kerx_is_paid kern_mask points is_cross tuple_count (Format2Classes pairs) b =
    paid_without_turns b _ (of_pair_kerning _ kern_mask is_cross (kerning_by_classes pairs) true b)
kerx_is_paid kern_mask points is_cross tuple_count (Format4 s) b =
    driver_is_paid false (anchor_driver points s.anchor_points) IsFit (anchors_are_lawful points s.anchor_points) s.state_table b
kerx_is_paid kern_mask points is_cross tuple_count (Format6 pairs) b =
    paid_without_turns b _ (of_pair_kerning _ kern_mask is_cross (value_of pairs) false b)
kerx_is_paid kern_mask points is_cross tuple_count (Format6Classes pairs) b =
    paid_without_turns b _ (of_pair_kerning _ kern_mask is_cross (kerning_by_classes pairs) false b)

kern_is_paid :
    (kern_mask : ℕ) (is_cross : Bool) (k : KernKind) (b : Buffer) → IsPaid b (run_of_kern_subtable kern_mask is_cross k b)
kern_is_paid kern_mask is_cross (kind.Pairs pairs) b =
    paid_without_turns b _ (of_pair_kerning _ kern_mask is_cross (value_of pairs) true b)
kern_is_paid kern_mask is_cross (kind.Classes pairs) b =
    paid_without_turns b _ (of_pair_kerning _ kern_mask is_cross (kerning_by_classes pairs) true b)
kern_is_paid kern_mask is_cross (kind.Machine s) b =
    driver_is_paid true (kern_driver is_cross kern_mask s.values) FitsAlways (kern_is_lawful is_cross kern_mask s.values) s.state_table b

-- what the subtables so far leave of a line of n glyphs with the operations ops, in so many turns at most
pub record IsPaidSoFar (b : Buffer) (most : ℕ) (s : Positioned) : Type 0 where
  pub turns : s.turns + operations_left s.buffer.max_ops ≤ most
  pub kept : IsKernedFrom b s.buffer

-- one subtable of any kind
positioned_is_paid :
    (requested : Bool) (k : Kerning) (b : Buffer) (most : ℕ) (s : Positioned) → ((d : Buffer) → IsPaid d (k.run d))
    → IsPaidSoFar b most s
    → IsPaidSoFar b (most + (length b.line + 1)) (positioned requested k s)
unfolding positioned
positioned_is_paid requested k b most s each so_far =
    let d = cond (k.has_cross_stream && not s.is_attached) (cursively_attached s.buffer) s.buffer in
    let o = cond (k.is_pairs && not requested) (untouched d) (k.run d) in
    let attached : IsKernedFrom s.buffer d =
    chosen (IsKernedFrom s.buffer) (k.has_cross_stream && not s.is_attached) (cursively_attached s.buffer) s.buffer (λ _. of_attachment s.buffer) (λ _. same s.buffer) in
    let paid : IsPaid d o = chosen (IsPaid d) (k.is_pairs && not requested) (untouched d) (k.run d) (λ _. paid_without_turns d d (same d)) (λ _. each d) in
    let before : IsKernedFrom b d = kerned_twice b s.buffer d so_far.kept attached in
    chosen (IsPaidSoFar b (most + (length b.line + 1))) (is_for_text k s.buffer)
    (record { buffer = o.buffer; turns = s.turns + o.turns; is_attached = s.is_attached || k.has_cross_stream }) s
    (λ _. record {
      turns = omega (arith, paid.turns, so_far.turns, attached.budget, long b d before);
      kept = kerned_twice b d o.buffer before paid.kept;
    })
    (λ _. record { turns = omega (arith, so_far.turns); kept = so_far.kept })

-- all of them
pub all_are_paid :
    {X : Type 0} (requested : Bool) (kerning : X → Kerning) (ks : List X) (b : Buffer) (most : ℕ) (s : Positioned)
    → ((x : X) (d : Buffer) → IsPaid d ((kerning x).run d))
    → IsPaidSoFar b most s → IsPaidSoFar b (most + length ks * (length b.line + 1)) (fold (λ s k. positioned requested k s) s (map kerning ks))
all_are_paid requested kerning [] b most s each so_far =
    record { turns = omega (arith, so_far.turns); kept = so_far.kept }
all_are_paid requested kerning (k ∷ ks) b most s each so_far =
    let t = positioned requested (kerning k) s in
    let rest =
    all_are_paid requested kerning ks b (most + (length b.line + 1)) t each (positioned_is_paid requested (kerning k) b most s (each k) so_far) in
    record { turns = omega (arith, rest.turns); kept = rest.kept }

-- the order of the line changes neither its length nor the budget
ordered_length : (b : Buffer) → length (in_processing_order b).line ≡ length b.line
ordered_length b =
    either (λ (d : Buffer). length d.line) (is_backward b.direction) (reversed b) b _ (length-reverse b.line) refl

ordered_budget : (b : Buffer) → (in_processing_order b).max_ops ≡ b.max_ops
ordered_budget b = either (λ (d : Buffer). d.max_ops) (is_backward b.direction) (reversed b) b _ refl refl

-- the subtables so far
so_far_is_paid :
    {X : Type 0} (requested : Bool) (kerning : X → Kerning) (ks : List X) (b : Buffer)
    → ((x : X) (d : Buffer) → IsPaid d ((kerning x).run d))
    → IsPaidSoFar (in_processing_order b) (operations_left b.max_ops + length ks * (length b.line + 1)) (positioned_so_far requested kerning ks b)
so_far_is_paid requested kerning ks b each =
    let ordered = in_processing_order b in
    let before : Positioned = record { buffer = ordered; turns = 0; is_attached = false } in
    let start : IsPaidSoFar ordered (operations_left ordered.max_ops) before = record { turns = omega arith; kept = same ordered } in
    let all : IsPaidSoFar ordered (operations_left ordered.max_ops + length ks * (length ordered.line + 1)) (positioned_so_far requested kerning ks b) =
    all_are_paid requested kerning ks ordered (operations_left ordered.max_ops) before each start in
    let budget : operations_left ordered.max_ops ≡ operations_left b.max_ops = ap operations_left (ordered_budget b) in
    let free : length ks * (length ordered.line + 1) ≡ length ks * (length b.line + 1) = ap (λ n. length ks * (n + 1)) (ordered_length b) in
    record { turns = omega (arith, all.turns, budget, free); kept = all.kept }

-- what positioning leaves
record IsPositioned (count : ℕ) (b : Buffer) (o : Outcome) : Type 0 where
  turns : IsPaidBeyond (count * (length b.line + 1)) b o
  kept : IsKernedFrom b o.buffer

positioning_is_bounded :
    {X : Type 0} (requested : Bool) (kerning : X → Kerning) (ks : List X) (b : Buffer)
    → ((x : X) (d : Buffer) → IsPaid d ((kerning x).run d))
    → IsPositioned (length ks) b (positioning requested (map kerning ks) b)
unfolding positioning
positioning_is_bounded requested kerning ks b each =
    let after = positioned_so_far requested kerning ks b in
    let all = so_far_is_paid requested kerning ks b each in
    record {
      turns = omega (arith, all.turns, ap operations_left (ordered_budget after.buffer));
      kept = in_order b after.buffer all.kept;
    }

-- a run over the line turned round
turned_is_paid :
    (asked : Bool) (run : Buffer → Outcome) (b : Buffer) → ((d : Buffer) → IsPaid d (run d))
    → IsPaid b (run_turned_round asked run b)
turned_is_paid true run b each =
    let k = each (reversed b) in
    record { turns = omega (arith, k.turns, length-reverse b.line); kept = turned_back b (run (reversed b)).buffer k.kept }
turned_is_paid false run b each = each b

-- each subtable of a table
pub kerx_each_paid :
    (kern_mask : ℕ) (points : Option Points) (s : KerxSubtable) (b : Buffer) → IsPaid b ((kerning_of_kerx_subtable kern_mask points s).run b)
kerx_each_paid kern_mask points s b =
    turned_is_paid (is_turned_round s.is_last_to_first s.format)
    (run_of_kerx_subtable kern_mask points s.has_cross_stream s.tuple_count s.format) b
    (kerx_is_paid kern_mask points s.has_cross_stream s.tuple_count s.format)

pub kern_each_paid : (kern_mask : ℕ) (s : KernSubtable) (b : Buffer) → IsPaid b ((kerning_of_kern_subtable kern_mask s).run b)
kern_each_paid kern_mask s b = kern_is_paid kern_mask s.has_cross_stream s.kind b

kerx_is_positioned :
    (requested : Bool) (kern_mask : ℕ) (points : Option Points) (subtables : List KerxSubtable) (b : Buffer)
    → IsPositioned (length subtables) b (kerx_positioning requested kern_mask points subtables b)
unfolding kerx_positioning
kerx_is_positioned requested kern_mask points subtables b =
    let d = unsafe_to_concat b None None in
    let o = positioning requested (map (kerning_of_kerx_subtable kern_mask points) subtables) d in
    let marked = of_marked true b in
    let k : IsPositioned (length subtables) d o =
    positioning_is_bounded requested (kerning_of_kerx_subtable kern_mask points) subtables d (kerx_each_paid kern_mask points) in
    let turns : length subtables * (length d.line + 1) ≡ length subtables * (length b.line + 1) = ap (λ n. length subtables * (n + 1)) (long b d marked) in
    record { turns = omega (arith, k.turns, marked.budget, turns); kept = kerned_twice b d o.buffer marked k.kept }

kern_is_positioned : (requested : Bool) (kern_mask : ℕ) (subtables : List KernSubtable) (b : Buffer)
    → IsPositioned (length subtables) b (kern_positioning requested kern_mask subtables b)
unfolding kern_positioning
kern_is_positioned requested kern_mask subtables b =
    positioning_is_bounded requested (kerning_of_kern_subtable kern_mask) subtables b (kern_each_paid kern_mask)

pub kerning_is_bounded : KerningIsBounded
kerning_is_bounded = record {
  kerx = λ requested kern_mask points subtables b. (kerx_is_positioned requested kern_mask points subtables b).turns;
  kern = λ requested kern_mask subtables b. (kern_is_positioned requested kern_mask subtables b).turns;
  kerx_stack_ends = λ table is_cross kern_mask tuple_count values.
      always_ends false (kerx_driver is_cross kern_mask tuple_count values) FitsAlways (kerx_is_lawful is_cross kern_mask tuple_count values) table;
  kern_stack_ends = λ table is_cross kern_mask values.
      always_ends true (kern_driver is_cross kern_mask values) FitsAlways (kern_is_lawful is_cross kern_mask values) table;
  anchors_end =
      λ table points pairs. always_ends false (anchor_driver points pairs) IsFit (anchors_are_lawful points pairs) table;
}

pub kerning_changes_little : KerningChangesLittle
kerning_changes_little = record {
  kerx = λ requested kern_mask points subtables b. (kerx_is_positioned requested kern_mask points subtables b).kept;
  kern = λ requested kern_mask subtables b. (kern_is_positioned requested kern_mask subtables b).kept;
}
