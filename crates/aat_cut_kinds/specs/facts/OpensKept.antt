-- Runs leave the parts of a line open where they leave the line open: machines, runs over the line turned round, one after
-- another, and attaching.
use Rattle.std.proofs.Common.{◌≡◌, ◌∙◌, inl, inr, ℕ, zero, suc, ℤ, ◌+◌, ◌-◌, ◌<◌, ◌≤◌, Bool, true, List, [], ◌∷◌, length, bit_and, Option, Some, refl, ap, sym, arith, add-one}
use Rattle.std.proofs.lemmas.Bool.{and_parts}
use Rattle.std.proofs.lemmas.List.{length-reverse}
use Rattle.std.specs.List.{AllByRecursion}
use Rattle.aat_buffer.specs.Buffer.{Buffer, reversed}
use Rattle.aat_kerning_tables.specs.AnchorPoints.{Points}
use Rattle.aat_machine_tables.specs.Table.{TableValue}
use Rattle.aat_machine_tables.specs.declared.entries.EntryData.{EntryData}
use Rattle.aat_machine_tables.specs.declared.entries.KernEntryData.{KernEntryData}
use Rattle.aat_machine_tables.specs.declared.state_table.GenericStateEntry.{GenericStateEntry}
use Rattle.aat_run.specs.Budget.{operations_left, potential}
use Rattle.aat_run.specs.Context.{Config, start}
use Rattle.aat_run.specs.Laws.{FitsAlways}
use Rattle.aat_run.specs.Machine.{Goes, Turn}
use Rattle.aat_kerning_machines.specs.KerningLaws.{ChangesPositionsAlone}
use Rattle.aat_kerning_machines.specs.KerningMachine.{Driver, driver_run, kerning_machine_of, kerning_turn, kerning_whole}
use Rattle.aat_cut_kinds.specs.KerningClosing.{Touching, anchor_touching, first_at, goes_as_from_start, is_apart, is_open, is_same_entry, kern_touching, kerx_touching, passes_each, rests_if_over}
use Rattle.aat_cut_kinds.specs.KerningCuts.{KeepsParts, KernedRun, attaching, by_anchors, kern_stack, kerned_by_all, kerned_run, kerx_stack, turned}
use Rattle.aat_cut_kinds.specs.KerningOpens.{ArePartsFor, KeepsOpens, RunsKeepOpens}
use Rattle.aat_cut_kinds.specs.facts.AnchorParts.{MarkOver, anchors_in_parts, anchors_keep_places}
use Rattle.aat_cut_kinds.specs.facts.KernedInOrder.{in_order_keeps_parts, long_whole, stand_turned}
use Rattle.aat_cut_kinds.specs.facts.KerningParts.{Begun, begins, begun, cursor_at_cut, left_behind, there, whole}
use Rattle.aat_cut_kinds.specs.facts.KerningPhases.{falls, run_is}
use Rattle.aat_cut_kinds.specs.facts.KerningTurns.{ActsInParts}
use Rattle.aat_cut_kinds.specs.facts.OpenBacks.{Reaches, back_apart, reaches}
use Rattle.aat_cut_kinds.specs.facts.OpenFronts.{finds, front_apart}
use Rattle.aat_cut_kinds.specs.facts.OpenTouches.{TouchesInParts, anchors_touch_in_parts, kern_touches_in_parts, kerx_touches_in_parts}
use Rattle.aat_cut_kinds.specs.facts.OpenTurns.{both_hold, both_on, found_by_goes, found_later, found_never, found_of_goes, found_on, from_cut, goes_later, goes_too, holds_of, passed_behind, passes_parts, passes_by_goes, rests_too, turns_of}
use Rattle.aat_cut_kinds.specs.facts.StackParts.{StackOver, kern_in_parts, kern_same, kerx_in_parts, same_entries}
use Rattle.aat_kerning_machines.specs.facts.StackLaws.{kern_keeps_place, kerx_keeps_place}

module _ {R T : Type 0} (k : Touching R T) (pays_first : Bool) (table : TableValue (GenericStateEntry T)) (driver : Driver R (GenericStateEntry T))
    (kern_mask : ℕ) (free : bit_and kern_mask 7 ≡ 0) (places : ChangesPositionsAlone driver.act FitsAlways)
    (Alike : ℕ → ℕ → R → R → Type 0) (law : ActsInParts k driver.act driver.fresh kern_mask Alike)
    (same : (e f : GenericStateEntry T) → is_same_entry k e f ≡ true → e ≡ f)
    (touch : TouchesInParts k Alike)
  where
    abbrev Run : KernedRun
    Run = kerned_run k pays_first table driver

    module _ (q least : ℕ) (b f g : Buffer) (parts : ArePartsFor Run kern_mask q least b f g) where
      abbrev first : Buffer → Config R
      first x = start true x driver.fresh

      abbrev turn : Config R → Turn (Config R)
      turn c = kerning_turn (kerning_machine_of pays_first table driver) c

      -- where the run first comes to a place that is open to it
      abbrev Opened : ℕ → Type 0
      Opened p =
          (d : Config R) × (first_at turn p (potential (first b).buffer + 1) (first b) ≡ Some d) × (goes_as_from_start k table d ≡ true)
          × (rests_if_over k table d ≡ true) × (passes_each turn (is_apart k table p) (potential d.buffer + 1) d ≡ true)

      opened : (p : ℕ) → is_open k table pays_first driver p b ≡ true → Opened p
      unfolding is_open
      opened p opens =
          let d = there (first_at turn p (potential (first b).buffer + 1) (first b)) _ opens in
          let goes = and_parts (goes_as_from_start k table d.0) _ d.2 in
          let rests = and_parts (rests_if_over k table d.0) _ goes.1 in
          (d.0, d.1, goes.0, rests.0, rests.1)

      opens_of : (p : ℕ) (x : Buffer) (d : Config R) → first_at turn p (potential (first x).buffer + 1) (first x) ≡ Some d → goes_as_from_start k table d ≡ true
          → rests_if_over k table d ≡ true → passes_each turn (is_apart k table p) (potential d.buffer + 1) d ≡ true
          → is_open k table pays_first driver p x ≡ true
      unfolding is_open
      opens_of p x d found goes rests apart =
          holds_of (first_at turn p (potential (first x).buffer + 1) (first x)) _ d found
          (both_hold (goes_as_from_start k table d) _ goes (both_hold (rests_if_over k table d) _ rests apart))

      cut : Opened q
      cut = opened q parts.opens

      lasts : least ≤ operations_left (kerning_whole (kerning_machine_of pays_first table driver) (first b)).buffer.max_ops
      unfolding driver_run
      lasts = parts.lasts

      pub front_open : (p : ℕ) → p < q → is_open k table pays_first driver p b ≡ true → is_open k table pays_first driver p f ≡ true
      front_open p before opens =
          let d = opened p opens in
          let long : ℕ = length b.line in
          let start_here = begins k pays_first table driver kern_mask free places Alike law same q least b f g parts.stand parts.inside parts.some parts.enough in
          let at = finds k pays_first table driver kern_mask free places Alike law touch q long least b parts.some p before
          (potential (first b).buffer + 1) (potential (first b).buffer + 1) (potential (first f).buffer + 1) (first b) (first f) d.0 cut.0 (omega arith)
          (record { buffers = start_here; state = refl; alike = law.first q; budget = parts.enough.front; spent = omega arith }) (omega arith) d.1 cut.1 lasts in
          opens_of p f at.at at.found
          (goes_too k pays_first table driver kern_mask free places Alike law 0 q long least b parts.some d.0 at.at at.both (inl at.below) d.2)
          (rests_too k pays_first table driver kern_mask free places Alike law 0 q long least b parts.some d.0 at.at at.both (inl at.below) touch d.3)
          (front_apart k pays_first table driver kern_mask free places Alike law touch q long least b parts.some p before at.count (potential at.at.buffer + 1) (potential d.0.buffer + 1) d.0 at.at cut.0
          (omega arith) at.both (omega (arith, at.below)) at.further cut.3 d.4 at.lasts)

      at_cut : cut.0.buffer.cursor ≡ q
      at_cut = cursor_at_cut k pays_first table driver kern_mask free places Alike law same q least b f g parts.stand parts.inside parts.some parts.enough cut.0 cut.1 cut.3 lasts

      left_there : least ≤ operations_left (kerning_whole (kerning_machine_of pays_first table driver) cut.0).buffer.max_ops
      left_there = left_behind k pays_first table driver kern_mask free places Alike law same q least b f g parts.stand parts.inside parts.some parts.enough cut.0 cut.1 cut.3 lasts

      -- what is passed at the cut, and behind it
      passed_there : (is_apart k table q cut.0 ≡ true) × (passed_behind turn (is_apart k table q) (potential cut.0.buffer) (turn cut.0) ≡ true)
      passed_there =
          passes_parts turn (is_apart k table q) (potential cut.0.buffer) cut.0
          (ap (λ (i : ℕ). passes_each turn (is_apart k table q) i cut.0) (sym (add-one (potential cut.0.buffer))) ∙ cut.4)

      back_is_rest : q + length g.line ≡ length b.line
      back_is_rest = whole k pays_first table driver kern_mask free places Alike law same q least b f g parts.stand parts.inside parts.some parts.enough

      -- behind a turn that goes on, a run comes to a place where it does not stand
      next_found : (p n : ℕ) (w d : Config R) → (w.buffer.cursor ≡ p → ⊥) → first_at turn p n w ≡ Some d
          → (m : ℕ) × (v : Config R) × (turn w ≡ Goes v) × (first_at turn p m v ≡ Some d)
      next_found p zero w d other found = absurd (found_never turn p w d found)
      next_found p (suc m) w d other found =
          let later = goes_later k pays_first table driver kern_mask free places Alike law p m w d (sym (found_later turn p m w other) ∙ found) in
          (m, later.0, later.1, later.2)

      module _ (p : ℕ) (behind : q < p) (d : Config R) (n : ℕ) (found : first_at turn p n cut.0 ≡ Some d) where
        -- where the run over the back comes to p, moved back
        abbrev Reached : Type 0
        Reached = Reaches k pays_first table driver kern_mask free places Alike law touch q (length g.line) (length b.line) least cut.0.buffer parts.some back_is_rest p behind (suc (potential (first g).buffer)) (first g) d

        next : (m : ℕ) × (v : Config R) × (turn cut.0 ≡ Goes v) × (first_at turn p m v ≡ Some d)
        next = next_found p n cut.0 d (λ there. omega (arith, there, at_cut, behind)) found

        reached : Begun k pays_first table driver kern_mask free places Alike law same q least b f g parts.stand parts.inside parts.some parts.enough cut.0 cut.1 cut.3 lasts cut.4 → Reached
        reached (inl both) =
            reaches k pays_first table driver kern_mask free places Alike law touch q (length g.line) (length b.line) least cut.0.buffer parts.some back_is_rest p behind n (suc (potential (first g).buffer)) (potential cut.0.buffer + 1) cut.0 (first g) d
            (omega arith) (omega arith) both found cut.4 left_there
        reached (inr (inl back)) =
            let goes = back.1 in
            let lower = rw goes at (falls k pays_first table driver kern_mask free places Alike law cut.0) in
            let run : kerning_whole (kerning_machine_of pays_first table driver) cut.0 ≡ kerning_whole (kerning_machine_of pays_first table driver) back.0 = rw goes at (run_is k pays_first table driver kern_mask free places Alike law cut.0) in
            let same_turn : Goes next.1 ≡ Goes back.0 = sym next.2 ∙ goes in
            reaches k pays_first table driver kern_mask free places Alike law touch q (length g.line) (length b.line) least cut.0.buffer parts.some back_is_rest p behind next.0 (suc (potential (first g).buffer)) (potential cut.0.buffer) back.0 (first g) d
            (omega arith) lower.0 back.2
            (found_by_goes turn p next.0 (turn cut.0) back.0 d goes (found_of_goes turn p next.0 (turn cut.0) next.1 d next.2 next.3))
            (passes_by_goes turn (is_apart k table q) (potential cut.0.buffer) (turn cut.0) back.0 goes passed_there.1)
            (rw run at left_there)
        reached (inr (inr go)) =
            let both = both_on k pays_first table driver kern_mask free places Alike law q (length g.line) (length b.line) least cut.0.buffer parts.some cut.0 (first g) next.1 next.2
            (turns_of k pays_first table driver kern_mask free places Alike law q (length g.line) (length b.line) least cut.0.buffer parts.some cut.0 (first g) left_there go) in
            let rest = reaches k pays_first table driver kern_mask free places Alike law touch q (length g.line) (length b.line) least cut.0.buffer parts.some back_is_rest p behind next.0 (potential (first g).buffer) (potential cut.0.buffer) both.whole both.part d
            both.part_lower both.lower both.both
            (found_by_goes turn p next.0 (turn cut.0) both.whole d both.whole_goes (found_of_goes turn p next.0 (turn cut.0) next.1 d next.2 next.3))
            (passes_by_goes turn (is_apart k table q) (potential cut.0.buffer) (turn cut.0) both.whole both.whole_goes passed_there.1)
            both.lasts in
            record {
              at = rest.at;
              found = found_on turn (p - q) (potential (first g).buffer) (first g) both.part rest.at (λ there. omega (arith, there, behind)) both.part_goes rest.found;
              both = rest.both;
              lasts = rest.lasts;
            }

      back_open : (p : ℕ) → q < p → is_open k table pays_first driver p b ≡ true → is_open k table pays_first driver (p - q) g ≡ true
      back_open p behind opens =
          let d = opened p opens in
          let from = from_cut k pays_first table driver kern_mask free places Alike law p q (potential (first b).buffer + 1) (potential (first b).buffer + 1) (first b) d.0 cut.0 behind (omega arith) d.1 cut.1 in
          let at = reached p behind d.0 from.0 from.1 (begun k pays_first table driver kern_mask free places Alike law same q least b f g parts.stand parts.inside parts.some parts.enough cut.0 cut.1 cut.3 lasts cut.4 cut.2) in
          opens_of (p - q) g at.at (ap (λ (i : ℕ). first_at turn (p - q) i (first g)) (add-one (potential (first g).buffer)) ∙ at.found)
          (goes_too k pays_first table driver kern_mask free places Alike law q (length g.line) (length b.line) least cut.0.buffer parts.some d.0 at.at at.both (inr back_is_rest) d.2)
          (rests_too k pays_first table driver kern_mask free places Alike law q (length g.line) (length b.line) least cut.0.buffer parts.some d.0 at.at at.both (inr back_is_rest) touch d.3)
          (back_apart k pays_first table driver kern_mask free places Alike law touch q (length g.line) (length b.line) least cut.0.buffer parts.some back_is_rest p behind (potential d.0.buffer + 1) (potential at.at.buffer + 1) d.0 at.at (omega arith) at.both d.4 at.lasts)

    pub machine_keeps_opens : KeepsOpens kern_mask (kerned_run k pays_first table driver)
    machine_keeps_opens = record {
      front = λ q least b f g parts p inside before opens. front_open q least b f g parts p before opens;
      back = λ q least b f g parts p behind inside opens. back_open q least b f g parts p behind opens;
    }

kern_keeps_opens : (pays_first is_cross : Bool) (kern_mask : ℕ) (values : List ℤ) (table : TableValue (GenericStateEntry KernEntryData))
    → bit_and kern_mask 7 ≡ 0 → KeepsOpens kern_mask (kern_stack pays_first is_cross kern_mask values table)
kern_keeps_opens pays_first is_cross kern_mask values table free =
    machine_keeps_opens (kern_touching values) pays_first table _ kern_mask free (kern_keeps_place is_cross kern_mask values) StackOver
    (kern_in_parts is_cross kern_mask values) (kern_same is_cross kern_mask values) (kern_touches_in_parts values)

kerx_keeps_opens : (pays_first is_cross : Bool) (kern_mask tuple_count : ℕ) (values : List ℤ) (table : TableValue (GenericStateEntry EntryData))
    → bit_and kern_mask 7 ≡ 0 → KeepsOpens kern_mask (kerx_stack pays_first is_cross kern_mask tuple_count values table)
kerx_keeps_opens pays_first is_cross kern_mask tuple_count values table free =
    machine_keeps_opens (kerx_touching tuple_count values) pays_first table _ kern_mask free (kerx_keeps_place is_cross kern_mask tuple_count values) StackOver
    (kerx_in_parts is_cross kern_mask tuple_count values) same_entries (kerx_touches_in_parts tuple_count values)

anchors_keep_opens : (pays_first : Bool) (kern_mask : ℕ) (points : Option Points) (pairs : List (ℕ × ℕ)) (table : TableValue (GenericStateEntry EntryData))
    → bit_and kern_mask 7 ≡ 0 → KeepsOpens kern_mask (by_anchors pays_first points pairs table)
anchors_keep_opens pays_first kern_mask points pairs table free =
    machine_keeps_opens anchor_touching pays_first table _ kern_mask free (anchors_keep_places points pairs kern_mask) MarkOver
    (anchors_in_parts points pairs kern_mask) same_entries anchors_touch_in_parts

-- over the line turned round the parts change places
pub turned_parts : (r : KernedRun) (kern_mask q least : ℕ) (w f g : Buffer) → ArePartsFor (turned r) kern_mask q least w f g
    → ArePartsFor r kern_mask (length g.line) least (reversed w) (reversed g) (reversed f)
turned_parts r kern_mask q least w f g parts =
    let long = long_whole kern_mask q w f g parts.stand in
    let inside = parts.inside in
    let behind = parts.behind_first in
    let place : length w.line - q ≡ length g.line = omega (arith, long) in
    record {
      stand = stand_turned kern_mask q w f g parts.stand;
      behind_first = omega (arith, long, inside);
      inside = omega (arith, long, behind, length-reverse w.line);
      opens = ap (λ (i : ℕ). r.opens i (reversed w)) (sym place) ∙ parts.opens;
      some = parts.some;
      lasts = parts.lasts;
      enough = record { front = parts.enough.back; back = parts.enough.front };
    }

turned_keeps_opens : (kern_mask : ℕ) (r : KernedRun) → KeepsOpens kern_mask r → KeepsOpens kern_mask (turned r)
turned_keeps_opens kern_mask r keeps = record {
  front = λ q least w f g parts p inside before opens. (
      let long = long_whole kern_mask q w f g parts.stand in
      let rest = parts.stand.front_length in
      let left = keeps.back (length g.line) least (reversed w) (reversed g) (reversed f) (turned_parts r kern_mask q least w f g parts)
      (length w.line - p) (omega (arith, long, before)) (omega (arith, long, inside, before, length-reverse w.line)) opens in
      let place : length f.line - p ≡ length w.line - p - length g.line = omega (arith, long, rest, before) in
      ap (λ (i : ℕ). r.opens i (reversed f)) place ∙ left);
  back = λ q least w f g parts p behind inside opens. (
      let long = long_whole kern_mask q w f g parts.stand in
      let left = keeps.front (length g.line) least (reversed w) (reversed g) (reversed f) (turned_parts r kern_mask q least w f g parts)
      (length w.line - p) (omega (arith, long, inside)) (omega (arith, long, behind, inside)) opens in
      let place : length g.line - (p - q) ≡ length w.line - p = omega (arith, long, behind, inside) in
      ap (λ (i : ℕ). r.opens i (reversed g)) place ∙ left);
}

attaching_keeps_opens : (kern_mask kind : ℕ) (chain : ℤ) → KeepsOpens kern_mask (attaching kind chain)
attaching_keeps_opens kern_mask kind chain = record {
  front = λ q least w f g parts p inside before opens. refl;
  back = λ q least w f g parts p behind inside opens. refl;
}

in_order_keeps_opens : (kern_mask : ℕ) (rs : List KernedRun) → AllByRecursion (KeepsParts kern_mask) rs → AllByRecursion (KeepsOpens kern_mask) rs
    → KeepsOpens kern_mask (kerned_by_all rs)
in_order_keeps_opens kern_mask [] keeps opens = record {
  front = λ q least w f g parts p inside before opens. refl;
  back = λ q least w f g parts p behind inside opens. refl;
}
in_order_keeps_opens kern_mask (r ∷ rs) keeps opens = both (in_order_keeps_parts kern_mask rs keeps.1) (in_order_keeps_opens kern_mask rs keeps.1 opens.1)
  where
    -- parts for all are parts for the first, and what is left of them is so for those behind it
    head : KeepsParts kern_mask (kerned_by_all rs) → (q least : ℕ) (w f g : Buffer) → ArePartsFor (kerned_by_all (r ∷ rs)) kern_mask q least w f g
        → ArePartsFor r kern_mask q least w f g
    head rest q least w f g parts =
        let more = rest.spends (r.left w) in
        let last = parts.lasts in
        record {
          stand = parts.stand;
          behind_first = parts.behind_first;
          inside = parts.inside;
          opens = (and_parts (r.opens q w) ((kerned_by_all rs).opens q (r.left w)) parts.opens).0;
          some = parts.some;
          lasts = omega (arith, more, last);
          enough = parts.enough;
        }

    tail : KeepsParts kern_mask (kerned_by_all rs) → (q least : ℕ) (w f g : Buffer) → ArePartsFor (kerned_by_all (r ∷ rs)) kern_mask q least w f g
        → ArePartsFor (kerned_by_all rs) kern_mask q least (r.left w) (r.left f) (r.left g)
    tail rest q least w f g parts =
        let at = head rest q least w f g parts in
        let one = keeps.0.parts q least w f g at.stand at.behind_first at.inside at.opens at.some at.lasts at.enough in
        let long = keeps.0.long w in
        let inside = parts.inside in
        record {
          stand = one.0;
          behind_first = parts.behind_first;
          inside = omega (arith, inside, long);
          opens = (and_parts (r.opens q w) ((kerned_by_all rs).opens q (r.left w)) parts.opens).1;
          some = parts.some;
          lasts = parts.lasts;
          enough = one.1;
        }

    both : KeepsParts kern_mask (kerned_by_all rs) → KeepsOpens kern_mask (kerned_by_all rs) → KeepsOpens kern_mask (kerned_by_all (r ∷ rs))
    both rest rest_opens = record {
      front = λ q least w f g parts p inside before open_to_all. (
          let each = and_parts (r.opens p w) ((kerned_by_all rs).opens p (r.left w)) open_to_all in
          both_hold (r.opens p f) ((kerned_by_all rs).opens p (r.left f))
          (opens.0.front q least w f g (head rest q least w f g parts) p inside before each.0)
          (rest_opens.front q least (r.left w) (r.left f) (r.left g) (tail rest q least w f g parts) p inside before each.1));
      back = λ q least w f g parts p behind inside open_to_all. (
          let each = and_parts (r.opens p w) ((kerned_by_all rs).opens p (r.left w)) open_to_all in
          let long = keeps.0.long w in
          both_hold (r.opens (p - q) g) ((kerned_by_all rs).opens (p - q) (r.left g))
          (opens.0.back q least w f g (head rest q least w f g parts) p behind inside each.0)
          (rest_opens.back q least (r.left w) (r.left f) (r.left g) (tail rest q least w f g parts) p behind (omega (arith, inside, long)) each.1));
    }

pub runs_keep_opens : RunsKeepOpens
runs_keep_opens = record {
  kern = kern_keeps_opens;
  kerx = kerx_keeps_opens;
  anchors = anchors_keep_opens;
  turned_round = turned_keeps_opens;
  attached = attaching_keeps_opens;
  in_order = in_order_keeps_opens;
}
