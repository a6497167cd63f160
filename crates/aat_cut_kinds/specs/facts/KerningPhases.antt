-- The run over a line is that over its front up to the cut, and from there on that over its back.
use Rattle.std.proofs.Common.{◌≡◌, ◌∙◌, inr, ℕ, zero, suc, ◌+◌, ◌<◌, ◌≤◌, Bool, true, false, List, [], ◌∷◌, length, map, nat_le, bit_and, Option, Some, None, refl, ap, sym, arith}
use Rattle.std.proofs.lemmas.Bool.{and_parts}
use Rattle.std.proofs.lemmas.Bool.Decides.{nat_tests}
use Rattle.std.specs.List.{list_all}
use Rattle.aat_buffer.specs.Buffer.{Buffer, position_list}
use Rattle.aat_machine_tables.specs.Table.{TableValue, class_of, entry_of}
use Rattle.aat_machine_tables.specs.declared.state_table.GenericStateEntry.{GenericStateEntry}
use Rattle.aat_run.specs.Budget.{operations_left, potential}
use Rattle.aat_run.specs.Context.{Config, class_at, entry_at}
use Rattle.aat_run.specs.Laws.{FitsAlways}
use Rattle.aat_run.specs.Machine.{Ends, Goes, OnGoes, Turn}
use Rattle.aat_run.specs.facts.MachineRuns.{paid_less}
use Rattle.aat_run.specs.facts.Runs.{followed}
use Rattle.aat_run.specs.facts.Turns.{Lower, whole_step}
use Rattle.aat_kerning_machines.specs.KerningLaws.{ChangesPositionsAlone}
use Rattle.aat_kerning_machines.specs.KerningMachine.{Driver, KerningMachine, kerning_machine_of, kerning_turn, kerning_whole}
use Rattle.aat_kerning_machines.specs.facts.KerningRuns.{buffer_kept, turn_falls}
use Rattle.aat_cut_kinds.specs.KerningClosing.{Touching, has_end_entry, is_apart, passes_each}
use Rattle.aat_cut_kinds.specs.KerningCuts.{seen_of}
use Rattle.aat_cut_kinds.specs.facts.KerningBeside.{Beside, IsMarked, beside_marked, marks_are_blind}
use Rattle.aat_cut_kinds.specs.facts.KerningTurns.{ActsInParts, Both, BothEnd, BothTurns, IsWithin, both_act, same_class, same_end_entry}
use Rattle.aat_cut_kinds.specs.facts.KerningViewed.{turn_ends, turn_ends_ahead}

-- all numbers are at least 0
pub all_from_zero : (xs : List ℕ) → list_all (nat_le 0) xs ≡ true
all_from_zero [] = refl
all_from_zero (x ∷ xs) =
    let head : nat_le 0 x ≡ true = grind (arith, nat_tests) in
    rw head (all_from_zero xs)

module _ {R T : Type 0} (k : Touching R T) (pays_first : Bool) (table : TableValue (GenericStateEntry T)) (driver : Driver R (GenericStateEntry T))
    (kern_mask : ℕ) (free : bit_and kern_mask 7 ≡ 0) (places : ChangesPositionsAlone driver.act FitsAlways)
    (Alike : ℕ → ℕ → R → R → Type 0) (law : ActsInParts k driver.act driver.fresh kern_mask Alike)
  where
    abbrev pub m : KerningMachine R (GenericStateEntry T)
    m = kerning_machine_of pays_first table driver

    -- a turn that goes on lowers what is left to do
    pub falls : (c : Config R) → OnGoes (Lower FitsAlways (potential c.buffer)) (kerning_turn m c)
    falls c = turn_falls m FitsAlways places (λ e r b fit below. tt) (λ r p n fit below. tt) c tt

    pub run_is : (c : Config R) → kerning_whole m c ≡ followed (kerning_whole m) (kerning_turn m c)
    unfolding kerning_whole
    run_is c = whole_step (kerning_turn m) FitsAlways (λ d stands. falls d) c tt

    -- no run adds to the budget
    pub spends : (c : Config R) → operations_left (kerning_whole m c).buffer.max_ops ≤ operations_left c.buffer.max_ops
    spends c =
        buffer_kept m FitsAlways places (λ e r b fit below. tt) (λ r p n fit below. tt)
        (λ b. operations_left b.max_ops ≤ operations_left c.buffer.max_ops)
        (λ b i j h. h) (λ e r b fit h. let same : operations_left (driver.act e r b).buffer.max_ops ≡ operations_left b.max_ops = ap operations_left (places e r b fit).budget in omega (arith, h, same))
        (λ b h. h) (λ b h. omega (arith, h, paid_less 1 b.max_ops)) c tt (omega arith)

    -- what no run changes: the direction, what kerning sees, and how many positions there are
    pub record SameLooks (old new : Buffer) : Type 0 where
      pub direction : new.direction ≡ old.direction
      pub glyphs : map (seen_of kern_mask) new.line ≡ map (seen_of kern_mask) old.line
      pub long : length new.line ≡ length old.line
      pub positions : length (position_list new) ≡ length (position_list old)

    pub run_keeps_looks : (c : Config R) → SameLooks c.buffer (kerning_whole m c).buffer
    run_keeps_looks c =
        buffer_kept m FitsAlways places (λ e r b fit below. tt) (λ r p n fit below. tt) (SameLooks c.buffer)
        (λ b i j h. record { direction = h.direction; glyphs = (marks_are_blind kern_mask free b i j).glyphs ∙ h.glyphs; long = (marks_are_blind kern_mask free b i j).long ∙ h.long; positions = h.positions })
        (λ e r b fit h. (let place = places e r b fit in record {
          direction = place.text.settings.direction ∙ h.direction;
          glyphs = ap (map (seen_of kern_mask)) place.line ∙ h.glyphs;
          long = ap length place.line ∙ h.long;
          positions = place.text.positions ∙ h.positions;
        }))
        (λ b h. record { direction = h.direction; glyphs = h.glyphs; long = h.long; positions = h.positions })
        (λ b h. record { direction = h.direction; glyphs = h.glyphs; long = h.long; positions = h.positions })
        c tt (record { direction = refl; glyphs = refl; long = refl; positions = refl })

    -- what the whole run leaves of the budget was there behind each turn
    pub leaves : (c : Config R) (least : ℕ) → least ≤ operations_left (kerning_whole m c).buffer.max_ops
        → OnGoes (λ (d : Config R). least ≤ operations_left d.buffer.max_ops) (kerning_turn m c)
    leaves c least left = by_turn (kerning_turn m c) (run_is c)
      where
        by_turn : (t : Turn (Config R)) → kerning_whole m c ≡ followed (kerning_whole m) t → OnGoes (λ (d : Config R). least ≤ operations_left d.buffer.max_ops) t
        by_turn (Ends d) is = tt
        by_turn (Goes d) is =
            let same : operations_left (kerning_whole m c).buffer.max_ops ≡ operations_left (kerning_whole m d).buffer.max_ops = ap (λ (x : Config R). operations_left x.buffer.max_ops) is in
            omega (arith, same, left, spends d)

    module _ (at n long least : ℕ) (origin : Buffer) (some : 0 < least) where
      abbrev pub BothAt : Config R → Config R → Type 0
      BothAt w c = Both k pays_first table driver kern_mask free places Alike law at n long least origin some w c

      abbrev pub BothGo : Turn (Config R) → Turn (Config R) → Type 0
      BothGo t u = BothTurns k pays_first table driver kern_mask free places Alike law at n long least origin some t u

      pub same_entry : (w c : Config R) → Beside kern_mask at n long origin w.buffer c.buffer → w.state ≡ c.state → IsWithin at n long c.buffer.cursor
          → entry_at table w.state w.buffer ≡ entry_at table c.state c.buffer
      same_entry w c h state within =
          ap (λ (j : ℕ). entry_of table w.state j) (same_class k pays_first table driver kern_mask free places Alike law at n long least origin some w.buffer c.buffer h (class_of table) within)
          ∙ ap (λ (s : ℕ). entry_of table s (class_at (class_of table) c.buffer)) state

      -- behind two turns: where runs that go on end beside one another, these do
      module _ (whole : at + n ≡ long) where
        abbrev pub EndBeside : Config R → Config R → Type 0
        EndBeside w c = BothEnd k pays_first table driver kern_mask free places Alike law at n long least origin some (kerning_whole m w) (kerning_whole m c)

        -- what is left to show of runs of fewer turns
        abbrev pub Shorter : ℕ → Type 0
        Shorter j =
            (w c : Config R) → potential w.buffer < j → BothAt w c → passes_each (kerning_turn m) (is_apart k table at) j w ≡ true
            → least ≤ operations_left (kerning_whole m w).buffer.max_ops → EndBeside w c

        pub behind_turns :
            (j : ℕ) (w c : Config R) → potential w.buffer ≤ j → BothGo (kerning_turn m w) (kerning_turn m c)
            → elim (kerning_turn m w) as (λ _. Bool) [ Ends d ↦ true | Goes d ↦ passes_each (kerning_turn m) (is_apart k table at) j d ] ≡ true
            → least ≤ operations_left (kerning_whole m w).buffer.max_ops
            → Shorter j → EndBeside w c
        behind_turns j w c low both apart left more =
            by_turns (kerning_turn m w) (kerning_turn m c) (run_is w) (run_is c) both apart (falls w)
          where
            by_turns : (t u : Turn (Config R)) → kerning_whole m w ≡ followed (kerning_whole m) t → kerning_whole m c ≡ followed (kerning_whole m) u
                → BothGo t u → elim t as (λ _. Bool) [ Ends d ↦ true | Goes d ↦ passes_each (kerning_turn m) (is_apart k table at) j d ] ≡ true
                → OnGoes (Lower FitsAlways (potential w.buffer)) t → EndBeside w c
            by_turns (Ends v) (Ends u) is is_part both apart lower = rw (is, is_part) both
            by_turns (Ends v) (Goes u) is is_part both apart lower = absurd both
            by_turns (Goes v) (Ends u) is is_part both apart lower = absurd both
            by_turns (Goes v) (Goes u) is is_part both apart lower =
                let same : least ≤ operations_left (kerning_whole m v).buffer.max_ops = rw is at left in
                rw (is, is_part) (more v u (omega (arith, lower.0, low)) both.0 apart same)

        -- both runs end at this turn, over lines that were only marked
        both_end : (w c v u : Config R) → BothEnd k pays_first table driver kern_mask free places Alike law at n long least origin some v u → kerning_turn m w ≡ Ends v → kerning_turn m c ≡ Ends u
            → EndBeside w c
        both_end w c v u h is is_part =
            let run : kerning_whole m w ≡ v = rw is at (run_is w) in
            let run_part : kerning_whole m c ≡ u = rw is_part at (run_is c) in
            rw (run, run_part) h

        marked_end : (w c : Config R) (v u : Buffer) → IsMarked kern_mask w.buffer v → IsMarked kern_mask c.buffer u → BothAt w c
            → BothEnd k pays_first table driver kern_mask free places Alike law at n long least origin some (record w { buffer = v }) (record c { buffer = u })
        marked_end w c v u whole part both =
            let ops : operations_left v.max_ops ≡ operations_left w.buffer.max_ops = ap (λ (x : Buffer). operations_left x.max_ops) whole.rest in
            let ops_part : operations_left u.max_ops ≡ operations_left c.buffer.max_ops = ap (λ (x : Buffer). operations_left x.max_ops) part.rest in
            (beside_marked kern_mask at n long origin w.buffer c.buffer v u whole part both.buffers, omega (arith, ops, ops_part, both.budget))

        -- from the cut on
        pub back_runs : (j : ℕ) → Shorter j
        unfolding passes_each
        back_runs zero w c low both apart left = absurd (omega (arith, low))
        back_runs (suc j) w c low both apart left =
            by_entry (back_runs j) (entry_at table w.state w.buffer) refl
          where
            turns : (is_apart k table at w ≡ true) × (elim (kerning_turn m w) as (λ _. Bool) [ Ends d ↦ true | Goes d ↦ passes_each (kerning_turn m) (is_apart k table at) j d ] ≡ true)
            turns = and_parts (is_apart k table at w) (elim (kerning_turn m w) as (λ _. Bool) [ Ends d ↦ true | Goes d ↦ passes_each (kerning_turn m) (is_apart k table at) j d ]) apart

            same_has : has_end_entry k table w.state w.buffer ≡ has_end_entry k table c.state c.buffer
            same_has =
                same_end_entry k pays_first table driver kern_mask free places Alike law at n long least origin some w.buffer c.buffer both.buffers w.state whole
                ∙ ap (λ (s : ℕ). has_end_entry k table s c.buffer) both.state

            same : entry_at table w.state w.buffer ≡ entry_at table c.state c.buffer
            same = same_entry w c both.buffers both.state (inr whole)

            by_end : Shorter j → (e : GenericStateEntry T) (t : Bool) → entry_at table w.state w.buffer ≡ Some e → has_end_entry k table w.state w.buffer ≡ t → EndBeside w c
            by_end more e true found has =
                let apart_here : list_all (nat_le at) (k.touched e w.registers w.buffer.cursor (length w.buffer.line)) ≡ true = rw (has, found) at turns.0 in
                let both_go = both_act k pays_first table driver kern_mask free places Alike law at n long least origin some w c e both.buffers both.alike both.budget both.spent found (sym same ∙ found) has (sym same_has ∙ has) (inr whole) apart_here (leaves w least left) in
                behind_turns j w c (omega (arith, low)) both_go turns.1 left more
            by_end more e false found has =
                let over = turn_ends_ahead k pays_first table driver kern_mask free e w found has in
                let over_part = turn_ends_ahead k pays_first table driver kern_mask free e c (sym same ∙ found) (sym same_has ∙ has) in
                both_end w c _ _ (marked_end w c over.0 over_part.0 over.1 over_part.1 both) over.2 over_part.2

            by_entry : Shorter j → (o : Option (GenericStateEntry T)) → entry_at table w.state w.buffer ≡ o → EndBeside w c
            by_entry more None found =
                let over = turn_ends k pays_first table driver kern_mask free w found in
                let over_part = turn_ends k pays_first table driver kern_mask free c (sym same ∙ found) in
                both_end w c _ _ (marked_end w c over.0 over_part.0 over.1 over_part.1 both) over.2 over_part.2
            by_entry more (Some e) found = by_end more e (has_end_entry k table w.state w.buffer) found refl
