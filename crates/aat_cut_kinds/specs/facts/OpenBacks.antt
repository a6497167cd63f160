-- A place behind the cut that is open to a run over a line is open to the run over the back.
use Rattle.std.proofs.Common.{◌≡◌, ◌∙◌, ◌⊎◌, inl, inr, ℕ, zero, suc, ◌+◌, ◌-◌, ◌<◌, ◌≤◌, ◌||◌, not, Bool, true, false, length, nat_le, bit_and, Option, Some, None, refl, ap, sym, subst, arith}
use Rattle.std.proofs.lemmas.Bool.{cases_eq}
use Rattle.std.specs.List.{list_all}
use Rattle.aat_buffer.specs.Buffer.{Buffer}
use Rattle.aat_machine_tables.specs.Table.{TableValue}
use Rattle.aat_machine_tables.specs.declared.state_table.GenericStateEntry.{GenericStateEntry}
use Rattle.aat_run.specs.Budget.{operations_left, potential}
use Rattle.aat_run.specs.Context.{Config, entry_at}
use Rattle.aat_run.specs.Laws.{FitsAlways}
use Rattle.aat_run.specs.Machine.{Ends, Goes, Turn}
use Rattle.aat_kerning_machines.specs.KerningLaws.{ChangesPositionsAlone}
use Rattle.aat_kerning_machines.specs.KerningMachine.{Driver, kerning_turn, kerning_whole}
use Rattle.aat_cut_kinds.specs.KerningClosing.{Touching, first_at, has_end_entry, is_apart, is_none_or, passes_each}
use Rattle.aat_cut_kinds.specs.facts.KerningPhases.{leaves}
use Rattle.aat_cut_kinds.specs.facts.KerningTurns.{ActsInParts, both_act, same_end_entry}
use Rattle.aat_cut_kinds.specs.facts.KerningViewed.{turn_ends, turn_ends_ahead}
use Rattle.aat_cut_kinds.specs.facts.OpenTouches.{TouchesInParts, list_higher}
use Rattle.aat_cut_kinds.specs.facts.OpenTurns.{At, OneTurn, apart_too, both_on, entry_same, found_by_goes, found_here, found_later, found_never, found_on, goes_later, is_here, machine, passed_by_end, passed_by_goes, passes_by_goes, passes_none, passes_of, passes_parts, turns_of}

module _ {R T : Type 0} (k : Touching R T) (pays_first : Bool) (table : TableValue (GenericStateEntry T)) (driver : Driver R (GenericStateEntry T))
    (kern_mask : ℕ) (free : bit_and kern_mask 7 ≡ 0) (places : ChangesPositionsAlone driver.act FitsAlways)
    (Alike : ℕ → ℕ → R → R → Type 0) (law : ActsInParts k driver.act driver.fresh kern_mask Alike)
    (touch : TouchesInParts k Alike)
    (q n long least : ℕ) (origin : Buffer) (some : 0 < least) (whole : q + n ≡ long)
  where
    abbrev pub AtBack : Config R → Config R → Type 0
    AtBack w c = At k pays_first table driver kern_mask free places Alike law q n long least origin some w c

    abbrev turn : Config R → Turn (Config R)
    turn c = kerning_turn (machine k pays_first table driver kern_mask free places Alike law) c

    abbrev pub BackTurn : Config R → Config R → Type 0
    BackTurn w c = OneTurn k pays_first table driver kern_mask free places Alike law q n long least origin some w c

    abbrev pub Lasts : Config R → Type 0
    Lasts w = least ≤ operations_left (kerning_whole (machine k pays_first table driver kern_mask free places Alike law) w).buffer.max_ops

    -- what is not before a place is not before a lower one
    lower_apart : (p : ℕ) (w : Config R) → q ≤ p → is_apart k table p w ≡ true → is_apart k table q w ≡ true
    lower_apart p w low apart = by_has (has_end_entry k table w.state w.buffer) apart
      where
        by_entry : (o : Option (GenericStateEntry T)) → is_none_or o (λ e. list_all (nat_le p) (k.touched e w.registers w.buffer.cursor (length w.buffer.line))) ≡ true
            → is_none_or o (λ e. list_all (nat_le q) (k.touched e w.registers w.buffer.cursor (length w.buffer.line))) ≡ true
        by_entry None apart = refl
        by_entry (Some e) apart = list_higher q p (k.touched e w.registers w.buffer.cursor (length w.buffer.line)) low apart

        by_has : (t : Bool) → (not t || is_none_or (entry_at table w.state w.buffer) (λ e. list_all (nat_le p) (k.touched e w.registers w.buffer.cursor (length w.buffer.line)))) ≡ true
            → (not t || is_none_or (entry_at table w.state w.buffer) (λ e. list_all (nat_le q) (k.touched e w.registers w.buffer.cursor (length w.buffer.line)))) ≡ true
        by_has true apart = by_entry (entry_at table w.state w.buffer) apart
        by_has false apart = refl

    module _ (w c : Config R) (both : AtBack w c) where
      same_has : has_end_entry k table w.state w.buffer ≡ has_end_entry k table c.state c.buffer
      same_has =
          same_end_entry k pays_first table driver kern_mask free places Alike law q n long least origin some w.buffer c.buffer both.buffers w.state whole
          ∙ ap (λ (s : ℕ). has_end_entry k table s c.buffer) both.state

      same : entry_at table w.state w.buffer ≡ entry_at table c.state c.buffer
      same = entry_same k pays_first table driver kern_mask free places Alike law q n long least origin some w c both (inr whole)

      -- from the cut on, both turns end or both go on
      pub back_turn : is_apart k table q w ≡ true → Lasts w → BackTurn w c
      back_turn apart lasts = by_entry (entry_at table w.state w.buffer) refl
        where
          by_end : (e : GenericStateEntry T) (t : Bool) → entry_at table w.state w.buffer ≡ Some e → has_end_entry k table w.state w.buffer ≡ t → BackTurn w c
          by_end e true found has =
              let apart_here : list_all (nat_le q) (k.touched e w.registers w.buffer.cursor (length w.buffer.line)) ≡ true = rw (has, found) at apart in
              turns_of k pays_first table driver kern_mask free places Alike law q n long least origin some w c lasts
              (both_act k pays_first table driver kern_mask free places Alike law q n long least origin some w c e both.buffers both.alike both.budget both.spent found (sym same ∙ found) has (sym same_has ∙ has) (inr whole) apart_here
              (leaves k pays_first table driver kern_mask free places Alike law w least lasts))
          by_end e false found has =
              let over = turn_ends_ahead k pays_first table driver kern_mask free e w found has in
              let over_part = turn_ends_ahead k pays_first table driver kern_mask free e c (sym same ∙ found) (sym same_has ∙ has) in
              inl ((_, over.2), (_, over_part.2))

          by_entry : (o : Option (GenericStateEntry T)) → entry_at table w.state w.buffer ≡ o → BackTurn w c
          by_entry None found =
              let over = turn_ends k pays_first table driver kern_mask free w found in
              let over_part = turn_ends k pays_first table driver kern_mask free c (sym same ∙ found) in
              inl ((_, over.2), (_, over_part.2))
          by_entry (Some e) found = by_end e (has_end_entry k table w.state w.buffer) found refl

    module _ (p : ℕ) (behind : q < p) where
      -- where the run over the back is when that over the whole first comes to p, at d
      pub record Reaches (i : ℕ) (c d : Config R) : Type 0 where
        pub at : Config R
        pub found : first_at turn (p - q) i c ≡ Some at
        pub both : AtBack d at
        pub lasts : Lasts d

      abbrev Sooner : ℕ → Type 0
      Sooner j =
          (i m : ℕ) (w c d : Config R) → potential c.buffer < i → potential w.buffer < m → AtBack w c
          → first_at turn p j w ≡ Some d → passes_each turn (is_apart k table q) m w ≡ true → Lasts w → Reaches i c d

      pub reaches : (j : ℕ) → Sooner j
      reaches zero i m w c d low low_whole both found apart lasts = absurd (found_never turn p w d found)
      reaches (suc j) zero m w c d low low_whole both found apart lasts = absurd (omega (arith, low))
      reaches (suc j) (suc i) zero w c d low low_whole both found apart lasts = absurd (omega (arith, low_whole))
      reaches (suc j) (suc i) (suc m) w c d low low_whole both found apart lasts = by_place (reaches j) (cases_eq w.buffer.cursor p)
        where
          by_place : Sooner j → (w.buffer.cursor ≡ p) ⊎ (w.buffer.cursor ≡ p → ⊥) → Reaches (suc i) c d
          by_place more (inl there) =
              let is = is_here turn p j w d there found in
              let cursor : c.buffer.cursor ≡ p - q = omega (arith, there, both.buffers.cursor) in
              record {
                at = c;
                found = found_here turn (p - q) i c cursor;
                both = subst (λ (x : Config R). AtBack x c) is both;
                lasts = subst (λ (x : Config R). Lasts x) is lasts;
              }
          by_place more (inr other) =
              let later = goes_later k pays_first table driver kern_mask free places Alike law p j w d (sym (found_later turn p j w other) ∙ found) in
              let each = passes_parts turn (is_apart k table q) m w apart in
              let go = both_on k pays_first table driver kern_mask free places Alike law q n long least origin some w c later.0 later.1 (back_turn w c both each.0 lasts) in
              let rest = more i m go.whole go.part d (omega (arith, go.part_lower, low)) (omega (arith, go.lower, low_whole)) go.both
              (found_by_goes turn p j (turn w) go.whole d go.whole_goes (sym (found_later turn p j w other) ∙ found))
              (passes_by_goes turn (is_apart k table q) m (turn w) go.whole go.whole_goes each.1) go.lasts in
              record {
                at = rest.at;
                found = found_on turn (p - q) i c go.part rest.at (λ same. other (omega (arith, same, both.buffers.cursor, behind))) go.part_goes rest.found;
                both = rest.both;
                lasts = rest.lasts;
              }

      -- from there on it touches no place before p - q where that over the whole touches none before p
      abbrev Apart : ℕ → Type 0
      Apart m =
          (i : ℕ) (w c : Config R) → potential w.buffer < m → AtBack w c → passes_each turn (is_apart k table p) m w ≡ true → Lasts w
          → passes_each turn (is_apart k table (p - q)) i c ≡ true

      pub back_apart : (m : ℕ) → Apart m
      back_apart zero i w c low both apart lasts = absurd (omega (arith, low))
      back_apart (suc m) zero w c low both apart lasts = passes_none turn (is_apart k table (p - q)) c
      back_apart (suc m) (suc i) w c low both apart lasts = by_turn (back_apart m) (back_turn w c both (lower_apart p w (omega (arith, behind)) each.0) lasts)
        where
          each : (is_apart k table p w ≡ true) × (elim (kerning_turn (machine k pays_first table driver kern_mask free places Alike law) w) as (λ _. Bool) [ Ends d ↦ true | Goes d ↦ passes_each (kerning_turn (machine k pays_first table driver kern_mask free places Alike law)) (is_apart k table p) m d ] ≡ true)
          each = passes_parts turn (is_apart k table p) m w apart

          here : is_apart k table (p - q) c ≡ true
          here =
              apart_too k pays_first table driver kern_mask free places Alike law q n long least origin some w c both (inr whole) touch p (omega (arith, behind))
              (λ has. same_has w c both ∙ has) each.0

          by_turn : Apart m → BackTurn w c → passes_each turn (is_apart k table (p - q)) (suc i) c ≡ true
          by_turn more (inl ends) = passes_of turn (is_apart k table (p - q)) i c here (passed_by_end turn (is_apart k table (p - q)) i (turn c) ends.1.0 ends.1.1)
          by_turn more (inr go) =
              passes_of turn (is_apart k table (p - q)) i c here
              (passed_by_goes turn (is_apart k table (p - q)) i (turn c) go.part go.part_goes
              (more i go.whole go.part (omega (arith, go.lower, low)) go.both
              (passes_by_goes turn (is_apart k table p) m (turn w) go.whole go.whole_goes each.1) go.lasts))
