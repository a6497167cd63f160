-- A place before the cut that is open to a run over a line is open to the run over the front.
use Rattle.std.proofs.Common.{◌≡◌, ◌∙◌, ◌⊎◌, inl, inr, ℕ, zero, suc, ◌+◌, ◌-◌, ◌<◌, ◌≤◌, not, Bool, true, length, nat_le, bit_and, Option, Some, None, refl, ap, sym, subst, arith}
use Rattle.std.proofs.lemmas.Bool.{cases_eq}
use Rattle.std.proofs.lemmas.Bool.Decides.{nat_tests}
use Rattle.std.specs.List.{list_all}
use Rattle.aat_buffer.specs.Buffer.{Buffer}
use Rattle.aat_machine_tables.specs.Table.{TableValue, entry_of}
use Rattle.aat_machine_tables.specs.declared.state_table.GenericStateEntry.{GenericStateEntry}
use Rattle.aat_run.specs.Budget.{operations_left, potential}
use Rattle.aat_run.specs.Context.{Config, entry_at, is_at_end}
use Rattle.aat_run.specs.Laws.{FitsAlways}
use Rattle.aat_run.specs.Machine.{Ends, Goes, Turn}
use Rattle.aat_kerning_machines.specs.KerningLaws.{ChangesPositionsAlone}
use Rattle.aat_kerning_machines.specs.KerningMachine.{Driver, kerning_acted, kerning_turn, kerning_whole}
use Rattle.aat_cut_kinds.specs.KerningClosing.{Touching, first_at, has_end_entry, is_apart, is_none_or, passes_each, rests_if_over}
use Rattle.aat_cut_kinds.specs.facts.KerningPhases.{all_from_zero, leaves}
use Rattle.aat_cut_kinds.specs.facts.KerningTurns.{ActsInParts, both_act}
use Rattle.aat_cut_kinds.specs.facts.KerningViewed.{turn_acts}
use Rattle.aat_cut_kinds.specs.facts.OpenTouches.{TouchesInParts}
use Rattle.aat_cut_kinds.specs.facts.OpenTurns.{Asks, At, GoBoth, apart_too, asks_or_ends, both_on, entry_same, found_by_goes, found_here, found_later, found_never, found_on, goes_later, has_too, is_here, machine, one_further, passed_by_end, passed_by_goes, passes_by_goes, passes_none, passes_of, passes_parts, second_holds, turns_of}

module _ {R T : Type 0} (k : Touching R T) (pays_first : Bool) (table : TableValue (GenericStateEntry T)) (driver : Driver R (GenericStateEntry T))
    (kern_mask : ℕ) (free : bit_and kern_mask 7 ≡ 0) (places : ChangesPositionsAlone driver.act FitsAlways)
    (Alike : ℕ → ℕ → R → R → Type 0) (law : ActsInParts k driver.act driver.fresh kern_mask Alike)
    (touch : TouchesInParts k Alike)
    (n long least : ℕ) (origin : Buffer) (some : 0 < least)
  where
    abbrev pub AtFront : Config R → Config R → Type 0
    AtFront w c = At k pays_first table driver kern_mask free places Alike law 0 n long least origin some w c

    abbrev turn : Config R → Turn (Config R)
    turn c = kerning_turn (machine k pays_first table driver kern_mask free places Alike law) c

    abbrev pub FrontBoth : Config R → Config R → Type 0
    FrontBoth w c = GoBoth k pays_first table driver kern_mask free places Alike law 0 n long least origin some w c

    abbrev pub Lasts : Config R → Type 0
    Lasts w = least ≤ operations_left (kerning_whole (machine k pays_first table driver kern_mask free places Alike law) w).buffer.max_ops

    asked : (w v : Config R) → kerning_turn (machine k pays_first table driver kern_mask free places Alike law) w ≡ Goes v → Asks k pays_first table driver kern_mask free places Alike law w
    asked w v goes = by_asked (asks_or_ends k pays_first table driver kern_mask free places Alike law w)
      where
        by_asked : Asks k pays_first table driver kern_mask free places Alike law w ⊎ ((x : Config R) × (kerning_turn (machine k pays_first table driver kern_mask free places Alike law) w ≡ Ends x)) → Asks k pays_first table driver kern_mask free places Alike law w
        by_asked (inl asks) = asks
        by_asked (inr ends) = absurd (let h : Ends ends.0 ≡ Goes v = sym ends.1 ∙ goes in cc)

    -- before the end of the front, both turns go on where that over the whole does
    front_turn : (w c v : Config R) → AtFront w c → c.buffer.cursor < n → Lasts w → turn w ≡ Goes v → FrontBoth w c
    front_turn w c v both below lasts goes =
        let asks = asked w v goes in
        let same = entry_same k pays_first table driver kern_mask free places Alike law 0 n long least origin some w c both (inl below) in
        let has_part : has_end_entry k table c.state c.buffer ≡ true =
        ap (λ (s : ℕ). has_end_entry k table s c.buffer) (sym both.state) ∙ has_too k pays_first table driver kern_mask free places Alike law 0 n long least origin some w c both (inl below) w.state asks.2 in
        let go = both_act k pays_first table driver kern_mask free places Alike law 0 n long least origin some w c asks.0 both.buffers both.alike both.budget both.spent asks.1 (sym same ∙ asks.1) asks.2 has_part (inl below)
        (all_from_zero (k.touched asks.0 w.registers w.buffer.cursor (length w.buffer.line))) (leaves k pays_first table driver kern_mask free places Alike law w least lasts) in
        both_on k pays_first table driver kern_mask free places Alike law 0 n long least origin some w c v goes
        (turns_of k pays_first table driver kern_mask free places Alike law 0 n long least origin some w c lasts go)

    module _ (p : ℕ) (before : p < n) where
      -- where the run over the front is when that over the whole first comes to p, at d
      pub record Meets (i : ℕ) (c d e : Config R) : Type 0 where
        pub at : Config R
        pub found : first_at turn p i c ≡ Some at
        pub both : AtFront d at
        pub below : at.buffer.cursor < n
        pub count : ℕ
        pub further : first_at turn n count d ≡ Some e
        pub lasts : Lasts d

      abbrev Sooner : ℕ → Type 0
      Sooner j =
          (h i : ℕ) (w c d e : Config R) → potential c.buffer < i → AtFront w c → w.buffer.cursor ≤ p
          → first_at turn p j w ≡ Some d → first_at turn n h w ≡ Some e → Lasts w → Meets i c d e

      pub finds : (j : ℕ) → Sooner j
      finds zero h i w c d e low both near found found_cut lasts = absurd (found_never turn p w d found)
      finds (suc j) zero i w c d e low both near found found_cut lasts = absurd (found_never turn n w e found_cut)
      finds (suc j) (suc h) zero w c d e low both near found found_cut lasts = absurd (omega (arith, low))
      finds (suc j) (suc h) (suc i) w c d e low both near found found_cut lasts = by_place (finds j) (cases_eq w.buffer.cursor p)
        where
          by_place : Sooner j → (w.buffer.cursor ≡ p) ⊎ (w.buffer.cursor ≡ p → ⊥) → Meets (suc i) c d e
          by_place more (inl there) =
              let is = is_here turn p j w d there found in
              let cursor : c.buffer.cursor ≡ p = omega (arith, there, both.buffers.cursor) in
              record {
                at = c;
                found = found_here turn p i c cursor;
                both = subst (λ (x : Config R). AtFront x c) is both;
                below = omega (arith, cursor, before);
                count = suc h;
                further = ap (first_at turn n (suc h)) (sym is) ∙ found_cut;
                lasts = subst (λ (x : Config R). Lasts x) is lasts;
              }
          by_place more (inr other) =
              let later = goes_later k pays_first table driver kern_mask free places Alike law p j w d (sym (found_later turn p j w other) ∙ found) in
              let go = front_turn w c later.0 both (omega (arith, near, before, both.buffers.cursor)) lasts later.1 in
              let step = one_further k pays_first table driver kern_mask free places Alike law w go.whole go.whole_goes in
              let rest = more h i go.whole go.part d e (omega (arith, go.part_lower, low)) go.both (omega (arith, step, near, other))
              (found_by_goes turn p j (turn w) go.whole d go.whole_goes (sym (found_later turn p j w other) ∙ found))
              (found_by_goes turn n h (turn w) go.whole e go.whole_goes (sym (found_later turn n h w (λ same. omega (arith, same, near, before))) ∙ found_cut))
              go.lasts in
              record {
                at = rest.at;
                found = found_on turn p i c go.part rest.at (λ same. other (omega (arith, same, both.buffers.cursor))) go.part_goes rest.found;
                both = rest.both;
                below = rest.below;
                count = rest.count;
                further = rest.further;
                lasts = rest.lasts;
              }

      -- at the end of the front the run ends
      acts_end :
          (e : GenericStateEntry T) (c : Config R) (b : Buffer) → length b.line ≡ length c.buffer.line → b.cursor ≡ c.buffer.cursor
          → length c.buffer.line ≤ c.buffer.cursor
          → (u : Config R) × (kerning_acted (machine k pays_first table driver kern_mask free places Alike law) e (record c { buffer = b; turns = c.turns + 1 }) ≡ Ends u)
      unfolding kerning_acted
      acts_end e c b long cursor past =
          let place = places e c.registers b tt in
          let line : length (driver.act e c.registers b).buffer.line ≡ length b.line = ap length place.line in
          let stays = place.cursor in
          let past_act : length (driver.act e c.registers b).buffer.line ≤ (driver.act e c.registers b).buffer.cursor = omega (arith, past, cursor, long, line, stays) in
          let over : is_at_end (driver.act e c.registers b).buffer ≡ true = grind (arith, nat_tests, past_act) in
          let v : Config R = record { buffer = (driver.act e c.registers b).buffer; registers = (driver.act e c.registers b).registers; state = e.new_state; last = c.last; turns = c.turns + 1 } in
          (v, rw over (refl {a = Ends v}))

      ends_at_end : (c : Config R) → length c.buffer.line ≤ c.buffer.cursor → (u : Config R) × (turn c ≡ Ends u)
      ends_at_end c past = by_asked (asks_or_ends k pays_first table driver kern_mask free places Alike law c)
        where
          by_asked : Asks k pays_first table driver kern_mask free places Alike law c ⊎ ((x : Config R) × (kerning_turn (machine k pays_first table driver kern_mask free places Alike law) c ≡ Ends x))
              → (u : Config R) × (kerning_turn (machine k pays_first table driver kern_mask free places Alike law) c ≡ Ends u)
          by_asked (inl asks) =
              let acts = turn_acts k pays_first table driver kern_mask free asks.0 c asks.1 asks.2 in
              let end = acts_end asks.0 c acts.0 acts.1.long (ap (λ (x : Buffer). x.cursor) acts.1.rest) past in
              (end.0, acts.2 ∙ end.1)
          by_asked (inr ends) = ends

      -- and touches nothing before p, where it rests
      apart_at_end : (d c : Config R) → AtFront d c → c.buffer.cursor ≡ n → rests_if_over k table d ≡ true → is_apart k table p c ≡ true
      apart_at_end d c both there rests =
          second_holds (not (has_end_entry k table c.state c.buffer)) _
          (ap (λ (o : Option (GenericStateEntry T)). is_none_or o (λ e. list_all (nat_le p) (k.touched e c.registers c.buffer.cursor (length c.buffer.line)))) asked_at_end
          ∙ by_entry (entry_of table d.state 0) refl rests)
        where
          line : length c.buffer.line ≡ n
          line = both.buffers.line_of_part

          over : is_at_end c.buffer ≡ true
          over = (let long = line in grind (arith, nat_tests, there, long))

          asked_at_end : entry_at table c.state c.buffer ≡ entry_of table d.state 0
          asked_at_end = rw over (ap (λ (s : ℕ). entry_of table s 0) (sym both.state))

          by_entry : (o : Option (GenericStateEntry T)) → entry_of table d.state 0 ≡ o → is_none_or o (λ z. k.rests_at_end z d.registers) ≡ true
              → is_none_or o (λ e. list_all (nat_le p) (k.touched e c.registers c.buffer.cursor (length c.buffer.line))) ≡ true
          by_entry None is rests = refl
          by_entry (Some z) is rests =
              let rests_part = touch.rests 0 n z d.registers c.registers both.alike rests in
              ap (λ (i : ℕ). list_all (nat_le p) (k.touched z c.registers i (length c.buffer.line))) there
              ∙ (ap (λ (i : ℕ). list_all (nat_le p) (k.touched z c.registers n i)) line
              ∙ touch.over n p z c.registers rests_part (omega (arith, before)))

      -- from there on the run over the front touches no place before p where that over the whole does not
      abbrev Apart : ℕ → Type 0
      Apart j =
          (i m : ℕ) (w c e : Config R) → potential w.buffer < m → AtFront w c → c.buffer.cursor ≤ n
          → first_at turn n j w ≡ Some e → rests_if_over k table e ≡ true
          → passes_each turn (is_apart k table p) m w ≡ true → Lasts w → passes_each turn (is_apart k table p) i c ≡ true

      pub front_apart : (j : ℕ) → Apart j
      front_apart zero i m w c e low both within found rests apart lasts = absurd (found_never turn n w e found)
      front_apart (suc j) zero m w c e low both within found rests apart lasts = passes_none turn (is_apart k table p) c
      front_apart (suc j) (suc i) zero w c e low both within found rests apart lasts = absurd (omega (arith, low))
      front_apart (suc j) (suc i) (suc m) w c e low both within found rests apart lasts = by_place (front_apart j) (cases_eq w.buffer.cursor n)
        where
          by_place : Apart j → (w.buffer.cursor ≡ n) ⊎ (w.buffer.cursor ≡ n → ⊥) → passes_each turn (is_apart k table p) (suc i) c ≡ true
          by_place more (inl there) =
              let is = is_here turn n j w e there found in
              let at = subst (λ (x : Config R). AtFront x c) is both in
              let cursor : c.buffer.cursor ≡ n = omega (arith, there, both.buffers.cursor) in
              let line = both.buffers.line_of_part in
              let end = ends_at_end c (omega (arith, line, cursor)) in
              passes_of turn (is_apart k table p) i c (apart_at_end e c at cursor rests) (passed_by_end turn (is_apart k table p) i (turn c) end.0 end.1)
          by_place more (inr other) =
              let below : c.buffer.cursor < n = omega (arith, within, other, both.buffers.cursor) in
              let later = goes_later k pays_first table driver kern_mask free places Alike law n j w e (sym (found_later turn n j w other) ∙ found) in
              let go = front_turn w c later.0 both below lasts later.1 in
              let asks = asked w later.0 later.1 in
              let each = passes_parts turn (is_apart k table p) m w apart in
              let here : is_apart k table (p - 0) c ≡ true =
              apart_too k pays_first table driver kern_mask free places Alike law 0 n long least origin some w c both (inl below) touch p (omega arith) (λ has. asks.2) each.0 in
              let same : p - 0 ≡ p = omega arith in
              let rest = more i m go.whole go.part e (omega (arith, go.lower, low)) go.both go.within
              (found_by_goes turn n j (turn w) go.whole e go.whole_goes (sym (found_later turn n j w other) ∙ found)) rests
              (passes_by_goes turn (is_apart k table p) m (turn w) go.whole go.whole_goes each.1) go.lasts in
              passes_of turn (is_apart k table p) i c (ap (λ (x : ℕ). is_apart k table x c) (sym same) ∙ here)
              (passed_by_goes turn (is_apart k table p) i (turn c) go.part go.part_goes rest)
