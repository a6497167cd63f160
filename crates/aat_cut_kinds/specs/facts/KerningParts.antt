-- At a place that a run leaves open, it leaves the positions of the runs over the parts.
use Rattle.std.proofs.Common.{◌≡◌, ◌∙◌, ◌⊎◌, inl, inr, ℕ, suc, ℤ, ◌+◌, ◌-◌, ◌<◌, ◌≤◌, ◌&&◌, ◌||◌, ◌==◌, not, Bool, true, false, List, [], ◌++◌, length, map, min, take, drop, nat_le, bit_and, Option, Some, None, option_map, refl, ap, sym, subst, arith, add-one, length-append, length-take, length-drop, slice_index_or, get_or-append-add, ext_get_or}
use Rattle.std.proofs.lemmas.Bool.{and_parts, cases_lt, not-true, or_cases}
use Rattle.std.proofs.lemmas.Bool.Decides.{nat_tests}
use Rattle.std.proofs.Math.ListN.{get_or-map}
use Rattle.std.proofs.Math.Seq.{drop-nil, take-nil}
use Rattle.std.proofs.lemmas.List.{get_or_append_left, length-map, map-append, take-append-drop}
use Rattle.std.specs.List.{list_all}
use Rattle.std.specs.Prelude.{unwrap_or}
use Rattle.aat_buffer.specs.Buffer.{Buffer, glyph_at, no_glyph, position_at, position_list, with_max_ops, zero_position}
use Rattle.aat_glyph.specs.declared.glyph.GlyphPosition.{GlyphPosition}
use Rattle.aat_lookup.specs.Truth.{is_some_and}
use Rattle.aat_machine_tables.specs.Entries.{goes_on, has_flag, is_present}
use Rattle.aat_machine_tables.specs.Table.{TableValue, class_of, entry_of}
use Rattle.aat_machine_tables.specs.declared.state_table.GenericStateEntry.{GenericStateEntry}
use Rattle.aat_run.specs.Budget.{operations_left, paid, potential}
use Rattle.aat_run.specs.Context.{Config, entry_at, is_at_end, start}
use Rattle.aat_run.specs.Laws.{FitsAlways}
use Rattle.aat_run.specs.Machine.{Ends, Goes}
use Rattle.aat_kerning_machines.specs.KerningLaws.{ChangesPositionsAlone}
use Rattle.aat_kerning_machines.specs.KerningMachine.{Driver, KerningMachine, driver_run, kerning_acted, kerning_machine_of, kerning_turn, kerning_whole, stepped}
use Rattle.aat_kerning_machines.specs.Positions.{IsPlaced}
use Rattle.aat_cut_kinds.specs.KerningClosing.{Touching, first_at, goes_as_from_start, has_end_entry, is_apart, is_open, is_same_entry, only_returns, passes_each, rests_if_over}
use Rattle.aat_cut_kinds.specs.KerningCuts.{HaveEnough, KeepsParts, KernedRun, LeavesPlacesInParts, StandIn, kerned_run, placed_back, placed_front, seen_of}
use Rattle.aat_cut_kinds.specs.facts.KerningBeside.{Beside, beside_marked, beside_paid_before, unmarked}
use Rattle.aat_cut_kinds.specs.facts.KerningFronts.{Arrives, Rests, comes_to_cut, front_ends}
use Rattle.aat_cut_kinds.specs.facts.KerningPhases.{BothAt, BothGo, back_runs, behind_turns, falls, leaves, run_is, run_keeps_looks, spends}
use Rattle.aat_cut_kinds.specs.facts.KerningTurns.{ActsInParts, BothEnd, both_act, has_end_too, same_class}
use Rattle.aat_cut_kinds.specs.facts.KerningViewed.{one_less, some_operations, step_is, step_pays, turn_acts}

-- what lists that stand one behind the other tell of each place
module _ {X Y : Type 0} (f : X → Y) (xs ys zs : List X) (same : map f xs ≡ map f ys ++ map f zs) (d : X) where
  pub in_front : (i : ℕ) → i < length ys → f (slice_index_or xs i d) ≡ f (slice_index_or ys i d)
  in_front i below =
      sym (get_or-map f xs i d) ∙ (ap (λ l. slice_index_or l i (f d)) same
      ∙ (get_or_append_left (map f ys) (map f zs) (f d) i (omega (arith, below, length-map ys f)) ∙ get_or-map f ys i d))

  pub in_back : (k i : ℕ) → k ≡ length ys + i → f (slice_index_or xs k d) ≡ f (slice_index_or zs i d)
  in_back k i place =
      let there : k ≡ length (map f ys) + i = omega (arith, place, length-map ys f) in
      sym (get_or-map f xs k d) ∙ (ap (λ l. slice_index_or l k (f d)) same
      ∙ (ap (λ (j : ℕ). slice_index_or (map f ys ++ map f zs) j (f d)) there
      ∙ (get_or-append-add (map f ys) (map f zs) i (f d) ∙ get_or-map f zs i d)))

  pub long_parts : length xs ≡ length ys + length zs
  long_parts =
      let e : length (map f xs) ≡ length (map f ys ++ map f zs) = ap length same in
      omega (arith, e, length-append (map f ys) (map f zs), length-map xs f, length-map ys f, length-map zs f)

-- what is told of a value that is there
pub there : {X : Type 0} (o : Option X) (test : X → Bool) → is_some_and o test ≡ true → (x : X) × (o ≡ Some x) × (test x ≡ true)
there None test h = absurd (cc)
there (Some x) test h = (x, refl, h)

module _ {R T : Type 0} (k : Touching R T) (pays_first : Bool) (table : TableValue (GenericStateEntry T)) (driver : Driver R (GenericStateEntry T))
    (kern_mask : ℕ) (free : bit_and kern_mask 7 ≡ 0) (places : ChangesPositionsAlone driver.act FitsAlways)
    (Alike : ℕ → ℕ → R → R → Type 0) (law : ActsInParts k driver.act driver.fresh kern_mask Alike)
    (same_entries : (e f : GenericStateEntry T) → is_same_entry k e f ≡ true → e ≡ f)
    (q least : ℕ) (b f g : Buffer) (parts : StandIn kern_mask q b f g) (inside : q < length b.line) (some : 0 < least) (enough : HaveEnough least b f g)
  where
    abbrev pub machine : KerningMachine R (GenericStateEntry T)
    machine = kerning_machine_of pays_first table driver

    abbrev pub first_whole : Config R
    first_whole = start true b driver.fresh

    abbrev pub first_front : Config R
    first_front = start true f driver.fresh

    abbrev pub first_back : Config R
    first_back = start true g driver.fresh

    abbrev pub long : ℕ
    long = length b.line

    abbrev pub n : ℕ
    n = length g.line

    pub whole : q + n ≡ long
    whole = (let e = long_parts (seen_of kern_mask) b.line f.line g.line parts.glyphs no_glyph in omega (arith, e, parts.front_length))

    front_long : length (position_list f) ≡ q
    front_long = parts.front_placed ∙ parts.front_length

    placed : length (position_list b) ≡ long
    placed =
        let e : length (position_list b) ≡ length (position_list f ++ position_list g) = ap length parts.positions in
        omega (arith, e, length-append (position_list f) (position_list g), front_long, parts.back_placed, whole)

    position_behind : (k i : ℕ) → k ≡ q + i → position_at b k ≡ position_at g i
    position_behind k i place =
        let there : k ≡ length (position_list f) + i = omega (arith, place, front_long) in
        ap (λ ps. slice_index_or ps k zero_position) parts.positions
        ∙ (ap (λ (j : ℕ). slice_index_or (position_list f ++ position_list g) j zero_position) there ∙ get_or-append-add (position_list f) (position_list g) i zero_position)

    pub begins : Beside kern_mask 0 q long b first_whole.buffer first_front.buffer
    begins = record {
      direction = sym parts.front_direction;
      cursor = refl;
      room = omega (arith, inside);
      line = refl;
      line_of_part = parts.front_length;
      placed = placed;
      placed_part = front_long;
      glyphs = λ i below. (let at : 0 + i ≡ i = omega arith in ap (λ (j : ℕ). seen_of kern_mask (glyph_at b.line j)) at ∙ in_front (seen_of kern_mask) b.line f.line g.line parts.glyphs no_glyph i (omega (arith, below, parts.front_length)));
      positions = λ i below. (let at : 0 + i ≡ i = omega arith in ap (λ (j : ℕ). position_at b j) at ∙ (ap (λ ps. slice_index_or ps i zero_position) parts.positions ∙ get_or_append_left (position_list f) (position_list g) zero_position i (omega (arith, below, front_long))));
      outside = λ j apart. refl;
      kept = λ j. refl;
      turned = refl;
    }

    module _ (d : Config R) (found : first_at (kerning_turn machine) q (potential first_whole.buffer + 1) first_whole ≡ Some d)
        (rests : rests_if_over k table d ≡ true) (lasts : least ≤ operations_left (kerning_whole machine first_whole).buffer.max_ops)
      where
        pub arrives : Arrives k pays_first table driver kern_mask free places Alike law q long least b some first_whole first_front d
        arrives =
            comes_to_cut k pays_first table driver kern_mask free places Alike law q long least b some (potential first_whole.buffer + 1) first_whole first_front d
            (record { buffers = begins; state = refl; alike = law.first q; budget = enough.front; spent = omega arith }) (omega arith) found lasts

        pub cut : Beside kern_mask 0 q long b d.buffer arrives.at.buffer
        cut = arrives.both.buffers

        pub cursor_at_cut : d.buffer.cursor ≡ q
        cursor_at_cut = omega (arith, cut.cursor, arrives.cursor)

        pub left_behind : least ≤ operations_left (kerning_whole machine d).buffer.max_ops
        left_behind = rw arrives.whole at lasts

        front_rests : Rests k pays_first table driver kern_mask free places Alike law arrives.at.buffer (kerning_whole machine arrives.at).buffer
        front_rests = front_ends k pays_first table driver kern_mask free places Alike law q arrives.at d (omega (arith, cut.line_of_part, arrives.cursor)) arrives.both.state arrives.both.alike rests

        front_list_left : position_list (kerning_whole machine first_front).buffer ≡ position_list arrives.at.buffer
        front_list_left = ap (λ (c : Config R). position_list c.buffer) arrives.front ∙ front_rests.0

        front_budget_left : operations_left (kerning_whole machine first_front).buffer.max_ops ≡ operations_left arrives.at.buffer.max_ops
        front_budget_left = ap (λ (c : Config R). operations_left c.buffer.max_ops) arrives.front ∙ ap operations_left front_rests.1

        pub turns_back : Beside kern_mask q n long d.buffer d.buffer first_back.buffer
        turns_back = record {
          direction = cut.turned ∙ sym parts.back_direction;
          cursor = omega (arith, cursor_at_cut);
          room = omega (arith, whole);
          line = cut.line;
          line_of_part = refl;
          placed = cut.placed;
          placed_part = parts.back_placed;
          glyphs = λ i below. cut.kept (q + i) ∙ in_back (seen_of kern_mask) b.line f.line g.line parts.glyphs no_glyph (q + i) i (omega (arith, parts.front_length));
          positions = λ i below. cut.outside (q + i) (inr (omega arith)) ∙ position_behind (q + i) i refl;
          outside = λ j apart. refl;
          kept = λ j. refl;
          turned = refl;
        }

        Back : Type 0
        Back = BothEnd k pays_first table driver kern_mask free places Alike law q n long least d.buffer some (kerning_whole machine d) (kerning_whole machine first_back)

        pub alike_begun : Alike q n d.registers driver.fresh
        alike_begun = law.begun q n d.registers arrives.at.registers arrives.both.alike

        pub budget_at_cut : operations_left d.buffer.max_ops < operations_left g.max_ops + least
        budget_at_cut = (let behind = enough.back in omega (arith, arrives.both.spent, behind))

        within : first_back.buffer.cursor < n
        within = omega (arith, inside, whole)

        module _ (apart : passes_each (kerning_turn machine) (is_apart k table q) (potential d.buffer + 1) d ≡ true) where
          first_turns : (is_apart k table q d ≡ true) × (elim (kerning_turn machine d) as (λ _. Bool) [ Ends x ↦ true | Goes x ↦ passes_each (kerning_turn machine) (is_apart k table q) (potential d.buffer) x ] ≡ true)
          unfolding passes_each
          first_turns =
              let one : potential d.buffer + 1 ≡ suc (potential d.buffer) = add-one (potential d.buffer) in
              and_parts (is_apart k table q d) (elim (kerning_turn machine d) as (λ _. Bool) [ Ends x ↦ true | Goes x ↦ passes_each (kerning_turn machine) (is_apart k table q) (potential d.buffer) x ]) (rw one at apart)

          -- where the run over the whole stands beside the back, as it begins
          abbrev pub Beginning : Config R → Type 0
          Beginning x = BothAt k pays_first table driver kern_mask free places Alike law q n long least d.buffer some x first_back

          -- The back begins beside the whole in state 0, or behind a turn that only goes back there, or both take the same
          -- turn.
          abbrev pub Begun : Type 0
          Begun = Beginning d ⊎ (((x : Config R) × (kerning_turn machine d ≡ Goes x) × Beginning x)
              ⊎ BothGo k pays_first table driver kern_mask free places Alike law q n long least d.buffer some (kerning_turn machine d) (kerning_turn machine first_back))

          -- an entry that only goes back to state 0: the run looks at the glyph again from there
          from_return : (e : GenericStateEntry T) → entry_at table d.state d.buffer ≡ Some e → has_end_entry k table d.state d.buffer ≡ true → only_returns k e ≡ true → Begun
          unfolding kerning_acted
          from_return e entry has returns =
              let parts = and_parts (not (is_present (k.index e.extra))) (not (has_flag e 0x8000) && (not (goes_on e) && e.new_state == 0)) returns in
              let more = and_parts (not (has_flag e 0x8000)) (not (goes_on e) && e.new_state == 0) parts.1 in
              let last = and_parts (not (goes_on e)) (e.new_state == 0) more.1 in
              let stays : goes_on e ≡ false = not-true (goes_on e) last.0 in
              let home_test = last.1 in
              let home : e.new_state ≡ 0 = grind (arith, nat_tests, home_test) in
              let acts = turn_acts k pays_first table driver kern_mask free e d entry has in
              let a : Buffer = acts.0 in
              let cursor : a.cursor ≡ d.buffer.cursor = ap (λ (x : Buffer). x.cursor) acts.1.rest in
              let ops : operations_left a.max_ops ≡ operations_left d.buffer.max_ops = ap (λ (x : Buffer). operations_left x.max_ops) acts.1.rest in
              let long_act = acts.1.long in
              let long_cut = cut.line in
              let left = law.returned q n e d.registers arrives.at.registers a arrives.both.alike returns in
              let below : a.cursor < length a.line = omega (arith, cursor, long_act, cursor_at_cut, long_cut, inside) in
              let not_over : is_at_end a ≡ false = grind (arith, nat_tests, below) in
              let x : Config R = record { buffer = stepped pays_first false a; registers = (driver.act e d.registers a).registers; state = e.new_state; last = d.last; turns = d.turns + 1 } in
              let goes : kerning_turn machine d ≡ Goes x = acts.2 ∙ rw (left.0, not_over, stays) (refl {a = Goes x}) in
              let lasts : least ≤ operations_left (stepped pays_first false a).max_ops = rw goes at (leaves k pays_first table driver kern_mask free places Alike law d least left_behind) in
              let pays : operations_left (stepped pays_first false a).max_ops ≡ operations_left (paid 1 a).max_ops = ap operations_left (step_pays pays_first false a) in
              let less = one_less a in
              let step : stepped pays_first false a ≡ paid 1 a = step_is pays_first false a (omega (arith, lasts, pays, some)) in
              let beside : Beside kern_mask q n long d.buffer (stepped pays_first false a) first_back.buffer =
              subst (λ (y : Buffer). Beside kern_mask q n long d.buffer y first_back.buffer) (sym step)
              (beside_paid_before kern_mask q n long d.buffer a first_back.buffer
              (beside_marked kern_mask q n long d.buffer d.buffer first_back.buffer a first_back.buffer acts.1 (unmarked kern_mask first_back.buffer) turns_back)) in
              inr (inl (x, goes, record { buffers = beside; state = home; alike = left.1; budget = omega (arith, pays, less, ops, budget_at_cut); spent = omega (arith, pays, less, ops) }))

          -- an entry that is that of state 0
          from_same : (e f : GenericStateEntry T) → entry_at table d.state d.buffer ≡ Some e → entry_at table 0 d.buffer ≡ Some f → e ≡ f
              → has_end_entry k table d.state d.buffer ≡ true → has_end_entry k table 0 d.buffer ≡ true → Begun
          from_same e f entry entry_start same has has_start =
              let class = same_class k pays_first table driver kern_mask free places Alike law q n long least d.buffer some d.buffer first_back.buffer turns_back (class_of table) (inl within) in
              let entry_part : entry_at table 0 first_back.buffer ≡ Some e = ap (λ (j : ℕ). entry_of table 0 j) (sym class) ∙ (entry_start ∙ ap (λ (g : GenericStateEntry T). Some g) (sym same)) in
              let has_part = has_end_too k pays_first table driver kern_mask free places Alike law q n long least d.buffer some d.buffer first_back.buffer turns_back 0 has_start in
              let apart_here : list_all (nat_le q) (k.touched e d.registers d.buffer.cursor (length d.buffer.line)) ≡ true = rw (has, entry) at first_turns.0 in
              inr (inr (both_act k pays_first table driver kern_mask free places Alike law q n long least d.buffer some d first_back e turns_back alike_begun budget_at_cut (omega arith) entry entry_part has has_part (inl within) apart_here
              (leaves k pays_first table driver kern_mask free places Alike law d least left_behind)))

          pub begun : goes_as_from_start k table d ≡ true → Begun
          begun goes = by_start (or_cases (d.state == 0) _ goes)
            where
              by_same : (e : GenericStateEntry T) → entry_at table d.state d.buffer ≡ Some e → has_end_entry k table d.state d.buffer ≡ true → has_end_entry k table 0 d.buffer ≡ true
                  → (only_returns k e ≡ true) ⊎ (is_some_and (entry_at table 0 d.buffer) (λ f. is_same_entry k e f) ≡ true) → Begun
              by_same e entry has has_start (inl returns) = from_return e entry has returns
              by_same e entry has has_start (inr alike) =
                  let f = there (entry_at table 0 d.buffer) (λ f. is_same_entry k e f) alike in
                  from_same e f.0 entry f.1 (same_entries e f.0 f.2) has has_start

              by_start : ((d.state == 0) ≡ true) ⊎ ((has_end_entry k table d.state d.buffer && (has_end_entry k table 0 d.buffer
                  && is_some_and (entry_at table d.state d.buffer) (λ e. only_returns k e || is_some_and (entry_at table 0 d.buffer) (λ f. is_same_entry k e f)))) ≡ true) → Begun
              by_start (inl starts) = inl (record { buffers = turns_back; state = grind (arith, nat_tests, starts); alike = alike_begun; budget = budget_at_cut; spent = omega arith })
              by_start (inr goes) =
                  let first = and_parts (has_end_entry k table d.state d.buffer) _ goes in
                  let second = and_parts (has_end_entry k table 0 d.buffer) _ first.1 in
                  let e = there (entry_at table d.state d.buffer) _ second.1 in
                  by_same e.0 e.1 first.0 second.0 (or_cases (only_returns k e.0) _ e.2)

          back_of : Begun → Back
          unfolding Back
          back_of (inl both) = back_runs k pays_first table driver kern_mask free places Alike law q n long least d.buffer some whole (potential d.buffer + 1) d first_back (omega arith) both apart left_behind
          back_of (inr (inl next)) =
              let goes = next.1 in
              let lower = rw goes at (falls k pays_first table driver kern_mask free places Alike law d) in
              let run : kerning_whole machine d ≡ kerning_whole machine next.0 = rw goes at (run_is k pays_first table driver kern_mask free places Alike law d) in
              rw run
              (back_runs k pays_first table driver kern_mask free places Alike law q n long least d.buffer some whole (potential d.buffer) next.0 first_back lower.0 next.2
              (rw goes at first_turns.1) (rw run at left_behind))
          back_of (inr (inr go)) =
              behind_turns k pays_first table driver kern_mask free places Alike law q n long least d.buffer some whole (potential d.buffer) d first_back (omega arith) go first_turns.1 left_behind
              (back_runs k pays_first table driver kern_mask free places Alike law q n long least d.buffer some whole (potential d.buffer))

          back_is : goes_as_from_start k table d ≡ true → Back
          back_is goes = back_of (begun goes)

          position_lists : Beside kern_mask q n long d.buffer (kerning_whole machine d).buffer (kerning_whole machine first_back).buffer
              → position_list (kerning_whole machine first_whole).buffer ≡ position_list (kerning_whole machine first_front).buffer ++ position_list (kerning_whole machine first_back).buffer
          position_lists back =
              let long_whole : length (position_list (kerning_whole machine d).buffer) ≡ long = back.placed in
              let long_left : length (position_list arrives.at.buffer) ≡ q = cut.placed_part in
              let long_right : length (position_list (kerning_whole machine first_back).buffer) ≡ n = back.placed_part in
              ap (λ (c : Config R). position_list c.buffer) arrives.whole
              ∙ (ext_get_or zero_position (position_list (kerning_whole machine d).buffer) (position_list arrives.at.buffer ++ position_list (kerning_whole machine first_back).buffer)
              (omega (arith, long_whole, long_left, long_right, length-append (position_list arrives.at.buffer) (position_list (kerning_whole machine first_back).buffer), whole))
              (λ i below. at_place i (omega (arith, below, long_whole)) (cases_lt i q))
              ∙ ap (λ ps. ps ++ position_list (kerning_whole machine first_back).buffer) (sym front_list_left))
            where
              at_place : (i : ℕ) → i < long → (i < q) ⊎ (q ≤ i)
                  → position_at (kerning_whole machine d).buffer i ≡ slice_index_or (position_list arrives.at.buffer ++ position_list (kerning_whole machine first_back).buffer) i zero_position
              at_place i below (inl before) =
                  let here : 0 + i ≡ i = omega arith in
                  back.outside i (inl before)
                  ∙ (ap (λ (j : ℕ). position_at d.buffer j) (sym here)
                  ∙ (cut.positions i before ∙ sym (get_or_append_left (position_list arrives.at.buffer) (position_list (kerning_whole machine first_back).buffer) zero_position i (omega (arith, before, cut.placed_part)))))
              at_place i below (inr behind) =
                  let here : q + (i - q) ≡ i = omega (arith, behind) in
                  let there : length (position_list arrives.at.buffer) + (i - q) ≡ i = omega (arith, behind, cut.placed_part) in
                  ap (λ (j : ℕ). position_at (kerning_whole machine d).buffer j) (sym here)
                  ∙ (back.positions (i - q) (omega (arith, below, behind, whole))
                  ∙ (sym (get_or-append-add (position_list arrives.at.buffer) (position_list (kerning_whole machine first_back).buffer) (i - q) zero_position)
                  ∙ ap (λ (j : ℕ). slice_index_or (position_list arrives.at.buffer ++ position_list (kerning_whole machine first_back).buffer) j zero_position) there))

          pub parts_are : goes_as_from_start k table d ≡ true
              → StandIn kern_mask q (kerning_whole machine first_whole).buffer (kerning_whole machine first_front).buffer (kerning_whole machine first_back).buffer
              × HaveEnough least (kerning_whole machine first_whole).buffer (kerning_whole machine first_front).buffer (kerning_whole machine first_back).buffer
          unfolding Back
          parts_are goes =
              let back = back_is goes in
              let looks = run_keeps_looks k pays_first table driver kern_mask free places Alike law first_whole in
              let looks_front = run_keeps_looks k pays_first table driver kern_mask free places Alike law first_front in
              let looks_back = run_keeps_looks k pays_first table driver kern_mask free places Alike law first_back in
              let same : operations_left (kerning_whole machine first_whole).buffer.max_ops ≡ operations_left (kerning_whole machine d).buffer.max_ops = ap (λ (c : Config R). operations_left c.buffer.max_ops) arrives.whole in
              let spent = spends k pays_first table driver kern_mask free places Alike law d in
              let more = arrives.both.budget in (
                record {
                  front_direction = looks_front.direction ∙ (parts.front_direction ∙ sym looks.direction);
                  back_direction = looks_back.direction ∙ (parts.back_direction ∙ sym looks.direction);
                  front_length = looks_front.long ∙ parts.front_length;
                  glyphs = looks.glyphs ∙ (parts.glyphs ∙ (ap (λ l. l ++ map (seen_of kern_mask) g.line) (sym looks_front.glyphs) ∙ ap (λ l. map (seen_of kern_mask) (kerning_whole machine first_front).buffer.line ++ l) (sym looks_back.glyphs)));
                  positions = position_lists back.0;
                  front_placed = looks_front.positions ∙ (parts.front_placed ∙ sym looks_front.long);
                  back_placed = looks_back.positions ∙ (parts.back_placed ∙ sym looks_back.long);
                },
                record {
                  front = omega (arith, same, spent, more, front_budget_left);
                  back = (let rest = back.1 in omega (arith, same, rest));
                },
              )

-- the positions of a part
list_of_part : (f : List GlyphPosition → List GlyphPosition) → f [] ≡ [] → (o : Option (List GlyphPosition)) → unwrap_or (option_map f o) [] ≡ f (unwrap_or o [])
list_of_part f none None = sym none
list_of_part f none (Some ps) = refl

-- the parts of a line, with budgets of their own, are parts of it
pub parts_of_line : (kern_mask q : ℕ) (b : Buffer) (x y : ℤ) → IsPlaced b → q < length b.line → StandIn kern_mask q b (with_max_ops (placed_front q b) x) (with_max_ops (placed_back q b) y)
parts_of_line kern_mask q b x y placed inside = record {
  front_direction = refl;
  back_direction = refl;
  front_length = length-take q b.line ∙ omega (arith, inside);
  glyphs = sym (ap (map (seen_of kern_mask)) (take-append-drop q b.line)) ∙ map-append (seen_of kern_mask) (take q b.line) (drop q b.line);
  positions = sym (take-append-drop q (position_list b)) ∙ (ap (λ ps. ps ++ drop q (position_list b)) (sym front_list) ∙ ap (λ ps. position_list (placed_front q b) ++ ps) (sym back_list));
  front_placed = ap length front_list ∙ (length-take q (position_list b) ∙ (ap (min q) placed ∙ sym (length-take q b.line)));
  back_placed = ap length back_list ∙ (length-drop q (position_list b) ∙ (ap (λ (k : ℕ). k - q) placed ∙ sym (length-drop q b.line)));
}
  where
    front_list : position_list (placed_front q b) ≡ take q (position_list b)
    front_list = list_of_part (λ ps. take q ps) (take-nil q) b.positions

    back_list : position_list (placed_back q b) ≡ drop q (position_list b)
    back_list = list_of_part (λ ps. drop q ps) (drop-nil q) b.positions

-- so of a run that tells its open places
module _ {R T : Type 0} (k : Touching R T) (pays_first : Bool) (table : TableValue (GenericStateEntry T)) (driver : Driver R (GenericStateEntry T))
    (kern_mask : ℕ) (free : bit_and kern_mask 7 ≡ 0) (places : ChangesPositionsAlone driver.act FitsAlways)
    (Alike : ℕ → ℕ → R → R → Type 0) (law : ActsInParts k driver.act driver.fresh kern_mask Alike)
    (same_entries : (e f : GenericStateEntry T) → is_same_entry k e f ≡ true → e ≡ f)
  where
    pub machine_keeps_parts : KeepsParts kern_mask (kerned_run k pays_first table driver)
    unfolding driver_run is_open
    machine_keeps_parts = record {
      direction = λ b. (run_keeps_looks k pays_first table driver kern_mask free places Alike law (start true b driver.fresh)).direction;
      long = λ b. (run_keeps_looks k pays_first table driver kern_mask free places Alike law (start true b driver.fresh)).long;
      spends = λ b. spends k pays_first table driver kern_mask free places Alike law (start true b driver.fresh);
      parts = λ q least b f g parts behind inside opens some lasts enough. (
          let machine : KerningMachine R (GenericStateEntry T) = kerning_machine_of pays_first table driver in
          let first : Config R = start true b driver.fresh in
          let cut = there (first_at (kerning_turn machine) q (potential first.buffer + 1) first) _ opens in
          let goes = and_parts (goes_as_from_start k table cut.0) _ cut.2 in
          let rests = and_parts (rests_if_over k table cut.0) _ goes.1 in
          let left = parts_are k pays_first table driver kern_mask free places Alike law same_entries q least b f g parts inside some enough cut.0 cut.1 rests.0 lasts rests.1 goes.0 in (
            record {
              front_direction = left.0.front_direction;
              back_direction = left.0.back_direction;
              front_length = left.0.front_length;
              glyphs = left.0.glyphs;
              positions = left.0.positions;
              front_placed = left.0.front_placed;
              back_placed = left.0.back_placed;
            },
            record { front = left.1.front; back = left.1.back },
          ));
    }

-- a run that keeps parts keeps those of a line
pub keeps_those_of_line : (kern_mask : ℕ) (r : KernedRun) → KeepsParts kern_mask r → LeavesPlacesInParts r
keeps_those_of_line kern_mask r keeps q b front_budget back_budget placed behind inside opens has enough enough_behind =
    (keeps.parts q (operations_left (r.left b).max_ops) b _ _ (parts_of_line kern_mask q b front_budget back_budget placed inside) behind inside opens
    (some_operations (r.left b) has) (omega arith) (record { front = enough; back = enough_behind })).0.positions
