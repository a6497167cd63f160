-- Up to the cut, a run over a line is that over its front, which then ends there.
use Rattle.std.proofs.Common.{◌≡◌, ◌∙◌, ◌⊎◌, inl, inr, ℕ, zero, suc, ◌+◌, ◌<◌, ◌≤◌, ◌==◌, Bool, true, false, length, nat_lt, bit_and, Option, Some, None, refl, ap, sym, subst, arith}
use Rattle.std.proofs.lemmas.Bool.{cases_eq}
use Rattle.std.proofs.lemmas.Bool.Decides.{nat_tests}
use Rattle.std.specs.Prelude.{unwrap_or}
use Rattle.aat_buffer.specs.Buffer.{Buffer, position_list}
use Rattle.aat_machine_tables.specs.Table.{TableValue, entry_of}
use Rattle.aat_machine_tables.specs.declared.state_table.GenericStateEntry.{GenericStateEntry}
use Rattle.aat_run.specs.Budget.{operations_left}
use Rattle.aat_run.specs.Context.{Config, entry_at, is_at_end}
use Rattle.aat_run.specs.Laws.{FitsAlways}
use Rattle.aat_run.specs.Machine.{Ends, Goes, Turn}
use Rattle.aat_run.specs.facts.Runs.{followed}
use Rattle.aat_kerning_machines.specs.KerningLaws.{ChangesPositionsAlone}
use Rattle.aat_kerning_machines.specs.KerningMachine.{Driver, KerningMachine, kerning_acted, kerning_machine_of, kerning_turn, kerning_whole}
use Rattle.aat_cut_kinds.specs.KerningClosing.{Touching, first_at, has_end_entry, is_none_or, rests_if_over}
use Rattle.aat_cut_kinds.specs.facts.KerningPhases.{BothAt, BothGo, all_from_zero, leaves, run_is, same_entry}
use Rattle.aat_cut_kinds.specs.facts.KerningTurns.{ActsInParts, both_act, has_end_too}
use Rattle.aat_cut_kinds.specs.facts.KerningViewed.{turn_acts, turn_ends, turn_ends_ahead}

module _ {R T : Type 0} (k : Touching R T) (pays_first : Bool) (table : TableValue (GenericStateEntry T)) (driver : Driver R (GenericStateEntry T))
    (kern_mask : ℕ) (free : bit_and kern_mask 7 ≡ 0) (places : ChangesPositionsAlone driver.act FitsAlways)
    (Alike : ℕ → ℕ → R → R → Type 0) (law : ActsInParts k driver.act driver.fresh kern_mask Alike)
  where
    abbrev pub machine : KerningMachine R (GenericStateEntry T)
    machine = kerning_machine_of pays_first table driver

    -- the end of the front: a run that stands there with an entry that rests leaves positions and budget as they are
    abbrev pub Rests : Buffer → Buffer → Type 0
    Rests old new = (position_list new ≡ position_list old) × (new.max_ops ≡ old.max_ops)

    module _ (q : ℕ) (c d : Config R) (past : length c.buffer.line ≤ c.buffer.cursor) (state : d.state ≡ c.state) (alike : Alike 0 q d.registers c.registers)
        (rests : rests_if_over k table d ≡ true)
      where
        at_end : is_at_end c.buffer ≡ true
        at_end = grind (arith, nat_tests, past)

        asked : entry_at table c.state c.buffer ≡ entry_of table d.state 0
        asked = rw at_end (ap (λ (s : ℕ). entry_of table s 0) (sym state))

        has : has_end_entry k table c.state c.buffer ≡ true
        has = let none : nat_lt (c.buffer.cursor + 1) (length c.buffer.line) ≡ false = grind (arith, nat_tests, past) in rw none refl

        ended : (t : Turn (Config R)) (v : Config R) → t ≡ Ends v → Rests c.buffer v.buffer
            → kerning_whole machine c ≡ followed (kerning_whole machine) t
            → Rests c.buffer (kerning_whole machine c).buffer
        ended t v is same run =
            let ends : kerning_whole machine c ≡ v = run ∙ ap (followed (kerning_whole machine)) is in
            (ap (λ (x : Config R). position_list x.buffer) ends ∙ same.0, ap (λ (x : Config R). x.buffer.max_ops) ends ∙ same.1)

        by_entry : (o : Option (GenericStateEntry T)) → entry_of table d.state 0 ≡ o → is_none_or o (λ z. k.rests_at_end z d.registers) ≡ true
            → Rests c.buffer (kerning_whole machine c).buffer
        unfolding kerning_acted
        by_entry None found quiet =
            let over = turn_ends k pays_first table driver kern_mask free c (asked ∙ found) in
            ended _ _ over.2 (ap position_list over.1.rest, ap (λ (x : Buffer). x.max_ops) over.1.rest) (run_is k pays_first table driver kern_mask free places Alike law c)
        by_entry (Some z) found quiet =
            let acts = turn_acts k pays_first table driver kern_mask free z c (asked ∙ found) has in
            let b : Buffer = acts.0 in
            let cursor : b.cursor ≡ c.buffer.cursor = ap (λ (x : Buffer). x.cursor) acts.1.rest in
            let long = acts.1.long in
            let place = places z c.registers b tt in
            let line : length (driver.act z c.registers b).buffer.line ≡ length b.line = ap length place.line in
            let past_act : length (driver.act z c.registers b).buffer.line ≤ (driver.act z c.registers b).buffer.cursor = omega (arith, past, cursor, long, line, place.cursor) in
            let over : is_at_end (driver.act z c.registers b).buffer ≡ true = grind (arith, nat_tests, past_act) in
            let same = law.rests q z d.registers c.registers b alike quiet (omega (arith, past, cursor, long)) in
            let v : Config R = record { buffer = (driver.act z c.registers b).buffer; registers = (driver.act z c.registers b).registers; state = z.new_state; last = c.last; turns = c.turns + 1 } in
            ended _ v
            (acts.2 ∙ rw over (refl {a = Ends v})) (same ∙ ap position_list acts.1.rest, place.budget ∙ ap (λ (x : Buffer). x.max_ops) acts.1.rest) (run_is k pays_first table driver kern_mask free places Alike law c)

        pub front_ends : Rests c.buffer (kerning_whole machine c).buffer
        front_ends = by_entry (entry_of table d.state 0) refl rests

    module _ (n long least : ℕ) (origin : Buffer) (some : 0 < least) where
      -- where a run over the front comes, as that over the whole first comes to the cut at d
      pub record Arrives (w c d : Config R) : Type 0 where
        pub at : Config R
        pub both : BothAt k pays_first table driver kern_mask free places Alike law 0 n long least origin some d at
        pub cursor : at.buffer.cursor ≡ n
        pub front : kerning_whole machine c ≡ kerning_whole machine at
        pub whole : kerning_whole machine w ≡ kerning_whole machine d

      -- the same of what a turn leaves
      abbrev Sooner : ℕ → Type 0
      Sooner j =
          (w c d : Config R) → BothAt k pays_first table driver kern_mask free places Alike law 0 n long least origin some w c → c.buffer.cursor ≤ n
          → first_at (kerning_turn machine) n j w ≡ Some d
          → least ≤ operations_left (kerning_whole machine w).buffer.max_ops → Arrives w c d

      pub comes_to_cut : (j : ℕ) → Sooner j
      unfolding first_at
      comes_to_cut zero w c d both within found left = absurd (let h = found in cc)
      comes_to_cut (suc j) w c d both within found left =
          by_place (comes_to_cut j) (cases_eq w.buffer.cursor n)
        where
          go_on : Sooner j → (t u : Turn (Config R))
              → kerning_whole machine w ≡ followed (kerning_whole machine) t
              → kerning_whole machine c ≡ followed (kerning_whole machine) u
              → BothGo k pays_first table driver kern_mask free places Alike law 0 n long least origin some t u
              → elim t as (λ _. Option (Config R)) [ Ends x ↦ None | Goes x ↦ first_at (kerning_turn machine) n j x ] ≡ Some d
              → Arrives w c d
          go_on more (Ends v) (Ends u) is is_part go found = absurd (let h = found in cc)
          go_on more (Ends v) (Goes u) is is_part go found = absurd go
          go_on more (Goes v) (Ends u) is is_part go found = absurd go
          go_on more (Goes v) (Goes u) is is_part go found =
              let rest = more v u d go.0 go.1 found (rw is at left) in
              record { at = rest.at; both = rest.both; cursor = rest.cursor; front = is_part ∙ rest.front; whole = is ∙ rest.whole }

          ends_before : (v : Config R) → kerning_turn machine w ≡ Ends v
              → elim (kerning_turn machine w) as (λ _. Option (Config R)) [ Ends x ↦ None | Goes x ↦ first_at (kerning_turn machine) n j x ] ≡ Some d
              → Arrives w c d
          ends_before v is found = absurd (let h : None ≡ Some d = rw is at found in cc)

          by_end : Sooner j → (e : GenericStateEntry T) (t : Bool) → c.buffer.cursor < n → entry_at table w.state w.buffer ≡ Some e → has_end_entry k table w.state w.buffer ≡ t
              → elim (kerning_turn machine w) as (λ _. Option (Config R)) [ Ends x ↦ None | Goes x ↦ first_at (kerning_turn machine) n j x ] ≡ Some d
              → Arrives w c d
          by_end more e true below entry known found =
              let same = same_entry k pays_first table driver kern_mask free places Alike law 0 n long least origin some w c both.buffers both.state (inl below) in
              let has_part : has_end_entry k table c.state c.buffer ≡ true =
              ap (λ (s : ℕ). has_end_entry k table s c.buffer) (sym both.state) ∙ has_end_too k pays_first table driver kern_mask free places Alike law 0 n long least origin some w.buffer c.buffer both.buffers w.state known in
              let go = both_act k pays_first table driver kern_mask free places Alike law 0 n long least origin some w c e both.buffers both.alike both.budget both.spent entry (sym same ∙ entry) known has_part (inl below)
              (all_from_zero (k.touched e w.registers w.buffer.cursor (length w.buffer.line))) (leaves k pays_first table driver kern_mask free places Alike law w least left) in
              go_on more (kerning_turn machine w) (kerning_turn machine c)
              (run_is k pays_first table driver kern_mask free places Alike law w) (run_is k pays_first table driver kern_mask free places Alike law c) go found
          by_end more e false below entry known found =
              let over = turn_ends_ahead k pays_first table driver kern_mask free e w entry known in ends_before _ over.2 found

          by_entry_there : Sooner j → (o : Option (GenericStateEntry T)) → c.buffer.cursor < n → entry_at table w.state w.buffer ≡ o
              → elim (kerning_turn machine w) as (λ _. Option (Config R)) [ Ends x ↦ None | Goes x ↦ first_at (kerning_turn machine) n j x ] ≡ Some d
              → Arrives w c d
          by_entry_there more None below entry found = let over = turn_ends k pays_first table driver kern_mask free w entry in ends_before _ over.2 found
          by_entry_there more (Some e) below entry found = by_end more e (has_end_entry k table w.state w.buffer) below entry refl found

          by_place : Sooner j → (w.buffer.cursor ≡ n) ⊎ (w.buffer.cursor ≡ n → ⊥) → Arrives w c d
          by_place more (inl there) =
              let test : (w.buffer.cursor == n) ≡ true = grind (arith, nat_tests, there) in
              let here : Some w ≡ Some d = rw test at found in
              let is : w ≡ d = ap (λ (o : Option (Config R)). unwrap_or o w) here in
              record {
                at = c;
                both = subst (λ (x : Config R). BothAt k pays_first table driver kern_mask free places Alike law 0 n long least origin some x c) is both;
                cursor = omega (arith, there, both.buffers.cursor);
                front = refl;
                whole = ap (kerning_whole machine) is;
              }
          by_place more (inr not_there) =
              let test : (w.buffer.cursor == n) ≡ false = grind (arith, nat_tests, not_there) in
              let below : c.buffer.cursor < n = omega (arith, within, not_there, both.buffers.cursor) in
              by_entry_there more (entry_at table w.state w.buffer) below refl (rw test at found)
