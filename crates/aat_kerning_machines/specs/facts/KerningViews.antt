-- A driver whose registers hold more than those of the definition runs as the definition does.
use Rattle.std.proofs.Common.{◌≡◌, ◌+◌, Bool, true, false, cond, length, Option, Some, None, refl, ap, ◌∙◌, nat_lt}
use Rattle.aat_buffer.specs.Buffer.{Buffer}
use Rattle.aat_buffer.specs.facts.Cases.{chosen}
use Rattle.aat_run.specs.Budget.{potential}
use Rattle.aat_run.specs.Context.{Config, Moved, is_at_end, class_at}
use Rattle.aat_run.specs.Machine.{Turn, Ends, Goes, behind_act, settled_by}
use Rattle.aat_run.specs.facts.Runs.{OnGoes, mapped, run_maps}
use Rattle.aat_run.specs.facts.Turns.{settled_goes}
use Rattle.aat_kerning_machines.specs.KerningMachine.{KerningMachine, kerning_stepped, break_marked_behind, kerning_marked, kerning_acted, looked_ahead, kerning_by_entry, kerning_turn, kerning_whole}

module _ {R S E : Type 0} (plain : KerningMachine R E) (held_act : E → S → Buffer → Moved S) (view : S → R)
    (Good : S → Type 0)
    (same_act :
    (e : E) (s : S) (b : Buffer) → Good s
    → plain.act e (view s) b ≡ record { registers = view (held_act e s b).registers; buffer = (held_act e s b).buffer })
    (stays_good : (e : E) (s : S) (b : Buffer) → Good s → Good (held_act e s b).registers)
  where
    -- the machine of the driver, and what the definition sees of where it stands
    abbrev pub held : KerningMachine S E
    held = record {
      class_of = plain.class_of;
      entry = plain.entry;
      next = plain.next;
      advances = plain.advances;
      actionable = plain.actionable;
      act = held_act;
      pays_first = plain.pays_first;
    }

    abbrev pub seen : Config S → Config R
    seen c = record { buffer = c.buffer; registers = view c.registers; state = c.state; last = c.last; turns = c.turns }

    GoodAt : Config S → Type 0
    GoodAt c = Good c.registers

    by_test :
        (t : Bool) (x y : Turn (Config R)) (u v : Turn (Config S)) → x ≡ mapped seen u → y ≡ mapped seen v
        → cond t x y ≡ mapped seen (cond t u v)
    by_test true x y u v p q = p
    by_test false x y u v p q = q

    same_settled :
        (e : E) (c : Config S)
        → settled_by (kerning_stepped plain e) (seen c) ≡ mapped seen (settled_by (kerning_stepped held e) c)
    same_settled e c =
        by_test (is_at_end c.buffer) (Ends (seen c)) (Goes (seen (record c { buffer = kerning_stepped held e c.buffer })))
        (Ends c) (Goes (record c { buffer = kerning_stepped held e c.buffer })) refl refl

    same_acted :
        (e : E) (c : Config S) → GoodAt c → kerning_acted plain e (seen c) ≡ mapped seen (kerning_acted held e c)
    unfolding kerning_acted GoodAt
    same_acted e c good =
        let n = held_act e c.registers c.buffer in
        ap (λ (x : Moved R). settled_by (kerning_stepped plain e) (behind_act x (plain.next e) (seen c))) (same_act e c.registers c.buffer good)
        ∙ same_settled e (behind_act n (plain.next e) c)

    marked_behind : Config S → Config S
    marked_behind c = record c { buffer = break_marked_behind c.buffer }

    same_ahead :
        (e : E) (o : Option E) (c : Config S) → GoodAt c
        → looked_ahead plain e o (seen c) ≡ mapped seen (looked_ahead held e o c)
    unfolding looked_ahead marked_behind GoodAt
    same_ahead e None c good = refl
    same_ahead e (Some f) c good = by_action (plain.actionable f)
      where
        by_action :
            (t : Bool)
            → kerning_acted plain e (cond t (seen (marked_behind c)) (seen c))
            ≡ mapped seen (kerning_acted held e (cond t (marked_behind c) c))
        by_action true = same_acted e (marked_behind c) good
        by_action false = same_acted e c good

    same_by_entry :
        (o : Option E) (c : Config S) → GoodAt c
        → kerning_by_entry plain o (seen c) ≡ mapped seen (kerning_by_entry held o c)
    unfolding kerning_by_entry kerning_marked GoodAt
    same_by_entry None c good = refl
    same_by_entry (Some e) c good =
        let d = record c { buffer = kerning_marked held e c } in
        let end = plain.entry d.state 0 in
        by_test (nat_lt (d.buffer.cursor + 1) (length d.buffer.line))
        (looked_ahead plain e end (seen d)) (kerning_acted plain e (seen d)) (looked_ahead held e end d) (kerning_acted held e d)
        (same_ahead e end d good) (same_acted e d good)

    same_turn : (c : Config S) → GoodAt c → kerning_turn plain (seen c) ≡ mapped seen (kerning_turn held c)
    unfolding kerning_turn GoodAt
    same_turn c good =
        same_by_entry (plain.entry c.state (class_at plain.class_of c.buffer)) (record c { turns = c.turns + 1 }) good

    good_acted : (e : E) (c : Config S) → GoodAt c → OnGoes GoodAt (kerning_acted held e c)
    unfolding kerning_acted GoodAt
    good_acted e c good =
        let n = held_act e c.registers c.buffer in
        settled_goes (kerning_stepped held e) GoodAt (behind_act n (plain.next e) c) (λ _. stays_good e c.registers c.buffer good)

    good_ahead : (e : E) (o : Option E) (c : Config S) → GoodAt c → OnGoes GoodAt (looked_ahead held e o c)
    unfolding looked_ahead marked_behind GoodAt
    good_ahead e None c good = tt
    good_ahead e (Some f) c good =
        chosen (λ (d : Config S). OnGoes GoodAt (kerning_acted held e d)) (plain.actionable f) (marked_behind c) c
        (λ _. good_acted e (marked_behind c) good) (λ _. good_acted e c good)

    good_by_entry : (o : Option E) (c : Config S) → GoodAt c → OnGoes GoodAt (kerning_by_entry held o c)
    unfolding kerning_by_entry GoodAt
    good_by_entry None c good = tt
    good_by_entry (Some e) c good =
        let d = record c { buffer = kerning_marked held e c } in
        let end = plain.entry d.state 0 in
        chosen (OnGoes GoodAt) (nat_lt (d.buffer.cursor + 1) (length d.buffer.line)) (looked_ahead held e end d) (kerning_acted held e d)
        (λ _. good_ahead e end d good) (λ _. good_acted e d good)

    good_turn : (c : Config S) → GoodAt c → OnGoes GoodAt (kerning_turn held c)
    unfolding kerning_turn GoodAt
    good_turn c good =
        good_by_entry (plain.entry c.state (class_at plain.class_of c.buffer)) (record c { turns = c.turns + 1 }) good

    -- a turn of the driver, seen by the registers of the definition, is a turn of the definition
    pub turn_is_seen : (c : Config S) → Good c.registers → kerning_turn plain (seen c) ≡ mapped seen (kerning_turn held c)
    unfolding GoodAt
    turn_is_seen c good = same_turn c good

    pub turn_stays_good : (c : Config S) → Good c.registers → OnGoes (λ d. Good d.registers) (kerning_turn held c)
    unfolding GoodAt
    turn_stays_good c good = good_turn c good

    -- the run of the driver, seen by the registers of the definition, is the run of the definition
    pub kerning_is_seen : (c : Config S) → Good c.registers → kerning_whole plain (seen c) ≡ seen (kerning_whole held c)
    unfolding kerning_whole GoodAt
    kerning_is_seen c good =
        run_maps seen (kerning_turn plain) (kerning_turn held) GoodAt same_turn good_turn (potential c.buffer + 1) c good
