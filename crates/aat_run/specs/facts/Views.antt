-- A context whose registers hold more than those of the definition runs as the definition does.
use Rattle.std.proofs.Common.{◌≡◌, ℕ, ◌+◌, ◌&&◌, ◌==◌, not, Bool, true, false, cond, length, Option, Some, None, refl, ap, sym, ◌∙◌}
use Rattle.aat_buffer.specs.Buffer.{Buffer}
use Rattle.aat_run.specs.Context.{Machine, Moved, Config, is_at_end, is_inside, class_at}
use Rattle.aat_run.specs.Machine.{Turn, Ends, Goes, behind_act, settled_by, stepped, break_marked_at, marked, acted, by_entry, off, passed, counted, turn, run_to_end}
use Rattle.aat_run.specs.Safe.{is_safe}
use Rattle.aat_run.specs.Budget.{potential}
use Rattle.aat_run.specs.inside.Branches.{safe_branches, acts, does_alike, is_idle_at_end}
use Rattle.aat_buffer.specs.facts.Cases.{chosen}
use Rattle.aat_lookup.specs.Truth.{is_alike}
use Rattle.aat_run.specs.facts.Runs.{OnGoes, mapped, run_maps}
use Rattle.aat_run.specs.facts.SafeBranches.{safe_by_branches}
use Rattle.aat_run.specs.facts.Turns.{settled_goes}

module _ {R S E : Type 0} (on : ℕ → Bool) (class_of : ℕ → Option ℕ) (entry : ℕ → ℕ → Option E) (next : E → ℕ) (advances : E → Bool)
    (actionable : E → R → ℕ → ℕ → Bool) (act : E → R → Buffer → Moved R)
    (held_actionable : E → S → ℕ → ℕ → Bool) (held_act : E → S → Buffer → Moved S)
    (view : S → R) (Good : S → Type 0)
    (same_test : (e : E) (s : S) (p n : ℕ) → Good s → held_actionable e s p n ≡ actionable e (view s) p n)
    (same_act : (e : E) (s : S) (b : Buffer) → Good s → act e (view s) b ≡ record { registers = view (held_act e s b).registers; buffer = (held_act e s b).buffer })
    (stays_good : (e : E) (s : S) (b : Buffer) → Good s → Good (held_act e s b).registers)
  where
    -- the machine of the definition, and that of the context
    abbrev pub plain : Machine R E
    plain = record { on = on; class_of = class_of; entry = entry; next = next; advances = advances; actionable = actionable; act = act }

    abbrev pub held : Machine S E
    held = record { on = on; class_of = class_of; entry = entry; next = next; advances = advances; actionable = held_actionable; act = held_act }

    abbrev pub seen : Config S → Config R
    seen c = record { buffer = c.buffer; registers = view c.registers; state = c.state; last = c.last; turns = c.turns }

    same_acts : (e : E) (c : Config S) → Good c.registers → acts held c e ≡ acts plain (seen c) e
    same_acts e c good = same_test e c.registers c.buffer.cursor (length c.buffer.line) good

    same_alike : (e : E) (o : Option E) (c : Config S) → Good c.registers → does_alike held c e o ≡ does_alike plain (seen c) e o
    unfolding does_alike
    same_alike e None c good = refl
    same_alike e (Some f) c good = ap (λ t. cond (next f == next e) (cond t false (is_alike (advances f) (advances e))) false) (same_acts f c good)

    same_ahead : (o : Option E) (c : Config S) → Good c.registers → is_idle_at_end held c o ≡ is_idle_at_end plain (seen c) o
    same_ahead None c good = refl
    same_ahead (Some f) c good = ap not (same_acts f c good)

    same_safe : (e : E) (f g : Option E) (c : Config S) → Good c.registers → is_safe held e f g c ≡ is_safe plain e f g (seen c)
    same_safe e f g c good =
        let alike = same_alike e f c good in
        let branches : safe_branches held c e f g ≡ safe_branches plain (seen c) e f g =
        ap (λ t. cond (cond (c.state == 0) true (cond (not (advances e) && (next e == 0)) true t)) (cond (acts held c e) false (is_idle_at_end held c g)) false) alike
        ∙ (ap (λ t. cond (cond (c.state == 0) true (cond (not (advances e) && (next e == 0)) true (does_alike plain (seen c) e f))) (cond t false (is_idle_at_end held c g)) false) (same_acts e c good)
        ∙ ap (λ t. cond (cond (c.state == 0) true (cond (not (advances e) && (next e == 0)) true (does_alike plain (seen c) e f))) (cond (acts plain (seen c) e) false t) false) (same_ahead g c good)) in
        safe_by_branches held c e f g ∙ (branches ∙ sym (safe_by_branches plain (seen c) e f g))

    same_marked : (e : E) (c : Config S) → Good c.registers → marked plain e (seen c) ≡ marked held e c
    unfolding marked
    same_marked e c good =
        ap (λ t. cond (is_inside c.buffer && not t) (break_marked_at c.buffer) c.buffer) (sym (same_safe e (entry 0 (class_at class_of c.buffer)) (entry c.state 0) c good))

    same_settled : (e : E) (c : Config S) → settled_by (stepped (advances e)) (seen c) ≡ mapped seen (settled_by (stepped (advances e)) c)
    same_settled e c = by_end (is_at_end c.buffer)
      where
        by_end : (t : Bool) → cond t (Ends (seen c)) (Goes (record (seen c) { buffer = stepped (advances e) c.buffer })) ≡ mapped seen (cond t (Ends c) (Goes (record c { buffer = stepped (advances e) c.buffer })))
        by_end true = refl
        by_end false = refl

    same_acted : (e : E) (c : Config S) → Good c.registers → acted plain e (seen c) ≡ mapped seen (acted held e c)
    unfolding acted
    same_acted e c good =
        let b = marked held e c in
        let n = held_act e c.registers b in
        let moved : act e (view c.registers) (marked plain e (seen c)) ≡ record { registers = view n.registers; buffer = n.buffer } = ap (λ (d : Buffer). act e (view c.registers) d) (same_marked e c good) ∙ same_act e c.registers b good in
        ap (λ (x : Moved R). settled_by (stepped (advances e)) (behind_act x (next e) (seen c))) moved
        ∙ same_settled e (behind_act n (next e) c)

    same_by_entry : (o : Option E) (c : Config S) → Good c.registers → by_entry plain o (seen c) ≡ mapped seen (by_entry held o c)
    unfolding by_entry
    same_by_entry None c good = refl
    same_by_entry (Some e) c good = same_acted e c good

    same_off : (c : Config S) → off plain (seen c) ≡ mapped seen (off held c)
    unfolding off
    same_off c = by_end (is_at_end c.buffer)
      where
        by_end : (t : Bool) → cond t (Ends (seen c)) (Goes (record (seen c) { buffer = passed c.buffer; state = 0 })) ≡ mapped seen (cond t (Ends c) (Goes (record c { buffer = passed c.buffer; state = 0 })))
        by_end true = refl
        by_end false = refl

    by_switch : (t : Bool) (x y : Turn (Config R)) (u v : Turn (Config S)) → x ≡ mapped seen u → y ≡ mapped seen v → cond t x y ≡ mapped seen (cond t u v)
    by_switch true x y u v p q = p
    by_switch false x y u v p q = q

    same_turn : (c : Config S) → Good c.registers → turn plain (seen c) ≡ mapped seen (turn held c)
    unfolding turn
    same_turn c good =
        let d = counted held c in
        let o = entry d.state (class_at class_of d.buffer) in
        by_switch (on d.last) (by_entry plain o (seen d)) (off plain (seen d)) (by_entry held o d) (off held d) (same_by_entry o d good) (same_off d)

    good_acted : (e : E) (c : Config S) → Good c.registers → OnGoes (λ (d : Config S). Good d.registers) (acted held e c)
    unfolding acted
    good_acted e c good =
        let n = held_act e c.registers (marked held e c) in
        settled_goes (stepped (advances e)) (λ (d : Config S). Good d.registers) (behind_act n (next e) c) (λ _. stays_good e c.registers (marked held e c) good)

    good_by_entry : (o : Option E) (c : Config S) → Good c.registers → OnGoes (λ (d : Config S). Good d.registers) (by_entry held o c)
    unfolding by_entry
    good_by_entry None c good = tt
    good_by_entry (Some e) c good = good_acted e c good

    good_turn : (c : Config S) → Good c.registers → OnGoes (λ (d : Config S). Good d.registers) (turn held c)
    unfolding turn off
    good_turn c good =
        let d = counted held c in
        chosen (OnGoes (λ (x : Config S). Good x.registers)) (on d.last) (by_entry held (entry d.state (class_at class_of d.buffer)) d) (off held d)
        (λ _. good_by_entry (entry d.state (class_at class_of d.buffer)) d good)
        (λ _. chosen (OnGoes (λ (x : Config S). Good x.registers)) (is_at_end d.buffer) (Ends d) (Goes _) (λ _. tt) (λ _. good))

    -- the run of the context, seen by the registers of the definition, is the run of the definition
    pub whole_is_seen : (c : Config S) → Good c.registers → run_to_end plain (seen c) ≡ seen (run_to_end held c)
    unfolding run_to_end
    whole_is_seen c good = run_maps seen (turn plain) (turn held) (λ (d : Config S). Good d.registers) same_turn good_turn (potential c.buffer + 1) c good
