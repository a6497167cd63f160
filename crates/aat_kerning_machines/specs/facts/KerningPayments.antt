-- A turn of a kerning machine that stays has been paid for, over the laws of an act alone.
use Rattle.std.proofs.Common.{◌≡◌, ℕ, ◌+◌, ◌-◌, cond, length, pos, Option, Some, None, nat_lt, refl, sym, ap, ◌∙◌, arith, subst}
use Rattle.std.specs.Prelude.{int_lt}
use Rattle.aat_buffer.specs.Buffer.{Buffer}
use Rattle.aat_buffer.specs.facts.Cases.{chosen}
use Rattle.aat_buffer.specs.facts.Lines.{length_unsafe}
use Rattle.aat_run.specs.Budget.{paid, has_operations, operations_left}
use Rattle.aat_run.specs.Context.{Config, class_at}
use Rattle.aat_run.specs.Laws.{Stands}
use Rattle.aat_run.specs.Machine.{behind_act}
use Rattle.aat_run.specs.facts.MachineRuns.{paid_with_operations}
use Rattle.aat_run.specs.facts.Runs.{OnGoes}
use Rattle.aat_run.specs.facts.Turns.{settled_goes}
use Rattle.aat_kerning_machines.specs.KerningLaws.{ChangesPositionsAlone, IsPaidFor, PaysForStaying}
use Rattle.aat_kerning_machines.specs.KerningMachine.{KerningMachine, moved_on, break_marked_behind, kerning_stepped, kerning_marked, kerning_acted, looked_ahead, kerning_by_entry, kerning_turn}
use Rattle.aat_kerning_machines.specs.facts.KerningRuns.{of_marked, of_moved, paid_before}

module _ {R E : Type 0} (m : KerningMachine R E) (Fits : R → ℕ → ℕ → Type 0)
    (places : ChangesPositionsAlone m.act Fits)
  where
    -- where the cursor stays, the turn is paid for
    abbrev StaysPaid : Buffer → Buffer → Type 0
    StaysPaid b d = d.cursor ≡ b.cursor → IsPaidFor m.pays_first b d

    -- what an act leaves has the cursor and the budget from before
    stepped_pays :
        (e : E) (b n : Buffer) → n.cursor ≡ b.cursor → n.max_ops ≡ b.max_ops
        → StaysPaid b (kerning_stepped m e n)
    stepped_pays e b n cursor budget =
        chosen (StaysPaid b) m.pays_first (moved_on (m.advances e) (paid 1 n)) (paid 1 (moved_on (m.advances e) n))
        (λ first. of_moved (StaysPaid b) (m.advances e) (paid 1 n) beyond (λ left at. record {
          had = ap (λ t. has_operations (cond t (paid 1 n) b)) first ∙ left;
          one = paid_before n left ∙ ap operations_left budget;
        }))
        (λ behind. of_moved (λ d. StaysPaid b (paid 1 d)) (m.advances e) n beyond (λ left at. record {
          had = ap (λ t. has_operations (cond t (paid 1 n) b)) behind ∙ (ap (λ z. int_lt (pos 0) z) (sym budget) ∙ left);
          one = paid_with_operations n left ∙ ap operations_left budget;
        }))
      where
        beyond : {A : Type 0} → n.cursor + 1 ≡ b.cursor → A
        beyond at = absurd (omega (arith, at, cursor))

    acted_pays :
        (e : E) (b : Buffer) (c : Config R) → Stands Fits c
        → c.buffer.cursor ≡ b.cursor → c.buffer.max_ops ≡ b.max_ops
        → OnGoes (λ d. StaysPaid b d.buffer) (kerning_acted m e c)
    unfolding kerning_acted
    acted_pays e b c fits cursor budget =
        let n = m.act e c.registers c.buffer in
        let place = places e c.registers c.buffer fits in
        settled_goes (kerning_stepped m e) (λ (d : Config R). StaysPaid b d.buffer) (behind_act n (m.next e) c)
        (λ inside. stepped_pays e b n.buffer (place.cursor ∙ cursor) (place.budget ∙ budget))

    ahead_pays :
        (e : E) (o : Option E) (b : Buffer) (c : Config R) → Stands Fits c
        → c.buffer.cursor ≡ b.cursor → c.buffer.max_ops ≡ b.max_ops
        → OnGoes (λ d. StaysPaid b d.buffer) (looked_ahead m e o c)
    unfolding looked_ahead
    ahead_pays e None b c fits cursor budget = tt
    ahead_pays e (Some f) b c fits cursor budget =
        let marked = record c { buffer = break_marked_behind c.buffer } in
        let same = length_unsafe c.buffer (Some c.buffer.cursor) (Some (c.buffer.cursor + 2)) in
        let fits_marked : Stands Fits marked = rw same fits in
        chosen (λ (d : Config R). OnGoes (λ x. StaysPaid b x.buffer) (kerning_acted m e d)) (m.actionable f) marked c
        (λ _. acted_pays e b marked fits_marked cursor budget) (λ _. acted_pays e b c fits cursor budget)

    by_entry_pays :
        (o : Option E) (c : Config R) → Stands Fits c
        → OnGoes (λ d. StaysPaid c.buffer d.buffer) (kerning_by_entry m o c)
    unfolding kerning_by_entry
    by_entry_pays None c fits = tt
    by_entry_pays (Some e) c fits =
        let b = kerning_marked m e c in
        let d = record c { buffer = b } in
        let long : length b.line ≡ length c.buffer.line =
        of_marked m (λ (x : Buffer). length x.line) e c (length_unsafe c.buffer (Some (c.buffer.cursor - 1)) (Some (c.buffer.cursor + 1))) in
        let cursor : b.cursor ≡ c.buffer.cursor = of_marked m (λ (x : Buffer). x.cursor) e c refl in
        let budget : b.max_ops ≡ c.buffer.max_ops = of_marked m (λ (x : Buffer). x.max_ops) e c refl in
        let fits_marked : Stands Fits d = rw (long, cursor) fits in
        chosen (OnGoes (λ (x : Config R). StaysPaid c.buffer x.buffer)) (nat_lt (b.cursor + 1) (length b.line)) (looked_ahead m e (m.entry c.state 0) d) (kerning_acted m e d)
        (λ _. ahead_pays e (m.entry c.state 0) c.buffer d fits_marked cursor budget) (λ _. acted_pays e c.buffer d fits_marked cursor budget)

    turn_pays :
        (c : Config R) → Stands Fits c
        → OnGoes (λ d. StaysPaid c.buffer d.buffer) (kerning_turn m c)
    unfolding kerning_turn
    turn_pays c fits = by_entry_pays (m.entry c.state (class_at m.class_of c.buffer)) (record c { turns = c.turns + 1 }) fits

    -- each turn that stays is paid for
    pub pays_for_staying : PaysForStaying m Fits
    pays_for_staying c d fits goes at = subst (OnGoes (λ (x : Config R). StaysPaid c.buffer x.buffer)) goes (turn_pays c fits) at
