-- Two machines whose acts leave the same but for the flags of the glyphs run alike, whatever they mark.
use Rattle.std.proofs.Common.{◌≡◌, ◌∙◌, ℕ, zero, suc, ◌+◌, ◌-◌, ◌&&◌, not, Bool, true, false, cond, nat_lt, Option, Some, None, refl, ap, sym}
use Rattle.std.specs.Prelude.{unwrap_or}
use Rattle.aat_buffer.specs.Buffer.{Buffer, with_cursor}
use Rattle.aat_buffer.specs.facts.Cases.{either}
use Rattle.aat_machine_tables.specs.Table.{TableValue}
use Rattle.aat_machine_tables.specs.declared.state_table.GenericStateEntry.{GenericStateEntry}
use Rattle.aat_run.specs.Budget.{has_operations, operations_left, paid, potential}
use Rattle.aat_run.specs.Context.{Config, Context, Machine, Moved, class_at, cluster_seen, is_at_end, is_inside, machine_of, start}
use Rattle.aat_run.specs.Driven.{comes_to_end, context_from, machine_run}
use Rattle.aat_run.specs.Machine.{Ends, Goes, Turn, acted, behind_act, break_marked_at, by_entry, counted, left_by, marked, off, passed, run, run_to_end, settled_by, stepped, turn}
use Rattle.aat_run.specs.Safe.{is_safe}
use Rattle.aat_run.specs.facts.Runs.{followed, mapped, run_step}
use Rattle.aat_closing.specs.Unflagged.{AreBlind, IsBlindRun, SameButFlags, erased, erased_config, erased_left}
use Rattle.aat_closing.specs.facts.BlindBuffers.{erased_of, erased_unsafe, left_of, same_of}
use Rattle.aat_closing.specs.facts.BlindLines.{bare_at, bare_length, same_choice}

-- What a turn asks of a buffer does not depend on the flags.
module _ (b : Buffer) where
  erased_end : is_at_end b ≡ is_at_end (erased b)
  erased_end = ap (λ (n : ℕ). not (nat_lt b.cursor n)) (sym (bare_length b.line))

  erased_seen : (last : ℕ) → cluster_seen b last ≡ cluster_seen (erased b) last
  erased_seen last = λ k. cond (erased_end k) last (sym (bare_at b.line b.cursor) k).cluster

  erased_class : (class_of : ℕ → Option ℕ) → class_at class_of b ≡ class_at class_of (erased b)
  erased_class class_of = λ k. cond (erased_end k) 0 (unwrap_or (class_of (sym (bare_at b.line b.cursor) k).glyph_id) 1)

  erased_potential : potential b ≡ potential (erased b)
  erased_potential = ap (λ (n : ℕ). n - b.cursor + operations_left b.max_ops) (sym (bare_length b.line))

  -- nor does a step
  erased_step : (advances : Bool) → erased (stepped advances b) ≡ stepped advances (erased b)
  erased_step true = refl
  erased_step false = by_budget (has_operations b)
    where
      by_budget : (t : Bool) → erased (cond t (paid 1 b) (paid 1 (passed b))) ≡ cond t (paid 1 (erased b)) (paid 1 (passed (erased b)))
      by_budget true = refl
      by_budget false = refl

module _ {R : Type 0} where
  -- what is settled behind an act
  erased_settled : (advances : Bool) (c : Config R) → mapped erased_config (settled_by (stepped advances) c) ≡ settled_by (stepped advances) (erased_config c)
  erased_settled advances c =
      by_end (is_at_end c.buffer)
      ∙ ap (λ (t : Bool). cond t (Ends (erased_config c)) (Goes (record (erased_config c) { buffer = stepped advances (erased c.buffer) }))) (erased_end c.buffer)
    where
      by_end : (t : Bool) → mapped erased_config (cond t (Ends c) (Goes (record c { buffer = stepped advances c.buffer })))
          ≡ cond t (Ends (erased_config c)) (Goes (record (erased_config c) { buffer = stepped advances (erased c.buffer) }))
      by_end true = refl
      by_end false = λ k. Goes (record c { buffer = erased_step c.buffer advances k })

  -- turns that leave the same go on alike
  followed_alike : (f g : Config R → Config R) → ((c d : Config R) → erased_config c ≡ erased_config d → erased_config (f c) ≡ erased_config (g d))
      → (s t : Turn (Config R)) → mapped erased_config s ≡ mapped erased_config t → erased_config (followed f s) ≡ erased_config (followed g t)
  followed_alike f g alike (Ends c) (Ends d) same = λ k. left_by (same k)
  followed_alike f g alike (Ends c) (Goes d) same = absurd (cc)
  followed_alike f g alike (Goes c) (Ends d) same = absurd (cc)
  followed_alike f g alike (Goes c) (Goes d) same = alike c d (λ k. left_by (same k))

module _ {R E : Type 0} (on : ℕ → Bool) (class_of : ℕ → Option ℕ) (entry : ℕ → ℕ → Option E) (next : E → ℕ) (advances : E → Bool)
    (actionable other_actionable : E → R → ℕ → ℕ → Bool) (act other : E → R → Buffer → Moved R) (blind : AreBlind act other)
  where
    -- the two machines
    abbrev pub first : Machine R E
    first = record { on = on; class_of = class_of; entry = entry; next = next; advances = advances; actionable = actionable; act = act }

    abbrev pub second : Machine R E
    second = record { on = on; class_of = class_of; entry = entry; next = next; advances = advances; actionable = other_actionable; act = other }

    -- where they stand, but for the flags
    module _ (c d : Config R) (same : erased_config c ≡ erased_config d) where
      buffer_same : erased c.buffer ≡ erased d.buffer
      buffer_same = λ k. (same k).buffer

      class_same : class_at class_of c.buffer ≡ class_at class_of d.buffer
      class_same = erased_class c.buffer class_of ∙ (ap (class_at class_of) buffer_same ∙ sym (erased_class d.buffer class_of))

      entry_same : entry c.state (class_at class_of c.buffer) ≡ entry d.state (class_at class_of d.buffer)
      entry_same = λ k. entry (same k).state (class_same k)

    -- one may mark the line where the other does not
    marked_erased : (m : Machine R E) (e : E) (c : Config R) → erased (marked m e c) ≡ erased c.buffer
    unfolding marked
    marked_erased m e c =
        either erased (is_inside c.buffer && not (is_safe m e (m.entry 0 (class_at m.class_of c.buffer)) (m.entry c.state 0) c)) (break_marked_at c.buffer) c.buffer (erased c.buffer)
        (erased_unsafe c.buffer (Some (c.buffer.cursor - 1)) (Some (c.buffer.cursor + 1))) refl

    acted_alike : (e : E) (c d : Config R) → erased_config c ≡ erased_config d → mapped erased_config (acted first e c) ≡ mapped erased_config (acted second e d)
    unfolding acted
    acted_alike e c d same =
        let b : Buffer = marked first e c in
        let f : Buffer = marked second e d in
        let found : erased b ≡ erased f = marked_erased first e c ∙ (buffer_same c d same ∙ sym (marked_erased second e d)) in
        let left : erased_left (act e c.registers b) ≡ erased_left (other e d.registers f) =
        left_of act other blind e c.registers b f found ∙ (λ k. erased_left (other e (same k).registers f)) in
        erased_settled (advances e) (behind_act (act e c.registers b) (next e) c)
        ∙ ((λ k. settled_by (stepped (advances e)) (behind_act (left k) (next e) (same k)))
        ∙ sym (erased_settled (advances e) (behind_act (other e d.registers f) (next e) d)))

    by_entry_alike : (o : Option E) (c d : Config R) → erased_config c ≡ erased_config d → mapped erased_config (by_entry first o c) ≡ mapped erased_config (by_entry second o d)
    unfolding by_entry
    by_entry_alike None c d same = λ k. Ends (same k)
    by_entry_alike (Some e) c d same = acted_alike e c d same

    off_erased : (m : Machine R E) (c : Config R) → mapped erased_config (off m c) ≡ off m (erased_config c)
    unfolding off
    off_erased m c =
        by_end (is_at_end c.buffer)
        ∙ ap (λ (t : Bool). cond t (Ends (erased_config c)) (Goes (record (erased_config c) { buffer = passed (erased c.buffer); state = 0 }))) (erased_end c.buffer)
      where
        by_end : (t : Bool) → mapped erased_config (cond t (Ends c) (Goes (record c { buffer = passed c.buffer; state = 0 })))
            ≡ cond t (Ends (erased_config c)) (Goes (record (erased_config c) { buffer = passed (erased c.buffer); state = 0 }))
        by_end true = refl
        by_end false = refl

    off_alike : (c d : Config R) → erased_config c ≡ erased_config d → mapped erased_config (off first c) ≡ mapped erased_config (off second d)
    unfolding off
    off_alike c d same = off_erased first c ∙ (ap (off first) same ∙ sym (off_erased second d))

    counted_erased : (c : Config R) → erased_config (counted first c) ≡ counted first (erased_config c)
    counted_erased c = λ k. record (erased_config c) { last = erased_seen c.buffer c.last k; turns = c.turns + 1 }

    -- the turns
    turn_alike : (c d : Config R) → erased_config c ≡ erased_config d → mapped erased_config (turn first c) ≡ mapped erased_config (turn second d)
    unfolding turn
    turn_alike c d same =
        let x : Config R = counted first c in
        let y : Config R = counted second d in
        let both : erased_config x ≡ erased_config y = counted_erased c ∙ (ap (counted first) same ∙ sym (counted_erased d)) in
        same_choice (mapped erased_config) (on x.last) (on y.last) (λ k. on (both k).last)
        (by_entry first (entry x.state (class_at class_of x.buffer)) x) (off first x) (by_entry second (entry y.state (class_at class_of y.buffer)) y) (off second y)
        (ap (λ (o : Option E). mapped erased_config (by_entry first o x)) (entry_same x y both) ∙ by_entry_alike (entry y.state (class_at class_of y.buffer)) x y both)
        (off_alike x y both)

    run_alike : (n : ℕ) (c d : Config R) → erased_config c ≡ erased_config d → erased_config (run (turn first) n c) ≡ erased_config (run (turn second) n d)
    unfolding run
    run_alike zero c d same = same
    run_alike (suc n) c d same =
        ap erased_config (run_step (turn first) n c)
        ∙ (followed_alike (run (turn first) n) (run (turn second) n) (λ x y both. run_alike n x y both) (turn first c) (turn second d) (turn_alike c d same)
        ∙ sym (ap erased_config (run_step (turn second) n d)))

    -- from where they stand alike but for the flags, the runs leave the same but for the flags: registers, state, the
    -- last cluster, turns and buffer
    pub runs_alike : (c d : Config R) → erased_config c ≡ erased_config d → erased_config (run_to_end first c) ≡ erased_config (run_to_end second d)
    unfolding run_to_end
    runs_alike c d same =
        let fuel : potential c.buffer ≡ potential d.buffer = erased_potential c.buffer ∙ (ap potential (buffer_same c d same) ∙ sym (erased_potential d.buffer)) in
        ap (λ (n : ℕ). erased_config (run (turn first) (n + 1) c)) fuel ∙ run_alike (potential d.buffer + 1) c d same

-- The runs of two contexts whose acts leave the same but for the flags.
module _ {T R : Type 0} (on : ℕ → Bool) (table : TableValue (GenericStateEntry T)) (in_place : Bool) (advances : GenericStateEntry T → Bool)
    (actionable other_actionable : GenericStateEntry T → R → ℕ → ℕ → Bool) (act other : GenericStateEntry T → R → Buffer → Moved R) (fresh : R) (blind : AreBlind act other)
  where
    -- the two contexts
    abbrev pub context : Context R (GenericStateEntry T)
    context = context_from in_place advances actionable act fresh

    abbrev pub other_context : Context R (GenericStateEntry T)
    other_context = context_from in_place advances other_actionable other fresh

    start_alike : (a b : Buffer) → erased a ≡ erased b → erased_config (start in_place a fresh) ≡ erased_config (start in_place b fresh)
    start_alike a b same = by_place in_place
      where
        by_place : (t : Bool) → erased_config (start t a fresh) ≡ erased_config (start t b fresh)
        by_place true = λ k. start true (same k) fresh
        by_place false = λ k. start false (same k) fresh

    left_alike : (a b : Buffer) → SameButFlags a b → erased_config (run_to_end (machine_of on table context) (start in_place a fresh)) ≡ erased_config (run_to_end (machine_of on table other_context) (start in_place b fresh))
    left_alike a b same =
        let m = machine_of on table context in
        runs_alike on m.class_of m.entry m.next advances actionable other_actionable act other blind (start in_place a fresh) (start in_place b fresh) (start_alike a b (erased_of a b same))

    -- they leave the same but for the flags, in the same number of turns
    pub machine_runs_alike : IsBlindRun (machine_run on table context) (machine_run on table other_context)
    unfolding machine_run
    machine_runs_alike a b same =
        let left = left_alike a b same in
        (same_of (machine_run on table context a).buffer (machine_run on table other_context b).buffer (λ k. with_cursor (left k).buffer 0), λ k. (left k).turns)

    -- and one comes to the end of the line where the other does
    pub ends_alike : (a b : Buffer) → SameButFlags a b → comes_to_end on table context a ≡ comes_to_end on table other_context b
    unfolding comes_to_end
    ends_alike a b same =
        let left = left_alike a b same in
        let c : Config R = run_to_end (machine_of on table context) (start in_place a fresh) in
        let d : Config R = run_to_end (machine_of on table other_context) (start in_place b fresh) in
        erased_end c.buffer ∙ ((λ k. is_at_end (left k).buffer) ∙ sym (erased_end d.buffer))
