-- The formula of a safe turn, as the nested branches of a body, and by entries alone.
use Rattle.std.proofs.Common.{◌≡◌, ◌&&◌, ◌||◌, ◌==◌, not, Bool, true, false, cond, Option, Some, None, refl}
use Rattle.aat_machine_tables.specs.Judged.{is_safe_by, leads_as}
use Rattle.aat_lookup.specs.Truth.{is_some_and, is_alike}
use Rattle.aat_machine_tables.specs.declared.state_table.GenericStateEntry.{GenericStateEntry}
use Rattle.aat_run.specs.Context.{Machine, Config}
use Rattle.aat_run.specs.inside.Branches.{acts, does_alike, is_idle_at_end, safe_branches}
use Rattle.aat_run.specs.Laws.{ActsByEntries}
use Rattle.aat_run.specs.Safe.{is_safe}

-- and, or as branches
formula : (acts first stays_home alike ahead : Bool) → (not acts && ((first || (stays_home || alike)) && ahead)) ≡ cond (cond first true (cond stays_home true alike)) (cond acts false ahead) false
formula true true stays_home alike ahead = refl
formula true false true alike ahead = refl
formula true false false true ahead = refl
formula true false false false ahead = refl
formula false true stays_home alike ahead = refl
formula false false true alike ahead = refl
formula false false false true ahead = refl
formula false false false false ahead = refl

idle_and_alike : (acts same alike : Bool) → (not acts && (same && alike)) ≡ cond same (cond acts false alike) false
idle_and_alike true true alike = refl
idle_and_alike true false alike = refl
idle_and_alike false true alike = refl
idle_and_alike false false alike = refl

module _ {R E : Type 0} (m : Machine R E) (c : Config R) where
  alike_is : (e : E) (o : Option E) → is_some_and o (λ f. not (acts m c f) && ((m.next f == m.next e) && is_alike (m.advances f) (m.advances e))) ≡ does_alike m c e o
  unfolding does_alike
  alike_is e None = refl
  alike_is e (Some f) = idle_and_alike (acts m c f) (m.next f == m.next e) (is_alike (m.advances f) (m.advances e))

  idle_is : (o : Option E) → is_some_and o (λ f. not (acts m c f)) ≡ is_idle_at_end m c o
  idle_is None = refl
  idle_is (Some f) = refl

  -- the formula is the branches
  pub safe_by_branches : (e : E) (from_start at_end : Option E) → is_safe m e from_start at_end c ≡ safe_branches m c e from_start at_end
  unfolding is_safe
  safe_by_branches e from_start at_end =
      rw (alike_is e from_start, idle_is at_end, formula (acts m c e) (c.state == 0) (not (m.advances e) && (m.next e == 0)) (does_alike m c e from_start) (is_idle_at_end m c at_end)) refl

module _ {R T : Type 0} (m : Machine R (GenericStateEntry T)) (c : Config R) (may_act : GenericStateEntry T → Bool)
    (next : (e : GenericStateEntry T) → m.next e ≡ e.new_state) (by_entries : ActsByEntries may_act m.advances (acts m c)) where
  leads_is : (e : GenericStateEntry T) (o : Option (GenericStateEntry T)) → is_some_and o (λ f. not (acts m c f) && ((m.next f == m.next e) && is_alike (m.advances f) (m.advances e))) ≡ is_some_and o (leads_as may_act e)
  leads_is e None = refl
  leads_is e (Some f) = rw (by_entries.acting f, next f, next e, by_entries.advancing f, by_entries.advancing e) refl

  ends_is : (o : Option (GenericStateEntry T)) → is_some_and o (λ f. not (acts m c f)) ≡ is_some_and o (λ f. not (may_act f))
  ends_is None = refl
  ends_is (Some f) = rw (by_entries.acting f) refl

  -- where entries act by themselves, a turn is safe as its entry was judged
  pub safe_by_entries : (e : GenericStateEntry T) (from_start at_end : Option (GenericStateEntry T)) → is_safe m e from_start at_end c ≡ is_safe_by may_act c.state e from_start at_end
  unfolding is_safe is_safe_by
  safe_by_entries e from_start at_end =
      rw (leads_is e from_start, ends_is at_end, by_entries.acting e, by_entries.advancing e, next e) refl
