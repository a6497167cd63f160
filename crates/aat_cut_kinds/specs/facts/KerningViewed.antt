-- What a turn of a kerning machine comes to, but for marks, and its step where some of the budget is left.
use Rattle.std.proofs.Common.{◌≡◌, ℕ, ◌+◌, ◌-◌, ◌<◌, ◌&&◌, ◌||◌, not, ℤ, pos, negsuc, ◌-ℤ◌, Bool, true, false, cond, length, nat_lt, bit_and, is_some, Option, Some, None, refl, ap, arith}
use Rattle.std.proofs.lemmas.Int.{ints}
use Rattle.std.specs.Int.{int_max}
use Rattle.std.specs.Prelude.{int_lt}
use Rattle.aat_buffer.specs.Buffer.{Buffer}
use Rattle.aat_buffer.specs.facts.Cases.{chosen, either}
use Rattle.aat_machine_tables.specs.Table.{TableValue, entry_of}
use Rattle.aat_machine_tables.specs.declared.state_table.GenericStateEntry.{GenericStateEntry}
use Rattle.aat_run.specs.Budget.{has_operations, operations_left, paid}
use Rattle.aat_run.specs.Context.{Config, entry_at, is_inside}
use Rattle.aat_run.specs.Machine.{Ends, Turn, break_marked_at, passed}
use Rattle.aat_kerning_machines.specs.KerningMachine.{Driver, KerningMachine, break_marked_behind, depends_on_before, kerning_acted, kerning_by_entry, kerning_machine_of, kerning_marked, kerning_turn, looked_ahead, stepped}
use Rattle.aat_cut_kinds.specs.KerningClosing.{Touching, has_end_entry}
use Rattle.aat_cut_kinds.specs.facts.KerningBeside.{IsMarked, marked_then, marks_are_blind, unmarked}

pub one_less : (b : Buffer) → operations_left (paid 1 b).max_ops ≡ operations_left b.max_ops - 1
one_less b = less b.max_ops
  where
    less : (z : ℤ) → operations_left (int_max (z -ℤ pos 1) (negsuc 2147483647)) ≡ operations_left z - 1
    less z = grind (arith, ints)

some_left : (z : ℤ) → 0 < operations_left z → int_lt (pos 0) z ≡ true
some_left z some = grind (arith, ints, some)

pub some_operations : (b : Buffer) → has_operations b ≡ true → 0 < operations_left b.max_ops
some_operations b has = some b.max_ops has
  where
    some : (z : ℤ) → int_lt (pos 0) z ≡ true → 0 < operations_left z
    some z has = grind (arith, ints, has)

-- where some of the budget is left behind its payment, a step pays, and passes the glyph where the entry advances
pub step_is : (first a : Bool) (b : Buffer) → 0 < operations_left (paid 1 b).max_ops → stepped first a b ≡ cond a (passed (paid 1 b)) (paid 1 b)
step_is true true b left = refl
step_is true false b left =
    let has : has_operations (paid 1 b) ≡ true = some_left (paid 1 b).max_ops left in
    rw has refl
step_is false true b left = refl
step_is false false b left =
    let has : has_operations b ≡ true = some_left b.max_ops (omega (arith, left, one_less b)) in
    rw has refl

pub step_pays : (first a : Bool) (b : Buffer) → (stepped first a b).max_ops ≡ (paid 1 b).max_ops
step_pays true a b = either (λ (x : Buffer). x.max_ops) (a || not (has_operations (paid 1 b))) (passed (paid 1 b)) (paid 1 b) (paid 1 b).max_ops refl refl
step_pays false a b = either (λ (x : Buffer). (paid 1 x).max_ops) (a || not (has_operations b)) (passed b) b (paid 1 b).max_ops refl refl

module _ {R T : Type 0} (k : Touching R T) (pays_first : Bool) (table : TableValue (GenericStateEntry T)) (driver : Driver R (GenericStateEntry T))
    (kern_mask : ℕ) (free : bit_and kern_mask 7 ≡ 0)
  where
    abbrev pub machine : KerningMachine R (GenericStateEntry T)
    machine = kerning_machine_of pays_first table driver

    -- a turn comes to an act of e over a buffer that was only marked
    abbrev pub ComesTo : Turn (Config R) → GenericStateEntry T → Config R → Type 0
    ComesTo t e c = (b : Buffer) × IsMarked kern_mask c.buffer b × (t ≡ kerning_acted machine e (record c { buffer = b }))

    -- it ends the run, over such a buffer
    abbrev pub ComesToEnd : Turn (Config R) → Config R → Type 0
    ComesToEnd t c = (b : Buffer) × IsMarked kern_mask c.buffer b × (t ≡ Ends (record c { buffer = b }))

    is_marked : (e : GenericStateEntry T) (c : Config R) → IsMarked kern_mask c.buffer (kerning_marked machine e c)
    unfolding kerning_marked
    is_marked e c =
        chosen (IsMarked kern_mask c.buffer) (is_inside c.buffer && depends_on_before machine e c) (break_marked_at c.buffer) c.buffer
        (λ _. marks_are_blind kern_mask free c.buffer (Some (c.buffer.cursor - 1)) (Some (c.buffer.cursor + 1))) (λ _. unmarked kern_mask c.buffer)

    ahead : (e : GenericStateEntry T) (o : Option (GenericStateEntry T)) (c : Config R) → is_some o ≡ true → ComesTo (looked_ahead machine e o c) e c
    unfolding looked_ahead
    ahead e None c some = absurd (let h = some in cc)
    ahead e (Some f) c some = by_action (driver.actionable f)
      where
        by_action : (t : Bool) → ComesTo (kerning_acted machine e (cond t (record c { buffer = break_marked_behind c.buffer }) c)) e c
        by_action true = (break_marked_behind c.buffer, marks_are_blind kern_mask free c.buffer (Some c.buffer.cursor) (Some (c.buffer.cursor + 2)), refl)
        by_action false = (c.buffer, unmarked kern_mask c.buffer, refl)

    over : (e : GenericStateEntry T) (o : Option (GenericStateEntry T)) (c : Config R) → is_some o ≡ false → ComesToEnd (looked_ahead machine e o c) c
    unfolding looked_ahead
    over e None c none = (c.buffer, unmarked kern_mask c.buffer, refl)
    over e (Some f) c none = absurd (let h = none in cc)

    module _ (e : GenericStateEntry T) (c : Config R) where
      found : Buffer
      found = kerning_marked machine e c

      at_found : Config R
      at_found = record c { buffer = found }

      behind : (t : Turn (Config R)) → ComesTo t e at_found → ComesTo t e c
      unfolding at_found found
      behind t h = (h.0, marked_then kern_mask c.buffer found h.0 (is_marked e c) h.1, h.2)

      behind_end : (t : Turn (Config R)) → ComesToEnd t at_found → ComesToEnd t c
      unfolding at_found found
      behind_end t h = (h.0, marked_then kern_mask c.buffer found h.0 (is_marked e c) h.1, h.2)

      same_test : nat_lt (found.cursor + 1) (length found.line) ≡ nat_lt (c.buffer.cursor + 1) (length c.buffer.line)
      unfolding found
      same_test =
          let cursor : found.cursor ≡ c.buffer.cursor = ap (λ (x : Buffer). x.cursor) (is_marked e c).rest in
          rw (cursor, (is_marked e c).long) refl

      pub acts_there : has_end_entry k table c.state c.buffer ≡ true → ComesTo (kerning_by_entry machine (Some e) c) e c
      unfolding kerning_by_entry at_found found
      acts_there has = by_more (nat_lt (found.cursor + 1) (length found.line)) (rw same_test has)
        where
          by_more : (t : Bool) → (not t || is_some (entry_of table c.state 0)) ≡ true
              → ComesTo (cond t (looked_ahead machine e (entry_of table c.state 0) at_found) (kerning_acted machine e at_found)) e c
          by_more true some = behind (looked_ahead machine e (entry_of table c.state 0) at_found) (ahead e (entry_of table c.state 0) at_found some)
          by_more false some = (found, is_marked e c, refl)

      pub ends_there : has_end_entry k table c.state c.buffer ≡ false → ComesToEnd (kerning_by_entry machine (Some e) c) c
      unfolding kerning_by_entry at_found found
      ends_there has = by_more (nat_lt (found.cursor + 1) (length found.line)) (rw same_test has)
        where
          by_more : (t : Bool) → (not t || is_some (entry_of table c.state 0)) ≡ false
              → ComesToEnd (cond t (looked_ahead machine e (entry_of table c.state 0) at_found) (kerning_acted machine e at_found)) c
          by_more true none = behind_end (looked_ahead machine e (entry_of table c.state 0) at_found) (over e (entry_of table c.state 0) at_found none)
          by_more false none = absurd (let h = none in cc)

    abbrev pub counted : Config R → Config R
    counted c = record c { turns = c.turns + 1 }

    -- where the entry is there, and that for the end of the text where it is asked for, a turn acts
    pub turn_acts :
        (e : GenericStateEntry T) (c : Config R) → entry_at table c.state c.buffer ≡ Some e → has_end_entry k table c.state c.buffer ≡ true
        → ComesTo (kerning_turn machine c) e (counted c)
    unfolding kerning_turn
    turn_acts e c entry has = rw entry (acts_there e (counted c) has)

    -- else it ends the run
    pub turn_ends : (c : Config R) → entry_at table c.state c.buffer ≡ None → ComesToEnd (kerning_turn machine c) (counted c)
    unfolding kerning_turn kerning_by_entry
    turn_ends c none = rw none (c.buffer, unmarked kern_mask c.buffer, refl)

    pub turn_ends_ahead :
        (e : GenericStateEntry T) (c : Config R) → entry_at table c.state c.buffer ≡ Some e → has_end_entry k table c.state c.buffer ≡ false
        → ComesToEnd (kerning_turn machine c) (counted c)
    unfolding kerning_turn
    turn_ends_ahead e c entry has = rw entry (ends_there e (counted c) has)
