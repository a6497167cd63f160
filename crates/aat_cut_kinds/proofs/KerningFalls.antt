-- A turn of a kerning machine that goes on lowers what is left to do, and moves the cursor by at most one place. Which
-- places its run leaves open is told by its turns.
use Rattle.std.proofs.Common.{◌≡◌, ◌∙◌, ℕ, ◌+◌, ◌<◌, ◌≤◌, ◌&&◌, ℤ, Bool, true, false, length, Option, Some, None, refl, ap, sym, arith}
use Rattle.aat_buffer.specs.Buffer.{Buffer}
use Rattle.aat_buffer.specs.facts.Cases.{chosen}
use Rattle.aat_lookup.specs.Truth.{is_some_and}
use Rattle.aat_machine_tables.specs.Entries.{goes_on}
use Rattle.aat_machine_tables.specs.Table.{TableValue}
use Rattle.aat_machine_tables.specs.declared.state_table.GenericStateEntry.{GenericStateEntry}
use Rattle.aat_run.specs.Budget.{paid, potential}
use Rattle.aat_run.specs.Context.{Config, entry_at, start}
use Rattle.aat_run.specs.Laws.{FitsAlways}
use Rattle.aat_run.specs.Machine.{Ends, Goes, OnGoes, Turn, behind_act}
use Rattle.aat_run.specs.facts.MachineRuns.{below_end, paid_less, paid_with_operations}
use Rattle.aat_run.specs.facts.Turns.{settled_goes}
use Rattle.aat_kerning_machines.specs.KerningLaws.{ChangesPositionsAlone}
use Rattle.aat_kerning_machines.specs.KerningMachine.{Driver, KerningMachine, kerning_acted, kerning_machine_of, kerning_turn, moved_on, stepped}
use Rattle.aat_kerning_machines.specs.facts.KerningRuns.{of_moved, paid_before}
use Rattle.aat_cut_kinds.specs.KerningClosing.{Touching, first_at, goes_as_from_start, has_end_entry, is_apart, is_open, passes_each, rests_if_over}
use Rattle.aat_cut_kinds.specs.facts.KerningBeside.{IsMarked}
use Rattle.aat_cut_kinds.specs.facts.KerningViewed.{turn_acts, turn_ends, turn_ends_ahead}
use Rattle.aat_cut_kinds.specs.inside.OpenRuns.{is_harmless, stays_apart, will_open}
use Rattle.aat_cut_kinds.proofs.Opening.{Behind}

-- behind a step from a glyph
record Step (b d : Buffer) : Type 0 where
  long : length d.line ≡ length b.line
  lower : potential d < potential b
  no_less : b.cursor ≤ d.cursor
  no_more : d.cursor ≤ b.cursor + 1
  within : d.cursor ≤ length b.line

steps : (pays_first t : Bool) (b : Buffer) → b.cursor < length b.line → Step b (stepped pays_first t b)
steps pays_first t b below =
    chosen (Step b) pays_first (moved_on t (paid 1 b)) (paid 1 (moved_on t b))
    (λ _. of_moved (Step b) t (paid 1 b)
    (record { long = refl; lower = omega (arith, below, paid_less 1 b.max_ops); no_less = omega arith; no_more = omega arith; within = omega (arith, below) })
    (λ left. record { long = refl; lower = omega (arith, paid_before b left); no_less = omega arith; no_more = omega arith; within = omega (arith, below) }))
    (λ _. of_moved (λ d. Step b (paid 1 d)) t b
    (record { long = refl; lower = omega (arith, below, paid_less 1 b.max_ops); no_less = omega arith; no_more = omega arith; within = omega (arith, below) })
    (λ left. record { long = refl; lower = omega (arith, paid_with_operations b left); no_less = omega arith; no_more = omega arith; within = omega (arith, below) }))

module _ {R T : Type 0} (k : Touching R T) (pays_first : Bool) (table : TableValue (GenericStateEntry T)) (driver : Driver R (GenericStateEntry T))
    (places : ChangesPositionsAlone driver.act FitsAlways)
  where
    abbrev pub machine : KerningMachine R (GenericStateEntry T)
    machine = kerning_machine_of pays_first table driver

    pub turn_falls : (c : Config R) → OnGoes (Behind c) (kerning_turn machine c)
    unfolding kerning_acted
    turn_falls c = by_entry (entry_at table c.state c.buffer) refl
      where
        acted : (e : GenericStateEntry T) (b : Buffer) → IsMarked 0 c.buffer b
            → OnGoes (Behind c) (kerning_acted machine e (record c { buffer = b; turns = c.turns + 1 }))
        acted e b marked =
            let d : Buffer = (driver.act e c.registers b).buffer in
            let place = places e c.registers b tt in
            let cursor : d.cursor ≡ c.buffer.cursor = place.cursor ∙ ap (λ (x : Buffer). x.cursor) marked.rest in
            let long : length d.line ≡ length c.buffer.line = ap length place.line ∙ marked.long in
            let budget : d.max_ops ≡ c.buffer.max_ops = place.budget ∙ ap (λ (x : Buffer). x.max_ops) marked.rest in
            let same : potential d ≡ potential c.buffer = rw (cursor, long, budget) refl in
            settled_goes (stepped pays_first (goes_on e)) (Behind c)
            (behind_act (driver.act e c.registers b) e.new_state (record c { buffer = b; turns = c.turns + 1 })) (λ inside.
            let s = steps pays_first (goes_on e) d (below_end d inside) in
            let lower = s.lower in
            let no_less = s.no_less in
            let no_more = s.no_more in
            let within = s.within in
            record {
              long = s.long ∙ long;
              lower = omega (arith, lower, same);
              no_less = omega (arith, no_less, cursor);
              no_more = omega (arith, no_more, cursor);
              within = omega (arith, within, long);
            })

        by_end : (e : GenericStateEntry T) (t : Bool) → entry_at table c.state c.buffer ≡ Some e
            → has_end_entry k table c.state c.buffer ≡ t → OnGoes (Behind c) (kerning_turn machine c)
        by_end e true found has =
            let acts = turn_acts k pays_first table driver 0 refl e c found has in
            rw acts.2 (acted e acts.0 acts.1)
        by_end e false found has =
            let over = turn_ends_ahead k pays_first table driver 0 refl e c found has in
            rw over.2 tt

        by_entry : (o : Option (GenericStateEntry T)) → entry_at table c.state c.buffer ≡ o → OnGoes (Behind c) (kerning_turn machine c)
        by_entry None found =
            let over = turn_ends k pays_first table driver 0 refl c found in
            rw over.2 tt
        by_entry (Some e) found = by_end e (has_end_entry k table c.state c.buffer) found refl

    -- a place is open to the run where its turns will open it
    pub opens_by_turns : (q : ℕ) (b : Buffer)
        → is_open k table pays_first driver q b ≡ will_open k table (kerning_turn machine) q (start true b driver.fresh)
    unfolding is_open will_open stays_apart
    opens_by_turns q b =
        let first = start true b driver.fresh in
        grouped (first_at (kerning_turn machine) q (potential first.buffer + 1) first)
      where
        and_swap : (x y z : Bool) → (x && (y && z)) ≡ ((x && y) && z)
        and_swap true y z = refl
        and_swap false y z = refl

        grouped : (o : Option (Config R))
            → is_some_and o (λ c. goes_as_from_start k table c && (rests_if_over k table c && stays_apart k table (kerning_turn machine) q c))
            ≡ is_some_and o (λ c. is_harmless k table c && stays_apart k table (kerning_turn machine) q c)
        grouped None = refl
        grouped (Some c) = and_swap (goes_as_from_start k table c) (rests_if_over k table c) (stays_apart k table (kerning_turn machine) q c)
