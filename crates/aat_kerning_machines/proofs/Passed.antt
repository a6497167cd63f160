-- A kerning machine's run that passes glyphs in state 0.
use Rattle.std.proofs.Common.{◌≡◌, ◌∙◌, ap, refl, ℕ, zero, suc, ◌+◌, ◌-◌, ◌<◌, ◌≤◌, List, drop, length-drop, ◌&&◌, ◌==◌, ◌⊎◌, inl, inr, ℤ, pos, negsuc, ◌-ℤ◌, Bool, true, false, not, cond, Option, Some, length, nat_lt, arith}
use Rattle.std.specs.Int.{int_max}
use Rattle.std.proofs.lemmas.Bool.{cases_lt}
use Rattle.std.proofs.lemmas.Bool.Decides.{nat_tests}
use Rattle.std.proofs.lemmas.Int.{ints}
use Rattle.std.proofs.lemmas.List.{get_or-drop}
use Rattle.aat_buffer.specs.Buffer.{Buffer, glyph_at, no_glyph, with_cursor}
use Rattle.aat_glyph.specs.declared.glyph.hb_glyph_info_t.{hb_glyph_info_t}
use Rattle.aat_buffer.specs.facts.Cases.{either}
use Rattle.aat_machine_tables.specs.Entries.{goes_on}
use Rattle.aat_font.specs.Idle.{has_entry}
use Rattle.aat_machine_tables.specs.Table.{TableValue, entry_of}
use Rattle.aat_machine_tables.specs.declared.state_table.GenericStateEntry.{GenericStateEntry}
use Rattle.aat_kerning_machines.specs.KerningLaws.{ChangesPositionsAlone}
use Rattle.aat_kerning_machines.specs.KerningMachine.{KerningMachine, kerning_machine_with, kerning_marked, kerning_acted, looked_ahead, kerning_by_entry, kerning_turn, stepped}
use Rattle.aat_kerning_machines.specs.inside.Passing.{first_entry_at, is_passed, is_quiet_at_end, leads_over}
use Rattle.aat_kerning_machines.proofs.Coming as coming
use Rattle.aat_run.specs.Budget.{paid}
use Rattle.aat_run.specs.Context.{Config, Moved, first_config, is_at_end, is_inside, entry_at}
use Rattle.aat_run.specs.Laws.{KeepsFit, PassesFit, RestsBy}
use Rattle.aat_run.specs.Machine.{Turn, Goes, passed}
use Rattle.aat_run.specs.facts.IdleRuns.{both, entry_there}
use Rattle.aat_run.specs.inside.Standing.{HasCome}

-- a choice that a false test leaves
untaken : (a : Bool) (x y : Buffer) → cond (a && false) x y ≡ y
untaken true x y = refl
untaken false x y = refl

clear : (b : Bool) → not b ≡ true → b ≡ false
clear true h = cc
clear false h = refl

-- what holds of some places from one on holds of that
first : (p k : ℕ) (P : ℕ → Type 0) → 0 < k → ((i : ℕ) → i < k → P (p + i)) → P p
first p k P some each =
    let same : p + 0 ≡ p = omega arith in
    rw same at (each 0 some)

-- what holds below a place, and there, holds below the next one
pub one_more : (P : ℕ → Type 0) (n : ℕ) → ((i : ℕ) → i < n → P i) → P n → (i : ℕ) → i < n + 1 → P i
one_more P n below here i lt = by_place (cases_lt i n)
  where
    by_place : (i < n) ⊎ (n ≤ i) → P i
    by_place (inl less) = below i less
    by_place (inr more) = let same : i ≡ n = omega (arith, lt, more) in rw same here

-- what passes of the glyphs from the cursor on, by their places on the line
pub passed_from :
    {T : Type 0} (rests : GenericStateEntry T → Bool) (table : TableValue (GenericStateEntry T)) (b : Buffer) (n : ℕ)
    (glyphs : List hb_glyph_info_t) → glyphs ≡ drop b.cursor b.line → n ≤ length glyphs → 0 < n
    → ((i : ℕ) → i < n → is_passed rests table (glyph_at glyphs i).glyph_id ≡ true)
    → (b.cursor + n ≤ length b.line) × ((i : ℕ) → i < n → is_passed rests table (glyph_at b.line (b.cursor + i)).glyph_id ≡ true)
passed_from rests table b n glyphs from within some each =
    let count : length glyphs ≡ length b.line - b.cursor = ap length from ∙ length-drop b.cursor b.line in
    (omega (arith, count, within, some), λ i lt. let same : glyph_at glyphs i ≡ glyph_at b.line (b.cursor + i) = rw from (get_or-drop b.cursor b.line i no_glyph) in rw same at (each i lt))

-- the entry behind them is that at the cursor then
pub entry_behind :
    {T : Type 0} (table : TableValue (GenericStateEntry T)) (b d : Buffer) (n : ℕ) (glyphs : List hb_glyph_info_t)
    → glyphs ≡ drop b.cursor b.line → d.line ≡ b.line → d.cursor ≡ b.cursor + n
    → first_entry_at table glyphs n ≡ entry_at table 0 d
entry_behind table b d n glyphs from line cursor = by_test (nat_lt n (length glyphs)) refl
  where
    count : length glyphs ≡ length b.line - b.cursor
    count = ap length from ∙ length-drop b.cursor b.line

    by_test : (t : Bool) → nat_lt n (length glyphs) ≡ t → first_entry_at table glyphs n ≡ entry_at table 0 d
    by_test true test =
        let below : n < length glyphs = grind (arith, nat_tests, test) in
        let inside : is_at_end d ≡ false = rw (line, cursor) (grind (arith, nat_tests, below, count)) in
        let same : glyph_at glyphs n ≡ glyph_at d.line d.cursor = rw (line, cursor, from) (get_or-drop b.cursor b.line n no_glyph) in
        rw (test, inside, same) refl
    by_test false test =
        let above : length glyphs ≤ n = grind (arith, nat_tests, test) in
        let end : is_at_end d ≡ true = rw (line, cursor) (grind (arith, nat_tests, above, count)) in
        rw (test, end) refl

-- a step over a glyph, whichever comes first
stepped_over : (pays_first : Bool) (b : Buffer) → stepped pays_first true b ≡ passed (paid 1 b)
stepped_over true b = refl
stepped_over false b = refl

-- one operation and then more are all of them
paid_more : (z : ℤ) (k n : ℕ) → n ≡ k + 1 → int_max (int_max (z -ℤ pos 1) (negsuc 2147483647) -ℤ pos k) (negsuc 2147483647) ≡ int_max (z -ℤ pos n) (negsuc 2147483647)
paid_more z k n more = grind (arith, ints, more)

-- the cursor further by so many, and as many operations less
abbrev pub passed_by : ℕ → Buffer → Buffer
passed_by k b = with_cursor (paid k b) (b.cursor + k)

passed_more : (k n : ℕ) (b : Buffer) → n ≡ k + 1 → passed_by k (passed (paid 1 b)) ≡ passed_by n b
passed_more k n b more =
    let place : b.cursor + 1 + k ≡ b.cursor + n = omega (arith, more) in
    rw (paid_more b.max_ops k n more, place) refl

module _ {R T : Type 0} (pays_first : Bool) (table : TableValue (GenericStateEntry T)) (actionable : GenericStateEntry T → Bool)
    (act : GenericStateEntry T → R → Buffer → Moved R)
    (rests : GenericStateEntry T → Bool) (law : RestsBy rests (λ e r p n. actionable e) act)
  where
    abbrev m : KerningMachine R (GenericStateEntry T)
    m = kerning_machine_with pays_first table actionable act

    -- in state 0
    abbrev at : Buffer → R → ℕ → Config R
    at b r n = record (first_config b r) { turns = n }

    unmarked : (e : GenericStateEntry T) (b : Buffer) (r : R) (n : ℕ) → kerning_marked m e (at b r n) ≡ b
    unfolding kerning_marked
    unmarked e b r n = untaken (is_inside b) _ b

    acted_over :
        (e : GenericStateEntry T) (b : Buffer) (r : R) (n : ℕ) → is_at_end b ≡ false
        → e.new_state ≡ 0 → goes_on e ≡ true → rests e ≡ true
        → kerning_acted m e (at b r n) ≡ Goes (at (passed (paid 1 b)) r n)
    unfolding kerning_acted
    acted_over e b r n inside next goes e_rests =
        rw (law.stays e e_rests r b) (rw (inside, next, goes) (ap (λ (x : Buffer). Goes (at x r n)) (stepped_over pays_first b)))

    ahead_over :
        (e f : GenericStateEntry T) (b : Buffer) (r : R) (n : ℕ) → actionable f ≡ false
        → looked_ahead m e (Some f) (at b r n) ≡ kerning_acted m e (at b r n)
    unfolding looked_ahead
    ahead_over e f b r n quiet = rw quiet refl

    by_entry_over :
        (e f : GenericStateEntry T) (b : Buffer) (r : R) (n : ℕ) → entry_of table 0 0 ≡ Some f → actionable f ≡ false
        → kerning_by_entry m (Some e) (at b r n) ≡ kerning_acted m e (at b r n)
    unfolding kerning_by_entry
    by_entry_over e f b r n at_end quiet =
        rw (unmarked e b r n, at_end)
        (either (λ (t : Turn (Config R)). t) (nat_lt (b.cursor + 1) (length b.line)) (looked_ahead m e (Some f) (at b r n)) (kerning_acted m e (at b r n)) _
        (ahead_over e f b r n quiet) refl)

    module _ (end : is_quiet_at_end actionable table ≡ true) where
      -- a turn at a glyph that is passed
      turn_over :
          (b : Buffer) (r : R) (n : ℕ) → b.cursor < length b.line → is_passed rests table (glyph_at b.line b.cursor).glyph_id ≡ true
          → kerning_turn m (at b r n) ≡ Goes (at (passed (paid 1 b)) r (n + 1))
      unfolding kerning_turn
      turn_over b r n below passes_here =
          let inside : is_at_end b ≡ false = grind (arith, nat_tests, below) in
          let here : has_entry (leads_over rests) (entry_at table 0 b) ≡ true = rw inside passes_here in
          let e = entry_there (leads_over rests) (entry_at table 0 b) here in
          let f = entry_there (λ (g : GenericStateEntry T). not (actionable g)) (entry_of table 0 0) end in
          let parts = both (rests e.0) (goes_on e.0 && (e.0.new_state == 0)) e.2 in
          let more = both (goes_on e.0) (e.0.new_state == 0) parts.1 in
          let next : e.0.new_state ≡ 0 = grind (arith, nat_tests, more.1) in
          ap (λ (o : Option (GenericStateEntry T)). kerning_by_entry m o (at b r (n + 1))) e.1
          ∙ (by_entry_over e.0 f.0 b r (n + 1) f.1 (clear (actionable f.0) f.2)
          ∙ acted_over e.0 b r (n + 1) inside next more.0 parts.0)

      module _ (fits : R → ℕ → ℕ → Type 0) (places : ChangesPositionsAlone act fits) (keeps : KeepsFit act fits)
          (passes_fit : PassesFit fits) (from : Config R)
        where
          -- behind n glyphs that are passed
          come_over :
              (k n : ℕ) → n ≡ k + 1
              → (b : Buffer) (r : R) (turns : ℕ) → HasCome (kerning_turn m) fits from (at b r turns)
              → b.cursor + n ≤ length b.line
              → ((i : ℕ) → i < n → is_passed rests table (glyph_at b.line (b.cursor + i)).glyph_id ≡ true)
              → HasCome (kerning_turn m) fits from (at (passed_by n b) r (turns + n))
          come_over zero n count b r turns come room each =
              let one : n ≡ 1 = omega (arith, count) in
              let here = first b.cursor n (λ i. is_passed rests table (glyph_at b.line i).glyph_id ≡ true) (omega (arith, one)) each in
              let goes = turn_over b r turns (omega (arith, room, one)) here in
              rw one (coming.goes_on m fits places keeps passes_fit from (at b r turns) come (at (passed (paid 1 b)) r (turns + 1)) goes).1
          come_over (suc k) n count b r turns come room each =
              let here = first b.cursor n (λ i. is_passed rests table (glyph_at b.line i).glyph_id ≡ true) (omega (arith, count)) each in
              let goes = turn_over b r turns (omega (arith, room, count)) here in
              let one = (coming.goes_on m fits places keeps passes_fit from (at b r turns) come (at (passed (paid 1 b)) r (turns + 1)) goes).1 in
              let further : (i : ℕ) → i < k + 1 → is_passed rests table (glyph_at b.line (b.cursor + 1 + i)).glyph_id ≡ true =
              λ i lt. let place : b.cursor + 1 + i ≡ b.cursor + (i + 1) = omega arith in rw place (each (i + 1) (omega (arith, lt, count))) in
              let all = come_over k (k + 1) refl (passed (paid 1 b)) r (turns + 1) one (omega (arith, room, count)) further in
              let more : turns + 1 + (k + 1) ≡ turns + n = omega (arith, count) in
              rw (passed_more (k + 1) n b (omega (arith, count)), more) at all

          pub passed_all :
              (n : ℕ) (b : Buffer) (r : R) (turns : ℕ) → 0 < n → HasCome (kerning_turn m) fits from (at b r turns)
              → b.cursor + n ≤ length b.line
              → ((i : ℕ) → i < n → is_passed rests table (glyph_at b.line (b.cursor + i)).glyph_id ≡ true)
              → HasCome (kerning_turn m) fits from (at (passed_by n b) r (turns + n))
          passed_all zero b r turns some come room each = absurd (omega (arith, some))
          passed_all (suc k) b r turns some come room each = come_over k (suc k) (omega arith) b r turns come room each
