-- A turn of a kerning machine over a line, and one over a part that stands at a place of it.
use Rattle.std.proofs.Common.{◌≡◌, ◌∙◌, ◌⊎◌, inl, inr, ℕ, ◌+◌, ◌<◌, ◌≤◌, ◌||◌, not, Bool, true, false, cond, length, nat_le, nat_lt, bit_and, is_some, Option, Some, refl, ap, arith}
use Rattle.std.proofs.lemmas.Bool.{cases_lt}
use Rattle.std.proofs.lemmas.Bool.Decides.{nat_tests}
use Rattle.std.specs.List.{list_all}
use Rattle.std.specs.Prelude.{unwrap_or}
use Rattle.aat_buffer.specs.Buffer.{Buffer, glyph_at, position_list}
use Rattle.aat_machine_tables.specs.Entries.{goes_on}
use Rattle.aat_machine_tables.specs.Table.{TableValue, entry_of}
use Rattle.aat_machine_tables.specs.declared.state_table.GenericStateEntry.{GenericStateEntry}
use Rattle.aat_run.specs.Budget.{operations_left, paid}
use Rattle.aat_run.specs.Context.{Config, Moved, class_at, entry_at, is_at_end}
use Rattle.aat_run.specs.Laws.{FitsAlways}
use Rattle.aat_run.specs.Machine.{Ends, Goes, OnGoes, Turn, passed, settled_by}
use Rattle.aat_kerning_machines.specs.KerningLaws.{ChangesPositionsAlone}
use Rattle.aat_kerning_machines.specs.KerningMachine.{Driver, kerning_acted, kerning_turn, stepped}
use Rattle.aat_cut_kinds.specs.KerningClosing.{Touching, has_end_entry, only_returns}
use Rattle.aat_cut_kinds.specs.KerningCuts.{Seen, seen_of}
use Rattle.aat_cut_kinds.specs.facts.KerningBeside.{Beside, beside_marked, beside_paid, beside_passed}
use Rattle.aat_cut_kinds.specs.facts.KerningViewed.{machine, one_less, step_is, step_pays, turn_acts}

-- the cursor of the part stands at a glyph, or the part is the end of the line
abbrev pub IsWithin : ℕ → ℕ → ℕ → ℕ → Type 0
IsWithin at n long p = (p < n) ⊎ (at + n ≡ long)

-- What an act does to a line it does to a part that stands at a place of it, where registers are alike and it touches
-- nothing before that place: `Alike` relates, at a place and for a part of n glyphs, registers of the whole to those of
-- the part, which begins with fresh ones.
pub record ActsInParts {R T : Type 0} (k : Touching R T) (act : GenericStateEntry T → R → Buffer → Moved R) (fresh : R) (kern_mask : ℕ)
    (Alike : ℕ → ℕ → R → R → Type 0) : Type 0
  where
    pub acts :
        (at n long : ℕ) (origin : Buffer) (e : GenericStateEntry T) (r s : R) (w p : Buffer)
        → Beside kern_mask at n long origin w p → Alike at n r s → IsWithin at n long p.cursor
        → list_all (nat_le at) (k.touched e r w.cursor (length w.line)) ≡ true
        → Beside kern_mask at n long origin (act e r w).buffer (act e s p).buffer
    pub alike :
        (at n long : ℕ) (origin : Buffer) (e : GenericStateEntry T) (r s : R) (w p : Buffer)
        → Beside kern_mask at n long origin w p → Alike at n r s → p.cursor < n
        → list_all (nat_le at) (k.touched e r w.cursor (length w.line)) ≡ true
        → Alike at n (act e r w).registers (act e s p).registers
    pub first : (n : ℕ) → Alike 0 n fresh fresh
    pub begun : (q n : ℕ) (r s : R) → Alike 0 q r s → Alike q n r fresh
    pub returned :
        (q n : ℕ) (e : GenericStateEntry T) (r s : R) (b : Buffer) → Alike 0 q r s → only_returns k e ≡ true
        → ((act e r b).buffer ≡ b) × Alike q n (act e r b).registers fresh
    pub rests :
        (q : ℕ) (e : GenericStateEntry T) (r s : R) (b : Buffer) → Alike 0 q r s → k.rests_at_end e r ≡ true
        → length b.line ≤ b.cursor
        → position_list (act e s b).buffer ≡ position_list b

module _ {R T : Type 0} (k : Touching R T) (pays_first : Bool) (table : TableValue (GenericStateEntry T)) (driver : Driver R (GenericStateEntry T))
    (kern_mask : ℕ) (free : bit_and kern_mask 7 ≡ 0) (places : ChangesPositionsAlone driver.act FitsAlways)
    (Alike : ℕ → ℕ → R → R → Type 0) (law : ActsInParts k driver.act driver.fresh kern_mask Alike)
    (at n long least : ℕ) (origin : Buffer) (some : 0 < least)
  where
    -- a run over the whole that leaves `least` of the budget, and one over the part, stand at the same glyph
    pub record Both (w c : Config R) : Type 0 where
      pub buffers : Beside kern_mask at n long origin w.buffer c.buffer
      pub state : w.state ≡ c.state
      pub alike : Alike at n w.registers c.registers
      pub budget : operations_left w.buffer.max_ops < operations_left c.buffer.max_ops + least
      pub spent : operations_left w.buffer.max_ops ≤ operations_left origin.max_ops

    -- both runs are over
    abbrev pub BothEnd : Config R → Config R → Type 0
    BothEnd v u =
        Beside kern_mask at n long origin v.buffer u.buffer
        × (operations_left v.buffer.max_ops < operations_left u.buffer.max_ops + least)

    -- both end, or both go on
    abbrev pub BothTurns : Turn (Config R) → Turn (Config R) → Type 0
    BothTurns (Ends v) (Ends u) = BothEnd v u
    BothTurns (Ends v) (Goes u) = ⊥
    BothTurns (Goes v) (Ends u) = ⊥
    BothTurns (Goes v) (Goes u) = Both v u × (u.buffer.cursor ≤ n)

    abbrev pub Leaves : Turn (Config R) → Type 0
    Leaves t = OnGoes (λ (d : Config R). least ≤ operations_left d.buffer.max_ops) t

    not_over : (b : Buffer) → b.cursor < length b.line → is_at_end b ≡ false
    not_over b below = grind (arith, nat_tests, below)

    is_over : (b : Buffer) → length b.line ≤ b.cursor → is_at_end b ≡ true
    is_over b past = grind (arith, nat_tests, past)

    module _ (w p : Buffer) (h : Beside kern_mask at n long origin w p) where
      below_whole : p.cursor < n → w.cursor < length w.line
      below_whole below = omega (arith, below, h.cursor, h.line, h.room)

      below_part : p.cursor < n → p.cursor < length p.line
      below_part below = omega (arith, below, h.line_of_part)

      past_whole : n ≤ p.cursor → at + n ≡ long → length w.line ≤ w.cursor
      past_whole past whole = omega (arith, past, whole, h.cursor, h.line)

      past_part : n ≤ p.cursor → length p.line ≤ p.cursor
      past_part past = omega (arith, past, h.line_of_part)

      pub same_class : (f : ℕ → Option ℕ) → IsWithin at n long p.cursor → class_at f w ≡ class_at f p
      same_class f within = by_place within (cases_lt p.cursor n)
        where
          at_glyph : p.cursor < n → class_at f w ≡ class_at f p
          at_glyph below =
              let seen : seen_of kern_mask (glyph_at w.line w.cursor) ≡ seen_of kern_mask (glyph_at p.line p.cursor) =
              ap (λ (i : ℕ). seen_of kern_mask (glyph_at w.line i)) h.cursor ∙ h.glyphs p.cursor below in
              rw (not_over w (below_whole below), not_over p (below_part below)) (ap (λ (s : Seen). unwrap_or (f s.id) 1) seen)

          by_place : IsWithin at n long p.cursor → (p.cursor < n) ⊎ (n ≤ p.cursor) → class_at f w ≡ class_at f p
          by_place within (inl below) = at_glyph below
          by_place (inl below) (inr past) = at_glyph below
          by_place (inr whole) (inr past) = rw (is_over w (past_whole past whole), is_over p (past_part past)) refl

      -- the part asks for an entry for the end of the text no sooner than the whole
      pub has_end_too : (s : ℕ) → has_end_entry k table s w ≡ true → has_end_entry k table s p ≡ true
      has_end_too s has = by_tests (nat_lt (w.cursor + 1) (length w.line)) (nat_lt (p.cursor + 1) (length p.line)) refl refl has
        where
          by_tests : (t u : Bool) → nat_lt (w.cursor + 1) (length w.line) ≡ t → nat_lt (p.cursor + 1) (length p.line) ≡ u
              → (not t || is_some (entry_of table s 0)) ≡ true → (not u || is_some (entry_of table s 0)) ≡ true
          by_tests t false is is_part has = refl
          by_tests true true is is_part has = has
          by_tests false true is is_part has =
              absurd (let more : p.cursor + 1 < length p.line = grind (arith, nat_tests, is_part) in
              let none : length w.line ≤ w.cursor + 1 = grind (arith, nat_tests, is) in
              omega (arith, more, none, h.cursor, h.line, h.line_of_part, h.room))

      -- and no later, where it is the end of the line
      pub same_end_entry : (s : ℕ) → at + n ≡ long → has_end_entry k table s w ≡ has_end_entry k table s p
      same_end_entry s whole =
          let same : nat_lt (w.cursor + 1) (length w.line) ≡ nat_lt (p.cursor + 1) (length p.line) =
          (let cursor = h.cursor in let line = h.line in let part = h.line_of_part in grind (arith, nat_tests, cursor, line, part, whole)) in
          ap (λ (t : Bool). not t || is_some (entry_of table s 0)) same

    -- both steps
    beside_stepped :
        (a : Bool) (v u : Buffer) → Beside kern_mask at n long origin v u
        → 0 < operations_left (paid 1 v).max_ops → 0 < operations_left (paid 1 u).max_ops
        → Beside kern_mask at n long origin (stepped pays_first a v) (stepped pays_first a u)
    beside_stepped a v u h left left_part = rw (step_is pays_first a v left, step_is pays_first a u left_part) (by_advance a)
      where
        by_advance : (a : Bool) → Beside kern_mask at n long origin (cond a (passed (paid 1 v)) (paid 1 v)) (cond a (passed (paid 1 u)) (paid 1 u))
        by_advance true = beside_passed kern_mask at n long origin (paid 1 v) (paid 1 u) (beside_paid kern_mask at n long origin v u h)
        by_advance false = beside_paid kern_mask at n long origin v u h

    cursor_stepped : (a : Bool) (u : Buffer) → 0 < operations_left (paid 1 u).max_ops → u.cursor < n → (stepped pays_first a u).cursor ≤ n
    cursor_stepped a u left below = rw (step_is pays_first a u left) (by_advance a)
      where
        by_advance : (a : Bool) → (cond a (passed (paid 1 u)) (paid 1 u)).cursor ≤ n
        by_advance true = omega (arith, below)
        by_advance false = omega (arith, below)

    -- behind the acts
    settle :
        (a : Bool) (v u : Config R) → Beside kern_mask at n long origin v.buffer u.buffer → (u.buffer.cursor < n → Alike at n v.registers u.registers)
        → v.state ≡ u.state → operations_left v.buffer.max_ops < operations_left u.buffer.max_ops + least
        → operations_left v.buffer.max_ops ≤ operations_left origin.max_ops
        → IsWithin at n long u.buffer.cursor → Leaves (settled_by (stepped pays_first a) v)
        → BothTurns (settled_by (stepped pays_first a) v) (settled_by (stepped pays_first a) u)
    settle a v u h alike state budget spent within leaves = by_place within (cases_lt u.buffer.cursor n)
      where
        at_glyph : u.buffer.cursor < n → BothTurns (settled_by (stepped pays_first a) v) (settled_by (stepped pays_first a) u)
        at_glyph below =
            let whole = not_over v.buffer (below_whole v.buffer u.buffer h below) in
            let part = not_over u.buffer (below_part v.buffer u.buffer h below) in
            let enough : least ≤ operations_left (stepped pays_first a v.buffer).max_ops = rw whole at leaves in
            let pays : operations_left (stepped pays_first a v.buffer).max_ops ≡ operations_left (paid 1 v.buffer).max_ops = ap operations_left (step_pays pays_first a v.buffer) in
            let pays_part : operations_left (stepped pays_first a u.buffer).max_ops ≡ operations_left (paid 1 u.buffer).max_ops = ap operations_left (step_pays pays_first a u.buffer) in
            let less = one_less v.buffer in
            let less_part = one_less u.buffer in
            let left : 0 < operations_left (paid 1 v.buffer).max_ops = omega (arith, enough, pays, some) in
            let left_part : 0 < operations_left (paid 1 u.buffer).max_ops = omega (arith, enough, pays, some, less, less_part, budget) in
            rw (whole, part) (
              record {
                buffers = beside_stepped a v.buffer u.buffer h left left_part;
                state = state;
                alike = alike below;
                budget = omega (arith, pays, pays_part, less, less_part, budget, left, left_part);
                spent = omega (arith, pays, less, spent);
              },
              cursor_stepped a u.buffer left_part below,
            )

        by_place : IsWithin at n long u.buffer.cursor → (u.buffer.cursor < n) ⊎ (n ≤ u.buffer.cursor)
            → BothTurns (settled_by (stepped pays_first a) v) (settled_by (stepped pays_first a) u)
        by_place within (inl below) = at_glyph below
        by_place (inl below) (inr past) = at_glyph below
        by_place (inr whole) (inr past) =
            rw (is_over v.buffer (past_whole v.buffer u.buffer h past whole), is_over u.buffer (past_part v.buffer u.buffer h past)) (h, budget)

    -- an entry that acts in both runs
    pub both_act :
        (w c : Config R) (e : GenericStateEntry T) → Beside kern_mask at n long origin w.buffer c.buffer → Alike at n w.registers c.registers
        → operations_left w.buffer.max_ops < operations_left c.buffer.max_ops + least
        → operations_left w.buffer.max_ops ≤ operations_left origin.max_ops
        → entry_at table w.state w.buffer ≡ Some e → entry_at table c.state c.buffer ≡ Some e
        → has_end_entry k table w.state w.buffer ≡ true → has_end_entry k table c.state c.buffer ≡ true
        → IsWithin at n long c.buffer.cursor → list_all (nat_le at) (k.touched e w.registers w.buffer.cursor (length w.buffer.line)) ≡ true
        → Leaves (kerning_turn (machine k pays_first table driver kern_mask free) w)
        → BothTurns (kerning_turn (machine k pays_first table driver kern_mask free) w) (kerning_turn (machine k pays_first table driver kern_mask free) c)
    unfolding kerning_acted
    both_act w c e h alike budget spent entry entry_part has has_part within apart leaves =
        let whole = turn_acts k pays_first table driver kern_mask free e w entry has in
        let part = turn_acts k pays_first table driver kern_mask free e c entry_part has_part in
        let a : Buffer = whole.0 in
        let b : Buffer = part.0 in
        let beside : Beside kern_mask at n long origin a b = beside_marked kern_mask at n long origin w.buffer c.buffer a b whole.1 part.1 h in
        let cursor : a.cursor ≡ w.buffer.cursor = ap (λ (x : Buffer). x.cursor) whole.1.rest in
        let cursor_part : b.cursor ≡ c.buffer.cursor = ap (λ (x : Buffer). x.cursor) part.1.rest in
        let touches : list_all (nat_le at) (k.touched e w.registers a.cursor (length a.line)) ≡ true = rw (cursor, whole.1.long) apart in
        let within_act : IsWithin at n long b.cursor = rw cursor_part within in
        let place = places e w.registers a tt in
        let place_part = places e c.registers b tt in
        let acted = law.acts at n long origin e w.registers c.registers a b beside alike within_act touches in
        let ops : operations_left (driver.act e w.registers a).buffer.max_ops ≡ operations_left w.buffer.max_ops = ap operations_left (place.budget ∙ ap (λ (x : Buffer). x.max_ops) whole.1.rest) in
        let ops_part : operations_left (driver.act e c.registers b).buffer.max_ops ≡ operations_left c.buffer.max_ops = ap operations_left (place_part.budget ∙ ap (λ (x : Buffer). x.max_ops) part.1.rest) in
        let stays : (driver.act e c.registers b).buffer.cursor ≡ b.cursor = place_part.cursor in
        let goal = settle (goes_on e)
        (record { buffer = (driver.act e w.registers a).buffer; registers = (driver.act e w.registers a).registers; state = e.new_state; last = w.last; turns = w.turns + 1 })
        (record { buffer = (driver.act e c.registers b).buffer; registers = (driver.act e c.registers b).registers; state = e.new_state; last = c.last; turns = c.turns + 1 })
        acted
        (λ below. law.alike at n long origin e w.registers c.registers a b beside alike (omega (arith, below, stays)) touches)
        refl (omega (arith, ops, ops_part, budget)) (omega (arith, ops, spent)) (rw stays within_act) (rw whole.2 at leaves) in
        rw (whole.2, part.2) goal
