-- The components that a run holds over a whole line, and over the back part of it: how far the newest are the same.
use Rattle.std.proofs.Common.{◌≡◌, ◌≢◌, ◌∙◌, ◌⊎◌, inl, inr, ℕ, zero, suc, ◌+◌, ◌-◌, ◌*◌, ◌/◌, ◌%◌, ◌<◌, ◌≤◌, ◌&&◌, ◌||◌, ◌==◌, not, Bool, true, false, cond, List, length, nat_lt, refl, ap, sym, arith, get_or, length-set, get_or-set_same, get_or-set_other}
use Rattle.std.proofs.Math.Nat.{add-mul-mod_self_left, div-add-mod, le_of_mul-le-mul_left}
use Rattle.std.proofs.lemmas.Bool.{and_parts, cases_eq, cases_lt}
use Rattle.std.proofs.lemmas.Bool.Decides.{nat_tests}
use Rattle.std.specs.Prelude.{slice_set}
use Rattle.aat_buffer.specs.facts.Cases.{chosen}
use Rattle.aat_machine_tables.specs.Entries.{has_flag}
use Rattle.aat_machine_tables.specs.declared.state_table.GenericStateEntry.{GenericStateEntry}
use Rattle.aat_kinds.specs.Ligature.{Registers, component, with_component, with_place_held}
use Rattle.aat_closing.specs.Closing.{are_in_order, oldest_of_newest}

-- numbers with the same remainder are some multiples apart
multiples : (n i j : ℕ) → 0 < n → i ≤ j → i % n ≡ j % n → (q : ℕ) × (j ≡ i + n * q)
multiples n i j some low same =
    let first = div-add-mod i n in
    let second = div-add-mod j n in
    let less : n * (i / n) ≤ n * (j / n) = omega (arith, first, second, same, low) in
    let fewer : i / n ≤ j / n = le_of_mul-le-mul_left less some in
    let q : ℕ = j / n - i / n in
    let wide : j / n ≡ i / n + q = omega (arith, fewer) in
    let product : n * (j / n) ≡ n * (i / n + q) = ap (λ x. n * x) wide in
    (q, omega (arith, first, second, same, product))

-- and so are others that are as far apart
as_far : (n a b j d : ℕ) → 0 < n → j ≤ d → (a + j) % n ≡ (a + d) % n → (b + j) % n ≡ (b + d) % n
as_far n a b j d some low same =
    let apart = multiples n (a + j) (a + d) some (omega (arith, low)) same in
    let is = apart.1 in
    let place : b + d ≡ b + j + n * apart.0 = omega (arith, is) in
    sym (ap (λ x. x % n) place ∙ add-mul-mod_self_left (b + j) n apart.0)

-- with one more component, whatever the newest is
abbrev pub pushed : Registers → ℕ → Registers
pushed r p = record { count = r.count + 1; slots = slice_set r.slots (r.count % length r.slots) p }

pushed_here : (r : Registers) (p j : ℕ) → 0 < length r.slots → j % length r.slots ≡ r.count % length r.slots → component (pushed r p) j ≡ p
pushed_here r p j some same =
    let slot : ℕ = r.count % length r.slots in
    let below : slot < length r.slots = omega (arith, some) in
    rw (length-set r.slots slot p, same) (get_or-set_same r.slots slot p 0 below)

pushed_elsewhere : (r : Registers) (p j : ℕ) → j % length r.slots ≢ r.count % length r.slots → component (pushed r p) j ≡ component r j
pushed_elsewhere r p j other =
    let slot : ℕ = r.count % length r.slots in
    rw (length-set r.slots slot p) (get_or-set_other r.slots slot (j % length r.slots) p 0 other)

-- An older component than the newest from place a on stands before the cut, or not before one of those.
abbrev pub IsOlder : ℕ → ℕ → Registers → ℕ → Type 0
IsOlder long a r j = (component r j < long) ⊎ ((k : ℕ) × (a ≤ k) × (k < r.count) × (component r k ≤ component r j))

-- The d newest components over the whole line are those over the part, moved on; before them a components are held over
-- the whole, and b over the part.
pub record IsAlike (long a b d : ℕ) (r s : Registers) : Type 0 where
  pub whole : r.count ≡ a + d
  pub part : s.count ≡ b + d
  pub slots : length s.slots ≡ length r.slots
  pub some : 0 < length r.slots
  pub same : (j : ℕ) → j < d → component r (a + j) ≡ long + component s (b + j)
  pub older : (j : ℕ) → j < a → IsOlder long a r j

pub record AreAlike (long : ℕ) (r s : Registers) : Type 0 where
  pub older_whole : ℕ
  pub older_part : ℕ
  pub shared : ℕ
  pub alike : IsAlike long older_whole older_part shared r s

-- components that all stand before the cut are like any others
pub all_before : (long : ℕ) (r s : Registers) → length s.slots ≡ length r.slots → 0 < length r.slots → ((j : ℕ) → j < r.count → component r j < long) → AreAlike long r s
all_before long r s slots some before = record {
  older_whole = r.count;
  older_part = s.count;
  shared = 0;
  alike = record {
    whole = omega arith;
    part = omega arith;
    slots = slots;
    some = some;
    same = λ j below. absurd (omega (arith, below));
    older = λ j below. inl (before j below);
  };
}

-- of the places before a number that have the same slot, the last
last_in_slot : (n i j : ℕ) → 0 < n → j < i → (k : ℕ) × (k < i) × (i ≤ k + n) × (k % n ≡ j % n)
last_in_slot n i j some low =
    let q : ℕ = (i - 1 - j) / n in
    let parts = div-add-mod (i - 1 - j) n in
    let rest : (i - 1 - j) % n < n = omega (arith, some) in
    (j + n * q, omega (arith, parts, low), omega (arith, parts, rest, low), add-mul-mod_self_left j n q)

-- two places of one slot are at least as far apart as there are slots
slot_apart : (n i j : ℕ) → 0 < n → i < j → i % n ≡ j % n → i + n ≤ j
slot_apart n i j some low same =
    let apart = multiples n i j some (omega (arith, low)) same in
    by_multiple apart.0 apart.1
  where
    by_multiple : (q : ℕ) → j ≡ i + n * q → i + n ≤ j
    by_multiple zero is = absurd (omega (arith, is, low))
    by_multiple (suc q) is = omega (arith, is)

-- a push keeps what is older so
older_pushed : (long a p : ℕ) (r : Registers) → 0 < length r.slots → a ≤ r.count → ((j : ℕ) → j < a → IsOlder long a r j) → (j : ℕ) → j < a → IsOlder long a (pushed r p) j
older_pushed long a p r some few older j below = by_slot (cases_eq (j % n) (r.count % n))
  where
    n : ℕ
    n = length r.slots

    by_slot : ((j % n ≡ r.count % n) ⊎ (j % n ≢ r.count % n)) → IsOlder long a (pushed r p) j
    by_slot (inl same) =
        let here = pushed_here r p j some same in
        let newest = pushed_here r p r.count some refl in
        inr (r.count, few, omega arith, omega (arith, here, newest))
    by_slot (inr other) = by_age (older j below)
      where
        here : component (pushed r p) j ≡ component r j
        here = pushed_elsewhere r p j other

        by_witness : (k : ℕ) → a ≤ k → k < r.count → component r k ≤ component r j → ((k % length r.slots ≡ r.count % length r.slots) ⊎ (k % length r.slots ≢ r.count % length r.slots)) → IsOlder long a (pushed r p) j
        by_witness k from to low (inl replaced) =
            let last = last_in_slot (length r.slots) r.count j some (omega (arith, below, few)) in
            let far = slot_apart (length r.slots) k r.count some to replaced in
            let slot = last.3 in
            let moved : component (pushed r p) last.0 ≡ component r last.0 = pushed_elsewhere r p last.0 (λ is. other (sym slot ∙ is)) in
            let equal : component r last.0 ≡ component r j = ap (λ i. get_or r.slots i 0) slot in
            let first = last.1 in
            let near = last.2 in
            inr (last.0, omega (arith, near, far, from), omega (arith, first), omega (arith, moved, equal, here))
        by_witness k from to low (inr stays) =
            let there = pushed_elsewhere r p k stays in
            inr (k, from, omega (arith, to), omega (arith, here, there, low))

        by_age : IsOlder long a r j → IsOlder long a (pushed r p) j
        by_age (inl before) = inl (omega (arith, here, before))
        by_age (inr w) = by_witness w.0 w.1 w.2 w.3 (cases_eq (w.0 % length r.slots) (r.count % length r.slots))

-- where both take one more, the place moved on
both_pushed : (long a b d p : ℕ) (r s : Registers) → IsAlike long a b d r s → IsAlike long a b (d + 1) (pushed r (long + p)) (pushed s p)
both_pushed long a b d p r s alike = record {
  whole = omega (arith, alike.whole);
  part = omega (arith, alike.part);
  slots = length-set s.slots (s.count % length s.slots) p ∙ (alike.slots ∙ sym (length-set r.slots (r.count % length r.slots) (long + p)));
  some = rw (length-set r.slots (r.count % length r.slots) (long + p)) alike.some;
  same = λ j below. by_slot j below (cases_eq ((a + j) % n) ((a + d) % n));
  older = older_pushed long a (long + p) r alike.some (omega (arith, alike.whole)) alike.older;
}
  where
    n : ℕ
    n = length r.slots

    slot : r.count % n ≡ (a + d) % n
    slot = ap (λ i. i % n) alike.whole

    -- the slots of the part
    part_slot : (i : ℕ) → (i % length s.slots ≡ s.count % length s.slots → i % n ≡ (b + d) % n) × (i % n ≡ (b + d) % n → i % length s.slots ≡ s.count % length s.slots)
    part_slot i =
        let count : s.count % length r.slots ≡ (b + d) % length r.slots = ap (λ x. x % length r.slots) alike.part in
        rw alike.slots ((λ is. is ∙ count), (λ is. is ∙ sym count))

    by_slot : (j : ℕ) → j < d + 1 → (((a + j) % n ≡ (a + d) % n) ⊎ ((a + j) % n ≢ (a + d) % n)) → component (pushed r (long + p)) (a + j) ≡ long + component (pushed s p) (b + j)
    by_slot j below (inl here) =
        let whole = pushed_here r (long + p) (a + j) alike.some (here ∙ sym slot) in
        let there : (b + j) % n ≡ (b + d) % n = as_far n a b j d alike.some (omega (arith, below)) here in
        let part = pushed_here s p (b + j) (rw alike.slots alike.some) ((part_slot (b + j)).1 there) in
        omega (arith, whole, part)
    by_slot j below (inr other) =
        let differs : j ≢ d = λ is. other (ap (λ x. (a + x) % n) is) in
        let less : j < d = omega (arith, below, differs) in
        let whole = pushed_elsewhere r (long + p) (a + j) (λ is. other (is ∙ slot)) in
        let part = pushed_elsewhere s p (b + j) (λ is. other (as_far n b a j d alike.some (omega (arith, less)) ((part_slot (b + j)).0 is))) in
        omega (arith, whole, part, alike.same j less)

-- where the newest of the part is the place already, and no component is the same
whole_pushed : (long a b p : ℕ) (r s : Registers) → IsAlike long a b 0 r s → 0 < s.count → component s (s.count - 1) ≡ p → IsAlike long a (s.count - 1) 1 (pushed r (long + p)) s
whole_pushed long a b p r s alike held newest = record {
  whole = omega (arith, alike.whole);
  part = omega (arith, held);
  slots = alike.slots ∙ sym (length-set r.slots (r.count % length r.slots) (long + p));
  some = rw (length-set r.slots (r.count % length r.slots) (long + p)) alike.some;
  same = λ j below.
      let first : j ≡ 0 = omega (arith, below) in
      let place : a + j ≡ r.count = omega (arith, first, alike.whole) in
      let index : s.count - 1 + j ≡ s.count - 1 = omega (arith, first) in
      rw (place, index, newest) (pushed_here r (long + p) r.count alike.some refl);
  older = older_pushed long a (long + p) r alike.some (omega (arith, alike.whole)) alike.older;
}

-- a place that is held by both
module _ (long p : ℕ) (r s : Registers) where
  pub both_held : AreAlike long r s → AreAlike long (with_place_held r (long + p)) (with_place_held s p)
  both_held alike = by_shared alike.shared alike.alike
    where
      a : ℕ
      a = alike.older_whole

      b : ℕ
      b = alike.older_part

      holds : (t : Registers) (place : ℕ) → Bool
      holds t place = nat_lt 0 t.count && (component t (t.count - 1) == place)

      pair : (d : ℕ) (t : Bool) → IsAlike long a b d r s → AreAlike long (cond t r (pushed r (long + p))) (cond t s (pushed s p))
      pair d true is = record { older_whole = a; older_part = b; shared = d; alike = is }
      pair d false is = record { older_whole = a; older_part = b; shared = d + 1; alike = both_pushed long a b d p r s is }

      by_shared : (d : ℕ) → IsAlike long a b d r s → AreAlike long (with_place_held r (long + p)) (with_place_held s p)
      by_shared zero is =
          chosen (λ (t : Registers). AreAlike long t (with_place_held s p)) (holds r (long + p)) r (pushed r (long + p))
          (λ held. absurd (stale held))
          (λ _. by_part (holds s p) refl)
        where
          stale : holds r (long + p) ≡ true → ⊥
          stale held =
              let some : 0 < r.count = grind (arith, nat_tests, held) in
              let newest : component r (r.count - 1) ≡ long + p = grind (arith, nat_tests, held) in
              by_age (is.older (r.count - 1) (omega (arith, is.whole, some))) newest
            where
              by_age : IsOlder long a r (r.count - 1) → component r (r.count - 1) ≡ long + p → ⊥
              by_age (inl before) newest = absurd (omega (arith, before, newest))
              by_age (inr w) newest = absurd (let from = w.1 in let to = w.2 in omega (arith, from, to, is.whole))

          by_part : (t : Bool) → holds s p ≡ t → AreAlike long (pushed r (long + p)) (cond t s (pushed s p))
          by_part true held =
              let some : 0 < s.count = grind (arith, nat_tests, held) in
              let newest : component s (s.count - 1) ≡ p = grind (arith, nat_tests, held) in
              record { older_whole = a; older_part = s.count - 1; shared = 1; alike = whole_pushed long a b p r s is some newest }
          by_part false held = pair 0 false is
      by_shared (suc d) is =
          let whole : r.count - 1 ≡ a + d = omega (arith, is.whole) in
          let part : s.count - 1 ≡ b + d = omega (arith, is.part) in
          let newest : component r (a + d) ≡ long + component s (b + d) = is.same d (omega arith) in
          let guard : (nat_lt 0 r.count && (component r (r.count - 1) == long + p)) ≡ (nat_lt 0 s.count && (component s (s.count - 1) == p)) =
          rw (whole, part, newest) (same_guard (is.whole) (is.part)) in
          rw guard (pair (suc d) (nat_lt 0 s.count && (component s (s.count - 1) == p)) is)
        where
          same_guard : r.count ≡ a + suc d → s.count ≡ b + suc d → (nat_lt 0 r.count && (long + component s (b + d) == long + p)) ≡ (nat_lt 0 s.count && (component s (b + d) == p))
          same_guard whole part = grind (arith, nat_tests)

  pub component_held : (e : GenericStateEntry ℕ) → AreAlike long r s → AreAlike long (with_component e r (long + p)) (with_component e s p)
  component_held e alike = by_flag (has_flag e 0x8000)
    where
      by_flag : (t : Bool) → AreAlike long (cond t (with_place_held r (long + p)) r) (cond t (with_place_held s p) s)
      by_flag true = both_held alike
      by_flag false = alike

-- components in order
pub in_order : (r : Registers) (i n : ℕ) → are_in_order r i n ≡ true → (j k : ℕ) → i ≤ j → j < k → k ≤ i + n → component r j < component r k
unfolding are_in_order
in_order r i zero is j k from less to = absurd (omega (arith, from, less, to))
in_order r i (suc n) is j k from less to =
    let parts = and_parts (nat_lt (component r i) (component r (i + 1))) (are_in_order r (i + 1) n) is in
    let test = parts.0 in
    let first : component r i < component r (i + 1) = grind (arith, nat_tests, test) in
    by_first first (λ x y. in_order r (i + 1) n parts.1 x y) (cases_lt i j) (cases_lt (i + 1) k)
  where
    by_first : component r i < component r (i + 1) → ((x y : ℕ) → i + 1 ≤ x → x < y → y ≤ i + 1 + n → component r x < component r y) → ((i < j) ⊎ (j ≤ i)) → ((i + 1 < k) ⊎ (k ≤ i + 1)) → component r j < component r k
    by_first first rest (inl later) b = rest j k (omega (arith, later)) less (omega (arith, to))
    by_first first rest (inr here) (inl beyond) =
        let same : j ≡ i = omega (arith, here, from) in
        rw same (let more = rest (i + 1) k (omega arith) beyond (omega (arith, to)) in omega (arith, first, more))
    by_first first rest (inr here) (inr next) =
        let same : j ≡ i = omega (arith, here, from) in
        let after : k ≡ i + 1 = omega (arith, same, less, next) in
        rw (same, after) first

-- the same tests over the whole as over the part
order_alike : (long a b d : ℕ) (r s : Registers) → ((j : ℕ) → j < d → component r (a + j) ≡ long + component s (b + j)) → (n i x y : ℕ) → x ≡ a + i → y ≡ b + i → i + n < d → are_in_order r x n ≡ are_in_order s y n
unfolding are_in_order
order_alike long a b d r s same zero i x y whole part few = refl
order_alike long a b d r s same (suc n) i x y whole part few =
    let next : x + 1 ≡ a + (i + 1) = omega (arith, whole) in
    let next_part : y + 1 ≡ b + (i + 1) = omega (arith, part) in
    let first : component r x ≡ long + component s y = rw (whole, part) (same i (omega (arith, few))) in
    let second : component r (x + 1) ≡ long + component s (y + 1) = rw (next, next_part) (same (i + 1) (omega (arith, few))) in
    let test : nat_lt (component r x) (component r (x + 1)) ≡ nat_lt (component s y) (component s (y + 1)) = grind (arith, nat_tests, first, second) in
    rw (test, order_alike long a b d r s same n (i + 1) (x + 1) (y + 1) next next_part (omega (arith, few))) refl

-- the m newest components, where the oldest of them does not stand before the cut
pub record IsWithin (long d m : ℕ) (r s : Registers) : Type 0 where
  pub few : m ≤ d
  pub oldest : oldest_of_newest r m ≡ long + oldest_of_newest s m
  pub ordered : are_in_order r (r.count - m) (m - 1) ≡ true

-- They all stand in the part, where they are in order
module _ (long a b d m : ℕ) (r s : Registers) (alike : IsAlike long a b d r s) (takes : 0 < m) (held : m ≤ r.count) (room : m ≤ length r.slots) (ordered : are_in_order r (r.count - m) (m - 1) ≡ true) (behind : long ≤ component r (r.count - m)) where
  not_older : r.count - m < a → IsOlder long a r (r.count - m) → ⊥
  not_older old (inl before) = absurd (omega (arith, before, behind))
  not_older old (inr w) =
      let from = w.1 in
      let to = w.2 in
      let low = w.3 in
      let rises = in_order r (r.count - m) (m - 1) ordered (r.count - m) w.0 (omega arith) (omega (arith, old, from)) (omega (arith, to, held, takes)) in
      absurd (omega (arith, low, rises))

  all_shared : m ≤ d
  all_shared = by_order (cases_lt d m)
    where
      by_order : ((d < m) ⊎ (m ≤ d)) → m ≤ d
      by_order (inl less) = let old : r.count - m < a = omega (arith, less, held, alike.whole) in absurd (not_older old (alike.older (r.count - m) old))
      by_order (inr most) = most

  shared_within : IsWithin long d m r s
  shared_within =
      let most = all_shared in
      let whole : r.count - m ≡ a + (d - m) = omega (arith, most, alike.whole) in
      let part : s.count - m ≡ b + (d - m) = omega (arith, most, alike.part) in
      let short : nat_lt r.count m ≡ false = grind (arith, nat_tests, held) in
      let narrow : nat_lt (length r.slots) m ≡ false = grind (arith, nat_tests, room) in
      let held_part : m ≤ s.count = omega (arith, most, alike.part) in
      let short_part : nat_lt s.count m ≡ false = grind (arith, nat_tests, held_part) in
      let room_part : m ≤ length s.slots = omega (arith, room, alike.slots) in
      let narrow_part : nat_lt (length s.slots) m ≡ false = grind (arith, nat_tests, room_part) in
      let ordered_part : are_in_order s (s.count - m) (m - 1) ≡ true =
      sym (order_alike long a b d r s alike.same (m - 1) (d - m) (r.count - m) (s.count - m) whole part (omega (arith, most, takes))) ∙ ordered in
      let oldest_whole : oldest_of_newest r m ≡ component r (r.count - m) = rw (short, narrow, ordered) refl in
      let oldest_part : oldest_of_newest s m ≡ component s (s.count - m) = rw (short_part, narrow_part, ordered_part) refl in
      let moved : component r (r.count - m) ≡ long + component s (s.count - m) = rw (whole, part) (alike.same (d - m) (omega (arith, most, takes))) in
      record { few = most; oldest = oldest_whole ∙ (moved ∙ ap (λ x. long + x) (sym oldest_part)); ordered = ordered }

pub newest_within : (long a b d m : ℕ) (r s : Registers) → IsAlike long a b d r s → 0 < long → 0 < m → long ≤ oldest_of_newest r m → IsWithin long d m r s
newest_within long a b d m r s alike some takes high = by_guard (nat_lt r.count m) (nat_lt (length r.slots) m) (are_in_order r (r.count - m) (m - 1)) refl refl refl high
  where
    by_guard : (t u v : Bool) → nat_lt r.count m ≡ t → nat_lt (length r.slots) m ≡ u → are_in_order r (r.count - m) (m - 1) ≡ v → long ≤ cond (t || (u || not v)) 0 (component r (r.count - m)) → IsWithin long d m r s
    by_guard true u v count slots order behind = absurd (omega (arith, behind, some))
    by_guard false true v count slots order behind = absurd (omega (arith, behind, some))
    by_guard false false false count slots order behind = absurd (omega (arith, behind, some))
    by_guard false false true count slots order behind = shared_within long a b d m r s alike takes (grind (arith, nat_tests, count)) (grind (arith, nat_tests, slots)) order behind

-- where some of the m newest are dropped, and the same are by both, what is left is alike
pub dropped : (long a b d m n : ℕ) (r s t u : Registers) → IsAlike long a b d r s → m ≤ d → are_in_order r (r.count - m) (m - 1) ≡ true → 0 < n → n ≤ d → (n ≡ d) ⊎ (d < n + m)
    → t.slots ≡ r.slots → t.count ≡ a + n → u.slots ≡ s.slots → u.count ≡ b + n → IsAlike long a b n t u
dropped long a b d m n r s t u alike few ordered some less left slots count slots_part count_part = record {
  whole = count;
  part = count_part;
  slots = rw (slots, slots_part) alike.slots;
  some = rw slots alike.some;
  same = λ j below. rw (slots, slots_part) (alike.same j (omega (arith, below, less)));
  older = λ j below. by_age j (alike.older j below);
}
  where
    at : (j : ℕ) → component t j ≡ component r j
    at j = ap (λ (xs : List ℕ). get_or xs (j % length xs) 0) slots

    -- the newest that is left
    top : ℕ
    top = a + n - 1

    by_left : (j k : ℕ) → a ≤ k → k < r.count → component r k ≤ component r j → ((k < t.count) ⊎ (t.count ≤ k)) → (n ≡ d) ⊎ (d < n + m) → IsOlder long a t j
    by_left j k from to low (inl stays) drops = inr (k, from, stays, omega (arith, at j, at k, low))
    by_left j k from to low (inr gone) (inl all) = absurd (omega (arith, gone, to, all, count, alike.whole))
    by_left j k from to low (inr gone) (inr drops) =
        let rises = in_order r (r.count - m) (m - 1) ordered (a + n - 1) k (omega (arith, drops, alike.whole, some)) (omega (arith, gone, count, some)) (omega (arith, to, few, alike.whole)) in
        inr (a + n - 1, omega (arith, some), omega (arith, count, some), omega (arith, at j, at (a + n - 1), low, rises))

    by_age : (j : ℕ) → IsOlder long a r j → IsOlder long a t j
    by_age j (inl before) = inl (omega (arith, at j, before))
    by_age j (inr w) = by_left j w.0 w.1 w.2 w.3 (cases_lt w.0 t.count) left
