-- The budget of operations, one for all subtables. (No chapter of the manual: this limit is the shaper's own.)
use Rattle.std.specs.Prelude.{ℕ, ◌+◌, ℤ, pos, negsuc, ◌≡◌, ◌-◌, ◌-ℤ◌, Bool, length, int_lt}
use Rattle.aat_buffer.specs.Buffer.{Buffer}
use Rattle.std.specs.Int.{int_max}

-- a budget, where a negative one counts as 0: an entry that stays is paid for also where nothing is left, so that a
-- budget falls below 0, and what is owed allows no more turns than an empty one
abbrev pub operations_left : ℤ → ℕ
operations_left (pos n) = n
operations_left (negsuc n) = 0

-- a budget is a whole number; a buffer holds the larger of it and the least i32
abbrev pub with_budget : Buffer → ℤ → Buffer
with_budget b budget = record b { max_ops = int_max budget (negsuc 2147483647) }

-- n taken from the budget
abbrev pub paid : ℕ → Buffer → Buffer
paid n b = with_budget b (b.max_ops -ℤ pos n)

-- whether the budget is above 0
abbrev pub has_operations : Buffer → Bool
has_operations b = int_lt (pos 0) b.max_ops

-- whether the budget is below 0
abbrev pub has_overspent : Buffer → Bool
has_overspent b = int_lt b.max_ops (pos 0)

-- the glyphs from the cursor on
abbrev pub rest : Buffer → ℕ
rest b = length b.line - b.cursor

-- what bounds the turns that are still to come
abbrev pub potential : Buffer → ℕ
potential b = rest b + operations_left b.max_ops

-- why no run sees that least budget: a floored budget has the same sign, and paying from it leaves, floored, what
-- paying from the whole number leaves
pub record FloorIsUnseen : Type 0 where
  pub operations : (z : ℤ) → int_lt (pos 0) (int_max z (negsuc 2147483647)) ≡ int_lt (pos 0) z
  pub overspent : (z : ℤ) → int_lt (int_max z (negsuc 2147483647)) (pos 0) ≡ int_lt z (pos 0)
  pub paid : (z : ℤ) (n : ℕ)
      → int_max (int_max z (negsuc 2147483647) -ℤ pos n) (negsuc 2147483647) ≡ int_max (z -ℤ pos n) (negsuc 2147483647)

-- length and budget, where a negative budget counts as 0
abbrev pub extent : Buffer → ℕ
extent b = length b.line + operations_left b.max_ops
