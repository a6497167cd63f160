-- Whether components stand in order, one of them at a time, and the oldest of the newest of them.
use Rattle.std.proofs.Common.{◌≡◌, ℕ, suc, ◌+◌, ◌-◌, ◌<◌, ◌≤◌, ◌||◌, Bool, true, false, cond, not, length, ap, refl, sym, arith}
use Rattle.std.specs.Prelude.{nat_lt}
use Rattle.std.proofs.lemmas.Bool.Decides.{nat_tests}
use Rattle.aat_kinds.specs.Ligature.{Registers, component}
use Rattle.aat_closing.specs.Closing.{are_in_order, oldest_of_newest}

-- the next two stand in order, or do not
in_order_suc : (r : Registers) (i n : ℕ) → component r i < component r (i + 1) → are_in_order r i (suc n) ≡ are_in_order r (i + 1) n
unfolding are_in_order
in_order_suc r i n below = let yes : nat_lt (component r i) (component r (i + 1)) ≡ true = grind (arith, nat_tests, below) in rw yes refl

out_of_order : (r : Registers) (i n : ℕ) → component r (i + 1) ≤ component r i → are_in_order r i (suc n) ≡ false
unfolding are_in_order
out_of_order r i n above = let no : nat_lt (component r i) (component r (i + 1)) ≡ false = grind (arith, nat_tests, above) in rw no refl

-- the same of as many as are left
pub in_order_more : (r : Registers) (i left rest : ℕ) → left ≡ rest + 1 → component r i < component r (i + 1) → are_in_order r i left ≡ are_in_order r (i + 1) rest
in_order_more r i left rest next below = let e : left ≡ suc rest = omega arith in rw e (in_order_suc r i rest below)

pub in_order_not : (r : Registers) (i left : ℕ) → 0 < left → component r (i + 1) ≤ component r i → are_in_order r i left ≡ false
in_order_not r i left some above = let e : left ≡ suc (left - 1) = omega arith in rw e (out_of_order r i (left - 1) above)

-- none is left to look at
pub in_order_none : (r : Registers) (i left : ℕ) → left ≡ 0 → are_in_order r i left ≡ true
unfolding are_in_order
in_order_none r i left none = rw none refl

-- a choice of three by its second test, and by its third one
choice_none : (x y z : Bool) (n : ℕ) → y ≡ true → 0 ≡ cond (x || (y || z)) 0 n
choice_none true y z n is = refl
choice_none false y z n is = sym (ap (λ (t : Bool). cond (t || z) 0 n) is)

choice_last : (x y z : Bool) (n : ℕ) → z ≡ true → 0 ≡ cond (x || (y || z)) 0 n
choice_last true y z n is = refl
choice_last false true z n is = refl
choice_last false false z n is = sym (ap (λ (t : Bool). cond t 0 n) is)

-- the oldest of the m newest: the first place where fewer are held, where there are fewer slots, and where they are out
-- of order
pub few_held : (r : Registers) (m : ℕ) → r.count < m → 0 ≡ oldest_of_newest r m
few_held r m few = let yes : nat_lt r.count m ≡ true = grind (arith, nat_tests, few) in rw yes refl

pub few_slots : (r : Registers) (m : ℕ) → length r.slots < m → 0 ≡ oldest_of_newest r m
few_slots r m few =
    let yes : nat_lt (length r.slots) m ≡ true = grind (arith, nat_tests, few) in
    choice_none (nat_lt r.count m) (nat_lt (length r.slots) m) (not (are_in_order r (r.count - m) (m - 1))) (component r (r.count - m)) yes

pub overwritten : (r : Registers) (m : ℕ) → are_in_order r (r.count - m) (m - 1) ≡ false → 0 ≡ oldest_of_newest r m
overwritten r m out =
    choice_last (nat_lt r.count m) (nat_lt (length r.slots) m) (not (are_in_order r (r.count - m) (m - 1))) (component r (r.count - m)) (ap not out)

-- else the place of that component
pub all_held : (r : Registers) (m : ℕ) → m ≤ r.count → m ≤ length r.slots → are_in_order r (r.count - m) (m - 1) ≡ true → component r (r.count - m) ≡ oldest_of_newest r m
all_held r m held room ordered =
    let enough : nat_lt r.count m ≡ false = grind (arith, nat_tests, held) in
    let fit : nat_lt (length r.slots) m ≡ false = grind (arith, nat_tests, room) in
    rw (enough, fit, ordered) refl
