-- Pairs and rules of which none is too far.
use Rattle.std.proofs.Common.{◌≡◌, ℕ, ◌*◌, ◌<◌, ◌≤◌, List, length, get_or, Bool, true, false, cond, Some, None, position, refl, arith}
use Rattle.std.specs.Prelude.{nat_lt}
use Rattle.std.specs.List.{position_or_len}
use Rattle.std.proofs.lemmas.Bool.{ltb-false}
use Rattle.std.proofs.lemmas.List.Sums.{fails_before_first}
use Rattle.aat_machine_tables.specs.Table.{Rule}
use Rattle.aat_machine_tables.specs.declared.entries.EntryData.{EntryData}
use Rattle.aat_machine_tables.specs.declared.state_table.GenericStateEntry.{GenericStateEntry}
use Rattle.aat_write_kerx.specs.MachineBytes.{action_number, is_far}
use Rattle.aat_write_kerx.specs.PairBytes.{first_far}

none_by : (b : Bool) (n : ℕ) → cond b (Some n) None ≡ None → b ≡ false
none_by true n is = absurd (let wrong : ⊥ = cc in wrong)
none_by false n is = refl

-- where none passes, each fails
pub each_fails :
    {X : Type 0} (p : X → Bool) (xs : List X) (k : ℕ) (d : X)
    → position p xs ≡ None → k < length xs → p (get_or xs k d) ≡ false
each_fails p xs k d none below =
    let place : ℕ = position_or_len p xs in
    let past : length xs ≤ place = ltb-false place (length xs) (none_by (nat_lt place (length xs)) place none) in
    fails_before_first p xs k d (omega arith)

-- the offset of the row of each class has 16 bits
pub row_is_near :
    (width : ℕ) (pairs : List (ℕ × ℕ)) (k : ℕ) (d : ℕ × ℕ)
    → first_far width pairs ≡ None → k < length pairs → (get_or pairs k d).1 * width ≤ 65535
row_is_near width pairs k d none below =
    ltb-false 65535 ((get_or pairs k d).1 * width) (each_fails (λ (p : ℕ × ℕ). nat_lt 65535 (p.1 * width)) pairs k d none below)

-- what stands for the place of each action has 16 bits
pub action_is_near :
    (counts_bytes : Bool) (rules : List (Rule (GenericStateEntry EntryData))) (k : ℕ) (d : Rule (GenericStateEntry EntryData))
    → position (is_far counts_bytes) rules ≡ None → k < length rules
    → action_number counts_bytes (get_or rules k d).2.extra.action_index ≤ 65535
action_is_near counts_bytes rules k d none below =
    ltb-false 65535 (action_number counts_bytes (get_or rules k d).2.extra.action_index)
    (each_fails (is_far counts_bytes) rules k d none below)
