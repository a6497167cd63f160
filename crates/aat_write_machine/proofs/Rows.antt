-- Rows of indexes, and the highest state that rows name.
use Rattle.std.proofs.Common.{◌≡◌, ℕ, zero, suc, ◌+◌, ◌-◌, ◌*◌, ◌/◌, ◌<◌, ◌≤◌, ◌≢◌, List, [], ◌∷◌, ◌++◌, length, get_or, max, take, drop, Bool, if◌then◌else◌, Option, Some, sym, ap, ◌∙◌, append_assoc, arith}
use Rattle.std.specs.Int.{w16, to_be_bytes}
use Rattle.std.specs.List.{flat_map, range_with_len}
use Rattle.std.proofs.lemmas.List.Concat.{flat_map-append}
use Rattle.std.proofs.lemmas.Bool.{eq-eqb, ne_eqb}
use Rattle.std.proofs.lemmas.List.{append-nil, at_drop_more, take_more}
use Rattle.std.proofs.lemmas.List.Sums.{fold-append, fold_more}
use Rattle.std.proofs.Math.Nat.{mul-le-mul_left}
use Rattle.std.proofs.Math.Seq.{take-add}
use Rattle.aat_bytes.specs.facts.Ranges.{range_more}
use Rattle.aat_machine_tables.specs.Table.{Rule, rule_key}
use Rattle.aat_machine_tables.specs.declared.state_table.GenericStateEntry.{GenericStateEntry}
use Rattle.aat_write_machine.specs.EntryWords.{rule_words}
use Rattle.aat_write_machine.specs.Words.{word_bytes}
use Rattle.aat_write_machine.specs.MachineRefusals.{cell_key, highest_from, highest_named, misplaced_from}

-- the index of one cell more
pub one_index_more : (n : ℕ) → word_bytes (range_with_len 0 (n + 1)) ≡ word_bytes (range_with_len 0 n) ++ word_bytes (n ∷ [])
one_index_more n =
    ap word_bytes (range_more n) ∙ flat_map-append (to_be_bytes w16) (range_with_len 0 n) (n ∷ [])

-- the highest state of one row more
pub one_row_more :
    {T : Type 0} (width state : ℕ) (rules : List (Rule (GenericStateEntry T)))
    → 1 ≤ state
    → highest_from (highest_named width rules (state - 1)) (take (state * width - (state - 1) * width) (drop ((state - 1) * width) rules))
    ≡ highest_named width rules state
one_row_more width zero rules some = absurd (omega arith)
one_row_more width (suc before) rules some =
    let less : suc before - 1 ≡ before = omega arith in
    let wide : suc before * width ≡ before * width + width = omega arith in
    let row : suc before * width - before * width ≡ width = omega (arith, wide) in
    rw less (rw row (
    sym (fold-append (λ most (r : Rule (GenericStateEntry _)). max most r.2.new_state) 0 (take (before * width) rules) (take width (drop (before * width) rules)))
    ∙ ap (highest_from 0) (sym (take-add (before * width) width rules))
    ∙ ap (λ k. highest_from 0 (take k rules)) (sym wide)))

-- the highest state with one row more, from the highest state so far
pub row_is_read :
    {T : Type 0} (width state most result : ℕ) (rules : List (Rule (GenericStateEntry T)))
    → 1 ≤ state
    → most ≡ highest_named width rules (state - 1)
    → result ≡ highest_from most (take (state * width - (state - 1) * width) (drop ((state - 1) * width) rules))
    → result ≡ highest_named width rules state
row_is_read width state most result rules some so_far is =
    let row = take (state * width - (state - 1) * width) (drop ((state - 1) * width) rules) in
    is ∙ ap (λ h. highest_from h row) so_far ∙ one_row_more width state rules some

-- rows that are there lie within the rules
pub row_within : (width rows count : ℕ) → 0 < width → rows ≤ count / width → rows * width ≤ count
row_within width rows count some few = omega (arith, mul-le-mul_left width few)

-- the highest state with one rule more
pub rule_is_read :
    {T : Type 0} (most i highest now : ℕ) (rules : List (Rule (GenericStateEntry T))) (rule : Rule (GenericStateEntry T))
    → i < length rules → rule ≡ get_or rules i rule
    → highest ≡ highest_from most (take i rules) → now ≡ max highest rule.2.new_state
    → now ≡ highest_from most (take (i + 1) rules)
rule_is_read most i highest now rules rule below read so_far is =
    is
    ∙ ap (λ h. max h rule.2.new_state) so_far
    ∙ ap (λ (r : Rule (GenericStateEntry _)). max (highest_from most (take i rules)) r.2.new_state) read
    ∙ sym (fold_more (λ m (r : Rule (GenericStateEntry _)). max m r.2.new_state) most rules i rule below)

-- what is misplaced from a cell on, by the rule there
from_cell :
    {T : Type 0} (width cell : ℕ) (rules : List (Rule (GenericStateEntry T))) (rule : Rule (GenericStateEntry T)) (all : Option ℕ)
    → cell < length rules → rule ≡ get_or rules cell rule → misplaced_from width cell (drop cell rules) ≡ all
    → misplaced_from width cell (rule ∷ drop (cell + 1) rules) ≡ all
from_cell {T = T} width cell rules rule all below read left =
    ap (λ (r : Rule (GenericStateEntry T)). misplaced_from width cell (r ∷ drop (cell + 1) rules)) read
    ∙ sym (at_drop_more (misplaced_from width cell) rules cell rule below)
    ∙ left

-- a rule that is that of its cell is passed
pub cell_is_passed :
    {T : Type 0} (width cell key : ℕ) (rules : List (Rule (GenericStateEntry T))) (rule : Rule (GenericStateEntry T)) (all : Option ℕ)
    → cell < length rules → rule ≡ get_or rules cell rule → misplaced_from width cell (drop cell rules) ≡ all
    → key ≡ rule_key rule → key ≡ cell_key width cell → misplaced_from width (cell + 1) (drop (cell + 1) rules) ≡ all
cell_is_passed width cell key rules rule all below read left is same =
    let rest = misplaced_from width (cell + 1) (drop (cell + 1) rules) in
    sym (ap (λ (b : Bool). if b then rest else Some cell) (eq-eqb (rule_key rule) (cell_key width cell) (sym is ∙ same)))
    ∙ from_cell width cell rules rule all below read left

-- one that is not is the first that is misplaced
pub cell_is_other :
    {T : Type 0} (width cell key : ℕ) (rules : List (Rule (GenericStateEntry T))) (rule : Rule (GenericStateEntry T)) (all : Option ℕ)
    → cell < length rules → rule ≡ get_or rules cell rule → misplaced_from width cell (drop cell rules) ≡ all
    → key ≡ rule_key rule → key ≢ cell_key width cell → Some cell ≡ all
cell_is_other width cell key rules rule all below read left is other =
    let rest = misplaced_from width (cell + 1) (drop (cell + 1) rules) in
    sym (ap (λ (b : Bool). if b then rest else Some cell) (ne_eqb (rule_key rule) (cell_key width cell) (λ same. other (is ∙ same))))
    ∙ from_cell width cell rules rule all below read left

-- an index that is appended behind those of so many cells
pub index_is_appended :
    (before now new : List ℕ) (n : ℕ)
    → now ≡ before ++ word_bytes (range_with_len 0 n) → new ≡ now ++ word_bytes (n ∷ [])
    → new ≡ before ++ word_bytes (range_with_len 0 (n + 1))
index_is_appended before now new n so_far is =
    is ∙ ap (λ xs. xs ++ word_bytes (n ∷ [])) so_far
    ∙ append_assoc before (word_bytes (range_with_len 0 n)) (word_bytes (n ∷ []))
    ∙ ap (λ xs. before ++ xs) (sym (one_index_more n))

-- an entry that is appended behind those of the rules before it
pub entry_is_appended :
    {T : Type 0} (words_of : T → List ℕ) (rules : List (Rule (GenericStateEntry T))) (i : ℕ) (rule : Rule (GenericStateEntry T)) (front here begun new : List ℕ)
    → i < length rules → rule ≡ get_or rules i rule
    → here ≡ front ++ word_bytes (flat_map (rule_words words_of) (take i rules))
    → begun ≡ here ++ word_bytes (rule.2.new_state ∷ rule.2.flags ∷ []) → new ≡ begun ++ word_bytes (words_of rule.2.extra)
    → new ≡ front ++ word_bytes (flat_map (rule_words words_of) (take (i + 1) rules))
entry_is_appended {T = T} words_of rules i rule front here begun new below read so_far first is =
    let done = flat_map (rule_words words_of) (take i rules) in
    let head = word_bytes (rule.2.new_state ∷ rule.2.flags ∷ []) in
    let tail = word_bytes (words_of rule.2.extra) in
    let last : flat_map (rule_words words_of) (get_or rules i rule ∷ []) ≡ rule_words words_of rule =
    append-nil (rule_words words_of (get_or rules i rule)) ∙ ap (rule_words words_of) (sym read) in
    let next : flat_map (rule_words words_of) (take (i + 1) rules) ≡ done ++ rule_words words_of rule =
    ap (flat_map (rule_words words_of)) (take_more rules i rule below)
    ∙ flat_map-append (rule_words words_of) (take i rules) (get_or rules i rule ∷ [])
    ∙ ap (λ (ws : List ℕ). done ++ ws) last in
    is
    ∙ ap (λ (bs : List ℕ). bs ++ tail) (first ∙ ap (λ (bs : List ℕ). bs ++ head) so_far)
    ∙ append_assoc (front ++ word_bytes done) head tail
    ∙ append_assoc front (word_bytes done) (head ++ tail)
    ∙ ap (λ (bs : List ℕ). front ++ bs) (sym (flat_map-append (to_be_bytes w16) done (rule_words words_of rule)) ∙ ap word_bytes (sym next))
