-- What it says of the rules of a state table that they have no fault, or which one they have.
use Rattle.std.proofs.Common.{◌≡◌, ◌≤◌, ℕ, List, Some, None, Option, Bool, true, false, refl, subst, arith, cond, ltb}
use Rattle.std.proofs.lemmas.Bool.Decides.{nat_tests}
use Rattle.aat_lookup.specs.Keys.{IsRising, first, first_fall}
use Rattle.aat_machine_tables.specs.Table.{Rule, rule_key, first_out_of_range, earlier_fault, rules_fault, table_fault}
use Rattle.aat_lookup.specs.TableErrors.{RefusesFault}
use Rattle.aat_lookup.specs.declared.error.TableError.{TableError}
use Rattle.aat_lookup.specs.declared.error.TableError.TheVariants.{NotRising, ClassOutOfRange}
use Rattle.aat_lookup.specs.facts.Falls.{rising}

-- a choice of two faults is a fault
chosen_some : (b : Bool) (e f : TableError) → cond b (Some e) (Some f) ≡ None → ⊥
chosen_some true e f h = cc
chosen_some false e f h = cc

-- without a fault there is no fall
no_fall : (fall place : Option ℕ) → earlier_fault fall place ≡ None → fall ≡ None
no_fall None place h = refl
no_fall (Some i) None h = cc
no_fall (Some i) (Some j) h = absurd (chosen_some (ltb j i) _ _ h)

refused_as : (e f : TableError) → Some e ≡ Some f → RefusesFault (Some e) e → RefusesFault (Some f) f
refused_as e f same refused =
    let equal : e ≡ f = cc in
    let P : TableError → Type 0 = λ x. RefusesFault (Some x) x in
    subst P equal refused

chosen_refused :
    (b : Bool) (i j : ℕ) (e : TableError)
    → cond b (Some (ClassOutOfRange j)) (Some (NotRising i)) ≡ Some e
    → RefusesFault (Some e) e
chosen_refused true i j e h = refused_as (ClassOutOfRange j) e h refl
chosen_refused false i j e h = refused_as (NotRising i) e h refl

refuses : (fall place : Option ℕ) (e : TableError) → earlier_fault fall place ≡ Some e → RefusesFault (Some e) e
refuses None None e h = cc
refuses None (Some j) e h = refused_as (ClassOutOfRange j) e h refl
refuses (Some i) None e h = refused_as (NotRising i) e h refl
refuses (Some i) (Some j) e h = chosen_refused (ltb j i) i j e h

module _ {E : Type 0} (count : ℕ) (rules : List (Rule E)) where
  -- rules without a fault rise
  pub rules_rise : rules_fault count rules ≡ None → IsRising rule_key rules
  rules_rise none = rising rule_key rules (no_fall (first_fall rule_key rules) (first_out_of_range count rules) none)

  -- the fault of the rules is the table's where nothing comes before it
  pub refused_for_rules :
      (classes : List (ℕ × ℕ)) (e : TableError)
      → 4 ≤ count → first_fall first classes ≡ None → rules_fault count rules ≡ Some e
      → RefusesFault (table_fault count classes rules) e
  refused_for_rules classes e enough none bad =
      let few : ltb count 4 ≡ false = grind (arith, nat_tests) in
      rw (few, none, bad) (refuses (first_fall rule_key rules) (first_out_of_range count rules) e bad)
