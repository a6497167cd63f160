-- Chains that are switched by lists, one after another.
use Rattle.std.proofs.Common.{◌≡◌, ap, refl, ℕ, zero, suc, arith, ◌<◌, List, [], ◌∷◌, map, length, get_or}
use Rattle.aat_run.specs.declared.ranges.range_flags_t.{range_flags_t}
use Rattle.aat_machine_tables.specs.declared.morx.Chain.{Chain}
use Rattle.aat_run.specs.Switches.{always_on}
use Rattle.aat_run.specs.Ranges.{switch_for}
use Rattle.aat_map.specs.Map.{list_at}
use Rattle.aat_map.specs.SwitchedChains.{SwitchedChain, switched_by, with_switch}

-- the chain at place i, switched by its list
pub switched_by_at :
    (cs : List Chain) (ls : List (List range_flags_t)) (i : ℕ) (c : Chain) (d : SwitchedChain)
    → i < length cs → c ≡ get_or cs i c
    → with_switch (switch_for (list_at ls i)) c ≡ get_or (switched_by cs ls) i d
switched_by_at [] ls i c d below read = absurd (omega arith)
switched_by_at (a ∷ rest) [] zero c d below read = ap (with_switch (switch_for [])) read
switched_by_at (a ∷ rest) (l ∷ ls) zero c d below read = ap (with_switch (switch_for l)) read
switched_by_at (a ∷ rest) [] (suc i) c d below read = switched_by_at rest [] i c d (omega arith) read
switched_by_at (a ∷ rest) (l ∷ ls) (suc i) c d below read = switched_by_at rest ls i c d (omega arith) read

-- as many as there are chains
pub length-switched_by : (cs : List Chain) (ls : List (List range_flags_t)) → length (switched_by cs ls) ≡ length cs
length-switched_by [] ls = refl
length-switched_by (a ∷ rest) [] = ap suc (length-switched_by rest [])
length-switched_by (a ∷ rest) (l ∷ ls) = ap suc (length-switched_by rest ls)

-- without lists each chain is always on
pub switched_without : (chains : List Chain) → switched_by chains [] ≡ map (with_switch always_on) chains
switched_without [] = refl
switched_without (c ∷ cs) = ap (λ rest. with_switch always_on c ∷ rest) (switched_without cs)
