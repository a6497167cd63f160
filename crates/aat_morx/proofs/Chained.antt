-- One chain more of a map: what was run so far, why it is refused, and what it stays within.
use Rattle.std.proofs.Common.{◌≡◌, ◌∙◌, ap, sym, subst, ℕ, ◌+◌, ◌*◌, ◌<◌, ◌≤◌, List, length, take, get_or, vec_len, arith}
use Rattle.std.proofs.Math.Nat.{mul-le-mul_left}
use Rattle.std.proofs.lemmas.List.{take_all}
use Rattle.std.proofs.lemmas.List.Sums.{sum_by_more}
use Rattle.aat_buffer.specs.Buffer.{Buffer}
use Rattle.aat_machine_tables.specs.Chains.{subtable_count}
use Rattle.aat_machine_tables.specs.declared.morx.Chain.{Chain}
use Rattle.aat_machine_tables.specs.declared.morx.Subtable.{Subtable}
use Rattle.aat_kinds.specs.Kinds.{Sizes}
use Rattle.aat_map.specs.Map.{list_at}
use Rattle.aat_map.specs.SwitchedChains.{SwitchedChain, switched_by, with_switch}
use Rattle.aat_map.specs.facts.Switched.{length-switched_by, switched_by_at}
use Rattle.aat_morx.proofs.LawsHold.{chain_lengthens, subtable_is_bounded}
use Rattle.aat_morx.proofs.Refused.{refusal_within}
use Rattle.aat_morx.specs.Substitution.{chain_run, subtable_run}
use Rattle.aat_run.specs.Budget.{extent}
use Rattle.aat_run.specs.Driven.{IsRefusal, StaysWithin}
use Rattle.aat_run.specs.Outcome.{IsOutcome, Outcome, in_order, then_run}
use Rattle.aat_run.specs.Ranges.{switch_for}
use Rattle.aat_run.specs.Switches.{Switch}
use Rattle.aat_run.specs.declared.error.AatError.{AatError}
use Rattle.aat_run.specs.declared.ranges.range_flags_t.{range_flags_t}
use Rattle.aat_run.specs.facts.InOrder.{in_order_more}
use Rattle.aat_run.specs.facts.Settings.{settings_then}

-- subtables under ranges, as a chain that is switched
abbrev pub switched_over : List range_flags_t → List Subtable → SwitchedChain
switched_over ranges subtables = record { switch = switch_for ranges; subtables = subtables }

module _ (z : Sizes) (chains : List Chain) (lists : List (List range_flags_t)) (b : Buffer) (i : ℕ) (chain : Chain) (ranges : List range_flags_t) (subtables : List Subtable)
    (below : i < length chains) (read : chain ≡ get_or chains i chain) (listed : ranges ≡ list_at lists i) (held : subtables ≡ chain.subtables.items) (d : Buffer) (turns : ℕ)
    (so_far : IsOutcome (in_order (chain_run z) (take i (switched_by chains lists)) b) d turns)
  where
    abbrev here : SwitchedChain
    here = with_switch (switch_for (list_at lists i)) chain

    is_here : switched_over ranges subtables ≡ here
    is_here = ap (λ (rs : List range_flags_t). switched_over rs subtables) listed ∙ ap (switched_over (list_at lists i)) held

    within : i < length (switched_by chains lists)
    within = omega (arith, length-switched_by chains lists, below)

    at_place : here ≡ get_or (switched_by chains lists) i here
    at_place = switched_by_at chains lists i chain here below read

    pub chain_ran : (v : Buffer) (more : ℕ) → IsOutcome (chain_run z (switched_over ranges subtables) d) v more
        → IsOutcome (in_order (chain_run z) (take (i + 1) (switched_by chains lists)) b) v (turns + more)
    chain_ran v more ran =
        ap (λ (o : Outcome). record { buffer = o.buffer; turns = turns + o.turns }) (ran ∙ ap (λ (x : SwitchedChain). chain_run z x d) is_here)
        ∙ ap (λ (o : Outcome). then_run o (chain_run z here)) so_far
        ∙ sym (in_order_more (chain_run z) (switched_by chains lists) i here b within at_place)

    pub chain_refused : (e : AatError) → 0 < z.slots → d.max_len ≡ b.max_len → IsRefusal d (chain_run z (switched_over ranges subtables) d).buffer e
        → IsRefusal b (in_order (chain_run z) (switched_by chains lists) b).buffer e
    chain_refused e some same refused =
        refusal_within (chain_run z) (switched_by chains lists) i here b d e (λ y x. chain_lengthens z y x some) within at_place
        (ap (λ (o : Outcome). o.buffer) so_far) same (subst (λ (x : SwitchedChain). IsRefusal d (chain_run z x d).buffer e) is_here refused)

-- what one chain more stays within
pub stays_with_more :
    (chains : List Chain) (i : ℕ) (chain : Chain) (count : ℕ) (b d v : Buffer) (turns more : ℕ) → i < length chains
    → chain ≡ get_or chains i chain → count ≡ vec_len chain.subtables
    → StaysWithin (subtable_count (take i chains)) b d turns → StaysWithin count d v more
    → StaysWithin (subtable_count (take (i + 1) chains)) b v (turns + more)
stays_with_more chains i chain count b d v turns more below read held before own =
    let s = sum_by_more (λ (c : Chain). vec_len c.subtables) chains i chain below in
    let le : extent d + 1 ≤ extent b + 1 = omega (arith, before.extent) in
    let room = mul-le-mul_left (vec_len chain.subtables) le in
    let counted : more ≤ vec_len chain.subtables * (extent d + 1) = rw held at own.counted in
    record {
      ids = own.ids;
      counted = rw (s, ← read) (omega (arith, room, counted, before.counted));
      extent = omega (arith, own.extent, before.extent);
      settings = settings_then b d v before.settings own.settings;
    }

-- why a subtable is refused, its chain is
pub subtable_refused :
    (z : Sizes) (switch : Switch) (ss : List Subtable) (i : ℕ) (s : Subtable) (b d : Buffer) (turns : ℕ) (e : AatError)
    → 0 < z.slots → i < length ss → s ≡ get_or ss i s
    → IsOutcome (in_order (subtable_run z switch) (take i ss) b) d turns → d.max_len ≡ b.max_len
    → IsRefusal d (subtable_run z switch s d).buffer e → IsRefusal b (in_order (subtable_run z switch) ss b).buffer e
subtable_refused z switch ss i s b d turns e some below read so_far same refused =
    refusal_within (subtable_run z switch) ss i s b d e (λ t x. (subtable_is_bounded z switch t x some).length) below read
    (ap (λ (o : Outcome). o.buffer) so_far) same refused

-- behind the last chain all have run
pub all_chains_ran :
    (z : Sizes) (chains : List Chain) (lists : List (List range_flags_t)) (b : Buffer) (i : ℕ) (d : Buffer) (turns : ℕ) → length chains ≤ i
    → IsOutcome (in_order (chain_run z) (take i (switched_by chains lists)) b) d turns
    → IsOutcome (in_order (chain_run z) (switched_by chains lists) b) d turns
all_chains_ran z chains lists b i d turns past so_far =
    let whole : length (switched_by chains lists) ≤ i = omega (arith, length-switched_by chains lists, past) in
    so_far ∙ ap (λ (cs : List SwitchedChain). in_order (chain_run z) cs b) (take_all i (switched_by chains lists) whole)
