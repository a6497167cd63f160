-- One subtable or chain more: what was run so far, and why it is refused.
use Rattle.std.proofs.Common.{◌≡◌, ◌∙◌, ap, sym, subst, ℕ, ◌+◌, ◌&&◌, ◌<◌, ◌≤◌, List, length, take, get_or, arith}
use Rattle.std.proofs.lemmas.List.{take_all}
use Rattle.aat_buffer.specs.Buffer.{Buffer}
use Rattle.aat_machine_tables.specs.declared.morx.Chain.{Chain}
use Rattle.aat_machine_tables.specs.declared.morx.Subtable.{Subtable}
use Rattle.aat_kinds.specs.Kinds.{Sizes}
use Rattle.aat_map.specs.Map.{list_at}
use Rattle.aat_map.specs.SwitchedChains.{SwitchedChain, switched_by, with_switch}
use Rattle.aat_map.specs.facts.Switched.{length-switched_by, switched_by_at}
use Rattle.aat_morx.proofs.Chained.{switched_over}
use Rattle.aat_run.specs.Budget.{extent}
use Rattle.aat_run.specs.Driven.{IsRefusal, StaysWithin}
use Rattle.aat_run.specs.Ranges.{switch_for}
use Rattle.aat_run.specs.Switches.{Switch}
use Rattle.aat_run.specs.declared.driver.MachineRun.{MachineRun}
use Rattle.aat_run.specs.declared.error.AatError.{AatError}
use Rattle.aat_run.specs.declared.ranges.range_flags_t.{range_flags_t}
use Rattle.aat_run.specs.facts.Settings.{settings_then}
use Rattle.aat_closing.proofs.ClosingRoom.{closing_chain_lengthens, closing_subtable_lengthens}
use Rattle.aat_closing.proofs.ToldInOrder.{told_more, told_refusal_within, told_then}
use Rattle.aat_closing.specs.ClosingChains.{closing_chain, closing_subtable}
use Rattle.aat_closing.specs.ClosingRuns.{IsTold, Told, told_in_order}

-- what two runs answer, one behind the other
abbrev pub after : MachineRun → MachineRun → MachineRun
after before ran = record { turns = before.turns + ran.turns; is_through = before.is_through && ran.is_through }

-- one run more
pub one_more_told : {X : Type 0} (run : X → Buffer → Told) (xs : List X) (i : ℕ) (x : X) (b d v : Buffer) (told more both : MachineRun) → both ≡ after told more → i < length xs → x ≡ get_or xs i x
    → IsTold (told_in_order run (take i xs) b) d told → IsTold (run x d) v more
    → IsTold (told_in_order run (take (i + 1) xs) b) v both
one_more_told run xs i x b d v told more both is below read so_far ran =
    ap (λ (o : MachineRun). record { buffer = v; turns = o.turns; is_told = o.is_through }) is
    ∙ ap (λ (o : Told). record { buffer = o.buffer; turns = told.turns + o.turns; is_told = told.is_through && o.is_told }) ran
    ∙ ap (λ (o : Told). told_then o (run x)) so_far
    ∙ sym (told_more run xs i x b below read)

-- what one subtable more stays within
pub within_one_more : (count : ℕ) (b d v : Buffer) (turns more : ℕ) → StaysWithin count b d turns → StaysWithin 1 d v more → StaysWithin (count + 1) b v (turns + more)
within_one_more count b d v turns more before own =
    let less : more ≤ extent b + 1 = omega (arith, own.counted, before.extent) in
    record {
      ids = own.ids;
      counted = omega (arith, less, before.counted);
      extent = omega (arith, own.extent, before.extent);
      settings = settings_then b d v before.settings own.settings;
    }

-- why a subtable is refused, its chain is
pub closing_subtable_refused :
    (z : Sizes) (switch : Switch) (ss : List Subtable) (i : ℕ) (s : Subtable) (b d : Buffer) (told : MachineRun) (e : AatError)
    → 0 < z.slots → i < length ss → s ≡ get_or ss i s
    → IsTold (told_in_order (closing_subtable z switch) (take i ss) b) d told → d.max_len ≡ b.max_len
    → IsRefusal d (closing_subtable z switch s d).buffer e → IsRefusal b (told_in_order (closing_subtable z switch) ss b).buffer e
closing_subtable_refused z switch ss i s b d told e some below read so_far same refused =
    told_refusal_within (closing_subtable z switch) (closing_subtable_lengthens z switch some) ss i s b d e below read (ap (λ (o : Told). o.buffer) so_far) same refused

module _ (z : Sizes) (chains : List Chain) (lists : List (List range_flags_t)) (b : Buffer) (i : ℕ) (chain : Chain) (ranges : List range_flags_t) (subtables : List Subtable)
    (below : i < length chains) (read : chain ≡ get_or chains i chain) (listed : ranges ≡ list_at lists i) (held : subtables ≡ chain.subtables.items) (d : Buffer) (told : MachineRun)
    (so_far : IsTold (told_in_order (closing_chain z) (take i (switched_by chains lists)) b) d told)
  where
    abbrev here : SwitchedChain
    here = with_switch (switch_for (list_at lists i)) chain

    is_here : switched_over ranges subtables ≡ here
    is_here = ap (λ (rs : List range_flags_t). switched_over rs subtables) listed ∙ ap (switched_over (list_at lists i)) held

    within : i < length (switched_by chains lists)
    within = omega (arith, length-switched_by chains lists, below)

    at_place : here ≡ get_or (switched_by chains lists) i here
    at_place = switched_by_at chains lists i chain here below read

    pub closing_chain_ran : (v : Buffer) (more both : MachineRun) → both ≡ after told more → IsTold (closing_chain z (switched_over ranges subtables) d) v more
        → IsTold (told_in_order (closing_chain z) (take (i + 1) (switched_by chains lists)) b) v both
    closing_chain_ran v more both is ran =
        one_more_told (closing_chain z) (switched_by chains lists) i here b d v told more both is within at_place so_far (ran ∙ ap (λ (x : SwitchedChain). closing_chain z x d) is_here)

    pub closing_chain_refused : (e : AatError) → 0 < z.slots → d.max_len ≡ b.max_len → IsRefusal d (closing_chain z (switched_over ranges subtables) d).buffer e
        → IsRefusal b (told_in_order (closing_chain z) (switched_by chains lists) b).buffer e
    closing_chain_refused e some same refused =
        told_refusal_within (closing_chain z) (closing_chain_lengthens z some) (switched_by chains lists) i here b d e within at_place
        (ap (λ (o : Told). o.buffer) so_far) same (subst (λ (x : SwitchedChain). IsRefusal d (closing_chain z x d).buffer e) is_here refused)

-- behind the last chain all have run
pub all_chains_told :
    (z : Sizes) (chains : List Chain) (lists : List (List range_flags_t)) (b : Buffer) (i : ℕ) (d : Buffer) (told : MachineRun) → length chains ≤ i
    → IsTold (told_in_order (closing_chain z) (take i (switched_by chains lists)) b) d told
    → IsTold (told_in_order (closing_chain z) (switched_by chains lists) b) d told
all_chains_told z chains lists b i d told past so_far =
    let whole : length (switched_by chains lists) ≤ i = omega (arith, length-switched_by chains lists, past) in
    so_far ∙ ap (λ (cs : List SwitchedChain). told_in_order (closing_chain z) cs b) (take_all i (switched_by chains lists) whole)
