-- The numbers of subtables, which go from chain to chain.
use Rattle.std.proofs.Common.{◌≡◌, ap, sym, subst, ℕ, ◌+◌, ◌/◌, ◌<◌, ◌≤◌, List, [], Some, length, take, get_or, vec_len, refl, arith}
use Rattle.std.specs.List.{slice_get}
use Rattle.std.proofs.lemmas.List.Sums.{sum_by_more, sum_by-take-le}
use Rattle.std.proofs.lemmas.Option.{slice_get_read, slice_get_within}
use Rattle.aat_machine_tables.specs.Chains.{subtable_count}
use Rattle.aat_machine_tables.specs.declared.morx.Chain.{Chain}
use Rattle.aat_machine_tables.specs.declared.morx.Subtable.{Subtable}
use Rattle.aat_font.specs.Wakers.{AreChainWakers, AreWakers}
use Rattle.aat_font.specs.declared.wakers.GlyphWords.{GlyphWords}

-- a table has few subtables, so has each number
pub number_is_few : (chains : List Chain) (i first : ℕ) → first ≡ subtable_count (take i chains) → subtable_count chains ≤ 65535 → first ≤ 65535
number_is_few chains i first start few = omega (arith, start, few, sum_by-take-le (λ (c : Chain). vec_len c.subtables) chains i)

-- behind a chain the numbers go on
pub number_behind :
    (chains : List Chain) (i : ℕ) (chain : Chain) (count first : ℕ) → i < length chains → chain ≡ get_or chains i chain → count ≡ vec_len chain.subtables
    → first ≡ subtable_count (take i chains) → first + count ≡ subtable_count (take (i + 1) chains)
number_behind chains i chain count first below read held start =
    let s = sum_by_more (λ (c : Chain). vec_len c.subtables) chains i chain below in
    let own : vec_len chain.subtables ≡ vec_len (get_or chains i chain).subtables = ap (λ (c : Chain). vec_len c.subtables) read in
    omega (arith, s, own, held, start)

-- without words none tells
pub no_words : (chains : List Chain) → AreChainWakers chains []
no_words chains i c found k s held w at = absurd (omega (arith, slice_get_within {A = GlyphWords} [] ((subtable_count (take i chains) + k) / 64) w at))

-- the words of a table tell of the subtables of a chain by their numbers
pub wakers_of_chain :
    (all chains : List Chain) (words : List GlyphWords) (i : ℕ) (chain : Chain) (subtables : List Subtable) (first : ℕ)
    → AreChainWakers all words → chains ≡ all → i < length chains → chain ≡ get_or chains i chain → subtables ≡ chain.subtables.items
    → first ≡ subtable_count (take i chains) → AreWakers subtables words first
wakers_of_chain all chains words i chain subtables first tell same below read held start =
    let here : slice_get chains i ≡ Some chain = slice_get_read chains (length chains) i chain refl below read in
    let told : AreChainWakers chains words = subst (λ (cs : List Chain). AreChainWakers cs words) (sym same) tell in
    subst (λ (n : ℕ). AreWakers subtables words n) (sym start)
    (subst (λ (ss : List Subtable). AreWakers ss words (subtable_count (take i chains))) (sym held) (told i chain here))
