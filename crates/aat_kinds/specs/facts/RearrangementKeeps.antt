-- What the rearrangement act keeps of places, clusters and glyph ids.
use Rattle.std.proofs.Common.{◌≡◌, ℕ, ◌<◌, ◌≤◌, length, get_or, ◌∙◌, arith, List}
use Rattle.std.proofs.lemmas.List.{length-map, get_or-map}
use Rattle.std.proofs.lemmas.List.Elements.{All-map}
use Rattle.std.proofs.lemmas.List.Sorted.{All-permutation}
use Rattle.std.specs.Prelude.{All, IsPermutation}
use Rattle.aat_buffer.specs.Buffer.{Is16Bit}
use Rattle.aat_buffer.specs.Clusters.{ids}
use Rattle.aat_glyph.specs.declared.glyph.hb_glyph_info_t.{hb_glyph_info_t}
use Rattle.aat_run.specs.Laws.{KeepsPlace, KeepsClusterOrder, MakesNoPositions}
use Rattle.aat_kinds.specs.Lawful.{KeepsSmall}
use Rattle.aat_kinds.specs.Rearrangement.{IsFit, act}
use Rattle.aat_kinds.specs.facts.OrderHolds.{rearrangement_kept}
use Rattle.aat_kinds.specs.facts.Permutation.{act_permutes}
use Rattle.aat_kinds.specs.facts.RearrangementLaws as laws

-- numbers of at most 16 bits, as the ids of a line
small_of_small_ids : (gs : List hb_glyph_info_t) → All (λ n. n ≤ 65535) (ids gs) → All Is16Bit gs
small_of_small_ids gs small k d low =
    let id : hb_glyph_info_t → ℕ = λ g. g.glyph_id in
    let inside : k < length (ids gs) = omega (arith, low, length-map gs id) in
    let equal : get_or (ids gs) k 0 ≡ id (get_or gs k d) = get_or-map id gs k d 0 low in
    omega (arith, equal, small k 0 inside)

-- a permutation keeps ids to 16 bits
pub small_of_permuted : (gs hs : List hb_glyph_info_t) → IsPermutation (ids gs) (ids hs) → All Is16Bit gs → All Is16Bit hs
small_of_permuted gs hs permuted small =
    small_of_small_ids hs (All-permutation (λ n. n ≤ 65535) (ids gs) (ids hs) permuted (All-map (λ n. n ≤ 65535) (λ (g : hb_glyph_info_t). g.glyph_id) gs small))

pub keeps_small : (bound : ℕ) → KeepsSmall (act bound) IsFit
keeps_small bound e r b fit small = small_of_permuted b.line (act bound e r b).buffer.line (act_permutes bound e r b fit) small

pub makes_no_positions : (bound : ℕ) → MakesNoPositions (act bound) IsFit
makes_no_positions bound e r b fit none = laws.keeps_positions bound e r b fit ∙ none

pub keeps_place : (bound : ℕ) → KeepsPlace (act bound) IsFit
keeps_place bound = record { length = laws.keeps_length bound; cursor = laws.keeps_cursor bound; positions = laws.keeps_positions bound }

pub keeps_order : (bound : ℕ) → KeepsClusterOrder (act bound) IsFit
keeps_order bound = record {
  rising = λ e r b fit level ordered. (rearrangement_kept (λ x y. x ≤ y) (λ x y same. omega (arith, same)) bound e r b fit).ordered level ordered;
  falling = λ e r b fit level ordered. (rearrangement_kept (λ x y. y ≤ x) (λ x y same. omega (arith, same)) bound e r b fit).ordered level ordered;
  clusters = λ e r b fit. (rearrangement_kept (λ x y. x ≤ y) (λ x y same. omega (arith, same)) bound e r b fit).from;
}
