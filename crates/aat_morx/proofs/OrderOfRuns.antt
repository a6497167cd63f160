-- Substitution keeps the order of clusters.
use Rattle.std.proofs.Common.{◌≡◌, ℕ, ◌-◌, ◌<◌, List, [], ◌∷◌, length, reverse, refl, sym, ap, ◌∙◌, arith}
use Rattle.std.proofs.lemmas.List.{length-reverse, get_or-reverse}
use Rattle.std.specs.Prelude.{fold}
use Rattle.aat_buffer.specs.Buffer.{Buffer, reversed, without_positions}
use Rattle.aat_buffer.specs.Marks.{clusters_stay_apart}
use Rattle.aat_glyph.specs.declared.glyph.hb_glyph_info_t.{hb_glyph_info_t}
use Rattle.aat_machine_tables.specs.declared.morx.Coverage.{Coverage}
use Rattle.aat_kinds.specs.Kinds.{Sizes, kind_run, reversed_run, is_reversed, ordered_run}
use Rattle.aat_run.specs.Outcome.{Outcome, untouched, then_run}
use Rattle.aat_buffer.specs.Clusters.{IsOrdered, ClustersMerge}
use Rattle.aat_morx.specs.Lawful.{ClustersKeepTheirOrder}
use Rattle.aat_buffer.specs.facts.Cases.{chosen}
use Rattle.aat_buffer.specs.facts.Order.{Kept}
use Rattle.aat_machine_tables.specs.declared.morx.Subtable.{Subtable}
use Rattle.aat_run.specs.Switches.{Switch}
use Rattle.aat_map.specs.SwitchedChains.{SwitchedChain}
use Rattle.aat_morx.specs.Substitution.{is_skipped, subtable_run, chain_run, substituted, prepared}
use Rattle.aat_kinds.proofs.OrderOfKinds.{Rising, Falling, le_same, ge_same, kept_kind, kept_concat}
use Rattle.aat_morx.proofs.ComingClusters.{substitution_comes}

-- a line in one order, read backwards, is in the other
order_of_reverse : (R : ℕ → ℕ → Type 0) (gs : List hb_glyph_info_t) → IsOrdered R gs → IsOrdered (λ x y. R y x) (reverse gs)
order_of_reverse R gs ordered n m d before within =
    let long = length-reverse gs in
    let first : n < length gs = omega (arith, before, within, long) in
    let last : m < length gs = omega (arith, within, long) in
    rw (get_or-reverse gs n d first, get_or-reverse gs m d last) (ordered (length gs - 1 - m) (length gs - 1 - n) d (omega (arith, before, last)) (omega (arith, first)))

-- what substitution keeps of a line in order: it stays in order, at its level
pub record InOrder (R : ℕ → ℕ → Type 0) (level : ℕ) (d : Buffer) : Type 0 where
  pub level_is : d.cluster_level ≡ level
  pub ordered : IsOrdered R d.line

module _ (level : ℕ) (merges : ClustersMerge level) where
  pub in_order_of_kept : (R : ℕ → ℕ → Type 0) (same : (x y : ℕ) → x ≡ y → R x y) (b d : Buffer) → Kept R same b d → InOrder R level b → InOrder R level d
  in_order_of_kept R same b d k o = record {
    level_is = k.level ∙ o.level_is;
    ordered = k.ordered (λ two. merges (ap clusters_stay_apart (sym o.level_is) ∙ two)) o.ordered;
  }

  -- a run that keeps the order in both orders of the line keeps it in the order of a coverage
  pub in_order_of_covered : (R : ℕ → ℕ → Type 0) (same : (x y : ℕ) → x ≡ y → R x y) (flipped : (x y : ℕ) → x ≡ y → R y x) (coverage : Coverage) (run : Buffer → Outcome) (b : Buffer)
      → ((d : Buffer) → Kept R same d (run d).buffer)
      → ((d : Buffer) → Kept (λ x y. R y x) flipped d (run d).buffer) → InOrder R level b → InOrder R level (ordered_run coverage run b).buffer
  in_order_of_covered R same flipped coverage run b each each_turned o =
      let turned : InOrder (λ x y. R y x) level (reversed b) = record { level_is = o.level_is; ordered = order_of_reverse R b.line o.ordered } in
      let behind : InOrder (λ x y. R y x) level (run (reversed b)).buffer = in_order_of_kept (λ x y. R y x) flipped (reversed b) (run (reversed b)).buffer (each_turned (reversed b)) turned in
      chosen (λ (x : Outcome). InOrder R level x.buffer) (is_reversed coverage b.direction) (reversed_run run b) (run b)
      (λ _. record { level_is = behind.level_is; ordered = order_of_reverse (λ x y. R y x) (run (reversed b)).buffer.line behind.ordered })
      (λ _. in_order_of_kept R same b (run b).buffer (each b) o)

  in_order_of_subtable : (R : ℕ → ℕ → Type 0) (same : (x y : ℕ) → x ≡ y → R x y) (flipped : (x y : ℕ) → x ≡ y → R y x) (z : Sizes) (switch : Switch) (s : Subtable) (b : Buffer) → 0 < z.slots
      → InOrder R level b → InOrder R level (subtable_run z switch s b).buffer
  unfolding subtable_run
  in_order_of_subtable R same flipped z switch s b some o =
      let on = switch.is_on s.feature_flags in
      let run = kind_run z on s.kind in
      chosen (λ (x : Outcome). InOrder R level x.buffer) (is_skipped switch s b.direction) (untouched b) (ordered_run s.coverage run b)
      (λ _. o)
      (λ _. in_order_of_covered R same flipped s.coverage run b (λ d. kept_kind R same z on s.kind d some) (λ d. kept_kind (λ x y. R y x) flipped z on s.kind d some) o)

  -- runs one after another, each of which keeps the order
  pub in_order_of_all : {X : Type 0} (R : ℕ → ℕ → Type 0) (run : X → Buffer → Outcome) (xs : List X) (o : Outcome) → ((x : X) (b : Buffer) → InOrder R level b → InOrder R level (run x b).buffer) → InOrder R level o.buffer
      → InOrder R level (fold (λ o x. then_run o (run x)) o xs).buffer
  in_order_of_all R run [] o each k = k
  in_order_of_all R run (x ∷ xs) o each k = in_order_of_all R run xs (then_run o (run x)) each (each x o.buffer k)

substitution_in_order : (R : ℕ → ℕ → Type 0) (same : (x y : ℕ) → x ≡ y → R x y) (flipped : (x y : ℕ) → x ≡ y → R y x) (z : Sizes) (chains : List SwitchedChain) (b : Buffer) → 0 < z.slots
    → ClustersMerge b.cluster_level → IsOrdered R b.line → IsOrdered R (substituted z chains b).buffer.line
substitution_in_order R same flipped z chains b some level ordered =
    let begun : InOrder R b.cluster_level (prepared b) =
    in_order_of_kept b.cluster_level level R same (without_positions b) (prepared b) (kept_concat R same (without_positions b)) (record { level_is = refl; ordered = ordered }) in
    (in_order_of_all b.cluster_level level R (chain_run z) chains (untouched (prepared b))
    (λ c d k. in_order_of_all b.cluster_level level R (subtable_run z c.switch) c.subtables (untouched d) (λ s x h. in_order_of_subtable b.cluster_level level R same flipped z c.switch s x some h) k) begun).ordered

pub clusters_keep_their_order : ClustersKeepTheirOrder
clusters_keep_their_order z chains b some = record {
  rising = substitution_in_order Rising le_same ge_same z chains b some;
  falling = substitution_in_order Falling ge_same le_same z chains b some;
  clusters = substitution_comes z chains b some;
}
