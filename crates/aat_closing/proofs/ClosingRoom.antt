-- How many glyphs the closing runs of all chains leave, in which order of clusters, and so why they are refused.
use Rattle.std.proofs.Common.{◌≡◌, ◌∙◌, ap, sym, subst, refl, ℕ, ◌<◌, ◌≤◌, false, List, length, get_or, arith}
use Rattle.std.proofs.Math.ListN.{get_or-map}
use Rattle.aat_buffer.specs.Buffer.{Buffer}
use Rattle.aat_buffer.specs.Clusters.{IsOrdered}
use Rattle.aat_buffer.specs.Marks.{cluster_at}
use Rattle.aat_glyph.specs.declared.glyph.hb_glyph_info_t.{hb_glyph_info_t}
use Rattle.aat_machine_tables.specs.declared.morx.Chain.{Chain}
use Rattle.aat_machine_tables.specs.declared.morx.Subtable.{Subtable}
use Rattle.aat_kinds.specs.Kinds.{Sizes}
use Rattle.aat_map.specs.SwitchedChains.{SwitchedChain, switched_by}
use Rattle.aat_morx.proofs.LawsHold.{subtable_is_bounded}
use Rattle.aat_morx.proofs.OrderOfRuns.{clusters_keep_their_order}
use Rattle.aat_morx.proofs.Room.{none_refused, number_without_insertion, too_long_by_extent}
use Rattle.aat_morx.specs.Kept.{has_insertion}
use Rattle.aat_morx.specs.Substitution.{chain_run, prepared, substituted, subtable_run}
use Rattle.aat_run.specs.Budget.{extent}
use Rattle.aat_run.specs.Driven.{IsRefusal}
use Rattle.aat_run.specs.Laws.{HasOrderOf}
use Rattle.aat_run.specs.Outcome.{in_order}
use Rattle.aat_run.specs.Switches.{Switch}
use Rattle.aat_run.specs.declared.driver.MachineRun.{MachineRun}
use Rattle.aat_run.specs.declared.error.AatError.{AatError}
use Rattle.aat_run.specs.declared.error.AatError.TheVariants.{AaltValue, TooLong, OutOfMemory, BufferFailed}
use Rattle.aat_run.specs.declared.ranges.range_flags_t.{range_flags_t}
use Rattle.aat_closing.proofs.ToldInOrder.{told_lengthens}
use Rattle.aat_closing.specs.ClosingChains.{closing_chain, closing_subtable}
use Rattle.aat_closing.specs.ClosingRuns.{IsTold, Told, told_in_order}
use Rattle.aat_closing.specs.Unflagged.{SameButFlags, unflagged}
use Rattle.aat_closing.specs.facts.BlindLines.{bare_cluster_at, bare_length}
use Rattle.aat_closing.specs.facts.ChainsErased.{chains_alike, subtable_alike}

-- a buffer, and itself
same_itself : (b : Buffer) → SameButFlags b b
same_itself b = record { line = refl; rest = refl }

-- lines that are one but for the flags have as many glyphs
length_alike : (a b : Buffer) → SameButFlags a b → length a.line ≡ length b.line
length_alike a b same = sym (bare_length a.line) ∙ (ap length same.line ∙ bare_length b.line)

-- no closing run shortens the line: that of a subtable, and of a chain
pub closing_subtable_lengthens : (z : Sizes) (switch : Switch) → 0 < z.slots → (s : Subtable) (b : Buffer) → length b.line ≤ length (closing_subtable z switch s b).buffer.line
closing_subtable_lengthens z switch some s b =
    let same = length_alike (closing_subtable z switch s b).buffer (subtable_run z switch s b).buffer (subtable_alike z switch s b b (same_itself b)).buffer in
    let more = (subtable_is_bounded z switch s b some).length in
    omega (arith, same, more)

pub closing_chain_lengthens : (z : Sizes) → 0 < z.slots → (c : SwitchedChain) (b : Buffer) → length b.line ≤ length (closing_chain z c b).buffer.line
closing_chain_lengthens z some c b = told_lengthens (closing_subtable z c.switch) (closing_subtable_lengthens z c.switch some) c.subtables b

-- lines that are one but for the flags have the same clusters, in the same order
module _ (a b : Buffer) (same : SameButFlags a b) where
  same_cluster : (i : ℕ) (d : hb_glyph_info_t) → (get_or a.line i d).cluster ≡ (get_or b.line i d).cluster
  same_cluster i d =
      let cluster : hb_glyph_info_t → ℕ = λ g. g.cluster in
      sym (ap cluster (get_or-map unflagged a.line i d))
      ∙ (ap (λ (gs : List hb_glyph_info_t). (get_or gs i (unflagged d)).cluster) same.line ∙ ap cluster (get_or-map unflagged b.line i d))

  same_place : (i : ℕ) → cluster_at a.line i ≡ cluster_at b.line i
  same_place i = sym (bare_cluster_at a.line i) ∙ (ap (λ (gs : List hb_glyph_info_t). cluster_at gs i) same.line ∙ bare_cluster_at b.line i)

  ordered_alike : (R : ℕ → ℕ → Type 0) → IsOrdered R b.line → IsOrdered R a.line
  ordered_alike R ordered n m d before within =
      let long = length_alike a b same in
      rw (same_cluster n d, same_cluster m d) (ordered n m d before (rw long at within))

  order_alike : (old : Buffer) → HasOrderOf old b → HasOrderOf old a
  order_alike old order = record {
    rising = λ holds rising. ordered_alike (λ x y. x ≤ y) (order.rising holds rising);
    falling = λ holds falling. ordered_alike (λ x y. y ≤ x) (order.falling holds falling);
    clusters = λ k low.
        let source = order.clusters k (rw (length_alike a b same) at low) in
        (source.0, source.1, same_place k ∙ source.2);
  }

-- a reason for a run is one for a run that leaves as many glyphs
refusal_alike : (old a b : Buffer) (e : AatError) → length a.line ≡ length b.line → IsRefusal old a e → IsRefusal old b e
refusal_alike old a b (AaltValue value) same h = h
refusal_alike old a b TooLong same h = rw same at h
refusal_alike old a b OutOfMemory same h = (rw same at h.0, h.1)
refusal_alike old a b BufferFailed same h = h

module _ (z : Sizes) (chains : List SwitchedChain) (b d : Buffer) (ready : d ≡ prepared b) where
  closed_alike : SameButFlags (told_in_order (closing_chain z) chains d).buffer (substituted z chains b).buffer
  closed_alike = subst (λ (x : Buffer). SameButFlags (told_in_order (closing_chain z) chains x).buffer (substituted z chains b).buffer) (sym ready) (chains_alike z chains b b (same_itself b)).buffer

  -- why the closing runs are refused, the runs are
  run_refused : (e : AatError) → IsRefusal d (told_in_order (closing_chain z) chains d).buffer e → IsRefusal d (in_order (chain_run z) chains d).buffer e
  run_refused e h =
      let same = length_alike (told_in_order (closing_chain z) chains d).buffer (substituted z chains b).buffer closed_alike in
      let left = ap (λ (x : Buffer). length (in_order (chain_run z) chains x).buffer.line) ready in
      refusal_alike d (told_in_order (closing_chain z) chains d).buffer (in_order (chain_run z) chains d).buffer e (same ∙ sym left) h

  -- one that is refused as too long would leave more than the longest line, and at most n + M glyphs
  pub closed_too_long : (e : AatError) → 0 < z.slots → e ≡ TooLong → IsRefusal d (told_in_order (closing_chain z) chains d).buffer e → b.max_len < extent b
  closed_too_long e some is h = too_long_by_extent z chains b d e some ready is (run_refused e h)

-- where no subtable inserts, nothing is refused of a line that has at most its greatest length
pub none_closed_refused : (z : Sizes) (cs : List Chain) (ls : List (List range_flags_t)) (b d : Buffer) (e : AatError) → 0 < z.slots → has_insertion cs ≡ false → length b.line ≤ b.max_len → d ≡ prepared b
    → IsRefusal d (told_in_order (closing_chain z) (switched_by cs ls) d).buffer e → ⊥
none_closed_refused z cs ls b d e some none within ready h = none_refused z cs ls b d e some none within ready (run_refused z (switched_by cs ls) b d ready e h)

-- what was run over what is prepared leaves the clusters in their order, and where no subtable inserts, as many glyphs
module _ (z : Sizes) (cs : List Chain) (ls : List (List range_flags_t)) (b d v : Buffer) (told : MachineRun) (some : 0 < z.slots) (ready : d ≡ prepared b)
    (ran : IsTold (told_in_order (closing_chain z) (switched_by cs ls) d) v told)
  where
    left : SameButFlags v (substituted z (switched_by cs ls) b).buffer
    left = subst (λ (x : Buffer). SameButFlags x (substituted z (switched_by cs ls) b).buffer) (sym (ap (λ (o : Told). o.buffer) ran)) (closed_alike z (switched_by cs ls) b d ready)

    pub order_of_closed : HasOrderOf b v
    order_of_closed = order_alike v (substituted z (switched_by cs ls) b).buffer left b (clusters_keep_their_order z (switched_by cs ls) b some)

    pub number_of_closed : has_insertion cs ≡ false → length v.line ≡ length b.line
    number_of_closed none = length_alike v (substituted z (switched_by cs ls) b).buffer left ∙ number_without_insertion z cs ls b some none
