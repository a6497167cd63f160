-- The runs of the kinds that close what they look at leave the parts of a line at each open rise of its clusters, and at
-- each open fall, whatever the table.
use Rattle.std.proofs.Common.{◌≡◌, ◌∙◌, ◌⊎◌, inl, inr, ℕ, ◌+◌, ◌-◌, ◌<◌, ◌≤◌, Bool, true, false, List, length, take, drop, nat_lt, Option, refl, ap, sym, subst, arith, length-take, length-drop}
use Rattle.std.proofs.lemmas.Bool.{cases_lt}
use Rattle.std.proofs.lemmas.Bool.Decides.{nat_tests}
use Rattle.std.proofs.lemmas.List.{get_or-drop, get_or-take, length-map}
use Rattle.std.specs.Prelude.{All}
use Rattle.aat_buffer.specs.Buffer.{Buffer, no_glyph}
use Rattle.aat_buffer.specs.Clusters.{IsFallingLine, IsRisingLine}
use Rattle.aat_buffer.specs.Marks.{cluster_at}
use Rattle.aat_glyph.specs.declared.glyph.hb_glyph_info_t.{hb_glyph_info_t}
use Rattle.aat_lookup.specs.declared.glyph_id.GlyphId.{GlyphId}
use Rattle.aat_machine_tables.specs.Entries.{goes_on, is_present}
use Rattle.aat_machine_tables.specs.Table.{TableValue}
use Rattle.aat_machine_tables.specs.declared.state_table.GenericStateEntry.{GenericStateEntry}
use Rattle.aat_run.specs.Context.{Context, machine_with}
use Rattle.aat_run.specs.Driven.{context_from, machine_run}
use Rattle.aat_run.specs.Laws.{HasOrderOf}
use Rattle.aat_run.specs.facts.OrderedRuns.{run_keeps_order}
use Rattle.aat_kinds.specs.Contextual as contextual
use Rattle.aat_kinds.specs.Insertion as insertion
use Rattle.aat_kinds.specs.Rearrangement as rearrangement
use Rattle.aat_kinds.specs.facts.InsertionLaws as insertion_laws
use Rattle.aat_kinds.specs.facts.OrderHolds.{insertion_kept}
use Rattle.aat_cut_kinds.specs.CutLaws.{IsIdle}
use Rattle.aat_cut_kinds.specs.Greater.{IsFlaggedAt, greater_at}
use Rattle.aat_cut_kinds.specs.Open.{is_open}
use Rattle.aat_cut_kinds.specs.Parts.{back_part, front_part}
use Rattle.aat_cut_kinds.specs.facts.ContextCuts.{AtOn, CutOf, RunsParted}
use Rattle.aat_cut_kinds.specs.facts.Opens.{along, opened}
use Rattle.aat_cut_kinds.specs.facts.MarksOnly.{same_at}
use Rattle.aat_cut_kinds.specs.facts.ContextualCuts.{neither}
use Rattle.aat_cut_kinds.specs.facts.FirstFlags.{FlaggedFrom, not_flagged_from, rises}
use Rattle.aat_cut_kinds.specs.facts.InsertionCuts as cuts
use Rattle.aat_cut_kinds.specs.facts.LastFlags.{FlaggedDownTo, falls, not_flagged_down_to}
use Rattle.aat_closing.specs.Closing.{insertion_may_act}
use Rattle.aat_closing.specs.ClosingRuns.{contextual_closing, insertion_closing, rearrangement_closing, told_run}
use Rattle.aat_cut_kinds.specs.facts.OffSides.{KeepsSides}
use Rattle.aat_closing.specs.ToldParts.{IsFall, IsRise, PartsAtFall, PartsAtRise, TellsOpen, ToldInParts}
use Rattle.aat_closing.specs.facts.ClosedLaws.{one_glyph}
use Rattle.aat_closing.specs.facts.ContextualClosing as facts
use Rattle.aat_closing.specs.facts.RearrangementClosing as rearranged
use Rattle.aat_closing.specs.facts.FirstOpen.{unflagged_down_to, unflagged_from}

-- what is said of runs, said of those that tell
pub told_parts : {T R : Type 0} (on : ℕ → Bool) (table : TableValue (GenericStateEntry T)) (x : Context R (GenericStateEntry T)) (q : ℕ) (b : Buffer) → RunsParted on table x q b
    → ToldInParts (told_run on table x b) (told_run on table x (front_part q b)) (told_run on table x (back_part q b))
unfolding told_run
told_parts on table x q b it =
    record {
      parts = record { line = it.parts.line; front_budget = it.parts.front_budget; back_budget = it.parts.back_budget };
      front_told = it.front_through;
      back_told = it.back_through;
    }

-- glyphs of the two parts
pub behind_at : (P : ℕ → Type 0) (q k : ℕ) (line : List hb_glyph_info_t) → q ≤ k → k < length line → All (λ (g : hb_glyph_info_t). P g.cluster) (drop q line) → P (cluster_at line k)
behind_at P q k line low within all =
    let place : q + (k - q) ≡ k = omega (arith, low) in
    let read : cluster_at (drop q line) (k - q) ≡ cluster_at line k = ap (λ (g : hb_glyph_info_t). g.cluster) (get_or-drop q line (k - q) no_glyph) ∙ ap (cluster_at line) place in
    rw (← read) (all (k - q) no_glyph (omega (arith, low, within, length-drop q line)))

pub before_at : (P : ℕ → Type 0) (q k : ℕ) (line : List hb_glyph_info_t) → k < q → q ≤ length line → All (λ (g : hb_glyph_info_t). P g.cluster) (take q line) → P (cluster_at line k)
before_at P q k line low within all =
    let read : cluster_at (take q line) k ≡ cluster_at line k = ap (λ (g : hb_glyph_info_t). g.cluster) (get_or-take q line k no_glyph low) in
    rw (← read) (all k no_glyph (omega (arith, low, within, length-take q line)))

-- Contextual runs: clusters stay where they are.
module _ (classes : Option (List (ℕ × ℕ))) (lookups : List (List (ℕ × ℕ))) (on : ℕ → Bool) (table : TableValue contextual.Entry) where
  abbrev x : Context contextual.Registers contextual.Entry
  x = contextual_closing classes lookups

  left : Buffer → List hb_glyph_info_t
  left b = (machine_run on table x b).buffer.line

  -- at the cut the glyph with the greater cluster is without the flag
  clear_at : (c q k : ℕ) (b : Buffer) → greater_at q b.line ≡ k → cluster_at b.line k ≡ c → k < length b.line → is_open c (left b) ≡ true → IsFlaggedAt q b.line (left b) → ⊥
  unfolding left
  clear_at c q k b greater same within is flagged =
      let kept = facts.run_keeps_clusters classes lookups on table b in
      let o = opened c (left b) is in
      let cluster : hb_glyph_info_t → ℕ = λ g. g.cluster in
      let long : length (left b) ≡ length b.line = sym (length-map (left b) cluster) ∙ (ap length kept ∙ length-map b.line cluster) in
      let at : cluster_at (left b) k ≡ c = same_at cluster (left b) b.line k kept ∙ same in
      flagged kept (rw greater (o.unflagged k (omega (arith, long, within)) at))

  -- the place of the open cluster in the line
  place_of : (c : ℕ) (b : Buffer) → is_open c (left b) ≡ true → (p : ℕ) × (p < length b.line) × (cluster_at b.line p ≡ c)
  unfolding left
  place_of c b is =
      let kept = facts.run_keeps_clusters classes lookups on table b in
      let o = opened c (left b) is in
      let within = o.inside in
      let cluster : hb_glyph_info_t → ℕ = λ g. g.cluster in
      let long : length (left b) ≡ length b.line = sym (length-map (left b) cluster) ∙ (ap length kept ∙ length-map b.line cluster) in
      (o.place, omega (arith, within, long), sym (same_at cluster (left b) b.line o.place kept) ∙ o.at)

  -- at a cut of either sort, which is unmarked
  abbrev pub ContextualCut : ℕ → Buffer → Type 1
  ContextualCut q b = (IsFlaggedAt q b.line (machine_run on table x b).buffer.line → ⊥) → CutOf on table x contextual.IsFit (IsFlaggedAt q b.line) q b

  pub contextual_cut_at_rise : (c q : ℕ) (b : Buffer) → IsRise c q b → TellsOpen c (told_run on table x b) → ContextualCut q b
      → ToldInParts (told_run on table x b) (told_run on table x (front_part q b)) (told_run on table x (back_part q b))
  unfolding told_run left
  contextual_cut_at_rise c q b rise tells cut =
      let within = rise.before_end in
      let some = rise.behind_first in
      let low : cluster_at b.line (q - 1) < c = before_at (λ n. n < c) q (q - 1) b.line (omega (arith, some)) (omega (arith, within)) rise.before in
      let high : c ≤ cluster_at b.line q = behind_at (λ n. c ≤ n) q q b.line (omega arith) within rise.behind in
      let there = place_of c b tells.opens in
      let same : cluster_at b.line q ≡ c = by_side c q b rise there.0 there.1 there.2 high (cases_lt there.0 q) in
      let greater : greater_at q b.line ≡ q = (let up : nat_lt (cluster_at b.line (q - 1)) (cluster_at b.line q) ≡ true = grind (arith, nat_tests, low, high) in rw up refl) in
      told_parts on table x q b
      (facts.leaves_parts classes lookups on table q b.line some (λ e. absurd (omega (arith, e, low, high))) b refl within
      (cut (λ flagged. clear_at c q q b greater same within tells.opens flagged)))
    where
      by_side : (c q : ℕ) (b : Buffer) → IsRise c q b → (p : ℕ) → p < length b.line → cluster_at b.line p ≡ c → c ≤ cluster_at b.line q → ((p < q) ⊎ (q ≤ p)) → cluster_at b.line q ≡ c
      by_side c q b rise p inside at high (inl front) =
          let within = rise.before_end in
          let low : cluster_at b.line p < c = before_at (λ n. n < c) q p b.line front (omega (arith, within)) rise.before in
          absurd (omega (arith, low, at))
      by_side c q b rise p inside at high (inr back) =
          let up : cluster_at b.line q ≤ cluster_at b.line p = along (λ n k. n ≤ k) (λ n. omega arith) b.line rise.ordered q p back inside in
          omega (arith, up, at, high)

  pub contextual_at_rise : PartsAtRise (told_run on table x) on
  unfolding told_run
  contextual_at_rise c q b rise is_on tells =
      contextual_cut_at_rise c q b rise tells
      (λ unmarked. AtOn (record { behind_first = rise.behind_first; before_end = rise.before_end; is_on = is_on; through = tells.told; unmarked = unmarked; budget = tells.budget }))

  pub contextual_cut_at_fall : (c q : ℕ) (b : Buffer) → IsFall c q b → TellsOpen c (told_run on table x b) → ContextualCut q b
      → ToldInParts (told_run on table x b) (told_run on table x (front_part q b)) (told_run on table x (back_part q b))
  unfolding told_run left
  contextual_cut_at_fall c q b fall tells cut =
      let within = fall.before_end in
      let some = fall.behind_first in
      let high : c ≤ cluster_at b.line (q - 1) = before_at (λ n. c ≤ n) q (q - 1) b.line (omega (arith, some)) (omega (arith, within)) fall.before in
      let low : cluster_at b.line q < c = behind_at (λ n. n < c) q q b.line (omega arith) within fall.behind in
      let there = place_of c b tells.opens in
      let same : cluster_at b.line (q - 1) ≡ c = by_side c q b fall there.0 there.1 there.2 high (cases_lt there.0 q) in
      let greater : greater_at q b.line ≡ q - 1 = (let down : nat_lt (cluster_at b.line (q - 1)) (cluster_at b.line q) ≡ false = grind (arith, nat_tests, low, high) in rw down refl) in
      told_parts on table x q b
      (facts.leaves_parts classes lookups on table q b.line some (λ e. absurd (omega (arith, e, low, high))) b refl within
      (cut (λ flagged. clear_at c q (q - 1) b greater same (omega (arith, within)) tells.opens flagged)))
    where
      by_side : (c q : ℕ) (b : Buffer) → IsFall c q b → (p : ℕ) → p < length b.line → cluster_at b.line p ≡ c → c ≤ cluster_at b.line (q - 1) → ((p < q) ⊎ (q ≤ p)) → cluster_at b.line (q - 1) ≡ c
      by_side c q b fall p inside at high (inl front) =
          let within = fall.before_end in
          let down : cluster_at b.line (q - 1) ≤ cluster_at b.line p = along (λ n k. k ≤ n) (λ n. omega arith) b.line fall.ordered p (q - 1) (omega (arith, front)) (omega (arith, within)) in
          omega (arith, down, at, high)
      by_side c q b fall p inside at high (inr back) =
          let low : cluster_at b.line p < c = behind_at (λ n. n < c) q p b.line back inside fall.behind in
          absurd (omega (arith, low, at))

  pub contextual_at_fall : PartsAtFall (told_run on table x) on
  unfolding told_run
  contextual_at_fall c q b fall is_on tells =
      contextual_cut_at_fall c q b fall tells
      (λ unmarked. AtOn (record { behind_first = fall.behind_first; before_end = fall.before_end; is_on = is_on; through = tells.told; unmarked = unmarked; budget = tells.budget }))

-- Insertion: glyphs go in on either side of the cut.
module _ (glyphs : List GlyphId) (on : ℕ → Bool) (table : TableValue insertion.Entry) where
  may_act : insertion.Entry → insertion.Registers → ℕ → ℕ → Bool
  may_act e r p n = insertion_may_act e

  names_none : (e : insertion.Entry) → IsIdle (machine_with on table goes_on may_act (insertion.act glyphs)) cuts.Near e → (is_present e.extra.marked_insert_index ≡ false) × (is_present e.extra.current_insert_index ≡ false)
  unfolding may_act
  names_none e idle =
      let none = neither (is_present e.extra.current_insert_index) (is_present e.extra.marked_insert_index) (idle.quiet insertion.fresh 0 1 (omega arith)) in
      (none.1, none.0)

  -- the context whose act closes nothing besides is the one that closes
  plain : Context insertion.Registers insertion.Entry
  plain = context_from false goes_on may_act (insertion.act glyphs) insertion.fresh

  is_plain : insertion_closing glyphs ≡ plain
  unfolding plain may_act
  is_plain = λ i. context_from false goes_on (λ e r p n. insertion_may_act e) (λ e r b. insertion.act glyphs e r (one_glyph b b.cursor i)) insertion.fresh

  -- a run keeps an order of the clusters
  order_of : (b : Buffer) → HasOrderOf b (machine_run on table plain b).buffer
  unfolding plain
  order_of b =
      run_keeps_order on table plain cuts.Near (cuts.keeps_fit glyphs) cuts.passes_fit (λ e r d fit. insertion_laws.pays glyphs e r d fit.1) b (cuts.fits_fresh (length b.line))
      (λ e r d fit. insertion_laws.keeps_settings glyphs e r d fit.1)
      (record {
        rising = λ e r d fit level ordered. (insertion_kept (λ n k. n ≤ k) (λ n k same. omega (arith, same)) glyphs e r d).ordered level ordered;
        falling = λ e r d fit level ordered. (insertion_kept (λ n k. k ≤ n) (λ n k same. omega (arith, same)) glyphs e r d).ordered level ordered;
        clusters = λ e r d fit. (insertion_kept (λ n k. n ≤ k) (λ n k same. omega (arith, same)) glyphs e r d).from;
      })

  plain_cut_at_rise : (c q : ℕ) (b : Buffer) → IsRise c q b → TellsOpen c (told_run on table plain b) → ((FlaggedFrom c (machine_run on table plain b).buffer.line → ⊥) → CutOf on table plain cuts.Near (FlaggedFrom c) q b)
      → ToldInParts (told_run on table plain b) (told_run on table plain (front_part q b)) (told_run on table plain (back_part q b))
  unfolding told_run plain may_act
  plain_cut_at_rise c q b rise tells cut =
      let line : List hb_glyph_info_t = (machine_run on table plain b).buffer.line in
      let ordered : IsRisingLine line = (order_of b).rising rise.merges rise.ordered in
      told_parts on table plain q b
      (cuts.leaves_parts glyphs on table may_act (λ e r s p n i k below within. refl) names_none (λ n. n < c) (λ n. c ≤ n) (FlaggedFrom c) (rises c) q b rise.before rise.behind
      (cut (λ flagged. not_flagged_from c line (unflagged_from c line ordered tells.opens) flagged)))

  plain_at_rise : PartsAtRise (told_run on table plain) on
  unfolding told_run
  plain_at_rise c q b rise is_on tells =
      plain_cut_at_rise c q b rise tells
      (λ unmarked. AtOn (record { behind_first = rise.behind_first; before_end = rise.before_end; is_on = is_on; through = tells.told; unmarked = unmarked; budget = tells.budget }))

  plain_cut_at_fall : (c q : ℕ) (b : Buffer) → IsFall c q b → TellsOpen c (told_run on table plain b) → ((FlaggedDownTo c (machine_run on table plain b).buffer.line → ⊥) → CutOf on table plain cuts.Near (FlaggedDownTo c) q b)
      → ToldInParts (told_run on table plain b) (told_run on table plain (front_part q b)) (told_run on table plain (back_part q b))
  unfolding told_run plain may_act
  plain_cut_at_fall c q b fall tells cut =
      let line : List hb_glyph_info_t = (machine_run on table plain b).buffer.line in
      let ordered : IsFallingLine line = (order_of b).falling fall.merges fall.ordered in
      told_parts on table plain q b
      (cuts.leaves_parts glyphs on table may_act (λ e r s p n i k below within. refl) names_none (λ n. c ≤ n) (λ n. n < c) (FlaggedDownTo c) (falls c) q b fall.before fall.behind
      (cut (λ flagged. not_flagged_down_to c line (unflagged_down_to c line ordered tells.opens) flagged)))

  plain_at_fall : PartsAtFall (told_run on table plain) on
  unfolding told_run
  plain_at_fall c q b fall is_on tells =
      plain_cut_at_fall c q b fall tells
      (λ unmarked. AtOn (record { behind_first = fall.behind_first; before_end = fall.before_end; is_on = is_on; through = tells.told; unmarked = unmarked; budget = tells.budget }))

  pub insertion_at_rise : PartsAtRise (told_run on table (insertion_closing glyphs)) on
  insertion_at_rise = subst (λ (x : Context insertion.Registers insertion.Entry). PartsAtRise (told_run on table x) on) (sym is_plain) plain_at_rise

  pub insertion_at_fall : PartsAtFall (told_run on table (insertion_closing glyphs)) on
  insertion_at_fall = subst (λ (x : Context insertion.Registers insertion.Entry). PartsAtFall (told_run on table x) on) (sym is_plain) plain_at_fall

  -- at a cut of either sort, which is unmarked
  abbrev pub InsertionCut : (List hb_glyph_info_t → Type 0) → ℕ → Buffer → Context insertion.Registers insertion.Entry → Type 1
  InsertionCut Marked q b x = (Marked (machine_run on table x b).buffer.line → ⊥) → CutOf on table x cuts.Near Marked q b

  abbrev ToldParts : ℕ → Buffer → Context insertion.Registers insertion.Entry → Type 0
  ToldParts q b x = ToldInParts (told_run on table x b) (told_run on table x (front_part q b)) (told_run on table x (back_part q b))

  pub insertion_cut_at_rise : (c q : ℕ) (b : Buffer) → IsRise c q b → TellsOpen c (told_run on table (insertion_closing glyphs) b) → InsertionCut (FlaggedFrom c) q b (insertion_closing glyphs) → ToldParts q b (insertion_closing glyphs)
  insertion_cut_at_rise c q b rise =
      subst (λ (x : Context insertion.Registers insertion.Entry). TellsOpen c (told_run on table x b) → InsertionCut (FlaggedFrom c) q b x → ToldParts q b x) (sym is_plain) (plain_cut_at_rise c q b rise)

  pub insertion_cut_at_fall : (c q : ℕ) (b : Buffer) → IsFall c q b → TellsOpen c (told_run on table (insertion_closing glyphs) b) → InsertionCut (FlaggedDownTo c) q b (insertion_closing glyphs) → ToldParts q b (insertion_closing glyphs)
  insertion_cut_at_fall c q b fall =
      subst (λ (x : Context insertion.Registers insertion.Entry). TellsOpen c (told_run on table x b) → InsertionCut (FlaggedDownTo c) q b x → ToldParts q b x) (sym is_plain) (plain_cut_at_fall c q b fall)

  -- what an act keeps of the sides of a cut
  pub insertion_sides : (Order : ℕ → ℕ → Type 0) → ((x y : ℕ) → x ≡ y → Order x y) → KeepsSides (insertion_closing glyphs).act cuts.Near Order
  unfolding plain
  insertion_sides Order same = subst (λ (x : Context insertion.Registers insertion.Entry). KeepsSides x.act cuts.Near Order) (sym is_plain) plain_sides
    where
      plain_sides : KeepsSides (insertion.act glyphs) cuts.Near Order
      plain_sides = record {
        ordered = λ e r d fit level ordered. (insertion_kept Order same glyphs e r d).ordered level ordered;
        clusters = λ e r d fit. (insertion_kept Order same glyphs e r d).from;
        rest = λ e r d fit below. cuts.passes_none glyphs e r d fit.0 below;
      }

-- Rearrangement: where the clusters rise.
pub rearrangement_cut_at_rise : (bound : ℕ) (on : ℕ → Bool) (table : TableValue rearrangement.Entry) (c q : ℕ) (b : Buffer) → IsRise c q b → CutOf on table (rearrangement_closing bound) rearranged.Near (λ line. is_open c line ≡ true → ⊥) q b
    → ToldInParts (told_run on table (rearrangement_closing bound) b) (told_run on table (rearrangement_closing bound) (front_part q b)) (told_run on table (rearrangement_closing bound) (back_part q b))
rearrangement_cut_at_rise bound on table c q b rise cut =
    told_parts on table (rearrangement_closing bound) q b (rearranged.parted bound on table c q b rise.before rise.behind rise.merges rise.ordered cut)

pub rearrangement_at_rise : (bound : ℕ) (on : ℕ → Bool) (table : TableValue rearrangement.Entry) → PartsAtRise (told_run on table (rearrangement_closing bound)) on
unfolding told_run
rearrangement_at_rise bound on table c q b rise is_on tells =
    rearrangement_cut_at_rise bound on table c q b rise
    (AtOn (record { behind_first = rise.behind_first; before_end = rise.before_end; is_on = is_on; through = tells.told; unmarked = λ closed. closed tells.opens; budget = tells.budget }))
