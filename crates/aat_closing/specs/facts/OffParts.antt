-- The closing run of each kind leaves the parts of a line at an open rise of its clusters where the subtable is off on both
-- sides, and at such a fall.
use Rattle.std.proofs.Common.{◌≡◌, ◌∙◌, ◌⊎◌, inl, inr, ℕ, ◌-◌, ◌<◌, ◌≤◌, Bool, true, false, List, length, sym, arith, true≢false}
use Rattle.std.proofs.lemmas.Bool.{cases_lt}
use Rattle.std.proofs.lemmas.List.{get_or_default}
use Rattle.aat_buffer.specs.Buffer.{Buffer, no_glyph}
use Rattle.aat_buffer.specs.Clusters.{IsOrdered}
use Rattle.aat_buffer.specs.Marks.{cluster_at}
use Rattle.aat_glyph.specs.declared.glyph.hb_glyph_info_t.{hb_glyph_info_t}
use Rattle.aat_machine_tables.specs.Table.{TableValue}
use Rattle.aat_machine_tables.specs.declared.morx.SubtableKind.{SubtableKind}
use Rattle.aat_machine_tables.specs.declared.morx.SubtableKind.TheVariants.{Rearrangement, Contextual, Ligature, NonContextual, Insertion}
use Rattle.aat_machine_tables.specs.declared.state_table.GenericStateEntry.{GenericStateEntry}
use Rattle.aat_run.specs.Context.{Context}
use Rattle.aat_run.specs.Driven.{machine_run}
use Rattle.aat_kinds.specs.Kinds.{Sizes}
use Rattle.aat_kinds.specs.Contextual as contextual
use Rattle.aat_kinds.specs.facts.ContextualLaws as contextual_laws
use Rattle.aat_kinds.specs.facts.OrderHolds.{contextual_kept}
use Rattle.aat_cut_kinds.specs.Open.{is_open}
use Rattle.aat_cut_kinds.specs.Parts.{back_part, front_part}
use Rattle.aat_cut_kinds.specs.facts.ContextCuts.{AtOff, CutOf}
use Rattle.aat_cut_kinds.specs.facts.OffSides.{AreOffSides, Each, KeepsSides}
use Rattle.aat_cut_kinds.specs.facts.Opens.{along, opened}
use Rattle.aat_closing.specs.Closing.{closed_from, closing, contextual_from}
use Rattle.aat_closing.specs.ClosingRuns.{closing_run, contextual_closing, insertion_closing, ligature_closing, may_split, rearrangement_closing, told_run}
use Rattle.aat_closing.specs.CutsAbout.{IsOffAbout}
use Rattle.aat_closing.specs.ToldParts.{HasBetween, IsFall, IsRise, TellsOpen, ToldInParts}
use Rattle.aat_closing.specs.facts.AllKinds.{noncontextual_parts}
use Rattle.aat_closing.specs.facts.ClosedSides.{closed_sides}
use Rattle.aat_closing.specs.facts.ClosedLaws.{length_closed}
use Rattle.aat_closing.specs.facts.KindParts.{contextual_cut_at_fall, contextual_cut_at_rise, insertion_cut_at_fall, insertion_cut_at_rise, insertion_sides, rearrangement_cut_at_rise}
use Rattle.aat_closing.specs.facts.LigatureClosing as ligature
use Rattle.aat_closing.specs.facts.LigatureParts.{ligature_cut_at_fall, ligature_cut_at_rise}
use Rattle.aat_closing.specs.facts.RearrangementClosing as rearranged

abbrev Rising : ℕ → ℕ → Type 0
Rising x y = x ≤ y

abbrev Falling : ℕ → ℕ → Type 0
Falling x y = y ≤ x

rises : (x y : ℕ) → x ≡ y → Rising x y
rises x y same = omega (arith, same)

falls : (x y : ℕ) → x ≡ y → Falling x y
falls x y same = omega (arith, same)

module _ (on : ℕ → Bool) (low c : ℕ) (off : IsOffAbout low c on) where
  -- Where the clusters rise to c, the front's end is the cluster before it that is from low on.
  abbrev Before : ℕ → Type 0
  Before n = n < c

  abbrev OutOfBetween : ℕ → Type 0
  OutOfBetween n = (n < low) ⊎ (c ≤ n)

  sides_at_rise : (q : ℕ) (b : Buffer) → IsRise c q b → AreOffSides on Rising Before OutOfBetween q b.cluster_level b.line
  sides_at_rise q b rise = record {
    same = rises;
    front = rise.before;
    back = λ k d within. inr (rise.behind k d within);
    ordered = rise.ordered;
    merges = rise.merges;
    faded = faded;
  }
    where
      faded : (gs : List hb_glyph_info_t) → 0 < length gs → IsOrdered Rising gs → Each Before gs → on (cluster_at gs (length gs - 1)) ≡ true → Each OutOfBetween gs
      faded gs some ordered front is_on = by_last (cases_lt (cluster_at gs (length gs - 1)) low)
        where
          below : cluster_at gs (length gs - 1) < c
          below = front (length gs - 1) no_glyph (omega (arith, some))

          by_last : ((cluster_at gs (length gs - 1) < low) ⊎ (low ≤ cluster_at gs (length gs - 1))) → Each OutOfBetween gs
          by_last (inl under) = λ k d within.
              let up : cluster_at gs k ≤ cluster_at gs (length gs - 1) = along Rising (λ n. omega arith) gs ordered k (length gs - 1) (omega (arith, within)) (omega (arith, some)) in
              let here : cluster_at gs k < low = omega (arith, up, under) in
              rw (get_or_default gs k d no_glyph within) (inl here)
          by_last (inr over) = absurd (true≢false (sym is_on ∙ off (cluster_at gs (length gs - 1)) over (omega (arith, below))))

  -- Where they fall below c, it is c.
  abbrev From : ℕ → Type 0
  From n = c ≤ n

  abbrev Other : ℕ → Type 0
  Other n = (n < c) ⊎ (c < n)

  sides_at_fall : low ≤ c → (q : ℕ) (b : Buffer) → IsFall c q b → AreOffSides on Falling From Other q b.cluster_level b.line
  sides_at_fall high q b fall = record {
    same = falls;
    front = fall.before;
    back = λ k d within. inl (fall.behind k d within);
    ordered = fall.ordered;
    merges = fall.merges;
    faded = faded;
  }
    where
      faded : (gs : List hb_glyph_info_t) → 0 < length gs → IsOrdered Falling gs → Each From gs → on (cluster_at gs (length gs - 1)) ≡ true → Each Other gs
      faded gs some ordered front is_on = by_last (cases_lt c (cluster_at gs (length gs - 1)))
        where
          by_last : ((c < cluster_at gs (length gs - 1)) ⊎ (cluster_at gs (length gs - 1) ≤ c)) → Each Other gs
          by_last (inl over) = λ k d within.
              let down : cluster_at gs (length gs - 1) ≤ cluster_at gs k = along Falling (λ n. omega arith) gs ordered k (length gs - 1) (omega (arith, within)) (omega (arith, some)) in
              let here : c < cluster_at gs k = omega (arith, down, over) in
              rw (get_or_default gs k d no_glyph within) (inr here)
          by_last (inr under) =
              let least : c ≤ cluster_at gs (length gs - 1) = front (length gs - 1) no_glyph (omega (arith, some)) in
              absurd (true≢false (sym is_on ∙ off (cluster_at gs (length gs - 1)) (omega (arith, high, least)) under))

  module _ {T R : Type 0} (table : TableValue (GenericStateEntry T)) (x : Context R (GenericStateEntry T)) (fits : R → ℕ → ℕ → Type 0) (Marked : List hb_glyph_info_t → Type 0)
      (q : ℕ) (b : Buffer) (is_off : on (cluster_at b.line q) ≡ false) (between : HasBetween low c (told_run on table x b).buffer.line) (tells : TellsOpen c (told_run on table x b))
    where
      present_at_rise : Each OutOfBetween (told_run on table x b).buffer.line → ⊥
      present_at_rise all = by_side (all between.0 no_glyph between.1)
        where
          by_side : OutOfBetween (cluster_at (told_run on table x b).buffer.line between.0) → ⊥
          by_side (inl under) = let some = between.2 in absurd (omega (arith, under, some))
          by_side (inr over) = let below = between.3 in absurd (omega (arith, over, below))

      present_at_fall : Each Other (told_run on table x b).buffer.line → ⊥
      present_at_fall all = let o = opened c (told_run on table x b).buffer.line tells.opens in by_side o.place o.at (all o.place no_glyph o.inside)
        where
          by_side : (k : ℕ) → cluster_at (told_run on table x b).buffer.line k ≡ c → Other (cluster_at (told_run on table x b).buffer.line k) → ⊥
          by_side k at (inl under) = absurd (omega (arith, at, under))
          by_side k at (inr over) = absurd (omega (arith, at, over))

      off_at_rise : KeepsSides x.act fits Rising → IsRise c q b → (Marked (machine_run on table x b).buffer.line → ⊥) → CutOf on table x fits Marked q b
      unfolding told_run
      off_at_rise law rise unmarked =
          AtOff Rising Before OutOfBetween law (sides_at_rise q b rise)
          (record { behind_first = rise.behind_first; before_end = rise.before_end; is_off = is_off; through = tells.told; unmarked = unmarked; budget = tells.budget; present = present_at_rise })

      off_at_fall : KeepsSides x.act fits Falling → IsFall c q b → (Marked (machine_run on table x b).buffer.line → ⊥) → CutOf on table x fits Marked q b
      unfolding told_run
      off_at_fall law fall unmarked =
          let some = between.2 in
          let below = between.3 in
          AtOff Falling From Other law (sides_at_fall (omega (arith, some, below)) q b fall)
          (record { behind_first = fall.behind_first; before_end = fall.before_end; is_off = is_off; through = tells.told; unmarked = unmarked; budget = tells.budget; present = present_at_fall })

-- what a contextual act keeps of the sides of a cut
contextual_sides : (z : Sizes) (lookups : List (List (ℕ × ℕ))) (Order : ℕ → ℕ → Type 0) → ((x y : ℕ) → x ≡ y → Order x y) → KeepsSides (closing contextual_from (contextual.act z.classes lookups)) contextual.IsFit Order
contextual_sides z lookups Order same =
    closed_sides contextual.IsFit (contextual.act z.classes lookups) contextual_from Order same (λ e r b fit. contextual_kept Order same z.classes lookups e r b)
    (λ e r b fit.
    let i : ℕ = contextual_from e r b in
    let kept = contextual_laws.keeps z.classes lookups e r (closed_from i b) (rw (length_closed i b) fit) in
    record { length = kept.length ∙ length_closed i b; cursor = kept.cursor; budget = kept.budget })

-- each kind, at a rise
pub kinds_off_at_rise : (z : Sizes) (on : ℕ → Bool) (kind : SubtableKind) → 0 < z.slots → (low c : ℕ) → IsOffAbout low c on → (q : ℕ) (b : Buffer) → IsRise c q b → on (cluster_at b.line q) ≡ false
    → HasBetween low c (closing_run z on kind b).buffer.line → TellsOpen c (closing_run z on kind b) → ToldInParts (closing_run z on kind b) (closing_run z on kind (front_part q b)) (closing_run z on kind (back_part q b))
unfolding told_run
kinds_off_at_rise z on (Rearrangement table) slots low c off q b rise is_off between tells =
    rearrangement_cut_at_rise z.bound on table c q b rise
    (off_at_rise on low c off table (rearrangement_closing z.bound) rearranged.Near (λ line. is_open c line ≡ true → ⊥) q b is_off between tells (rearranged.keeps_sides z.bound Rising rises) rise (λ closed. closed tells.opens))
kinds_off_at_rise z on (Contextual s) slots low c off q b rise is_off between tells =
    contextual_cut_at_rise z.classes s.lookups on s.state c q b rise tells
    (off_at_rise on low c off s.state (contextual_closing z.classes s.lookups) contextual.IsFit _ q b is_off between tells (contextual_sides z s.lookups Rising rises) rise)
kinds_off_at_rise z on (Ligature s) slots low c off q b rise is_off between tells =
    ligature_cut_at_rise s.actions s.components s.ligatures z.slots slots on s.state c q b rise
    (off_at_rise on low c off s.state (ligature_closing s.state s.actions s.components s.ligatures z.slots) (ligature.Near s.actions s.components s.ligatures z.slots s.state) (λ line. is_open c line ≡ true → ⊥) q b is_off between tells
    (ligature.keeps_sides s.actions s.components s.ligatures z.slots s.state Rising rises) rise (λ closed. closed tells.opens))
kinds_off_at_rise z on (NonContextual lookup) slots low c off q b rise is_off between tells = noncontextual_parts z on lookup q b
kinds_off_at_rise z on (Insertion s) slots low c off q b rise is_off between tells =
    insertion_cut_at_rise s.glyphs on s.state c q b rise tells
    (off_at_rise on low c off s.state (insertion_closing s.glyphs) _ _ q b is_off between tells (insertion_sides s.glyphs on s.state Rising rises) rise)

-- and at a fall
pub kinds_off_at_fall : (z : Sizes) (on : ℕ → Bool) (kind : SubtableKind) → 0 < z.slots → may_split kind ≡ false → (low c : ℕ) → IsOffAbout low c on → (q : ℕ) (b : Buffer) → IsFall c q b → on (cluster_at b.line q) ≡ false
    → HasBetween low c (closing_run z on kind b).buffer.line → TellsOpen c (closing_run z on kind b) → ToldInParts (closing_run z on kind b) (closing_run z on kind (front_part q b)) (closing_run z on kind (back_part q b))
unfolding told_run
kinds_off_at_fall z on (Rearrangement table) slots never low c off q b fall is_off between tells = absurd (cc)
kinds_off_at_fall z on (Contextual s) slots never low c off q b fall is_off between tells =
    contextual_cut_at_fall z.classes s.lookups on s.state c q b fall tells
    (off_at_fall on low c off s.state (contextual_closing z.classes s.lookups) contextual.IsFit _ q b is_off between tells (contextual_sides z s.lookups Falling falls) fall)
kinds_off_at_fall z on (Ligature s) slots never low c off q b fall is_off between tells =
    ligature_cut_at_fall s.actions s.components s.ligatures z.slots slots on s.state c q b fall
    (off_at_fall on low c off s.state (ligature_closing s.state s.actions s.components s.ligatures z.slots) (ligature.Near s.actions s.components s.ligatures z.slots s.state) (λ line. is_open c line ≡ true → ⊥) q b is_off between tells
    (ligature.keeps_sides s.actions s.components s.ligatures z.slots s.state Falling falls) fall (λ closed. closed tells.opens))
kinds_off_at_fall z on (NonContextual lookup) slots never low c off q b fall is_off between tells = noncontextual_parts z on lookup q b
kinds_off_at_fall z on (Insertion s) slots never low c off q b fall is_off between tells =
    insertion_cut_at_fall s.glyphs on s.state c q b fall tells
    (off_at_fall on low c off s.state (insertion_closing s.glyphs) _ _ q b is_off between tells (insertion_sides s.glyphs on s.state Falling falls) fall)
