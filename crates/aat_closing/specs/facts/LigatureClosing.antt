-- A ligature run that closes what it looks at leaves the parts of a line at a rise of the clusters whose greater cluster
-- is open behind it, and at such a fall, whatever the table.
use Rattle.std.proofs.Common.{◌≡◌, ◌∙◌, ◌⊎◌, inl, inr, ℕ, ℤ, ◌+◌, ◌-◌, ◌%◌, ◌<◌, ◌≤◌, ◌&&◌, ◌==◌, not, Bool, true, false, cond, List, ◌++◌, length, min, nat_le, nat_lt, take, drop, Option, Some, refl, ap, sym, arith, length-append, length-drop, length-set, length-take}
use Rattle.std.proofs.Math.Seq.{map-set_same}
use Rattle.std.proofs.lemmas.Bool.{cases_lt}
use Rattle.std.proofs.lemmas.Bool.Decides.{nat_tests}
use Rattle.std.proofs.lemmas.List.{length-replicate}
use Rattle.std.specs.Prelude.{All, slice_set}
use Rattle.aat_buffer.specs.Buffer.{Buffer, glyph_at, no_glyph}
use Rattle.aat_buffer.specs.Clusters.{ComesFrom, IsFallingLine, IsOrdered, IsRisingLine}
use Rattle.aat_buffer.specs.Marks.{cluster_at, merge_out_clusters, unsafe_to_break}
use Rattle.aat_buffer.specs.facts.Cases.{chosen}
use Rattle.aat_buffer.specs.facts.Clusters.{order_of_clusters, order_of_merge_out}
use Rattle.aat_buffer.specs.facts.Lines.{length_unsafe}
use Rattle.aat_buffer.specs.facts.Order.{comes_trans, same_set, same_unsafe}
use Rattle.aat_glyph.specs.declared.glyph.hb_glyph_info_t.{hb_glyph_info_t}
use Rattle.aat_lookup.specs.Truth.{is_some_and}
use Rattle.aat_lookup.specs.declared.glyph_id.GlyphId.{GlyphId}
use Rattle.aat_machine_tables.specs.Entries.{goes_on, has_flag}
use Rattle.aat_machine_tables.specs.Table.{TableValue, class_of, entry_of}
use Rattle.aat_machine_tables.specs.declared.state_table.GenericStateEntry.{GenericStateEntry}
use Rattle.aat_run.specs.Context.{Context, Machine, Moved, entry_at, is_inside, machine_with}
use Rattle.aat_run.specs.Laws.{FitsFresh, KeepsFit, KeepsPlaceWhere, KeepsSettings, MakesNoPositions, PassesFit}
use Rattle.aat_run.specs.Machine.{break_marked_at}
use Rattle.aat_run.specs.facts.InPlace.{KeepsAll, lengthens_in_place, pays_in_place}
use Rattle.aat_kinds.specs.Ligature.{IsFit, Registers, act, actionable, component, fresh, ligated, with_component, with_place_held}
use Rattle.aat_kinds.specs.facts.LigatureLaws as laws
use Rattle.aat_kinds.specs.facts.OrderHolds.{ligature_kept}
use Rattle.aat_cut_kinds.specs.Cut.{IsCutPlace, LeavesItsParts}
use Rattle.aat_cut_kinds.specs.CutLaws.{ActsOnBoth, AgreesWith, IdlesAtCut, IsClosed, IsCutLawful, IsIdle, IsLocal, KeepsLine, KeepsMarks, KeepsSound, MovesOn}
use Rattle.aat_cut_kinds.specs.Greater.{clusters}
use Rattle.aat_cut_kinds.specs.Open.{is_open}
use Rattle.aat_cut_kinds.specs.Parts.{followed_by, moved_on}
use Rattle.aat_cut_kinds.specs.facts.ContextCuts.{AtOn, CutOf, RunsParted, inside_of, runs_parted}
use Rattle.aat_cut_kinds.specs.facts.Flags.{IsCalm, calm_masks, calm_unsafe}
use Rattle.aat_cut_kinds.specs.facts.Inside.{class_in_back, class_in_front}
use Rattle.aat_cut_kinds.specs.facts.MarksOnly.{of_unsafe}
use Rattle.aat_cut_kinds.specs.facts.MergedOpens.{merge_out_open_falling, merge_out_open_rising}
use Rattle.aat_cut_kinds.specs.facts.Opens.{over_fall, over_rise, steady_open}
use Rattle.aat_cut_kinds.specs.facts.Spans.{unsafe_in_back, unsafe_in_front}
use Rattle.aat_cut_kinds.specs.facts.ContextualCuts.{by_equation}
use Rattle.aat_cut_kinds.specs.facts.CutSides.{IsOf, all_from}
use Rattle.aat_cut_kinds.specs.facts.OffSides.{KeepsSides}
use Rattle.aat_closing.specs.Closing.{closed_from, closing, ligature_from, oldest_of_newest, steps_of}
use Rattle.aat_closing.specs.ClosingRuns.{ligature_closing}
use Rattle.aat_closing.specs.facts.ClosedLaws as closed
use Rattle.aat_closing.specs.facts.ClosedSides.{closed_sides}
use Rattle.aat_closing.specs.facts.ClosedLaws.{length_closed, one_glyph}
use Rattle.aat_closing.specs.facts.LigatureActs.{act_in_front, act_keeps, ligated_in_back}
use Rattle.aat_closing.specs.facts.LigatureStacks.{AreAlike, IsWithin, all_before, both_held, component_held, newest_within}

abbrev Entry : Type 0
Entry = GenericStateEntry ℕ

-- a span that ends with the line behind its first glyph, or before it, gets no marks
short_span : (b : Buffer) (i j : ℕ) → min j (length b.line) < i + 2 → unsafe_to_break b (Some i) (Some j) ≡ b
short_span b i j few = let short : nat_le (i + 2) (min j (length b.line)) ≡ false = grind (arith, nat_tests, few) in rw short refl

-- a line under marks comes from the line
comes_closed : (b : Buffer) (i j : Option ℕ) → ComesFrom b.line (unsafe_to_break b i j).line
comes_closed b i j k within = (k, rw (length_unsafe b i j) at within, same_unsafe b i j k)

-- The two sides of a cut, in an order R of clusters along the line, and what tells that the cut is marked. Marks, writes
-- and merges keep it so, and marks over the cut make it so.
record IsSided (Front Back : ℕ → Type 0) (R : ℕ → ℕ → Type 0) (Marked : List hb_glyph_info_t → Type 0) : Type 0 where
  apart : (n : ℕ) → Front n → Back n → ⊥
  same : (n k : ℕ) → n ≡ k → R n k
  steady : (old new : List hb_glyph_info_t) → clusters new ≡ clusters old → IsCalm old new → Marked old → Marked new
  merged : (b : Buffer) (i j : ℕ) → IsOrdered R b.line → Marked b.line → Marked (merge_out_clusters b i j).line
  over :
      (gs hs : List hb_glyph_info_t) (b : Buffer) (i j : ℕ) → All (λ (g : hb_glyph_info_t). Front g.cluster) gs → All (λ (g : hb_glyph_info_t). Back g.cluster) hs
      → IsOrdered R (gs ++ hs) → b.line ≡ gs ++ hs → i < length gs → length gs < j → 0 < length hs → Marked (unsafe_to_break b (Some i) (Some j)).line

-- what is held behind an entry's push has as many slots
slots_held : (e : Entry) (r : Registers) (p : ℕ) → length (with_component e r p).slots ≡ length r.slots
slots_held e r p =
    chosen (λ (s : Registers). length s.slots ≡ length r.slots) (has_flag e 0x8000) (with_place_held r p) r
    (λ _. chosen (λ (s : Registers). length s.slots ≡ length r.slots) (nat_lt 0 r.count && (component r (r.count - 1) == p)) r (record { count = r.count + 1; slots = slice_set r.slots (r.count % length r.slots) p })
    (λ _. refl) (λ _. length-set r.slots (r.count % length r.slots) p))
    (λ _. refl)

module _ (actions values : List ℕ) (ligatures : List GlyphId) (size : ℕ) (table : TableValue Entry) where
  acts : Entry → Registers → Buffer → Moved Registers
  acts = closing (ligature_from actions table) (act actions values ligatures)

  -- registers that fit have so many slots
  pub Near : Registers → ℕ → ℕ → Type 0
  Near r p n = IsFit r p n × (length r.slots ≡ size)

  fits_closed : (i : ℕ) (r : Registers) (b : Buffer) → IsFit r b.cursor (length b.line) → IsFit r b.cursor (length (closed_from i b).line)
  fits_closed i r b fit = rw (length_closed i b) fit

  -- what the run asks of an act
  keeps : KeepsAll acts Near
  unfolding acts Near
  keeps e r b fit =
      let i : ℕ = ligature_from actions table e r b in
      let kept = laws.keeps actions values ligatures e r (closed_from i b) (fits_closed i r b fit.0) in
      record { length = kept.length ∙ length_closed i b; cursor = kept.cursor; budget = kept.budget }

  -- what an act keeps of the sides of a cut
  pub keeps_sides : (Order : ℕ → ℕ → Type 0) → ((x y : ℕ) → x ≡ y → Order x y) → KeepsSides (closing (ligature_from actions table) (act actions values ligatures)) Near Order
  unfolding acts Near
  keeps_sides Order same =
      closed_sides Near (act actions values ligatures) (ligature_from actions table) Order same (λ e r b fit. ligature_kept Order same actions values ligatures e r b) keeps

  fits_fresh : 0 < size → FitsFresh Near (fresh size)
  unfolding Near
  fits_fresh some n = (laws.fits_fresh size some n, length-replicate size 0)

  passes_fit : PassesFit Near
  unfolding Near
  passes_fit r p n fit below = (laws.passes_fit r p n fit.0 below, fit.1)

  keeps_fit : KeepsFit acts Near
  unfolding acts Near
  keeps_fit =
      closed.keeps_fit Near (act actions values ligatures) (ligature_from actions table)
      (λ e r b fit below. (laws.keeps_fit actions values ligatures e r b fit.0 below, ap length (laws.slots_of_act actions values ligatures e r b).slots ∙ (slots_held e r b.cursor ∙ fit.1)))

  makes_no_positions : MakesNoPositions acts Near
  unfolding acts Near
  makes_no_positions = closed.makes_no_positions Near (act actions values ligatures) (ligature_from actions table) (λ e r b fit none. laws.makes_no_positions actions values ligatures e r b fit.0 none)

  keeps_settings : KeepsSettings acts Near
  unfolding acts Near
  keeps_settings = closed.keeps_settings Near (act actions values ligatures) (ligature_from actions table) (λ e r b fit. laws.keeps_settings actions values ligatures e r b fit.0)

  never_in_place : KeepsPlaceWhere acts Near false
  never_in_place is = absurd (cc)

  -- From where a line is closed, by whether the cursor is before the end and by the entry of state 0 there
  from_by : Entry → Registers → ℕ → Bool → Option Entry → ℕ
  from_by e r p inside first =
      cond (has_flag e 0x2000) (cond inside (oldest_of_newest (with_component e r p) (steps_of actions e.extra)) p)
      (cond (has_flag e 0x8000 && not (goes_on e && is_some_and first (λ f. has_flag f 0x8000))) (p - 1) p)

  from_is : (e : Entry) (r : Registers) (b : Buffer) → ligature_from actions table e r b ≡ from_by e r b.cursor (nat_lt b.cursor (length b.line)) (entry_at table 0 b)
  unfolding from_by
  from_is e r b = refl

  -- what an entry leaves that takes in no components, and closes the line from a place
  held_from : Entry → Registers → Buffer → ℕ → Moved Registers
  held_from e r b i = record { registers = with_component e r b.cursor; buffer = closed_from i b }

  -- an entry that performs no actions
  module _ (e : Entry) (quiet : has_flag e 0x2000 ≡ false) where
    -- whether it closes the line before the cursor
    closes_before : Option Entry → Bool
    closes_before first = has_flag e 0x8000 && not (goes_on e && is_some_and first (λ f. has_flag f 0x8000))

    quiet_from : (r : Registers) (b : Buffer) → ligature_from actions table e r b ≡ cond (closes_before (entry_at table 0 b)) (b.cursor - 1) b.cursor
    unfolding closes_before
    quiet_from r b = rw quiet refl

    quiet_act : (r : Registers) (b : Buffer) → act actions values ligatures e r b ≡ record { registers = with_component e r b.cursor; buffer = b }
    unfolding act
    quiet_act r b = rw quiet refl

    quiet_acts : (r : Registers) (b : Buffer) → acts e r b ≡ held_from e r b (cond (closes_before (entry_at table 0 b)) (b.cursor - 1) b.cursor)
    unfolding acts held_from
    quiet_acts r b =
        quiet_act r (closed_from (ligature_from actions table e r b) b)
        ∙ ap (λ (i : ℕ). record { registers = with_component e r b.cursor; buffer = closed_from i b }) (quiet_from r b)

  -- one that performs some does nothing at the end of the line
  end_act : (e : Entry) (r : Registers) (b : Buffer) → has_flag e 0x2000 ≡ true → length b.line ≤ b.cursor → act actions values ligatures e r b ≡ record { registers = with_component e r b.cursor; buffer = b }
  unfolding act
  end_act e r b performs past = let beyond : nat_lt b.cursor (length b.line) ≡ false = grind (arith, nat_tests, past) in rw (performs, beyond) refl

  end_acts : (e : Entry) (r : Registers) (b : Buffer) → has_flag e 0x2000 ≡ true → length b.line ≤ b.cursor → acts e r b ≡ record { registers = with_component e r b.cursor; buffer = b }
  unfolding acts
  end_acts e r b performs past =
      let beyond : nat_lt b.cursor (length b.line) ≡ false = grind (arith, nat_tests, past) in
      let here : ligature_from actions table e r b ≡ b.cursor = rw (performs, beyond) refl in
      ap (λ (i : ℕ). act actions values ligatures e r (closed_from i b)) here ∙ (ap (act actions values ligatures e r) (one_glyph b b.cursor) ∙ end_act e r b performs past)

  -- and inside it takes in components
  oldest : Entry → Registers → ℕ → ℕ
  oldest e r p = oldest_of_newest (with_component e r p) (steps_of actions e.extra)

  taken : Entry → Registers → Buffer → Moved Registers
  taken e r b = ligated actions values ligatures (with_component e r b.cursor).count e.extra 0 (record { registers = with_component e r b.cursor; buffer = b })

  inside_act : (e : Entry) (r : Registers) (b : Buffer) → has_flag e 0x2000 ≡ true → b.cursor < length b.line → act actions values ligatures e r b ≡ taken e r b
  unfolding act taken
  inside_act e r b performs below = let within : nat_lt b.cursor (length b.line) ≡ true = grind (arith, nat_tests, below) in rw (performs, within) refl

  inside_from : (e : Entry) (r : Registers) (b : Buffer) → has_flag e 0x2000 ≡ true → b.cursor < length b.line → ligature_from actions table e r b ≡ oldest e r b.cursor
  unfolding oldest
  inside_from e r b performs below = let within : nat_lt b.cursor (length b.line) ≡ true = grind (arith, nat_tests, below) in rw (performs, within) refl

  inside_acts : (e : Entry) (r : Registers) (b : Buffer) → has_flag e 0x2000 ≡ true → b.cursor < length b.line → acts e r b ≡ taken e r (closed_from (oldest e r b.cursor) b)
  unfolding acts
  inside_acts e r b performs below =
      ap (λ (i : ℕ). act actions values ligatures e r (closed_from i b)) (inside_from e r b performs below)
      ∙ inside_act e r (closed_from (oldest e r b.cursor) b) performs (rw (length_closed (oldest e r b.cursor) b) below)

  -- each cluster behind an act stood on the line
  comes_of_acts : (e : Entry) (r : Registers) (b : Buffer) → ComesFrom b.line (acts e r b).buffer.line
  unfolding acts
  comes_of_acts e r b =
      let i : ℕ = ligature_from actions table e r b in
      comes_trans b.line (closed_from i b).line (act actions values ligatures e r (closed_from i b)).buffer.line (comes_closed b (Some i) (Some (b.cursor + 1)))
      (ligature_kept (λ n k. n ≤ k) (λ n k is. omega (arith, is)) actions values ligatures e r (closed_from i b)).from

  module _ (on : ℕ → Bool) where
    m : Machine Registers Entry
    m = machine_with on table goes_on actionable acts

    -- an idle entry performs no actions
    performs_none : (e : Entry) → IsIdle m Near e → has_flag e 0x2000 ≡ false
    unfolding m
    performs_none e idle = idle.quiet (fresh size) 0 1 (omega arith)

    -- and leaves the line, or marks it before the cursor
    idle_acts : (e : Entry) (r : Registers) (b : Buffer) → has_flag e 0x2000 ≡ false → ((acts e r b).buffer ≡ b) ⊎ ((is_inside b ≡ true) × ((acts e r b).buffer ≡ break_marked_at b))
    unfolding held_from
    idle_acts e r b quiet = rw (quiet_acts e quiet r b) (by_close (closes_before e quiet (entry_at table 0 b)) (is_inside b) refl)
      where
        by_close : (t u : Bool) → is_inside b ≡ u → (closed_from (cond t (b.cursor - 1) b.cursor) b ≡ b) ⊎ ((is_inside b ≡ true) × (closed_from (cond t (b.cursor - 1) b.cursor) b ≡ break_marked_at b))
        by_close true true is = inr (is, refl)
        by_close true false is = inl (short_span b (b.cursor - 1) (b.cursor + 1) (grind (arith, nat_tests, is)))
        by_close false u is = inl (one_glyph b b.cursor)

    -- each state may be reached
    Reached : ℕ → Type 0
    Reached t = Unit {0}

    is_closed : IsClosed m Near Reached
    unfolding Reached
    is_closed = record { first = tt; entries = λ t k e known is. tt }

    -- a line that has such clusters alone keeps them
    keeps_line : (P : ℕ → Type 0) → KeepsLine m Near (IsOf P)
    unfolding m
    keeps_line P = record {
      marks = λ b all.
          let some = all.0 in
          let same = length_unsafe b (Some (b.cursor - 1)) (Some (b.cursor + 1)) in
          (omega (arith, some, same), all_from P b.line (break_marked_at b).line (comes_closed b (Some (b.cursor - 1)) (Some (b.cursor + 1))) all.1);
      acts = λ e r b fit all.
          let some = all.0 in
          let same = (keeps e r b fit).length in
          (omega (arith, some, same), all_from P b.line (acts e r b).buffer.line (comes_of_acts e r b) all.1);
    }

    Alike : List hb_glyph_info_t → ℕ → Registers → Registers → Type 0
    Alike gs t r s = AreAlike (length gs) r s

    module _ (Front Back : ℕ → Type 0) (R : ℕ → ℕ → Type 0) (Marked : List hb_glyph_info_t → Type 0) (sided : IsSided Front Back R Marked) where
      -- what an act in the front does depends on nothing behind the line
      is_local : IsLocal m Near (IsOf Front) (IsOf Back)
      unfolding m acts Near
      is_local = record {
        tested = λ e r s p n i k below within. refl;
        inside = λ e r b fit below. let k = keeps e r b fit in rw (k.cursor, k.length) below;
        unseen = λ e r b gs fit below left right.
            let i : ℕ = ligature_from actions table e r b in
            let longer : b.cursor < length (b.line ++ gs) = omega (arith, length-append b.line gs, below) in
            let within : nat_lt b.cursor (length b.line) ≡ true = grind (arith, nat_tests, below) in
            let within_longer : nat_lt b.cursor (length (b.line ++ gs)) ≡ true = grind (arith, nat_tests, longer) in
            let first : entry_at table 0 (followed_by gs b) ≡ entry_at table 0 b = ap (λ (k : ℕ). entry_of table 0 k) (class_in_front gs (class_of table) b below) in
            let same : ligature_from actions table e r (followed_by gs b) ≡ i =
            from_is e r (followed_by gs b)
            ∙ (ap (λ (t : Bool). from_by e r b.cursor t (entry_at table 0 (followed_by gs b))) (within_longer ∙ sym within)
            ∙ (ap (from_by e r b.cursor (nat_lt b.cursor (length b.line))) first ∙ sym (from_is e r b))) in
            let closed : closed_from (ligature_from actions table e r (followed_by gs b)) (followed_by gs b) ≡ followed_by gs (closed_from i b) =
            ap (λ (j : ℕ). closed_from j (followed_by gs b)) same ∙ unsafe_in_front gs b i (b.cursor + 1) (omega (arith, below)) in
            let here : b.cursor < length (closed_from i b).line = rw (length_closed i b) below in
            ap (act actions values ligatures e r) closed
            ∙ act_in_front Front Back sided.apart gs actions values ligatures e r (closed_from i b) (fits_closed i r b fit.0) here (all_from Front b.line (closed_from i b).line (comes_closed b (Some i) (Some (b.cursor + 1))) left.1) right.1;
        idle = λ e r b idle. idle_acts e r b (performs_none e idle);
      }

      -- a line in order
      Sound : ℕ → List hb_glyph_info_t → Type 0
      Sound level line = IsOrdered R line

      ordered_closed : (b : Buffer) (i j : Option ℕ) → IsOrdered R b.line → IsOrdered R (unsafe_to_break b i j).line
      ordered_closed b i j ordered = order_of_clusters R sided.same b.line (unsafe_to_break b i j).line (length_unsafe b i j) (λ k low. same_unsafe b i j k) ordered

      ordered_set : (b : Buffer) (i : ℕ) (g : hb_glyph_info_t) → g.cluster ≡ cluster_at b.line i → IsOrdered R b.line → IsOrdered R (slice_set b.line i g)
      ordered_set b i g equal ordered = order_of_clusters R sided.same b.line (slice_set b.line i g) (length-set b.line i g) (λ k low. same_set b.line i g equal k low) ordered

      ordered_act : (e : Entry) (r : Registers) (b : Buffer) → IsOrdered R b.line → IsOrdered R (act actions values ligatures e r b).buffer.line
      ordered_act e r b ordered =
          act_keeps (λ d. IsOrdered R d.line) (λ d i g equal mask kept. ordered_set d i g equal kept) (λ d i j kept. order_of_merge_out R sided.same d i j kept) actions values ligatures e r b ordered

      -- whose cut is marked stays so
      closed_marked : (b : Buffer) (i j : Option ℕ) → Marked b.line → Marked (unsafe_to_break b i j).line
      closed_marked b i j marked = sided.steady b.line (unsafe_to_break b i j).line (of_unsafe (λ (g : hb_glyph_info_t). g.cluster) (λ bits g. refl) b i j) (calm_unsafe b i j) marked

      set_marked : (b : Buffer) (i : ℕ) (g : hb_glyph_info_t) → g.cluster ≡ cluster_at b.line i → g.mask ≡ (glyph_at b.line i).mask → Marked b.line → Marked (slice_set b.line i g)
      set_marked b i g equal mask marked =
          sided.steady b.line (slice_set b.line i g) (map-set_same (λ (h : hb_glyph_info_t). h.cluster) b.line i g no_glyph equal)
          (calm_masks b.line (slice_set b.line i g) (map-set_same (λ (h : hb_glyph_info_t). h.mask) b.line i g no_glyph mask)) marked

      act_marked : (e : Entry) (r : Registers) (b : Buffer) → IsOrdered R b.line → Marked b.line → Marked (act actions values ligatures e r b).buffer.line
      act_marked e r b ordered marked =
          (act_keeps (λ d. IsOrdered R d.line × Marked d.line) (λ d i g equal mask kept. (ordered_set d i g equal kept.0, set_marked d i g equal mask kept.1))
          (λ d i j kept. (order_of_merge_out R sided.same d i j kept.0, sided.merged d i j kept.0 kept.1)) actions values ligatures e r b (ordered, marked)).1

      sound_stays : KeepsSound m Near Sound
      unfolding m acts Sound
      sound_stays = record {
        marks = λ b sound. ordered_closed b (Some (b.cursor - 1)) (Some (b.cursor + 1)) sound;
        acts = λ e r b fit sound.
            let i : ℕ = ligature_from actions table e r b in
            ordered_act e r (closed_from i b) (ordered_closed b (Some i) (Some (b.cursor + 1)) sound);
      }

      module _ (gs : List hb_glyph_info_t) (front : IsOf Front gs) where
        On : ℕ → Entry → Registers → Registers → ℤ → Buffer → Type 0
        On t e r s z b = ActsOnBoth m Near gs Reached (fresh size) (Alike gs) Marked (IsOf Back) Sound t e r s z b

        -- an act over a line that is closed over the cut marks the cut
        crosses : (e : Entry) (r : Registers) (i : ℕ) (z : ℤ) (b : Buffer) → i < length gs → IsOf Back b.line → IsOrdered R (gs ++ b.line) → Marked (act actions values ligatures e r (closed_from i (moved_on gs z b))).buffer.line
        crosses e r i z b low back ordered =
            let w : Buffer = moved_on gs z b in
            act_marked e r (closed_from i w) (ordered_closed w (Some i) (Some (w.cursor + 1)) ordered)
            (sided.over gs b.line w i (w.cursor + 1) front.1 back.1 ordered refl low (omega arith) back.0)

        marks_cut : (e : Entry) (r : Registers) (z : ℤ) (b : Buffer) → ligature_from actions table e r (moved_on gs z b) < length gs → IsOf Back b.line → IsOrdered R (gs ++ b.line) → Marked (acts e r (moved_on gs z b)).buffer.line
        unfolding acts
        marks_cut e r z b low back ordered = crosses e r (ligature_from actions table e r (moved_on gs z b)) z b low back ordered

        -- what is left of both
        record Both (w v : Moved Registers) (z : ℤ) : Type 0 where
          buffer : w.buffer ≡ moved_on gs z v.buffer
          alike : AreAlike (length gs) w.registers v.registers

        same_first : (z : ℤ) (b : Buffer) → entry_at table 0 (moved_on gs z b) ≡ entry_at table 0 b
        same_first z b = ap (λ (k : ℕ). entry_of table 0 k) (class_in_back gs (class_of table) z b)

        both_from : (w x v y : Moved Registers) (z : ℤ) → w ≡ x → v ≡ y → Both x y z → Both w v z
        both_from w x v y z first second both = rw (first, second) both

        held_here : (e : Entry) (r s : Registers) (z : ℤ) (b : Buffer) → AreAlike (length gs) r s → Both (held_from e r (moved_on gs z b) (length gs + b.cursor)) (held_from e s b b.cursor) z
        unfolding held_from
        held_here e r s z b alike = record {
          buffer = one_glyph (moved_on gs z b) (length gs + b.cursor) ∙ sym (ap (moved_on gs z) (one_glyph b b.cursor));
          alike = component_held (length gs) b.cursor r s e alike;
        }

        held_before : (e : Entry) (r s : Registers) (z : ℤ) (b : Buffer) → AreAlike (length gs) r s → 0 < b.cursor → Both (held_from e r (moved_on gs z b) (length gs + b.cursor - 1)) (held_from e s b (b.cursor - 1)) z
        unfolding held_from
        held_before e r s z b alike some =
            let w : Buffer = moved_on gs z b in
            let start : length gs + b.cursor - 1 ≡ length gs + (b.cursor - 1) = omega (arith, some) in
            let end : length gs + b.cursor + 1 ≡ length gs + (b.cursor + 1) = omega arith in
            record {
              buffer =
                  ap (λ (i : ℕ). unsafe_to_break w (Some i) (Some (length gs + b.cursor + 1))) start
                  ∙ (ap (λ (j : ℕ). unsafe_to_break w (Some (length gs + (b.cursor - 1))) (Some j)) end ∙ unsafe_in_back gs z b (b.cursor - 1) (b.cursor + 1));
              alike = component_held (length gs) b.cursor r s e alike;
            }

        -- an entry that closes the line before the cut marks it
        closes_cut : (e : Entry) (quiet : has_flag e 0x2000 ≡ false) (r : Registers) (z : ℤ) (b : Buffer) → closes_before e quiet (entry_at table 0 b) ≡ true → b.cursor ≤ 0 → IsOf Back b.line → IsOrdered R (gs ++ b.line)
            → Marked (acts e r (moved_on gs z b)).buffer.line
        closes_cut e quiet r z b closes none back ordered =
            let q : ℕ = length gs + b.cursor in
            let whole : closes_before e quiet (entry_at table 0 (moved_on gs z b)) ≡ true = ap (closes_before e quiet) (same_first z b) ∙ closes in
            let place : ligature_from actions table e r (moved_on gs z b) ≡ q - 1 = quiet_from e quiet r (moved_on gs z b) ∙ ap (λ (k : Bool). cond k (q - 1) q) whole in
            let some = front.0 in
            marks_cut e r z b (omega (arith, place, none, some)) back ordered

        quiet_both : (t : ℕ) (e : Entry) (r s : Registers) (z : ℤ) (b : Buffer) → On t e r s z b → has_flag e 0x2000 ≡ false → Both (acts e r (moved_on gs z b)) (acts e s b) z
        unfolding On Alike Sound m
        quiet_both t e r s z b on quiet = by_close (closes_before e quiet (entry_at table 0 b)) refl (cases_lt 0 b.cursor)
          where
            w : Buffer
            w = moved_on gs z b

            whole : (u : Bool) → closes_before e quiet (entry_at table 0 b) ≡ u → closes_before e quiet (entry_at table 0 w) ≡ u
            whole u is = ap (closes_before e quiet) (same_first z b) ∙ is

            whole_acts : (u : Bool) → closes_before e quiet (entry_at table 0 b) ≡ u → acts e r w ≡ held_from e r w (cond u (length gs + b.cursor - 1) (length gs + b.cursor))
            whole_acts u is = quiet_acts e quiet r w ∙ ap (λ (k : Bool). held_from e r w (cond k (length gs + b.cursor - 1) (length gs + b.cursor))) (whole u is)

            part_acts : (u : Bool) → closes_before e quiet (entry_at table 0 b) ≡ u → acts e s b ≡ held_from e s b (cond u (b.cursor - 1) b.cursor)
            part_acts u is = quiet_acts e quiet s b ∙ ap (λ (k : Bool). held_from e s b (cond k (b.cursor - 1) b.cursor)) is

            by_close : (u : Bool) → closes_before e quiet (entry_at table 0 b) ≡ u → ((0 < b.cursor) ⊎ (b.cursor ≤ 0)) → Both (acts e r w) (acts e s b) z
            by_close false is place =
                both_from (acts e r w) (held_from e r w (length gs + b.cursor)) (acts e s b) (held_from e s b b.cursor) z (whole_acts false is) (part_acts false is) (held_here e r s z b on.alike)
            by_close true is (inl some) =
                both_from (acts e r w) (held_from e r w (length gs + b.cursor - 1)) (acts e s b) (held_from e s b (b.cursor - 1)) z (whole_acts true is) (part_acts true is) (held_before e r s z b on.alike some)
            by_close true is (inr none) = absurd (on.unmarked (closes_cut e quiet r z b is none on.right on.sound))

        inside_both : (t : ℕ) (e : Entry) (r s : Registers) (z : ℤ) (b : Buffer) → On t e r s z b → has_flag e 0x2000 ≡ true → b.cursor < length b.line → Both (acts e r (moved_on gs z b)) (acts e s b) z
        unfolding On Alike Sound m Near oldest taken
        inside_both t e r s z b on performs below = by_order (cases_lt (oldest e r q) (length gs))
          where
            w : Buffer
            w = moved_on gs z b

            q : ℕ
            q = length gs + b.cursor

            longer : q < length (gs ++ b.line)
            longer = omega (arith, below, length-append gs b.line)

            held : AreAlike (length gs) (with_component e r q) (with_component e s b.cursor)
            held = component_held (length gs) b.cursor r s e on.alike

            steps : ℕ
            steps = steps_of actions e.extra

            j : ℕ
            j = oldest e s b.cursor

            closed : oldest e r q ≡ length gs + j → closed_from (oldest e r q) w ≡ moved_on gs z (closed_from j b)
            closed moved =
                let end : q + 1 ≡ length gs + (b.cursor + 1) = omega arith in
                ap (λ (i : ℕ). unsafe_to_break w (Some i) (Some (q + 1))) moved
                ∙ (ap (λ (k : ℕ). unsafe_to_break w (Some (length gs + j)) (Some k)) end ∙ unsafe_in_back gs z b j (b.cursor + 1))

            inside_of : (k : ℕ) → k < (with_component e s b.cursor).count → component (with_component e s b.cursor) k < length (closed_from j b).line
            inside_of k few =
                let fit = laws.fit_of_component e s b.cursor (length b.line) b.cursor b.cursor on.fits_part.0 below in
                rw (length_closed j b) (fit.within k few)

            back : All (λ (g : hb_glyph_info_t). Back g.cluster) (closed_from j b).line
            back = all_from Back b.line (closed_from j b).line (comes_closed b (Some j) (Some (b.cursor + 1))) on.right.1

            taken_both : IsWithin (length gs) held.shared steps (with_component e r q) (with_component e s b.cursor) → Both (taken e r (moved_on gs z (closed_from j b))) (taken e s (closed_from j b)) z
            taken_both within =
                let both =
                ligated_in_back Front Back sided.apart gs actions values ligatures z held.older_whole held.older_part held.shared e.extra (with_component e r q) (with_component e s b.cursor) (closed_from j b) held.alike inside_of front.1 back within.few within.ordered in
                record { buffer = both.buffer; alike = both.alike }

            by_order : ((oldest e r q < length gs) ⊎ (length gs ≤ oldest e r q)) → Both (acts e r w) (acts e s b) z
            by_order (inl low) = absurd (on.unmarked (marks_cut e r z b (rw (inside_from e r w performs longer) low) on.right on.sound))
            by_order (inr high) =
                let within = newest_within (length gs) held.older_whole held.older_part held.shared steps (with_component e r q) (with_component e s b.cursor) held.alike front.0 (omega arith) high in
                both_from (acts e r w) (taken e r (moved_on gs z (closed_from j b))) (acts e s b) (taken e s (closed_from j b)) z
                (inside_acts e r w performs longer ∙ ap (taken e r) (closed within.oldest)) (inside_acts e s b performs below) (taken_both within)

        end_both : (e : Entry) (r s : Registers) (z : ℤ) (b : Buffer) → AreAlike (length gs) r s → has_flag e 0x2000 ≡ true → length b.line ≤ b.cursor → Both (acts e r (moved_on gs z b)) (acts e s b) z
        end_both e r s z b alike performs past =
            let beyond : length (gs ++ b.line) ≤ length gs + b.cursor = omega (arith, past, length-append gs b.line) in
            both_from (acts e r (moved_on gs z b)) (record { registers = with_component e r (length gs + b.cursor); buffer = moved_on gs z b }) (acts e s b) (record { registers = with_component e s b.cursor; buffer = b }) z
            (end_acts e r (moved_on gs z b) performs beyond) (end_acts e s b performs past) (record { buffer = refl; alike = component_held (length gs) b.cursor r s e alike })

        -- an entry acts on both alike
        both : (t : ℕ) (e : Entry) (r s : Registers) (z : ℤ) (b : Buffer) → On t e r s z b → Both (acts e r (moved_on gs z b)) (acts e s b) z
        unfolding On Alike
        both t e r s z b on = by_flag (has_flag e 0x2000) refl (cases_lt b.cursor (length b.line))
          where
            by_flag : (u : Bool) → has_flag e 0x2000 ≡ u → ((b.cursor < length b.line) ⊎ (length b.line ≤ b.cursor)) → Both (acts e r (moved_on gs z b)) (acts e s b) z
            by_flag false quiet place = quiet_both t e r s z b on quiet
            by_flag true performs (inl below) = inside_both t e r s z b on performs below
            by_flag true performs (inr past) = end_both e r s z b on.alike performs past

        -- Registers that come to the cut, and an idle entry there
        Idles : ℕ → Entry → Registers → ℤ → Buffer → Type 0
        Idles t e r z b = IdlesAtCut m Near gs Reached (fresh size) (Alike gs) Marked (IsOf Back) Sound t e r z b

        arrived_alike : (r s : Registers) → Near r (length gs) (length gs) → length s.slots ≡ size → AreAlike (length gs) r s
        unfolding Near
        arrived_alike r s fit slots = all_before (length gs) r s (slots ∙ sym fit.1) fit.0.some fit.0.within

        quiet_registers : (e : Entry) → has_flag e 0x2000 ≡ false → (r : Registers) (b : Buffer) → (acts e r b).registers ≡ with_component e r b.cursor
        unfolding held_from
        quiet_registers e quiet r b = ap (λ (left : Moved Registers). left.registers) (quiet_acts e quiet r b)

        homed : (t : ℕ) (e : Entry) (r : Registers) (z : ℤ) (b : Buffer) → Idles t e r z b → goes_on e ≡ false → AreAlike (length gs) (acts e r (moved_on gs z b)).registers (fresh size)
        unfolding Idles Sound m closes_before
        homed t e r z b at stays = by_push (has_flag e 0x8000) refl
          where
            quiet : has_flag e 0x2000 ≡ false
            quiet = performs_none e at.idle

            by_push : (u : Bool) → has_flag e 0x8000 ≡ u → AreAlike (length gs) (acts e r (moved_on gs z b)).registers (fresh size)
            by_push false none =
                let same : (acts e r (moved_on gs z b)).registers ≡ r = quiet_registers e quiet r (moved_on gs z b) ∙ ap (λ (k : Bool). cond k (with_place_held r (length gs + b.cursor)) r) none in
                rw same (arrived_alike r (fresh size) at.arrived (length-replicate size 0))
            by_push true push =
                let first = at.front in
                absurd (at.unmarked (closes_cut e quiet r z b (closes push) (omega (arith, first)) at.right at.sound))
              where
                closes : has_flag e 0x8000 ≡ true → closes_before e quiet (entry_at table 0 b) ≡ true
                closes push = rw (push, stays) refl

        -- where an entry does not close the line before the cut that pushes, the one of state 0 pushes too
        both_push : (u g w : Bool) → u ≡ true → (u && not (g && w)) ≡ false → w ≡ true
        both_push true true true push stays = refl
        both_push true true false push stays = absurd (cc)
        both_push true false w push stays = absurd (cc)
        both_push false g w push stays = absurd (cc)

        agreed : (t : ℕ) (e f : Entry) (r : Registers) (z : ℤ) (b : Buffer) → Idles t e r z b → AgreesWith m Near gs Reached (fresh size) (Alike gs) Marked (IsOf Back) Sound e f b
            → AreAlike (length gs) (acts e r (moved_on gs z b)).registers (acts f (fresh size) b).registers
        unfolding Idles Sound m Near closes_before
        agreed t e f r z b at same = by_push (has_flag e 0x8000) refl (closes_before e quiet (entry_at table 0 b)) refl
          where
            quiet : has_flag e 0x2000 ≡ false
            quiet = performs_none e at.idle

            quiet_start : has_flag f 0x2000 ≡ false
            quiet_start = performs_none f same.idle_start

            new : length (fresh size).slots ≡ size
            new = length-replicate size 0

            Left : Type 0
            Left = AreAlike (length gs) (acts e r (moved_on gs z b)).registers (acts f (fresh size) b).registers

            whole : (u : Bool) → has_flag e 0x8000 ≡ u → (acts e r (moved_on gs z b)).registers ≡ cond u (with_place_held r (length gs + b.cursor)) r
            whole u is = quiet_registers e quiet r (moved_on gs z b) ∙ ap (λ (k : Bool). cond k (with_place_held r (length gs + b.cursor)) r) is

            part : (acts f (fresh size) b).registers ≡ with_component f (fresh size) b.cursor
            part = quiet_registers f quiet_start (fresh size) b

            by_push : (u : Bool) → has_flag e 0x8000 ≡ u → (v : Bool) → closes_before e quiet (entry_at table 0 b) ≡ v → Left
            by_push false none v closes = rw (whole false none, part) (arrived_alike r (with_component f (fresh size) b.cursor) at.arrived (slots_held f (fresh size) b.cursor ∙ new))
            by_push true push true closes = let first = at.front in absurd (at.unmarked (closes_cut e quiet r z b closes (omega (arith, first)) at.right at.sound))
            by_push true push false stays =
                let other : is_some_and (entry_at table 0 b) (λ h. has_flag h 0x8000) ≡ true = both_push (has_flag e 0x8000) (goes_on e) (is_some_and (entry_at table 0 b) (λ h. has_flag h 0x8000)) push stays in
                let push_start : has_flag f 0x8000 ≡ true = sym (ap (λ (o : Option Entry). is_some_and o (λ h. has_flag h 0x8000)) same.from_start) ∙ other in
                let held : with_component f (fresh size) b.cursor ≡ with_place_held (fresh size) b.cursor = ap (λ (k : Bool). cond k (with_place_held (fresh size) b.cursor) (fresh size)) push_start in
                rw (whole true push, part, held) (both_held (length gs) b.cursor r (fresh size) (arrived_alike r (fresh size) at.arrived new))

        moves : MovesOn m Near gs Reached (fresh size) (Alike gs) Marked (IsOf Back) Sound
        unfolding m On Idles Alike Near
        moves = record {
          begun = λ r n k arrived fit fit_part. arrived_alike r (fresh size) arrived (length-replicate size 0);
          passed = λ t r s alike. alike;
          moved = λ t e r s z b on.
              let k = keeps e s b on.fits_part in
              by_equation gs z (acts e r (moved_on gs z b)).buffer (acts e s b).buffer (both t e r s z b on).buffer (rw k.budget on.budget);
          alike = λ t e r s z b on inside. (both t e r s z b on).alike;
          homed = λ t e r z b at stays home. homed t e r z b at stays;
          agreed = λ t e f r z b at same. agreed t e f r z b at same;
        }

        marks : KeepsMarks m Near gs Marked (IsOf Back) Sound
        unfolding m acts Sound
        marks = record {
          cut = λ z b some first more right sound.
              let q : ℕ = length gs + b.cursor in
              sided.over gs b.line (moved_on gs z b) (q - 1) (q + 1) front.1 right.1 sound refl (omega (arith, some, first)) (omega arith) right.0;
          marks = λ b marked. closed_marked b (Some (b.cursor - 1)) (Some (b.cursor + 1)) marked;
          acts = λ e r b fit sound marked.
              let i : ℕ = ligature_from actions table e r b in
              act_marked e r (closed_from i b) (ordered_closed b (Some i) (Some (b.cursor + 1)) sound) (closed_marked b (Some i) (Some (b.cursor + 1)) marked);
          spends = λ e r b fit. let k = keeps e r b fit in rw k.budget (omega arith);
        }

      is_lawful : IsCutLawful m Near Reached (fresh size) Alike Marked (IsOf Front) (IsOf Back) Sound
      is_lawful = record {
        front = keeps_line Front;
        behind = λ gs front. record { local = is_local; closed = is_closed; moves = moves gs front; marks = marks gs front; back = keeps_line Back; sound = sound_stays };
      }

      -- between two such sides, at a cut that is not marked, the run leaves the parts
      parted : 0 < size → (q : ℕ) (b : Buffer) → All (λ (g : hb_glyph_info_t). Front g.cluster) (take q b.line) → All (λ (g : hb_glyph_info_t). Back g.cluster) (drop q b.line) → IsOrdered R b.line
          → CutOf on table (ligature_closing table actions values ligatures size) Near Marked q b → RunsParted on table (ligature_closing table actions values ligatures size) q b
      unfolding acts m Sound
      parted some q b front back ordered cut =
          let inside = inside_of on table (ligature_closing table actions values ligatures size) Near Marked q b cut in
          let within = inside.1 in
          let behind_first = inside.0 in
          runs_parted on table (ligature_closing table actions values ligatures size) Near keeps_fit passes_fit (pays_in_place acts Near keeps) keeps_settings (lengthens_in_place acts Near keeps) makes_no_positions (fits_fresh some) never_in_place
          Reached Alike Marked (IsOf Front) (IsOf Back) Sound is_lawful q b
          (omega (arith, behind_first, within, length-take q b.line), front) (omega (arith, within, length-drop q b.line), back) ordered cut

-- the cluster c is the least of the back where a line rises, and the least of the front where it falls
rise_sided : (c : ℕ) → IsSided (λ n. n < c) (λ n. c ≤ n) (λ n k. n ≤ k) (λ line. is_open c line ≡ true → ⊥)
rise_sided c = record {
  apart = λ n low high. absurd (omega (arith, low, high));
  same = λ n k is. omega (arith, is);
  steady = λ old new same calm closed is. closed (steady_open c old new same calm is);
  merged = λ b i j rising closed is. closed (merge_out_open_rising c b i j rising is);
  over = λ gs hs b i j low high rising line before behind some is. over_rise c gs hs b i j low high rising line before behind some is;
}

fall_sided : (c : ℕ) → IsSided (λ n. c ≤ n) (λ n. n < c) (λ n k. k ≤ n) (λ line. is_open c line ≡ true → ⊥)
fall_sided c = record {
  apart = λ n high low. absurd (omega (arith, low, high));
  same = λ n k is. omega (arith, is);
  steady = λ old new same calm closed is. closed (steady_open c old new same calm is);
  merged = λ b i j falling closed is. closed (merge_out_open_falling c b i j falling is);
  over = λ gs hs b i j high low falling line before behind some is. over_fall c gs hs b i j high low falling line before behind some is;
}

module _ (actions values : List ℕ) (ligatures : List GlyphId) (size : ℕ) (some : 0 < size) (on : ℕ → Bool) (table : TableValue (GenericStateEntry ℕ)) (c q : ℕ) (b : Buffer) where
  -- a ligature run that closes what it looks at
  abbrev pub run : Context Registers (GenericStateEntry ℕ)
  run = ligature_closing table actions values ligatures size

  -- Where clusters rise from below c to c or more, and c is open behind the run, the run leaves the parts, and the runs
  -- over these come to their ends.
  pub parted_at_rise : All (λ (g : hb_glyph_info_t). g.cluster < c) (take q b.line) → All (λ (g : hb_glyph_info_t). c ≤ g.cluster) (drop q b.line) → IsRisingLine b.line
      → CutOf on table run (Near actions values ligatures size table) (λ line. is_open c line ≡ true → ⊥) q b → RunsParted on table run q b
  parted_at_rise = parted actions values ligatures size table on (λ n. n < c) (λ n. c ≤ n) (λ n k. n ≤ k) (λ line. is_open c line ≡ true → ⊥) (rise_sided c) some q b

  -- and where they fall from c or more to below c
  pub parted_at_fall : All (λ (g : hb_glyph_info_t). c ≤ g.cluster) (take q b.line) → All (λ (g : hb_glyph_info_t). g.cluster < c) (drop q b.line) → IsFallingLine b.line
      → CutOf on table run (Near actions values ligatures size table) (λ line. is_open c line ≡ true → ⊥) q b → RunsParted on table run q b
  parted_at_fall = parted actions values ligatures size table on (λ n. c ≤ n) (λ n. n < c) (λ n k. k ≤ n) (λ line. is_open c line ≡ true → ⊥) (fall_sided c) some q b

  pub leaves_parts_at_rise : All (λ (g : hb_glyph_info_t). g.cluster < c) (take q b.line) → All (λ (g : hb_glyph_info_t). c ≤ g.cluster) (drop q b.line) → IsRisingLine b.line
      → IsCutPlace on table run (λ line. is_open c line ≡ true → ⊥) q b → LeavesItsParts on table run q b
  leaves_parts_at_rise front back rising cut = (parted_at_rise front back rising (AtOn cut)).parts

  pub leaves_parts_at_fall : All (λ (g : hb_glyph_info_t). c ≤ g.cluster) (take q b.line) → All (λ (g : hb_glyph_info_t). g.cluster < c) (drop q b.line) → IsFallingLine b.line
      → IsCutPlace on table run (λ line. is_open c line ≡ true → ⊥) q b → LeavesItsParts on table run q b
  leaves_parts_at_fall front back falling cut = (parted_at_fall front back falling (AtOn cut)).parts
