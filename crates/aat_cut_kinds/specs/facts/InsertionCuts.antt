-- A complete insertion subtable meets the laws of a cut, and so leaves the parts of a line at an unmarked rise of the
-- clusters, and at an unmarked fall.
use Rattle.std.proofs.Common.{◌≡◌, ◌∙◌, ◌⊎◌, inl, inr, ℕ, ℤ, ◌+◌, ◌-◌, ◌<◌, ◌≤◌, ◌&&◌, ◌||◌, not, Bool, true, false, cond, List, ◌++◌, length, min, nat_lt, take, drop, Option, Some, refl, ap, subst, sym, arith, length-append, length-drop, length-take}
use Rattle.std.proofs.lemmas.Bool.{cases_lt}
use Rattle.std.proofs.lemmas.Bool.Decides.{nat_tests}
use Rattle.std.proofs.lemmas.List.{take-append-drop}
use Rattle.std.proofs.lemmas.List.Elements.{All-append, All-drop, All-map, All-take}
use Rattle.std.specs.Prelude.{All}
use Rattle.aat_buffer.specs.Buffer.{Buffer, model_at, no_glyph, with_line}
use Rattle.aat_buffer.specs.Clusters.{ComesFrom}
use Rattle.aat_buffer.specs.Marks.{unsafe_to_break}
use Rattle.aat_buffer.specs.facts.Cases.{chosen}
use Rattle.aat_buffer.specs.facts.Lines.{length_unsafe}
use Rattle.aat_buffer.specs.facts.Order.{same_unsafe}
use Rattle.aat_machine_tables.specs.Entries.{goes_on, has_flag, is_present}
use Rattle.aat_machine_tables.specs.Table.{TableValue}
use Rattle.aat_lookup.specs.declared.glyph_id.GlyphId.{GlyphId}
use Rattle.aat_glyph.specs.declared.glyph.hb_glyph_info_t.{hb_glyph_info_t}
use Rattle.aat_run.specs.Budget.{has_operations, has_overspent, operations_left, paid}
use Rattle.aat_run.specs.Context.{Context, Machine, Moved, machine_of, machine_with, start}
use Rattle.aat_run.specs.Driven.{comes_to_end, context_from}
use Rattle.aat_run.specs.Laws.{FitsFresh, KeepsFit, KeepsPlaceWhere, PassesFit}
use Rattle.aat_run.specs.Machine.{break_marked_at}
use Rattle.aat_run.specs.facts.MachineRuns.{paid_less}
use Rattle.aat_kinds.specs.Insertion.{Entry, Registers, act, actionable, at_cursor, at_mark, context, copies, current_count, current_part, fresh, inserted, marked_count, with_mark}
use Rattle.aat_kinds.specs.Kinds.{insertion_run}
use Rattle.aat_kinds.specs.facts.InsertionLaws as laws
use Rattle.aat_kinds.specs.facts.OrderHolds.{insertion_kept}
use Rattle.aat_cut_kinds.specs.Cut.{IsCutPlace, LeavesItsParts}
use Rattle.aat_cut_kinds.specs.CutLaws.{ActsOnBoth, AgreesWith, IdlesAtCut, IsClosed, IsCutLawful, IsIdle, IsLocal, IsMovedOn, KeepsLine, KeepsMarks, KeepsSound, MovesOn, left_before}
use Rattle.aat_cut_kinds.specs.Parts.{followed_by, moved_on}
use Rattle.aat_cut_kinds.specs.facts.Complete.{complete_runs_through}
use Rattle.aat_cut_kinds.specs.facts.ContextCuts.{AtOn, CutOf, RunsParted, inside_of, runs_parted}
use Rattle.aat_cut_kinds.specs.facts.Flags.{calm_unsafe}
use Rattle.aat_cut_kinds.specs.facts.MarksOnly.{of_unsafe}
use Rattle.aat_cut_kinds.specs.Cuts.{IsUnmarkedFall, IsUnmarkedRise, LeavesParts}
use Rattle.aat_cut_kinds.specs.Settled.{HasEntries, IsPlain}
use Rattle.aat_cut_kinds.specs.facts.CutSides.{IsOf, IsParted, IsSided, all_from, parted}
use Rattle.aat_cut_kinds.specs.facts.FirstFlags.{FlaggedFrom, not_flagged_from, rises}
use Rattle.aat_cut_kinds.specs.facts.InsertionActs.{act_in_front, act_on_both, act_when_marked, current_run, idle_act, inserted_in_front, inside_act, marked_run, pay, registers_of, was_paid, with_current_run, with_marked_run}
use Rattle.aat_cut_kinds.specs.facts.LastFlags.{FlaggedDownTo, falls, not_flagged_down_to}

neither : (a b : Bool) → (a || b) ≡ false → (a ≡ false) × (b ≡ false)
neither true b e = absurd (cc)
neither false b e = (refl, e)

-- the marked place is at most at the cursor, and on the line or at its end
abbrev pub Near : Registers → ℕ → ℕ → Type 0
Near r p n = (r.mark ≤ p) × (r.mark ≤ n)

pub fits_fresh : FitsFresh Near fresh
fits_fresh n = (omega arith, omega arith)

pub passes_fit : PassesFit Near
passes_fit r p n fit below = (omega (arith, fit.0), fit.1)

-- a line under marks comes from the line
comes_of_marks : (b : Buffer) (i j : Option ℕ) → ComesFrom b.line (unsafe_to_break b i j).line
comes_of_marks b i j k within = (k, rw (length_unsafe b i j) at within, same_unsafe b i j k)

module _ (glyphs : List GlyphId) where
  -- the mark stays, or is the cursor from before
  mark_of : (P : ℕ → Type 0) (e : Entry) (r : Registers) (b : Buffer) → P r.mark → P b.cursor → P (act glyphs e r b).registers.mark
  unfolding act
  mark_of P e r b stay set =
      let d = paid (marked_count e) b in
      let s = with_mark e r b.cursor in
      let marked : P s.mark = chosen (λ (x : Registers). P x.mark) (has_flag e 0x8000) (record { mark = b.cursor }) r (λ _. set) (λ _. stay) in
      chosen (λ (n : Moved Registers). P n.registers.mark) (is_present e.extra.marked_insert_index) (cond (has_operations d) (current_part glyphs e s (at_mark glyphs e r d)) (record { registers = r; buffer = d })) (current_part glyphs e s b)
      (λ _. chosen (λ (n : Moved Registers). P n.registers.mark) (has_operations d) (current_part glyphs e s (at_mark glyphs e r d)) (record { registers = r; buffer = d }) (λ _. marked) (λ _. stay))
      (λ _. marked)

  cursor_grows : (e : Entry) (r : Registers) (b : Buffer) → b.cursor ≤ (act glyphs e r b).buffer.cursor
  cursor_grows e r b = laws.of_act glyphs (λ d. b.cursor ≤ d.cursor) (λ n d k. k) (λ d i j k. k) (λ index count i behind by d k. omega (arith, k)) e r b (omega arith)

  pub keeps_fit : KeepsFit (act glyphs) Near
  keeps_fit e r b fit below =
      let grown = cursor_grows e r b in
      (mark_of (λ n. n ≤ (act glyphs e r b).buffer.cursor) e r b (omega (arith, fit.0, grown)) grown, laws.keeps_fit glyphs e r b fit.1 below)

  -- an act passes no glyph behind the one at the cursor
  pub passes_none : (e : Entry) (r : Registers) (b : Buffer) → r.mark ≤ b.cursor → b.cursor < length b.line → length b.line + (act glyphs e r b).buffer.cursor ≤ length (act glyphs e r b).buffer.line + b.cursor
  passes_none e r b near below =
      let gs : List hb_glyph_info_t = drop (b.cursor + 1) b.line in
      let short : Buffer = with_line b (take (b.cursor + 1) b.line) in
      let long_short : length short.line ≡ b.cursor + 1 = length-take (b.cursor + 1) b.line ∙ omega (arith, below) in
      let long_rest = length-drop (b.cursor + 1) b.line in
      let is : b ≡ followed_by gs short = ap (λ (line : List hb_glyph_info_t). with_line b line) (sym (take-append-drop (b.cursor + 1) b.line)) in
      let left : act glyphs e r b ≡ left_before gs (act glyphs e r short) = ap (act glyphs e r) is ∙ act_in_front glyphs gs e r short (omega (arith, long_short)) (omega (arith, near, long_short)) in
      let inside = inside_act glyphs e r short (omega (arith, long_short)) in
      let cursor = ap (λ (v : Moved Registers). v.buffer.cursor) left in
      let line = ap (λ (v : Moved Registers). length v.buffer.line) left ∙ length-append (act glyphs e r short).buffer.line gs in
      omega (arith, below, long_rest, inside, cursor, line)

  -- what holds of all clusters of a line holds of those behind an act
  stays : (P : ℕ → Type 0) (e : Entry) (r : Registers) (b : Buffer) → All (λ (g : hb_glyph_info_t). P g.cluster) b.line → All (λ (g : hb_glyph_info_t). P g.cluster) (act glyphs e r b).buffer.line
  stays P e r b all = all_from P b.line (act glyphs e r b).buffer.line (insertion_kept (λ x y. x ≤ y) (λ x y same. omega (arith, same)) glyphs e r b).from all

  -- and where a run goes in
  stays_inserted : (P : ℕ → Type 0) (new : List GlyphId) (i : ℕ) (behind : Bool) (line : List hb_glyph_info_t) → i < length line → All (λ (g : hb_glyph_info_t). P g.cluster) line → All (λ (g : hb_glyph_info_t). P g.cluster) (inserted new i behind line)
  unfolding inserted
  stays_inserted P new i behind line within all =
      let a = cond (behind && nat_lt i (length line)) (i + 1) i in
      let place : min i (length line - 1) < length line = omega (arith, within) in
      let model : P (model_at line i).cluster = all (min i (length line - 1)) no_glyph place in
      All-append (λ (g : hb_glyph_info_t). P g.cluster) (take a line) (copies (model_at line i) new ++ drop a line) (All-take (λ (g : hb_glyph_info_t). P g.cluster) a line all)
      (All-append (λ (g : hb_glyph_info_t). P g.cluster) (copies (model_at line i) new) (drop a line)
      (All-map (λ (g : hb_glyph_info_t). P g.cluster) (λ (g : GlyphId). record (model_at line i) { glyph_id = g.0 }) new (λ k d below. model)) (All-drop (λ (g : hb_glyph_info_t). P g.cluster) a line all))

  module _ (Front Back : ℕ → Type 0) (Marked : List hb_glyph_info_t → Type 0) (sided : IsSided Front Back Marked) where
    -- a line whose cut is marked stays so under an act
    marked_act : (e : Entry) (r : Registers) (b : Buffer) → Marked b.line → Marked (act glyphs e r b).buffer.line
    marked_act e r b marked =
        laws.of_act glyphs (λ d. Marked d.line) (λ n d k. k)
        (λ d i j k. sided.steady d.line (unsafe_to_break d i j).line (of_unsafe (λ (g : hb_glyph_info_t). g.cluster) (λ bits g. refl) d i j) (calm_unsafe d i j) k)
        (λ index count i behind by d k. sided.grows _ i behind d.line k) e r b marked

    marked_current : (e : Entry) (s : Registers) (b : Buffer) → Marked b.line → Marked (current_part glyphs e s b).buffer.line
    unfolding at_cursor
    marked_current e s b marked = by_index (is_present e.extra.current_insert_index) (has_overspent (paid (current_count e) b))
      where
        by_index : (t u : Bool) → Marked (cond t (cond u (paid (current_count e) b) (with_current_run glyphs e (current_run glyphs e (paid (current_count e) b)) (paid (current_count e) b))) b).line
        by_index true true = marked
        by_index true false = sided.grows (current_run glyphs e (paid (current_count e) b)) b.cursor (not (has_flag e 0x0800)) b.line marked
        by_index false u = marked

    module _ (gs : List hb_glyph_info_t) (front : All (λ (g : hb_glyph_info_t). Front g.cluster) gs) where
      -- an act from a mark before the cut marks the cut
      stale_marks : (e : Entry) (r : Registers) (z : ℤ) (b : Buffer) → IsOf Back b.line → r.mark < length gs → Marked (at_mark glyphs e r (moved_on gs z b)).line
      unfolding at_mark
      stale_marks e r z b back stale =
          let new : List GlyphId = marked_run glyphs e (moved_on gs z b) in
          let behind : Bool = not (has_flag e 0x0400) in
          let d : Buffer = with_marked_run glyphs e r.mark new (moved_on gs z b) in
          let longer : List hb_glyph_info_t = inserted new r.mark behind gs in
          let line : d.line ≡ longer ++ b.line = inserted_in_front new r.mark behind gs b.line stale in
          let long : length longer ≡ length gs + length new = laws.length_inserted new r.mark behind gs in
          let whole : length d.line ≡ length longer + length b.line = ap length line ∙ length-append longer b.line in
          let some = back.0 in
          let sides : IsParted Front Back (length longer) (longer ++ b.line) = parted Front Back longer b.line (stays_inserted Front new r.mark behind gs stale front) back in
          sided.over r.mark (min (d.cursor + 1) (length d.line)) (length longer) d (subst (λ (xs : List hb_glyph_info_t). IsParted Front Back (length longer) xs) (sym line) sides)
          (omega (arith, stale, long)) (omega (arith, whole, some, long))

      stale_act : (e : Entry) (r : Registers) (z : ℤ) (b : Buffer) → IsOf Back b.line → r.mark < length gs → is_present e.extra.marked_insert_index ≡ true → 0 < operations_left (act glyphs e r (moved_on gs z b)).buffer.max_ops
          → Marked (act glyphs e r (moved_on gs z b)).buffer.line
      stale_act e r z b back stale named enough =
          rw (act_when_marked glyphs e r (moved_on gs z b) named (was_paid glyphs e r (moved_on gs z b) named enough))
          (marked_current e (with_mark e r (length gs + b.cursor)) (at_mark glyphs e r (moved_on gs (pay (marked_count e) z) (paid (marked_count e) b))) (stale_marks e r (pay (marked_count e) z) (paid (marked_count e) b) back stale))

      -- the driver's mark at the cut marks it
      cut_marks : (z : ℤ) (b : Buffer) → 0 < length gs → b.cursor ≡ 0 → IsOf Back b.line → Marked (break_marked_at (moved_on gs z b)).line
      cut_marks z b some first back =
          let p : ℕ = length gs + b.cursor in
          let here : length gs ≡ p = omega (arith, first) in
          sided.over (p - 1) (p + 1) p (moved_on gs z b) (subst (λ (n : ℕ). IsParted Front Back n (gs ++ b.line)) here (parted Front Back gs b.line front back)) (omega (arith, some)) (omega arith)

  -- Which entries are actionable may be said in one way or another, but of each the same at every glyph, and one that is
  -- actionable at none names no run.
  module _ (on : ℕ → Bool) (table : TableValue Entry) (actionable : Entry → Registers → ℕ → ℕ → Bool)
      (tested : (e : Entry) (r s : Registers) (p n i k : ℕ) → p < n → i < k → actionable e r p n ≡ actionable e s i k)
      (names_none : (e : Entry) → IsIdle (machine_with on table goes_on actionable (act glyphs)) Near e → (is_present e.extra.marked_insert_index ≡ false) × (is_present e.extra.current_insert_index ≡ false))
    where
      abbrev pub x : Context Registers Entry
      x = context_from false goes_on actionable (act glyphs) fresh

      m : Machine Registers Entry
      m = machine_with on table goes_on actionable (act glyphs)

      idle_buffer : (e : Entry) (r : Registers) (b : Buffer) → IsIdle m Near e → (act glyphs e r b).buffer ≡ b
      unfolding m
      idle_buffer e r b idle = let none = names_none e idle in ap (λ (x : Moved Registers). x.buffer) (idle_act glyphs e r b none.0 none.1)

      is_local : (Left Right : List hb_glyph_info_t → Type 0) → IsLocal m Near Left Right
      unfolding m
      is_local Left Right = record {
        tested = tested;
        inside = λ e r b fit below. inside_act glyphs e r b below;
        unseen = λ e r b gs fit below left right. act_in_front glyphs gs e r b below (let near = fit.0 in omega (arith, near, below));
        idle = λ e r b idle. inl (idle_buffer e r b idle);
      }

      -- each state may be reached
      Reached : ℕ → Type 0
      Reached t = Unit {0}

      is_closed : IsClosed m Near Reached
      unfolding Reached
      is_closed = record { first = tt; entries = λ t k e known is. tt }

      -- each line is sound
      Sound : ℕ → List hb_glyph_info_t → Type 0
      Sound level line = Unit {0}

      sound_stays : KeepsSound m Near Sound
      unfolding Sound
      sound_stays = record { marks = λ b sound. tt; acts = λ e r b fit sound. tt }

      -- the marked place has moved on, or stands before the cut
      Alike : List hb_glyph_info_t → ℕ → Registers → Registers → Type 0
      Alike gs t r s = (r.mark ≡ length gs + s.mark) ⊎ (r.mark < length gs)

      near_cut : (gs : List hb_glyph_info_t) (t : ℕ) (r s : Registers) → r.mark ≤ length gs → s.mark ≤ 0 → Alike gs t r s
      unfolding Alike
      near_cut gs t r s whole part = by_order (cases_lt r.mark (length gs))
        where
          by_order : ((r.mark < length gs) ⊎ (length gs ≤ r.mark)) → (r.mark ≡ length gs + s.mark) ⊎ (r.mark < length gs)
          by_order (inl below) = inr below
          by_order (inr above) = inl (omega (arith, whole, part, above))

      -- a line that has such clusters alone keeps them
      keeps_line : (P : ℕ → Type 0) → KeepsLine m Near (IsOf P)
      unfolding m
      keeps_line P = record {
        marks = λ b all.
            let some = all.0 in
            let same = length_unsafe b (Some (b.cursor - 1)) (Some (b.cursor + 1)) in
            (omega (arith, some, same), all_from P b.line (break_marked_at b).line (comes_of_marks b (Some (b.cursor - 1)) (Some (b.cursor + 1))) all.1);
        acts = λ e r b fit all.
            let some = all.0 in
            let longer = laws.lengthens glyphs e r b fit.1 in
            (omega (arith, some, longer), stays P e r b all.1);
      }

      module _ (Front Back : ℕ → Type 0) (Marked : List hb_glyph_info_t → Type 0) (sided : IsSided Front Back Marked) where
        module _ (gs : List hb_glyph_info_t) (front : IsOf Front gs) where
          On : ℕ → Entry → Registers → Registers → ℤ → Buffer → Type 0
          On t e r s z b = ActsOnBoth m Near gs Reached fresh (Alike gs) Marked (IsOf Back) Sound t e r s z b

          moved : (t : ℕ) (e : Entry) (r s : Registers) (z : ℤ) (b : Buffer) → On t e r s z b → IsMovedOn gs (act glyphs e r (moved_on gs z b)).buffer (act glyphs e s b).buffer
          unfolding On Alike m Reached
          moved t e r s z b on = by_mark on.alike
            where
              by_index : (u : Bool) → is_present e.extra.marked_insert_index ≡ u → r.mark < length gs → is_present e.extra.marked_insert_index ≡ true → r.mark ≡ length gs + s.mark
              by_index true is stale named = absurd (on.unmarked (stale_act Front Back Marked sided gs front.1 e r z b on.right stale named on.enough))
              by_index false is stale named = absurd (let e : false ≡ true = sym is ∙ named in cc)

              by_mark : ((r.mark ≡ length gs + s.mark) ⊎ (r.mark < length gs)) → IsMovedOn gs (act glyphs e r (moved_on gs z b)).buffer (act glyphs e s b).buffer
              by_mark (inl same) = act_on_both glyphs gs e r s z b on.right.0 on.budget on.enough (λ named. same)
              by_mark (inr stale) = act_on_both glyphs gs e r s z b on.right.0 on.budget on.enough (by_index (is_present e.extra.marked_insert_index) refl stale)

          registers_alike : (t : ℕ) (e : Entry) (r s : Registers) (z : ℤ) (b : Buffer) → On t e r s z b → Alike gs e.new_state (act glyphs e r (moved_on gs z b)).registers (act glyphs e s b).registers
          unfolding On Alike m Reached
          registers_alike t e r s z b on =
              let both = moved t e r s z b on in
              let enough = on.enough in
              rw (registers_of glyphs e r (moved_on gs z b) enough, registers_of glyphs e s b (omega (arith, enough, both.budget))) (by_flag (has_flag e 0x8000))
            where
              IsAlike : Registers → Registers → Type 0
              IsAlike u v = (u.mark ≡ length gs + v.mark) ⊎ (u.mark < length gs)

              by_flag : (h : Bool) → IsAlike (cond h (record { mark = length gs + b.cursor }) r) (cond h (record { mark = b.cursor }) s)
              by_flag true = inl refl
              by_flag false = on.alike

          homed : (t : ℕ) (e : Entry) (r : Registers) (z : ℤ) (b : Buffer) → IdlesAtCut m Near gs Reached fresh (Alike gs) Marked (IsOf Back) Sound t e r z b
              → Alike gs 0 (act glyphs e r (moved_on gs z b)).registers fresh
          unfolding m
          homed t e r z b at =
              let none = names_none e at.idle in
              let first = at.front in
              let whole = at.fits_whole.0 in
              rw (idle_act glyphs e r (moved_on gs z b) none.0 none.1)
              (near_cut gs 0 (with_mark e r (length gs + b.cursor)) fresh
              (chosen (λ (x : Registers). x.mark ≤ length gs) (has_flag e 0x8000) (record { mark = length gs + b.cursor }) r (λ _. omega (arith, first)) (λ _. omega (arith, whole, first)))
              (omega arith))

          agreed : (t : ℕ) (e f : Entry) (r : Registers) (z : ℤ) (b : Buffer) → IdlesAtCut m Near gs Reached fresh (Alike gs) Marked (IsOf Back) Sound t e r z b
              → AgreesWith m Near gs Reached fresh (Alike gs) Marked (IsOf Back) Sound e f b
              → Alike gs e.new_state (act glyphs e r (moved_on gs z b)).registers (act glyphs f fresh b).registers
          unfolding m
          agreed t e f r z b at same =
              let none = names_none e at.idle in
              let none_start = names_none f same.idle_start in
              let first = at.front in
              let whole = at.fits_whole.0 in
              rw (idle_act glyphs e r (moved_on gs z b) none.0 none.1, idle_act glyphs f fresh b none_start.0 none_start.1)
              (near_cut gs e.new_state (with_mark e r (length gs + b.cursor)) (with_mark f fresh b.cursor)
              (chosen (λ (x : Registers). x.mark ≤ length gs) (has_flag e 0x8000) (record { mark = length gs + b.cursor }) r (λ _. omega (arith, first)) (λ _. omega (arith, whole, first)))
              (chosen (λ (x : Registers). x.mark ≤ 0) (has_flag f 0x8000) (record { mark = b.cursor }) fresh (λ _. omega (arith, first)) (λ _. omega arith)))

          moves : MovesOn m Near gs Reached fresh (Alike gs) Marked (IsOf Back) Sound
          unfolding On m Alike
          moves = record {
            begun = λ r n k arrived fit fit_part. near_cut gs 0 r fresh fit.0 (omega arith);
            passed = λ t r s alike. alike;
            moved = λ t e r s z b on. moved t e r s z b on;
            alike = λ t e r s z b on inside. registers_alike t e r s z b on;
            homed = λ t e r z b at stays home. homed t e r z b at;
            agreed = λ t e f r z b at same. agreed t e f r z b at same;
          }

        marks : (gs : List hb_glyph_info_t) → IsOf Front gs → KeepsMarks m Near gs Marked (IsOf Back) Sound
        unfolding m
        marks gs front = record {
          cut = λ z b some first more right sound. cut_marks Front Back Marked sided gs front.1 z b front.0 first right;
          marks = λ b marked.
              sided.steady b.line (break_marked_at b).line (of_unsafe (λ (g : hb_glyph_info_t). g.cluster) (λ bits g. refl) b (Some (b.cursor - 1)) (Some (b.cursor + 1)))
              (calm_unsafe b (Some (b.cursor - 1)) (Some (b.cursor + 1))) marked;
          acts = λ e r b fit sound marked. marked_act Front Back Marked sided e r b marked;
          spends = λ e r b fit.
              laws.of_act glyphs (λ d. operations_left d.max_ops ≤ operations_left b.max_ops) (λ n d k. let less = paid_less n d.max_ops in omega (arith, less, k)) (λ d i j k. k) (λ index count i behind by d k. k) e r b (omega arith);
        }

        is_lawful : IsCutLawful m Near Reached fresh Alike Marked (IsOf Front) (IsOf Back) Sound
        is_lawful = record {
          front = keeps_line Front;
          behind = λ gs front. record { local = is_local (IsOf Front) (IsOf Back); closed = is_closed; moves = moves gs front; marks = marks gs front; back = keeps_line Back; sound = sound_stays };
        }

        never_in_place : KeepsPlaceWhere (act glyphs) Near false
        never_in_place is = absurd (cc)

        -- between two such sides, at an unmarked cut, the run leaves the parts
        pub leaves_parts : (q : ℕ) (b : Buffer) → All (λ (g : hb_glyph_info_t). Front g.cluster) (take q b.line) → All (λ (g : hb_glyph_info_t). Back g.cluster) (drop q b.line)
            → CutOf on table x Near Marked q b → RunsParted on table x q b
        unfolding m Sound
        leaves_parts q b front back cut =
            let inside = inside_of on table x Near Marked q b cut in
            let within = inside.1 in
            let some = inside.0 in
            runs_parted on table x Near keeps_fit passes_fit (λ e r d fit. laws.pays glyphs e r d fit.1) (λ e r d fit. laws.keeps_settings glyphs e r d fit.1) (λ e r d fit. laws.lengthens glyphs e r d fit.1)
            (λ e r d fit none. laws.makes_no_positions glyphs e r d fit.1 none) fits_fresh never_in_place
            Reached Alike Marked (IsOf Front) (IsOf Back) Sound is_lawful q b
            (omega (arith, some, within, length-take q b.line), front) (omega (arith, within, length-drop q b.line), back) tt cut

  -- of a complete table, of whose entries none names a run and puts none in
  module _ (on : ℕ → Bool) (table : TableValue Entry) (reached : ℕ → Bool) (entries : HasEntries table reached) (plain : IsPlain table) where
    names_none : (e : Entry) → IsIdle (machine_with on table goes_on actionable (act glyphs)) Near e → (is_present e.extra.marked_insert_index ≡ false) × (is_present e.extra.current_insert_index ≡ false)
    names_none e idle = by_flag (has_flag e 0x03FF) refl (idle.quiet fresh 0 1 (omega arith))
      where
        by_flag : (t : Bool) → has_flag e 0x03FF ≡ t → (t && (is_present e.extra.current_insert_index || is_present e.extra.marked_insert_index)) ≡ false
            → (is_present e.extra.marked_insert_index ≡ false) × (is_present e.extra.current_insert_index ≡ false)
        by_flag true is none = let both = neither (is_present e.extra.current_insert_index) (is_present e.extra.marked_insert_index) none in (both.1, both.0)
        by_flag false is none = plain idle.state idle.class e idle.entry is

    -- a run comes to the end of the line
    through : (b : Buffer) → comes_to_end on table (context glyphs) b ≡ true
    unfolding comes_to_end
    through b =
        let past = complete_runs_through (machine_of on table (context glyphs)) Near keeps_fit passes_fit (λ e r d fit. laws.pays glyphs e r d fit.1) (λ t. reached t ≡ true) entries.first entries.entries (start false b fresh) (fits_fresh (length b.line)) entries.first in
        grind (arith, nat_tests, past)

    plain_parts : (Front Back : ℕ → Type 0) (Marked : List hb_glyph_info_t → Type 0) (sided : IsSided Front Back Marked) (q : ℕ) (b : Buffer)
        → All (λ (g : hb_glyph_info_t). Front g.cluster) (take q b.line) → All (λ (g : hb_glyph_info_t). Back g.cluster) (drop q b.line)
        → IsCutPlace on table (context glyphs) Marked q b → LeavesItsParts on table (context glyphs) q b
    plain_parts Front Back Marked sided q b front back cut = (leaves_parts on table actionable (λ e r s p n i k below within. refl) names_none Front Back Marked sided q b front back (AtOn cut)).parts

    -- at an unmarked rise of the clusters
    pub leaves_parts_at_rise : (c q : ℕ) (b : Buffer) → IsUnmarkedRise (insertion_run on table glyphs) on c q b → LeavesParts (insertion_run on table glyphs) q b
    unfolding insertion_run
    leaves_parts_at_rise c q b cut =
        plain_parts (λ n. n < c) (λ n. c ≤ n) (FlaggedFrom c) (rises c) q b cut.split.before cut.split.behind
        (record { behind_first = cut.behind_first; before_end = cut.before_end; is_on = cut.is_on; through = through b; budget = cut.budget; unmarked = λ marked. not_flagged_from c (insertion_run on table glyphs b).buffer.line cut.unflagged marked })

    -- and at an unmarked fall
    pub leaves_parts_at_fall : (c q : ℕ) (b : Buffer) → IsUnmarkedFall (insertion_run on table glyphs) on c q b → LeavesParts (insertion_run on table glyphs) q b
    unfolding insertion_run
    leaves_parts_at_fall c q b cut =
        plain_parts (λ n. c ≤ n) (λ n. n < c) (FlaggedDownTo c) (falls c) q b cut.split.before cut.split.behind
        (record { behind_first = cut.behind_first; before_end = cut.before_end; is_on = cut.is_on; through = through b; budget = cut.budget; unmarked = λ marked. not_flagged_down_to c (insertion_run on table glyphs b).buffer.line cut.unflagged marked })
