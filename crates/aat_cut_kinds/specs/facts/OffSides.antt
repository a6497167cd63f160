-- A machine that is off on both sides of a cut: the last glyph that the run over the front part looks at is off.
use Rattle.std.proofs.Common.{◌≡◌, ◌∙◌, ◌⊎◌, inl, inr, ℕ, ◌+◌, ◌-◌, ◌<◌, ◌≤◌, Bool, true, false, cond, List, ◌++◌, length, take, drop, Option, Some, None, refl, ap, subst, sym, arith, length-take}
use Rattle.std.proofs.lemmas.List.{get_or_default, get_or-take}
use Rattle.std.proofs.lemmas.List.Elements.{All-append}
use Rattle.std.specs.Prelude.{All}
use Rattle.aat_buffer.specs.Buffer.{Buffer, no_glyph}
use Rattle.aat_buffer.specs.Clusters.{ClustersMerge, ComesFrom, IsOrdered}
use Rattle.aat_buffer.specs.Marks.{cluster_at, clusters_stay_apart, unsafe_to_break}
use Rattle.aat_buffer.specs.facts.Cases.{chosen, either}
use Rattle.aat_buffer.specs.facts.Lines.{length_unsafe}
use Rattle.aat_buffer.specs.facts.Order.{kept_refl, kept_unsafe, same_unsafe}
use Rattle.aat_glyph.specs.declared.glyph.hb_glyph_info_t.{hb_glyph_info_t}
use Rattle.aat_run.specs.Budget.{has_operations, paid}
use Rattle.aat_run.specs.Context.{Config, Machine, Moved, class_at, cluster_seen, is_at_end}
use Rattle.aat_run.specs.Laws.{KeepsClusters, KeepsFit, KeepsSettings, PassesFit, Pays, Stands}
use Rattle.aat_run.specs.Machine.{Ends, Goes, Turn, acted, behind_act, break_marked_at, by_entry, counted, left_by, marked, off, passed, run_to_end, settled_by, stepped, turn}
use Rattle.aat_run.specs.facts.MachineRuns.{buffer_kept, cursor_of_marked, length_of_marked, turn_keeps, turn_when_on}
use Rattle.aat_cut_kinds.specs.facts.CutSides.{all_from}
use Rattle.aat_cut_kinds.specs.facts.Inside.{not_at_end}

-- each glyph of a line has such a cluster
abbrev pub Each : (ℕ → Type 0) → List hb_glyph_info_t → Type 0
Each P line = All (λ (g : hb_glyph_info_t). P g.cluster) line

-- What an act keeps of the sides of a cut: an order of the clusters along a line, and where they come from; and it passes
-- no glyph of the line.
pub record KeepsSides {R E : Type 0} (act : E → R → Buffer → Moved R) (fits : R → ℕ → ℕ → Type 0) (Order : ℕ → ℕ → Type 0) : Type 0 where
  pub ordered : (e : E) (r : R) (b : Buffer) → fits r b.cursor (length b.line) → ClustersMerge b.cluster_level → IsOrdered Order b.line → IsOrdered Order (act e r b).buffer.line
  pub clusters : KeepsClusters act fits
  pub rest : (e : E) (r : R) (b : Buffer) → fits r b.cursor (length b.line) → b.cursor < length b.line → length b.line + (act e r b).buffer.cursor ≤ length (act e r b).buffer.line + b.cursor

-- A line that is cut at place q. Its clusters are in an order, those before the cut are of the front, and those behind it
-- are away from the front's end. So is each cluster of a line of the front whose last glyph is on.
pub record AreOffSides (on : ℕ → Bool) (Order : ℕ → ℕ → Type 0) (Front Away : ℕ → Type 0) (q level : ℕ) (line : List hb_glyph_info_t) : Type 0 where
  pub same : (x y : ℕ) → x ≡ y → Order x y
  pub front : Each Front (take q line)
  pub back : Each Away (drop q line)
  pub ordered : IsOrdered Order line
  pub merges : ClustersMerge level
  pub faded : (gs : List hb_glyph_info_t) → 0 < length gs → IsOrdered Order gs → Each Front gs → on (cluster_at gs (length gs - 1)) ≡ true → Each Away gs

-- a line under marks comes from the line
comes_of_marks : (b : Buffer) (i j : Option ℕ) → ComesFrom b.line (unsafe_to_break b i j).line
comes_of_marks b i j k within = (k, rw (length_unsafe b i j) at within, same_unsafe b i j k)

-- a front part is in the order of the line
ordered_front : (Order : ℕ → ℕ → Type 0) (q : ℕ) (line : List hb_glyph_info_t) → q ≤ length line → IsOrdered Order line → IsOrdered Order (take q line)
ordered_front Order q line within ordered i j d before inside =
    let long = length-take q line in
    let low : j < q = omega (arith, inside, long, within) in
    let at_i = get_or_default (take q line) i d no_glyph (omega (arith, before, inside)) in
    let at_j = get_or_default (take q line) j d no_glyph inside in
    rw (at_i, at_j, get_or-take q line i no_glyph (omega (arith, before, low)), get_or-take q line j no_glyph low) (ordered i j no_glyph before (omega (arith, low, within)))

module _ {R E : Type 0} (m : Machine R E) (fits : R → ℕ → ℕ → Type 0) (keeps : KeepsFit m.act fits) (passes : PassesFit fits) (pays : Pays m.act fits) (settings : KeepsSettings m.act fits)
    (Order : ℕ → ℕ → Type 0) (Front Away : ℕ → Type 0) (law : KeepsSides m.act fits Order) (q level : ℕ) (line : List hb_glyph_info_t) (sides : AreOffSides m.on Order Front Away q level line)
  where
    -- each turn tells which cluster it looked at
    sees : (c : Config R) → (left_by (turn m c)).last ≡ cluster_seen c.buffer c.last
    unfolding turn by_entry acted off
    sees c =
        let d = counted m c in
        either (λ (t : Turn (Config R)). (left_by t).last) (m.on d.last) (by_entry m (m.entry d.state (class_at m.class_of d.buffer)) d) (off m d) d.last
        (of_entry (m.entry d.state (class_at m.class_of d.buffer)) d) (of_off d)
      where
        of_settled : (a : Bool) (d : Config R) → (left_by (settled_by (stepped a) d)).last ≡ d.last
        of_settled a d = either (λ (t : Turn (Config R)). (left_by t).last) (is_at_end d.buffer) (Ends d) (Goes (record d { buffer = stepped a d.buffer })) d.last refl refl

        of_entry : (o : Option E) (d : Config R) → (left_by (by_entry m o d)).last ≡ d.last
        of_entry None d = refl
        of_entry (Some e) d = of_settled (m.advances e) (behind_act (m.act e d.registers (marked m e d)) (m.next e) d)

        of_off : (d : Config R) → (left_by (off m d)).last ≡ d.last
        of_off d = either (λ (t : Turn (Config R)). (left_by t).last) (is_at_end d.buffer) (Ends d) (Goes (record d { buffer = passed d.buffer; state = 0 })) d.last refl refl

    -- a turn that acts comes to the end from the last place alone
    module _ (c : Config R) (stands : Stands fits c) (below : c.buffer.cursor < length c.buffer.line) where
      Last : Buffer → Type 0
      Last d = length d.line ≤ d.cursor → length c.buffer.line ≤ c.buffer.cursor + 1

      last_acted : (e : E) (d : Config R) → d.buffer ≡ c.buffer → d.registers ≡ c.registers → Last (left_by (acted m e d)).buffer
      unfolding acted Last
      last_acted e d same_buffer same_registers =
          let b = marked m e d in
          let left = m.act e d.registers b in
          let long : length b.line ≡ length c.buffer.line = length_of_marked m e d ∙ ap (λ (a : Buffer). length a.line) same_buffer in
          let place : b.cursor ≡ c.buffer.cursor = cursor_of_marked m e d ∙ ap (λ (a : Buffer). a.cursor) same_buffer in
          let fit : fits d.registers b.cursor (length b.line) = rw (long, place, same_registers) stands in
          let rest = law.rest e d.registers b fit (omega (arith, below, long, place)) in
          chosen (λ (t : Turn (Config R)). Last (left_by t).buffer) (is_at_end left.buffer) (Ends (behind_act left (m.next e) d)) (Goes (record (behind_act left (m.next e) d) { buffer = stepped (m.advances e) left.buffer }))
          (λ _ past. omega (arith, past, rest, long, place))
          (λ _. chosen Last (m.advances e) (passed left.buffer) (cond (has_operations left.buffer) (paid 1 left.buffer) (paid 1 (passed left.buffer)))
          (λ _ past. omega (arith, past, rest, long, place))
          (λ _. chosen Last (has_operations left.buffer) (paid 1 left.buffer) (paid 1 (passed left.buffer)) (λ _ past. omega (arith, past, rest, long, place)) (λ _ past. omega (arith, past, rest, long, place))))

      last_entry : (o : Option E) → Last (left_by (by_entry m o (counted m c))).buffer
      unfolding by_entry Last
      last_entry None past = absurd (omega (arith, past, below))
      last_entry (Some e) past = last_acted e (counted m c) refl refl past

    -- a line of the front, in order
    record InOrder (d : Buffer) : Type 0 where
      level_kept : d.cluster_level ≡ level
      ordered : IsOrdered Order d.line
      front : Each Front d.line

    in_order : (c : Config R) → Stands fits c → InOrder c.buffer → InOrder (left_by (turn m c)).buffer
    in_order c stands h =
        turn_keeps m fits keeps passes pays InOrder
        (λ d k. record {
          level_kept = k.level_kept;
          ordered = (kept_unsafe Order sides.same d d (Some (d.cursor - 1)) (Some (d.cursor + 1)) (kept_refl Order sides.same d)).ordered (merges d k.level_kept) k.ordered;
          front = all_from Front d.line (break_marked_at d).line (comes_of_marks d (Some (d.cursor - 1)) (Some (d.cursor + 1))) k.front;
        })
        (λ e r d fit k. record {
          level_kept = (settings e r d fit).cluster_level ∙ k.level_kept;
          ordered = law.ordered e r d fit (merges d k.level_kept) k.ordered;
          front = all_from Front d.line (m.act e r d).buffer.line (law.clusters e r d fit) k.front;
        })
        (λ d k. record { level_kept = k.level_kept; ordered = k.ordered; front = k.front })
        (λ d k. record { level_kept = k.level_kept; ordered = k.ordered; front = k.front })
        c stands h
      where
        merges : (d : Buffer) → d.cluster_level ≡ level → ClustersMerge d.cluster_level
        merges d same apart = sides.merges (ap clusters_stay_apart (sym same) ∙ apart)

    -- clusters that are away stay so
    away_marked : (d : Buffer) → Each Away d.line → Each Away (break_marked_at d).line
    away_marked d all = all_from Away d.line (break_marked_at d).line (comes_of_marks d (Some (d.cursor - 1)) (Some (d.cursor + 1))) all

    away_acted : (e : E) (r : R) (d : Buffer) → fits r d.cursor (length d.line) → Each Away d.line → Each Away (m.act e r d).buffer.line
    away_acted e r d fit all = all_from Away d.line (m.act e r d).buffer.line (law.clusters e r d fit) all

    away_turn : (c : Config R) → Stands fits c → Each Away c.buffer.line → Each Away (left_by (turn m c)).buffer.line
    away_turn c stands all = turn_keeps m fits keeps passes pays (λ d. Each Away d.line) away_marked away_acted (λ d k. k) (λ d k. k) c stands all

    away_run : (c : Config R) → Stands fits c → Each Away c.buffer.line → Each Away (run_to_end m c).buffer.line
    away_run c stands all = buffer_kept m fits keeps passes pays (λ d. Each Away d.line) away_marked away_acted (λ d k. k) (λ d k. k) c stands all

    -- Along the run over the front part: a line of the front in order, and at the end the last glyph that was looked at is
    -- off, unless all clusters are away.
    pub record ComesOff (c : Config R) : Type 0 where
      along : InOrder c.buffer
      pub at_end : length c.buffer.line ≤ c.buffer.cursor → (m.on c.last ≡ false) ⊎ Each Away c.buffer.line

    pub comes_off : (c : Config R) → Stands fits c → c.buffer.cursor < length c.buffer.line → ComesOff c → ComesOff (left_by (turn m c))
    unfolding Last
    comes_off c stands below h = record {
      along = in_order c stands h.along;
      at_end = by_switch (m.on (cluster_seen c.buffer c.last)) refl;
    }
      where
        by_switch : (t : Bool) → m.on (cluster_seen c.buffer c.last) ≡ t → length (left_by (turn m c)).buffer.line ≤ (left_by (turn m c)).buffer.cursor → (m.on (left_by (turn m c)).last ≡ false) ⊎ Each Away (left_by (turn m c)).buffer.line
        by_switch false is past = inl (ap m.on (sees c) ∙ is)
        by_switch true is past =
            let turned : turn m c ≡ by_entry m (m.entry c.state (class_at m.class_of c.buffer)) (counted m c) = turn_when_on m c is in
            let came : length (left_by (by_entry m (m.entry c.state (class_at m.class_of c.buffer)) (counted m c))).buffer.line ≤ (left_by (by_entry m (m.entry c.state (class_at m.class_of c.buffer)) (counted m c))).buffer.cursor = rw turned at past in
            let last = last_entry c stands below (m.entry c.state (class_at m.class_of c.buffer)) came in
            let place : c.buffer.cursor ≡ length c.buffer.line - 1 = omega (arith, last, below) in
            let seen : cluster_seen c.buffer c.last ≡ cluster_at c.buffer.line (length c.buffer.line - 1) = rw (not_at_end c.buffer below) (ap (cluster_at c.buffer.line) place) in
            inr (away_turn c stands (sides.faded c.buffer.line (omega (arith, below)) h.along.ordered h.along.front (ap m.on (sym seen) ∙ is)))

    pub begins_off : (b : Buffer) (r : R) → b.line ≡ take q line → b.cluster_level ≡ level → b.cursor ≡ 0 → 0 < q → q ≤ length line → (last turns : ℕ) → ComesOff (record { buffer = b; registers = r; state = 0; last = last; turns = turns })
    begins_off b r is same front some within last turns = record {
      along = record { level_kept = same; ordered = subst (IsOrdered Order) (sym is) (ordered_front Order q line within sides.ordered); front = subst (Each Front) (sym is) sides.front };
      at_end = λ past. absurd (omega (arith, past, front, some, within, ap length is, length-take q line));
    }

    -- where the whole run leaves a cluster that is not away, the front part ends off
    pub ends_off : (c w : Config R) → ComesOff c → c.buffer.cursor ≡ length c.buffer.line → w.buffer.line ≡ c.buffer.line ++ drop q line → Stands fits w → (Each Away (run_to_end m w).buffer.line → ⊥) → m.on c.last ≡ false
    ends_off c w comes end is stands present = by_side (comes.at_end (omega (arith, end)))
      where
        by_side : ((m.on c.last ≡ false) ⊎ Each Away c.buffer.line) → m.on c.last ≡ false
        by_side (inl off) = off
        by_side (inr away) = absurd (present (away_run w stands (subst (Each Away) (sym is) (All-append (λ (g : hb_glyph_info_t). Away g.cluster) c.buffer.line (drop q line) away sides.back))))
