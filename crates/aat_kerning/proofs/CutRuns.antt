-- All subtables, over a line and over its two parts: what each of them keeps of the three, all keep.
use Rattle.std.proofs.Common.{◌≡◌, ◌≢◌, ℕ, ◌+◌, ◌-◌, ◌&&◌, ◌||◌, not, Bool, true, false, cond, List, [], ◌∷◌, ◌++◌, map, drop, fold, refl, sym, ap, ◌∙◌, arith, subst, true≢false, nat_lt}
use Rattle.std.proofs.lemmas.Bool.Decides.{nat_tests}
use Rattle.std.proofs.lemmas.List.{take-append-drop}
use Rattle.std.proofs.lemmas.List.Elements.{All-head, All-tail}
use Rattle.aat_buffer.specs.Buffer.{Buffer, glyph_at, position_list}
use Rattle.aat_buffer.specs.Marks.{cluster_at}
use Rattle.aat_buffer.specs.facts.Cases.{chosen}
use Rattle.aat_glyph.specs.Directions.{is_horizontal}
use Rattle.aat_glyph.specs.declared.glyph.Direction.{Direction}
use Rattle.aat_glyph.specs.declared.glyph.hb_glyph_info_t.{hb_glyph_info_t}
use Rattle.aat_lookup.specs.Truth.{is_alike}
use Rattle.aat_run.specs.Budget.{operations_left}
use Rattle.aat_run.specs.Outcome.{Outcome, untouched}
use Rattle.aat_kerning.specs.Cut.{ordered_line, ordered_positions, greater_at, IsUnflaggedAt, PairsAlone, IsKernedInParts}
use Rattle.aat_kerning_machines.specs.KerningLaws.{IsKernedFrom}
use Rattle.aat_kerning.specs.Positioning.{Kerning, Positioned, positioned, positioning, cursively_attached, in_processing_order, is_for_text}
use Rattle.aat_kerning.proofs.Changes.{same}
use Rattle.aat_kerning.proofs.CutMarks.{IsUnflagged, unflagged_before}
use Rattle.aat_kerning.proofs.CutStep.{IsGreater, IsMovedApart, clusters_kept}
use Rattle.aat_kerning.proofs.KerningLawsHold.{IsPaid, all_are_paid}
use Rattle.aat_kerning.proofs.Marked.{IsMarkedLine, marked_at, line_twice}
use Rattle.aat_kerning.proofs.Positioned.{ordered_twice}

-- three choices with equal tests
pub three_chosen :
    {X : Type 0} (R : X → X → X → Type 0) (s t u : Bool) (x y v w n m : X) → t ≡ s → u ≡ s
    → (s ≡ true → R x v n) → (s ≡ false → R y w m) → R (cond s x y) (cond t v w) (cond u n m)
three_chosen R true true true x y v w n m e f here there = here refl
three_chosen R false false false x y v w n m e f here there = there refl
three_chosen R true true false x y v w n m e f here there = absurd (true≢false (sym f))
three_chosen R true false u x y v w n m e f here there = absurd (true≢false (sym e))
three_chosen R false true u x y v w n m e f here there = absurd (true≢false e)
three_chosen R false false true x y v w n m e f here there = absurd (true≢false f)

-- the cluster that is greater of the two at a cut
pub greater_of :
    (q : ℕ) (gs : List hb_glyph_info_t) → cluster_at gs q ≢ cluster_at gs (q - 1)
    → (less : ℕ) × IsGreater q (greater_at q gs) less gs
greater_of q gs apart =
    chosen (λ (n : ℕ). (less : ℕ) × IsGreater q n less gs) (nat_lt (cluster_at gs (q - 1)) (cluster_at gs q)) q (q - 1)
    (λ yes. (
      q - 1,
      record {
        great_low = omega arith;
        great_high = omega arith;
        less_low = omega arith;
        less_high = omega arith;
        order = grind (arith, nat_tests, yes);
      },
    ))
    (λ other. (
      q,
      record {
        great_low = omega arith;
        great_high = omega arith;
        less_low = omega arith;
        less_high = omega arith;
        order = grind (arith, nat_tests, other, apart);
      },
    ))

pub same_greater :
    (q : ℕ) (gs hs : List hb_glyph_info_t) → ((i : ℕ) → cluster_at hs i ≡ cluster_at gs i)
    → greater_at q hs ≡ greater_at q gs
same_greater q gs hs clusters =
    ap (λ c. cond (nat_lt c (cluster_at hs q)) q (q - 1)) (clusters (q - 1))
    ∙ ap (λ c. cond (nat_lt (cluster_at gs (q - 1)) c) q (q - 1)) (clusters q)

-- what is before the run of a subtable, its outcome, and what it leaves
abbrev attached_first : Kerning → Positioned → Buffer
attached_first k s = cond (k.has_cross_stream && not s.is_attached) (cursively_attached s.buffer) s.buffer

abbrev outcome_by : Bool → Kerning → Positioned → Outcome
outcome_by requested k s =
    cond (k.is_pairs && not requested) (untouched (attached_first k s)) (k.run (attached_first k s))

abbrev left_by : Bool → Kerning → Positioned → Positioned
left_by requested k s = record {
  buffer = (outcome_by requested k s).buffer;
  turns = s.turns + (outcome_by requested k s).turns;
  is_attached = s.is_attached || k.has_cross_stream;
}

-- what the subtables so far left of the line and of its parts
record AreSoFar (Now : Buffer → Buffer → Buffer → Type 0) (s first second : Positioned) : Type 0 where
  now : Now s.buffer first.buffer second.buffer
  first_attached : first.is_attached ≡ s.is_attached
  second_attached : second.is_attached ≡ s.is_attached

-- whether a subtable is for a text of a direction
abbrev for_way : Kerning → Direction → Bool
for_way k d = not k.variable && is_alike k.horizontal (is_horizontal d)

module _ {X : Type 0} (kerning : X → Kerning) (requested : Bool) (great : ℕ) (way : Direction)
    (Now : Buffer → Buffer → Buffer → Type 0)
    (ways : (b first second : Buffer) → Now b first second → (b.direction ≡ way) × (first.direction ≡ way) × (second.direction ≡ way))
    (attaches : (b first second : Buffer) → Now b first second → Now (cursively_attached b) (cursively_attached first) (cursively_attached second))
    (runs : (x : X) (b first second : Buffer) → (kerning x).is_pairs ≡ true → Now b first second → IsUnflagged (glyph_at ((kerning x).run b).buffer.line great)
    → Now ((kerning x).run b).buffer ((kerning x).run first).buffer ((kerning x).run second).buffer)
    (pays : (x : X) (b : Buffer) → IsPaid b ((kerning x).run b))
  where
    one_more :
        (x : X) (s first second : Positioned) → (for_way (kerning x) way ≡ true → (kerning x).is_pairs ≡ true)
        → AreSoFar Now s first second → IsUnflagged (glyph_at (positioned requested (kerning x) s).buffer.line great)
        → AreSoFar Now (positioned requested (kerning x) s) (positioned requested (kerning x) first) (positioned requested (kerning x) second)
    unfolding positioned
    one_more x s first second pairs so_far none =
        let k = kerning x in
        let d = ways s.buffer first.buffer second.buffer so_far.now in
        let t = is_for_text k s.buffer in
        three_chosen (λ (a b c : Positioned). IsUnflagged (glyph_at a.buffer.line great) → AreSoFar Now a b c) t (is_for_text k first.buffer) (is_for_text k second.buffer)
        (left_by requested k s) s (left_by requested k first) first (left_by requested k second) second
        (ap (for_way k) (d.1 ∙ sym d.0)) (ap (for_way k) (d.2 ∙ sym d.0))
        (λ yes unset. record {
          now = after (pairs (ap (for_way k) (sym d.0) ∙ yes)) unset;
          first_attached = ap (λ a. a || k.has_cross_stream) so_far.first_attached;
          second_attached = ap (λ a. a || k.has_cross_stream) so_far.second_attached;
        })
        (λ _ _. so_far) none
      where
        before : Now (attached_first (kerning x) s) (attached_first (kerning x) first) (attached_first (kerning x) second)
        before =
            three_chosen Now ((kerning x).has_cross_stream && not s.is_attached) ((kerning x).has_cross_stream && not first.is_attached) ((kerning x).has_cross_stream && not second.is_attached)
            (cursively_attached s.buffer) s.buffer (cursively_attached first.buffer) first.buffer (cursively_attached second.buffer) second.buffer
            (ap (λ a. (kerning x).has_cross_stream && not a) so_far.first_attached)
            (ap (λ a. (kerning x).has_cross_stream && not a) so_far.second_attached)
            (λ _. attaches s.buffer first.buffer second.buffer so_far.now) (λ _. so_far.now)

        after :
            (kerning x).is_pairs ≡ true → IsUnflagged (glyph_at (outcome_by requested (kerning x) s).buffer.line great)
            → Now (outcome_by requested (kerning x) s).buffer (outcome_by requested (kerning x) first).buffer (outcome_by requested (kerning x) second).buffer
        after of_pairs unset =
            three_chosen (λ (a b c : Outcome). IsUnflagged (glyph_at a.buffer.line great) → Now a.buffer b.buffer c.buffer)
            ((kerning x).is_pairs && not requested) ((kerning x).is_pairs && not requested) ((kerning x).is_pairs && not requested)
            (untouched (attached_first (kerning x) s)) ((kerning x).run (attached_first (kerning x) s))
            (untouched (attached_first (kerning x) first)) ((kerning x).run (attached_first (kerning x) first))
            (untouched (attached_first (kerning x) second)) ((kerning x).run (attached_first (kerning x) second)) refl refl
            (λ _ _. before)
            (λ _ left. runs x (attached_first (kerning x) s) (attached_first (kerning x) first) (attached_first (kerning x) second) of_pairs before left)
            unset

    -- what more subtables leave is kerned from what they found
    kept_by_all :
        (ks : List X) (s : Positioned) → IsKernedFrom s.buffer (fold (λ s k. positioned requested k s) s (map kerning ks)).buffer
    kept_by_all ks s =
        (all_are_paid requested kerning ks s.buffer (s.turns + operations_left s.buffer.max_ops) s pays (record { turns = omega arith; kept = same s.buffer })).kept

    all_more :
        (ks : List X) (b : Buffer) (s first second : Positioned) → b.direction ≡ way → PairsAlone (map kerning ks) b
        → AreSoFar Now s first second
        → IsUnflagged (glyph_at (fold (λ s k. positioned requested k s) s (map kerning ks)).buffer.line great)
        → AreSoFar Now (fold (λ s k. positioned requested k s) s (map kerning ks))
        (fold (λ s k. positioned requested k s) first (map kerning ks)) (fold (λ s k. positioned requested k s) second (map kerning ks))
    all_more [] b s first second turned alone so_far none = so_far
    all_more (x ∷ ks) b s first second turned alone so_far none =
        let P : Kerning → Type 0 = λ k. is_for_text k b ≡ true → k.is_pairs ≡ true in
        let here : for_way (kerning x) way ≡ true → (kerning x).is_pairs ≡ true =
        λ yes. All-head P (kerning x) (map kerning ks) alone (ap (for_way (kerning x)) turned ∙ yes) in
        let next = positioned requested (kerning x) s in
        let end = fold (λ s k. positioned requested k s) next (map kerning ks) in
        let unset : IsUnflagged (glyph_at next.buffer.line great) =
        unflagged_before (glyph_at next.buffer.line great) (glyph_at end.buffer.line great) (marked_at next.buffer.line end.buffer.line (kept_by_all ks next).line great) none in
        all_more ks b next (positioned requested (kerning x) first) (positioned requested (kerning x) second) turned
        (All-tail P (kerning x) (map kerning ks) alone) (one_more x s first second here so_far unset) none

    -- positioning as a whole
    pub positioned_apart :
        (q : ℕ) (line : List hb_glyph_info_t) (ks : List X) (b whole first second : Buffer)
        → b.direction ≡ way → PairsAlone (map kerning ks) b → great ≡ greater_at q line
        → ((b first second : Buffer) → Now b first second → IsMovedApart q b first second)
        → Now (in_processing_order whole) (in_processing_order first) (in_processing_order second)
        → IsMarkedLine line (in_processing_order whole).line
        → IsUnflaggedAt q (ordered_line (positioning requested (map kerning ks) whole).buffer)
        → IsKernedInParts (positioning requested (map kerning ks)) (positioning requested (map kerning ks) whole).buffer first second
    unfolding positioning
    positioned_apart q line ks b whole first second turned alone is_great apart now marked none =
        let end : Buffer → Positioned = λ d. fold (λ s k. positioned requested k s) (record { buffer = in_processing_order d; turns = 0; is_attached = false }) (map kerning ks) in
        let s = end whole in
        let back : ordered_line (in_processing_order s.buffer) ≡ s.buffer.line = ap (λ (d : Buffer). d.line) (ordered_twice s.buffer) in
        let kept = kept_by_all ks (record { buffer = in_processing_order whole; turns = 0; is_attached = false }) in
        let all = line_twice line (in_processing_order whole).line s.buffer.line marked kept.line in
        let at : greater_at q s.buffer.line ≡ great = same_greater q line s.buffer.line (clusters_kept line s.buffer.line all) ∙ sym is_great in
        let unset : IsUnflagged (glyph_at s.buffer.line great) =
        subst (λ n. IsUnflagged (glyph_at s.buffer.line n)) at (subst (λ (gs : List hb_glyph_info_t). IsUnflaggedAt q gs) back none) in
        let are = all_more ks b (record { buffer = in_processing_order whole; turns = 0; is_attached = false })
        (record { buffer = in_processing_order first; turns = 0; is_attached = false }) (record { buffer = in_processing_order second; turns = 0; is_attached = false })
        turned alone (record { now = now; first_attached = refl; second_attached = refl }) unset in
        let parts = apart s.buffer (end first).buffer (end second).buffer are.now in
        ap position_list (ordered_twice s.buffer)
        ∙ (sym (take-append-drop q (position_list s.buffer))
        ∙ (ap (λ xs. xs ++ drop q (position_list s.buffer)) (sym parts.front)
        ∙ (ap (λ xs. position_list (end first).buffer ++ xs) (sym parts.back)
        ∙ (ap (λ xs. xs ++ position_list (end second).buffer) (sym (ap position_list (ordered_twice (end first).buffer)))
        ∙ ap (λ xs. ordered_positions (in_processing_order (end first).buffer) ++ xs) (sym (ap position_list (ordered_twice (end second).buffer)))))))
