-- The walk over a line that finds its pairs, step by step.
use Rattle.std.proofs.Common.{◌≡◌, ◌∙◌, ap, sym, subst, refl, ℕ, zero, suc, ◌+◌, ◌-◌, ◌<◌, ◌≤◌, ◌&&◌, Bool, true, false, cond, pos, List, [], ◌∷◌, ◌++◌, Option, Some, None, length, take, drop, nat_le, arith, length-append, length-take}
use Rattle.std.specs.Prelude.{find, filter_map, fold, option_map, slice_range, IfSome, min}
use Rattle.std.specs.Bool.{then_some}
use Rattle.std.specs.List.{cons_option}
use Rattle.std.specs.Option.{option_or}
use Rattle.std.specs.Ordering.{int_eq}
use Rattle.std.proofs.lemmas.List.{append_assoc, drop-drop, get_or-drop, length-map, length-set}
use Rattle.std.proofs.lemmas.List.Elements.{filter_map-append}
use Rattle.std.proofs.lemmas.List.Folds.{find-append}
use Rattle.std.proofs.lemmas.List.Sums.{fold-append}
use Rattle.std.proofs.lemmas.Slice.{drop-append-drop}
use Rattle.aat_buffer.specs.Buffer.{Buffer, glyph_at, no_glyph, position_list}
use Rattle.aat_buffer.specs.Clusters.{IsSmall}
use Rattle.aat_buffer.specs.Marks.{on_span, break_marked, unsafe_to_break}
use Rattle.aat_buffer.specs.facts.Cases.{chosen}
use Rattle.aat_buffer.specs.facts.Ids.{small_of_unsafe}
use Rattle.aat_buffer.specs.facts.Lines.{length_slice, length_unsafe}
use Rattle.aat_glyph.specs.declared.glyph.hb_glyph_info_t.{hb_glyph_info_t}
use Rattle.aat_run.specs.Switches.{meets}
use Rattle.aat_kerning.specs.PairKerning.{cross_stream, in_stream, kerned, PairValues}
use Rattle.aat_kerning.specs.Pairs.{Pair, is_solid, last_solid, left_of, pair_at, places}
use Rattle.aat_kerning_machines.specs.Positions.{IsPlaced}
use Rattle.aat_kerning.specs.inside.Walk.{kerned_where, left_behind, pair_with}

-- the places one further
places_more : (i n : ℕ) → places i (suc n) ≡ places i n ++ ((i + n) ∷ [])
places_more i zero = ap (λ k. k ∷ []) (omega arith)
places_more i (suc n) =
    let k : i + 1 + n ≡ i + suc n = omega arith in
    ap (λ xs. i ∷ xs) (places_more (i + 1) n ∙ ap (λ k. places (i + 1) n ++ (k ∷ [])) k)

-- the left glyph

last_low : (skips kern_mask : ℕ) (line : List hb_glyph_info_t) (t : ℕ) → last_solid skips kern_mask line t ≤ t
last_low skips kern_mask line zero = omega arith
last_low skips kern_mask line (suc t) =
    chosen (λ s. s ≤ suc t) (is_solid skips (glyph_at line t)) t (last_solid skips kern_mask line t)
    (λ _. omega arith) (λ _. omega (arith, last_low skips kern_mask line t))

some_where : (b : Bool) (t : ℕ) → cond b (Some t) None ≡ then_some b t
some_where true t = refl
some_where false t = refl

left_by :
    (p : ℕ → Bool) (b : Bool) (s t : ℕ) → s ≤ t
    → find p (places (cond b t s) (suc t - cond b t s)) ≡ option_or (cond b None (find p (places s (t - s)))) (cond (p t) (Some t) None)
left_by p true s t low =
    let one : suc t - t ≡ suc zero = omega arith in
    ap (λ n. find p (places t n)) one
left_by p false s t low =
    let more : suc t - s ≡ suc (t - s) = omega (arith, low) in
    let last : s + (t - s) ≡ t = omega (arith, low) in
    ap (λ n. find p (places s n)) more
    ∙ ap (find p) (places_more s (t - s))
    ∙ find-append p (places s (t - s)) ((s + (t - s)) ∷ [])
    ∙ ap (λ k. option_or (find p (places s (t - s))) (find p (k ∷ []))) last

left_more :
    (skips kern_mask : ℕ) (line : List hb_glyph_info_t) (t : ℕ)
    → left_of skips kern_mask line (suc t)
    ≡ left_behind (is_solid skips (glyph_at line t)) (meets (glyph_at line t).mask kern_mask) t (left_of skips kern_mask line t)
left_more skips kern_mask line t =
    let s = is_solid skips (glyph_at line t) in
    left_by (λ i. meets (glyph_at line i).mask kern_mask) s (last_solid skips kern_mask line t) t (last_low skips kern_mask line t)
    ∙ ap (option_or (cond s None (left_of skips kern_mask line t))) (some_where (meets (glyph_at line t).mask kern_mask) t)

behind_low :
    (s a : Bool) (t : ℕ) (left : Option ℕ) → IfSome left (λ i. i < t) → IfSome (left_behind s a t left) (λ i. i < t + 1)
behind_low true true t left low = omega arith
behind_low true false t left low = tt
behind_low false true t None low = omega arith
behind_low false false t None low = tt
behind_low false a t (Some i) low = omega (arith, low)

-- the pairs

-- what the pairs whose right glyph stands before place n leave
abbrev pub kerned_before : ℕ → ℕ → Bool → PairValues → Buffer → ℕ → Buffer
kerned_before skips kern_mask is_cross values b n =
    fold (λ d p. kerned is_cross values p d) b (filter_map (pair_at skips kern_mask b.line) (places 0 n))

kerned_option :
    (is_cross : Bool) (values : PairValues) (o : Option Pair) (b : Buffer)
    → fold (λ d p. kerned is_cross values p d) b (cons_option o []) ≡ kerned_where is_cross values o b
kerned_option is_cross values None b = refl
kerned_option is_cross values (Some p) b = refl

kerned_more :
    (skips kern_mask : ℕ) (is_cross : Bool) (values : PairValues) (b : Buffer) (t : ℕ)
    → kerned_before skips kern_mask is_cross values b (suc t)
    ≡ kerned_where is_cross values (pair_at skips kern_mask b.line t) (kerned_before skips kern_mask is_cross values b t)
kerned_more skips kern_mask is_cross values b t =
    let f = λ (d : Buffer) (p : Pair). kerned is_cross values p d in
    let h = pair_at skips kern_mask b.line in
    let last : 0 + t ≡ t = omega arith in
    ap (λ xs. fold f b (filter_map h xs)) (places_more 0 t ∙ ap (λ k. places 0 t ++ (k ∷ [])) last)
    ∙ ap (fold f b) (filter_map-append h (places 0 t) (t ∷ []))
    ∙ fold-append f b (filter_map h (places 0 t)) (filter_map h (t ∷ []))
    ∙ kerned_option is_cross values (h t) (kerned_before skips kern_mask is_cross values b t)

-- what a pair keeps

record IsKept (t : ℕ) (b d : Buffer) : Type 0 where
  rest : drop t d.line ≡ drop t b.line
  count : length d.line ≡ length b.line
  places : length (position_list d) ≡ length (position_list b)
  ids : IsSmall b → IsSmall d

kept_same : (t : ℕ) (b : Buffer) → IsKept t b b
kept_same t b = record { rest = refl; count = refl; places = refl; ids = λ small. small }

rest_of_span :
    (i e n : ℕ) (gs : List hb_glyph_info_t) → i ≤ e → e ≤ length gs → e ≤ n
    → drop n (on_span break_marked i e gs) ≡ drop n gs
rest_of_span i e n gs low high past =
    let xs = break_marked (slice_range gs i e) in
    let own : length xs ≡ e - i = length-map (slice_range gs i e) _ ∙ length_slice i e gs low high in
    let front : length (take i gs ++ xs) ≡ e =
    length-append (take i gs) xs ∙ (omega (arith, own, length-take i gs, low, high)) in
    ap (drop n) (sym (append_assoc (take i gs) xs (drop e gs))) ∙ drop-append-drop e gs (take i gs ++ xs) n past front

rest_of_break :
    (b : Buffer) (i n : ℕ) → i ≤ n → n ≤ length b.line
    → drop n (unsafe_to_break b (Some i) (Some n)).line ≡ drop n b.line
rest_of_break b i n low high =
    let e = min n (length b.line) in
    let is : e ≡ n = omega (arith, high) in
    chosen (λ (gs : List hb_glyph_info_t). drop n gs ≡ drop n b.line) (nat_le (i + 2) e) (on_span break_marked i e b.line) b.line
    (λ _. rest_of_span i e n b.line (omega (arith, is, low)) (omega (arith, is, high)) (omega (arith, is))) (λ _. refl)

break_keeps : (b d : Buffer) (i n : ℕ) → i ≤ n → n ≤ length d.line → IsKept n b d → IsKept n b (unsafe_to_break d (Some i) (Some n))
break_keeps b d i n low high k = record {
  rest = rest_of_break d i n low high ∙ k.rest;
  count = length_unsafe d (Some i) (Some n) ∙ k.count;
  places = k.places;
  ids = λ small. small_of_unsafe d (Some i) (Some n) (k.ids small);
}

kerned_keeps :
    (is_cross : Bool) (values : PairValues) (p : Pair) (b : Buffer) → p.left < p.right → p.right < length b.line
    → IsKept (p.right + 1) b (kerned is_cross values p b)
unfolding kerned
kerned_keeps is_cross values p b ordered high =
    let v = values (glyph_at b.line p.left).glyph_id (glyph_at b.line p.right).glyph_id in
    let n = p.right + 1 in
    let across = cross_stream p v b in
    let along = in_stream p v b in
    let one : IsKept n b across = record { rest = refl; count = refl; places = length-set _ _ _; ids = λ small. small } in
    let two : IsKept n b along =
    record { rest = refl; count = refl; places = length-set _ _ _ ∙ length-set _ _ _; ids = λ small. small } in
    let moved : IsKept n b (cond is_cross across along) = chosen (IsKept n b) is_cross across along (λ _. one) (λ _. two) in
    chosen (IsKept n b) (int_eq v (pos 0)) b (unsafe_to_break (cond is_cross across along) (Some p.left) (Some n)) (λ _. kept_same n b)
    (λ _. break_keeps b (cond is_cross across along) p.left n (omega (arith, ordered)) (omega (arith, high, moved.count)) moved)

where_keeps :
    (is_cross : Bool) (values : PairValues) (s a : Bool) (t : ℕ) (left : Option ℕ) (b : Buffer) → IfSome left (λ i. i < t)
    → t < length b.line → IsKept (t + 1) b (kerned_where is_cross values (pair_with s a t left) b)
where_keeps is_cross values s a t left b low high =
    chosen (λ o. IsKept (t + 1) b (kerned_where is_cross values o b)) (s && a) (option_map (λ i. record { left = i; right = t }) left) None
    (λ _. by_left left low) (λ _. kept_same (t + 1) b)
  where
    by_left :
        (o : Option ℕ) → IfSome o (λ i. i < t)
        → IsKept (t + 1) b (kerned_where is_cross values (option_map (λ i. record { left = i; right = t }) o) b)
    by_left None h = kept_same (t + 1) b
    by_left (Some i) h = kerned_keeps is_cross values (record { left = i; right = t }) b h high

-- the walk up to place t, with the left glyph of the pairs behind it
pub record IsWalk (skips kern_mask : ℕ) (is_cross : Bool) (values : PairValues) (start now : Buffer) (left : Option ℕ) (t : ℕ) : Type 0 where
  pub done : now ≡ kerned_before skips kern_mask is_cross values start t
  pub found : left ≡ left_of skips kern_mask start.line t
  pub ordered : IfSome left (λ i. i < t)
  pub rest : drop t now.line ≡ drop t start.line
  pub count : length now.line ≡ length start.line
  pub placed : IsPlaced now
  pub ids : IsSmall now

pub walk_none :
    (skips kern_mask : ℕ) (is_cross : Bool) (values : PairValues) (b : Buffer) → IsPlaced b → IsSmall b
    → IsWalk skips kern_mask is_cross values b b None 0
walk_none skips kern_mask is_cross values b placed ids =
    record { done = refl; found = refl; ordered = tt; rest = refl; count = refl; placed = placed; ids = ids }

-- one place more
pub walk_more :
    (skips kern_mask : ℕ) (is_cross : Bool) (values : PairValues) (start now after : Buffer) (left next : Option ℕ) (t : ℕ)
    → t < length start.line → IsWalk skips kern_mask is_cross values start now left t
    → next ≡ left_behind (is_solid skips (glyph_at now.line t)) (meets (glyph_at now.line t).mask kern_mask) t left
    → after
    ≡ kerned_where is_cross values (pair_with (is_solid skips (glyph_at now.line t)) (meets (glyph_at now.line t).mask kern_mask) t left) now
    → IsWalk skips kern_mask is_cross values start after next (t + 1)
walk_more skips kern_mask is_cross values start now after left next t low was found wrote =
    let g = glyph_at now.line t in
    let h = glyph_at start.line t in
    let seam : t + 0 ≡ t = omega arith in
    let same : g ≡ h =
    ap (glyph_at now.line) (sym seam) ∙ sym (get_or-drop t now.line 0 no_glyph) ∙ ap (λ gs. glyph_at gs 0) was.rest ∙ get_or-drop t start.line 0 no_glyph ∙ ap (glyph_at start.line) seam in
    let step : suc t ≡ t + 1 = omega arith in
    let s = is_solid skips g in
    let a = meets g.mask kern_mask in
    let kept : IsKept (t + 1) now (kerned_where is_cross values (pair_with s a t left) now) =
    where_keeps is_cross values s a t left now was.ordered (omega (arith, low, was.count)) in
    let kept : IsKept (t + 1) now after = subst (IsKept (t + 1) now) (sym wrote) kept in
    let pair : pair_with s a t left ≡ pair_at skips kern_mask start.line t =
    ap (λ x. pair_with (is_solid skips x) (meets x.mask kern_mask) t left) same
    ∙ ap (pair_with (is_solid skips h) (meets h.mask kern_mask) t) was.found in
    let next_left : next ≡ left_of skips kern_mask start.line (t + 1) =
    found
    ∙ ap (λ x. left_behind (is_solid skips x) (meets x.mask kern_mask) t left) same
    ∙ ap (left_behind (is_solid skips h) (meets h.mask kern_mask) t) was.found
    ∙ sym (left_more skips kern_mask start.line t)
    ∙ ap (left_of skips kern_mask start.line) step in
    let behind : drop (t + 1) now.line ≡ drop (t + 1) start.line =
    sym (drop-drop 1 t now.line) ∙ ap (drop 1) was.rest ∙ drop-drop 1 t start.line in
    record {
      done =
          wrote
          ∙ ap (λ o. kerned_where is_cross values o now) pair
          ∙ ap (kerned_where is_cross values (pair_at skips kern_mask start.line t)) was.done
          ∙ sym (kerned_more skips kern_mask is_cross values start t)
          ∙ ap (kerned_before skips kern_mask is_cross values start) step;
      found = next_left;
      ordered = subst (λ o. IfSome o (λ i. i < t + 1)) (sym found) (behind_low s a t left was.ordered);
      rest = kept.rest ∙ behind;
      count = kept.count ∙ was.count;
      placed = kept.places ∙ was.placed ∙ sym kept.count;
      ids = kept.ids was.ids;
    }
