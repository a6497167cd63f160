-- Spans of a list that are copied, and written part by part.
use Rattle.std.proofs.Common.{◌≡◌, ◌∙◌, ap, sym, ℕ, ◌<◌, ◌≤◌, ◌+◌, ◌-◌, List, [], ◌∷◌, ◌++◌, take, drop, length, get_or, set, arith, append_assoc, length-append}
use Rattle.std.proofs.lemmas.List.{take_more, drop_more, set_at, length-take-le, length-drop, get_or-append_right, get_or_append_left, take-append-drop, get_or-drop, get_or-take, drop-drop, drop-take, take-take, take-append-le, take_rest}
use Rattle.std.proofs.Math.Seq.{take-append_seam, drop-append_seam, drop-append-add}
use Rattle.std.specs.Prelude.{slice_range}
use Rattle.aat_buffer.specs.Buffer.{Buffer, with_line}
use Rattle.aat_buffer.specs.facts.Lines.{length_slice, range_at}
use Rattle.aat_glyph.specs.declared.glyph.hb_glyph_info_t.{hb_glyph_info_t}
use Rattle.aat_kinds.specs.Rearrangement.{Verb, in_its_order, rearranged, size_of}
use Rattle.aat_kinds.specs.facts.RearrangementLaws.{length_put_down}

-- the first places of ys are written as those of xs
pub blended_step : {X : Type 0} (xs ys : List X) (i : ℕ) (d : X) → i < length xs → length ys ≡ length xs → set (take i xs ++ drop i ys) i (get_or xs i d) ≡ take (i + 1) xs ++ drop (i + 1) ys
blended_step xs ys i d below same =
    let n : length (take i xs) ≡ i = length-take-le i xs (omega (arith, below)) in
    ap (λ t. set (take i xs ++ t) i (get_or xs i d)) (drop_more ys i d (omega (arith, same, below)))
    ∙ (set_at (take i xs) (get_or ys i d) (drop (i + 1) ys) (get_or xs i d) i n
    ∙ (sym (append_assoc (take i xs) (get_or xs i d ∷ []) (drop (i + 1) ys))
    ∙ ap (λ t. t ++ drop (i + 1) ys) (sym (take_more xs i d below))))

-- a list with xs in place of what stands from place s up to place e
abbrev pub covered : {X : Type 0} → List X → ℕ → ℕ → List X → List X
covered gs s e xs = take s gs ++ (xs ++ drop e gs)

module _ {X : Type 0} (gs xs : List X) (s e : ℕ) (fit : s + length xs ≡ e) (within : e ≤ length gs) where
  front : length (take s gs) ≡ s
  front = length-take-le s gs (omega (arith, fit, within))

  pub covered_long : length (covered gs s e xs) ≡ length gs
  covered_long = rw (length-append (take s gs) (xs ++ drop e gs), length-append xs (drop e gs), front, length-drop e gs) (omega (arith, fit, within))

  -- nothing is written yet
  pub covered_none : take s (covered gs s e xs) ++ drop s gs ≡ gs
  covered_none = ap (λ t. t ++ drop s gs) (ap (λ n. take n (covered gs s e xs)) (sym front) ∙ take-append_seam (take s gs) (xs ++ drop e gs)) ∙ take-append-drop s gs

  -- all is written
  pub covered_all : take e (covered gs s e xs) ++ drop e gs ≡ covered gs s e xs
  covered_all =
      let n : length (take s gs ++ xs) ≡ e = length-append (take s gs) xs ∙ omega (arith, front, fit) in
      ap (λ t. take e t ++ drop e gs) (sym (append_assoc (take s gs) xs (drop e gs)))
      ∙ (ap (λ t. t ++ drop e gs) (ap (λ k. take k ((take s gs ++ xs) ++ drop e gs)) (sym n) ∙ take-append_seam (take s gs ++ xs) (drop e gs))
      ∙ append_assoc (take s gs) xs (drop e gs))

  -- the element at a place between
  pub covered_at : (i : ℕ) (d : X) → s ≤ i → i < e → get_or (covered gs s e xs) i d ≡ get_or xs (i - s) d
  covered_at i d from to =
      get_or-append_right (take s gs) (xs ++ drop e gs) s i d front from ∙ get_or_append_left xs (drop e gs) d (i - s) (omega (arith, from, to, fit))

-- what stands behind xs was put there after it
pub covered_joined : {X : Type 0} (gs xs ys : List X) (s m e : ℕ) → s + length xs ≡ m → m + length ys ≡ e → e ≤ length gs → covered (covered gs s m xs) m e ys ≡ covered gs s e (xs ++ ys)
covered_joined gs xs ys s m e fit more within =
    let k : length (take s gs) ≡ s = length-take-le s gs (omega (arith, fit, more, within)) in
    let n : length (take s gs ++ xs) ≡ m = length-append (take s gs) xs ∙ omega (arith, k, fit) in
    let apart : covered gs s m xs ≡ (take s gs ++ xs) ++ drop m gs = sym (append_assoc (take s gs) xs (drop m gs)) in
    let before : take m (covered gs s m xs) ≡ take s gs ++ xs =
    ap (take m) apart ∙ (ap (λ j. take j ((take s gs ++ xs) ++ drop m gs)) (sym n) ∙ take-append_seam (take s gs ++ xs) (drop m gs)) in
    let behind : drop e (covered gs s m xs) ≡ drop e gs =
    ap (drop e) apart
    ∙ (ap (λ j. drop j ((take s gs ++ xs) ++ drop m gs)) (sym more ∙ ap (λ j. j + length ys) (sym n))
    ∙ (drop-append-add (take s gs ++ xs) (drop m gs) (length ys)
    ∙ (drop-drop (length ys) m gs ∙ ap (λ j. drop j gs) more))) in
    ap (λ t. t ++ (ys ++ drop e (covered gs s m xs))) before
    ∙ (ap (λ t. (take s gs ++ xs) ++ (ys ++ t)) behind
    ∙ (append_assoc (take s gs) xs (ys ++ drop e gs) ∙ ap (λ t. take s gs ++ t) (sym (append_assoc xs ys (drop e gs)))))

-- the last places of ys are written as those of xs
pub blended_step_back : {X : Type 0} (xs ys : List X) (i : ℕ) (d : X) → i < length xs → length ys ≡ length xs → set (take (i + 1) ys ++ drop (i + 1) xs) i (get_or xs i d) ≡ take i ys ++ drop i xs
blended_step_back xs ys i d below same =
    let n : length (take i ys) ≡ i = length-take-le i ys (omega (arith, same, below)) in
    ap (λ t. set (t ++ drop (i + 1) xs) i (get_or xs i d)) (take_more ys i d (omega (arith, same, below)))
    ∙ (ap (λ t. set t i (get_or xs i d)) (append_assoc (take i ys) (get_or ys i d ∷ []) (drop (i + 1) xs))
    ∙ (set_at (take i ys) (get_or ys i d) (drop (i + 1) xs) (get_or xs i d) i n
    ∙ ap (λ t. take i ys ++ t) (sym (drop_more xs i d below))))

module _ {X : Type 0} (gs xs : List X) (s e : ℕ) (fit : s + length xs ≡ e) (within : e ≤ length gs) where
  -- nothing is written yet, and all is, from the back
  pub covered_none_back : take e gs ++ drop e (covered gs s e xs) ≡ gs
  covered_none_back =
      let n : length (take s gs ++ xs) ≡ e = length-append (take s gs) xs ∙ (let k = length-take-le s gs (omega (arith, fit, within)) in omega (arith, k, fit)) in
      ap (λ t. take e gs ++ drop e t) (sym (append_assoc (take s gs) xs (drop e gs)))
      ∙ (ap (λ t. take e gs ++ t) (ap (λ k. drop k ((take s gs ++ xs) ++ drop e gs)) (sym n) ∙ drop-append_seam (take s gs ++ xs) (drop e gs)) ∙ take-append-drop e gs)

  pub covered_all_back : take s gs ++ drop s (covered gs s e xs) ≡ covered gs s e xs
  covered_all_back =
      let n : length (take s gs) ≡ s = length-take-le s gs (omega (arith, fit, within)) in
      ap (λ t. take s gs ++ t) (ap (λ k. drop k (covered gs s e xs)) (sym n) ∙ drop-append_seam (take s gs) (xs ++ drop e gs))

-- what stands before xs was put there after it
pub covered_before : {X : Type 0} (gs xs ys : List X) (s m e : ℕ) → s + length xs ≡ m → m + length ys ≡ e → e ≤ length gs → covered (covered gs m e ys) s m xs ≡ covered gs s e (xs ++ ys)
covered_before gs xs ys s m e fit more within =
    let k : length (take m gs) ≡ m = length-take-le m gs (omega (arith, more, within)) in
    let before : take s (covered gs m e ys) ≡ take s gs =
    take-append-le s (take m gs) (ys ++ drop e gs) (omega (arith, k, fit)) ∙ (take-take s m gs (omega (arith, fit))) in
    let behind : drop m (covered gs m e ys) ≡ ys ++ drop e gs = ap (λ j. drop j (covered gs m e ys)) (sym k) ∙ drop-append_seam (take m gs) (ys ++ drop e gs) in
    ap (λ t. t ++ (xs ++ drop m (covered gs m e ys))) before
    ∙ (ap (λ t. take s gs ++ (xs ++ t)) behind ∙ ap (λ t. take s gs ++ t) (sym (append_assoc xs ys (drop e gs))))

-- a range of a range
pub range_of_range : {X : Type 0} (xs : List X) (s e a b : ℕ) → a ≤ b → b ≤ e - s → slice_range (slice_range xs s e) a b ≡ slice_range xs (s + a) (s + b)
range_of_range xs s e a b some low =
    let n : a + (e - s - a) ≡ e - s = omega (arith, some, low) in
    let m : b - a ≡ s + b - (s + a) = omega (arith, some) in
    let inner : drop a (take (e - s) (drop s xs)) ≡ take (e - s - a) (drop (s + a) xs) =
    ap (λ j. drop a (take j (drop s xs))) (sym n) ∙ (drop-take a (e - s - a) (drop s xs) ∙ ap (take (e - s - a)) (drop-drop a s xs)) in
    ap (take (b - a)) inner ∙ (take-take (b - a) (e - s - a) (drop (s + a) xs) (omega (arith, some, low)) ∙ ap (λ j. take j (drop (s + a) xs)) m)

-- the middle of a span was moved, and its back and its front were put down round it
pub parts_moved : (v : Verb) (b one two three : Buffer) (front back : List hb_glyph_info_t) (s m k e left right : ℕ)
    → left ≡ size_of v.front → right ≡ size_of v.back → m ≡ s + right → k ≡ e - left
    → size_of v.front + size_of v.back ≤ e - s → s ≤ e → e ≤ length b.line
    → front ≡ slice_range b.line s (s + left) → back ≡ slice_range b.line (e - right) e
    → one ≡ with_line b (covered b.line m k (slice_range b.line (s + left) (e - right)))
    → two ≡ with_line one (covered one.line s m (in_its_order v.back back))
    → three ≡ with_line two (covered two.line k e (in_its_order v.front front))
    → three ≡ with_line b (covered b.line s e (rearranged v (slice_range b.line s e)))
unfolding rearranged
parts_moved v b one two three front back s m k e left right from to behind before room low within front_read back_read first second third =
    let is_front : front ≡ slice_range b.line s (s + size_of v.front) = front_read ∙ ap (λ n. slice_range b.line s (s + n)) from in
    let is_back : back ≡ slice_range b.line (e - size_of v.back) e = back_read ∙ ap (λ n. slice_range b.line (e - n) e) to in
    let span : List hb_glyph_info_t = slice_range b.line s e in
    let long : length span ≡ e - s = length_slice s e b.line low within in
    let cut : ℕ = length span - size_of v.back in
    let middle : List hb_glyph_info_t = slice_range b.line (s + left) (e - right) in
    let fs : List hb_glyph_info_t = in_its_order v.front front in
    let bs : List hb_glyph_info_t = in_its_order v.back back in
    let nb : length bs ≡ size_of v.back = length_put_down v.back back ∙ (ap length is_back ∙ (length_slice (e - size_of v.back) e b.line (omega arith) within ∙ omega (arith, room))) in
    let nf : length fs ≡ size_of v.front = length_put_down v.front front ∙ (ap length is_front ∙ (length_slice s (s + size_of v.front) b.line (omega arith) (omega (arith, room, low, within)) ∙ omega arith)) in
    let nm : length middle ≡ e - right - (s + left) = length_slice (s + left) (e - right) b.line (omega (arith, from, to, room, low)) (omega (arith, within)) in
    let joined : covered (covered (covered b.line m k middle) s m bs) k e fs ≡ covered b.line s e (bs ++ (middle ++ fs)) =
    ap (λ t. covered t k e fs) (covered_before b.line bs middle s m k (omega (arith, nb, to, behind)) (omega (arith, nm, from, to, behind, before, room, low)) (omega (arith, before, within)))
    ∙ (covered_joined b.line (bs ++ middle) fs s k e (ap (λ n. s + n) (length-append bs middle) ∙ omega (arith, nb, nm, from, to, before, room, low)) (omega (arith, nf, from, before, room, low)) within
    ∙ ap (covered b.line s e) (append_assoc bs middle fs)) in
    let in_front : front ≡ take (size_of v.front) span =
    is_front ∙ (let n : s + size_of v.front - s ≡ size_of v.front = omega arith in ap (λ j. take j (drop s b.line)) n ∙ sym (take-take (size_of v.front) (e - s) (drop s b.line) (omega (arith, room)))) in
    let in_back : back ≡ drop cut span =
    is_back ∙ ((let x : e - size_of v.back ≡ s + cut = omega (arith, long, room, low) in let y : e ≡ s + length span = omega (arith, long, low) in ap (λ j. slice_range b.line j e) x ∙ ap (λ j. slice_range b.line (s + cut) j) y)
    ∙ (sym (range_of_range b.line s e cut (length span) (omega arith) (omega (arith, long))) ∙ take_rest span cut)) in
    let between : middle ≡ slice_range span (size_of v.front) cut =
    (let x : s + left ≡ s + size_of v.front = ap (λ n. s + n) from in let y : e - right ≡ s + cut = omega (arith, to, long, room, low) in ap (λ j. slice_range b.line j (e - right)) x ∙ ap (λ j. slice_range b.line (s + size_of v.front) j) y)
    ∙ sym (range_of_range b.line s e (size_of v.front) cut (omega (arith, long, room)) (omega (arith, long))) in
    let made : covered b.line s e (bs ++ (middle ++ fs)) ≡ covered b.line s e (rearranged v span) =
    ap (λ xs. covered b.line s e (in_its_order v.back xs ++ (middle ++ fs))) in_back
    ∙ (ap (λ xs. covered b.line s e (in_its_order v.back (drop cut span) ++ (xs ++ fs))) between
    ∙ ap (λ xs. covered b.line s e (in_its_order v.back (drop cut span) ++ (slice_range span (size_of v.front) cut ++ in_its_order v.front xs))) in_front) in
    third ∙ (ap (λ (d : Buffer). with_line d (covered d.line k e fs)) second
    ∙ (ap (λ (d : Buffer). with_line d (covered (covered d.line s m bs) k e fs)) first
    ∙ ap (with_line b) (joined ∙ made)))

-- a glyph was moved to the left
pub left_step : {X : Type 0} (gs : List X) (s e by i : ℕ) (d : X) → by ≤ s → s ≤ i → i < e → e ≤ length gs
    → get_or (covered gs (s - by) (e - by) (slice_range gs s e)) (i - by) d ≡ get_or gs i d
left_step gs s e by i d room from to within =
    let long : length (slice_range gs s e) ≡ e - s = length_slice s e gs (omega (arith, from, to)) within in
    let place : s + (i - by - (s - by)) ≡ i = omega (arith, room, from) in
    covered_at gs (slice_range gs s e) (s - by) (e - by) (omega (arith, long, room, from, to)) (omega (arith, within)) (i - by) d (omega (arith, room, from)) (omega (arith, room, from, to))
    ∙ (range_at gs s e (i - by - (s - by)) d (omega (arith, room, from, to)) ∙ ap (λ j. get_or gs j d) place)

-- a glyph behind those that were written
pub behind_written : {X : Type 0} (xs ys : List X) (i j : ℕ) (d : X) → i ≤ j → i ≤ length xs → get_or (take i xs ++ drop i ys) j d ≡ get_or ys j d
behind_written xs ys i j d low within =
    let place : i + (j - i) ≡ j = omega (arith, low) in
    get_or-append_right (take i xs) (drop i ys) i j d (length-take-le i xs within) low ∙ (get_or-drop i ys (j - i) d ∙ ap (λ k. get_or ys k d) place)

-- a glyph before those that were written
pub before_written : {X : Type 0} (xs ys : List X) (i j : ℕ) (d : X) → j < i → i ≤ length ys → get_or (take i ys ++ drop i xs) j d ≡ get_or ys j d
before_written xs ys i j d low within = get_or_append_left (take i ys) (drop i xs) d j (let n = length-take-le i ys within in omega (arith, n, low)) ∙ get_or-take i ys j d low

-- one glyph more was moved to the left
pub left_written : {X : Type 0} (gs now : List X) (s e by i : ℕ) (d y : X) → by ≤ s → s ≤ i → i < e → e ≤ length gs
    → now ≡ take (i - by) (covered gs (s - by) (e - by) (slice_range gs s e)) ++ drop (i - by) gs → y ≡ get_or now i d
    → set now (i - by) y ≡ take (i + 1 - by) (covered gs (s - by) (e - by) (slice_range gs s e)) ++ drop (i + 1 - by) gs
left_written gs now s e by i d y room from to within was read =
    let long : length (slice_range gs s e) ≡ e - s = length_slice s e gs (omega (arith, from, to)) within in
    let all : length (covered gs (s - by) (e - by) (slice_range gs s e)) ≡ length gs =
    covered_long gs (slice_range gs s e) (s - by) (e - by) (omega (arith, long, room, from, to)) (omega (arith, within)) in
    let next : i - by + 1 ≡ i + 1 - by = omega (arith, room, from) in
    let value : y ≡ get_or (covered gs (s - by) (e - by) (slice_range gs s e)) (i - by) d =
    read ∙ (ap (λ t. get_or t i d) was ∙ (behind_written (covered gs (s - by) (e - by) (slice_range gs s e)) gs (i - by) i d (omega arith) (omega (arith, all, to, within)) ∙ sym (left_step gs s e by i d room from to within))) in
    ap (λ t. set t (i - by) y) was
    ∙ (ap (set (take (i - by) (covered gs (s - by) (e - by) (slice_range gs s e)) ++ drop (i - by) gs) (i - by)) value
    ∙ (blended_step (covered gs (s - by) (e - by) (slice_range gs s e)) gs (i - by) d (omega (arith, all, to, within)) (sym all)
    ∙ ap (λ n. take n (covered gs (s - by) (e - by) (slice_range gs s e)) ++ drop n gs) next))

-- one glyph more was moved to the right
pub right_written : {X : Type 0} (gs now : List X) (s e by i : ℕ) (d y : X) → by ≤ s → s ≤ i → i < e → e ≤ length gs
    → now ≡ take (i + 1) gs ++ drop (i + 1) (covered gs s e (slice_range gs (s - by) (e - by))) → y ≡ get_or now (i - by) d
    → set now i y ≡ take i gs ++ drop i (covered gs s e (slice_range gs (s - by) (e - by)))
right_written gs now s e by i d y room from to within was read =
    let long : length (slice_range gs (s - by) (e - by)) ≡ e - s = length_slice (s - by) (e - by) gs (omega (arith, from, to)) (omega (arith, within)) ∙ omega (arith, room, from, to) in
    let all : length (covered gs s e (slice_range gs (s - by) (e - by))) ≡ length gs = covered_long gs (slice_range gs (s - by) (e - by)) s e (omega (arith, long, from, to)) within in
    let place : s - by + (i - s) ≡ i - by = omega (arith, room, from) in
    let at : get_or (covered gs s e (slice_range gs (s - by) (e - by))) i d ≡ get_or gs (i - by) d =
    covered_at gs (slice_range gs (s - by) (e - by)) s e (omega (arith, long, from, to)) within i d from to
    ∙ (range_at gs (s - by) (e - by) (i - s) d (omega (arith, room, from, to)) ∙ ap (λ j. get_or gs j d) place) in
    let value : y ≡ get_or (covered gs s e (slice_range gs (s - by) (e - by))) i d =
    read ∙ (ap (λ t. get_or t (i - by) d) was ∙ (before_written (covered gs s e (slice_range gs (s - by) (e - by))) gs (i + 1) (i - by) d (omega arith) (omega (arith, to, within)) ∙ sym at)) in
    ap (λ t. set t i y) was
    ∙ (ap (set (take (i + 1) gs ++ drop (i + 1) (covered gs s e (slice_range gs (s - by) (e - by)))) i) value
    ∙ blended_step_back (covered gs s e (slice_range gs (s - by) (e - by))) gs i d (omega (arith, all, to, within)) (sym all))
