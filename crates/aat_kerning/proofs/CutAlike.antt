-- Pairs can be kerned in two parts, by every kern mask, where the parts ask for the marks that the whole asks for: then
-- the marks of the whole are those of the parts.
use Rattle.std.proofs.Common.{◌≡◌, ℕ, zero, suc, ◌+◌, ◌-◌, ◌<◌, ◌≤◌, ◌&&◌, Bool, true, false, cond, List, [], ◌∷◌, ◌++◌, length, map, take, drop, fold, min, ℤ, pos, Option, Some, None, refl, sym, ap, ◌∙◌, arith, nat_lt, nat_le, lt-ltb, append_assoc, append-nil, reverse}
use Rattle.std.specs.Prelude.{slice_range}
use Rattle.std.specs.Ordering.{int_eq}
use Rattle.std.proofs.lemmas.Bool.Decides.{nat_tests}
use Rattle.std.proofs.lemmas.Grind.{reverse_onto}
use Rattle.std.proofs.lemmas.List.{take-append-drop, take-append-le, drop-append-le, take_all, drop_all, length-append, length-drop, length-map, map-append, get_or_append_left, get_or-append-add}
use Rattle.std.proofs.lemmas.Slice.Zip.{AllZip-long}
use Rattle.aat_buffer.specs.Buffer.{Buffer, no_glyph, glyph_at, reversed}
use Rattle.aat_buffer.specs.Marks.{on_span, on_long_span, break_marked, concat_marked, with_mask_bits, unsafe_to_break, unsafe_to_concat, produces_concat}
use Rattle.aat_buffer.specs.facts.Cases.{either}
use Rattle.aat_buffer.specs.facts.Lines.{length_on_long_span}
use Rattle.aat_kerning_tables.specs.AnchorPoints.{Points}
use Rattle.aat_glyph.specs.Directions.{is_backward}
use Rattle.aat_glyph.specs.declared.glyph.Direction.{Direction}
use Rattle.aat_glyph.specs.declared.flags.BufferFlags.{BufferFlags}
use Rattle.aat_glyph.specs.declared.glyph.hb_glyph_info_t.{hb_glyph_info_t}
use Rattle.aat_run.specs.Switches.{meets}
use Rattle.aat_kerning.specs.Cut.{ordered_line, greater_at, AreAlikeParts, AlikePartsAreKernedApart, CanBeCutAlike}
use Rattle.aat_kerning_machines.specs.KerningLaws.{IsKernedFrom, IsMarkedFrom}
use Rattle.aat_kerning.specs.PairKerning.{kerned, pair_kerning, in_stream, cross_stream, PairValues}
use Rattle.aat_kerning.specs.Pairs.{Pair, kerx_skips, kern_skips, is_solid, pairs_of}
use Rattle.aat_kerning_tables.specs.declared.kern.KernSubtable.{KernSubtable}
use Rattle.aat_kerning_tables.specs.declared.kerx.KerxSubtable.{KerxSubtable}
use Rattle.aat_kerning.specs.Positioning.{cursively_attached, in_processing_order, line_marked, kerning_of_kerx_subtable, kerning_of_kern_subtable, kerx_positioning, kern_positioning}
use Rattle.aat_kerning.proofs.Changes.{of_marked, of_pair, of_pairs, of_pair_kerning, of_attachment}
use Rattle.aat_kerning.proofs.CutHolds.{AreNow, cut_of, marked_parts_now, now_after, now_attached, now_marked, parts_now, short_first}
use Rattle.aat_kerning.proofs.CutMarks.{IsUnflagged}
use Rattle.aat_kerning.proofs.CutMoves.{SameIds, ids_kept, same_value, value_at, value_further}
use Rattle.aat_kerning.proofs.CutPairs.{LooksLike, shifted, AllBefore, pairs_within}
use Rattle.aat_kerning.proofs.CutStep.{IsGreater, IsCut, IsMovedApart, by_pairs, folded_apart, greater_kept, pairs_apart}
use Rattle.aat_kerning.proofs.CutTables.{IsCutLine, IsKeptApart, PairsKeep, kerx_parted, kern_parted}

-- the span of a pair is marked
abbrev pub span_marked_of : Pair → List hb_glyph_info_t → List hb_glyph_info_t
span_marked_of p gs = on_long_span break_marked p.left (min (p.right + 1) (length gs)) gs

-- where the pair has a value
abbrev pub marks_if : ℤ → Pair → List hb_glyph_info_t → List hb_glyph_info_t
marks_if v p gs = cond (int_eq v (pos 0)) gs (span_marked_of p gs)

-- what a pair of a line does to the glyphs
abbrev pub marks : PairValues → List hb_glyph_info_t → Pair → List hb_glyph_info_t → List hb_glyph_info_t
marks values line p gs = marks_if (value_at values line p) p gs

kerned_marks :
    (is_cross : Bool) (values : PairValues) (p : Pair) (b : Buffer)
    → (kerned is_cross values p b).line ≡ marks values b.line p b.line
unfolding kerned
kerned_marks is_cross values p b =
    let v = value_at values b.line p in
    by_tests (int_eq v (pos 0)) is_cross (cross_stream p v b) (in_stream p v b) refl refl
  where
    by_tests :
        (t c : Bool) (x y : Buffer) → x.line ≡ b.line → y.line ≡ b.line
        → (cond t b (unsafe_to_break (cond c x y) (Some p.left) (Some (p.right + 1)))).line ≡ cond t b.line (span_marked_of p b.line)
    by_tests true c x y e f = refl
    by_tests false true x y e f = ap (span_marked_of p) e
    by_tests false false x y e f = ap (span_marked_of p) f

pairs_mark :
    (is_cross : Bool) (values : PairValues) (line : List hb_glyph_info_t) (ps : List Pair) (b : Buffer)
    → SameIds line b.line
    → (by_pairs is_cross values b ps).line ≡ fold (λ gs p. marks values line p gs) b.line ps
pairs_mark is_cross values line [] b ids = refl
pairs_mark is_cross values line (p ∷ ps) b ids =
    let d = kerned is_cross values p b in
    let rest = pairs_mark is_cross values line ps d (λ i. ids_kept b d (of_pair is_cross values p b) i ∙ ids i) in
    let here : d.line ≡ marks values line p b.line =
    kerned_marks is_cross values p b ∙ ap (λ v. marks_if v p b.line) (same_value values line b.line p (ids p.left) (ids p.right)) in
    rest ∙ ap (λ gs. fold (λ gs p. marks values line p gs) gs ps) here

-- what lies behind a list, and before it
take_past : {X : Type 0} (xs ys : List X) (n k : ℕ) → k ≡ length xs + n → take k (xs ++ ys) ≡ xs ++ take n ys
take_past [] ys n k e = let same : k ≡ n = omega (arith, e) in ap (λ m. take m ys) same
take_past (x ∷ xs) ys n zero e = absurd (omega (arith, e))
take_past (x ∷ xs) ys n (suc k) e = ap (λ zs. x ∷ zs) (take_past xs ys n k (omega (arith, e)))

drop_past : {X : Type 0} (xs ys : List X) (n k : ℕ) → k ≡ length xs + n → drop k (xs ++ ys) ≡ drop n ys
drop_past [] ys n k e = let same : k ≡ n = omega (arith, e) in ap (λ m. drop m ys) same
drop_past (x ∷ xs) ys n zero e = absurd (omega (arith, e))
drop_past (x ∷ xs) ys n (suc k) e = drop_past xs ys n k (omega (arith, e))

-- a span of the first of two lists
span_in_front :
    (f : List hb_glyph_info_t → List hb_glyph_info_t) (i j : ℕ) (xs ys : List hb_glyph_info_t) → i ≤ j → j ≤ length xs
    → on_span f i j (xs ++ ys) ≡ on_span f i j xs ++ ys
span_in_front f i j xs ys low high =
    let front : take i (xs ++ ys) ≡ take i xs = take-append-le i xs ys (omega (arith, low, high)) in
    let count : j - i ≤ length (drop i xs) = omega (arith, length-drop i xs, high) in
    let middle : slice_range (xs ++ ys) i j ≡ slice_range xs i j =
    ap (take (j - i)) (drop-append-le i xs ys (omega (arith, low, high))) ∙ take-append-le (j - i) (drop i xs) ys count in
    let rest : drop j (xs ++ ys) ≡ drop j xs ++ ys = drop-append-le j xs ys high in
    ap (λ zs. zs ++ (f (slice_range (xs ++ ys) i j) ++ drop j (xs ++ ys))) front
    ∙ (ap (λ zs. take i xs ++ (f zs ++ drop j (xs ++ ys))) middle
    ∙ (ap (λ zs. take i xs ++ (f (slice_range xs i j) ++ zs)) rest
    ∙ (ap (λ zs. take i xs ++ zs) (sym (append_assoc (f (slice_range xs i j)) (drop j xs) ys))
    ∙ sym (append_assoc (take i xs) (f (slice_range xs i j) ++ drop j xs) ys))))

-- a span of the second of two lists
span_behind :
    (f : List hb_glyph_info_t → List hb_glyph_info_t) (i j k l : ℕ) (xs ys : List hb_glyph_info_t)
    → k ≡ length xs + i → l ≡ length xs + j → on_span f k l (xs ++ ys) ≡ xs ++ on_span f i j ys
span_behind f i j k l xs ys e g =
    let count : l - k ≡ j - i = omega (arith, e, g) in
    let middle : slice_range (xs ++ ys) k l ≡ slice_range ys i j =
    ap (take (l - k)) (drop_past xs ys i k e) ∙ ap (λ n. take n (drop i ys)) count in
    ap (λ zs. zs ++ (f (slice_range (xs ++ ys) k l) ++ drop l (xs ++ ys))) (take_past xs ys i k e)
    ∙ (ap (λ zs. (xs ++ take i ys) ++ (f zs ++ drop l (xs ++ ys))) middle
    ∙ (ap (λ zs. (xs ++ take i ys) ++ (f (slice_range ys i j) ++ zs)) (drop_past xs ys j l g)
    ∙ append_assoc xs (take i ys) (f (slice_range ys i j) ++ drop j ys)))

-- a pair of the first part marks it alone
marks_front :
    (q : ℕ) (p : Pair) (v : ℤ) (xs ys : List hb_glyph_info_t) → p.left < q → p.right < q → length xs ≡ q
    → marks_if v p (xs ++ ys) ≡ marks_if v p xs ++ ys
marks_front q p v xs ys low high short =
    by_value (int_eq v (pos 0))
  where
    whole_end : min (p.right + 1) (length (xs ++ ys)) ≡ p.right + 1
    whole_end = omega (arith, length-append xs ys, short, high)

    part_end : min (p.right + 1) (length xs) ≡ p.right + 1
    part_end = omega (arith, short, high)

    by_length :
        (t : Bool) → nat_le (p.left + 2) (p.right + 1) ≡ t
        → cond t (on_span break_marked p.left (p.right + 1) (xs ++ ys)) (xs ++ ys) ≡ cond t (on_span break_marked p.left (p.right + 1) xs) xs ++ ys
    by_length false e = refl
    by_length true e =
        let long : p.left ≤ p.right + 1 = grind (arith, nat_tests, e) in
        span_in_front break_marked p.left (p.right + 1) xs ys long (omega (arith, short, high))

    marked : span_marked_of p (xs ++ ys) ≡ span_marked_of p xs ++ ys
    marked =
        ap (λ n. on_long_span break_marked p.left n (xs ++ ys)) whole_end
        ∙ (by_length (nat_le (p.left + 2) (p.right + 1)) refl
        ∙ ap (λ n. on_long_span break_marked p.left n xs ++ ys) (sym part_end))

    by_value : (t : Bool) → cond t (xs ++ ys) (span_marked_of p (xs ++ ys)) ≡ cond t xs (span_marked_of p xs) ++ ys
    by_value true = refl
    by_value false = marked

-- a pair of the second part marks that alone
marks_back :
    (q : ℕ) (p : Pair) (v : ℤ) (xs ys : List hb_glyph_info_t) → length xs ≡ q
    → marks_if v (shifted q p) (xs ++ ys) ≡ xs ++ marks_if v p ys
marks_back q p v xs ys short =
    by_value (int_eq v (pos 0))
  where
    end : ℕ
    end = min (p.right + 1) (length ys)

    whole_end : min (q + p.right + 1) (length (xs ++ ys)) ≡ q + end
    whole_end = omega (arith, length-append xs ys, short)

    same_test : nat_le (q + p.left + 2) (q + end) ≡ nat_le (p.left + 2) end
    same_test = grind (arith, nat_tests)

    marked : span_marked_of (shifted q p) (xs ++ ys) ≡ xs ++ span_marked_of p ys
    marked =
        ap (λ n. on_long_span break_marked (q + p.left) n (xs ++ ys)) whole_end
        ∙ (ap (λ t. cond t (on_span break_marked (q + p.left) (q + end) (xs ++ ys)) (xs ++ ys)) same_test
        ∙ by_length (nat_le (p.left + 2) end))
      where
        by_length :
            (t : Bool) → cond t (on_span break_marked (q + p.left) (q + end) (xs ++ ys)) (xs ++ ys)
            ≡ xs ++ cond t (on_span break_marked p.left end ys) ys
        by_length false = refl
        by_length true = span_behind break_marked p.left end (q + p.left) (q + end) xs ys (omega (arith, short)) (omega (arith, short))

    by_value : (t : Bool) → cond t (xs ++ ys) (span_marked_of (shifted q p) (xs ++ ys)) ≡ xs ++ cond t ys (span_marked_of p ys)
    by_value true = refl
    by_value false = marked

-- a pair keeps the length
length_of_marks : (v : ℤ) (p : Pair) (gs : List hb_glyph_info_t) → length (marks_if v p gs) ≡ length gs
length_of_marks v p gs =
    either (λ (xs : List hb_glyph_info_t). length xs) (int_eq v (pos 0)) gs (span_marked_of p gs) (length gs) refl
    (length_on_long_span break_marked p.left (min (p.right + 1) (length gs)) gs (λ xs. length-map xs _) (omega arith))

module _ (q : ℕ) (values : PairValues) (line : List hb_glyph_info_t) where
  front_marks :
      (first : List hb_glyph_info_t) → ((i : ℕ) → i < q → (glyph_at first i).glyph_id ≡ (glyph_at line i).glyph_id)
      → (ps : List Pair) (xs ys : List hb_glyph_info_t) → AllBefore q ps → length xs ≡ q
      → fold (λ gs p. marks values line p gs) (xs ++ ys) ps ≡ fold (λ gs p. marks values first p gs) xs ps ++ ys
  front_marks first ids [] xs ys before short = refl
  front_marks first ids (p ∷ ps) xs ys before short =
      let v = value_at values first p in
      let same = same_value values line first p (ids p.left before.0.0) (ids p.right before.0.1) in
      ap (λ gs. fold (λ gs p. marks values line p gs) gs ps)
      (ap (λ w. marks_if w p (xs ++ ys)) (sym same) ∙ marks_front q p v xs ys before.0.0 before.0.1 short)
      ∙ front_marks first ids ps (marks_if v p xs) ys before.1 (length_of_marks v p xs ∙ short)

  back_marks :
      (second : List hb_glyph_info_t) → ((i : ℕ) → (glyph_at second i).glyph_id ≡ (glyph_at line (q + i)).glyph_id)
      → (ps : List Pair) (xs ys : List hb_glyph_info_t) → length xs ≡ q
      → fold (λ gs p. marks values line p gs) (xs ++ ys) (map (shifted q) ps)
      ≡ xs ++ fold (λ gs p. marks values second p gs) ys ps
  back_marks second ids [] xs ys short = refl
  back_marks second ids (p ∷ ps) xs ys short =
      let v = value_at values second p in
      let same = value_further q values line second ids p in
      ap (λ gs. fold (λ gs p. marks values line p gs) gs (map (shifted q) ps))
      (ap (λ w. marks_if w (shifted q p) (xs ++ ys)) (sym same) ∙ marks_back q p v xs ys short)
      ∙ back_marks second ids ps xs (marks_if v p ys) short

map_reverse : (gs : List hb_glyph_info_t) → reverse (map (with_mask_bits 2) gs) ≡ map (with_mask_bits 2) (reverse gs)
map_reverse [] = refl
map_reverse (g ∷ gs) =
    let f = with_mask_bits 2 in
    reverse_onto (map f gs) (f g) []
    ∙ (ap (λ xs. xs ++ f g ∷ []) (map_reverse gs)
    ∙ (sym (map-append f (reverse gs) (g ∷ [])) ∙ ap (map f) (sym (reverse_onto gs g []))))

-- the marks of a whole line
whole_span :
    (gs : List hb_glyph_info_t) → on_span concat_marked 0 (length gs) gs ≡ map (with_mask_bits 2) gs
whole_span gs =
    let all : take (length gs - 0) gs ≡ gs = take_all (length gs - 0) gs (omega arith) in
    let none : drop (length gs) gs ≡ [] = drop_all (length gs) gs (omega arith) in
    ap (λ xs. concat_marked xs ++ drop (length gs) gs) all
    ∙ (ap (λ xs. concat_marked gs ++ xs) none ∙ append-nil (concat_marked gs))

concat_line :
    (b : Buffer) → (unsafe_to_concat b None None).line ≡ cond (produces_concat b.flags) (map (with_mask_bits 2) b.line) b.line
concat_line b = by_line b.line (produces_concat b.flags)
  where
    by_line :
        (gs : List hb_glyph_info_t) (t : Bool)
        → cond (t && nat_lt 0 (min (length gs) (length gs))) (on_span concat_marked 0 (min (length gs) (length gs)) gs) gs
        ≡ cond t (map (with_mask_bits 2) gs) gs
    by_line gs false = refl
    by_line [] true = refl
    by_line (g ∷ gs) true =
        let n = length (g ∷ gs) in
        let end : min n n ≡ n = omega arith in
        let some : nat_lt 0 n ≡ true = lt-ltb 0 n (omega arith) in
        ap (λ m. cond (nat_lt 0 m) (on_span concat_marked 0 m (g ∷ gs)) (g ∷ gs)) end
        ∙ (ap (λ t. cond t (on_span concat_marked 0 n (g ∷ gs)) (g ∷ gs)) some ∙ whole_span (g ∷ gs))

-- a line is marked as its parts are
pub concat_joined :
    (b first second : Buffer) → first.flags ≡ b.flags → second.flags ≡ b.flags → b.line ≡ first.line ++ second.line
    → (unsafe_to_concat b None None).line ≡ (unsafe_to_concat first None None).line ++ (unsafe_to_concat second None None).line
concat_joined b first second f g joined =
    let asked = produces_concat b.flags in
    let of_first : (unsafe_to_concat first None None).line ≡ cond asked (map (with_mask_bits 2) first.line) first.line =
    concat_line first ∙ ap (λ (x : BufferFlags). cond (produces_concat x) (map (with_mask_bits 2) first.line) first.line) f in
    let of_second : (unsafe_to_concat second None None).line ≡ cond asked (map (with_mask_bits 2) second.line) second.line =
    concat_line second ∙ ap (λ (x : BufferFlags). cond (produces_concat x) (map (with_mask_bits 2) second.line) second.line) g in
    concat_line b
    ∙ (ap (λ xs. cond asked (map (with_mask_bits 2) xs) xs) joined
    ∙ (by_test asked
    ∙ (ap (λ xs. xs ++ cond asked (map (with_mask_bits 2) second.line) second.line) (sym of_first)
    ∙ ap (λ xs. (unsafe_to_concat first None None).line ++ xs) (sym of_second))))
  where
    by_test :
        (t : Bool) → cond t (map (with_mask_bits 2) (first.line ++ second.line)) (first.line ++ second.line)
        ≡ cond t (map (with_mask_bits 2) first.line) first.line ++ cond t (map (with_mask_bits 2) second.line) second.line
    by_test true = map-append (with_mask_bits 2) first.line second.line
    by_test false = refl

-- the whole and its parts, where the whole's glyphs are those of the parts
record AreAlike (q : ℕ) (way : Direction) (line : List hb_glyph_info_t) (b first second : Buffer) : Type 0 where
  now : AreNow q way line b first second
  joined : b.line ≡ first.line ++ second.line
  first_flags : first.flags ≡ b.flags
  second_flags : second.flags ≡ b.flags

-- equal glyphs look like each other
looks_same : (skips kern_mask : ℕ) (g h : hb_glyph_info_t) → h ≡ g → LooksLike skips kern_mask g h
looks_same skips kern_mask g h e = record {
  id = ap (λ (x : hb_glyph_info_t). x.glyph_id) e;
  solid = ap (is_solid skips) e;
  asks = ap (λ (x : hb_glyph_info_t). meets x.mask kern_mask) e;
}

module _ (q : ℕ) (way : Direction) (line : List hb_glyph_info_t) where
  alike_after :
      (b first second d e f : Buffer) → AreAlike q way line b first second
      → IsKernedFrom b d → IsKernedFrom first e → IsKernedFrom second f → d.line ≡ e.line ++ f.line → IsMovedApart q d e f
      → AreAlike q way line d e f
  alike_after b first second d e f alike k l m joined apart = record {
    now = now_after q way line b first second d e f alike.now k l m apart;
    joined = joined;
    first_flags = l.text.settings.flags ∙ (alike.first_flags ∙ sym k.text.settings.flags);
    second_flags = m.text.settings.flags ∙ (alike.second_flags ∙ sym k.text.settings.flags);
  }

  alike_attached :
      (b first second : Buffer) → AreAlike q way line b first second
      → AreAlike q way line (cursively_attached b) (cursively_attached first) (cursively_attached second)
  alike_attached b first second alike =
      alike_after b first second (cursively_attached b) (cursively_attached first) (cursively_attached second) alike
      (of_attachment b) (of_attachment first) (of_attachment second) alike.joined (now_attached q way line b first second alike.now).apart

  alike_marked :
      (asked : Bool) (b first second : Buffer) → AreAlike q way line b first second
      → AreAlike q way line (line_marked asked b) (line_marked asked first) (line_marked asked second)
  alike_marked asked b first second alike =
      alike_after b first second (line_marked asked b) (line_marked asked first) (line_marked asked second) alike
      (of_marked asked b) (of_marked asked first) (of_marked asked second) (joined asked) (now_marked q way line asked b first second alike.now).apart
    where
      joined : (t : Bool) → (line_marked t b).line ≡ (line_marked t first).line ++ (line_marked t second).line
      joined true = concat_joined b first second alike.first_flags alike.second_flags alike.joined
      joined false = alike.joined

module _ (skips kern_mask q : ℕ) (way : Direction) (line : List hb_glyph_info_t) (place : IsCutLine skips q line) where
  alike_cut : (b first second : Buffer) → AreAlike q way line b first second → IsCut skips kern_mask q way b first second
  alike_cut b first second alike =
      let short = short_first skips kern_mask q way line place b first second alike.now in
      cut_of skips kern_mask q way line place b first second alike.now
      (λ i low. looks_same skips kern_mask (glyph_at b.line i) (glyph_at first.line i)
      (sym (ap (λ (xs : List hb_glyph_info_t). glyph_at xs i) alike.joined ∙ get_or_append_left first.line second.line no_glyph i (omega (arith, low, short)))))
      (λ i. looks_same skips kern_mask (glyph_at b.line (q + i)) (glyph_at second.line i)
      (sym (ap (λ (xs : List hb_glyph_info_t). glyph_at xs (q + i)) alike.joined
      ∙ (ap (λ n. glyph_at (first.line ++ second.line) (n + i)) (sym short) ∙ get_or-append-add first.line second.line i no_glyph))))

  -- the marks of pairs
  pairs_joined :
      (is_cross : Bool) (values : PairValues) (b first second : Buffer)
      → AreAlike q way line b first second → IsGreater q (greater_at q line) place.less b.line
      → IsUnflagged (glyph_at (pair_kerning skips kern_mask is_cross values b).line (greater_at q line))
      → (pair_kerning skips kern_mask is_cross values b).line
      ≡ (pair_kerning skips kern_mask is_cross values first).line ++ (pair_kerning skips kern_mask is_cross values second).line
  unfolding pair_kerning
  pairs_joined is_cross values b first second alike at none =
      let cut = alike_cut b first second alike in
      let ps = pairs_of skips kern_mask first.line in
      let rs = pairs_of skips kern_mask second.line in
      let marked : List hb_glyph_info_t → Pair → List hb_glyph_info_t = λ gs p. marks values b.line p gs in
      let part : List hb_glyph_info_t → List hb_glyph_info_t → Pair → List hb_glyph_info_t = λ xs gs p. marks values xs p gs in
      let left = fold (part first.line) first.line ps in
      let short : length left ≡ q =
      ap (λ (xs : List hb_glyph_info_t). length xs) (sym (pairs_mark is_cross values first.line ps first (λ i. refl)))
      ∙ (AllZip-long IsMarkedFrom first.line _ (of_pairs is_cross values ps first).line ∙ cut.short) in
      pairs_mark is_cross values b.line (pairs_of skips kern_mask b.line) b (λ i. refl)
      ∙ (folded_apart skips kern_mask q (greater_at q line) place.less way is_cross values b first second cut at none (marks values b.line)
      (λ p xs zero. ap (λ t. cond t xs (span_marked_of p xs)) zero) b.line
      ∙ (ap (λ gs. fold marked (fold marked gs ps) (map (shifted q) rs)) alike.joined
      ∙ (ap (λ gs. fold marked gs (map (shifted q) rs))
      (front_marks q values b.line first.line (λ i low. (cut.front i low).id) ps first.line second.line
      (pairs_within skips kern_mask q first.line cut.short) cut.short)
      ∙ (back_marks q values b.line second.line (λ i. (cut.back i).id) rs left second.line short
      ∙ (ap (λ xs. xs ++ fold (part second.line) second.line rs) (sym (pairs_mark is_cross values first.line ps first (λ i. refl)))
      ∙ ap (λ xs. (by_pairs is_cross values first ps).line ++ xs) (sym (pairs_mark is_cross values second.line rs second (λ i. refl))))))))

  alike_paired : PairsKeep skips kern_mask (greater_at q line) (AreAlike q way line)
  alike_paired is_cross values asked b first second alike none =
      let marked = alike_marked q way line asked b first second alike in
      let d = line_marked asked b in
      let here = greater_kept q (greater_at q line) place.less line d.line marked.now.whole_line place.greater in
      alike_after q way line b first second _ _ _ alike
      (of_pair_kerning skips kern_mask is_cross values asked b)
      (of_pair_kerning skips kern_mask is_cross values asked first)
      (of_pair_kerning skips kern_mask is_cross values asked second)
      (pairs_joined is_cross values d (line_marked asked first) (line_marked asked second) marked here none)
      (pairs_apart skips kern_mask q (greater_at q line) place.less way is_cross values d (line_marked asked first) (line_marked asked second)
      (alike_cut d (line_marked asked first) (line_marked asked second) marked) here none)

  alike_kept : IsKeptApart skips kern_mask q (greater_at q line) way (AreAlike q way line)
  alike_kept = record {
    ways = λ b first second alike. (alike.now.whole_way, alike.now.first_way, alike.now.second_way);
    apart = λ b first second alike. alike.now.apart;
    attaches = alike_attached q way line;
    pairs = alike_paired;
  }

ordered_flags : (b : Buffer) → (in_processing_order b).flags ≡ b.flags
ordered_flags b = by_way (is_backward b.direction)
  where
    by_way : (t : Bool) → (cond t (reversed b) b).flags ≡ b.flags
    by_way true = refl
    by_way false = refl

-- before the first subtable
parts_alike :
    (q : ℕ) (b first second : Buffer) → AreAlikeParts q b first second
    → AreAlike q b.direction (ordered_line b) (in_processing_order b) (in_processing_order first) (in_processing_order second)
parts_alike q b first second alike = record {
  now = parts_now q b first second alike.parts;
  joined = sym (take-append-drop q (ordered_line b))
      ∙ (ap (λ xs. xs ++ drop q (ordered_line b)) (sym alike.parts.front.line) ∙ ap (λ xs. ordered_line first ++ xs) (sym alike.parts.back.line));
  first_flags = ordered_flags first ∙ (alike.flags.front ∙ sym (ordered_flags b));
  second_flags = ordered_flags second ∙ (alike.flags.back ∙ sym (ordered_flags b));
}

-- a mark of the whole line is the same in either order
mark_ordered :
    (b : Buffer) → (in_processing_order (unsafe_to_concat b None None)).line ≡ (unsafe_to_concat (in_processing_order b) None None).line
mark_ordered b = by_way (is_backward b.direction)
  where
    d : Buffer
    d = unsafe_to_concat b None None

    turned : (t : Bool) (gs : List hb_glyph_info_t) → reverse (cond t (map (with_mask_bits 2) gs) gs) ≡ cond t (map (with_mask_bits 2) (reverse gs)) (reverse gs)
    turned true gs = map_reverse gs
    turned false gs = refl

    by_way : (t : Bool) → (cond t (reversed d) d).line ≡ (unsafe_to_concat (cond t (reversed b) b) None None).line
    by_way true = ap reverse (concat_line b) ∙ (turned (produces_concat b.flags) b.line ∙ sym (concat_line (reversed b)))
    by_way false = refl

marked_parts_alike :
    (q : ℕ) (b first second : Buffer) → AreAlikeParts q b first second
    → AreAlike q b.direction (ordered_line b) (in_processing_order (unsafe_to_concat b None None))
    (in_processing_order (unsafe_to_concat first None None)) (in_processing_order (unsafe_to_concat second None None))
marked_parts_alike q b first second alike =
    let unmarked = parts_alike q b first second alike in
    let o = in_processing_order b in
    let e = in_processing_order first in
    let f = in_processing_order second in
    record {
      now = marked_parts_now q b first second alike.parts;
      joined = mark_ordered b
          ∙ (concat_joined o e f unmarked.first_flags unmarked.second_flags unmarked.joined
          ∙ (ap (λ xs. xs ++ (unsafe_to_concat f None None).line) (sym (mark_ordered first))
          ∙ ap (λ xs. (in_processing_order (unsafe_to_concat first None None)).line ++ xs) (sym (mark_ordered second))));
      first_flags = ordered_flags (unsafe_to_concat first None None) ∙ (alike.flags.front ∙ sym (ordered_flags (unsafe_to_concat b None None)));
      second_flags = ordered_flags (unsafe_to_concat second None None) ∙ (alike.flags.back ∙ sym (ordered_flags (unsafe_to_concat b None None)));
    }

kerx_apart :
    (requested : Bool) (kern_mask : ℕ) (points : Option Points) (subtables : List KerxSubtable) (b : Buffer)
    → CanBeCutAlike kerx_skips (map (kerning_of_kerx_subtable kern_mask points) subtables)
    (kerx_positioning requested kern_mask points subtables) b
kerx_apart requested kern_mask points subtables b q first second alone place alike =
    kerx_parted requested kern_mask q b first second (AreAlike q b.direction (ordered_line b)) points subtables alone place
    (alike_kept kerx_skips kern_mask q b.direction (ordered_line b)) (marked_parts_alike q b first second alike)

kern_apart :
    (requested : Bool) (kern_mask : ℕ) (subtables : List KernSubtable) (b : Buffer)
    → CanBeCutAlike kern_skips (map (kerning_of_kern_subtable kern_mask) subtables) (kern_positioning requested kern_mask subtables) b
kern_apart requested kern_mask subtables b q first second alone place alike =
    kern_parted requested kern_mask q b first second (AreAlike q b.direction (ordered_line b)) subtables alone place
    (alike_kept kern_skips kern_mask q b.direction (ordered_line b)) (parts_alike q b first second alike)

-- pairs can be kerned in two parts by every kern mask
pub alike_parts_are_kerned_apart : AlikePartsAreKernedApart
alike_parts_are_kerned_apart = record { kerx = kerx_apart; kern = kern_apart }
