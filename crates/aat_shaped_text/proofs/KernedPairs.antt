-- A line and its two parts, kerned by the pairs of a subtable: each glyph of a part is marked only where that of the line
-- is.
use Rattle.std.proofs.Common.{◌≡◌, ◌∙◌, ◌⊎◌, sym, ap, refl, inl, inr, ℕ, suc, ◌+◌, ◌-◌, ◌<◌, ◌≤◌, ◌&&◌, Bool, true, false, cond, List, [], ◌∷◌, ◌++◌, length, map, min, pos, Option, Some, None, arith, nat_lt, subst}
use Rattle.std.specs.List.{cons_option}
use Rattle.std.specs.Ordering.{int_eq}
use Rattle.std.specs.Prelude.{ℤ}
use Rattle.std.proofs.lemmas.Bool.{cases_lt}
use Rattle.std.proofs.lemmas.List.{get_or-append-add, get_or_append_left, get_or_past, length-append}
use Rattle.std.proofs.lemmas.List.Sums.{fold-append}
use Rattle.std.proofs.lemmas.Slice.Zip.{AllZip-long}
use Rattle.aat_buffer.specs.Buffer.{Buffer, glyph_at, no_glyph, with_line}
use Rattle.aat_buffer.specs.Marks.{break_marked, concat_marked, on_long_span, on_span, produces_concat, unsafe_to_break, unsafe_to_concat}
use Rattle.aat_glyph.specs.declared.glyph.Direction.{Direction}
use Rattle.aat_glyph.specs.declared.glyph.hb_glyph_info_t.{hb_glyph_info_t}
use Rattle.aat_kerning_machines.specs.KerningLaws.{IsKernedFrom, IsMarkedFrom}
use Rattle.aat_kerning.specs.PairKerning.{PairValues, in_stream, kerned, pair_kerning}
use Rattle.aat_kerning.specs.Pairs.{Pair, is_solid, pair_at, pairs_of}
use Rattle.aat_kerning.specs.Positioning.{line_marked}
use Rattle.aat_kerning.proofs.Changes.{of_pair, of_pair_kerning}
use Rattle.aat_kerning.proofs.CutMoves.{value_at}
use Rattle.aat_kerning.proofs.CutPairs.{AllBefore, LooksLike, pairs_cut, pairs_within, shifted}
use Rattle.aat_kerning.proofs.CutStep.{by_pairs, suc_of}
use Rattle.aat_kerning.proofs.Marked.{IsMarkedLine, marked_at}
use Rattle.aat_shaped_text.proofs.KernedGlyphs.{IsCalmer, IsWithin, calmer_marked, calmer_same, long_span_within}
use Rattle.aat_shaped_text.proofs.SpotsRuns.{Glyphs}

-- a line and its two parts
pub record IsJoined (q n : ℕ) (whole first second : Glyphs) : Type 0 where
  pub short : length first ≡ q
  pub rest : length second ≡ n
  pub long : length whole ≡ q + n
  pub front : IsWithin 0 q whole first
  pub back : IsWithin q n whole second

pub joined_of : (q n : ℕ) (whole first second : Glyphs) → whole ≡ first ++ second → length first ≡ q → length second ≡ n → IsJoined q n whole first second
joined_of q n whole first second joined short rest = record {
  short = short;
  rest = rest;
  long = ap length joined ∙ (length-append first second ∙ (ap (λ m. m + length second) short ∙ ap (λ m. q + m) rest));
  front = λ i k at inside.
      let same : k ≡ i = omega (arith, at) in
      calmer_same (glyph_at whole k) (glyph_at first i)
      (sym (ap (λ (gs : Glyphs). glyph_at gs k) joined
      ∙ (ap (glyph_at (first ++ second)) same ∙ get_or_append_left first second no_glyph i (omega (arith, inside, short)))));
  back = λ i k at inside.
      let same : k ≡ length first + i = omega (arith, at, short) in
      calmer_same (glyph_at whole k) (glyph_at second i)
      (sym (ap (λ (gs : Glyphs). glyph_at gs k) joined ∙ (ap (glyph_at (first ++ second)) same ∙ get_or-append-add first second i no_glyph)));
}

-- a line that is cut before a solid glyph, and its two parts
pub record AreInTwo (skips q n : ℕ) (whole first second : Glyphs) : Type 0 where
  pub short : length first ≡ q
  pub rest : length second ≡ n
  pub some : 0 < n
  pub long : length whole ≡ q + n
  pub solid : is_solid skips (glyph_at whole q) ≡ true
  pub front : IsWithin 0 q whole first
  pub back : IsWithin q n whole second

pub in_two_of : (skips q n : ℕ) (whole first second : Glyphs) → whole ≡ first ++ second → length first ≡ q → length second ≡ n → 0 < n → is_solid skips (glyph_at whole q) ≡ true
    → AreInTwo skips q n whole first second
in_two_of skips q n whole first second joined short rest some solid =
    let parts = joined_of q n whole first second joined short rest in
    record {
      short = short;
      rest = rest;
      some = some;
      long = parts.long;
      solid = solid;
      front = parts.front;
      back = parts.back;
    }

-- a pair of a part, kerned in the whole and in the part
module _ (q n : ℕ) (values : PairValues) (there p : Pair) (left_is : there.left ≡ q + p.left) (right_is : there.right ≡ q + p.right) (left_low : p.left < n) (right_low : p.right < n) where
  kerned_within : (w b : Buffer) → length b.line ≡ n → q + n ≤ length w.line → IsWithin q n w.line b.line
      → IsWithin q n (kerned false values there w).line (kerned false values p b).line
  unfolding kerned
  kerned_within w b long longer within =
      subst (λ (v : ℤ). IsWithin q n (cond (int_eq (value_at values w.line there) (pos 0)) w (unsafe_to_break (in_stream there (value_at values w.line there) w) (Some there.left) (Some (there.right + 1)))).line
      (cond (int_eq v (pos 0)) b (unsafe_to_break (in_stream p (value_at values b.line p) b) (Some p.left) (Some (p.right + 1)))).line) value_is
      (by (int_eq (value_at values w.line there) (pos 0)))
    where
      value_is : value_at values w.line there ≡ value_at values b.line p
      value_is =
          ap (λ n. values n (glyph_at w.line there.right).glyph_id) (sym (ap (λ (g : hb_glyph_info_t). g.glyph_id) (within p.left there.left left_is left_low).same))
          ∙ ap (values (glyph_at b.line p.left).glyph_id) (sym (ap (λ (g : hb_glyph_info_t). g.glyph_id) (within p.right there.right right_is right_low).same))

      end_is : min (there.right + 1) (length w.line) ≡ q + (p.right + 1)
      end_is = omega (arith, right_is, right_low, longer)

      part_end : min (p.right + 1) (length b.line) ≡ p.right + 1
      part_end = omega (arith, right_low, long)

      marked : IsWithin q n (on_long_span break_marked there.left (min (there.right + 1) (length w.line)) w.line) (on_long_span break_marked p.left (min (p.right + 1) (length b.line)) b.line)
      marked =
          subst (λ (l : ℕ). IsWithin q n (on_long_span break_marked l (min (there.right + 1) (length w.line)) w.line) (on_long_span break_marked p.left (min (p.right + 1) (length b.line)) b.line)) (sym left_is)
          (subst (λ (e : ℕ). IsWithin q n (on_long_span break_marked (q + p.left) e w.line) (on_long_span break_marked p.left (min (p.right + 1) (length b.line)) b.line)) (sym end_is)
          (subst (λ (e : ℕ). IsWithin q n (on_long_span break_marked (q + p.left) (q + (p.right + 1)) w.line) (on_long_span break_marked p.left e b.line)) (sym part_end)
          (long_span_within q n w.line b.line within long longer p.left (p.right + 1) (omega (arith, right_low)))))

      by : (t : Bool) → IsWithin q n (cond t w (unsafe_to_break (in_stream there (value_at values w.line there) w) (Some there.left) (Some (there.right + 1)))).line
          (cond t b (unsafe_to_break (in_stream p (value_at values b.line p) b) (Some p.left) (Some (p.right + 1)))).line
      by true = within
      by false = marked

module _ (skips q n : ℕ) where
  -- more marks of the whole line
  whole_marked : (whole first second more : Glyphs) → AreInTwo skips q n whole first second → IsMarkedLine whole more → AreInTwo skips q n more first second
  whole_marked whole first second more two marked = record {
    short = two.short;
    rest = two.rest;
    some = two.some;
    long = AllZip-long IsMarkedFrom whole more marked ∙ two.long;
    solid = ap (is_solid skips) (marked_at whole more marked q).2 ∙ two.solid;
    front = λ i k at inside. calmer_marked (glyph_at whole k) (glyph_at first i) (glyph_at more k) (two.front i k at inside) (marked_at whole more marked k);
    back = λ i k at inside. calmer_marked (glyph_at whole k) (glyph_at second i) (glyph_at more k) (two.back i k at inside) (marked_at whole more marked k);
  }

  -- a pair of the first part, and of the second
  front_kerned : (values : PairValues) (p : Pair) (w f : Buffer) (second : Glyphs) → p.left < q → p.right < q → AreInTwo skips q n w.line f.line second
      → AreInTwo skips q n (kerned false values p w).line (kerned false values p f).line second
  front_kerned values p w f second left_low right_low two =
      let more = whole_marked w.line f.line second (kerned false values p w).line two (of_pair false values p w).line in
      let long = two.long in
      record {
        short = AllZip-long IsMarkedFrom f.line (kerned false values p f).line (of_pair false values p f).line ∙ two.short;
        rest = two.rest;
        some = two.some;
        long = more.long;
        solid = more.solid;
        front = kerned_within 0 q values p p (omega arith) (omega arith) left_low right_low w f two.short (omega (arith, long)) two.front;
        back = more.back;
      }

  back_kerned : (values : PairValues) (p : Pair) (w s : Buffer) (first : Glyphs) → p.left < n → p.right < n → AreInTwo skips q n w.line first s.line
      → AreInTwo skips q n (kerned false values (shifted q p) w).line first (kerned false values p s).line
  back_kerned values p w s first left_low right_low two =
      let more = whole_marked w.line first s.line (kerned false values (shifted q p) w).line two (of_pair false values (shifted q p) w).line in
      let long = two.long in
      record {
        short = two.short;
        rest = AllZip-long IsMarkedFrom s.line (kerned false values p s).line (of_pair false values p s).line ∙ two.rest;
        some = two.some;
        long = more.long;
        solid = more.solid;
        front = more.front;
        back = kerned_within q n values (shifted q p) p refl refl left_low right_low w s two.rest (omega (arith, long)) two.back;
      }

  front_pairs : (values : PairValues) (ps : List Pair) (w f : Buffer) (second : Glyphs) → AllBefore q ps → AreInTwo skips q n w.line f.line second
      → AreInTwo skips q n (by_pairs false values w ps).line (by_pairs false values f ps).line second
  front_pairs values [] w f second before two = two
  front_pairs values (p ∷ ps) w f second before two =
      front_pairs values ps (kerned false values p w) (kerned false values p f) second before.1
      (front_kerned values p w f second before.0.0 before.0.1 two)

  back_pairs : (values : PairValues) (ps : List Pair) (w s : Buffer) (first : Glyphs) → AllBefore n ps → AreInTwo skips q n w.line first s.line
      → AreInTwo skips q n (by_pairs false values w (map (shifted q) ps)).line first (by_pairs false values s ps).line
  back_pairs values [] w s first before two = two
  back_pairs values (p ∷ ps) w s first before two =
      back_pairs values ps (kerned false values (shifted q p) w) (kerned false values p s) first before.1
      (back_kerned values p w s first before.0.0 before.0.1 two)

  looks : (g h : hb_glyph_info_t) → IsCalmer g h → LooksLike skips 8 g h
  looks g h c = record {
    id = ap (λ (x : hb_glyph_info_t). x.glyph_id) c.same;
    solid = ap (is_solid skips) c.same;
    asks = c.asks;
  }

  -- all pairs of the whole, and those of the parts
  pairs_in_two : (values : PairValues) (w f s : Buffer) → AreInTwo skips q n w.line f.line s.line
      → AreInTwo skips q n (pair_kerning skips 8 false values w).line (pair_kerning skips 8 false values f).line (pair_kerning skips 8 false values s).line
  unfolding pair_kerning
  pairs_in_two values w f s two =
      let count : n ≡ suc (n - 1) = suc_of n two.some in
      let all : pairs_of skips 8 w.line ≡ ps ++ cons_option over (map (shifted q) rs) =
      pairs_cut skips 8 q (n - 1) w.line f.line s.line (two.long ∙ ap (λ m. q + m) count) two.short (two.rest ∙ count) two.solid
      (λ i low. looks (glyph_at w.line i) (glyph_at f.line i) (two.front i i (omega arith) low))
      (λ i. by_inside i (cases_lt i n)) in
      subst (λ (xs : List Pair). AreInTwo skips q n (by_pairs false values w xs).line (by_pairs false values f ps).line (by_pairs false values s rs).line) (sym all)
      (subst (λ (x : Buffer). AreInTwo skips q n x.line (by_pairs false values f ps).line (by_pairs false values s rs).line)
      (sym (fold-append (λ (d : Buffer) (p : Pair). kerned false values p d) w ps (cons_option over (map (shifted q) rs))))
      (by_over over))
    where
      ps : List Pair
      ps = pairs_of skips 8 f.line

      rs : List Pair
      rs = pairs_of skips 8 s.line

      over : Option Pair
      over = pair_at skips 8 w.line q

      by_inside : (i : ℕ) → ((i < n) ⊎ (n ≤ i)) → LooksLike skips 8 (glyph_at w.line (q + i)) (glyph_at s.line i)
      by_inside i (inl low) = looks (glyph_at w.line (q + i)) (glyph_at s.line i) (two.back i (q + i) refl low)
      by_inside i (inr high) =
          let long = two.long in
          let rest = two.rest in
          looks (glyph_at w.line (q + i)) (glyph_at s.line i)
          (calmer_same (glyph_at w.line (q + i)) (glyph_at s.line i)
          (get_or_past s.line i no_glyph (omega (arith, high, rest)) ∙ sym (get_or_past w.line (q + i) no_glyph (omega (arith, high, long)))))

      front : AreInTwo skips q n (by_pairs false values w ps).line (by_pairs false values f ps).line s.line
      front = front_pairs values ps w f s.line (pairs_within skips 8 q f.line two.short) two

      by_over : (o : Option Pair) → AreInTwo skips q n (by_pairs false values (by_pairs false values w ps) (cons_option o (map (shifted q) rs))).line (by_pairs false values f ps).line (by_pairs false values s rs).line
      by_over None = back_pairs values rs (by_pairs false values w ps) s (by_pairs false values f ps).line (pairs_within skips 8 n s.line two.rest) front
      by_over (Some p) =
          let before : Buffer = by_pairs false values w ps in
          back_pairs values rs (kerned false values p before) s (by_pairs false values f ps).line (pairs_within skips 8 n s.line two.rest)
          (whole_marked before.line (by_pairs false values f ps).line s.line (kerned false values p before).line front (of_pair false values p before).line)

-- buffers of one direction that ask for no marks against joining
pub record IsPlainText (d : Direction) (b : Buffer) : Type 0 where
  pub direction : b.direction ≡ d
  pub flags : produces_concat b.flags ≡ false

-- a line and its parts, as buffers
pub record AreTexts (skips q n : ℕ) (d : Direction) (whole first second : Buffer) : Type 0 where
  pub lines : AreInTwo skips q n whole.line first.line second.line
  pub whole_text : IsPlainText d whole
  pub first_text : IsPlainText d first
  pub second_text : IsPlainText d second

pub unmarked : (d : Direction) (b : Buffer) → IsPlainText d b → unsafe_to_concat b None None ≡ b
unmarked d b text =
    ap (λ (t : Bool). with_line b (cond (t && nat_lt 0 (min (length b.line) (length b.line))) (on_span concat_marked 0 (min (length b.line) (length b.line)) b.line) b.line)) text.flags

line_unmarked : (asked : Bool) (d : Direction) (b : Buffer) → IsPlainText d b → line_marked asked b ≡ b
line_unmarked true d b text = unmarked d b text
line_unmarked false d b text = refl

pub text_kept : (d : Direction) (old new : Buffer) → IsKernedFrom old new → IsPlainText d old → IsPlainText d new
text_kept d old new kerned text = record {
  direction = kerned.text.settings.direction ∙ text.direction;
  flags = ap produces_concat kerned.text.settings.flags ∙ text.flags;
}

-- a subtable of pairs
pub pair_texts : (skips q n : ℕ) (d : Direction) (asked : Bool) (values : PairValues) (w f s : Buffer) → AreTexts skips q n d w f s
    → AreTexts skips q n d (pair_kerning skips 8 false values (line_marked asked w)) (pair_kerning skips 8 false values (line_marked asked f)) (pair_kerning skips 8 false values (line_marked asked s))
pair_texts skips q n d asked values w f s texts =
    let kern : Buffer → Buffer = λ b. pair_kerning skips 8 false values b in
    let whole = line_unmarked asked d w texts.whole_text in
    let first = line_unmarked asked d f texts.first_text in
    let second = line_unmarked asked d s texts.second_text in
    record {
      lines =
          subst (λ (x : Buffer). AreInTwo skips q n (kern x).line (kern (line_marked asked f)).line (kern (line_marked asked s)).line) (sym whole)
          (subst (λ (x : Buffer). AreInTwo skips q n (kern w).line (kern x).line (kern (line_marked asked s)).line) (sym first)
          (subst (λ (x : Buffer). AreInTwo skips q n (kern w).line (kern f).line (kern x).line) (sym second)
          (pairs_in_two skips q n values w f s texts.lines)));
      whole_text = text_kept d w (kern (line_marked asked w)) (of_pair_kerning skips 8 false values asked w) texts.whole_text;
      first_text = text_kept d f (kern (line_marked asked f)) (of_pair_kerning skips 8 false values asked f) texts.first_text;
      second_text = text_kept d s (kern (line_marked asked s)) (of_pair_kerning skips 8 false values asked s) texts.second_text;
    }
