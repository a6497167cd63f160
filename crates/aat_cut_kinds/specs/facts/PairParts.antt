-- Kerning by pairs keeps parts of a line, where no pair over the cut has a value.
use Rattle.std.proofs.Common.{◌≡◌, ◌∙◌, ℕ, suc, ◌+◌, ◌-◌, ◌<◌, ◌&&◌, ◌||◌, ◌==◌, not, ℤ, pos, Bool, true, false, cond, List, [], ◌∷◌, ◌++◌, length, map, take, drop, fold, bit_and, Option, Some, None, refl, ap, sym, arith}
use Rattle.std.proofs.Math.Seq.{drop-append_seam, take-append_seam}
use Rattle.std.proofs.lemmas.Bool.{and_parts}
use Rattle.std.proofs.lemmas.List.{take-append-drop}
use Rattle.std.proofs.lemmas.List.Sums.{fold-append}
use Rattle.std.proofs.lemmas.Slice.Zip.{AllZip-long}
use Rattle.std.specs.List.{AllZip, cons_option}
use Rattle.std.specs.Ordering.{int_eq}
use Rattle.aat_buffer.specs.Buffer.{Buffer, glyph_at, no_glyph, position_list}
use Rattle.aat_buffer.specs.Marks.{unsafe_to_break, unsafe_to_concat}
use Rattle.aat_buffer.specs.facts.Cases.{either}
use Rattle.aat_glyph.specs.Directions.{is_horizontal}
use Rattle.aat_glyph.specs.declared.glyph.GlyphPosition.{GlyphPosition}
use Rattle.aat_glyph.specs.declared.glyph.hb_glyph_info_t.{hb_glyph_info_t}
use Rattle.aat_kerning_machines.specs.KerningLaws.{IsKernedFrom, IsMarkedFrom}
use Rattle.aat_run.specs.Budget.{operations_left}
use Rattle.aat_kerning.specs.PairKerning.{PairValues, cross_stream, in_stream, kerned, pair_kerning}
use Rattle.aat_kerning.specs.Pairs.{Pair, is_solid, pair_at, pairs_of}
use Rattle.aat_kerning.specs.Positioning.{line_marked}
use Rattle.aat_kerning.proofs.Changes.{of_marked, of_pairs}
use Rattle.aat_kerning.proofs.CutMarks.{meets_as_before}
use Rattle.aat_kerning.proofs.CutMoves.{back_moves, back_stays, fold_front, fold_front_off, fold_rest, fold_rest_off, front_moves, front_stays, moved_by, moves, pairs_move, value_at}
use Rattle.aat_kerning.proofs.CutPairs.{AllBefore, LooksLike, pairs_cut, pairs_within, shifted}
use Rattle.aat_cut_kinds.specs.KernedTables.{by_pairs, marking}
use Rattle.aat_cut_kinds.specs.KerningClosing.{is_none_or}
use Rattle.aat_cut_kinds.specs.KerningCuts.{KeepsParts, Seen, StandIn, seen_of}
use Rattle.aat_cut_kinds.specs.facts.KernedInOrder.{long_whole}
use Rattle.aat_cut_kinds.specs.facts.KerningParts.{in_back, in_front}

module _ (kern_mask : ℕ) (free : bit_and kern_mask 7 ≡ 0) where
  seen_marked : (g h : hb_glyph_info_t) → IsMarkedFrom g h → seen_of kern_mask h ≡ seen_of kern_mask g
  seen_marked g h m =
      ap (seen_of kern_mask) m.2
      ∙ ap (λ (t : Bool). record { id = g.glyph_id; glyph_props = g.glyph_props; unicode_props = g.unicode_props; asked = t }) (meets_as_before g.mask m.0 kern_mask m.1 free)

  seen_kept : (gs hs : List hb_glyph_info_t) → AllZip IsMarkedFrom gs hs → map (seen_of kern_mask) hs ≡ map (seen_of kern_mask) gs
  seen_kept [] [] h = refl
  seen_kept [] (y ∷ ys) h = absurd h
  seen_kept (x ∷ xs) [] h = absurd h
  seen_kept (x ∷ xs) (y ∷ ys) h = rw (seen_marked x y h.0, seen_kept xs ys h.1) refl

  -- what kerning changes keeps parts in a line, where it keeps their positions
  pub stand_after :
      (q : ℕ) (w f g v u t : Buffer) → StandIn kern_mask q w f g → IsKernedFrom w v → IsKernedFrom f u → IsKernedFrom g t
      → position_list v ≡ position_list u ++ position_list t → StandIn kern_mask q v u t
  stand_after q w f g v u t h whole front back positions = record {
    front_direction = front.text.settings.direction ∙ (h.front_direction ∙ sym whole.text.settings.direction);
    back_direction = back.text.settings.direction ∙ (h.back_direction ∙ sym whole.text.settings.direction);
    front_length = (AllZip-long IsMarkedFrom f.line u.line front.line) ∙ h.front_length;
    glyphs = seen_kept w.line v.line whole.line ∙ (h.glyphs ∙ (ap (λ l. l ++ map (seen_of kern_mask) g.line) (sym (seen_kept f.line u.line front.line)) ∙ ap (λ l. map (seen_of kern_mask) u.line ++ l) (sym (seen_kept g.line t.line back.line))));
    positions = positions;
    front_placed = front.text.positions ∙ (h.front_placed ∙ sym (AllZip-long IsMarkedFrom f.line u.line front.line));
    back_placed = back.text.positions ∙ (h.back_placed ∙ sym (AllZip-long IsMarkedFrom g.line t.line back.line));
  }

-- marks
pub marking_keeps_parts : (asked : Bool) (kern_mask : ℕ) → bit_and kern_mask 7 ≡ 0 → KeepsParts kern_mask (marking asked)
marking_keeps_parts asked kern_mask free = record {
  direction = λ b. (of_marked asked b).text.settings.direction;
  long = λ b. (AllZip-long IsMarkedFrom b.line (line_marked asked b).line (of_marked asked b).line);
  spends = λ b. (of_marked asked b).budget;
  parts = λ q least w f g h behind inside opens some lasts enough. (
    stand_after kern_mask free q w f g (line_marked asked w) (line_marked asked f) (line_marked asked g) h (of_marked asked w) (of_marked asked f) (of_marked asked g)
        (list_kept w ∙ (h.positions ∙ (ap (λ ps. ps ++ position_list g) (sym (list_kept f)) ∙ ap (λ ps. position_list (line_marked asked f) ++ ps) (sym (list_kept g))))),
    record {
      front = (let a = budget_kept w in let b = budget_kept f in omega (arith, a, b, enough.front));
      back = (let a = budget_kept w in let b = budget_kept g in omega (arith, a, b, enough.back));
    },
  );
}
  where
    list_kept : (b : Buffer) → position_list (line_marked asked b) ≡ position_list b
    list_kept b = either position_list asked (unsafe_to_concat b None None) b (position_list b) refl refl

    budget_kept : (b : Buffer) → operations_left (line_marked asked b).max_ops ≡ operations_left b.max_ops
    budget_kept b = either (λ (x : Buffer). operations_left x.max_ops) asked (unsafe_to_concat b None None) b (operations_left b.max_ops) refl refl

-- pairs are not paid for
kerned_budget : (is_cross : Bool) (values : PairValues) (p : Pair) (b : Buffer) → (kerned is_cross values p b).max_ops ≡ b.max_ops
unfolding kerned
kerned_budget is_cross values p b =
    by_tests (int_eq (values (glyph_at b.line p.left).glyph_id (glyph_at b.line p.right).glyph_id) (pos 0)) is_cross
    (values (glyph_at b.line p.left).glyph_id (glyph_at b.line p.right).glyph_id)
  where
    by_tests : (t c : Bool) (v : ℤ) → (cond t b (unsafe_to_break (cond c (cross_stream p v b) (in_stream p v b)) (Some p.left) (Some (p.right + 1)))).max_ops ≡ b.max_ops
    by_tests true c v = refl
    by_tests false true v = refl
    by_tests false false v = refl

pairs_budget : (is_cross : Bool) (values : PairValues) (ps : List Pair) (b : Buffer) → (fold (λ d p. kerned is_cross values p d) b ps).max_ops ≡ b.max_ops
pairs_budget is_cross values [] b = refl
pairs_budget is_cross values (p ∷ ps) b = pairs_budget is_cross values ps (kerned is_cross values p b) ∙ kerned_budget is_cross values p b

module _ (skips kern_mask : ℕ) (free : bit_and kern_mask 7 ≡ 0) (is_cross : Bool) (values : PairValues) where
  of_all : (b : Buffer) → IsKernedFrom b (pair_kerning skips kern_mask is_cross values b)
  unfolding pair_kerning
  of_all b = of_pairs is_cross values (pairs_of skips kern_mask b.line) b

  budget : (b : Buffer) → operations_left (pair_kerning skips kern_mask is_cross values b).max_ops ≡ operations_left b.max_ops
  unfolding pair_kerning
  budget b = ap operations_left (pairs_budget is_cross values (pairs_of skips kern_mask b.line) b)

  -- two glyphs that are seen alike
  solid_of : Seen → Bool
  solid_of s = (bit_and s.glyph_props skips == 0) && ((bit_and s.unicode_props 0x20 == 0) || not (bit_and s.glyph_props 0x10 == 0))

  looks : (g h : hb_glyph_info_t) → seen_of kern_mask g ≡ seen_of kern_mask h → LooksLike skips kern_mask g h
  unfolding solid_of
  looks g h same = record {
    id = sym (ap (λ (s : Seen). s.id) same);
    solid = sym (ap solid_of same);
    asks = sym (ap (λ (s : Seen). s.asked) same);
  }

  -- glyphs of parts look like those of the line
  module _ (q : ℕ) (w f g : Buffer) (h : StandIn kern_mask q w f g) where
    pub front_looks : (i : ℕ) → i < q → LooksLike skips kern_mask (glyph_at w.line i) (glyph_at f.line i)
    front_looks i low = looks (glyph_at w.line i) (glyph_at f.line i) (in_front (seen_of kern_mask) w.line f.line g.line h.glyphs no_glyph i (omega (arith, low, h.front_length)))

    pub back_looks : (i : ℕ) → LooksLike skips kern_mask (glyph_at w.line (q + i)) (glyph_at g.line i)
    back_looks i = looks (glyph_at w.line (q + i)) (glyph_at g.line i) (in_back (seen_of kern_mask) w.line f.line g.line h.glyphs no_glyph (q + i) i (omega (arith, h.front_length)))

  module _ (q : ℕ) (w f g : Buffer) (h : StandIn kern_mask q w f g) (behind : 0 < q) (inside : q < length w.line)
      (solid : is_solid skips (glyph_at w.line q) ≡ true)
      (none : is_none_or (pair_at skips kern_mask w.line q) (λ p. int_eq (value_at values w.line p) (pos 0)) ≡ true)
    where
      front_places : position_list f ≡ take q (position_list w)
      front_places =
          let long : length (position_list f) ≡ q = h.front_placed ∙ h.front_length in
          sym (take-append_seam (position_list f) (position_list g)) ∙ (ap (λ n. take n (position_list f ++ position_list g)) long ∙ ap (take q) (sym h.positions))

      back_places : position_list g ≡ drop q (position_list w)
      back_places =
          let long : length (position_list f) ≡ q = h.front_placed ∙ h.front_length in
          sym (drop-append_seam (position_list f) (position_list g)) ∙ (ap (λ n. drop n (position_list f ++ position_list g)) long ∙ ap (drop q) (sym h.positions))

      -- the pair over the cut moves nothing
      crossing : (o : Option Pair) (xs : List GlyphPosition) → is_none_or o (λ p. int_eq (value_at values w.line p) (pos 0)) ≡ true
          → fold (λ xs p. moves is_cross (is_horizontal w.direction) values w.line p xs) xs (pairs_of skips kern_mask f.line ++ cons_option o (map (shifted q) (pairs_of skips kern_mask g.line)))
          ≡ fold (λ xs p. moves is_cross (is_horizontal w.direction) values w.line p xs) (fold (λ xs p. moves is_cross (is_horizontal w.direction) values w.line p xs) xs (pairs_of skips kern_mask f.line)) (map (shifted q) (pairs_of skips kern_mask g.line))
      crossing None xs none = fold-append (λ xs p. moves is_cross (is_horizontal w.direction) values w.line p xs) xs (pairs_of skips kern_mask f.line) (map (shifted q) (pairs_of skips kern_mask g.line))
      crossing (Some p) xs zero_value =
          let step : List GlyphPosition → Pair → List GlyphPosition = λ xs p. moves is_cross (is_horizontal w.direction) values w.line p xs in
          let before : List GlyphPosition = fold step xs (pairs_of skips kern_mask f.line) in
          let stays : moves is_cross (is_horizontal w.direction) values w.line p before ≡ before = ap (λ t. cond t before (moved_by is_cross (is_horizontal w.direction) (value_at values w.line p) p before)) zero_value in
          fold-append step xs (pairs_of skips kern_mask f.line) (p ∷ map (shifted q) (pairs_of skips kern_mask g.line)) ∙ ap (λ ys. fold step ys (map (shifted q) (pairs_of skips kern_mask g.line))) stays

      pub pairs_in_parts : position_list (pair_kerning skips kern_mask is_cross values w) ≡ position_list (pair_kerning skips kern_mask is_cross values f) ++ position_list (pair_kerning skips kern_mask is_cross values g)
      unfolding pair_kerning
      pairs_in_parts =
          let way : Bool = is_horizontal w.direction in
          let first : List Pair = pairs_of skips kern_mask f.line in
          let second : List Pair = pairs_of skips kern_mask g.line in
          let over = pair_at skips kern_mask w.line q in
          let long = long_whole kern_mask q w f g h in
          let some_behind : length g.line ≡ suc (length g.line - 1) = omega (arith, long, inside) in
          let all : pairs_of skips kern_mask w.line ≡ first ++ cons_option over (map (shifted q) second) =
          pairs_cut skips kern_mask q (length g.line - 1) w.line f.line g.line (long ∙ ap (λ n. q + n) some_behind) h.front_length some_behind solid (front_looks q w f g h) (back_looks q w f g h) in
          let act : List GlyphPosition → Pair → List GlyphPosition = λ xs p. moves is_cross way values w.line p xs in
          let left : List GlyphPosition = fold act (position_list w) first in
          let ends : position_list (fold (λ d p. kerned is_cross values p d) w (pairs_of skips kern_mask w.line)) ≡ fold act left (map (shifted q) second) =
          pairs_move is_cross values w.line way (pairs_of skips kern_mask w.line) w (λ i. refl) refl
          ∙ (ap (λ xs. fold act (position_list w) xs) all ∙ crossing over (position_list w) none) in
          let before : AllBefore q first = pairs_within skips kern_mask q f.line h.front_length in
          let front : position_list (fold (λ d p. kerned is_cross values p d) f first) ≡ take q (fold act left (map (shifted q) second)) =
          pairs_move is_cross values f.line way first f (λ i. refl) (ap is_horizontal h.front_direction)
          ∙ (ap (λ xs. fold (λ qs p. moves is_cross way values f.line p qs) xs first) front_places
          ∙ (sym (fold_front q (moves is_cross way values w.line) (moves is_cross way values f.line)
          (front_moves q is_cross way values w.line f.line (λ i low. (front_looks q w f g h i low).id)) first (position_list w) before)
          ∙ sym (fold_rest_off q (moves is_cross way values w.line) (back_stays q is_cross way values w.line) second left))) in
          let back : position_list (fold (λ d p. kerned is_cross values p d) g second) ≡ drop q (fold act left (map (shifted q) second)) =
          pairs_move is_cross values g.line way second g (λ i. refl) (ap is_horizontal h.back_direction)
          ∙ (ap (λ xs. fold (λ qs p. moves is_cross way values g.line p qs) xs second) back_places
          ∙ (ap (λ xs. fold (λ qs p. moves is_cross way values g.line p qs) xs second)
          (sym (fold_front_off q (moves is_cross way values w.line) (front_stays q is_cross way values w.line) first (position_list w) before))
          ∙ sym (fold_rest q (moves is_cross way values w.line) (moves is_cross way values g.line)
          (back_moves q is_cross way values w.line g.line (λ i. (back_looks q w f g h i).id)) second left))) in
          ends ∙ (sym (take-append-drop q (fold act left (map (shifted q) second)))
          ∙ (ap (λ xs. xs ++ drop q (fold act left (map (shifted q) second))) (sym front) ∙ ap (λ xs. position_list (fold (λ d p. kerned is_cross values p d) f first) ++ xs) (sym back)))

  pub pairs_keep_parts : KeepsParts kern_mask (by_pairs skips kern_mask is_cross values)
  pairs_keep_parts = record {
    direction = λ b. (of_all b).text.settings.direction;
    long = λ b. (AllZip-long IsMarkedFrom b.line (pair_kerning skips kern_mask is_cross values b).line (of_all b).line);
    spends = λ b. (of_all b).budget;
    parts = λ q least w f g h behind inside opens some lasts enough. (
        let open_there = and_parts (is_solid skips (glyph_at w.line q)) (is_none_or (pair_at skips kern_mask w.line q) (λ p. int_eq (value_at values w.line p) (pos 0))) opens in (
          stand_after kern_mask free q w f g _ _ _ h (of_all w) (of_all f) (of_all g) (pairs_in_parts q w f g h behind inside open_there.0 open_there.1),
          record {
            front = (let a = budget w in let b = budget f in omega (arith, a, b, enough.front));
            back = (let a = budget w in let b = budget g in omega (arith, a, b, enough.back));
          },
        ));
  }
