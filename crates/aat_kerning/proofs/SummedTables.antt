-- Kerning by all subtables of pairs in the stream changes the sum of the advances by the sums of their values.
use Rattle.std.proofs.Common.{◌≡◌, ℕ, ◌+◌, ◌&&◌, ◌||◌, not, Bool, true, false, cond, List, [], ◌∷◌, length, map, fold, ℤ, pos, ◌+ℤ◌, Option, Some, None, All, FitsSigned, unwrap_or, bit_and, refl, sym, ap, ◌∙◌, arith, subst, true≢false, reverse}
use Rattle.std.specs.Prelude.{option_map, filter_map}
use Rattle.std.specs.Int.{int_wrap, w32}
use Rattle.std.proofs.lemmas.Int.{ints, int_wrap-add_same}
use Rattle.std.proofs.lemmas.List.{length-reverse, reverse-append}
use Rattle.std.proofs.lemmas.List.Elements.{All-head, All-push, All-tail}
use Rattle.std.proofs.lemmas.List.Sums.{fold_push}
use Rattle.std.proofs.lemmas.Slice.Zip.{AllZip-long}
use Rattle.std.proofs.lemmas.List.Elements.{All-weaker}
use Rattle.aat_buffer.specs.Buffer.{Buffer, glyph_at, position_list, reversed}
use Rattle.aat_buffer.specs.Marks.{unsafe_to_concat}
use Rattle.aat_kerning_tables.specs.AnchorPoints.{Points}
use Rattle.aat_kerning_tables.specs.declared.kern.KernKind.{KernKind}
use Rattle.aat_kerning_tables.specs.declared.kern.KernKind.TheVariants as kind
use Rattle.aat_kerning_tables.specs.declared.kern.KernSubtable.{KernSubtable}
use Rattle.aat_kerning_tables.specs.declared.kerx.KerxFormat.{KerxFormat}
use Rattle.aat_kerning_tables.specs.declared.kerx.KerxFormat.TheVariants.{Format0, Format1, Format2, Format2Classes, Format4, Format6, Format6Classes}
use Rattle.aat_kerning_tables.specs.declared.kerx.KerxSubtable.{KerxSubtable}
use Rattle.aat_glyph.specs.Directions.{is_backward, is_horizontal}
use Rattle.aat_glyph.specs.declared.glyph.Direction.{Direction}
use Rattle.aat_glyph.specs.declared.glyph.GlyphPosition.{GlyphPosition}
use Rattle.aat_glyph.specs.declared.glyph.hb_glyph_info_t.{hb_glyph_info_t}
use Rattle.aat_run.specs.Outcome.{untouched}
use Rattle.aat_kerning.specs.Advances.{advance, all_advances, all_values, kern_values, kerx_values, IsInStream, KernSumsAdvances, KerxSumsAdvances, HaveSixteenBits}
use Rattle.aat_kerning.specs.Cut.{ordered_line, ordered_positions}
use Rattle.aat_kerning_machines.specs.KerningLaws.{IsMarkedFrom}
use Rattle.aat_kerning.specs.PairKerning.{pair_kerning, PairValues, value_of}
use Rattle.aat_kerning.specs.Pairs.{Pair, kern_skips, kerx_skips, pair_at, pairs_of, places}
use Rattle.aat_kerning.specs.Positioning.{Kerning, Positioned, cursively_attached, in_processing_order, is_for_text, is_kern_pairs, is_kerx_pairs, kerning_of_kern_subtable, kern_positioning, run_of_kern_subtable, kerning_of_kerx_subtable, kerx_positioning, is_turned_round, run_turned_round, run_of_kerx_subtable, line_marked, positioned, positioning}
use Rattle.aat_kerning_machines.specs.Positions.{IsPlaced}
use Rattle.aat_kerning.proofs.Changes.{of_concat, of_marked, of_pair_kerning}
use Rattle.aat_kerning.proofs.CutHolds.{ordered_places, ordered_way, places_of_marked}
use Rattle.aat_kerning.proofs.CutMarks.{looks_as_before}
use Rattle.aat_kerning.proofs.CutMoves.{moves, pairs_move}
use Rattle.aat_kerning.proofs.CutPairs.{AllBefore, front_pairs, pairs_within}
use Rattle.aat_kerning.proofs.CutTables.{ordered_kept}
use Rattle.aat_kerning.proofs.Marked.{IsMarkedLine, line_same, line_twice, marked_at}
use Rattle.aat_kerning.proofs.Positioned.{not_for_text}
use Rattle.aat_kerning.proofs.Summed.{Fits, fits_of_pairs, sum_from, sum_of_pairs}
use Rattle.aat_kerning_tables.specs.Classes.{kerning_by_classes}
use Rattle.aat_lookup.specs.Truth.{is_alike}

-- a sum and its parts are the same in either order
sum_of_reversed : (h : Bool) (qs : List GlyphPosition) → all_advances h (reverse qs) ≡ all_advances h qs
sum_of_reversed h [] = refl
sum_of_reversed h (q ∷ qs) =
    let f : ℤ → GlyphPosition → ℤ = λ s x. s +ℤ advance h x in
    ap (all_advances h) (reverse-append (q ∷ []) qs)
    ∙ (fold_push f (pos 0) (reverse qs) q
    ∙ (ap (λ (s : ℤ). s +ℤ advance h q) (sum_of_reversed h qs) ∙ sym (sum_from (advance h) (pos 0) (advance h q) qs)))

fits_of_reversed : (h : Bool) (qs : List GlyphPosition) → Fits h qs → Fits h (reverse qs)
fits_of_reversed h [] fits = fits
fits_of_reversed h (q ∷ qs) fits =
    let P : GlyphPosition → Type 0 = λ x. FitsSigned w32 (advance h x) in
    let rest = fits_of_reversed h qs (All-tail P q qs fits) in
    subst (Fits h) (sym (reverse-append (q ∷ []) qs)) (All-push P (reverse qs) q rest (All-head P q qs fits))

reversed_list : (b : Buffer) → position_list (reversed b) ≡ reverse (position_list b)
reversed_list b = by_places b.positions
  where
    by_places : (o : Option (List GlyphPosition)) → unwrap_or (option_map reverse o) [] ≡ reverse (unwrap_or o [])
    by_places None = refl
    by_places (Some qs) = refl

ordered_sum : (h : Bool) (b : Buffer) → all_advances h (ordered_positions b) ≡ all_advances h (position_list b)
ordered_sum h b = by_way (is_backward b.direction)
  where
    by_way : (t : Bool) → all_advances h (position_list (cond t (reversed b) b)) ≡ all_advances h (position_list b)
    by_way true = ap (all_advances h) (reversed_list b) ∙ sum_of_reversed h (position_list b)
    by_way false = refl

ordered_fits : (h : Bool) (b : Buffer) → Fits h (position_list b) → Fits h (ordered_positions b)
ordered_fits h b fits = by_way (is_backward b.direction)
  where
    by_way : (t : Bool) → Fits h (position_list (cond t (reversed b) b))
    by_way true = subst (Fits h) (sym (reversed_list b)) (fits_of_reversed h (position_list b) fits)
    by_way false = fits

ordered_long : (b : Buffer) → IsPlaced b → length (ordered_positions b) ≡ length (ordered_line b)
ordered_long b placed = by_way (is_backward b.direction)
  where
    by_way : (t : Bool) → length (position_list (cond t (reversed b) b)) ≡ length (cond t (reversed b) b).line
    by_way true =
        ap (λ (qs : List GlyphPosition). length qs) (reversed_list b)
        ∙ (length-reverse (position_list b) ∙ (placed ∙ sym (length-reverse b.line)))
    by_way false = placed

-- what is left of a line whose advances had the sum start, after values with the sum v
pub record IsSummed (turn : Direction) (glyphs : List hb_glyph_info_t) (start v : ℤ) (d : Buffer) : Type 0 where
  pub line : IsMarkedLine glyphs d.line
  pub way : d.direction ≡ turn
  pub long : length (position_list d) ≡ length glyphs
  pub fits : Fits (is_horizontal turn) (position_list d)
  pub sum : int_wrap w32 (all_advances (is_horizontal turn) (position_list d)) ≡ int_wrap w32 (start +ℤ v)

turned : (s v w : ℤ) → (s +ℤ v) +ℤ w ≡ s +ℤ (v +ℤ w)
turned s v w = omega (arith, ints)

no_more : (s : ℤ) → s ≡ s +ℤ pos 0
no_more s = omega (arith, ints)

module _ (skips kern_mask : ℕ) (free : bit_and kern_mask 7 ≡ 0) (way : Direction) (glyphs : List hb_glyph_info_t) (start : ℤ) where
  -- marks leave the pairs as they were
  same_pairs : (gs : List hb_glyph_info_t) → IsMarkedLine glyphs gs → pairs_of skips kern_mask gs ≡ pairs_of skips kern_mask glyphs
  unfolding pairs_of
  same_pairs gs marked =
      ap (λ n. filter_map (pair_at skips kern_mask gs) (places 0 n)) (AllZip-long IsMarkedFrom glyphs gs marked)
      ∙ front_pairs skips kern_mask (length glyphs) glyphs gs
      (λ i _. looks_as_before skips kern_mask (glyph_at glyphs i) (glyph_at gs i) free (marked_at glyphs gs marked i))
      (length glyphs) 0 (omega arith)

  -- one subtable of pairs
  pairs_summed :
      (values : PairValues) (asked : Bool) (v : ℤ) (d : Buffer) → HaveSixteenBits values
      → IsSummed way glyphs start v d
      → IsSummed way glyphs start (v +ℤ all_values values glyphs (pairs_of skips kern_mask glyphs))
      (pair_kerning skips kern_mask false values (line_marked asked d))
  unfolding pair_kerning
  pairs_summed values asked v d small now =
      let h = is_horizontal way in
      let e = line_marked asked d in
      let ps = pairs_of skips kern_mask glyphs in
      let qs = position_list d in
      let kept = of_pair_kerning skips kern_mask false values asked d in
      let marked = line_twice glyphs d.line e.line now.line (of_marked asked d).line in
      let moved : position_list (pair_kerning skips kern_mask false values e) ≡ fold (λ qs p. moves false h values glyphs p qs) qs ps =
      pairs_move false values glyphs h (pairs_of skips kern_mask e.line) e
      (λ i. ap (λ (g : hb_glyph_info_t). g.glyph_id) (marked_at glyphs e.line marked i).2)
      (ap is_horizontal ((of_marked asked d).text.settings.direction ∙ now.way))
      ∙ (ap (λ (xs : List Pair). fold (λ qs p. moves false h values glyphs p qs) (position_list e) xs) (same_pairs e.line marked)
      ∙ ap (λ (xs : List GlyphPosition). fold (λ qs p. moves false h values glyphs p qs) xs ps) (places_of_marked asked d)) in
      let before : AllBefore (length qs) ps = pairs_within skips kern_mask (length qs) glyphs (sym now.long) in
      record {
        line = line_twice glyphs d.line _ now.line kept.line;
        way = kept.text.settings.direction ∙ now.way;
        long = kept.text.positions ∙ now.long;
        fits = subst (Fits h) (sym moved) (fits_of_pairs h values glyphs small ps qs before now.fits);
        sum = ap (λ (xs : List GlyphPosition). int_wrap w32 (all_advances h xs)) moved
            ∙ (sum_of_pairs h values glyphs small ps qs before now.fits
            ∙ (int_wrap-add_same w32 (all_advances h qs) (start +ℤ v) (all_values values glyphs ps) now.sum
            ∙ ap (int_wrap w32) (turned start v (all_values values glyphs ps))));
      }

-- one that is for the text and not across the stream, where kerning is requested
run_alone :
    (k : Kerning) (s : Positioned) → k.has_cross_stream ≡ false → is_for_text k s.buffer ≡ true
    → (positioned true k s).buffer ≡ (k.run s.buffer).buffer
unfolding positioned
run_alone k s along inside =
    by_tests k.has_cross_stream k.is_pairs (is_for_text k s.buffer) along inside
  where
    by_tests :
        (c p t : Bool) → c ≡ false → t ≡ true
        → (cond t (record {
          buffer = (cond (p && not true) (untouched (cond (c && not s.is_attached) (cursively_attached s.buffer) s.buffer)) (k.run (cond (c && not s.is_attached) (cursively_attached s.buffer) s.buffer))).buffer;
          turns = s.turns + (cond (p && not true) (untouched (cond (c && not s.is_attached) (cursively_attached s.buffer) s.buffer)) (k.run (cond (c && not s.is_attached) (cursively_attached s.buffer) s.buffer))).turns;
          is_attached = s.is_attached || k.has_cross_stream;
        }) s).buffer ≡ (k.run s.buffer).buffer
    by_tests true p t e f = absurd (true≢false e)
    by_tests false p false e f = absurd (true≢false (sym f))
    by_tests false true true e f = refl
    by_tests false false true e f = refl

-- whether a subtable is for a text of a direction
abbrev for_way : Kerning → Direction → Bool
for_way k d = not k.variable && is_alike k.horizontal (is_horizontal d)

module _ {X : Type 0} (kerning : X → Kerning) (values_of : X → PairValues) (skips kern_mask : ℕ) (way : Direction)
    (glyphs : List hb_glyph_info_t) (start : ℤ)
    (runs : (x : X) (v : ℤ) (d : Buffer) → IsInStream (kerning x) (values_of x) → IsSummed way glyphs start v d
    → IsSummed way glyphs start (v +ℤ all_values (values_of x) glyphs (pairs_of skips kern_mask glyphs)) ((kerning x).run d).buffer)
  where
    -- the sum of a subtable's values, and the sum after one more subtable
    abbrev all_of : X → ℤ
    all_of x = all_values (values_of x) glyphs (pairs_of skips kern_mask glyphs)

    abbrev with_values : ℤ → X → ℤ
    with_values v x = v +ℤ cond (for_way (kerning x) way) (all_of x) (pos 0)

    abbrev Each : X → Type 0
    Each x = for_way (kerning x) way ≡ true → IsInStream (kerning x) (values_of x)

    one_more :
        (x : X) (s : Positioned) (v : ℤ) → Each x → IsSummed way glyphs start v s.buffer
        → IsSummed way glyphs start (with_values v x) (positioned true (kerning x) s).buffer
    one_more x s v each now =
        by_test (for_way (kerning x) way) refl (ap (for_way (kerning x)) now.way)
      where
        by_test :
            (t : Bool) → for_way (kerning x) way ≡ t → is_for_text (kerning x) s.buffer ≡ for_way (kerning x) way
            → IsSummed way glyphs start (with_values v x) (positioned true (kerning x) s).buffer
        by_test true inside same =
            let is = each inside in
            subst (λ (t : Bool). IsSummed way glyphs start (v +ℤ cond t (all_of x) (pos 0)) (positioned true (kerning x) s).buffer) (sym inside)
            (subst (IsSummed way glyphs start (v +ℤ all_of x)) (sym (run_alone (kerning x) s is.in_stream (same ∙ inside))) (runs x v s.buffer is now))
        by_test false outside same =
            subst (λ (t : Bool). IsSummed way glyphs start (v +ℤ cond t (all_of x) (pos 0)) (positioned true (kerning x) s).buffer) (sym outside)
            (subst (λ (w : ℤ). IsSummed way glyphs start w (positioned true (kerning x) s).buffer) (no_more v)
            (subst (λ (p : Positioned). IsSummed way glyphs start v p.buffer) (not_for_text true (kerning x) s (same ∙ outside)) now))

    all_more :
        (xs : List X) (s : Positioned) (v : ℤ) → All Each xs → IsSummed way glyphs start v s.buffer
        → IsSummed way glyphs start (fold with_values v xs) (fold (λ s k. positioned true k s) s (map kerning xs)).buffer
    all_more [] s v each now = now
    all_more (x ∷ xs) s v each now =
        all_more xs (positioned true (kerning x) s) (with_values v x) (All-tail Each x xs each)
        (one_more x s v (All-head Each x xs each) now)

    -- positioning as a whole
    pub positioned_sum :
        (xs : List X) (requested : Bool) (b : Buffer) → requested ≡ true → All Each xs
        → IsSummed way glyphs start (pos 0) (in_processing_order b)
        → int_wrap w32 (all_advances (is_horizontal way) (position_list (positioning requested (map kerning xs) b).buffer))
        ≡ int_wrap w32 (start +ℤ fold with_values (pos 0) xs)
    unfolding positioning
    positioned_sum xs false b asked each now = absurd (true≢false (sym asked))
    positioned_sum xs true b asked each now =
        let before : Positioned = record { buffer = in_processing_order b; turns = 0; is_attached = false } in
        let s = fold (λ s k. positioned true k s) before (map kerning xs) in
        ap (int_wrap w32) (ordered_sum (is_horizontal way) s.buffer) ∙ (all_more xs before (pos 0) each now).sum

-- at the start
at_start :
    (b whole : Buffer) → IsMarkedLine (ordered_line b) (in_processing_order whole).line
    → ordered_positions whole ≡ ordered_positions b → whole.direction ≡ b.direction → IsPlaced b
    → Fits (is_horizontal b.direction) (position_list b)
    → IsSummed b.direction (ordered_line b) (all_advances (is_horizontal b.direction) (position_list b)) (pos 0) (in_processing_order whole)
at_start b whole marked same way placed fits =
    let h = is_horizontal b.direction in
    record {
      line = marked;
      way = ordered_way whole ∙ way;
      long = ap (λ (qs : List GlyphPosition). length qs) same ∙ ordered_long b placed;
      fits = subst (Fits h) (sym same) (ordered_fits h b fits);
      sum = ap (int_wrap w32) (ap (all_advances h) same ∙ (ordered_sum h b ∙ no_more (all_advances h (position_list b))));
    }

module _ (kern_mask : ℕ) (free : bit_and kern_mask 7 ≡ 0) (way : Direction) (glyphs : List hb_glyph_info_t) (start : ℤ) where
  kerx_run_summed :
      (points : Option Points) (is_cross is_last : Bool) (tuple_count : ℕ) (format : KerxFormat) (v : ℤ) (d : Buffer)
      → is_kerx_pairs format ≡ true → is_cross ≡ false → HaveSixteenBits (kerx_values format)
      → IsSummed way glyphs start v d
      → IsSummed way glyphs start (v +ℤ all_values (kerx_values format) glyphs (pairs_of kerx_skips kern_mask glyphs))
      (run_turned_round (is_turned_round is_last format) (run_of_kerx_subtable kern_mask points is_cross tuple_count format) d).buffer
  kerx_run_summed points true is_last tuple_count format v d pairs along small now = absurd (true≢false along)
  kerx_run_summed points false is_last tuple_count (Format0 ps) v d pairs along small now =
      pairs_summed kerx_skips kern_mask free way glyphs start (value_of ps) false v d small now
  kerx_run_summed points false is_last tuple_count (Format1 s) v d pairs along small now = absurd (true≢false (sym pairs))
  kerx_run_summed points false is_last tuple_count (Format2 ps) v d pairs along small now =
      pairs_summed kerx_skips kern_mask free way glyphs start (value_of ps) true v d small now
  kerx_run_summed points false is_last tuple_count (Format2Classes ps) v d pairs along small now =
      pairs_summed kerx_skips kern_mask free way glyphs start (kerning_by_classes ps) true v d small now
  kerx_run_summed points false is_last tuple_count (Format4 s) v d pairs along small now = absurd (true≢false (sym pairs))
  kerx_run_summed points false is_last tuple_count (Format6 ps) v d pairs along small now =
      pairs_summed kerx_skips kern_mask free way glyphs start (value_of ps) false v d small now
  kerx_run_summed points false is_last tuple_count (Format6Classes ps) v d pairs along small now =
      pairs_summed kerx_skips kern_mask free way glyphs start (kerning_by_classes ps) false v d small now

  kern_run_summed :
      (is_cross : Bool) (k : KernKind) (v : ℤ) (d : Buffer)
      → is_kern_pairs k ≡ true → is_cross ≡ false → HaveSixteenBits (kern_values k)
      → IsSummed way glyphs start v d
      → IsSummed way glyphs start (v +ℤ all_values (kern_values k) glyphs (pairs_of kern_skips kern_mask glyphs))
      (run_of_kern_subtable kern_mask is_cross k d).buffer
  kern_run_summed true k v d pairs along small now = absurd (true≢false along)
  kern_run_summed false (kind.Pairs ps) v d pairs along small now =
      pairs_summed kern_skips kern_mask free way glyphs start (value_of ps) true v d small now
  kern_run_summed false (kind.Classes ps) v d pairs along small now =
      pairs_summed kern_skips kern_mask free way glyphs start (kerning_by_classes ps) true v d small now
  kern_run_summed false (kind.Machine s) v d pairs along small now = absurd (true≢false (sym pairs))

pub kerx_sums :
    (requested : Bool) (kern_mask : ℕ) (points : Option Points) (subtables : List KerxSubtable) (b : Buffer) → requested ≡ true
    → bit_and kern_mask 7 ≡ 0 → IsPlaced b
    → KerxSumsAdvances kern_mask subtables b (kerx_positioning requested kern_mask points subtables b).buffer
unfolding kerx_positioning
kerx_sums requested kern_mask points subtables b asked free placed fits each =
    let way = b.direction in
    let glyphs = ordered_line b in
    let start = all_advances (is_horizontal way) (position_list b) in
    positioned_sum (kerning_of_kerx_subtable kern_mask points) (λ (s : KerxSubtable). kerx_values s.format) kerx_skips kern_mask way glyphs start
    (λ x v d is. kerx_run_summed kern_mask free way glyphs start points x.has_cross_stream x.is_last_to_first x.tuple_count x.format v d is.pairs is.in_stream is.small)
    subtables requested (unsafe_to_concat b None None) asked
    (All-weaker (λ (x : KerxSubtable). is_for_text (kerning_of_kerx_subtable kern_mask None x) b ≡ true → IsInStream (kerning_of_kerx_subtable kern_mask None x) (kerx_values x.format))
    (λ x. is_for_text (kerning_of_kerx_subtable kern_mask points x) b ≡ true → IsInStream (kerning_of_kerx_subtable kern_mask points x) (kerx_values x.format))
    (λ x so for. let is = so for in record { pairs = is.pairs; in_stream = is.in_stream; small = is.small }) subtables each)
    (at_start b (unsafe_to_concat b None None) (ordered_kept b (unsafe_to_concat b None None) (of_concat b None None)) (ordered_places b) refl placed fits)

pub kern_sums :
    (requested : Bool) (kern_mask : ℕ) (subtables : List KernSubtable) (b : Buffer) → requested ≡ true → bit_and kern_mask 7 ≡ 0
    → IsPlaced b → KernSumsAdvances kern_mask subtables b (kern_positioning requested kern_mask subtables b).buffer
unfolding kern_positioning
kern_sums requested kern_mask subtables b asked free placed fits each =
    let way = b.direction in
    let glyphs = ordered_line b in
    let start = all_advances (is_horizontal way) (position_list b) in
    positioned_sum (kerning_of_kern_subtable kern_mask) (λ (s : KernSubtable). kern_values s.kind) kern_skips kern_mask way glyphs start
    (λ x v d is. kern_run_summed kern_mask free way glyphs start x.has_cross_stream x.kind v d is.pairs is.in_stream is.small)
    subtables requested b asked each
    (at_start b b (line_same glyphs) refl refl placed fits)
