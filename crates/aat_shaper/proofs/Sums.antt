-- What was summed up of what is drawn, one glyph more, and a stretch that is put together.
use Rattle.std.proofs.Common.{◌≡◌, ◌∙◌, ap, refl, subst, sym, ℕ, ℤ, suc, ◌+◌, ◌-◌, ◌<◌, ◌≤◌, ◌+ℤ◌, ◌≤ℤ◌, pos, negsuc, true, List, [], ◌∷◌, ◌++◌, Option, None, Some, arith, drop, get_or, length, take}
use Rattle.std.proofs.Math.Seq.{take-add}
use Rattle.std.proofs.lemmas.Bool.{lt-ltb}
use Rattle.std.proofs.lemmas.Int.{ints}
use Rattle.std.proofs.lemmas.List.{drop-drop, drop_more}
use Rattle.std.proofs.lemmas.List.Sums.{fold-append, fold_push}
use Rattle.std.specs.Prelude.{fold, nat_lt, slice_range}
use Rattle.aat_buffer.proofs.Spans.{range_more}
use Rattle.aat_shaped_text.specs.Parts.{no_shaped_glyph}
use Rattle.aat_shaped_text.specs.declared.text.ShapedGlyph.{ShapedGlyph}
use Rattle.aat_shaper.specs.Lines.{Paragraph, room_of}
use Rattle.aat_shaper.specs.declared.lines.filling.Filling.{Filling}
use Rattle.aat_shaper.specs.declared.lines.width.Summed.{Summed}
use Rattle.aat_shaper.specs.inside.Filling.{HangsFrom, IsSummed, paragraph_of, room_of_all}

-- a range in two parts
range_parts :
    {X : Type 0} (xs : List X) (a b c : ℕ) → a ≤ b → b ≤ c
    → slice_range xs a c ≡ slice_range xs a b ++ slice_range xs b c
range_parts xs a b c low high =
    let whole : c - a ≡ (b - a) + (c - b) = omega arith in
    let at : a + (b - a) ≡ b = omega arith in
    ap (λ n. take n (drop a xs)) whole
    ∙ (take-add (b - a) (c - b) (drop a xs)
    ∙ ap (λ ys. slice_range xs a b ++ take (c - b) ys) (drop-drop (b - a) a xs ∙ ap (λ n. drop n xs) at))

-- a range that begins one place earlier
range_less :
    {X : Type 0} (xs : List X) (i t : ℕ) (d : X) → i < t → t ≤ length xs
    → slice_range xs i t ≡ get_or xs i d ∷ slice_range xs (i + 1) t
range_less xs i t d low high =
    let count : t - i ≡ suc (t - (i + 1)) = omega arith in
    ap (λ n. take n (drop i xs)) count ∙ ap (take (suc (t - (i + 1)))) (drop_more xs i d (omega (arith, low, high)))

-- the room of glyphs, added to some
room_from :
    (p : Paragraph) (hang : Option ℕ) (z : ℤ) (glyphs : List ShapedGlyph)
    → fold (λ s g. s +ℤ room_of p hang g) z glyphs ≡ z +ℤ room_of_all p hang glyphs
room_from p hang z [] = omega (arith, ints)
room_from p hang z (g ∷ glyphs) =
    let more = room_from p hang (z +ℤ room_of p hang g) glyphs in
    let from = room_from p hang (pos 0 +ℤ room_of p hang g) glyphs in
    more
    ∙ (regrouped z (room_of p hang g) (room_of_all p hang glyphs) ∙ ap (λ (y : ℤ). z +ℤ y) (sym from))
  where
    regrouped : (a b c : ℤ) → (a +ℤ b) +ℤ c ≡ a +ℤ ((pos 0 +ℤ b) +ℤ c)
    regrouped a b c = omega (arith, ints)

room_parts :
    (p : Paragraph) (hang : Option ℕ) (xs ys : List ShapedGlyph)
    → room_of_all p hang (xs ++ ys) ≡ room_of_all p hang xs +ℤ room_of_all p hang ys
room_parts p hang xs ys =
    fold-append (λ s g. s +ℤ room_of p hang g) (pos 0) xs ys ∙ room_from p hang (room_of_all p hang xs) ys

-- a glyph of a cluster before those that hang
room_before :
    (p : Paragraph) (c : ℕ) (hang : Option ℕ) (g : ShapedGlyph) → g.cluster < c → HangsFrom c hang
    → room_of p hang g ≡ room_of p None g
room_before p c None g low from = refl
room_before p c (Some h) g low from =
    let before : nat_lt g.cluster h ≡ true = lt-ltb g.cluster h (omega (arith, low, from)) in
    rw before refl

-- what hangs from a cluster on hangs from an earlier one on
hangs_from_earlier : (a b : ℕ) (hang : Option ℕ) → a ≤ b → HangsFrom b hang → HangsFrom a hang
hangs_from_earlier a b None le from = tt
hangs_from_earlier a b (Some h) le from = omega (arith, le, from)

rotated : (a b : ℤ) → a +ℤ b ≡ (pos 0 +ℤ b) +ℤ a
rotated a b = omega (arith, ints)

-- the same, told in other words
pub summed_same :
    (f : Filling) (s t : Summed) → IsSummed f s → s.from ≡ t.from → s.to ≡ t.to → s.sum ≡ t.sum → s.past ≡ t.past
    → IsSummed f t
summed_same f s t known from to sum past = record {
  order = omega (arith, known.order, from, to);
  within = omega (arith, known.within, to);
  sum = λ hang hangs.
      sym sum
      ∙ (known.sum hang (subst (λ (c : ℕ). HangsFrom c hang) (sym past) hangs)
      ∙ (ap (λ (n : ℕ). room_of_all (paragraph_of f) hang (slice_range f.whole.now n s.to)) from
      ∙ ap (λ (n : ℕ). room_of_all (paragraph_of f) hang (slice_range f.whole.now t.from n)) to));
  low = omega (arith, ints, known.low, from, to, sum);
  high = omega (arith, ints, known.high, from, to, sum);
}

module _ (f : Filling) (s : Summed) (known : IsSummed f s) where
  -- of glyphs of earlier clusters
  pub summed_past : (past : ℕ) → s.past ≤ past → IsSummed f (record s { past = past })
  summed_past past le = record {
    order = known.order;
    within = known.within;
    sum = λ hang from. known.sum hang (hangs_from_earlier s.past past hang le from);
    low = known.low;
    high = known.high;
  }

  -- one glyph more behind it
  pub summed_behind :
      (room sum : ℤ) → s.to < length f.whole.now → (get_or f.whole.now s.to no_shaped_glyph).cluster < s.past
      → room ≡ room_of (paragraph_of f) None (get_or f.whole.now s.to no_shaped_glyph) → negsuc 0x7FFF_FFFF ≤ℤ room
      → room ≤ℤ pos 0x7FFF_FFFF → sum ≡ s.sum +ℤ room → IsSummed f (record s { to = s.to + 1; sum = sum })
  summed_behind room sum inside before is least most total =
      let p = paragraph_of f in
      let g = get_or f.whole.now s.to no_shaped_glyph in
      let part = slice_range f.whole.now s.from s.to in
      let more : s.to + 1 - s.from ≡ (s.to - s.from) + 1 = omega (arith, known.order) in
      record {
        order = omega (arith, known.order);
        within = omega (arith, inside);
        sum = λ hang from.
            total
            ∙ (ap (λ (z : ℤ). z +ℤ room) (known.sum hang from)
            ∙ (ap (λ (z : ℤ). room_of_all p hang part +ℤ z) (is ∙ sym (room_before p s.past hang g before from))
            ∙ (sym (fold_push (λ z x. z +ℤ room_of p hang x) (pos 0) part g)
            ∙ ap (room_of_all p hang) (sym (range_more f.whole.now s.from s.to no_shaped_glyph known.order inside)))));
        low = omega (arith, ints, known.low, more, least, total);
        high = omega (arith, ints, known.high, more, most, total);
      }

  -- one glyph more before it
  pub summed_before :
      (i : ℕ) (room sum : ℤ) → i + 1 ≡ s.from → (get_or f.whole.now i no_shaped_glyph).cluster < s.past
      → room ≡ room_of (paragraph_of f) None (get_or f.whole.now i no_shaped_glyph) → negsuc 0x7FFF_FFFF ≤ℤ room
      → room ≤ℤ pos 0x7FFF_FFFF → sum ≡ s.sum +ℤ room → IsSummed f (record s { from = i; sum = sum })
  summed_before i room sum next before is least most total =
      let p = paragraph_of f in
      let g = get_or f.whole.now i no_shaped_glyph in
      let part = slice_range f.whole.now s.from s.to in
      let more : s.to - i ≡ (s.to - s.from) + 1 = omega (arith, known.order, next) in
      let longer : slice_range f.whole.now i s.to ≡ g ∷ part =
      range_less f.whole.now i s.to no_shaped_glyph (omega (arith, next, known.order)) known.within
      ∙ ap (λ (n : ℕ). g ∷ slice_range f.whole.now n s.to) next
      in
      record {
        order = omega (arith, known.order, next);
        within = known.within;
        sum = λ hang from.
            total
            ∙ (ap (λ (z : ℤ). z +ℤ room) (known.sum hang from)
            ∙ (ap (λ (z : ℤ). room_of_all p hang part +ℤ z) (is ∙ sym (room_before p s.past hang g before from))
            ∙ (rotated (room_of_all p hang part) (room_of p hang g)
            ∙ (sym (room_from p hang (pos 0 +ℤ room_of p hang g) part) ∙ ap (room_of_all p hang) (sym longer)))));
        low = omega (arith, ints, known.low, more, least, total);
        high = omega (arith, ints, known.high, more, most, total);
      }

  -- a stretch that it is a part of
  pub summed_within :
      (hang : Option ℕ) (from to : ℕ) (before behind : ℤ) → HangsFrom s.past hang → from ≤ s.from → s.to ≤ to
      → before ≡ room_of_all (paragraph_of f) hang (slice_range f.whole.now from s.from)
      → behind ≡ room_of_all (paragraph_of f) hang (slice_range f.whole.now s.to to)
      → (before +ℤ s.sum) +ℤ behind ≡ room_of_all (paragraph_of f) hang (slice_range f.whole.now from to)
  summed_within hang from to before behind hangs low high is_before is_behind =
      let p = paragraph_of f in
      let xs = f.whole.now in
      let front = slice_range xs from s.from in
      let part = slice_range xs s.from s.to in
      let rest = slice_range xs s.to to in
      let parts : slice_range xs from to ≡ (front ++ part) ++ rest =
      range_parts xs from s.to to (omega (arith, low, known.order)) high
      ∙ ap (λ ys. ys ++ rest) (range_parts xs from s.from s.to low known.order)
      in
      ap (λ (z : ℤ). (z +ℤ s.sum) +ℤ behind) is_before
      ∙ (ap (λ (z : ℤ). (room_of_all p hang front +ℤ z) +ℤ behind) (known.sum hang hangs)
      ∙ (ap (λ (z : ℤ). (room_of_all p hang front +ℤ room_of_all p hang part) +ℤ z) is_behind
      ∙ (ap (λ (z : ℤ). z +ℤ room_of_all p hang rest) (sym (room_parts p hang front part))
      ∙ (sym (room_parts p hang (front ++ part) rest) ∙ ap (room_of_all p hang) (sym parts)))))
