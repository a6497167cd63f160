-- Pairs along the line attach nothing, and take nothing of the budget.
use Rattle.std.proofs.Common.{◌≡◌, ◌∙◌, refl, ℕ, zero, suc, ◌+◌, ◌-ℤ◌, Bool, true, false, cond, List, [], ◌∷◌, ◌++◌, reverse, fold, ℤ, pos}
use Rattle.std.specs.Prelude.{Option, Some, None, slice_set, slice_index_or}
use Rattle.std.specs.Ordering.{int_eq}
use Rattle.std.proofs.lemmas.Grind.{reverse_onto}
use Rattle.aat_glyph.specs.Directions.{is_backward, is_horizontal}
use Rattle.aat_glyph.specs.declared.glyph.GlyphPosition.{GlyphPosition}
use Rattle.aat_buffer.specs.Buffer.{Buffer, glyph_at, position_at, position_list, reversed, zero_position}
use Rattle.aat_buffer.specs.Marks.{unsafe_to_break}
use Rattle.aat_kerning_machines.specs.Positions.{on_position, with_advance, with_shift}
use Rattle.aat_kerning.specs.PairKerning.{PairValues, half, in_stream, kerned, pair_kerning}
use Rattle.aat_kerning.specs.Pairs.{Pair, pairs_of}
use Rattle.aat_kerning.specs.Positioning.{in_processing_order, line_marked}

-- no position is attached
abbrev pub Plain : List GlyphPosition → Type 0
Plain [] = Unit {0}
Plain (q ∷ qs) = (q.attach_type ≡ 0) × Plain qs

pub plain_at : (qs : List GlyphPosition) (i : ℕ) → Plain qs → (slice_index_or qs i zero_position).attach_type ≡ 0
plain_at [] i plain = refl
plain_at (q ∷ qs) zero plain = plain.0
plain_at (q ∷ qs) (suc i) plain = plain_at qs i plain.1

plain_set : (qs : List GlyphPosition) (i : ℕ) (q : GlyphPosition) → q.attach_type ≡ 0 → Plain qs → Plain (slice_set qs i q)
plain_set [] i q is plain = tt
plain_set (p ∷ qs) zero q is plain = (is, plain.1)
plain_set (p ∷ qs) (suc i) q is plain = (plain.0, plain_set qs i q is plain.1)

plain_push : (qs : List GlyphPosition) (q : GlyphPosition) → q.attach_type ≡ 0 → Plain qs → Plain (qs ++ q ∷ [])
plain_push [] q is plain = (is, tt)
plain_push (p ∷ qs) q is plain = (plain.0, plain_push qs q is plain.1)

pub plain_reverse : (qs : List GlyphPosition) → Plain qs → Plain (reverse qs)
plain_reverse [] plain = tt
plain_reverse (q ∷ qs) plain = rw (reverse_onto qs q []) (plain_push (reverse qs) q plain.0 (plain_reverse qs plain.1))

-- a buffer of the same direction and budget, in which nothing more is attached
pub record IsPlainFrom (b c : Buffer) : Type 0 where
  pub direction : c.direction ≡ b.direction
  pub budget : c.max_ops ≡ b.max_ops
  pub plain : Plain (position_list b) → Plain (position_list c)

pub plain_then : (b c d : Buffer) → IsPlainFrom b c → IsPlainFrom c d → IsPlainFrom b d
plain_then b c d first second = record {
  direction = second.direction ∙ first.direction;
  budget = second.budget ∙ first.budget;
  plain = λ p. second.plain (first.plain p);
}

pub plain_same : (b : Buffer) → IsPlainFrom b b
plain_same b = record { direction = refl; budget = refl; plain = λ p. p }

on_position_plain : (f : GlyphPosition → GlyphPosition) (i : ℕ) (b : Buffer) → ((q : GlyphPosition) → (f q).attach_type ≡ q.attach_type) → IsPlainFrom b (on_position f i b)
on_position_plain f i b keeps = record {
  direction = refl;
  budget = refl;
  plain = λ p. plain_set (position_list b) i (f (position_at b i)) (keeps (position_at b i) ∙ plain_at (position_list b) i p) p;
}

advance_keeps : (h : Bool) (v : ℤ) (q : GlyphPosition) → (with_advance h v q).attach_type ≡ q.attach_type
advance_keeps true v q = refl
advance_keeps false v q = refl

shift_keeps : (h : Bool) (v : ℤ) (q : GlyphPosition) → (with_shift h v q).attach_type ≡ q.attach_type
shift_keeps true v q = refl
shift_keeps false v q = refl

in_stream_plain : (p : Pair) (v : ℤ) (b : Buffer) → IsPlainFrom b (in_stream p v b)
in_stream_plain p v b =
    let h = is_horizontal b.direction in
    let rest = v -ℤ half v in
    let first = on_position_plain (with_advance h (half v)) p.left b (advance_keeps h (half v)) in
    let second = on_position_plain (λ q. with_shift h rest (with_advance h rest q)) p.right (on_position (with_advance h (half v)) p.left b)
    (λ q. shift_keeps h rest (with_advance h rest q) ∙ advance_keeps h rest q) in
    record { direction = refl; budget = refl; plain = λ x. second.plain (first.plain x) }

kerned_plain : (values : PairValues) (p : Pair) (b : Buffer) → IsPlainFrom b (kerned false values p b)
unfolding kerned
kerned_plain values p b = by (int_eq v (pos 0))
  where
    v : ℤ
    v = values (glyph_at b.line p.left).glyph_id (glyph_at b.line p.right).glyph_id

    by : (t : Bool) → IsPlainFrom b (cond t b (unsafe_to_break (in_stream p v b) (Some p.left) (Some (p.right + 1))))
    by true = plain_same b
    by false = let s = in_stream_plain p v b in record { direction = s.direction; budget = s.budget; plain = s.plain }

pairs_plain : (values : PairValues) (ps : List Pair) (b : Buffer) → IsPlainFrom b (fold (λ d p. kerned false values p d) b ps)
pairs_plain values [] b = plain_same b
pairs_plain values (p ∷ ps) b =
    plain_then b (kerned false values p b) (fold (λ d p. kerned false values p d) (kerned false values p b) ps)
    (kerned_plain values p b) (pairs_plain values ps (kerned false values p b))

pub pair_kerning_plain :
    (asked : Bool) (skips mask : ℕ) (values : PairValues) (b : Buffer)
    → IsPlainFrom b (pair_kerning skips mask false values (line_marked asked b))
unfolding pair_kerning
pair_kerning_plain true skips mask values b =
    let m = pairs_plain values (pairs_of skips mask (line_marked true b).line) (line_marked true b) in
    record { direction = m.direction; budget = m.budget; plain = m.plain }
pair_kerning_plain false skips mask values b = pairs_plain values (pairs_of skips mask b.line) b

pub ordered_plain : (b : Buffer) → IsPlainFrom b (in_processing_order b)
ordered_plain b = by (is_backward b.direction) b.positions refl
  where
    by : (t : Bool) (o : Option (List GlyphPosition)) → b.positions ≡ o → IsPlainFrom b (cond t (reversed b) b)
    by true None is = record { direction = refl; budget = refl; plain = λ p. rw is tt }
    by true (Some qs) is = record { direction = refl; budget = refl; plain = λ p. rw is (plain_reverse qs (rw is at p)) }
    by false o is = plain_same b
