-- Pairs do not look at the flags of glyphs.
use Rattle.std.proofs.Common.{◌≡◌, ◌∙◌, sym, ap, refl, ℕ, zero, suc, ◌+◌, ◌-◌, ◌==◌, ◌&&◌, Bool, true, false, not, cond, List, [], ◌∷◌, length, fold, nat_lt, bit_and, pos, arith}
use Rattle.std.specs.Prelude.{Some, None, ℤ, find, filter_map, option_map}
use Rattle.std.specs.Ordering.{int_eq}
use Rattle.std.proofs.lemmas.Nat.{and_assoc, and_or_apart}
use Rattle.aat_glyph.specs.Directions.{is_backward}
use Rattle.aat_glyph.specs.declared.glyph.hb_glyph_info_t.{hb_glyph_info_t}
use Rattle.aat_buffer.specs.Buffer.{Buffer, glyph_at, with_line}
use Rattle.aat_buffer.specs.Marks.{concat_marked, end_place, on_span, produces_concat, unsafe_to_break, unsafe_to_concat, with_mask_bits}
use Rattle.aat_buffer.specs.facts.Cases.{either}
use Rattle.aat_buffer.specs.facts.Clusters.{map_span}
use Rattle.aat_run.specs.Switches.{meets}
use Rattle.aat_kerning.specs.PairKerning.{PairValues, cross_stream, in_stream, kerned, pair_kerning}
use Rattle.aat_kerning.specs.Pairs.{Pair, is_solid, last_solid, left_of, pair_at, pairs_of, places}
use Rattle.aat_kerning.specs.Positioning.{in_processing_order, line_marked, turned_round}
use Rattle.aat_closing.specs.Unflagged.{bare, erased, unflagged}
use Rattle.aat_closing.specs.facts.BlindBuffers.{erased_reversed, erased_unsafe}
use Rattle.aat_closing.specs.facts.BlindLines.{bare_at, bare_length}

-- the kern mask is none of the flags
pub meets_unflagged : (mask : ℕ) → meets (bit_and mask 0xFFFFFFF8) 8 ≡ meets mask 8
meets_unflagged mask = ap (λ n. not (n == 0)) (and_assoc 8 mask 0xFFFFFFF8)

-- The pairs of a line.
module _ (skips : ℕ) (gs : List hb_glyph_info_t) where
  solid_bare : (i : ℕ) → is_solid skips (glyph_at (bare gs) i) ≡ is_solid skips (glyph_at gs i)
  solid_bare i = ap (is_solid skips) (bare_at gs i)

  meets_bare : (i : ℕ) → meets (glyph_at (bare gs) i).mask 8 ≡ meets (glyph_at gs i).mask 8
  meets_bare i = ap (λ (g : hb_glyph_info_t). meets g.mask 8) (bare_at gs i) ∙ meets_unflagged (glyph_at gs i).mask

  last_bare : (t : ℕ) → last_solid skips 8 (bare gs) t ≡ last_solid skips 8 gs t
  last_bare zero = refl
  last_bare (suc t) = λ k. cond (solid_bare t k) t (last_bare t k)

  left_bare : (t : ℕ) → left_of skips 8 (bare gs) t ≡ left_of skips 8 gs t
  left_bare t = λ k. find (λ i. meets_bare i k) (places (last_bare t k) (t - last_bare t k))

  pair_bare : (t : ℕ) → pair_at skips 8 (bare gs) t ≡ pair_at skips 8 gs t
  pair_bare t =
      λ k. cond (solid_bare t k && meets_bare t k) (option_map (λ i. record { left = i; right = t }) (left_bare t k)) None

  pairs_bare : pairs_of skips 8 (bare gs) ≡ pairs_of skips 8 gs
  unfolding pairs_of
  pairs_bare = λ k. filter_map (λ t. pair_bare t k) (places 0 (bare_length gs k))

-- a pair that is kerned without marks, along the line or across it
abbrev moved : Bool → Pair → ℤ → Buffer → Buffer
moved is_cross p v b = cond is_cross (cross_stream p v b) (in_stream p v b)

abbrev quiet : Bool → PairValues → Pair → Buffer → Buffer
quiet is_cross values p b =
    let v = values (glyph_at b.line p.left).glyph_id (glyph_at b.line p.right).glyph_id in
    cond (int_eq v (pos 0)) b (moved is_cross p v b)

erased_moved : (is_cross : Bool) (p : Pair) (v : ℤ) (b : Buffer) → erased (moved is_cross p v b) ≡ moved is_cross p v (erased b)
erased_moved true p v b = refl
erased_moved false p v b = refl

erased_kerned : (is_cross : Bool) (values : PairValues) (p : Pair) (b : Buffer) → erased (kerned is_cross values p b) ≡ quiet is_cross values p (erased b)
unfolding kerned
erased_kerned is_cross values p b =
    by (int_eq value (pos 0)) ∙ ap (λ (v : ℤ). cond (int_eq v (pos 0)) (erased b) (moved is_cross p v (erased b))) value_same
  where
    id_bare : (i : ℕ) → (glyph_at b.line i).glyph_id ≡ (glyph_at (bare b.line) i).glyph_id
    id_bare i = sym (ap (λ (g : hb_glyph_info_t). g.glyph_id) (bare_at b.line i))

    value : ℤ
    value = values (glyph_at b.line p.left).glyph_id (glyph_at b.line p.right).glyph_id

    value_same : value ≡ values (glyph_at (bare b.line) p.left).glyph_id (glyph_at (bare b.line) p.right).glyph_id
    value_same = λ k. values (id_bare p.left k) (id_bare p.right k)

    by :
        (t : Bool) → erased (cond t b (unsafe_to_break (moved is_cross p value b) (Some p.left) (Some (p.right + 1))))
        ≡ cond t (erased b) (moved is_cross p value (erased b))
    by true = refl
    by false = erased_unsafe (moved is_cross p value b) (Some p.left) (Some (p.right + 1)) ∙ erased_moved is_cross p value b

erased_pairs :
    (is_cross : Bool) (values : PairValues) (ps : List Pair) (b : Buffer)
    → erased (fold (λ d p. kerned is_cross values p d) b ps) ≡ fold (λ d p. quiet is_cross values p d) (erased b) ps
erased_pairs is_cross values [] b = refl
erased_pairs is_cross values (p ∷ ps) b =
    erased_pairs is_cross values ps (kerned is_cross values p b)
    ∙ ap (λ (c : Buffer). fold (λ d p. quiet is_cross values p d) c ps) (erased_kerned is_cross values p b)

bare_concat : (g : hb_glyph_info_t) → unflagged (with_mask_bits 2 g) ≡ unflagged g
bare_concat g = λ i. record g { mask = and_or_apart 0xFFFFFFF8 g.mask 2 refl i }

-- the whole line, marked
pub erased_concat : (b : Buffer) → erased (unsafe_to_concat b None None) ≡ erased b
erased_concat b =
    ap (with_line b)
    (either bare (produces_concat b.flags && nat_lt 0 end) (on_span concat_marked 0 end b.line) b.line (bare b.line)
    (map_span unflagged (with_mask_bits 2) bare_concat 0 end b.line (omega arith)) refl)
  where
    end : ℕ
    end = end_place None (length b.line)

erased_marked : (asked : Bool) (b : Buffer) → erased (line_marked asked b) ≡ erased b
erased_marked true b = erased_concat b
erased_marked false b = refl

-- all pairs, without marks
abbrev quiet_pairs : Bool → ℕ → PairValues → Buffer → Buffer
quiet_pairs is_cross skips values b = fold (λ d p. quiet is_cross values p d) b (pairs_of skips 8 b.line)

erased_pair_kerning :
    (asked is_cross : Bool) (skips : ℕ) (values : PairValues) (b : Buffer)
    → erased (pair_kerning skips 8 is_cross values (line_marked asked b)) ≡ quiet_pairs is_cross skips values (erased b)
unfolding pair_kerning
erased_pair_kerning asked is_cross skips values b =
    let c : Buffer = line_marked asked b in
    erased_pairs is_cross values (pairs_of skips 8 c.line) c
    ∙ (ap (fold (λ d p. quiet is_cross values p d) (erased c)) (sym (pairs_bare skips c.line))
    ∙ ap (quiet_pairs is_cross skips values) (erased_marked asked b))

pub pair_kerning_alike :
    (asked is_cross : Bool) (skips : ℕ) (values : PairValues) (a b : Buffer) → erased a ≡ erased b
    → erased (pair_kerning skips 8 is_cross values (line_marked asked a)) ≡ erased (pair_kerning skips 8 is_cross values (line_marked asked b))
pair_kerning_alike asked is_cross skips values a b same =
    erased_pair_kerning asked is_cross skips values a
    ∙ (ap (quiet_pairs is_cross skips values) same ∙ sym (erased_pair_kerning asked is_cross skips values b))

-- a line in processing order
pub erased_ordered : (b : Buffer) → erased (in_processing_order b) ≡ in_processing_order (erased b)
erased_ordered b = by (is_backward b.direction)
  where
    by : (t : Bool) → erased (turned_round t b) ≡ turned_round t (erased b)
    by true = erased_reversed b
    by false = refl

pub ordered_alike : (a b : Buffer) → erased a ≡ erased b → erased (in_processing_order a) ≡ erased (in_processing_order b)
ordered_alike a b same = erased_ordered a ∙ (ap in_processing_order same ∙ sym (erased_ordered b))
