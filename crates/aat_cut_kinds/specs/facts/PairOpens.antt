-- Kerning by pairs leaves the parts of a line open where it leaves the line open.
use Rattle.std.proofs.Common.{◌≡◌, ◌∙◌, ℕ, ◌+◌, ◌-◌, ◌<◌, ◌&&◌, Bool, true, List, pos, bit_and, Option, Some, None, IfSome, refl, ap, sym, arith}
use Rattle.std.specs.Prelude.{option_map}
use Rattle.std.specs.Ordering.{int_eq}
use Rattle.std.proofs.lemmas.Bool.{and_parts}
use Rattle.aat_buffer.specs.Buffer.{Buffer, glyph_at}
use Rattle.aat_glyph.specs.declared.glyph.hb_glyph_info_t.{hb_glyph_info_t}
use Rattle.aat_kerning.specs.PairKerning.{PairValues}
use Rattle.aat_kerning.specs.Pairs.{Pair, is_solid, pair_at}
use Rattle.aat_kerning.proofs.CutMoves.{same_value, value_at, value_further}
use Rattle.aat_kerning.proofs.CutPairs.{LooksLike, StandsBefore, back_pair, front_pair, pair_before, shifted}
use Rattle.aat_cut_kinds.specs.KernedTables.{by_pairs, marking}
use Rattle.aat_cut_kinds.specs.KerningClosing.{is_none_or}
use Rattle.aat_cut_kinds.specs.KerningOpens.{ArePartsFor, KeepsOpens}
use Rattle.aat_cut_kinds.specs.facts.OpenTurns.{both_hold}
use Rattle.aat_cut_kinds.specs.facts.PairParts.{back_looks, front_looks}

pub marking_keeps_opens : (asked : Bool) (kern_mask : ℕ) → KeepsOpens kern_mask (marking asked)
marking_keeps_opens asked kern_mask = record {
  front = λ q least w f g parts p inside before opens. refl;
  back = λ q least w f g parts p behind inside opens. refl;
}

module _ (skips kern_mask : ℕ) (free : bit_and kern_mask 7 ≡ 0) (is_cross : Bool) (values : PairValues) where
  -- a pair of a line has no value
  abbrev is_zero : List hb_glyph_info_t → Pair → Bool
  is_zero line p = int_eq (value_at values line p) (pos 0)

  -- no pair with a value stands over place p, whose glyph is not skipped
  abbrev is_open_to_pairs : ℕ → List hb_glyph_info_t → Bool
  is_open_to_pairs p line = is_solid skips (glyph_at line p) && is_none_or (pair_at skips kern_mask line p) (is_zero line)

  module _ (q least : ℕ) (w f g : Buffer) (parts : ArePartsFor (by_pairs skips kern_mask is_cross values) kern_mask q least w f g) where
    front_like : (i : ℕ) → i < q → LooksLike skips kern_mask (glyph_at w.line i) (glyph_at f.line i)
    front_like i low = front_looks skips kern_mask free is_cross values q w f g parts.stand i low

    back_like : (i : ℕ) → LooksLike skips kern_mask (glyph_at w.line (q + i)) (glyph_at g.line i)
    back_like i = back_looks skips kern_mask free is_cross values q w f g parts.stand i

    front_open : (p : ℕ) → p < q → is_open_to_pairs p w.line ≡ true → is_open_to_pairs p f.line ≡ true
    front_open p low opens =
        let each = and_parts (is_solid skips (glyph_at w.line p)) (is_none_or (pair_at skips kern_mask w.line p) (is_zero w.line)) opens in
        let same = front_pair skips kern_mask q w.line f.line front_like p low in
        both_hold (is_solid skips (glyph_at f.line p)) (is_none_or (pair_at skips kern_mask f.line p) (is_zero f.line))
        ((front_like p low).solid ∙ each.0)
        (ap (λ (o : Option Pair). is_none_or o (is_zero f.line)) same
        ∙ by_pair (pair_at skips kern_mask w.line p) (pair_before skips kern_mask w.line p) each.1)
      where
        by_pair : (o : Option Pair) → IfSome o (StandsBefore p) → is_none_or o (is_zero w.line) ≡ true → is_none_or o (is_zero f.line) ≡ true
        by_pair None stands zero_value = refl
        by_pair (Some x) stands zero_value =
            let left : x.left < q = omega (arith, stands.0, low) in
            let right : x.right < q = omega (arith, stands.1, low) in
            ap (λ v. int_eq v (pos 0)) (same_value values w.line f.line x (front_like x.left left).id (front_like x.right right).id) ∙ zero_value

    solid : is_solid skips (glyph_at w.line q) ≡ true
    solid = (and_parts (is_solid skips (glyph_at w.line q)) (is_none_or (pair_at skips kern_mask w.line q) (is_zero w.line)) parts.opens).0

    back_open : (p : ℕ) → q < p → is_open_to_pairs p w.line ≡ true → is_open_to_pairs (p - q) g.line ≡ true
    back_open p behind opens =
        let each = and_parts (is_solid skips (glyph_at w.line p)) (is_none_or (pair_at skips kern_mask w.line p) (is_zero w.line)) opens in
        let place : q + (p - q) ≡ p = omega (arith, behind) in
        let same = back_pair skips kern_mask q w.line g.line solid back_like (p - q) p (omega (arith, behind)) (sym place) in
        both_hold (is_solid skips (glyph_at g.line (p - q))) (is_none_or (pair_at skips kern_mask g.line (p - q)) (is_zero g.line))
        ((back_like (p - q)).solid ∙ (ap (λ i. is_solid skips (glyph_at w.line i)) place ∙ each.0))
        (by_pair (pair_at skips kern_mask g.line (p - q))
        (sym (ap (λ (o : Option Pair). is_none_or o (is_zero w.line)) same) ∙ each.1))
      where
        by_pair : (o : Option Pair) → is_none_or (option_map (shifted q) o) (is_zero w.line) ≡ true → is_none_or o (is_zero g.line) ≡ true
        by_pair None zero_value = refl
        by_pair (Some x) zero_value =
            ap (λ v. int_eq v (pos 0)) (value_further q values w.line g.line (λ i. (back_like i).id) x) ∙ zero_value

  pub pairs_keep_opens : KeepsOpens kern_mask (by_pairs skips kern_mask is_cross values)
  pairs_keep_opens = record {
    front = λ q least w f g parts p inside before opens. front_open q least w f g parts p before opens;
    back = λ q least w f g parts p behind inside opens. back_open q least w f g parts p behind opens;
  }
