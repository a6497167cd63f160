-- Rows of a table whose points stand in vectors.
use Rattle.std.proofs.Common.{◌≡◌, ℕ, List, [], ◌∷◌, Bor, Option, Some, None, Bool, true, false, refl, sym, cond, option_map, option_and_then, slice_get, Vec, eqb}
use Rattle.std.specs.Option.{option_copied}
use Rattle.aat_kerning_tables.specs.AnchorPoints.{glyph_of_row, points_in_rows, listed_point}
use Rattle.aat_lookup.specs.Keys.{at_key}
use Rattle.aat_kerning_tables.specs.declared.ankr.Point.{Point}

module _ {Z : Type 0} where
  -- the points that a found row has
  abbrev pub points_at : Option (Bor (ℕ × Vec Point Z)) → ℕ → Option Point
  points_at row index = option_and_then (λ (r : Bor (ℕ × Vec Point Z)). slice_get r.now.1.items index) row

  chosen :
      (b : Bool) (x : ℕ × Vec Point Z) (o : Option (ℕ × Vec Point Z)) (q : Option (ℕ × List Point))
      → option_map (λ (r : ℕ × Vec Point Z). (r.0, r.1.items)) o ≡ q
      → option_map (λ (r : ℕ × Vec Point Z). (r.0, r.1.items)) (cond b (Some x) o) ≡ cond b (Some (x.0, x.1.items)) q
  chosen true x o q h = refl
  chosen false x o q h = h

  -- a row is found among the points where it is found among the rows
  pub found_in_rows :
      (rows : List (ℕ × Vec Point Z)) (glyph : ℕ)
      → option_map (λ (r : ℕ × Vec Point Z). (r.0, r.1.items)) (at_key glyph_of_row rows glyph)
      ≡ at_key glyph_of_row (points_in_rows rows) glyph
  found_in_rows [] glyph = refl
  found_in_rows (x ∷ xs) glyph = chosen (eqb x.0 glyph) x _ _ (found_in_rows xs glyph)

  listed_none :
      (rows : List (ℕ × Vec Point Z)) (glyph index : ℕ)
      → None ≡ at_key glyph_of_row rows glyph → listed_point (points_in_rows rows) glyph index ≡ None
  listed_none rows glyph index none = rw (sym (found_in_rows rows glyph), sym none) refl

  listed_some :
      (rows : List (ℕ × Vec Point Z)) (glyph index : ℕ) (x : ℕ × Vec Point Z)
      → Some x ≡ at_key glyph_of_row rows glyph → listed_point (points_in_rows rows) glyph index ≡ slice_get x.1.items index
  listed_some rows glyph index x some = rw (sym (found_in_rows rows glyph), sym some) refl

  -- the point that is listed is the one that the found row has
  pub listed :
      (rows : List (ℕ × Vec Point Z)) (glyph index : ℕ) (row : Option (Bor (ℕ × Vec Point Z)))
      → option_copied row ≡ at_key glyph_of_row rows glyph
      → listed_point (points_in_rows rows) glyph index ≡ points_at row index
  listed rows glyph index None same = listed_none rows glyph index same
  listed rows glyph index (Some r) same = listed_some rows glyph index r.now same
