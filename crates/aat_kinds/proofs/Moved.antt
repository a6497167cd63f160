-- A glyph that becomes another one by an array gets its value.
use Rattle.std.proofs.Common.{◌≡◌, ℕ, ◌<◌, ◌==◌, ◌&&◌, Bool, true, false, not, List, Option, Some, None, cond, ap, refl, sym, ◌∙◌, arith}
use Rattle.std.proofs.lemmas.Bool.Decides.{nat_tests}
use Rattle.aat_glyph.specs.declared.glyph.hb_glyph_info_t.{hb_glyph_info_t}
use Rattle.aat_lookup.specs.Keys.{value_in}
use Rattle.aat_lookup.specs.Moves.{kept_over, moved_by, value_of_move, AreMovesOf}
use Rattle.aat_lookup.specs.declared.moves.GlyphMoves.{GlyphMoves}
use Rattle.aat_kinds.specs.Values.{with_answer, with_looked_up_value}

module _ (g : hb_glyph_info_t) (now : ℕ) where
  stays : now ≡ g.glyph_id → record g { glyph_id = now } ≡ g
  stays same = ap (λ (id : ℕ). record g { glyph_id = id }) same

  -- without classes a glyph that is marked as its own value does not change either
  by_test : (keeps b : Bool) → (now == g.glyph_id) ≡ b → record g { glyph_id = now } ≡ with_answer None (cond (b && not keeps) None (Some now)) g
  by_test true true same = refl
  by_test false true same = stays (grind (arith, nat_tests))
  by_test keeps false changes = refl

module _ (on : ℕ → Bool) (classes : Option (List (ℕ × ℕ))) (lookup : List (ℕ × ℕ)) (moves : GlyphMoves) (g : hb_glyph_info_t)
    (is_on : on g.cluster ≡ true) (told : AreMovesOf moves lookup) (small : g.glyph_id < 65536) where
  -- the value by an array is that of the lookup
  pub answered_is : with_answer classes (value_of_move moves g.glyph_id) g ≡ with_looked_up_value on classes lookup g
  answered_is =
      ap (λ v. with_answer classes v g) (told.2 g.glyph_id small)
      ∙ ap (λ b. cond b (with_answer classes (value_in lookup g.glyph_id) g) g) (sym is_on)

-- without classes of glyphs only the glyph id changes, if it does
pub moved_is :
    (on : ℕ → Bool) (lookup : List (ℕ × ℕ)) (moves : GlyphMoves) (g : hb_glyph_info_t) → on g.cluster ≡ true
    → AreMovesOf moves lookup → g.glyph_id < 65536
    → record g { glyph_id = moved_by moves g.glyph_id } ≡ with_looked_up_value on None lookup g
moved_is on lookup moves g is_on told small =
    let now = moved_by moves g.glyph_id in
    by_test g now (kept_over moves.lowest moves.kept.now g.glyph_id) (now == g.glyph_id) refl
    ∙ answered_is on None lookup moves g is_on told small
