-- How many starts there are beside pairs that are listed.
use Rattle.std.proofs.Common.{◌≡◌, ℕ, ℤ, ◌+◌, ◌*◌, ◌/◌, ◌≤◌, List, length, Bool, true, false, cond, refl, arith, ◌==◌}
use Rattle.std.specs.Prelude.{nat_lt}
use Rattle.std.proofs.lemmas.Bool.{ltb-false}
use Rattle.aat_lookup.specs.GlyphSpans.{glyph_span}
use Rattle.aat_kerning_tables.specs.LeftGlyphs.{left_count, left_glyph}

starts_by : (b c : Bool) (n span : ℕ) → (n == 0) ≡ b → nat_lt n (span / 8) ≡ c
    → cond b 0 (cond c 0 span) ≤ 8 * n + 7
starts_by true c n span none many = omega arith
starts_by false true n span none many = omega arith
starts_by false false n span none many =
    let low : span / 8 ≤ n = ltb-false n (span / 8) many in omega (arith, low)

-- pairs have at most 8 starts each, and 7 more
pub few_starts : (pairs : List (ℕ × ℕ × ℤ)) → left_count pairs ≤ 8 * length pairs + 7
few_starts pairs =
    starts_by (length pairs == 0) (nat_lt (length pairs) (glyph_span left_glyph _ pairs / 8)) (length pairs) _ refl refl
