-- One step of the advances.
use Rattle.std.proofs.Common.{◌≡◌, ◌∙◌, ap, sym, refl, Bool, ℕ, zero, suc, ◌<◌, ◌+◌, List, [], ◌∷◌, ◌++◌, map, take, drop, length, get_or, set, replicate, arith}
use Rattle.std.proofs.lemmas.List.{take_all, drop_all, append-nil, length-replicate}
use Rattle.aat_glyph.specs.Directions.{is_horizontal}
use Rattle.aat_glyph.specs.declared.glyph.hb_glyph_info_t.{hb_glyph_info_t}
use Rattle.aat_glyph.specs.declared.glyph.GlyphPosition.{GlyphPosition}
use Rattle.aat_buffer.specs.Buffer.{Buffer, no_glyph, glyph_at, zero_position, position_list, with_position, with_positions, with_zero_positions}
use Rattle.aat_layout.specs.Shaping.{advanced, with_advances}

-- the positions of a line, of which the first i are those of the glyphs' advances
abbrev pub advanced_first : (hb_glyph_info_t → GlyphPosition) → ℕ → List hb_glyph_info_t → List GlyphPosition → List GlyphPosition
advanced_first place i line qs = map place (take i line) ++ drop i qs

-- the position at i is written
step : (place : hb_glyph_info_t → GlyphPosition) (line : List hb_glyph_info_t) (qs : List GlyphPosition) (i : ℕ) → i < length line → i < length qs
    → set (advanced_first place i line qs) i (place (get_or line i no_glyph)) ≡ advanced_first place (suc i) line qs
step place [] qs i low within = absurd (omega (arith, low))
step place (g ∷ line) [] i low within = absurd (omega (arith, within))
step place (g ∷ line) (q ∷ qs) zero low within = refl
step place (g ∷ line) (q ∷ qs) (suc i) low within = ap (λ xs. place g ∷ xs) (step place line qs i (omega (arith, low)) (omega (arith, within)))

length_first : (place : hb_glyph_info_t → GlyphPosition) (line : List hb_glyph_info_t) (qs : List GlyphPosition) (i : ℕ) → length qs ≡ length line
    → length (advanced_first place i line qs) ≡ length line
length_first place line qs zero same = same
length_first place [] [] (suc i) same = refl
length_first place [] (q ∷ qs) (suc i) same = absurd (omega (arith, same))
length_first place (g ∷ line) [] (suc i) same = absurd (omega (arith, same))
length_first place (g ∷ line) (q ∷ qs) (suc i) same = ap suc (length_first place line qs i (omega (arith, same)))

-- the position of a glyph in a line
abbrev pub place_of : (ℕ → ℕ) → Buffer → hb_glyph_info_t → GlyphPosition
place_of advance start g = advanced (is_horizontal start.direction) (advance g.glyph_id)

-- the positions of a line that was cleared
abbrev zeros : Buffer → List GlyphPosition
zeros start = replicate (length start.line) zero_position

-- of i turns
pub record IsAdvancing (advance : ℕ → ℕ) (start now : Buffer) (i : ℕ) : Type 0 where
  pub done : now ≡ with_positions start (advanced_first (place_of advance start) i start.line (zeros start))
  pub placed : length (position_list now) ≡ length now.line
  pub same : now.line ≡ start.line

-- before the first turn
pub advancing_none : (advance : ℕ → ℕ) (start now : Buffer) → now ≡ with_zero_positions start → IsAdvancing advance start now 0
advancing_none advance start now is = record {
  done = is;
  placed = ap (λ (b : Buffer). length (position_list b)) is ∙ (length-replicate (length start.line) zero_position ∙ ap (λ (b : Buffer). length b.line) (sym is));
  same = ap (λ (b : Buffer). b.line) is;
}

-- one turn
pub advancing_more : (advance : ℕ → ℕ) (start now : Buffer) (across : Bool) (i : ℕ) (g : hb_glyph_info_t) (r : GlyphPosition) → across ≡ is_horizontal start.direction
    → i < length start.line → IsAdvancing advance start now i → g ≡ glyph_at now.line i → r ≡ advanced across (advance g.glyph_id)
    → IsAdvancing advance start (with_position now i r) (i + 1)
advancing_more advance start now across i g r same_way low was glyph wrote =
    let place = place_of advance start in
    let qs : List GlyphPosition = zeros start in
    let long : length qs ≡ length start.line = length-replicate (length start.line) zero_position in
    let next : suc i ≡ i + 1 = omega arith in
    let read : r ≡ place (get_or start.line i no_glyph) =
    wrote ∙ ap (λ h. advanced h (advance g.glyph_id)) same_way ∙ ap place (glyph ∙ ap (λ (line : List hb_glyph_info_t). glyph_at line i) was.same) in
    let done : with_position now i r ≡ with_positions start (advanced_first place (i + 1) start.line qs) =
    ap (λ (b : Buffer). with_position b i r) was.done
    ∙ ap (λ x. with_positions start (set (advanced_first place i start.line qs) i x)) read
    ∙ ap (with_positions start) (step place start.line qs i low (omega (arith, low, long)))
    ∙ ap (λ n. with_positions start (advanced_first place n start.line qs)) next in
    record {
      done = done;
      placed = ap (λ (b : Buffer). length (position_list b)) done ∙ (length_first place start.line qs (i + 1) long ∙ ap (λ (b : Buffer). length b.line) (sym done));
      same = ap (λ (b : Buffer). b.line) done;
    }

-- behind the last turn
pub advancing_done : (advance : ℕ → ℕ) (start now : Buffer) (i : ℕ) → i ≡ length start.line → IsAdvancing advance start now i → now ≡ with_advances advance start
advancing_done advance start now i e was =
    let place = place_of advance start in
    let n : ℕ = length start.line in
    let qs : List GlyphPosition = zeros start in
    let long : length qs ≡ n = length-replicate n zero_position in
    was.done
    ∙ ap (λ k. with_positions start (advanced_first place k start.line qs)) e
    ∙ ap (λ gs. with_positions start (map place gs ++ drop n qs)) (take_all n start.line (omega arith))
    ∙ ap (λ ps. with_positions start (map place start.line ++ ps)) (drop_all n qs (omega (arith, long)))
    ∙ ap (with_positions start) (append-nil (map place start.line))
