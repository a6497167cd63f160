-- A line that is tracked glyph by glyph.
use Rattle.std.proofs.Common.{◌≡◌, ◌∙◌, ap, arith, cond, sym, ℕ, ◌+◌, ◌<◌, List, [], ◌∷◌, ◌++◌, drop, get_or, length, set, take, Option, append_assoc}
use Rattle.std.specs.Prelude.{ℤ}
use Rattle.std.specs.Option.{option_or}
use Rattle.std.proofs.lemmas.List.{drop_more, drop-set-lt, take_more_set}
use Rattle.aat_glyph.specs.declared.glyph.Direction.{Direction}
use Rattle.aat_glyph.specs.declared.glyph.GlyphPosition.{GlyphPosition}
use Rattle.aat_glyph.specs.placement.TrackedLines.{begins, tracked_behind, widened}

-- one glyph more
pub one_more :
    (d : Direction) (v : ℤ) (last next n : Option ℕ) (cs : List (Option ℕ)) (qs whole : List GlyphPosition)
    (e new : GlyphPosition) (i : ℕ) → i < length cs → i < length qs → next ≡ option_or (get_or cs i n) last
    → new ≡ cond (begins last (get_or cs i n)) (widened d v (get_or qs i e)) (get_or qs i e)
    → take i qs ++ tracked_behind last d v (drop i cs) (drop i qs) ≡ whole
    → take (i + 1) (set qs i new) ++ tracked_behind next d v (drop (i + 1) cs) (drop (i + 1) (set qs i new)) ≡ whole
one_more d v last next n cs qs whole e new i in_cs in_qs next_is new_is before =
    let c = get_or cs i n in
    let rest = tracked_behind next d v (drop (i + 1) cs) (drop (i + 1) qs) in
    let step : tracked_behind last d v (drop i cs) (drop i qs) ≡ new ∷ rest =
    ap (λ zs. tracked_behind last d v zs (drop i qs)) (drop_more cs i n in_cs)
    ∙ (ap (λ zs. tracked_behind last d v (c ∷ drop (i + 1) cs) zs) (drop_more qs i e in_qs)
    ∙ (ap (λ z. z ∷ tracked_behind (option_or c last) d v (drop (i + 1) cs) (drop (i + 1) qs)) (sym new_is)
    ∙ ap (λ l. new ∷ tracked_behind l d v (drop (i + 1) cs) (drop (i + 1) qs)) (sym next_is))) in
    ap (λ zs. take (i + 1) (set qs i new) ++ tracked_behind next d v (drop (i + 1) cs) zs)
    (drop-set-lt (i + 1) qs i new (omega arith))
    ∙ (ap (λ zs. zs ++ rest) (take_more_set qs i new in_qs)
    ∙ (append_assoc (take i qs) (new ∷ []) rest ∙ (ap (λ zs. take i qs ++ zs) (sym step) ∙ before)))
