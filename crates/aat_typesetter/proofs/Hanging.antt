-- The spaces that end a text, from its end on.
use Rattle.std.proofs.Common.{◌≡◌, ℕ, ◌+◌, ◌-◌, ◌<◌, Bool, true, false, cond, List, [], ◌∷◌, length, take, get_or, refl, sym, ap, ◌∙◌, arith}
use Rattle.std.specs.Prelude.{fold, reverse, take_while, Option, Some, None, if◌then◌else◌}
use Rattle.std.proofs.lemmas.List.{reverse-append, take_more}
use Rattle.std.proofs.lemmas.List.Sums.{take_while-cons}
use Rattle.aat_lookup.specs.declared.glyph_id.GlyphId.{GlyphId}
use Rattle.aat_shaped_text.specs.declared.text.TextGlyph.{TextGlyph}
use Rattle.aat_typesetter.specs.Stops.{hang_of, is_space}

-- what hangs where glyphs come next, from the end of a text on, and some hangs already
abbrev pub hang_on : Option GlyphId → Option ℕ → List TextGlyph → Option ℕ
hang_on space hang [] = hang
hang_on space hang (g ∷ text) = if is_space space g then hang_on space (Some g.cluster) text else hang

-- the cluster of the last of some glyphs
abbrev last_cluster : Option ℕ → List TextGlyph → Option ℕ
last_cluster hang text = fold (λ h k. Some k.cluster) hang text

one_more :
    (b : Bool) (hang : Option ℕ) (g : TextGlyph) (more : Option ℕ) (spaces : List TextGlyph)
    → more ≡ last_cluster (Some g.cluster) spaces
    → (if b then more else hang) ≡ last_cluster hang (cond b (g ∷ spaces) [])
one_more true hang g more spaces e = e
one_more false hang g more spaces e = refl

-- it is the last of the spaces in front
last_of_spaces :
    (space : Option GlyphId) (hang : Option ℕ) (text : List TextGlyph)
    → hang_on space hang text ≡ last_cluster hang (take_while (is_space space) text)
last_of_spaces space hang [] = refl
last_of_spaces space hang (g ∷ text) =
    one_more (is_space space g) hang g _ (take_while (is_space space) text) (last_of_spaces space (Some g.cluster) text)
    ∙ sym (ap (last_cluster hang) (take_while-cons (is_space space) g text))

pub hangs_alike : (space : Option GlyphId) (text : List TextGlyph) → hang_on space None (reverse text) ≡ hang_of space text
hangs_alike space text = last_of_spaces space None (reverse text)

-- one glyph from the end on
next_from_end :
    (space : Option GlyphId) (hang : Option ℕ) (text : List TextGlyph) (k : ℕ) (d : TextGlyph) → k < length text
    → hang_on space hang (reverse (take (k + 1) text))
    ≡ (if is_space space (get_or text k d) then hang_on space (Some (get_or text k d).cluster) (reverse (take k text)) else hang)
next_from_end space hang text k d low =
    ap (λ (t : List TextGlyph). hang_on space hang (reverse t)) (take_more text k d low)
    ∙ ap (hang_on space hang) (reverse-append (take k text) (get_or text k d ∷ []))

-- so it is with the glyph that comes next where some came already
pub next_held :
    (space : Option GlyphId) (hang : Option ℕ) (text : List TextGlyph) (i : ℕ) (d : TextGlyph) → i < length text
    → hang_on space hang (reverse (take (length text - i) text)) ≡ hang_on space None (reverse text)
    → (if is_space space (get_or text (length text - 1 - i) d)
    then hang_on space (Some (get_or text (length text - 1 - i) d).cluster) (reverse (take (length text - (i + 1)) text))
    else hang)
    ≡ hang_on space None (reverse text)
next_held space hang text i d low held =
    let k = length text - 1 - i in
    let within : k < length text = omega arith in
    let here : length text - i ≡ k + 1 = omega arith in
    let there : length text - (i + 1) ≡ k = omega arith in
    ap (λ (n : ℕ). if is_space space (get_or text k d) then hang_on space (Some (get_or text k d).cluster) (reverse (take n text)) else hang) there
    ∙ (sym (next_from_end space hang text k d within)
    ∙ (ap (λ (n : ℕ). hang_on space hang (reverse (take n text))) (sym here) ∙ held))

-- before another glyph nothing does
pub other_ends :
    (space : Option GlyphId) (hang : Option ℕ) (text : List TextGlyph) (i : ℕ) (d : TextGlyph) → i < length text
    → is_space space (get_or text (length text - 1 - i) d) ≡ false
    → hang_on space hang (reverse (take (length text - i) text)) ≡ hang_on space None (reverse text)
    → hang ≡ hang_of space text
other_ends space hang text i d low other held =
    let k = length text - 1 - i in
    let more = hang_on space (Some (get_or text k d).cluster) (reverse (take (length text - (i + 1)) text)) in
    ap (λ (b : Bool). if b then more else hang) (sym other) ∙ (next_held space hang text i d low held ∙ hangs_alike space text)

-- at the end none is left
pub none_left :
    (space : Option GlyphId) (hang : Option ℕ) (text : List TextGlyph) (i : ℕ) → i ≡ length text
    → hang_on space hang (reverse (take (length text - i) text)) ≡ hang_on space None (reverse text)
    → hang ≡ hang_of space text
none_left space hang text i end held =
    let nothing : length text - i ≡ 0 = omega arith in
    sym (ap (λ (n : ℕ). hang_on space hang (reverse (take n text))) nothing) ∙ (held ∙ hangs_alike space text)
