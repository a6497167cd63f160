-- One subtable, and subtables one after another.
use Rattle.std.proofs.Common.{◌≡◌, ◌∙◌, ap, sym, refl, ℕ, ◌<◌, ◌≤◌, ◌+◌, ◌&&◌, ◌||◌, not, Bool, true, false, cond, List, [], ◌∷◌, ◌++◌, Option, Some, None, length, map, take, get_or, arith}
use Rattle.std.specs.Prelude.{fold, option_map, reverse}
use Rattle.std.proofs.lemmas.List.{map-append, reverse-reverse, take_all, take_more}
use Rattle.std.proofs.lemmas.List.Sums.{fold_push}
use Rattle.aat_buffer.specs.Buffer.{Buffer, reversed}
use Rattle.aat_buffer.specs.facts.Cases.{chosen}
use Rattle.aat_glyph.specs.Directions.{is_backward, is_horizontal}
use Rattle.aat_glyph.specs.declared.glyph.Direction.{Direction}
use Rattle.aat_glyph.specs.declared.glyph.GlyphPosition.{GlyphPosition}
use Rattle.aat_lookup.specs.Truth.{is_alike}
use Rattle.aat_kerning.specs.Positioning.{Kerning, Positioned, cursively_attached, in_processing_order, is_for_text, positioned, positioning, run_turned_round, turned_round}
use Rattle.aat_run.specs.Outcome.{Outcome, untouched}

-- a subtable that is not for the text
pub not_for_text : (requested : Bool) (k : Kerning) (s : Positioned) → is_for_text k s.buffer ≡ false → s ≡ positioned requested k s
unfolding positioned
not_for_text requested k s outside =
    let d = cond (k.has_cross_stream && not s.is_attached) (cursively_attached s.buffer) s.buffer in
    let o = cond (k.is_pairs && not requested) (untouched d) (k.run d) in
    chosen (λ (x : Positioned). s ≡ x) (is_for_text k s.buffer)
    (record { buffer = o.buffer; turns = s.turns + o.turns; is_attached = s.is_attached || k.has_cross_stream }) s
    (λ inside. cc) (λ _. refl)

-- and so takes no turn
pub passed_over :
    (requested : Bool) (k : Kerning) (b : Buffer) (n : ℕ) (now : Bool) → is_for_text k b ≡ false
    → record { buffer = b; turns = n + 0; is_attached = now }
    ≡ positioned requested k (record { buffer = b; turns = n; is_attached = now })
passed_over requested k b n now outside =
    let s : Positioned = record { buffer = b; turns = n; is_attached = now } in
    let none : n + 0 ≡ n = omega arith in
    ap (λ (m : ℕ). record s { turns = m }) none ∙ not_for_text requested k s outside

-- a subtable that is for it, and takes n turns
pub for_text :
    (requested : Bool) (k : Kerning) (s : Positioned) (d e : Buffer) (n : ℕ) (now : Bool) → is_for_text k s.buffer ≡ true
    → d ≡ cond (k.has_cross_stream && not s.is_attached) (cursively_attached s.buffer) s.buffer
    → record { buffer = e; turns = n } ≡ cond (k.is_pairs && not requested) (untouched d) (k.run d)
    → now ≡ (s.is_attached || k.has_cross_stream)
    → record { buffer = e; turns = s.turns + n; is_attached = now } ≡ positioned requested k s
unfolding positioned
for_text requested k s d e n now inside attached ran noted =
    let start = cond (k.has_cross_stream && not s.is_attached) (cursively_attached s.buffer) s.buffer in
    let o = cond (k.is_pairs && not requested) (untouched start) (k.run start) in
    let all : record { buffer = e; turns = n } ≡ o =
    ran ∙ ap (λ (x : Buffer). cond (k.is_pairs && not requested) (untouched x) (k.run x)) attached in
    let after : Positioned = record { buffer = e; turns = s.turns + n; is_attached = now } in
    let first : after ≡ record { buffer = o.buffer; turns = s.turns + o.turns; is_attached = now } =
    ap (λ (x : Outcome). record after { buffer = x.buffer; turns = s.turns + x.turns }) all in
    let second : after ≡ record { buffer = o.buffer; turns = s.turns + o.turns; is_attached = s.is_attached || k.has_cross_stream } =
    first ∙ ap (λ (t : Bool). record after { buffer = o.buffer; turns = s.turns + o.turns; is_attached = t }) noted in
    chosen (λ (x : Positioned). after ≡ x) (is_for_text k s.buffer)
    (record { buffer = o.buffer; turns = s.turns + o.turns; is_attached = s.is_attached || k.has_cross_stream }) s
    (λ _. second) (λ outside. cc)

-- the subtables so far
abbrev pub positioned_so_far : {X : Type 0} → Bool → (X → Kerning) → List X → Buffer → Positioned
positioned_so_far requested kerning xs b =
    fold (λ s k. positioned requested k s) (record { buffer = in_processing_order b; turns = 0; is_attached = false }) (map kerning xs)

-- one more, of x, which is the element at place i
so_far_more :
    {X : Type 0} (requested : Bool) (kerning : X → Kerning) (xs : List X) (i : ℕ) (x : X) (b : Buffer) → i < length xs
    → x ≡ get_or xs i x
    → positioned_so_far requested kerning (take (i + 1) xs) b ≡ positioned requested (kerning x) (positioned_so_far requested kerning (take i xs) b)
so_far_more {X} requested kerning xs i x b below read =
    let f = λ (s : Positioned) (k : Kerning). positioned requested k s in
    let before : Positioned = record { buffer = in_processing_order b; turns = 0; is_attached = false } in
    ap (λ (ys : List X). fold f before (map kerning ys)) (take_more xs i x below ∙ ap (λ (y : X). take i xs ++ (y ∷ [])) (sym read))
    ∙ ap (fold f before) (map-append kerning (take i xs) (x ∷ []))
    ∙ fold_push f before (map kerning (take i xs)) (kerning x)

pub so_far_next :
    {X : Type 0} (requested : Bool) (kerning : X → Kerning) (xs : List X) (i : ℕ) (x : X) (b : Buffer) (s t : Positioned)
    → i < length xs → x ≡ get_or xs i x → s ≡ positioned_so_far requested kerning (take i xs) b
    → t ≡ positioned requested (kerning x) s → t ≡ positioned_so_far requested kerning (take (i + 1) xs) b
so_far_next requested kerning xs i x b s t below read was next =
    next ∙ ap (λ (u : Positioned). positioned requested (kerning x) u) was ∙ sym (so_far_more requested kerning xs i x b below read)

-- all of them, and the line turned back
pub so_far_all :
    {X : Type 0} (requested : Bool) (kerning : X → Kerning) (xs : List X) (i : ℕ) (b now after : Buffer) (n : ℕ)
    (is_attached : Bool) → length xs ≤ i
    → record { buffer = now; turns = n; is_attached = is_attached } ≡ positioned_so_far requested kerning (take i xs) b
    → after ≡ in_processing_order now → record { buffer = after; turns = n } ≡ positioning requested (map kerning xs) b
unfolding positioning
so_far_all {X} requested kerning xs i b now after n is_attached past was turned =
    ap (λ (d : Buffer). record { buffer = d; turns = n }) turned
    ∙ ap (λ (s : Positioned). record { buffer = in_processing_order s.buffer; turns = s.turns })
    (was ∙ ap (λ (ys : List X). positioned_so_far requested kerning ys b) (take_all i xs past))

-- a line that is turned twice
twice : (o : Option (List GlyphPosition)) → option_map (λ qs. reverse qs) (option_map (λ qs. reverse qs) o) ≡ o
twice None = refl
twice (Some qs) = ap Some (reverse-reverse qs)

reversed_twice : (b : Buffer) → reversed (reversed b) ≡ b
reversed_twice b =
    ap (λ gs. record b { line = gs; positions = option_map reverse (option_map reverse b.positions) }) (reverse-reverse b.line)
    ∙ ap (λ (o : Option (List GlyphPosition)). record b { positions = o }) (twice b.positions)

pub ordered_twice : (b : Buffer) → in_processing_order (in_processing_order b) ≡ b
ordered_twice b =
    chosen (λ (d : Buffer). cond (is_backward d.direction) (reversed d) d ≡ b) (is_backward b.direction) (reversed b) b
    (λ back. ap (λ t. cond t (reversed (reversed b)) (reversed b)) back ∙ reversed_twice b) (λ ahead. ap (λ t. cond t (reversed b) b) ahead)

-- a run over a line that was turned round, which is turned back
pub turned_run :
    (run : Buffer → Outcome) (t u : Bool) (b c d e : Buffer) (n : ℕ) → t ≡ u → c ≡ turned_round t b
    → record { buffer = d; turns = n } ≡ run c → e ≡ turned_round t d
    → record { buffer = e; turns = n } ≡ run_turned_round u run b
turned_run run t u b c d e n same first ran last =
    ap (λ (x : Buffer). record { buffer = x; turns = n }) last
    ∙ ap (λ (o : Outcome). record { buffer = turned_round t o.buffer; turns = o.turns }) (ran ∙ ap run first)
    ∙ ap (λ (s : Bool). run_turned_round s run b) same

-- no subtables leave the line as it was
pub none_positioned :
    {X : Type 0} (requested : Bool) (kerning : X → Kerning) (b : Buffer) → untouched b ≡ positioning requested (map kerning []) b
unfolding positioning
none_positioned requested kerning b = ap untouched (sym (ordered_twice b))

-- What follows from calls that were asked of a subtable: p whether it is of pairs, r whether it is left out, x whether
-- it has cross-stream.
module _ (requested : Bool) (k : Kerning) (d : Buffer) (p r : Bool) (is : p ≡ k.is_pairs) (answer : r ≡ (p && not requested))
  where
    asked_outcome : cond r (untouched d) (k.run d) ≡ cond (k.is_pairs && not requested) (untouched d) (k.run d)
    asked_outcome = ap (λ t. cond t (untouched d) (k.run d)) (answer ∙ ap (λ t. t && not requested) is)

    -- it is left out
    pub asked_left_out : r ≡ true → untouched d ≡ cond (k.is_pairs && not requested) (untouched d) (k.run d)
    asked_left_out out = sym (ap (λ t. cond t (untouched d) (k.run d)) out) ∙ asked_outcome

    -- it runs
    pub asked_run :
        (o : Outcome) → r ≡ false → o ≡ k.run d → o ≡ cond (k.is_pairs && not requested) (untouched d) (k.run d)
    asked_run o stays ran = ran ∙ sym (ap (λ t. cond t (untouched d) (k.run d)) stays) ∙ asked_outcome

module _ (k : Kerning) (x was : Bool) (is : x ≡ k.has_cross_stream) where
  -- it attaches a line, where none before it has
  pub asked_attached :
      (b d : Buffer) → d ≡ cond (x && not was) (cursively_attached b) b
      → d ≡ cond (k.has_cross_stream && not was) (cursively_attached b) b
  asked_attached b d attached = attached ∙ ap (λ t. cond (t && not was) (cursively_attached b) b) is

  pub asked_noted : (now : Bool) → now ≡ (was || x) → now ≡ (was || k.has_cross_stream)
  asked_noted now noted = noted ∙ ap (λ t. was || t) is

-- whether a subtable is for a text, by a call that was asked
pub asked_for_text :
    (k : Kerning) (b : Buffer) (d : Direction) (r t : Bool) → d ≡ b.direction
    → r ≡ (not k.variable && is_alike k.horizontal (is_horizontal d)) → r ≡ t → is_for_text k b ≡ t
asked_for_text k b d r t is asked answer =
    ap (λ (e : Direction). not k.variable && is_alike k.horizontal (is_horizontal e)) (sym is) ∙ sym asked ∙ answer
