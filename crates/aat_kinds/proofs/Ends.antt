-- The glyphs of one end of a span, at most two: how they are read, and how they are written one by one.
use Rattle.std.proofs.Common.{◌≡◌, ◌∙◌, ap, sym, ℕ, ◌≤◌, ◌+◌, ◌-◌, List, [], ◌∷◌, ◌++◌, take, drop, length, get_or, set, arith, append_assoc, length-append}
use Rattle.std.proofs.lemmas.List.{drop_more, set_at, length-take-le, take-append-drop}
use Rattle.aat_kinds.proofs.Parts.{covered}
use Rattle.aat_kinds.specs.Rearrangement.{in_its_order, size_of}
use Rattle.aat_kinds.specs.declared.verb.Part.{Part}
use Rattle.aat_kinds.specs.declared.verb.Part.TheVariants.{Nothing, One, Two, TwoTurned}

-- a list from place s on, where it has two elements or more
rest_of_two : {X : Type 0} (gs : List X) (s : ℕ) (d : X) → s + 2 ≤ length gs → drop s gs ≡ get_or gs s d ∷ get_or gs (s + 1) d ∷ drop (s + 2) gs
rest_of_two gs s d within =
    let next : s + 1 + 1 ≡ s + 2 = omega arith in
    drop_more gs s d (omega (arith, within)) ∙ ap (λ t. get_or gs s d ∷ t) (drop_more gs (s + 1) d (omega (arith, within)) ∙ ap (λ n. get_or gs (s + 1) d ∷ drop n gs) next)

-- two neighbours are written
put_two : {X : Type 0} (gs : List X) (s e : ℕ) (d x y : X) → s + 2 ≡ e → e ≤ length gs → set (set gs s x) (e - 1) y ≡ covered gs s e (x ∷ y ∷ [])
put_two gs s e d x y fit within =
    let place : e - 1 ≡ s + 1 = omega (arith, fit) in
    let n : length (take s gs) ≡ s = length-take-le s gs (omega (arith, fit, within)) in
    let more : length (take s gs ++ (x ∷ [])) ≡ s + 1 = length-append (take s gs) (x ∷ []) ∙ ap (λ k. k + 1) n in
    let first : set gs s x ≡ take s gs ++ (x ∷ get_or gs (s + 1) d ∷ drop (s + 2) gs) =
    ap (λ t. set t s x) (sym (take-append-drop s gs) ∙ ap (λ t. take s gs ++ t) (rest_of_two gs s d (omega (arith, fit, within))))
    ∙ set_at (take s gs) (get_or gs s d) (get_or gs (s + 1) d ∷ drop (s + 2) gs) x s n in
    ap (λ k. set (set gs s x) k y) place
    ∙ (ap (λ t. set t (s + 1) y) (first ∙ sym (append_assoc (take s gs) (x ∷ []) (get_or gs (s + 1) d ∷ drop (s + 2) gs)))
    ∙ (set_at (take s gs ++ (x ∷ [])) (get_or gs (s + 1) d) (drop (s + 2) gs) y (s + 1) more
    ∙ (append_assoc (take s gs) (x ∷ []) (y ∷ drop (s + 2) gs) ∙ ap (λ k. take s gs ++ (x ∷ y ∷ drop k gs)) fit)))

module _ {X : Type 0} (p : Part) (gs : List X) (s e : ℕ) (d : X) (fit : s + size_of p ≡ e) (within : e ≤ length gs) where
  -- a part of no glyph is put down
  pub put_nothing : (x y : X) → p ≡ Nothing → gs ≡ covered gs s e (in_its_order p (take (size_of p) (x ∷ y ∷ [])))
  put_nothing x y is =
      let none : s ≡ e = (let n = ap size_of is in omega (arith, fit, n)) in
      sym (take-append-drop s gs) ∙ (ap (λ k. take s gs ++ drop k gs) none
      ∙ ap (λ q. covered gs s e (in_its_order q (take (size_of q) (x ∷ y ∷ [])))) (sym is))

  -- one of one glyph is
  pub put_one : (x y : X) → p ≡ One → set gs s x ≡ covered gs s e (in_its_order p (take (size_of p) (x ∷ y ∷ [])))
  put_one x y is =
      let one : s + 1 ≡ e = (let n = ap size_of is in omega (arith, fit, n)) in
      ap (λ t. set t s x) (sym (take-append-drop s gs) ∙ ap (λ t. take s gs ++ t) (drop_more gs s d (omega (arith, one, within))))
      ∙ (set_at (take s gs) (get_or gs s d) (drop (s + 1) gs) x s (length-take-le s gs (omega (arith, one, within)))
      ∙ (ap (λ k. take s gs ++ (x ∷ drop k gs)) one
      ∙ ap (λ q. covered gs s e (in_its_order q (take (size_of q) (x ∷ y ∷ [])))) (sym is)))

  -- one of two is
  pub put_both : (x y : X) → p ≡ Two → set (set gs s x) (e - 1) y ≡ covered gs s e (in_its_order p (take (size_of p) (x ∷ y ∷ [])))
  put_both x y is =
      put_two gs s e d x y (let n = ap size_of is in omega (arith, fit, n)) within
      ∙ ap (λ q. covered gs s e (in_its_order q (take (size_of q) (x ∷ y ∷ [])))) (sym is)

  -- one of two that are turned is
  pub put_turned : (x y : X) → p ≡ TwoTurned → set (set gs s y) (e - 1) x ≡ covered gs s e (in_its_order p (take (size_of p) (x ∷ y ∷ [])))
  put_turned x y is =
      put_two gs s e d y x (let n = ap size_of is in omega (arith, fit, n)) within
      ∙ ap (λ q. covered gs s e (in_its_order q (take (size_of q) (x ∷ y ∷ [])))) (sym is)
