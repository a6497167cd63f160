-- Closing runs one after another: one more run, and why one of them is refused.
use Rattle.std.proofs.Common.{◌≡◌, ◌∙◌, ap, sym, subst, refl, ℕ, ◌+◌, ◌<◌, ◌≤◌, ◌&&◌, true, List, [], ◌∷◌, ◌++◌, take, length, get_or, arith}
use Rattle.std.proofs.Math.Bool.{and-true, and_assoc}
use Rattle.std.proofs.lemmas.List.{take_more}
use Rattle.std.specs.Prelude.{fold}
use Rattle.aat_buffer.specs.Buffer.{Buffer}
use Rattle.aat_run.specs.Driven.{IsRefusal}
use Rattle.aat_run.specs.Outcome.{Outcome, in_order, then_run, untouched}
use Rattle.aat_run.specs.declared.error.AatError.{AatError}
use Rattle.aat_run.specs.facts.InOrder.{in_order_lengthens}
use Rattle.aat_morx.proofs.Refused.{refusal_within}
use Rattle.aat_closing.specs.ClosingRuns.{Told, told_in_order}

-- another run behind one, which tell where both do
abbrev pub told_then : Told → (Buffer → Told) → Told
told_then o run =
    let d = run o.buffer in record { buffer = d.buffer; turns = o.turns + d.turns; is_told = o.is_told && d.is_told }

-- what a run left, whether it told or not
abbrev pub left_by : Told → Outcome
left_by o = record { buffer = o.buffer; turns = o.turns }

module _ {X : Type 0} (run : X → Buffer → Told) where
  -- a run behind all of them
  told_append : (xs : List X) (x : X) (b : Buffer) → told_in_order run (xs ++ (x ∷ [])) b ≡ told_then (told_in_order run xs b) (run x)
  unfolding told_in_order
  told_append [] x b =
      let o : Told = run x b in
      let turns : o.turns + 0 ≡ 0 + o.turns = omega arith in
      let told : (o.is_told && true) ≡ o.is_told = and-true o.is_told in
      λ i. record { buffer = o.buffer; turns = turns i; is_told = told i }
  told_append (y ∷ ys) x b =
      let o : Told = run y b in
      let d : Told = told_in_order run ys o.buffer in
      let f : Told = run x d.buffer in
      let turns : o.turns + (d.turns + f.turns) ≡ o.turns + d.turns + f.turns = omega arith in
      let told : (o.is_told && (d.is_told && f.is_told)) ≡ ((o.is_told && d.is_told) && f.is_told) = sym (and_assoc o.is_told d.is_told f.is_told) in
      ap (λ (e : Told). record { buffer = e.buffer; turns = o.turns + e.turns; is_told = o.is_told && e.is_told }) (told_append ys x o.buffer)
      ∙ (λ i. record { buffer = f.buffer; turns = turns i; is_told = told i })

  -- one run more, of x, which is the element at place i
  pub told_more : (xs : List X) (i : ℕ) (x : X) (b : Buffer) → i < length xs → x ≡ get_or xs i x → told_in_order run (take (i + 1) xs) b ≡ told_then (told_in_order run (take i xs) b) (run x)
  told_more xs i x b below read =
      ap (λ ys. told_in_order run ys b) (take_more xs i x below ∙ ap (λ y. take i xs ++ (y ∷ [])) (sym read)) ∙ told_append (take i xs) x b

  abbrev leaves : X → Buffer → Outcome
  leaves x b = left_by (run x b)

  left_behind : (xs : List X) (o : Outcome) → (fold (λ (n : Outcome) x. then_run n (leaves x)) o xs).buffer ≡ (told_in_order run xs o.buffer).buffer
  unfolding told_in_order
  left_behind [] o = refl
  left_behind (x ∷ xs) o = left_behind xs (then_run o (leaves x))

  left : (xs : List X) (b : Buffer) → (in_order leaves xs b).buffer ≡ (told_in_order run xs b).buffer
  left xs b = left_behind xs (untouched b)

  module _ (each : (x : X) (b : Buffer) → length b.line ≤ length (run x b).buffer.line) where
    -- runs none of which shortens the line do not shorten it
    pub told_lengthens : (xs : List X) (b : Buffer) → length b.line ≤ length (told_in_order run xs b).buffer.line
    told_lengthens xs b = subst (λ (d : Buffer). length b.line ≤ length d.line) (left xs b) (in_order_lengthens leaves xs b each)

    -- a refusal of run i is one of them all
    pub told_refusal_within : (xs : List X) (i : ℕ) (x : X) (b d : Buffer) (e : AatError) → i < length xs → x ≡ get_or xs i x
        → d ≡ (told_in_order run (take i xs) b).buffer → d.max_len ≡ b.max_len → IsRefusal d (run x d).buffer e → IsRefusal b (told_in_order run xs b).buffer e
    told_refusal_within xs i x b d e below read here same h =
        subst (λ (v : Buffer). IsRefusal b v e) (left xs b)
        (refusal_within leaves xs i x b d e each below read (here ∙ sym (left (take i xs) b)) same h)
