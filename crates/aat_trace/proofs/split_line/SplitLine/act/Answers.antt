use Rattle.std.proofs.Common.{◌≡◌, ◌∙◌, ◌++◌, ap, sym, refl, reverse, ℕ, List, Some, length, append_assoc, arith}
use Rattle.aat_trace.specs.inside.Split.{line_of}
use Rattle.aat_trace.proofs.SplitActs.{acted}
use Rattle.aat_trace.proofs.split_line.SplitLine.act.Goals as goal

pub returns : goal.returns
returns c = λ _.
    let a = c.args.act.now in
    let front : List ℕ = c.move_on.new.self.front.items in
    let rest : List ℕ = reverse c.take.new.self.behind.items in
    let at : length front ≡ a.place = omega arith in
    let had : line_of c.args.self.now ≡ front ++ (a.taken.items ++ rest) =
    sym c.in_ok-move_back.ensures ∙ sym c.in_ok-move_on.ensures
    ∙ ap (λ (xs : List ℕ). front ++ xs) (c.if-not-take.ensures.taken refl ∙ ap (λ (xs : List ℕ). xs ++ rest) c.deref.ensures.value) in
    let put : c.extend_from_slice.new.self.items ≡ front ++ a.put.items =
    c.in_ok-extend_from_slice.ensures.items ∙ ap (λ (xs : List ℕ). xs ++ c.deref-2.result.now) c.take.ensures.front ∙ ap (λ (xs : List ℕ). front ++ xs) c.deref-2.ensures.value in
    acted a (line_of c.args.self.now) front rest at had
    ∙ ap Some (sym (append_assoc front a.put.items rest) ∙ ap (λ (xs : List ℕ). xs ++ rest) (sym put))
