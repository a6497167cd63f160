use Rattle.std.proofs.Common.{◌≡◌, ◌+◌, ◌<◌, ℕ, List, true, length, refl, subst, sym, arith}
use Rattle.aat_findings.specs.Reached.{AreExactly}
use Rattle.aat_findings.specs.inside.Marks.{is_marked}
use Rattle.aat_findings.proofs.Exactly.{exactly_more, exactly_none}
use Rattle.aat_findings.proofs.ligatures.marked.Goals as goal

pub loop-number-init : goal.loop-number-init
loop-number-init c = exactly_none (is_marked c.args.marks.now) c.new-numbers.result.items c.new-numbers.ensures.items

pub loop-number-preserved : goal.loop-number-preserved
loop-number-preserved c =
    let marks = c.args.marks.now in
    let number = c.loop-number.number in
    subst (λ (l : List ℕ). AreExactly (λ n. (n < number + 1) × (is_marked marks n ≡ true)) l) (sym c.in_ok-push_place.ensures) (exactly_more (is_marked marks) number c.loop-number.numbers.items (is_marked marks number) refl c.loop-number.invariant)

pub returns : goal.returns
returns c =
    let all : c.loop-number.number ≡ length c.args.marks.now = omega arith in
    subst (λ (k : ℕ). AreExactly (λ n. (n < k) × (is_marked c.args.marks.now n ≡ true)) c.loop-number.numbers.items) all c.loop-number.invariant
