use Rattle.std.proofs.Common.{◌≡◌, ◌+◌, ◌<◌, ℕ, List, true, subst, sym, arith}
use Rattle.aat_findings.specs.Named.{is_unnamed}
use Rattle.aat_findings.specs.Reached.{AreExactly}
use Rattle.aat_findings.proofs.Exactly.{exactly_more, exactly_none}
use Rattle.aat_findings.proofs.named.unnamed_in.Goals as goal

pub loop-place-init : goal.loop-place-init
loop-place-init c = exactly_none (is_unnamed c.args.marks.now c.args.rules.now) c.new-places.result.items c.new-places.ensures.items

pub loop-place-preserved : goal.loop-place-preserved
loop-place-preserved c =
    let place = c.loop-place.place in
    subst (λ (l : List ℕ). AreExactly (λ m. (m < place + 1) × (is_unnamed c.args.marks.now c.args.rules.now m ≡ true)) l) (sym c.in_ok-push_place.ensures) (exactly_more (is_unnamed c.args.marks.now c.args.rules.now) place c.loop-place.places.items c.is_unnamed-unnamed.result (sym c.is_unnamed-unnamed.ensures) c.loop-place.invariant)

pub returns : goal.returns
returns c =
    let all : c.loop-place.place ≡ c.args.count = omega arith in
    subst (λ (n : ℕ). AreExactly (λ i. (i < n) × (is_unnamed c.args.marks.now c.args.rules.now i ≡ true)) c.loop-place.places.items) all c.loop-place.invariant
