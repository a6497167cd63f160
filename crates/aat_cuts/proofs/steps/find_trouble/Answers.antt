use Rattle.std.proofs.Common.{◌≡◌, ◌&&◌, true, false, refl}
use Rattle.std.proofs.lemmas.List.Elements.{All-weaker}
use Rattle.aat_cuts.specs.Reached.{is_labelled}
use Rattle.aat_cuts.proofs.Liveness.{and_false, and_true, come_unset, found_fit, never_agreed, never_fit, used_behind}
use Rattle.aat_cuts.proofs.steps.find_trouble.Goals as goal

pub returns-in-Some : goal.returns-in-Some
returns-in-Some c =
    let (here, both) = c.in-Some.ensures.some in
    let (uses, labelled) = and_true c.in-Some.step.uses (is_labelled c.as_slice-of_unset.result.now c.in-Some.step.state) both in
    let steps = c.args.steps.now in
    let unset = c.in_ok-unset.unset.items in
    let step = c.in-Some.step in
    let at : is_labelled unset step.state ≡ true = rw c.as_slice-of_unset.ensures.value at labelled in
    (never_fit steps unset c.in_ok-unset.ensures step here uses at, step, here, refl, refl, uses, come_unset steps unset c.in_ok-unset.ensures step.state at)

pub returns-in-Some-first_taken : goal.returns-in-Some-first_taken
returns-in-Some-first_taken c =
    let step = c.in-Some-first_taken.step in
    let (here, both) = c.in-Some-first_taken.ensures.some in
    let (differs, labelled) = and_true step.differs (is_labelled c.as_slice-of_live.result.now step.next) both in
    let steps = c.args.steps.now in
    let live = c.in_ok-live.live.items in
    let at : is_labelled live step.next ≡ true = rw c.as_slice-of_live.ensures.value at labelled in
    (never_agreed steps live c.in_ok-live.ensures step here differs at, step, here, refl, refl, differs, used_behind steps live c.in_ok-live.ensures step.next at)

pub returns : goal.returns
returns c =
    let unset = c.in_ok-unset.unset.items in
    let live = c.in_ok-live.live.items in
    let set = simp c.as_slice-of_unset.ensures.value at c.in_default.ensures.none in
    let agreed = simp c.as_slice-of_live.ensures.value at c.in_default-first_taken.ensures.none in
    (is_labelled live, found_fit c.args.steps.now unset c.in_ok-unset.ensures live c.in_ok-live.ensures (All-weaker (λ s. (s.uses && is_labelled unset s.state) ≡ false) (λ s. s.uses ≡ true → is_labelled unset s.state ≡ false) (λ s none. and_false _ _ none) c.args.steps.now set) (All-weaker (λ s. (s.differs && is_labelled live s.next) ≡ false) (λ s. s.differs ≡ true → is_labelled live s.next ≡ false) (λ s none. and_false _ _ none) c.args.steps.now agreed))
