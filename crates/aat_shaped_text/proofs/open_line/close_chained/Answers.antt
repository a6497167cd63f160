use Rattle.std.proofs.Common.{◌≡◌, ◌∙◌, ◌+◌, ◌-◌, ◌<◌, ◌≤◌, ◌&&◌, Bool, ap, arith, false, get_or, length, min, nat_le, suc, sym, ℕ}
use Rattle.std.proofs.lemmas.List.{get_or-set_other, length-set}
use Rattle.std.specs.Prelude.{Option, unwrap_or}
use Rattle.aat_shaped_text.specs.Breaks.{is_unchained}
use Rattle.aat_shaped_text.proofs.Chained.{are_from, from_more}
use Rattle.aat_shaped_text.proofs.KeptCounts.{changed_more}
use Rattle.aat_shaped_text.proofs.open_line.close_chained.Goals as goal

pub loop-behind-preserved : goal.loop-behind-preserved
loop-behind-preserved c =
    let d = c.args.direction in
    let qs = c.args.positions.now in
    let old = c.args.places.now in
    let n = length old in
    let so_far = c.loop-behind.places in
    let b = c.loop-behind.behind in
    let v = c.loop-behind.invariant in
    let same_length = v.len in
    let low : b < n = omega (arith, c.loop-behind-test.true, same_length) in
    let a = length so_far - 1 - b in
    let a_is : a ≡ n - (b + 1) = omega (arith, same_length, low) in
    let next : a + 1 ≡ n - b = omega (arith, same_length, low) in
    let least = c.min-least.result in
    let one : suc b ≡ b + 1 = omega arith in
    let from : (i : ℕ) → i ≤ n → are_from d qs (n - (b + 1)) (b + 1) i ≡ nat_le i least =
    λ i most.
    ap (λ (m : ℕ). are_from d qs m (b + 1) i) (sym a_is)
    ∙ (ap (λ (m : ℕ). are_from d qs a m i) (sym one)
    ∙ (from_more d qs a b c.loop-behind.least i (ap (λ (m : ℕ). are_from d qs m b i) next ∙ v.below i most)
    ∙ ap (λ (m : ℕ). nat_le i m)
    (ap (λ (m : ℕ). min c.loop-behind.least m) (sym (c.unwrap_or.ensures ∙ ap (λ (o : Option ℕ). unwrap_or o c.loop-behind.least) c.parent_of.ensures.value)) ∙ sym c.min-least.ensures))) in
    let x = get_or so_far a false && nat_le a least in
    let test : ℕ → Bool = λ i. get_or old i false && is_unchained d qs i in
    let whole : n - a ≡ b + 1 = omega (arith, same_length, low) in
    let long : length qs ≡ n = sym c.requires.count in
    let unchained : nat_le a least ≡ is_unchained d qs a =
    sym (from a (omega (arith, low, same_length)))
    ∙ (ap (λ (m : ℕ). are_from d qs m (b + 1) a) (sym a_is)
    ∙ (ap (λ (m : ℕ). are_from d qs a m a) (sym whole) ∙ ap (λ (m : ℕ). are_from d qs a (m - a) a) (sym long))) in
    let is : x ≡ test a =
    ap (λ (t : Bool). t && nat_le a least) (v.rest a (omega (arith, low, same_length)))
    ∙ ap (λ (t : Bool). get_or old a false && t) unchained in
    record {
      len = length-set so_far a x ∙ v.len;
      below = from;
      done = λ i above within. changed_more so_far a x test (omega (arith, low, same_length)) is i (λ other. v.done i (omega (arith, above, other, same_length, low)) within);
      rest = λ i below. get_or-set_other so_far a i x false (λ same. omega (arith, below, same, same_length, low)) ∙ v.rest i (omega (arith, below));
    }
