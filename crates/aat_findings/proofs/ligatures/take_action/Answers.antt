use Rattle.std.proofs.Common.{◌≡◌, ◌∙◌, ℕ, List, true, not, length, get_or, subst, sym, ap, arith}
use Rattle.aat_findings.specs.Ligatures.{is_last}
use Rattle.aat_findings.specs.inside.Making.{AreMarksOf, IsAfter}
use Rattle.aat_findings.proofs.Making.{marks_after}
use Rattle.aat_findings.proofs.Marking.{written_back}
use Rattle.aat_findings.proofs.ligatures.take_action.Goals as goal

pub add_sums-requires-2 : goal.add_sums-requires-2
add_sums-requires-2 c = sym (ap length c.deref_mut.ensures.value ∙ c.in_ok-next.ensures.long)

pub copy_from_slice-requires : goal.copy_from_slice-requires
copy_from_slice-requires c = omega (arith, c.deref.ensures.len, c.in_ok-next.ensures.long)

pub returns-clause-made : goal.returns-clause-made
returns-clause-made c = c.add_sums.ensures

pub returns-clause-long : goal.returns-clause-long
returns-clause-long c = c.copy_from_slice.ensures.len

pub returns-clause-sums : goal.returns-clause-sums
returns-clause-sums c =
    let sums = c.args.sums.now in
    let next = c.add_sums-2.new.marks in
    let clear : (n : ℕ) → get_or c.deref_mut.result.now n 0 ≡ 0 = λ n. ap (λ (l : List ℕ). get_or l n 0) c.deref_mut.ensures.value ∙ c.in_ok-next.ensures.zero n in
    let found = marks_after c.deref_mut.result.now next (λ n. (not (is_last c.args.action) ≡ true) × IsAfter c.args.values.now c.args.held.now c.args.action sums n) clear c.add_sums-2.ensures in
    let long : length next ≡ c.in_ok-next.next.len = omega (arith, c.add_sums-2.ensures.long, c.deref_mut.ensures.len) in
    subst (λ (l : List ℕ). AreMarksOf (λ n. (not (is_last c.args.action) ≡ true) × IsAfter c.args.values.now c.args.held.now c.args.action sums n) l) (sym (c.copy_from_slice.ensures.after ∙ c.deref.ensures.value)) (written_back (λ (l : List ℕ). AreMarksOf (λ n. (not (is_last c.args.action) ≡ true) × IsAfter c.args.values.now c.args.held.now c.args.action sums n) l) c.in_ok-next.next.len next _ long found)
