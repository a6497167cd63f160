use Rattle.std.proofs.Common.{◌≡◌, ◌+◌, ◌*◌, ◌/◌, ◌%◌, ◌<◌, ◌≤◌, ◌⊎◌, inl, inr, ℕ, [], ◌∷◌, ◌++◌, sym, ap, ◌∙◌, zero-add, le_refl, arith}
use Rattle.std.proofs.lemmas.Bool.{cases_lt}
use Rattle.std.proofs.lemmas.List.FromFn.{map-range_with_len_more}
use Rattle.std.proofs.lemmas.Nat.{div-mul-add, mod-mul-add, mul-le}
use Rattle.aat_read_machine.specs.Entries.{entry_at}
use Rattle.aat_read_machine.specs.StateArray.{StateArray, entry_place, rule_of, rules_of}
use Rattle.aat_read_machine.proofs.state_array.StateArray.rules.Goals as goal
use Rattle.aat_read_machine.proofs.state_array.StateArray.rules.Goals.{then-class-class_count, else-class-class_count}

few_states : (s w k n : ℕ) → s * w + k ≡ n → n < 65536 * w → (s < 65536) ⊎ (65536 ≤ s) → s < 65536
few_states s w k n is below (inl lt) = lt
few_states s w k n is below (inr le) = absurd (omega (arith, is, below, mul-le 65536 w s w le (le_refl w)))

pub rule_at-requires-clause-small : goal.rule_at-requires-clause-small
rule_at-requires-clause-small g c =
    let width = ap (λ (m : StateArray). m.class_count) c.self.view_is in
    omega (arith, width, c.requires.few)

pub overflow_add-class : goal.overflow_add-class
overflow_add-class g c =
    let width = ap (λ (m : StateArray). m.class_count) c.self.view_is in
    omega (arith, width, c.loop-cell.invariant.class)

pub overflow_add-state : goal.overflow_add-state
overflow_add-state g c =
    let below : c.loop-cell.cell < 65536 * c.args.self.now.class_count = omega (arith, c.requires.few) in
    let state = c.loop-cell.state in
    let few = few_states state c.args.self.now.class_count c.loop-cell.class c.loop-cell.cell c.loop-cell.invariant.place below (cases_lt state 65536) in
    omega (arith, few)

pub loop-cell-preserved : goal.loop-cell-preserved
loop-cell-preserved g c =
    let m = c.args.self.now in
    let width = ap (λ (m : StateArray). m.class_count) c.self.view_is in
    let cell = c.loop-cell.cell in
    let state = c.loop-cell.state in
    let class = c.loop-cell.class in
    let before = c.loop-cell.invariant in
    let rule = rule_of g.T.EntryRead.extra_at m in
    let divided : state ≡ cell / m.class_count = sym (div-mul-add state m.class_count class before.class) ∙ ap (λ n. n / m.class_count) before.place in
    let rest : class ≡ cell % m.class_count = sym (mod-mul-add state m.class_count class before.class) ∙ ap (λ n. n % m.class_count) before.place in
    let entry = entry_at g.T.EntryRead.extra_at m.bytes (entry_place m cell) in
    let here : c.rule_at.result ≡ rule cell =
    c.rule_at.ensures ∙ ap (λ s. (s, class, entry)) divided ∙ ap (λ k. (cell / m.class_count, k, entry)) rest in
    let more : c.push.new.self.items ≡ rules_of g.T.EntryRead.extra_at m (cell + 1) =
    c.in_ok-push.ensures.items ∙ ap (λ xs. xs ++ c.rule_at.result ∷ []) before.rules
    ∙ ap (λ r. rules_of g.T.EntryRead.extra_at m cell ++ r ∷ []) here
    ∙ sym (map-range_with_len_more rule 0 cell cell (zero-add cell)) in
    elim c.if-class-class_count.branch [
      | then-class-class_count w ↦ record {
        rules = more;
        place = ap (λ s. s * m.class_count + c.if-class-class_count.class) w.state-is ∙ omega (arith, width, w.class-is, w.if-class-class_count.true, before.place);
        class = omega (arith, w.class-is, before.class);
      }
      | else-class-class_count w ↦ record {
        rules = more;
        place = ap (λ s. s * m.class_count + c.if-class-class_count.class) w.state-is ∙ omega (arith, w.class-is, before.place);
        class = omega (arith, width, w.class-is, w.if-class-class_count.false, before.class);
      }
    ]
