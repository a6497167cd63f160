use Rattle.std.proofs.Common.{◌≡◌, ◌+◌, ◌-◌, ◌<◌, ◌∙◌, ℕ, suc, true, false, ap, sym, arith}
use Rattle.aat_findings.specs.Growth.{class_behind, is_cell, leads_to}
use Rattle.aat_findings.proofs.Growing.{leads_never, leads_nowhere, leads_off, leads_on, leads_there}
use Rattle.aat_findings.proofs.growth.comes_back.Goals as goal

one_less : (turn : ℕ) → turn < 64 → 64 - turn ≡ suc (64 - (turn + 1))
one_less turn below = omega arith

pub returns-in_default : goal.returns-in_default
returns-in_default c =
    let table = c.args.table.now in
    let glyphs = c.args.glyphs.now in
    let start = c.args.start in
    let l = c.loop-turn in
    let here = ap (λ (n : ℕ). leads_to table glyphs start n (l.state, l.class)) (one_less l._turn c.loop-turn-test.true) in
    let none = leads_nowhere table glyphs start (64 - (l._turn + 1)) l.state l.class (sym c.entry.ensures ∙ c.in_default.is) in
    sym (l.invariant ∙ here ∙ none)

pub returns-then-not-stays_at : goal.returns-then-not-stays_at
returns-then-not-stays_at c =
    let table = c.args.table.now in
    let glyphs = c.args.glyphs.now in
    let start = c.args.start in
    let l = c.loop-turn in
    let here = ap (λ (n : ℕ). leads_to table glyphs start n (l.state, l.class)) (one_less l._turn c.loop-turn-test.true) in
    let off = leads_off table glyphs start (64 - (l._turn + 1)) l.state l.class c.in-Some.entry (sym c.entry.ensures ∙ c.in-Some.is) (sym c.stays_at.ensures ∙ c.if-not-stays_at.true) in
    sym (l.invariant ∙ here ∙ off)

pub returns-then-is_cell : goal.returns-then-is_cell
returns-then-is_cell c =
    let table = c.args.table.now in
    let glyphs = c.args.glyphs.now in
    let start = c.args.start in
    let l = c.loop-turn in
    let e = c.in-Some.entry in
    let here = ap (λ (n : ℕ). leads_to table glyphs start n (l.state, l.class)) (one_less l._turn c.loop-turn-test.true) in
    let there : is_cell start e.new_state (class_behind table glyphs e l.class) ≡ true = ap (λ (k : ℕ). is_cell start e.new_state k) (sym c.class_behind-class.ensures) ∙ sym c.is_cell.ensures ∙ c.if-is_cell.true in
    let on = leads_there table glyphs start (64 - (l._turn + 1)) l.state l.class e (sym c.entry.ensures ∙ c.in-Some.is) (sym c.stays_at.ensures ∙ c.if-not-stays_at.false) there in
    sym (l.invariant ∙ here ∙ on)

pub loop-turn-preserved : goal.loop-turn-preserved
loop-turn-preserved c =
    let table = c.args.table.now in
    let glyphs = c.args.glyphs.now in
    let start = c.args.start in
    let l = c.loop-turn in
    let e = c.in-Some.entry in
    let here = ap (λ (n : ℕ). leads_to table glyphs start n (l.state, l.class)) (one_less l._turn c.loop-turn-test.true) in
    let other : is_cell start e.new_state (class_behind table glyphs e l.class) ≡ false = ap (λ (k : ℕ). is_cell start e.new_state k) (sym c.class_behind-class.ensures) ∙ sym c.is_cell.ensures ∙ c.if-is_cell.false in
    let on = leads_on table glyphs start (64 - (l._turn + 1)) l.state l.class e (sym c.entry.ensures ∙ c.in-Some.is) (sym c.stays_at.ensures ∙ c.if-not-stays_at.false) other in
    l.invariant ∙ here ∙ on ∙ ap (λ (k : ℕ). leads_to table glyphs start (64 - (l._turn + 1)) (e.new_state, k)) (sym c.class_behind-class.ensures)

pub returns : goal.returns
returns c =
    let table = c.args.table.now in
    let glyphs = c.args.glyphs.now in
    let start = c.args.start in
    let l = c.loop-turn in
    let done : 64 - l._turn ≡ 0 = omega arith in
    sym (l.invariant ∙ ap (λ (n : ℕ). leads_to table glyphs start n (l.state, l.class)) done ∙ leads_never table glyphs start (l.state, l.class))
