use Rattle.std.proofs.Common.{◌≡◌, ap, ℕ, ◌+◌, ◌<◌, true, nat_lt, length, arith}
use Rattle.std.proofs.lemmas.Bool.Decides.{nat_tests}
use Rattle.aat_buffer.specs.Buffer.{glyph_at}
use Rattle.aat_kerning_machines.specs.inside.Passing.{is_passed}
use Rattle.aat_kerning_machines.proofs.Passed.{one_more}
use Rattle.aat_kerning_machines.proofs.passing.passed_count.Goals as goal

pub loop-glyph-preserved : goal.loop-glyph-preserved
loop-glyph-preserved g c =
    let was = c.loop-glyph.invariant in
    let P : ℕ → Type 0 = λ i. is_passed g.D.StateTableDriver.resting c.args.run.now.state_table.now (glyph_at c.args.glyphs.now i).glyph_id ≡ true in
    let here : P c.loop-glyph.glyph-index = rw (← c.first_entry-entry.ensures, ← c.does_pass.ensures) c.if-not-does_pass.false in
    record {
      counted = ap (λ (n : ℕ). n + 1) was.counted;
      passed = one_more P c.loop-glyph.count was.passed (rw was.counted here);
    }

pub returns-then-not-does_pass-clause-entry : goal.returns-then-not-does_pass-clause-entry
returns-then-not-does_pass-clause-entry g c =
    let was = c.loop-glyph.invariant in
    let below : c.loop-glyph.glyph-index < length c.args.glyphs.now = omega (arith, c.loop-glyph-test.true) in
    let test : nat_lt c.loop-glyph.glyph-index (length c.args.glyphs.now) ≡ true = grind (arith, nat_tests, below) in
    rw (was.counted, test) c.first_entry-entry.ensures
