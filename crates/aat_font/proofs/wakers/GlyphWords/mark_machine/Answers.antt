use Rattle.std.proofs.Common.{◌≤◌, ℕ, arith}
use Rattle.std.specs.Int.{bit_at}
use Rattle.std.proofs.lemmas.Grind.{common_steps}
use Rattle.std.proofs.lemmas.Result.{on_ok_weaker}
use Rattle.aat_font.specs.Wakers.{word_of}
use Rattle.aat_font.proofs.wakers.GlyphWords.mark_machine.Goals as goal
use Rattle.aat_font.proofs.wakers.GlyphWords.mark_machine.Goals.{then-not-is_idle_class-2+in_ok-mark, else-not-is_idle_class-2}

-- answered here, so that a wrong body is refused sooner
pub returns-clause-awake : goal.returns-clause-awake
returns-clause-awake g c = grind (arith, common_steps)

pub returns-clause-kept : goal.returns-clause-kept
returns-clause-kept g c =
    let first : (glyph k : ℕ) → bit_at (word_of c.args.self.now glyph) k ≤ bit_at (word_of c.if-not-is_idle_class-2.self glyph) k =
    elim c.if-not-is_idle_class-2.branch [
      | then-not-is_idle_class-2+in_ok-mark w ↦ rw w.self-is w.in_ok-mark.ensures.kept
      | else-not-is_idle_class-2 w ↦ rw w.self-is (λ glyph k. omega arith)
    ] in
    on_ok_weaker c.mark_classes.result (λ kept glyph k. omega (arith, first glyph k, kept glyph k)) c.mark_classes.ensures.kept
