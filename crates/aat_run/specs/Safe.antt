-- Where a turn of the rewriting machine leaves the line without a mark before the cursor. (No chapter of the manual:
-- break safety is the shaper's own.)
use Rattle.std.specs.Prelude.{Bool, Option, length}
use Rattle.aat_machine_tables.specs.Judged.{is_safe_turn}
use Rattle.aat_run.specs.Context.{Machine, Config}

-- What the mark tells. A text that is cut before the cursor is shaped in two parts. The first one ends here, with the
-- entry for the end of the text, and the second one begins at this glyph, in state 0, that for the start of the text.
-- The test looks at three entries: e, which the turn takes, the one that state 0 has for the same class, and the one
-- that the same state has for the end. It asks whether they are actionable by the registers of this turn, and whether
-- state 0 leads to the state that the run comes to. Where a turn leaves no mark it passed this test, and no more.
-- It is not told that the two parts, shaped apart, look as the line does:
-- - the registers are not compared, and they outlive state 0: a later act may use what was set before the cut. The row
--   `a_register_outlives_the_first_state` of ligatures is such a line: its second glyph has no mark, and yet in two
--   parts the first glyph stays, which in the whole text becomes a ligature;
-- - an entry that is not actionable may set registers, and some act by what they set themselves, also at the end;
-- - an entry that stays moves on where the budget is used up, and each part has a budget of its own;
-- - where the machine is off no turn asks.
-- The conditions, as HarfBuzz numbers them:
-- 1. e is not actionable, since its act could use what was marked before the cut;
-- 2. the second part is led as the run is, since
--    2a. the state is 0; or
--    2b. e stays and goes to state 0, so that the glyph is looked at again from there; or
--    2c. state 0 has an entry that is not actionable, goes to the same state as e and advances as e does;
-- 3. the state has an entry for the end, which is not actionable.
-- Registers, cursor and length are those before the act.
unfoldable pub is_safe : {R E : Type 0} → Machine R E → E → Option E → Option E → Config R → Bool
is_safe {R} {E} m e from_start at_end c =
    let acts : E → Bool = λ f. m.actionable f c.registers c.buffer.cursor (length c.buffer.line) in
    is_safe_turn acts m.advances m.next c.state e from_start at_end
