-- What a machine that is off at each cluster does: it passes the glyphs, in a turn for each and one more.
use Rattle.std.proofs.Common.{◌≡◌, ◌∙◌, ℕ, zero, suc, ◌+◌, ◌<◌, true, false, length, refl, arith}
use Rattle.std.proofs.lemmas.Bool.Decides.{nat_tests}
use Rattle.aat_buffer.specs.Buffer.{with_cursor}
use Rattle.aat_run.specs.Budget.{potential}
use Rattle.aat_run.specs.Context.{Machine, Config, is_at_end}
use Rattle.aat_run.specs.Machine.{Ends, Goes, counted, off, passed, run, turn, run_to_end}
use Rattle.aat_run.specs.facts.MachineRuns.{turn_when_off}
use Rattle.aat_run.specs.facts.Runs.{run_step}

-- so many turns pass the glyphs that are left: the cursor comes to the end, and else the buffer stays, as the registers do
pub record IsPassedOver {R : Type 0} (c d : Config R) (turns : ℕ) : Type 0 where
  pub buffer : with_cursor d.buffer 0 ≡ with_cursor c.buffer 0
  pub registers : d.registers ≡ c.registers
  pub counted : d.turns ≡ c.turns + turns
  pub at_end : is_at_end d.buffer ≡ true

module _ {R E : Type 0} (m : Machine R E) (nowhere : (x : ℕ) → m.on x ≡ false) where
  -- a turn before the end passes a glyph
  off_inside : (c : Config R) → c.buffer.cursor < length c.buffer.line → turn m c ≡ Goes (record (counted m c) { buffer = passed c.buffer; state = 0 })
  unfolding off
  off_inside c below =
      let inside : is_at_end c.buffer ≡ false = grind (arith, nat_tests, below) in
      turn_when_off m c (nowhere _) ∙ rw inside refl

  -- one at the end ends
  off_at_end : (c : Config R) → c.buffer.cursor ≡ length c.buffer.line → turn m c ≡ Ends (counted m c)
  unfolding off
  off_at_end c there =
      let end : is_at_end c.buffer ≡ true = grind (arith, nat_tests, there) in
      turn_when_off m c (nowhere _) ∙ rw end refl

  -- n turns are enough for k glyphs
  passed_by : (n k : ℕ) (c : Config R) → c.buffer.cursor + k ≡ length c.buffer.line → k < n → IsPassedOver c (run (turn m) n c) (k + 1)
  passed_by zero k c there enough = absurd (omega arith)
  passed_by (suc n) zero c there enough =
      let end : is_at_end c.buffer ≡ true = grind (arith, nat_tests, there) in
      rw (run_step (turn m) n c, off_at_end c (omega (arith, there))) (record { buffer = refl; registers = refl; counted = refl; at_end = end })
  passed_by (suc n) (suc k) c there enough =
      let d : Config R = record (counted m c) { buffer = passed c.buffer; state = 0 } in
      let rest = passed_by n k d (omega (arith, there)) (omega (arith, enough)) in
      rw (run_step (turn m) n c, off_inside c (omega (arith, there)))
      (record { buffer = rest.buffer; registers = rest.registers; counted = omega (arith, rest.counted); at_end = rest.at_end })

  -- the whole run from the front
  pub passed_over : (c : Config R) → c.buffer.cursor ≡ 0 → IsPassedOver c (run_to_end m c) (length c.buffer.line + 1)
  unfolding run_to_end
  passed_over c front = passed_by (potential c.buffer + 1) (length c.buffer.line) c (omega (arith, front)) (omega (arith, front))
