-- The closing run of a subtable that no glyph of a line wakes, in the order of its coverage.
use Rattle.std.proofs.Common.{◌≡◌, ◌∙◌, ap, ℕ, ◌&&◌, not, Bool, true, false, cond, arith}
use Rattle.std.proofs.lemmas.List.{length-reverse}
use Rattle.aat_buffer.specs.Buffer.{Buffer, reversed}
use Rattle.aat_machine_tables.specs.declared.morx.Subtable.{Subtable}
use Rattle.aat_kinds.specs.Kinds.{Sizes, is_reversed}
use Rattle.aat_morx.proofs.Asleep.{turned_idle, turned_rest}
use Rattle.aat_morx.specs.LineWords.{IsAsleep}
use Rattle.aat_morx.specs.Substitution.{is_skipped}
use Rattle.aat_run.specs.Outcome.{Outcome}
use Rattle.aat_run.specs.Switches.{Switch}
use Rattle.aat_closing.proofs.IdleClosing.{idle_closing, told_at_rest}
use Rattle.aat_closing.specs.ClosingChains.{closing_subtable}
use Rattle.aat_closing.specs.ClosingRuns.{Told, closing_run, may_split, turned}

module _ (z : Sizes) (switch : Switch) (s : Subtable) (b : Buffer) (asleep : IsAsleep s b.line) where
  abbrev on : ℕ → Bool
  on = switch.is_on s.feature_flags

  by_turn : (t : Bool) → cond t (turned (may_split s.kind) (closing_run z on s.kind) b) (closing_run z on s.kind b) ≡ told_at_rest (not (t && may_split s.kind)) s.kind b
  by_turn false = idle_closing z on s.kind b asleep.0 asleep.1
  by_turn true =
      let ran = idle_closing z on s.kind (reversed b) (omega (arith, asleep.0, length-reverse b.line)) (turned_idle s.kind b.line asleep.1) in
      ap (λ (o : Told). record { buffer = reversed o.buffer; turns = o.turns; is_told = o.is_told && not (may_split s.kind) }) ran
      ∙ ap (λ (o : Outcome). record { buffer = o.buffer; turns = o.turns; is_told = not (may_split s.kind) }) (turned_rest s.kind b)

  -- one that is not left out tells, unless it may split clusters, and its line is turned round
  pub asleep_closing : is_skipped switch s b.direction ≡ false → closing_subtable z switch s b ≡ told_at_rest (not (is_reversed s.coverage b.direction && may_split s.kind)) s.kind b
  unfolding closing_subtable
  asleep_closing runs = rw runs (by_turn (is_reversed s.coverage b.direction))
