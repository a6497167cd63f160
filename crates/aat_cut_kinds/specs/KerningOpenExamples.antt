-- A line that is cut, and where a run leaves it and its front open: why an open place asks that the end of the text
-- clears nothing.
use Rattle.std.specs.Prelude.{◌≡◌, ℕ, true, false, pos, [], ◌∷◌}
use Rattle.aat_buffer.specs.Buffer.{Buffer}
use Rattle.aat_cut_kinds.specs.KerningCuts.{KernedRun, kern_stack, placed_front}
use Rattle.aat_cut_kinds.specs.KerningExamples.{kern_entry, kern_line, kern_table}

-- glyph 1 is pushed, glyph 2 is not, and glyph 3 leads to state 1; with these flags at the end of the text in state 0
abbrev pub ending_with : ℕ → KernedRun
ending_with flags =
    kern_stack true false 8 [] (kern_table ((2, 3) ∷ (3, 4) ∷ [])
    ((0, 0, kern_entry 0 flags 0xFFFF) ∷ (0, 1, kern_entry 0 0x8000 0xFFFF) ∷ (0, 4, kern_entry 1 0 0xFFFF) ∷ []))

-- eight glyphs that are pushed, and two that are not
abbrev pub eight_and_two : Buffer
eight_and_two =
    kern_line (pos 100)
    ((1, 0) ∷ (1, 1) ∷ (1, 2) ∷ (1, 3) ∷ (1, 4) ∷ (1, 5) ∷ (1, 6) ∷ (1, 7) ∷ (2, 8) ∷ (3, 9) ∷ [])

-- Place 7 of the line is open. In the front of nine glyphs it is closed where the end of the text pushes: that clears
-- the eight places before it. So place 9 is closed there, and open where the end of the text does nothing.
pub record KerningOpenExamples : Type 0 where
  pub seven_is_open : (ending_with 0x8000).opens 7 eight_and_two ≡ true
  pub a_push_at_the_end_closes : (ending_with 0x8000).opens 7 (placed_front 9 eight_and_two) ≡ false
  pub nine_is_closed : (ending_with 0x8000).opens 9 eight_and_two ≡ false
  pub nine_is_open_without : (ending_with 0).opens 9 eight_and_two ≡ true
  pub an_end_that_does_nothing_does_not : (ending_with 0).opens 7 (placed_front 9 eight_and_two) ≡ true
