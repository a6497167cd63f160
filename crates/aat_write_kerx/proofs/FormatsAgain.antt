-- The formats that are written are read again.
use Rattle.std.proofs.Common.{◌≡◌, ℕ, ◌+◌, List, ◌++◌, length, Bool, true, false, cond, Result, Ok, Err, refl, sym, ap, subst, arith}
use Rattle.std.specs.Prelude.{◌==◌}
use Rattle.std.proofs.lemmas.Bool.Decides.{nat_tests}
use Rattle.aat_kerning_tables.specs.declared.kerx.KerxFormat.{KerxFormat}
use Rattle.aat_kerning_tables.specs.declared.kerx.KerxFormat.TheVariants.{Format0, Format1, Format2, Format2Classes, Format4, Format6, Format6Classes}
use Rattle.aat_read_extended.specs.kerx.Formats.{as_format, format_at}
use Rattle.aat_write_machine.specs.LookupLaws.{WrittenLookupsAreRead}
use Rattle.aat_write_kerx.specs.KerxBytes.{format_number, without_tuples}
use Rattle.aat_write_kerx.specs.KerxLaws.{IsFormat, WrittenFormatsAreRead}
use Rattle.aat_write_kerx.specs.MachineBytes.{anchor_written, stack_written}
use Rattle.aat_write_kerx.specs.PairBytes.{arrays_written, classes_written, pairs_written}
use Rattle.aat_write_kerx.specs.declared.subtable_error.SubtableWriteError.{SubtableWriteError}
use Rattle.aat_write_kerx.specs.declared.subtable_error.SubtableWriteError.TheVariants.{HasTuples}
use Rattle.aat_write_kerx.proofs.ArraysAgain.{written_arrays_are_read}
use Rattle.aat_write_kerx.proofs.ClassesAgain.{written_classes_are_read}
use Rattle.aat_write_kerx.proofs.PairsAgain.{written_pairs_are_read}
use Rattle.aat_write_kerx.proofs.StacksAgain.{written_anchors_are_read, written_stacks_are_read}

-- what has no tuples is written where there are none
no_tuples :
    (tuple_count : ℕ) (written : Result (List ℕ) SubtableWriteError) (body : List ℕ)
    → without_tuples tuple_count written ≡ Ok body → (tuple_count ≡ 0) × (written ≡ Ok body)
no_tuples tuple_count written body is = by_test (tuple_count == 0) refl is
  where
    by_test :
        (b : Bool) → (tuple_count == 0) ≡ b → ◌≡◌ {A = Result (List ℕ) SubtableWriteError} (cond b written (Err HasTuples)) (Ok body)
        → (tuple_count ≡ 0) × (written ≡ Ok body)
    by_test true test same = (grind (arith, nat_tests), same)
    by_test false test same = absurd (let wrong : ⊥ = cc in wrong)

module _ (law : WrittenLookupsAreRead) where
  abbrev IsReadAgain : KerxFormat → ℕ → List ℕ → List ℕ → ℕ → ℕ → Type 0
  IsReadAgain format tuple_count body front start glyph_count =
      format_at (front ++ body) start (format_number format) glyph_count tuple_count ≡ as_format (λ f. f) (Ok format)

  pairs_format :
      (pairs : _) (tuple_count : ℕ) (body front : List ℕ) (start glyph_count : ℕ)
      → IsFormat (Format0 pairs) → without_tuples tuple_count (pairs_written pairs) ≡ Ok body → length front ≡ start + 12
      → IsReadAgain (Format0 pairs) tuple_count body front start glyph_count
  unfolding format_at
  pairs_format pairs tuple_count body front start glyph_count small is at =
      let none = no_tuples tuple_count (pairs_written pairs) body is in
      subst (λ (n : ℕ). IsReadAgain (Format0 pairs) n body front start glyph_count) (sym none.0)
      (ap (as_format Format0) (written_pairs_are_read pairs body front start small none.1 at))

  stack_format :
      (t : _) (tuple_count : ℕ) (body front : List ℕ) (start glyph_count : ℕ)
      → IsFormat (Format1 t) → stack_written t ≡ Ok body → length front ≡ start + 12
      → IsReadAgain (Format1 t) tuple_count body front start glyph_count
  unfolding format_at
  stack_format t tuple_count body front start glyph_count small is at =
      ap (as_format Format1) (written_stacks_are_read law t body front (start + 12) glyph_count small is at)

  classes_format :
      (t : _) (tuple_count : ℕ) (body front : List ℕ) (start glyph_count : ℕ)
      → IsFormat (Format2Classes t) → without_tuples tuple_count (classes_written t) ≡ Ok body → length front ≡ start + 12
      → IsReadAgain (Format2Classes t) tuple_count body front start glyph_count
  unfolding format_at
  classes_format t tuple_count body front start glyph_count small is at =
      let none = no_tuples tuple_count (classes_written t) body is in
      subst (λ (n : ℕ). IsReadAgain (Format2Classes t) n body front start glyph_count) (sym none.0)
      (ap (as_format Format2Classes) (written_classes_are_read law t body front start glyph_count small none.1 at))

  anchor_format :
      (t : _) (tuple_count : ℕ) (body front : List ℕ) (start glyph_count : ℕ)
      → IsFormat (Format4 t) → anchor_written t ≡ Ok body → length front ≡ start + 12
      → IsReadAgain (Format4 t) tuple_count body front start glyph_count
  unfolding format_at
  anchor_format t tuple_count body front start glyph_count small is at =
      written_anchors_are_read law t body front (start + 12) glyph_count small is at

  arrays_format :
      (t : _) (tuple_count : ℕ) (body front : List ℕ) (start glyph_count : ℕ)
      → IsFormat (Format6Classes t) → without_tuples tuple_count (arrays_written t) ≡ Ok body → length front ≡ start + 12
      → IsReadAgain (Format6Classes t) tuple_count body front start glyph_count
  unfolding format_at
  arrays_format t tuple_count body front start glyph_count small is at =
      let none = no_tuples tuple_count (arrays_written t) body is in
      subst (λ (n : ℕ). IsReadAgain (Format6Classes t) n body front start glyph_count) (sym none.0)
      (written_arrays_are_read law t body front start glyph_count small none.1 at)

  pub written_formats_are_read : WrittenFormatsAreRead
  written_formats_are_read (Format0 pairs) tuple_count body front start glyph_count small is at =
      pairs_format pairs tuple_count body front start glyph_count small is at
  written_formats_are_read (Format1 t) tuple_count body front start glyph_count small is at =
      stack_format t tuple_count body front start glyph_count small is at
  written_formats_are_read (Format2 pairs) tuple_count body front start glyph_count small is at = absurd (let wrong : ⊥ = cc in wrong)
  written_formats_are_read (Format2Classes t) tuple_count body front start glyph_count small is at =
      classes_format t tuple_count body front start glyph_count small is at
  written_formats_are_read (Format4 t) tuple_count body front start glyph_count small is at =
      anchor_format t tuple_count body front start glyph_count small is at
  written_formats_are_read (Format6 pairs) tuple_count body front start glyph_count small is at = absurd (let wrong : ⊥ = cc in wrong)
  written_formats_are_read (Format6Classes t) tuple_count body front start glyph_count small is at =
      arrays_format t tuple_count body front start glyph_count small is at
