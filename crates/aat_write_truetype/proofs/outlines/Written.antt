-- What is written of outlines, or why nothing is.
use Rattle.std.proofs.Common.{◌≡◌, ◌∙◌, ap, sym, ℕ, ◌+◌, ◌<◌, ◌≤◌, Bool, true, false, cond, List, [], ◌∷◌, ◌++◌, length, get_or, map, take, Option, Some, None, Result, Ok, Err, arith}
use Rattle.std.specs.Prelude.{nat_lt}
use Rattle.std.specs.List.{range_with_len}
use Rattle.std.specs.Option.{option_or}
use Rattle.std.proofs.lemmas.Bool.Decides.{nat_tests}
use Rattle.std.proofs.lemmas.List.{take_all}
use Rattle.aat_read_outlines.specs.Outlines.{PointLists}
use Rattle.aat_write_machine.specs.Words.{long_bytes}
use Rattle.aat_write_truetype.specs.outlines.GlyphData.{glyph_data}
use Rattle.aat_write_truetype.specs.outlines.OutlineWriteErrors.{Refuses}
use Rattle.aat_write_truetype.specs.outlines.Tables.{Written, error_in, error_of, first_error, glyf_bytes, has_far_point, has_far_step, has_many_contours, loca_bytes, offset_of, outlines_written}
use Rattle.aat_write_truetype.specs.declared.outlines.error.OutlineWriteError.{OutlineWriteError}
use Rattle.aat_write_truetype.specs.declared.outlines.error.OutlineWriteError.TheVariants.{TooMany, TooManyContours, FarPoint, FarStep, TooLong, OutOfMemory}
use Rattle.aat_write_truetype.proofs.outlines.Offsets.{data_more, offset_more, part_short}

-- want of memory is no error of outlines
not_in :
    (many far wide : Bool) (i : ℕ)
    → ◌≡◌ {A = Option OutlineWriteError}
    (cond many (Some (TooManyContours i)) (cond far (Some (FarPoint i)) (cond wide (Some (FarStep i)) None)))
    (Some OutOfMemory)
    → ⊥
not_in true far wide i is = cc
not_in false true wide i is = cc
not_in false false true i is = cc
not_in false false false i is = cc

not_or :
    (o p : Option OutlineWriteError)
    → (o ≡ Some OutOfMemory → ⊥) → (p ≡ Some OutOfMemory → ⊥) → option_or o p ≡ Some OutOfMemory → ⊥
not_or None p first second is = second is
not_or (Some error) p first second is = first is

not_first : (index : ℕ) (outlines : List PointLists) → first_error index outlines ≡ Some OutOfMemory → ⊥
not_first index [] is = cc
not_first index (outline ∷ outlines) is =
    not_or (error_in index outline) (first_error (index + 1) outlines)
    (not_in (has_many_contours outline) (has_far_point outline) (has_far_step outline) index)
    (not_first (index + 1) outlines) is

not_both :
    (many : Bool) (o : Option OutlineWriteError)
    → (o ≡ Some OutOfMemory → ⊥) → cond many (Some TooMany) o ≡ Some OutOfMemory → ⊥
not_both true o first is = cc
not_both false o first is = first is

passed : (many : Bool) (o : Option OutlineWriteError) → cond many (Some TooMany) o ≡ None → o ≡ None
passed true o is = cc
passed false o is = is

-- where outlines have no error, none of them has one
pub no_error : (outlines : List PointLists) → error_of outlines ≡ None → first_error 0 outlines ≡ None
no_error outlines is = passed (nat_lt 65535 (length outlines)) (first_error 0 outlines) is

-- what is written where an error is found or none
abbrev written_or : List PointLists → Option OutlineWriteError → Result Written OutlineWriteError
written_or outlines o = elim o [
  | Some error ↦ Err error
  | None ↦
      cond (nat_lt 4294967295 (length (glyf_bytes outlines)))
      (Err TooLong)
      (Ok (record { glyf = glyf_bytes outlines; loca = loca_bytes outlines }))
]

-- the error of outlines refuses them
pub refuses : (outlines : List PointLists) (error : OutlineWriteError) → error_of outlines ≡ Some error → Refuses outlines error
refuses outlines TooMany is = ap (written_or outlines) is
refuses outlines (TooManyContours i) is = ap (written_or outlines) is
refuses outlines (FarPoint i) is = ap (written_or outlines) is
refuses outlines (FarStep i) is = ap (written_or outlines) is
refuses outlines TooLong is = ap (written_or outlines) is
refuses outlines OutOfMemory is =
    absurd (not_both (nat_lt 65535 (length outlines)) (first_error 0 outlines) (not_first 0 outlines) is)

module _ (outlines : List PointLists) (none : error_of outlines ≡ None) where
  tested : (b : Bool) → nat_lt 4294967295 (length (glyf_bytes outlines)) ≡ b
      → outlines_written outlines ≡ cond b (Err TooLong) (Ok (record { glyf = glyf_bytes outlines; loca = loca_bytes outlines }))
  tested b is =
      ap (written_or outlines) none
      ∙ ap (λ (t : Bool). cond t (Err TooLong) (Ok (record { glyf = glyf_bytes outlines; loca = loca_bytes outlines }))) is

  module _ (i : ℕ) (outline : PointLists) (here new : List ℕ) (below : i < length outlines)
      (is : outline ≡ get_or outlines i outline) (so_far : here ≡ glyf_bytes (take i outlines))
      (appended : new ≡ here ++ glyph_data outline) where
    -- the data of some outlines is too long
    pub too_long : 4294967295 < length new → outlines_written outlines ≡ Err TooLong
    too_long long =
        let more = data_more outlines i outline here new below is so_far appended in
        let all : 4294967295 < length (glyf_bytes outlines) = omega (arith, ap length more, part_short outlines (i + 1)) in
        let test : nat_lt 4294967295 (length (glyf_bytes outlines)) ≡ true = grind (arith, nat_tests, all) in
        tested true test

  -- all are written
  pub all_written :
      (i : ℕ) (glyf loca last : List ℕ)
      → length outlines ≤ i
      → i ≤ length outlines
      → length glyf ≤ 4294967295
      → glyf ≡ glyf_bytes (take i outlines)
      → loca ≡ long_bytes (map (offset_of outlines) (range_with_len 0 i))
      → last ≡ loca ++ long_bytes (length glyf ∷ [])
      → outlines_written outlines ≡ Ok (record { glyf = glyf; loca = last })
  all_written i glyf loca last past inside short bytes offsets appended =
      let index : i ≡ length outlines = omega arith in
      let whole : glyf ≡ glyf_bytes outlines = bytes ∙ ap glyf_bytes (take_all i outlines past) in
      let places : last ≡ loca_bytes outlines =
      offset_more outlines i glyf loca last bytes offsets appended
      ∙ ap (λ n. long_bytes (map (offset_of outlines) (range_with_len 0 (n + 1)))) index in
      let low : length (glyf_bytes outlines) ≤ 4294967295 = omega (arith, ap length whole) in
      let test : nat_lt 4294967295 (length (glyf_bytes outlines)) ≡ false = grind (arith, nat_tests, low) in
      tested false test
      ∙ ap (λ (bytes : List ℕ). Ok (record { glyf = bytes; loca = loca_bytes outlines })) (sym whole)
      ∙ ap (λ (bytes : List ℕ). Ok (record { glyf = glyf; loca = bytes })) (sym places)
