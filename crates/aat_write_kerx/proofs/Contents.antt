-- Subtables with the bytes of their formats, one behind the other.
use Rattle.std.proofs.Common.{◌≡◌, ℕ, ◌+◌, ◌<◌, ◌≤◌, List, [], ◌∷◌, ◌++◌, length, get_or, drop, Result, Ok, Err, refl, sym, ap, ◌∙◌, append_assoc}
use Rattle.std.proofs.lemmas.List.{append-nil, drop_all, drop_more}
use Rattle.aat_kerning_tables.specs.declared.kerx.KerxSubtable.{KerxSubtable}
use Rattle.aat_write_kerx.specs.KerxBytes.{SubtableContent, contents_from, subtable_content}
use Rattle.aat_write_kerx.specs.KerxWriteErrors.{RefusesWithin, TableRefusesWithin, after_written, error_of_subtable, of_subtable}
use Rattle.aat_write_kerx.specs.declared.kerx_error.KerxWriteError.{KerxWriteError}
use Rattle.aat_write_kerx.specs.declared.subtable_error.SubtableWriteError.{SubtableWriteError}
use Rattle.aat_write_kerx.specs.declared.subtable_error.SubtableWriteError.TheVariants.{Listed, HasTuples, Pairs, NoColumns, TooFar, NoIndex, Machine, OutOfMemory, Variable}

-- what is written in all, when some are and the others are not yet
abbrev pub behind : List SubtableContent → Result (List SubtableContent) KerxWriteError → Result (List SubtableContent) KerxWriteError
behind done rest = after_written rest (λ contents. Ok (done ++ contents))

one_more :
    (done : List SubtableContent) (content : SubtableContent) (rest : Result (List SubtableContent) KerxWriteError)
    → behind done (after_written rest (λ contents. Ok (content ∷ contents))) ≡ behind (done ++ content ∷ []) rest
one_more done content (Ok contents) = ap Ok (sym (append_assoc done (content ∷ []) contents))
one_more done content (Err e) = refl

abbrev first_and_rest : ℕ → Result SubtableContent SubtableWriteError → List KerxSubtable → Result (List SubtableContent) KerxWriteError
first_and_rest number first rest =
    after_written (of_subtable number first) (λ content.
    after_written (contents_from (number + 1) rest) (λ contents. Ok (content ∷ contents)))

dropped_from :
    (xs : List KerxSubtable) (i : ℕ) (x : KerxSubtable) → i < length xs → x ≡ get_or xs i x → drop i xs ≡ x ∷ drop (i + 1) xs
dropped_from xs i x below is = drop_more xs i x below ∙ ap (λ z. z ∷ drop (i + 1) xs) (sym is)

module _ (xs : List KerxSubtable) (i : ℕ) (x : KerxSubtable) (done : List SubtableContent)
    (below : i < length xs) (item : x ≡ get_or xs i x)
    (so_far : contents_from 0 xs ≡ behind done (contents_from i (drop i xs))) where
  split : contents_from 0 xs ≡ behind done (first_and_rest i (subtable_content x) (drop (i + 1) xs))
  split = so_far ∙ ap (λ ys. behind done (contents_from i ys)) (dropped_from xs i x below item)

  -- one that is written stands behind those before it
  pub is_pushed :
      (now : List SubtableContent) (content : SubtableContent)
      → subtable_content x ≡ Ok content → now ≡ done ++ content ∷ []
      → contents_from 0 xs ≡ behind now (contents_from (i + 1) (drop (i + 1) xs))
  is_pushed now content is pushed =
      split
      ∙ ap (λ (r : Result SubtableContent SubtableWriteError). behind done (first_and_rest i r (drop (i + 1) xs))) is
      ∙ one_more done content (contents_from (i + 1) (drop (i + 1) xs))
      ∙ ap (λ (d : List SubtableContent). behind d (contents_from (i + 1) (drop (i + 1) xs))) (sym pushed)

  failed : (e : SubtableWriteError) → subtable_content x ≡ Err e → contents_from 0 xs ≡ Err (error_of_subtable i e)
  failed e is =
      split ∙ ap (λ (r : Result SubtableContent SubtableWriteError). behind done (first_and_rest i r (drop (i + 1) xs))) is

  -- one that is refused refuses the table
  pub is_refused :
      (e : SubtableWriteError) → RefusesWithin (subtable_content x) e
      → TableRefusesWithin (contents_from 0 xs) (error_of_subtable i e)
  is_refused Listed is = failed Listed is
  is_refused HasTuples is = failed HasTuples is
  is_refused (Pairs e) is = failed (Pairs e) is
  is_refused NoColumns is = failed NoColumns is
  is_refused (TooFar place) is = failed (TooFar place) is
  is_refused (NoIndex place) is = failed (NoIndex place) is
  is_refused (Machine e) is = failed (Machine e) is
  is_refused OutOfMemory is = tt
  is_refused Variable is = failed Variable is

-- at the end all are written
pub all_written :
    (xs : List KerxSubtable) (i : ℕ) (done : List SubtableContent)
    → length xs ≤ i → contents_from 0 xs ≡ behind done (contents_from i (drop i xs)) → contents_from 0 xs ≡ Ok done
all_written xs i done past so_far =
    so_far ∙ ap (λ ys. behind done (contents_from i ys)) (drop_all i xs past) ∙ ap Ok (append-nil done)
