-- Records and tables as they are appended.
use Rattle.std.proofs.Common.{◌≡◌, ◌∙◌, sym, ap, ℕ, ◌+◌, ◌*◌, ◌<◌, false, List, ◌∷◌, ◌++◌, length, get_or, drop, take, append_assoc, arith}
use Rattle.std.specs.List.{flat_map}
use Rattle.std.specs.Prelude.{nat_le}
use Rattle.std.proofs.lemmas.Bool.Decides.{nat_tests}
use Rattle.std.proofs.lemmas.Grind.{flat_map-append}
use Rattle.std.proofs.lemmas.List.{drop_more, length-append}
use Rattle.std.proofs.lemmas.List.Folds.{length-flat_map-take}
use Rattle.std.specs.Int.{w16, to_be_bytes}
use Rattle.aat_write_sfnt.specs.Fonts.{SfntTable, file_end, padded, table_bytes}
use Rattle.aat_write_sfnt.specs.NameTables.{SfntName, text_bytes, text_of_name}
use Rattle.aat_write_sfnt.specs.Records.{records}
use Rattle.aat_write_machine.specs.Words.{word_bytes}

module _ {X : Type 0} (part : X → List ℕ) (record_of : ℕ → X → List ℕ) where
  -- a record that is appended is the first of those that remain
  pub record_appended :
      (xs : List X) (i place : ℕ) (x : X) (out new : List ℕ)
      → i < length xs
      → get_or xs i x ≡ x
      → new ≡ out ++ word_bytes (record_of place x)
      → new ++ word_bytes (records part record_of (place + length (part x)) (drop (i + 1) xs))
      ≡ out ++ word_bytes (records part record_of place (drop i xs))
  record_appended xs i place x out new below at is =
      let rest : List ℕ = records part record_of (place + length (part x)) (drop (i + 1) xs) in
      let here : drop i xs ≡ x ∷ drop (i + 1) xs = drop_more xs i x below ∙ ap (λ y. y ∷ drop (i + 1) xs) at in
      ap (λ (bytes : List ℕ). bytes ++ word_bytes rest) is
      ∙ append_assoc out (word_bytes (record_of place x)) (word_bytes rest)
      ∙ ap (λ (bytes : List ℕ). out ++ bytes) (sym (flat_map-append (to_be_bytes w16) (record_of place x) rest))
      ∙ ap (λ (ys : List X). out ++ word_bytes (records part record_of place ys)) (sym here)

  -- the part of an element is the first of those that remain
  pub part_remains :
      (xs : List X) (i : ℕ) (x : X)
      → i < length xs
      → get_or xs i x ≡ x
      → length (part x) + length (flat_map part (drop (i + 1) xs)) ≡ length (flat_map part (drop i xs))
  part_remains xs i x below at =
      let here : drop i xs ≡ x ∷ drop (i + 1) xs = drop_more xs i x below ∙ ap (λ y. y ∷ drop (i + 1) xs) at in
      sym (length-append (part x) (flat_map part (drop (i + 1) xs)))
      ∙ ap (λ (ys : List X). length (flat_map part ys)) (sym here)

-- a file whose first tables pass the bound does
pub too_long :
    (tables : List SfntTable) (i rest : ℕ) (table : SfntTable)
    → i < length tables
    → get_or tables i table ≡ table
    → rest + (12 + 16 * length tables + length (table_bytes (take i tables))) ≡ 4294967295
    → rest < length (padded table)
    → false ≡ nat_le (file_end tables) 4294967295
too_long tables i rest table below at is past =
    let more = length-flat_map-take padded tables i table below in
    let same : length (padded (get_or tables i table)) ≡ length (padded table) = ap (λ t. length (padded t)) at in
    let above : 4294967295 < file_end tables = omega (arith, more, same, is, past) in
    grind (arith, nat_tests)

-- texts whose first ones pass the bound do
pub texts_too_long :
    (names : List SfntName) (i rest : ℕ) (name : SfntName)
    → i < length names
    → get_or names i name ≡ name
    → rest + length (text_bytes (take i names)) ≡ 65535
    → rest < length (text_of_name name)
    → false ≡ nat_le (length (text_bytes names)) 65535
texts_too_long names i rest name below at is past =
    let more = length-flat_map-take text_of_name names i name below in
    let same : length (text_of_name (get_or names i name)) ≡ length (text_of_name name) =
    ap (λ t. length (text_of_name t)) at in
    let above : 65535 < length (text_bytes names) = omega (arith, more, same, is, past) in
    grind (arith, nat_tests)
