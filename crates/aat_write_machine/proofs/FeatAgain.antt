-- A feature name table that is written is read again.
use Rattle.std.proofs.Common.{◌≡◌, ℕ, suc, ◌+◌, ◌*◌, ◌/◌, ◌<◌, ◌≤◌, List, [], ◌∷◌, ◌++◌, length, get_or, map, take, Bool, true, false, None, Result, Ok, All, refl, sym, ap, ◌∙◌, subst, arith}
use Rattle.std.specs.Prelude.{nat_le, nat_lt}
use Rattle.std.specs.List.{flat_map, range_with_len}
use Rattle.std.proofs.lemmas.Bool.{le-ltb, ltb-false}
use Rattle.std.proofs.lemmas.List.{append-nil, get_or-append-add, length-take-le}
use Rattle.std.proofs.lemmas.List.Concat.{get_or-flat_map}
use Rattle.std.proofs.lemmas.List.FromFn.{fill_by_all}
use Rattle.aat_bytes.specs.Faults.{after}
use Rattle.aat_bytes.specs.Numbers.{be16}
use Rattle.aat_bytes.specs.declared.error.Fault.{Fault}
use Rattle.aat_lookup.specs.FeatureNames.{kind_of}
use Rattle.aat_lookup.specs.Keys.{first_fall}
use Rattle.aat_lookup.specs.declared.feat.FeatureName.{FeatureName}
use Rattle.aat_read_lookup.specs.Features.{feat_of, feature_count, feature_name, feature_names}
use Rattle.aat_read_lookup.specs.facts.FoundRows.{rising_are_found}
use Rattle.aat_write_machine.specs.FeatLaws.{IsName, WrittenFeatsAreRead}
use Rattle.aat_write_machine.specs.Features.{feat_words, feature_flags, feature_words}
use Rattle.aat_write_machine.specs.Words.{word_bytes}
use Rattle.aat_write_machine.specs.facts.Written.{written_is}
use Rattle.aat_write_machine.specs.facts.WordPlaces.{AreWords, length_words, word_at}

-- a name, where there is none
abbrev no_name : FeatureName
no_name = record { kind = 0; settings = 0; exclusive = false }

-- six words for each record
six_each : (end : ℕ) (names : List FeatureName) → length (flat_map (feature_words end) names) ≡ 6 * length names
six_each end [] = refl
six_each end (name ∷ names) = omega (arith, six_each end names)

pub flags_small : (exclusive : Bool) → feature_flags exclusive < 65536
flags_small true = omega arith
flags_small false = omega arith

pub flags_read : (exclusive : Bool) → nat_le 32768 (feature_flags exclusive) ≡ exclusive
flags_read true = refl
flags_read false = refl

names_are_words :
    (end : ℕ) (names : List FeatureName)
    → end < 65536 * 65536 → All IsName names → AreWords (flat_map (feature_words end) names)
names_are_words end [] low small = tt
names_are_words end (name ∷ names) low small =
    let here : IsName name = small 0 name (omega arith) in
    let high : end / 65536 < 65536 = omega arith in
    (here.0, (here.1, (high, (omega arith, (flags_small name.exclusive, (omega arith, names_are_words end names low (λ k d lt. small (suc k) d (omega arith))))))))

-- the number of records, where it stands in the header
pub counted :
    (bytes : List ℕ) (n : ℕ)
    → 12 + 12 * n ≤ length bytes → be16 bytes 0 ≡ 1 → be16 bytes 4 ≡ n → feature_count bytes ≡ Ok n
unfolding feature_count
counted bytes n long version count =
    let header : nat_lt (length bytes) 12 ≡ false = le-ltb (length bytes) 12 (omega arith) in
    let inside : nat_lt (length bytes) (12 + 12 * n) ≡ false = le-ltb (length bytes) (12 + 12 * n) (omega arith) in
    rw (header, version, count, inside) refl

module _ (names : List FeatureName) (small : All IsName names) (few : length names ≤ 65535) (rises : first_fall kind_of names ≡ None) where
  abbrev end : ℕ
  end = 12 + 12 * length names

  abbrev records : List ℕ
  records = flat_map (feature_words end) names

  abbrev words : List ℕ
  words = feat_words names

  abbrev bytes : List ℕ
  bytes = word_bytes words

  words_long : length words ≡ 6 + 6 * length names
  words_long = omega (arith, six_each end names)

  words_small : AreWords words
  words_small =
      let record_words : AreWords records = names_are_words end names (omega arith) small in
      (omega arith, (omega arith, (omega arith, (omega arith, (omega arith, (omega arith, record_words))))))

  bytes_long : length bytes ≡ 12 + 12 * length names
  bytes_long = omega (arith, length_words words, words_long)

  at : (i place : ℕ) → i < 6 + 6 * length names → 2 * i ≡ place → be16 bytes place ≡ get_or words i 0
  at i place below is =
      let alone : be16 (word_bytes words ++ []) place ≡ get_or words i 0 =
      word_at words [] [] place i (omega (arith, words_long)) words_small (omega arith) in
      subst (λ (b : List ℕ). be16 b place ≡ get_or words i 0) (append-nil (word_bytes words)) alone

  in_record :
      (i j place : ℕ) → i < length names → j < 6 → 12 + 12 * i + 2 * j ≡ place
      → be16 bytes place ≡ get_or (feature_words end (get_or names i no_name)) j 0
  in_record i j place below six is =
      let whole : length (take i names) ≡ i = length-take-le i names (omega arith) in
      let front : length (flat_map (feature_words end) (take i names)) ≡ 6 * i = six_each end (take i names) ∙ ap (λ k. 6 * k) whole in
      let here : get_or records (length (flat_map (feature_words end) (take i names)) + j) 0 ≡ get_or (feature_words end (get_or names i no_name)) j 0 =
      get_or-flat_map (feature_words end) names i j no_name 0 below six in
      at (6 + (6 * i + j)) place (omega arith) (omega arith)
      ∙ get_or-append-add (1 ∷ 0 ∷ length names ∷ 0 ∷ 0 ∷ 0 ∷ []) records (6 * i + j) 0
      ∙ ap (λ k. get_or records (k + j) 0) (sym front)
      ∙ here

  name_read : (i : ℕ) → i < length names → feature_name bytes i ≡ get_or names i no_name
  name_read i below =
      let name : FeatureName = get_or names i no_name in
      let kind : be16 bytes (12 + 12 * i) ≡ name.kind = in_record i 0 (12 + 12 * i) below (omega arith) (omega arith) in
      let settings : be16 bytes (12 + 12 * i + 2) ≡ name.settings = in_record i 1 (12 + 12 * i + 2) below (omega arith) (omega arith) in
      let flags : be16 bytes (12 + 12 * i + 8) ≡ feature_flags name.exclusive = in_record i 4 (12 + 12 * i + 8) below (omega arith) (omega arith) in
      let exclusive : nat_le 32768 (be16 bytes (12 + 12 * i + 8)) ≡ name.exclusive = ap (nat_le 32768) flags ∙ flags_read name.exclusive in
      let of_kind : ℕ → FeatureName = λ k. record { kind = k; settings = be16 bytes (12 + 12 * i + 2); exclusive = nat_le 32768 (be16 bytes (12 + 12 * i + 8)) } in
      let of_settings : ℕ → FeatureName = λ s. record { kind = name.kind; settings = s; exclusive = nat_le 32768 (be16 bytes (12 + 12 * i + 8)) } in
      let of_exclusive : Bool → FeatureName = λ e. record { kind = name.kind; settings = name.settings; exclusive = e } in
      ap of_kind kind ∙ ap of_settings settings ∙ ap of_exclusive exclusive

  count_read : feature_count bytes ≡ Ok (length names)
  count_read = counted bytes (length names) (omega (arith, bytes_long)) (at 0 0 (omega arith) refl) (at 2 4 (omega arith) refl)

  records_read : map (feature_name bytes) (range_with_len 0 (length names)) ≡ names
  records_read =
      let name_at : ℕ → FeatureName = feature_name bytes in
      sym (fill_by_all name_at names (length names) no_name refl (λ k lt. sym (name_read k lt)))

  names_read : feature_names bytes (length names) ≡ names
  names_read =
      rising_are_found kind_of (feature_name bytes) (length names) (ap (first_fall kind_of) records_read ∙ rises)
      ∙ records_read

  pub names_are_read : feat_of bytes ≡ Ok names
  names_are_read =
      ap (λ (r : Result ℕ Fault). after r (λ count. Ok (feature_names bytes count))) count_read ∙ ap Ok names_read

-- the law
pub written_feats_are_read : WrittenFeatsAreRead
written_feats_are_read names bytes small is =
    let made : (first_fall kind_of names ≡ None) × (nat_lt 65535 (length names) ≡ false) × (word_bytes (feat_words names) ≡ bytes) =
    written_is (first_fall kind_of names) (nat_lt 65535 (length names)) (word_bytes (feat_words names)) bytes is in
    let few : length names ≤ 65535 = ltb-false 65535 (length names) made.1 in
    let read : feat_of (word_bytes (feat_words names)) ≡ Ok names = names_are_read names small few made.0 in
    subst (λ (b : List ℕ). feat_of b ≡ Ok names) made.2 read
