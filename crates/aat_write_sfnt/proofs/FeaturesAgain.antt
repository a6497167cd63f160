-- Features that are written are read again, with their names.
use Rattle.std.proofs.Common.{◌≡◌, ◌∙◌, sym, ap, refl, subst, cond, ℕ, zero, suc, ◌+◌, ◌*◌, ◌/◌, ◌<◌, ◌≤◌, Bool, true, false, List, [], ◌∷◌, ◌++◌, length, get_or, drop, take, map, All, Option, None, Some, Result, Ok, Err, arith}
use Rattle.std.specs.Prelude.{nat_le, nat_lt, ◌||◌, ◌==◌, option_and_then, option_map, sum_by}
use Rattle.std.specs.Int.{w16, from_be_bytes}
use Rattle.std.specs.List.{find, flat_map, range_with_len}
use Rattle.std.specs.Option.{option_map_or}
use Rattle.std.proofs.lemmas.Bool.{ltb-false}
use Rattle.std.proofs.lemmas.Bool.Decides.{nat_tests}
use Rattle.std.proofs.lemmas.List.{drop-drop, get_or-append-add, get_or-map, length-append, length-map}
use Rattle.std.proofs.lemmas.List.FromFn.{fill_by_all}
use Rattle.std.proofs.lemmas.List.Sums.{sum_by-cons}
use Rattle.aat_bytes.specs.Bisection.{row_found}
use Rattle.aat_bytes.specs.Faults.{after}
use Rattle.aat_bytes.specs.Numbers.{be16, be32, u16_at}
use Rattle.aat_bytes.specs.declared.error.Fault.{Fault}
use Rattle.aat_bytes.specs.facts.Longs.{long_is}
use Rattle.aat_lookup.specs.FeatureNames.{kind_of}
use Rattle.aat_lookup.specs.Keys.{at_key, fall_after, first_fall}
use Rattle.aat_lookup.specs.declared.feat.FeatureName.{FeatureName}
use Rattle.aat_read_lookup.specs.Features.{feat_of, feature_count, feature_name, feature_name_id, feature_names, has_number, kind_at, searched_count, setting_name_id, setting_name_in}
use Rattle.aat_read_lookup.specs.facts.FoundRows.{rising_are_found, rising_found}
use Rattle.aat_write_sfnt.specs.NamedFeatureLaws.{IsFeature, IsSetting, WrittenFeaturesAreRead, feature_of, name_of_setting}
use Rattle.aat_write_sfnt.specs.NamedFeatures.{FeatFeature, all_setting_bytes, feature_record_words, named_feat_words, setting_bytes, setting_count, setting_words, type_of}
use Rattle.aat_write_sfnt.specs.Records.{records}
use Rattle.aat_write_sfnt.specs.declared.feat.NamedSetting.{NamedSetting}
use Rattle.aat_write_sfnt.proofs.FontAgain.{neither}
use Rattle.aat_write_sfnt.proofs.RecordPlaces.{index_6, part_at, part_within, place_of, record_word, records_long}
use Rattle.aat_write_sfnt.proofs.SettingCounts.{four_each, two_each}
use Rattle.aat_write_machine.specs.Features.{feature_flags}
use Rattle.aat_write_machine.specs.Words.{word_bytes}
use Rattle.aat_write_machine.specs.facts.WordPlaces.{AreWords, length_words, long_again, word_at, words_joined}
use Rattle.aat_write_machine.specs.facts.Written.{written_is}
use Rattle.aat_write_machine.proofs.FeatAgain.{counted, flags_read, flags_small}

-- a search over the places of a list leads to the same as one over its elements
module _ {X Y : Type 0} (p : X → Bool) (q : ℕ → Bool) (F : ℕ → Option Y) (G : X → Option Y) where
  one_alike :
      (b c : Bool) (k : ℕ) (x : X) (ks : Option ℕ) (xs : Option X)
      → b ≡ c
      → F k ≡ G x
      → option_and_then F ks ≡ option_and_then G xs
      → option_and_then F (cond b (Some k) ks) ≡ option_and_then G (cond c (Some x) xs)
  one_alike true true k x ks xs same here rest = here
  one_alike false false k x ks xs same here rest = rest
  one_alike true false k x ks xs same here rest = absurd (let wrong : ⊥ = cc in wrong)
  one_alike false true k x ks xs same here rest = absurd (let wrong : ⊥ = cc in wrong)

  found_alike :
      (xs : List X) (a : ℕ) (d : X)
      → ((i k : ℕ) → i < length xs → a + i ≡ k → (q k ≡ p (get_or xs i d)) × (F k ≡ G (get_or xs i d)))
      → option_and_then F (find q (range_with_len a (length xs))) ≡ option_and_then G (find p xs)
  found_alike [] a d each = refl
  found_alike (x ∷ xs) a d each =
      let here = each 0 a (omega arith) (omega arith) in
      let rest = found_alike xs (a + 1) d (λ i k below is. each (suc i) k (omega arith) (omega arith)) in
      one_alike (q a) (p x) a x (find q (range_with_len (a + 1) (length xs))) (find p xs) here.0 here.1 rest

mapped : {X Y : Type 0} (f : X → Y) (o : Option X) → option_map f o ≡ option_and_then (λ x. Some (f x)) o
mapped f None = refl
mapped f (Some x) = refl

-- types that rise do as those of features that are read
falls_alike :
    (i k : ℕ) (features : List FeatFeature)
    → fall_after kind_of i k (map feature_of features) ≡ fall_after type_of i k features
falls_alike i k [] = refl
falls_alike i k (feature ∷ features) =
    ap (λ (o : Option ℕ). cond (nat_lt k feature.kind) o (Some i)) (falls_alike (i + 1) feature.kind features)

first_falls_alike :
    (features : List FeatFeature) → first_fall kind_of (map feature_of features) ≡ first_fall type_of features
first_falls_alike [] = refl
first_falls_alike (feature ∷ features) = falls_alike 1 feature.kind features

-- a number that stands inside
u16_is : (bytes : List ℕ) (place value : ℕ) → place + 2 ≤ length bytes → be16 bytes place ≡ value → u16_at bytes place ≡ Some value
unfolding u16_at
u16_is bytes place value within is =
    let inside : nat_le (place + 2) (length bytes) ≡ true = grind (arith, nat_tests) in
    rw inside (ap Some is)

-- a number behind a place
be16_behind : (bytes : List ℕ) (place k : ℕ) → be16 bytes (place + k) ≡ be16 (drop place bytes) k
be16_behind bytes place k = ap (λ (b : List ℕ). from_be_bytes w16 (take 2 b)) (sym (drop-drop k place bytes))

-- the words of settings
some_setting : NamedSetting
some_setting = record { setting = 0; name = 0 }

settings_small : (settings : List NamedSetting) → All IsSetting settings → AreWords (flat_map setting_words settings)
settings_small [] small = tt
settings_small (setting ∷ settings) small =
    let here = small 0 setting (omega arith) in
    (here.0, (here.1, settings_small settings (λ k d lt. small (suc k) d (omega arith))))

setting_word :
    (settings : List NamedSetting) (j : ℕ) (d : NamedSetting)
    → j < length settings
    → (get_or (flat_map setting_words settings) (2 * j) 0 ≡ (get_or settings j d).setting)
    × (get_or (flat_map setting_words settings) (2 * j + 1) 0 ≡ (get_or settings j d).name)
setting_word [] j d below = absurd (omega arith)
setting_word (setting ∷ settings) zero d below = (refl, refl)
setting_word (setting ∷ settings) (suc j) d below =
    let rest = setting_word settings j d (omega arith) in
    let first : 2 * suc j ≡ suc (suc (2 * j)) = omega arith in
    let second : 2 * suc j + 1 ≡ suc (suc (2 * j + 1)) = omega arith in
    (ap (λ k. get_or (flat_map setting_words (setting ∷ settings)) k 0) first ∙ rest.0, ap (λ k. get_or (flat_map setting_words (setting ∷ settings)) k 0) second ∙ rest.1)

-- the words of records
some_feature : FeatFeature
some_feature = record { kind = 0; exclusive = false; name = 0; settings = [] }

records_small :
    (place : ℕ) (features : List FeatFeature)
    → All IsFeature features
    → sum_by setting_count features ≤ 65535
    → place + 4 * sum_by setting_count features < 4294967296
    → AreWords (records setting_bytes feature_record_words place features)
records_small place [] small few below = tt
records_small place (feature ∷ features) small few below =
    let is : IsFeature feature = small 0 feature (omega arith) in
    let next = place + length (setting_bytes feature) in
    let sum = sum_by-cons setting_count feature features in
    let four = four_each feature in
    let count : setting_count feature < 65536 = omega (arith, few, sum) in
    let high : place / 65536 < 65536 = omega (arith, below) in
    let here : AreWords (feature_record_words place feature) =
    (is.0, (count, (high, (omega arith, (flags_small feature.exclusive, (is.1, tt)))))) in
    words_joined (feature_record_words place feature) (records setting_bytes feature_record_words next features) here
    (records_small next features (λ k d lt. small (suc k) d (omega arith)) (omega (arith, few, sum)) (omega (arith, below, sum, four)))

module _ (features : List FeatFeature) (small : All IsFeature features) (many : length features ≤ 65535) (few : sum_by setting_count features ≤ 65535) (rises : first_fall type_of features ≡ None) where
  abbrev n : ℕ
  n = length features

  abbrev start : ℕ
  start = 12 + 12 * n

  abbrev words : List ℕ
  words = named_feat_words features

  abbrev bytes : List ℕ
  bytes = word_bytes words ++ all_setting_bytes features

  abbrev place : ℕ → ℕ
  place i = place_of setting_bytes feature_record_words start features i

  words_long : length words ≡ 6 + 6 * n
  words_long = omega (arith, records_long setting_bytes feature_record_words 6 (λ at feature. refl) start features, index_6 n)

  words_small : AreWords words
  words_small =
      let all : AreWords (records setting_bytes feature_record_words start features) =
      records_small start features small few (omega (arith, few, many)) in
      (omega arith, (omega arith, (omega (arith, many), (omega arith, (omega arith, (omega arith, all))))))

  front_long : length (word_bytes words) ≡ start
  front_long = omega (arith, length_words words, words_long)

  bytes_long : length bytes ≡ start + length (all_setting_bytes features)
  bytes_long = omega (arith, length-append (word_bytes words) (all_setting_bytes features), front_long)

  at : (i place : ℕ) → i < 6 + 6 * n → 2 * i ≡ place → be16 bytes place ≡ get_or words i 0
  at i place below is =
      word_at words [] (all_setting_bytes features) place i (omega (arith, below, words_long)) words_small (omega (arith, is))

  -- a word of the record of feature i
  word_here :
      (i k at_place : ℕ) (d : FeatFeature)
      → i < n
      → k < 6
      → 12 + 12 * i + 2 * k ≡ at_place
      → be16 bytes at_place ≡ get_or (feature_record_words (place i) (get_or features i d)) k 0
  word_here i k at_place d below inside is =
      at (6 + (6 * i + k)) at_place (omega arith) (omega (arith, is))
      ∙ get_or-append-add (1 ∷ 0 ∷ n ∷ 0 ∷ 0 ∷ 0 ∷ []) (records setting_bytes feature_record_words start features) (6 * i + k) 0
      ∙ ap (λ (j : ℕ). get_or (records setting_bytes feature_record_words start features) (j + k) 0) (sym (index_6 i))
      ∙ record_word setting_bytes feature_record_words 6 (λ at feature. refl) start features i k d below inside

  place_here : (i : ℕ) (d : FeatFeature) → i < n → be32 bytes (12 + 12 * i + 4) ≡ place i
  place_here i d below =
      let high = word_here i 2 (12 + 12 * i + 4) d below (omega arith) (omega arith) in
      let low = word_here i 3 (12 + 12 * i + 4 + 2) d below (omega arith) (omega arith) in
      long_is bytes (12 + 12 * i + 4) ∙ omega (arith, high, low) ∙ long_again (place i)

  count_read : feature_count bytes ≡ Ok n
  count_read = counted bytes n (omega (arith, bytes_long)) (at 0 0 (omega arith) refl) (at 2 4 (omega arith) refl)

  feature_read : (i : ℕ) (d : FeatFeature) → i < n → feature_name bytes i ≡ feature_of (get_or features i d)
  feature_read i d below =
      let feature : FeatFeature = get_or features i d in
      let kind : be16 bytes (12 + 12 * i) ≡ feature.kind = word_here i 0 (12 + 12 * i) d below (omega arith) (omega arith) in
      let settings : be16 bytes (12 + 12 * i + 2) ≡ length feature.settings = word_here i 1 (12 + 12 * i + 2) d below (omega arith) (omega arith) in
      let flags : be16 bytes (12 + 12 * i + 8) ≡ feature_flags feature.exclusive = word_here i 4 (12 + 12 * i + 8) d below (omega arith) (omega arith) in
      let exclusive : nat_le 32768 (be16 bytes (12 + 12 * i + 8)) ≡ feature.exclusive = ap (nat_le 32768) flags ∙ flags_read feature.exclusive in
      let of_kind : ℕ → FeatureName = λ k. record { kind = k; settings = be16 bytes (12 + 12 * i + 2); exclusive = nat_le 32768 (be16 bytes (12 + 12 * i + 8)) } in
      let of_settings : ℕ → FeatureName = λ s. record { kind = feature.kind; settings = s; exclusive = nat_le 32768 (be16 bytes (12 + 12 * i + 8)) } in
      let of_exclusive : Bool → FeatureName = λ e. record { kind = feature.kind; settings = length feature.settings; exclusive = e } in
      ap of_kind kind ∙ ap of_settings settings ∙ ap of_exclusive exclusive

  records_read : map (feature_name bytes) (range_with_len 0 n) ≡ map feature_of features
  records_read =
      let d : FeatFeature = some_feature in
      sym (fill_by_all (feature_name bytes) (map feature_of features) n (feature_of d) (length-map features feature_of) (λ k lt. get_or-map feature_of features k d (feature_of d) lt ∙ sym (feature_read k d lt)))

  records_rise : first_fall kind_of (map (feature_name bytes) (range_with_len 0 n)) ≡ None
  records_rise = ap (first_fall kind_of) records_read ∙ first_falls_alike features ∙ rises

  features_read : feature_names bytes n ≡ map feature_of features
  features_read = rising_are_found kind_of (feature_name bytes) n records_rise ∙ records_read

  table_read : feat_of bytes ≡ Ok (map feature_of features)
  table_read =
      ap (λ (r : Result ℕ Fault). after r (λ count. Ok (feature_names bytes count))) count_read ∙ ap Ok features_read

  searched : searched_count bytes ≡ n
  searched = ap (λ (r : Result ℕ Fault). elim r [ Ok count ↦ count | Err fault ↦ 0 ]) count_read

  -- the settings of feature i stand at their place
  settings_here :
      (i : ℕ) (d : FeatFeature)
      → i < n
      → drop (place i) bytes ≡ setting_bytes (get_or features i d) ++ flat_map setting_bytes (drop (suc i) features)
  settings_here i d below =
      ap (λ (m : ℕ). drop (place_of setting_bytes feature_record_words m features i) bytes) (sym front_long)
      ∙ part_at setting_bytes feature_record_words (word_bytes words) features i d below

  setting_here :
      (i j : ℕ) (d : FeatFeature)
      → i < n
      → j < length (get_or features i d).settings
      → (u16_at bytes (be32 bytes (12 + 12 * i + 4) + 4 * j) ≡ Some (get_or (get_or features i d).settings j some_setting).setting)
      × (u16_at bytes (be32 bytes (12 + 12 * i + 4) + 4 * j + 2) ≡ Some (get_or (get_or features i d).settings j some_setting).name)
  setting_here i j d below inside =
      let feature : FeatFeature = get_or features i d in
      let settings : List NamedSetting = feature.settings in
      let rest : List ℕ = flat_map setting_bytes (drop (suc i) features) in
      let is = small i d below in
      let few_words = settings_small settings is.2 in
      let long = two_each settings in
      let ends = part_within setting_bytes feature_record_words start features i d below in
      let four = four_each feature in
      let word = λ (k offset : ℕ) (low : k < 2 * length settings) (twice : 2 * k ≡ offset).
      be16_behind bytes (place i) offset
      ∙ ap (λ (b : List ℕ). be16 b offset) (settings_here i d below)
      ∙ word_at (flat_map setting_words settings) [] rest offset k (omega (arith, low, long)) few_words (omega (arith, twice)) in
      let here = setting_word settings j some_setting inside in
      let number : be16 bytes (place i + 4 * j) ≡ (get_or settings j some_setting).setting =
      word (2 * j) (4 * j) (omega (arith, inside)) (omega arith) ∙ here.0 in
      let behind : place i + 4 * j + 2 ≡ place i + (4 * j + 2) = omega arith in
      let name : be16 bytes (place i + 4 * j + 2) ≡ (get_or settings j some_setting).name =
      ap (be16 bytes) behind ∙ word (2 * j + 1) (4 * j + 2) (omega (arith, inside)) (omega arith) ∙ here.1 in
      let within : place i + 4 * j + 4 ≤ length bytes = omega (arith, ends, four, inside, bytes_long) in (
        ap (λ (m : ℕ). u16_at bytes (m + 4 * j)) (place_here i d below) ∙ u16_is bytes (place i + 4 * j) (get_or settings j some_setting).setting (omega (arith, within)) number,
        ap (λ (m : ℕ). u16_at bytes (m + 4 * j + 2)) (place_here i d below) ∙ u16_is bytes (place i + 4 * j + 2) (get_or settings j some_setting).name (omega (arith, within)) name,
      )

  -- a setting of feature i has its name
  setting_named : (i number : ℕ) (d : FeatFeature) → i < n → setting_name_in bytes number i ≡ name_of_setting number (get_or features i d)
  setting_named i number d below =
      let settings : List NamedSetting = (get_or features i d).settings in
      let p : NamedSetting → Bool = λ s. s.setting == number in
      let q : ℕ → Bool = λ j. has_number bytes (be32 bytes (12 + 12 * i + 4) + 4 * j) number in
      let F : ℕ → Option ℕ = λ j. u16_at bytes (be32 bytes (12 + 12 * i + 4) + 4 * j + 2) in
      let G : NamedSetting → Option ℕ = λ s. Some s.name in
      let count : be16 bytes (12 + 12 * i + 2) ≡ length settings = word_here i 1 (12 + 12 * i + 2) d below (omega arith) (omega arith) in
      let each :
      (j k : ℕ) → j < length settings → 0 + j ≡ k
      → (q k ≡ p (get_or settings j some_setting)) × (F k ≡ G (get_or settings j some_setting)) =
      λ j k inside is.
      let same : k ≡ j = omega (arith, is) in
      let here = setting_here i j d below inside in
      (ap q same ∙ ap (λ (o : Option ℕ). option_map_or (λ found. found == number) o false) here.0, ap F same ∙ here.1) in
      ap (λ (m : ℕ). option_and_then F (find q (range_with_len 0 m))) count
      ∙ found_alike p q F G settings 0 some_setting each
      ∙ sym (mapped (λ (s : NamedSetting). s.name) (find p settings))

  type_here : (i kind : ℕ) (d : FeatFeature) → i < n → (be16 bytes (12 + 12 * i) == kind) ≡ (type_of (get_or features i d) == kind)
  type_here i kind d below = ap (λ (m : ℕ). m == kind) (word_here i 0 (12 + 12 * i) d below (omega arith) (omega arith))

  -- what is found of the record of a type leads to the same as what is found of its feature
  of_type :
      (kind : ℕ) (F : ℕ → Option ℕ) (G : FeatFeature → Option ℕ)
      → ((i : ℕ) → i < n → F i ≡ G (get_or features i some_feature))
      → option_and_then F (row_found (kind_at bytes) (searched_count bytes) kind)
      ≡ option_and_then G (at_key type_of features kind)
  of_type kind F G each =
      let p : FeatFeature → Bool = λ f. type_of f == kind in
      let q : ℕ → Bool = λ i. be16 bytes (12 + 12 * i) == kind in
      let all :
      (i k : ℕ) → i < n → 0 + i ≡ k
      → (q k ≡ p (get_or features i some_feature)) × (F k ≡ G (get_or features i some_feature)) =
      λ i k below is.
      let same : k ≡ i = omega (arith, is) in
      (ap q same ∙ type_here i kind some_feature below, ap F same ∙ each i below) in
      ap (λ (m : ℕ). option_and_then F (row_found (kind_at bytes) m kind)) searched
      ∙ ap (option_and_then F) (rising_found kind_of (feature_name bytes) n kind records_rise)
      ∙ found_alike p q F G features 0 some_feature all

  feature_named : (kind : ℕ) → feature_name_id bytes kind ≡ option_map (λ f. f.name) (at_key type_of features kind)
  feature_named kind =
      let name : ℕ → ℕ = λ i. be16 bytes (12 + 12 * i + 10) in
      let record_here = row_found (kind_at bytes) (searched_count bytes) kind in
      mapped name record_here
      ∙ of_type kind (λ i. Some (name i)) (λ f. Some f.name) (λ i below. ap Some (word_here i 5 (12 + 12 * i + 10) some_feature below (omega arith) (omega arith)))
      ∙ sym (mapped (λ (f : FeatFeature). f.name) (at_key type_of features kind))

  pub features_are_read :
      (feat_of bytes ≡ Ok (map feature_of features))
      × ((kind : ℕ) → feature_name_id bytes kind ≡ option_map (λ f. f.name) (at_key type_of features kind))
      × ((kind number : ℕ)
      → setting_name_id bytes kind number ≡ option_and_then (name_of_setting number) (at_key type_of features kind))
  features_are_read =
      (table_read, feature_named, λ kind number. of_type kind (setting_name_in bytes number) (name_of_setting number) (λ i below. setting_named i number some_feature below))

-- the law
pub written_features_are_read : WrittenFeaturesAreRead
written_features_are_read features bytes small is =
    let refused : Bool = nat_lt 65535 (length features) || nat_lt 65535 (sum_by setting_count features) in
    let made = written_is (first_fall type_of features) refused (word_bytes (named_feat_words features) ++ all_setting_bytes features) bytes is in
    let both = neither (nat_lt 65535 (length features)) (nat_lt 65535 (sum_by setting_count features)) made.1 in
    let many : length features ≤ 65535 = ltb-false 65535 (length features) both.0 in
    let few : sum_by setting_count features ≤ 65535 = ltb-false 65535 (sum_by setting_count features) both.1 in
    subst (λ (b : List ℕ). (feat_of b ≡ Ok (map feature_of features)) × ((kind : ℕ) → feature_name_id b kind ≡ option_map (λ f. f.name) (at_key type_of features kind)) × ((kind number : ℕ) → setting_name_id b kind number ≡ option_and_then (name_of_setting number) (at_key type_of features kind))) made.2
    (features_are_read features small many few made.0)
