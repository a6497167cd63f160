-- Where among groups the settings stand that chain features ask for.
use Rattle.std.specs.Prelude.{◌≡◌, ℕ, ◌==◌, ◌||◌, Bool, true, false, not, List, map, length, take_while, slice_index_or, Option, Some, None, Vec}
use Rattle.aat_machine_tables.specs.declared.morx.Chain.{Chain}
use Rattle.aat_map.specs.Live.{in_group}
use Rattle.aat_map.specs.declared.feature.feature_info_t.{feature_info_t}

-- the place of the group of a setting, and the number of groups where it has none
abbrev pub place_in : List feature_info_t → feature_info_t → ℕ
place_in groups info = length (take_while (λ g. not (in_group info g)) groups)

-- a kind and setting, exclusive or not
abbrev pub setting_of : Bool → ℕ → ℕ → feature_info_t
setting_of is_exclusive kind setting = record { kind = kind; setting = setting; is_exclusive = is_exclusive }

-- where the two groups stand that a kind and setting can be of
abbrev pub places_of : List feature_info_t → ℕ → ℕ → ℕ × ℕ
places_of groups kind setting =
    (place_in groups (setting_of false kind setting), place_in groups (setting_of true kind setting))

-- those of a chain's features
abbrev pub places_for : List feature_info_t → Chain → List (ℕ × ℕ)
places_for groups c = map (λ f. places_of groups f.kind f.setting) c.features.items

-- the lists in a vector of vectors
abbrev pub place_lists : {Z : Type 0} → List (Vec (ℕ × ℕ) Z) → List (List (ℕ × ℕ))
place_lists {Z} vectors = map (λ (v : Vec (ℕ × ℕ) Z). v.items) vectors

-- where the settings stand that the features of chains ask for, and that of the newer small capitals
pub record ArePlaced
    (groups : List feature_info_t) (chains : List Chain) (lists : List (List (ℕ × ℕ))) (small_caps : ℕ × ℕ)
    : Type 0 where
  pub of_chains : lists ≡ map (places_for groups) chains
  pub newer : small_caps ≡ places_of groups 37 1

-- there is a setting, and it is this one
abbrev pub is_setting : ℕ → Option feature_info_t → Bool
is_setting setting None = false
is_setting setting (Some i) = i.setting == setting

-- the first of the group at a place has a setting
abbrev pub has_at : List (Option feature_info_t) → ℕ → ℕ → Bool
has_at firsts place setting = is_setting setting (slice_index_or firsts place None)

-- that of one of two groups has it
abbrev pub has_first : List (Option feature_info_t) → ℕ × ℕ → ℕ → Bool
has_first firsts places setting = has_at firsts places.0 setting || has_at firsts places.1 setting
