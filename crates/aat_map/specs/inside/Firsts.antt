-- Of each group the first that is live.
use Rattle.std.specs.Prelude.{◌≡◌, Bool, true, false, List, [], ◌∷◌, map, Option, Some, None, if◌then◌else◌}
use Rattle.std.specs.List.{AllByRecursion, list_any}
use Rattle.aat_map.specs.declared.feature.feature_info_t.{feature_info_t}
use Rattle.aat_map.specs.Live.{in_group}

-- the first that is of a group, if there is one
abbrev pub first_of : List feature_info_t → feature_info_t → Option feature_info_t
first_of [] group = None
first_of (i ∷ is) group = if in_group i group then Some i else first_of is group

-- of each group the first
abbrev pub firsts_of : List feature_info_t → List feature_info_t → List (Option feature_info_t)
firsts_of groups list = map (first_of list) groups

-- those that there are
abbrev pub present : List (Option feature_info_t) → List feature_info_t
present [] = []
present (None ∷ os) = present os
present (Some i ∷ os) = i ∷ present os

-- no two are of one group
abbrev pub AreApart : List feature_info_t → Type 0
AreApart [] = Unit {0}
AreApart (g ∷ gs) = AllByRecursion (λ h. in_group g h ≡ false) gs × AreApart gs

-- each is of one of the groups
abbrev pub AreGrouped : List feature_info_t → List feature_info_t → Type 0
AreGrouped groups list = AllByRecursion (λ i. list_any (λ g. in_group g i) groups ≡ true) list

-- of each group of a list one
pub record AreGroupsOf (list groups : List feature_info_t) : Type 0 where
  pub apart : AreApart groups
  pub each : AreGrouped groups list

-- a change is noted: where none is now, none was before, and these are the same
abbrev pub IsNoted : Bool → Bool → List (Option feature_info_t) → List (Option feature_info_t) → Type 0
IsNoted was now olds news = now ≡ false → (was ≡ false) × (news ≡ olds)
