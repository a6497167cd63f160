-- Which requests count at a cluster. Apple's TrueType Reference Manual, "The 'feat' table", exclusive settings.
use Rattle.std.specs.Prelude.{◌≡◌, ℕ, ◌==◌, ◌&&◌, ◌||◌, not, nat_lt, nat_le, Bool, List, [], ◌∷◌, filter, map, fold, length, bit_and, if◌then◌else◌}
use Rattle.std.specs.List.{list_any, list_all, AllAdjacentBelow}
use Rattle.std.specs.Ordering.{nat_cmp, bool_cmp, on, then_cmp}
use Rattle.std.specs.declared.cmp.Ordering.{Ordering}
use Rattle.std.specs.declared.cmp.Ordering.TheVariants.{Less}
use Rattle.aat_lookup.specs.Truth.{is_alike}
use Rattle.aat_map.specs.ChainFlags.{flags_by}
use Rattle.aat_machine_tables.specs.declared.morx.ChainFeature.{ChainFeature}
use Rattle.aat_map.specs.declared.feature.feature_info_t.{feature_info_t}
use Rattle.aat_map.specs.declared.feature.feature_range_t.{feature_range_t}
use Rattle.aat_run.specs.Ranges.{last_cluster}

-- a request is admitted where its start is below its end
abbrev pub is_admitted : feature_range_t → Bool
is_admitted r = nat_lt r.start r.end

-- those of requests that are admitted
abbrev pub admitted : List feature_range_t → List feature_range_t
admitted requests = filter is_admitted requests

-- a request goes behind those that start no later
abbrev pub placed_by_start : List feature_range_t → feature_range_t → List feature_range_t
placed_by_start [] r = r ∷ []
placed_by_start (q ∷ qs) r = if nat_le q.start r.start then q ∷ placed_by_start qs r else r ∷ (q ∷ qs)

-- the admitted requests by start, and where starts are equal in the order of adding
abbrev pub by_start : List feature_range_t → List feature_range_t
by_start requests = fold placed_by_start [] (admitted requests)

-- a request starts at x or before
abbrev pub has_begun : ℕ → feature_range_t → Bool
has_begun x r = nat_le r.start x

-- a request ends at x or before; one up to the last cluster never does
abbrev pub has_ended : ℕ → feature_range_t → Bool
has_ended x r = nat_le r.end x && not (r.end == last_cluster)

-- what requests ask for
abbrev pub infos : List feature_range_t → List feature_info_t
infos requests = map (λ r. r.info) requests

-- equal in kind, setting and exclusiveness
abbrev pub is_equal : feature_info_t → feature_info_t → Bool
is_equal a b = (a.kind == b.kind) && ((a.setting == b.setting) && is_alike a.is_exclusive b.is_exclusive)

-- without the earliest that is equal to one
abbrev pub without_earliest : List feature_info_t → feature_info_t → List feature_info_t
without_earliest [] info = []
without_earliest (q ∷ qs) info = if is_equal q info then qs else q ∷ without_earliest qs info

-- what is live at x of requests by start: what has begun, where for each request that has ended the earliest equal
-- one is left out
abbrev pub live_among : ℕ → List feature_range_t → List feature_info_t
live_among x ordered =
    fold without_earliest (infos (filter (has_begun x) ordered)) (infos (filter (has_ended x) ordered))

-- what is live at x, in order of start and then of adding
abbrev pub live : ℕ → List feature_range_t → List feature_info_t
live x requests = live_among x (by_start requests)

-- the setting that tells groups apart: none where exclusive, and else the setting without its low bit
abbrev pub group_setting : feature_info_t → ℕ
group_setting info = if info.is_exclusive then 0 else bit_and info.setting 0xFFFE

-- of one group: equal in kind, exclusiveness and the setting that tells groups apart
abbrev pub in_group : feature_info_t → feature_info_t → Bool
in_group a b = (a.kind == b.kind) && (is_alike a.is_exclusive b.is_exclusive && (group_setting a == group_setting b))

-- the order of groups: by kind, then not exclusive before exclusive, then by that setting
abbrev pub group_order : feature_info_t → feature_info_t → Ordering
group_order =
    then_cmp (on (λ i. i.kind) nat_cmp) (then_cmp (on (λ i. i.is_exclusive) bool_cmp) (on group_setting nat_cmp))

-- of each group the first
abbrev pub kept : List feature_info_t → List feature_info_t
kept [] = []
kept (i ∷ is) = i ∷ filter (λ j. not (in_group i j)) (kept is)

-- the settings rise strictly in the order of groups
abbrev pub IsRisingByGroup : List feature_info_t → Type 0
IsRisingByGroup list = AllAdjacentBelow (λ a b. group_order a b ≡ Less) list (length list)

-- a list has this kind and setting
abbrev pub has_setting : List feature_info_t → ℕ → ℕ → Bool
has_setting list kind setting = list_any (λ i. (i.kind == kind) && (i.setting == setting)) list

-- what is kept at x
abbrev pub kept_at : ℕ → List feature_range_t → List feature_info_t
kept_at x requests = kept (live x requests)

-- a kind and setting is requested at x where it is that of the first live request of its group
abbrev pub requested_at : ℕ → List feature_range_t → ℕ → ℕ → Bool
requested_at x requests kind setting = has_setting (kept_at x requests) kind setting

-- the flags of a chain at a cluster
abbrev pub flags_at_cluster : List feature_range_t → ℕ → List ChainFeature → ℕ → ℕ
flags_at_cluster requests default_flags features x = flags_by (requested_at x requests) default_flags features

-- an end of the text
abbrev pub is_edge : ℕ → Bool
is_edge x = (x == 0) || (x == last_cluster)

-- a request starts or ends at x, which is no end of the text
abbrev pub cuts_at : ℕ → feature_range_t → Bool
cuts_at x r = ((r.start == x) || (r.end == x)) && not (is_edge x)

-- an admitted request starts or ends at x, which is no end of the text: there the ranges are cut
abbrev pub is_cut : List feature_range_t → ℕ → Bool
is_cut requests x = list_any (cuts_at x) (admitted requests)

-- a request starts and ends at an end of the text
abbrev pub is_between_edges : feature_range_t → Bool
is_between_edges r = is_edge r.start && is_edge r.end

-- each admitted request starts and ends at an end of the text: a chain has one range then
abbrev pub is_uncut : List feature_range_t → Bool
is_uncut requests = list_all is_between_edges (admitted requests)
