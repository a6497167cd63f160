-- Where no range is cut, a chain has the same flags everywhere.
use Rattle.std.proofs.Common.{◌≡◌, ℕ, Bool, true, false, ◌&&◌, List, [], ◌∷◌, arith, ap, refl}
use Rattle.std.specs.List.{list_all, AllByRecursion}
use Rattle.std.proofs.lemmas.Bool.Decides.{nat_tests}
use Rattle.std.proofs.lemmas.List.Elements.{filter_passes, recursion_from_All}
use Rattle.aat_map.specs.declared.feature.feature_range_t.{feature_range_t}
use Rattle.aat_map.specs.declared.feature.feature_info_t.{feature_info_t}
use Rattle.aat_machine_tables.specs.declared.morx.ChainFeature.{ChainFeature}
use Rattle.aat_map.specs.ChainFlags.{flags_by}
use Rattle.aat_map.specs.Live.{is_admitted, admitted, kept, has_setting, flags_at_cluster, is_uncut, is_between_edges}
use Rattle.aat_map.proofs.CutLemmas.{SameSide, live_same, ordered_all}

both_true : (a b : Bool) → (a && b) ≡ true → (a ≡ true) × (b ≡ true)
both_true true b h = (refl, h)
both_true false b h = absurd (cc)

-- an admitted request from one end of the text to the other has begun everywhere and ends nowhere
same_side : (x : ℕ) (r : feature_range_t) → is_between_edges r ≡ true → is_admitted r ≡ true → SameSide x 0 r
same_side x r edges admits = record { begun = grind (arith, nat_tests, edges, admits); ended = grind (arith, nat_tests, edges, admits) }

same_sides : (x : ℕ) (rs : List feature_range_t) → list_all is_between_edges rs ≡ true → AllByRecursion (λ r. is_admitted r ≡ true) rs → AllByRecursion (SameSide x 0) rs
same_sides x [] edges admits = tt
same_sides x (r ∷ rs) edges admits =
    let both = both_true (is_between_edges r) (list_all is_between_edges rs) edges in
    (same_side x r both.0 admits.0, same_sides x rs both.1 admits.1)

-- a chain that has one range has the same flags at each cluster
pub flags_of_one_range : (rs : List feature_range_t) (default_flags : ℕ) (features : List ChainFeature) (x : ℕ) → is_uncut rs ≡ true → flags_at_cluster rs default_flags features x ≡ flags_at_cluster rs default_flags features 0
flags_of_one_range rs default_flags features x one =
    let admits : AllByRecursion (λ r. is_admitted r ≡ true) (admitted rs) = recursion_from_All (λ r. is_admitted r ≡ true) (admitted rs) (λ k d low. filter_passes is_admitted rs k d low) in
    let same = live_same x 0 rs (ordered_all (SameSide x 0) [] (admitted rs) tt (same_sides x (admitted rs) one admits)) in
    ap (λ (ls : List feature_info_t). flags_by (has_setting (kept ls)) default_flags features) same
