-- Where a text gives each chain one range, or substitution keeps its glyphs apart, each subtable is the same all along it;
-- and it is alike from one cluster through another where the features ask for the same there.
use Rattle.std.proofs.Common.{◌≡◌, ◌∙◌, sym, ap, refl, ℕ, ◌≤◌, ◌==◌, ◌&&◌, ◌||◌, Bool, true, false, cond, not, List, bit_and, inl, inr, arith, true≢false}
use Rattle.std.proofs.lemmas.Bool.{and_parts, eqb-true}
use Rattle.std.proofs.lemmas.Bool.Decides.{nat_tests}
use Rattle.std.proofs.lemmas.List.Elements.{All-map}
use Rattle.std.proofs.lemmas.List.Sums.{AllPass-from_list_all}
use Rattle.std.specs.List.{AllByRecursion, cons_option, list_all}
use Rattle.std.specs.Prelude.{All, Option, Some, None, [], ◌∷◌, option_map, slice_index_or}
use Rattle.aat_glyph.specs.declared.glyph.Direction.{Direction}
use Rattle.aat_lookup.specs.declared.feat.FeatureName.{FeatureName}
use Rattle.aat_machine_tables.specs.declared.morx.Chain.{Chain}
use Rattle.aat_machine_tables.specs.declared.morx.Subtable.{Subtable}
use Rattle.aat_font.specs.declared.plan.Feature.{Feature}
use Rattle.aat_run.specs.Switches.{Switch, meets}
use Rattle.aat_map.specs.ChainFlags.{flags_by}
use Rattle.aat_map.specs.Live.{admitted, flags_at_cluster, has_setting, is_admitted, is_uncut, kept, requested_at}
use Rattle.aat_map.specs.Requests.{addition, over_clusters, requests_of}
use Rattle.aat_map.specs.SwitchedChains.{SwitchedChain, by_requests, switched_at}
use Rattle.aat_map.specs.declared.feature.feature_info_t.{feature_info_t}
use Rattle.aat_map.proofs.CutLemmas.{SameSide, live_same, ordered_all}
use Rattle.aat_map.proofs.OneRange.{flags_of_one_range}
use Rattle.aat_kinds.specs.Kinds.{is_for}
use Rattle.aat_closing.specs.ClosingCuts.{IsEven, is_noncontextual}
use Rattle.aat_closing.specs.CutsAbout.{AreEvenAbout, IsEvenAbout}
use Rattle.aat_shaped_text.specs.Breaks.{keeps_apart, possible_flags}
use Rattle.aat_shaped_text.specs.TextFeatures.{ask_alike_through, holds_each, holds_none}
use Rattle.aat_shaped_text.proofs.Bits.{none_asks, possible_are_all}

-- a subtable that no flags of a text switch on is off at each cluster
possible_is_all :
    (names : Option (List FeatureName)) (features : List Feature) (c : Chain) (m x : ℕ)
    → bit_and (possible_flags features c) m ≡ 0
    → bit_and (flags_by (requested_at x (requests_of names features)) c.default_flags c.features.items) m ≡ 0
possible_is_all names [] c m x off =
    ap (λ n. bit_and n m) (none_asks x c.default_flags c.features.items) ∙ off
possible_is_all names (f ∷ features) c m x off =
    possible_are_all m (requested_at x (requests_of names (f ∷ features))) c.default_flags c.features.items off

module _ (names : Option (List FeatureName)) (features : List Feature) (d : Direction) where
  abbrev switch_of : Chain → Switch
  switch_of c = (switched_at (requests_of names features) c).switch

  -- where no range is cut it is on at each cluster, or left out
  even_in_one : (c : Chain) (s : Subtable) → is_uncut (requests_of names features) ≡ true → IsEven d (switch_of c) s
  even_in_one c s one = by_first (meets (flags_at_cluster (requests_of names features) c.default_flags c.features.items 0) s.feature_flags) refl
    where
      by_first : (t : Bool) → meets (flags_at_cluster (requests_of names features) c.default_flags c.features.items 0) s.feature_flags ≡ t → IsEven d (switch_of c) s
      by_first true on =
          inr (inr (inl (λ x. ap (λ n. meets n s.feature_flags) (flags_of_one_range (requests_of names features) c.default_flags c.features.items x one) ∙ on)))
      by_first false off =
          inl
          (ap (λ t. (t && not (meets (flags_at_cluster (requests_of names features) c.default_flags c.features.items 0) s.feature_flags)) || not (is_for d s.coverage)) one
          ∙ ap (λ t. not t || not (is_for d s.coverage)) off)

  -- a subtable that keeps glyphs apart
  even_apart : (c : Chain) (s : Subtable) → keeps_apart d (possible_flags features c) s ≡ true → IsEven d (switch_of c) s
  even_apart c s apart = by_case (is_noncontextual s.kind) refl (is_for d s.coverage) refl (bit_and (possible_flags features c) s.feature_flags == 0) refl apart
    where
      left_out : is_for d s.coverage ≡ false → (t : Bool) → (t || not (is_for d s.coverage)) ≡ true
      left_out other true = refl
      left_out other false = ap not other

      by_case : (t : Bool) → is_noncontextual s.kind ≡ t → (u : Bool) → is_for d s.coverage ≡ u
          → (v : Bool) → (bit_and (possible_flags features c) s.feature_flags == 0) ≡ v → (t || not u || not (not v)) ≡ true → IsEven d (switch_of c) s
      by_case true alone u for v off holds = inr (inl alone)
      by_case false alone false for v off holds = inl (left_out for (is_uncut (requests_of names features) && not ((switch_of c).is_on s.feature_flags 0)))
      by_case false alone true for false off holds = absurd (true≢false (sym holds))
      by_case false alone true for true off holds =
          inr (inr (inr (λ x. ap (λ n. not (n == 0)) (possible_is_all names features c s.feature_flags x (eqb-true (bit_and (possible_flags features c) s.feature_flags) 0 off)))))

  pub all_even : (chains : List Chain)
      → (is_uncut (requests_of names features) || list_all (λ c. list_all (keeps_apart d (possible_flags features c)) c.subtables.items) chains) ≡ true
      → All (λ (k : SwitchedChain). All (IsEven d k.switch) k.subtables) (by_requests (requests_of names features) chains)
  all_even chains holds =
      All-map (λ (k : SwitchedChain). All (IsEven d k.switch) k.subtables) (switched_at (requests_of names features)) chains
      (by_ranges (is_uncut (requests_of names features)) refl holds)
    where
      apart : Chain → Bool
      apart c = list_all (keeps_apart d (possible_flags features c)) c.subtables.items

      by_ranges : (t : Bool) → is_uncut (requests_of names features) ≡ t → (t || list_all apart chains) ≡ true
          → All (λ (c : Chain). All (IsEven d (switch_of c)) c.subtables.items) chains
      by_ranges true one all n e within m f low = even_in_one (slice_index_or chains n e) (slice_index_or (slice_index_or chains n e).subtables.items m f) one
      by_ranges false cut all n e within m f low =
          let c = slice_index_or chains n e in
          even_apart c (slice_index_or c.subtables.items m f)
          (AllPass-from_list_all (keeps_apart d (possible_flags features c)) c.subtables.items (AllPass-from_list_all apart chains all n e within) m f low)

-- an admitted request whose feature holds each cluster from low through c, or none, begins and ends on one side of them
same_side : (names : Option (List FeatureName)) (f : Feature) (info : feature_info_t) (low c x : ℕ) → low ≤ x → x ≤ c
    → (holds_each low c f || holds_none low c f) ≡ true → is_admitted (over_clusters f info) ≡ true → SameSide x low (over_clusters f info)
same_side names f info low c x high under alike admits = record {
  begun = grind (arith, nat_tests, high, under, alike, admits);
  ended = grind (arith, nat_tests, high, under, alike, admits);
}

same_sides : (names : Option (List FeatureName)) (low c x : ℕ) → low ≤ x → x ≤ c → (fs : List Feature) → ask_alike_through fs low c ≡ true
    → AllByRecursion (SameSide x low) (admitted (requests_of names fs))
same_sides names low c x high under [] alike = tt
same_sides names low c x high under (f ∷ fs) alike =
    let both = and_parts (holds_each low c f || holds_none low c f) (ask_alike_through fs low c) alike in
    by_request both.0 (same_sides names low c x high under fs both.1) (addition names f).appended
  where
    by_test : (info : feature_info_t) → (holds_each low c f || holds_none low c f) ≡ true → AllByRecursion (SameSide x low) (admitted (requests_of names fs))
        → (t : Bool) → is_admitted (over_clusters f info) ≡ t → AllByRecursion (SameSide x low) (cond t (over_clusters f info ∷ admitted (requests_of names fs)) (admitted (requests_of names fs)))
    by_test info here rest true is = (same_side names f info low c x high under here is, rest)
    by_test info here rest false is = rest

    by_request : (holds_each low c f || holds_none low c f) ≡ true → AllByRecursion (SameSide x low) (admitted (requests_of names fs))
        → (o : Option feature_info_t) → AllByRecursion (SameSide x low) (admitted (cons_option (option_map (over_clusters f) o) (requests_of names fs)))
    by_request here rest None = rest
    by_request here rest (Some info) = by_test info here rest (is_admitted (over_clusters f info)) refl

-- so a chain has the same flags at each of them
flags_through : (names : Option (List FeatureName)) (features : List Feature) (low c : ℕ) → ask_alike_through features low c ≡ true → (k : Chain) (x : ℕ) → low ≤ x → x ≤ c
    → flags_at_cluster (requests_of names features) k.default_flags k.features.items x ≡ flags_at_cluster (requests_of names features) k.default_flags k.features.items low
flags_through names features low c alike k x high under =
    let requests = requests_of names features in
    let same = live_same x low requests (ordered_all (SameSide x low) [] (admitted requests) tt (same_sides names low c x high under features alike)) in
    ap (λ (ls : List feature_info_t). flags_by (has_setting (kept ls)) k.default_flags k.features.items) same

-- and each subtable is on at each of them, or off at each
pub all_even_through : (names : Option (List FeatureName)) (features : List Feature) (d : Direction) (low c : ℕ) → ask_alike_through features low c ≡ true → (chains : List Chain)
    → AreEvenAbout low c d (by_requests (requests_of names features) chains)
all_even_through names features d low c alike chains =
    All-map (λ (k : SwitchedChain). All (IsEvenAbout low c d k.switch) k.subtables) (switched_at (requests_of names features)) chains
    (λ n e within m f inside. even_at (slice_index_or chains n e) (slice_index_or (slice_index_or chains n e).subtables.items m f))
  where
    even_at : (k : Chain) (s : Subtable) → IsEvenAbout low c d (switched_at (requests_of names features) k).switch s
    even_at k s = by_first (meets (flags_at_cluster (requests_of names features) k.default_flags k.features.items low) s.feature_flags) refl
      where
        by_first : (t : Bool) → meets (flags_at_cluster (requests_of names features) k.default_flags k.features.items low) s.feature_flags ≡ t → IsEvenAbout low c d (switched_at (requests_of names features) k).switch s
        by_first true on = inr (inr (inl (λ x high under. ap (λ n. meets n s.feature_flags) (flags_through names features low c alike k x high under) ∙ on)))
        by_first false off = inr (inr (inr (λ x high under. ap (λ n. meets n s.feature_flags) (flags_through names features low c alike k x high under) ∙ off)))
