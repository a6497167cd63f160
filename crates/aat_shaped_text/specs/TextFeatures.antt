-- What the features of a text ask at each of its characters. (No chapter of the manual: features are the caller's.)
use Rattle.std.specs.Prelude.{ℕ, ◌==◌, ◌&&◌, ◌||◌, not, Bool, true, max, min, nat_lt, List, find, reverse}
use Rattle.std.specs.List.{list_all}
use Rattle.std.specs.Option.{option_map_or}
use Rattle.aat_lookup.specs.Truth.{is_alike}
use Rattle.aat_font.specs.declared.plan.Feature.{Feature}

-- a feature holds a cluster: the cluster is in its range, of which the end u32::MAX never comes
abbrev pub holds : ℕ → Feature → Bool
holds c f = not (nat_lt c f.start) && (nat_lt c f.end || f.end == 0xFFFFFFFF)

-- a feature holds every cluster
abbrev pub is_everywhere : Feature → Bool
is_everywhere f = f.start == 0 && f.end == 0xFFFFFFFF

-- the feature `kern`
abbrev pub is_kern : Feature → Bool
is_kern f = f.tag.0 == 0x6B65726E

-- a feature has a value other than 0
abbrev pub is_on : Feature → Bool
is_on f = not (f.value == 0)

-- the last feature that passes a test is on, or none passes
abbrev pub is_last_on : (Feature → Bool) → List Feature → Bool
is_last_on test features = option_map_or is_on (find test (reverse features)) true

-- kerning is on at a cluster: the last feature `kern` that holds it is on, or none holds it
abbrev pub is_kerned_at : List Feature → ℕ → Bool
is_kerned_at features c = is_last_on (λ f. is_kern f && holds c f) features

-- kerning is requested: the last feature `kern` that turns it on anywhere, or off everywhere, turns it on, or there is
-- none
abbrev pub requests_kerning : List Feature → Bool
requests_kerning features = is_last_on (λ f. is_kern f && (is_on f || is_everywhere f)) features

-- the features ask for the same at two clusters: those that hold one hold the other
abbrev pub ask_alike : List Feature → ℕ → ℕ → Bool
ask_alike features c e = list_all (λ f. is_alike (holds c f) (holds e f)) features

-- a feature holds each cluster from low through c
abbrev pub holds_each : ℕ → ℕ → Feature → Bool
holds_each low c f = holds low f && holds c f

-- it holds none of them: it starts behind c, or does not hold the first of them that is not before its start
abbrev pub holds_none : ℕ → ℕ → Feature → Bool
holds_none low c f = nat_lt c f.start || not (holds (max low f.start) f)

-- the features ask for the same at each cluster from low through c
abbrev pub ask_alike_through : List Feature → ℕ → ℕ → Bool
ask_alike_through features low c = list_all (λ f. holds_each low c f || holds_none low c f) features

-- The features ask for the same at two clusters, and where substitution is not even all along a text, at each cluster
-- between them too.
abbrev pub ask_evenly : Bool → List Feature → ℕ → ℕ → Bool
ask_evenly even features c e = ask_alike features c e && (even || ask_alike_through features (min c e) (max c e))
