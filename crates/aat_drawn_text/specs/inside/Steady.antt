-- Spans of clusters at which the features of a text ask for the same.
use Rattle.std.specs.Prelude.{◌≡◌, ℕ, ◌≤◌, ◌&&◌, Bool, All, List, max, nat_le, nat_lt, if◌then◌else◌}
use Rattle.aat_font.specs.declared.plan.Feature.{Feature}
use Rattle.aat_shaped_text.specs.TextFeatures.{holds}
use Rattle.aat_drawn_text.specs.declared.steady.SteadySpan.{SteadySpan}

-- a span has a cluster
abbrev pub contains : SteadySpan → ℕ → Bool
contains span c = nat_le span.first c && nat_le c span.last

-- a feature holds all clusters from one to another, or none of them
abbrev pub KeepsOver : ℕ → ℕ → Feature → Type 0
KeepsOver first last f =
    (c e : ℕ) → first ≤ c → c ≤ last → first ≤ e → e ≤ last → holds c f ≡ holds e f

-- the features ask for the same at all clusters of a span
abbrev pub IsSteady : List Feature → SteadySpan → Type 0
IsSteady features span = All (KeepsOver span.first span.last) features

-- where behind a cluster a feature begins to hold clusters, or else ends to
abbrev pub change_of : ℕ → Feature → ℕ
change_of c f = if nat_lt c f.start then f.start else f.end

-- the cluster behind those from one on up to which nothing changes, with one more feature
abbrev pub next_change : ℕ → ℕ → Feature → ℕ
next_change c behind f =
    if nat_lt c (change_of c f) && nat_lt (change_of c f) behind then change_of c f else behind

-- the first of the clusters up to one that no cut comes behind
abbrev pub first_from : ℕ → ℕ → ℕ → ℕ
first_from c first cut = if nat_lt c cut then first else max first cut

-- so it is with the start and the end of a feature
abbrev pub first_behind : ℕ → ℕ → Feature → ℕ
first_behind c first f = first_from c (first_from c first f.start) f.end
