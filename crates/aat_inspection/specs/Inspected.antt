-- What an inspection lists of a font's chains. Apple's TrueType Reference Manual, "The 'morx' table", chain header and
-- feature subtables.
use Rattle.std.specs.Prelude.{◌≡◌, ℕ, ◌+◌, ◌≤◌, ◌==◌, ◌⊎◌, Bool, List, [], ◌∷◌, Vec, map, Option, Some, slice_get, if◌then◌else◌}
use Rattle.std.specs.declared.alloc.Global.{Global}
use Rattle.aat_font.specs.declared.face.hb_font_t.{hb_font_t}
use Rattle.aat_layout.specs.Adding.{RefusesFeatures}
use Rattle.aat_layout.specs.Face.{chains_in, tables_of}
use Rattle.aat_layout.specs.Live.{flags_at_cluster}
use Rattle.aat_layout.specs.Ranges.{last_cluster}
use Rattle.aat_layout.specs.Requests.{requests_of}
use Rattle.aat_layout.specs.SwitchedChains.{switched_at}
use Rattle.aat_layout.specs.FeatureName.{FeatureName}
use Rattle.aat_layout.specs.Chain.{Chain}
use Rattle.aat_layout.specs.Feature.{Feature}
use Rattle.aat_layout.specs.feature_range_t.{feature_range_t}
use Rattle.aat_layout.specs.AatError.{AatError}
use Rattle.aat_layout.specs.AatError.TheVariants.{OutOfMemory}
use Rattle.aat_inspection.specs.declared.ranges.InspectedRange.{InspectedRange}

-- a line of the table: a chain, the first and the last cluster of a range, the flags there, and for each subtable
-- whether it is on
pub record TableLine : Type 0 where
  pub chain : ℕ
  pub first : ℕ
  pub last : ℕ
  pub flags : ℕ
  pub on : List Bool

-- the line of a range
abbrev pub table_line : InspectedRange → TableLine
table_line r = record { chain = r.chain; first = r.first; last = r.last; flags = r.flags; on = r.on.items }

-- the lines of ranges
abbrev pub table_lines : Vec InspectedRange Global → List TableLine
table_lines ranges = map table_line ranges.items

-- the chains of a font
abbrev pub chains_of : hb_font_t → List Chain
chains_of face = chains_in (tables_of face).morx

-- the requests that features make of a font
abbrev pub requests_to : hb_font_t → List Feature → List feature_range_t
requests_to face features = requests_of (tables_of face).feat features

-- at cluster x a line has what substitution asks of its chain: the chain's flags there, and of each of its subtables
-- whether it is on there
pub record IsAskedAt (requests : List feature_range_t) (c : Chain) (x : ℕ) (line : TableLine) : Type 0 where
  pub flags : line.flags ≡ flags_at_cluster requests c.default_flags c.features.items x
  pub on : line.on ≡ map (λ s. (switched_at requests c).switch.is_on s.feature_flags x) c.subtables.items

-- so it is at each cluster of the line
abbrev pub IsAsked : List feature_range_t → List Chain → TableLine → Type 0
IsAsked requests chains line =
    (c : Chain) (x : ℕ) → slice_get chains line.chain ≡ Some c → line.first ≤ x → x ≤ line.last
    → IsAskedAt requests c x line

-- a chain and a cluster of it; behind the last cluster there is the first one of the next chain
abbrev pub chain_and_cluster : ℕ → ℕ → ℕ × ℕ
chain_and_cluster k x = if x == last_cluster + 1 then (k + 1, 0) else (k, x)

-- lines lead from a chain and cluster to another: each one begins right behind the one before
abbrev pub Lead : ℕ × ℕ → ℕ × ℕ → List TableLine → Type 0
Lead from to [] = from ≡ to
Lead from to (l ∷ ls) =
    ((l.chain, l.first) ≡ from) × (l.first ≤ l.last) × Lead (chain_and_cluster l.chain (l.last + 1)) to ls

-- why an inspection is refused: the first value of alternates that is no setting, or want of memory
abbrev pub RefusesInspection : Option (List FeatureName) → List Feature → AatError → Type 0
RefusesInspection names features error = (error ≡ OutOfMemory) ⊎ RefusesFeatures names features error
