-- Where the line of a subtable can be cut, whatever its table. (No chapter of the manual: where a line can be broken is
-- the shaper's own.)
use Rattle.std.specs.Prelude.{◌≡◌, ◌⊎◌, ◌<◌, ℕ, Bool, true, false, List, All}
use Rattle.aat_buffer.specs.Buffer.{Buffer}
use Rattle.aat_glyph.specs.declared.glyph.Direction.{Direction}
use Rattle.aat_machine_tables.specs.declared.morx.Subtable.{Subtable}
use Rattle.aat_machine_tables.specs.declared.morx.SubtableKind.{SubtableKind}
use Rattle.aat_machine_tables.specs.declared.morx.SubtableKind.TheVariants.{Rearrangement, Contextual, Ligature, NonContextual, Insertion}
use Rattle.aat_run.specs.Switches.{Switch}
use Rattle.aat_map.specs.SwitchedChains.{SwitchedChain}
use Rattle.aat_kinds.specs.Kinds.{Sizes}
use Rattle.aat_morx.specs.Substitution.{is_skipped}
use Rattle.aat_closing.specs.ClosingRuns.{closing_run, may_split}
use Rattle.aat_closing.specs.ToldParts.{PartsAtFall, PartsAtRise}

-- With a slot for components, each run of a subtable that closes what it looks at leaves its parts at each rise of the
-- clusters at which the subtable is on and the run tells that the cluster which begins there is open, and leaves some of
-- the budget; and it tells of the parts too.
abbrev pub KindsLeavePartsAtRise : Type 0
KindsLeavePartsAtRise =
    (z : Sizes) (on : ℕ → Bool) (kind : SubtableKind) → 0 < z.slots → PartsAtRise (closing_run z on kind) on

-- and at each fall, of the cluster which ends there, unless it is one of rearrangement
abbrev pub KindsLeavePartsAtFall : Type 0
KindsLeavePartsAtFall =
    (z : Sizes) (on : ℕ → Bool) (kind : SubtableKind) → 0 < z.slots → may_split kind ≡ false
    → PartsAtFall (closing_run z on kind) on

-- a subtable substitutes each glyph by itself
abbrev pub is_noncontextual : SubtableKind → Bool
is_noncontextual (Rearrangement table) = false
is_noncontextual (Contextual subtable) = false
is_noncontextual (Ligature subtable) = false
is_noncontextual (NonContextual lookup) = true
is_noncontextual (Insertion subtable) = false

-- For texts of a direction a subtable is the same all along: it is left out of them, or it substitutes each glyph by
-- itself, or it is on at each cluster, or at none.
abbrev pub IsEven : Direction → Switch → Subtable → Type 0
IsEven d switch s =
    (is_skipped switch s d ≡ true) ⊎ (is_noncontextual s.kind ≡ true)
    ⊎ ((x : ℕ) → switch.is_on s.feature_flags x ≡ true) ⊎ ((x : ℕ) → switch.is_on s.feature_flags x ≡ false)

-- the subtables of chains are so
abbrev pub AreEven : Direction → List SwitchedChain → Type 0
AreEven d chains = All (λ k. All (IsEven d k.switch) k.subtables) chains

-- a buffer is another one but for its limits: the budget, and the greatest length
abbrev pub IsLimitedFrom : Buffer → Buffer → Type 0
IsLimitedFrom b part = part ≡ record b { max_ops = part.max_ops; max_len = part.max_len }
