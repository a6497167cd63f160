-- Where the line of subtables can be cut that are alike about the cut, and may be on and off elsewhere. (No chapter of the
-- manual: where a line can be broken is the shaper's own.)
use Rattle.std.specs.Prelude.{◌≡◌, ◌⊎◌, ◌+◌, ◌<◌, ◌≤◌, ℕ, Bool, true, false, List, ◌++◌, All}
use Rattle.aat_buffer.specs.Buffer.{Buffer}
use Rattle.aat_buffer.specs.Marks.{produces_concat}
use Rattle.aat_glyph.specs.declared.glyph.Direction.{Direction}
use Rattle.aat_machine_tables.specs.declared.morx.Coverage.{Coverage}
use Rattle.aat_machine_tables.specs.declared.morx.Subtable.{Subtable}
use Rattle.aat_machine_tables.specs.declared.morx.SubtableKind.{SubtableKind}
use Rattle.aat_run.specs.Budget.{operations_left}
use Rattle.aat_run.specs.Switches.{Switch}
use Rattle.aat_map.specs.SwitchedChains.{SwitchedChain}
use Rattle.aat_kinds.specs.Kinds.{Sizes}
use Rattle.aat_morx.specs.Substitution.{is_skipped}
use Rattle.aat_cut_kinds.specs.Parts.{back_part, front_part}
use Rattle.aat_closing.specs.ClosingChains.{closing_substituted}
use Rattle.aat_closing.specs.ClosingCuts.{IsLimitedFrom, is_noncontextual}
use Rattle.aat_closing.specs.ClosingRuns.{closing_ordered, closing_run, may_split, told_in_order}
use Rattle.aat_closing.specs.ToldParts.{HasBetween, IsFall, IsRise, PartsOfText, TellsOpen, ToldInParts}

-- a subtable is on at each cluster from low through c
abbrev pub IsOnAbout : ℕ → ℕ → (ℕ → Bool) → Type 0
IsOnAbout low c on = (d : ℕ) → low ≤ d → d ≤ c → on d ≡ true

-- it is off at each of them
abbrev pub IsOffAbout : ℕ → ℕ → (ℕ → Bool) → Type 0
IsOffAbout low c on = (d : ℕ) → low ≤ d → d ≤ c → on d ≡ false

-- it is on at each of them, or off at each
abbrev pub IsAlikeAbout : ℕ → ℕ → (ℕ → Bool) → Type 0
IsAlikeAbout low c on = IsOnAbout low c on ⊎ IsOffAbout low c on

-- With a slot for components, each run of a subtable that closes what it looks at, and is alike from low through c,
-- leaves its parts at each rise to c where it tells that c is open, and leaves some of the budget, and a glyph whose
-- cluster is from low on and below c; and it tells of the parts too.
abbrev pub KindsLeavePartsAboutRise : Type 0
KindsLeavePartsAboutRise =
    (z : Sizes) (on : ℕ → Bool) (kind : SubtableKind) (low c : ℕ) → 0 < z.slots → IsAlikeAbout low c on
    → (q : ℕ) (b : Buffer) → IsRise c q b → HasBetween low c (closing_run z on kind b).buffer.line
    → TellsOpen c (closing_run z on kind b)
    → ToldInParts (closing_run z on kind b) (closing_run z on kind (front_part q b)) (closing_run z on kind (back_part q b))

-- and at each fall below c, unless it is one of rearrangement
abbrev pub KindsLeavePartsAboutFall : Type 0
KindsLeavePartsAboutFall =
    (z : Sizes) (on : ℕ → Bool) (kind : SubtableKind) (low c : ℕ) → 0 < z.slots → IsAlikeAbout low c on
    → may_split kind ≡ false
    → (q : ℕ) (b : Buffer) → IsFall c q b → HasBetween low c (closing_run z on kind b).buffer.line
    → TellsOpen c (closing_run z on kind b)
    → ToldInParts (closing_run z on kind b) (closing_run z on kind (front_part q b)) (closing_run z on kind (back_part q b))

-- With a slot for components, the closing runs of subtables one after another, each in the order of its coverage and
-- alike from low through c, leave the parts of a line at a rise to c, as PartsOfText says.
abbrev pub ListsLeavePartsAbout : Type 0
ListsLeavePartsAbout =
    (z : Sizes) (low c : ℕ) (subtables : List ((ℕ → Bool) × Coverage × SubtableKind)) → 0 < z.slots
    → All (λ s. IsAlikeAbout low c s.0) subtables
    → PartsOfText low c (told_in_order (λ s. closing_ordered z s.0 s.1 s.2) subtables)

-- For texts of a direction a subtable is the same about a cut: it is left out of them, or it substitutes each glyph by
-- itself, or it is on at each cluster from low through c, or off at each.
abbrev pub IsEvenAbout : ℕ → ℕ → Direction → Switch → Subtable → Type 0
IsEvenAbout low c d switch s =
    (is_skipped switch s d ≡ true) ⊎ (is_noncontextual s.kind ≡ true) ⊎ IsAlikeAbout low c (switch.is_on s.feature_flags)

-- the subtables of chains are so
abbrev pub AreEvenAbout : ℕ → ℕ → Direction → List SwitchedChain → Type 0
AreEvenAbout low c d chains = All (λ k. All (IsEvenAbout low c d k.switch) k.subtables) chains

-- With a slot for components, the closing runs of chains whose subtables are so leave the parts of a line of that
-- direction, the cursor at its front and no marks against joining asked for, at a rise to c: where they tell that c is
-- open, and leave some of the budget, and a glyph whose cluster is from low on and below c.
abbrev pub ChainsLeavePartsAbout : Type 0
ChainsLeavePartsAbout =
    (z : Sizes) (d : Direction) (low c : ℕ) (chains : List SwitchedChain) → 0 < z.slots
    → AreEvenAbout low c d chains → (q : ℕ) (b : Buffer) → b.direction ≡ d → b.cursor ≡ 0
    → produces_concat b.flags ≡ false → IsRise c q b
    → TellsOpen c (closing_substituted z chains b) → HasBetween low c (closing_substituted z chains b).buffer.line
    → ToldInParts (closing_substituted z chains b) (closing_substituted z chains (front_part q b))
    (closing_substituted z chains (back_part q b))

-- The same of parts with limits of their own: the line is that of the parts where the run over the whole takes less of its
-- budget than either part has.
abbrev pub ChainsLeaveLimitedPartsAbout : Type 0
ChainsLeaveLimitedPartsAbout =
    (z : Sizes) (d : Direction) (low c : ℕ) (chains : List SwitchedChain) → 0 < z.slots → AreEvenAbout low c d chains
    → (q : ℕ) (b front back : Buffer) → b.direction ≡ d → b.cursor ≡ 0 → produces_concat b.flags ≡ false → IsRise c q b
    → TellsOpen c (closing_substituted z chains b) → HasBetween low c (closing_substituted z chains b).buffer.line
    → IsLimitedFrom (front_part q b) front → IsLimitedFrom (back_part q b) back
    → let left : ℕ = operations_left (closing_substituted z chains b).buffer.max_ops in
    operations_left b.max_ops < operations_left front.max_ops + left
    → operations_left b.max_ops < operations_left back.max_ops + left
    → (closing_substituted z chains b).buffer.line
    ≡ (closing_substituted z chains front).buffer.line ++ (closing_substituted z chains back).buffer.line
