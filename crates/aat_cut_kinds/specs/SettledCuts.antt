-- A contextual or insertion subtable that is settled leaves the parts of a line at an unmarked cut. (No chapter of the
-- manual: the marks that say where a line can be broken are the shaper's own.)
use Rattle.std.specs.Prelude.{ℕ, Bool}
use Rattle.aat_buffer.specs.Buffer.{Buffer}
use Rattle.aat_machine_tables.specs.Subtables.{ContextualTables, InsertionTables}
use Rattle.aat_machine_tables.specs.declared.morx.SubtableKind.TheVariants.{Contextual, Insertion}
use Rattle.aat_kinds.specs.Kinds.{Sizes, kind_run, reversed_run}
use Rattle.aat_cuts.specs.Kinds.{IsSettled}
use Rattle.aat_cut_kinds.specs.Cuts.{IsUnmarkedBackwardRise, IsUnmarkedCut, IsUnmarkedFall, IsUnmarkedRise, LeavesParts, LeavesPartsButMasks}
use Rattle.aat_cut_kinds.specs.Settled.{IsPlain}

-- a contextual subtable that is settled leaves the parts of each line at an unmarked cut
abbrev pub SettledContextualLeavesParts : Type 0
SettledContextualLeavesParts =
    (z : Sizes) (on : ℕ → Bool) (tables : ContextualTables) (q : ℕ) (b : Buffer)
    → IsSettled (Contextual tables)
    → IsUnmarkedCut (kind_run z on (Contextual tables)) q b on
    → LeavesParts (kind_run z on (Contextual tables)) q b

-- an insertion subtable that is settled, of whose entries none names a run and puts none in, leaves the parts of each
-- line at an unmarked rise of the clusters
abbrev pub SettledInsertionLeavesParts : Type 0
SettledInsertionLeavesParts =
    (z : Sizes) (on : ℕ → Bool) (tables : InsertionTables) (c q : ℕ) (b : Buffer)
    → IsSettled (Insertion tables) → IsPlain tables.state
    → IsUnmarkedRise (kind_run z on (Insertion tables)) on c q b
    → LeavesParts (kind_run z on (Insertion tables)) q b

-- and at an unmarked fall
abbrev pub SettledInsertionLeavesPartsAtFall : Type 0
SettledInsertionLeavesPartsAtFall =
    (z : Sizes) (on : ℕ → Bool) (tables : InsertionTables) (c q : ℕ) (b : Buffer)
    → IsSettled (Insertion tables) → IsPlain tables.state
    → IsUnmarkedFall (kind_run z on (Insertion tables)) on c q b
    → LeavesParts (kind_run z on (Insertion tables)) q b

-- on the line in the opposite order, at an unmarked rise
abbrev pub SettledBackwardInsertionLeavesParts : Type 0
SettledBackwardInsertionLeavesParts =
    (z : Sizes) (on : ℕ → Bool) (tables : InsertionTables) (c q : ℕ) (b : Buffer)
    → IsSettled (Insertion tables) → IsPlain tables.state
    → IsUnmarkedBackwardRise (reversed_run (kind_run z on (Insertion tables))) on c q b
    → LeavesParts (reversed_run (kind_run z on (Insertion tables))) q b

-- any insertion subtable that is settled leaves the parts of each line, but for the masks, at an unmarked rise
abbrev pub AnySettledInsertionLeavesParts : Type 0
AnySettledInsertionLeavesParts =
    (z : Sizes) (on : ℕ → Bool) (tables : InsertionTables) (c q : ℕ) (b : Buffer)
    → IsSettled (Insertion tables)
    → IsUnmarkedRise (kind_run z on (Insertion tables)) on c q b
    → LeavesPartsButMasks (kind_run z on (Insertion tables)) q b

-- and at an unmarked fall
abbrev pub AnySettledInsertionLeavesPartsAtFall : Type 0
AnySettledInsertionLeavesPartsAtFall =
    (z : Sizes) (on : ℕ → Bool) (tables : InsertionTables) (c q : ℕ) (b : Buffer)
    → IsSettled (Insertion tables)
    → IsUnmarkedFall (kind_run z on (Insertion tables)) on c q b
    → LeavesPartsButMasks (kind_run z on (Insertion tables)) q b

-- on the line in the opposite order, at an unmarked rise
abbrev pub AnySettledBackwardInsertionLeavesParts : Type 0
AnySettledBackwardInsertionLeavesParts =
    (z : Sizes) (on : ℕ → Bool) (tables : InsertionTables) (c q : ℕ) (b : Buffer)
    → IsSettled (Insertion tables)
    → IsUnmarkedBackwardRise (reversed_run (kind_run z on (Insertion tables))) on c q b
    → LeavesPartsButMasks (reversed_run (kind_run z on (Insertion tables))) q b
