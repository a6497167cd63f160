-- Where the line of a subtable can be cut. (No chapter of the manual: the marks that say where a line can be broken are
-- the shaper's own.)
use Rattle.std.specs.Prelude.{◌≡◌, ◌≢◌, ℕ, ◌-◌, ◌<◌, ◌≤◌, Bool, true, nat_le, List, length, map, take, drop, reverse, find, All, Option, Some}
use Rattle.aat_buffer.specs.Buffer.{Buffer, glyph_at, reversed, with_line}
use Rattle.aat_buffer.specs.Marks.{cluster_at}
use Rattle.aat_machine_tables.specs.Table.{TableValue}
use Rattle.aat_lookup.specs.declared.glyph_id.GlyphId.{GlyphId}
use Rattle.aat_glyph.specs.declared.glyph.hb_glyph_info_t.{hb_glyph_info_t}
use Rattle.aat_run.specs.Budget.{operations_left}
use Rattle.aat_run.specs.Outcome.{Outcome}
use Rattle.aat_kinds.specs.Contextual.{Entry}
use Rattle.aat_kinds.specs.Insertion as insertion
use Rattle.aat_kinds.specs.Kinds.{contextual_run, insertion_run, noncontextual_run, reversed_run}
use Rattle.aat_cut_kinds.specs.Greater.{IsUnflagged, greater_at}
use Rattle.aat_cut_kinds.specs.Parts.{LeftInParts, back_part, front_part}
use Rattle.aat_cut_kinds.specs.Settled.{HasEntries, IsPlain, IsSettled}

-- a glyph without its mask
abbrev pub unmasked : hb_glyph_info_t → hb_glyph_info_t
unmasked g = record g { mask = 0 }

-- a line without its masks
abbrev pub without_masks : Buffer → Buffer
without_masks b = with_line b (map unmasked b.line)

module _ (run : Buffer → Outcome) (q : ℕ) (b : Buffer) where
  -- A place q inside the line of b whose glyph starts a cluster, at which the subtable is on. Of the two glyphs at the
  -- cut, the run leaves the one with the greater cluster without the flag, and it leaves some of the budget.
  pub record IsUnmarkedCut (on : ℕ → Bool) : Type 0 where
    pub behind_first : 0 < q
    pub before_end : q < length b.line
    pub starts : cluster_at b.line (q - 1) ≢ cluster_at b.line q
    pub is_on : on (cluster_at b.line q) ≡ true
    pub unflagged : IsUnflagged (glyph_at (run b).buffer.line (greater_at q b.line))
    pub budget : 0 < operations_left (run b).buffer.max_ops

  -- the run over the line leaves what the runs over its two parts leave, one behind the other, marks included
  abbrev pub LeavesParts : Type 0
  LeavesParts = LeftInParts (run b).buffer (run (front_part q b)).buffer (run (back_part q b)).buffer

  -- the same but for the masks: the glyphs with their clusters, and the budget
  abbrev pub LeavesPartsButMasks : Type 0
  LeavesPartsButMasks =
      let left : Buffer → Buffer = λ d. without_masks (run d).buffer in
      LeftInParts (left b) (left (front_part q b)) (left (back_part q b))

-- the clusters before place q are lower than c, and those from there on are not
pub record IsSplitAt (c q : ℕ) (line : List hb_glyph_info_t) : Type 0 where
  pub before : All (λ g. g.cluster < c) (take q line)
  pub behind : All (λ g. c ≤ g.cluster) (drop q line)

-- the first glyph whose cluster is not lower than c, if there is one, is without the flag
abbrev pub IsUnflaggedFrom : ℕ → List hb_glyph_info_t → Type 0
IsUnflaggedFrom c line = (g : hb_glyph_info_t) → find (λ h. nat_le c h.cluster) line ≡ Some g → IsUnflagged g

-- A place q inside the line of b, at which the subtable is on and the clusters come to c. The run leaves the first
-- glyph of those without the flag, and it leaves some of the budget.
pub record IsUnmarkedRise (run : Buffer → Outcome) (on : ℕ → Bool) (c q : ℕ) (b : Buffer) : Type 0 where
  pub behind_first : 0 < q
  pub before_end : q < length b.line
  pub split : IsSplitAt c q b.line
  pub is_on : on (cluster_at b.line q) ≡ true
  pub unflagged : IsUnflaggedFrom c (run b).buffer.line
  pub budget : 0 < operations_left (run b).buffer.max_ops

-- the clusters before place q are not lower than c, and those from there on are
pub record IsFallAt (c q : ℕ) (line : List hb_glyph_info_t) : Type 0 where
  pub before : All (λ g. c ≤ g.cluster) (take q line)
  pub behind : All (λ g. g.cluster < c) (drop q line)

-- the last glyph whose cluster is not lower than c, if there is one, is without the flag
abbrev pub IsUnflaggedDownTo : ℕ → List hb_glyph_info_t → Type 0
IsUnflaggedDownTo c line = IsUnflaggedFrom c (reverse line)

-- A place q inside the line of b, at which the subtable is on and the clusters fall below c. The run leaves the last
-- glyph of those before without the flag, and it leaves some of the budget.
pub record IsUnmarkedFall (run : Buffer → Outcome) (on : ℕ → Bool) (c q : ℕ) (b : Buffer) : Type 0 where
  pub behind_first : 0 < q
  pub before_end : q < length b.line
  pub split : IsFallAt c q b.line
  pub is_on : on (cluster_at b.line q) ≡ true
  pub unflagged : IsUnflaggedDownTo c (run b).buffer.line
  pub budget : 0 < operations_left (run b).buffer.max_ops

-- A place q inside the line of b, at which the clusters come to c, for a run that takes the line from its end. Behind
-- the cut it first takes the glyph before q, and it is on there. It leaves the first glyph whose cluster is not lower
-- than c without the flag, and it leaves some of the budget.
pub record IsUnmarkedBackwardRise (run : Buffer → Outcome) (on : ℕ → Bool) (c q : ℕ) (b : Buffer) : Type 0 where
  pub behind_first : 0 < q
  pub before_end : q < length b.line
  pub split : IsSplitAt c q b.line
  pub is_on : on (cluster_at b.line (q - 1)) ≡ true
  pub unflagged : IsUnflaggedFrom c (run b).buffer.line
  pub budget : 0 < operations_left (run b).buffer.max_ops

-- on the line in the opposite order a run leaves the parts of a line where it leaves those of the line turned round, at
-- the same place from the end
abbrev pub ReversedLeavesParts : Type 0
ReversedLeavesParts =
    (run : Buffer → Outcome) (q : ℕ) (b : Buffer)
    → LeavesParts run (length b.line - q) (reversed b)
    → LeavesParts (reversed_run run) q b

-- a settled contextual subtable leaves the parts of each line at an unmarked cut
abbrev pub ContextualLeavesParts : Type 0
ContextualLeavesParts =
    (on : ℕ → Bool) (classes : Option (List (ℕ × ℕ))) (table : TableValue Entry) (lookups : List (List (ℕ × ℕ)))
    (q : ℕ) (b : Buffer)
    → IsSettled table lookups
    → IsUnmarkedCut (contextual_run on classes table lookups) q b on
    → LeavesParts (contextual_run on classes table lookups) q b

-- a noncontextual subtable leaves the parts of each line at each place
abbrev pub NoncontextualLeavesParts : Type 0
NoncontextualLeavesParts =
    (on : ℕ → Bool) (classes : Option (List (ℕ × ℕ))) (lookup : List (ℕ × ℕ)) (q : ℕ) (b : Buffer)
    → LeavesParts (noncontextual_run on classes lookup) q b

-- a complete insertion subtable, of whose entries none names a run and puts none in, leaves the parts of each line at
-- an unmarked rise of the clusters
abbrev pub InsertionLeavesParts : Type 0
InsertionLeavesParts =
    (on : ℕ → Bool) (table : TableValue insertion.Entry) (glyphs : List GlyphId) (reached : ℕ → Bool) (c q : ℕ)
    (b : Buffer)
    → HasEntries table reached → IsPlain table
    → IsUnmarkedRise (insertion_run on table glyphs) on c q b
    → LeavesParts (insertion_run on table glyphs) q b

-- and at an unmarked fall
abbrev pub InsertionLeavesPartsAtFall : Type 0
InsertionLeavesPartsAtFall =
    (on : ℕ → Bool) (table : TableValue insertion.Entry) (glyphs : List GlyphId) (reached : ℕ → Bool) (c q : ℕ)
    (b : Buffer)
    → HasEntries table reached → IsPlain table
    → IsUnmarkedFall (insertion_run on table glyphs) on c q b
    → LeavesParts (insertion_run on table glyphs) q b

-- on the line in the opposite order, at an unmarked rise
abbrev pub BackwardInsertionLeavesParts : Type 0
BackwardInsertionLeavesParts =
    (on : ℕ → Bool) (table : TableValue insertion.Entry) (glyphs : List GlyphId) (reached : ℕ → Bool) (c q : ℕ)
    (b : Buffer)
    → HasEntries table reached → IsPlain table
    → IsUnmarkedBackwardRise (reversed_run (insertion_run on table glyphs)) on c q b
    → LeavesParts (reversed_run (insertion_run on table glyphs)) q b

-- any complete insertion subtable leaves the parts of each line, but for the masks, at an unmarked rise
abbrev pub AnyInsertionLeavesParts : Type 0
AnyInsertionLeavesParts =
    (on : ℕ → Bool) (table : TableValue insertion.Entry) (glyphs : List GlyphId) (reached : ℕ → Bool) (c q : ℕ)
    (b : Buffer)
    → HasEntries table reached
    → IsUnmarkedRise (insertion_run on table glyphs) on c q b
    → LeavesPartsButMasks (insertion_run on table glyphs) q b

-- and at an unmarked fall
abbrev pub AnyInsertionLeavesPartsAtFall : Type 0
AnyInsertionLeavesPartsAtFall =
    (on : ℕ → Bool) (table : TableValue insertion.Entry) (glyphs : List GlyphId) (reached : ℕ → Bool) (c q : ℕ)
    (b : Buffer)
    → HasEntries table reached
    → IsUnmarkedFall (insertion_run on table glyphs) on c q b
    → LeavesPartsButMasks (insertion_run on table glyphs) q b

-- on the line in the opposite order, at an unmarked rise
abbrev pub AnyBackwardInsertionLeavesParts : Type 0
AnyBackwardInsertionLeavesParts =
    (on : ℕ → Bool) (table : TableValue insertion.Entry) (glyphs : List GlyphId) (reached : ℕ → Bool) (c q : ℕ)
    (b : Buffer)
    → HasEntries table reached
    → IsUnmarkedBackwardRise (reversed_run (insertion_run on table glyphs)) on c q b
    → LeavesPartsButMasks (reversed_run (insertion_run on table glyphs)) q b
