-- The laws that a cut asks for, of a machine over its states.
use Rattle.std.specs.Prelude.{◌≡◌, ◌⊎◌, ℕ, ℤ, ◌+◌, ◌<◌, ◌≤◌, true, false, List, ◌++◌, length, Some}
use Rattle.aat_buffer.specs.Buffer.{Buffer}
use Rattle.aat_glyph.specs.declared.glyph.hb_glyph_info_t.{hb_glyph_info_t}
use Rattle.aat_run.specs.Budget.{operations_left}
use Rattle.aat_run.specs.Context.{Machine, Moved, class_at, is_inside}
use Rattle.aat_run.specs.Machine.{break_marked_at}
use Rattle.aat_cut_kinds.specs.Parts.{followed_by, moved_on}

-- what an act leaves, with gs behind the line
abbrev pub left_before : {R : Type 0} → List hb_glyph_info_t → Moved R → Moved R
left_before gs left = record left { buffer = followed_by gs left.buffer }

-- a buffer is another one with gs before its line, and has no greater budget
pub record IsMovedOn (gs : List hb_glyph_info_t) (whole part : Buffer) : Type 0 where
  pub buffer : whole ≡ moved_on gs whole.max_ops part
  pub budget : operations_left whole.max_ops ≤ operations_left part.max_ops

-- a line is sound at its cluster level
abbrev pub IsSound : (ℕ → List hb_glyph_info_t → Type 0) → Buffer → Type 0
IsSound Sound b = Sound b.cluster_level b.line

module _ {R E : Type 0} (m : Machine R E) (fits : R → ℕ → ℕ → Type 0) where
  -- an entry of the machine that is actionable nowhere inside a line
  pub record IsIdle (e : E) : Type 0 where
    pub state : ℕ
    pub class : ℕ
    pub entry : m.entry state class ≡ Some e
    pub quiet : (r : R) (p n : ℕ) → p < n → m.actionable e r p n ≡ false

  -- An act at a glyph depends on nothing behind that glyph, where a front stands before the back, and keeps the cursor
  -- before the end. Inside a line the entry alone tells whether it is actionable; one that is not leaves any buffer, or
  -- marks it before a cursor that is inside.
  pub record IsLocal (Left Right : List hb_glyph_info_t → Type 0) : Type 0 where
    pub tested :
        (e : E) (r s : R) (p n i k : ℕ) → p < n → i < k → m.actionable e r p n ≡ m.actionable e s i k
    pub inside :
        (e : E) (r : R) (b : Buffer) → fits r b.cursor (length b.line) → b.cursor < length b.line
        → (m.act e r b).buffer.cursor < length (m.act e r b).buffer.line
    pub unseen :
        (e : E) (r : R) (b : Buffer) (gs : List hb_glyph_info_t)
        → fits r b.cursor (length b.line) → b.cursor < length b.line → Left b.line → Right gs
        → m.act e r (followed_by gs b) ≡ left_before gs (m.act e r b)
    pub idle :
        (e : E) (r : R) (b : Buffer) → IsIdle e
        → ((m.act e r b).buffer ≡ b)
        ⊎ ((is_inside b ≡ true) × ((m.act e r b).buffer ≡ break_marked_at b))

  -- states that a run may reach: state 0, and with each of them those that its entries lead to
  pub record IsClosed (reached : ℕ → Type 0) : Type 0 where
    pub first : reached 0
    pub entries : (t k : ℕ) (e : E) → reached t → m.entry t k ≡ Some e → reached (m.next e)

  -- what marks and acts keep of a line
  pub record KeepsLine (P : List hb_glyph_info_t → Type 0) : Type 0 where
    pub marks : (b : Buffer) → P b.line → P (break_marked_at b).line
    pub acts :
        (e : E) (r : R) (b : Buffer) → fits r b.cursor (length b.line) → P b.line → P (m.act e r b).buffer.line

  -- what they keep of a line at a cluster level
  pub record KeepsSound (Sound : ℕ → List hb_glyph_info_t → Type 0) : Type 0 where
    pub marks : (b : Buffer) → IsSound Sound b → IsSound Sound (break_marked_at b)
    pub acts :
        (e : E) (r : R) (b : Buffer) → fits r b.cursor (length b.line)
        → IsSound Sound b → IsSound Sound (m.act e r b).buffer

  -- Behind the glyphs gs of a cut. In each state, `Alike` relates registers of the whole line to those of the back
  -- part, which begins with fresh ones: what is used of them is the same, moved on. `Marked` says that the cut of a line
  -- is marked, `Right` what the line of the back part is, and `Sound` what the whole line is at its cluster level.
  module _ (gs : List hb_glyph_info_t) (reached : ℕ → Type 0) (fresh : R) (Alike : ℕ → R → R → Type 0)
      (Marked Right : List hb_glyph_info_t → Type 0) (Sound : ℕ → List hb_glyph_info_t → Type 0)
    where
      -- an entry e of state t acts on the back part b with registers s, and on the whole line with registers r and a
      -- budget that is no greater. It leaves some of that budget, and the cut without a mark
      pub record ActsOnBoth (t : ℕ) (e : E) (r s : R) (z : ℤ) (b : Buffer) : Type 0 where
        pub is_reached : reached t
        pub entry : m.entry t (class_at m.class_of b) ≡ Some e
        pub alike : Alike t r s
        pub right : Right b.line
        pub sound : IsSound Sound (moved_on gs z b)
        pub fits_whole : fits r (length gs + b.cursor) (length (gs ++ b.line))
        pub fits_part : fits s b.cursor (length b.line)
        pub budget : operations_left z ≤ operations_left b.max_ops
        pub enough : 0 < operations_left (m.act e r (moved_on gs z b)).buffer.max_ops
        pub unmarked : Marked (m.act e r (moved_on gs z b)).buffer.line → ⊥

      -- An idle entry e of state t for the first glyph of the back part, as the run over the whole line comes there: its
      -- registers fit at the end of the front part. Its act leaves the cut without a mark, and there was some budget.
      pub record IdlesAtCut (t : ℕ) (e : E) (r : R) (z : ℤ) (b : Buffer) : Type 0 where
        pub is_reached : reached t
        pub front : b.cursor ≡ 0
        pub some : 0 < length gs
        pub more : b.cursor < length b.line
        pub right : Right b.line
        pub sound : IsSound Sound (moved_on gs z b)
        pub arrived : fits r (length gs) (length gs)
        pub fits_whole : fits r (length gs + b.cursor) (length (gs ++ b.line))
        pub fits_part : fits fresh b.cursor (length b.line)
        pub budget : operations_left z ≤ operations_left b.max_ops
        pub enough : 0 < operations_left z
        pub entry : m.entry t (class_at m.class_of b) ≡ Some e
        pub idle : IsIdle e
        pub unmarked : Marked (m.act e r (moved_on gs z b)).buffer.line → ⊥

      -- an idle entry f of state 0 does the same there
      pub record AgreesWith (e f : E) (b : Buffer) : Type 0 where
        pub from_start : m.entry 0 (class_at m.class_of b) ≡ Some f
        pub idle_start : IsIdle f
        pub next : m.next f ≡ m.next e
        pub advances : m.advances f ≡ m.advances e

      -- An act does the same where all places move on, and leaves registers that are alike unless the run ends there.
      -- Registers that come to the cut are like fresh ones, and all are in state 0 that were alike in some state. So are
      -- those that an idle entry at the cut leaves which stays and goes to state 0; and idle entries of a state and of
      -- state 0 that do the same there leave registers that are alike.
      pub record MovesOn : Type 0 where
        pub begun :
            (r : R) (n k : ℕ) → fits r (length gs) (length gs) → fits r (length gs) n → fits fresh 0 k
            → Alike 0 r fresh
        pub passed : (t : ℕ) (r s : R) → Alike t r s → Alike 0 r s
        pub moved :
            (t : ℕ) (e : E) (r s : R) (z : ℤ) (b : Buffer) → ActsOnBoth t e r s z b
            → IsMovedOn gs (m.act e r (moved_on gs z b)).buffer (m.act e s b).buffer
        pub alike :
            (t : ℕ) (e : E) (r s : R) (z : ℤ) (b : Buffer) → ActsOnBoth t e r s z b
            → (m.act e s b).buffer.cursor < length (m.act e s b).buffer.line
            → Alike (m.next e) (m.act e r (moved_on gs z b)).registers (m.act e s b).registers
        pub homed :
            (t : ℕ) (e : E) (r : R) (z : ℤ) (b : Buffer) → IdlesAtCut t e r z b
            → m.advances e ≡ false → m.next e ≡ 0
            → Alike 0 (m.act e r (moved_on gs z b)).registers fresh
        pub agreed :
            (t : ℕ) (e f : E) (r : R) (z : ℤ) (b : Buffer) → IdlesAtCut t e r z b → AgreesWith e f b
            → Alike (m.next e) (m.act e r (moved_on gs z b)).registers (m.act f fresh b).registers

  -- What tells of a line that its cut is marked: the driver's mark at the cut makes it so, and it stays so under marks
  -- and acts. No act adds to the budget.
  pub record KeepsMarks (gs : List hb_glyph_info_t) (Marked Right : List hb_glyph_info_t → Type 0)
      (Sound : ℕ → List hb_glyph_info_t → Type 0) : Type 0
    where
      pub cut :
          (z : ℤ) (b : Buffer) → 0 < length gs → b.cursor ≡ 0 → 0 < length b.line → Right b.line
          → IsSound Sound (moved_on gs z b)
          → Marked (break_marked_at (moved_on gs z b)).line
      pub marks : (b : Buffer) → Marked b.line → Marked (break_marked_at b).line
      pub acts :
          (e : E) (r : R) (b : Buffer) → fits r b.cursor (length b.line) → IsSound Sound b
          → Marked b.line → Marked (m.act e r b).buffer.line
      pub spends :
          (e : E) (r : R) (b : Buffer) → fits r b.cursor (length b.line)
          → operations_left (m.act e r b).buffer.max_ops ≤ operations_left b.max_ops

  -- the laws together, behind the glyphs gs
  pub record IsLawfulBehind (reached : ℕ → Type 0) (fresh : R)
      (Alike : ℕ → R → R → Type 0) (Marked Left Right : List hb_glyph_info_t → Type 0)
      (Sound : ℕ → List hb_glyph_info_t → Type 0) (gs : List hb_glyph_info_t) : Type 0
    where
      pub local : IsLocal Left Right
      pub closed : IsClosed reached
      pub moves : MovesOn gs reached fresh Alike Marked Right Sound
      pub marks : KeepsMarks gs Marked Right Sound
      pub back : KeepsLine Right
      pub sound : KeepsSound Sound

  -- the laws that a cut asks for, over a labelling of the states: behind each line that the front part may have
  pub record IsCutLawful (reached : ℕ → Type 0) (fresh : R)
      (Alike : List hb_glyph_info_t → ℕ → R → R → Type 0) (Marked Left Right : List hb_glyph_info_t → Type 0)
      (Sound : ℕ → List hb_glyph_info_t → Type 0) : Type 0
    where
      pub front : KeepsLine Left
      pub behind :
          (gs : List hb_glyph_info_t) → Left gs
          → IsLawfulBehind reached fresh (Alike gs) Marked Left Right Sound gs
