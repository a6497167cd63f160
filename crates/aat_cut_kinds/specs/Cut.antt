-- The cut of a run: where the line that a whole run leaves is that of its parts, one behind the other. (No chapter of
-- the manual: the marks that say where a line can be broken are the shaper's own.)
use Rattle.std.specs.Prelude.{◌≡◌, ℕ, ◌<◌, Bool, true, List, length, take, drop}
use Rattle.aat_buffer.specs.Buffer.{Buffer}
use Rattle.aat_buffer.specs.Marks.{cluster_at}
use Rattle.aat_machine_tables.specs.Table.{TableValue}
use Rattle.aat_machine_tables.specs.declared.state_table.GenericStateEntry.{GenericStateEntry}
use Rattle.aat_glyph.specs.declared.glyph.hb_glyph_info_t.{hb_glyph_info_t}
use Rattle.aat_run.specs.Budget.{operations_left}
use Rattle.aat_run.specs.Context.{Context, Machine}
use Rattle.aat_run.specs.Driven.{comes_to_end, machine_run}
use Rattle.aat_cut_kinds.specs.CutLaws.{IsCutLawful}
use Rattle.aat_cut_kinds.specs.Parts.{LeftInParts, back_part, front_part}

-- The labels of a cut: the states that a run may reach; whether registers of the whole line are, in a state, those of
-- the back part, moved on by the glyphs before it, as far as they are live there; what marks the cut of a line; which
-- lines the front part may have, and the back part; and which the whole line at a cluster level.
pub record CutLabels (R : Type 0) : Type 0 where
  pub is_reached : ℕ → Bool
  pub is_alike : List hb_glyph_info_t → ℕ → R → R → Bool
  pub is_marked : List hb_glyph_info_t → Bool
  pub is_left : List hb_glyph_info_t → Bool
  pub is_right : List hb_glyph_info_t → Bool
  pub is_sound : ℕ → List hb_glyph_info_t → Bool

-- a machine meets the laws of a cut by these labels, from fresh registers
abbrev pub MeetsCutLaws : {R E : Type 0} → Machine R E → (R → ℕ → ℕ → Type 0) → R → CutLabels R → Type 0
MeetsCutLaws m fits fresh labels =
    IsCutLawful m fits (λ t. labels.is_reached t ≡ true) fresh (λ gs t r s. labels.is_alike gs t r s ≡ true)
    (λ line. labels.is_marked line ≡ true) (λ line. labels.is_left line ≡ true)
    (λ line. labels.is_right line ≡ true) (λ level line. labels.is_sound level line ≡ true)

module _ {T R : Type 0} (on : ℕ → Bool) (table : TableValue (GenericStateEntry T))
    (context : Context R (GenericStateEntry T))
  where
    -- the line that a run leaves
    abbrev pub line_left : Buffer → List hb_glyph_info_t
    line_left b = (machine_run on table context b).buffer.line

    -- A place q inside the line of b at whose glyph the machine is on. The run over b comes to the end of the line, and
    -- leaves the cut without a mark, and some of the budget.
    pub record IsCutPlace (Marked : List hb_glyph_info_t → Type 0) (q : ℕ) (b : Buffer) : Type 0 where
      pub behind_first : 0 < q
      pub before_end : q < length b.line
      pub is_on : on (cluster_at b.line q) ≡ true
      pub through : comes_to_end on table context b ≡ true
      pub unmarked : Marked (line_left b) → ⊥
      pub budget : 0 < operations_left (machine_run on table context b).buffer.max_ops

    -- the same by labels, which admit the whole line, the front part and the back part
    pub record IsLabelledCut (labels : CutLabels R) (q : ℕ) (b : Buffer) : Type 0 where
      pub place : IsCutPlace (λ line. labels.is_marked line ≡ true) q b
      pub front : labels.is_left (take q b.line) ≡ true
      pub back : labels.is_right (drop q b.line) ≡ true
      pub sound : labels.is_sound b.cluster_level b.line ≡ true

    -- the whole run leaves what the runs over the two parts leave
    abbrev pub LeavesItsParts : ℕ → Buffer → Type 0
    LeavesItsParts q b =
        let run : Buffer → Buffer = λ d. (machine_run on table context d).buffer in
        LeftInParts (run b) (run (front_part q b)) (run (back_part q b))
