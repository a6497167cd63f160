-- What is told of the subtables of a substitution. (No chapter of the manual.)
use Rattle.std.specs.Prelude.{◌≡◌, ◌⊎◌, ℕ, ◌+◌, ◌==◌, ◌&&◌, ◌++◌, not, All, Bool, List, [], ◌∷◌, Some, bit_and, filter, length, map}
use Rattle.std.specs.List.{enumerate_from}
use Rattle.aat_buffer.specs.Buffer.{Buffer, glyph_at}
use Rattle.aat_buffer.specs.Clusters.{ids}
use Rattle.aat_glyph.specs.declared.glyph.hb_glyph_info_t.{hb_glyph_info_t}
use Rattle.aat_font.specs.Face.{chains_in, tables_of}
use Rattle.aat_font.specs.declared.face.hb_font_t.{hb_font_t}
use Rattle.aat_machine_tables.specs.declared.morx.Subtable.{Subtable}
use Rattle.aat_font.specs.declared.plan.hb_ot_shape_plan_t.{hb_ot_shape_plan_t}
use Rattle.aat_kinds.specs.Kinds.{Sizes, is_reversed, sizes_for}
use Rattle.aat_map.specs.SwitchedChains.{SwitchedChain, plan_requests, switched}
use Rattle.aat_morx.specs.Substitution.{chain_run, is_skipped, prepared, subtable_run}
use Rattle.aat_run.specs.Switches.{Switch}
use Rattle.aat_trace.specs.Acts.{AreOfTurns}
use Rattle.aat_trace.specs.Replay.{in_run_order, replayed}
use Rattle.aat_trace.specs.declared.traced.Trace.{Trace}
use Rattle.aat_trace.specs.declared.traced.TracedSubtable.{TracedSubtable}

-- a glyph has the mark UNSAFE_TO_BREAK (1)
abbrev pub is_unsafe : hb_glyph_info_t → Bool
is_unsafe g = bit_and g.mask 1 == 1

-- the places of a new line whose glyph has the mark where that of the old line at the same place has it not
abbrev pub newly_marked : List hb_glyph_info_t → List hb_glyph_info_t → List ℕ
newly_marked old new =
    map (λ p. p.0) (filter (λ p. is_unsafe p.1 && not (is_unsafe (glyph_at old p.0))) (enumerate_from 0 new))

-- what is told of a subtable but for its acts
pub record Told : Type 0 where
  pub chain : ℕ
  pub subtable : ℕ
  pub is_run : Bool
  pub is_reversed : Bool
  pub turns : ℕ
  pub before : List hb_glyph_info_t
  pub after : List hb_glyph_info_t
  pub marks : List ℕ

-- what a trace tells of a subtable
abbrev pub told_in : TracedSubtable → Told
told_in t = record {
  chain = t.chain;
  subtable = t.subtable;
  is_run = t.is_run;
  is_reversed = t.is_reversed;
  turns = t.turns;
  before = t.before.items;
  after = t.after.items;
  marks = t.marks.items;
}

-- the acts that are told of a subtable lead from the ids that it found to those that it left
abbrev pub IsReplayed : TracedSubtable → Type 0
IsReplayed t =
    replayed t.acts.items (in_run_order t.is_reversed (ids t.before.items))
    ≡ Some (in_run_order t.is_reversed (ids t.after.items))

-- what a trace tells of all subtables
abbrev pub tells : Trace → List Told
tells t = map told_in t.subtables.items

-- and its acts are as they have to be
abbrev pub AreReplayed : Trace → Type 0
AreReplayed t = All IsReplayed t.subtables.items

-- the acts that are told of a subtable are of its turns, one behind another. Their cursors lie on the line that it
-- left, since no line gets shorter
abbrev pub IsInTurn : TracedSubtable → Type 0
IsInTurn t = AreOfTurns t.turns (length t.after.items) t.acts.items

-- what a trace tells of each subtable is so
abbrev pub AreInTurn : Trace → Type 0
AreInTurn t = All IsInTurn t.subtables.items

-- a list is another one without some of its elements, or with all of them
abbrev pub IsPart : {X : Type 0} → List X → List X → Type 0
IsPart [] ys = Unit {0}
IsPart (x ∷ xs) [] = ⊥
IsPart (x ∷ xs) (y ∷ ys) = ((x ≡ y) × IsPart xs ys) ⊎ IsPart (x ∷ xs) ys

-- what is to be told of subtable k of chain i over a buffer
abbrev pub told_of : Sizes → Switch → ℕ → ℕ → Subtable → Buffer → Told
told_of z switch i k s b = record {
  chain = i;
  subtable = k;
  is_run = not (is_skipped switch s b.direction);
  is_reversed = is_reversed s.coverage b.direction;
  turns = (subtable_run z switch s b).turns;
  before = b.line;
  after = (subtable_run z switch s b).buffer.line;
  marks = newly_marked b.line (subtable_run z switch s b).buffer.line;
}

-- what is to be told of the subtables of chain i from subtable k on, each over what the one before left
abbrev pub told_of_subtables : Sizes → Switch → ℕ → ℕ → List Subtable → Buffer → List Told
told_of_subtables z switch i k [] b = []
told_of_subtables z switch i k (s ∷ ss) b =
    told_of z switch i k s b ∷ told_of_subtables z switch i (k + 1) ss (subtable_run z switch s b).buffer

-- what is to be told of chains from chain i on
abbrev pub told_of_chains : Sizes → ℕ → List SwitchedChain → Buffer → List Told
told_of_chains z i [] b = []
told_of_chains z i (c ∷ cs) b =
    told_of_subtables z c.switch i 0 c.subtables b ++ told_of_chains z (i + 1) cs (chain_run z c b).buffer

-- what is to be told of a substitution by a plan
abbrev pub told_of_substitution : hb_ot_shape_plan_t → hb_font_t → Buffer → List Told
told_of_substitution plan face b =
    told_of_chains (sizes_for face) 0
    (switched plan.apply_morx (plan_requests plan face) (chains_in (tables_of face).morx)) (prepared b)
