-- Acts as those of turns. (No chapter of the manual.)
use Rattle.std.specs.Prelude.{◌≡◌, ◌≢◌, ℕ, ◌+◌, ◌-◌, ◌<◌, ◌≤◌, All, List, length, slice_get, slice_index_or}
use Rattle.aat_trace.specs.declared.traced.TracedAct.{TracedAct}

-- an act takes or puts an id, and where it does both, those that it takes and those that it puts begin and end with
-- other ids
pub record IsChange (act : TracedAct) : Type 0 where
  pub front : slice_get act.taken.items 0 ≢ slice_get act.put.items 0
  pub behind :
      slice_get act.taken.items (length act.taken.items - 1) ≢ slice_get act.put.items (length act.put.items - 1)

-- an act is of one of so many turns, from a cursor on a line that is at most so long, and changes ids
pub record IsOfTurn (turns longest : ℕ) (act : TracedAct) : Type 0 where
  pub counted : 0 < act.transition
  pub turn : act.transition ≤ turns
  pub cursor : act.cursor ≤ longest
  pub change : IsChange act

-- each act is of a transition behind that of the one before it
abbrev pub AreApart : List TracedAct → Type 0
AreApart acts =
    (i : ℕ) (d : TracedAct) → i + 1 < length acts
    → (slice_index_or acts i d).transition < (slice_index_or acts (i + 1) d).transition

-- acts are of so many turns, one behind another
pub record AreOfTurns (turns longest : ℕ) (acts : List TracedAct) : Type 0 where
  pub apart : AreApart acts
  pub of_turns : All (IsOfTurn turns longest) acts
