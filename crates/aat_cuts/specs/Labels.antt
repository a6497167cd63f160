-- Labels of states, and edges that ask for them.
use Rattle.std.specs.Prelude.{◌≡◌, ℕ, ◌+◌, ◌-◌, ◌≤◌, ◌==◌, Bool, nat_le, min, max, List, length, slice_index, if◌then◌else◌}
use Rattle.std.specs.List.{All}
use Rattle.aat_cuts.specs.declared.labels.Asked.{Asked}
use Rattle.aat_cuts.specs.declared.labels.Asked.TheVariants.{Nothing, Same, One, Held}
use Rattle.aat_cuts.specs.declared.labels.Edge.{Edge}

-- how many components have to be held before a push, so that so many are held behind it
abbrev pub before_push : Bool → Bool → ℕ → ℕ
before_push pushes here held = if pushes then (if here then (if nat_le held 1 then 0 else held) else held - 1) else held

-- how many components have to be held behind a push, so that an action that takes some of them leaves so many
abbrev pub before_action : ℕ → ℕ → ℕ
before_action taken held = if taken == 0 then held else max taken (held + taken - 1)

-- the label that an edge asks for at its own state, by the label of the state that it looks at
unfoldable pub asked_by : Asked → ℕ → ℕ
asked_by Nothing label = 0
asked_by Same label = label
asked_by One label = 1
asked_by (Held pushes here taken) label = min 65 (before_push pushes here (before_action taken label))

-- a state has at least the label that an edge asks for
abbrev pub IsMet : (ℕ → ℕ) → Edge → Type 0
IsMet label e = asked_by e.asked (label e.to) ≤ label e.from

-- the label of a state in a list
abbrev pub label_in : List ℕ → ℕ → ℕ
label_in labels state = slice_index labels state

-- no label of a list is above another one
abbrev pub AreBelow : List ℕ → (ℕ → ℕ) → Type 0
AreBelow labels label = (state : ℕ) → label_in labels state ≤ label state

-- labels of each state, none above 65
pub record AreLabels (labels : List ℕ) : Type 0 where
  pub long : length labels ≡ 65536
  pub low : (state : ℕ) → label_in labels state ≤ 65

-- labels meet edges, and are the least that do
pub record AreLeast (edges : List Edge) (labels : List ℕ) : Type 0 where
  pub are : AreLabels labels
  pub met : All (IsMet (label_in labels)) edges
  pub least : (label : ℕ → ℕ) → All (IsMet label) edges → AreBelow labels label
