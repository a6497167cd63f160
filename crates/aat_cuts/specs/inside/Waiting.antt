-- States that wait to be looked at, and the edges to a state.
use Rattle.std.specs.Prelude.{◌≡◌, ◌≢◌, ◌⊎◌, ◌==◌, ℕ, ◌+◌, ◌≤◌, ◌<◌, List, count_by, length, sum, sum_by, slice_index, slice_index_or}
use Rattle.std.specs.List.{Contains}
use Rattle.aat_cuts.specs.Labels.{IsMet, label_in}
use Rattle.aat_cuts.specs.declared.labels.Edge.{Edge}
use Rattle.aat_cuts.specs.declared.links.Links.{Links}

-- an edge is met, or the state that it looks at waits
abbrev pub IsMetOrWaits : List ℕ → List ℕ → Edge → Type 0
IsMetOrWaits labels waiting e = IsMet (label_in labels) e ⊎ Contains waiting e.to

-- edges that are met or wait still do, with other labels and other states that wait
abbrev pub KeepsMet : List ℕ → List ℕ → List ℕ → List ℕ → Type 0
KeepsMet old waited new waits = (e : Edge) → IsMetOrWaits old waited e → IsMetOrWaits new waits e

-- each state that came to wait is paid for by a label that rose
abbrev pub ArePaid : List ℕ → List ℕ → List ℕ → List ℕ → Type 0
ArePaid old waited new waits = length waits + sum old ≤ length waited + sum new

-- how many edges look at a state
abbrev pub count_to : List Edge → ℕ → ℕ
count_to edges state = count_by (λ e. e.to == state) edges

-- how many edges look at states that wait
abbrev pub count_waiting : List Edge → List ℕ → ℕ
count_waiting edges waiting = sum_by (count_to edges) waiting

-- the sum of the labels that edges look at
abbrev pub label_sum : List Edge → List ℕ → ℕ
label_sum edges labels = sum_by (λ e. label_in labels e.to) edges

-- of any edges, those that look at states that came to wait are paid for by the labels that they look at
abbrev pub AreEdgesPaid : List ℕ → List ℕ → List ℕ → List ℕ → Type 0
AreEdgesPaid old waited new waits =
    (edges : List Edge)
    → count_waiting edges waits + label_sum edges old ≤ count_waiting edges waited + label_sum edges new

-- a link leads to the last one of the first edges that looks at a state: one more than its place, or 0 without one
pub record IsLinkTo (edges : List Edge) (count state link : ℕ) : Type 0 where
  pub within : link ≤ count
  pub last : (i : ℕ) (d : Edge) → i + 1 ≡ link → (slice_index_or edges i d).to ≡ state
  pub none : (i : ℕ) (d : Edge) → link ≤ i → i < count → (slice_index_or edges i d).to ≢ state

-- links of the first edges: from each state to the last one to it, from each edge to the one before it to its state
pub record AreLinks (edges : List Edge) (count : ℕ) (last before : List ℕ) : Type 0 where
  pub states : length last ≡ 65536
  pub places : length before ≡ count
  pub from_states : (state : ℕ) → state < 65536 → IsLinkTo edges count state (slice_index last state)
  pub from_edges :
      (i : ℕ) (d : Edge) → i < count → IsLinkTo edges i (slice_index_or edges i d).to (slice_index before i)

-- the links of edges
abbrev pub AreLinksOf : List Edge → Links → Type 0
AreLinksOf edges links = AreLinks edges (length edges) links.last.items links.before.items
