-- The words of the worked rows of substitution.
use Rattle.std.specs.Prelude.{ℕ, ℤ, Bool, true, false, List, [], ◌∷◌, None, if◌then◌else◌}
use Rattle.aat_glyph.specs.declared.glyph.hb_glyph_info_t.{hb_glyph_info_t}
use Rattle.aat_buffer.specs.Buffer.{Buffer}
use Rattle.aat_machine_tables.specs.declared.morx.Subtable.{Subtable}
use Rattle.aat_machine_tables.specs.declared.morx.SubtableKind.{SubtableKind}
use Rattle.aat_run.specs.Outcome.{Outcome}
use Rattle.aat_run.specs.Rows.{buffer_with, many, Printed, printed}
use Rattle.aat_run.specs.Switches.{by_flags}
use Rattle.aat_map.specs.SwitchedChains.{SwitchedChain}
use Rattle.aat_kinds.specs.Kinds.{Sizes}
use Rattle.aat_morx.specs.Substitution.{substituted}

-- spans of at most 64 glyphs, 64 slots, no glyph classes
abbrev pub sizes : Sizes
sizes = record { bound = 64; slots = 64; classes = None }

-- a subtable for all directions, which is on where the chain's flags have their lowest bit
abbrev pub subtable : SubtableKind → Subtable
subtable kind = record { kind = kind; coverage = record { 0 = 0x20 }; feature_flags = 1 }

-- a chain of one range, where the lowest flag is set
abbrev pub chain : List Subtable → SwitchedChain
chain subtables = record { switch = by_flags true (λ cluster. 1); subtables = subtables }

-- a chain of several ranges, whose lowest flag is set at the clusters that pass a test
abbrev pub chain_on : (ℕ → Bool) → List Subtable → SwitchedChain
chain_on on subtables =
    record { switch = by_flags false (λ cluster. if on cluster then 1 else 0); subtables = subtables }

-- subtables of one chain over a buffer
abbrev pub substituted_by : List Subtable → Buffer → Outcome
substituted_by subtables b = substituted sizes (chain subtables ∷ []) b

-- one subtable run over a line with the budget of most rows
abbrev pub row : SubtableKind → List hb_glyph_info_t → Printed
row kind line = printed (substituted_by (subtable kind ∷ []) (buffer_with line many))

-- the same with another budget
abbrev pub row_with : ℤ → SubtableKind → List hb_glyph_info_t → Printed
row_with budget kind line = printed (substituted_by (subtable kind ∷ []) (buffer_with line budget))

-- the same with other sizes
abbrev pub row_of_sizes : Sizes → SubtableKind → List hb_glyph_info_t → Printed
row_of_sizes z kind line = printed (substituted z (chain (subtable kind ∷ []) ∷ []) (buffer_with line many))

-- the same at the clusters that pass a test
abbrev pub row_on : (ℕ → Bool) → SubtableKind → List hb_glyph_info_t → Printed
row_on on kind line = printed (substituted sizes (chain_on on (subtable kind ∷ []) ∷ []) (buffer_with line many))
