-- The bounds of substitution are the best there are: a table of any number of subtables that meets both.
use Rattle.std.specs.Prelude.{◌≡◌, ℕ, suc, pos, negsuc, ◌+◌, ◌*◌, ◌<◌, ◌≤◌, List, [], ◌∷◌, length, replicate}
use Rattle.aat_buffer.specs.Buffer.{Buffer}
use Rattle.aat_buffer.specs.Clusters.{IsSmall}
use Rattle.aat_machine_tables.specs.declared.entries.InsertionEntryData.{InsertionEntryData}
use Rattle.aat_machine_tables.specs.declared.morx.SubtableKind.{SubtableKind}
use Rattle.aat_machine_tables.specs.declared.state_table.GenericStateEntry.{GenericStateEntry}
use Rattle.aat_kinds.specs.Kinds.{Sizes}
use Rattle.aat_map.specs.SwitchedChains.{SwitchedChain}
use Rattle.aat_morx.specs.InsertionRows.{with_indexes, id}
use Rattle.aat_morx.specs.Rows.{subtable, chain}
use Rattle.aat_morx.specs.Substitution.{substituted, subtables_in}
use Rattle.aat_run.specs.Budget.{extent}
use Rattle.aat_run.specs.Rows.{buffer_with, entry, glyph, all_at, table, printed, shows_with}

-- an entry that goes to state 1 and does nothing
abbrev pub passing : GenericStateEntry InsertionEntryData
passing = entry 1 0 (with_indexes 0xFFFF 0xFFFF)

-- two glyphs go in before a 6 in state 0, where the run stays; in state 1, to which a 5 leads too, each is passed
abbrev pub two_before_and_stay : SubtableKind
two_before_and_stay = SubtableKind.Insertion (record {
  state = table (with_indexes 0xFFFF 0xFFFF) 5 ((6, 4) ∷ [])
      ((0, 4, entry 1 0x4840 (with_indexes 0 0xFFFF))
      ∷ (0, 1, passing)
      ∷ (1, 0, passing)
      ∷ (1, 1, passing)
      ∷ (1, 2, passing)
      ∷ (1, 3, passing)
      ∷ (1, 4, passing)
      ∷ []);
  glyphs = id 5 ∷ id 5 ∷ [];
})

-- a 6 alone, with a budget of 2
abbrev pub one_six : Buffer
one_six = buffer_with (glyph 6 0 0 ∷ []) (pos 2)

-- so many subtables leave as many glyphs as there were and the budget allows, in as many turns as the bound, with
-- any sizes
pub record MeetsBounds (count : ℕ) (chains : List SwitchedChain) (b : Buffer) : Type 0 where
  pub counted : subtables_in chains ≡ count
  pub turns : (z : Sizes) → (substituted z chains b).turns ≡ count * (extent b + 1)
  pub length : (z : Sizes) → length (substituted z chains b).buffer.line ≡ extent b

-- a line of 16-bit glyphs that may grow by all that its budget allows, and where a subtable runs, by a glyph or more
pub record MayGrow (count : ℕ) (b : Buffer) : Type 0 where
  pub ids : IsSmall b
  pub room : extent b ≤ b.max_len
  pub grows : 0 < count → length b.line < extent b

-- one copy of that subtable or more makes 5 5 6 of the 6, in 4 turns each; and for every number of subtables there is a
-- table and a line that meet both bounds with equality, by putting glyphs in
pub record BoundsAreMet : Type 0 where
  pub on_one_six : (z : Sizes) (n : ℕ)
      → printed (substituted z (chain (replicate (suc n) (subtable two_before_and_stay)) ∷ []) one_six)
      ≡ shows_with (negsuc 0) (all_at 0 (5 ∷ 5 ∷ 6 ∷ [])) (4 * suc n)
  pub every : (count : ℕ) → (chains : List SwitchedChain) × (b : Buffer) × MayGrow count b × MeetsBounds count chains b
