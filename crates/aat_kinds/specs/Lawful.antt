-- That the contexts and drivers meet the laws, and what follows of whole runs.
use Rattle.std.specs.Prelude.{◌≡◌, ℕ, ◌<◌, List, length, Bool, Option, IsPermutation, IsTrue, All, ◌≤◌}
use Rattle.aat_buffer.specs.Buffer.{Buffer, glyph_at}
use Rattle.aat_buffer.specs.Removal.{is_deleted}
use Rattle.aat_machine_tables.specs.Table.{TableValue}
use Rattle.aat_machine_tables.specs.declared.entries.ContextualEntryData.{ContextualEntryData}
use Rattle.aat_machine_tables.specs.declared.state_table.GenericStateEntry.{GenericStateEntry}
use Rattle.aat_lookup.specs.declared.glyph_id.GlyphId.{GlyphId}
use Rattle.aat_kinds.specs.Kinds.{rearrangement_run, contextual_run, ligature_run, noncontextual_run}
use Rattle.aat_run.specs.Laws.{KeepsLength, IsLawful, StaysInPlace, KeepsClusterOrder}
use Rattle.aat_buffer.specs.Clusters.{IsSmall, ids}
use Rattle.aat_run.specs.Context.{Moved}
use Rattle.aat_kinds.specs.Rearrangement as rearrangement
use Rattle.aat_kinds.specs.Contextual as contextual
use Rattle.aat_kinds.specs.Ligature as ligature
use Rattle.aat_kinds.specs.Insertion as insertion

-- the four contexts. A ligature context has at least one slot; it keeps the number of glyphs, though it is not in place
pub record ContextsAreLawful : Type 0 where
  pub rearrangement_is_lawful : (bound : ℕ) → IsLawful (rearrangement.context bound) rearrangement.IsFit
  pub rearrangement_stays : (bound : ℕ) → StaysInPlace (rearrangement.context bound) rearrangement.IsFit
  pub contextual_is_lawful :
      (classes : Option (List (ℕ × ℕ))) (lookups : List (List (ℕ × ℕ)))
      → IsLawful (contextual.context classes lookups) contextual.IsFit
  pub contextual_stays :
      (classes : Option (List (ℕ × ℕ))) (lookups : List (List (ℕ × ℕ)))
      → StaysInPlace (contextual.context classes lookups) contextual.IsFit
  pub ligature_is_lawful :
      (actions values : List ℕ) (ligatures : List GlyphId) (size : ℕ) → 0 < size
      → IsLawful (ligature.context actions values ligatures size) ligature.IsFit
  pub ligature_keeps_length :
      (actions values : List ℕ) (ligatures : List GlyphId)
      → KeepsLength (ligature.act actions values ligatures) ligature.IsFit
  pub insertion_is_lawful : (glyphs : List GlyphId) → IsLawful (insertion.context glyphs) insertion.IsFit

-- an act keeps glyph ids to 16 bits
abbrev pub KeepsSmall : {R E : Type 0} → (E → R → Buffer → Moved R) → (R → ℕ → ℕ → Type 0) → Type 0
KeepsSmall {R} {E} act fits =
    (e : E) (r : R) (b : Buffer) → fits r b.cursor (length b.line) → IsSmall b → IsSmall (act e r b).buffer

-- the lookups have values of 16 bits
abbrev pub HasSmallValues : List (List (ℕ × ℕ)) → Type 0
HasSmallValues lookups = All (λ pairs. All (λ pair. pair.1 ≤ 65535) pairs) lookups

-- the glyphs have ids of 16 bits
abbrev pub HasSmallIds : List GlyphId → Type 0
HasSmallIds glyphs = All (λ g. g.0 ≤ 65535) glyphs

-- the acts keep glyph ids to 16 bits
pub record ActsKeepSmall : Type 0 where
  pub rearrangement_keeps : (bound : ℕ) → KeepsSmall (rearrangement.act bound) rearrangement.IsFit
  pub contextual_keeps :
      (classes : Option (List (ℕ × ℕ))) (lookups : List (List (ℕ × ℕ))) → HasSmallValues lookups
      → KeepsSmall (contextual.act classes lookups) contextual.IsFit
  pub ligature_keeps :
      (actions values : List ℕ) (ligatures : List GlyphId) → HasSmallIds ligatures
      → KeepsSmall (ligature.act actions values ligatures) ligature.IsFit
  pub insertion_keeps : (glyphs : List GlyphId) → HasSmallIds glyphs → KeepsSmall (insertion.act glyphs) insertion.IsFit

-- once a ligature is stored at component c, each later component is the deleted glyph
abbrev pub LaterComponentsAreDeleted : Type 0
LaterComponentsAreDeleted =
    (c g : ℕ) (r : ligature.Registers) (b : Buffer) (p j : ℕ) → ligature.IsFit r p (length b.line) → c < j → j < r.count
    → IsTrue (is_deleted (glyph_at (ligature.stored c g r b).buffer.line (ligature.component r j)))

-- the act of each kind keeps the order of the clusters
pub record ActsKeepOrder : Type 0 where
  pub rearrangement_keeps : (bound : ℕ) → KeepsClusterOrder (rearrangement.act bound) rearrangement.IsFit
  pub contextual_keeps :
      (classes : Option (List (ℕ × ℕ))) (lookups : List (List (ℕ × ℕ)))
      → KeepsClusterOrder (contextual.act classes lookups) contextual.IsFit
  pub ligature_keeps :
      (actions values : List ℕ) (ligatures : List GlyphId)
      → KeepsClusterOrder (ligature.act actions values ligatures) ligature.IsFit
  pub insertion_keeps : (glyphs : List GlyphId) → KeepsClusterOrder (insertion.act glyphs) insertion.IsFit

-- a run of rearrangement permutes the glyph ids, and runs of contextual, ligature and noncontextual subtables keep
-- the number of glyphs
pub record GlyphsAreKept : Type 0 where
  pub rearrangement_permutes :
      (bound : ℕ) (on : ℕ → Bool) (table : TableValue (GenericStateEntry (Unit {0}))) (b : Buffer)
      → IsPermutation (ids b.line) (ids (rearrangement_run bound on table b).buffer.line)
  pub contextual_number :
      (on : ℕ → Bool) (classes : Option (List (ℕ × ℕ))) (table : TableValue (GenericStateEntry ContextualEntryData))
      (lookups : List (List (ℕ × ℕ))) (b : Buffer)
      → length (contextual_run on classes table lookups b).buffer.line ≡ length b.line
  pub ligature_number :
      (size : ℕ) (on : ℕ → Bool) (table : TableValue (GenericStateEntry ℕ)) (actions values : List ℕ)
      (ligatures : List GlyphId) (b : Buffer) → 0 < size
      → length (ligature_run size on table actions values ligatures b).buffer.line ≡ length b.line
  pub noncontextual_number :
      (on : ℕ → Bool) (classes : Option (List (ℕ × ℕ))) (lookup : List (ℕ × ℕ)) (b : Buffer)
      → length (noncontextual_run on classes lookup b).buffer.line ≡ length b.line
