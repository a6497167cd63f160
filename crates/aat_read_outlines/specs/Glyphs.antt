-- The bytes of a glyph.
use Rattle.std.specs.Prelude.{ℕ, ◌+◌, List}
use Rattle.aat_bytes.specs.Faults.{fault_at}
use Rattle.aat_bytes.specs.declared.error.Fault.{Fault}
use Rattle.aat_bytes.specs.declared.error.FaultKind.{FaultKind}
use Rattle.aat_bytes.specs.declared.error.FaultKind.TheVariants.{PastEnd}
use Rattle.aat_bytes.specs.declared.tags.TheConstants.{GLYF}

-- the bytes, and where they begin in the table
pub record GlyphBytes : Type 0 where
  pub bytes : List ℕ
  pub place : ℕ

-- the fault at an offset of the bytes
abbrev pub fault_in : GlyphBytes → FaultKind → ℕ → Fault
fault_in glyph kind offset = fault_at GLYF kind (glyph.place + offset)

-- the fault of what is not there as a whole at an offset
abbrev pub past : GlyphBytes → ℕ → Fault
past glyph offset = fault_in glyph PastEnd offset
