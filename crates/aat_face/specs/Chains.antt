-- The chains of a font file. Apple's TrueType Reference Manual, "The 'morx' table".
use Rattle.std.specs.Prelude.{ℕ, List, Option, Result}
use Rattle.aat_bytes.specs.declared.error.Fault.{Fault}
use Rattle.aat_bytes.specs.declared.tags.TheConstants.{MORX}
use Rattle.aat_read_extended.specs.morx.Chains.{ChainValue, morx_of}
use Rattle.aat_read_sfnt.specs.Directory.{Directory}
use Rattle.aat_read_metrics.specs.Tables.{table_in}

-- the chains of these bytes
abbrev pub chain_values_of : ℕ → List ℕ → Result (List ChainValue) Fault
chain_values_of glyph_count bytes = morx_of bytes glyph_count

-- the chains of a file whose font has so many glyphs
abbrev pub chains_in : Directory → ℕ → Result (Option (List ChainValue)) Fault
chains_in file glyph_count = table_in file MORX (chain_values_of glyph_count)
