-- The tables of kerning of a font file. Apple's TrueType Reference Manual, "The 'kerx' table", "The 'kern' table" and
-- "The 'ankr' table".
use Rattle.std.specs.Prelude.{ℕ, List, [], Option, Bool, Result, is_ok}
use Rattle.std.specs.Option.{option_map_or}
use Rattle.aat_bytes.specs.declared.error.Fault.{Fault}
use Rattle.aat_bytes.specs.declared.tags.TheConstants.{ANKR, GPOS, KERN, KERX, STAT}
use Rattle.aat_kerning_tables.specs.AnchorPoints.{Points}
use Rattle.aat_read_kern.specs.Kern.{KernValue, kern_of}
use Rattle.aat_read_extended.specs.kerx.Anchors.{ankr_of}
use Rattle.aat_read_extended.specs.kerx.KerxTables.{KerxValue, kerx_of}
use Rattle.aat_read_pairs.specs.declared.left_out.LeftOutSubtable.{LeftOutSubtable}
use Rattle.aat_read_sfnt.specs.Directory.{Directory, table_of}
use Rattle.aat_read_metrics.specs.Tables.{found_in, table_in}

-- the extended kerning of these bytes, in a font of so many glyphs
abbrev pub kerx_values_of : ℕ → List ℕ → Result KerxValue Fault
kerx_values_of glyph_count bytes = kerx_of bytes glyph_count

-- the anchor points of these bytes, in a font of so many glyphs
abbrev pub ankr_values_of : ℕ → List ℕ → Result Points Fault
ankr_values_of glyph_count bytes = ankr_of bytes glyph_count

-- the extended kerning of a file whose font has so many glyphs
abbrev pub kerx_in : Directory → ℕ → Result (Option KerxValue) Fault
kerx_in file glyph_count = table_in file KERX (kerx_values_of glyph_count)

-- the kerning of a file
abbrev pub kern_in : Directory → Result (Option KernValue) Fault
kern_in file = table_in file KERN kern_of

-- the anchor points of a file whose font has so many glyphs
abbrev pub ankr_in : Directory → ℕ → Result (Option Points) Fault
ankr_in file glyph_count = table_in file ANKR (ankr_values_of glyph_count)

-- whether a file has the table `STAT`
abbrev pub has_stat_in : Directory → Bool
has_stat_in file = is_ok (table_of file STAT)

-- whether a file has the table `GPOS`
abbrev pub has_gpos_in : Directory → Bool
has_gpos_in file = is_ok (table_of file GPOS)

-- the subtables of extended kerning that are left out
abbrev pub left_out_of : Result (Option KerxValue) Fault → List LeftOutSubtable
left_out_of kerx = option_map_or (λ read. read.left_out) (found_in kerx) []

-- the subtables of kerning that are left out
abbrev pub left_out_of_kern : Result (Option KernValue) Fault → List LeftOutSubtable
left_out_of_kern kern = option_map_or (λ read. read.left_out) (found_in kern) []
