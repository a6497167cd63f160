-- The tracking of a font file. Apple's TrueType Reference Manual, "The 'trak' table".
use Rattle.std.specs.Prelude.{Option, Result}
use Rattle.aat_bytes.specs.declared.error.Fault.{Fault}
use Rattle.aat_bytes.specs.declared.tags.TheConstants.{TRAK}
use Rattle.aat_read_sfnt.specs.Directory.{Directory}
use Rattle.aat_glyph.specs.placement.Tracks.{TrackingTable}
use Rattle.aat_read_metrics.specs.Trak.{trak_of}
use Rattle.aat_read_metrics.specs.Tables.{table_in}

-- the tracking of a file
abbrev pub trak_in : Directory → Result (Option TrackingTable) Fault
trak_in file = table_in file TRAK trak_of
