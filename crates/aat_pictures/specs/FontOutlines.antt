-- The outlines of a font file.
use Rattle.std.specs.Prelude.{Option, Some, None, option_map, Result, Ok}
use Rattle.aat_bytes.specs.Faults.{after}
use Rattle.aat_bytes.specs.declared.error.Fault.{Fault}
use Rattle.aat_read_sfnt.specs.Directory.{Directory}
use Rattle.aat_read_outlines.specs.Offsets.{OutlineTables, tables_in}
use Rattle.aat_read_charstrings.specs.Files.{charstrings_in}
use Rattle.aat_pictures.specs.declared.outlines.FontOutlines.{FontOutlines}
use Rattle.aat_pictures.specs.declared.outlines.FontOutlines.TheVariants.{Quadratic, Cubic}

-- the outlines of `glyf` where there are any, else those of `CFF `
abbrev pub outlines_beside : Directory → Option OutlineTables → Result (Option FontOutlines) Fault
outlines_beside file (Some tables) = Ok (Some (Quadratic tables))
outlines_beside file None = after (charstrings_in file) (λ charstrings. Ok (option_map Cubic charstrings))

-- the outlines of a font file, if it has any
abbrev pub outlines_in : Directory → Result (Option FontOutlines) Fault
outlines_in file = after (tables_in file) (outlines_beside file)
