-- What is read of each table of a font file. Apple's TrueType Reference Manual, "The font directory".
use Rattle.std.specs.Prelude.{ℕ, List, Option, Some, None, Result, Ok, Err}
use Rattle.aat_bytes.specs.declared.error.Fault.{Fault}
use Rattle.aat_bytes.specs.declared.tags.TheConstants.{CMAP, GDEF, HHEA, NAME}
use Rattle.aat_read_sfnt.specs.Characters.{cmap_of}
use Rattle.aat_read_sfnt.specs.Directory.{Directory}
use Rattle.aat_read_sfnt.specs.GlyphClasses.{class_fault, glyph_classes_of}
use Rattle.aat_read_sfnt.specs.Metrics.{long_metric_count}
use Rattle.aat_read_sfnt.specs.Names.{names_of}
use Rattle.aat_read_sfnt.specs.declared.cmap.CharacterMap.{CharacterMap}
use Rattle.aat_read_sfnt.specs.declared.gdef.GlyphClasses.{GlyphClasses}
use Rattle.aat_read_metrics.specs.Tables.{table_in}

-- the number of long metrics
abbrev pub long_metric_count_in : Directory → Result (Option ℕ) Fault
long_metric_count_in file = table_in file HHEA long_metric_count

-- the fault of classes, also of some by which no glyph has a class
abbrev pub classes_fault : Result (Option GlyphClasses) Fault → Option Fault
classes_fault (Ok None) = None
classes_fault (Ok (Some classes)) = class_fault classes
classes_fault (Err fault) = Some fault

-- the character map
abbrev pub characters_in : Directory → Result (Option CharacterMap) Fault
characters_in file = table_in file CMAP cmap_of

-- the classes of glyphs
abbrev pub classes_in : Directory → Result (Option GlyphClasses) Fault
classes_in file = table_in file GDEF glyph_classes_of

-- the names, which are the bytes of their table
abbrev pub names_in : Directory → Result (Option (List ℕ)) Fault
names_in file = table_in file NAME names_of

-- the fault of a table that has one
abbrev pub fault_in : {X : Type 0} → Result (Option X) Fault → Option Fault
fault_in (Ok found) = None
fault_in (Err fault) = Some fault
