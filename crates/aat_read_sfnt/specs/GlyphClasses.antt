-- The glyph definition table: classes of glyphs.
use Rattle.std.specs.Prelude.{ℕ, ◌+◌, ◌*◌, ◌%◌, List, length, Option, Result, Ok, Err, if◌then◌else◌, nat_lt, ◌==◌}
use Rattle.std.specs.Option.{option_or}
use Rattle.aat_bytes.specs.Faults.{after, fault_at}
use Rattle.aat_bytes.specs.declared.error.Fault.{Fault}
use Rattle.aat_bytes.specs.Numbers.{be16}
use Rattle.aat_bytes.specs.declared.error.FaultKind.TheVariants.{PastEnd, UnknownFormat}
use Rattle.aat_bytes.specs.declared.tags.TheConstants.{GDEF}
use Rattle.aat_read_sfnt.specs.ClassDefinition.{class_of, definition_of, fault_of}
use Rattle.aat_read_sfnt.specs.declared.class_definition.ClassDefinition.{ClassDefinition}
use Rattle.aat_read_sfnt.specs.declared.class_definition.ClassDefinition.TheVariants.{Faulty}
use Rattle.aat_read_sfnt.specs.declared.gdef.GlyphClasses.{GlyphClasses}

-- the classes of marks: HarfBuzz takes none where they are cut short
abbrev pub or_faulty : Result ClassDefinition Fault → ClassDefinition
or_faulty (Ok classes) = classes
or_faulty (Err fault) = Faulty fault

-- the classes of a table: a header of 12 bytes, of version 1, with the offset of the classes at 4, and that of the
-- classes of marks at 10
unfoldable pub glyph_classes_of : List ℕ → Result GlyphClasses Fault
glyph_classes_of bytes =
    if nat_lt (length bytes) 12 then Err (fault_at GDEF PastEnd 0) else
    if be16 bytes 0 == 1 then
    after (definition_of bytes (be16 bytes 4)) (λ classes.
    Ok (record { classes = classes; mark_classes = or_faulty (definition_of bytes (be16 bytes 10)) }))
    else Err (fault_at GDEF UnknownFormat 0)

-- the first fault of classes that are read all the same
abbrev pub class_fault : GlyphClasses → Option Fault
class_fault table = option_or (fault_of table.classes) (fault_of table.mark_classes)

-- the properties of a class: 1 is a base, 2 a ligature, 3 a mark, which has its class of marks in the high byte. A
-- component, 4, has none
abbrev pub properties_of_class : ℕ → ℕ → ℕ
properties_of_class class mark_class =
    if class == 1 then 2 else
    if class == 2 then 4 else
    if class == 3 then 8 + 256 * (mark_class % 256) else 0

-- the properties of a glyph, as HarfBuzz has them
abbrev pub properties_of : GlyphClasses → ℕ → ℕ
properties_of table glyph = properties_of_class (class_of table.classes glyph) (class_of table.mark_classes glyph)
