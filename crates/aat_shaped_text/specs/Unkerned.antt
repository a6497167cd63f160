-- Texts that nothing kerns.
use Rattle.std.specs.Prelude.{◌&&◌, not, Bool, is_none}
use Rattle.std.specs.List.{list_any}
use Rattle.aat_glyph.specs.declared.glyph.Direction.{Direction}
use Rattle.aat_font.specs.Face.{kern_in, tables_of}
use Rattle.aat_font.specs.declared.face.hb_font_t.{hb_font_t}
use Rattle.aat_kerning.specs.Positioning.{is_for_direction, kerning_of_kern_subtable}

-- a font has no extended kerning table, and no subtable of its kerning table is for texts of a direction
abbrev pub is_unkerned : hb_font_t → Direction → Bool
is_unkerned face d =
    is_none (tables_of face).kerx
    && not (list_any (λ s. is_for_direction (kerning_of_kern_subtable 8 s) d) (kern_in (tables_of face).kern))
