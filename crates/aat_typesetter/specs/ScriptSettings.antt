-- What HarfBuzz does around the layer by the script of a text. (No chapter of the manual: these rules are HarfBuzz's.)
use Rattle.std.specs.Prelude.{◌&&◌, ◌||◌, ◌++◌, Bool, not, true, false, List, [], ◌∷◌, Option, Some, None, is_none, is_some, if◌then◌else◌}
use Rattle.std.specs.List.{list_any}
use Rattle.aat_characters.specs.ScriptRules.{applies_kern, mark_widths}
use Rattle.aat_characters.specs.declared.script_rules.MarkWidths.{MarkWidths}
use Rattle.aat_characters.specs.declared.script_rules.MarkWidths.TheVariants.{Kept}
use Rattle.aat_characters.specs.declared.script_rules.ScriptRules.{ScriptRules}
use Rattle.aat_font.specs.Face.{kern_in, tables_of}
use Rattle.aat_font.specs.declared.face.hb_font_t.{hb_font_t}
use Rattle.aat_font.specs.declared.plan.Feature.{Feature}
use Rattle.aat_glyph.specs.Directions.{is_forward}
use Rattle.aat_glyph.specs.declared.glyph.Direction.{Direction}
use Rattle.aat_kerning_tables.specs.declared.kern.KernKind.{KernKind}
use Rattle.aat_kerning_tables.specs.declared.kern.KernKind.TheVariants.{Machine}

-- `kern` off over a whole text
abbrev pub kern_off : Feature
kern_off = record { tag = record { 0 = 0x6B65726E }; value = 0; start = 0; end = 0xFFFFFFFF }

-- the features with which a text is shaped: where the font has no `kerx`, and the script does not take `kern`, that is
-- off
abbrev pub features_for : hb_font_t → Option ScriptRules → List Feature → List Feature
features_for font None features = features
features_for font (Some rules) features =
    if is_some (tables_of font).kerx || applies_kern rules then features else features ++ (kern_off ∷ [])

-- widths of marks are made zero, early or late
abbrev pub are_zeroed : MarkWidths → Bool
are_zeroed Kept = false
are_zeroed _ = true

-- a subtable of `kern` is a machine
abbrev pub is_machine : KernKind → Bool
is_machine (Machine s) = true
is_machine _ = false

-- the script takes `kern`, which has a machine; or which has values across the line
abbrev pub kerns_by_machine : hb_font_t → ScriptRules → Bool
kerns_by_machine font rules = applies_kern rules && list_any (λ s. is_machine s.kind) (kern_in (tables_of font).kern)

abbrev pub kerns_across : hb_font_t → ScriptRules → Bool
kerns_across font rules = applies_kern rules && list_any (λ s. s.has_cross_stream) (kern_in (tables_of font).kern)

-- marks lose their width where the script says so, and neither `kerx` nor a machine of `kern` acts
abbrev pub zeroes_marks : hb_font_t → ScriptRules → Bool
zeroes_marks font rules =
    are_zeroed (mark_widths rules (is_some (tables_of font).morx)) && is_none (tables_of font).kerx
    && not (kerns_by_machine font rules)

-- they move then in forward text, where the font has no `morx` and nothing kerns across the line
abbrev pub moves_marks : hb_font_t → ScriptRules → Direction → Bool
moves_marks font rules direction =
    is_none (tables_of font).morx && is_forward direction && not (kerns_across font rules)

-- where marks of a text lose their width, whether they move
abbrev pub marks_for : hb_font_t → Option ScriptRules → Direction → Option Bool
marks_for font None direction = None
marks_for font (Some rules) direction =
    if zeroes_marks font rules then Some (moves_marks font rules direction) else None

-- Marks are placed by boxes where the script's shaper does so, as it does where it takes `kern`, and neither `kerx`
-- acts nor `kern` across the line.
abbrev pub places_marks : hb_font_t → ScriptRules → Bool
places_marks font rules =
    applies_kern rules && is_none (tables_of font).kerx && not (kerns_across font rules)

-- where they are, whether those that lose their width move
abbrev pub boxes_for : hb_font_t → Option ScriptRules → Direction → Option Bool
boxes_for font None direction = None
boxes_for font (Some rules) direction =
    if places_marks font rules then Some (moves_marks font rules direction) else None
