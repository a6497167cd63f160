-- The examples of texts that are broken by what kerning leaves open, by computing.
use Rattle.std.proofs.Common.{refl}
use Rattle.std.specs.Int.{int_wrap}
use Rattle.aat_run.specs.Machine.{run}
use Rattle.aat_kerning_machines.specs.Anchors.{anchor_act}
use Rattle.aat_kerning_machines.specs.KerningMachine.{driver_run, kerning_acted, kerning_by_entry, kerning_marked, kerning_turn, kerning_whole, looked_ahead}
use Rattle.aat_kerning_machines.specs.Stack.{kern_act, popped}
use Rattle.aat_kerning.specs.PairKerning.{kerned, pair_kerning}
use Rattle.aat_kerning.specs.Pairs.{pairs_of}
use Rattle.aat_kerning.specs.Positioning.{kern_positioning, kerx_positioning, positioned, positioning}
use Rattle.aat_closing.specs.ClosingRuns.{told_in_order}
use Rattle.aat_cut_kinds.specs.KerningClosing.{first_at, is_open, passes_each, taken_by}
use Rattle.aat_shaped_text.specs.OpenExamples as examples

pub open_places_are_told : examples.OpenPlacesAreTold
unfolding int_wrap driver_run kerning_whole run kerning_turn kerning_by_entry kerning_marked looked_ahead kerning_acted kern_act popped kern_positioning positioned positioning is_open first_at passes_each taken_by told_in_order
open_places_are_told = record { forward = refl; backward = refl; each = refl; by_marks = refl; at_end = refl }

pub mixed_kerning_is_told : examples.MixedKerningIsTold
unfolding int_wrap driver_run kerning_whole run kerning_turn kerning_by_entry kerning_marked looked_ahead kerning_acted kern_act popped kern_positioning positioned positioning is_open first_at passes_each taken_by told_in_order kerned pair_kerning pairs_of
mixed_kerning_is_told = record { beside = refl; over = refl }

pub attached_glyphs_stay : examples.AttachedGlyphsStay
unfolding int_wrap driver_run kerning_whole run kerning_turn kerning_by_entry kerning_marked looked_ahead kerning_acted anchor_act kern_positioning kerx_positioning positioned positioning is_open first_at passes_each told_in_order kerned pair_kerning pairs_of
attached_glyphs_stay = record { anchors = refl; cross_stream = refl; along = refl }

pub skipped_glyphs_stay : examples.SkippedGlyphsStay
unfolding int_wrap kern_positioning kerx_positioning positioned positioning is_open first_at passes_each told_in_order kerned pair_kerning pairs_of
skipped_glyphs_stay = record { ignorable = refl; character = refl; classed = refl; mark = refl; base = refl; extended = refl }

pub unkerned_glyphs_open : examples.UnkernedGlyphsOpen
unfolding int_wrap kern_positioning kerx_positioning positioned positioning is_open first_at passes_each told_in_order kerned pair_kerning pairs_of
unkerned_glyphs_open = record { none = refl; columns = refl }
