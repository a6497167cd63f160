-- Texts of all fonts are drawn in parts, which keep their breaks: told by marks where pairs alone kern along the line, and
-- else by where kerning leaves a line open.
use Rattle.std.proofs.Common.{◌≡◌, refl, Bool, true, false}
use Rattle.aat_kerning.specs.Cut.{PartsAreKernedApart}
use Rattle.aat_kerning.specs.KerningLawful.{KerningChangesLittle}
use Rattle.aat_glyph.specs.placement.TrackingLaws.{PartsAreTrackedApart}
use Rattle.aat_shaped_text.specs.Breaks.{kerns_by_pairs}
use Rattle.aat_shaped_text.specs.Parts.{BreaksHold, BreaksInParts, PartsKeepBreaks, TextsAreDrawnInParts}
use Rattle.aat_shaped_text.specs.ShapedText.{shaped_text}
use Rattle.aat_shaped_text.proofs.BreaksKept.{parts_keep}
use Rattle.aat_shaped_text.proofs.MarkedKept.{apart_tell}
use Rattle.aat_shaped_text.proofs.MarkedWay.{way_apart}
use Rattle.aat_shaped_text.proofs.OpenKept.{open_tell}
use Rattle.aat_shaped_text.proofs.OpenWay.{way_open}
use Rattle.aat_shaped_text.proofs.PartsHold.{breaks_hold}

module _ (apart : PartsAreKernedApart) (little : KerningChangesLittle) (tracks : PartsAreTrackedApart) where
  pub texts_are_drawn_in_parts : TextsAreDrawnInParts
  texts_are_drawn_in_parts v face d features text most = by (kerns_by_pairs face d) refl
    where
      by : (t : Bool) → kerns_by_pairs face d ≡ t → BreaksHold v face d features text (shaped_text v face d features text)
      by true pairs = breaks_hold little tracks v face d features (way_apart little tracks apart v face d features pairs) text
      by false runs = breaks_hold little tracks v face d features (way_open little tracks v face d features runs) text

  pub parts_keep_breaks : PartsKeepBreaks
  parts_keep_breaks v face d features text most k low may = by (kerns_by_pairs face d) refl
    where
      by : (t : Bool) → kerns_by_pairs face d ≡ t → BreaksInParts v face d features text (shaped_text v face d features text) k
      by true pairs =
          parts_keep little tracks v face d features (way_apart little tracks apart v face d features pairs)
          (apart_tell little tracks apart v face d features pairs) text k low may
      by false runs =
          parts_keep little tracks v face d features (way_open little tracks v face d features runs)
          (open_tell little tracks v face d features runs) text k low may
