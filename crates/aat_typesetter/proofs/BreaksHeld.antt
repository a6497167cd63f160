-- What is drawn may be broken.
use Rattle.aat_showing.specs.HiddenParts.{BreaksHoldAsShown}
use Rattle.aat_typesetter.specs.Typeset.{BreaksHoldIn, IsWithinLimits, Setting, drawn_setting, shaped_setting}

-- what is drawn of a text within the limits may be broken before each glyph that says so
pub breaks_hold : (s : Setting) → BreaksHoldAsShown → IsWithinLimits s → BreaksHoldIn s (drawn_setting s)
unfolding drawn_setting shaped_setting
breaks_hold s holds fits = holds s.showing s.value s.font s.text.direction s.features s.text.glyphs fits.short
