-- A base of which the glyph alone may be known.
use Rattle.aat_showing.specs.MarkBoxes.{MarkPlacing, base_of}
use Rattle.aat_showing.specs.declared.mark_bases.KnownBase.{KnownBase}
use Rattle.aat_showing.specs.declared.mark_bases.KnownBase.TheVariants.{Glyph, Told}
use Rattle.aat_showing.specs.declared.mark_bases.MarkBase.{MarkBase}

abbrev pub told_base : MarkPlacing → KnownBase → MarkBase
told_base p (Told base) = base
told_base p (Glyph g) = base_of p g
