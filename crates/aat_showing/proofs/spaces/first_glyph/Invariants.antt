use Rattle.std.proofs.Common.{◌≡◌, drop}
use Rattle.std.specs.List.{filter_map}
use Rattle.std.specs.Prelude.{slice_get}
use Rattle.aat_showing.specs.FaceMetrics.{glyph_in}
use Rattle.aat_showing.proofs.spaces.first_glyph.Given as goal

-- the font has none of the characters before this one
abbrev pub invariant-loop-character : goal.invariant-loop-character
invariant-loop-character l =
    slice_get (filter_map (glyph_in l.face) (drop l.character-index l.characters)) 0
    ≡ slice_get (filter_map (glyph_in l.face) l.characters) 0
