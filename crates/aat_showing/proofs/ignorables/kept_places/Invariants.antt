use Rattle.std.proofs.Common.{◌≡◌, take, map}
use Rattle.std.specs.List.{count_by, range_with_len}
use Rattle.aat_showing.specs.Ignorables.{kept_place, stays}
use Rattle.aat_showing.proofs.ignorables.kept_places.Given as goal

abbrev pub invariant-loop-glyph : goal.invariant-loop-glyph
invariant-loop-glyph g l = record {
  listed : l.places.items ≡ map (kept_place l.glyphs) (range_with_len 0 l.glyph-index);
  counted : l.kept ≡ count_by stays (take l.glyph-index l.glyphs);
}
