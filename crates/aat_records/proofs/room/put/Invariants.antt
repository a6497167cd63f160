use Rattle.std.proofs.Common.{◌≡◌, ◌++◌, drop, map, take}
use Rattle.aat_records.specs.Places.{placed}
use Rattle.aat_records.specs.Records.{glyph_record}
use Rattle.aat_records.proofs.room.put.Given as goal

-- the glyphs before this one are put
abbrev pub invariant-loop-i : goal.invariant-loop-i
invariant-loop-i l = l.out ≡ take l.i (map (glyph_record (placed l.places)) l.glyphs) ++ drop l.i l.initial.out
