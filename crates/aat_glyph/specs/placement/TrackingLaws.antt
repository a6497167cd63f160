-- What follows of tracking.
use Rattle.std.specs.Prelude.{◌≡◌, ℕ, ℤ, List, ◌++◌, length, Option, Some}
use Rattle.aat_glyph.specs.declared.glyph.Direction.{Direction}
use Rattle.aat_glyph.specs.declared.glyph.GlyphPosition.{GlyphPosition}
use Rattle.aat_glyph.specs.placement.TrackedLines.{first_drawn, last_drawn, tracked}

-- no cluster goes on from one part of a line to the next: the glyphs that are drawn side by side have two
abbrev pub MeetApart : List (Option ℕ) → List (Option ℕ) → Type 0
MeetApart cs ds = (c : ℕ) → last_drawn cs ≡ Some c → first_drawn ds ≡ Some c → ⊥

-- two parts of a line that meet so are tracked as the whole is
abbrev pub PartsAreTrackedApart : Type 0
PartsAreTrackedApart =
    (d : Direction) (v : ℤ) (cs ds : List (Option ℕ)) (qs rs : List GlyphPosition) → length cs ≡ length qs
    → MeetApart cs ds → tracked d v (cs ++ ds) (qs ++ rs) ≡ tracked d v cs qs ++ tracked d v ds rs
