-- What a call makes of a glyph.
use Rattle.std.specs.Prelude.{◌≡◌}
use Rattle.std.specs.Fn.{FnReturnsAt, Shared}
use Rattle.std.specs.Borrow.{Bor}
use Rattle.aat_glyph.specs.declared.glyph.hb_glyph_info_t.{hb_glyph_info_t}

-- the call makes of each glyph what f does
abbrev pub ChangesBy :
    {F : Type 0} → Shared F (Bor hb_glyph_info_t × Unit {0}) hb_glyph_info_t → F → (hb_glyph_info_t → hb_glyph_info_t) → Type 0
ChangesBy fn change f = (g h : hb_glyph_info_t) → FnReturnsAt fn change g h → f g ≡ h
