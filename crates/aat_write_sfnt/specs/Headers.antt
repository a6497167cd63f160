-- The maximum profile and the font header as words. Apple's TrueType Reference Manual, "The 'maxp' table" and "The
-- 'head' table".
use Rattle.std.specs.Prelude.{ℕ, List, [], ◌∷◌, ◌++◌, replicate}

-- version 0.5 and the number of glyphs
abbrev pub maxp_words : ℕ → List ℕ
maxp_words glyph_count = 0 ∷ 0x5000 ∷ glyph_count ∷ []

-- version 1.0, a revision and a checksum of 0, the magic number, no flags, the units of the em, and 17 words more
abbrev pub head_words : ℕ → List ℕ
head_words units = (1 ∷ 0 ∷ 0 ∷ 0 ∷ 0 ∷ 0 ∷ 0x5F0F ∷ 0x3CF5 ∷ 0 ∷ units ∷ []) ++ replicate 17 0
