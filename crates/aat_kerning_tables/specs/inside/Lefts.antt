-- Where the pairs of each left glyph begin. No contract but those of the pairs and their starts cites this.
use Rattle.std.specs.Prelude.{◌≡◌, ◌+◌, ◌*◌, ◌<◌, ◌≤◌, ℕ, ℤ, List, length, slice_index_or}
use Rattle.aat_kerning_tables.specs.Pairs.{key_of_pair, kerning_of}
use Rattle.aat_lookup.specs.inside.Walks.{Parts}

-- the left glyph of each pair is one of so many from the lowest on
abbrev pub LeftsWithin : ℕ → ℕ → List (ℕ × ℕ × ℤ) → Type 0
LeftsWithin lowest count pairs =
    (i : ℕ) (d : ℕ × ℕ × ℤ) → i < length pairs
    → (lowest * 65536 ≤ key_of_pair (slice_index_or pairs i d))
    × (key_of_pair (slice_index_or pairs i d) < (lowest + count) * 65536)

-- the pairs of each left glyph begin at its start
abbrev pub BeginAt : ℕ → List ℕ → ℕ → List (ℕ × ℕ × ℤ) → Type 0
BeginAt lowest starts count pairs =
    (k : ℕ) → k < count → Parts key_of_pair pairs (slice_index_or starts k 0) ((lowest + k) * 65536)

-- two lists of pairs have the same values behind a left glyph
abbrev pub KernsAlike : ℕ → List (ℕ × ℕ × ℤ) → List (ℕ × ℕ × ℤ) → Type 0
KernsAlike left xs ys = (right : ℕ) → right < 65536 → kerning_of xs left right ≡ kerning_of ys left right

-- starts of all left glyphs, unless there are none
abbrev pub AreLeftStarts : ℕ → List ℕ → List (ℕ × ℕ × ℤ) → Type 0
AreLeftStarts lowest starts pairs =
    BeginAt lowest starts (length starts) pairs × (0 < length starts → LeftsWithin lowest (length starts) pairs)
