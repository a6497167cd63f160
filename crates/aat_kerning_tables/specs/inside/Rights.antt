-- Which right glyphs each left glyph may have. No contract but those of the pairs and of what is kept beside them cites
-- this.
use Rattle.std.specs.Prelude.{◌≡◌, ◌+◌, ◌-◌, ◌<◌, ◌%◌, ◌==◌, ◌&&◌, ℕ, ℤ, Bool, true, false, List, None, if◌then◌else◌, nat_lt, length, slice_index_or}
use Rattle.std.specs.Int.{bit_at}
use Rattle.aat_lookup.specs.Keys.{at_key}
use Rattle.aat_kerning_tables.specs.Pairs.{key_of_pair, kerning_of, pair_key}

-- a word of 64 bits has the bit of a key, which is that of the key's right glyph
abbrev pub has_bit : ℕ → ℕ → Bool
has_bit word key = bit_at word (key % 64) == 1

-- a key whose bit a word lacks is that of no pair
abbrev pub TellKeys : ℕ → List (ℕ × ℕ × ℤ) → Type 0
TellKeys word pairs = (key : ℕ) → has_bit word key ≡ false → at_key key_of_pair pairs key ≡ None

-- a left glyph may have a right one by the words of the left glyphs from the lowest on; no words tell nothing
abbrev pub may_have : ℕ → List ℕ → ℕ → ℕ → Bool
may_have lowest words left right =
    if length words == 0 then true
    else if nat_lt left lowest then false
    else nat_lt (left - lowest) (length words) && has_bit (slice_index_or words (left - lowest) 0) (pair_key left right)

-- a right glyph that a left one may not have is in no pair with it
abbrev pub TellRights : ℕ → List ℕ → List (ℕ × ℕ × ℤ) → Type 0
TellRights lowest words pairs =
    (left right : ℕ) → right < 65536 → may_have lowest words left right ≡ false → kerning_of pairs left right ≡ None

-- the same of the first words, each by its place
abbrev pub TellWords : ℕ → List ℕ → ℕ → List (ℕ × ℕ × ℤ) → Type 0
TellWords lowest words count pairs =
    (k : ℕ) → k < count → (right : ℕ) → right < 65536
    → has_bit (slice_index_or words k 0) (pair_key (lowest + k) right) ≡ false
    → kerning_of pairs (lowest + k) right ≡ None
