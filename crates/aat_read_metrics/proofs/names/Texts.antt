-- Names that are shown are texts.
use Rattle.std.proofs.Common.{◌≡◌, ℕ, zero, suc, ◌<◌, List, [], ◌∷◌, Bool, true, false, ◌&&◌, nat_lt, refl, lit<, arith}
use Rattle.std.specs.List.{list_all}
use Rattle.std.specs.Str.{IsAscii, IsUtf8}
use Rattle.std.proofs.lemmas.Bool.{ltb-true}
use Rattle.std.proofs.lemmas.Str.{IsUtf8-from_ascii}
use Rattle.aat_read_metrics.specs.names.Names.{is_shown_byte}

first_true : (a b : Bool) → (a && b) ≡ true → a ≡ true
first_true true b both = refl
first_true false b both = both

second_true : (a b : Bool) → (a && b) ≡ true → b ≡ true
second_true true b both = both
second_true false b both = cc

-- a byte that is shown is ASCII
below : (byte : ℕ) (others : Bool) → (others && nat_lt byte 127) ≡ true → byte < 128
below byte others is = omega (arith, ltb-true byte 127 (second_true others (nat_lt byte 127) is))

low : (byte : ℕ) → is_shown_byte byte ≡ true → byte < 128
low byte is = below byte _ is

ascii : (name : List ℕ) → list_all is_shown_byte name ≡ true → IsAscii name
ascii [] all i = lit< tt
ascii (byte ∷ rest) all zero = low byte (first_true (is_shown_byte byte) (list_all is_shown_byte rest) all)
ascii (byte ∷ rest) all (suc i) = ascii rest (second_true (is_shown_byte byte) (list_all is_shown_byte rest) all) i

pub IsUtf8-shown : (name : List ℕ) → list_all is_shown_byte name ≡ true → IsUtf8 name
IsUtf8-shown name all = IsUtf8-from_ascii name (ascii name all)
