use Rattle.std.proofs.Common.{◌≡◌, ℕ, ℤ, ◌<◌, ◌%◌, get_or}
use Rattle.std.specs.Int.{bit_at}
use Rattle.aat_kerning_tables.specs.Pairs.{key_of_pair}
use Rattle.aat_kerning_tables.proofs.rights.word_of.Given as goal

abbrev pub invariant-loop-pair : goal.invariant-loop-pair
invariant-loop-pair l =
    (i : ℕ) (d : ℕ × ℕ × ℤ) → i < l.pair-index → bit_at l.word (key_of_pair (get_or l.pairs i d) % 64) ≡ 1
