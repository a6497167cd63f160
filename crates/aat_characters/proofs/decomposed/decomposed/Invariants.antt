use Rattle.std.proofs.Common.{◌≡◌, ◌++◌, ◌≤◌, [], drop, slice_range}
use Rattle.aat_characters.specs.Decomposed.{decomposed_part, has_glyph}
use Rattle.aat_characters.specs.PlacedCharacters.{has_mark}
use Rattle.aat_characters.proofs.PartsLemmas.{in_parts}
use Rattle.aat_characters.proofs.decomposed.decomposed.Given as goal

abbrev pub invariant-loop-i : goal.invariant-loop-i
invariant-loop-i g l = record {
  before : l.start ≤ l.i;
  made : l.out.items ++ in_parts (λ part c. has_mark c) (decomposed_part (has_glyph l.fn.face)) (slice_range l.characters l.start l.i) (drop l.i l.characters)
      ≡ in_parts (λ part c. has_mark c) (decomposed_part (has_glyph l.fn.face)) [] l.characters;
}
