use Rattle.std.proofs.Common.{◌≡◌, ◌++◌, ◌∷◌, map, drop}
use Rattle.aat_characters.specs.PlacedCharacters.{written_as}
use Rattle.aat_characters.proofs.decomposed.put_written.Given as goal

abbrev pub invariant-loop-other : goal.invariant-loop-other
invariant-loop-other g l =
    l.out.items ++ map (written_as l.fn.character) (drop l.other-index l.others)
    ≡ l.fn.out.items ++ map (written_as l.fn.character) (l.fn.first ∷ l.others)
