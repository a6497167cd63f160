use Rattle.std.proofs.Common.{◌≡◌, drop}
use Rattle.aat_characters.specs.Composed.{composed}
use Rattle.aat_characters.specs.Decomposed.{has_glyph}
use Rattle.aat_characters.specs.inside.Composing.{composed_behind}
use Rattle.aat_characters.proofs.composed.composed.Given as goal

abbrev pub invariant-loop-character : goal.invariant-loop-character
invariant-loop-character g l =
    composed_behind (has_glyph l.fn.face) l.composer.done.items l.composer.starter l.composer.between.items (drop l.character-index l.others)
    ≡ composed (has_glyph l.fn.face) l.fn.characters
