use Rattle.std.proofs.Common.{ℕ, List, length, ◌<◌, set, subst, arith}
use Rattle.std.proofs.lemmas.Bool.{ltb-true}
use Rattle.std.proofs.lemmas.List.{length-set}
use Rattle.aat_cuts.specs.Labels.{label_in}
use Rattle.aat_cuts.specs.inside.Steps.{AreListed, AreOfGlyphs}
use Rattle.std.specs.List.{All}
use Rattle.aat_cuts.proofs.GlyphClasses.{classes_labelled, labelled_here, labelled_still, one_of_glyph, sound_still, two_of_glyph}
use Rattle.aat_cuts.proofs.classes.label_all.Goals as goal

pub returns-clause-classes : goal.returns-clause-classes
returns-clause-classes g c =
    let table = c.args.table.now in
    let first = c.args.labels.now in
    let one_within : 1 < length first = omega arith in
    let second = set first 1 1 in
    let two_within : 2 < length second = rw length-set (omega arith) in
    let sound_first : AreOfGlyphs table first = λ k is. absurd (omega (arith, c.requires.zero k, ltb-true 0 (label_in first k) is)) in
    let sound = sound_still second 2 two_within table (two_of_glyph table) (sound_still first 1 one_within table (one_of_glyph table) sound_first) in
    let one = labelled_still second 2 two_within 1 (labelled_here first 1 one_within) in
    let two = labelled_here second 2 two_within in
    let here = c.label_classes.ensures in
    let listed : All (AreListed table c.label_classes.new.labels) table.classes =
    subst (λ (xs : List (ℕ × ℕ)). All (AreListed table c.label_classes.new.labels) xs) c.requires.pairs here.listed
    in
    classes_labelled table c.label_classes.new.labels (here.kept 1 one) (here.kept 2 two) listed (here.sound sound)
