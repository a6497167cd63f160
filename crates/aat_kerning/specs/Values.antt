-- The kerning values of pairs of glyphs, however a table has them.
use Rattle.aat_kerning_tables.specs.Classes.{kerning_by_classes}
use Rattle.aat_kerning.specs.PairKerning.{value_of}
use Rattle.aat_kerning.specs.PairKerning as kerning
use Rattle.aat_kerning.specs.declared.pair_values.PairValues.{PairValues}
use Rattle.aat_kerning.specs.declared.pair_values.PairValues.TheVariants.{Listed, Classes}

-- the value of two glyphs, 0 where there is none
abbrev pub values_of : PairValues → kerning.PairValues
values_of (Listed pairs) = value_of pairs.now
values_of (Classes pairs) = kerning_by_classes pairs.now
