use Rattle.std.proofs.Common.{rules, ◌||◌}
use Rattle.std.proofs.lemmas.Iterator.{YieldsList-from_chars}
use Rattle.std.proofs.lemmas.Iterator.Search.{any_from_yields_List}
use Rattle.aat_characters.specs.Native.{is_digit, is_regional_indicator}
use Rattle.aat_characters.proofs.native.has_number.Goals as goal

pub returns : goal.returns
returns c =
    any_from_yields_List (λ c. is_digit c || is_regional_indicator c) _ _ _ c.any.ensures.ran
    (YieldsList-from_chars _ c.utf8.text c.chars.ensures.rest) (λ x b q k. search rules)
