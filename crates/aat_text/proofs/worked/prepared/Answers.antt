use Rattle.std.proofs.Common.{refl}
use Rattle.std.specs.Char.{encode_utf8}
use Rattle.std.specs.Str.{chars}
use Rattle.ucd_category.proofs.Computing.{ucd_category}
use Rattle.ucd_emoji.proofs.Computing.{ucd_emoji}
use Rattle.ucd_normal.proofs.Computing.{ucd_normal}
use Rattle.ucd_script.proofs.Computing.{ucd_script}
use Rattle.unicode_normalization.proofs.Computing.{unicode_normalization}
use Rattle.aat_characters.specs.Exchanges.{mirrored, vertical_form}
use Rattle.aat_characters.specs.Marks.{shaping_class}
use Rattle.aat_text.specs.Kinds.{space_kind}
use Rattle.aat_text.proofs.worked.prepared.Goals as goal

pub returns-clause-turned : goal.returns-clause-turned
unfolding ucd_emoji unicode_normalization ucd_category ucd_normal ucd_script mirrored vertical_form shaping_class space_kind chars encode_utf8
returns-clause-turned c = refl

pub returns-clause-whole : goal.returns-clause-whole
unfolding ucd_emoji unicode_normalization ucd_category ucd_normal ucd_script mirrored vertical_form shaping_class space_kind chars encode_utf8
returns-clause-whole c = refl

pub returns-clause-kinds : goal.returns-clause-kinds
unfolding ucd_emoji unicode_normalization ucd_category ucd_normal ucd_script mirrored vertical_form shaping_class space_kind chars encode_utf8
returns-clause-kinds c = refl

pub returns-clause-mirrored : goal.returns-clause-mirrored
unfolding ucd_emoji unicode_normalization ucd_category ucd_normal ucd_script mirrored vertical_form shaping_class space_kind chars encode_utf8
returns-clause-mirrored c = (refl, refl, refl, refl)
