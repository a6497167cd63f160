use Rattle.std.proofs.Common.{ap}
use Rattle.std.specs.Option.{option_map_or}
use Rattle.aat_shaped_text.specs.declared.text.CharacterKind.TheVariants.{Other, Space}
use Rattle.aat_text.specs.Kinds.{space_kind}
use Rattle.aat_text.proofs.SpacesRise.{spaces_rise}
use Rattle.aat_text.proofs.kinds.space_kind.Goals as goal

pub row_at-requires : goal.row_at-requires
row_at-requires c = spaces_rise

pub returns-in-Some : goal.returns-in-Some
unfolding space_kind
returns-in-Some c = ap (λ o. option_map_or (λ row. Space row.1) o Other) c.in-Some.ensures

pub returns-in-None : goal.returns-in-None
unfolding space_kind
returns-in-None c = ap (λ o. option_map_or (λ row. Space row.1) o Other) c.in-None.ensures
