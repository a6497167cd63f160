use Rattle.std.proofs.Common.{◌∙◌, ap, ◌||◌, Bool}
use Rattle.std.specs.List.{list_all}
use Rattle.std.specs.Option.{option_copied}
use Rattle.aat_font.specs.Face.{chains_in, tables_of}
use Rattle.aat_machine_tables.specs.declared.morx.Chain.{Chain}
use Rattle.aat_map.specs.Requests.{requests_of}
use Rattle.aat_shaped_text.specs.Breaks.{keeps_apart, possible_flags, substitutes_apart}
use Rattle.aat_drawn_text.proofs.EvenlyMapped.{evenly_mapped}
use Rattle.aat_drawn_text.proofs.substitution.substitutes_evenly.Goals as goal

pub returns-then-gives_one_range : goal.returns-then-gives_one_range
returns-then-gives_one_range g c =
    let face = c.args.face.now in
    let features = c.args.features.now in
    let apart : Chain → Bool = λ k. list_all (keeps_apart c.args.direction (possible_flags features k)) k.subtables.items in
    c.if-gives_one_range.true
    ∙ (ap (λ (t : Bool). t || substitutes_apart face c.args.direction features) c.if-gives_one_range.ensures
    ∙ evenly_mapped (requests_of (tables_of face).feat features) (chains_in (tables_of face).morx) apart (option_copied c.args.map) c.requires.compiled)

pub returns-else-gives_one_range : goal.returns-else-gives_one_range
returns-else-gives_one_range g c =
    let face = c.args.face.now in
    let features = c.args.features.now in
    let apart : Chain → Bool = λ k. list_all (keeps_apart c.args.direction (possible_flags features k)) k.subtables.items in
    c.substitutes_apart.ensures
    ∙ (ap (λ (t : Bool). t || substitutes_apart face c.args.direction features) c.if-gives_one_range.ensures
    ∙ evenly_mapped (requests_of (tables_of face).feat features) (chains_in (tables_of face).morx) apart (option_copied c.args.map) c.requires.compiled)
