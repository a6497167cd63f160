use Rattle.std.proofs.Common.{◌∙◌, ap, sym, Option, List, None, option_copied, ℕ}
use Rattle.std.specs.Prelude.{option_and_then}
use Rattle.aat_read_metrics.specs.names.Names.{own_name, string_at}
use Rattle.aat_read_metrics.proofs.names.PlaceSteps.{own_is}
use Rattle.aat_read_metrics.proofs.names.table.GlyphNames.own_name.Goals as goal

pub returns-in-Some : goal.returns-in-Some
returns-in-Some c =
    let post = c.self.inside.post.now in
    own_is post c.self.inside.places.items c.deref.result.now c.args.number c.place_at.result (option_copied c.string_at.result) c.self.invariant c.deref.ensures.value c.place_at.ensures (c.string_at.ensures ∙ ap (λ (p : Option ℕ). option_and_then (string_at post) p) (sym c.in-Some.is))
    ∙ ap (λ (table : List ℕ). own_name table c.args.number) c.self.view_is

pub returns-in-None : goal.returns-in-None
returns-in-None c =
    let post = c.self.inside.post.now in
    own_is post c.self.inside.places.items c.deref.result.now c.args.number c.place_at.result None c.self.invariant c.deref.ensures.value c.place_at.ensures (ap (λ (p : Option ℕ). option_and_then (string_at post) p) (sym c.in-None.is))
    ∙ ap (λ (table : List ℕ). own_name table c.args.number) c.self.view_is
