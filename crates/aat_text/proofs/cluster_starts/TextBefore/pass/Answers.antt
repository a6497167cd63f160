use Rattle.std.proofs.Common.{not, ◌∷◌, subst, sym, ap, ◌∙◌}
use Rattle.aat_text.specs.inside.ClusterStarts.{IsBehind, begins_at, known_behind}
use Rattle.aat_text.proofs.ClusterStarts.{begins, behind}
use Rattle.aat_text.proofs.PlainCharacters.{plain_begins, plain_behind}
use Rattle.aat_text.proofs.cluster_starts.TextBefore.pass.Goals as goal

pub returns-then-is_plain-clause-begins : goal.returns-then-is_plain-clause-begins
returns-then-is_plain-clause-begins c =
    λ before h.
    ap not c.is_prepended.ensures ∙ plain_begins c.args.self.now c.args.character (sym c.is_plain.ensures ∙ c.if-is_plain.true)
    ∙ begins before c.args.self.now c.args.character h

pub returns-then-is_plain-clause-behind : goal.returns-then-is_plain-clause-behind
returns-then-is_plain-clause-behind c =
    λ before h.
    let same = plain_behind c.args.self.now c.args.character (sym c.is_plain.ensures ∙ c.if-is_plain.true) in
    subst (IsBehind (c.args.character ∷ before)) (sym (c.behind_plain.ensures ∙ same)) (behind before c.args.self.now c.args.character h)

pub returns-clause-begins : goal.returns-clause-begins
returns-clause-begins c =
    λ before h.
    c.begins_at.ensures ∙ ap (begins_at c.args.self.now c.args.character) c.for_char-value.ensures ∙ begins before c.args.self.now c.args.character h

pub returns-clause-behind : goal.returns-clause-behind
returns-clause-behind c =
    λ before h.
    let same = c.behind.ensures ∙ ap (known_behind c.args.self.now c.args.character) c.for_char-value.ensures in
    subst (IsBehind (c.args.character ∷ before)) (sym same) (behind before c.args.self.now c.args.character h)
