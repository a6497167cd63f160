use Rattle.std.proofs.Common.{◌<◌, List, ap, length, reverse, slice_range, arith, refl, sym, ◌∙◌}
use Rattle.aat_characters.specs.Clusters.{continues, merged}
use Rattle.aat_characters.specs.Parts.{parts_of}
use Rattle.aat_characters.specs.declared.placed_character.PlacedCharacter.{PlacedCharacter}
use Rattle.aat_characters.proofs.PartsLemmas.{made_end, made_more, made_of_parts, made_on, step_begins, step_joins, turned_back}
use Rattle.aat_characters.proofs.clusters.turned_clusters.Goals as goal
use Rattle.aat_characters.proofs.clusters.turned_clusters.Goals.{then-not-continues+in_ok-put_turned, else-not-continues}

pub loop-i-preserved : goal.loop-i-preserved
loop-i-preserved g c =
    let held = c.loop-i.invariant in
    let xs = c.args.characters.now in
    let change : List PlacedCharacter → List PlacedCharacter = λ p. reverse (merged p) in
    let lt : c.loop-i.i < length xs = omega arith in
    elim c.if-not-continues.branch [
      | then-not-continues+in_ok-put_turned w ↦ record {
        before = rw w.start-is (omega arith);
        made = rw (w.start-is, w.out-is)
            (made_more c.loop-i.out.items w.put_turned.new.out.items _ (change (slice_range xs c.loop-i.start c.loop-i.i)) _ _ w.in_ok-put_turned.ensures
            (step_begins continues change xs c.loop-i.start c.loop-i.i _ held.before lt (sym c.continues.ensures ∙ w.if-not-continues.true)) held.made);
      }
      | else-not-continues w ↦ record {
        before = rw w.start-is (omega arith);
        made = rw (w.start-is, w.out-is)
            (made_on c.loop-i.out.items c.loop-i.out.items _ _ _ refl
            (step_joins continues change xs c.loop-i.start c.loop-i.i _ held.before lt (sym c.continues.ensures ∙ w.if-not-continues.false)) held.made);
      }
    ]

pub returns : goal.returns
returns g c =
    c.reverse.ensures.items
    ∙ ap reverse (
    made_end continues (λ p. reverse (merged p)) c.args.characters.now c.loop-i.start c.loop-i.i c.loop-i.out.items _ _
    (omega arith) (omega arith) c.in_ok-put_turned-2.ensures c.loop-i.invariant.made
    ∙ made_of_parts continues (λ p. reverse (merged p)) refl c.args.characters.now)
    ∙ turned_back merged (parts_of continues c.args.characters.now)
