use Rattle.std.proofs.Common.{◌<◌, length, slice_range, arith, refl, sym, ◌∙◌}
use Rattle.aat_characters.specs.Decomposed.{decomposed_part, has_glyph}
use Rattle.aat_characters.specs.PlacedCharacters.{has_mark}
use Rattle.aat_characters.proofs.PartsLemmas.{made_end, made_more, made_of_parts, made_on, step_begins, step_joins}
use Rattle.aat_characters.proofs.decomposed.decomposed.Goals as goal
use Rattle.aat_characters.proofs.decomposed.decomposed.Goals.{then-not-is_mark+in_ok-put_part, else-not-is_mark}

pub loop-i-preserved : goal.loop-i-preserved
loop-i-preserved g c =
    let held = c.loop-i.invariant in
    let xs = c.args.characters.now in
    let change = decomposed_part (has_glyph c.args.face.now) in
    let lt : c.loop-i.i < length xs = omega arith in
    elim c.if-not-is_mark.branch [
      | then-not-is_mark+in_ok-put_part w ↦ record {
        before = rw w.start-is (omega arith);
        made = rw (w.start-is, w.out-is)
            (made_more c.loop-i.out.items w.put_part.new.out.items _ (change (slice_range xs c.loop-i.start c.loop-i.i)) _ _ w.in_ok-put_part.ensures
            (step_begins (λ part c. has_mark c) change xs c.loop-i.start c.loop-i.i _ held.before lt (sym c.is_mark.ensures ∙ w.if-not-is_mark.true)) held.made);
      }
      | else-not-is_mark w ↦ record {
        before = rw w.start-is (omega arith);
        made = rw (w.start-is, w.out-is)
            (made_on c.loop-i.out.items c.loop-i.out.items _ _ _ refl
            (step_joins (λ part c. has_mark c) change xs c.loop-i.start c.loop-i.i _ held.before lt (sym c.is_mark.ensures ∙ w.if-not-is_mark.false)) held.made);
      }
    ]

pub returns : goal.returns
returns g c =
    made_end (λ part c. has_mark c) (decomposed_part (has_glyph c.args.face.now)) c.args.characters.now c.loop-i.start c.loop-i.i c.loop-i.out.items _ _
    (omega arith) (omega arith) c.in_ok-put_part-2.ensures c.loop-i.invariant.made
    ∙ made_of_parts (λ part c. has_mark c) (decomposed_part (has_glyph c.args.face.now)) refl c.args.characters.now
