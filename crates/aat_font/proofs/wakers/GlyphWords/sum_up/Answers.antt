use Rattle.std.proofs.Common.{◌≡◌, ◌∙◌, ℕ, ◌<◌, ◌≤◌, ◌⊎◌, inl, inr, length, min, sym, vec_len, arith}
use Rattle.std.proofs.lemmas.Bool.{cases_lt}
use Rattle.std.proofs.lemmas.List.{get_or_default}
use Rattle.aat_font.specs.Wakers.{word_place}
use Rattle.aat_font.specs.declared.wakers.GlyphWords.{GlyphWords}
use Rattle.aat_font.proofs.SummedWords.{all_places, place_marked, place_more}
use Rattle.aat_font.proofs.wakers.GlyphWords.sum_up.Goals as goal
use Rattle.aat_font.proofs.wakers.GlyphWords.sum_up.Goals.{then-index-ne0+in_ok-mark, else-index-ne0}

by_reach :
    (block : GlyphWords) (place count : ℕ) → count ≡ vec_len block.words → min count 65536 ≤ place
    → (g : ℕ) → word_place g < place ⊎ length block.words.items ≤ word_place g
by_reach block place count long past g = by_place (cases_lt (word_place g) place)
  where
    by_place : word_place g < place ⊎ place ≤ word_place g → word_place g < place ⊎ length block.words.items ≤ word_place g
    by_place (inl low) = inl low
    by_place (inr high) = inr (omega (arith, high, past, long, block.words.ok))

pub loop-place-preserved : goal.loop-place-preserved
loop-place-preserved c =
    let l = c.loop-place in
    let block = c.args.block.now in
    let low : l.place < 65536 = omega (arith, c.loop-place-test.true, c.min-place-end.ensures) in
    elim c.if-index-ne0.branch [
      | then-index-ne0+in_ok-mark w ↦
          let marked = w.in_ok-mark.ensures in
          rw w.self-is (record {
            kept = λ g k. omega (arith, l.invariant.kept g k, marked.kept g k);
            below = place_more l.self w.mark.new.self block c.args.bit l.place marked.kept l.invariant.below
                (place_marked w.mark.new.self block c.args.bit l.place _ (omega (arith, low)) marked.set);
          })
      | else-index-ne0 w ↦
          rw w.self-is (record {
            kept = l.invariant.kept;
            below = place_more l.self l.self block c.args.bit l.place (λ g k. omega arith) l.invariant.below
                (λ g at clear. rw at (sym (c.index.ensures ∙ get_or_default block.words.items l.place _ 0 (omega (arith, c.loop-place-test.true, c.min-place-end.ensures, c.len.ensures))) ∙ w.if-index-ne0.false));
          })
    ]

pub returns-clause-summed : goal.returns-clause-summed
returns-clause-summed c =
    let l = c.loop-place in
    all_places l.self c.args.block.now c.args.bit l.place c.if-block-ne0.false
    (by_reach c.args.block.now l.place c.len.result c.len.ensures (omega (arith, c.loop-place-test.false, c.min-place-end.ensures)))
    l.invariant.below
