use Rattle.std.proofs.Common.{◌<◌, ◌≤◌, [], ◌+◌, drop, length, sym, arith}
use Rattle.std.proofs.lemmas.List.{drop_more, drop_all}
use Rattle.aat_characters.specs.Decomposed.{has_glyph}
use Rattle.aat_characters.specs.PlacedCharacters.{placed_class}
use Rattle.aat_characters.proofs.KeptTexts.{all_rest, one_stays}
use Rattle.aat_characters.proofs.kept.are_kept_behind.Goals as goal

pub loop-character-init : goal.loop-character-init
loop-character-init c = record {
  known = c.none-known.ensures (has_glyph c.args.face.now);
  stay = λ rest e h. all_rest (has_glyph c.args.face.now) c.args.first.character c.class-class.result (placed_class c.args.first) rest c.args.others.now e c.class-class.ensures h;
}

pub loop-character-preserved : goal.loop-character-preserved
loop-character-preserved c =
    let i = c.loop-character.character-index in
    let xs = c.args.others.now in
    let lt : i < length xs = omega arith in
    record {
      known = c.writing-writing.ensures.known;
      stay = λ rest e h. one_stays (has_glyph c.args.face.now) c.loop-character.starter c.loop-character.class _ c.writing-writing.result.class
          _ (drop i xs) (drop (i + 1) xs) rest _ c.loop-character.invariant.stay (drop_more xs i _ lt)
          (c.stays_behind.ensures c.if-not-stays_behind.false) c.starter_behind-starter.ensures c.writing-writing.ensures.writing.class e h;
    }

pub returns : goal.returns
returns c =
    let i = c.loop-character.character-index in
    let past : length c.args.others.now ≤ i = omega arith in
    λ e. c.loop-character.invariant.stay [] (sym (drop_all i c.args.others.now past)) tt
