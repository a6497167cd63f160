use Rattle.std.proofs.Common.{◌≡◌, refl, sym, subst, ℕ, ◌/◌, ◌<◌, List, length, get_or, Some}
use Rattle.std.specs.List.{slice_get}
use Rattle.std.proofs.lemmas.Bool.{not-false}
use Rattle.std.proofs.lemmas.Option.{slice_get_read}
use Rattle.aat_font.specs.declared.wakers.GlyphWords.{GlyphWords}
use Rattle.aat_glyph.specs.declared.glyph.hb_glyph_info_t.{hb_glyph_info_t}
use Rattle.aat_morx.specs.declared.waking.KnownBits.{KnownBits}
use Rattle.aat_morx.specs.LineWords.{AreBitsOf}
use Rattle.aat_morx.proofs.LineBits.{asleep_by, asleep_by_summary, bits_of_block, bits_stay}
use Rattle.aat_morx.proofs.waking.LineWord.wakes.Goals as goal

there :
    (found blocks : List GlyphWords) (i : ℕ) (w : GlyphWords) → found ≡ blocks → w ≡ get_or found i w → i < length found
    → slice_get blocks i ≡ Some w
there found blocks i w same read within =
    subst (λ (xs : List GlyphWords). slice_get xs i ≡ Some w) same (slice_get_read found (length found) i w refl within read)

of_summary :
    (known : KnownBits) (asked summary : GlyphWords) (line : List hb_glyph_info_t) → asked ≡ summary → AreBitsOf known asked line
    → AreBitsOf known summary line
of_summary known asked summary line same has = subst (λ (w : GlyphWords). AreBitsOf known w line) same has

pub are_clear-requires-clause-tells : goal.are_clear-requires-clause-tells
are_clear-requires-clause-tells g c =
    of_summary c.args.self.now.summary c.args.words.now.summary c.summary.result.now c.args.buffer.now.line (sym c.summary.ensures) c.requires.tells.1

pub returns-then-are_clear-clause-tells : goal.returns-then-are_clear-clause-tells
returns-then-are_clear-clause-tells g c = (
  c.requires.tells.0,
  of_summary c.are_clear.new.self c.summary.result.now c.args.words.now.summary c.args.buffer.now.line c.summary.ensures c.are_clear.ensures.tells,
)

pub returns-then-are_clear-clause-asleep : goal.returns-then-are_clear-clause-asleep
returns-then-are_clear-clause-asleep g c = λ s wake asleep.
    let words = c.args.words.now in
    let place = c.args.number / 64 in
    let w = c.in-Some.glyph_words.now in
    let at = there c.blocks-2.result.now words.blocks.items place w c.blocks-2.ensures c.in-Some.ensures.lookup.1 c.in-Some.ensures.lookup.3.0 in
    asleep_by_summary s words c.args.number w c.args.buffer.now.line at (rw (← c.summary.ensures) (c.are_clear.ensures.clear c.if-are_clear.true)) wake

pub are_clear-requires-in-Some-clause-tells : goal.are_clear-requires-in-Some-clause-tells
are_clear-requires-in-Some-clause-tells g c =
    let words = c.args.words.now in
    let place = c.args.number / 64 in
    let w = c.in-Some.glyph_words.now in
    let at = there c.blocks-2.result.now words.blocks.items place w c.blocks-2.ensures c.in-Some.ensures.lookup.1 c.in-Some.ensures.lookup.3.0 in
    let was = c.args.self.now in
    bits_stay was.word c.turn_to.new.self.word words.blocks.items was.block place w c.args.buffer.now.line c.requires.tells.0 at c.turn_to.ensures.word

pub returns-else-are_clear-clause-tells : goal.returns-else-are_clear-clause-tells
returns-else-are_clear-clause-tells g c =
    let words = c.args.words.now in
    let line = c.args.buffer.now.line in
    let place = c.args.number / 64 in
    let w = c.in-Some.glyph_words.now in
    let at = there c.blocks-2.result.now words.blocks.items place w c.blocks-2.ensures c.in-Some.ensures.lookup.1 c.in-Some.ensures.lookup.3.0 in
    let summed = of_summary c.are_clear.new.self c.summary.result.now words.summary line c.summary.ensures c.are_clear.ensures.tells in (
      bits_of_block c.are_clear-in-Some.new.self words.blocks.items place c.turn_to.new.self.block w line at c.turn_to.ensures.block c.are_clear-in-Some.ensures.tells,
      subst (λ (known : KnownBits). AreBitsOf known words.summary line) (sym c.turn_to.ensures.summary) summed,
    )

pub returns-else-are_clear-clause-asleep : goal.returns-else-are_clear-clause-asleep
returns-else-are_clear-clause-asleep g c = λ s wake asleep.
    let words = c.args.words.now in
    let place = c.args.number / 64 in
    let w = c.in-Some.glyph_words.now in
    let at = there c.blocks-2.result.now words.blocks.items place w c.blocks-2.ensures c.in-Some.ensures.lookup.1 c.in-Some.ensures.lookup.3.0 in
    asleep_by s words c.args.number w c.args.buffer.now.line at (c.are_clear-in-Some.ensures.clear (not-false _ asleep)) wake
