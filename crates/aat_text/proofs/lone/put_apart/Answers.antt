use Rattle.std.proofs.Common.{◌≡◌, ◌&&◌, ◌∷◌, [], ◌++◌, true, sym, ap, ap₂, ◌∙◌, rules}
use Rattle.aat_characters.specs.Apart.{is_apart}
use Rattle.aat_characters.specs.Decomposed.{has_glyph}
use Rattle.aat_text.specs.Prepared.{exchanged, placed_glyph}
use Rattle.aat_text.specs.inside.Lone.{lone_glyphs}
use Rattle.aat_text.specs.inside.Plain.{is_plain}
use Rattle.aat_text.proofs.LoneTexts.{alone_glyph}
use Rattle.aat_text.proofs.PlainCharacters.{plain_apart, plain_placed}
use Rattle.aat_text.proofs.lone.put_apart.Goals as goal

pub returns-then-is_written_alone-clause-apart : goal.returns-then-is_written_alone-clause-apart
returns-then-is_written_alone-clause-apart g c =
    let seen = c.seen_at-seen.result in
    let plain : is_plain seen.character ≡ true = sym c.is_plain.ensures ∙ c.if-is_plain.true in
    let apart : true ≡ is_apart seen.character = plain_apart seen.character plain in
    let own : true ≡ is_apart c.args.own.character = apart ∙ ap is_apart c.if-seen-own.true in
    let exchanged : true ≡ is_apart (exchanged (has_glyph c.args.face.now) c.args.direction c.args.own.character) =
    apart ∙ ap (λ one. is_apart one.character) c.seen_at-seen.ensures in
    ap₂ (λ a b. a && b) own exchanged

pub returns-then-is_written_alone-clause-glyphs : goal.returns-then-is_written_alone-clause-glyphs
returns-then-is_written_alone-clause-glyphs g c =
    let face = c.args.face.now in
    let seen = c.seen_at-seen.result in
    let before = c.args.glyphs.now.items in
    let same : c.new.result ≡ placed_glyph face seen = search (rules, plain_placed) in
    λ e. c.in_ok-push.ensures.items ∙ ap (λ glyph. before ++ glyph ∷ []) same
    ∙ ap (λ glyphs. before ++ glyphs)
    (alone_glyph face seen c.glyph_id-glyph_id.result (search rules) (c.is_written_alone.ensures c.if-is_written_alone.true))
    ∙ ap (λ one. before ++ lone_glyphs face one) c.seen_at-seen.ensures
