use Rattle.std.proofs.Common.{◌≡◌, ◌+◌, ◌++◌, ◌∷◌, [], length, subst, sym, ap, ap₂, ◌∙◌, arith}
use Rattle.std.proofs.lemmas.Str.{IsUtf8-past_char}
use Rattle.std.specs.Prelude.{if◌then◌else◌}
use Rattle.std.specs.Str.{chars, IsUtf8}
use Rattle.std.specs.Str.Iter.{chars_rest}
use Rattle.aat_text.specs.TextGlyphs.{text_glyph}
use Rattle.aat_text.proofs.Passed.{glyphs_at_start, glyphs_behind, glyphs_done, glyphs_past, starts_within}
use Rattle.aat_text.proofs.Placed.{room_past_char}
use Rattle.aat_text.proofs.glyphs.text_of.Goals as goal

pub loop-character-init : goal.loop-character-init
loop-character-init g c =
    let rest : chars_rest c.into_iter-character-iterator.result ≡ c.args.text.now =
    ap chars_rest c.into_iter-character-iterator.ensures.into_iter_gives ∙ c.chars-character-items.ensures.rest in
    record {
      known = c.none-known.ensures c.args.face.now;
      text = subst IsUtf8 (sym rest) c.utf8.text;
      made = (
        [],
        c.nothing-before.ensures,
        ap₂ (λ made bs. made ++ glyphs_behind c.args.face.now c.args.unit [] 0 0 (chars bs)) c.new-glyphs.ensures.items rest
            ∙ glyphs_at_start c.args.face.now c.args.unit c.args.text.now c.utf8.text,
      );
      started = omega arith;
      room = omega (arith, ap length rest);
    }

pub overflow_cast-cluster : goal.overflow_cast-cluster
overflow_cast-cluster g c =
    let held = c.loop-character.invariant in
    let within = starts_within c.pass.result c.loop-character.place c.loop-character.cluster c.cluster_start-cluster.result held.started c.cluster_start-cluster.ensures in
    omega (arith, held.room, within)

pub loop-character-preserved : goal.loop-character-preserved
loop-character-preserved g c =
    let held = c.loop-character.invariant in
    let step = c.in-Some.ensures.steps.0 in
    let place = c.loop-character.place in
    let cluster = c.loop-character.cluster in
    let start = c.cluster_start-cluster.result in
    let within = starts_within c.pass.result place cluster start held.started c.cluster_start-cluster.ensures in
    let begins = c.cluster_start-cluster.ensures ∙ ap (λ b. if b then place else cluster) (c.pass.ensures.begins held.made.0 held.made.1) in
    let put : c.push.new.self.items ≡ c.loop-character.glyphs.items ++ text_glyph c.args.face.now start c.in-Some.character ∷ [] =
    rw (← c.text_glyph.ensures.glyph) c.in_ok-push.ensures.items in
    record {
      known = c.text_glyph.ensures.known;
      text = IsUtf8-past_char _ _ c.in-Some.character held.text step;
      made = (
        c.in-Some.character ∷ held.made.0,
        c.pass.ensures.behind held.made.0 held.made.1,
        glyphs_past c.args.face.now c.args.unit held.made.0 cluster place c.in-Some.character start _ _ _ c.loop-character.glyphs.items _ _ held.text step
            begins (ap (λ k. place + k) c.width_of-place.ensures) put held.made.2,
      );
      started = omega (arith, within);
      room = room_past_char c.args.unit place c.width_of-place.result _ _ _ c.in-Some.character step c.width_of-place.ensures held.room;
    }

pub returns-clause-ok : goal.returns-clause-ok
returns-clause-ok g c =
    let held = c.loop-character.invariant in
    glyphs_done c.args.face.now c.args.unit held.made.0 c.loop-character.cluster c.loop-character.place _ c.loop-character.glyphs.items _ c.in-None.ensures.steps.0.0 held.made.2
