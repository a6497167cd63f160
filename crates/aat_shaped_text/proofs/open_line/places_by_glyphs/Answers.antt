use Rattle.std.proofs.Common.{◌≡◌, ◌∙◌, ◌++◌, List, Bool, ap, arith, drop, length, refl, rules, subst, sym, take, ℕ}
use Rattle.std.proofs.Math.Seq.{take-append_seam}
use Rattle.aat_glyph.specs.declared.glyph.hb_glyph_info_t.{hb_glyph_info_t}
use Rattle.aat_kerning.specs.Cut.{ordered_line}
use Rattle.aat_shaped_text.specs.Breaks.{may_break_by}
use Rattle.aat_shaped_text.specs.inside.KernedRuns.{TellsByGlyphs}
use Rattle.aat_shaped_text.proofs.OrderedFront.{turned_back, whole_line}
use Rattle.aat_shaped_text.proofs.open_line.places_by_glyphs.Goals as goal

pub returns-clause-told : goal.returns-clause-told
returns-clause-told g c =
    let rules_are = c.args.rules in
    let b = c.args.buffer.now in
    let new = c.tell_by_glyphs.new.places in
    let items = c.in_ok-places.places.items in
    let count = c.in_ok-places.places.len in
    let long : length new ≡ length b.line = search rules in
    let same : count ≡ length new = c.in_ok-places.ensures.len ∙ (c.len.ensures.count ∙ sym long) in
    let whole : take count (new ++ drop (length new) items) ≡ new =
    ap (λ (n : ℕ). take n (new ++ drop (length new) items)) same ∙ take-append_seam new (drop (length new) items) in
    let line : c.from_cursor.result.now ≡ ordered_line b =
    whole_line b b c.sync.new.self c.turn.new.buffer c.from_cursor.result.now refl c.sync.ensures c.turn.ensures.after c.from_cursor.ensures in
    subst (λ (told : List Bool). TellsByGlyphs rules_are b told) (sym whole)
    (record {
      long = long;
      opens = λ i low. c.tell_by_glyphs.ensures.told i (omega (arith, low, long, c.tell_by_glyphs.ensures.long)) ∙ ap (λ (gs : List hb_glyph_info_t). may_break_by rules_are gs i) line;
    })

pub returns-clause-same : goal.returns-clause-same
returns-clause-same g c =
    turned_back c.args.buffer.now c.args.buffer.now c.sync.new.self c.turn.new.buffer c.turn-2.new.buffer c.move_to.new.self c.backtrack_len-cursor.result
    refl c.backtrack_len-cursor.ensures.place c.sync.ensures c.turn.ensures.after c.turn-2.ensures.after c.move_to.ensures
