use Rattle.std.proofs.Common.{◌≡◌, ◌∙◌, ◌≤◌, List, ap, arith, length, refl, sym}
use Rattle.std.proofs.lemmas.List.{length-map}
use Rattle.aat_buffer.specs.Buffer.{Buffer, without_positions}
use Rattle.aat_glyph.specs.declared.glyph.hb_glyph_info_t.{hb_glyph_info_t}
use Rattle.aat_shaped_text.specs.ShapedText.{drawn_glyph, drawn_glyphs, kept_places, with_clusters_of}
use Rattle.aat_shaped_text.specs.declared.text.ShapedGlyph.{ShapedGlyph}
use Rattle.aat_drawn_text.specs.inside.Drawing.{clusters_of, may_break}
use Rattle.aat_drawn_text.proofs.DrawnPlaces.{clusters_drawn, few_drawn, lent_long, whole_drawn}
use Rattle.aat_drawn_text.proofs.Kept.{few_kept}
use Rattle.aat_drawn_text.proofs.Undeleted.{clusters_whole, drawn_whole, from_front, left_bare, order_at_front}
use Rattle.aat_drawn_text.proofs.drawn.draw.Goals as goal

pub take_clusters-requires : goal.take_clusters-requires
take_clusters-requires g c =
    let b = c.sync.new.self in
    let left = c.drop_deleted.new.self in
    let bare = without_positions b in
    let bare_is : bare ≡ without_positions b = refl in
    let gone = c.drop_deleted.ensures.removed in
    record {
      count = lent_long (drawn_glyph (may_break c.args.breaks b.line) b) b left c.deref_mut.result.now c.put_drawn_glyphs.new.glyphs.items
          c.drop_deleted.ensures.others c.deref_mut.ensures.value c.in_ok-put_drawn_glyphs.ensures.ok
          ∙ ap (λ (gs : List hb_glyph_info_t). length gs)
          (sym (from_front bare left c.from_cursor.result.now gone c.from_cursor.ensures));
    }

pub returns-then-len-clause-ok : goal.returns-then-len-clause-ok
returns-then-len-clause-ok g c =
    let b = c.sync.new.self in
    let left = c.drop_deleted.new.self in
    let bare = without_positions b in
    let bare_is : bare ≡ without_positions b = refl in
    let gone = c.drop_deleted.ensures.removed in
    whole_drawn (drawn_glyph (may_break c.args.breaks b.line) b) b left c.deref_mut.result.now c.put_drawn_glyphs.new.glyphs.items
    c.drop_deleted.ensures.others c.deref_mut.ensures.value c.in_ok-put_drawn_glyphs.ensures.ok
    c.take_clusters.new.glyphs c.put_drawn_glyphs.new.glyphs.len (left_bare b bare left bare_is gone)
    (c.take_clusters.ensures ∙ ap (λ (gs : List hb_glyph_info_t). with_clusters_of gs c.deref_mut.result.now) (from_front bare left c.from_cursor.result.now gone c.from_cursor.ensures))
    c.deref_mut.ensures.len
    ∙ ap (λ (d : Buffer). drawn_glyphs (may_break c.args.breaks d.line) d) c.sync.ensures

pub returns-then-len-clause-clusters : goal.returns-then-len-clause-clusters
returns-then-len-clause-clusters g c =
    let b = c.sync.new.self in
    let left = c.drop_deleted.new.self in
    let bare = without_positions b in
    let bare_is : bare ≡ without_positions b = refl in
    let gone = c.drop_deleted.ensures.removed in
    clusters_drawn (drawn_glyph (may_break c.args.breaks b.line) b) b left c.deref_mut.result.now c.put_drawn_glyphs.new.glyphs.items
    c.drop_deleted.ensures.others c.deref_mut.ensures.value c.in_ok-put_drawn_glyphs.ensures.ok
    c.take_clusters.new.glyphs c.put_drawn_glyphs.new.glyphs.len (left_bare b bare left bare_is gone)
    (c.take_clusters.ensures ∙ ap (λ (gs : List hb_glyph_info_t). with_clusters_of gs c.deref_mut.result.now) (from_front bare left c.from_cursor.result.now gone c.from_cursor.ensures))
    c.deref_mut.ensures.len

pub returns-then-len-clause-count : goal.returns-then-len-clause-count
returns-then-len-clause-count g c =
    let b = c.sync.new.self in
    let left = c.drop_deleted.new.self in
    let bare = without_positions b in
    let bare_is : bare ≡ without_positions b = refl in
    let gone = c.drop_deleted.ensures.removed in
    omega (
      arith,
      few_drawn (drawn_glyph (may_break c.args.breaks b.line) b) b left c.deref_mut.result.now c.put_drawn_glyphs.new.glyphs.items
          c.drop_deleted.ensures.others c.deref_mut.ensures.value c.in_ok-put_drawn_glyphs.ensures.ok
          c.take_clusters.new.glyphs c.put_drawn_glyphs.new.glyphs.len (left_bare b bare left bare_is gone)
          (c.take_clusters.ensures ∙ ap (λ (gs : List hb_glyph_info_t). with_clusters_of gs c.deref_mut.result.now) (from_front bare left c.from_cursor.result.now gone c.from_cursor.ensures))
          c.deref_mut.ensures.len,
      ap (λ (d : Buffer). length d.line) c.sync.ensures,
    )

pub returns-else-len-clause-ok : goal.returns-else-len-clause-ok
returns-else-len-clause-ok g c =
    let b = c.sync.new.self in
    let may = may_break c.args.breaks b.line in
    let made = c.in_ok-put_drawn_glyphs.ensures.ok in
    let whole : length b.line ≤ length (kept_places b.line) =
    omega (arith, c.if-len.false, c.len.ensures, c.len-2.ensures.count, ap (λ (gs : List ShapedGlyph). length gs) made, length-map (kept_places b.line) (drawn_glyph may b)) in
    made ∙ (drawn_whole b whole may ∙ ap (λ (d : Buffer). drawn_glyphs (may_break c.args.breaks d.line) d) c.sync.ensures)

pub returns-else-len-clause-clusters : goal.returns-else-len-clause-clusters
returns-else-len-clause-clusters g c =
    let b = c.sync.new.self in
    let may = may_break c.args.breaks b.line in
    let made = c.in_ok-put_drawn_glyphs.ensures.ok in
    let whole : length b.line ≤ length (kept_places b.line) =
    omega (arith, c.if-len.false, c.len.ensures, c.len-2.ensures.count, ap (λ (gs : List ShapedGlyph). length gs) made, length-map (kept_places b.line) (drawn_glyph may b)) in
    ap clusters_of made ∙ clusters_whole b whole may

pub returns-else-len-clause-count : goal.returns-else-len-clause-count
returns-else-len-clause-count g c =
    let b = c.sync.new.self in
    omega (
      arith,
      ap (λ (gs : List ShapedGlyph). length gs) c.in_ok-put_drawn_glyphs.ensures.ok,
      length-map (kept_places b.line) (drawn_glyph (may_break c.args.breaks b.line) b),
      few_kept b.line,
      ap (λ (d : Buffer). length d.line) c.sync.ensures,
    )

pub returns-else-len-clause-order : goal.returns-else-len-clause-order
returns-else-len-clause-order g c = order_at_front c.args.buffer.now c.sync.new.self c.sync.ensures
