-- What is attached behind kerning is attached so where it is drawn.
use Rattle.std.proofs.Common.{◌≡◌, ◌∙◌, ap, refl, subst, sym, ℕ, Bool, true, false, cond, List, [], ◌∷◌, ◌++◌, length, map, reverse, arith}
use Rattle.std.proofs.lemmas.Grind.{reverse_onto}
use Rattle.std.proofs.lemmas.List.{map-append}
use Rattle.std.specs.Option.{option_or}
use Rattle.std.specs.Ordering.{int_eq}
use Rattle.std.specs.Prelude.{ℤ, pos, Option, Some, None, option_map, unwrap_or}
use Rattle.aat_buffer.specs.Buffer.{Buffer, position_list, reversed}
use Rattle.aat_buffer.specs.Removal.{is_deleted}
use Rattle.aat_glyph.specs.Directions.{is_backward, is_horizontal}
use Rattle.aat_glyph.specs.declared.glyph.Direction.{Direction}
use Rattle.aat_glyph.specs.declared.glyph.GlyphPosition.{GlyphPosition}
use Rattle.aat_glyph.specs.declared.glyph.hb_glyph_info_t.{hb_glyph_info_t}
use Rattle.aat_kerning.specs.Cut.{ordered_positions}
use Rattle.aat_kerning.specs.Positioning.{in_processing_order}
use Rattle.aat_kerning.specs.Zeroing.{without_room, zeroed, zeroed_positions}
use Rattle.aat_glyph.specs.placement.Attachments.{IsUnattached}
use Rattle.aat_glyph.specs.placement.TrackedLines.{begins, plus, tracked, tracked_behind, widened}
use Rattle.aat_shaped_text.specs.Breaks.{is_unchained}
use Rattle.aat_shaped_text.specs.ShapedText.{drawn_clusters, tracked_by, tracked_line}
use Rattle.aat_shaped_text.proofs.ChainsSplit.{link, same_links}
use Rattle.aat_shaped_text.proofs.KernedApart.{Plain, plain_at, plain_reverse}
use Rattle.aat_drawn_text.proofs.Unattached.{no_parent}

links_zeroed : (gs : List hb_glyph_info_t) (qs : List GlyphPosition) → length qs ≡ length gs → map link (zeroed_positions gs qs) ≡ map link qs
links_zeroed [] [] long = refl
links_zeroed [] (q ∷ qs) long = absurd (omega (arith, long))
links_zeroed (g ∷ gs) [] long = refl
links_zeroed (g ∷ gs) (q ∷ qs) long = by (is_deleted g) (links_zeroed gs qs (omega (arith, long)))
  where
    by : (t : Bool) → map link (zeroed_positions gs qs) ≡ map link qs → map link (cond t (without_room q) q ∷ zeroed_positions gs qs) ≡ link q ∷ map link qs
    by true rest = ap (λ ls. link q ∷ ls) rest
    by false rest = ap (λ ls. link q ∷ ls) rest

module _ (v : ℤ) (d : Direction) where
  link_widened : (q : GlyphPosition) → link (widened d v q) ≡ link q
  link_widened q = by (is_horizontal d)
    where
      by : (t : Bool)
          → link (cond t (record q { x_advance = plus q.x_advance v })
          (record q { y_advance = plus q.y_advance v }))
          ≡ link q
      by true = refl
      by false = refl

  links_behind : (last : Option ℕ) (cs : List (Option ℕ)) (qs : List GlyphPosition) → map link (tracked_behind last d v cs qs) ≡ map link qs
  links_behind last [] qs = refl
  links_behind last (c ∷ cs) [] = refl
  links_behind last (c ∷ cs) (q ∷ qs) = λ k. by (begins last c) k ∷ links_behind (option_or c last) cs qs k
    where
      by : (t : Bool) → link (cond t (widened d v q) q) ≡ link q
      by true = link_widened q
      by false = refl

  links_tracked : (cs : List (Option ℕ)) (qs : List GlyphPosition) → map link (tracked_by v d cs qs) ≡ map link qs
  links_tracked cs qs = by (int_eq v (pos 0))
    where
      by : (t : Bool) → map link (cond t qs (tracked d v cs qs)) ≡ map link qs
      by true = refl
      by false = links_behind None cs qs

links_turned : (ps qs : List GlyphPosition) → map link ps ≡ map link qs → map link (reverse ps) ≡ map link (reverse qs)
links_turned ps qs same = map_turned ps ∙ (ap reverse same ∙ sym (map_turned qs))
  where
    map_turned : (rs : List GlyphPosition) → map link (reverse rs) ≡ reverse (map link rs)
    map_turned [] = refl
    map_turned (r ∷ rs) =
        ap (map link) (reverse_onto rs r [])
        ∙ (map-append link (reverse rs) (r ∷ []) ∙ (ap (λ ls. ls ++ link r ∷ []) (map_turned rs) ∙ sym (reverse_onto (map link rs) (link r) [])))

-- positions without an attach type, by what they are attached to
plain_links : (qs : List GlyphPosition) → Plain qs → Plain (map link qs)
plain_links [] all = tt
plain_links (q ∷ qs) all = (all.0, plain_links qs all.1)

links_plain : (qs : List GlyphPosition) → Plain (map link qs) → Plain qs
links_plain [] all = tt
links_plain (q ∷ qs) all = (all.0, links_plain qs all.1)

-- in a line without attach types nothing is attached
unattached_plain : (d : Direction) (qs : List GlyphPosition) → Plain qs → IsUnattached d qs
unattached_plain d qs all = λ i low. no_parent d qs i (plain_at qs i all)

-- the positions as they are drawn, and those behind kerning, in drawing order
module _ (v : ℤ) (b : Buffer) (placed : length (position_list b) ≡ length b.line) where
  abbrev shown : Bool → Option (List GlyphPosition) → List GlyphPosition
  shown true o = unwrap_or (option_map reverse (option_map (tracked_by v b.direction (drawn_clusters b.line)) (option_map (zeroed_positions b.line) o))) []
  shown false o = unwrap_or (option_map (tracked_by v b.direction (drawn_clusters b.line)) (option_map (zeroed_positions b.line) o)) []

  abbrev ordered : Bool → Option (List GlyphPosition) → List GlyphPosition
  ordered true o = unwrap_or (option_map reverse o) []
  ordered false o = unwrap_or o []

  links : (t : Bool) (o : Option (List GlyphPosition)) → length (unwrap_or o []) ≡ length b.line → map link (shown t o) ≡ map link (ordered t o)
  links true None long = refl
  links false None long = refl
  links true (Some qs) long =
      links_turned (tracked_by v b.direction (drawn_clusters b.line) (zeroed_positions b.line qs)) qs
      (links_tracked v b.direction (drawn_clusters b.line) (zeroed_positions b.line qs) ∙ links_zeroed b.line qs long)
  links false (Some qs) long = links_tracked v b.direction (drawn_clusters b.line) (zeroed_positions b.line qs) ∙ links_zeroed b.line qs long

  pub unchained_shown :
      (i : ℕ)
      → (let s : Buffer = in_processing_order (tracked_line v (zeroed b)) in is_unchained s.direction (position_list s) i)
      ≡ is_unchained b.direction (ordered_positions b) i
  unchained_shown i = by_way (is_backward b.direction)
    where
      by_way : (t : Bool)
          → is_unchained (cond t (reversed (tracked_line v (zeroed b))) (tracked_line v (zeroed b))).direction (position_list (cond t (reversed (tracked_line v (zeroed b))) (tracked_line v (zeroed b)))) i
          ≡ is_unchained b.direction (position_list (cond t (reversed b) b)) i
      by_way true = same_links b.direction (shown true b.positions) (ordered true b.positions) i (links true b.positions placed)
      by_way false = same_links b.direction (shown false b.positions) (ordered false b.positions) i (links false b.positions placed)

  plain_ordered : (t : Bool) (o : Option (List GlyphPosition)) → Plain (unwrap_or o []) → Plain (ordered t o)
  plain_ordered true None all = tt
  plain_ordered true (Some qs) all = plain_reverse qs all
  plain_ordered false o all = all

  -- where kerning attaches nothing, nothing is attached where it is drawn
  pub unattached_shown :
      Plain (position_list b)
      → (let s : Buffer = in_processing_order (tracked_line v (zeroed b)) in IsUnattached s.direction (position_list s))
  unattached_shown all = by_way (is_backward b.direction)
    where
      plain_shown : (t : Bool) → Plain (shown t b.positions)
      plain_shown t =
          links_plain (shown t b.positions)
          (subst (λ (ls : List GlyphPosition). Plain ls) (sym (links t b.positions placed))
          (plain_links (ordered t b.positions) (plain_ordered t b.positions all)))

      by_way : (t : Bool)
          → IsUnattached (cond t (reversed (tracked_line v (zeroed b))) (tracked_line v (zeroed b))).direction (position_list (cond t (reversed (tracked_line v (zeroed b))) (tracked_line v (zeroed b))))
      by_way true = unattached_plain b.direction (shown true b.positions) (plain_shown true)
      by_way false = unattached_plain b.direction (shown false b.positions) (plain_shown false)
