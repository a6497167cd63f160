-- Pairs can be kerned in two parts: the masks of the parts may get other marks than those of the whole.
use Rattle.std.proofs.Common.{◌≡◌, ℕ, ◌+◌, ◌<◌, Bool, true, false, cond, List, [], length, map, take, drop, pos, negsuc, Option, Some, None, refl, sym, ap, ◌∙◌, arith, subst, bit_and, unwrap_or}
use Rattle.std.specs.Prelude.{option_map}
use Rattle.std.proofs.lemmas.List.{take-map, drop-map, get_or-take, get_or-drop, length-take-le, length-drop}
use Rattle.std.proofs.lemmas.Slice.Zip.{AllZip-long}
use Rattle.aat_buffer.specs.Buffer.{Buffer, no_glyph, glyph_at, position_list, reversed}
use Rattle.aat_buffer.specs.Marks.{unsafe_to_concat}
use Rattle.aat_kerning_tables.specs.AnchorPoints.{Points}
use Rattle.aat_glyph.specs.Directions.{is_backward}
use Rattle.aat_glyph.specs.declared.glyph.Direction.{Direction}
use Rattle.aat_glyph.specs.declared.glyph.GlyphPosition.{GlyphPosition}
use Rattle.aat_glyph.specs.declared.glyph.hb_glyph_info_t.{hb_glyph_info_t}
use Rattle.aat_run.specs.Switches.{meets}
use Rattle.aat_kerning.specs.Cut.{ordered_line, ordered_positions, greater_at, AreParts, PartsAreKernedApart, CanBeCut}
use Rattle.aat_kerning_machines.specs.KerningLaws.{IsKernedFrom, IsMarkedFrom}
use Rattle.aat_kerning.specs.Pairs.{kerx_skips, kern_skips, is_solid}
use Rattle.aat_kerning_tables.specs.declared.kern.KernSubtable.{KernSubtable}
use Rattle.aat_kerning_tables.specs.declared.kerx.KerxSubtable.{KerxSubtable}
use Rattle.aat_kerning.specs.Positioning.{cursively_attached, in_processing_order, line_marked, kerning_of_kerx_subtable, kerning_of_kern_subtable, kerx_positioning, kern_positioning}
use Rattle.aat_kerning_machines.specs.Positions.{attached_as}
use Rattle.aat_kerning.proofs.Changes.{of_concat, of_marked, of_pair_kerning, of_attachment}
use Rattle.aat_kerning.proofs.CutMarks.{looks_as_before}
use Rattle.aat_kerning.proofs.CutPairs.{LooksLike}
use Rattle.aat_kerning.proofs.CutStep.{IsCut, IsMovedApart, greater_kept, pairs_apart}
use Rattle.aat_kerning.proofs.CutTables.{IsCutLine, IsKeptApart, PairsKeep, kerx_parted, kern_parted, ordered_kept}
use Rattle.aat_kerning.proofs.Marked.{IsMarkedLine, line_same, line_twice, marked_at}

-- the cursive attachment of a direction
abbrev pub cursive : Direction → GlyphPosition → GlyphPosition
cursive way q = attached_as 2 (cond (is_backward way) (pos 1) (negsuc 0)) q

pub attached_places :
    (b : Buffer) (way : Direction) → b.direction ≡ way
    → position_list (cursively_attached b) ≡ map (cursive way) (position_list b)
attached_places b way e =
    of_all (cursive b.direction) b.positions ∙ ap (λ (d : Direction). map (cursive d) (position_list b)) e
  where
    of_all :
        (f : GlyphPosition → GlyphPosition) (o : Option (List GlyphPosition))
        → unwrap_or (option_map (λ qs. map f qs) o) [] ≡ map f (unwrap_or o [])
    of_all f None = refl
    of_all f (Some qs) = refl

-- positions that are attached are apart as before
pub attached_apart :
    (q : ℕ) (way : Direction) (b first second : Buffer) → b.direction ≡ way → first.direction ≡ way → second.direction ≡ way
    → IsMovedApart q b first second
    → IsMovedApart q (cursively_attached b) (cursively_attached first) (cursively_attached second)
attached_apart q way b first second d e f apart =
    let qs = position_list b in
    let whole = attached_places b way d in
    record {
      front = attached_places first way e ∙ (ap (map (cursive way)) apart.front
          ∙ (sym (take-map (cursive way) q qs) ∙ ap (take q) (sym whole)));
      back = attached_places second way f ∙ (ap (map (cursive way)) apart.back
          ∙ (sym (drop-map (cursive way) q qs) ∙ ap (drop q) (sym whole)));
    }

-- a mark of the whole line moves nothing
pub places_of_marked : (asked : Bool) (b : Buffer) → position_list (line_marked asked b) ≡ position_list b
places_of_marked true b = refl
places_of_marked false b = refl

-- in processing order neither
pub ordered_places :
    (b : Buffer) → ordered_positions (unsafe_to_concat b None None) ≡ ordered_positions b
ordered_places b = by_way (is_backward b.direction)
  where
    d : Buffer
    d = unsafe_to_concat b None None

    by_way : (t : Bool) → position_list (cond t (reversed d) d) ≡ position_list (cond t (reversed b) b)
    by_way true = refl
    by_way false = refl

pub ordered_way : (b : Buffer) → (in_processing_order b).direction ≡ b.direction
ordered_way b = by_way (is_backward b.direction)
  where
    by_way : (t : Bool) → (cond t (reversed b) b).direction ≡ b.direction
    by_way true = refl
    by_way false = refl

-- two glyphs that look like one look like each other
looks_both :
    (skips kern_mask : ℕ) (g h a b : hb_glyph_info_t) → h ≡ g → LooksLike skips kern_mask g a
    → LooksLike skips kern_mask h b → LooksLike skips kern_mask a b
looks_both skips kern_mask g h a b e k l = record {
  id = l.id ∙ (ap (λ (x : hb_glyph_info_t). x.glyph_id) e ∙ sym k.id);
  solid = l.solid ∙ (ap (is_solid skips) e ∙ sym k.solid);
  asks = l.asks ∙ (ap (λ (x : hb_glyph_info_t). meets x.mask kern_mask) e ∙ sym k.asks);
}

-- the whole and its parts, marked from a line and its parts
pub record AreNow (q : ℕ) (way : Direction) (line : List hb_glyph_info_t) (b first second : Buffer) : Type 0 where
  pub whole_line : IsMarkedLine line b.line
  pub first_line : IsMarkedLine (take q line) first.line
  pub second_line : IsMarkedLine (drop q line) second.line
  pub whole_way : b.direction ≡ way
  pub first_way : first.direction ≡ way
  pub second_way : second.direction ≡ way
  pub apart : IsMovedApart q b first second

module _ (q : ℕ) (way : Direction) (line : List hb_glyph_info_t) where
  -- what is kerned of them is marked from that line
  pub now_after :
      (b first second d e f : Buffer) → AreNow q way line b first second
      → IsKernedFrom b d → IsKernedFrom first e → IsKernedFrom second f → IsMovedApart q d e f → AreNow q way line d e f
  now_after b first second d e f now k l m apart = record {
    whole_line = line_twice line b.line d.line now.whole_line k.line;
    first_line = line_twice (take q line) first.line e.line now.first_line l.line;
    second_line = line_twice (drop q line) second.line f.line now.second_line m.line;
    whole_way = k.text.settings.direction ∙ now.whole_way;
    first_way = l.text.settings.direction ∙ now.first_way;
    second_way = m.text.settings.direction ∙ now.second_way;
    apart = apart;
  }

  pub now_attached :
      (b first second : Buffer) → AreNow q way line b first second
      → AreNow q way line (cursively_attached b) (cursively_attached first) (cursively_attached second)
  now_attached b first second now =
      now_after b first second (cursively_attached b) (cursively_attached first) (cursively_attached second) now
      (of_attachment b) (of_attachment first) (of_attachment second)
      (attached_apart q way b first second now.whole_way now.first_way now.second_way now.apart)

  pub now_marked :
      (asked : Bool) (b first second : Buffer) → AreNow q way line b first second
      → AreNow q way line (line_marked asked b) (line_marked asked first) (line_marked asked second)
  now_marked asked b first second now =
      now_after b first second (line_marked asked b) (line_marked asked first) (line_marked asked second) now
      (of_marked asked b) (of_marked asked first) (of_marked asked second)
      (record {
        front = places_of_marked asked first ∙ (now.apart.front ∙ ap (take q) (sym (places_of_marked asked b)));
        back = places_of_marked asked second ∙ (now.apart.back ∙ ap (drop q) (sym (places_of_marked asked b)));
      })

module _ (skips kern_mask q : ℕ) (way : Direction) (line : List hb_glyph_info_t) (place : IsCutLine skips q line) where
  pub short_first : (b first second : Buffer) → AreNow q way line b first second → length first.line ≡ q
  short_first b first second now =
      AllZip-long IsMarkedFrom (take q line) first.line now.first_line
      ∙ length-take-le q line (omega (arith, place.inside))

  -- they are cut, where the glyphs of the parts look like those of the whole
  pub cut_of :
      (b first second : Buffer) → AreNow q way line b first second
      → ((i : ℕ) → i < q → LooksLike skips kern_mask (glyph_at b.line i) (glyph_at first.line i))
      → ((i : ℕ) → LooksLike skips kern_mask (glyph_at b.line (q + i)) (glyph_at second.line i))
      → IsCut skips kern_mask q way b first second
  cut_of b first second now front back =
      let longer = AllZip-long IsMarkedFrom line b.line now.whole_line in
      let rest = AllZip-long IsMarkedFrom (drop q line) second.line now.second_line in
      let all = length-drop q line in
      record {
        short = short_first b first second now;
        some = omega (arith, rest, all, place.inside);
        long = omega (arith, longer, rest, all, place.inside);
        solid = ap (is_solid skips) (marked_at line b.line now.whole_line q).2 ∙ place.solid;
        front = front;
        back = back;
        whole_way = now.whole_way;
        first_way = now.first_way;
        second_way = now.second_way;
        front_places = now.apart.front;
        back_places = now.apart.back;
      }

  now_cut :
      bit_and kern_mask 7 ≡ 0 → (b first second : Buffer) → AreNow q way line b first second
      → IsCut skips kern_mask q way b first second
  now_cut free b first second now =
      let seen = λ (i : ℕ). looks_as_before skips kern_mask (glyph_at line i) (glyph_at b.line i) free (marked_at line b.line now.whole_line i) in
      cut_of b first second now
      (λ i low. looks_both skips kern_mask (glyph_at line i) (glyph_at (take q line) i) (glyph_at b.line i) (glyph_at first.line i)
      (get_or-take q line i no_glyph low) (seen i)
      (looks_as_before skips kern_mask (glyph_at (take q line) i) (glyph_at first.line i) free (marked_at (take q line) first.line now.first_line i)))
      (λ i. looks_both skips kern_mask (glyph_at line (q + i)) (glyph_at (drop q line) i) (glyph_at b.line (q + i)) (glyph_at second.line i)
      (get_or-drop q line i no_glyph) (seen (q + i))
      (looks_as_before skips kern_mask (glyph_at (drop q line) i) (glyph_at second.line i) free (marked_at (drop q line) second.line now.second_line i)))

  -- a subtable of pairs
  now_paired : bit_and kern_mask 7 ≡ 0 → PairsKeep skips kern_mask (greater_at q line) (AreNow q way line)
  now_paired free is_cross values asked b first second now none =
      let marked = now_marked q way line asked b first second now in
      let d = line_marked asked b in
      now_after q way line b first second _ _ _ now
      (of_pair_kerning skips kern_mask is_cross values asked b)
      (of_pair_kerning skips kern_mask is_cross values asked first)
      (of_pair_kerning skips kern_mask is_cross values asked second)
      (pairs_apart skips kern_mask q (greater_at q line) place.less way is_cross values d (line_marked asked first) (line_marked asked second)
      (now_cut free d (line_marked asked first) (line_marked asked second) marked)
      (greater_kept q (greater_at q line) place.less line d.line marked.whole_line place.greater) none)

  now_kept :
      bit_and kern_mask 7 ≡ 0 → IsKeptApart skips kern_mask q (greater_at q line) way (AreNow q way line)
  now_kept free = record {
    ways = λ b first second now. (now.whole_way, now.first_way, now.second_way);
    apart = λ b first second now. now.apart;
    attaches = now_attached q way line;
    pairs = now_paired free;
  }

-- before the first subtable
pub parts_now :
    (q : ℕ) (b first second : Buffer) → AreParts q b first second
    → AreNow q b.direction (ordered_line b) (in_processing_order b) (in_processing_order first) (in_processing_order second)
parts_now q b first second parts = record {
  whole_line = line_same (ordered_line b);
  first_line = subst (λ (gs : List hb_glyph_info_t). IsMarkedLine gs (ordered_line first)) parts.front.line (line_same (ordered_line first));
  second_line = subst (λ (gs : List hb_glyph_info_t). IsMarkedLine gs (ordered_line second)) parts.back.line (line_same (ordered_line second));
  whole_way = ordered_way b;
  first_way = ordered_way first ∙ parts.front.direction;
  second_way = ordered_way second ∙ parts.back.direction;
  apart = record { front = parts.front.places; back = parts.back.places };
}

pub marked_parts_now :
    (q : ℕ) (b first second : Buffer) → AreParts q b first second
    → AreNow q b.direction (ordered_line b) (in_processing_order (unsafe_to_concat b None None))
    (in_processing_order (unsafe_to_concat first None None)) (in_processing_order (unsafe_to_concat second None None))
marked_parts_now q b first second parts =
    let now = parts_now q b first second parts in
    record {
      whole_line = ordered_kept b (unsafe_to_concat b None None) (of_concat b None None);
      first_line = line_twice (take q (ordered_line b)) (ordered_line first) _ now.first_line (ordered_kept first (unsafe_to_concat first None None) (of_concat first None None));
      second_line = line_twice (drop q (ordered_line b)) (ordered_line second) _ now.second_line (ordered_kept second (unsafe_to_concat second None None) (of_concat second None None));
      whole_way = ordered_way (unsafe_to_concat b None None);
      first_way = ordered_way (unsafe_to_concat first None None) ∙ parts.front.direction;
      second_way = ordered_way (unsafe_to_concat second None None) ∙ parts.back.direction;
      apart = record {
        front = ordered_places first ∙ (parts.front.places ∙ ap (take q) (sym (ordered_places b)));
        back = ordered_places second ∙ (parts.back.places ∙ ap (drop q) (sym (ordered_places b)));
      };
    }

kerx_apart :
    (requested : Bool) (kern_mask : ℕ) (points : Option Points) (subtables : List KerxSubtable) (b : Buffer)
    → bit_and kern_mask 7 ≡ 0
    → CanBeCut kerx_skips (map (kerning_of_kerx_subtable kern_mask points) subtables)
    (kerx_positioning requested kern_mask points subtables) b
kerx_apart requested kern_mask points subtables b free q first second alone place parts =
    kerx_parted requested kern_mask q b first second (AreNow q b.direction (ordered_line b)) points subtables alone place
    (λ cut. now_kept kerx_skips kern_mask q b.direction (ordered_line b) cut free) (marked_parts_now q b first second parts)

kern_apart :
    (requested : Bool) (kern_mask : ℕ) (subtables : List KernSubtable) (b : Buffer)
    → bit_and kern_mask 7 ≡ 0
    → CanBeCut kern_skips (map (kerning_of_kern_subtable kern_mask) subtables) (kern_positioning requested kern_mask subtables) b
kern_apart requested kern_mask subtables b free q first second alone place parts =
    kern_parted requested kern_mask q b first second (AreNow q b.direction (ordered_line b)) subtables alone place
    (λ cut. now_kept kern_skips kern_mask q b.direction (ordered_line b) cut free) (parts_now q b first second parts)

-- pairs can be kerned in two parts
pub parts_are_kerned_apart : PartsAreKernedApart
parts_are_kerned_apart = record { kerx = kerx_apart; kern = kern_apart }
