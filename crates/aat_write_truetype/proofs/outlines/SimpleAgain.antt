-- The data of a simple glyph is read again as the outline that was written.
use Rattle.std.proofs.Common.{◌≡◌, ◌∙◌, ap, refl, sym, ℕ, ◌+◌, ◌-◌, ◌*◌, ◌<◌, ◌≤◌, Bool, true, false, cond, List, [], ◌∷◌, ◌++◌, length, get_or, map, Option, Some, None, Result, Ok, Err, append_assoc, length-append, arith}
use Rattle.std.specs.Prelude.{nat_lt, slice_get, sum_by}
use Rattle.std.specs.Int.{to_be_bytes, w16}
use Rattle.std.proofs.lemmas.Bool.{le-ltb}
use Rattle.std.proofs.lemmas.List.{length-map}
use Rattle.std.proofs.lemmas.List.Concat.{flat_map-append}
use Rattle.aat_bytes.specs.Faults.{after}
use Rattle.aat_bytes.specs.Numbers.{be16}
use Rattle.aat_bytes.specs.declared.error.Fault.{Fault}
use Rattle.aat_bytes.specs.declared.error.FaultKind.TheVariants.{NotRising}
use Rattle.aat_read_outlines.specs.Flags.{FlagList, flags_from, run_at}
use Rattle.aat_read_outlines.specs.Glyphs.{GlyphBytes, fault_in, past}
use Rattle.aat_read_outlines.specs.Outlines.{IsOutline, PointLists}
use Rattle.aat_read_outlines.specs.Points.{pen_of, points_from, points_of, x_size, y_size}
use Rattle.aat_read_outlines.specs.SimpleGlyphs.{end_of, ends_fault, ends_of, falling_end, flags_of, flags_place, simple_outline}
use Rattle.aat_read_outlines.specs.declared.outline.OutlinePoint.{OutlinePoint}
use Rattle.aat_write_machine.specs.Words.{word_bytes}
use Rattle.aat_write_machine.specs.facts.WordPlaces.{length_words, word_at}
use Rattle.aat_write_truetype.specs.outlines.GlyphData.{are_short_steps, bounds_of, bounds_words, flag_of, last_points, origin, simple_bytes, x_words, y_words}
use Rattle.aat_write_truetype.proofs.outlines.EndsAgain.{end_again, ends_again, instructions_at, last_end, last_point_at, last_points_small, none_falls}
use Rattle.aat_write_truetype.proofs.outlines.FlagsAgain.{flag_there, flags_again}
use Rattle.aat_write_truetype.proofs.outlines.PointsAgain.{pen_at, points_again, x_count, x_sizes, x_small, y_count, y_sizes, y_small}

-- lists one behind the other, apart at each place
regroup :
    (a b c d e f r : List ℕ)
    → ((((a ++ (b ++ c)) ++ d) ++ e) ++ f) ++ r ≡ a ++ (b ++ (c ++ (d ++ (e ++ (f ++ r)))))
regroup a b c d e f r = simp append_assoc

behind_two : (a b r : List ℕ) → a ++ (b ++ r) ≡ (a ++ b) ++ r
behind_two a b r = sym (append_assoc a b r)

behind_three : (a b c r : List ℕ) → a ++ (b ++ (c ++ r)) ≡ (a ++ (b ++ c)) ++ r
behind_three a b c r = simp append_assoc

behind_four : (a b c d r : List ℕ) → a ++ (b ++ (c ++ (d ++ r))) ≡ (a ++ (b ++ (c ++ d))) ++ r
behind_four a b c d r = simp append_assoc

behind_five : (a b c d e r : List ℕ) → a ++ (b ++ (c ++ (d ++ (e ++ r)))) ≡ (a ++ (b ++ (c ++ (d ++ e)))) ++ r
behind_five a b c d e r = simp append_assoc

-- the words in front of the flags, in three parts
three_parts :
    (first box lasts : List ℕ)
    → word_bytes (first ++ (box ++ lasts)) ≡ word_bytes first ++ (word_bytes box ++ word_bytes lasts)
three_parts first box lasts =
    flat_map-append (to_be_bytes w16) first (box ++ lasts)
    ∙ ap (λ (bs : List ℕ). word_bytes first ++ bs) (flat_map-append (to_be_bytes w16) box lasts)

-- the parts of the data of an outline
abbrev first_part : PointLists → List ℕ
first_part outline = word_bytes (length outline.ends ∷ [])

abbrev box_part : PointLists → List ℕ
box_part outline = word_bytes (bounds_words (bounds_of outline.points))

abbrev ends_part : PointLists → List ℕ
ends_part outline = word_bytes (last_points outline.ends ++ 0 ∷ [])

abbrev flags_part : PointLists → List ℕ
flags_part outline = map flag_of outline.points

abbrev x_part : PointLists → List ℕ
x_part outline = word_bytes (x_words origin outline.points)

abbrev y_part : PointLists → List ℕ
y_part outline = word_bytes (y_words origin outline.points)

-- the parts, one behind the other, and what stands behind them
abbrev parts_of : PointLists → List ℕ → List ℕ
parts_of outline rest =
    first_part outline
    ++ (box_part outline ++ (ends_part outline ++ (flags_part outline ++ (x_part outline ++ (y_part outline ++ rest)))))

pub apart : (outline : PointLists) (rest : List ℕ) → simple_bytes outline ++ rest ≡ parts_of outline rest
apart outline rest =
    ap (λ (front : List ℕ). (((front ++ flags_part outline) ++ x_part outline) ++ y_part outline) ++ rest)
    (three_parts (length outline.ends ∷ []) (bounds_words (bounds_of outline.points)) (last_points outline.ends ++ 0 ∷ []))
    ∙ regroup (first_part outline) (box_part outline) (ends_part outline) (flags_part outline) (x_part outline) (y_part outline) rest

-- what finds no fault
passed :
    (whole : Bool) (fall : Option ℕ) (short : Bool) (a b : Fault) (f : ℕ → Fault)
    → whole ≡ false → fall ≡ None → short ≡ false
    → ◌≡◌ {A = Option Fault}
    (cond whole (Some a) (elim fall [ Some k ↦ Some (f k) | None ↦ cond short (Some b) None ])) None
passed whole fall short a b f one two three = rw (one, two, three) refl

module _ (bytes rest : List ℕ) (outline : PointLists) (is : bytes ≡ parts_of outline rest)
    (whole : IsOutline outline.points outline.ends) (some : 0 < length outline.ends)
    (few : length outline.ends ≤ 32767) (short : are_short_steps origin outline.points ≡ true) where
  abbrev contours : ℕ
  contours = length outline.ends

  abbrev count : ℕ
  count = length outline.points

  first_long : length (first_part outline) ≡ 2
  first_long = length_words (contours ∷ [])

  box_long : length (box_part outline) ≡ 8
  box_long = length_words (bounds_words (bounds_of outline.points))

  ends_long : length (ends_part outline) ≡ 2 * contours + 2
  ends_long =
      length_words (last_points outline.ends ++ 0 ∷ [])
      ∙ omega (arith, length-append (last_points outline.ends) (0 ∷ []), length-map outline.ends (λ (end : ℕ). end - 1))

  flags_long : length (flags_part outline) ≡ count
  flags_long = length-map outline.points flag_of

  x_long : length (x_part outline) ≡ 2 * count
  x_long = length_words (x_words origin outline.points) ∙ omega (arith, x_count origin outline.points)

  y_long : length (y_part outline) ≡ 2 * count
  y_long = length_words (y_words origin outline.points) ∙ omega (arith, y_count origin outline.points)

  -- what stands in front of the last points, of the flags, and of the steps
  abbrev header : List ℕ
  header = first_part outline ++ box_part outline

  abbrev before_flags : List ℕ
  before_flags = first_part outline ++ (box_part outline ++ ends_part outline)

  abbrev before_x : List ℕ
  before_x = first_part outline ++ (box_part outline ++ (ends_part outline ++ flags_part outline))

  abbrev before_y : List ℕ
  before_y = first_part outline ++ (box_part outline ++ (ends_part outline ++ (flags_part outline ++ x_part outline)))

  header_long : length header ≡ 10
  header_long = length-append (first_part outline) (box_part outline) ∙ omega (arith, first_long, box_long)

  flags_behind : length before_flags ≡ 12 + 2 * contours
  flags_behind =
      omega (
        arith,
        length-append (first_part outline) (box_part outline ++ ends_part outline),
        length-append (box_part outline) (ends_part outline),
        first_long,
        box_long,
        ends_long,
      )

  x_behind : length before_x ≡ 12 + 2 * contours + count
  x_behind =
      omega (
        arith,
        ap length (behind_three (first_part outline) (box_part outline) (ends_part outline) (flags_part outline)),
        length-append before_flags (flags_part outline),
        flags_behind,
        flags_long,
      )

  y_behind : length before_y ≡ 12 + 2 * contours + count + 2 * count
  y_behind =
      omega (
        arith,
        ap length (behind_four (first_part outline) (box_part outline) (ends_part outline) (flags_part outline) (x_part outline)),
        length-append before_x (x_part outline),
        x_behind,
        x_long,
      )

  long : length bytes ≡ 12 + 2 * contours + count + 2 * count + 2 * count + length rest
  long =
      omega (
        arith,
        ap length is,
        ap length (behind_five (first_part outline) (box_part outline) (ends_part outline) (flags_part outline) (x_part outline) (y_part outline ++ rest)),
        length-append before_y (y_part outline ++ rest),
        length-append (y_part outline) rest,
        y_behind,
        y_long,
      )

  pub header_inside : 12 ≤ length bytes
  header_inside = omega (arith, long)

  -- the number of contours
  pub contours_read : be16 bytes 0 ≡ contours
  contours_read =
      let behind = box_part outline ++ (ends_part outline ++ (flags_part outline ++ (x_part outline ++ (y_part outline ++ rest)))) in
      ap (λ (b : List ℕ). be16 b 0) is
      ∙ word_at (contours ∷ []) [] behind 0 0 (omega arith) (omega (arith, few), tt) (omega arith)

  -- the last points, and the length of no instructions behind them
  word : (k : ℕ) → k ≤ contours → be16 bytes (10 + 2 * k) ≡ get_or (last_points outline.ends ++ 0 ∷ []) k 0
  word k below =
      let behind = flags_part outline ++ (x_part outline ++ (y_part outline ++ rest)) in
      let words = last_points outline.ends ++ 0 ∷ [] in
      let there : k < length words =
      omega (arith, below, length-append (last_points outline.ends) (0 ∷ []), length-map outline.ends (λ (end : ℕ). end - 1)) in
      ap (λ (b : List ℕ). be16 b (10 + 2 * k)) (is ∙ behind_two (first_part outline) (box_part outline) (ends_part outline ++ behind))
      ∙ word_at words header behind (10 + 2 * k) k there (last_points_small outline.ends count whole.divided whole.few)
      (omega (arith, header_long))

  last_point : (k : ℕ) → k < contours → be16 bytes (10 + 2 * k) ≡ get_or outline.ends k 0 - 1
  last_point k below = word k (omega (arith, below)) ∙ last_point_at outline.ends k below

  flags_start : flags_place bytes contours ≡ 12 + 2 * contours
  flags_start = omega (arith, word contours (omega arith) ∙ instructions_at outline.ends)

  -- the ends, of which none falls
  ends_read : ends_of bytes contours ≡ outline.ends
  ends_read = ends_again bytes outline.ends count whole.divided last_point

  last_read : end_of bytes (contours - 1) ≡ count
  last_read =
      end_again bytes outline.ends count whole.divided last_point (contours - 1) (omega (arith, some))
      ∙ last_end 0 outline.ends count whole.divided some

  module _ (place : ℕ) where
    abbrev glyph : GlyphBytes
    glyph = record { bytes = bytes; place = place }

    no_fault : ends_fault glyph contours ≡ None
    no_fault =
        passed (nat_lt (length bytes) (12 + 2 * contours)) (falling_end bytes contours)
        (nat_lt (length bytes) (flags_place bytes contours)) (past glyph 10) (past glyph (12 + 2 * contours))
        (λ (k : ℕ). fault_in glyph NotRising (10 + 2 * k))
        (le-ltb (length bytes) (12 + 2 * contours) (omega (arith, long)))
        (none_falls bytes outline.ends count whole.divided last_point)
        (le-ltb (length bytes) (flags_place bytes contours) (omega (arith, long, flags_start)))

    -- the flags
    abbrev flags : FlagList
    flags = record { flags = flags_part outline; place = 12 + 2 * contours + count }

    flag_at : (i : ℕ) (d : OutlinePoint) → i < count
        → slice_get bytes (12 + 2 * contours + i) ≡ Some (flag_of (get_or outline.points i d))
    flag_at i d below =
        let behind = x_part outline ++ (y_part outline ++ rest) in
        ap (λ (b : List ℕ). slice_get b (12 + 2 * contours + i))
        (is ∙ behind_three (first_part outline) (box_part outline) (ends_part outline) (flags_part outline ++ behind))
        ∙ flag_there outline.points before_flags behind (12 + 2 * contours + i) i d (omega (arith, flags_behind)) below

    flags_read : flags_of glyph contours ≡ Ok flags
    flags_read =
        let found : Option FlagList → Result FlagList Fault =
        λ (o : Option FlagList). elim o [ Some list ↦ Ok list | None ↦ Err (past glyph (length bytes)) ] in
        ap (λ (p : ℕ). found (flags_from bytes (run_at p) (end_of bytes (contours - 1)))) flags_start
        ∙ ap (λ (n : ℕ). found (flags_from bytes (run_at (12 + 2 * contours)) n)) last_read
        ∙ ap found (flags_again bytes outline.points (12 + 2 * contours) 0 flag_at)

    -- the points
    x_at : (i : ℕ) → i < count
        → be16 bytes (12 + 2 * contours + count + 2 * i) ≡ get_or (x_words origin outline.points) i 0
    x_at i below =
        let behind = y_part outline ++ rest in
        ap (λ (b : List ℕ). be16 b (12 + 2 * contours + count + 2 * i))
        (is ∙ behind_four (first_part outline) (box_part outline) (ends_part outline) (flags_part outline) (x_part outline ++ behind))
        ∙ word_at (x_words origin outline.points) before_x behind (12 + 2 * contours + count + 2 * i) i
        (omega (arith, below, x_count origin outline.points)) (x_small origin outline.points short) (omega (arith, x_behind))

    y_at : (i : ℕ) → i < count
        → be16 bytes (12 + 2 * contours + count + 2 * count + 2 * i) ≡ get_or (y_words origin outline.points) i 0
    y_at i below =
        ap (λ (b : List ℕ). be16 b (12 + 2 * contours + count + 2 * count + 2 * i))
        (is ∙ behind_five (first_part outline) (box_part outline) (ends_part outline) (flags_part outline) (x_part outline) (y_part outline ++ rest))
        ∙ word_at (y_words origin outline.points) before_y rest (12 + 2 * contours + count + 2 * count + 2 * i) i
        (omega (arith, below, y_count origin outline.points)) (y_small origin outline.points short) (omega (arith, y_behind))

    abbrev x_place : ℕ
    x_place = 12 + 2 * contours + count

    x_stop : x_place + sum_by x_size (flags_part outline) ≡ x_place + 2 * count
    x_stop = omega (arith, x_sizes outline.points)

    points_there : points_from bytes (pen_of flags) (flags_part outline) ≡ outline.points
    points_there =
        ap (λ (y : ℕ). points_from bytes (pen_at x_place y origin) (flags_part outline)) x_stop
        ∙ points_again bytes outline.points origin x_place (x_place + 2 * count) short x_at y_at

    points_read : points_of glyph flags ≡ Ok outline.points
    points_read =
        let stop = x_place + sum_by x_size (flags_part outline) + sum_by y_size (flags_part outline) in
        let inside : nat_lt (length bytes) stop ≡ false =
        le-ltb (length bytes) stop (omega (arith, long, x_sizes outline.points, y_sizes outline.points)) in
        ap (λ (b : Bool). cond b (Err (past glyph x_place)) (Ok (points_from bytes (pen_of flags) (flags_part outline)))) inside
        ∙ ap Ok points_there

    -- the reader gives this outline
    pub simple_again : simple_outline glyph contours ≡ Ok outline
    simple_again =
        let with_ends : List OutlinePoint → Result PointLists Fault =
        λ (points : List OutlinePoint). Ok (record { points = points; ends = ends_of bytes contours }) in
        let with_flags : FlagList → Result PointLists Fault = λ (list : FlagList). after (points_of glyph list) with_ends in
        let unless : Option Fault → Result PointLists Fault =
        λ (o : Option Fault). elim o [ Some fault ↦ Err fault | None ↦ after (flags_of glyph contours) with_flags ] in
        ap unless no_fault
        ∙ ap (λ (r : Result FlagList Fault). after r with_flags) flags_read
        ∙ ap (λ (r : Result (List OutlinePoint) Fault). after r with_ends) points_read
        ∙ ap (λ (ends : List ℕ). Ok (record { points = outline.points; ends = ends })) ends_read
