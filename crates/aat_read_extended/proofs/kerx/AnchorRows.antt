-- The anchor points of glyphs, as they are read one glyph after the other.
use Rattle.std.proofs.Common.{◌≡◌, ℕ, zero, suc, ◌+◌, ◌-◌, ◌*◌, ◌<◌, ◌≤◌, List, [], ◌∷◌, ◌++◌, length, drop, get_or, Bool, true, false, cond, Option, Some, None, Result, Ok, Err, refl, sym, ap, ◌∙◌, arith, ◌==◌, nat_lt}
use Rattle.std.specs.Prelude.{Vec, option_and_then, option_map, slice_get}
use Rattle.std.proofs.lemmas.Bool.{ltb-false}
use Rattle.std.proofs.Math.ListN.{drop_of_length-le}
use Rattle.std.proofs.lemmas.List.{append-nil, drop_more, map-append}
use Rattle.std.proofs.lemmas.List.FromFn.{length-map-range_with_len}
use Rattle.std.proofs.lemmas.List.Sums.{sum_by-cons}
use Rattle.aat_bytes.specs.Faults.{after}
use Rattle.aat_bytes.specs.Numbers.{be16, be32}
use Rattle.aat_bytes.specs.declared.error.Fault.{Fault}
use Rattle.aat_bytes.specs.facts.Parts.{after_ok, after_one_more, ok_parts, parts, passes}
use Rattle.aat_bytes.specs.declared.tags.TheConstants.{ANKR}
use Rattle.aat_kerning_tables.specs.AnchorPoints.{Points, glyph_of_row, listed_point, points_in_rows}
use Rattle.aat_lookup.specs.Keys.{IsRising, at_key, fall_after, first, first_fall, value_in}
use Rattle.aat_kerning_tables.specs.declared.ankr.Point.{Point}
use Rattle.aat_lookup.specs.facts.Falls.{rising}
use Rattle.aat_read_lookup.specs.Lookups.{lookup_at}
use Rattle.aat_read_extended.specs.kerx.AnchorLaws.{PointsAreBounded, PointsAreThoseOfBytes, points_weight}
use Rattle.aat_read_extended.specs.kerx.Anchors.{ankr_of, point_at, points_at, points_place, points_within, row_size, rows_within}
use Rattle.aat_read_extended.specs.declared.kerx.weights.TheConstants.{ANCHOR_ROW_SIZE, POINT_SIZE}
use Rattle.aat_read_lookup.proofs.Values.{values_are_those_of_segments}

-- points in vectors rise as those in lists
falls_behind :
    {Z : Type 0} (i k : ℕ) (rows : List (ℕ × Vec Point Z))
    → fall_after glyph_of_row i k (points_in_rows rows) ≡ fall_after glyph_of_row i k rows
falls_behind i k [] = refl
falls_behind i k (row ∷ rows) =
    ap (λ (o : Option ℕ). cond (nat_lt k row.0) o (Some i)) (falls_behind (i + 1) row.0 rows)

falls_in_rows :
    {Z : Type 0} (rows : List (ℕ × Vec Point Z))
    → first_fall glyph_of_row (points_in_rows rows) ≡ first_fall glyph_of_row rows
falls_in_rows [] = refl
falls_in_rows (row ∷ rows) = falls_behind 1 row.0 rows

-- glyphs that rise are no more than the last one counts
keys_high : (glyphs : List (ℕ × ℕ)) → IsRising first glyphs → (i : ℕ) → i < length glyphs → i ≤ first (get_or glyphs i (0, 0))
keys_high glyphs rises zero below = omega arith
keys_high glyphs rises (suc i) below =
    let before = keys_high glyphs rises i (omega arith) in
    let above = rises i (suc i) (0, 0) (omega arith) below in
    omega (arith, before, above)

pub few_glyphs :
    (glyphs : List (ℕ × ℕ)) → first_fall first glyphs ≡ None → 0 < length glyphs
    → length glyphs ≤ first (get_or glyphs (length glyphs - 1) (0, 0)) + 1
few_glyphs glyphs none some =
    let high = keys_high glyphs (rising first glyphs none) (length glyphs - 1) (omega arith) in
    omega (arith, high)

module _ (bytes : List ℕ) where
  -- what is read behind some rows, where so much is used and these glyphs are left
  abbrev pub behind : Points → ℕ → List (ℕ × ℕ) → Result Points Fault
  behind rows used glyphs = after (rows_within bytes used glyphs) (λ more. Ok (rows ++ more))

  pub starts : (glyphs : List (ℕ × ℕ)) → rows_within bytes 0 glyphs ≡ behind [] 0 glyphs
  starts glyphs = sym (after_ok (rows_within bytes 0 glyphs))

  pub goes_on :
      (rows : Points) (used : ℕ) (glyph : ℕ × ℕ) (glyphs : List (ℕ × ℕ)) (points : List Point)
      → points_within bytes used (points_place bytes glyph.1) ≡ Ok points
      → behind rows used (glyph ∷ glyphs)
      ≡ behind (rows ++ (glyph.0, points) ∷ []) (used + row_size (length points)) glyphs
  goes_on rows used glyph glyphs points is =
      rw is (after_one_more rows (glyph.0, points) (rows_within bytes (used + row_size (length points)) glyphs))

  pub fails :
      (rows : Points) (used : ℕ) (glyph : ℕ × ℕ) (glyphs : List (ℕ × ℕ)) (fault : Fault)
      → points_within bytes used (points_place bytes glyph.1) ≡ Err fault
      → behind rows used (glyph ∷ glyphs) ≡ Err fault
  fails rows used glyph glyphs fault is = rw is refl

  -- one glyph more, whose points are read
  pub step :
      {Z : Type 0} (rows after_push : List (ℕ × Vec Point Z)) (used size i : ℕ) (glyphs : List (ℕ × ℕ))
      (points : Vec Point Z) (all : Result Points Fault)
      → i < length glyphs
      → points_within bytes used (points_place bytes (get_or glyphs i (0, 0)).1) ≡ Ok points.items
      → after_push ≡ rows ++ ((get_or glyphs i (0, 0)).0, points) ∷ []
      → size ≡ row_size (length points.items)
      → all ≡ behind (points_in_rows rows) used (drop i glyphs)
      → all ≡ behind (points_in_rows after_push) (used + size) (drop (i + 1) glyphs)
  step {Z} rows after_push used size i glyphs points all below is pushed sized before =
      let glyph : ℕ × ℕ = get_or glyphs i (0, 0) in
      let in_row : ℕ × Vec Point Z → ℕ × List Point = λ row. (row.0, row.1.items) in
      let more : points_in_rows after_push ≡ points_in_rows rows ++ (glyph.0, points.items) ∷ [] =
      ap points_in_rows pushed ∙ map-append in_row rows ((glyph.0, points) ∷ []) in
      before
      ∙ ap (behind (points_in_rows rows) used) (drop_more glyphs i (0, 0) below)
      ∙ goes_on (points_in_rows rows) used glyph (drop (i + 1) glyphs) points.items is
      ∙ ap (λ (rs : Points). behind rs (used + row_size (length points.items)) (drop (i + 1) glyphs)) (sym more)
      ∙ ap (λ (n : ℕ). behind (points_in_rows after_push) (used + n) (drop (i + 1) glyphs)) (sym sized)

  -- no glyph is left
  pub finished :
      (rows : Points) (used i : ℕ) (glyphs : List (ℕ × ℕ))
      → length glyphs ≤ i → behind rows used (drop i glyphs) ≡ Ok rows
  finished rows used i glyphs past =
      ap (behind rows used) (drop_of_length-le glyphs past) ∙ ap Ok (append-nil rows)

  -- the first of some glyphs that are read, and those behind it
  record Turn (used : ℕ) (glyph : ℕ × ℕ) (glyphs : List (ℕ × ℕ)) (rows : Points) : Type 0 where
    points : List Point
    others : Points
    here : points_within bytes used (points_place bytes glyph.1) ≡ Ok points
    rest : rows_within bytes (used + row_size (length points)) glyphs ≡ Ok others
    whole : (glyph.0, points) ∷ others ≡ rows

  turn :
      (used : ℕ) (glyph : ℕ × ℕ) (glyphs : List (ℕ × ℕ)) (rows : Points)
      → rows_within bytes used (glyph ∷ glyphs) ≡ Ok rows → Turn used glyph glyphs rows
  turn used glyph glyphs rows is =
      let one = parts (points_within bytes used (points_place bytes glyph.1)) _ rows is in
      let more = parts (rows_within bytes (used + row_size (length one.0)) glyphs) _ rows one.2 in
      record {
        points = one.0;
        others = more.0;
        here = one.1;
        rest = more.1;
        whole = ok_parts ((glyph.0, one.0) ∷ more.0) rows more.2;
      }

  -- rows have the glyphs in their order
  same_falls :
      (used i k : ℕ) (glyphs : List (ℕ × ℕ)) (rows : Points)
      → rows_within bytes used glyphs ≡ Ok rows
      → fall_after glyph_of_row i k rows ≡ fall_after first i k glyphs
  same_falls used i k [] rows is = ap (fall_after glyph_of_row i k) (sym (ok_parts [] rows is))
  same_falls used i k (glyph ∷ glyphs) rows is =
      let t = turn used glyph glyphs rows is in
      ap (fall_after glyph_of_row i k) (sym t.whole)
      ∙ ap (λ (o : Option ℕ). cond (nat_lt k glyph.0) o (Some i))
      (same_falls (used + row_size (length t.points)) (i + 1) glyph.0 glyphs t.others t.rest)

  pub same_fall :
      (used : ℕ) (glyphs : List (ℕ × ℕ)) (rows : Points)
      → rows_within bytes used glyphs ≡ Ok rows → first_fall glyph_of_row rows ≡ first_fall first glyphs
  same_fall used [] rows is = ap (first_fall glyph_of_row) (sym (ok_parts [] rows is))
  same_fall used (glyph ∷ glyphs) rows is =
      let t = turn used glyph glyphs rows is in
      ap (first_fall glyph_of_row) (sym t.whole)
      ∙ same_falls (used + row_size (length t.points)) 1 glyph.0 glyphs t.others t.rest

  -- glyphs that are all read rise as they did
  pub rise :
      {Z : Type 0} (rows : List (ℕ × Vec Point Z)) (used i : ℕ) (glyphs : List (ℕ × ℕ))
      → first_fall first glyphs ≡ None → length glyphs ≤ i
      → rows_within bytes 0 glyphs ≡ behind (points_in_rows rows) used (drop i glyphs)
      → first_fall glyph_of_row rows ≡ None
  rise rows used i glyphs none past all =
      sym (falls_in_rows rows)
      ∙ same_fall 0 glyphs (points_in_rows rows) (all ∙ finished (points_in_rows rows) used i glyphs past)
      ∙ none

  -- points that are read are those of their place, and have room
  record Placed (used place : ℕ) (points : List Point) : Type 0 where
    are : points_at bytes place ≡ points
    room : used + row_size (length points) ≤ 24 * length bytes

  placed : (used place : ℕ) (points : List Point) → points_within bytes used place ≡ Ok points → Placed used place points
  unfolding points_within
  placed used place points is =
      let count = be32 bytes place in
      let number = passes (nat_lt (length bytes) (place + 4)) _ _ points is in
      let inside = passes (nat_lt (length bytes) (place + 4 + 4 * count)) _ _ points number.1 in
      let room = passes (nat_lt (24 * length bytes) (used + row_size count)) _ _ points inside.1 in
      let are : points_at bytes place ≡ points = ok_parts (points_at bytes place) points room.1 in
      let long : length points ≡ count =
      sym (ap length are) ∙ length-map-range_with_len (λ i. point_at bytes (place + 4 + 4 * i)) 0 count in
      let fits : used + row_size count ≤ 24 * length bytes = ltb-false (24 * length bytes) (used + row_size count) room.0 in
      record { are = are; room = omega (arith, long, fits) }

  -- rows that are read weigh no more than the room that is left
  weighed :
      (used : ℕ) (glyphs : List (ℕ × ℕ)) (rows : Points)
      → used ≤ 24 * length bytes → rows_within bytes used glyphs ≡ Ok rows
      → used + points_weight rows ≤ 24 * length bytes
  weighed used [] rows room is =
      let none : points_weight rows ≡ 0 = ap points_weight (sym (ok_parts [] rows is)) in omega (arith, none, room)
  weighed used (glyph ∷ glyphs) rows room is =
      let t = turn used glyph glyphs rows is in
      let p = placed used (points_place bytes glyph.1) t.points t.here in
      let rest = weighed (used + row_size (length t.points)) glyphs t.others p.room t.rest in
      let total =
      ap points_weight (sym t.whole)
      ∙ sum_by-cons (λ (row : ℕ × List Point). ANCHOR_ROW_SIZE + POINT_SIZE * length row.1) (glyph.0, t.points) t.others in
      omega (arith, rest, total)

  -- the point of a glyph by a list of offsets
  abbrev by_offset : ℕ → Option ℕ → Option Point
  by_offset index offset = option_and_then (λ o. slice_get (points_at bytes (points_place bytes o)) index) offset

  chosen :
      (b : Bool) (index : ℕ) (glyph : ℕ × ℕ) (points : List Point) (row : Option (ℕ × List Point)) (other : Option (ℕ × ℕ))
      → points_at bytes (points_place bytes glyph.1) ≡ points
      → option_and_then (λ (p : ℕ × List Point). slice_get p.1 index) row ≡ by_offset index (option_map (λ (p : ℕ × ℕ). p.1) other)
      → option_and_then (λ (p : ℕ × List Point). slice_get p.1 index) (cond b (Some (glyph.0, points)) row)
      ≡ by_offset index (option_map (λ (p : ℕ × ℕ). p.1) (cond b (Some glyph) other))
  chosen true index glyph points row other are rest = ap (λ (ps : List Point). slice_get ps index) (sym are)
  chosen false index glyph points row other are rest = rest

  listed :
      (used : ℕ) (glyphs : List (ℕ × ℕ)) (rows : Points) (glyph index : ℕ)
      → rows_within bytes used glyphs ≡ Ok rows
      → listed_point rows glyph index ≡ by_offset index (value_in glyphs glyph)
  listed used [] rows glyph index is =
      ap (λ (ps : Points). listed_point ps glyph index) (sym (ok_parts [] rows is))
  listed used (g ∷ glyphs) rows glyph index is =
      let t = turn used g glyphs rows is in
      let p = placed used (points_place bytes g.1) t.points t.here in
      let rest = listed (used + row_size (length t.points)) glyphs t.others glyph index t.rest in
      ap (λ (ps : Points). listed_point ps glyph index) (sym t.whole)
      ∙ chosen (g.0 == glyph) index g t.points (at_key glyph_of_row t.others glyph) (at_key first glyphs glyph) p.are rest

-- the glyphs of a table that is read
version_passes : {X : Type 0} (b : Bool) (fault : Fault) (r : Result X Fault) (x : X)
    → cond b r (Err fault) ≡ Ok x → r ≡ Ok x
version_passes true fault r x is = is
version_passes false fault r x is = cc

table_parts :
    (bytes : List ℕ) (glyph_count : ℕ) (points : Points)
    → ankr_of bytes glyph_count ≡ Ok points
    → (glyphs : List (ℕ × ℕ)) × (lookup_at ANKR bytes (be32 bytes 4) glyph_count ≡ Ok glyphs) × (rows_within bytes 0 glyphs ≡ Ok points)
unfolding ankr_of
table_parts bytes glyph_count points is =
    let header = passes (nat_lt (length bytes) 12) _ _ points is in
    let known = version_passes (be16 bytes 0 == 0) _ _ points header.1 in
    parts (lookup_at ANKR bytes (be32 bytes 4) glyph_count) (rows_within bytes 0) points known

-- the laws
pub points_bounded : PointsAreBounded
points_bounded bytes glyph_count points is =
    let table = table_parts bytes glyph_count points is in
    let weighs = weighed bytes 0 table.0 points (omega arith) table.2 in
    omega (arith, weighs)

pub points_of_bytes : PointsAreThoseOfBytes
points_of_bytes bytes glyph_count glyph index points is =
    let table = table_parts bytes glyph_count points is in
    listed bytes 0 table.0 points glyph index table.2
    ∙ ap (by_offset bytes index) (values_are_those_of_segments ANKR bytes (be32 bytes 4) glyph_count table.0 glyph table.1)
