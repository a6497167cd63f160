-- Lines that are put one by one.
use Rattle.std.proofs.Common.{◌≡◌, ◌∙◌, ◌+◌, ◌^◌, ◌<◌, ◌≤◌, ℕ, List, [], ◌∷◌, ◌++◌, ap, ap₂, arith, drop, get_or, length, length-append, length-drop, map, refl, set, suc, sym, take}
use Rattle.std.proofs.lemmas.List.{append-nil, drop_more, length-map, map-append, take_all, take_more}
use Rattle.std.proofs.lemmas.List.Concat.{flat_map-append}
use Rattle.std.proofs.lemmas.List.Folds.{length-flat_map-take}
use Rattle.aat_shaped_text.specs.declared.text.ShapedGlyph.{ShapedGlyph}
use Rattle.aat_shaped_text.specs.declared.text.TextGlyph.{TextGlyph}
use Rattle.aat_typesetter.specs.TypesetLines.{SetLine}
use Rattle.aat_records.specs.Lines.{filled_from, glyphs_of, line_record, line_records, place_behind}
use Rattle.aat_records.specs.Records.{as_it_is, filled, glyph_record}
use Rattle.aat_records.specs.declared.records.GlyphRecord.{GlyphRecord}
use Rattle.aat_records.specs.declared.records.LineRecord.{LineRecord}
use Rattle.aat_records.proofs.Filled.{filled_behind, filled_more}

-- what is drawn of lines, for C
abbrev pub put_of : List SetLine → List GlyphRecord
put_of lines = map (glyph_record as_it_is) (glyphs_of lines)

-- what is drawn through a line is that of those before it, and then that of its own
more : (lines : List SetLine) (i : ℕ) (line : SetLine) → i < length lines → line ≡ get_or lines i line
    → put_of (take (i + 1) lines) ≡ put_of (take i lines) ++ map (glyph_record as_it_is) line.glyphs
more lines i line inside is =
    let glyphs : SetLine → List _ = λ l. l.glyphs in
    ap put_of (take_more lines i line inside ∙ ap (λ l. take i lines ++ l ∷ []) (sym is))
    ∙ (ap (map (glyph_record as_it_is)) (flat_map-append glyphs (take i lines) (line ∷ [])
    ∙ ap (λ r. glyphs_of (take i lines) ++ r) (append-nil line.glyphs))
    ∙ map-append (glyph_record as_it_is) (glyphs_of (take i lines)) line.glyphs)

-- one line more
pub one_line : (lines : List SetLine) (i : ℕ) (line : SetLine) (room before after : List GlyphRecord) (count : ℕ)
    → i < length lines → line ≡ get_or lines i line → count ≡ length (glyphs_of (take i lines))
    → before ≡ filled (put_of (take i lines)) room
    → after ≡ filled_from count (map (glyph_record as_it_is) line.glyphs) before
    → after ≡ filled (put_of (take (i + 1) lines)) room
one_line lines i line room before after count inside is counted put behind =
    let own : List GlyphRecord = map (glyph_record as_it_is) line.glyphs in
    let size : count ≡ length (put_of (take i lines)) =
    counted ∙ sym (length-map (glyphs_of (take i lines)) (glyph_record as_it_is))
    in
    behind ∙ (ap₂ (λ n r. filled_from n own r) size put ∙ (filled_behind (put_of (take i lines)) own room
    ∙ ap (λ xs. filled xs room) (sym (more lines i line inside is))))

-- as many glyphs more
pub one_count : (lines : List SetLine) (i : ℕ) (line : SetLine) (count : ℕ) → i < length lines
    → line ≡ get_or lines i line → count ≡ length (glyphs_of (take i lines))
    → count + length line.glyphs ≡ length (glyphs_of (take (i + 1) lines))
one_count lines i line count inside is counted =
    let glyphs : SetLine → List _ = λ l. l.glyphs in
    let all : glyphs_of (take (i + 1) lines) ≡ glyphs_of (take i lines) ++ line.glyphs =
    ap glyphs_of (take_more lines i line inside ∙ ap (λ l. take i lines ++ l ∷ []) (sym is))
    ∙ (flat_map-append glyphs (take i lines) (line ∷ [])
    ∙ ap (λ r. glyphs_of (take i lines) ++ r) (append-nil line.glyphs))
    in
    ap (λ n. n + length line.glyphs) counted
    ∙ sym (ap length all ∙ length-append (glyphs_of (take i lines)) line.glyphs)

-- so many fit where all fit
pub fits : (lines : List SetLine) (i : ℕ) (line : SetLine) (count : ℕ) → i < length lines
    → line ≡ get_or lines i line → count ≡ length (glyphs_of (take i lines)) → length (glyphs_of lines) < 2 ^ 64
    → count + length line.glyphs < 2 ^ 64
fits lines i line count inside is counted bound =
    let glyphs : SetLine → List _ = λ l. l.glyphs in
    let sum = length-flat_map-take glyphs lines i line inside in
    let own : length line.glyphs ≡ length (get_or lines i line).glyphs = ap (λ l. length l.glyphs) is in
    omega arith

-- as many are put as are drawn
pub put_count : (lines : List SetLine) → length (put_of lines) ≡ length (glyphs_of lines)
put_count lines = length-map (glyphs_of lines) (glyph_record as_it_is)

-- the first of what is left is one of all
first : {X : Type 0} (xs ys : List X) (i : ℕ) (y : X) → drop i xs ≡ y ∷ ys
    → (i < length xs) × (y ≡ get_or xs i y) × (drop (i + 1) xs ≡ ys)
first xs ys i y h =
    let inside : i < length xs = omega (arith, length-drop i xs, ap length h) in
    let parts : get_or xs i y ∷ drop (i + 1) xs ≡ y ∷ ys = sym (drop_more xs i y inside) ∙ h in
    let same : y ≡ get_or xs i y = cc in
    let left : drop (i + 1) xs ≡ ys = cc in
    (inside, same, left)

-- one record more
pub one_row : (text : List TextGlyph) (size : ℕ) (lines : List SetLine) (i : ℕ) (line : SetLine)
    (room rows : List LineRecord) (count : ℕ) → i < length lines → line ≡ get_or lines i line
    → rows ≡ filled (take i (line_records text size 0 lines)) room
    → drop i (line_records text size 0 lines) ≡ line_records text size count (drop i lines)
    → (set rows i (line_record text size line (count + length line.glyphs))
    ≡ filled (take (i + 1) (line_records text size 0 lines)) room)
    × (drop (i + 1) (line_records text size 0 lines)
    ≡ line_records text size (count + length line.glyphs) (drop (i + 1) lines))
one_row text size lines i line room rows count inside is put follow =
    let all : List LineRecord = line_records text size 0 lines in
    let row : LineRecord = line_record text size line (count + length line.glyphs) in
    let here : drop i lines ≡ line ∷ drop (i + 1) lines =
    drop_more lines i line inside ∙ ap (λ l. l ∷ drop (i + 1) lines) (sym is)
    in
    let next : drop i all ≡ row ∷ line_records text size (count + length line.glyphs) (drop (i + 1) lines) =
    follow ∙ ap (line_records text size count) here
    in
    let found = first all _ i row next in
    (ap (λ r. set r i row) put ∙ filled_more all room i row found.0 found.1, found.2)

-- there are as many records as lines
pub record_count : (text : List TextGlyph) (size before : ℕ) (lines : List SetLine)
    → length (line_records text size before lines) ≡ length lines
record_count text size before [] = refl
record_count text size before (line ∷ lines) =
    ap suc (record_count text size (before + length line.glyphs) lines)

-- all records are put
pub all_rows : (text : List TextGlyph) (size : ℕ) (lines : List SetLine) (i : ℕ) (room rows : List LineRecord)
    (count : ℕ) → length lines ≤ i → rows ≡ filled (take i (line_records text size 0 lines)) room
    → drop i (line_records text size 0 lines) ≡ line_records text size count (drop i lines)
    → rows ≡ filled (line_records text size 0 lines) room
all_rows text size lines i room rows count end put follow =
    let short : length (line_records text size 0 lines) ≤ i = omega (arith, record_count text size 0 lines) in
    put ∙ ap (λ xs. filled xs room) (take_all i (line_records text size 0 lines) short)

-- one line more is counted, its record put, and those of the others follow
pub row_more : (text : List TextGlyph) (size : ℕ) (lines : List SetLine) (i : ℕ) (line : SetLine)
    (room rows after : List LineRecord) (count end : ℕ) (own : List ShapedGlyph) → i < length lines
    → line ≡ get_or lines i line → own ≡ line.glyphs → end ≡ place_behind text size line.text_end
    → after ≡ set rows i (record { text_end = end; glyphs_end = count + length own })
    → count ≡ length (glyphs_of (take i lines)) → rows ≡ filled (take i (line_records text size 0 lines)) room
    → drop i (line_records text size 0 lines) ≡ line_records text size count (drop i lines)
    → (count + length own ≡ length (glyphs_of (take (i + 1) lines)))
    × (after ≡ filled (take (i + 1) (line_records text size 0 lines)) room)
    × (drop (i + 1) (line_records text size 0 lines)
    ≡ line_records text size (count + length own) (drop (i + 1) lines))
row_more text size lines i line room rows after count end own inside is same ends put_is counted put follow =
    let row = one_row text size lines i line room rows count inside is put follow in
    let sum : count + length own ≡ count + length line.glyphs = ap (λ (g : List ShapedGlyph). count + length g) same in
    let made : List LineRecord = set rows i (line_record text size line (count + length line.glyphs)) in
    let same_row : after ≡ made =
    put_is ∙ ap₂ (λ (e n : ℕ). set rows i (record { text_end = e; glyphs_end = n })) ends sum
    in (
      sum ∙ one_count lines i line count inside is counted,
      same_row ∙ row.0,
      row.1 ∙ ap (λ (n : ℕ). line_records text size n (drop (i + 1) lines)) (sym sum),
    )
