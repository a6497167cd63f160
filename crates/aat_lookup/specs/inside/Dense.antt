-- Arrays that answer as the rows of a table do. No contract but those of the tables and their arrays cites this.
use Rattle.std.specs.Prelude.{◌≡◌, ◌+◌, ◌/◌, ◌%◌, ◌<◌, ◌≤◌, ℕ, Bool, List, [], ◌&&◌, ◌==◌, Option, None, Some, false, nat_lt, nat_le, length, slice_index_or, unwrap_or}
use Rattle.std.specs.List.{list_any}
use Rattle.aat_lookup.specs.declared.dense.Dense.{Dense}
use Rattle.aat_lookup.specs.declared.dense.Dense.TheVariants.{Moves, Classes, Pages, Search}
use Rattle.aat_lookup.specs.Keys.{first, value_in}
use Rattle.aat_lookup.specs.Listings.{pairs_from}
use Rattle.aat_lookup.specs.Moves.{place_over, AreMoved}

-- what stands at a place of a page whose cells begin at a start, nothing where the page is not kept
abbrev pub on_page : List (Option ℕ) → Option ℕ → ℕ → Option ℕ
on_page cells None place = None
on_page cells (Some start) place = slice_index_or cells (start + place) None

-- the value of a glyph on pages of 256 glyphs
abbrev pub value_on_pages : List (Option ℕ) → List (Option ℕ) → ℕ → Option ℕ
value_on_pages starts cells glyph = on_page cells (slice_index_or starts (glyph / 256) None) (glyph % 256)

-- whether one of the 256 glyphs from the lowest on is among those of pairs
abbrev pub page_holds : List (ℕ × ℕ) → ℕ → Bool
page_holds pairs lowest = list_any (λ p. nat_le lowest p.0 && nat_lt p.0 (lowest + 256)) pairs

-- the cells that there were stand where they stood
abbrev pub KeepsCells : List (Option ℕ) → List (Option ℕ) → Type 0
KeepsCells old new = (k : ℕ) → k < length old → slice_index_or new k None ≡ slice_index_or old k None

-- each page that is kept has its 256 cells
abbrev pub AreKept : List (Option ℕ) → List (Option ℕ) → Type 0
AreKept starts cells =
    (page start : ℕ) → slice_index_or starts page None ≡ Some start → start + 256 ≤ length cells

-- pages answer as pairs do
abbrev pub AnswersOnPages : List (Option ℕ) → List (Option ℕ) → List (ℕ × ℕ) → Type 0
AnswersOnPages starts cells pairs =
    (glyph : ℕ) → glyph < 65536 → value_on_pages starts cells glyph ≡ value_in pairs glyph

-- whether a value is that of its own glyph
abbrev pub is_own : Option ℕ → ℕ → Bool
is_own None glyph = false
is_own (Some value) glyph = value == glyph

-- whether a pair has its glyph as value
abbrev pub keeps_one : List (ℕ × ℕ) → Bool
keeps_one pairs = list_any (λ p. p.1 == p.0) pairs

-- an array has the class that pairs have for each glyph, and a given one where they have none
abbrev pub AnswersAsClasses : ℕ → ℕ → List ℕ → List (ℕ × ℕ) → Type 0
AnswersAsClasses missing lowest cells pairs =
    (glyph : ℕ) → glyph < 65536
    → slice_index_or cells (place_over lowest glyph) missing ≡ unwrap_or (value_in pairs glyph) missing

-- an array or pages answer as pairs do; a search needs nothing
abbrev pub AnswersAsPairs : {A : Type 0} → Dense A → List (ℕ × ℕ) → Type 0
AnswersAsPairs (Moves array) pairs = AreMoved array.lowest array.cells.items array.kept.items pairs
AnswersAsPairs (Classes array) pairs = AnswersAsClasses array.missing array.lowest array.cells.items pairs
AnswersAsPairs (Pages pages) pairs = AnswersOnPages pages.starts.items pages.cells.items pairs
AnswersAsPairs Search pairs = Unit

-- the glyph of each pair is one of so many from the lowest on
abbrev pub PairsWithin : ℕ → ℕ → List (ℕ × ℕ) → Type 0
PairsWithin lowest count pairs =
    (i : ℕ) (d : ℕ × ℕ) → i < length pairs
    → (lowest ≤ first (slice_index_or pairs i d)) × (first (slice_index_or pairs i d) < lowest + count)

-- the pairs of the glyphs of an array that have what stands in their cells
abbrev pub pairs_in_cells : {A : Type 0} → Dense A → List (ℕ × ℕ)
pairs_in_cells (Moves array) = pairs_from array.lowest array.cells.items
pairs_in_cells (Classes array) = pairs_from array.lowest array.cells.items
pairs_in_cells (Pages pages) = []
pairs_in_cells Search = []

-- the glyphs of an array have 16 bits
abbrev pub HasSmallGlyphs : {A : Type 0} → Dense A → Type 0
HasSmallGlyphs (Moves array) = array.lowest + length array.cells.items ≤ 65536
HasSmallGlyphs (Classes array) = array.lowest + length array.cells.items ≤ 65536
HasSmallGlyphs (Pages pages) = Unit
HasSmallGlyphs Search = Unit
