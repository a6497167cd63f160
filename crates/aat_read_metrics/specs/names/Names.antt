-- Names of glyphs. Apple's TrueType Reference Manual, "The 'post' table".
use Rattle.std.specs.Prelude.{ℕ, zero, suc, ◌+◌, ◌*◌, ◌-◌, ◌==◌, ◌&&◌, List, [], ◌∷◌, length, position, slice_get, take, Bool, not, Option, Some, None, option_and_then, option_map, Ok, Err, if◌then◌else◌, nat_lt, nat_le}
use Rattle.std.specs.List.{list_all}
use Rattle.aat_bytes.specs.Numbers.{be16, be32, slice}
use Rattle.aat_read_sfnt.specs.Directory.{Directory, cut_table_of}
use Rattle.aat_read_metrics.specs.declared.names.macintosh.TheConstants.{MACINTOSH}
use Rattle.aat_read_metrics.specs.declared.names.tags.TheConstants.{POST}

-- what the file has of the table `post`
abbrev pub post_of : Directory → List ℕ
post_of file = elim (cut_table_of file POST) [ Ok post ↦ post | Err _ ↦ [] ]

-- the version of a table, 0 where its header is not there
abbrev pub version_of : List ℕ → ℕ
version_of post = if nat_lt (length post) 32 then 0 else be32 post 0

-- whether a table has a number for each glyph
abbrev pub has_numbers : List ℕ → Bool
has_numbers post =
    version_of post == 0x20000
    && nat_le 34 (length post)
    && nat_le (34 + 2 * be16 post 32) (length post)

-- the number of the name of a glyph
abbrev pub number_of : List ℕ → ℕ → Option ℕ
number_of post glyph =
    if version_of post == 0x10000 then Some glyph else
    if has_numbers post && nat_lt glyph (be16 post 32) then Some (be16 post (34 + 2 * glyph)) else None

-- the places of up to so many strings, one behind the other: a byte says how many behind it are the string's
abbrev pub places_from : List ℕ → ℕ → ℕ → List ℕ
places_from post place zero = []
places_from post place (suc count) = elim (slice_get post place) [
  | Some size ↦ place ∷ places_from post (place + (1 + size)) count
  | None ↦ []
]

-- the places of a table's strings, behind the numbers: as many as there are numbers of 16 bits from 258 on
abbrev pub places_of : List ℕ → List ℕ
places_of post = if has_numbers post then places_from post (34 + 2 * be16 post 32) 65278 else []

-- the string whose size stands at a place, if it is all there
abbrev pub string_at : List ℕ → ℕ → Option (List ℕ)
string_at post place = option_and_then (slice post (place + 1)) (slice_get post place)

-- a string of a table, by its number from 0 on
abbrev pub own_name : List ℕ → ℕ → Option (List ℕ)
own_name post number = option_and_then (string_at post) (slice_get (places_of post) number)

-- whether a byte is graphic ASCII other than " & < > \
abbrev pub is_shown_byte : ℕ → Bool
is_shown_byte byte =
    nat_lt 32 byte
    && not (byte == 34) && not (byte == 38) && not (byte == 60) && not (byte == 62) && not (byte == 92)
    && nat_lt byte 127

-- a name, if it has a byte and each is shown
abbrev pub shown : List ℕ → Option (List ℕ)
shown [] = None
shown (byte ∷ rest) = if list_all is_shown_byte (byte ∷ rest) then Some (byte ∷ rest) else None

-- where the first space of a row stands
abbrev pub first_space : List ℕ → Option ℕ
first_space row = position (λ byte. byte == 32) row

-- the bytes of a row up to the first space
abbrev pub name_in_row : List ℕ → List ℕ
name_in_row row = elim (first_space row) [ Some end ↦ take end row | None ↦ row ]

-- a name of the standard Macintosh glyph order
abbrev pub macintosh_name : ℕ → Option (List ℕ)
macintosh_name number = option_map name_in_row (slice_get MACINTOSH number)

-- the name by a number: below 258 a Macintosh name, else a string of the table
abbrev pub name_by : List ℕ → ℕ → Option (List ℕ)
name_by post number = if nat_lt number 258 then macintosh_name number else own_name post (number - 258)

-- the name of a glyph, if it has one that is shown
abbrev pub name_of : List ℕ → ℕ → Option (List ℕ)
name_of post glyph = option_and_then shown (option_and_then (name_by post) (number_of post glyph))
