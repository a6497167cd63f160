-- Tags in a text.
use Rattle.std.specs.Prelude.{ℕ, ◌+◌, ◌==◌, Bool, List, ◌++◌, length, codes, Result, Ok, Err, nat_lt, if◌then◌else◌}
use Rattle.std.specs.Int.{from_be_bytes, w32}
use Rattle.std.specs.Option.{option_map_or}
use Rattle.aat_font.specs.declared.tag.hb_tag_t.{hb_tag_t}
use Rattle.aat_layout.specs.features.Characters.{after, is_printable, is_tag_character, next, run, skipped}
use Rattle.aat_layout.specs.declared.features.error.FeatureError.{FeatureError}
use Rattle.aat_layout.specs.declared.features.error.FeatureError.TheVariants.{NoTag, TagLength, MissingQuote, TrailingText}

-- what is read after a part that was read; the first fault stands
infixl 10 ◌>>=◌
abbrev pub ◌>>=◌ : {A B : Type 0} → Result A FeatureError → (A → Result B FeatureError) → Result B FeatureError
(Ok x) >>= f = f x
(Err e) >>= f = Err e

-- the tag of one to four characters, filled up with spaces
abbrev pub tag_of : List ℕ → hb_tag_t
tag_of characters = record { 0 = from_be_bytes w32 (characters ++ codes "    ") }

-- a tag of one to four characters that pass a test, and the place behind it
unfoldable pub plain_tag : (ℕ → Bool) → List ℕ → ℕ → Result (hb_tag_t × ℕ) FeatureError
plain_tag test text place =
    let characters = run test text place in
    if length characters == 0 then Err (NoTag place)
    else (if nat_lt 4 (length characters) then Err (TagLength place)
    else Ok (tag_of characters, place + length characters))

-- a tag of four characters with a quote behind them, and the place behind that
unfoldable pub quoted_tag : List ℕ → List ℕ → ℕ → Result (hb_tag_t × ℕ) FeatureError
quoted_tag quote text place =
    let characters = run is_tag_character text place in
    if length characters == 0 then Err (NoTag place)
    else (if length characters == 4
    then option_map_or (λ behind. Ok (tag_of characters, behind)) (after quote text (place + 4))
    (Err (MissingQuote (place + 4)))
    else Err (TagLength place))

-- a tag, in quotes of either sort or in none, and the place behind it
unfoldable pub tag_at : List ℕ → ℕ → Result (hb_tag_t × ℕ) FeatureError
tag_at text place =
    option_map_or (quoted_tag (codes "'") text) (next (codes "'") text place)
    (option_map_or (quoted_tag (codes "\"") text) (next (codes "\"") text place)
    (plain_tag is_tag_character text (skipped text place)))

-- the tag that a whole text of printable characters is
unfoldable pub whole_tag : List ℕ → Result hb_tag_t FeatureError
whole_tag text = do
  tag ← plain_tag is_printable text 0
  if nat_lt tag.1 (length text) then Err (TrailingText tag.1) else Ok tag.0
