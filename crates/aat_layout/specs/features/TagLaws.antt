-- Tags are read as they are written.
use Rattle.std.specs.Prelude.{◌≡◌, ◌<◌, ◌^◌, ℕ, List, length, Ok}
use Rattle.std.specs.Int.{to_be_bytes, w32}
use Rattle.std.specs.List.{AllPass}
use Rattle.aat_font.specs.declared.tag.hb_tag_t.{hb_tag_t}
use Rattle.aat_layout.specs.features.Characters.{is_printable, is_tag_character}
use Rattle.aat_layout.specs.features.Clusters.{all_clusters}
use Rattle.aat_layout.specs.features.Reading.{feature_of, feature_over}
use Rattle.aat_layout.specs.features.Tags.{tag_of, whole_tag}

-- the four characters of a tag
abbrev pub text_of : hb_tag_t → List ℕ
text_of tag = to_be_bytes w32 tag.0

-- a tag is read from its four characters, where each is printed
abbrev pub TagsAreReadAgain : Type 0
TagsAreReadAgain = (tag : hb_tag_t) → tag.0 < 2 ^ 32 → AllPass is_printable (text_of tag) →
    whole_tag (text_of tag) ≡ Ok tag

-- four printable characters are read as a tag, and are the characters of this tag
abbrev pub TextsAreWrittenAgain : Type 0
TextsAreWrittenAgain = (text : List ℕ) → length text ≡ 4 → AllPass is_printable text →
    (whole_tag text ≡ Ok (tag_of text)) × (text_of (tag_of text) ≡ text)

-- the four characters of a tag switch it on everywhere, where each is a letter, a digit or an underscore
abbrev pub TagsAreFeatures : Type 0
TagsAreFeatures = (tag : hb_tag_t) → tag.0 < 2 ^ 32 → AllPass is_tag_character (text_of tag) →
    feature_of (text_of tag) ≡ Ok (feature_over tag 1 all_clusters)
