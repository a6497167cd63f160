-- Where the extended grapheme clusters of a text begin, as its characters are passed one by one.
use Rattle.std.specs.Prelude.{◌≡◌, ℕ, Bool, true, false, not, ◌&&◌, ◌||◌, List, [], ◌∷◌, map, unwrap_or, if◌then◌else◌}
use Rattle.ucd_breaks.specs.GraphemeClusterBreak.{grapheme_cluster_break}
use Rattle.ucd_breaks.specs.declared.GraphemeClusterBreak.{GraphemeClusterBreak}
use Rattle.ucd_breaks.specs.declared.GraphemeClusterBreak.TheVariants.{Control, Other, Prepend}
use Rattle.ucd_derived.specs.IndicConjunctBreak.{indic_conjunct_break}
use Rattle.ucd_derived.specs.declared.IndicConjunctBreak.{IndicConjunctBreak}
use Rattle.ucd_derived.specs.declared.IndicConjunctBreak.TheVariants as InCb
use Rattle.ucd_emoji.specs.Binary.{is_extended_pictographic}
use Rattle.unicode_segmentation.specs.Grapheme.{break_by_pair, ends_in_half_flag, ends_in_linker, ends_in_pictograph, is_consonant, is_extend, is_grapheme_break, is_regional, is_zwj}
use Rattle.aat_text.specs.declared.cluster_starts.TextBefore.{TextBefore}

-- a cluster begins at a character behind others, the nearest of them first
abbrev pub begins_behind : List ℕ → ℕ → Bool
begins_behind before character = is_grapheme_break true before (character ∷ [])

-- the value of the last of them: the start of a text is as a place behind a control character
abbrev pub last_break : List ℕ → GraphemeClusterBreak
last_break [] = Control
last_break (c ∷ before) = grapheme_cluster_break c

-- they end in a pictograph with those that extend it, and maybe a zero width joiner
abbrev pub ends_in_joined_pictograph : List ℕ → Bool
ends_in_joined_pictograph [] = false
ends_in_joined_pictograph (c ∷ before) =
    if is_zwj (grapheme_cluster_break c) then ends_in_pictograph before else ends_in_pictograph (c ∷ before)

-- what is known of them
pub record IsBehind (before : List ℕ) (known : TextBefore) : Type 0 where
  pub last : known.last ≡ last_break before
  pub pictograph : is_extended_pictographic known.base ≡ ends_in_joined_pictograph before
  pub linked : known.is_linked ≡ ends_in_linker (map indic_conjunct_break before)
  pub half_flag : known.is_half_flag ≡ ends_in_half_flag before

-- what is further back joins a character of a value to them
abbrev pub is_joined : TextBefore → ℕ → GraphemeClusterBreak → Bool
is_joined known character value =
    known.is_linked && is_consonant (indic_conjunct_break character)
    || is_zwj known.last && is_extended_pictographic known.base && is_extended_pictographic character
    || known.is_half_flag && is_regional value

-- a cluster begins at a character of a value
abbrev pub begins_at : TextBefore → ℕ → GraphemeClusterBreak → Bool
begins_at known character value =
    unwrap_or (break_by_pair true known.last value) (not (is_joined known character value))

-- a linker with marks behind it goes on
abbrev pub goes_on_linked : Bool → IndicConjunctBreak → Bool
goes_on_linked linked InCb.Linker = true
goes_on_linked linked InCb.Extend = linked
goes_on_linked linked _ = false

-- a character of a value keeps the one that it extends
abbrev pub keeps_base : GraphemeClusterBreak → GraphemeClusterBreak → Bool
keeps_base last value = (is_extend value || is_zwj value) && not (is_zwj last)

-- what is known behind a character of a value
abbrev pub known_behind : TextBefore → ℕ → GraphemeClusterBreak → TextBefore
known_behind known character value = record {
  last = value;
  base = if keeps_base known.last value then known.base else character;
  is_linked = goes_on_linked known.is_linked (indic_conjunct_break character);
  is_half_flag = is_regional value && not known.is_half_flag;
}

-- a character is joined to the next one as each character is
abbrev pub is_prepend : GraphemeClusterBreak → Bool
is_prepend Prepend = true
is_prepend _ = false

-- what is known behind a plain character
abbrev pub known_behind_plain : ℕ → TextBefore
known_behind_plain character =
    record { last = Other; base = character; is_linked = false; is_half_flag = false }
