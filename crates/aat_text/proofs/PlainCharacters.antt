-- What is known of plain characters.
use Rattle.std.proofs.Common.{◌≡◌, ℕ, Bool, true, false, not, ◌&&◌, ◌||◌, ◌==◌, nat_le, List, [], ◌∷◌, Option, Some, None, refl, sym, ap, ap₂, ◌∙◌, eqb-true, true≢false}
use Rattle.std.proofs.lemmas.Bool.{not-true}
use Rattle.std.specs.Option.{option_map_or}
use Rattle.std.specs.Prelude.{if◌then◌else◌, unwrap_or}
use Rattle.ucd_breaks.specs.GraphemeClusterBreak.{grapheme_cluster_break, grapheme_cluster_break_number}
use Rattle.ucd_breaks.specs.declared.GraphemeClusterBreak.{GraphemeClusterBreak}
use Rattle.ucd_breaks.specs.declared.GraphemeClusterBreak.TheVariants.{Control, Cr, Lf, Prepend, Other}
use Rattle.ucd_breaks.proofs.Computing.{ucd_breaks}
use Rattle.ucd_breaks.proofs.GraphemeClusterBreakLemmas.{grapheme_cluster_break_stepped, grapheme_cluster_break_number_injective}
use Rattle.ucd_category.specs.GeneralCategory.{general_category}
use Rattle.ucd_category.specs.GeneralCategoryGroup.{in_group}
use Rattle.ucd_category.specs.declared.GeneralCategory.{GeneralCategory}
use Rattle.ucd_category.specs.declared.GeneralCategory.TheVariants.{NonspacingMark}
use Rattle.ucd_category.specs.declared.GeneralCategoryGroup.TheVariants.{Mark}
use Rattle.ucd_category.proofs.Computing.{ucd_category}
use Rattle.ucd_category.proofs.GeneralCategoryLemmas.{general_category_stepped}
use Rattle.ucd_derived.specs.Binary.{is_default_ignorable_code_point}
use Rattle.ucd_derived.specs.IndicConjunctBreak.{indic_conjunct_break, indic_conjunct_break_number}
use Rattle.ucd_derived.specs.declared.IndicConjunctBreak.{IndicConjunctBreak}
use Rattle.ucd_derived.specs.declared.IndicConjunctBreak.TheVariants as InCb
use Rattle.ucd_derived.proofs.BinaryLemmas.{is_default_ignorable_code_point_stepped}
use Rattle.ucd_derived.proofs.Computing.{ucd_derived}
use Rattle.ucd_derived.proofs.IndicConjunctBreakLemmas.{indic_conjunct_break_stepped, indic_conjunct_break_number_injective}
use Rattle.ucd_emoji.specs.Binary.{is_extended_pictographic}
use Rattle.ucd_emoji.proofs.BinaryLemmas.{is_extended_pictographic_stepped}
use Rattle.ucd_emoji.proofs.Computing.{ucd_emoji}
use Rattle.ucd_table.proofs.Computing.{tables}
use Rattle.ucd_table.proofs.Facts.{Stepped-everywhere}
use Rattle.ucd_table.proofs.Stepped.{Stepped, of_ranges, zip_stepped}
use Rattle.unicode_segmentation.specs.Grapheme.{break_by_pair, is_consonant, is_zwj}
use Rattle.aat_characters.specs.Apart.{is_apart}
use Rattle.aat_characters.specs.Marks.{is_nonspacing, mark_class, placing_class}
use Rattle.ucd_table.specs.Rows.{Range, in_ranges}
use Rattle.aat_face.specs.Faces.{FaceValue, glyph_of_character}
use Rattle.aat_shaped_text.specs.declared.text.CharacterKind.TheVariants as Kind
use Rattle.aat_text.specs.IgnorableCharacters.{is_shown_character}
use Rattle.aat_text.specs.Kinds.{character_kind, space_kind}
use Rattle.aat_text.specs.Prepared.{placed_glyph}
use Rattle.aat_characters.specs.declared.placed_character.PlacedCharacter.{PlacedCharacter}
use Rattle.aat_text.specs.TextGlyphs.{is_mark_of, text_glyph}
use Rattle.aat_text.specs.inside.ClusterStarts.{begins_at, goes_on_linked, is_joined, is_prepend, known_behind, known_behind_plain}
use Rattle.aat_text.specs.inside.KnownGlyphs.{glyph_id_in, glyph_of_id}
use Rattle.aat_text.specs.inside.Plain.{is_plain, plain_ranges}
use Rattle.aat_text.specs.declared.cluster_starts.TextBefore.{TextBefore}

unfoldable plain_stepped : Stepped is_plain
unfolding tables
plain_stepped = of_ranges plain_ranges refl

plain_break : (c : ℕ) → is_plain c ≡ true → grapheme_cluster_break c ≡ Other
unfolding ucd_breaks plain_stepped
plain_break c h =
    let fits = λ (plain : Bool) (value : GraphemeClusterBreak). not plain || (grapheme_cluster_break_number value == 12) in
    let steps = zip_stepped fits is_plain grapheme_cluster_break plain_stepped grapheme_cluster_break_stepped in
    let known = Stepped-everywhere (λ c. fits (is_plain c) (grapheme_cluster_break c)) steps refl c in
    grapheme_cluster_break_number_injective _ Other (eqb-true _ _ (ap (λ plain. not plain || (grapheme_cluster_break_number (grapheme_cluster_break c) == 12)) (sym h) ∙ known))

plain_conjunct : (c : ℕ) → is_plain c ≡ true → indic_conjunct_break c ≡ InCb.None
unfolding ucd_derived plain_stepped
plain_conjunct c h =
    let fits = λ (plain : Bool) (value : IndicConjunctBreak). not plain || (indic_conjunct_break_number value == 3) in
    let steps = zip_stepped fits is_plain indic_conjunct_break plain_stepped indic_conjunct_break_stepped in
    let known = Stepped-everywhere (λ c. fits (is_plain c) (indic_conjunct_break c)) steps refl c in
    indic_conjunct_break_number_injective _ InCb.None (eqb-true _ _ (ap (λ plain. not plain || (indic_conjunct_break_number (indic_conjunct_break c) == 3)) (sym h) ∙ known))

plain_pictograph : (c : ℕ) → is_plain c ≡ true → is_extended_pictographic c ≡ false
unfolding ucd_emoji plain_stepped
plain_pictograph c h =
    let fits = λ (plain pictograph : Bool). not plain || not pictograph in
    let steps = zip_stepped fits is_plain is_extended_pictographic plain_stepped is_extended_pictographic_stepped in
    let known = Stepped-everywhere (λ c. fits (is_plain c) (is_extended_pictographic c)) steps refl c in
    not-true _ (ap (λ plain. not plain || not (is_extended_pictographic c)) (sym h) ∙ known)

-- a plain character begins a cluster, but behind one that is joined to each character
begins_other : (last : GraphemeClusterBreak) (joined : Bool) → joined ≡ false → not (is_prepend last) ≡ unwrap_or (break_by_pair true last Other) (not joined)
begins_other Control joined e = refl
begins_other Cr joined e = refl
begins_other Lf joined e = refl
begins_other Prepend joined e = refl
begins_other _ joined e = ap not (sym e)

unjoined : (linked zwj base half : Bool) → (linked && false || zwj && base && false || half && false) ≡ false
unjoined true true true true = refl
unjoined true true true false = refl
unjoined true true false true = refl
unjoined true true false false = refl
unjoined true false base true = refl
unjoined true false base false = refl
unjoined false true true true = refl
unjoined false true true false = refl
unjoined false true false true = refl
unjoined false true false false = refl
unjoined false false base true = refl
unjoined false false base false = refl

pub plain_begins : (known : TextBefore) (c : ℕ) → is_plain c ≡ true → not (is_prepend known.last) ≡ begins_at known c (grapheme_cluster_break c)
plain_begins known c h =
    let zwj = is_zwj known.last in
    let base = is_extended_pictographic known.base in
    let joined : is_joined known c Other ≡ false =
    ap₂ (λ value pictograph. known.is_linked && is_consonant value || zwj && base && pictograph || known.is_half_flag && false) (plain_conjunct c h) (plain_pictograph c h)
    ∙ unjoined known.is_linked zwj base known.is_half_flag in
    begins_other known.last (is_joined known c Other) joined ∙ ap (begins_at known c) (sym (plain_break c h))

pub plain_behind : (known : TextBefore) (c : ℕ) → is_plain c ≡ true → known_behind_plain c ≡ known_behind known c (grapheme_cluster_break c)
plain_behind known c h =
    ap (λ value. record (known_behind_plain c) { is_linked = goes_on_linked known.is_linked value }) (sym (plain_conjunct c h))
    ∙ ap (known_behind known c) (sym (plain_break c h))

-- ---- the glyph of a plain character

plain_mark : (c : ℕ) → is_plain c ≡ true → in_group Mark (general_category c) ≡ false
unfolding ucd_category plain_stepped
plain_mark c h =
    let fits = λ (plain : Bool) (value : GeneralCategory). not plain || not (in_group Mark value) in
    let steps = zip_stepped fits is_plain general_category plain_stepped general_category_stepped in
    let known = Stepped-everywhere (λ c. fits (is_plain c) (general_category c)) steps refl c in
    not-true _ (ap (λ plain. not plain || not (in_group Mark (general_category c))) (sym h) ∙ known)

plain_shown : (c : ℕ) → is_plain c ≡ true → is_default_ignorable_code_point c ≡ false
unfolding ucd_derived plain_stepped
plain_shown c h =
    let fits = λ (plain ignorable : Bool). not plain || not ignorable in
    let steps = zip_stepped fits is_plain is_default_ignorable_code_point plain_stepped is_default_ignorable_code_point_stepped in
    let known = Stepped-everywhere (λ c. fits (is_plain c) (is_default_ignorable_code_point c)) steps refl c in
    not-true _ (ap (λ plain. not plain || not (is_default_ignorable_code_point c)) (sym h) ∙ known)

no_mark : (value : GeneralCategory) (c : ℕ) → in_group Mark value ≡ false → is_mark_of value c ≡ false
no_mark NonspacingMark c e = cc
no_mark _ c e = refl

no_class : (value : GeneralCategory) (some other : Option ℕ) → in_group Mark value ≡ false
    → (if is_nonspacing value then some else if in_group Mark value then other else None) ≡ None
no_class NonspacingMark some other e = cc
no_class _ some other e = ap (λ b. if b then other else None) e

pub plain_kind : (c : ℕ) → is_plain c ≡ true → Kind.Other ≡ character_kind c
plain_kind c h =
    sym (ap (λ class. option_map_or Kind.Mark class Kind.Other)
    (no_class (general_category c) (Some (placing_class c (mark_class c))) (Some (mark_class c)) (plain_mark c h)))

pub plain_with_id : (id cluster c : ℕ) → is_plain c ≡ true
    → record { glyph_id = id; cluster = cluster; is_ignorable = false; is_mark = false; kind = Kind.Other } ≡ glyph_of_id id cluster c
plain_with_id id cluster c h =
    let shown = sym (ap (λ ignorable. ignorable && not (is_shown_character c)) (plain_shown c h)) in
    ap₂ (λ ignorable mark. record { glyph_id = id; cluster = cluster; is_ignorable = ignorable; is_mark = mark; kind = Kind.Other })
    shown (sym (no_mark (general_category c) c (plain_mark c h)))
    ∙ ap (λ kind. record (glyph_of_id id cluster c) { kind = kind }) (plain_kind c h)

-- so is the glyph of one that stands for no space
pub plain_placed : (face : FaceValue) (c : PlacedCharacter) → c.space ≡ None → is_plain c.character ≡ true → record {
  glyph_id = option_map_or (λ glyph. glyph.0) (glyph_of_character face c.character) 0;
  cluster = c.place;
  is_ignorable = false;
  is_mark = false;
  kind = Kind.Other;
} ≡ placed_glyph face c
plain_placed face c e h =
    plain_with_id (glyph_id_in face c.character) c.place c.character h
    ∙ ap (λ space. record (text_glyph face c.place c.character) { kind = option_map_or space_kind space (character_kind c.character) }) (sym e)

-- ---- a plain character is a cluster by itself

-- what continues a cluster beside marks, and the halves of flags
abbrev continuing : List Range
continuing = (0x200D, 0x200D) ∷ (0xFF9E, 0xFF9F) ∷ (0x1F1E6, 0x1F1FF) ∷ (0x1F3FB, 0x1F3FF) ∷ (0xE0020, 0xE007F) ∷ []

unfoldable continuing_stepped : Stepped (in_ranges continuing)
unfolding tables
continuing_stepped = of_ranges continuing refl

plain_ends : (c : ℕ) → is_plain c ≡ true → in_ranges continuing c ≡ false
unfolding plain_stepped continuing_stepped
plain_ends c h =
    let fits = λ (plain other : Bool). not plain || not other in
    let steps = zip_stepped fits is_plain (in_ranges continuing) plain_stepped continuing_stepped in
    let known = Stepped-everywhere (λ c. fits (is_plain c) (in_ranges continuing c)) steps refl c in
    not-true _ (ap (λ plain. not plain || not (in_ranges continuing c)) (sym h) ∙ known)

neither : (a b : Bool) → (a || b) ≡ false → (a ≡ false) × (b ≡ false)
neither false b h = (refl, h)
neither true b h = cc

no_joiner : (c : ℕ) → (nat_le 0x200D c && nat_le c 0x200D) ≡ false → (c == 0x200D) ≡ false
no_joiner c h = by (c == 0x200D) refl
  where
    by : (b : Bool) → (c == 0x200D) ≡ b → (c == 0x200D) ≡ false
    by false e = e
    by true e = absurd (true≢false (sym (ap (λ n. nat_le 0x200D n && nat_le n 0x200D) (eqb-true c 0x200D e)) ∙ h))

none_of : (m e j k t r : Bool) → m ≡ false → e ≡ false → j ≡ false → k ≡ false → t ≡ false → r ≡ false
    → not ((m || e || j || k || t) || r) ≡ true
none_of m e j k t r m₀ e₀ j₀ k₀ t₀ r₀ = rw m₀ (rw e₀ (rw j₀ (rw k₀ (rw t₀ (rw r₀ refl)))))

pub plain_apart : (c : ℕ) → is_plain c ≡ true → true ≡ is_apart c
unfolding in_ranges
plain_apart c h =
    let joiner = neither (nat_le 0x200D c && nat_le c 0x200D) _ (plain_ends c h) in
    let sound = neither (nat_le 0xFF9E c && nat_le c 0xFF9F) _ joiner.1 in
    let flag = neither (nat_le 0x1F1E6 c && nat_le c 0x1F1FF) _ sound.1 in
    let modifier = neither (nat_le 0x1F3FB c && nat_le c 0x1F3FF) _ flag.1 in
    let tag = neither (nat_le 0xE0020 c && nat_le c 0xE007F) _ modifier.1 in
    sym (none_of _ _ _ _ _ _ (plain_mark c h) modifier.0 (no_joiner c joiner.0) sound.0 tag.0 flag.0)
