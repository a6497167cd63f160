-- What is known of the characters before a place says whether a cluster begins there.
use Rattle.std.proofs.Common.{◌≡◌, ℕ, Bool, true, false, not, ◌&&◌, ◌||◌, List, [], ◌∷◌, map, unwrap_or, refl, sym, ap, ap₂, ◌∙◌}
use Rattle.std.specs.Prelude.{if◌then◌else◌}
use Rattle.ucd_breaks.specs.GraphemeClusterBreak.{grapheme_cluster_break}
use Rattle.ucd_breaks.specs.declared.GraphemeClusterBreak.{GraphemeClusterBreak}
use Rattle.ucd_breaks.specs.declared.GraphemeClusterBreak.TheVariants.{Control, Cr, Extend, L, Lf, Lv, Lvt, Prepend, RegionalIndicator, SpacingMark, T, V, Other, Zwj}
use Rattle.ucd_breaks.proofs.Computing.{ucd_breaks}
use Rattle.ucd_breaks.proofs.GraphemeClusterBreakLemmas.{grapheme_cluster_break_stepped}
use Rattle.ucd_derived.specs.IndicConjunctBreak.{indic_conjunct_break}
use Rattle.ucd_derived.specs.declared.IndicConjunctBreak.{IndicConjunctBreak}
use Rattle.ucd_derived.specs.declared.IndicConjunctBreak.TheVariants as InCb
use Rattle.ucd_emoji.specs.Binary.{is_extended_pictographic}
use Rattle.ucd_emoji.proofs.BinaryLemmas.{is_extended_pictographic_stepped}
use Rattle.ucd_emoji.proofs.Computing.{ucd_emoji}
use Rattle.ucd_table.proofs.Facts.{Stepped-everywhere}
use Rattle.ucd_table.proofs.Stepped.{zip_stepped}
use Rattle.unicode_segmentation.specs.Grapheme.{break_by_pair, ends_in_half_flag, ends_in_linker, ends_in_pictograph, is_consonant, is_extend, is_grapheme_break, is_regional, is_zwj}
use Rattle.aat_text.specs.inside.ClusterStarts.{IsBehind, begins_at, begins_behind, ends_in_joined_pictograph, goes_on_linked, is_joined, keeps_base, known_behind, last_break}
use Rattle.aat_text.specs.declared.cluster_starts.TextBefore.{TextBefore}

-- no character that extends another one is a pictograph
extends_apart : (c : ℕ) → not ((is_extend (grapheme_cluster_break c) || is_zwj (grapheme_cluster_break c)) && is_extended_pictographic c) ≡ true
unfolding ucd_breaks ucd_emoji
extends_apart =
    let apart = λ (value : GraphemeClusterBreak) (pictograph : Bool). not ((is_extend value || is_zwj value) && pictograph) in
    let steps = zip_stepped apart grapheme_cluster_break is_extended_pictographic grapheme_cluster_break_stepped is_extended_pictographic_stepped in
    Stepped-everywhere (λ c. apart (grapheme_cluster_break c) (is_extended_pictographic c)) steps refl

-- the start of a text
null_is_no_pictograph : is_extended_pictographic 0 ≡ false
unfolding ucd_emoji
null_is_no_pictograph = refl

pub nothing_behind : IsBehind [] (record { last = Control; base = 0; is_linked = false; is_half_flag = false })
unfolding ends_in_linker ends_in_half_flag
nothing_behind = record { last = refl; pictograph = null_is_no_pictograph; linked = refl; half_flag = refl }

-- ---- whether a cluster begins

joined_emoji : (zwj base back other : Bool) → base ≡ (if zwj then back else other) → (next : Bool) → (zwj && base && next) ≡ (zwj && back && next)
joined_emoji true base back other e next = ap (λ b. true && b && next) e
joined_emoji false base back other e next = refl

-- at the start of a text
begins_first : (value : GraphemeClusterBreak) (rest : Bool) → unwrap_or (break_by_pair true Control value) rest ≡ true
begins_first Control rest = refl
begins_first Cr rest = refl
begins_first Extend rest = refl
begins_first L rest = refl
begins_first Lf rest = refl
begins_first Lv rest = refl
begins_first Lvt rest = refl
begins_first Prepend rest = refl
begins_first RegionalIndicator rest = refl
begins_first SpacingMark rest = refl
begins_first T rest = refl
begins_first V rest = refl
begins_first Other rest = refl
begins_first Zwj rest = refl

pub begins : (before : List ℕ) (known : TextBefore) (c : ℕ) → IsBehind before known → begins_at known c (grapheme_cluster_break c) ≡ begins_behind before c
unfolding is_grapheme_break
begins [] known c h =
    let value = grapheme_cluster_break c in
    ap (λ last. unwrap_or (break_by_pair true last value) (not (is_joined known c value))) h.last
    ∙ begins_first value (not (is_joined known c value))
begins (l ∷ before) known c h =
    let value = grapheme_cluster_break c in
    let conjunct = ap (λ linked. linked && is_consonant (indic_conjunct_break c)) h.linked in
    let emoji =
    ap (λ last. is_zwj last && is_extended_pictographic known.base && is_extended_pictographic c) h.last
    ∙ joined_emoji (is_zwj (grapheme_cluster_break l)) (is_extended_pictographic known.base) (ends_in_pictograph before) (ends_in_pictograph (l ∷ before))
    h.pictograph (is_extended_pictographic c) in
    let flag = ap (λ half. half && is_regional value) h.half_flag in
    ap₂ (λ last joined. unwrap_or (break_by_pair true last value) (not joined)) h.last (ap₂ ◌||◌ (ap₂ ◌||◌ conjunct emoji) flag)

-- ---- what is known behind one more

pictograph_behind : (extend zwj last_zwj pictograph base back : Bool) → not ((extend || zwj) && pictograph) ≡ true → back ≡ (if last_zwj then false else base)
    → (if (extend || zwj) && not last_zwj then base else pictograph) ≡ (if zwj then back else (pictograph || (extend && back)))
pictograph_behind true true true false base back apart e = sym e
pictograph_behind true true false false base back apart e = sym e
pictograph_behind true false true false base back apart e = sym e
pictograph_behind true false false false base back apart e = sym e
pictograph_behind false true true false base back apart e = sym e
pictograph_behind false true false false base back apart e = sym e
pictograph_behind false false last_zwj true base back apart e = refl
pictograph_behind false false last_zwj false base back apart e = refl
pictograph_behind true zwj last_zwj true base back apart e = cc
pictograph_behind false true last_zwj true base back apart e = cc

-- what ends in a joiner ends in no pictograph
pictograph_back : (before : List ℕ) (base : Bool) → base ≡ ends_in_joined_pictograph before
    → ends_in_pictograph before ≡ (if is_zwj (last_break before) then false else base)
unfolding ends_in_pictograph
pictograph_back [] base e = sym e
pictograph_back (l ∷ before) base e =
    by (grapheme_cluster_break l) (is_extended_pictographic l) (ends_in_pictograph before) base (extends_apart l) e
  where
    by : (value : GraphemeClusterBreak) (pictograph back base : Bool) → not ((is_extend value || is_zwj value) && pictograph) ≡ true
        → base ≡ (if is_zwj value then back else (pictograph || (is_extend value && back)))
        → (pictograph || (is_extend value && back)) ≡ (if is_zwj value then false else base)
    by Zwj false back base apart e = refl
    by Zwj true back base apart e = cc
    by Control pictograph back base apart e = sym e
    by Cr pictograph back base apart e = sym e
    by Extend pictograph back base apart e = sym e
    by L pictograph back base apart e = sym e
    by Lf pictograph back base apart e = sym e
    by Lv pictograph back base apart e = sym e
    by Lvt pictograph back base apart e = sym e
    by Prepend pictograph back base apart e = sym e
    by RegionalIndicator pictograph back base apart e = sym e
    by SpacingMark pictograph back base apart e = sym e
    by T pictograph back base apart e = sym e
    by V pictograph back base apart e = sym e
    by Other pictograph back base apart e = sym e

of_choice : {X Y : Type 0} (f : X → Y) (b : Bool) (x y : X) → f (if b then x else y) ≡ (if b then f x else f y)
of_choice f true x y = refl
of_choice f false x y = refl

linked_behind : (value : IndicConjunctBreak) (values : List IndicConjunctBreak) (linked : Bool) → linked ≡ ends_in_linker values
    → goes_on_linked linked value ≡ ends_in_linker (value ∷ values)
unfolding ends_in_linker
linked_behind InCb.Linker values linked e = refl
linked_behind InCb.Extend values linked e = e
linked_behind InCb.Consonant values linked e = refl
linked_behind InCb.None values linked e = refl

pub behind : (before : List ℕ) (known : TextBefore) (c : ℕ) → IsBehind before known → IsBehind (c ∷ before) (known_behind known c (grapheme_cluster_break c))
unfolding ends_in_pictograph ends_in_half_flag
behind before known c h =
    let value = grapheme_cluster_break c in
    let pictograph = is_extended_pictographic in
    let back : ends_in_pictograph before ≡ (if is_zwj known.last then false else pictograph known.base) =
    pictograph_back before (pictograph known.base) h.pictograph ∙ ap (λ last. if is_zwj last then false else pictograph known.base) (sym h.last) in
    record {
      last = refl;
      pictograph = of_choice pictograph (keeps_base known.last value) known.base c
          ∙ pictograph_behind (is_extend value) (is_zwj value) (is_zwj known.last) (pictograph c) (pictograph known.base) (ends_in_pictograph before) (extends_apart c) back;
      linked = linked_behind (indic_conjunct_break c) (map indic_conjunct_break before) known.is_linked h.linked;
      half_flag = ap (λ half. is_regional value && not half) h.half_flag;
    }
