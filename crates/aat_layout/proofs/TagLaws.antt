-- The laws of tags.
use Rattle.std.proofs.Common.{◌≡◌, ◌<◌, ◌^◌, ℕ, zero, suc, Bool, true, false, eqb, ◌&&◌, List, [], ◌∷◌, length, get_or, Ok, None, refl, sym, ap, ◌∙◌, arith}
use Rattle.std.specs.Prelude.{take_while}
use Rattle.std.specs.Int.{from_be_bytes, w32}
use Rattle.std.specs.List.{list_all}
use Rattle.std.proofs.lemmas.Bool.{eqb-true, false_from_ne_true, true≢false}
use Rattle.std.proofs.lemmas.List.Sums.{take_while-cons, list_all-from_AllPass}
use Rattle.std.proofs.lemmas.Nat.{be_bytes_4, from_be_bytes-to_be_bytes_4}
use Rattle.aat_font.specs.declared.plan.Feature.{Feature}
use Rattle.aat_font.specs.declared.tag.hb_tag_t.{hb_tag_t}
use Rattle.aat_layout.specs.features.Characters.{after, is_printable, is_space, is_tag_character, run, skipped}
use Rattle.aat_layout.specs.features.Clusters.{all_clusters, clusters_at}
use Rattle.aat_layout.specs.features.Numbers.{number_at}
use Rattle.aat_layout.specs.features.Reading.{ended, feature_of, feature_over}
use Rattle.aat_layout.specs.features.Tags.{plain_tag, tag_at, tag_of, whole_tag}
use Rattle.aat_layout.specs.features.TagLaws.{TagsAreFeatures, TagsAreReadAgain, TextsAreWrittenAgain, text_of}
use Rattle.aat_layout.specs.features.Values.{given_at, sign_at, switch_at, value_at, word_at}

both : (a b : Bool) → (a && b) ≡ true → (a ≡ true) × (b ≡ true)
both true b e = (refl, e)
both false b e = absurd cc

-- where each element passes, all are the run
run_all : (test : ℕ → Bool) (text : List ℕ) → list_all test text ≡ true → take_while test text ≡ text
run_all test [] all = refl
run_all test (c ∷ text) all =
    let parts = both (test c) (list_all test text) all in
    take_while-cons test c text ∙ rw (parts.0) (ap (λ (cs : List ℕ). c ∷ cs) (run_all test text parts.1))

-- four characters that pass are a tag
plain_whole : (test : ℕ → Bool) (text : List ℕ) → length text ≡ 4 → list_all test text ≡ true →
    plain_tag test text 0 ≡ Ok (tag_of text, 4)
unfolding plain_tag run
plain_whole test text len all = rw (run_all test text all, len) refl

whole : (text : List ℕ) → length text ≡ 4 → list_all is_printable text ≡ true → whole_tag text ≡ Ok (tag_of text)
unfolding whole_tag
whole text len all = rw (plain_whole is_printable text len all, len) refl

tag_again : (tag : hb_tag_t) → tag.0 < 2 ^ 32 → tag_of (text_of tag) ≡ tag
tag_again tag fits =
    let made : ℕ → hb_tag_t = λ n. record { 0 = n } in
    ap made (from_be_bytes-to_be_bytes_4 tag.0 fits)

pub tags_are_read_again : TagsAreReadAgain
tags_are_read_again tag fits all =
    whole (text_of tag) refl (list_all-from_AllPass is_printable (text_of tag) all)
    ∙ ap (λ (t : hb_tag_t). Ok t) (tag_again tag fits)

printed_fits : (c : ℕ) → is_printable c ≡ true → c < 256
printed_fits c printed = grind arith

all_fit : (text : List ℕ) → list_all is_printable text ≡ true → (i : ℕ) → get_or text i 0 < 256
all_fit [] all i = omega arith
all_fit (c ∷ text) all zero = printed_fits c (both (is_printable c) (list_all is_printable text) all).0
all_fit (c ∷ text) all (suc i) = all_fit text (both (is_printable c) (list_all is_printable text) all).1 i

-- spaces behind four characters do not count
filled : (text : List ℕ) → length text ≡ 4 → (tag_of text).0 ≡ from_be_bytes w32 text
filled [] len = absurd (omega (arith, len))
filled (a ∷ []) len = absurd (omega (arith, len))
filled (a ∷ b ∷ []) len = absurd (omega (arith, len))
filled (a ∷ b ∷ c ∷ []) len = absurd (omega (arith, len))
filled (a ∷ b ∷ c ∷ d ∷ []) len = refl
filled (a ∷ b ∷ c ∷ d ∷ e ∷ more) len = absurd (omega (arith, len))

pub texts_are_written_again : TextsAreWrittenAgain
texts_are_written_again text len all =
    let passes = list_all-from_AllPass is_printable text all in
    (whole text len passes, be_bytes_4 text (tag_of text).0 len (all_fit text passes) (filled text len))

-- ---- a tag as a feature

is_no_space : (c : ℕ) → is_tag_character c ≡ true → is_space c ≡ false
is_no_space c of_tag = grind arith

is_other : (d c : ℕ) → is_tag_character d ≡ false → is_tag_character c ≡ true → eqb d c ≡ false
is_other d c not_of_tag of_tag =
    false_from_ne_true _ (λ same. true≢false (sym of_tag ∙ ap is_tag_character (sym (eqb-true d c same)) ∙ not_of_tag))

stays : (c : ℕ) (text : List ℕ) → is_tag_character c ≡ true → skipped (c ∷ text) 0 ≡ 0
unfolding skipped run
stays c text of_tag = rw (is_no_space c of_tag) refl

misses : (d c : ℕ) (text : List ℕ) → is_tag_character d ≡ false → is_tag_character c ≡ true → after (d ∷ []) (c ∷ text) 0 ≡ None
unfolding after
misses d c text not_of_tag of_tag = rw (is_other d c not_of_tag of_tag) refl

no_sign : (c : ℕ) (text : List ℕ) → is_tag_character c ≡ true → sign_at (c ∷ text) 0 ≡ (1, 0)
unfolding sign_at
no_sign c text of_tag = rw (stays c text of_tag, misses 45 c text refl of_tag, misses 43 c text refl of_tag) refl

no_quote : (c : ℕ) (text : List ℕ) → is_tag_character c ≡ true → tag_at (c ∷ text) 0 ≡ plain_tag is_tag_character (c ∷ text) 0
unfolding tag_at
no_quote c text of_tag = rw (stays c text of_tag, misses 39 c text refl of_tag, misses 34 c text refl of_tag) refl

no_clusters : (a b c d : ℕ) → clusters_at (a ∷ b ∷ c ∷ d ∷ []) 4 ≡ Ok (all_clusters, 4)
unfolding clusters_at after skipped run
no_clusters a b c d = refl

no_value : (a b c d : ℕ) → value_at 1 (a ∷ b ∷ c ∷ d ∷ []) 4 ≡ Ok (1, 4)
unfolding value_at given_at number_at switch_at word_at after skipped run
no_value a b c d = refl

no_more : (feature : Feature) (a b c d : ℕ) → ended feature (a ∷ b ∷ c ∷ d ∷ []) 4 ≡ Ok feature
unfolding ended skipped run
no_more feature a b c d = refl

four : (a b c d : ℕ) → list_all is_tag_character (a ∷ b ∷ c ∷ d ∷ []) ≡ true →
    feature_of (a ∷ b ∷ c ∷ d ∷ []) ≡ Ok (feature_over (tag_of (a ∷ b ∷ c ∷ d ∷ [])) 1 all_clusters)
unfolding feature_of
four a b c d all =
    let text : List ℕ = a ∷ b ∷ c ∷ d ∷ [] in
    let first = (both (is_tag_character a) (list_all is_tag_character (b ∷ c ∷ d ∷ [])) all).0 in
    rw (no_sign a (b ∷ c ∷ d ∷ []) first, no_quote a (b ∷ c ∷ d ∷ []) first, plain_whole is_tag_character text refl all, no_clusters a b c d, no_value a b c d, no_more _ a b c d) refl

pub tags_are_features : TagsAreFeatures
tags_are_features tag fits all =
    four _ _ _ _ (list_all-from_AllPass is_tag_character (text_of tag) all)
    ∙ ap (λ (t : hb_tag_t). Ok (feature_over t 1 all_clusters)) (tag_again tag fits)
