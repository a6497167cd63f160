-- A list that is read begins with the one that was written.
use Rattle.std.proofs.Common.{◌≡◌, ℕ, zero, suc, ◌+◌, ◌*◌, ◌<◌, ◌≤◌, List, [], ◌∷◌, ◌++◌, length, get_or, map, take, All, refl, sym, ap, ◌∙◌, arith}
use Rattle.std.specs.List.{range_with_len}
use Rattle.std.proofs.lemmas.List.{length-append}
use Rattle.std.proofs.lemmas.List.FromFn.{fill_by_all}
use Rattle.aat_bytes.specs.Numbers.{be16, be32}
use Rattle.aat_lookup.specs.declared.glyph_id.GlyphId.{GlyphId}
use Rattle.aat_read_machine.specs.Lists.{count_from, glyphs_from, numbers16, numbers32}
use Rattle.aat_write_machine.specs.Words.{long_bytes, word_bytes}
use Rattle.aat_write_machine.specs.KindLaws.{BeginsWith, IsGlyph}
use Rattle.aat_write_machine.specs.Kinds.{glyph_words}
use Rattle.aat_write_machine.specs.MachineLaws.{IsLong, IsWord}
use Rattle.aat_write_machine.specs.facts.LongPlaces.{length_longs, long_at}
use Rattle.aat_write_machine.specs.facts.WordPlaces.{length_words}
use Rattle.aat_write_machine.proofs.Places.{word_at}

first_of_more : {X : Type 0} (f : ℕ → X) (a n m : ℕ) → n ≤ m → take n (map f (range_with_len a m)) ≡ map f (range_with_len a n)
first_of_more f a zero m le = refl
first_of_more f a (suc n) zero le = absurd (omega arith)
first_of_more f a (suc n) (suc m) le = ap (λ xs. f a ∷ xs) (first_of_more f (a + 1) n m (omega arith))

begins_by :
    {X : Type 0} (f : ℕ → X) (xs : List X) (m : ℕ) (d : X)
    → length xs ≤ m → ((k : ℕ) → k < length xs → get_or xs k d ≡ f k)
    → BeginsWith (map f (range_with_len 0 m)) xs
begins_by f xs m d le each = first_of_more f 0 (length xs) m le ∙ sym (fill_by_all f xs (length xs) d refl each)

-- numbers of 16 bits that stand at a place
pub words_begin :
    (list front rest : List ℕ) (place : ℕ) → All IsWord list → length front ≡ place
    → BeginsWith (numbers16 (front ++ (word_bytes list ++ rest)) place) list
words_begin list front rest place small at =
    let bytes = front ++ (word_bytes list ++ rest) in
    let long : length bytes ≡ place + (2 * length list + length rest) =
    omega (arith, length-append front (word_bytes list ++ rest), length-append (word_bytes list) rest, length_words list) in
    begins_by (λ i. be16 bytes (place + 2 * i)) list (count_from bytes place 2) 0 (omega (arith, long))
    (λ k below. sym (word_at list front rest (place + 2 * k) k below small (omega arith)))

-- numbers of 32 bits that stand at a place
pub longs_begin :
    (list front rest : List ℕ) (place : ℕ) → All IsLong list → length front ≡ place
    → BeginsWith (numbers32 (front ++ (long_bytes list ++ rest)) place) list
longs_begin list front rest place small at =
    let bytes = front ++ (long_bytes list ++ rest) in
    let long : length bytes ≡ place + (4 * length list + length rest) =
    omega (arith, length-append front (long_bytes list ++ rest), length-append (long_bytes list) rest, length_longs list) in
    begins_by (λ i. be32 bytes (place + 4 * i)) list (count_from bytes place 4) 0 (omega (arith, long))
    (λ k below. sym (long_at list front rest (place + 4 * k) k below small (omega arith)))

abbrev no_glyph : GlyphId
no_glyph = record { 0 = 0 }

glyphs_are_words : (glyphs : List GlyphId) → All IsGlyph glyphs → All IsWord (glyph_words glyphs)
glyphs_are_words [] small k d below = absurd (omega arith)
glyphs_are_words (g ∷ glyphs) small zero d below = small 0 g (omega arith)
glyphs_are_words (g ∷ glyphs) small (suc k) d below =
    glyphs_are_words glyphs (λ i e lt. small (suc i) e (omega arith)) k d (omega arith)

length_glyphs : (glyphs : List GlyphId) → length (glyph_words glyphs) ≡ length glyphs
length_glyphs [] = refl
length_glyphs (g ∷ glyphs) = ap suc (length_glyphs glyphs)

glyph_word : (glyphs : List GlyphId) (k : ℕ) → k < length glyphs → get_or (glyph_words glyphs) k 0 ≡ (get_or glyphs k no_glyph).0
glyph_word [] k below = absurd (omega arith)
glyph_word (g ∷ glyphs) zero below = refl
glyph_word (g ∷ glyphs) (suc k) below = glyph_word glyphs k (omega arith)

-- glyphs that stand at a place
pub glyphs_begin :
    (glyphs : List GlyphId) (front rest : List ℕ) (place : ℕ) → All IsGlyph glyphs → length front ≡ place
    → BeginsWith (glyphs_from (front ++ (word_bytes (glyph_words glyphs) ++ rest)) place) glyphs
glyphs_begin glyphs front rest place small at =
    let list = glyph_words glyphs in
    let bytes = front ++ (word_bytes list ++ rest) in
    let of_number : ℕ → GlyphId = λ n. record { 0 = n } in
    let long : length bytes ≡ place + (2 * length glyphs + length rest) =
    omega (arith, length-append front (word_bytes list ++ rest), length-append (word_bytes list) rest, length_words list, length_glyphs glyphs) in
    begins_by (λ i. of_number (be16 bytes (place + 2 * i))) glyphs (count_from bytes place 2) no_glyph (omega (arith, long))
    (λ k below. ap of_number (sym (glyph_word glyphs k below)
    ∙ sym (word_at list front rest (place + 2 * k) k (omega (arith, length_glyphs glyphs)) (glyphs_are_words glyphs small) (omega arith))))
