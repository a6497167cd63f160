-- Words that sum up blocks.
use Rattle.std.proofs.Common.{◌≡◌, ◌∙◌, ap, sym, subst, ℕ, ◌+◌, ◌%◌, ◌^◌, ◌-◌, ◌<◌, ◌≤◌, ◌⊎◌, inl, inr, List, Some, length, get_or, bit_or, arith}
use Rattle.std.specs.Int.{bit_at}
use Rattle.std.specs.List.{slice_get}
use Rattle.std.proofs.lemmas.Bool.{cases_eq, cases_lt}
use Rattle.std.proofs.lemmas.List.{get_or_past}
use Rattle.std.proofs.lemmas.Nat.Bits.{bit_at_or, bit_at_ones}
use Rattle.std.proofs.lemmas.Option.{get_or_from_slice_get}
use Rattle.aat_font.specs.Wakers.{word_of, word_place, IsSummedAt, IsSummaryOf}
use Rattle.aat_font.specs.inside.MarkedWords.{KeepsBits, IsSummedBelow}
use Rattle.aat_font.specs.declared.wakers.GlyphWords.{GlyphWords}

module _ (old new block : GlyphWords) (bit place : ℕ) (kept : KeepsBits old new) (below : IsSummedBelow old bit block place) where
  -- one place more, where each glyph of it has the bit or a word of 0
  pub place_more :
      ((g : ℕ) → word_place g ≡ place → bit_at (word_of new g) bit ≡ 0 → get_or block.words.items (word_place g) 0 ≡ 0)
      → IsSummedBelow new bit block (place + 1)
  place_more here g lt clear = by_place (cases_eq (word_place g) place)
    where
      by_place : (word_place g ≡ place) ⊎ (word_place g ≡ place → ⊥) → get_or block.words.items (word_place g) 0 ≡ 0
      by_place (inl same) = here g same clear
      by_place (inr other) = below g (omega (arith, lt, other)) (omega (arith, kept g bit, clear))

-- the glyph of a place has the bit
pub place_marked :
    (new block : GlyphWords) (bit place glyph : ℕ) → word_place glyph ≡ place → bit_at (word_of new glyph) bit ≡ 1
    → (g : ℕ) → word_place g ≡ place → bit_at (word_of new g) bit ≡ 0 → get_or block.words.items (word_place g) 0 ≡ 0
place_marked new block bit place glyph at set g same clear =
    let own : bit_at (word_of new g) bit ≡ 1 =
    ap (λ (p : ℕ). bit_at (bit_or new.everywhere (get_or new.words.items p 0)) bit) (same ∙ sym at) ∙ set in
    absurd (omega (arith, own, clear))

-- all places
pub all_places :
    (new block : GlyphWords) (bit place : ℕ) → block.everywhere ≡ 0
    → ((g : ℕ) → word_place g < place ⊎ length block.words.items ≤ word_place g) → IsSummedBelow new bit block place → IsSummedAt new bit block
all_places new block bit place none reach below g clear =
    rw none (ap (λ (x : ℕ). bit_or 0 x) (by_reach (reach g)))
  where
    by_reach : word_place g < place ⊎ length block.words.items ≤ word_place g → get_or block.words.items (word_place g) 0 ≡ 0
    by_reach (inl low) = below g low clear
    by_reach (inr past) = get_or_past block.words.items (word_place g) 0 past

module _ (blocks : List GlyphWords) (old new : GlyphWords) (i : ℕ) (last : GlyphWords)
    (kept : KeepsBits old new) (there : last ≡ get_or blocks i last) (own : IsSummedAt new (i % 64) last)
    (before : (k : ℕ) (block : GlyphWords) → k < i → slice_get blocks k ≡ Some block → IsSummedAt old (k % 64) block) where
  by_place : (k : ℕ) (block : GlyphWords) → (k < i) ⊎ (i ≤ k) → k < i + 1 → slice_get blocks k ≡ Some block → IsSummedAt new (k % 64) block
  by_place k block (inl low) lt found = λ g clear. before k block low found g (omega (arith, kept g (k % 64), clear))
  by_place k block (inr high) lt found =
      let same : i ≡ k = omega (arith, high, lt) in
      let is : last ≡ block = there ∙ ap (λ (j : ℕ). get_or blocks j last) same ∙ get_or_from_slice_get blocks k block last found in
      subst (λ (j : ℕ). IsSummedAt new (j % 64) block) same (subst (λ (b : GlyphWords). IsSummedAt new (i % 64) b) is own)

  -- one block more
  pub block_more : (k : ℕ) (block : GlyphWords) → k < i + 1 → slice_get blocks k ≡ Some block → IsSummedAt new (k % 64) block
  block_more k block lt found = by_place k block (cases_lt k i) lt found

-- a summary that has all bits tells nothing
pub tells_nothing : (summary : GlyphWords) (blocks : List GlyphWords) → summary.everywhere ≡ 2 ^ 64 - 1 → IsSummaryOf summary blocks
tells_nothing summary blocks all i block found g clear =
    let own = get_or summary.words.items (word_place g) 0 in
    let one : bit_at summary.everywhere (i % 64) ≡ 1 = ap (λ (x : ℕ). bit_at x (i % 64)) all ∙ bit_at_ones 64 (i % 64) (omega arith) in
    absurd (omega (arith, one, clear, bit_at_or summary.everywhere own (i % 64)))
