-- What the bits of a line's glyphs tell.
use Rattle.std.proofs.Common.{◌≡◌, ◌∙◌, ap, sym, subst, true, ℕ, ◌+◌, ◌/◌, ◌%◌, ◌<◌, ◌≤◌, ◌⊎◌, inl, inr, List, Some, length, get_or, bit_or, arith}
use Rattle.std.specs.Int.{bit_at}
use Rattle.std.specs.List.{slice_get}
use Rattle.std.proofs.lemmas.Bool.{cases_lt}
use Rattle.std.proofs.lemmas.Nat.Bits.{bit_at_or, bit_at-zero}
use Rattle.std.proofs.lemmas.Option.{get_or_from_slice_get}
use Rattle.aat_buffer.specs.Buffer.{glyph_at}
use Rattle.aat_machine_tables.specs.declared.morx.Subtable.{Subtable}
use Rattle.aat_font.specs.Wakers.{WakeAt, word_of, word_place}
use Rattle.aat_font.specs.declared.wakers.GlyphWords.{GlyphWords}
use Rattle.aat_font.specs.declared.wakers.SubtableWords.{SubtableWords}
use Rattle.aat_glyph.specs.declared.glyph.hb_glyph_info_t.{hb_glyph_info_t}
use Rattle.aat_morx.specs.declared.waking.KnownBits.{KnownBits}
use Rattle.aat_morx.specs.declared.waking.LineWord.{LineWord}
use Rattle.aat_morx.specs.LineWords.{AreBitsOf, HasBitsOf, IsAsleep, IsClearIn, KnowsNothing, TellsOf}

-- a subtable whose bit is clear sleeps
pub asleep_by :
    (s : Subtable) (words : SubtableWords) (i : ℕ) (w : GlyphWords) (line : List hb_glyph_info_t)
    → slice_get words.blocks.items (i / 64) ≡ Some w → IsClearIn w (i % 64) line → WakeAt s words.blocks.items i → IsAsleep s line
asleep_by s words i w line at clear wake = (clear.0, λ k low. wake w at (glyph_at line k).glyph_id (clear.1 k low))

-- so does one whose block's bit is clear in the summary
pub asleep_by_summary :
    (s : Subtable) (words : SubtableWords) (i : ℕ) (w : GlyphWords) (line : List hb_glyph_info_t)
    → slice_get words.blocks.items (i / 64) ≡ Some w → IsClearIn words.summary (i / 64 % 64) line → WakeAt s words.blocks.items i → IsAsleep s line
asleep_by_summary s words i w line at clear wake = (
  clear.0,
  λ k low.
      let g = (glyph_at line k).glyph_id in
      let none : word_of w g ≡ 0 = words.summed (i / 64) w at g (clear.1 k low) in
      wake w at g (ap (λ (x : ℕ). bit_at x (i % 64)) none ∙ bit_at-zero (i % 64)),
)

-- the bits of one block tell of the line
pub bits_of_block :
    (known : KnownBits) (blocks : List GlyphWords) (block own : ℕ) (w : GlyphWords) (line : List hb_glyph_info_t)
    → slice_get blocks block ≡ Some w → own ≡ block → AreBitsOf known w line
    → (v : GlyphWords) → slice_get blocks own ≡ Some v → AreBitsOf known v line
bits_of_block known blocks block own w line at same has v found =
    let found_there : slice_get blocks block ≡ Some v = sym (ap (slice_get blocks) same) ∙ found in
    let one : w ≡ v = sym (get_or_from_slice_get blocks block w w at) ∙ get_or_from_slice_get blocks block v w found_there in
    subst (λ (x : GlyphWords). AreBitsOf known x line) one has

-- bits that are still known are those of the same block
pub bits_stay :
    (old new : KnownBits) (blocks : List GlyphWords) (own block : ℕ) (w : GlyphWords) (line : List hb_glyph_info_t)
    → ((v : GlyphWords) → slice_get blocks own ≡ Some v → AreBitsOf old v line) → slice_get blocks block ≡ Some w
    → (new.are_known ≡ true → (new ≡ old) × (own ≡ block)) → AreBitsOf new w line
bits_stay old new blocks own block w line has at stays known =
    let same = stays known in
    let there : slice_get blocks own ≡ Some w = ap (slice_get blocks) same.1 ∙ at in
    let was : AreBitsOf new w line = subst (λ (bits : KnownBits). AreBitsOf bits w line) (sym same.0) (has w there) in
    was known

-- who knows nothing tells of any line
pub nothing_tells : (known : LineWord) (words : SubtableWords) (line : List hb_glyph_info_t) → KnowsNothing known → TellsOf known words line
nothing_tells known words line nothing =
    (λ w found is_known. absurd (cc (is_known, nothing.0)), λ is_known. absurd (cc (is_known, nothing.1)))

module _ (listed : List ℕ) (gs : List hb_glyph_info_t) (index word new : ℕ)
    (has : (k i : ℕ) → i < index → bit_at (get_or listed (word_place (glyph_at gs i).glyph_id) 0) k ≤ bit_at word k)
    (is : new ≡ get_or listed (word_place (glyph_at gs index).glyph_id) 0)
  where
    by_place : (k i : ℕ) → (i < index) ⊎ (index ≤ i) → i < index + 1 → bit_at (get_or listed (word_place (glyph_at gs i).glyph_id) 0) k ≤ bit_at (bit_or word new) k
    by_place k i (inl below) lt = omega (arith, has k i below, bit_at_or word new k)
    by_place k i (inr past) lt =
        let here : index ≡ i = omega (arith, past, lt) in
        let bits : bit_at new k ≡ bit_at (get_or listed (word_place (glyph_at gs i).glyph_id) 0) k = ap (λ (x : ℕ). bit_at x k) (is ∙ ap (λ (j : ℕ). get_or listed (word_place (glyph_at gs j).glyph_id) 0) here) in
        omega (arith, bits, bit_at_or word new k)

    -- the bits of one glyph more
    pub more_bits : (k i : ℕ) → i < index + 1 → bit_at (get_or listed (word_place (glyph_at gs i).glyph_id) 0) k ≤ bit_at (bit_or word new) k
    more_bits k i lt = by_place k i (cases_lt i index) lt

-- a bit that neither each glyph nor one has
pub clear_of_both : (everywhere own word k : ℕ) → (bit_at word k ≡ 0 → bit_at own k ≡ 0) → bit_at (bit_or everywhere word) k ≡ 0 → bit_at (bit_or everywhere own) k ≡ 0
clear_of_both everywhere own word k clear both =
    let one : bit_at word k ≡ 0 = omega (arith, both, bit_at_or everywhere word k) in
    omega (arith, both, clear one, bit_at_or everywhere word k, bit_at_or everywhere own k)

-- the bits of all glyphs of a line, of two that tell of it
pub told_of_all :
    (words : GlyphWords) (line gs : List hb_glyph_info_t) (everywhere bits : ℕ) (listed : List ℕ)
    → everywhere ≡ words.everywhere → listed ≡ words.words.items → gs ≡ line → 0 < length line
    → ((k i : ℕ) → i < length gs → bit_at bits k ≡ 0 → bit_at (get_or listed (word_place (glyph_at gs i).glyph_id) 0) k ≡ 0)
    → HasBitsOf words (bit_or everywhere bits) line
told_of_all words line gs everywhere bits listed all list whole some tells = λ k low clear. (
  some,
  λ i lt.
      let own = tells k i (omega (arith, lt, ap length whole)) in
      let same : get_or listed (word_place (glyph_at gs i).glyph_id) 0 ≡ get_or words.words.items (word_place (glyph_at line i).glyph_id) 0 =
      ap (λ (xs : List ℕ). get_or xs (word_place (glyph_at gs i).glyph_id) 0) list ∙ ap (λ (hs : List hb_glyph_info_t). get_or words.words.items (word_place (glyph_at hs i).glyph_id) 0) whole in
      subst (λ (e : ℕ). bit_at (bit_or e (get_or words.words.items (word_place (glyph_at line i).glyph_id) 0)) k ≡ 0) all
      (subst (λ (x : ℕ). bit_at (bit_or everywhere x) k ≡ 0) same (clear_of_both everywhere (get_or listed (word_place (glyph_at gs i).glyph_id) 0) bits k own clear)),
)
