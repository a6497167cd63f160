use Rattle.std.proofs.Common.{◌≡◌, ◌≤◌, ℕ, ◌+◌, ◌<◌, List, length, get_or, bit_or, sym, subst, ap, arith}
use Rattle.std.specs.Int.{bit_at}
use Rattle.std.proofs.lemmas.List.{with_items_is}
use Rattle.std.proofs.lemmas.Nat.Bits.{bit_at_or, bit_at-lt}
use Rattle.aat_font.specs.Wakers.{word_of, word_place}
use Rattle.aat_font.proofs.MoreBits.{or_wider}
use Rattle.aat_font.proofs.wakers.GlyphWords.mark_below.Goals as goal

pub returns-clause-kept : goal.returns-clause-kept
returns-clause-kept c = λ g k.
    let w = c.reach.new.self in
    let next = c.mark_words.new.words in
    let place = word_place g in
    let written = with_items_is w.words next (omega (arith, c.mark_words.ensures.long, c.deref_mut.ensures.len)) in
    let wide : (i j : ℕ) → bit_at (get_or w.words.items i 0) j ≤ bit_at (get_or next i 0) j =
    subst (λ (xs : List ℕ). (i j : ℕ) → bit_at (get_or xs i 0) j ≤ bit_at (get_or next i 0) j) c.deref_mut.ensures.value c.mark_words.ensures.kept in
    subst (λ (xs : List ℕ). bit_at (word_of c.args.self.now g) k ≤ bit_at (bit_or w.everywhere (get_or xs place 0)) k) (sym written)
    (subst (λ (n : ℕ). bit_at n k ≤ bit_at (bit_or w.everywhere (get_or next place 0)) k) (c.in_ok-reach.ensures.same g)
    (or_wider w.everywhere (get_or w.words.items place 0) w.everywhere (get_or next place 0) k (omega arith) (wide place k)))

pub returns-clause-set : goal.returns-clause-set
returns-clause-set c = λ g low lt.
    let w = c.reach.new.self in
    let next = c.mark_words.new.words in
    let place = word_place g in
    let here : place ≡ g + 1 = omega (arith, lt, c.requires.glyphs) in
    let written = with_items_is w.words next (omega (arith, c.mark_words.ensures.long, c.deref_mut.ensures.len)) in
    let inside : place < length c.deref_mut.result.now =
    omega (arith, here, lt, c.in_ok-reach.ensures.reached, c.requires.glyphs, ap length c.deref_mut.ensures.value) in
    let own = c.mark_words.ensures.set place (omega (arith, here, low)) (omega (arith, here, lt)) inside in
    let is : bit_at (bit_or w.everywhere (get_or next place 0)) c.args.bit ≡ 1 =
    omega (arith, own, bit_at_or w.everywhere (get_or next place 0) c.args.bit, bit_at-lt w.everywhere c.args.bit) in
    subst (λ (xs : List ℕ). bit_at (bit_or w.everywhere (get_or xs place 0)) c.args.bit ≡ 1) (sym written) is
