-- What marks leave of a line.
use Rattle.std.proofs.Common.{◌≡◌, ℕ, zero, suc, ◌+◌, ◌-◌, ◌≤◌, ◌==◌, List, [], ◌∷◌, ◌++◌, length, take, drop, map, Option, refl, sym, ap, ◌∙◌, arith, nat_le, nat_lt, ◌&&◌, subst}
use Rattle.std.specs.Prelude.{bit_or, reverse, slice_range}
use Rattle.std.specs.List.{AllZip}
use Rattle.std.specs.Int.Bits.{or_zero_r}
use Rattle.std.proofs.lemmas.Bool.Decides.{nat_tests}
use Rattle.std.proofs.lemmas.Grind.{reverse_onto}
use Rattle.std.proofs.lemmas.List.{take-append-drop, drop-drop}
use Rattle.std.proofs.lemmas.List.Elements.{AllZip-push}
use Rattle.aat_buffer.specs.Buffer.{Buffer, glyph_at, no_glyph}
use Rattle.aat_buffer.specs.Marks.{on_span, marked_above, with_mask_bits, least_of, break_marked, concat_marked, unsafe_to_break, unsafe_to_concat, start_place, end_place, produces_concat}
use Rattle.aat_buffer.specs.facts.Cases.{chosen}
use Rattle.aat_glyph.specs.declared.glyph.hb_glyph_info_t.{hb_glyph_info_t}
use Rattle.aat_kerning_machines.specs.KerningLaws.{IsMarkedFrom}
use Rattle.aat_kerning_machines.specs.facts.Writes.{or_assoc}

-- a line that is as before but for marks
abbrev pub IsMarkedLine : List hb_glyph_info_t → List hb_glyph_info_t → Type 0
IsMarkedLine old new = AllZip IsMarkedFrom old new

marked_as : (k : ℕ) (g : hb_glyph_info_t) → bit_or k 3 ≡ 3 → IsMarkedFrom g (with_mask_bits k g)
marked_as k g inside = (k, inside, refl)

pub unmarked : (g : hb_glyph_info_t) → IsMarkedFrom g g
unmarked g = (0, refl, ap (λ m. record g { mask = m }) (sym (or_zero_r g.mask)))

marked_twice : (a b c : hb_glyph_info_t) → IsMarkedFrom a b → IsMarkedFrom b c → IsMarkedFrom a c
marked_twice a b c p q = (
  bit_or p.0 q.0,
  or_assoc p.0 q.0 3 ∙ (ap (bit_or p.0) q.1 ∙ p.1),
  q.2 ∙ (ap (with_mask_bits q.0) p.2 ∙ ap (λ m. record a { mask = m }) (or_assoc a.mask p.0 q.0)),
)

pub line_same : (gs : List hb_glyph_info_t) → IsMarkedLine gs gs
line_same [] = tt
line_same (g ∷ gs) = (unmarked g, line_same gs)

pub line_twice : (gs hs js : List hb_glyph_info_t) → IsMarkedLine gs hs → IsMarkedLine hs js → IsMarkedLine gs js
line_twice [] [] [] p q = tt
line_twice [] [] (c ∷ js) p q = absurd q
line_twice [] (b ∷ hs) js p q = absurd p
line_twice (a ∷ gs) [] js p q = absurd p
line_twice (a ∷ gs) (b ∷ hs) [] p q = absurd q
line_twice (a ∷ gs) (b ∷ hs) (c ∷ js) p q = (marked_twice a b c p.0 q.0, line_twice gs hs js p.1 q.1)

pub line_reversed : (gs hs : List hb_glyph_info_t) → IsMarkedLine gs hs → IsMarkedLine (reverse gs) (reverse hs)
line_reversed [] [] p = tt
line_reversed [] (b ∷ hs) p = absurd p
line_reversed (a ∷ gs) [] p = absurd p
line_reversed (a ∷ gs) (b ∷ hs) p =
    rw (reverse_onto gs a [], reverse_onto hs b []) (AllZip-push IsMarkedFrom (reverse gs) (reverse hs) a b (line_reversed gs hs p.1) p.0)

-- each glyph of it is as before but for marks
pub marked_at :
    (gs hs : List hb_glyph_info_t) → IsMarkedLine gs hs → (i : ℕ) → IsMarkedFrom (glyph_at gs i) (glyph_at hs i)
marked_at [] [] p i = unmarked no_glyph
marked_at [] (b ∷ hs) p i = absurd p
marked_at (a ∷ gs) [] p i = absurd p
marked_at (a ∷ gs) (b ∷ hs) p zero = p.0
marked_at (a ∷ gs) (b ∷ hs) p (suc i) = marked_at gs hs p.1 i

line_appended :
    (gs hs js ks : List hb_glyph_info_t) → IsMarkedLine gs hs → IsMarkedLine js ks → IsMarkedLine (gs ++ js) (hs ++ ks)
line_appended [] [] js ks p q = q
line_appended [] (b ∷ hs) js ks p q = absurd p
line_appended (a ∷ gs) [] js ks p q = absurd p
line_appended (a ∷ gs) (b ∷ hs) js ks p q = (p.0, line_appended gs hs js ks p.1 q)

line_mapped :
    (f : hb_glyph_info_t → hb_glyph_info_t) (gs : List hb_glyph_info_t)
    → ((g : hb_glyph_info_t) → IsMarkedFrom g (f g)) → IsMarkedLine gs (map f gs)
line_mapped f [] each = tt
line_mapped f (g ∷ gs) each = (each g, line_mapped f gs each)

-- a line is the three parts of any span
in_parts : (i j : ℕ) (gs : List hb_glyph_info_t) → i ≤ j → take i gs ++ (slice_range gs i j ++ drop j gs) ≡ gs
in_parts i j gs low =
    let rest : drop (j - i) (drop i gs) ≡ drop j gs = drop-drop (j - i) i gs ∙ ap (λ n. drop n gs) (omega (arith, low)) in
    ap (λ xs. take i gs ++ (slice_range gs i j ++ xs)) (sym rest) ∙ (ap (λ xs. take i gs ++ xs) (take-append-drop (j - i) (drop i gs)) ∙ take-append-drop i gs)

span_marked :
    (f : List hb_glyph_info_t → List hb_glyph_info_t) (i j : ℕ) (gs : List hb_glyph_info_t) → i ≤ j
    → ((xs : List hb_glyph_info_t) → IsMarkedLine xs (f xs)) → IsMarkedLine gs (on_span f i j gs)
span_marked f i j gs low each =
    subst (λ xs. IsMarkedLine xs (on_span f i j gs)) (in_parts i j gs low)
    (line_appended (take i gs) (take i gs) _ _ (line_same (take i gs)) (line_appended (slice_range gs i j) (f (slice_range gs i j)) _ _ (each (slice_range gs i j)) (line_same (drop j gs))))

break_marks : (xs : List hb_glyph_info_t) → IsMarkedLine xs (break_marked xs)
break_marks xs =
    line_mapped (marked_above (least_of xs) 3) xs (λ g.
    chosen (IsMarkedFrom g) (g.cluster == least_of xs) g (with_mask_bits 3 g) (λ _. unmarked g) (λ _. marked_as 3 g refl))

pub line_of_break : (b : Buffer) (start end : Option ℕ) → IsMarkedLine b.line (unsafe_to_break b start end).line
line_of_break b start end =
    let i = start_place start in
    let j = end_place end (length b.line) in
    chosen (IsMarkedLine b.line) (nat_le (i + 2) j) (on_span break_marked i j b.line) b.line
    (λ long. let low : i ≤ j = grind (arith, nat_tests, long) in span_marked break_marked i j b.line low break_marks) (λ _. line_same b.line)

pub line_of_concat : (b : Buffer) (start end : Option ℕ) → IsMarkedLine b.line (unsafe_to_concat b start end).line
line_of_concat b start end =
    let i = start_place start in
    let j = end_place end (length b.line) in
    chosen (IsMarkedLine b.line) (produces_concat b.flags && nat_lt i j) (on_span concat_marked i j b.line) b.line
    (λ yes. let low : i ≤ j = grind (arith, nat_tests, yes) in span_marked concat_marked i j b.line low (λ xs. line_mapped (with_mask_bits 2) xs (λ g. marked_as 2 g refl)))
    (λ _. line_same b.line)
