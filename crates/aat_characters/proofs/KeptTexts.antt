-- Texts with marks of which each character is written as it is.
use Rattle.std.proofs.Common.{◌≡◌, ℕ, ◌<◌, Bool, true, false, not, ◌&&◌, ◌||◌, ◌==◌, ◌⊎◌, inl, inr, cond, List, [], ◌∷◌, ◌++◌, length, map, min, reverse, nat_le, Option, Some, None, is_some, option_map, get_or, set, refl, sym, ap, ap₂, ◌∙◌, append_assoc, append-nil, arith}
use Rattle.std.proofs.lemmas.Bool.{and_from, and_parts, cases_eq, eq-eqb, eqb-true, le-leb, ne_eqb}
use Rattle.std.proofs.lemmas.List.{get_or-replicate, get_or-set_other, get_or-set_same, reverse-append}
use Rattle.std.proofs.lemmas.List.Concat.{flat_map-append}
use Rattle.std.specs.List.{find, flat_map, list_all}
use Rattle.std.specs.Option.{option_map_or}
use Rattle.std.specs.Prelude.{if◌then◌else◌, replicate}
use Rattle.unicode_normalization.specs.Compose.{primary_composite}
use Rattle.unicode_normalization.specs.Decompose.{decompose_canonical}
use Rattle.aat_characters.specs.Composed.{composed, composed_from, composite_in, composite_of, has_marks, normalized}
use Rattle.aat_characters.specs.Decomposed.{chosen_way, decomposed, decomposed_character, decomposed_part, has_selector, is_variation_selector, stand_in, ways, ways_from, ways_of_parts}
use Rattle.aat_characters.specs.Marks.{is_mark, mark_class}
use Rattle.aat_characters.specs.Ordered.{ordered}
use Rattle.aat_characters.specs.PlacedCharacters.{at_place, has_mark, is_moved, placed, placed_class, written_as}
use Rattle.aat_characters.specs.declared.kept.KnownWritings.{KnownWritings}
use Rattle.aat_characters.specs.declared.kept.Way.{Way}
use Rattle.aat_characters.specs.declared.kept.Way.TheVariants.{Itself, Joined, Other}
use Rattle.aat_characters.specs.declared.kept.Writing.{Writing}
use Rattle.aat_characters.specs.declared.placed_character.PlacedCharacter.{PlacedCharacter}
use Rattle.aat_characters.specs.inside.KeptTexts.{AllStay, AreKnownWritings, IsItself, IsJoined, IsJoinedFrom, IsWay, composes_to, joins_again, IsWriting, Stays, TextStays, is_written, starter_behind}
use Rattle.aat_characters.specs.inside.Ordering.{in_order_behind}
use Rattle.aat_characters.proofs.InOrder.{ordered_same}
use Rattle.aat_characters.proofs.PartsLemmas.{in_parts, made_of_parts}
use Rattle.aat_characters.proofs.WaysLemmas.{stays_written}

-- what a character becomes behind a letter
abbrev long : (ℕ → Bool) → PlacedCharacter → List PlacedCharacter
long has c = decomposed_character has false c

itself_written : (has : ℕ → Bool) (shortest : Bool) (c : PlacedCharacter) → IsItself c.character → decomposed_character has shortest c ≡ c ∷ []
itself_written has shortest c w = stays_written has shortest c w.parts w.space w.hyphen

module _ (has : ℕ → Bool) (c : PlacedCharacter) (first last : ℕ) (w : IsJoined has c.character first last) where
  two : List ℕ
  two = first ∷ last ∷ []

  chosen : chosen_way has false (ways c.character) ≡ Some (first ∷ last ∷ [])
  chosen =
      let fewer = option_map_or (λ joined. ways_from joined []) (primary_composite first last) [] in
      ap (λ ps. find (list_all has) (reverse ((c.character ∷ []) ∷ ways_of_parts ps))) w.parts
      ∙ ap (find (list_all has)) (reverse-append ((c.character ∷ []) ∷ fewer) ((first ∷ last ∷ []) ∷ []))
      ∙ ap₂ (λ a b. cond (a && (b && true)) (Some (first ∷ last ∷ [])) (find (list_all has) (reverse ((c.character ∷ []) ∷ fewer)))) w.has_first w.has_last

  joined_written : long has c ≡ written_as c first ∷ written_as c last ∷ []
  joined_written = ap (λ way. option_map_or (map (written_as c)) way (stand_in has c ∷ [])) chosen

-- ---- decomposed

abbrev Shown : List PlacedCharacter → Type 0
Shown [] = Unit {0}
Shown (c ∷ cs) = (is_variation_selector c.character ≡ false) × Shown cs

shown_last : (cs : List PlacedCharacter) (c : PlacedCharacter) → is_variation_selector c.character ≡ false → Shown cs → Shown (cs ++ c ∷ [])
shown_last [] c e h = (e, tt)
shown_last (d ∷ ds) c e h = (h.0, shown_last ds c e h.1)

no_selector : (cs : List PlacedCharacter) → Shown cs → has_selector cs ≡ false
no_selector [] h = refl
no_selector (c ∷ cs) h = ap (λ b. b || has_selector cs) h.0 ∙ no_selector cs h.1

module _ (has : ℕ → Bool) where
  -- a part of one character is written as it would be with marks behind it
  abbrev Alone : List PlacedCharacter → Type 0
  Alone [] = Unit {0}
  Alone (c ∷ []) = decomposed_character has true c ≡ long has c
  Alone (c ∷ d ∷ ds) = Unit {0}

  alone_more : (p : PlacedCharacter) (ps : List PlacedCharacter) (c : PlacedCharacter) → Alone ((p ∷ ps) ++ c ∷ [])
  alone_more p [] c = tt
  alone_more p (q ∷ qs) c = tt

  unselected : (part : List PlacedCharacter) → Alone part → flat_map (decomposed_character has (length part == 1)) part ≡ flat_map (long has) part
  unselected [] a = refl
  unselected (c ∷ []) a = ap (λ xs. xs ++ []) a
  unselected (c ∷ d ∷ ds) a =
      ap (λ b. flat_map (decomposed_character has b) (c ∷ d ∷ ds)) (ne_eqb (length (c ∷ d ∷ ds)) 1 (λ e. omega (arith, e)))

  part_long : (part : List PlacedCharacter) → Shown part → Alone part → decomposed_part has part ≡ flat_map (long has) part
  part_long part h a =
      ap (λ b. cond b part (flat_map (decomposed_character has (length part == 1)) part)) (no_selector part h) ∙ unselected part a

  abbrev joins : List PlacedCharacter → PlacedCharacter → Bool
  joins part c = has_mark c

  shown_of : (s k : ℕ) (c : PlacedCharacter) → Stays has s k c → is_variation_selector c.character ≡ false
  shown_of s k c (inl w) = w.itself.selector
  shown_of s k c (inr w) = w.joined.selector

  alone_of : (s k : ℕ) (c : PlacedCharacter) → has_mark c ≡ false → Stays has s k c → decomposed_character has true c ≡ long has c
  alone_of s k c e (inl w) = itself_written has true c w.itself ∙ sym (itself_written has false c w.itself)
  alone_of s k c e (inr w) = let m = w.joined.mark in cc

  parts_long : (s k : ℕ) (p : PlacedCharacter) (ps cs : List PlacedCharacter) → Shown (p ∷ ps) → Alone (p ∷ ps) → AllStay has s k cs
      → in_parts joins (decomposed_part has) (p ∷ ps) cs ≡ flat_map (long has) ((p ∷ ps) ++ cs)
  parts_long s k p ps [] h a stay = part_long (p ∷ ps) h a ∙ ap (flat_map (long has)) (sym (append-nil (p ∷ ps)))
  parts_long s k p ps (c ∷ cs) h a stay =
      by (has_mark c) refl
      (parts_long (starter_behind s c) (placed_class c) p (ps ++ c ∷ []) cs)
      (parts_long (starter_behind s c) (placed_class c) c [] cs)
    where
      by : (b : Bool) → has_mark c ≡ b
          → (Shown (p ∷ ps ++ c ∷ []) → Alone (p ∷ ps ++ c ∷ []) → AllStay has (starter_behind s c) (placed_class c) cs
          → in_parts joins (decomposed_part has) (p ∷ ps ++ c ∷ []) cs ≡ flat_map (long has) ((p ∷ ps ++ c ∷ []) ++ cs))
          → (Shown (c ∷ []) → Alone (c ∷ []) → AllStay has (starter_behind s c) (placed_class c) cs
          → in_parts joins (decomposed_part has) (c ∷ []) cs ≡ flat_map (long has) (c ∷ cs))
          → in_parts joins (decomposed_part has) (p ∷ ps) (c ∷ cs) ≡ flat_map (long has) ((p ∷ ps) ++ c ∷ cs)
      by true e grown begun =
          ap (λ b. cond b (in_parts joins (decomposed_part has) (p ∷ ps ++ c ∷ []) cs) (decomposed_part has (p ∷ ps) ++ in_parts joins (decomposed_part has) (c ∷ []) cs)) e
          ∙ (grown (shown_last (p ∷ ps) c (shown_of s k c stay.0) h) (alone_more p ps c) stay.1
          ∙ ap (flat_map (long has)) (append_assoc (p ∷ ps) (c ∷ []) cs))
      by false e grown begun =
          ap (λ b. cond b (in_parts joins (decomposed_part has) (p ∷ ps ++ c ∷ []) cs) (decomposed_part has (p ∷ ps) ++ in_parts joins (decomposed_part has) (c ∷ []) cs)) e
          ∙ (ap₂ (λ xs ys. xs ++ ys) (part_long (p ∷ ps) h a) (begun (shown_of s k c stay.0, tt) (alone_of s k c e stay.0) stay.1)
          ∙ sym (flat_map-append (long has) (p ∷ ps) (c ∷ cs)))

  decomposed_long : (c : PlacedCharacter) (cs : List PlacedCharacter) → TextStays has (c ∷ cs) → decomposed has (c ∷ cs) ≡ flat_map (long has) (c ∷ cs)
  decomposed_long c cs stay =
      sym (made_of_parts joins (decomposed_part has) refl (c ∷ cs))
      ∙ (first (has_mark c)
      ∙ parts_long c.character (placed_class c) c [] cs (stay.0.selector, tt)
      (itself_written has true c stay.0 ∙ sym (itself_written has false c stay.0)) stay.1)
    where
      first : (b : Bool) → cond b (in_parts joins (decomposed_part has) (c ∷ []) cs) (decomposed_part has [] ++ in_parts joins (decomposed_part has) (c ∷ []) cs)
          ≡ in_parts joins (decomposed_part has) (c ∷ []) cs
      first true = refl
      first false = refl

  -- ---- in order

  in_order : (s k : ℕ) (cs : List PlacedCharacter) → AllStay has s k cs → in_order_behind k (flat_map (long has) cs) ≡ true
  in_order s k [] stay = refl
  in_order s k (c ∷ cs) stay = of stay.0 (in_order (starter_behind s c) (placed_class c) cs stay.1)
    where
      of : Stays has s k c → in_order_behind (placed_class c) (flat_map (long has) cs) ≡ true → in_order_behind k (flat_map (long has) (c ∷ cs)) ≡ true
      of (inl w) rest =
          ap (λ xs. in_order_behind k (xs ++ flat_map (long has) cs)) (itself_written has false c w.itself) ∙ and_from _ _ w.order rest
      of (inr w) rest =
          let j = w.joined in
          ap (λ xs. in_order_behind k (xs ++ flat_map (long has) cs)) (joined_written has c w.first w.last j)
          ∙ ap₂ (λ a b. (a == 0 || nat_le k a) && ((b == 0 || nat_le a b) && in_order_behind b (flat_map (long has) cs))) j.first_class (j.last_class ∙ sym j.class)
          ∙ ap (λ b. (b == 0 || nat_le 0 b) && in_order_behind b (flat_map (long has) cs)) j.class
          ∙ ap (λ b. in_order_behind b (flat_map (long has) cs)) (sym j.class) ∙ rest

  text_in_order : (c : PlacedCharacter) (cs : List PlacedCharacter) → TextStays has (c ∷ cs) → in_order_behind 0 (flat_map (long has) (c ∷ cs)) ≡ true
  text_in_order c cs stay =
      ap (λ xs. in_order_behind 0 (xs ++ flat_map (long has) cs)) (itself_written has false c stay.0)
      ∙ and_from _ _ (above (placed_class c)) (in_order c.character (placed_class c) cs stay.1)
    where
      above : (n : ℕ) → (n == 0 || nat_le 0 n) ≡ true
      above n = ap (λ b. n == 0 || b) (le-leb 0 n (omega arith)) ∙ either (n == 0)
        where
          either : (b : Bool) → (b || true) ≡ true
          either true = refl
          either false = refl

  -- ---- composed

  none : (mark free : Bool) (o : Option ℕ) (f : ℕ → PlacedCharacter) → (mark && is_some o) ≡ false → (if mark && free then option_map f o else None) ≡ None
  none true true None f e = refl
  none true true (Some p) f e = cc
  none true false o f e = refl
  none false free o f e = refl

  apart_of : (starter : PlacedCharacter) (between : List PlacedCharacter) (c : PlacedCharacter)
      → (is_mark c.character && is_some (composite_in has starter.character c.character)) ≡ false → composite_of has starter between c ≡ None
  apart_of starter between c e = none (has_mark c) _ (composite_in has starter.character c.character) (λ p. placed (min starter.place c.place, p)) e

  -- a step over a character that does not compose
  past : (starter : PlacedCharacter) (between : List PlacedCharacter) (c : PlacedCharacter) (cs : List PlacedCharacter) → composite_of has starter between c ≡ None
      → composed_from has starter between (c ∷ cs)
      ≡ (if is_moved c then composed_from has starter (between ++ c ∷ []) cs else starter ∷ between ++ composed_from has c [] cs)
  past starter between c cs e =
      ap (λ o. elim o [
        | Some p ↦ composed_from has p (map (at_place p.place) between) cs
        | None ↦ if is_moved c then composed_from has starter (between ++ c ∷ []) cs else starter ∷ between ++ composed_from has c [] cs
      ]) e

  same_place : (n : ℕ) → min n n ≡ n
  same_place n = omega arith

  module _ (c : PlacedCharacter) (first last : ℕ) (j : IsJoined has c.character first last) (space : c.space ≡ None) where
    again : composite_of has (written_as c first) [] (written_as c last) ≡ Some c
    again =
        ap₂ (λ m o. if m && true then option_map (λ p. placed (min c.place c.place, p)) o else None) j.last_mark j.composite
        ∙ ap₂ (λ n s. Some (record { place = n; character = c.character; space = s })) (same_place c.place) (sym space)

    joined_again : (cs : List PlacedCharacter) → composed_from has (written_as c first) [] (written_as c last ∷ cs) ≡ composed_from has c [] cs
    joined_again cs =
        ap (λ o. elim o [
          | Some p ↦ composed_from has p (map (at_place p.place) []) cs
          | None ↦ if is_moved (written_as c last) then composed_from has (written_as c first) ([] ++ written_as c last ∷ []) cs else written_as c first ∷ [] ++ composed_from has (written_as c last) [] cs
        ]) again

  stays_composed : (starter : PlacedCharacter) (k : ℕ) (between cs : List PlacedCharacter) → AllStay has starter.character k cs
      → composed_from has starter between (flat_map (long has) cs) ≡ starter ∷ between ++ cs
  stays_composed starter k between [] stay = ap (λ xs. starter ∷ xs) (sym (append-nil between))
  stays_composed starter k between (c ∷ cs) stay =
      of stay.0 (placed_class c == 0) refl stay.1 (stays_composed c (placed_class c) [] cs) (stays_composed starter (placed_class c) (between ++ c ∷ []) cs)
    where
      of : Stays has starter.character k c → (b : Bool) → (placed_class c == 0) ≡ b → AllStay has (if b then c.character else starter.character) (placed_class c) cs
          → (AllStay has c.character (placed_class c) cs → composed_from has c [] (flat_map (long has) cs) ≡ c ∷ cs)
          → (AllStay has starter.character (placed_class c) cs
          → composed_from has starter (between ++ c ∷ []) (flat_map (long has) cs) ≡ starter ∷ (between ++ c ∷ []) ++ cs)
          → composed_from has starter between (flat_map (long has) (c ∷ cs)) ≡ starter ∷ between ++ c ∷ cs
      of (inl w) true e rest begun kept =
          ap (λ xs. composed_from has starter between (xs ++ flat_map (long has) cs)) (itself_written has false c w.itself)
          ∙ past starter between c (flat_map (long has) cs) (apart_of starter between c w.apart)
          ∙ ap (λ b. if not b then composed_from has starter (between ++ c ∷ []) (flat_map (long has) cs) else starter ∷ between ++ composed_from has c [] (flat_map (long has) cs)) e
          ∙ ap (λ xs. starter ∷ between ++ xs) (begun rest)
      of (inl w) false e rest begun kept =
          ap (λ xs. composed_from has starter between (xs ++ flat_map (long has) cs)) (itself_written has false c w.itself)
          ∙ past starter between c (flat_map (long has) cs) (apart_of starter between c w.apart)
          ∙ ap (λ b. if not b then composed_from has starter (between ++ c ∷ []) (flat_map (long has) cs) else starter ∷ between ++ composed_from has c [] (flat_map (long has) cs)) e
          ∙ kept rest ∙ ap (λ xs. starter ∷ xs) (append_assoc between (c ∷ []) cs)
      of (inr w) true e rest begun kept =
          let j = w.joined in
          let a = written_as c w.first in
          let tail = written_as c w.last ∷ flat_map (long has) cs in
          ap (λ xs. composed_from has starter between (xs ++ flat_map (long has) cs)) (joined_written has c w.first w.last j)
          ∙ past starter between a tail (apart_of starter between a w.apart)
          ∙ ap (λ n. if not (n == 0) then composed_from has starter (between ++ a ∷ []) tail else starter ∷ between ++ composed_from has a [] tail) j.first_class
          ∙ ap (λ xs. starter ∷ between ++ xs) (joined_again c w.first w.last j w.space (flat_map (long has) cs) ∙ begun rest)
      of (inr w) false e rest begun kept =
          let zero : (placed_class c == 0) ≡ true = eq-eqb (placed_class c) 0 w.joined.class in cc

  pub kept_text : (cs : List PlacedCharacter) → has_marks cs ≡ true → TextStays has cs → normalized has cs ≡ cs
  kept_text [] m stay = cc
  kept_text (c ∷ cs) m stay =
      ap (λ b. if b then composed has (ordered (decomposed has (c ∷ cs))) else decomposed has (c ∷ cs)) m
      ∙ ap (λ xs. composed has (ordered xs)) (decomposed_long c cs stay)
      ∙ ap (composed has) (ordered_same (flat_map (long has) (c ∷ cs)) (text_in_order c cs stay))
      ∙ ap (λ xs. composed has (xs ++ flat_map (long has) cs)) (itself_written has false c stay.0)
      ∙ stays_composed c (placed_class c) [] cs stay.1

-- where the writing of a character fits, it stays
pub fits : (has : ℕ → Bool) (starter class : ℕ) (c : PlacedCharacter) (w : Writing) → IsWriting has c.character w → is_written w.way ≡ true
    → (w.class == 0 || nat_le class w.class) ≡ true → c.space ≡ None → (w.is_mark && is_some (composite_in has starter w.first)) ≡ false
    → Stays has starter class c
fits has starter class c w is some order space apart = of w.way is.way some
  where
    of : (way : Way) → IsWay has c.character w.first w.is_mark way → is_written way ≡ true → Stays has starter class c
    of Itself h e =
        inl (record {
          itself = h.itself;
          order = ap (λ n. n == 0 || nat_le class n) (sym is.class) ∙ order;
          apart = ap₂ (λ m n. m && is_some (composite_in has starter n)) (sym h.told) (sym h.same) ∙ apart;
        })
    of Joined h e =
        inr (record {
          first = w.first;
          last = h.joined.last;
          joined = h.joined.joined;
          space = space;
          apart = ap (λ m. m && is_some (composite_in has starter w.first)) (sym h.told) ∙ apart;
        })
    of Other h e = cc

two_parts : (ps : List ℕ) (a b : ℕ) → length ps ≡ 2 → a ≡ get_or ps 0 a → b ≡ get_or ps 1 b → ps ≡ a ∷ b ∷ []
two_parts [] a b n e f = absurd (omega (arith, n))
two_parts (p ∷ []) a b n e f = absurd (omega (arith, n))
two_parts (p ∷ q ∷ []) a b n e f = ap₂ (λ x y. x ∷ y ∷ []) (sym e) (sym f)
two_parts (p ∷ q ∷ r ∷ rs) a b n e f = absurd (omega (arith, n))

composed_to : (o : Option ℕ) (c : ℕ) → option_map_or (λ p. p == c) o false ≡ true → o ≡ Some c
composed_to (Some p) c e = ap Some (eqb-true p c e)
composed_to None c e = cc

pub joined_from : (has : ℕ → Bool) (c first last : ℕ) (parts : List ℕ) → parts ≡ decompose_canonical c → length parts ≡ 2
    → first ≡ get_or parts 0 first → last ≡ get_or parts 1 last → is_variation_selector c ≡ false → joins_again has c first last ≡ true
    → IsJoinedFrom has c first
joined_from has c first last parts e n f l selector h =
    let h₇ = and_parts _ (composes_to has first last c) h in
    let h₆ = and_parts _ (has last) h₇.0 in
    let h₅ = and_parts _ (has first) h₆.0 in
    let h₄ = and_parts _ (mark_class last == 0) h₅.0 in
    let h₃ = and_parts _ (mark_class first == 0) h₄.0 in
    let h₂ = and_parts _ (is_mark last) h₃.0 in
    let h₁ = and_parts (is_mark c) (mark_class c == 0) h₂.0 in
    record {
      last = last;
      joined = record {
        selector = selector;
        mark = h₁.0;
        class = eqb-true (mark_class c) 0 h₁.1;
        parts = sym e ∙ two_parts parts first last n f l;
        has_first = h₅.1;
        has_last = h₆.1;
        first_class = eqb-true (mark_class first) 0 h₃.1;
        last_class = eqb-true (mark_class last) 0 h₄.1;
        last_mark = h₂.1;
        composite = composed_to (composite_in has first last) c h₇.1;
      };
    }

pub none_known : (w : Writing) (has : ℕ → Bool) → AreKnownWritings has (record { characters = replicate 128 0; writings = replicate 128 w })
none_known w has = λ i below any some. absurd (omega (arith, some, get_or-replicate {A = ℕ} 128 i 0 0 below))

-- one more writing is kept
pub kept_more : (has : ℕ → Bool) (known : KnownWritings) (at ch : ℕ) (w : Writing) → at < 128 → length known.characters ≡ 128 → length known.writings ≡ 128
    → IsWriting has ch w → AreKnownWritings has known
    → AreKnownWritings has (record { characters = set known.characters at ch; writings = set known.writings at w })
kept_more has known at ch w lt n m is all = λ i below any some. of i below any some (cases_eq i at)
  where
    of : (i : ℕ) → i < 128 → (any : Writing) → 0 < get_or (set known.characters at ch) i 0 → ((i ≡ at) ⊎ (i ≡ at → ⊥))
        → IsWriting has (get_or (set known.characters at ch) i 0) (get_or (set known.writings at w) i any)
    of i below any some (inl e) =
        let c : get_or (set known.characters at ch) i 0 ≡ ch = ap (λ k. get_or (set known.characters at ch) k 0) e ∙ get_or-set_same known.characters at ch 0 (omega (arith, lt, n)) in
        let v : get_or (set known.writings at w) i any ≡ w = ap (λ k. get_or (set known.writings at w) k any) e ∙ get_or-set_same known.writings at w any (omega (arith, lt, m)) in
        rw c (rw v is)
    of i below any some (inr ne) =
        let c : get_or (set known.characters at ch) i 0 ≡ get_or known.characters i 0 = get_or-set_other known.characters at i ch 0 ne in
        let v : get_or (set known.writings at w) i any ≡ get_or known.writings i any = get_or-set_other known.writings at i w any ne in
        rw c (rw v (all i below any (omega (arith, some, c))))

-- ---- steps over the characters of a text

pub all_rest : (has : ℕ → Bool) (s k l : ℕ) (rest others : List PlacedCharacter) → rest ≡ others → k ≡ l → AllStay has s k rest → AllStay has s l others
all_rest has s k l rest others e f h = rw (sym e) (rw (sym f) h)

module _ (has : ℕ → Bool) (s k t l : ℕ) (x : PlacedCharacter) (before after rest : List PlacedCharacter) (P : Type 0) where
  pub one_stays : ((cs : List PlacedCharacter) → cs ≡ before → AllStay has s k cs → P) → before ≡ x ∷ after → Stays has s k x
      → t ≡ (if l == 0 then x.character else s) → l ≡ placed_class x → rest ≡ after → AllStay has t l rest → P
  one_stays held e stays next class same h =
      let starter : t ≡ starter_behind s x = next ∙ ap (λ n. if n == 0 then x.character else s) class in
      let moved : AllStay has (starter_behind s x) (placed_class x) rest = rw (sym starter) (rw (sym class) h) in
      held (x ∷ rest) (ap (λ cs. x ∷ cs) same ∙ sym e) (stays, moved)
