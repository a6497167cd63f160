-- The lines and positions of a text, in the order of drawing, where a font substitutes glyph by glyph and kerns pairs
-- along the line.
use Rattle.std.proofs.Common.{◌≡◌, ◌∙◌, sym, ap, refl, ℕ, suc, ◌==◌, Bool, true, false, cond, List, [], ◌∷◌, ◌++◌, map, reverse, length, arith, true≢false, nat_lt, pos, ◌+ℤ◌, neg_ℤ, if◌then◌else◌}
use Rattle.std.specs.List.{AllZip}
use Rattle.std.specs.Option.{option_map_or}
use Rattle.std.specs.Prelude.{IsSome, None, Option, Some, nat_le, option_map, slice_index_or, unwrap_or}
use Rattle.std.proofs.lemmas.Bool.Decides.{nat_tests}
use Rattle.std.proofs.lemmas.Grind.{reverse_onto}
use Rattle.std.proofs.lemmas.Int.{ints}
use Rattle.std.proofs.lemmas.List.{length-reverse}
use Rattle.aat_glyph.specs.Directions.{is_backward, is_forward}
use Rattle.aat_glyph.specs.declared.glyph.Direction.{Direction}
use Rattle.aat_glyph.specs.declared.glyph.GlyphPosition.{GlyphPosition}
use Rattle.aat_buffer.specs.Buffer.{Buffer, position_list, reversed, zero_position}
use Rattle.aat_buffer.specs.Removal.{is_deleted}
use Rattle.aat_kerning_machines.specs.KerningLaws.{IsMarkedFrom}
use Rattle.aat_glyph.specs.placement.Attachments.{drawn_chain, earlier}
use Rattle.aat_kerning.specs.Cut.{ordered_line, ordered_positions}
use Rattle.aat_kerning.specs.Zeroing.{without_room, zeroed_position, zeroed_positions}
use Rattle.aat_shaped_text.specs.Breaks.{is_unchained}
use Rattle.aat_shaped_text.proofs.ChainsSplit.{link, unchained_of}
use Rattle.aat_shaped_text.proofs.KernedApart.{Plain, plain_at}
use Rattle.aat_shaped_text.proofs.Looks.{Positions, plain}
use Rattle.aat_shaped_text.proofs.SpotsRuns.{Glyphs, map-reverse}

-- a list, turned round or not
abbrev pub turned : {X : Type 0} → Bool → List X → List X
turned t xs = if t then reverse xs else xs

pub map-turned : {X Y : Type 0} (f : X → Y) (t : Bool) (xs : List X) → map f (turned t xs) ≡ turned t (map f xs)
map-turned f true xs = map-reverse f xs
map-turned f false xs = refl

pub length-turned : {X : Type 0} (t : Bool) (xs : List X) → length (turned t xs) ≡ length xs
length-turned true xs = length-reverse xs
length-turned false xs = refl

-- the line and the positions of a buffer in processing order
pub ordered_line_is : (b : Buffer) (t : Bool) → is_backward b.direction ≡ t → ordered_line b ≡ turned t b.line
ordered_line_is b t is = ap (λ u. (cond u (reversed b) b).line) is ∙ by t
  where
    by : (t : Bool) → (cond t (reversed b) b).line ≡ turned t b.line
    by true = refl
    by false = refl

pub ordered_positions_are :
    (b : Buffer) (t : Bool) (qs : Positions) → is_backward b.direction ≡ t → b.positions ≡ Some qs
    → ordered_positions b ≡ turned t qs
ordered_positions_are b t qs is places = ap (λ u. position_list (cond u (reversed b) b)) is ∙ by t
  where
    by : (t : Bool) → position_list (cond t (reversed b) b) ≡ turned t qs
    by true = ap (λ o. unwrap_or (option_map reverse o) []) places
    by false = ap (λ o. unwrap_or o []) places

pub some_list : (o : Option Positions) → IsSome o → o ≡ Some (unwrap_or o [])
some_list None some = absurd (true≢false (sym some))
some_list (Some qs) some = refl

pub marked_plain : (gs hs : Glyphs) → AllZip IsMarkedFrom gs hs → map plain hs ≡ map plain gs
marked_plain [] [] all = refl
marked_plain [] (h ∷ hs) all = elim all [ ]
marked_plain (g ∷ gs) [] all = elim all [ ]
marked_plain (g ∷ gs) (h ∷ hs) all =
    ap (λ x. plain x ∷ map plain hs) all.0.2 ∙ ap (λ zs. plain g ∷ zs) (marked_plain gs hs all.1)

pub zeroed_plain : (gs : Glyphs) (qs : Positions) → zeroed_positions gs qs ≡ zeroed_positions (map plain gs) qs
zeroed_plain [] qs = refl
zeroed_plain (g ∷ gs) [] = refl
zeroed_plain (g ∷ gs) (q ∷ qs) = ap (λ zs. zeroed_position g q ∷ zs) (zeroed_plain gs qs)

pub length-zeroed : (gs : Glyphs) (qs : Positions) → length qs ≡ length gs → length (zeroed_positions gs qs) ≡ length gs
length-zeroed [] qs long = refl
length-zeroed (g ∷ gs) [] long = absurd (omega (arith, long))
length-zeroed (g ∷ gs) (q ∷ qs) long = ap suc (length-zeroed gs qs (omega (arith, long)))

pub zeroed_split :
    (gs hs : Glyphs) (ps qs : Positions) → length ps ≡ length gs
    → zeroed_positions (gs ++ hs) (ps ++ qs) ≡ zeroed_positions gs ps ++ zeroed_positions hs qs
zeroed_split [] hs [] qs long = refl
zeroed_split [] hs (p ∷ ps) qs long = absurd (omega (arith, long))
zeroed_split (g ∷ gs) hs [] qs long = absurd (omega (arith, long))
zeroed_split (g ∷ gs) hs (p ∷ ps) qs long =
    ap (λ zs. zeroed_position g p ∷ zs) (zeroed_split gs hs ps qs (omega (arith, long)))

pub zeroed_turned :
    (t : Bool) (gs : Glyphs) (qs : Positions) → length qs ≡ length gs
    → turned t (zeroed_positions gs qs) ≡ zeroed_positions (turned t gs) (turned t qs)
zeroed_turned false gs qs long = refl
zeroed_turned true [] [] long = refl
zeroed_turned true [] (q ∷ qs) long = absurd (omega (arith, long))
zeroed_turned true (g ∷ gs) [] long = absurd (omega (arith, long))
zeroed_turned true (g ∷ gs) (q ∷ qs) long =
    let next : length qs ≡ length gs = omega (arith, long) in
    let same : length (reverse qs) ≡ length (reverse gs) = omega (arith, next, length-reverse gs, length-reverse qs) in
    reverse_onto (zeroed_positions gs qs) (zeroed_position g q) []
    ∙ (ap (λ zs. zs ++ zeroed_position g q ∷ []) (zeroed_turned true gs qs next)
    ∙ (sym (zeroed_split (reverse gs) (g ∷ []) (reverse qs) (q ∷ []) same)
    ∙ (ap (λ us. zeroed_positions us (reverse qs ++ q ∷ [])) (sym (reverse_onto gs g []))
    ∙ ap (λ us. zeroed_positions (reverse (g ∷ gs)) us) (sym (reverse_onto qs q [])))))

-- what a glyph is attached to stays where it is deleted
pub zeroed_links : (gs : Glyphs) (qs : Positions) → length qs ≡ length gs → map link (zeroed_positions gs qs) ≡ map link qs
zeroed_links [] [] long = refl
zeroed_links [] (q ∷ qs) long = absurd (omega (arith, long))
zeroed_links (g ∷ gs) [] long = absurd (omega (arith, long))
zeroed_links (g ∷ gs) (q ∷ qs) long =
    let rest = zeroed_links gs qs (omega (arith, long)) in
    λ k. by (is_deleted g) k ∷ rest k
  where
    by : (t : Bool) → link (cond t (without_room q) q) ≡ link q
    by true = refl
    by false = refl

-- where no attach type is set nothing is attached
pub plain_unchained : (d : Direction) (qs : Positions) (i : ℕ) → Plain qs → is_unchained d qs i ≡ true
plain_unchained d qs i all =
    unchained_of d qs i
    (λ j from low. ap (λ o. option_map_or (nat_le i) o true) (none j (slice_index_or qs j zero_position) (plain_at qs j all)))
  where
    not_below : (i : ℕ) → nat_lt i i ≡ false
    not_below i = grind (arith, nat_tests)

    none : (i : ℕ) (q : GlyphPosition) → q.attach_type ≡ 0 → earlier i (pos i +ℤ drawn_chain d q) ≡ None
    none i q is =
        let here : pos i +ℤ pos 0 ≡ pos i = omega (arith, ints) in
        ap (λ n. earlier i (pos i +ℤ cond (n == 1) q.attach_chain (cond (n == 2) (cond (is_forward d) q.attach_chain (neg_ℤ q.attach_chain)) (pos 0)))) is
        ∙ (ap (earlier i) here ∙ ap (λ t. cond t (Some i) None) (not_below i))
