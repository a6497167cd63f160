-- The places of a line over which a glyph is attached, from its end to its front.
use Rattle.std.proofs.Common.{◌≡◌, ◌∙◌, ap, refl, sym, ℕ, zero, suc, ◌+◌, ◌-◌, ◌≤◌, ◌&&◌, Bool, true, false, List, arith, get_or, length, min, nat_le}
use Rattle.std.proofs.lemmas.Bool.Decides.{nat_tests}
use Rattle.std.specs.List.{list_all, range_with_len}
use Rattle.std.specs.Option.{option_map_or}
use Rattle.std.specs.Prelude.{Option, Some, None, unwrap_or}
use Rattle.aat_glyph.specs.declared.glyph.Direction.{Direction}
use Rattle.aat_glyph.specs.declared.glyph.GlyphPosition.{GlyphPosition}
use Rattle.aat_glyph.specs.placement.Attachments.{IsUnattached, parent}
use Rattle.aat_shaped_text.specs.Breaks.{is_unchained}
use Rattle.aat_shaped_text.specs.KernedPlaces.{ClosesChained}

-- none of m glyphs from place a on is attached to one before place i
abbrev pub are_from : Direction → List GlyphPosition → ℕ → ℕ → ℕ → Bool
are_from d qs a m i = list_all (λ j. option_map_or (nat_le i) (parent d qs j) true) (range_with_len a m)

both_below : (i p least : ℕ) → (nat_le i p && nat_le i least) ≡ nat_le i (min least p)
both_below i p least = grind (arith, nat_tests)

none_below : (i least : ℕ) → nat_le i least ≡ nat_le i (min least least)
none_below i least = grind (arith, nat_tests)

-- one glyph more
pub from_more :
    (d : Direction) (qs : List GlyphPosition) (a m least i : ℕ) → are_from d qs (a + 1) m i ≡ nat_le i least
    → are_from d qs a (suc m) i ≡ nat_le i (min least (unwrap_or (parent d qs a) least))
from_more d qs a m least i before = by (parent d qs a)
  where
    by : (o : Option ℕ) → (option_map_or (nat_le i) o true && are_from d qs (a + 1) m i) ≡ nat_le i (min least (unwrap_or o least))
    by (Some p) = ap (λ (t : Bool). nat_le i p && t) before ∙ both_below i p least
    by None = before ∙ none_below i least

-- where nothing is attached no place is closed
pub unattached_open : (d : Direction) (qs : List GlyphPosition) → IsUnattached d qs → (i : ℕ) → is_unchained d qs i ≡ true
unattached_open d qs alone i = each i (length qs - i) (omega arith)
  where
    each : (a m : ℕ) → m ≤ length qs - a → are_from d qs a m i ≡ true
    each a zero within = refl
    each a (suc m) within =
        ap (λ (o : Option ℕ). option_map_or (nat_le i) o true && are_from d qs (a + 1) m i) (alone a (omega (arith, within)))
        ∙ each (a + 1) m (omega (arith, within))

pub closes_none : (d : Direction) (qs : List GlyphPosition) (places : List Bool) → IsUnattached d qs → ClosesChained d qs places places
closes_none d qs places alone = record {
  long = refl;
  opens = λ i low. kept (get_or places i false) ∙ ap (λ (t : Bool). get_or places i false && t) (sym (unattached_open d qs alone i));
}
  where
    kept : (t : Bool) → t ≡ (t && true)
    kept true = refl
    kept false = refl
