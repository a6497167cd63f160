-- Bounds of points that are near.
use Rattle.std.proofs.Common.{◌≡◌, ◌∙◌, refl, sym, ℕ, ◌<◌, Bool, true, false, cond, List, length, get_or}
use Rattle.std.specs.Prelude.{ℤ, int_lt}
use Rattle.std.specs.Int.{int_max, int_min}
use Rattle.std.specs.List.{list_all}
use Rattle.std.proofs.lemmas.List.Folds.{list_all_at}
use Rattle.aat_read_outlines.specs.declared.outline.OutlinePoint.{OutlinePoint}
use Rattle.aat_write_truetype.specs.outlines.GlyphData.{is_near, is_short}

either : (b : Bool) (x y : ℤ) → is_short x ≡ true → is_short y ≡ true → is_short (cond b x y) ≡ true
either true x y first second = first
either false x y first second = second

-- the lesser of two short numbers is short, and so is the greater
pub least_short : (x y : ℤ) → is_short x ≡ true → is_short y ≡ true → is_short (int_min x y) ≡ true
least_short x y first second = either (int_lt y x) y x second first

pub greatest_short : (x y : ℤ) → is_short x ≡ true → is_short y ≡ true → is_short (int_max x y) ≡ true
greatest_short x y first second = either (int_lt y x) x y first second

by_test : {X : Type 0} (b : Bool) (p : X → Bool) (xs : List X) → (b ≡ false → list_all p xs ≡ false) → list_all p xs ≡ true → b ≡ true
by_test true p xs falls all = refl
by_test false p xs falls all = let none = sym (falls refl) ∙ all in cc

-- where all points are near, each is
pub near_at :
    (points : List OutlinePoint) (i : ℕ) (d : OutlinePoint)
    → i < length points
    → list_all is_near points ≡ true
    → is_near (get_or points i d) ≡ true
near_at points i d below all = by_test (is_near (get_or points i d)) is_near points (list_all_at is_near points i d below) all
