-- The first step of arguments, and those behind it.
use Rattle.std.proofs.Common.{◌≡◌, ◌∙◌, ap, refl, sym, ◌≤◌, Bool, not, List, [], ◌∷◌, length, drop, ℤ, pos, arith}
use Rattle.std.specs.List.{fold}
use Rattle.aat_read_charstrings.specs.Paths.{Drawing, drawn}
use Rattle.aat_read_charstrings.specs.Steps.{curve, curves, even_curve, even_curves_from, number, only_left, turning_curve, turning_curves}
use Rattle.aat_read_charstrings.specs.declared.path.Step.{Step}

-- where a step is drawn, the others are left
pub draws_on :
    (path new : Drawing) (step made : Step) (all rest : List Step) (end : Drawing)
    → all ≡ step ∷ rest
    → made ≡ step
    → new ≡ drawn path made
    → fold drawn path all ≡ end
    → fold drawn new rest ≡ end
draws_on path new step made all rest end split is draws was =
    ap (λ (p : Drawing). fold drawn p rest) (draws ∙ ap (drawn path) is)
    ∙ sym (ap (fold drawn path) split)
    ∙ was

pub first_curve :
    (xs : List ℤ)
    → 6 ≤ length xs
    → curves xs ≡ curve (number xs 0) (number xs 1) (number xs 2) (number xs 3) (number xs 4) (number xs 5) ∷ curves (drop 6 xs)
first_curve [] long = absurd (omega arith)
first_curve (a ∷ []) long = absurd (omega arith)
first_curve (a ∷ b ∷ []) long = absurd (omega arith)
first_curve (a ∷ b ∷ c ∷ []) long = absurd (omega arith)
first_curve (a ∷ b ∷ c ∷ d ∷ []) long = absurd (omega arith)
first_curve (a ∷ b ∷ c ∷ d ∷ e ∷ []) long = absurd (omega arith)
first_curve (a ∷ b ∷ c ∷ d ∷ e ∷ f ∷ rest) long = refl

pub first_even_curve :
    (is_flat : Bool) (aside : ℤ) (xs : List ℤ)
    → 4 ≤ length xs
    → even_curves_from is_flat aside xs
    ≡ even_curve is_flat aside (number xs 0) (number xs 1) (number xs 2) (number xs 3)
    ∷ even_curves_from is_flat (pos 0) (drop 4 xs)
first_even_curve is_flat aside [] long = absurd (omega arith)
first_even_curve is_flat aside (a ∷ []) long = absurd (omega arith)
first_even_curve is_flat aside (a ∷ b ∷ []) long = absurd (omega arith)
first_even_curve is_flat aside (a ∷ b ∷ c ∷ []) long = absurd (omega arith)
first_even_curve is_flat aside (a ∷ b ∷ c ∷ d ∷ rest) long = refl

pub first_turning_curve :
    (is_flat : Bool) (xs : List ℤ)
    → 4 ≤ length xs
    → turning_curves is_flat xs
    ≡ turning_curve is_flat (only_left (drop 4 xs)) (number xs 0) (number xs 1) (number xs 2) (number xs 3)
    ∷ turning_curves (not is_flat) (drop 4 xs)
first_turning_curve is_flat [] long = absurd (omega arith)
first_turning_curve is_flat (a ∷ []) long = absurd (omega arith)
first_turning_curve is_flat (a ∷ b ∷ []) long = absurd (omega arith)
first_turning_curve is_flat (a ∷ b ∷ c ∷ []) long = absurd (omega arith)
first_turning_curve is_flat (a ∷ b ∷ c ∷ d ∷ rest) long = refl

-- what too few arguments draw
pub no_curve : (xs : List ℤ) → length xs ≤ 5 → curves xs ≡ []
no_curve [] short = refl
no_curve (a ∷ []) short = refl
no_curve (a ∷ b ∷ []) short = refl
no_curve (a ∷ b ∷ c ∷ []) short = refl
no_curve (a ∷ b ∷ c ∷ d ∷ []) short = refl
no_curve (a ∷ b ∷ c ∷ d ∷ e ∷ []) short = refl
no_curve (a ∷ b ∷ c ∷ d ∷ e ∷ f ∷ rest) short = absurd (omega arith)

pub no_even_curve : (is_flat : Bool) (aside : ℤ) (xs : List ℤ) → length xs ≤ 3 → even_curves_from is_flat aside xs ≡ []
no_even_curve is_flat aside [] short = refl
no_even_curve is_flat aside (a ∷ []) short = refl
no_even_curve is_flat aside (a ∷ b ∷ []) short = refl
no_even_curve is_flat aside (a ∷ b ∷ c ∷ []) short = refl
no_even_curve is_flat aside (a ∷ b ∷ c ∷ d ∷ rest) short = absurd (omega arith)

pub no_turning_curve : (is_flat : Bool) (xs : List ℤ) → length xs ≤ 3 → turning_curves is_flat xs ≡ []
no_turning_curve is_flat [] short = refl
no_turning_curve is_flat (a ∷ []) short = refl
no_turning_curve is_flat (a ∷ b ∷ []) short = refl
no_turning_curve is_flat (a ∷ b ∷ c ∷ []) short = refl
no_turning_curve is_flat (a ∷ b ∷ c ∷ d ∷ rest) short = absurd (omega arith)
