-- Rows of points that are not refused.
use Rattle.std.proofs.Common.{◌≡◌, ℕ, zero, suc, ◌+◌, ◌<◌, ◌≤◌, List, [], ◌∷◌, length, get_or, Bool, true, false, cond, Option, Some, None, All, refl, sym, subst, arith}
use Rattle.std.specs.Prelude.{nat_lt}
use Rattle.std.specs.declared.vec.Vec.{Vec}
use Rattle.std.proofs.lemmas.Bool.{ltb-false}
use Rattle.aat_kerning_tables.specs.AnchorPoints.{Points, points_in_rows}
use Rattle.aat_kerning_tables.specs.declared.ankr.Point.{Point}
use Rattle.aat_write_kerx.specs.AnkrBytes.{HasFewPoints, points_size, refusal_from}
use Rattle.aat_write_kerx.specs.declared.ankr_error.AnkrWriteError.{AnkrWriteError}
use Rattle.aat_write_kerx.specs.declared.ankr_error.AnkrWriteError.TheVariants.{TooFar, TooManyPoints}

tests_are :
    (far many : Bool) (e f : AnkrWriteError) (rest : Option AnkrWriteError)
    → cond far (Some e) (cond many (Some f) rest) ≡ None → (far ≡ false) × (many ≡ false) × (rest ≡ None)
tests_are true many e f rest is = absurd (let wrong : ⊥ = cc in wrong)
tests_are false true e f rest is = absurd (let wrong : ⊥ = cc in wrong)
tests_are false false e f rest is = (refl, refl, is)

-- the first row has an offset of 16 bits and few points, and the rows behind it are not refused
pub first_row :
    (place offset : ℕ) (row : ℕ × List Point) (rows : Points)
    → refusal_from place offset (row ∷ rows) ≡ None
    → (offset ≤ 65535) × (length row.1 ≤ 65536) × (refusal_from (place + 1) (offset + points_size row.1) rows ≡ None)
first_row place offset row rows is =
    let tests = tests_are (nat_lt 65535 offset) (nat_lt 65536 (length row.1)) (TooFar place) (TooManyPoints place)
    (refusal_from (place + 1) (offset + points_size row.1) rows) is in
    (ltb-false 65535 offset tests.0, ltb-false 65536 (length row.1) tests.1, tests.2)

-- each row has few points
all_few : (place offset : ℕ) (rows : Points) → refusal_from place offset rows ≡ None → All HasFewPoints rows
all_few place offset [] is k d below = absurd (omega arith)
all_few place offset (row ∷ rows) is zero d below = (first_row place offset row rows is).1
all_few place offset (row ∷ rows) is (suc k) d below =
    let parts = first_row place offset row rows is in
    all_few (place + 1) (offset + points_size row.1) rows parts.2 k d (omega arith)

pub few_rows : (rows : Points) → refusal_from 0 0 rows ≡ None → All HasFewPoints rows
few_rows rows is = all_few 0 0 rows is

-- a row whose points stand in a vector has few of them
pub few_at :
    {Z : Type 0} (rows : List (ℕ × Vec Point Z)) (i : ℕ) (row : ℕ × Vec Point Z)
    → i < length rows → row ≡ get_or rows i row → All HasFewPoints (points_in_rows rows) → length row.1.items ≤ 65536
few_at [] i row below is all = absurd (omega arith)
few_at {Z = Z} (r ∷ rows) zero row below is all =
    subst (λ (x : ℕ × Vec Point Z). length x.1.items ≤ 65536) (sym is) (all 0 (r.0, r.1.items) (omega arith))
few_at (r ∷ rows) (suc i) row below is all =
    few_at rows i row (omega arith) is (λ k d lt. all (suc k) d (omega arith))
