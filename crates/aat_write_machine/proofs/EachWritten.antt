-- What is written of each of some things.
use Rattle.std.proofs.Common.{◌≡◌, ℕ, zero, suc, ◌+◌, ◌<◌, ◌≤◌, List, [], ◌∷◌, ◌++◌, length, get_or, drop, map, All, Result, Ok, Err, refl, sym, ap, ◌∙◌, subst, append_assoc, arith}
use Rattle.std.specs.List.{AllZip}
use Rattle.std.proofs.lemmas.List.{append-nil, drop_all}
use Rattle.aat_write_machine.specs.MorxWriteErrors.{RefusesWithin, after_written}
use Rattle.aat_write_machine.specs.declared.error.MorxWriteError.{MorxWriteError}
use Rattle.aat_write_machine.specs.MorxBytes.{each_written}
use Rattle.aat_write_machine.proofs.Refused.{refuses_whole}

-- what comes after something is written comes of it
pub parts :
    {X Y : Type 0} (written : Result X MorxWriteError) (next : X → Result Y MorxWriteError) (y : Y)
    → after_written written next ≡ Ok y → (x : X) × (written ≡ Ok x) × (next x ≡ Ok y)
parts (Ok x) next y is = (x, refl, is)
parts (Err e) next y is = cc

pub ok_parts : {X : Type 0} (x y : X) → ◌≡◌ {A = Result X MorxWriteError} (Ok x) (Ok y) → x ≡ y
ok_parts x y is = cc

-- the last elements from one on
dropped_from :
    {X : Type 0} (xs : List X) (i : ℕ) (x : X) → i < length xs → x ≡ get_or xs i x → drop i xs ≡ x ∷ drop (suc i) xs
dropped_from [] i x below is = absurd (omega arith)
dropped_from (y ∷ ys) zero x below is = ap (λ z. z ∷ ys) (sym is)
dropped_from (y ∷ ys) (suc i) x below is = dropped_from ys i x (omega arith) is

module _ {X Y : Type 0} (write : X → Result Y MorxWriteError) where
  -- what is written in all, when some are and the others are not yet
  abbrev pub behind : List Y → List X → Result (List Y) MorxWriteError
  behind done rest = after_written (each_written write rest) (λ ys. Ok (done ++ ys))

  one_more :
      (done : List Y) (y : Y) (r : Result (List Y) MorxWriteError)
      → after_written (after_written r (λ ys. Ok (y ∷ ys))) (λ ys. Ok (done ++ ys))
      ≡ after_written r (λ ys. Ok ((done ++ y ∷ []) ++ ys))
  one_more done y (Ok ys) = ap Ok (sym (append_assoc done (y ∷ []) ys))
  one_more done y (Err e) = refl

  pub is_pushed :
      (xs : List X) (i : ℕ) (x : X) (done now : List Y) (y : Y)
      → i < length xs → x ≡ get_or xs i x
      → each_written write xs ≡ behind done (drop i xs) → write x ≡ Ok y → now ≡ done ++ y ∷ []
      → each_written write xs ≡ behind now (drop (i + 1) xs)
  is_pushed xs i x done now y below item so_far is pushed =
      let next : suc i ≡ i + 1 = omega arith in
      let r : List X → Result (List Y) MorxWriteError = each_written write in
      so_far
      ∙ ap (behind done) (dropped_from xs i x below item)
      ∙ ap (λ (one : Result Y MorxWriteError). after_written (after_written one (λ z. after_written (r (drop (suc i) xs)) (λ ys. Ok (z ∷ ys)))) (λ ys. Ok (done ++ ys))) is
      ∙ one_more done y (r (drop (suc i) xs))
      ∙ ap (λ (d : List Y). behind d (drop (suc i) xs)) (sym pushed)
      ∙ ap (λ k. behind now (drop k xs)) next

  -- what refuses one of them refuses all
  pub is_refused :
      (xs : List X) (i : ℕ) (x : X) (done : List Y) (e : MorxWriteError)
      → i < length xs → x ≡ get_or xs i x
      → each_written write xs ≡ behind done (drop i xs) → RefusesWithin (write x) e → RefusesWithin (each_written write xs) e
  is_refused xs i x done e below item so_far is =
      let r : List X → Result (List Y) MorxWriteError = each_written write in
      refuses_whole (write x) (each_written write xs) e
      (λ f refused.
      so_far
      ∙ ap (behind done) (dropped_from xs i x below item)
      ∙ ap (λ (one : Result Y MorxWriteError). after_written (after_written one (λ z. after_written (r (drop (suc i) xs)) (λ ys. Ok (z ∷ ys)))) (λ ys. Ok (done ++ ys))) refused)
      is

  -- when none is left, those that are written are all
  pub are_written :
      (xs : List X) (i : ℕ) (done : List Y)
      → length xs ≤ i → each_written write xs ≡ behind done (drop i xs) → each_written write xs ≡ Ok done
  are_written xs i done all so_far = so_far ∙ ap (behind done) (drop_all i xs all) ∙ ap Ok (append-nil done)

  -- each is what is written of its thing
  pub zipped :
      (P : X → Type 0) (xs : List X) (ys : List Y)
      → All P xs → each_written write xs ≡ Ok ys → AllZip (λ x y. P x × (write x ≡ Ok y)) xs ys
  zipped P [] ys all is = let none : [] ≡ ys = ok_parts [] ys is in subst_none ys none where
    subst_none : (zs : List Y) → [] ≡ zs → AllZip (λ x y. P x × (write x ≡ Ok y)) [] zs
    subst_none [] same = tt
    subst_none (z ∷ zs) same = absurd (let wrong : ⊥ = cc in wrong)
  zipped P (x ∷ xs) ys all is =
      let one = parts (write x) (λ y. after_written (each_written write xs) (λ zs. Ok (y ∷ zs))) ys is in
      let more = parts (each_written write xs) (λ zs. Ok (one.0 ∷ zs)) ys one.2 in
      let whole : one.0 ∷ more.0 ≡ ys = ok_parts (one.0 ∷ more.0) ys more.2 in
      let rest = zipped P xs more.0 (λ k d lt. all (suc k) d (omega arith)) more.1 in
      subst (λ (zs : List Y). AllZip (λ a b. P a × (write a ≡ Ok b)) (x ∷ xs) zs) whole ((all 0 x (omega arith), one.1), rest)

-- what holds of each pair of two lists gives what holds of each of the second one
pub all_second :
    {X Y : Type 0} (R : X → Y → Type 0) (Q : Y → Type 0) → ((x : X) (y : Y) → R x y → Q y)
    → (xs : List X) (ys : List Y) → AllZip R xs ys → All Q ys
all_second R Q gives [] [] zip k d below = absurd (omega arith)
all_second R Q gives [] (y ∷ ys) zip k d below = absurd zip
all_second R Q gives (x ∷ xs) [] zip k d below = absurd zip
all_second R Q gives (x ∷ xs) (y ∷ ys) zip zero d below = gives x y zip.0
all_second R Q gives (x ∷ xs) (y ∷ ys) zip (suc k) d below = all_second R Q gives xs ys zip.1 k d (omega arith)

-- relations between lists, one behind the other
pub composed :
    {X Y Z : Type 0} (R : X → Y → Type 0) (S : Y → Z → Type 0) (T : X → Z → Type 0)
    → ((x : X) (y : Y) (z : Z) → R x y → S y z → T x z)
    → (xs : List X) (ys : List Y) (zs : List Z) → AllZip R xs ys → AllZip S ys zs → AllZip T xs zs
composed R S T gives [] [] [] one two = tt
composed R S T gives [] [] (z ∷ zs) one two = absurd two
composed R S T gives [] (y ∷ ys) zs one two = absurd one
composed R S T gives (x ∷ xs) [] zs one two = absurd one
composed R S T gives (x ∷ xs) (y ∷ ys) [] one two = absurd two
composed R S T gives (x ∷ xs) (y ∷ ys) (z ∷ zs) one two =
    (gives x y z one.0 two.0, composed R S T gives xs ys zs one.1 two.1)

-- what is written of what things are made to
pub each_made :
    {X Y Z : Type 0} (make : X → Y) (write : Y → Result Z MorxWriteError) (xs : List X)
    → each_written write (map make xs) ≡ each_written (λ x. write (make x)) xs
each_made make write [] = refl
each_made {Z = Z} make write (x ∷ xs) =
    ap (λ (rest : Result (List Z) MorxWriteError). after_written (write (make x)) (λ y. after_written rest (λ ys. Ok (y ∷ ys))))
    (each_made make write xs)
