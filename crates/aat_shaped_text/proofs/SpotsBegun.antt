-- Glyphs that go before the first one that stays, and have its cluster, change no cluster.
use Rattle.std.proofs.Common.{◌≡◌, ◌∙◌, sym, ap, refl, ℕ, zero, suc, ◌==◌, Bool, true, false, cond, List, [], ◌∷◌, length, nat_lt, arith}
use Rattle.std.proofs.lemmas.Bool.Decides.{nat_tests}
use Rattle.aat_shaped_text.proofs.Spots.{AllRest, BeginsKept, Spot, lefts, lower, lowered, merge_run, raised, some_stays}

-- the first of them has that cluster too
first_cluster : (c : ℕ) (s : Spot) (rest : List Spot) → BeginsKept c (s ∷ rest) → s.1 ≡ c
first_cluster c (true, e) rest kept = kept.0
first_cluster c (false, e) rest kept = kept

-- one of cluster e goes before one of the same cluster
lowered_same : (e : ℕ) (front : List ℕ) (s : Spot) (rest : List Spot) → s.1 ≡ e → lowered front e (s ∷ rest) ≡ front
lowered_same e front s rest same =
    let test : (s.1 == e) ≡ true = grind (arith, nat_tests, same) in
    ap (λ (t : Bool). cond t front (lower e front)) test

raised_same : (e : ℕ) (front : List ℕ) (s : Spot) (rest : List Spot) → s.1 ≡ e → raised front e (s ∷ rest) ≡ s ∷ rest
raised_same e (x ∷ front) s rest same = refl
raised_same e [] s rest same =
    let test : nat_lt e s.1 ≡ false = grind (arith, nat_tests, same) in
    ap (λ (t : Bool). cond t (merge_run s.1 e (s ∷ rest)) (s ∷ rest)) test

goes : (c e n : ℕ) (front : List ℕ) (rest : List Spot) → e ≡ c → BeginsKept c rest → lefts (suc n) front ((true, e) ∷ rest) ≡ lefts n front rest
goes c e n front [] is kept = absurd kept
goes c e n front (s ∷ rest) is kept =
    let same : s.1 ≡ e = first_cluster c s rest kept ∙ sym is in
    ap (λ zs. lefts n zs (raised front e (s ∷ rest))) (lowered_same e front s rest same)
    ∙ ap (λ zs. lefts n front zs) (raised_same e front s rest same)

-- of a line that begins so the first glyph that stays is left, with its cluster, and what is left behind it
pub record Begun (c n : ℕ) (rest : List Spot) : Type 0 where
  pub count : ℕ
  pub behind : List Spot
  pub same : (front : List ℕ) → lefts n front rest ≡ lefts count (c ∷ front) behind
  pub all : (p : ℕ → Bool) → AllRest p rest → AllRest p behind

pub begun : (c n : ℕ) (rest : List Spot) → length rest ≡ n → BeginsKept c rest → Begun c n rest
begun c n [] long kept = absurd kept
begun c zero (s ∷ rest) long kept = absurd (omega (arith, long))
begun c (suc n) ((false, e) ∷ rest) long kept = record {
  count = n;
  behind = rest;
  same = λ front. ap (λ x. lefts n (x ∷ front) rest) kept;
  all = λ p all. all.1;
}
begun c (suc n) ((true, e) ∷ rest) long kept =
    let b = begun c n rest (omega (arith, long)) kept.1 in
    record {
      count = b.count;
      behind = b.behind;
      same = λ front. goes c e n front rest kept.0 kept.1 ∙ b.same front;
      all = λ p all. b.all p all.1;
    }

pub stays_begun : (c : ℕ) (rest : List Spot) → BeginsKept c rest → some_stays rest ≡ true
stays_begun c [] kept = absurd kept
stays_begun c ((true, e) ∷ rest) kept = stays_begun c rest kept.1
stays_begun c ((false, e) ∷ rest) kept = refl
