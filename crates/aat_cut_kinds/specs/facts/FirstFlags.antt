-- The first glyph whose cluster is not lower than a given one, and its flag: under marks, and where glyphs go in.
use Rattle.std.proofs.Common.{◌≡◌, ◌⊎◌, inl, inr, ℕ, zero, suc, ◌-◌, ◌<◌, ◌≤◌, Bool, true, false, List, [], ◌∷◌, ◌++◌, length, take, drop, nat_le, Some, refl, arith}
use Rattle.std.proofs.lemmas.Bool.Decides.{nat_tests}
use Rattle.std.specs.Prelude.{find}
use Rattle.aat_buffer.specs.Buffer.{glyph_at}
use Rattle.aat_buffer.specs.Marks.{cluster_at, unsafe_to_break}
use Rattle.aat_buffer.specs.facts.Lines.{length_unsafe}
use Rattle.aat_buffer.specs.facts.Order.{same_unsafe}
use Rattle.aat_lookup.specs.declared.glyph_id.GlyphId.{GlyphId}
use Rattle.aat_glyph.specs.declared.glyph.hb_glyph_info_t.{hb_glyph_info_t}
use Rattle.aat_kinds.specs.Insertion.{copies, inserted}
use Rattle.aat_cut_kinds.specs.Greater.{IsUnflagged, clusters}
use Rattle.aat_cut_kinds.specs.facts.Flags.{IsCalm}
use Rattle.aat_cut_kinds.specs.facts.CutSides.{IsSided, inserted_cases, put_at, unsafe_flags}

module _ (c : ℕ) where
  -- the first glyph whose cluster is at least c has the flag
  pub FlaggedFrom : List hb_glyph_info_t → Type 0
  FlaggedFrom [] = ⊥
  FlaggedFrom (g ∷ gs) = ((c ≤ g.cluster) × (IsUnflagged g → ⊥)) ⊎ ((g.cluster < c) × FlaggedFrom gs)

  -- the same clusters, and no flag taken away
  steady_flags : (xs ys : List hb_glyph_info_t) → clusters ys ≡ clusters xs → IsCalm xs ys → FlaggedFrom xs → FlaggedFrom ys
  unfolding FlaggedFrom
  steady_flags [] ys same calm h = absurd h
  steady_flags (x ∷ xs) [] same calm h = absurd (cc)
  steady_flags (x ∷ xs) (y ∷ ys) same calm (inl h) =
      let head : y.cluster ≡ x.cluster = cc in
      inl (omega (arith, head, h.0), λ none. h.1 (calm 0 none))
  steady_flags (x ∷ xs) (y ∷ ys) same calm (inr h) =
      let head : y.cluster ≡ x.cluster = cc in
      let tail : clusters ys ≡ clusters xs = cc in
      inr (omega (arith, head, h.0), steady_flags xs ys tail (λ k none. calm (suc k) none) h.1)

  -- copies of a glyph before it
  copies_low : (g : hb_glyph_info_t) (new : List GlyphId) (ys : List hb_glyph_info_t) → g.cluster < c → FlaggedFrom ys → FlaggedFrom (copies g new ++ ys)
  unfolding FlaggedFrom
  copies_low g [] ys low h = h
  copies_low g (n ∷ new) ys low h = inr (low, copies_low g new ys low h)

  copies_flagged : (g : hb_glyph_info_t) (new : List GlyphId) (ys : List hb_glyph_info_t) → c ≤ g.cluster → (IsUnflagged g → ⊥) → FlaggedFrom ys → FlaggedFrom (copies g new ++ ys)
  unfolding FlaggedFrom
  copies_flagged g [] ys high flag h = h
  copies_flagged g (n ∷ new) ys high flag h = inl (high, flag)

  put_behind : (i : ℕ) (line : List hb_glyph_info_t) (new : List GlyphId) → i < length line → FlaggedFrom line → FlaggedFrom (put_at (suc i) i new line)
  unfolding FlaggedFrom
  put_behind i [] new below h = absurd h
  put_behind zero (g ∷ gs) new below (inl h) = inl h
  put_behind zero (g ∷ gs) new below (inr h) = inr (h.0, copies_low g new gs h.0 h.1)
  put_behind (suc i) (g ∷ gs) new below (inl h) = inl h
  put_behind (suc i) (g ∷ gs) new below (inr h) = inr (h.0, put_behind i gs new (omega (arith, below)) h.1)

  put_before : (i : ℕ) (line : List hb_glyph_info_t) (new : List GlyphId) → i < length line → FlaggedFrom line → FlaggedFrom (put_at i i new line)
  unfolding FlaggedFrom
  put_before i [] new below h = absurd h
  put_before zero (g ∷ gs) new below (inl h) = copies_flagged g new (g ∷ gs) h.0 h.1 (inl h)
  put_before zero (g ∷ gs) new below (inr h) = copies_low g new (g ∷ gs) h.0 (inr h)
  put_before (suc i) (g ∷ gs) new below (inl h) = inl h
  put_before (suc i) (g ∷ gs) new below (inr h) = inr (h.0, put_before i gs new (omega (arith, below)) h.1)

  put_past : (i : ℕ) (line ys : List hb_glyph_info_t) → length line ≤ i → FlaggedFrom line → FlaggedFrom (take i line ++ ys)
  unfolding FlaggedFrom
  put_past i [] ys past h = absurd h
  put_past zero (g ∷ gs) ys past h = absurd (omega (arith, past))
  put_past (suc i) (g ∷ gs) ys past (inl h) = inl h
  put_past (suc i) (g ∷ gs) ys past (inr h) = inr (h.0, put_past i gs ys (omega (arith, past)) h.1)

  -- where glyphs go in
  flags_stay : (new : List GlyphId) (i : ℕ) (behind : Bool) (line : List hb_glyph_info_t) → FlaggedFrom line → FlaggedFrom (inserted new i behind line)
  flags_stay new i behind line h =
      inserted_cases FlaggedFrom new i behind line (λ below. put_before i line new below h) (λ below. put_behind i line new below h)
      (λ past. put_past i line (copies (glyph_at line (length line - 1)) new ++ drop i line) past h)

  -- it stands where all before it have lower clusters
  flagged_at : (n : ℕ) (line : List hb_glyph_info_t) → ((k : ℕ) → k < n → cluster_at line k < c) → n < length line → c ≤ cluster_at line n → (IsUnflagged (glyph_at line n) → ⊥) → FlaggedFrom line
  unfolding FlaggedFrom
  flagged_at n [] low within high flag = absurd (omega (arith, within))
  flagged_at zero (g ∷ gs) low within high flag = inl (high, flag)
  flagged_at (suc n) (g ∷ gs) low within high flag = inr (low 0 (omega arith), flagged_at n gs (λ k below. low (suc k) (omega (arith, below))) (omega (arith, within)) high flag)

  -- so a line whose first such glyph is without the flag is none of these
  pub not_flagged_from : (line : List hb_glyph_info_t) → ((g : hb_glyph_info_t) → find (λ (h : hb_glyph_info_t). nat_le c h.cluster) line ≡ Some g → IsUnflagged g) → FlaggedFrom line → ⊥
  unfolding FlaggedFrom
  not_flagged_from [] none h = h
  not_flagged_from (g ∷ gs) none (inl h) = let there : nat_le c g.cluster ≡ true = (let high = h.0 in grind (arith, nat_tests, high)) in h.1 (none g (rw there refl))
  not_flagged_from (g ∷ gs) none (inr h) = let there : nat_le c g.cluster ≡ false = (let low = h.0 in grind (arith, nat_tests, low)) in not_flagged_from gs (λ x found. none x (rw there found)) h.1

  -- lower clusters, and behind them others, are sides of a cut that this glyph marks
  pub rises : IsSided (λ n. n < c) (λ n. c ≤ n) FlaggedFrom
  rises = record {
    steady = steady_flags;
    grows = flags_stay;
    over = λ i j n b sides from to.
        let same = length_unsafe b (Some i) (Some j) in
        let inside = sides.inside in
        let high : c ≤ cluster_at b.line n = sides.behind n (omega arith) inside in
        let low : cluster_at b.line i < c = sides.before i from in
        flagged_at n (unsafe_to_break b (Some i) (Some j)).line (λ k below. rw (same_unsafe b (Some i) (Some j) k) (sides.before k below)) (omega (arith, same, inside)) (rw (same_unsafe b (Some i) (Some j) n) high)
        (unsafe_flags i j i n b (omega arith) (omega (arith, from, to)) (omega (arith, from)) to (omega (arith, from)) (omega (arith, from, inside)) inside (omega (arith, low, high)));
  }
