-- The last glyph whose cluster is not lower than a given one, and its flag: under marks, and where glyphs go in.
use Rattle.std.proofs.Common.{◌≡◌, ◌∙◌, ◌⊎◌, inl, inr, ℕ, zero, suc, ◌-◌, ◌<◌, ◌≤◌, Bool, true, false, List, [], ◌∷◌, ◌++◌, length, take, drop, nat_le, None, Some, refl, ap, sym, arith}
use Rattle.std.proofs.lemmas.Bool.Decides.{nat_tests}
use Rattle.std.proofs.lemmas.List.{drop_all, reverse-append, take_all}
use Rattle.std.proofs.lemmas.List.Elements.{All-append, All-cons, All-drop, All-from_get_or, All-head, All-map, All-nil, All-tail, All-take}
use Rattle.std.proofs.lemmas.List.Folds.{find-append}
use Rattle.std.specs.Option.{option_or}
use Rattle.std.specs.Prelude.{All, find, reverse}
use Rattle.aat_buffer.specs.Buffer.{glyph_at, no_glyph}
use Rattle.aat_buffer.specs.Marks.{cluster_at, unsafe_to_break}
use Rattle.aat_buffer.specs.facts.Lines.{length_unsafe}
use Rattle.aat_buffer.specs.facts.Order.{same_unsafe}
use Rattle.aat_lookup.specs.declared.glyph_id.GlyphId.{GlyphId}
use Rattle.aat_glyph.specs.declared.glyph.hb_glyph_info_t.{hb_glyph_info_t}
use Rattle.aat_kinds.specs.Insertion.{copies, inserted}
use Rattle.aat_cut_kinds.specs.Greater.{IsUnflagged, clusters}
use Rattle.aat_cut_kinds.specs.facts.Flags.{IsCalm}
use Rattle.aat_cut_kinds.specs.facts.CutSides.{IsSided, inserted_cases, put_at, unsafe_flags}

module _ (c : ℕ) where
  -- the cluster of a glyph is lower
  abbrev IsLower : hb_glyph_info_t → Type 0
  IsLower g = g.cluster < c

  -- the last glyph whose cluster is at least c has the flag
  pub FlaggedDownTo : List hb_glyph_info_t → Type 0
  FlaggedDownTo [] = ⊥
  FlaggedDownTo (g ∷ gs) = FlaggedDownTo gs ⊎ ((c ≤ g.cluster) × (IsUnflagged g → ⊥) × All IsLower gs)

  -- the same clusters, and no flag taken away
  lower_steady : (xs ys : List hb_glyph_info_t) → clusters ys ≡ clusters xs → All IsLower xs → All IsLower ys
  lower_steady xs [] same low = All-nil IsLower
  lower_steady [] (y ∷ ys) same low = absurd (cc)
  lower_steady (x ∷ xs) (y ∷ ys) same low =
      let head : y.cluster ≡ x.cluster = cc in
      let tail : clusters ys ≡ clusters xs = cc in
      let first : x.cluster < c = All-head IsLower x xs low in
      All-cons IsLower y ys (omega (arith, head, first)) (lower_steady xs ys tail (All-tail IsLower x xs low))

  steady_flags : (xs ys : List hb_glyph_info_t) → clusters ys ≡ clusters xs → IsCalm xs ys → FlaggedDownTo xs → FlaggedDownTo ys
  unfolding FlaggedDownTo
  steady_flags [] ys same calm h = absurd h
  steady_flags (x ∷ xs) [] same calm h = absurd (cc)
  steady_flags (x ∷ xs) (y ∷ ys) same calm (inl h) =
      let tail : clusters ys ≡ clusters xs = cc in
      inl (steady_flags xs ys tail (λ k none. calm (suc k) none) h)
  steady_flags (x ∷ xs) (y ∷ ys) same calm (inr h) =
      let head : y.cluster ≡ x.cluster = cc in
      let tail : clusters ys ≡ clusters xs = cc in
      inr (omega (arith, head, h.0), λ none. h.1 (calm 0 none), lower_steady xs ys tail h.2)

  -- glyphs before it
  flags_behind : (xs ys : List hb_glyph_info_t) → FlaggedDownTo ys → FlaggedDownTo (xs ++ ys)
  unfolding FlaggedDownTo
  flags_behind [] ys h = h
  flags_behind (x ∷ xs) ys h = inl (flags_behind xs ys h)

  -- copies of a glyph with the flag right behind one
  flags_spread : (x g : hb_glyph_info_t) (new : List GlyphId) (ys : List hb_glyph_info_t) → c ≤ x.cluster → (IsUnflagged x → ⊥) → c ≤ g.cluster → (IsUnflagged g → ⊥) → All IsLower ys → FlaggedDownTo (x ∷ (copies g new ++ ys))
  unfolding FlaggedDownTo
  flags_spread x g [] ys high flag more flags low = inr (high, flag, low)
  flags_spread x g (n ∷ new) ys high flag more flags low = inl (flags_spread (record g { glyph_id = n.0 }) g new ys more flags more flags low)

  -- copies of a lower glyph among lower ones
  lower_put : (a i : ℕ) (line : List hb_glyph_info_t) (new : List GlyphId) → i < length line → All IsLower line → All IsLower (put_at a i new line)
  lower_put a i line new below low =
      let model : (glyph_at line i).cluster < c = low i no_glyph below in
      All-append IsLower (take a line) (copies (glyph_at line i) new ++ drop a line) (All-take IsLower a line low)
      (All-append IsLower (copies (glyph_at line i) new) (drop a line) (All-map IsLower (λ (n : GlyphId). record (glyph_at line i) { glyph_id = n.0 }) new (λ k d within. model)) (All-drop IsLower a line low))

  put_behind : (i : ℕ) (line : List hb_glyph_info_t) (new : List GlyphId) → i < length line → FlaggedDownTo line → FlaggedDownTo (put_at (suc i) i new line)
  unfolding FlaggedDownTo
  put_behind i [] new below h = absurd h
  put_behind zero (g ∷ gs) new below (inl h) = inl (flags_behind (copies g new) gs h)
  put_behind zero (g ∷ gs) new below (inr h) = flags_spread g g new gs h.0 h.1 h.0 h.1 h.2
  put_behind (suc i) (g ∷ gs) new below (inl h) = inl (put_behind i gs new (omega (arith, below)) h)
  put_behind (suc i) (g ∷ gs) new below (inr h) = inr (h.0, h.1, lower_put (suc i) i gs new (omega (arith, below)) h.2)

  put_before : (i : ℕ) (line : List hb_glyph_info_t) (new : List GlyphId) → i < length line → FlaggedDownTo line → FlaggedDownTo (put_at i i new line)
  unfolding FlaggedDownTo
  put_before i [] new below h = absurd h
  put_before zero (g ∷ gs) new below h = flags_behind (copies g new) (g ∷ gs) h
  put_before (suc i) (g ∷ gs) new below (inl h) = inl (put_before i gs new (omega (arith, below)) h)
  put_before (suc i) (g ∷ gs) new below (inr h) = inr (h.0, h.1, lower_put i i gs new (omega (arith, below)) h.2)

  some_flagged : (line : List hb_glyph_info_t) → FlaggedDownTo line → 0 < length line
  unfolding FlaggedDownTo
  some_flagged [] h = absurd h
  some_flagged (g ∷ gs) h = omega arith

  -- past the end, glyphs go in behind the last one
  put_past : (i n : ℕ) (line : List hb_glyph_info_t) (new : List GlyphId) → suc n ≡ length line → length line ≤ i → FlaggedDownTo line → FlaggedDownTo (put_at i n new line)
  put_past i n line new last past h =
      let front : take i line ≡ take (suc n) line = take_all i line past ∙ sym (take_all (suc n) line (omega (arith, last))) in
      let back : drop i line ≡ drop (suc n) line = drop_all i line past ∙ sym (drop_all (suc n) line (omega (arith, last))) in
      rw (front, back) (put_behind n line new (omega (arith, last)) h)

  -- where glyphs go in
  flags_stay : (new : List GlyphId) (i : ℕ) (behind : Bool) (line : List hb_glyph_info_t) → FlaggedDownTo line → FlaggedDownTo (inserted new i behind line)
  flags_stay new i behind line h =
      let some = some_flagged line h in
      inserted_cases FlaggedDownTo new i behind line (λ below. put_before i line new below h) (λ below. put_behind i line new below h)
      (λ past. put_past i (length line - 1) line new (omega (arith, some)) past h)

  -- it stands where all behind it have lower clusters
  flagged_at : (n : ℕ) (line : List hb_glyph_info_t) → n < length line → c ≤ cluster_at line n → (IsUnflagged (glyph_at line n) → ⊥) → ((k : ℕ) → n < k → k < length line → cluster_at line k < c) → FlaggedDownTo line
  unfolding FlaggedDownTo
  flagged_at n [] within high flag low = absurd (omega (arith, within))
  flagged_at zero (g ∷ gs) within high flag low = inr (high, flag, All-from_get_or IsLower gs no_glyph (λ k below. low (suc k) (omega arith) (omega (arith, below))))
  flagged_at (suc n) (g ∷ gs) within high flag low = inl (flagged_at n gs (omega (arith, within)) high flag (λ k above below. low (suc k) (omega (arith, above)) (omega (arith, below))))

  -- the test that a cluster is not lower
  abbrev is_high : hb_glyph_info_t → Bool
  is_high h = nat_le c h.cluster

  -- a search from the end comes to a glyph in front last
  found_in_front : (g : hb_glyph_info_t) (gs : List hb_glyph_info_t) → find is_high (reverse (g ∷ gs)) ≡ option_or (find is_high (reverse gs)) (find is_high (g ∷ []))
  found_in_front g gs = ap (find is_high) (reverse-append (g ∷ []) gs) ∙ find-append is_high (reverse gs) (g ∷ [])

  none_found : (gs : List hb_glyph_info_t) → All IsLower gs → find is_high (reverse gs) ≡ None
  none_found [] low = refl
  none_found (g ∷ gs) low =
      let lower : g.cluster < c = All-head IsLower g gs low in
      let there : nat_le c g.cluster ≡ false = grind (arith, nat_tests, lower) in
      found_in_front g gs ∙ rw (none_found gs (All-tail IsLower g gs low), there) refl

  -- so a line whose last such glyph is without the flag is none of these
  pub not_flagged_down_to : (line : List hb_glyph_info_t) → ((g : hb_glyph_info_t) → find (λ (h : hb_glyph_info_t). nat_le c h.cluster) (reverse line) ≡ Some g → IsUnflagged g) → FlaggedDownTo line → ⊥
  unfolding FlaggedDownTo
  not_flagged_down_to [] none h = h
  not_flagged_down_to (g ∷ gs) none (inl h) = not_flagged_down_to gs (λ x found. none x (found_in_front g gs ∙ rw found refl)) h
  not_flagged_down_to (g ∷ gs) none (inr h) =
      let high : c ≤ g.cluster = h.0 in
      let there : nat_le c g.cluster ≡ true = grind (arith, nat_tests, high) in
      h.1 (none g (found_in_front g gs ∙ rw (none_found gs h.2, there) refl))

  -- clusters that are not lower, and behind them lower ones, are sides of a cut that this glyph marks
  pub falls : IsSided (λ n. c ≤ n) (λ n. n < c) FlaggedDownTo
  falls = record {
    steady = steady_flags;
    grows = flags_stay;
    over = λ i j n b sides from to.
        let same = length_unsafe b (Some i) (Some j) in
        let inside = sides.inside in
        let high : c ≤ cluster_at b.line (n - 1) = sides.before (n - 1) (omega (arith, from)) in
        let low : cluster_at b.line n < c = sides.behind n (omega arith) inside in
        flagged_at (n - 1) (unsafe_to_break b (Some i) (Some j)).line (omega (arith, same, inside)) (rw (same_unsafe b (Some i) (Some j) (n - 1)) high)
        (unsafe_flags i j n (n - 1) b (omega (arith, from)) to (omega (arith, from)) (omega (arith, to)) (omega (arith, from)) inside (omega (arith, inside)) (omega (arith, low, high)))
        (λ k above below. rw (same_unsafe b (Some i) (Some j) k) (sides.behind k (omega (arith, from, above)) (omega (arith, same, below))));
  }
