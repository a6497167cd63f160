-- What the removal of glyphs leaves of the glyph ids.
use Rattle.std.proofs.Common.{◌≡◌, ◌≢◌, ◌∙◌, sym, ap, refl, ℕ, zero, suc, ◌+◌, ◌-◌, ◌<◌, ◌≤◌, ◌==◌, ◌&&◌, Bool, true, false, not, cond, List, [], ◌∷◌, ◌++◌, length, map, take, drop, get_or, nat_lt, arith}
use Rattle.std.proofs.lemmas.Bool.Decides.{nat_tests}
use Rattle.std.proofs.lemmas.List.{length-map, length-take-le, get_or-map, append-nil, append_assoc, take_all, drop_all, take_at, drop_at, take_more, take-map, drop-map, map-append}
use Rattle.std.proofs.lemmas.List.Edits.{length-remove}
use Rattle.std.proofs.lemmas.List.Elements.{filter_passes}
use Rattle.std.proofs.Math.Seq.{drop-cons}
use Rattle.std.specs.Prelude.{All, remove, filter}
use Rattle.aat_glyph.specs.declared.glyph.hb_glyph_info_t.{hb_glyph_info_t}
use Rattle.aat_buffer.specs.Buffer.{Buffer, no_glyph, glyph_at, with_cursor}
use Rattle.aat_buffer.specs.Marks.{cluster_at, merged_line, run_before}
use Rattle.aat_buffer.specs.Removal.{with_cluster_and_flags, lowered_run, cluster_kept_line, with_cluster_kept, without_glyph_at_cursor, removal, removal_step, removed, is_deleted}
use Rattle.aat_buffer.specs.Clusters.{ids}
use Rattle.aat_buffer.specs.facts.Cases.{chosen}
use Rattle.aat_buffer.specs.facts.Clusters.{map_span}
use Rattle.aat_buffer.specs.facts.Ids.{ids_of_merge}

-- a run that is lowered keeps its ids
ids_of_lowered : (gs : List hb_glyph_info_t) (p last : ℕ) (g : hb_glyph_info_t) → ids (lowered_run gs p last g) ≡ ids gs
unfolding lowered_run
ids_of_lowered gs p last g = map_span (λ (h : hb_glyph_info_t). h.glyph_id) (with_cluster_and_flags g) (λ _. refl) (p - run_before gs 0 p last) p gs (omega arith)

-- handing a cluster on changes no glyph id
ids_of_kept : (b : Buffer) → ids (cluster_kept_line b.cluster_level b.cursor b.line) ≡ ids b.line
unfolding cluster_kept_line
ids_of_kept b =
    let gs = b.line in
    let p = b.cursor in
    let g = glyph_at gs p in
    let last = cluster_at gs (p - 1) in
    let Same : List hb_glyph_info_t → Type 0 = λ hs. ids hs ≡ ids gs in
    chosen Same (nat_lt (p + 1) (length gs) && (cluster_at gs (p + 1) == g.cluster)) gs _ (λ _. refl)
    (λ _. chosen Same (nat_lt 0 p) _ _
    (λ _. chosen Same (nat_lt g.cluster last) (lowered_run gs p last g) gs (λ _. ids_of_lowered gs p last g) (λ _. refl))
    (λ _. chosen Same (nat_lt (p + 1) (length gs)) (merged_line b.cluster_level p p (p + 2) gs) gs (λ _. ids_of_merge b p (p + 2)) (λ _. refl)))

-- the first p ids, and of those behind them the ones that do not pass
abbrev left : (ℕ → Bool) → ℕ → List ℕ → List ℕ
left t p xs = take p xs ++ filter (λ x. not (t x)) (drop p xs)

module _ (t : ℕ → Bool) (p : ℕ) (xs : List ℕ) (within : p < length xs) where
  abbrev x : ℕ
  x = get_or xs p 0

  abbrev rest : List ℕ
  rest = drop (suc p) xs

  -- the id at place p, asked for
  asked : (b : Bool) → t x ≡ b → filter (λ y. not (t y)) (drop p xs) ≡ cond (not b) (x ∷ filter (λ y. not (t y)) rest) (filter (λ y. not (t y)) rest)
  asked b is = ap (filter (λ y. not (t y))) (drop-cons xs p 0 within) ∙ ap (λ (a : Bool). cond (not a) (x ∷ filter (λ y. not (t y)) rest) (filter (λ y. not (t y)) rest)) is

  left_keeps : t x ≡ false → left t (p + 1) xs ≡ left t p xs
  left_keeps is =
      let next : p + 1 ≡ suc p = omega arith in
      ap (λ zs. zs ++ filter (λ y. not (t y)) (drop (p + 1) xs)) (take_more xs p 0 within)
      ∙ append_assoc (take p xs) (x ∷ []) (filter (λ y. not (t y)) (drop (p + 1) xs))
      ∙ ap (λ n. take p xs ++ x ∷ filter (λ y. not (t y)) (drop n xs)) next
      ∙ ap (λ zs. take p xs ++ zs) (sym (asked false is))

  left_goes : t x ≡ true → left t p (remove xs p) ≡ left t p xs
  left_goes is =
      let n : length (take p xs) ≡ p = length-take-le p xs (omega (arith, within)) in
      ap (λ zs. zs ++ filter (λ y. not (t y)) (drop p (remove xs p))) (take_at (take p xs) rest p n)
      ∙ ap (λ zs. take p xs ++ filter (λ y. not (t y)) zs) (drop_at (take p xs) rest p n)
      ∙ ap (λ zs. take p xs ++ zs) (sym (asked true is))

-- the ids of a line without a glyph
ids_of_remove : (gs : List hb_glyph_info_t) (p : ℕ) → ids (remove gs p) ≡ remove (ids gs) p
ids_of_remove gs p =
    let id : hb_glyph_info_t → ℕ = λ g. g.glyph_id in
    map-append id (take p gs) (drop (suc p) gs)
    ∙ ap (λ zs. zs ++ map id (drop (suc p) gs)) (sym (take-map id p gs))
    ∙ ap (λ zs. take p (ids gs) ++ zs) (sym (drop-map id (suc p) gs))

-- where the test asks ids alone, a step takes out the id at the cursor or moves over it
ids_of_step : (t : ℕ → Bool) (b : Buffer) → b.cursor < length b.line → left t (removal_step (λ g. t g.glyph_id) b).cursor (ids (removal_step (λ g. t g.glyph_id) b).line) ≡ left t b.cursor (ids b.line)
ids_of_step t b within =
    let p = b.cursor in
    let id : hb_glyph_info_t → ℕ = λ g. g.glyph_id in
    let low : p < length (ids b.line) = omega (arith, within, length-map b.line id) in
    let read : t (get_or (ids b.line) p 0) ≡ t (glyph_at b.line p).glyph_id = ap t (get_or-map id b.line p no_glyph 0 within) in
    chosen (λ (c : Buffer). left t c.cursor (ids c.line) ≡ left t p (ids b.line)) (t (glyph_at b.line p).glyph_id) (without_glyph_at_cursor (with_cluster_kept b)) (with_cursor b (p + 1))
    (λ yes.
    ap (left t p) (ids_of_remove (cluster_kept_line b.cluster_level p b.line) p ∙ ap (λ xs. remove xs p) (ids_of_kept b))
    ∙ left_goes t p (ids b.line) low (read ∙ yes))
    (λ no. left_keeps t p (ids b.line) low (read ∙ no))

-- a step leaves a glyph less before it, or one less to come
length_of_step : (t : ℕ → Bool) (b : Buffer) (n : ℕ) → length b.line ≡ b.cursor + suc n → length (removal_step (λ g. t g.glyph_id) b).line ≡ (removal_step (λ g. t g.glyph_id) b).cursor + n
length_of_step t b n long =
    let p = b.cursor in
    let kept : List hb_glyph_info_t = cluster_kept_line b.cluster_level p b.line in
    let id : hb_glyph_info_t → ℕ = λ g. g.glyph_id in
    let same : length kept ≡ length b.line = sym (length-map kept id) ∙ (ap length (ids_of_kept b) ∙ length-map b.line id) in
    chosen (λ (c : Buffer). length c.line ≡ c.cursor + n) (t (glyph_at b.line p).glyph_id) (without_glyph_at_cursor (with_cluster_kept b)) (with_cursor b (p + 1))
    (λ _. let gone = length-remove kept p (omega (arith, same, long)) in omega (arith, gone, same, long))
    (λ _. omega (arith, long))

-- where the test asks ids alone, the next n glyphs leave the ids that do not pass, in their order
ids_of_removal : (t : ℕ → Bool) (n : ℕ) (b : Buffer) → length b.line ≡ b.cursor + n → ids (removal n (λ g. t g.glyph_id) b).line ≡ left t b.cursor (ids b.line)
unfolding removal
ids_of_removal t zero b long =
    let id : hb_glyph_info_t → ℕ = λ g. g.glyph_id in
    let end : length (ids b.line) ≤ b.cursor = omega (arith, long, length-map b.line id) in
    sym (ap (λ zs. zs ++ filter (λ x. not (t x)) (drop b.cursor (ids b.line))) (take_all b.cursor (ids b.line) end)
    ∙ ap (λ zs. ids b.line ++ filter (λ x. not (t x)) zs) (drop_all b.cursor (ids b.line) end)
    ∙ append-nil (ids b.line))
ids_of_removal t (suc n) b long =
    ids_of_removal t n (removal_step (λ g. t g.glyph_id) b) (length_of_step t b n long)
    ∙ ids_of_step t b (omega (arith, long))

-- the ids that removal leaves are those that do not pass, in their order
pub ids_of_removed : (t : ℕ → Bool) (b : Buffer) → ids (removed (λ g. t g.glyph_id) b).line ≡ filter (λ x. not (t x)) (ids b.line)
ids_of_removed t b = ids_of_removal t (length b.line) (with_cursor b 0) (omega arith)

-- no glyph is left that passes
pub none_passes : (t : ℕ → Bool) (b : Buffer) → All (λ g. t g.glyph_id ≡ false) (removed (λ g. t g.glyph_id) b).line
none_passes t b k d low =
    let line : List hb_glyph_info_t = (removed (λ g. t g.glyph_id) b).line in
    let id : hb_glyph_info_t → ℕ = λ g. g.glyph_id in
    let xs : List ℕ = filter (λ x. not (t x)) (ids b.line) in
    let same : ids line ≡ xs = ids_of_removed t b in
    let long : length line ≡ length xs = sym (length-map line id) ∙ ap length same in
    let read : get_or xs k 0 ≡ (get_or line k d).glyph_id = ap (λ zs. get_or zs k 0) (sym same) ∙ get_or-map id line k d 0 low in
    let fails : not (t (get_or xs k 0)) ≡ true = filter_passes (λ x. not (t x)) (ids b.line) k 0 (omega (arith, low, long)) in
    ap t (sym read) ∙ not_true (t (get_or xs k 0)) fails
  where
    not_true : (a : Bool) → not a ≡ true → a ≡ false
    not_true true e = sym e
    not_true false _ = refl

-- removal of the deleted glyphs leaves the other ids in their order
pub ids_of_undeleted : (b : Buffer) → ids (removed is_deleted b).line ≡ filter (λ x. not (x == 0xFFFF)) (ids b.line)
ids_of_undeleted b = ids_of_removed (λ x. x == 0xFFFF) b

-- and no deleted one
pub none_deleted : (b : Buffer) → All (λ g. g.glyph_id ≢ 0xFFFF) (removed is_deleted b).line
none_deleted b k d low e = let fails = none_passes (λ x. x == 0xFFFF) b k d low in grind (arith, nat_tests, fails, e)
