-- Edits of a line, of which the flags of its glyphs are taken away before or behind.
use Rattle.std.proofs.Common.{◌≡◌, ◌∙◌, ℕ, ◌+◌, ◌-◌, ◌≤◌, ◌==◌, ◌&&◌, not, Bool, true, false, cond, List, [], ◌∷◌, ◌++◌, length, map, take, drop, min, nat_le, nat_lt, reverse, refl, ap, sym, arith}
use Rattle.std.proofs.Math.ListN.{get_or-map}
use Rattle.std.proofs.lemmas.Bool.Decides.{nat_tests}
use Rattle.std.proofs.lemmas.List.{drop-map, length-map, map-append, map-set, reverse-append, take-map}
use Rattle.std.proofs.lemmas.List.Folds.{fold-map}
use Rattle.std.proofs.lemmas.Nat.{and_or_apart}
use Rattle.std.specs.List.{prefix_len}
use Rattle.std.specs.Prelude.{fold, slice_range, slice_set}
use Rattle.aat_buffer.specs.Buffer.{glyph_at, model_at, no_glyph}
use Rattle.aat_buffer.specs.Marks.{break_marked, cluster_at, least_of, marked_above, merge_end, merge_start, merged, merged_out, on_long_span, on_span, run_after, run_before, run_of, with_cluster, with_mask_bits}
use Rattle.aat_buffer.specs.facts.Cases.{chosen, either}
use Rattle.aat_buffer.specs.facts.Clusters.{map_span}
use Rattle.aat_glyph.specs.declared.glyph.hb_glyph_info_t.{hb_glyph_info_t}
use Rattle.aat_lookup.specs.declared.glyph_id.GlyphId.{GlyphId}
use Rattle.aat_kinds.specs.Insertion.{copies, inserted}
use Rattle.aat_kinds.specs.Rearrangement.{in_its_order, rearranged, size_of}
use Rattle.aat_closing.specs.Unflagged.{bare, unflagged}

-- choices by the same test, of things that are alike
pub same_choice : {A B : Type 0} (f : A → B) (s t : Bool) → s ≡ t → (x y u v : A) → f x ≡ f u → f y ≡ f v → f (cond s x y) ≡ f (cond t u v)
same_choice f s t same x y u v p q = ap (λ (w : Bool). f (cond w x y)) same ∙ by_test t
  where
    by_test : (w : Bool) → f (cond w x y) ≡ f (cond w u v)
    by_test true = p
    by_test false = q

-- Marks change nothing but flags.
bare_mark : (g : hb_glyph_info_t) → unflagged (with_mask_bits 3 g) ≡ unflagged g
bare_mark g = λ i. record g { mask = and_or_apart 0xFFFFFFF8 g.mask 3 refl i }

bare_above : (least : ℕ) (g : hb_glyph_info_t) → unflagged (marked_above least 3 g) ≡ unflagged g
bare_above least g = either unflagged (g.cluster == least) g (with_mask_bits 3 g) (unflagged g) refl (bare_mark g)

pub bare_marked : (i j : ℕ) (gs : List hb_glyph_info_t) → i ≤ j → bare (on_span break_marked i j gs) ≡ bare gs
bare_marked i j gs low = map_span unflagged (marked_above (least_of (slice_range gs i j)) 3) (bare_above (least_of (slice_range gs i j))) i j gs low

pub bare_long : (i j : ℕ) (gs : List hb_glyph_info_t) → bare (on_long_span break_marked i j gs) ≡ bare gs
bare_long i j gs =
    chosen (λ (hs : List hb_glyph_info_t). bare hs ≡ bare gs) (nat_le (i + 2) j) (on_span break_marked i j gs) gs (λ long. bare_marked i j gs (grind (arith, nat_tests, long))) (λ _. refl)

-- What is read of a line.
pub bare_length : (gs : List hb_glyph_info_t) → length (bare gs) ≡ length gs
bare_length gs = length-map gs unflagged

pub bare_at : (gs : List hb_glyph_info_t) (i : ℕ) → glyph_at (bare gs) i ≡ unflagged (glyph_at gs i)
bare_at gs i = get_or-map unflagged gs i no_glyph

pub bare_cluster_at : (gs : List hb_glyph_info_t) (i : ℕ) → cluster_at (bare gs) i ≡ cluster_at gs i
bare_cluster_at gs i = ap (λ (g : hb_glyph_info_t). g.cluster) (bare_at gs i)

-- Parts of a line.
pub bare_slice : (i j : ℕ) (gs : List hb_glyph_info_t) → slice_range (bare gs) i j ≡ bare (slice_range gs i j)
bare_slice i j gs = ap (take (j - i)) (drop-map unflagged i gs) ∙ take-map unflagged (j - i) (drop i gs)

pub bare_reverse : (gs : List hb_glyph_info_t) → bare (reverse gs) ≡ reverse (bare gs)
bare_reverse [] = refl
bare_reverse (g ∷ gs) =
    ap bare (reverse-append (g ∷ []) gs)
    ∙ (map-append unflagged (reverse gs) (g ∷ [])
    ∙ (ap (λ (xs : List hb_glyph_info_t). xs ++ (unflagged g ∷ [])) (bare_reverse gs) ∙ sym (reverse-append (unflagged g ∷ []) (bare gs))))

-- a change of a span that does not look at flags
pub bare_span : (f : List hb_glyph_info_t → List hb_glyph_info_t) → ((xs : List hb_glyph_info_t) → bare (f xs) ≡ f (bare xs)) → (i j : ℕ) (gs : List hb_glyph_info_t) → bare (on_span f i j gs) ≡ on_span f i j (bare gs)
bare_span f blind i j gs =
    let span : List hb_glyph_info_t = slice_range gs i j in
    let middle : bare (f span) ≡ f (slice_range (bare gs) i j) = blind span ∙ ap f (sym (bare_slice i j gs)) in
    map-append unflagged (take i gs) (f span ++ drop j gs)
    ∙ (ap (λ (xs : List hb_glyph_info_t). bare (take i gs) ++ xs) (map-append unflagged (f span) (drop j gs))
    ∙ (λ k. sym (take-map unflagged i gs) k ++ (middle k ++ sym (drop-map unflagged j gs) k)))

-- one glyph that is put down
pub bare_set : (gs : List hb_glyph_info_t) (i : ℕ) (g : hb_glyph_info_t) → bare (slice_set gs i g) ≡ slice_set (bare gs) i (unflagged g)
bare_set gs i g = map-set unflagged gs i g

-- a glyph that is changed where it stands
pub bare_change : (f : hb_glyph_info_t → hb_glyph_info_t) → ((g : hb_glyph_info_t) → unflagged (f g) ≡ f (unflagged g)) → (gs : List hb_glyph_info_t) (i : ℕ)
    → bare (slice_set gs i (f (glyph_at gs i))) ≡ slice_set (bare gs) i (f (glyph_at (bare gs) i))
bare_change f blind gs i = bare_set gs i (f (glyph_at gs i)) ∙ ap (slice_set (bare gs) i) (blind (glyph_at gs i) ∙ ap f (sym (bare_at gs i)))

-- each glyph that is changed
pub bare_map : (f : hb_glyph_info_t → hb_glyph_info_t) → ((g : hb_glyph_info_t) → unflagged (f g) ≡ f (unflagged g)) → (gs : List hb_glyph_info_t) → bare (map f gs) ≡ map f (bare gs)
bare_map f blind [] = refl
bare_map f blind (g ∷ gs) = λ k. blind g k ∷ bare_map f blind gs k

-- Merges take the flags away where they change a cluster.
bare_cluster : (c : ℕ) (g : hb_glyph_info_t) → unflagged (with_cluster c g) ≡ with_cluster c (unflagged g)
bare_cluster c g = by_cluster (g.cluster == c)
  where
    by_cluster : (t : Bool) → unflagged (cond t g (record g { cluster = c; mask = (unflagged g).mask })) ≡ cond t (unflagged g) (record (unflagged g) { cluster = c; mask = (unflagged (unflagged g)).mask })
    by_cluster true = refl
    by_cluster false = refl

bare_least : (gs : List hb_glyph_info_t) → least_of (bare gs) ≡ least_of gs
bare_least gs =
    fold-map (λ (m : ℕ) (g : hb_glyph_info_t). min m g.cluster) unflagged (cluster_at (bare gs) 0) gs
    ∙ ap (λ (c : ℕ). fold (λ (m : ℕ) (g : hb_glyph_info_t). min m g.cluster) c gs) (bare_cluster_at gs 0)

bare_prefix : (c : ℕ) (gs : List hb_glyph_info_t) → prefix_len (λ (g : hb_glyph_info_t). g.cluster == c) (bare gs) ≡ prefix_len (λ (g : hb_glyph_info_t). g.cluster == c) gs
bare_prefix c [] = refl
bare_prefix c (g ∷ gs) = ap (λ (n : ℕ). cond (g.cluster == c) (1 + n) 0) (bare_prefix c gs)

bare_run : (c : ℕ) (gs : List hb_glyph_info_t) → run_of c (bare gs) ≡ run_of c gs
bare_run c gs =
    let n : ℕ = prefix_len (λ (g : hb_glyph_info_t). g.cluster == c) gs in
    ap (λ (k : ℕ). length (take k (bare gs))) (bare_prefix c gs) ∙ (ap length (take-map unflagged n gs) ∙ bare_length (take n gs))

bare_after : (gs : List hb_glyph_info_t) (j c : ℕ) → run_after (bare gs) j c ≡ run_after gs j c
bare_after gs j c = ap (run_of c) (drop-map unflagged j gs) ∙ bare_run c (drop j gs)

bare_before : (gs : List hb_glyph_info_t) (p i c : ℕ) → run_before (bare gs) p i c ≡ run_before gs p i c
bare_before gs p i c =
    ap (λ (xs : List hb_glyph_info_t). run_of c (reverse xs)) (bare_slice p i gs)
    ∙ (ap (run_of c) (sym (bare_reverse (slice_range gs p i))) ∙ bare_run c (reverse (slice_range gs p i)))

-- the span that takes its least cluster
module _ (gs : List hb_glyph_info_t) (i j : ℕ) where
  least_same : least_of (slice_range gs i j) ≡ least_of (slice_range (bare gs) i j)
  least_same = sym (ap least_of (bare_slice i j gs) ∙ bare_least (slice_range gs i j))

  first_same : cluster_at gs i ≡ cluster_at (bare gs) i
  first_same = sym (bare_cluster_at gs i)

  last_same : cluster_at gs (j - 1) ≡ cluster_at (bare gs) (j - 1)
  last_same = sym (bare_cluster_at gs (j - 1))

  before_same : (p : ℕ) → run_before gs p i (cluster_at gs i) ≡ run_before (bare gs) p i (cluster_at (bare gs) i)
  before_same p = sym (bare_before gs p i (cluster_at gs i)) ∙ ap (run_before (bare gs) p i) first_same

  after_same : run_after gs j (cluster_at gs (j - 1)) ≡ run_after (bare gs) j (cluster_at (bare gs) (j - 1))
  after_same = sym (bare_after gs j (cluster_at gs (j - 1))) ∙ ap (run_after (bare gs) j) last_same

  pub bare_merged : (p : ℕ) → bare (merged gs p i j) ≡ merged (bare gs) p i j
  unfolding merged
  bare_merged p =
      let m : ℕ = least_of (slice_range gs i j) in
      let n : ℕ = least_of (slice_range (bare gs) i j) in
      let start : merge_start gs p i m ≡ merge_start (bare gs) p i n = λ k. cond (not (first_same k == least_same k) && nat_lt p i) (i - before_same p k) i in
      let end : merge_end gs j m ≡ merge_end (bare gs) j n = λ k. cond (not (last_same k == least_same k)) (j + after_same k) j in
      bare_span (map (with_cluster m)) (bare_map (with_cluster m) (bare_cluster m)) (merge_start gs p i m) (merge_end gs j m) gs
      ∙ (λ k. on_span (map (with_cluster (least_same k))) (start k) (end k) (bare gs))

  pub bare_merged_out : bare (merged_out gs i j) ≡ merged_out (bare gs) i j
  unfolding merged_out
  bare_merged_out =
      let m : ℕ = least_of (slice_range gs i j) in
      bare_span (map (with_cluster m)) (bare_map (with_cluster m) (bare_cluster m)) (i - run_before gs 0 i (cluster_at gs i)) (j + run_after gs j (cluster_at gs (j - 1))) gs
      ∙ (λ k. on_span (map (with_cluster (least_same k))) (i - before_same 0 k) (j + after_same k) (bare gs))

-- A span that a verb moves. The types of verbs and their parts have no name outside their crate.
bare_order : (p : _) (xs : List hb_glyph_info_t) → bare (in_its_order p xs) ≡ in_its_order p (bare xs)
bare_order p xs = grind (arith, bare_reverse xs)

pub bare_rearranged : (v : _) (xs : List hb_glyph_info_t) → bare (rearranged v xs) ≡ rearranged v (bare xs)
unfolding rearranged
bare_rearranged v xs =
    let left : ℕ = size_of v.front in
    let right : length xs - size_of v.back ≡ length (bare xs) - size_of v.back = ap (λ (n : ℕ). n - size_of v.back) (sym (bare_length xs)) in
    let to : ℕ = length xs - size_of v.back in
    let back : bare (in_its_order v.back (drop to xs)) ≡ in_its_order v.back (drop to (bare xs)) = bare_order v.back (drop to xs) ∙ ap (in_its_order v.back) (sym (drop-map unflagged to xs)) in
    let front : bare (in_its_order v.front (take left xs)) ≡ in_its_order v.front (take left (bare xs)) = bare_order v.front (take left xs) ∙ ap (in_its_order v.front) (sym (take-map unflagged left xs)) in
    map-append unflagged (in_its_order v.back (drop to xs)) (slice_range xs left to ++ in_its_order v.front (take left xs))
    ∙ (ap (λ (ys : List hb_glyph_info_t). bare (in_its_order v.back (drop to xs)) ++ ys) (map-append unflagged (slice_range xs left to) (in_its_order v.front (take left xs)))
    ∙ ((λ k. back k ++ (sym (bare_slice left to xs) k ++ front k))
    ∙ (λ k. in_its_order v.back (drop (right k) (bare xs)) ++ (slice_range (bare xs) left (right k) ++ in_its_order v.front (take left (bare xs))))))

-- Glyphs that go in.
bare_copies : (g : hb_glyph_info_t) (new : List GlyphId) → bare (copies g new) ≡ copies (unflagged g) new
bare_copies g [] = refl
bare_copies g (n ∷ new) = λ k. record (unflagged g) { glyph_id = n.0 } ∷ bare_copies g new k

pub bare_inserted : (new : List GlyphId) (i : ℕ) (behind : Bool) (gs : List hb_glyph_info_t) → bare (inserted new i behind gs) ≡ inserted new i behind (bare gs)
unfolding inserted
bare_inserted new i behind gs =
    let a : ℕ = cond (behind && nat_lt i (length gs)) (i + 1) i in
    let long : length gs ≡ length (bare gs) = sym (bare_length gs) in
    let model : unflagged (model_at gs i) ≡ model_at (bare gs) i = sym (bare_at gs (min i (length gs - 1))) ∙ ap (λ (n : ℕ). glyph_at (bare gs) (min i (n - 1))) long in
    let made : bare (copies (model_at gs i) new) ≡ copies (model_at (bare gs) i) new = bare_copies (model_at gs i) new ∙ ap (λ (g : hb_glyph_info_t). copies g new) model in
    map-append unflagged (take a gs) (copies (model_at gs i) new ++ drop a gs)
    ∙ (ap (λ (ys : List hb_glyph_info_t). bare (take a gs) ++ ys) (map-append unflagged (copies (model_at gs i) new) (drop a gs))
    ∙ ((λ k. sym (take-map unflagged a gs) k ++ (made k ++ sym (drop-map unflagged a gs) k))
    ∙ ap (λ (n : ℕ). take (cond (behind && nat_lt i n) (i + 1) i) (bare gs) ++ (copies (model_at (bare gs) i) new ++ drop (cond (behind && nat_lt i n) (i + 1) i) (bare gs))) long))
