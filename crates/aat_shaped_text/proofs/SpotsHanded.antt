-- What handing on a cluster leaves of a line, by its spots.
use Rattle.std.proofs.Common.{◌≡◌, ◌∙◌, sym, ap, refl, ℕ, suc, ◌+◌, ◌-◌, ◌<◌, ◌≤◌, ◌==◌, ◌&&◌, Bool, true, false, not, cond, min, List, [], ◌∷◌, ◌++◌, length, map, take, drop, reverse, get_or, nat_lt, nat_le, arith, append_assoc, get_or-append-add}
use Rattle.std.proofs.lemmas.Bool.{eqb-true}
use Rattle.std.proofs.lemmas.Bool.Decides.{nat_tests}
use Rattle.std.proofs.lemmas.Grind.{reverse_onto}
use Rattle.std.proofs.lemmas.List.{get_or_at, length-append, length-reverse}
use Rattle.aat_glyph.specs.declared.glyph.hb_glyph_info_t.{hb_glyph_info_t}
use Rattle.aat_buffer.specs.Buffer.{no_glyph, glyph_at}
use Rattle.aat_buffer.specs.Marks.{cluster_at, merge_end, merge_start, merged, merged_line, on_span, run_before, run_of, with_cluster}
use Rattle.aat_buffer.specs.Removal.{cluster_kept_line, is_deleted, lowered_run, with_cluster_and_flags}
use Rattle.aat_shaped_text.proofs.Spots.{Spot, begins_with, lower, lower_run, lowered, merge_run, raised}
use Rattle.aat_shaped_text.proofs.SpotsRuns.{Glyphs, clusters, clusters_of_run, lowered_is, map_run, run_is, spot, spot_set, spots, spots_of_run}

-- a line with its front turned round
abbrev pub line_of : Glyphs → Glyphs → Glyphs
line_of fs rest = reverse fs ++ rest

-- what handing on a cluster leaves of a line with a front and a glyph that goes
pub record HandedOn (fs : Glyphs) (g : hb_glyph_info_t) (rest line : Glyphs) : Type 0 where
  pub front : Glyphs
  pub here : hb_glyph_info_t
  pub behind : Glyphs
  pub whole : line ≡ line_of front (here ∷ behind)
  pub long : length front ≡ length fs
  pub fronts : clusters front ≡ lowered (clusters fs) g.cluster (spots rest)
  pub rests : spots behind ≡ raised (clusters fs) g.cluster (spots rest)

-- of a line that is equal
of_equal :
    (fs : Glyphs) (g : hb_glyph_info_t) (rest line other : Glyphs) → other ≡ line → HandedOn fs g rest line
    → HandedOn fs g rest other
of_equal fs g rest line other same h = record {
  front = h.front;
  here = h.here;
  behind = h.behind;
  whole = same ∙ h.whole;
  long = h.long;
  fronts = h.fronts;
  rests = h.rests;
}

same_is : (n : ℕ) → (n == n) ≡ true
same_is n = grind (arith, nat_tests)

lowered_none : (c : ℕ) (rest : List Spot) → [] ≡ lowered [] c rest
lowered_none c rest = by (begins_with c rest)
  where
    by : (t : Bool) → ◌≡◌ {A = List ℕ} [] (cond t [] [])
    by true = refl
    by false = refl

from_start : (f : hb_glyph_info_t → hb_glyph_info_t) (e : ℕ) (gs : Glyphs) → on_span (map f) 0 e gs ≡ map f (take e gs) ++ drop e gs
from_start f e gs = ap (λ k. map f (take k gs) ++ drop e gs) (omega arith)

module _ (g h : hb_glyph_info_t) (rest : Glyphs) where
  abbrev least : ℕ
  least = min (min g.cluster g.cluster) h.cluster

  abbrev two : Glyphs
  two = g ∷ (h ∷ rest)

  start_is : merge_start two 0 0 least ≡ 0
  start_is = by (not (g.cluster == least))
    where
      by : (t : Bool) → cond (t && nat_lt 0 0) (0 - run_before two 0 0 g.cluster) 0 ≡ 0
      by true = refl
      by false = refl

  end_is : (t : Bool) → (h.cluster == least) ≡ t → merge_end two 2 least ≡ cond t 2 (suc (suc (run_of h.cluster rest)))
  end_is t is = ap (λ u. cond (not u) (2 + run_of h.cluster rest) 2) is ∙ by t
    where
      by : (t : Bool) → cond (not t) (2 + run_of h.cluster rest) 2 ≡ cond t 2 (suc (suc (run_of h.cluster rest)))
      by true = refl
      by false = omega arith

  span_is : (t : Bool) → (h.cluster == least) ≡ t
      → merged two 0 0 2 ≡ on_span (map (with_cluster least)) 0 (cond t 2 (suc (suc (run_of h.cluster rest)))) two
  unfolding merged
  span_is t is =
      ap (λ i. on_span (map (with_cluster least)) i (merge_end two 2 least) two) start_is
      ∙ ap (λ j. on_span (map (with_cluster least)) 0 j two) (end_is t is)

  set_low : (x : hb_glyph_info_t) (c : ℕ) → least ≡ c → spot (with_cluster least x) ≡ (is_deleted x, c)
  set_low x c low = spot_set least x ∙ ap (λ n. (is_deleted x, n)) low

  -- of the first glyph, which goes
  merged_two : HandedOn [] g (h ∷ rest) (merged two 0 0 2)
  merged_two = by (nat_lt g.cluster h.cluster) refl
    where
      f : hb_glyph_info_t → hb_glyph_info_t
      f = with_cluster least

      by : (t : Bool) → nat_lt g.cluster h.cluster ≡ t → HandedOn [] g (h ∷ rest) (merged two 0 0 2)
      by true is =
          let below : g.cluster < h.cluster = grind (arith, nat_tests, is) in
          let low : least ≡ g.cluster = omega (arith, below) in
          let other : (h.cluster == least) ≡ false = grind (arith, nat_tests, below, low) in
          let k : ℕ = run_of h.cluster rest in
          record {
            front = [];
            here = f g;
            behind = f h ∷ map_run f h.cluster rest;
            whole = span_is false other
                ∙ (from_start f (suc (suc k)) two ∙ ap (λ zs. f g ∷ (f h ∷ zs)) (run_is f h.cluster rest));
            long = refl;
            fronts = lowered_none g.cluster (spots (h ∷ rest));
            rests = ap (λ s. s ∷ spots (map_run f h.cluster rest)) (set_low h g.cluster low)
                ∙ (ap (λ zs. (is_deleted h, g.cluster) ∷ zs)
                (spots_of_run f h.cluster g.cluster rest (λ x. set_low x g.cluster low))
                ∙ (sym (ap (λ (u : Bool). cond u ((is_deleted h, g.cluster) ∷ merge_run h.cluster g.cluster (spots rest)) (spots (h ∷ rest))) (same_is h.cluster))
                ∙ sym (ap (λ (u : Bool). cond u (merge_run h.cluster g.cluster (spots (h ∷ rest))) (spots (h ∷ rest))) is)));
          }
      by false is =
          let high : h.cluster ≤ g.cluster = grind (arith, nat_tests, is) in
          let low : least ≡ h.cluster = omega (arith, high) in
          let same : (h.cluster == least) ≡ true = grind (arith, nat_tests, low) in
          record {
            front = [];
            here = f g;
            behind = f h ∷ rest;
            whole = span_is true same ∙ from_start f 2 two;
            long = refl;
            fronts = lowered_none g.cluster (spots (h ∷ rest));
            rests = ap (λ s. s ∷ spots rest) (set_low h h.cluster low)
                ∙ sym (ap (λ (u : Bool). cond u (merge_run h.cluster g.cluster (spots (h ∷ rest))) (spots (h ∷ rest))) is);
          }

  -- where the next glyph has its cluster
  next_has_it : (h.cluster == g.cluster) ≡ true → HandedOn [] g (h ∷ rest) two
  next_has_it is =
      let same : h.cluster ≡ g.cluster = eqb-true h.cluster g.cluster is in
      let not_below : nat_lt g.cluster h.cluster ≡ false = grind (arith, nat_tests, same) in
      record {
        front = [];
        here = g;
        behind = h ∷ rest;
        whole = refl;
        long = refl;
        fronts = lowered_none g.cluster (spots (h ∷ rest));
        rests = sym (ap (λ (u : Bool). cond u (merge_run h.cluster g.cluster (spots (h ∷ rest))) (spots (h ∷ rest))) not_below);
      }

  long_enough : merged_line 0 0 0 2 two ≡ merged two 0 0 2
  long_enough =
      let both : min 2 (length two) ≡ 2 = omega arith in
      ap (λ j. cond (nat_le 2 j) (merged two 0 0 j) two) both

module _ (fs : Glyphs) (g : hb_glyph_info_t) (rest : Glyphs) where
  abbrev p : ℕ
  p = length fs

  abbrev gs : Glyphs
  gs = line_of fs (g ∷ rest)

  pub here_is : glyph_at gs p ≡ g
  here_is = get_or_at (reverse fs) g rest no_glyph p (length-reverse fs)

  next_is : (zs : Glyphs) → (nat_lt (p + 1) (length (line_of fs (g ∷ zs))) && (cluster_at (line_of fs (g ∷ zs)) (p + 1) == g.cluster)) ≡ begins_with g.cluster (spots zs)
  next_is [] =
      let long : length (line_of fs (g ∷ [])) ≡ p + 1 = length-append (reverse fs) (g ∷ []) ∙ omega (arith, length-reverse fs) in
      let none : nat_lt (p + 1) (length (line_of fs (g ∷ []))) ≡ false = grind (arith, nat_tests, long) in
      ap (λ t. t && (cluster_at (line_of fs (g ∷ [])) (p + 1) == g.cluster)) none
  next_is (h ∷ zs) =
      let line : Glyphs = line_of fs (g ∷ (h ∷ zs)) in
      let long : length line ≡ p + suc (suc (length zs)) = length-append (reverse fs) (g ∷ (h ∷ zs)) ∙ ap (λ n. n + suc (suc (length zs))) (length-reverse fs) in
      let some : nat_lt (p + 1) (length line) ≡ true = grind (arith, nat_tests, long) in
      let read : glyph_at line (p + 1) ≡ h =
      ap (λ n. get_or line (n + 1) no_glyph) (sym (length-reverse fs)) ∙ get_or-append-add (reverse fs) (g ∷ (h ∷ zs)) 1 no_glyph in
      ap (λ t. t && (cluster_at line (p + 1) == g.cluster)) some ∙ ap (λ (x : hb_glyph_info_t). x.cluster == g.cluster) read

  kept_is :
      cluster_kept_line 0 p gs
      ≡ cond (begins_with g.cluster (spots rest)) gs
      (cond (nat_lt 0 p)
      (cond (nat_lt g.cluster (cluster_at gs (p - 1))) (lowered_run gs p (cluster_at gs (p - 1)) g) gs)
      (cond (nat_lt (p + 1) (length gs)) (merged_line 0 p p (p + 2) gs) gs))
  unfolding cluster_kept_line
  kept_is =
      ap (λ (x : hb_glyph_info_t).
      cond (nat_lt (p + 1) (length gs) && (cluster_at gs (p + 1) == x.cluster)) gs
      (cond (nat_lt 0 p)
      (cond (nat_lt x.cluster (cluster_at gs (p - 1))) (lowered_run gs p (cluster_at gs (p - 1)) x) gs)
      (cond (nat_lt (p + 1) (length gs)) (merged_line 0 p p (p + 2) gs) gs))) here_is
      ∙ ap (λ (t : Bool).
      cond t gs
      (cond (nat_lt 0 p)
      (cond (nat_lt g.cluster (cluster_at gs (p - 1))) (lowered_run gs p (cluster_at gs (p - 1)) g) gs)
      (cond (nat_lt (p + 1) (length gs)) (merged_line 0 p p (p + 2) gs) gs))) (next_is rest)

-- of the first glyph
handed_first : (g : hb_glyph_info_t) (rest : Glyphs) → HandedOn [] g rest (cluster_kept_line 0 0 (g ∷ rest))
handed_first g [] =
    of_equal [] g [] (g ∷ []) (cluster_kept_line 0 0 (g ∷ [])) (kept_is [] g [])
    (record { front = []; here = g; behind = []; whole = refl; long = refl; fronts = refl; rests = refl })
handed_first g (h ∷ rest) =
    of_equal [] g (h ∷ rest) (cond (h.cluster == g.cluster) (two g h rest) (merged (two g h rest) 0 0 2)) (cluster_kept_line 0 0 (two g h rest))
    (kept_is [] g (h ∷ rest)
    ∙ (ap (λ (t : Bool). cond (h.cluster == g.cluster) (two g h rest) (cond t (merged_line 0 0 0 2 (two g h rest)) (two g h rest))) more
    ∙ ap (λ zs. cond (h.cluster == g.cluster) (two g h rest) zs) (long_enough g h rest)))
    (by (h.cluster == g.cluster) refl)
  where
    more : nat_lt 1 (length (two g h rest)) ≡ true
    more = grind (arith, nat_tests)

    by : (t : Bool) → (h.cluster == g.cluster) ≡ t → HandedOn [] g (h ∷ rest) (cond t (two g h rest) (merged (two g h rest) 0 0 2))
    by true is = next_has_it g h rest is
    by false is = merged_two g h rest

length_of_run : (f : hb_glyph_info_t → hb_glyph_info_t) (e : ℕ) (gs : Glyphs) → length (map_run f e gs) ≡ length gs
length_of_run f e [] = refl
length_of_run f e (g ∷ gs) = by (length_of_run f e gs) (g.cluster == e)
  where
    by : length (map_run f e gs) ≡ length gs → (t : Bool) → length (cond t (f g ∷ map_run f e gs) (g ∷ gs)) ≡ suc (length gs)
    by below true = ap suc below
    by below false = refl

-- of a glyph behind a kept one
handed_later : (k : hb_glyph_info_t) (fs : Glyphs) (g : hb_glyph_info_t) (rest : Glyphs) → HandedOn (k ∷ fs) g rest (cluster_kept_line 0 (length (k ∷ fs)) (line_of (k ∷ fs) (g ∷ rest)))
handed_later k fs g rest =
    of_equal (k ∷ fs) g rest (cond (begins_with g.cluster (spots rest)) gs (cond (nat_lt g.cluster k.cluster) (lowered_run gs p k.cluster g) gs)) (cluster_kept_line 0 p gs)
    (kept_is (k ∷ fs) g rest
    ∙ (ap (λ (t : Bool). cond (begins_with g.cluster (spots rest)) gs (cond t (cond (nat_lt g.cluster (cluster_at gs (p - 1))) (lowered_run gs p (cluster_at gs (p - 1)) g) gs) (cond (nat_lt (p + 1) (length gs)) (merged_line 0 p p (p + 2) gs) gs))) some
    ∙ ap (λ (x : hb_glyph_info_t). cond (begins_with g.cluster (spots rest)) gs (cond (nat_lt g.cluster x.cluster) (lowered_run gs p x.cluster g) gs)) last))
    (by (begins_with g.cluster (spots rest)) refl (nat_lt g.cluster k.cluster) refl)
  where
    p : ℕ
    p = suc (length fs)

    gs : Glyphs
    gs = line_of (k ∷ fs) (g ∷ rest)

    some : nat_lt 0 (suc (length fs)) ≡ true
    some = grind (arith, nat_tests)

    last : glyph_at (line_of (k ∷ fs) (g ∷ rest)) (suc (length fs) - 1) ≡ k
    last =
        ap (λ zs. glyph_at (zs ++ (g ∷ rest)) (suc (length fs) - 1)) (reverse_onto fs k [])
        ∙ (ap (λ zs. glyph_at zs (suc (length fs) - 1)) (append_assoc (reverse fs) (k ∷ []) (g ∷ rest))
        ∙ get_or_at (reverse fs) k (g ∷ rest) no_glyph (suc (length fs) - 1) (length-reverse fs ∙ omega arith))

    by : (t : Bool) → begins_with g.cluster (spots rest) ≡ t → (u : Bool) → nat_lt g.cluster k.cluster ≡ u
        → HandedOn (k ∷ fs) g rest (cond t (line_of (k ∷ fs) (g ∷ rest)) (cond u (lowered_run (line_of (k ∷ fs) (g ∷ rest)) (suc (length fs)) k.cluster g) (line_of (k ∷ fs) (g ∷ rest))))
    by true has u is = record {
      front = k ∷ fs;
      here = g;
      behind = rest;
      whole = refl;
      long = refl;
      fronts = sym (ap (λ (t : Bool). cond t (clusters (k ∷ fs)) (lower g.cluster (clusters (k ∷ fs)))) has);
      rests = refl;
    }
    by false has true is = record {
      front = map_run (with_cluster_and_flags g) k.cluster (k ∷ fs);
      here = g;
      behind = rest;
      whole = lowered_is (k ∷ fs) k.cluster g (g ∷ rest);
      long = length_of_run (with_cluster_and_flags g) k.cluster (k ∷ fs);
      fronts = clusters_of_run (with_cluster_and_flags g) k.cluster g.cluster (k ∷ fs) (λ _. refl)
          ∙ (sym (ap (λ (u : Bool). cond u (lower_run k.cluster g.cluster (clusters (k ∷ fs))) (clusters (k ∷ fs))) is)
          ∙ sym (ap (λ (t : Bool). cond t (clusters (k ∷ fs)) (lower g.cluster (clusters (k ∷ fs)))) has));
      rests = refl;
    }
    by false has false is = record {
      front = k ∷ fs;
      here = g;
      behind = rest;
      whole = refl;
      long = refl;
      fronts = sym (ap (λ (u : Bool). cond u (lower_run k.cluster g.cluster (clusters (k ∷ fs))) (clusters (k ∷ fs))) is)
          ∙ sym (ap (λ (t : Bool). cond t (clusters (k ∷ fs)) (lower g.cluster (clusters (k ∷ fs)))) has);
      rests = refl;
    }

pub handed_on : (fs : Glyphs) (g : hb_glyph_info_t) (rest : Glyphs) → HandedOn fs g rest (cluster_kept_line 0 (length fs) (line_of fs (g ∷ rest)))
handed_on [] g rest = handed_first g rest
handed_on (k ∷ fs) g rest = handed_later k fs g rest
