-- A place before which a line may be broken is one at which it can be kerned in parts.
use Rattle.std.proofs.Common.{◌≡◌, ◌≢◌, ◌∙◌, sym, ap, refl, ℕ, suc, ◌+◌, ◌-◌, ◌<◌, ◌==◌, ◌&&◌, ◌||◌, Bool, true, false, not, cond, List, [], ◌∷◌, ◌++◌, reverse, take, drop, length, filter, arith, true≢false, nat_lt, bit_and, append_assoc, take_at, drop_at, subst, one-add}
use Rattle.std.specs.List.{list_any, prefix_len}
use Rattle.std.specs.Prelude.{take_while}
use Rattle.std.proofs.lemmas.Bool.{eqb-true}
use Rattle.std.proofs.lemmas.Bool.Decides.{nat_tests}
use Rattle.std.proofs.lemmas.List.{get_or_at, length-append, reverse-append}
use Rattle.aat_glyph.specs.declared.glyph.hb_glyph_info_t.{hb_glyph_info_t}
use Rattle.aat_buffer.specs.Buffer.{Buffer, glyph_at, no_glyph}
use Rattle.aat_buffer.specs.Marks.{cluster_at}
use Rattle.aat_buffer.specs.Removal.{is_deleted}
use Rattle.aat_font.specs.declared.plan.Feature.{Feature}
use Rattle.aat_kerning.specs.Cut.{IsCutPlace, IsUnflaggedAt, ordered_line}
use Rattle.aat_kerning.specs.Pairs.{is_solid}
use Rattle.aat_shaped_text.specs.Breaks.{is_unsafe, kept_before, later_run, may_break_at, run_from, run_up_to, shares_cluster}
use Rattle.aat_shaped_text.specs.TextFeatures.{ask_evenly}
use Rattle.aat_shaped_text.proofs.Fronts.{OpensAt, count_kept}
use Rattle.aat_shaped_text.proofs.LooksSplit.{stays}
use Rattle.aat_shaped_text.proofs.Spots.{BeginsKept, Spot, some_stays}
use Rattle.aat_shaped_text.proofs.SpotsRuns.{Glyphs, spots}

-- what the test of a break asks for
pub record MayBreak (even : Bool) (features : List Feature) (line : Glyphs) (i : ℕ) : Type 0 where
  pub some : nat_lt 0 (kept_before line i) ≡ true
  pub starts : not (cluster_at line i == cluster_at line (i - 1)) ≡ true
  pub safe : not (list_any is_unsafe (later_run line i)) ≡ true
  pub asks : ask_evenly even features (cluster_at line (i - 1)) (cluster_at line i) ≡ true

pub four : (a b c d : Bool) → (a && b && c && d) ≡ true → (a ≡ true) × (b ≡ true) × (c ≡ true) × (d ≡ true)
four true true true true is = (refl, refl, refl, refl)
four true true true false is = absurd (true≢false (sym is))
four true true false d is = absurd (true≢false (sym is))
four true false c d is = absurd (true≢false (sym is))
four false b c d is = absurd (true≢false (sym is))

pub may_break_is : (even : Bool) (features : List Feature) (line : Glyphs) (i : ℕ) → may_break_at even features line i ≡ true → MayBreak even features line i
may_break_is even features line i is =
    let all = four (nat_lt 0 (kept_before line i)) (not (cluster_at line i == cluster_at line (i - 1)))
    (not (list_any is_unsafe (later_run line i))) (ask_evenly even features (cluster_at line (i - 1)) (cluster_at line i)) is in
    record { some = all.0; starts = all.1; safe = all.2; asks = all.3 }

some_from : (ss : List Spot) → 0 < stays ss → some_stays ss ≡ true
some_from [] some = absurd (omega (arith, some))
some_from ((true, c) ∷ ss) some = some_from ss some
some_from ((false, c) ∷ ss) some = refl

-- the last of a list
pub record Ended (gs : Glyphs) : Type 0 where
  pub front : Glyphs
  pub last : hb_glyph_info_t
  pub whole : gs ≡ front ++ last ∷ []

ended : (g : hb_glyph_info_t) (gs : Glyphs) → Ended (g ∷ gs)
ended g [] = record { front = []; last = g; whole = refl }
ended g (h ∷ gs) = let e = ended h gs in record { front = g ∷ e.front; last = e.last; whole = ap (λ zs. g ∷ zs) e.whole }

ended_some : (gs : Glyphs) → some_stays (spots gs) ≡ true → Ended gs
ended_some [] some = absurd (true≢false (sym some))
ended_some (g ∷ gs) some = ended g gs

-- none in a run passes, so its first does not
first_of_run :
    (p q : hb_glyph_info_t → Bool) (g : hb_glyph_info_t) (gs : Glyphs) → p g ≡ true
    → not (list_any q (take_while p (g ∷ gs))) ≡ true → q g ≡ false
first_of_run p q g gs in_run none = by (q g) refl
  where
    run : take_while p (g ∷ gs) ≡ g ∷ take (prefix_len p gs) gs
    run =
        ap (λ (t : Bool). take (cond t (1 + prefix_len p gs) 0) (g ∷ gs)) in_run
        ∙ ap (λ n. take n (g ∷ gs)) (one-add (prefix_len p gs))

    by : (t : Bool) → q g ≡ t → t ≡ false
    by false is = refl
    by true is = absurd (true≢false (sym (sym (ap (λ zs. not (list_any q zs)) run ∙ ap (λ (t : Bool). not (t || list_any q (take (prefix_len p gs) gs))) is) ∙ none)))

safe_bit : (g : hb_glyph_info_t) → is_unsafe g ≡ false → bit_and g.mask 1 ≡ 0
safe_bit g safe = by (bit_and g.mask 1 == 0) refl
  where
    by : (t : Bool) → (bit_and g.mask 1 == 0) ≡ t → bit_and g.mask 1 ≡ 0
    by true is = eqb-true (bit_and g.mask 1) 0 is
    by false is = absurd (true≢false (sym (ap not is) ∙ safe))

same_is : (n m : ℕ) → n ≡ m → (n == m) ≡ true
same_is n m e = grind (arith, nat_tests, e)

-- A line that may be cut at a place: the glyphs that meet there. The first of those behind it that stays has the cluster
-- of the first, and so have those before.
pub record MeetsAt (line : Glyphs) (k i : ℕ) : Type 0 where
  pub front : Glyphs
  pub last : hb_glyph_info_t
  pub here : hb_glyph_info_t
  pub back : Glyphs
  pub whole : line ≡ (front ++ last ∷ []) ++ here ∷ back
  pub long : length (front ++ last ∷ []) ≡ i
  pub kept : BeginsKept here.cluster (spots (here ∷ back))
  pub count : stays (spots (front ++ last ∷ [])) ≡ k
  pub some : some_stays (spots (front ++ last ∷ [])) ≡ true
  pub other : last.cluster ≢ here.cluster
  pub behind_first : 0 < i
  pub before_end : i < length line
  pub starts : cluster_at line i ≢ cluster_at line (i - 1)

-- what is asked of glyphs but for their marks
pub record MayMeet (line : Glyphs) (i : ℕ) : Type 0 where
  pub some : nat_lt 0 (kept_before line i) ≡ true
  pub starts : not (cluster_at line i == cluster_at line (i - 1)) ≡ true

pub meets_of : (even : Bool) (features : List Feature) (line : Glyphs) (i : ℕ) → MayBreak even features line i → MayMeet line i
meets_of even features line i may = record { some = may.some; starts = may.starts }

module _ (line : Glyphs) (k i : ℕ) (at_place : OpensAt line k i) (may : MayMeet line i) where
  some_kept : some_stays (spots at_place.front) ≡ true
  some_kept =
      let before : take i line ≡ at_place.front = ap (take i) at_place.whole ∙ take_at at_place.front (at_place.here ∷ at_place.back) i (sym at_place.stands) in
      let count : kept_before line i ≡ stays (spots at_place.front) = ap (λ zs. length (filter (λ g. not (is_deleted g)) zs)) before ∙ count_kept at_place.front in
      let some : 0 < kept_before line i = grind (arith, nat_tests, may.some) in
      some_from (spots at_place.front) (omega (arith, some, count))

  abbrev end : Ended at_place.front
  end = ended_some at_place.front some_kept

  whole_is : line ≡ (end.front ++ end.last ∷ []) ++ at_place.here ∷ at_place.back
  whole_is = at_place.whole ∙ ap (λ zs. zs ++ at_place.here ∷ at_place.back) end.whole

  long_is : length (end.front ++ end.last ∷ []) ≡ i
  long_is = ap length (sym end.whole) ∙ sym at_place.stands

  here_is : glyph_at line i ≡ at_place.here
  here_is = ap (λ zs. glyph_at zs i) at_place.whole ∙ get_or_at at_place.front at_place.here at_place.back no_glyph i (sym at_place.stands)

  place_is : length end.front + 1 ≡ i
  place_is = sym (length-append end.front (end.last ∷ [])) ∙ long_is

  last_is : glyph_at line (i - 1) ≡ end.last
  last_is =
      ap (λ zs. glyph_at zs (i - 1)) (whole_is ∙ append_assoc end.front (end.last ∷ []) (at_place.here ∷ at_place.back))
      ∙ get_or_at end.front end.last (at_place.here ∷ at_place.back) no_glyph (i - 1) (omega (arith, place_is))

  clusters_differ : cluster_at line i ≢ cluster_at line (i - 1)
  clusters_differ e = let fails = may.starts in true≢false (sym fails ∙ ap not (same_is (cluster_at line i) (cluster_at line (i - 1)) e))

  pub meets_at : MeetsAt line k i
  meets_at = record {
    front = end.front;
    last = end.last;
    here = at_place.here;
    back = at_place.back;
    whole = whole_is;
    long = long_is;
    kept = at_place.kept;
    count = ap (λ zs. stays (spots zs)) (sym end.whole) ∙ at_place.count;
    some = ap (λ zs. some_stays (spots zs)) (sym end.whole) ∙ some_kept;
    other = λ e. clusters_differ (ap (λ (g : hb_glyph_info_t). g.cluster) here_is ∙ (sym e ∙ ap (λ (g : hb_glyph_info_t). g.cluster) (sym last_is)));
    behind_first = omega (arith, place_is);
    before_end =
        let whole : length line ≡ length at_place.front + suc (length at_place.back) = ap length at_place.whole ∙ length-append at_place.front (at_place.here ∷ at_place.back) in
        let stands = at_place.stands in omega (arith, whole, stands);
    starts = clusters_differ;
  }

-- where none of the later cluster is marked, neither is its glyph at the place
module _ (k i : ℕ) (line : Glyphs) (m : MeetsAt line k i) where
  met_here : glyph_at line i ≡ m.here
  met_here = ap (λ zs. glyph_at zs i) m.whole ∙ get_or_at (m.front ++ m.last ∷ []) m.here m.back no_glyph i m.long

  met_count : length m.front + 1 ≡ i
  met_count = sym (length-append m.front (m.last ∷ [])) ∙ m.long

  met_last : glyph_at line (i - 1) ≡ m.last
  met_last =
      ap (λ zs. glyph_at zs (i - 1)) (m.whole ∙ append_assoc m.front (m.last ∷ []) (m.here ∷ m.back))
      ∙ get_or_at m.front m.last (m.here ∷ m.back) no_glyph (i - 1) (omega (arith, met_count))

  pub unflagged_at : not (list_any is_unsafe (later_run line i)) ≡ true → IsUnflaggedAt i line
  unflagged_at none = by (nat_lt (cluster_at line (i - 1)) (cluster_at line i)) none
    where
      by :
          (t : Bool) → not (list_any is_unsafe (cond t (run_from line i) (run_up_to line (i - 1)))) ≡ true
          → bit_and (glyph_at line (cond t i (i - 1))).mask 1 ≡ 0
      by true safe =
          let rest : drop i line ≡ m.here ∷ m.back = ap (drop i) m.whole ∙ drop_at (m.front ++ m.last ∷ []) (m.here ∷ m.back) i m.long in
          let none : not (list_any is_unsafe (take_while (shares_cluster line i) (m.here ∷ m.back))) ≡ true =
          ap (λ zs. not (list_any is_unsafe (take_while (shares_cluster line i) zs))) (sym rest) ∙ safe in
          let first = first_of_run (shares_cluster line i) is_unsafe m.here m.back
          (same_is m.here.cluster (cluster_at line i) (ap (λ (g : hb_glyph_info_t). g.cluster) (sym met_here))) none in
          ap (λ (g : hb_glyph_info_t). bit_and g.mask 1) met_here ∙ safe_bit m.here first
      by false safe =
          let place : (i - 1) + 1 ≡ i = omega (arith, met_count) in
          let before : reverse (take ((i - 1) + 1) line) ≡ m.last ∷ reverse m.front =
          ap (λ n. reverse (take n line)) place
          ∙ (ap (λ zs. reverse (take i zs)) m.whole
          ∙ (ap reverse (take_at (m.front ++ m.last ∷ []) (m.here ∷ m.back) i m.long)
          ∙ reverse-append m.front (m.last ∷ []))) in
          let none : not (list_any is_unsafe (take_while (shares_cluster line (i - 1)) (m.last ∷ reverse m.front))) ≡ true =
          ap (λ zs. not (list_any is_unsafe (take_while (shares_cluster line (i - 1)) zs))) (sym before) ∙ safe in
          let first = first_of_run (shares_cluster line (i - 1)) is_unsafe m.last (reverse m.front)
          (same_is m.last.cluster (cluster_at line (i - 1)) (ap (λ (g : hb_glyph_info_t). g.cluster) (sym met_last))) none in
          ap (λ (g : hb_glyph_info_t). bit_and g.mask 1) met_last ∙ safe_bit m.last first

-- where its glyph is solid too, kerning by pairs may be cut there
pub cut_place : (skips k i : ℕ) (line : Glyphs) (b : Buffer) → line ≡ ordered_line b → MeetsAt line k i
    → is_solid skips (glyph_at line i) ≡ true → not (list_any is_unsafe (later_run line i)) ≡ true → IsCutPlace skips i b
cut_place skips k i line b same m solid safe = record {
  behind_first = m.behind_first;
  before_end = subst (λ (zs : Glyphs). i < length zs) same m.before_end;
  solid = subst (λ (zs : Glyphs). is_solid skips (glyph_at zs i) ≡ true) same solid;
  starts = subst (λ (zs : Glyphs). cluster_at zs i ≢ cluster_at zs (i - 1)) same m.starts;
  unflagged = subst (IsUnflaggedAt i) same (unflagged_at k i line m safe);
}
