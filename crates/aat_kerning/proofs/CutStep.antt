-- One subtable of pairs, over a line and over its two parts.
use Rattle.std.proofs.Common.{◌≡◌, ℕ, suc, ◌+◌, ◌-◌, ◌<◌, ◌≤◌, Bool, true, cond, List, ◌∷◌, ◌++◌, length, map, take, drop, fold, pos, Option, Some, None, IfSome, refl, sym, ap, ◌∙◌, arith, subst}
use Rattle.std.specs.List.{cons_option}
use Rattle.std.specs.Ordering.{int_eq}
use Rattle.std.proofs.lemmas.List.Sums.{fold-append}
use Rattle.std.proofs.lemmas.Slice.Zip.{AllZip-long}
use Rattle.aat_buffer.specs.Buffer.{Buffer, glyph_at, position_list}
use Rattle.aat_buffer.specs.Marks.{cluster_at}
use Rattle.aat_glyph.specs.Directions.{is_horizontal}
use Rattle.aat_glyph.specs.declared.glyph.Direction.{Direction}
use Rattle.aat_glyph.specs.declared.glyph.GlyphPosition.{GlyphPosition}
use Rattle.aat_glyph.specs.declared.glyph.hb_glyph_info_t.{hb_glyph_info_t}
use Rattle.aat_kerning_machines.specs.KerningLaws.{IsMarkedFrom}
use Rattle.aat_kerning.specs.PairKerning.{kerned, pair_kerning, PairValues}
use Rattle.aat_kerning.specs.Pairs.{Pair, is_solid, pair_at, pairs_of}
use Rattle.aat_kerning.proofs.Changes.{of_pairs}
use Rattle.aat_kerning.proofs.CutMarks.{IsUnflagged, unflagged_before, pair_flagged}
use Rattle.aat_kerning.proofs.CutMoves.{ids_kept, pairs_move, moves, moved_by, value_at, same_value, fold_front, fold_front_off, fold_rest, fold_rest_off, front_moves, front_stays, back_moves, back_stays}
use Rattle.aat_kerning.proofs.CutPairs.{LooksLike, shifted, AllBefore, StandsBefore, pair_before, pairs_cut, pairs_within}
use Rattle.aat_kerning.proofs.Marked.{IsMarkedLine, marked_at}

-- the two places at the cut, and which of them has the greater cluster
pub record IsGreater (q great less : ℕ) (gs : List hb_glyph_info_t) : Type 0 where
  pub great_low : q ≤ great + 1
  pub great_high : great ≤ q
  pub less_low : q ≤ less + 1
  pub less_high : less ≤ q
  pub order : cluster_at gs less < cluster_at gs great

-- a line, and two parts of it whose glyphs look like its own and whose positions are its own
pub record IsCut (skips kern_mask q : ℕ) (way : Direction) (whole first second : Buffer) : Type 0 where
  pub short : length first.line ≡ q
  pub some : 0 < length second.line
  pub long : length whole.line ≡ q + length second.line
  pub solid : is_solid skips (glyph_at whole.line q) ≡ true
  pub front : (i : ℕ) → i < q → LooksLike skips kern_mask (glyph_at whole.line i) (glyph_at first.line i)
  pub back : (i : ℕ) → LooksLike skips kern_mask (glyph_at whole.line (q + i)) (glyph_at second.line i)
  pub whole_way : whole.direction ≡ way
  pub first_way : first.direction ≡ way
  pub second_way : second.direction ≡ way
  pub front_places : position_list first ≡ take q (position_list whole)
  pub back_places : position_list second ≡ drop q (position_list whole)

-- kerning by pairs
abbrev pub by_pairs : Bool → PairValues → Buffer → List Pair → Buffer
by_pairs is_cross values b ps = fold (λ d p. kerned is_cross values p d) b ps

-- the clusters of what is kerned are those from before
pub clusters_kept :
    (gs hs : List hb_glyph_info_t) → IsMarkedLine gs hs → (i : ℕ) → cluster_at hs i ≡ cluster_at gs i
clusters_kept gs hs k i = ap (λ (g : hb_glyph_info_t). g.cluster) (marked_at gs hs k i).2

-- and so the greater of the two is the greater one still
pub greater_kept :
    (q great less : ℕ) (gs hs : List hb_glyph_info_t) → IsMarkedLine gs hs → IsGreater q great less gs
    → IsGreater q great less hs
greater_kept q great less gs hs k at = record {
  great_low = at.great_low;
  great_high = at.great_high;
  less_low = at.less_low;
  less_high = at.less_high;
  order = rw (clusters_kept gs hs k less, clusters_kept gs hs k great) at.order;
}

module _ (q great less : ℕ) (is_cross : Bool) (values : PairValues) (whole : Buffer) (at : IsGreater q great less whole.line) (inside : q < length whole.line) where
  -- where the greater glyph is left without the flag, a pair over the cut has the value 0
  crossing_is_zero :
      (p : Pair) (ps rest : List Pair) → StandsBefore q p
      → IsUnflagged (glyph_at (by_pairs is_cross values whole (ps ++ p ∷ rest)).line great)
      → int_eq (value_at values whole.line p) (pos 0) ≡ true
  crossing_is_zero p ps rest stands none =
      let before = by_pairs is_cross values whole ps in
      let here = kerned is_cross values p before in
      let after = by_pairs is_cross values here rest in
      let k = of_pairs is_cross values ps whole in
      let same : by_pairs is_cross values whole (ps ++ p ∷ rest) ≡ after = fold-append (λ d p. kerned is_cross values p d) whole ps (p ∷ rest) in
      let left : IsUnflagged (glyph_at after.line great) = subst (λ (b : Buffer). IsUnflagged (glyph_at b.line great)) same none in
      let unset : IsUnflagged (glyph_at here.line great) =
      unflagged_before (glyph_at here.line great) (glyph_at after.line great) (marked_at here.line after.line (of_pairs is_cross values rest here).line great) left in
      let long : length before.line ≡ length whole.line = AllZip-long IsMarkedFrom whole.line before.line k.line in
      let order : cluster_at before.line less < cluster_at before.line great =
      rw (clusters_kept whole.line before.line k.line less, clusters_kept whole.line before.line k.line great) at.order in
      let zero : int_eq (value_at values before.line p) (pos 0) ≡ true =
      pair_flagged is_cross values p before great less (omega (arith, stands.0, at.great_low)) (omega (arith, stands.1, at.great_high))
      (omega (arith, stands.0, at.less_low)) (omega (arith, stands.1, at.less_high)) (omega (arith, stands.1, inside, long)) order unset in
      let ids = ids_kept whole before k in
      ap (λ v. int_eq v (pos 0)) (sym (same_value values whole.line before.line p (ids p.left) (ids p.right))) ∙ zero

  -- so the pair over the cut changes nothing
  crossing_changes_nothing :
      {X : Type 0} (act : Pair → X → X)
      → ((p : Pair) (x : X) → int_eq (value_at values whole.line p) (pos 0) ≡ true → act p x ≡ x)
      → (o : Option Pair) (ps rest : List Pair) → IfSome o (StandsBefore q)
      → IsUnflagged (glyph_at (by_pairs is_cross values whole (ps ++ cons_option o rest)).line great)
      → (x : X) → fold (λ x p. act p x) x (ps ++ cons_option o rest)
      ≡ fold (λ x p. act p x) (fold (λ x p. act p x) x ps) rest
  crossing_changes_nothing act stays None ps rest stands none x = fold-append (λ x p. act p x) x ps rest
  crossing_changes_nothing {X} act stays (Some p) ps rest stands none x =
      let step : X → Pair → X = λ x p. act p x in
      let before : X = fold step x ps in
      fold-append step x ps (p ∷ rest) ∙ ap (λ y. fold step y rest) (stays p before (crossing_is_zero p ps rest stands none))

-- a number past 0
pub suc_of : (n : ℕ) → 0 < n → n ≡ suc (n - 1)
suc_of n some = omega (arith, some)

-- what kerning by pairs leaves of the positions: those of the parts
pub record IsMovedApart (q : ℕ) (whole first second : Buffer) : Type 0 where
  pub front : position_list first ≡ take q (position_list whole)
  pub back : position_list second ≡ drop q (position_list whole)

-- What pairs do over the whole line, those of the first part do and then those of the second, where the greater glyph
-- is left without the flag.
pub folded_apart :
    (skips kern_mask q great less : ℕ) (way : Direction) (is_cross : Bool) (values : PairValues)
    (whole first second : Buffer)
    → IsCut skips kern_mask q way whole first second → IsGreater q great less whole.line
    → IsUnflagged (glyph_at (pair_kerning skips kern_mask is_cross values whole).line great)
    → {X : Type 0} (act : Pair → X → X)
    → ((p : Pair) (x : X) → int_eq (value_at values whole.line p) (pos 0) ≡ true → act p x ≡ x)
    → (x : X) → fold (λ x p. act p x) x (pairs_of skips kern_mask whole.line)
    ≡ fold (λ x p. act p x) (fold (λ x p. act p x) x (pairs_of skips kern_mask first.line))
    (map (shifted q) (pairs_of skips kern_mask second.line))
unfolding pair_kerning
folded_apart skips kern_mask q great less way is_cross values whole first second cut at none {X} act stays x =
    let over = pair_at skips kern_mask whole.line q in
    let ps = pairs_of skips kern_mask first.line in
    let rs = map (shifted q) (pairs_of skips kern_mask second.line) in
    let inside : q < length whole.line = omega (arith, cut.long, cut.some) in
    let all : pairs_of skips kern_mask whole.line ≡ ps ++ cons_option over rs =
    pairs_cut skips kern_mask q (length second.line - 1) whole.line first.line second.line
    (cut.long ∙ ap (λ n. q + n) (suc_of (length second.line) cut.some)) cut.short (suc_of (length second.line) cut.some)
    cut.solid cut.front cut.back in
    let unset : IsUnflagged (glyph_at (by_pairs is_cross values whole (ps ++ cons_option over rs)).line great) =
    subst (λ (xs : List Pair). IsUnflagged (glyph_at (by_pairs is_cross values whole xs).line great)) all none in
    ap (λ (xs : List Pair). fold (λ (x : X) p. act p x) x xs) all
    ∙ crossing_changes_nothing q great less is_cross values whole at inside act stays over ps rs (pair_before skips kern_mask whole.line q) unset x

pub pairs_apart :
    (skips kern_mask q great less : ℕ) (way : Direction) (is_cross : Bool) (values : PairValues)
    (whole first second : Buffer)
    → IsCut skips kern_mask q way whole first second → IsGreater q great less whole.line
    → IsUnflagged (glyph_at (pair_kerning skips kern_mask is_cross values whole).line great)
    → IsMovedApart q (pair_kerning skips kern_mask is_cross values whole)
    (pair_kerning skips kern_mask is_cross values first) (pair_kerning skips kern_mask is_cross values second)
unfolding pair_kerning
pairs_apart skips kern_mask q great less way is_cross values whole first second cut at none =
    let h = is_horizontal way in
    let ps = pairs_of skips kern_mask first.line in
    let rs = pairs_of skips kern_mask second.line in
    let moved : List GlyphPosition → Pair → List GlyphPosition = λ qs p. moves is_cross h values whole.line p qs in
    let qs = position_list whole in
    let left = fold moved qs ps in
    let ends : position_list (by_pairs is_cross values whole (pairs_of skips kern_mask whole.line)) ≡ fold moved left (map (shifted q) rs) =
    pairs_move is_cross values whole.line h (pairs_of skips kern_mask whole.line) whole (λ i. refl) (ap is_horizontal cut.whole_way)
    ∙ folded_apart skips kern_mask q great less way is_cross values whole first second cut at none (moves is_cross h values whole.line)
    (λ p xs zero. ap (λ t. cond t xs (moved_by is_cross h (value_at values whole.line p) p xs)) zero) qs in
    let before : AllBefore q ps = pairs_within skips kern_mask q first.line cut.short in
    record {
      front =
          pairs_move is_cross values first.line h ps first (λ i. refl) (ap is_horizontal cut.first_way)
          ∙ (ap (λ xs. fold (λ qs p. moves is_cross h values first.line p qs) xs ps) cut.front_places
          ∙ (sym (fold_front q (moves is_cross h values whole.line) (moves is_cross h values first.line)
          (front_moves q is_cross h values whole.line first.line (λ i low. (cut.front i low).id)) ps qs before)
          ∙ (sym (fold_rest_off q (moves is_cross h values whole.line) (back_stays q is_cross h values whole.line) rs left)
          ∙ ap (take q) (sym ends))));
      back =
          pairs_move is_cross values second.line h rs second (λ i. refl) (ap is_horizontal cut.second_way)
          ∙ (ap (λ xs. fold (λ qs p. moves is_cross h values second.line p qs) xs rs) cut.back_places
          ∙ (ap (λ xs. fold (λ qs p. moves is_cross h values second.line p qs) xs rs)
          (sym (fold_front_off q (moves is_cross h values whole.line) (front_stays q is_cross h values whole.line) ps qs before))
          ∙ (sym (fold_rest q (moves is_cross h values whole.line) (moves is_cross h values second.line)
          (back_moves q is_cross h values whole.line second.line (λ i. (cut.back i).id)) rs left)
          ∙ ap (drop q) (sym ends))));
    }
