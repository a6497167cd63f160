-- A walk over a line tells of each place whether it is open to pairs, which then kern the line.
use Rattle.std.proofs.Common.{◌≡◌, ◌∙◌, ap, sym, refl, ℕ, zero, suc, ◌+◌, ◌-◌, ◌<◌, ◌≤◌, ◌&&◌, ◌⊎◌, inl, inr, pos, Bool, true, false, cond, [], ◌∷◌, ◌++◌, Option, Some, None, arith, subst, List, length, get_or, nat_lt}
use Rattle.std.specs.Prelude.{find, IfSome, slice_set}
use Rattle.std.specs.Bool.{then_some}
use Rattle.std.specs.Option.{option_or}
use Rattle.std.specs.Ordering.{int_eq}
use Rattle.std.proofs.lemmas.Bool.{cases_lt}
use Rattle.std.proofs.lemmas.Grind.{get_or-set_at}
use Rattle.std.proofs.lemmas.List.{get_or-set_other}
use Rattle.std.proofs.lemmas.List.Folds.{find-append}
use Rattle.std.proofs.lemmas.Nat.{and_or_apart}
use Rattle.aat_buffer.specs.Buffer.{Buffer, glyph_at}
use Rattle.aat_buffer.specs.Marks.{concat_marked, end_place, on_span, produces_concat, unsafe_to_concat, with_mask_bits}
use Rattle.aat_buffer.specs.facts.Cases.{either}
use Rattle.aat_buffer.specs.facts.Clusters.{map_span}
use Rattle.aat_closing.specs.Unflagged.{bare, unflagged}
use Rattle.aat_closing.specs.facts.BlindLines.{bare_at}
use Rattle.aat_cut_kinds.specs.KernedTables.{by_marked_pairs, by_pairs}
use Rattle.aat_cut_kinds.specs.KerningClosing.{is_none_or}
use Rattle.aat_cut_kinds.specs.OpenPlaces.{KernsOpenly}
use Rattle.aat_glyph.specs.declared.glyph.hb_glyph_info_t.{hb_glyph_info_t}
use Rattle.aat_kerning.proofs.CutPairs.{LooksLike, front_pair, last_before}
use Rattle.aat_kerning.specs.PairKerning.{PairValues, pair_kerning}
use Rattle.aat_kerning.specs.Pairs.{Pair, is_solid, last_solid, left_of, pair_at, places}
use Rattle.aat_kerning.specs.Positioning.{line_marked}
use Rattle.aat_kerning.specs.inside.Walk.{left_behind}
use Rattle.aat_run.specs.Switches.{meets}
use Rattle.aat_shaped_text.proofs.KernedBlind.{meets_unflagged}
use Rattle.aat_shaped_text.proofs.SpotsRuns.{Glyphs}

-- the places one further
places_more : (i n : ℕ) → places i (suc n) ≡ places i n ++ ((i + n) ∷ [])
places_more i zero = ap (λ k. k ∷ []) (omega arith)
places_more i (suc n) =
    let k : i + 1 + n ≡ i + suc n = omega arith in
    ap (λ xs. i ∷ xs) (places_more (i + 1) n ∙ ap (λ k. places (i + 1) n ++ (k ∷ [])) k)

some_where : (b : Bool) (t : ℕ) → cond b (Some t) None ≡ then_some b t
some_where true t = refl
some_where false t = refl

left_by :
    (p : ℕ → Bool) (b : Bool) (s t : ℕ) → s ≤ t
    → find p (places (cond b t s) (suc t - cond b t s)) ≡ option_or (cond b None (find p (places s (t - s)))) (cond (p t) (Some t) None)
left_by p true s t low =
    let one : suc t - t ≡ suc zero = omega arith in
    ap (λ n. find p (places t n)) one
left_by p false s t low =
    let more : suc t - s ≡ suc (t - s) = omega (arith, low) in
    let last : s + (t - s) ≡ t = omega (arith, low) in
    ap (λ n. find p (places s n)) more
    ∙ ap (find p) (places_more s (t - s))
    ∙ find-append p (places s (t - s)) ((s + (t - s)) ∷ [])
    ∙ ap (λ k. option_or (find p (places s (t - s))) (find p (k ∷ []))) last

module _ (skips : ℕ) (line : Glyphs) where
  -- the left glyph of the pairs behind one more place
  pub left_more : (t : ℕ) → left_of skips 8 line (t + 1) ≡ left_behind (is_solid skips (glyph_at line t)) (meets (glyph_at line t).mask 8) t (left_of skips 8 line t)
  left_more t =
      let s = is_solid skips (glyph_at line t) in
      let step : t + 1 ≡ suc t = omega arith in
      ap (left_of skips 8 line) step
      ∙ (left_by (λ i. meets (glyph_at line i).mask 8) s (last_solid skips 8 line t) t (last_before skips 8 line t)
      ∙ ap (option_or (cond s None (left_of skips 8 line t))) (some_where (meets (glyph_at line t).mask 8) t))

  behind_low : (s a : Bool) (t : ℕ) (left : Option ℕ) → IfSome left (λ i. i < t) → IfSome (left_behind s a t left) (λ i. i < suc t)
  behind_low true true t left low = omega arith
  behind_low true false t left low = tt
  behind_low false true t None low = omega arith
  behind_low false false t None low = tt
  behind_low false a t (Some i) low = omega (arith, low)

  -- it stands before that place
  pub left_low : (t : ℕ) → IfSome (left_of skips 8 line t) (λ i. i < t)
  left_low zero = tt
  left_low (suc t) =
      let step : t + 1 ≡ suc t = omega arith in
      subst (λ (o : Option ℕ). IfSome o (λ i. i < suc t)) (sym (left_more t) ∙ ap (left_of skips 8 line) step)
      (behind_low (is_solid skips (glyph_at line t)) (meets (glyph_at line t).mask 8) t (left_of skips 8 line t) (left_low t))

  -- behind a solid place, and behind one that is skipped
  pub left_solid :
      (t : ℕ) (g : hb_glyph_info_t) → g ≡ glyph_at line t → is_solid skips g ≡ true
      → then_some (meets g.mask 8) t ≡ left_of skips 8 line (t + 1)
  left_solid t g here solid =
      let there = left_of skips 8 line t in
      sym (left_more t
      ∙ (ap (λ (s : Bool). left_behind s (meets (glyph_at line t).mask 8) t there) (ap (is_solid skips) (sym here) ∙ solid)
      ∙ ap (λ (x : hb_glyph_info_t). then_some (meets x.mask 8) t) (sym here)))

  pub left_skipped :
      (t : ℕ) (g : hb_glyph_info_t) (left : Option ℕ) → g ≡ glyph_at line t → is_solid skips g ≡ false → left ≡ left_of skips 8 line t
      → option_or left (then_some (meets g.mask 8) t) ≡ left_of skips 8 line (t + 1)
  left_skipped t g left here solid found =
      let there = left_of skips 8 line t in
      sym (left_more t
      ∙ (ap (λ (s : Bool). left_behind s (meets (glyph_at line t).mask 8) t there) (ap (is_solid skips) (sym here) ∙ solid)
      ∙ (ap (λ (x : hb_glyph_info_t). option_or there (then_some (meets x.mask 8) t)) (sym here)
      ∙ ap (λ (o : Option ℕ). option_or o (then_some (meets g.mask 8) t)) (sym found))))

-- pairs look at a line without flags: ids,
id_at : (gs hs : Glyphs) → bare gs ≡ bare hs → (i : ℕ) → (glyph_at gs i).glyph_id ≡ (glyph_at hs i).glyph_id
id_at gs hs same i =
    let id : hb_glyph_info_t → ℕ = λ g. g.glyph_id in
    sym (ap id (bare_at gs i)) ∙ (ap (λ (ns : Glyphs). (glyph_at ns i).glyph_id) same ∙ ap id (bare_at hs i))

-- marks against joining
bare_concat : (g : hb_glyph_info_t) → unflagged (with_mask_bits 2 g) ≡ unflagged g
bare_concat g = λ i. record g { mask = and_or_apart 0xFFFFFFF8 g.mask 2 refl i }

concat_bare : (b : Buffer) → bare (unsafe_to_concat b None None).line ≡ bare b.line
concat_bare b =
    let end = end_place None (length b.line) in
    either bare (produces_concat b.flags && nat_lt 0 end) (on_span concat_marked 0 end b.line) b.line (bare b.line)
    (map_span unflagged (with_mask_bits 2) bare_concat 0 end b.line (omega arith)) refl

marked_bare : (asked : Bool) (b : Buffer) → bare (line_marked asked b).line ≡ bare b.line
marked_bare true b = concat_bare b
marked_bare false b = refl

-- what pairs ask of a glyph
looks : (skips : ℕ) (gs hs : Glyphs) → bare gs ≡ bare hs → (i : ℕ) → LooksLike skips 8 (glyph_at gs i) (glyph_at hs i)
looks skips gs hs same i =
    let alike : unflagged (glyph_at hs i) ≡ unflagged (glyph_at gs i) =
    sym (bare_at hs i) ∙ (ap (λ (ns : Glyphs). glyph_at ns i) (sym same) ∙ bare_at gs i) in
    record {
      id = ap (λ (g : hb_glyph_info_t). g.glyph_id) alike;
      solid = ap (is_solid skips) alike;
      asks =
          sym (meets_unflagged (glyph_at hs i).mask)
          ∙ (ap (λ (g : hb_glyph_info_t). meets g.mask 8) alike ∙ meets_unflagged (glyph_at gs i).mask);
    }

-- whether a place is open to pairs
pairs_open :
    (skips : ℕ) (is_cross : Bool) (values : PairValues) (q : ℕ) (a b : Buffer) → bare a.line ≡ bare b.line
    → (by_pairs skips 8 is_cross values).opens q a ≡ (by_pairs skips 8 is_cross values).opens q b
pairs_open skips is_cross values q a b h =
    let test : Buffer → Pair → Bool =
    λ c p. int_eq (values (glyph_at c.line p.left).glyph_id (glyph_at c.line p.right).glyph_id) (pos 0) in
    let like = looks skips a.line b.line h in
    let ids = id_at a.line b.line h in
    let tests : test a ≡ test b = λ k p. int_eq (values (ids p.left k) (ids p.right k)) (pos 0) in
    ap (λ (t : Bool). t && is_none_or (pair_at skips 8 a.line q) (test a)) (sym (like q).solid)
    ∙ (ap (λ o. is_solid skips (glyph_at b.line q) && is_none_or o (test a))
    (sym (front_pair skips 8 (q + 1) a.line b.line (λ i _. like i) q (omega arith)))
    ∙ ap (λ (f : Pair → Bool). is_solid skips (glyph_at b.line q) && is_none_or (pair_at skips 8 b.line q) f) tests)

and_all : (a : Bool) → a ≡ (true && (a && true))
and_all true = refl
and_all false = refl

-- marks and the way of the values make no difference
open_marked :
    (skips : ℕ) (values : PairValues) (is_marked is_cross : Bool) (b : Buffer) (q : ℕ)
    → (by_pairs skips 8 false values).opens q b ≡ (by_marked_pairs is_marked skips 8 is_cross values).opens q b
open_marked skips values is_marked is_cross b q =
    sym (pairs_open skips false values q (line_marked is_marked b) b (marked_bare is_marked b))
    ∙ and_all _

-- what is told of pairs before they kern the line is told of them behind marks
pub pairs_kern :
    (skips kern_mask : ℕ) (values : PairValues) (is_marked is_cross : Bool) (b c : Buffer) (told : List Bool) → kern_mask ≡ 8
    → c ≡ pair_kerning skips kern_mask is_cross values (line_marked is_marked b) → length told ≡ length b.line
    → ((q : ℕ) → q < length b.line → get_or told q false ≡ (by_pairs skips 8 false values).opens q b)
    → KernsOpenly (by_marked_pairs is_marked skips 8 is_cross values) b c told
pairs_kern skips kern_mask values is_marked is_cross b c told mask left long tells = record {
  left = left ∙ ap (λ (m : ℕ). pair_kerning skips m is_cross values (line_marked is_marked b)) mask;
  long = long;
  opens = λ q more inside. tells q inside ∙ open_marked skips values is_marked is_cross b q;
}

-- a place more is told
pub told_more :
    (opens : List Bool) (test : ℕ → Bool) (place : ℕ) (told : Bool) → place < length opens
    → ((q : ℕ) → q < place → get_or opens q false ≡ test q) → told ≡ test place → (q : ℕ) → q < place + 1
    → get_or (slice_set opens place told) q false ≡ test q
told_more opens test place told inside before here q low = by (cases_lt q place)
  where
    by : (q < place) ⊎ (place ≤ q) → get_or (slice_set opens place told) q false ≡ test q
    by (inl below) = get_or-set_other opens place q told false (λ e. absurd (omega (arith, e, below))) ∙ before q below
    by (inr above) =
        let same : q ≡ place = omega (arith, above, low) in
        get_or-set_at opens place q told false same inside ∙ (here ∙ ap test (sym same))
