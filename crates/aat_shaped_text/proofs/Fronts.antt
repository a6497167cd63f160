-- The place at which a glyph of a line begins, with the deleted glyphs of its cluster in a row before it.
use Rattle.std.proofs.Common.{◌≡◌, ◌∙◌, sym, ap, refl, ℕ, suc, ◌+◌, ◌-◌, ◌<◌, ◌≤◌, ◌==◌, ◌&&◌, Bool, true, false, not, cond, List, [], ◌∷◌, ◌++◌, map, reverse, take, drop, length, filter, arith, subst, append_assoc, take_at, one-add}
use Rattle.std.specs.List.{prefix_len}
use Rattle.std.proofs.lemmas.Bool.{and_parts, eqb-true}
use Rattle.std.proofs.lemmas.Bool.Decides.{nat_tests}
use Rattle.std.proofs.lemmas.Grind.{reverse_onto}
use Rattle.std.proofs.lemmas.List.{get_or-append-add, get_or_append_left, get_or_at, length-append, length-drop, length-map, length-reverse, length-take, reverse-append, reverse-reverse, take-append-drop, take-append-le, take-map}
use Rattle.std.proofs.lemmas.List.Folds.{prefix_len-append}
use Rattle.std.proofs.Math.ListN.{get_or-map}
use Rattle.std.proofs.Math.Seq.{take-append-add}
use Rattle.aat_glyph.specs.declared.glyph.hb_glyph_info_t.{hb_glyph_info_t}
use Rattle.aat_buffer.specs.Buffer.{glyph_at, no_glyph}
use Rattle.aat_buffer.specs.Marks.{cluster_at}
use Rattle.aat_buffer.specs.Removal.{is_deleted}
use Rattle.aat_shaped_text.specs.Breaks.{front_of, gone_before, kept_before}
use Rattle.aat_shaped_text.proofs.Looks.{plain}
use Rattle.aat_shaped_text.proofs.LooksSplit.{stays}
use Rattle.aat_shaped_text.proofs.Places.{PlaceOf}
use Rattle.aat_shaped_text.proofs.Runs.{reversed_front}
use Rattle.aat_shaped_text.proofs.Spots.{BeginsKept, Spot}
use Rattle.aat_shaped_text.proofs.SpotsRuns.{Glyphs, map-reverse, spot, spots}

-- a deleted glyph of cluster c
abbrev is_own : ℕ → hb_glyph_info_t → Bool
is_own c g = is_deleted g && g.cluster == c

abbrev pub AllOwn : ℕ → Glyphs → Type 0
AllOwn c [] = Unit {0}
AllOwn c (g ∷ gs) = (is_deleted g ≡ true) × (g.cluster ≡ c) × AllOwn c gs

-- those in front are so up to the first that is not
own_run : (c : ℕ) (gs : Glyphs) → AllOwn c (take (prefix_len (is_own c) gs) gs)
own_run c [] = tt
own_run c (g ∷ gs) = by (own_run c gs) (is_own c g) refl
  where
    by :
        AllOwn c (take (prefix_len (is_own c) gs) gs) → (t : Bool) → is_own c g ≡ t
        → AllOwn c (take (cond t (1 + prefix_len (is_own c) gs) 0) (g ∷ gs))
    by below true is =
        let both = and_parts (is_deleted g) (g.cluster == c) is in
        subst (λ (n : ℕ). AllOwn c (take n (g ∷ gs))) (sym (one-add (prefix_len (is_own c) gs)))
        (both.0, eqb-true g.cluster c both.1, below)
    by below false is = tt

own_push : (c : ℕ) (gs : Glyphs) (g : hb_glyph_info_t) → AllOwn c gs → is_deleted g ≡ true → g.cluster ≡ c → AllOwn c (gs ++ g ∷ [])
own_push c [] g own gone is = (gone, is, tt)
own_push c (h ∷ gs) g own gone is = (own.0, own.1, own_push c gs g own.2 gone is)

own_reverse : (c : ℕ) (gs : Glyphs) → AllOwn c gs → AllOwn c (reverse gs)
own_reverse c [] own = tt
own_reverse c (g ∷ gs) own = rw (reverse_onto gs g []) (own_push c (reverse gs) g (own_reverse c gs own.2) own.0 own.1)

-- none of them stays
stays_own : (c : ℕ) (before gone : Glyphs) → AllOwn c gone → stays (spots (before ++ gone)) ≡ stays (spots before)
stays_own c [] [] own = refl
stays_own c [] (g ∷ gone) own =
    ap (λ (t : Bool). cond t (stays (spots gone)) (suc (stays (spots gone)))) own.0 ∙ stays_own c [] gone own.2
stays_own c (h ∷ before) gone own = by (stays_own c before gone own) (is_deleted h)
  where
    by : stays (spots (before ++ gone)) ≡ stays (spots before) → (t : Bool)
        → cond t (stays (spots (before ++ gone))) (suc (stays (spots (before ++ gone)))) ≡ cond t (stays (spots before)) (suc (stays (spots before)))
    by below true = below
    by below false = ap suc below

pub count_kept : (gs : Glyphs) → length (filter (λ g. not (is_deleted g)) gs) ≡ stays (spots gs)
count_kept [] = refl
count_kept (g ∷ gs) = by (count_kept gs) (is_deleted g)
  where
    by : length (filter (λ g. not (is_deleted g)) gs) ≡ stays (spots gs) → (t : Bool)
        → length (cond (not t) (g ∷ filter (λ g. not (is_deleted g)) gs) (filter (λ g. not (is_deleted g)) gs)) ≡ cond t (stays (spots gs)) (suc (stays (spots gs)))
    by below true = below
    by below false = ap suc below

few_stay : (ss : List Spot) → stays ss ≤ length ss
few_stay [] = omega arith
few_stay (s ∷ ss) = by (few_stay ss) s.0
  where
    by : stays ss ≤ length ss → (t : Bool) → cond t (stays ss) (suc (stays ss)) ≤ suc (length ss)
    by below true = omega (arith, below)
    by below false = omega (arith, below)

-- what stands before a place: what stands before its front, and deleted glyphs of its cluster
record FrontAt (line : Glyphs) (i : ℕ) : Type 0 where
  before : Glyphs
  gone : Glyphs
  whole : take i line ≡ before ++ gone
  own : AllOwn (cluster_at line i) gone
  stands : front_of line i ≡ length before

front_at : (line : Glyphs) (i : ℕ) → i ≤ length line → FrontAt line i
front_at line i inside =
    let c : ℕ = cluster_at line i in
    let rs : Glyphs = reverse (take i line) in
    let n : ℕ = prefix_len (is_own c) rs in
    record {
      before = reverse (drop n rs);
      gone = reverse (take n rs);
      whole = sym (reverse-reverse (take i line)) ∙ (ap reverse (sym (take-append-drop n rs)) ∙ reverse-append (take n rs) (drop n rs));
      own = own_reverse c (take n rs) (own_run c rs);
      stands =
          omega (arith, inside, length-reverse (drop n rs), length-drop n rs, length-reverse (take i line), length-take i line);
    }

-- a place is no further than its glyph
pub front_most : (line : Glyphs) (i : ℕ) → front_of line i ≤ i
front_most line i = omega arith

-- as many glyphs are kept before it
pub front_keeps : (line : Glyphs) (i : ℕ) → i ≤ length line → kept_before line (front_of line i) ≡ kept_before line i
front_keeps line i inside =
    let f = front_at line i inside in
    let line_is : line ≡ f.before ++ (f.gone ++ drop i line) =
    sym (take-append-drop i line) ∙ (ap (λ zs. zs ++ drop i line) f.whole ∙ append_assoc f.before f.gone (drop i line)) in
    let taken : take (front_of line i) line ≡ f.before =
    ap (take (front_of line i)) line_is ∙ take_at f.before (f.gone ++ drop i line) (front_of line i) (sym f.stands) in
    count_kept (take (front_of line i) line)
    ∙ (ap (λ zs. stays (spots zs)) taken
    ∙ (sym (stays_own (cluster_at line i) f.before f.gone f.own)
    ∙ (ap (λ zs. stays (spots zs)) (sym f.whole) ∙ sym (count_kept (take i line)))))

-- some glyph stands before it where one is kept
pub front_some : (line : Glyphs) (i : ℕ) → i ≤ length line → 0 < kept_before line i → 0 < front_of line i
front_some line i inside some =
    let m = front_of line i in
    omega (
      arith,
      some,
      sym (front_keeps line i inside),
      count_kept (take m line),
      few_stay (spots (take m line)),
      length-map (take m line) spot,
      length-take m line,
    )

-- it asks for no mask
prefix_plain : (c : ℕ) (gs : Glyphs) → prefix_len (is_own c) (map plain gs) ≡ prefix_len (is_own c) gs
prefix_plain c [] = refl
prefix_plain c (g ∷ gs) = ap (λ n. cond (is_own c g) (1 + n) 0) (prefix_plain c gs)

front_of_plain : (gs : Glyphs) (i : ℕ) → front_of (map plain gs) i ≡ front_of gs i
front_of_plain gs i =
    let c : ℕ = cluster_at gs i in
    ap (λ (g : hb_glyph_info_t). i - prefix_len (is_own g.cluster) (reverse (take i (map plain gs)))) (get_or-map plain gs i no_glyph)
    ∙ (ap (λ zs. i - prefix_len (is_own c) (reverse zs)) (take-map plain i gs)
    ∙ (ap (λ zs. i - prefix_len (is_own c) zs) (sym (map-reverse plain (take i gs)))
    ∙ ap (λ n. i - n) (prefix_plain c (reverse (take i gs)))))

pub front_plain : (gs hs : Glyphs) (i : ℕ) → map plain gs ≡ map plain hs → front_of gs i ≡ front_of hs i
front_plain gs hs i same = sym (front_of_plain gs i) ∙ (ap (λ (zs : Glyphs). front_of zs i) same ∙ front_of_plain hs i)

-- of the first of two lines behind one another
pub front_before : (xs ys : Glyphs) (i : ℕ) → i < length xs → front_of (xs ++ ys) i ≡ front_of xs i
front_before xs ys i low =
    ap (λ (g : hb_glyph_info_t). i - prefix_len (is_own g.cluster) (reverse (take i (xs ++ ys)))) (get_or_append_left xs ys no_glyph i low)
    ∙ ap (λ zs. i - prefix_len (is_own (cluster_at xs i)) (reverse zs)) (take-append-le i xs ys (omega (arith, low)))

-- and of the second one, behind a glyph of it that is kept
pub front_behind : (xs ys : Glyphs) (n i : ℕ) → length xs ≡ n → i ≤ length ys → 0 < kept_before ys i → front_of (xs ++ ys) (n + i) ≡ n + front_of ys i
front_behind xs ys n i long inside some =
    let c : ℕ = cluster_at ys i in
    let rs : Glyphs = reverse (take i ys) in
    let own = is_own c in
    let place : n + i ≡ length xs + i = omega (arith, long) in
    let here : cluster_at (xs ++ ys) (n + i) ≡ c =
    ap (cluster_at (xs ++ ys)) place ∙ ap (λ (g : hb_glyph_info_t). g.cluster) (get_or-append-add xs ys i no_glyph) in
    let before : reverse (take (n + i) (xs ++ ys)) ≡ rs ++ reverse xs =
    ap (λ k. reverse (take k (xs ++ ys))) place ∙ (ap reverse (take-append-add xs ys i) ∙ reverse-append xs (take i ys)) in
    let count : length rs ≡ i = omega (arith, length-reverse (take i ys), length-take i ys, inside) in
    let more : 0 < front_of ys i = front_some ys i inside some in
    let stops : (prefix_len own rs == length rs) ≡ false = grind (arith, nat_tests, more, count) in
    let run : prefix_len own (rs ++ reverse xs) ≡ prefix_len own rs =
    prefix_len-append own rs (reverse xs)
    ∙ ap (λ (t : Bool). cond t (length rs + prefix_len own (reverse xs)) (prefix_len own rs)) stops in
    ap (λ e. (n + i) - prefix_len (is_own e) (reverse (take (n + i) (xs ++ ys)))) here
    ∙ (ap (λ zs. (n + i) - prefix_len own zs) before ∙ (ap (λ k. (n + i) - k) run ∙ omega (arith, more)))

-- a line from a glyph on before which so many are kept: the first of those that stay has its cluster, and so have those
-- before
pub record OpensAt (line : Glyphs) (k i : ℕ) : Type 0 where
  pub front : Glyphs
  pub here : hb_glyph_info_t
  pub back : Glyphs
  pub whole : line ≡ front ++ here ∷ back
  pub stands : i ≡ length front
  pub kept : BeginsKept here.cluster (spots (here ∷ back))
  pub count : stays (spots front) ≡ k

begins : (c : ℕ) (gone : Glyphs) (here : hb_glyph_info_t) (back : Glyphs) → AllOwn c gone → is_deleted here ≡ false → here.cluster ≡ c
    → BeginsKept c (spots (gone ++ here ∷ back))
begins c [] here back own kept is = subst (λ (t : Bool). BeginsKept c ((t, here.cluster) ∷ spots back)) (sym kept) is
begins c (g ∷ gone) here back own kept is =
    subst (λ (t : Bool). BeginsKept c ((t, g.cluster) ∷ spots (gone ++ here ∷ back))) (sym own.0)
    (own.1, begins c gone here back own.2 kept is)

opens_by :
    (line : Glyphs) (k i : ℕ) (front gone : Glyphs) (here : hb_glyph_info_t) (back : Glyphs) → line ≡ front ++ (gone ++ here ∷ back)
    → i ≡ length front → AllOwn here.cluster gone → is_deleted here ≡ false → stays (spots front) ≡ k → OpensAt line k i
opens_by line k i front [] here back whole stands own kept count = record {
  front = front;
  here = here;
  back = back;
  whole = whole;
  stands = stands;
  kept = begins here.cluster [] here back own kept refl;
  count = count;
}
opens_by line k i front (g ∷ gone) here back whole stands own kept count = record {
  front = front;
  here = g;
  back = gone ++ here ∷ back;
  whole = whole;
  stands = stands;
  kept =
      subst (λ (c : ℕ). BeginsKept c (spots (g ∷ (gone ++ here ∷ back)))) (sym own.1)
      (begins here.cluster (g ∷ gone) here back own kept refl);
  count = count;
}

-- so it is where a kept glyph begins
pub opens_at : (line : Glyphs) (k place : ℕ) → PlaceOf line k place → OpensAt line k (front_of line place)
opens_at line k place p =
    let inside : place ≤ length line = omega (arith, ap length p.whole, length-append p.front (p.here ∷ p.back), p.stands) in
    let f = front_at line place inside in
    let taken : take place line ≡ p.front = ap (take place) p.whole ∙ take_at p.front (p.here ∷ p.back) place (sym p.stands) in
    let front : p.front ≡ f.before ++ f.gone = sym taken ∙ f.whole in
    let here : cluster_at line place ≡ p.here.cluster =
    ap (λ (g : hb_glyph_info_t). g.cluster)
    (ap (λ zs. glyph_at zs place) p.whole ∙ get_or_at p.front p.here p.back no_glyph place (sym p.stands)) in
    opens_by line k (front_of line place) f.before f.gone p.here p.back
    (p.whole ∙ (ap (λ zs. zs ++ p.here ∷ p.back) front ∙ append_assoc f.before f.gone (p.here ∷ p.back))) f.stands
    (subst (λ (c : ℕ). AllOwn c f.gone) here f.own) p.kept
    (sym (stays_own (cluster_at line place) f.before f.gone f.own) ∙ (ap (λ zs. stays (spots zs)) (sym front) ∙ p.count))

-- one deleted glyph of the cluster more
module _ (line : Glyphs) (i behind : ℕ) (here x : hb_glyph_info_t) (at : here ≡ glyph_at line i) (low : i < length line) (below : behind < i)
    (read : x ≡ glyph_at line (i - 1 - behind)) (so_far : gone_before line i ≡ behind + prefix_len (is_own (cluster_at line i)) (reverse (take (i - behind) line)))
  where
    pub one_more : (t : Bool) → t ≡ (is_deleted x && x.cluster == here.cluster) → t ≡ true
        → gone_before line i ≡ (behind + 1) + prefix_len (is_own (cluster_at line i)) (reverse (take (i - (behind + 1)) line))
    one_more t told is =
        let own = is_own (cluster_at line i) in
        let there : i - 1 - behind ≡ i - (behind + 1) = omega arith in
        let long : i - behind ≡ suc (i - (behind + 1)) = omega (arith, below) in
        let rest : Glyphs = reverse (take (i - (behind + 1)) line) in
        let front : reverse (take (i - behind) line) ≡ x ∷ rest =
        ap (λ n. reverse (take n line)) long
        ∙ (reversed_front line (i - (behind + 1)) (omega (arith, low, below)) ∙ ap (λ (h : hb_glyph_info_t). h ∷ rest) (sym (read ∙ ap (glyph_at line) there))) in
        let passes : own x ≡ true = ap (λ (h : hb_glyph_info_t). is_own h.cluster x) (sym at) ∙ (sym told ∙ is) in
        let more : prefix_len own (x ∷ rest) ≡ 1 + prefix_len own rest = ap (λ (u : Bool). cond u (1 + prefix_len own rest) 0) passes in
        so_far ∙ (ap (λ zs. behind + prefix_len own zs) front ∙ omega (arith, more))
