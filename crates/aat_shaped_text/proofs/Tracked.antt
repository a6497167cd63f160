-- A line that is tracked, in the order of drawing.
use Rattle.std.proofs.Common.{◌≡◌, ◌∙◌, sym, ap, refl, ℕ, suc, Bool, true, false, not, cond, true≢false, List, [], ◌∷◌, ◌++◌, fold, map, reverse, length}
use Rattle.std.specs.Prelude.{ℤ, pos, Option, Some, None, is_some, option_map, unwrap_or}
use Rattle.std.specs.Option.{option_or}
use Rattle.std.specs.Ordering.{int_eq}
use Rattle.std.proofs.lemmas.Grind.{reverse_onto}
use Rattle.std.proofs.lemmas.List.{map-append, length-reverse, reverse-append, reverse-reverse}
use Rattle.aat_glyph.specs.Directions.{is_horizontal}
use Rattle.aat_glyph.specs.declared.glyph.Direction.{Direction}
use Rattle.aat_glyph.specs.declared.glyph.GlyphPosition.{GlyphPosition}
use Rattle.aat_buffer.specs.Removal.{is_deleted}
use Rattle.aat_glyph.specs.placement.TrackedLines.{begins, first_drawn, plus, tracked, tracked_behind, widened}
use Rattle.aat_glyph.specs.placement.TrackingLaws.{MeetApart, PartsAreTrackedApart}
use Rattle.aat_shaped_text.specs.ShapedText.{UntrackedLinesStay, drawn_cluster, drawn_clusters, tracked_by}
use Rattle.aat_shaped_text.proofs.ChainsSplit.{link}
use Rattle.aat_shaped_text.proofs.Looks.{Positions, plain}
use Rattle.aat_shaped_text.proofs.Spots.{AllRest, Spot}
use Rattle.aat_shaped_text.proofs.SpotsRuns.{Glyphs, spot, spots}
use Rattle.aat_shaped_text.proofs.Texts.{length-turned, map-turned, turned}

-- a value of 0 leaves a line
pub untracked : UntrackedLinesStay
untracked b = ap (λ (o : Option Positions). record b { positions = o }) (by b.positions)
  where
    by : (o : Option Positions) → option_map (tracked_by (pos 0) b.direction (drawn_clusters b.line)) o ≡ o
    by None = refl
    by (Some qs) = refl

pub turned-turned : {X : Type 0} (t : Bool) (xs : List X) → turned t (turned t xs) ≡ xs
turned-turned true xs = reverse-reverse xs
turned-turned false xs = refl

length_drawn : (gs : Glyphs) → length (drawn_clusters gs) ≡ length gs
length_drawn [] = refl
length_drawn (g ∷ gs) = ap suc (length_drawn gs)

drawn-append : (gs hs : Glyphs) → drawn_clusters (gs ++ hs) ≡ drawn_clusters gs ++ drawn_clusters hs
drawn-append gs hs = map-append drawn_cluster gs hs

-- masks are not asked
pub drawn_plain : (gs : Glyphs) → drawn_clusters (map plain gs) ≡ drawn_clusters gs
drawn_plain [] = refl
drawn_plain (g ∷ gs) = ap (λ zs. drawn_cluster g ∷ zs) (drawn_plain gs)

module _ (v : ℤ) (d : Direction) where
  length_behind : (last : Option ℕ) (cs : List (Option ℕ)) (qs : Positions) → length (tracked_behind last d v cs qs) ≡ length qs
  length_behind last [] qs = refl
  length_behind last (c ∷ cs) [] = refl
  length_behind last (c ∷ cs) (q ∷ qs) = ap suc (length_behind (option_or c last) cs qs)

  length-tracked : (cs : List (Option ℕ)) (qs : Positions) → length (tracked_by v d cs qs) ≡ length qs
  length-tracked cs qs = by (int_eq v (pos 0))
    where
      by : (t : Bool) → length (cond t qs (tracked d v cs qs)) ≡ length qs
      by true = refl
      by false = length_behind None cs qs

  widened_link : (q : GlyphPosition) → link (widened d v q) ≡ link q
  widened_link q = by (is_horizontal d)
    where
      by : (t : Bool)
          → link (cond t (record q { x_advance = plus q.x_advance v })
          (record q { y_advance = plus q.y_advance v }))
          ≡ link q
      by true = refl
      by false = refl

  links_behind : (last : Option ℕ) (cs : List (Option ℕ)) (qs : Positions) → map link (tracked_behind last d v cs qs) ≡ map link qs
  links_behind last [] qs = refl
  links_behind last (c ∷ cs) [] = refl
  links_behind last (c ∷ cs) (q ∷ qs) = let rest = links_behind (option_or c last) cs qs in λ k. by (begins last c) k ∷ rest k
    where
      by : (t : Bool) → link (cond t (widened d v q) q) ≡ link q
      by true = widened_link q
      by false = refl

  links_tracked : (cs : List (Option ℕ)) (qs : Positions) → map link (tracked_by v d cs qs) ≡ map link qs
  links_tracked cs qs = by (int_eq v (pos 0))
    where
      by : (t : Bool) → map link (cond t qs (tracked d v cs qs)) ≡ map link qs
      by true = refl
      by false = links_behind None cs qs

  -- the positions of a line that stands turned or not, tracked as its text is read
  abbrev pub tracked_turned : Bool → Glyphs → Positions → Positions
  tracked_turned t gs qs = turned t (tracked_by v d (drawn_clusters (turned t gs)) (turned t qs))

  pub length-tracked_turned : (t : Bool) (gs : Glyphs) (qs : Positions) → length (tracked_turned t gs qs) ≡ length qs
  length-tracked_turned t gs qs =
      length-turned t (tracked_by v d (drawn_clusters (turned t gs)) (turned t qs))
      ∙ (length-tracked (drawn_clusters (turned t gs)) (turned t qs) ∙ length-turned t qs)

  -- what a glyph is attached to stays
  pub links_turned : (t : Bool) (gs : Glyphs) (qs : Positions) → map link (tracked_turned t gs qs) ≡ map link qs
  links_turned t gs qs =
      map-turned link t (tracked_by v d (drawn_clusters (turned t gs)) (turned t qs))
      ∙ (ap (turned t) (links_tracked (drawn_clusters (turned t gs)) (turned t qs) ∙ map-turned link t qs) ∙ turned-turned t (map link qs))

some_is : (a b : ℕ) → Some a ≡ Some b → a ≡ b
some_is a b e = ap (λ (o : Option ℕ). unwrap_or o 0) e

module _ (p : ℕ → Bool) where
  -- the last glyph that is drawn passes a test that all do
  last_passes :
      (gs : Glyphs) → AllRest p (spots gs) → (last : Option ℕ) → ((c : ℕ) → last ≡ Some c → p c ≡ true)
      → (c : ℕ) → fold (λ before x. option_or x before) last (drawn_clusters gs) ≡ Some c → p c ≡ true
  last_passes [] all last passes = passes
  last_passes (g ∷ gs) all last passes =
      last_passes gs all.1 (option_or (cond (is_deleted g) None (Some g.cluster)) last) (by (is_deleted g))
    where
      by : (t : Bool) (c : ℕ) → option_or (cond t None (Some g.cluster)) last ≡ Some c → p c ≡ true
      by true c e = passes c e
      by false c e = ap p (sym (some_is g.cluster c e)) ∙ all.0

  -- and the first one
  first_passes : (gs : Glyphs) → AllRest p (spots gs) → (c : ℕ) → first_drawn (drawn_clusters gs) ≡ Some c → p c ≡ true
  first_passes [] all c e = absurd (true≢false (sym (ap is_some e)))
  first_passes (g ∷ gs) all c e = by (first_passes gs all.1 c) (is_deleted g) e
    where
      by :
          (first_drawn (drawn_clusters gs) ≡ Some c → p c ≡ true)
          → (t : Bool) → option_or (cond t None (Some g.cluster)) (first_drawn (drawn_clusters gs)) ≡ Some c → p c ≡ true
      by later true e = later e
      by later false e = ap p (sym (some_is g.cluster c e)) ∙ all.0

  all_rest_append : (ss rest : List Spot) → AllRest p ss → AllRest p rest → AllRest p (ss ++ rest)
  all_rest_append [] rest all more = more
  all_rest_append (s ∷ ss) rest all more = (all.0, all_rest_append ss rest all.1 more)

  -- a test that all of a line pass, all pass that is turned round
  pub all_rest_reverse : (gs : Glyphs) → AllRest p (spots gs) → AllRest p (spots (reverse gs))
  all_rest_reverse [] all = tt
  all_rest_reverse (g ∷ gs) all =
      rw (reverse_onto gs g []) (rw (map-append spot (reverse gs) (g ∷ []))
      (all_rest_append (spots (reverse gs)) (spot g ∷ []) (all_rest_reverse gs all.1) (all.0, tt)))

-- two parts meet apart where a test tells their clusters apart
meet_apart :
    (p q : ℕ → Bool) → ((c : ℕ) → p c ≡ true → q c ≡ true → ⊥) → (gs hs : Glyphs) → AllRest p (spots gs) → AllRest q (spots hs)
    → MeetApart (drawn_clusters gs) (drawn_clusters hs)
meet_apart p q never gs hs all more = λ c e f.
    never c (last_passes p gs all None (λ b none. absurd (true≢false (sym (ap is_some none)))) c e) (first_passes q hs more c f)

module _ (law : PartsAreTrackedApart) (v : ℤ) (d : Direction) (p : ℕ → Bool) where
  split_by :
      (cs ds : List (Option ℕ)) (ps qs : Positions) → length cs ≡ length ps → MeetApart cs ds
      → tracked_by v d (cs ++ ds) (ps ++ qs) ≡ tracked_by v d cs ps ++ tracked_by v d ds qs
  split_by cs ds ps qs long apart = by (int_eq v (pos 0))
    where
      by : (t : Bool) → cond t (ps ++ qs) (tracked d v (cs ++ ds) (ps ++ qs)) ≡ cond t ps (tracked d v cs ps) ++ cond t qs (tracked d v ds qs)
      by true = refl
      by false = law d v cs ds ps qs long apart

  differ : (c : ℕ) → p c ≡ true → not (p c) ≡ true → ⊥
  differ c passes fails = true≢false (sym fails ∙ ap not passes)

  -- where a test tells the clusters of two parts apart, they are tracked apart
  pub tracked_turned_split :
      (t : Bool) (gs hs : Glyphs) (ps qs : Positions) → length ps ≡ length gs → length qs ≡ length hs
      → AllRest p (spots gs) → AllRest (λ c. not (p c)) (spots hs)
      → tracked_turned v d t (gs ++ hs) (ps ++ qs) ≡ tracked_turned v d t gs ps ++ tracked_turned v d t hs qs
  tracked_turned_split false gs hs ps qs long more all none =
      ap (λ cs. tracked_by v d cs (ps ++ qs)) (drawn-append gs hs)
      ∙ split_by (drawn_clusters gs) (drawn_clusters hs) ps qs (length_drawn gs ∙ sym long)
      (meet_apart p (λ c. not (p c)) differ gs hs all none)
  tracked_turned_split true gs hs ps qs long more all none =
      let early = reverse gs in
      let late = reverse hs in
      let same : length (drawn_clusters late) ≡ length (reverse qs) =
      length_drawn late ∙ (length-reverse hs ∙ (sym more ∙ sym (length-reverse qs))) in
      ap (λ zs. reverse (tracked_by v d (drawn_clusters zs) (reverse (ps ++ qs)))) (reverse-append gs hs)
      ∙ (ap (λ zs. reverse (tracked_by v d (drawn_clusters (late ++ early)) zs)) (reverse-append ps qs)
      ∙ (ap (λ cs. reverse (tracked_by v d cs (reverse qs ++ reverse ps))) (drawn-append late early)
      ∙ (ap reverse (split_by (drawn_clusters late) (drawn_clusters early) (reverse qs) (reverse ps) same
      (meet_apart (λ c. not (p c)) p (λ c fails passes. differ c passes fails) late early (all_rest_reverse (λ c. not (p c)) hs none) (all_rest_reverse p gs all)))
      ∙ reverse-append (tracked_by v d (drawn_clusters late) (reverse qs)) (tracked_by v d (drawn_clusters early) (reverse ps)))))
