-- The place of a line at which a drawn glyph stands, and what it says of a break.
use Rattle.std.proofs.Common.{◌≡◌, ◌∙◌, sym, ap, refl, ℕ, zero, suc, ◌+◌, ◌<◌, Bool, true, false, not, cond, List, [], ◌∷◌, ◌++◌, map, length, filter, get_or, arith}
use Rattle.std.specs.List.{range_with_len}
use Rattle.std.proofs.lemmas.List.{get_or-map, length-map}
use Rattle.aat_glyph.specs.declared.glyph.hb_glyph_info_t.{hb_glyph_info_t}
use Rattle.aat_buffer.specs.Buffer.{Buffer, glyph_at}
use Rattle.aat_buffer.specs.Removal.{is_deleted, removed}
use Rattle.aat_shaped_text.specs.Parts.{no_shaped_glyph, shaped_at}
use Rattle.aat_shaped_text.specs.ShapedText.{drawn_glyph, drawn_glyphs, kept_places, with_clusters_of}
use Rattle.aat_shaped_text.specs.declared.text.ShapedGlyph.{ShapedGlyph}
use Rattle.aat_shaped_text.proofs.LooksSplit.{stays}
use Rattle.aat_shaped_text.proofs.SpotsRuns.{Glyphs, spots}

-- a kept glyph of a line, before which so many are kept
pub record PlaceOf (gs : Glyphs) (k place : ℕ) : Type 0 where
  pub front : Glyphs
  pub here : hb_glyph_info_t
  pub back : Glyphs
  pub whole : gs ≡ front ++ here ∷ back
  pub stands : place ≡ length front
  pub kept : is_deleted here ≡ false
  pub count : stays (spots front) ≡ k

record PlaceFrom (a : ℕ) (gs : Glyphs) (k place : ℕ) : Type 0 where
  front : Glyphs
  here : hb_glyph_info_t
  back : Glyphs
  whole : gs ≡ front ++ here ∷ back
  stands : place ≡ a + length front
  kept : is_deleted here ≡ false
  count : stays (spots front) ≡ k

place_from :
    (p : ℕ → Bool) (a : ℕ) (gs : Glyphs) (k : ℕ)
    → ((j : ℕ) → j < length gs → p (a + j) ≡ not (is_deleted (glyph_at gs j)))
    → k < length (filter p (range_with_len a (length gs)))
    → PlaceFrom a gs k (get_or (filter p (range_with_len a (length gs))) k 0)
place_from p a [] k passes low = absurd (omega (arith, low))
place_from p a (g ∷ gs) k passes low =
    let here : a + 0 ≡ a = omega arith in
    by (is_deleted g) refl (sym (ap p here) ∙ passes 0 (omega arith)) k low
    (λ j lower. place_from p (a + 1) gs j
    (λ i inside. let next : (a + 1) + i ≡ a + suc i = omega arith in ap p next ∙ passes (suc i) (omega (arith, inside))) lower)
  where
    rest : List ℕ
    rest = filter p (range_with_len (a + 1) (length gs))

    by :
        (t : Bool) → is_deleted g ≡ t → p a ≡ not (is_deleted g) → (k : ℕ) → k < length (filter p (a ∷ range_with_len (a + 1) (length gs)))
        → ((j : ℕ) → j < length rest → PlaceFrom (a + 1) gs j (get_or rest j 0))
        → PlaceFrom a (g ∷ gs) k (get_or (filter p (a ∷ range_with_len (a + 1) (length gs))) k 0)
    by true is passes k low below =
        let fails : p a ≡ false = passes ∙ ap not is in
        let same : filter p (a ∷ range_with_len (a + 1) (length gs)) ≡ rest = ap (λ (u : Bool). cond u (a ∷ rest) rest) fails in
        let lower : k < length rest = omega (arith, low, ap length same) in
        let f = below k lower in
        record {
          front = g ∷ f.front;
          here = f.here;
          back = f.back;
          whole = ap (λ zs. g ∷ zs) f.whole;
          stands = ap (λ zs. get_or zs k 0) same ∙ (f.stands ∙ omega arith);
          kept = f.kept;
          count = ap (λ (u : Bool). cond u (stays (spots f.front)) (suc (stays (spots f.front)))) is ∙ f.count;
        }
    by false is passes zero low below =
        let holds : p a ≡ true = passes ∙ ap not is in
        let same : filter p (a ∷ range_with_len (a + 1) (length gs)) ≡ a ∷ rest = ap (λ (u : Bool). cond u (a ∷ rest) rest) holds in
        record {
          front = [];
          here = g;
          back = gs;
          whole = refl;
          stands = ap (λ zs. get_or zs 0 0) same ∙ omega arith;
          kept = is;
          count = refl;
        }
    by false is passes (suc k) low below =
        let holds : p a ≡ true = passes ∙ ap not is in
        let same : filter p (a ∷ range_with_len (a + 1) (length gs)) ≡ a ∷ rest = ap (λ (u : Bool). cond u (a ∷ rest) rest) holds in
        let lower : k < length rest = omega (arith, low, ap length same) in
        let f = below k lower in
        record {
          front = g ∷ f.front;
          here = f.here;
          back = f.back;
          whole = ap (λ zs. g ∷ zs) f.whole;
          stands = ap (λ zs. get_or zs (suc k) 0) same ∙ (f.stands ∙ omega arith);
          kept = f.kept;
          count = ap (λ (u : Bool). cond u (stays (spots f.front)) (suc (stays (spots f.front)))) is ∙ ap suc f.count;
        }

-- glyphs that got clusters, at a place
zipped_at :
    (gs : Glyphs) (hs : List ShapedGlyph) (k : ℕ) → k < length (with_clusters_of gs hs)
    → (k < length hs) × ((shaped_at (with_clusters_of gs hs) k).may_break_before ≡ (shaped_at hs k).may_break_before)
zipped_at [] hs k low = absurd (omega (arith, low))
zipped_at (g ∷ gs) [] k low = absurd (omega (arith, low))
zipped_at (g ∷ gs) (h ∷ hs) zero low = (omega arith, refl)
zipped_at (g ∷ gs) (h ∷ hs) (suc k) low =
    let rest = zipped_at gs hs k (omega (arith, low)) in
    let inside : k < length hs = rest.0 in (omega (arith, inside), rest.1)

-- what a drawn glyph says of a break, and where it stands
pub record SaysAt (may_break : ℕ → Bool) (b : Buffer) (k : ℕ) : Type 0 where
  pub place : ℕ
  pub says : (shaped_at (drawn_glyphs may_break b) k).may_break_before ≡ may_break place
  pub at_place : PlaceOf b.line k place

pub says_at : (may_break : ℕ → Bool) (b : Buffer) (k : ℕ) → k < length (drawn_glyphs may_break b) → SaysAt may_break b k
says_at may_break b k low =
    let f : ℕ → ShapedGlyph = drawn_glyph may_break b in
    let z = zipped_at (removed is_deleted b).line (map f (kept_places b.line)) k low in
    let inside : k < length (kept_places b.line) = omega (arith, z.0, length-map (kept_places b.line) f) in
    let i : ℕ = get_or (kept_places b.line) k 0 in
    let there : PlaceFrom 0 b.line k i =
    place_from (λ i. not (is_deleted (glyph_at b.line i))) 0 b.line k (λ j lower. ap (λ i. not (is_deleted (glyph_at b.line i))) (zero_more j)) inside in
    record {
      place = i;
      says = z.1 ∙ ap (λ (h : ShapedGlyph). h.may_break_before) (get_or-map f (kept_places b.line) k 0 no_shaped_glyph inside);
      at_place = record {
        front = there.front;
        here = there.here;
        back = there.back;
        whole = there.whole;
        stands = there.stands ∙ zero_more (length there.front);
        kept = there.kept;
        count = there.count;
      };
    }
  where
    zero_more : (j : ℕ) → 0 + j ≡ j
    zero_more j = omega arith

-- a drawn glyph that says that the line may be broken before it
pub record BreaksAt (may_break : ℕ → Bool) (gs : Glyphs) (k : ℕ) : Type 0 where
  pub place : ℕ
  pub may : may_break place ≡ true
  pub at_place : PlaceOf gs k place

pub breaks_at :
    (may_break : ℕ → Bool) (b : Buffer) (k : ℕ) → k < length (drawn_glyphs may_break b)
    → (shaped_at (drawn_glyphs may_break b) k).may_break_before ≡ true → BreaksAt may_break b.line k
breaks_at may_break b k low may =
    let there : SaysAt may_break b k = says_at may_break b k low in
    record { place = there.place; may = sym there.says ∙ may; at_place = there.at_place }
