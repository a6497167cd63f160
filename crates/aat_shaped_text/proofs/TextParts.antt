-- A text is drawn in two parts where two glyphs of its line meet, and the line behind substitution is those of the two
-- parts, one behind the other.
use Rattle.std.proofs.Common.{◌≡◌, ◌∙◌, sym, ap, refl, ℕ, ◌-◌, ◌<◌, ◌≤◌, Bool, true, false, not, max, List, [], ◌∷◌, ◌++◌, map, reverse, take, drop, length, get_or, arith, take_at, drop_at, le_of_eq, subst}
use Rattle.std.proofs.lemmas.List.{drop-map, get_or-map, length-map, map-append, take-map}
use Rattle.aat_glyph.specs.Directions.{is_backward}
use Rattle.aat_glyph.specs.declared.glyph.Direction.{Direction}
use Rattle.aat_glyph.specs.declared.glyph.hb_glyph_info_t.{hb_glyph_info_t}
use Rattle.aat_font.specs.declared.face.hb_font_t.{hb_font_t}
use Rattle.aat_font.specs.declared.plan.Feature.{Feature}
use Rattle.aat_kerning.specs.Cut.{ordered_positions}
use Rattle.aat_kerning.specs.Zeroing.{zeroed_positions}
use Rattle.aat_glyph.specs.placement.Attachments.{added_up}
use Rattle.aat_shaped_text.specs.Breaks.{is_unchained}
use Rattle.aat_shaped_text.specs.Parts.{cut_before, looks, no_shaped_glyph, shaped_at}
use Rattle.aat_shaped_text.specs.ShapedText.{drawn_glyphs}
use Rattle.aat_shaped_text.specs.declared.text.ShapedGlyph.{ShapedGlyph}
use Rattle.aat_shaped_text.proofs.BreakPlaces.{MeetsAt}
use Rattle.aat_shaped_text.proofs.ChainsSplit.{added_split, length_added, same_links}
use Rattle.aat_shaped_text.proofs.Looks.{Positions, left_of, line_looks, plain, spots_plain}
use Rattle.aat_shaped_text.proofs.LooksSplit.{IsCut, clusters_of_looks, first_below, first_fails, last_below, last_passes, left_some, left_splits, length_left, length_looks, looks_split, meets_before, meets_behind, stays}
use Rattle.aat_shaped_text.proofs.Spots.{AllRest, BeginsKept, some_stays}
use Rattle.aat_shaped_text.proofs.SpotsEnds.{head_of, last_from, last_of}
use Rattle.aat_shaped_text.proofs.SpotsRuns.{Glyphs, spots}
use Rattle.aat_shaped_text.proofs.TextCut.{Text}
use Rattle.aat_shaped_text.proofs.TextLooks.{Behind, drawn, drawn_links, drawn_places, drawn_plain_line, kerned, length_of_drawn, length_of_ordered, length_of_zeroed, ordered, plain_line, text_looks, zeroed_places}
use Rattle.aat_shaped_text.proofs.Texts.{length-turned, turned, zeroed_split}
use Rattle.aat_shaped_text.proofs.Tracked.{all_rest_reverse, tracked_turned, tracked_turned_split}

-- the cluster of the last glyph
pub last_spot : (c : ℕ) (gs : Glyphs) (g : hb_glyph_info_t) → last_from c (spots (gs ++ g ∷ [])) ≡ g.cluster
last_spot c [] g = refl
last_spot c (h ∷ gs) g = last_spot h.cluster gs g

-- a test that all of a line pass, all pass that is turned round or not
pub all_turned : (p : ℕ → Bool) (t : Bool) (gs : Glyphs) → AllRest p (spots gs) → AllRest p (spots (turned t gs))
all_turned p true gs all = all_rest_reverse p gs all
all_turned p false gs all = all

all_plain : (p : ℕ → Bool) (gs : Glyphs) → AllRest p (spots gs) → AllRest p (spots (map plain gs))
all_plain p gs all = subst (AllRest p) (sym (spots_plain gs)) all

glyph_clusters : (hs : List ShapedGlyph) → map (λ (h : ShapedGlyph). h.cluster) hs ≡ map (λ (h : ShapedGlyph). h.cluster) (map looks hs)
glyph_clusters [] = refl
glyph_clusters (h ∷ hs) = ap (λ zs. h.cluster ∷ zs) (glyph_clusters hs)

-- A text and its two parts in the order of drawing: two glyphs of its line meet at place i, before which k are kept;
-- behind substitution its line is that of the first part, of i glyphs, and then that of the second; a test tells the
-- clusters of the two apart; so it is with its positions behind kerning, and no glyph from there on is attached to one
-- before it.
pub record IsInParts
    (face : hb_font_t) (d : Direction) (features : List Feature) (x : Behind face d features) (text first second : Text)
    (k i : ℕ) : Type 0
  where
    pub meets : MeetsAt (drawn face d features x text).line k i
    pub whole :
        turned (is_backward d) (x.substituted text).line
        ≡ turned (is_backward d) (x.substituted first).line ++ turned (is_backward d) (x.substituted second).line
    pub long : length (x.substituted first).line ≡ i
    pub test : ℕ → Bool
    pub pass : AllRest test (spots (x.substituted first).line)
    pub fail : AllRest (λ c. not (test c)) (spots (x.substituted second).line)
    pub positions :
        ordered_positions (kerned face d features x text)
        ≡ ordered_positions (kerned face d features x first) ++ ordered_positions (kerned face d features x second)
    pub unchained : is_unchained d (ordered_positions (kerned face d features x text)) i ≡ true

module _
    (face : hb_font_t) (d : Direction) (features : List Feature) (x : Behind face d features)
    (text first second : Text) (k i : ℕ) (parts : IsInParts face d features x text first second k i)
  where
    abbrev t : Bool
    t = is_backward d

    abbrev before : Glyphs
    before = ordered face d features x first

    abbrev behind : Glyphs
    behind = ordered face d features x second

    long_is : length before ≡ i
    long_is = length-turned t (x.substituted first).line ∙ parts.long

    -- the two parts of the line
    plain_whole : plain_line face d features x text ≡ plain_line face d features x first ++ plain_line face d features x second
    plain_whole = ap (map plain) parts.whole ∙ map-append plain before behind

    zeroed_places_split : zeroed_places face d features x text ≡ zeroed_places face d features x first ++ zeroed_places face d features x second
    zeroed_places_split =
        let g = plain_line face d features x first in
        let h = plain_line face d features x second in
        ap (λ zs. zeroed_positions zs (ordered_positions (kerned face d features x text))) plain_whole
        ∙ (ap (zeroed_positions (g ++ h)) parts.positions
        ∙ zeroed_split g h (ordered_positions (kerned face d features x first)) (ordered_positions (kerned face d features x second))
        (length_of_ordered face d features x first))

    -- the glyphs that meet, without masks
    abbrev xs : Glyphs
    xs = map plain (parts.meets.front ++ parts.meets.last ∷ [])

    abbrev y : hb_glyph_info_t
    y = plain parts.meets.here

    abbrev ys : Glyphs
    ys = map plain parts.meets.back

    line_is : plain_line face d features x text ≡ xs ++ y ∷ ys
    line_is =
        sym (drawn_plain_line face d features x text)
        ∙ (ap (map plain) parts.meets.whole
        ∙ map-append plain (parts.meets.front ++ parts.meets.last ∷ []) (parts.meets.here ∷ parts.meets.back))

    both : plain_line face d features x first ++ plain_line face d features x second ≡ xs ++ y ∷ ys
    both = sym plain_whole ∙ line_is

    long_first : length (plain_line face d features x first) ≡ i
    long_first = length-map before plain ∙ long_is

    long_xs : length xs ≡ i
    long_xs = length-map (parts.meets.front ++ parts.meets.last ∷ []) plain ∙ parts.meets.long

    pub xs_is : plain_line face d features x first ≡ xs
    xs_is =
        sym (take_at (plain_line face d features x first) (plain_line face d features x second) i long_first)
        ∙ (ap (take i) both ∙ take_at xs (y ∷ ys) i long_xs)

    pub ys_is : plain_line face d features x second ≡ y ∷ ys
    ys_is =
        sym (drop_at (plain_line face d features x first) (plain_line face d features x second) i long_first)
        ∙ (ap (drop i) both ∙ drop_at xs (y ∷ ys) i long_xs)

    spots_of_xs : spots xs ≡ spots (parts.meets.front ++ parts.meets.last ∷ [])
    spots_of_xs = spots_plain (parts.meets.front ++ parts.meets.last ∷ [])

    all_of : (p : ℕ → Bool) (part : Text) → AllRest p (spots (x.substituted part).line) → AllRest p (spots (plain_line face d features x part))
    all_of p part all = all_plain p (ordered face d features x part) (all_turned p t (x.substituted part).line all)

    is_cut : IsCut parts.test xs y ys
    is_cut = record {
      front = subst (λ (gs : Glyphs). AllRest parts.test (spots gs)) xs_is (all_of parts.test first parts.pass);
      back = subst (λ (gs : Glyphs). AllRest (λ c. not (parts.test c)) (spots gs)) ys_is (all_of (λ c. not (parts.test c)) second parts.fail);
      kept =
          subst (BeginsKept parts.meets.here.cluster) (sym (spots_plain (parts.meets.here ∷ parts.meets.back))) parts.meets.kept;
      some = ap some_stays spots_of_xs ∙ parts.meets.some;
    }

    count_is : stays (spots xs) ≡ k
    count_is = ap stays spots_of_xs ∙ parts.meets.count

    length_first : length (drawn_places face d features x first) ≡ length xs
    length_first = length_of_drawn face d features x first ∙ ap length xs_is

    places_split : drawn_places face d features x text ≡ drawn_places face d features x first ++ drawn_places face d features x second
    places_split =
        let ps = zeroed_places face d features x first in
        let qs = zeroed_places face d features x second in
        let by : Glyphs → Positions → Positions = λ gs zs. tracked_turned x.value d t gs zs in
        ap (λ gs. by gs (zeroed_places face d features x text)) line_is
        ∙ (ap (by (xs ++ y ∷ ys)) zeroed_places_split
        ∙ (tracked_turned_split x.tracks x.value d parts.test t xs (y ∷ ys) ps qs
        (length_of_zeroed face d features x first ∙ ap length xs_is) (length_of_zeroed face d features x second ∙ ap length ys_is)
        is_cut.front is_cut.back
        ∙ (ap (λ gs. by gs ps ++ by (y ∷ ys) qs) (sym xs_is) ∙ ap (λ gs. by (plain_line face d features x first) ps ++ by gs qs) (sym ys_is))))

    -- so do those to which the offsets of what glyphs are attached to are added
    unchained_drawn : is_unchained d (drawn_places face d features x first ++ drawn_places face d features x second) (length (drawn_places face d features x first)) ≡ true
    unchained_drawn =
        let places = drawn_places face d features x first ++ drawn_places face d features x second in
        ap (λ n. is_unchained d places n) (length_first ∙ long_xs)
        ∙ (ap (λ qs. is_unchained d qs i) (sym places_split)
        ∙ (same_links d (drawn_places face d features x text) (ordered_positions (kerned face d features x text)) i (drawn_links face d features x text)
        ∙ parts.unchained))

    abbrev added : Text → Positions
    added part = added_up d (drawn_places face d features x part)

    added_is : added_up d (drawn_places face d features x text) ≡ added first ++ added second
    added_is =
        ap (added_up d) places_split
        ∙ added_split d (drawn_places face d features x first) (drawn_places face d features x second) unchained_drawn

    added_long : length (added first) ≡ length xs
    added_long = length_added d (drawn_places face d features x first) ∙ length_first

    -- what is drawn looks as the parts do
    abbrev first_looks : List ShapedGlyph
    first_looks = line_looks (plain_line face d features x first) (added first)

    abbrev second_looks : List ShapedGlyph
    second_looks = line_looks (plain_line face d features x second) (added second)

    joined : (may : ℕ → Bool) → map looks (drawn_glyphs may (drawn face d features x text)) ≡ first_looks ++ second_looks
    joined may =
        let ps = added first in
        let qs = added second in
        text_looks face d features x may text
        ∙ (ap (λ gs. line_looks gs (added text)) line_is
        ∙ (ap (line_looks (xs ++ y ∷ ys)) added_is
        ∙ (looks_split parts.test xs y ys is_cut ps qs added_long
        ∙ (ap (λ gs. line_looks gs ps ++ line_looks (y ∷ ys) qs) (sym xs_is)
        ∙ ap (λ gs. line_looks (plain_line face d features x first) ps ++ line_looks gs qs) (sym ys_is)))))

    first_long : length first_looks ≡ k
    first_long =
        length_looks (plain_line face d features x first) (added first)
        (length_added d (drawn_places face d features x first) ∙ length_of_drawn face d features x first)
        ∙ (ap (λ gs. stays (spots gs)) xs_is ∙ count_is)

    -- what is drawn before place k looks as the first part does, wherever the two may be broken
    pub before_is :
        (may may_first : ℕ → Bool)
        → map looks (take k (drawn_glyphs may (drawn face d features x text)))
        ≡ map looks (drawn_glyphs may_first (drawn face d features x first))
    before_is may may_first =
        sym (take-map looks k (drawn_glyphs may (drawn face d features x text)))
        ∙ (ap (take k) (joined may)
        ∙ (take_at first_looks second_looks k first_long ∙ sym (text_looks face d features x may_first first)))

    -- and what is drawn from place k on as the second part
    pub behind_is :
        (may may_second : ℕ → Bool)
        → map looks (drop k (drawn_glyphs may (drawn face d features x text)))
        ≡ map looks (drawn_glyphs may_second (drawn face d features x second))
    behind_is may may_second =
        sym (drop-map looks k (drawn_glyphs may (drawn face d features x text)))
        ∙ (ap (drop k) (joined may)
        ∙ (drop_at first_looks second_looks k first_long ∙ sym (text_looks face d features x may_second second)))

    module _ (may : ℕ → Bool) where
      abbrev glyphs : List ShapedGlyph
      glyphs = drawn_glyphs may (drawn face d features x text)

      clusters_are : map (λ (h : ShapedGlyph). h.cluster) glyphs ≡ reverse (left_of (y ∷ ys) ++ left_of xs)
      clusters_are =
          let places = added text in
          glyph_clusters glyphs
          ∙ (ap (map (λ (h : ShapedGlyph). h.cluster)) (text_looks face d features x may text ∙ ap (λ gs. line_looks gs places) line_is)
          ∙ (clusters_of_looks (xs ++ y ∷ ys) places
          (length_added d (drawn_places face d features x text) ∙ (length_of_drawn face d features x text ∙ ap length line_is))
          ∙ ap reverse (left_splits parts.test xs y ys is_cut)))

      cluster_at_place : (j : ℕ) → j < length glyphs → (shaped_at glyphs j).cluster ≡ get_or (reverse (left_of (y ∷ ys) ++ left_of xs)) j 0
      cluster_at_place j low =
          sym (get_or-map (λ (h : ShapedGlyph). h.cluster) glyphs j no_shaped_glyph 0 low) ∙ ap (λ zs. get_or zs j 0) clusters_are

      last_is : last_from 0 (spots xs) ≡ parts.meets.last.cluster
      last_is = ap (last_from 0) spots_of_xs ∙ last_spot 0 parts.meets.front parts.meets.last

      -- the text is cut where the two parts meet
      pub place_is :
          (place : ℕ)
          → ((a b : ℕ) → parts.test a ≡ true → a ≤ parts.meets.last.cluster → parts.test b ≡ false → b ≤ parts.meets.here.cluster → max a b ≡ place)
          → k < length glyphs → cut_before glyphs k ≡ place
      place_is place meets low =
          let left = left_of xs in
          let right = left_of (y ∷ ys) in
          let count : length left ≡ k = length_left xs ∙ count_is in
          let some : 0 < length left = left_some parts.test xs y ys is_cut in
          let a : (shaped_at glyphs (k - 1)).cluster ≡ head_of left =
          cluster_at_place (k - 1) (omega (arith, low)) ∙ (ap (λ n. get_or (reverse (right ++ left)) (n - 1) 0) (sym count) ∙ meets_before left right some) in
          let b : (shaped_at glyphs k).cluster ≡ last_of 0 right =
          cluster_at_place k low ∙ (ap (λ n. get_or (reverse (right ++ left)) n 0) (sym count) ∙ meets_behind left right) in
          ap (λ n. max n (shaped_at glyphs k).cluster) a
          ∙ (ap (λ n. max (head_of left) n) b
          ∙ meets (head_of left) (last_of 0 right) (last_passes parts.test xs y ys is_cut)
          (last_below parts.test xs y ys is_cut parts.meets.last.cluster (le_of_eq last_is))
          (first_fails parts.test xs y ys is_cut) (first_below parts.test xs y ys is_cut))
