-- The line that closing substitution leaves of a text is cut in two where its kerned line may be broken, by the marks.
use Rattle.std.proofs.Common.{◌≡◌, ◌≢◌, ◌∙◌, ◌⊎◌, sym, ap, refl, inl, inr, ℕ, zero, suc, ◌+◌, ◌-◌, ◌<◌, ◌≤◌, Bool, true, false, not, cond, max, min, List, [], ◌∷◌, ◌++◌, map, reverse, length, arith, get_or, nat_lt, bit_and, subst, true≢false}
use Rattle.std.proofs.lemmas.Bool.{cases_lt}
use Rattle.std.proofs.lemmas.Bool.Decides.{nat_tests}
use Rattle.std.proofs.lemmas.List.{get_or-reverse, length-append, length-map, length-reverse, reverse-append, reverse-reverse}
use Rattle.std.proofs.Math.ListN.{get_or-map}
use Rattle.std.specs.List.{AllZip, list_any}
use Rattle.aat_glyph.specs.declared.glyph.Direction.{Direction}
use Rattle.aat_glyph.specs.declared.glyph.hb_glyph_info_t.{hb_glyph_info_t}
use Rattle.aat_buffer.specs.Buffer.{no_glyph}
use Rattle.aat_buffer.specs.Clusters.{ComesFrom, IsFallingLine, IsRisingLine}
use Rattle.aat_buffer.specs.Marks.{cluster_at}
use Rattle.aat_font.specs.Face.{chains_in, tables_of}
use Rattle.aat_font.specs.declared.face.hb_font_t.{hb_font_t}
use Rattle.aat_font.specs.declared.plan.Feature.{Feature}
use Rattle.aat_run.specs.Budget.{operations_left}
use Rattle.aat_map.specs.Requests.{requests_of}
use Rattle.aat_map.specs.SwitchedChains.{by_requests}
use Rattle.aat_kinds.specs.Kinds.{sizes_for}
use Rattle.aat_kerning_machines.specs.KerningLaws.{IsMarkedFrom}
use Rattle.aat_cut_kinds.specs.Open.{is_open}
use Rattle.aat_cut_kinds.specs.facts.Flags.{IsCalm}
use Rattle.aat_cut_kinds.specs.facts.MarksOnly.{same_at}
use Rattle.aat_cut_kinds.specs.facts.Opens.{opened, steady_open}
use Rattle.aat_closing.specs.CutsAbout.{AreEvenAbout, ChainsLeaveLimitedPartsAbout}
use Rattle.aat_closing.specs.LimitedParts.{ChainsTellOfLimitedPartsAbout}
use Rattle.aat_closing.specs.ToldParts.{TellsOpen}
use Rattle.aat_closing.specs.facts.ChainsSteady.{KeptByChains, chains_keep_any}
use Rattle.aat_closing.specs.facts.FirstOpen.{falling_turned, open_turned}
use Rattle.aat_shaped_text.specs.Breaks.{is_rising, is_unsafe, later_run}
use Rattle.aat_shaped_text.specs.Parts.{text_before, text_from}
use Rattle.aat_shaped_text.specs.ShapedText.{closed_text, line_glyph, most_operations, text_buffer}
use Rattle.aat_shaped_text.specs.declared.text.TextGlyph.{TextGlyph}
use Rattle.aat_shaped_text.proofs.Bits.{or_left}
use Rattle.aat_shaped_text.proofs.LaterRuns.{open_at_fall, open_at_rise}
use Rattle.aat_shaped_text.proofs.RisingText.{rising_line}
use Rattle.aat_shaped_text.proofs.Spots.{AllRest}
use Rattle.aat_shaped_text.proofs.SpotsRuns.{Glyphs, clusters, map-reverse, spots}
use Rattle.aat_shaped_text.proofs.TextCut.{AllText, Text, before_below, from_above, in_two, rising_parts}
use Rattle.aat_shaped_text.proofs.TextParted.{TellsPart, parted, parts_tell}
use Rattle.aat_shaped_text.proofs.TextParts.{all_turned}
use Rattle.aat_shaped_text.proofs.Texts.{turned}

-- marks keep clusters, and clear no glyph
pub marked_clusters : (gs hs : Glyphs) → AllZip IsMarkedFrom gs hs → clusters hs ≡ clusters gs
marked_clusters [] [] all = refl
marked_clusters [] (h ∷ hs) all = elim all [ ]
marked_clusters (g ∷ gs) [] all = elim all [ ]
marked_clusters (g ∷ gs) (h ∷ hs) all =
    ap (λ (x : hb_glyph_info_t). x.cluster ∷ clusters hs) all.0.2 ∙ ap (λ cs. g.cluster ∷ cs) (marked_clusters gs hs all.1)

pub marked_calm : (gs hs : Glyphs) → AllZip IsMarkedFrom gs hs → IsCalm gs hs
marked_calm [] [] all k clear = clear
marked_calm [] (h ∷ hs) all k clear = elim all [ ]
marked_calm (g ∷ gs) [] all k clear = elim all [ ]
marked_calm (g ∷ gs) (h ∷ hs) all zero clear = or_left 1 g.mask all.0.0 (ap (λ (x : hb_glyph_info_t). bit_and x.mask 1) (sym all.0.2) ∙ clear)
marked_calm (g ∷ gs) (h ∷ hs) all (suc k) clear = marked_calm gs hs all.1 k clear

-- the order of the clusters of a line is that of another one with the same
same_rising : (gs hs : Glyphs) → clusters hs ≡ clusters gs → IsRisingLine gs → IsRisingLine hs
same_rising gs hs same up n m d before within =
    let cluster : hb_glyph_info_t → ℕ = λ g. g.cluster in
    let long : length hs ≡ length gs = sym (length-map hs cluster) ∙ (ap length same ∙ length-map gs cluster) in
    let read : (k : ℕ) → (get_or hs k d).cluster ≡ (get_or gs k d).cluster =
    λ k. sym (get_or-map cluster hs k d) ∙ (ap (λ cs. get_or cs k d.cluster) same ∙ get_or-map cluster gs k d) in
    rw (read n, read m) (up n m d before (omega (arith, within, long)))

-- what all places of a line pass
all_places : (p : ℕ → Bool) (gs : Glyphs) → ((k : ℕ) → k < length gs → p (cluster_at gs k) ≡ true) → AllRest p (spots gs)
all_places p [] each = tt
all_places p (g ∷ gs) each = (each 0 (omega arith), all_places p gs (λ k within. each (suc k) (omega (arith, within))))

text_places : (f : TextGlyph → hb_glyph_info_t) → ((g : TextGlyph) → (f g).cluster ≡ g.cluster) → (p : ℕ → Bool) (text : Text) → AllText p text
    → (k : ℕ) → k < length (map f text) → p (cluster_at (map f text) k) ≡ true
text_places f keeps p [] all k within = absurd (omega (arith, within))
text_places f keeps p (g ∷ text) all zero within = ap p (keeps g) ∙ all.0
text_places f keeps p (g ∷ text) all (suc k) within = text_places f keeps p text all.1 k (omega (arith, within))

came : (p : ℕ → Bool) (old new : Glyphs) → ComesFrom old new → ((k : ℕ) → k < length old → p (cluster_at old k) ≡ true) → AllRest p (spots new)
came p old new from each = all_places p new (λ k within. let source = from k within in ap p source.2 ∙ each source.0 source.1)

-- a glyph of a text before a cluster, and one from it on
some_before : (f : TextGlyph → hb_glyph_info_t) → ((g : TextGlyph) → (f g).cluster ≡ g.cluster) → (c : ℕ) (text : Text) (k : ℕ) → k < length (map f text) → cluster_at (map f text) k < c
    → 0 < length (text_before c text)
some_before f keeps c [] k within below = absurd (omega (arith, within))
some_before f keeps c (g ∷ text) k within below = by_test (nat_lt g.cluster c) refl (some_before f keeps c text) k within below
  where
    by_test : (t : Bool) → nat_lt g.cluster c ≡ t → ((k : ℕ) → k < length (map f text) → cluster_at (map f text) k < c → 0 < length (text_before c text))
        → (k : ℕ) → k < length (map f (g ∷ text)) → cluster_at (map f (g ∷ text)) k < c → 0 < length (cond t (g ∷ text_before c text) (text_before c text))
    by_test true is rest k within below = omega arith
    by_test false is rest zero within below = absurd (let same = keeps g in let high : c ≤ g.cluster = grind (arith, nat_tests, is) in omega (arith, below, same, high))
    by_test false is rest (suc k) within below = rest k (omega (arith, within)) below

some_from : (f : TextGlyph → hb_glyph_info_t) → ((g : TextGlyph) → (f g).cluster ≡ g.cluster) → (c : ℕ) (text : Text) (k : ℕ) → k < length (map f text) → c ≤ cluster_at (map f text) k
    → 0 < length (text_from c text)
some_from f keeps c [] k within high = absurd (omega (arith, within))
some_from f keeps c (g ∷ text) k within high = by_test (nat_lt g.cluster c) refl (some_from f keeps c text) k within high
  where
    by_test : (t : Bool) → nat_lt g.cluster c ≡ t → ((k : ℕ) → k < length (map f text) → c ≤ cluster_at (map f text) k → 0 < length (text_from c text))
        → (k : ℕ) → k < length (map f (g ∷ text)) → c ≤ cluster_at (map f (g ∷ text)) k → 0 < length (cond (not t) (g ∷ text_from c text) (text_from c text))
    by_test false is rest k within high = omega arith
    by_test true is rest zero within high = absurd (let same = keeps g in let low : g.cluster < c = grind (arith, nat_tests, is) in omega (arith, high, same, low))
    by_test true is rest (suc k) within high = rest k (omega (arith, within)) high

-- two lists are divided at one place where a test tells it
record IsDivided (p : ℕ → Bool) (i : ℕ) (cs : List ℕ) : Type 0 where
  before : (k : ℕ) → k < i → p (get_or cs k 0) ≡ true
  at : p (get_or cs i 0) ≡ false

divided_there : (p : ℕ → Bool) (i : ℕ) (gs hs : Glyphs) → IsDivided p i (clusters (gs ++ hs)) → i < length (gs ++ hs) → AllRest p (spots gs) → AllRest (λ c. not (p c)) (spots hs) → length gs ≡ i
divided_there p i [] [] divided within pass fail = absurd (omega (arith, within))
divided_there p zero [] (h ∷ hs) divided within pass fail = refl
divided_there p (suc i) [] (h ∷ hs) divided within pass fail =
    absurd (true≢false (sym (divided.before 0 (omega arith)) ∙ unset (p h.cluster) fail.0))
  where
    unset : (t : Bool) → not t ≡ true → t ≡ false
    unset true e = absurd (true≢false (sym e))
    unset false e = refl
divided_there p zero (g ∷ gs) hs divided within pass fail = absurd (true≢false (sym pass.0 ∙ divided.at))
divided_there p (suc i) (g ∷ gs) hs divided within pass fail =
    ap suc (divided_there p i gs hs (record { before = λ k low. divided.before (suc k) (omega (arith, low)); at = divided.at }) (omega (arith, within)) pass.1 fail)

strictly : (a b : ℕ) → a ≤ b → a ≢ b → a < b
strictly a b most differ = by_order (cases_lt a b)
  where
    by_order : ((a < b) ⊎ (b ≤ a)) → a < b
    by_order (inl less) = less
    by_order (inr more) = absurd (differ (omega (arith, most, more)))

-- a text that is cut, in drawing order: the two parts, of which more is true, and the cluster between them
pub record PartedText (line : Text → Glyphs) (More : Text → Type 0) (t : Bool) (text : Text) (i last here : ℕ) : Type 0 where
  pub first : Text
  pub second : Text
  pub test : ℕ → Bool
  pub place : ℕ
  pub whole : turned t (line text) ≡ turned t (line first) ++ turned t (line second)
  pub long : length (line first) ≡ i
  pub pass : AllRest test (spots (line first))
  pub fail : AllRest (λ c. not (test c)) (spots (line second))
  pub early : text_before place text ≡ cond t second first
  pub late : text_from place text ≡ cond t first second
  pub first_more : More first
  pub second_more : More second
  pub meets : (a b : ℕ) → test a ≡ true → a ≤ last → test b ≡ false → b ≤ here → max a b ≡ place

-- the clusters of a part of a text never fall, its machines tell what is open, and they take no more operations than those
-- of the text, which is no shorter
pub record TellsRising (face : hb_font_t) (d : Direction) (features : List Feature) (whole part : Text) : Type 0 where
  pub rising : is_rising part ≡ true
  pub more : TellsPart face d features whole part
  pub shorter : length part ≤ length whole

module _ (own : ChainsLeaveLimitedPartsAbout) (tell : ChainsTellOfLimitedPartsAbout) (face : hb_font_t) (d : Direction) (features : List Feature) where
  -- the subtables of the font are even about the cut of a place, from the lesser of the two clusters that meet there
  abbrev pub AreEvenAt : ℕ → ℕ → Type 0
  AreEvenAt a b =
      (low c : ℕ) → low ≡ min a b → c ≡ max a b
      → AreEvenAbout low c d (by_requests (requests_of (tables_of face).feat features) (chains_in (tables_of face).morx))

  abbrev pub line : Text → Glyphs
  line text = (closed_text face d features text).buffer.line

  pub kept : (text : Text) → KeptByChains (text_buffer face d features text) (closed_text face d features text).buffer
  kept text =
      chains_keep_any (sizes_for face) (omega arith) d (by_requests (requests_of (tables_of face).feat features) (chains_in (tables_of face).morx))
      (text_buffer face d features text) refl refl

  abbrev f : TextGlyph → hb_glyph_info_t
  f = line_glyph face features

  module _ (text : Text) (rising : is_rising text ≡ true) (told : (closed_text face d features text).is_told ≡ true)
      (spends : most_operations (length text) < operations_left (closed_text face d features text).buffer.max_ops + 16384)
    where
      line_rises : IsRisingLine (line text)
      line_rises = (kept text).order.rising (λ apart. true≢false (sym apart)) (rising_line face features text rising)

      -- what the parts before a cluster and from it on leave
      record InParts (c : ℕ) : Type 0 where
        whole : line text ≡ line (text_before c text) ++ line (text_from c text)
        early : TellsRising face d features text (text_before c text)
        late : TellsRising face d features text (text_from c text)

      -- where a cluster is open, and a glyph has a lower one
      in_parts : (low c p : ℕ) → AreEvenAbout low c d (by_requests (requests_of (tables_of face).feat features) (chains_in (tables_of face).morx))
          → is_open c (line text) ≡ true → p < length (line text) → low ≤ cluster_at (line text) p → cluster_at (line text) p < c → InParts c
      in_parts from c p even opens within least below =
          let o = opened c (line text) opens in
          let low = (kept text).order.clusters p within in
          let high = (kept text).order.clusters o.place o.inside in
          let low_is = low.2 in
          let high_is = high.2 in
          let at = o.at in
          let some_early = some_before f (λ g. refl) c text low.0 low.1 (omega (arith, below, low_is)) in
          let some_late = some_from f (λ g. refl) c text high.0 high.1 (omega (arith, at, high_is)) in
          let tells : TellsOpen c (closed_text face d features text) = record { told = told; opens = opens; budget = omega (arith, spends) } in
          let both = parts_tell own tell face d features text c rising from even some_early some_late tells (p, within, least, below) spends in
          let rise = rising_parts c text rising in
          let in_all : length (text_before c text) + length (text_from c text) ≡ length text =
          sym (length-append (text_before c text) (text_from c text)) ∙ ap length (in_two c text rising) in
          record {
            whole = parted own tell face d features text c rising from even some_early some_late tells (p, within, least, below) spends;
            early = record { rising = rise.0; more = both.0; shorter = omega (arith, in_all) };
            late = record { rising = rise.1; more = both.1; shorter = omega (arith, in_all) };
          }

      passes : (p : ℕ → Bool) (part : Text) → AllText p part → AllRest p (spots (line part))
      passes p part all = came p (map f part) (line part) (kept part).order.clusters (text_places f (λ g. refl) p part all)

      module _ (k : Glyphs) (same : clusters k ≡ clusters (line text)) (calm : IsCalm (line text) k) where
        k_rises : IsRisingLine k
        k_rises = same_rising (line text) k same line_rises

        as_long : length k ≡ length (line text)
        as_long = let cluster : hb_glyph_info_t → ℕ = λ g. g.cluster in sym (length-map k cluster) ∙ (ap length same ∙ length-map (line text) cluster)

        read : (n : ℕ) → cluster_at k n ≡ cluster_at (line text) n
        read n = same_at (λ (g : hb_glyph_info_t). g.cluster) k (line text) n same

        -- from left to right, or from top to bottom
        forward : (i : ℕ) → 0 < i → i < length k → cluster_at k i ≢ cluster_at k (i - 1) → not (list_any is_unsafe (later_run k i)) ≡ true
            → AreEvenAt (cluster_at k (i - 1)) (cluster_at k i) → PartedText line (TellsRising face d features text) false text i (cluster_at k (i - 1)) (cluster_at k i)
        forward i some within differ safe even =
            let c = cluster_at k i in
            let step : cluster_at k (i - 1) ≤ c = k_rises (i - 1) i no_glyph (omega (arith, some)) within in
            let below : cluster_at k (i - 1) < c = strictly (cluster_at k (i - 1)) c step (λ e. differ (sym e)) in
            let opens : is_open c (line text) ≡ true = steady_open c (line text) k same calm (open_at_rise k i some within k_rises differ safe) in
            let before = read (i - 1) in
            let parts = in_parts (cluster_at k (i - 1)) c (i - 1) (even (cluster_at k (i - 1)) c (omega (arith, below)) (omega (arith, below))) opens (omega (arith, within, as_long)) (omega (arith, before)) (omega (arith, below, before)) in
            let whole = parts.whole in
            let pass = passes (λ x. nat_lt x c) (text_before c text) (before_below c text) in
            let fail = passes (λ x. not (nat_lt x c)) (text_from c text) (from_above c text) in
            record {
              first = text_before c text;
              second = text_from c text;
              test = λ x. nat_lt x c;
              place = c;
              whole = whole;
              long = divided_there (λ x. nat_lt x c) i (line (text_before c text)) (line (text_from c text))
                  (subst (IsDivided (λ x. nat_lt x c) i) (same ∙ ap clusters whole) (divided below))
                  (omega (arith, within, as_long, ap length whole)) pass fail;
              pass = pass;
              fail = fail;
              early = refl;
              late = refl;
              first_more = parts.early;
              second_more = parts.late;
              meets = λ a b low _ not_low high. grind (arith, nat_tests, low, not_low, high);
            }
          where
            at_place : (n : ℕ) → get_or (clusters k) n 0 ≡ cluster_at k n
            at_place n = get_or-map (λ (g : hb_glyph_info_t). g.cluster) k n no_glyph

            divided : cluster_at k (i - 1) < cluster_at k i → IsDivided (λ x. nat_lt x (cluster_at k i)) i (clusters k)
            divided below = record {
              before = λ n low.
                  let here = at_place n in
                  let most = up_to n low in
                  let less : cluster_at k n < cluster_at k i = omega (arith, most, below) in
                  rw here (grind (arith, nat_tests, less));
              at = rw (at_place i) (grind (arith, nat_tests));
            }
              where
                up_to : (n : ℕ) → n < i → cluster_at k n ≤ cluster_at k (i - 1)
                up_to n low = by_last (cases_lt n (i - 1))
                  where
                    by_last : ((n < i - 1) ⊎ (i - 1 ≤ n)) → cluster_at k n ≤ cluster_at k (i - 1)
                    by_last (inl less) = k_rises n (i - 1) no_glyph less (omega (arith, within))
                    by_last (inr last) = let there : n ≡ i - 1 = omega (arith, last, low) in rw there (omega arith)

        -- from right to left, or from bottom to top
        backward : (i : ℕ) → 0 < i → i < length (reverse k) → cluster_at (reverse k) i ≢ cluster_at (reverse k) (i - 1) → not (list_any is_unsafe (later_run (reverse k) i)) ≡ true
            → AreEvenAt (cluster_at (reverse k) (i - 1)) (cluster_at (reverse k) i) → PartedText line (TellsRising face d features text) true text i (cluster_at (reverse k) (i - 1)) (cluster_at (reverse k) i)
        backward i some within differ safe even =
            let m : Glyphs = reverse k in
            let c = cluster_at m (i - 1) in
            let falls : IsFallingLine m = falling_turned k k_rises in
            let step : cluster_at m i ≤ c = falls (i - 1) i no_glyph (omega (arith, some)) within in
            let below : cluster_at m i < c = strictly (cluster_at m i) c step differ in
            let turned_back : is_open c (reverse m) ≡ true = open_turned c m (open_at_fall m i some within falls differ safe) in
            let opens : is_open c (line text) ≡ true = steady_open c (line text) k same calm (subst (λ (gs : Glyphs). is_open c gs ≡ true) (reverse-reverse k) turned_back) in
            let count = length-reverse k in
            let there : cluster_at m i ≡ cluster_at k (length k - 1 - i) =
            ap (λ (g : hb_glyph_info_t). g.cluster) (get_or-reverse k i no_glyph (omega (arith, within, count))) in
            let before = read (length k - 1 - i) in
            let parts = in_parts (cluster_at m i) c (length k - 1 - i) (even (cluster_at m i) c (omega (arith, below)) (omega (arith, below))) opens (omega (arith, within, count, as_long)) (omega (arith, there, before)) (omega (arith, below, there, before)) in
            let whole = parts.whole in
            let pass = passes (λ x. not (nat_lt x c)) (text_from c text) (from_above c text) in
            let fail = passes (λ x. not (not (nat_lt x c))) (text_before c text) (twice c (text_before c text) (before_below c text)) in
            let split : reverse (line text) ≡ reverse (line (text_from c text)) ++ reverse (line (text_before c text)) =
            ap reverse whole ∙ reverse-append (line (text_before c text)) (line (text_from c text)) in
            let turned_same : clusters m ≡ clusters (reverse (line text)) =
            map-reverse (λ (g : hb_glyph_info_t). g.cluster) k ∙ (ap reverse same ∙ sym (map-reverse (λ (g : hb_glyph_info_t). g.cluster) (line text))) in
            record {
              first = text_from c text;
              second = text_before c text;
              test = λ x. not (nat_lt x c);
              place = c;
              whole = split;
              long = sym (length-reverse (line (text_from c text)))
                  ∙ divided_there (λ x. not (nat_lt x c)) i (reverse (line (text_from c text))) (reverse (line (text_before c text)))
                  (subst (IsDivided (λ x. not (nat_lt x c)) i) (turned_same ∙ ap clusters split) (divided falls below))
                  (omega (arith, within, count, as_long, ap length split, length-reverse (line text)))
                  (all_turned (λ x. not (nat_lt x c)) true (line (text_from c text)) pass) (all_turned (λ x. not (not (nat_lt x c))) true (line (text_before c text)) fail);
              pass = pass;
              fail = fail;
              early = refl;
              late = refl;
              first_more = parts.late;
              second_more = parts.early;
              meets = λ a b high last not_high _. grind (arith, nat_tests, high, last, not_high);
            }
          where
            twice : (c : ℕ) (xs : Text) → AllText (λ x. nat_lt x c) xs → AllText (λ x. not (not (nat_lt x c))) xs
            twice c [] all = tt
            twice c (x ∷ xs) all = (ap (λ t. not (not t)) all.0, twice c xs all.1)

            at_place : (n : ℕ) → get_or (clusters (reverse k)) n 0 ≡ cluster_at (reverse k) n
            at_place n = get_or-map (λ (g : hb_glyph_info_t). g.cluster) (reverse k) n no_glyph

            divided : IsFallingLine (reverse k) → cluster_at (reverse k) i < cluster_at (reverse k) (i - 1) → IsDivided (λ x. not (nat_lt x (cluster_at (reverse k) (i - 1)))) i (clusters (reverse k))
            divided falls below = record {
              before = λ n low.
                  let here = at_place n in
                  let least : cluster_at (reverse k) (i - 1) ≤ cluster_at (reverse k) n = from n low in
                  rw here (grind (arith, nat_tests, least));
              at = rw (at_place i) (grind (arith, nat_tests, below));
            }
              where
                from : (n : ℕ) → n < i → cluster_at (reverse k) (i - 1) ≤ cluster_at (reverse k) n
                from n low = by_last (cases_lt n (i - 1))
                  where
                    by_last : ((n < i - 1) ⊎ (i - 1 ≤ n)) → cluster_at (reverse k) (i - 1) ≤ cluster_at (reverse k) n
                    by_last (inl less) = falls n (i - 1) no_glyph less (omega (arith, within))
                    by_last (inr last) = let there : n ≡ i - 1 = omega (arith, last, low) in rw there (omega arith)

        -- in either direction
        pub parted_by : (t : Bool) (i : ℕ) → 0 < i → i < length (turned t k) → cluster_at (turned t k) i ≢ cluster_at (turned t k) (i - 1) → not (list_any is_unsafe (later_run (turned t k) i)) ≡ true
            → AreEvenAt (cluster_at (turned t k) (i - 1)) (cluster_at (turned t k) i) → PartedText line (TellsRising face d features text) t text i (cluster_at (turned t k) (i - 1)) (cluster_at (turned t k) i)
        parted_by false = forward
        parted_by true = backward
