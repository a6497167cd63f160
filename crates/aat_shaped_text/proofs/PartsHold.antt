-- Texts are drawn in parts, where a way to tell breaks is known.
use Rattle.std.proofs.Common.{◌≡◌, ◌≢◌, ◌∙◌, sym, ap, refl, ℕ, ◌-◌, ◌+◌, ◌<◌, ◌≤◌, ◌==◌, ◌&&◌, ◌||◌, Bool, true, false, not, cond, max, min, List, [], ◌∷◌, ◌++◌, map, length, take, arith, nat_lt, subst, true≢false, append_assoc}
use Rattle.std.proofs.Math.ListN.{get_or-map}
use Rattle.std.proofs.lemmas.Bool.{and_parts}
use Rattle.std.proofs.lemmas.Bool.Decides.{nat_tests}
use Rattle.std.proofs.lemmas.List.{get_or_at, length-append, length-map, take-map}
use Rattle.std.specs.List.{AllZip}
use Rattle.std.specs.Prelude.{ℤ, pos}
use Rattle.std.specs.Bool.{MatchBool}
use Rattle.aat_glyph.specs.Directions.{is_backward}
use Rattle.aat_glyph.specs.declared.glyph.Direction.{Direction}
use Rattle.aat_glyph.specs.declared.glyph.hb_glyph_info_t.{hb_glyph_info_t}
use Rattle.aat_buffer.specs.Buffer.{Buffer, glyph_at, no_glyph}
use Rattle.aat_buffer.specs.Marks.{cluster_at, produces_concat}
use Rattle.aat_font.specs.Face.{advance_of, chains_in, tables_of}
use Rattle.aat_font.specs.declared.face.hb_font_t.{hb_font_t}
use Rattle.aat_font.specs.declared.plan.Feature.{Feature}
use Rattle.aat_run.specs.Budget.{operations_left}
use Rattle.aat_map.specs.Requests.{requests_of}
use Rattle.aat_map.specs.SwitchedChains.{by_requests}
use Rattle.aat_kinds.specs.Kinds.{sizes_for}
use Rattle.aat_closing.specs.CutsAbout.{AreEvenAbout}
use Rattle.aat_closing.specs.Unflagged.{SameButFlags, erased, unflagged}
use Rattle.aat_closing.specs.facts.BlindBuffers.{erased_of, same_of}
use Rattle.aat_closing.specs.facts.ChainsErased.{chains_alike}
use Rattle.aat_closing.specs.facts.ChainsSteady.{all_even_about, chains_leave_limited_parts_about}
use Rattle.aat_closing.specs.facts.LimitedTells.{chains_tell_of_limited_parts_about}
use Rattle.aat_kerning.specs.Cut.{ordered_line, ordered_positions}
use Rattle.aat_kerning.specs.Pairs.{is_solid}
use Rattle.aat_kerning_machines.specs.KerningLaws.{IsMarkedFrom}
use Rattle.aat_kerning.specs.KerningLawful.{KerningChangesLittle}
use Rattle.aat_glyph.specs.placement.TrackingLaws.{PartsAreTrackedApart}
use Rattle.aat_layout.specs.Shaping.{with_advances}
use Rattle.aat_shaped_text.specs.Breaks.{front_of, is_rising, is_unchained, kept_before, substitutes_evenly}
use Rattle.aat_shaped_text.specs.TextFeatures.{ask_alike, ask_alike_through, ask_evenly}
use Rattle.aat_shaped_text.specs.Parts.{BreaksHold, IsDrawnInParts, LooksAsParts, cut_before, looks, shaped_at, text_before, text_from}
use Rattle.aat_shaped_text.specs.ShapedText.{advanced_closed, closed_text, drawn_glyphs, drawn_text, kerned_closed, kerned_text, may_break_text, may_cut_text, most_operations, shaped_text, tells_breaks, text_buffer, text_substitution}
use Rattle.aat_shaped_text.specs.ClosingDraws.{ClosingDrawsAlike}
use Rattle.aat_shaped_text.specs.declared.text.ShapedGlyph.{ShapedGlyph}
use Rattle.aat_shaped_text.proofs.BreakPlaces.{MayBreak, MayMeet, MeetsAt, meets_at, meets_of}
use Rattle.aat_shaped_text.proofs.DrawnBlind.{advanced_alike, drawn_alike, glyphs_alike}
use Rattle.aat_shaped_text.proofs.EvenText.{all_even, all_even_through}
use Rattle.aat_shaped_text.proofs.Fronts.{count_kept, front_plain, opens_at}
use Rattle.aat_shaped_text.proofs.KernedText.{text_changes_little}
use Rattle.aat_shaped_text.proofs.LineRuns.{text_blind}
use Rattle.aat_shaped_text.proofs.Looks.{plain, spots_plain}
use Rattle.aat_shaped_text.proofs.LooksSplit.{stays}
use Rattle.aat_shaped_text.proofs.MarkedParts.{AreEvenAt, PartedText, TellsRising, kept, marked_calm, marked_clusters, parted_by}
use Rattle.aat_shaped_text.proofs.Places.{breaks_at}
use Rattle.aat_shaped_text.proofs.SpotsRuns.{Glyphs, spots}
use Rattle.aat_shaped_text.proofs.TextCut.{Text}
use Rattle.aat_shaped_text.proofs.TextLooks.{Behind, drawn, drawn_level, drawn_plain_line, kerned, line_before}
use Rattle.aat_shaped_text.proofs.TextParts.{IsInParts, before_is, behind_is, place_is}
use Rattle.aat_shaped_text.proofs.Texts.{map-turned, marked_plain, turned}

pub three : (a b c : Bool) → (a && b && c) ≡ true → (a ≡ true) × (b ≡ true) × (c ≡ true)
three true true true is = (refl, refl, refl)
three true true false is = absurd (true≢false (sym is))
three true false c is = absurd (true≢false (sym is))
three false b c is = absurd (true≢false (sym is))

pub all_three : (a b c : Bool) → a ≡ true → b ≡ true → c ≡ true → (a && b && c) ≡ true
all_three true true true a b c = refl
all_three false y z a b c = a
all_three true false z a b c = b
all_three true true false a b c = c

-- the parts, in the order of the text
pub in_order_of_text :
    (Parts : Text → Text → Type 0) (t : Bool) (first second early late : Text) → early ≡ cond t second first → late ≡ cond t first second
    → Parts first second → MatchBool t (Parts late early) (Parts early late)
in_order_of_text Parts true first second early late e l both =
    subst (λ (a : Text). Parts a early) (sym l) (subst (λ (b : Text). Parts first b) (sym e) both)
in_order_of_text Parts false first second early late e l both =
    subst (λ (a : Text). Parts a late) (sym e) (subst (λ (b : Text). Parts first b) (sym l) both)

-- the two glyphs that meet at a place of a line
here_at : (k i : ℕ) (line : Glyphs) (m : MeetsAt line k i) → cluster_at line i ≡ m.here.cluster
here_at k i line m =
    ap (λ (g : hb_glyph_info_t). g.cluster)
    (ap (λ zs. glyph_at zs i) m.whole ∙ get_or_at (m.front ++ m.last ∷ []) m.here m.back no_glyph i m.long)

last_at : (k i : ℕ) (line : Glyphs) (m : MeetsAt line k i) → cluster_at line (i - 1) ≡ m.last.cluster
last_at k i line m =
    let long = m.long in
    let count : length m.front + 1 ≡ i = sym (length-append m.front (m.last ∷ [])) ∙ long in
    ap (λ (g : hb_glyph_info_t). g.cluster)
    (ap (λ zs. glyph_at zs (i - 1)) (m.whole ∙ append_assoc m.front (m.last ∷ []) (m.here ∷ m.back))
    ∙ get_or_at m.front m.last (m.here ∷ m.back) no_glyph (i - 1) (omega (arith, count)))

-- substitution and closing substitution leave the same but for flags
substituted_alike : (face : hb_font_t) (d : Direction) (features : List Feature) (text : Text)
    → SameButFlags (text_substitution face features (text_buffer face d features text)).buffer (closed_text face d features text).buffer
substituted_alike face d features text =
    let b : Buffer = text_buffer face d features text in
    let chains = by_requests (requests_of (tables_of face).feat features) (chains_in (tables_of face).morx) in
    let left : SameButFlags (closed_text face d features text).buffer (text_substitution face features b).buffer =
    (chains_alike (sizes_for face) chains b b (record { line = refl; rest = refl })).buffer in
    same_of (text_substitution face features b).buffer (closed_text face d features text).buffer
    (sym (erased_of (closed_text face d features text).buffer (text_substitution face features b).buffer left))

-- what is said of a place of a text at which it may be cut, by a line that asks for marks
pub record Says (face : hb_font_t) (d : Direction) (features : List Feature) (text : Text) (line : Glyphs) (i : ℕ) : Type 0 where
  pub rising : is_rising text ≡ true
  pub tells : tells_breaks face d features text ≡ true
  pub may : MayBreak (substitutes_evenly face d features) features line i

-- lines that are the same without masks
pub same_cluster : (gs hs : Glyphs) (i : ℕ) → map plain gs ≡ map plain hs → cluster_at gs i ≡ cluster_at hs i
same_cluster gs hs i same =
    ap (λ (g : hb_glyph_info_t). g.cluster) (sym (get_or-map plain gs i no_glyph) ∙ (ap (λ (zs : Glyphs). glyph_at zs i) same ∙ get_or-map plain hs i no_glyph))

pub same_solid : (skips : ℕ) (gs hs : Glyphs) (i : ℕ) → map plain gs ≡ map plain hs → is_solid skips (glyph_at gs i) ≡ is_solid skips (glyph_at hs i)
same_solid skips gs hs i same =
    ap (is_solid skips) (sym (get_or-map plain gs i no_glyph) ∙ (ap (λ (zs : Glyphs). glyph_at zs i) same ∙ get_or-map plain hs i no_glyph))

pub same_length : (gs hs : Glyphs) → map plain gs ≡ map plain hs → length gs ≡ length hs
same_length gs hs same = sym (length-map gs plain) ∙ (ap length same ∙ length-map hs plain)

pub same_spots : (gs hs : Glyphs) → map plain gs ≡ map plain hs → spots gs ≡ spots hs
same_spots gs hs same = sym (spots_plain gs) ∙ (ap spots same ∙ spots_plain hs)

same_kept : (gs hs : Glyphs) (i : ℕ) → map plain gs ≡ map plain hs → kept_before gs i ≡ kept_before hs i
same_kept gs hs i same =
    count_kept (take i gs)
    ∙ (ap stays (same_spots (take i gs) (take i hs) (sym (take-map plain i gs) ∙ (ap (take i) same ∙ take-map plain i hs))) ∙ sym (count_kept (take i hs)))

-- what is asked of glyphs but for their marks does not ask for masks
same_meet : (gs hs : Glyphs) (i : ℕ) → map plain gs ≡ map plain hs → MayMeet gs i → MayMeet hs i
same_meet gs hs i same may = record {
  some = ap (nat_lt 0) (sym (same_kept gs hs i same)) ∙ may.some;
  starts =
      ap (λ (c : ℕ). not (c == cluster_at hs (i - 1))) (sym (same_cluster gs hs i same))
      ∙ (ap (λ (c : ℕ). not (cluster_at gs i == c)) (sym (same_cluster gs hs (i - 1) same)) ∙ may.starts);
}

-- where the features ask evenly at the two clusters that meet at a place, each subtable is even about it
even_at : (face : hb_font_t) (d : Direction) (features : List Feature) (a e : ℕ) → ask_evenly (substitutes_evenly face d features) features a e ≡ true → AreEvenAt chains_leave_limited_parts_about chains_tell_of_limited_parts_about face d features a e
even_at face d features a e asks low c least most =
    by_all (substitutes_evenly face d features) refl
    ((and_parts (ask_alike features a e) (substitutes_evenly face d features || ask_alike_through features (min a e) (max a e)) asks).1)
  where
    by_all : (t : Bool) → substitutes_evenly face d features ≡ t → (t || ask_alike_through features (min a e) (max a e)) ≡ true
        → AreEvenAbout low c d (by_requests (requests_of (tables_of face).feat features) (chains_in (tables_of face).morx))
    by_all true even either =
        all_even_about low c d (by_requests (requests_of (tables_of face).feat features) (chains_in (tables_of face).morx))
        (all_even (tables_of face).feat features d (chains_in (tables_of face).morx) even)
    by_all false uneven through = all_even_through (tables_of face).feat features d low c (rw (least, most) through) (chains_in (tables_of face).morx)

pub both_true : (a b : Bool) → a ≡ true → b ≡ true → (a && b) ≡ true
both_true true b is also = also
both_true false b is also = is

-- closing substitution of a text tells what is open, and takes together with kerning fewer operations than any text has
pub record TellsAll (face : hb_font_t) (d : Direction) (features : List Feature) (text : Text) : Type 0 where
  pub told : (closed_text face d features text).is_told ≡ true
  pub few : most_operations (length text) < operations_left (kerned_closed face d features text).max_ops + 16384

module _ (face : hb_font_t) (d : Direction) (features : List Feature) (text : Text) where
  pub tells_all : tells_breaks face d features text ≡ true → TellsAll face d features text
  tells_all tells =
      let both = and_parts (closed_text face d features text).is_told (nat_lt (most_operations (length text)) (operations_left (kerned_closed face d features text).max_ops + 16384)) tells in
      let few = both.1 in
      record { told = both.0; few = grind (arith, nat_tests, few) }

  pub tells_of : TellsAll face d features text → tells_breaks face d features text ≡ true
  tells_of all =
      let few = all.few in
      both_true (closed_text face d features text).is_told (nat_lt (most_operations (length text)) (operations_left (kerned_closed face d features text).max_ops + 16384))
      all.told (grind (arith, nat_tests, few))

starts : (a b : ℕ) → not (a == b) ≡ true → a ≢ b
starts a b differ same = let test : (a == b) ≡ true = grind (arith, nat_tests, same) in true≢false (sym (sym (ap not test) ∙ differ))

module _ (little : KerningChangesLittle) (tracks : PartsAreTrackedApart)
    (v : ℤ) (face : hb_font_t) (d : Direction) (features : List Feature)
  where
    -- texts behind closing substitution
    abbrev pub x : Behind face d features
    x = record {
      value = v;
      substituted = λ text. (closed_text face d features text).buffer;
      direction = λ text. (kept chains_leave_limited_parts_about chains_tell_of_limited_parts_about face d features text).direction;
      level = λ text. (kept chains_leave_limited_parts_about chains_tell_of_limited_parts_about face d features text).level;
      flags = λ text. ap produces_concat (kept chains_leave_limited_parts_about chains_tell_of_limited_parts_about face d features text).flags;
      little = little;
      tracks = tracks;
    }

    -- behind kerning the two differ by flags alone
    pub kerned_alike : (text : Text) → SameButFlags (kerned_text face d features text) (kerned_closed face d features text)
    kerned_alike text =
        let substituted : Buffer = (text_substitution face features (text_buffer face d features text)).buffer in
        let closed : Buffer = (closed_text face d features text).buffer in
        let alike = substituted_alike face d features text in
        let first : Buffer = with_advances (advance_of face) substituted in
        let second : Buffer = with_advances (advance_of face) closed in
        let same : erased first ≡ erased second = erased_of first second (advanced_alike (advance_of face) substituted closed alike) in
        same_of (kerned_text face d features text) (kerned_closed face d features text)
        (text_blind face features first second same)

    -- closing substitution draws what substitution draws
    pub drawn_is : (may : ℕ → Bool) (text : Text) → drawn_glyphs may (drawn_text v face d features text) ≡ drawn_glyphs may (drawn face d features x text)
    drawn_is may text =
        glyphs_alike may (drawn_text v face d features text) (drawn face d features x text) (drawn_level face d features x text)
        (drawn_alike v (kerned_text face d features text) (kerned face d features x text) (kerned_alike text))

    pub shaped_is : (text : Text) → shaped_text v face d features text ≡ drawn_glyphs (may_break_text face d features text) (drawn face d features x text)
    shaped_is text = drawn_is (may_break_text face d features text) text

    -- kerning adds nothing to the budget
    pub spends : (text : Text) → operations_left (kerned_closed face d features text).max_ops ≤ operations_left (closed_text face d features text).buffer.max_ops
    spends text = (text_changes_little face features (with_advances (advance_of face) (closed_text face d features text).buffer) little).budget

    -- a glyph of the line that is drawn begins where it does in the line that is kerned
    pub front_drawn : (text : Text) (i : ℕ) → front_of (ordered_line (advanced_closed face d features text)) i ≡ front_of (drawn face d features x text).line i
    front_drawn text i =
        front_plain (ordered_line (advanced_closed face d features text)) (drawn face d features x text).line i
        (ap (map plain) (line_before face d features x text) ∙ sym (drawn_plain_line face d features x text))

    -- a text may be broken before a glyph where it may be cut where that begins
    pub cuts_at : (text : Text) (i : ℕ) → may_break_text face d features text i ≡ true → may_cut_text face d features text (front_of (drawn face d features x text).line i) ≡ true
    cuts_at text i may = ap (may_cut_text face d features text) (sym (front_drawn text i)) ∙ may

    pub breaks_where : (text : Text) (i : ℕ) → may_cut_text face d features text (front_of (drawn face d features x text).line i) ≡ true → may_break_text face d features text i ≡ true
    breaks_where text i may = ap (may_cut_text face d features text) (front_drawn text i) ∙ may

    -- A way to tell where texts may be cut: the line in reading order that asks for marks, and what is so of a place, at
    -- which the positions of a text are then those of its parts, and no glyph from there on is attached to one before it.
    pub record Way : Type 0 where
      pub line : Text → Glyphs
      pub marked : (text : Text) → AllZip IsMarkedFrom (closed_text face d features text).buffer.line (line text)
      pub says :
          (text : Text) (i : ℕ) → may_cut_text face d features text i ≡ true → Says face d features text (turned (is_backward d) (line text)) i
      pub splits :
          (text first second : Text) (k i : ℕ) → may_cut_text face d features text i ≡ true
          → MeetsAt (drawn face d features x text).line k i
          → turned (is_backward d) (x.substituted text).line
          ≡ turned (is_backward d) (x.substituted first).line ++ turned (is_backward d) (x.substituted second).line
          → length (x.substituted first).line ≡ i → TellsRising face d features text first → TellsRising face d features text second
          → ordered_positions (kerned face d features x text)
          ≡ ordered_positions (kerned face d features x first) ++ ordered_positions (kerned face d features x second)
      pub unchained :
          (text : Text) (i : ℕ) → may_cut_text face d features text i ≡ true
          → is_unchained d (ordered_positions (kerned face d features x text)) i ≡ true

    module _ (way : Way) (text : Text) where
      abbrev pub asked : Glyphs
      asked = turned (is_backward d) (way.line text)

      -- but for masks that line is the one that is drawn
      pub same_plain : map plain (drawn face d features x text).line ≡ map plain (turned (is_backward d) (way.line text))
      same_plain =
          drawn_plain_line face d features x text
          ∙ (map-turned plain (is_backward d) (x.substituted text).line
          ∙ (ap (turned (is_backward d)) (sym (marked_plain (x.substituted text).line (way.line text) (way.marked text)))
          ∙ sym (map-turned plain (is_backward d) (way.line text))))

      split_at :
          (i : ℕ) → Says face d features text (turned (is_backward d) (way.line text)) i → 0 < i → i < length (turned (is_backward d) (way.line text))
          → PartedText (λ part. (closed_text face d features part).buffer.line) (TellsRising face d features text) (is_backward d) text i
          (cluster_at (turned (is_backward d) (way.line text)) (i - 1)) (cluster_at (turned (is_backward d) (way.line text)) i)
      split_at i says some within =
          let all = tells_all face d features text says.tells in
          let few = all.few in
          let behind : Glyphs = (closed_text face d features text).buffer.line in
          let m : Glyphs = turned (is_backward d) (way.line text) in
          parted_by chains_leave_limited_parts_about chains_tell_of_limited_parts_about face d features text says.rising all.told (omega (arith, few, spends text)) (way.line text)
          (marked_clusters behind (way.line text) (way.marked text)) (marked_calm behind (way.line text) (way.marked text)) (is_backward d) i some within
          (starts (cluster_at m i) (cluster_at m (i - 1)) says.may.starts) says.may.safe
          (even_at face d features (cluster_at m (i - 1)) (cluster_at m i) says.may.asks)

      -- where two glyphs of the line meet
      module _ (k i : ℕ) (m : MeetsAt (drawn face d features x text).line k i) (may : may_cut_text face d features text i ≡ true) where
        pub split : PartedText (λ part. (closed_text face d features part).buffer.line) (TellsRising face d features text) (is_backward d) text i
            (cluster_at (turned (is_backward d) (way.line text)) (i - 1)) (cluster_at (turned (is_backward d) (way.line text)) i)
        split =
            let within = m.before_end in
            split_at i (way.says text i may) m.behind_first
            (omega (arith, within, same_length (drawn face d features x text).line (turned (is_backward d) (way.line text)) same_plain))

        abbrev pub are_parts : IsInParts face d features x text split.first split.second k i
        are_parts = record {
          meets = m;
          whole = split.whole;
          long = split.long;
          test = split.test;
          pass = split.pass;
          fail = split.fail;
          positions = way.splits text split.first split.second k i may m split.whole split.long split.first_more split.second_more;
          unchained = way.unchained text i may;
        }

        -- in the order of the text
        pub in_order :
            (Parts : Text → Text → Type 0) → k < length (drawn_glyphs (may_break_text face d features text) (drawn face d features x text))
            → Parts split.first split.second
            → MatchBool (is_backward d)
            (Parts (text_from (cut_before (drawn_glyphs (may_break_text face d features text) (drawn face d features x text)) k) text)
            (text_before (cut_before (drawn_glyphs (may_break_text face d features text) (drawn face d features x text)) k) text))
            (Parts (text_before (cut_before (drawn_glyphs (may_break_text face d features text) (drawn face d features x text)) k) text)
            (text_from (cut_before (drawn_glyphs (may_break_text face d features text) (drawn face d features x text)) k) text))
        in_order Parts low both =
            let p = split in
            let glyphs = drawn_glyphs (may_break_text face d features text) (drawn face d features x text) in
            let line : Glyphs = (drawn face d features x text).line in
            let m_line : Glyphs = turned (is_backward d) (way.line text) in
            let here = sym (same_cluster line m_line i same_plain) ∙ here_at k i line m in
            let last = sym (same_cluster line m_line (i - 1) same_plain) ∙ last_at k i line m in
            let cut : cut_before glyphs k ≡ p.place =
            place_is face d features x text p.first p.second k i are_parts (may_break_text face d features text) p.place
            (λ a b passes most fails least. p.meets a b passes (omega (arith, most, last)) fails (omega (arith, least, here))) low in
            in_order_of_text Parts (is_backward d) p.first p.second
            (text_before (cut_before glyphs k) text) (text_from (cut_before glyphs k) text)
            (ap (λ c. text_before c text) cut ∙ p.early) (ap (λ c. text_from c text) cut ∙ p.late) both

        drawn_in_parts : k < length (drawn_glyphs (may_break_text face d features text) (drawn face d features x text))
            → IsDrawnInParts v face d features text (drawn_glyphs (may_break_text face d features text) (drawn face d features x text)) k
        drawn_in_parts low =
            let p = split in
            let glyphs = drawn_glyphs (may_break_text face d features text) (drawn face d features x text) in
            in_order (λ first second. LooksAsParts v face d features first second glyphs k) low
            (record {
              before =
                  before_is face d features x text p.first p.second k i are_parts (may_break_text face d features text) (may_break_text face d features p.first)
                  ∙ ap (map looks) (sym (shaped_is p.first));
              behind =
                  behind_is face d features x text p.first p.second k i are_parts (may_break_text face d features text) (may_break_text face d features p.second)
                  ∙ ap (map looks) (sym (shaped_is p.second));
            })

      -- where a glyph begins that says so two glyphs meet
      pub record CutAt (k : ℕ) : Type 0 where
        pub place : ℕ
        pub meets : MeetsAt (drawn face d features x text).line k place
        pub may : may_cut_text face d features text place ≡ true

      pub cut_at : (k : ℕ) → k < length (drawn_glyphs (may_break_text face d features text) (drawn face d features x text))
          → (shaped_at (drawn_glyphs (may_break_text face d features text) (drawn face d features x text)) k).may_break_before ≡ true
          → CutAt k
      cut_at k low may =
          let there = breaks_at (may_break_text face d features text) (drawn face d features x text) k low may in
          let m : Glyphs = turned (is_backward d) (way.line text) in
          let line : Glyphs = (drawn face d features x text).line in
          let place : ℕ = front_of line there.place in
          let may_cut : may_cut_text face d features text place ≡ true = cuts_at text there.place there.may in
          let says = way.says text place may_cut in
          record {
            place = place;
            meets = meets_at line k place (opens_at line k there.place there.at_place)
                (same_meet m line place (sym same_plain)
                (meets_of (substitutes_evenly face d features) features m place says.may));
            may = may_cut;
          }

      holds_at : (k : ℕ) → k < length (drawn_glyphs (may_break_text face d features text) (drawn face d features x text))
          → (shaped_at (drawn_glyphs (may_break_text face d features text) (drawn face d features x text)) k).may_break_before ≡ true
          → IsDrawnInParts v face d features text (drawn_glyphs (may_break_text face d features text) (drawn face d features x text)) k
      holds_at k low may = let c = cut_at k low may in drawn_in_parts k c.place c.meets c.may low

      -- what is drawn may be broken where it says so
      pub breaks_hold : BreaksHold v face d features text (drawn_glyphs (may_break_text face d features text) (drawn_text v face d features text))
      breaks_hold k low may =
          let same = drawn_is (may_break_text face d features text) text in
          subst (λ (glyphs : List ShapedGlyph). IsDrawnInParts v face d features text glyphs k) (sym same)
          (holds_at k
          (subst (λ (glyphs : List ShapedGlyph). k < length glyphs) same low)
          (subst (λ (glyphs : List ShapedGlyph). (shaped_at glyphs k).may_break_before ≡ true) same may))

-- closing substitution draws texts as substitution does
pub closing_draws_alike : KerningChangesLittle → PartsAreTrackedApart → ClosingDrawsAlike
closing_draws_alike little tracks = record {
  lengths = λ face d features text.
      let plain : Buffer = (text_substitution face features (text_buffer face d features text)).buffer in
      let same = (substituted_alike face d features text).line in
      sym (length-map plain.line unflagged) ∙ (ap length same ∙ length-map (closed_text face d features text).buffer.line unflagged);
  drawn = λ v face d features text. shaped_is little tracks v face d features text;
  budget = λ face d features text. ap (λ (b : Buffer). b.max_ops) (kerned_alike little tracks (pos 0) face d features text).rest;
}
