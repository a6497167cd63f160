-- What is drawn of a text, from what the calls leave.
use Rattle.std.proofs.Common.{◌≡◌, ◌∙◌, ap, refl, ℕ, zero, suc, ◌+◌, ◌-◌, ◌<◌, ◌&&◌, ◌≢◌, Bool, true, false, cond, get_or, length, map, not, List, [], ◌∷◌, ◌++◌, drop, take, subst, sym, true≢false, nat_lt, arith, if◌then◌else◌}
use Rattle.std.proofs.Math.Seq.{take-append_seam}
use Rattle.std.proofs.lemmas.Bool.{and_parts}
use Rattle.std.proofs.lemmas.List.{get_or-reverse, length-map, length-reverse}
use Rattle.std.specs.List.{range_with_len}
use Rattle.std.specs.Borrow.{Bor}
use Rattle.std.specs.Prelude.{ℤ, Option, filter}
use Rattle.aat_buffer.specs.Buffer.{Buffer, glyph_at, position_list, reversed, with_positions}
use Rattle.aat_buffer.specs.Clusters.{IsSmall}
use Rattle.aat_buffer.specs.Marks.{clusters_stay_apart}
use Rattle.aat_buffer.specs.Removal.{is_deleted, removed}
use Rattle.aat_closing.specs.ClosingApplied.{closing_applied_by}
use Rattle.aat_closing.specs.ClosingChains.{closing_substituted}
use Rattle.aat_closing.specs.ClosingRuns.{Told}
use Rattle.aat_font.specs.Face.{advance_of, chains_in, tables_of}
use Rattle.aat_font.specs.declared.face.hb_font_t.{hb_font_t}
use Rattle.aat_font.specs.declared.plan.Feature.{Feature}
use Rattle.aat_font.specs.declared.plan.hb_ot_shape_plan_t.{hb_ot_shape_plan_t}
use Rattle.aat_glyph.specs.Directions.{is_backward, is_horizontal}
use Rattle.aat_glyph.specs.declared.glyph.Direction.{Direction}
use Rattle.aat_glyph.specs.declared.glyph.hb_glyph_info_t.{hb_glyph_info_t}
use Rattle.aat_kerning.specs.Cut.{ordered_line, ordered_positions}
use Rattle.aat_kerning.specs.Pairs.{is_solid}
use Rattle.aat_kerning.specs.Positioning.{in_processing_order}
use Rattle.aat_kerning.specs.Zeroing.{zeroed}
use Rattle.aat_kinds.specs.Kinds.{sizes_for}
use Rattle.aat_map.specs.Map.{lists_for}
use Rattle.aat_map.specs.SwitchedChains.{SwitchedChain, plan_requests, switched, switched_by}
use Rattle.aat_morx.specs.Applying.{applied_by}
use Rattle.aat_morx.specs.Substitution.{substituted}
use Rattle.aat_run.specs.Budget.{has_operations, operations_left}
use Rattle.aat_run.specs.Outcome.{Outcome}
use Rattle.aat_run.specs.declared.ranges.range_flags_t.{range_flags_t}
use Rattle.aat_layout.specs.Shaping.{advanced, placing, with_advances}
use Rattle.aat_shaped_text.specs.Breaks.{front_of, is_rising, is_unchained, kerns_apart, kerns_by_pairs, may_break_at, may_break_by, skips_of, substitutes_evenly}
use Rattle.aat_shaped_text.specs.ClosingDraws.{ClosingDrawsAlike}
use Rattle.aat_shaped_text.specs.KernedBreaks.{kerning_opens}
use Rattle.aat_shaped_text.specs.KernedPlaces.{ClosesChained, TellsOpenPlaces}
use Rattle.aat_shaped_text.specs.ShapedText.{advanced_closed, closed_text, drawn_glyph, drawn_glyphs, drawn_text, is_open_by_kerning, is_open_by_marks, kerned_closed, kerned_text, may_break_line, may_break_text, may_cut_text, most_operations, shaped_text, tells_breaks, text_buffer, text_closing, text_kerning, text_substitution, tracked_line, uses_up_budget, with_clusters_of}
use Rattle.aat_shaped_text.specs.declared.breaks.BreakRules.{BreakRules}
use Rattle.aat_shaped_text.specs.declared.text.ShapedGlyph.{ShapedGlyph}
use Rattle.aat_shaped_text.specs.declared.text.TextGlyph.{TextGlyph}
use Rattle.aat_kerning.proofs.KerningLawsHold.{kerning_changes_little}
use Rattle.aat_glyph.specs.placement.Attachments.{IsUnattached}
use Rattle.aat_shaped_text.proofs.KernedApart.{Plain}
use Rattle.aat_shaped_text.proofs.KernedText.{text_changes_little}
use Rattle.aat_shaped_text.proofs.LineRuns.{text_plain}
use Rattle.aat_shaped_text.proofs.Looks.{plain}
use Rattle.aat_shaped_text.proofs.Unkerned.{left_unkerned, opens_each, unchained_unkerned, unpaired}
use Rattle.aat_shaped_text.specs.Unkerned.{is_unkerned}
use Rattle.aat_shaped_text.proofs.Fronts.{front_most, front_plain}
use Rattle.aat_shaped_text.proofs.Texts.{map-turned, marked_plain, ordered_line_is, turned}
use Rattle.aat_drawn_text.proofs.Planned.{planned_chains, planned_placing}
use Rattle.aat_drawn_text.proofs.ShownChains.{unattached_shown, unchained_shown}
use Rattle.aat_drawn_text.specs.declared.drawn.Breaks.{Breaks}
use Rattle.aat_drawn_text.specs.inside.Drawing.{may_break, may_cut}
use Rattle.aat_drawn_text.specs.inside.Kerned.{is_open, is_told_by_glyphs, kerned_by, open_places}
use Rattle.aat_drawn_text.specs.declared.kerned.KernedBy.TheVariants.{Nothing, Others, Pairs}
use Rattle.aat_drawn_text.specs.declared.kerned.OpenPlaces.{OpenPlaces}
use Rattle.aat_drawn_text.specs.inside.TextLine.{substituted_so, tells_so}
use Rattle.aat_drawn_text.specs.TextPlan.{IsPlanOf}

-- tracking and zeroing leave the line
drawn_line_is : (v : ℤ) (b : Buffer) → (in_processing_order (tracked_line v (zeroed b))).line ≡ ordered_line b
drawn_line_is v b = by_way (is_backward b.direction)
  where
    by_way : (t : Bool) → (cond t (reversed (tracked_line v (zeroed b))) (tracked_line v (zeroed b))).line ≡ (cond t (reversed b) b).line
    by_way true = refl
    by_way false = refl

-- glyphs of 16 bits, in drawing order
pub small_ordered : (b : Buffer) → IsSmall b → IsSmall (in_processing_order b)
small_ordered b small = by_way (is_backward b.direction)
  where
    by_way : (t : Bool) → IsSmall (cond t (reversed b) b)
    by_way true = λ k e low.
        let long = length-reverse b.line in
        let within : k < length b.line = omega (arith, low, long) in
        rw (get_or-reverse b.line k e within) (small (length b.line - 1 - k) e (omega (arith, within)))
    by_way false = small

-- what is drawn asks no more than the places of the line before which it may be broken
places_within : (f g : ℕ → ShapedGlyph) (test : ℕ → Bool) (a n : ℕ) → ((i : ℕ) → i < a + n → f i ≡ g i)
    → map f (filter test (range_with_len a n)) ≡ map g (filter test (range_with_len a n))
places_within f g test a zero same = refl
places_within f g test a (suc n) same = by_test (test a) (places_within f g test (a + 1) n (λ i low. same i (omega (arith, low))))
  where
    rest : List ℕ
    rest = filter test (range_with_len (a + 1) n)

    by_test : (t : Bool) → map f rest ≡ map g rest → map f (cond t (a ∷ rest) rest) ≡ map g (cond t (a ∷ rest) rest)
    by_test true behind = λ k. same a (omega arith) k ∷ behind k
    by_test false behind = behind

drawn_same : (f g : ℕ → Bool) (b : Buffer) → ((i : ℕ) → i < length b.line → f i ≡ g i) → drawn_glyphs f b ≡ drawn_glyphs g b
drawn_same f g b same =
    ap (with_clusters_of (removed is_deleted b).line)
    (places_within (drawn_glyph f b) (drawn_glyph g b) (λ i. not (is_deleted (glyph_at b.line i))) 0 (length b.line)
    (λ i low. ap (λ (t : Bool). record (drawn_glyph f b i) { may_break_before = t }) (same i (omega (arith, low)))))

-- what is lent of a list of places, and written back with as many
pub closed_lent :
    (b : Buffer) (told lent new back : List Bool) (n : ℕ) → lent ≡ told → length lent ≡ n → back ≡ take n (new ++ drop (length new) told)
    → (length lent ≡ length b.line → ClosesChained b.direction (position_list b) lent new)
    → length told ≡ length b.line → ClosesChained b.direction (position_list b) told back
closed_lent b told lent new back n is len written closes long =
    let shut = closes (ap (λ (ts : List Bool). length ts) is ∙ long) in
    let same : n ≡ length new = sym (shut.long ∙ len) in
    let back_is : back ≡ new =
    written ∙ (ap (λ (k : ℕ). take k (new ++ drop (length new) told)) same ∙ take-append_seam new (drop (length new) told)) in
    subst (λ (ts : List Bool). ClosesChained b.direction (position_list b) ts back) is
    (subst (λ (ts : List Bool). ClosesChained b.direction (position_list b) lent ts) (sym back_is) shut)

-- behind kerning each glyph has its position
placed_kerned : (face : hb_font_t) (features : List Feature) (b : Buffer)
    → (let kerned : Buffer = (text_kerning face features (with_advances (advance_of face) b)).buffer in length (position_list kerned) ≡ length kerned.line)
placed_kerned face features b =
    let before : Buffer = with_advances (advance_of face) b in
    let from = text_changes_little face features before kerning_changes_little in
    let kerned : Buffer = (text_kerning face features before).buffer in
    from.text.positions
    ∙ (length-map b.line _
    ∙ (sym (length-map before.line plain) ∙ (ap length (sym (marked_plain before.line kerned.line from.line)) ∙ length-map kerned.line plain)))

-- advances attach nothing
advances_plain : (h : Bool) (f : hb_glyph_info_t → ℕ) (gs : List hb_glyph_info_t) → Plain (map (λ g. advanced h (f g)) gs)
advances_plain h f [] = tt
advances_plain true f (g ∷ gs) = (refl, advances_plain true f gs)
advances_plain false f (g ∷ gs) = (refl, advances_plain false f gs)

both_too : (t : Bool) → t ≡ ((t && true) && true)
both_too true = refl
both_too false = refl

-- kerning leaves the glyphs, but for masks
kerned_plain : (face : hb_font_t) (features : List Feature) (b : Buffer)
    → map plain (ordered_line (text_kerning face features (with_advances (advance_of face) b)).buffer) ≡ map plain (ordered_line (with_advances (advance_of face) b))
kerned_plain face features b =
    let before : Buffer = with_advances (advance_of face) b in
    let kerned : Buffer = (text_kerning face features before).buffer in
    let from = text_changes_little face features before kerning_changes_little in
    let t = is_backward before.direction in
    ap (map plain) (ordered_line_is kerned t (ap is_backward from.text.settings.direction))
    ∙ (map-turned plain t kerned.line
    ∙ (ap (turned t) (marked_plain before.line kerned.line from.line)
    ∙ (sym (map-turned plain t before.line) ∙ sym (ap (map plain) (ordered_line_is before t refl)))))

module _ (v : ℤ) (face : hb_font_t) (d : Direction) (features : List Feature) (text : List TextGlyph) where
  -- what substitution leaves of the text, which closes or not, and what it is kerned to
  abbrev pub behind_text : Bool → Buffer
  behind_text closes =
      cond closes (closed_text face d features text).buffer
      (text_substitution face features (text_buffer face d features text)).buffer

  abbrev pub kerned_behind : Bool → Buffer
  kerned_behind closes = (text_kerning face features (with_advances (advance_of face) (behind_text closes))).buffer

  module _ (plan : hb_ot_shape_plan_t) (planned : IsPlanOf features plan) (m : Option (List (List range_flags_t)))
      (compiled : switched_by (chains_in (tables_of face).morx) (lists_for m (chains_in (tables_of face).morx))
      ≡ switched plan.apply_morx (plan_requests plan face) (chains_in (tables_of face).morx))
      (asked : List Feature) (made : Buffer) (same : asked ≡ features) (built : made ≡ text_buffer face d asked text)
    where
      pub made_is : made ≡ text_buffer face d features text
      made_is = built ∙ ap (λ (fs : List Feature). text_buffer face d fs text) same

      closed_is : closing_applied_by (sizes_for face) face m made ≡ closed_text face d features text
      closed_is =
          ap (λ (ks : List SwitchedChain). closing_substituted (sizes_for face) ks made)
          (planned_chains face features plan planned (switched_by (chains_in (tables_of face).morx) (lists_for m (chains_in (tables_of face).morx))) compiled)
          ∙ ap (λ (b : Buffer). text_closing face features b) made_is

      applied_is : applied_by (sizes_for face) face m made ≡ text_substitution face features (text_buffer face d features text)
      applied_is =
          ap (λ (ks : List SwitchedChain). substituted (sizes_for face) ks made)
          (planned_chains face features plan planned (switched_by (chains_in (tables_of face).morx) (lists_for m (chains_in (tables_of face).morx))) compiled)
          ∙ ap (λ (b : Buffer). text_substitution face features b) made_is

      -- the line behind substitution, and behind kerning
      pub substituted_is : (closes : Bool) → substituted_so closes face m made ≡ behind_text closes
      substituted_is true = ap (λ (o : Told). o.buffer) closed_is
      substituted_is false = ap (λ (o : Outcome). o.buffer) applied_is

      pub as_long : ClosingDrawsAlike → (closes : Bool)
          → length (substituted_so closes face m made).line
          ≡ length (text_substitution face features (text_buffer face d features text)).buffer.line
      as_long alike closes = ap (λ (b : Buffer). length b.line) (substituted_is closes) ∙ by_closing closes
        where
          by_closing : (t : Bool) → length (behind_text t).line ≡ length (text_substitution face features (text_buffer face d features text)).buffer.line
          by_closing true = sym (alike.lengths face d features text)
          by_closing false = refl

      pub left_so : (closes : Bool) (behind_it left : Buffer) → behind_it ≡ substituted_so closes face m made
          → left ≡ (placing plan face behind_it).buffer → left ≡ zeroed (kerned_behind closes)
      left_so closes behind_it left substituted placed =
          placed
          ∙ (planned_placing face features plan planned behind_it
          ∙ ap (λ (b : Buffer). zeroed (text_kerning face features (with_advances (advance_of face) b)).buffer) (substituted ∙ substituted_is closes))

      -- whether its machines tell what is open
      pub tells_is : (closes : Bool) → tells_so closes face m made ≡ (closes && (closed_text face d features text).is_told)
      tells_is closes = ap (λ (o : Told). closes && o.is_told) closed_is

  -- whether it took few operations
  pub few_so :
      (closes : Bool) (made left : Buffer) (before : ℕ) → before ≡ operations_left made.max_ops → made ≡ text_buffer face d features text
      → left ≡ zeroed (kerned_behind closes)
      → nat_lt before (operations_left left.max_ops + 16384) ≡ nat_lt (most_operations (length text)) (operations_left (kerned_behind closes).max_ops + 16384)
  few_so closes made left before had built is =
      ap (λ (n : ℕ). nat_lt n (operations_left left.max_ops + 16384)) (had ∙ ap (λ (b : Buffer). operations_left b.max_ops) built)
      ∙ ap (λ (b : Buffer). nat_lt (most_operations (length text)) (operations_left b.max_ops + 16384)) is

  -- the line, tracked and turned
  pub drawn_text_so :
      (closes : Bool) (left tracked turned : Buffer) → left ≡ zeroed (kerned_behind closes) → tracked ≡ tracked_line v left
      → turned ≡ in_processing_order tracked → turned ≡ in_processing_order (tracked_line v (zeroed (kerned_behind closes)))
  drawn_text_so closes left tracked turned is wider after =
      after ∙ ap in_processing_order (wider ∙ ap (tracked_line v) is)

  -- where pairs along the line alone kern the text nothing of it is attached
  pub attached_none :
      (closes : Bool) (b : Buffer) → kerns_apart face d ≡ true → (behind_text closes).direction ≡ d
      → b ≡ in_processing_order (tracked_line v (zeroed (kerned_behind closes))) → IsUnattached b.direction (position_list b)
  attached_none closes b apart way is =
      let behind : Buffer = behind_text closes in
      let plain =
      (text_plain face d features apart (with_advances (advance_of face) behind) way).plain
      (advances_plain (is_horizontal behind.direction) (λ g. advance_of face g.glyph_id) behind.line) in
      subst (λ (c : Buffer). IsUnattached c.direction (position_list c)) (sym is)
      (unattached_shown v (kerned_behind closes) (placed_kerned face features behind) plain)

  -- what is known of the breaks of a text: whether it closes what its machines look at, whether they tell, and take few
  -- operations, by what it may be broken, and the places that are open before and behind what is attached
  pub record Allowed (rules : BreakRules) (breaks : Breaks) (told : List Bool) (b : Buffer) : Type 0 where
    pub closes : Bool
    pub rising : closes ≡ is_rising text
    pub tells : Bool
    pub told_is : tells ≡ (closes && (closed_text face d features text).is_told)
    pub few : Bool
    pub few_is : few ≡ nat_lt (most_operations (length text)) (operations_left (kerned_behind closes).max_ops + 16384)
    pub allowed : breaks.is_allowed ≡ (tells && few)
    pub rules_are : breaks.rules ≡ rules
    pub evenly : rules.is_even ≡ substitutes_evenly face d rules.features.now
    pub asked : rules.features.now ≡ features
    pub places : Bor (List Bool)
    pub left_open : breaks.left_open ≡ open_places face (kerned_by face d) places
    pub way : (behind_text closes).direction ≡ d
    pub opens :
        tells ≡ true → is_told_by_glyphs (kerned_by face d) ≡ false
        → TellsOpenPlaces face rules (with_advances (advance_of face) (behind_text closes)) told
    pub drawn_is : b ≡ in_processing_order (tracked_line v (zeroed (kerned_behind closes)))
    pub long : length b.line ≡ length (behind_text closes).line
    pub chained : length told ≡ length b.line → ClosesChained b.direction (position_list b) told places.now

  module _ (alike : ClosingDrawsAlike) (rules : BreakRules) (breaks : Breaks) (told : List Bool) (b : Buffer) (a : Allowed rules breaks told b) where
    abbrev closed : Buffer
    closed = (closed_text face d features text).buffer

    abbrev shown : Buffer
    shown = in_processing_order (tracked_line v (zeroed (kerned_closed face d features text)))

    by_rules : (line : List hb_glyph_info_t) (i : ℕ) → may_break_by rules line i ≡ may_break_line face d features line i
    by_rules line i =
        ap (λ (e : Bool). may_break_at e rules.features.now line i) a.evenly
        ∙ ap (λ (fs : List Feature). may_break_at (substitutes_evenly face d fs) fs line i) a.asked

    -- where it closes, tells and takes few operations
    module _ (closes_is : a.closes ≡ true) (tells_it : a.tells ≡ true) (shown_is : b ≡ shown) where
      by_pairs : (i : ℕ) → (is_solid (skips_of face) (glyph_at b.line i) && may_break_by breaks.rules b.line i) ≡ is_open_by_marks face d features text i
      by_pairs i =
          ap (λ (r : BreakRules). is_solid (skips_of face) (glyph_at b.line i) && may_break_by r b.line i) a.rules_are
          ∙ (ap (λ (t : Bool). is_solid (skips_of face) (glyph_at b.line i) && t) (by_rules b.line i)
          ∙ (ap (λ (c : Buffer). is_solid (skips_of face) (glyph_at c.line i) && may_break_line face d features c.line i) shown_is
          ∙ ap (λ (line : List hb_glyph_info_t). is_solid (skips_of face) (glyph_at line i) && may_break_line face d features line i) (drawn_line_is v (kerned_closed face d features text))))

      closed_way : closed.direction ≡ d
      closed_way = ap (λ (t : Bool). (behind_text t).direction) (sym closes_is) ∙ a.way

      -- nothing kerns it
      by_nothing : is_unkerned face d ≡ true → (i : ℕ) → may_break_by breaks.rules b.line i ≡ is_open_by_kerning face d features text i
      by_nothing unkerned i =
          let before : Buffer = advanced_closed face d features text in
          let may = may_break_line face d features (ordered_line before) i in
          ap (λ (r : BreakRules). may_break_by r b.line i) a.rules_are
          ∙ (by_rules b.line i
          ∙ (ap (λ (c : Buffer). may_break_line face d features c.line i) shown_is
          ∙ (ap (λ (line : List hb_glyph_info_t). may_break_line face d features line i) (drawn_line_is v (kerned_closed face d features text))
          ∙ (ap (λ (c : Buffer). may_break_line face d features (ordered_line c) i) (left_unkerned face d features unkerned before closed_way)
          ∙ (both_too may
          ∙ (ap (λ (t : Bool). (may && t) && true) (sym (opens_each face d features unkerned before i))
          ∙ ap (λ (t : Bool). (may && kerning_opens face d features before i) && t) (sym (unchained_unkerned face d features unkerned closed i closed_way))))))))

      by_kerning : is_told_by_glyphs (kerned_by face d) ≡ false → (i : ℕ) → i < length b.line → get_or a.places.now i false ≡ is_open_by_kerning face d features text i
      by_kerning others i low =
          let opens : TellsOpenPlaces face rules (with_advances (advance_of face) closed) told = subst (λ (t : Bool). TellsOpenPlaces face rules (with_advances (advance_of face) (behind_text t)) told) closes_is (a.opens tells_it others) in
          let long : length b.line ≡ length closed.line = a.long ∙ ap (λ (t : Bool). length (behind_text t).line) closes_is in
          let ps = map (λ (g : hb_glyph_info_t). advanced (is_horizontal closed.direction) (advance_of face g.glyph_id)) closed.line in
          let way : closed.direction ≡ d = closed_way in
          let kerned : Buffer = kerned_closed face d features text in
          let kerned_way : kerned.direction ≡ d = (text_changes_little face features (with_advances (advance_of face) closed) kerning_changes_little).text.settings.direction ∙ way in
          let shut = a.chained (opens.long ∙ sym long) in
          shut.opens i (omega (arith, low, long, opens.long))
          ∙ (ap (λ (t : Bool). t && is_unchained b.direction (position_list b) i) (opens.opens i (omega (arith, low, long)))
          ∙ (ap (λ (t : Bool). (t && kerning_opens face closed.direction rules.features.now (with_positions closed ps) i) && is_unchained b.direction (position_list b) i)
          (by_rules (ordered_line (with_positions closed ps)) i)
          ∙ (ap (λ (e : Direction). (may_break_line face d features (ordered_line (with_positions closed ps)) i && kerning_opens face e rules.features.now (with_positions closed ps) i) && is_unchained b.direction (position_list b) i) way
          ∙ (ap (λ (fs : List Feature). (may_break_line face d features (ordered_line (with_positions closed ps)) i && kerning_opens face d fs (with_positions closed ps) i) && is_unchained b.direction (position_list b) i) a.asked
          ∙ (ap (λ (c : Buffer). (may_break_line face d features (ordered_line (with_positions closed ps)) i && kerning_opens face d features (with_positions closed ps) i) && is_unchained c.direction (position_list c) i) shown_is
          ∙ ap (λ (t : Bool). (may_break_line face d features (ordered_line (with_positions closed ps)) i && kerning_opens face d features (with_positions closed ps) i) && t)
          (unchained_shown v kerned (placed_kerned face features closed) i
          ∙ ap (λ (e : Direction). is_unchained e (ordered_positions kerned) i) kerned_way))))))

      open_as : (i : ℕ) → i < length b.line
          → is_open breaks.left_open breaks.rules b.line i
          ≡ (if kerns_by_pairs face d then is_open_by_marks face d features text i else is_open_by_kerning face d features text i)
      open_as i low =
          ap (λ (o : OpenPlaces). is_open o breaks.rules b.line i) a.left_open
          ∙ by (is_unkerned face d) (kerns_by_pairs face d) refl refl
        where
          by : (t u : Bool) → is_unkerned face d ≡ t → kerns_by_pairs face d ≡ u
              → is_open (open_places face (cond t Nothing (cond u Pairs Others)) a.places) breaks.rules b.line i
              ≡ (if u then is_open_by_marks face d features text i else is_open_by_kerning face d features text i)
          by true true none pairs = absurd (true≢false (sym pairs ∙ unpaired face d features none))
          by true false none pairs = by_nothing none i
          by false true some pairs = by_pairs i
          by false false some others =
              by_kerning
              (ap (λ (t : Bool). is_told_by_glyphs (cond t Nothing (cond (kerns_by_pairs face d) Pairs Others))) some
              ∙ ap (λ (u : Bool). is_told_by_glyphs (cond u Pairs Others)) others) i low

    -- what is drawn of it
    pub drawn_so : (glyphs : List ShapedGlyph) → glyphs ≡ drawn_glyphs (may_break breaks b.line) b → glyphs ≡ shaped_text v face d features text
    drawn_so glyphs put = put ∙ by_closing a.closes refl
      where
        open_is : Bool → ℕ → Bool
        open_is t i = t && is_open breaks.left_open breaks.rules b.line i

        open_of : ℕ → Bool
        open_of i = if kerns_by_pairs face d then is_open_by_marks face d features text i else is_open_by_kerning face d features text i

        by_closing : (t : Bool) → a.closes ≡ t → drawn_glyphs (may_break breaks b.line) b ≡ shaped_text v face d features text
        by_closing true e =
            let shown_is : b ≡ shown = a.drawn_is ∙ ap (λ (u : Bool). in_processing_order (tracked_line v (zeroed (kerned_behind u)))) e in
            let rises : is_rising text ≡ true = sym a.rising ∙ e in
            let tells_as : a.tells ≡ (closed_text face d features text).is_told = a.told_is ∙ ap (λ (u : Bool). u && (closed_text face d features text).is_told) e in
            let few_as : a.few ≡ nat_lt (most_operations (length text)) (operations_left (kerned_closed face d features text).max_ops + 16384) =
            a.few_is ∙ ap (λ (u : Bool). nat_lt (most_operations (length text)) (operations_left (kerned_behind u).max_ops + 16384)) e in
            let allows : breaks.is_allowed ≡ tells_breaks face d features text =
            a.allowed ∙ (ap (λ (u : Bool). u && a.few) tells_as ∙ ap (λ (u : Bool). (closed_text face d features text).is_told && u) few_as) in
            let cuts : (j : ℕ) → j < length b.line → may_cut breaks b.line j ≡ may_cut_text face d features text j =
            λ j low.
            ap (λ (u : Bool). open_is u j) allows
            ∙ (by_telling e shown_is (tells_breaks face d features text) refl j low
            ∙ ap (λ (u : Bool). (u && tells_breaks face d features text) && open_of j) (sym rises)) in
            let plain_is : map plain b.line ≡ map plain (ordered_line (advanced_closed face d features text)) =
            ap (λ (c : Buffer). map plain c.line) shown_is
            ∙ (ap (map plain) (drawn_line_is v (kerned_closed face d features text)) ∙ kerned_plain face features closed) in
            let same : (i : ℕ) → i < length b.line → may_break breaks b.line i ≡ may_break_text face d features text i =
            λ i low.
            cuts (front_of b.line i) (omega (arith, low, front_most b.line i))
            ∙ ap (may_cut_text face d features text) (front_plain b.line (ordered_line (advanced_closed face d features text)) i plain_is) in
            drawn_same (may_break breaks b.line) (may_break_text face d features text) b same
            ∙ (ap (λ (c : Buffer). drawn_glyphs (may_break_text face d features text) c) shown_is ∙ sym (alike.drawn v face d features text))
          where
            by_telling : a.closes ≡ true → b ≡ shown → (t : Bool) → tells_breaks face d features text ≡ t → (i : ℕ) → i < length b.line → open_is t i ≡ (t && open_of i)
            by_telling e shown_is true tells i low =
                let both = and_parts (closed_text face d features text).is_told (nat_lt (most_operations (length text)) (operations_left (kerned_closed face d features text).max_ops + 16384)) tells in
                open_as e (a.told_is ∙ (ap (λ (u : Bool). u && (closed_text face d features text).is_told) e ∙ both.0)) shown_is i low
            by_telling e shown_is false tells i low = refl
        by_closing false e =
            let never : breaks.is_allowed ≡ false =
            a.allowed ∙ (ap (λ (u : Bool). u && a.few) (a.told_is ∙ ap (λ (u : Bool). u && (closed_text face d features text).is_told) e)) in
            let falls : is_rising text ≡ false = sym a.rising ∙ e in
            (λ k. drawn_glyphs (λ i. open_is (never k) (front_of b.line i)) b)
            ∙ (ap (λ (c : Buffer). drawn_glyphs (λ i. false) c) (a.drawn_is ∙ ap (λ (u : Bool). in_processing_order (tracked_line v (zeroed (kerned_behind u)))) e)
            ∙ (λ k. drawn_glyphs (λ i. (sym falls k && tells_breaks face d features text) && open_of (front_of (ordered_line (advanced_closed face d features text)) i)) (drawn_text v face d features text)))

  -- the clusters of the line of a text do not stay apart
  pub text_merges :
      (asked : List Feature) (made : Buffer) → made ≡ text_buffer face d asked text
      → clusters_stay_apart made.cluster_level ≢ true
  text_merges asked made built apart =
      true≢false (sym apart ∙ ap (λ (b : Buffer). clusters_stay_apart b.cluster_level) built)

  -- what keeps the direction of the line of a text has that of the text
  pub text_direction :
      (asked : List Feature) (made left : Buffer) → made ≡ text_buffer face d asked text
      → left.direction ≡ made.direction → left.direction ≡ d
  text_direction asked made left built kept = kept ∙ ap (λ (b : Buffer). b.direction) built

  -- whether it used the budget up
  pub used_so :
      (alike : ClosingDrawsAlike) (closes used : Bool) (left : Buffer) → used ≡ not (has_operations left)
      → left ≡ zeroed (kerned_behind closes) → used ≡ uses_up_budget face d features text
  used_so alike closes used left told is = told ∙ (ap (λ (c : Buffer). not (has_operations c)) is ∙ by_closing closes)
    where
      by_closing : (t : Bool) → not (has_operations (zeroed (kerned_behind t))) ≡ uses_up_budget face d features text
      by_closing true = ap (λ (z : ℤ). not (has_operations (record (kerned_text face d features text) { max_ops = z }))) (sym (alike.budget face d features text))
      by_closing false = refl
