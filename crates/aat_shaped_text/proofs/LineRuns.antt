-- Kerning does not look at the flags of glyphs, whatever its subtables. Pairs along the line attach nothing, and take
-- nothing of the budget.
use Rattle.std.proofs.Common.{◌≡◌, ◌∙◌, sym, ap, refl, ℕ, ◌+◌, ◌&&◌, ◌||◌, Bool, true, false, not, cond, List, [], ◌∷◌, map, fold, subst, true≢false, is_some}
use Rattle.std.proofs.lemmas.Bool.{and_parts}
use Rattle.std.specs.List.{list_all}
use Rattle.std.specs.Prelude.{Option, None}
use Rattle.aat_buffer.specs.Buffer.{Buffer, reversed}
use Rattle.aat_buffer.specs.Marks.{unsafe_to_concat}
use Rattle.aat_glyph.specs.declared.glyph.Direction.{Direction}
use Rattle.aat_font.specs.Face.{kern_in, kerx_in, tables_of}
use Rattle.aat_font.specs.declared.face.hb_font_t.{hb_font_t}
use Rattle.aat_font.specs.declared.plan.Feature.{Feature}
use Rattle.aat_kerning_tables.specs.AnchorPoints.{Points}
use Rattle.aat_kerning_tables.specs.Classes.{kerning_by_classes}
use Rattle.aat_kerning_tables.specs.declared.kern.KernKind.{KernKind}
use Rattle.aat_kerning_tables.specs.declared.kern.KernKind.TheVariants as kind
use Rattle.aat_kerning_tables.specs.declared.kern.KernSubtable.{KernSubtable}
use Rattle.aat_kerning_tables.specs.declared.kerx.KerxFormat.{KerxFormat}
use Rattle.aat_kerning_tables.specs.declared.kerx.KerxFormat.TheVariants.{Format0, Format1, Format2, Format2Classes, Format4, Format6, Format6Classes}
use Rattle.aat_kerning_tables.specs.declared.kerx.KerxSubtable.{KerxSubtable}
use Rattle.aat_run.specs.Outcome.{Outcome, untouched}
use Rattle.aat_kerning_machines.specs.Anchors.{anchor_driver}
use Rattle.aat_kerning_machines.specs.Stack.{kern_driver, kerx_driver}
use Rattle.aat_kerning.specs.PairKerning.{value_of}
use Rattle.aat_kerning.specs.Pairs.{kern_skips, kerx_skips}
use Rattle.aat_kerning.specs.Positioning.{Kerning, Positioned, cursively_attached, in_processing_order, is_for_direction, is_kern_pairs, is_kerx_pairs, is_turned_round, kern_positioning, kerning_of_kern_subtable, kerning_of_kerx_subtable, kerx_positioning, positioned, positioning, run_of_kern_subtable, run_of_kerx_subtable, run_turned_round}
use Rattle.aat_closing.specs.Unflagged.{erased}
use Rattle.aat_closing.specs.facts.BlindBuffers.{erased_reversed}
use Rattle.aat_shaped_text.specs.Breaks.{kerns_apart, kerns_pairs_along}
use Rattle.aat_shaped_text.specs.ShapedText.{text_kerning}
use Rattle.aat_shaped_text.specs.TextFeatures.{requests_kerning}
use Rattle.aat_shaped_text.proofs.AnchorsBlind.{anchors_unseeing}
use Rattle.aat_shaped_text.proofs.KernedApart.{IsPlainFrom, ordered_plain, pair_kerning_plain, plain_same, plain_then}
use Rattle.aat_shaped_text.proofs.KernedBlind.{erased_concat, ordered_alike, pair_kerning_alike}
use Rattle.aat_shaped_text.proofs.StackRuns.{kern_unseeing, kerx_unseeing, run_unseeing}

-- what is left of buffers that are the same but for flags is the same but for flags
abbrev pub LeavesAlike : (Buffer → Buffer) → Type 0
LeavesAlike left = (a b : Buffer) → erased a ≡ erased b → erased (left a) ≡ erased (left b)

-- over the line turned round
reversed_alike : LeavesAlike reversed
reversed_alike a b same = erased_reversed a ∙ (ap reversed same ∙ sym (erased_reversed b))

turned_alike : (t : Bool) (run : Buffer → Outcome) → LeavesAlike (λ b. (run b).buffer) → LeavesAlike (λ b. (run_turned_round t run b).buffer)
turned_alike false run alike = alike
turned_alike true run alike =
    λ a b same. reversed_alike (run (reversed a)).buffer (run (reversed b)).buffer (alike (reversed a) (reversed b) (reversed_alike a b same))

-- the runs of subtables
kerx_alike :
    (points : Option Points) (cross last : Bool) (tuple : ℕ) (format : KerxFormat)
    → LeavesAlike (λ b. (run_turned_round (is_turned_round last format) (run_of_kerx_subtable 8 points cross tuple format) b).buffer)
kerx_alike points cross last tuple (Format0 listed) = pair_kerning_alike false cross kerx_skips (value_of listed)
kerx_alike points cross last tuple (Format1 s) =
    turned_alike last (run_of_kerx_subtable 8 points cross tuple (Format1 s))
    (run_unseeing false s.state_table (kerx_driver cross 8 tuple s.values) (kerx_unseeing cross tuple s.values))
kerx_alike points cross last tuple (Format2 listed) = pair_kerning_alike true cross kerx_skips (value_of listed)
kerx_alike points cross last tuple (Format2Classes classes) = pair_kerning_alike true cross kerx_skips (kerning_by_classes classes)
kerx_alike points cross last tuple (Format4 s) =
    turned_alike last (run_of_kerx_subtable 8 points cross tuple (Format4 s))
    (run_unseeing false s.state_table (anchor_driver points s.anchor_points) (anchors_unseeing points s.anchor_points))
kerx_alike points cross last tuple (Format6 listed) = pair_kerning_alike false cross kerx_skips (value_of listed)
kerx_alike points cross last tuple (Format6Classes classes) = pair_kerning_alike false cross kerx_skips (kerning_by_classes classes)

kern_alike : (cross : Bool) (kind : KernKind) → LeavesAlike (λ b. (run_of_kern_subtable 8 cross kind b).buffer)
kern_alike cross (kind.Pairs listed) = pair_kerning_alike true cross kern_skips (value_of listed)
kern_alike cross (kind.Classes classes) = pair_kerning_alike true cross kern_skips (kerning_by_classes classes)
kern_alike cross (kind.Machine s) = run_unseeing true s.state_table (kern_driver cross 8 s.values) (kern_unseeing cross s.values)

-- What a subtable leaves of a line in processing order, by whether it is for the text, whether it attaches all glyphs
-- first, and whether its run is left out.
abbrev before_run : Bool → Buffer → Buffer
before_run attaches b = cond attaches (cursively_attached b) b

abbrev step_left : Bool → Bool → Bool → (Buffer → Outcome) → Buffer → Buffer
step_left for attaches skips run b = cond for (cond skips (before_run attaches b) (run (before_run attaches b)).buffer) b

abbrev attaches_all : Kerning → Positioned → Bool
attaches_all k s = k.has_cross_stream && not s.is_attached

module _ (requested : Bool) (k : Kerning) where
  step_is : (s : Positioned)
      → (positioned requested k s).buffer
      ≡ step_left (is_for_direction k s.buffer.direction) (attaches_all k s) (k.is_pairs && not requested) k.run s.buffer
  unfolding positioned
  step_is s = by (is_for_direction k s.buffer.direction) (k.is_pairs && not requested)
    where
      b : Buffer
      b = before_run (attaches_all k s) s.buffer

      by : (for skips : Bool)
          → (cond for (record { buffer = (cond skips (untouched b) (k.run b)).buffer; turns = s.turns + (cond skips (untouched b) (k.run b)).turns; is_attached = s.is_attached || k.has_cross_stream }) s).buffer
          ≡ cond for (cond skips b (k.run b).buffer) s.buffer
      by true true = refl
      by true false = refl
      by false skips = refl

  attached_is : (s : Positioned)
      → (positioned requested k s).is_attached ≡ cond (is_for_direction k s.buffer.direction) (s.is_attached || k.has_cross_stream) s.is_attached
  unfolding positioned
  attached_is s =
      let b = before_run (attaches_all k s) s.buffer in
      let o = cond (k.is_pairs && not requested) (untouched b) (k.run b) in
      by (is_for_direction k s.buffer.direction) (record { buffer = o.buffer; turns = s.turns + o.turns; is_attached = s.is_attached || k.has_cross_stream })
    where
      by : (for : Bool) (t : Positioned) → (cond for t s).is_attached ≡ cond for t.is_attached s.is_attached
      by true t = refl
      by false t = refl

step_alike : (run : Buffer → Outcome) → LeavesAlike (λ b. (run b).buffer) → (for attaches skips : Bool) → LeavesAlike (step_left for attaches skips run)
step_alike run alike false attaches skips = λ a b same. same
step_alike run alike true true true = λ a b same. ap cursively_attached same
step_alike run alike true true false = λ a b same. alike (cursively_attached a) (cursively_attached b) (ap cursively_attached same)
step_alike run alike true false true = λ a b same. same
step_alike run alike true false false = alike

-- two states of positioning that are the same but for flags and turns
record AreAlike (s t : Positioned) : Type 0 where
  pub buffer : erased s.buffer ≡ erased t.buffer
  pub attached : s.is_attached ≡ t.is_attached

positioned_alike :
    (requested : Bool) (k : Kerning) → LeavesAlike (λ b. (k.run b).buffer) → (s t : Positioned) → AreAlike s t
    → AreAlike (positioned requested k s) (positioned requested k t)
positioned_alike requested k alike s t same =
    let direction : s.buffer.direction ≡ t.buffer.direction = ap (λ (b : Buffer). b.direction) same.buffer in
    let skips = k.is_pairs && not requested in
    let tests : step_left (is_for_direction k s.buffer.direction) (attaches_all k s) skips k.run t.buffer
    ≡ step_left (is_for_direction k t.buffer.direction) (attaches_all k t) skips k.run t.buffer =
    λ i. step_left (is_for_direction k (direction i)) (k.has_cross_stream && not (same.attached i)) skips k.run t.buffer in
    let attached : cond (is_for_direction k s.buffer.direction) (s.is_attached || k.has_cross_stream) s.is_attached
    ≡ cond (is_for_direction k t.buffer.direction) (t.is_attached || k.has_cross_stream) t.is_attached =
    λ i. cond (is_for_direction k (direction i)) (same.attached i || k.has_cross_stream) (same.attached i) in
    record {
      buffer =
          ap erased (step_is requested k s)
          ∙ (step_alike k.run alike (is_for_direction k s.buffer.direction) (attaches_all k s) skips s.buffer t.buffer same.buffer
          ∙ (ap erased tests ∙ ap erased (sym (step_is requested k t))));
      attached = attached_is requested k s ∙ (attached ∙ sym (attached_is requested k t));
    }

module _ {X : Type 0} (h : X → Kerning) (requested : Bool) where
  module _ (alike : (x : X) → LeavesAlike (λ b. ((h x).run b).buffer)) where
    all_alike : (xs : List X) (s t : Positioned) → AreAlike s t
        → AreAlike (fold (λ s k. positioned requested k s) s (map h xs)) (fold (λ s k. positioned requested k s) t (map h xs))
    all_alike [] s t same = same
    all_alike (x ∷ xs) s t same =
        all_alike xs (positioned requested (h x) s) (positioned requested (h x) t) (positioned_alike requested (h x) (alike x) s t same)

    positioning_alike : (xs : List X) → LeavesAlike (λ b. (positioning requested (map h xs) b).buffer)
    unfolding positioning
    positioning_alike xs a b same =
        let before : Buffer → Positioned = λ c. record { buffer = in_processing_order c; turns = 0; is_attached = false } in
        let left : Buffer → Positioned = λ c. fold (λ s k. positioned requested k s) (before c) (map h xs) in
        ordered_alike (left a).buffer (left b).buffer
        (all_alike xs (before a) (before b) (record { buffer = ordered_alike a b same; attached = refl })).buffer

  -- pairs along the line
  module _ (d : Direction) (plain : (x : X) → ((h x).is_pairs && not (h x).has_cross_stream) ≡ true → (b : Buffer) → IsPlainFrom b ((h x).run b).buffer) where
    positioned_plain : (x : X) (s : Positioned) → kerns_pairs_along d (h x) ≡ true → s.buffer.direction ≡ d → IsPlainFrom s.buffer (positioned requested (h x) s).buffer
    positioned_plain x s along is =
        subst (IsPlainFrom s.buffer)
        (sym (step_is requested (h x) s ∙ ap (λ (e : Direction). step_left (is_for_direction (h x) e) (attaches_all (h x) s) skipped (h x).run s.buffer) is))
        (by (is_for_direction (h x) d) (h x).has_cross_stream along (plain x) skipped)
      where
        skipped : Bool
        skipped = (h x).is_pairs && not requested

        by : (for cross : Bool) → (not for || ((h x).is_pairs && not cross)) ≡ true
            → (((h x).is_pairs && not cross) ≡ true → (b : Buffer) → IsPlainFrom b ((h x).run b).buffer) → (skips : Bool)
            → IsPlainFrom s.buffer (step_left for (cross && not s.is_attached) skips (h x).run s.buffer)
        by false cross along plain skips = plain_same s.buffer
        by true true along plain skips = absurd (true≢false (sym (and_parts (h x).is_pairs false along).1))
        by true false along plain true = plain_same s.buffer
        by true false along plain false = plain along s.buffer

    all_plain : (xs : List X) (s : Positioned) → list_all (kerns_pairs_along d) (map h xs) ≡ true → s.buffer.direction ≡ d
        → IsPlainFrom s.buffer (fold (λ s k. positioned requested k s) s (map h xs)).buffer
    all_plain [] s all is = plain_same s.buffer
    all_plain (x ∷ xs) s all is =
        let both = and_parts (kerns_pairs_along d (h x)) (list_all (kerns_pairs_along d) (map h xs)) all in
        let t = positioned requested (h x) s in
        let first = positioned_plain x s both.0 is in
        plain_then s.buffer t.buffer (fold (λ s k. positioned requested k s) t (map h xs)).buffer first (all_plain xs t both.1 (first.direction ∙ is))

    positioning_plain : (xs : List X) (b : Buffer) → list_all (kerns_pairs_along d) (map h xs) ≡ true → b.direction ≡ d
        → IsPlainFrom b (positioning requested (map h xs) b).buffer
    unfolding positioning
    positioning_plain xs b all is =
        let before : Positioned = record { buffer = in_processing_order b; turns = 0; is_attached = false } in
        let left = (fold (λ s k. positioned requested k s) before (map h xs)).buffer in
        let ordered = ordered_plain b in
        plain_then b before.buffer (in_processing_order left) ordered
        (plain_then before.buffer left (in_processing_order left) (all_plain xs before all (ordered.direction ∙ is)) (ordered_plain left))

-- texts that are the same but for flags are kerned alike
pub text_blind : (face : hb_font_t) (features : List Feature) → LeavesAlike (λ b. (text_kerning face features b).buffer)
unfolding kerx_positioning kern_positioning
text_blind face features a b same = by (is_some (tables_of face).kerx)
  where
    requested : Bool
    requested = requests_kerning features

    points : Option Points
    points = (tables_of face).ankr

    by_kerx : Buffer → Outcome
    by_kerx c = kerx_positioning requested 8 points (kerx_in (tables_of face).kerx) c

    by_kern : Buffer → Outcome
    by_kern c = kern_positioning requested 8 (kern_in (tables_of face).kern) c

    by : (t : Bool) → erased (cond t (by_kerx a) (by_kern a)).buffer ≡ erased (cond t (by_kerx b) (by_kern b)).buffer
    by true =
        positioning_alike (kerning_of_kerx_subtable 8 points) requested
        (λ s. kerx_alike points s.has_cross_stream s.is_last_to_first s.tuple_count s.format) (kerx_in (tables_of face).kerx)
        (unsafe_to_concat a None None) (unsafe_to_concat b None None) (erased_concat a ∙ (same ∙ sym (erased_concat b)))
    by false =
        positioning_alike (kerning_of_kern_subtable 8) requested (λ s. kern_alike s.has_cross_stream s.kind) (kern_in (tables_of face).kern)
        a b same

-- the runs of pairs along the line
kerx_plain :
    (points : Option Points) (cross last : Bool) (tuple : ℕ) (format : KerxFormat) → (is_kerx_pairs format && not cross) ≡ true → (b : Buffer)
    → IsPlainFrom b (run_turned_round (is_turned_round last format) (run_of_kerx_subtable 8 points cross tuple format) b).buffer
kerx_plain points true last tuple format pairs b = absurd (true≢false (sym (and_parts (is_kerx_pairs format) false pairs).1))
kerx_plain points false last tuple (Format0 listed) pairs b = pair_kerning_plain false kerx_skips 8 (value_of listed) b
kerx_plain points false last tuple (Format1 s) pairs b = absurd (true≢false (sym pairs))
kerx_plain points false last tuple (Format2 listed) pairs b = pair_kerning_plain true kerx_skips 8 (value_of listed) b
kerx_plain points false last tuple (Format2Classes classes) pairs b = pair_kerning_plain true kerx_skips 8 (kerning_by_classes classes) b
kerx_plain points false last tuple (Format4 s) pairs b = absurd (true≢false (sym pairs))
kerx_plain points false last tuple (Format6 listed) pairs b = pair_kerning_plain false kerx_skips 8 (value_of listed) b
kerx_plain points false last tuple (Format6Classes classes) pairs b = pair_kerning_plain false kerx_skips 8 (kerning_by_classes classes) b

kern_plain : (cross : Bool) (kind : KernKind) → (is_kern_pairs kind && not cross) ≡ true → (b : Buffer) → IsPlainFrom b (run_of_kern_subtable 8 cross kind b).buffer
kern_plain true kind pairs b = absurd (true≢false (sym (and_parts (is_kern_pairs kind) false pairs).1))
kern_plain false (kind.Pairs listed) pairs b = pair_kerning_plain true kern_skips 8 (value_of listed) b
kern_plain false (kind.Classes classes) pairs b = pair_kerning_plain true kern_skips 8 (kerning_by_classes classes) b
kern_plain false (kind.Machine s) pairs b = absurd (true≢false (sym pairs))

-- where kerning is of pairs along the line alone, nothing is attached, and nothing is taken of the budget
pub text_plain : (face : hb_font_t) (d : Direction) (features : List Feature) → kerns_apart face d ≡ true → (b : Buffer) → b.direction ≡ d
    → IsPlainFrom b (text_kerning face features b).buffer
unfolding kerx_positioning kern_positioning
text_plain face d features apart b is = by (is_some (tables_of face).kerx) apart
  where
    requested : Bool
    requested = requests_kerning features

    points : Option Points
    points = (tables_of face).ankr

    kerxs : List KerxSubtable
    kerxs = kerx_in (tables_of face).kerx

    kerns : List KernSubtable
    kerns = kern_in (tables_of face).kern

    by : (t : Bool) → list_all (kerns_pairs_along d) (cond t (map (kerning_of_kerx_subtable 8 points) kerxs) (map (kerning_of_kern_subtable 8) kerns)) ≡ true
        → IsPlainFrom b (cond t (kerx_positioning requested 8 points kerxs b) (kern_positioning requested 8 kerns b)).buffer
    by true all =
        let marked : Buffer = unsafe_to_concat b None None in
        let left =
        positioning_plain (kerning_of_kerx_subtable 8 points) requested d
        (λ s. kerx_plain points s.has_cross_stream s.is_last_to_first s.tuple_count s.format) kerxs marked all is in
        record { direction = left.direction; budget = left.budget; plain = left.plain }
    by false all = positioning_plain (kerning_of_kern_subtable 8) requested d (λ s. kern_plain s.has_cross_stream s.kind) kerns b all is
