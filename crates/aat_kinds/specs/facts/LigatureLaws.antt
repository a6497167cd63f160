-- The laws of the ligature act.
use Rattle.std.proofs.Common.{◌≡◌, ◌≢◌, ◌⊎◌, inl, inr, zero, suc, ℕ, ◌+◌, ◌-◌, ◌%◌, ◌<◌, ◌≤◌, ◌&&◌, ◌==◌, pos, ◌+ℤ◌, List, length, IsTrue, Option, Some, None, refl, sym, ap, ◌∙◌, arith, nat_lt, length-set, get_or, set, get_or-set_same, get_or-set_other}
use Rattle.std.proofs.lemmas.Bool.{cases_eq}
use Rattle.std.specs.Prelude.{slice_get, slice_set, All}
use Rattle.std.proofs.lemmas.List.Elements.{All-set}
use Rattle.std.proofs.lemmas.Option.{get_or_from_slice_get, slice_get_within}
use Rattle.std.proofs.lemmas.List.{length-map, length-replicate, get_or-map}
use Rattle.aat_buffer.specs.Buffer.{Buffer, Is16Bit, glyph_at, no_glyph}
use Rattle.aat_buffer.specs.Marks.{merge_out_clusters, with_line, cluster_at}
use Rattle.aat_buffer.specs.Clusters.{IsSmall, ids}
use Rattle.aat_glyph.specs.declared.glyph.hb_glyph_info_t.{hb_glyph_info_t}
use Rattle.aat_lookup.specs.declared.glyph_id.GlyphId.{GlyphId}
use Rattle.aat_machine_tables.specs.declared.state_table.GenericStateEntry.{GenericStateEntry}
use Rattle.aat_machine_tables.specs.Entries.{has_flag}
use Rattle.aat_run.specs.Context.{Moved}
use Rattle.aat_run.specs.Laws.{KeepsFit, PassesFit, FitsFresh, Pays, Bounded, Lengthens, KeepsLength, KeepsCursor, MakesNoPositions, KeepsSettings, SameSettings}
use Rattle.aat_kinds.specs.Ligature.{Registers, IsFit, fresh, component, with_place_held, with_component, act, ligated, component_step, summed, stored_by, stored, later_deleted, deleted_at, deleted, with_ligature, Step, Stops, GoesOn, is_last, is_store, offset_of, element_at}
use Rattle.aat_run.specs.facts.InPlace.{Keeps, KeepsAll, pays_in_place, bounded_in_place, lengthens_in_place}
use Rattle.aat_buffer.specs.facts.Cases.{chosen}
use Rattle.aat_buffer.specs.facts.Ids.{ids_of_merge_out}
use Rattle.aat_buffer.specs.facts.Lines.{length_merge_out, of_merge_out}

-- what holds of what one component leaves
unfoldable pub OnStep : (Moved Registers → Type 0) → Step → Type 0
OnStep Q (Stops d) = Q d
OnStep Q (GoesOn sum d) = Q d

-- the same slots, and no more components than so many
pub record SameSlots (held : List ℕ) (most : ℕ) (r : Registers) : Type 0 where
  pub slots : r.slots ≡ held
  pub count : r.count ≤ most

pub fits_fresh : (size : ℕ) → 0 < size → FitsFresh IsFit (fresh size)
fits_fresh size some n = record { some = rw (length-replicate {A = ℕ} size 0) some; within = λ j below. absurd (omega arith) }

pub passes_fit : PassesFit IsFit
passes_fit r p n fit below = record { some = fit.some; within = fit.within }

-- a push keeps the fit, where its place is one of the line
component_of_push : (slots : List ℕ) (k j p n : ℕ) → 0 < length slots → p < n → (j ≢ k → get_or slots (j % length slots) 0 < n) → get_or (set slots (k % length slots) p) (j % length slots) 0 < n
component_of_push slots k j p n some below before = by_place (cases_eq (j % length slots) (k % length slots))
  where
    by_place : ((j % length slots) ≡ (k % length slots)) ⊎ ((j % length slots) ≢ (k % length slots)) → get_or (set slots (k % length slots) p) (j % length slots) 0 < n
    by_place (inl same) = rw (same, get_or-set_same slots (k % length slots) p 0 (grind (arith, some))) below
    by_place (inr other) = rw (get_or-set_other slots (k % length slots) (j % length slots) p 0 other) (before (λ e. other (ap (λ x. x % length slots) e)))

fit_of_push : (r : Registers) (p n q m : ℕ) → IsFit r q n → p < n → IsFit (with_place_held r p) m n
fit_of_push r p n q m fit below =
    chosen (λ s. IsFit s m n) (nat_lt 0 r.count && (component r (r.count - 1) == p)) r (record { count = r.count + 1; slots = slice_set r.slots (r.count % length r.slots) p })
    (λ _. record { some = fit.some; within = fit.within })
    (λ _. record {
      some = rw (length-set r.slots (r.count % length r.slots) p) fit.some;
      within = λ j le. rw (length-set r.slots (r.count % length r.slots) p) (component_of_push r.slots r.count j p n fit.some below (λ other. fit.within j (omega (arith, other, le))));
    })

pub fit_of_component : (e : GenericStateEntry ℕ) (r : Registers) (p n q m : ℕ) → IsFit r q n → p < n → IsFit (with_component e r p) m n
fit_of_component e r p n q m fit below =
    chosen (λ s. IsFit s m n) (has_flag e 0x8000) (with_place_held r p) r (λ _. fit_of_push r p n q m fit below) (λ _. record { some = fit.some; within = fit.within })

-- fewer components in the same slots fit as well
pub fit_of_fewer : (held : List ℕ) (most : ℕ) (r s : Registers) (p q n : ℕ) → IsFit r p n → r.slots ≡ held → r.count ≡ most → SameSlots held most s → IsFit s q n
fit_of_fewer held most r s p q n fit is_held is_most same =
    let e : s.slots ≡ r.slots = same.slots ∙ sym is_held in
    record { some = rw e fit.some; within = λ j le. rw e (fit.within j (omega (arith, le, same.count, is_most))) }

-- where two lines have the same ids, so have their glyphs at each place
id_of_ids : (gs hs : List hb_glyph_info_t) → ids hs ≡ ids gs → (k : ℕ) (d : hb_glyph_info_t) → k < length hs → (get_or hs k d).glyph_id ≡ (get_or gs k d).glyph_id
id_of_ids gs hs same k d low =
    let id : hb_glyph_info_t → ℕ = λ g. g.glyph_id in
    let long : length hs ≡ length gs = sym (length-map hs id) ∙ (ap length same ∙ length-map gs id) in
    sym (get_or-map id hs k d 0 low) ∙ (ap (λ xs. get_or xs k 0) same ∙ get_or-map id gs k d 0 (omega (arith, low, long)))

pub small_of_merge_out : (b : Buffer) (i j : ℕ) → IsSmall b → IsSmall (merge_out_clusters b i j)
small_of_merge_out b i j small k d low =
    let same = id_of_ids b.line (merge_out_clusters b i j).line (ids_of_merge_out b i j) k d low in
    omega (arith, same, small k d (omega (arith, low, length_merge_out b i j)))

-- whose id is that of the deleted glyph is deleted
pub deleted_by_id : (id : ℕ) → id ≡ 0xFFFF → IsTrue (id == 0xFFFF)
deleted_by_id id same = rw same refl

-- a deleted glyph stays deleted where others are
kept_deleted : (r : Registers) (c n p : ℕ) (line : List hb_glyph_info_t) → p < length line → (glyph_at line p).glyph_id ≡ 0xFFFF → (glyph_at (later_deleted r c n line) p).glyph_id ≡ 0xFFFF
unfolding later_deleted
kept_deleted r c zero p line inside is = is
kept_deleted r c (suc n) p line inside is =
    let i = component r (c + suc n) in
    kept_deleted r c n p (deleted_at i line) (omega (arith, inside, length-set line i (deleted (glyph_at line i)))) (by_place (cases_eq p i))
  where
    by_place : (p ≡ component r (c + suc n)) ⊎ (p ≢ component r (c + suc n)) → (glyph_at (deleted_at (component r (c + suc n)) line) p).glyph_id ≡ 0xFFFF
    by_place (inl same) = rw (← same) (ap (λ (g : hb_glyph_info_t). g.glyph_id) (get_or-set_same line p (deleted (glyph_at line p)) no_glyph inside))
    by_place (inr other) = ap (λ (g : hb_glyph_info_t). g.glyph_id) (get_or-set_other line (component r (c + suc n)) p (deleted (glyph_at line (component r (c + suc n)))) no_glyph other) ∙ is

length_later : (r : Registers) (c n : ℕ) (line : List hb_glyph_info_t) → length (later_deleted r c n line) ≡ length line
unfolding later_deleted
length_later r c zero line = refl
length_later r c (suc n) line =
    let i = component r (c + suc n) in
    length_later r c n (deleted_at i line) ∙ length-set line i (deleted (glyph_at line i))

later_are_deleted : (r : Registers) (c n j : ℕ) (line : List hb_glyph_info_t) → c < j → j ≤ c + n → ((i : ℕ) → i ≤ c + n → component r i < length line) → (glyph_at (later_deleted r c n line) (component r j)).glyph_id ≡ 0xFFFF
unfolding later_deleted
later_are_deleted r c zero j line low high within = absurd (omega (arith, low, high))
later_are_deleted r c (suc n) j line low high within =
    let i = component r (c + suc n) in
    let same : length (deleted_at i line) ≡ length line = length-set line i (deleted (glyph_at line i)) in
    by_place (cases_eq j (c + suc n))
    (λ other. later_are_deleted r c n j (deleted_at i line) low (omega (arith, high, other)) (λ k few. omega (arith, same, within k (omega (arith, few)))))
  where
    by_place : (j ≡ c + suc n) ⊎ (j ≢ c + suc n) → (j ≢ c + suc n → (glyph_at (later_deleted r c n (deleted_at (component r (c + suc n)) line)) (component r j)).glyph_id ≡ 0xFFFF)
        → (glyph_at (later_deleted r c n (deleted_at (component r (c + suc n)) line)) (component r j)).glyph_id ≡ 0xFFFF
    by_place (inl newest) more =
        let i = component r (c + suc n) in
        let g = deleted (glyph_at line i) in
        let inside : i < length line = within (c + suc n) (omega arith) in
        rw newest (kept_deleted r c n i (deleted_at i line) (omega (arith, inside, length-set line i g)) (ap (λ (x : hb_glyph_info_t). x.glyph_id) (get_or-set_same line i g no_glyph inside)))
    by_place (inr other) more = more other

-- once a ligature is stored, each later component is the deleted glyph
pub stored_deletes : (c g : ℕ) (r : Registers) (b : Buffer) (p j : ℕ) → IsFit r p (length b.line) → c < j → j < r.count → (glyph_at (stored c g r b).buffer.line (component r j)).glyph_id ≡ 0xFFFF
unfolding stored
stored_deletes c g r b p j fit low high =
    let u = component r c in
    let e = component r (r.count - 1) + 1 in
    let line = with_ligature u g b.line in
    let d = with_line b (later_deleted r c (r.count - 1 - c) line) in
    let long : length line ≡ length b.line = length-set b.line u (record (glyph_at b.line u) { glyph_id = g }) in
    let later : length d.line ≡ length line = length_later r c (r.count - 1 - c) line in
    let is = later_are_deleted r c (r.count - 1 - c) j line low (omega (arith, low, high)) (λ i few. omega (arith, long, fit.within i (omega (arith, few, low, high)))) in
    chosen (λ (x : Buffer). (glyph_at x.line (component r j)).glyph_id ≡ 0xFFFF) (nat_lt u e) (merge_out_clusters d u e) d
    (λ _. id_of_ids d.line (merge_out_clusters d u e).line (ids_of_merge_out d u e) (component r j) no_glyph (omega (arith, long, later, length_merge_out d u e, fit.within j high)) ∙ is) (λ _. is)

-- a deleted glyph stays deleted behind a store, unless the ligature is written there
pub stored_keeps_deleted : (c g : ℕ) (r : Registers) (b : Buffer) (p : ℕ) → p < length b.line → p ≢ component r c → (glyph_at b.line p).glyph_id ≡ 0xFFFF → (glyph_at (stored c g r b).buffer.line p).glyph_id ≡ 0xFFFF
unfolding stored
stored_keeps_deleted c g r b p inside other is =
    let u = component r c in
    let e = component r (r.count - 1) + 1 in
    let ligature = record (glyph_at b.line u) { glyph_id = g } in
    let line = with_ligature u g b.line in
    let d = with_line b (later_deleted r c (r.count - 1 - c) line) in
    let long : length line ≡ length b.line = length-set b.line u ligature in
    let later : length d.line ≡ length line = length_later r c (r.count - 1 - c) line in
    let before : (glyph_at line p).glyph_id ≡ 0xFFFF = ap (λ (x : hb_glyph_info_t). x.glyph_id) (get_or-set_other b.line u p ligature no_glyph other) ∙ is in
    let stays = kept_deleted r c (r.count - 1 - c) p line (omega (arith, inside, long)) before in
    chosen (λ (x : Buffer). (glyph_at x.line p).glyph_id ≡ 0xFFFF) (nat_lt u e) (merge_out_clusters d u e) d
    (λ _. id_of_ids d.line (merge_out_clusters d u e).line (ids_of_merge_out d u e) p no_glyph (omega (arith, long, later, length_merge_out d u e, inside)) ∙ stays) (λ _. stays)

-- a store keeps the number of glyphs
pub length_of_stored : (c g : ℕ) (r : Registers) (b : Buffer) → length (stored c g r b).buffer.line ≡ length b.line
unfolding stored
length_of_stored c g r b =
    let u = component r c in
    let e = component r (r.count - 1) + 1 in
    let line = with_ligature u g b.line in
    let d = with_line b (later_deleted r c (r.count - 1 - c) line) in
    let same : length d.line ≡ length b.line = length_later r c (r.count - 1 - c) line ∙ length-set b.line u (record (glyph_at b.line u) { glyph_id = g }) in
    chosen (λ (x : Buffer). length x.line ≡ length b.line) (nat_lt u e) (merge_out_clusters d u e) d (λ _. length_merge_out d u e ∙ same) (λ _. same)

module _ (actions values : List ℕ) (ligatures : List GlyphId) where
  -- what stores of the list's ligatures and an emptied stack keep, the taking in of components keeps; c is below the
  -- number held at first
  module _ (most : ℕ) (Is : ℕ → Type 0) (all : (i : ℕ) (g : GlyphId) → slice_get ligatures i ≡ Some g → Is g.0) (Q : Moved Registers → Type 0)
      (on_store : (c g : ℕ) (n : Moved Registers) → Is g → c < most → Q n → Q (stored c g n.registers n.buffer))
      (on_none : (n : Moved Registers) → Q n → Q (record n { registers = record n.registers { count = 0 } }))
    where
      of_stored_by : (action c sum : ℕ) (o : Option GlyphId) (n : Moved Registers) → ((g : GlyphId) → o ≡ Some g → Is g.0) → c < most → Q n → OnStep Q (stored_by actions values ligatures action c sum o n)
      unfolding OnStep
      of_stored_by action c sum None n is low q = q
      of_stored_by action c sum (Some g) n is low q =
          chosen (OnStep Q) (is_last action) (Stops (stored c g.0 n.registers n.buffer)) (GoesOn sum (stored c g.0 n.registers n.buffer)) (λ _. on_store c g.0 n (is g refl) low q) (λ _. on_store c g.0 n (is g refl) low q)

      of_summed : (action c sum : ℕ) (o : Option ℕ) (n : Moved Registers) → c < most → Q n → OnStep Q (summed actions values ligatures action c sum o n)
      unfolding OnStep
      of_summed action c sum None n low q = q
      of_summed action c sum (Some value) n low q =
          chosen (OnStep Q) (is_store action) (stored_by actions values ligatures action c (sum + value) (slice_get ligatures (sum + value)) n) (GoesOn (sum + value) n)
          (λ _. of_stored_by action c (sum + value) (slice_get ligatures (sum + value)) n (all (sum + value)) low q) (λ _. q)

      of_taken : (o : Option ℕ) (c sum : ℕ) (n : Moved Registers) → c < most → Q n → OnStep Q (component_step actions values ligatures o c sum n)
      unfolding component_step OnStep
      of_taken None c sum n low q = q
      of_taken (Some action) c sum n low q =
          of_summed action c sum (element_at values (pos (glyph_at n.buffer.line (component n.registers c)).glyph_id +ℤ offset_of action)) n low q

      of_step : (t : Step) (more : ℕ → Moved Registers → Moved Registers) → OnStep Q t → ((sum : ℕ) (d : Moved Registers) → Q d → Q (more sum d)) → Q (elim t [ Stops d ↦ d | GoesOn sum d ↦ more sum d ])
      unfolding OnStep
      of_step (Stops d) more q f = q
      of_step (GoesOn sum d) more q f = f sum d q

      pub of_ligated : (c a sum : ℕ) (n : Moved Registers) → c ≤ most → Q n → Q (ligated actions values ligatures c a sum n)
      unfolding ligated
      of_ligated zero a sum n low q = on_none n q
      of_ligated (suc c) a sum n low q =
          of_step (component_step actions values ligatures (slice_get actions a) c sum n) (λ more d. ligated actions values ligatures c (a + 1) more d)
          (of_taken (slice_get actions a) c sum n (omega (arith, low)) q) (λ more d p. of_ligated c (a + 1) more d (omega (arith, low)) p)

  -- a property of buffers that a merge keeps, and a write of one glyph of the list's ligatures, or of the deleted
  -- one, that keeps the cluster
  module _ (Is : ℕ → Type 0) (all : (i : ℕ) (g : GlyphId) → slice_get ligatures i ≡ Some g → Is g.0) (of_deleted : Is 0xFFFF) (P : Buffer → Type 0)
      (on_set : (d : Buffer) (i : ℕ) (g : hb_glyph_info_t) → Is g.glyph_id → g.cluster ≡ cluster_at d.line i → P d → P (with_line d (slice_set d.line i g)))
      (on_merge : (d : Buffer) (i j : ℕ) → P d → P (merge_out_clusters d i j))
    where
      of_later : (r : Registers) (c n : ℕ) (b : Buffer) (line : List hb_glyph_info_t) → P (with_line b line) → P (with_line b (later_deleted r c n line))
      unfolding later_deleted
      of_later r c zero b line p = p
      of_later r c (suc n) b line p =
          of_later r c n b (deleted_at (component r (c + suc n)) line) (on_set (with_line b line) (component r (c + suc n)) (deleted (glyph_at line (component r (c + suc n)))) of_deleted refl p)

      of_stored : (c g : ℕ) (r : Registers) (b : Buffer) → Is g → P b → P (stored c g r b).buffer
      unfolding stored
      of_stored c g r b is p =
          let u = component r c in
          let e = component r (r.count - 1) + 1 in
          let d = with_line b (later_deleted r c (r.count - 1 - c) (with_ligature u g b.line)) in
          let made : P d = of_later r c (r.count - 1 - c) b (with_ligature u g b.line) (on_set b u (record (glyph_at b.line u) { glyph_id = g }) is refl p) in
          chosen P (nat_lt u e) (merge_out_clusters d u e) d (λ _. on_merge d u e made) (λ _. made)

      pub of_act_within : (e : GenericStateEntry ℕ) (r : Registers) (b : Buffer) → P b → P (act actions values ligatures e r b).buffer
      unfolding act
      of_act_within e r b p =
          let s = with_component e r b.cursor in
          chosen (λ (n : Moved Registers). P n.buffer) (has_flag e 0x2000 && nat_lt b.cursor (length b.line)) (ligated actions values ligatures s.count e.extra 0 (record { registers = s; buffer = b })) (record { registers = s; buffer = b })
          (λ _. of_ligated s.count Is all (λ n. P n.buffer) (λ c g n is low q. of_stored c g n.registers n.buffer is q) (λ n q. q) s.count e.extra 0 (record { registers = s; buffer = b }) (omega arith) p) (λ _. p)

  -- a property that each write of one glyph with the cluster of its place keeps
  pub of_act : (P : Buffer → Type 0) → ((d : Buffer) (i : ℕ) (g : hb_glyph_info_t) → g.cluster ≡ cluster_at d.line i → P d → P (with_line d (slice_set d.line i g))) → ((d : Buffer) (i j : ℕ) → P d → P (merge_out_clusters d i j))
      → (e : GenericStateEntry ℕ) (r : Registers) (b : Buffer) → P b → P (act actions values ligatures e r b).buffer
  of_act P on_set on_merge e r b p = of_act_within (λ _. Unit {0}) (λ i g got. tt) tt P (λ d i g is same q. on_set d i g same q) on_merge e r b p

  -- where each ligature has 16 bits, an act leaves glyph ids of 16 bits
  pub keeps_small : All (λ (g : GlyphId). g.0 ≤ 0xFFFF) ligatures → (e : GenericStateEntry ℕ) (r : Registers) (b : Buffer) → IsFit r b.cursor (length b.line) → IsSmall b → IsSmall (act actions values ligatures e r b).buffer
  keeps_small small e r b fit ids =
      of_act_within (λ g. g ≤ 0xFFFF) (λ i g got. small_ligature i g got) (omega arith) IsSmall
      (λ d i g is same k. All-set Is16Bit d.line i g is k) (λ d i j k. small_of_merge_out d i j k) e r b ids
    where
      small_ligature : (i : ℕ) (g : GlyphId) → slice_get ligatures i ≡ Some g → g.0 ≤ 0xFFFF
      small_ligature i g got = rw (get_or_from_slice_get ligatures i g g got) at (small i g (slice_get_within ligatures i g got))

  pub keeps : KeepsAll (act actions values ligatures) IsFit
  keeps e r b fit =
      of_act (Keeps (act actions values ligatures) IsFit b)
      (λ d i g same k. record { length = length-set d.line i g ∙ k.length; cursor = k.cursor; budget = k.budget })
      (λ d i j k. record {
        length = length_merge_out d i j ∙ k.length;
        cursor = of_merge_out (λ (x : Buffer). x.cursor) d i j (λ gs. refl) ∙ k.cursor;
        budget = of_merge_out (λ (x : Buffer). x.max_ops) d i j (λ gs. refl) ∙ k.budget;
      })
      e r b (record { length = refl; cursor = refl; budget = refl })

  -- an act leaves the slots as they are behind the push, and no more components
  pub slots_of_act : (e : GenericStateEntry ℕ) (r : Registers) (b : Buffer) → SameSlots (with_component e r b.cursor).slots (with_component e r b.cursor).count (act actions values ligatures e r b).registers
  unfolding act stored
  slots_of_act e r b =
      let s = with_component e r b.cursor in
      chosen (λ (m : Moved Registers). SameSlots s.slots s.count m.registers) (has_flag e 0x2000 && nat_lt b.cursor (length b.line)) (ligated actions values ligatures s.count e.extra 0 (record { registers = s; buffer = b })) (record { registers = s; buffer = b })
      (λ _. of_ligated s.count (λ _. Unit {0}) (λ i g got. tt) (λ m. SameSlots s.slots s.count m.registers) (λ c g m is low k. record { slots = k.slots; count = omega (arith, low) }) (λ m k. record { slots = k.slots; count = omega arith })
      s.count e.extra 0 (record { registers = s; buffer = b }) (omega arith) (record { slots = refl; count = omega arith }))
      (λ _. record { slots = refl; count = omega arith })

  regs_of_act : (e : GenericStateEntry ℕ) (r : Registers) (b : Buffer) → IsFit r b.cursor (length b.line) → b.cursor < length b.line → (q : ℕ) → IsFit (act actions values ligatures e r b).registers q (length b.line)
  regs_of_act e r b fit below q =
      let s = with_component e r b.cursor in
      fit_of_fewer s.slots s.count s (act actions values ligatures e r b).registers q q (length b.line) (fit_of_component e r b.cursor (length b.line) b.cursor q fit below) refl refl (slots_of_act e r b)

  pub keeps_fit : KeepsFit (act actions values ligatures) IsFit
  keeps_fit e r b fit below =
      let k = keeps e r b fit in
      rw k.length (regs_of_act e r b fit (rw (k.cursor, k.length) at below) _)

  pub pays : Pays (act actions values ligatures) IsFit
  pays = pays_in_place _ _ keeps

  pub bounded : Bounded (act actions values ligatures) IsFit
  bounded = bounded_in_place _ _ keeps

  pub lengthens : Lengthens (act actions values ligatures) IsFit
  lengthens = lengthens_in_place _ _ keeps

  pub keeps_length : KeepsLength (act actions values ligatures) IsFit
  keeps_length e r b fit = (keeps e r b fit).length

  pub keeps_cursor : KeepsCursor (act actions values ligatures) IsFit
  keeps_cursor e r b fit = (keeps e r b fit).cursor

  pub makes_no_positions : MakesNoPositions (act actions values ligatures) IsFit
  makes_no_positions e r b fit none = of_act (λ d. d.positions ≡ None) (λ d i g same k. k) (λ d i j k. of_merge_out (λ (x : Buffer). x.positions) d i j (λ gs. refl) ∙ k) e r b none

  pub keeps_settings : KeepsSettings (act actions values ligatures) IsFit
  keeps_settings e r b fit =
      of_act (SameSettings b)
      (λ d i g same k. record { direction = k.direction; cluster_level = k.cluster_level; flags = k.flags; scratch_flags = k.scratch_flags; max_len = k.max_len; successful = k.successful })
      (λ d i j k. record {
        direction = of_merge_out (λ (x : Buffer). x.direction) d i j (λ gs. refl) ∙ k.direction;
        cluster_level = of_merge_out (λ (x : Buffer). x.cluster_level) d i j (λ gs. refl) ∙ k.cluster_level;
        flags = of_merge_out (λ (x : Buffer). x.flags) d i j (λ gs. refl) ∙ k.flags;
        scratch_flags = of_merge_out (λ (x : Buffer). x.scratch_flags) d i j (λ gs. refl) ∙ k.scratch_flags;
        max_len = of_merge_out (λ (x : Buffer). x.max_len) d i j (λ gs. refl) ∙ k.max_len;
        successful = of_merge_out (λ (x : Buffer). x.successful) d i j (λ gs. refl) ∙ k.successful;
      })
      e r b (record { direction = refl; cluster_level = refl; flags = refl; scratch_flags = refl; max_len = refl; successful = refl })
