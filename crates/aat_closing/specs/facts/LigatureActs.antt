-- What the taking in of components leaves of a line that glyphs stand behind, or before: what it leaves of the line alone,
-- some places on, where the newest components are the same.
use Rattle.std.proofs.Common.{◌≡◌, ◌∙◌, ◌⊎◌, inl, inr, ℕ, ℤ, zero, suc, ◌+◌, ◌-◌, ◌<◌, ◌≤◌, ◌&&◌, not, Bool, true, false, cond, List, ◌∷◌, ◌++◌, length, drop, nat_lt, pos, ◌+ℤ◌, Option, Some, None, refl, ap, sym, arith, length-append, length-set}
use Rattle.std.proofs.Math.Nat.{add-suc, zero-add}
use Rattle.std.proofs.Math.Seq.{drop-cons}
use Rattle.std.proofs.lemmas.Bool.Decides.{nat_tests}
use Rattle.std.proofs.lemmas.List.{get_or-append-add, get_or_append_left, set-append_left, set-append_right}
use Rattle.std.proofs.lemmas.List.Folds.{length-prefix_len}
use Rattle.std.proofs.lemmas.Nat.{and_assoc}
use Rattle.std.proofs.lemmas.Option.{get_or_from_slice_get, slice_get_within}
use Rattle.std.specs.Int.Bits.{and_zero_l}
use Rattle.std.specs.List.{prefix_len}
use Rattle.std.specs.Prelude.{All, bit_and, slice_get, slice_set}
use Rattle.aat_buffer.specs.Buffer.{Buffer, glyph_at, no_glyph}
use Rattle.aat_buffer.specs.Marks.{cluster_at, merge_out_clusters, with_line}
use Rattle.aat_buffer.specs.facts.Cases.{chosen}
use Rattle.aat_buffer.specs.facts.Lines.{length_merge_out}
use Rattle.aat_buffer.specs.facts.Order.{Kept, comes_of_merge_out, kept_refl, kept_set}
use Rattle.aat_glyph.specs.declared.glyph.hb_glyph_info_t.{hb_glyph_info_t}
use Rattle.aat_lookup.specs.declared.glyph_id.GlyphId.{GlyphId}
use Rattle.aat_machine_tables.specs.Entries.{has_flag}
use Rattle.aat_machine_tables.specs.declared.state_table.GenericStateEntry.{GenericStateEntry}
use Rattle.aat_run.specs.Context.{Moved}
use Rattle.aat_kinds.specs.Ligature.{GoesOn, IsFit, Registers, Step, Stops, act, component, component_step, deleted, deleted_at, element_at, is_last, is_store, later_deleted, ligated, offset_of, stored, stored_by, summed, with_component, with_ligature}
use Rattle.aat_kinds.specs.facts.LigatureLaws as laws
use Rattle.aat_cut_kinds.specs.CutLaws.{left_before}
use Rattle.aat_cut_kinds.specs.Parts.{followed_by, moved_on}
use Rattle.aat_cut_kinds.specs.facts.MergedParts.{merge_out_in_back, merge_out_in_front}
use Rattle.aat_cut_kinds.specs.facts.CutSides.{all_from}
use Rattle.aat_closing.specs.Closing.{are_in_order, steps_of}
use Rattle.aat_closing.specs.facts.LigatureStacks.{AreAlike, IsAlike, dropped}

-- an action that stores nothing is not the last
not_last : (action : ℕ) → is_store action ≡ false → is_last action ≡ false
not_last action none =
    let low : bit_and action 0xC0000000 ≡ 0 = grind (arith, nat_tests, none) in
    let both : bit_and action 0x80000000 ≡ 0 = sym (and_assoc 0x80000000 action 0xC0000000) ∙ (ap (λ n. bit_and n 0x80000000) low ∙ and_zero_l 0x80000000) in
    rw both refl

-- behind an action that is not the last, there is one step less
steps_behind : (actions : List ℕ) (x action : ℕ) → slice_get actions x ≡ Some action → is_last action ≡ false → steps_of actions x ≡ steps_of actions (x + 1) + 1
steps_behind actions x action is more =
    let test : ℕ → Bool = λ y. not (is_last y) in
    let next : suc x ≡ x + 1 = omega arith in
    let front : drop x actions ≡ action ∷ drop (x + 1) actions =
    drop-cons actions x 0 (slice_get_within actions x action is)
    ∙ (ap (λ y. y ∷ drop (suc x) actions) (get_or_from_slice_get actions x action 0 is) ∙ ap (λ n. action ∷ drop n actions) next) in
    let first : prefix_len test (action ∷ drop (x + 1) actions) ≡ 1 + prefix_len test (drop (x + 1) actions) = rw more refl in
    let long = length-prefix_len test (drop x actions) in
    let rest = length-prefix_len test (drop (x + 1) actions) in
    let same : prefix_len test (drop x actions) ≡ 1 + prefix_len test (drop (x + 1) actions) = ap (prefix_len test) front ∙ first in
    omega (arith, long, rest, same)

-- a property of buffers that a merge keeps, and a write of one glyph that keeps the cluster and the mask
module _ (Q : Buffer → Type 0) (on_set : (d : Buffer) (i : ℕ) (g : hb_glyph_info_t) → g.cluster ≡ cluster_at d.line i → g.mask ≡ (glyph_at d.line i).mask → Q d → Q (with_line d (slice_set d.line i g)))
    (on_merge : (d : Buffer) (i j : ℕ) → Q d → Q (merge_out_clusters d i j))
  where
    later_keeps : (r : Registers) (c n : ℕ) (b : Buffer) (line : List hb_glyph_info_t) → Q (with_line b line) → Q (with_line b (later_deleted r c n line))
    unfolding later_deleted
    later_keeps r c zero b line q = q
    later_keeps r c (suc n) b line q =
        let i = component r (c + suc n) in
        later_keeps r c n b (deleted_at i line) (on_set (with_line b line) i (deleted (glyph_at line i)) refl refl q)

    written_keeps : (r : Registers) (c n g : ℕ) (b : Buffer) → Q b → Q (with_line b (later_deleted r c n (with_ligature (component r c) g b.line)))
    written_keeps r c n g b q =
        let u = component r c in
        later_keeps r c n b (with_ligature u g b.line) (on_set b u (record (glyph_at b.line u) { glyph_id = g }) refl refl q)

    pub stored_keeps : (c g : ℕ) (r : Registers) (b : Buffer) → Q b → Q (stored c g r b).buffer
    unfolding stored
    stored_keeps c g r b q =
        let u = component r c in
        let e = component r (r.count - 1) + 1 in
        let d = with_line b (later_deleted r c (r.count - 1 - c) (with_ligature u g b.line)) in
        chosen Q (nat_lt u e) (merge_out_clusters d u e) d (λ _. on_merge d u e (written_keeps r c (r.count - 1 - c) g b q)) (λ _. written_keeps r c (r.count - 1 - c) g b q)

    -- an act keeps it
    pub act_keeps : (actions values : List ℕ) (ligatures : List GlyphId) (e : GenericStateEntry ℕ) (r : Registers) (b : Buffer) → Q b → Q (act actions values ligatures e r b).buffer
    unfolding act
    act_keeps actions values ligatures e r b q =
        let s = with_component e r b.cursor in
        chosen (λ (n : Moved Registers). Q n.buffer) (has_flag e 0x2000 && nat_lt b.cursor (length b.line)) (ligated actions values ligatures s.count e.extra 0 (record { registers = s; buffer = b })) (record { registers = s; buffer = b })
        (λ _. laws.of_ligated actions values ligatures s.count (λ g. Unit {0}) (λ i g got. tt) (λ n. Q n.buffer) (λ c g n is low p. stored_keeps c g n.registers n.buffer p) (λ n p. p) s.count e.extra 0 (record { registers = s; buffer = b }) (omega arith) q)
        (λ _. q)

-- a line that grows on one side, so that its places move on by k
pub record IsFrame (k : ℕ) (wide : List hb_glyph_info_t → List hb_glyph_info_t) (grown : Buffer → Buffer) (P : ℕ → Type 0) : Type 0 where
  pub line : (b : Buffer) → (grown b).line ≡ wide b.line
  pub lined : (b : Buffer) (xs : List hb_glyph_info_t) → with_line (grown b) (wide xs) ≡ grown (with_line b xs)
  pub read : (xs : List hb_glyph_info_t) (i : ℕ) → i < length xs → glyph_at (wide xs) (k + i) ≡ glyph_at xs i
  pub write : (xs : List hb_glyph_info_t) (i : ℕ) (g : hb_glyph_info_t) → i < length xs → slice_set (wide xs) (k + i) g ≡ wide (slice_set xs i g)
  pub merge : (b : Buffer) (i j : ℕ) → All (λ (g : hb_glyph_info_t). P g.cluster) b.line → j ≤ length b.line → merge_out_clusters (grown b) (k + i) (k + j) ≡ grown (merge_out_clusters b i j)

module _ (k a b d size : ℕ) (wide : List hb_glyph_info_t → List hb_glyph_info_t) (grown : Buffer → Buffer) (P : ℕ → Type 0) (frame : IsFrame k wide grown P) (r s : Registers)
    (same : (j : ℕ) → j < d → component r (a + j) ≡ k + component s (b + j)) (inside : (j : ℕ) → j < d → component s (b + j) < size)
  where
    -- a line of this size, with such clusters alone
    abbrev pub IsPart : Buffer → Type 0
    IsPart x = (length x.line ≡ size) × All (λ (g : hb_glyph_info_t). P g.cluster) x.line

    part_set : (x : Buffer) (i : ℕ) (g : hb_glyph_info_t) → g.cluster ≡ cluster_at x.line i → g.mask ≡ (glyph_at x.line i).mask → IsPart x → IsPart (with_line x (slice_set x.line i g))
    part_set x i g equal mask part =
        let kept : Kept (λ n m. n ≤ m) (λ n m is. omega (arith, is)) x (with_line x (slice_set x.line i g)) =
        kept_set (λ n m. n ≤ m) (λ n m is. omega (arith, is)) x x i g equal (kept_refl (λ n m. n ≤ m) (λ n m is. omega (arith, is)) x) in
        (length-set x.line i g ∙ part.0, all_from P x.line (slice_set x.line i g) kept.from part.1)

    part_merge : (x : Buffer) (i j : ℕ) → IsPart x → IsPart (merge_out_clusters x i j)
    part_merge x i j part = (length_merge_out x i j ∙ part.0, all_from P x.line (merge_out_clusters x i j).line (comes_of_merge_out x i j) part.1)

    -- a change of the glyph at a place that has moved on
    changed : (f : hb_glyph_info_t → hb_glyph_info_t) (xs : List hb_glyph_info_t) (u v : ℕ) → u ≡ k + v → v < length xs
        → slice_set (wide xs) u (f (glyph_at (wide xs) u)) ≡ wide (slice_set xs v (f (glyph_at xs v)))
    changed f xs u v moved within =
        ap (λ p. slice_set (wide xs) p (f (glyph_at (wide xs) p))) moved
        ∙ (ap (λ h. slice_set (wide xs) (k + v) (f h)) (frame.read xs v within) ∙ frame.write xs v (f (glyph_at xs v)) within)

    module _ (t v : Registers) (whole : t.slots ≡ r.slots) (part : v.slots ≡ s.slots) where
      place : (x y c : ℕ) → x ≡ a + c → y ≡ b + c → c < d → component t x ≡ k + component v y
      place x y c at at_part few = rw (whole, part, at, at_part) (same c few)

      place_inside : (y c : ℕ) → y ≡ b + c → c < d → component v y < size
      place_inside y c at_part few = rw (part, at_part) (inside c few)

      later_grown : (c l x y : ℕ) → x ≡ a + c → y ≡ b + c → c + l < d → (line : List hb_glyph_info_t) → length line ≡ size → later_deleted t x l (wide line) ≡ wide (later_deleted v y l line)
      unfolding later_deleted
      later_grown c zero x y at at_part few line long = refl
      later_grown c (suc l) x y at at_part few line long =
          let n : ℕ = c + suc l in
          let at_later : x + suc l ≡ a + n = omega (arith, at) in
          let at_later_part : y + suc l ≡ b + n = omega (arith, at_part) in
          let moved = place (x + suc l) (y + suc l) n at_later at_later_part few in
          let within : component v (y + suc l) < length line = omega (arith, long, place_inside (y + suc l) n at_later_part few) in
          let i = component v (y + suc l) in
          ap (later_deleted t x l) (changed deleted line (component t (x + suc l)) i moved within)
          ∙ later_grown c l x y at at_part (omega (arith, few)) (deleted_at i line) (length-set line i (deleted (glyph_at line i)) ∙ long)

      -- the merge behind the writes
      finished : Buffer → ℕ → ℕ → Buffer
      finished x i j = cond (nat_lt i j) (merge_out_clusters x i j) x

      finished_grown : (x : Buffer) (u e i j : ℕ) → u ≡ k + i → e ≡ k + j → IsPart x → j ≤ size → finished (grown x) u e ≡ grown (finished x i j)
      unfolding finished
      finished_grown x u e i j first last line high =
          let test : nat_lt (k + i) (k + j) ≡ nat_lt i j = grind (arith, nat_tests) in
          rw (first, last, test) (by_test (nat_lt i j))
        where
          by_test : (t : Bool) → cond t (merge_out_clusters (grown x) (k + i) (k + j)) (grown x) ≡ grown (cond t (merge_out_clusters x i j) x)
          by_test true = frame.merge x i j line.1 (omega (arith, line.0, high))
          by_test false = refl

      stored_grown : (c n g x y : ℕ) (d₀ : Buffer) → x ≡ a + c → y ≡ b + c → t.count ≡ a + n → v.count ≡ b + n → c < n → n ≤ d → IsPart d₀ → (stored x g t (grown d₀)).buffer ≡ grown (stored y g v d₀).buffer
      unfolding stored finished
      stored_grown c n g x y d₀ at at_part count count_part low few line =
          let u = component t x in
          let e = component t (t.count - 1) + 1 in
          let i = component v y in
          let j = component v (v.count - 1) + 1 in
          let l = n - 1 - c in
          let later : t.count - 1 - x ≡ l = omega (arith, at, count) in
          let later_part : v.count - 1 - y ≡ l = omega (arith, at_part, count_part) in
          let first : u ≡ k + i = place x y c at at_part (omega (arith, low, few)) in
          let newest : t.count - 1 ≡ a + (n - 1) = omega (arith, count, low) in
          let newest_part : v.count - 1 ≡ b + (n - 1) = omega (arith, count_part, low) in
          let last_place : component t (t.count - 1) ≡ k + component v (v.count - 1) = place (t.count - 1) (v.count - 1) (n - 1) newest newest_part (omega (arith, low, few)) in
          let last : e ≡ k + j = omega (arith, last_place) in
          let high = place_inside (v.count - 1) (n - 1) newest_part (omega (arith, low, few)) in
          let within : i < length d₀.line = omega (arith, line.0, place_inside y c at_part (omega (arith, low, few))) in
          let new = with_ligature i g d₀.line in
          let left = later_deleted v y (v.count - 1 - y) new in
          let lines : later_deleted t x (t.count - 1 - x) (with_ligature u g (grown d₀).line) ≡ wide left =
          ap (λ (m : ℕ). later_deleted t x m (with_ligature u g (grown d₀).line)) later
          ∙ (ap (λ (xs : List hb_glyph_info_t). later_deleted t x l (with_ligature u g xs)) (frame.line d₀)
          ∙ (ap (later_deleted t x l) (changed (λ (h : hb_glyph_info_t). record h { glyph_id = g }) d₀.line u i first within)
          ∙ (later_grown c l x y at at_part (omega (arith, low, few)) new (length-set d₀.line i (record (glyph_at d₀.line i) { glyph_id = g }) ∙ line.0)
          ∙ ap (λ (m : ℕ). wide (later_deleted v y m new)) (sym later_part)))) in
          ap (λ (xs : List hb_glyph_info_t). finished (with_line (grown d₀) xs) u e) lines
          ∙ (ap (λ (z : Buffer). finished z u e) (frame.lined d₀ left)
          ∙ finished_grown (with_line d₀ left) u e i j first last (written_keeps IsPart part_set part_merge v y (v.count - 1 - y) g d₀ line) (omega (arith, high)))

    -- what is left of both, with n of the components that are the same
    pub record Twin (n : ℕ) (w v : Moved Registers) : Type 0 where
      pub slots : w.registers.slots ≡ r.slots
      pub slots_part : v.registers.slots ≡ s.slots
      pub count : w.registers.count ≡ a + n
      pub count_part : v.registers.count ≡ b + n
      pub buffer : w.buffer ≡ grown v.buffer
      pub line : IsPart v.buffer

    twin_stored : (c n g x y : ℕ) (w v : Moved Registers) → x ≡ a + c → y ≡ b + c → c < n → n ≤ d → Twin n w v → Twin (c + 1) (stored x g w.registers w.buffer) (stored y g v.registers v.buffer)
    unfolding stored
    twin_stored c n g x y w v at at_part low few twin = record {
      slots = twin.slots;
      slots_part = twin.slots_part;
      count = omega (arith, at);
      count_part = omega (arith, at_part);
      buffer =
          ap (λ (z : Buffer). (stored x g w.registers z).buffer) twin.buffer
          ∙ stored_grown w.registers v.registers twin.slots twin.slots_part c n g x y v.buffer at at_part twin.count twin.count_part low few twin.line;
      line = stored_keeps IsPart part_set part_merge y g v.registers v.buffer twin.line;
    }

    -- what one component leaves of both
    record LeftAlike (c n : ℕ) (w v : Moved Registers) : Type 0 where
      left : ℕ
      twin : Twin left w v
      which : (left ≡ n) ⊎ (left ≡ c + 1)

    IsTwinStep : Type 0 → ℕ → ℕ → Step → Step → Type 0
    IsTwinStep More c n (Stops w) (Stops v) = LeftAlike c n w v
    IsTwinStep More c n (Stops w) (GoesOn sum v) = ⊥
    IsTwinStep More c n (GoesOn sum w) (Stops v) = ⊥
    IsTwinStep More c n (GoesOn sum w) (GoesOn more v) = More × (sum ≡ more) × LeftAlike c n w v

    module _ (actions values : List ℕ) (ligatures : List GlyphId) where
      module _ (More : Type 0) (c n x y : ℕ) (w v : Moved Registers) (at : x ≡ a + c) (at_part : y ≡ b + c) (low : c < n) (few : n ≤ d) (twin : Twin n w v) where
        stays : LeftAlike c n w v
        stays = record { left = n; twin = twin; which = inl refl }

        stores : (g : ℕ) → LeftAlike c n (stored x g w.registers w.buffer) (stored y g v.registers v.buffer)
        stores g = record { left = c + 1; twin = twin_stored c n g x y w v at at_part low few twin; which = inr refl }

        twin_stored_by : (action sum : ℕ) (o : Option GlyphId) → (is_last action ≡ false → More) → IsTwinStep More c n (stored_by actions values ligatures action x sum o w) (stored_by actions values ligatures action y sum o v)
        unfolding IsTwinStep
        twin_stored_by action sum None more = stays
        twin_stored_by action sum (Some g) more = by_last (is_last action) refl
          where
            by_last : (t : Bool) → is_last action ≡ t
                → IsTwinStep More c n (cond t (Stops (stored x g.0 w.registers w.buffer)) (GoesOn sum (stored x g.0 w.registers w.buffer))) (cond t (Stops (stored y g.0 v.registers v.buffer)) (GoesOn sum (stored y g.0 v.registers v.buffer)))
            by_last true is = stores g.0
            by_last false is = (more is, refl, stores g.0)

        twin_summed : (action sum : ℕ) (o : Option ℕ) → (is_last action ≡ false → More) → IsTwinStep More c n (summed actions values ligatures action x sum o w) (summed actions values ligatures action y sum o v)
        unfolding IsTwinStep
        twin_summed action sum None more = stays
        twin_summed action sum (Some value) more = by_store (is_store action) refl
          where
            by_store : (t : Bool) → is_store action ≡ t
                → IsTwinStep More c n (cond t (stored_by actions values ligatures action x (sum + value) (slice_get ligatures (sum + value)) w) (GoesOn (sum + value) w))
                (cond t (stored_by actions values ligatures action y (sum + value) (slice_get ligatures (sum + value)) v) (GoesOn (sum + value) v))
            by_store true is = twin_stored_by action (sum + value) (slice_get ligatures (sum + value)) more
            by_store false is = (more (not_last action is), refl, stays)

        same_glyph : glyph_at w.buffer.line (component w.registers x) ≡ glyph_at v.buffer.line (component v.registers y)
        same_glyph =
            let moved = place w.registers v.registers twin.slots twin.slots_part x y c at at_part (omega (arith, low, few)) in
            let within : component v.registers y < length v.buffer.line = omega (arith, twin.line.0, place_inside w.registers v.registers twin.slots twin.slots_part y c at_part (omega (arith, low, few))) in
            ap (λ (z : Buffer). glyph_at z.line (component w.registers x)) twin.buffer
            ∙ (ap (λ (xs : List hb_glyph_info_t). glyph_at xs (component w.registers x)) (frame.line v.buffer)
            ∙ (ap (λ (i : ℕ). glyph_at (wide v.buffer.line) i) moved ∙ frame.read v.buffer.line (component v.registers y) within))

        twin_step : (o : Option ℕ) (sum : ℕ) → ((action : ℕ) → o ≡ Some action → is_last action ≡ false → More)
            → IsTwinStep More c n (component_step actions values ligatures o x sum w) (component_step actions values ligatures o y sum v)
        unfolding component_step IsTwinStep
        twin_step None sum more = stays
        twin_step (Some action) sum more =
            let value = element_at values (pos (glyph_at v.buffer.line (component v.registers y)).glyph_id +ℤ offset_of action) in
            let equal : element_at values (pos (glyph_at w.buffer.line (component w.registers x)).glyph_id +ℤ offset_of action) ≡ value =
            ap (λ (h : hb_glyph_info_t). element_at values (pos h.glyph_id +ℤ offset_of action)) same_glyph in
            rw equal (twin_summed action sum value (λ last. more action refl last))

      -- what the taking in leaves of both, of c components and at most m steps
      pub record LigatedAlike (c n m : ℕ) (w v : Moved Registers) : Type 0 where
        pub left : ℕ
        pub twin : Twin left w v
        pub less : left ≤ n
        pub bound : m ≤ c → (left ≡ n) ⊎ (c < left + m)

      -- it stops before it runs out of components that are the same, or these are all
      abbrev pub EndsWithin : ℕ → ℕ → Type 0
      EndsWithin c i = (steps_of actions i ≤ c) ⊎ ((a ≡ 0) × (b ≡ 0))

      pub twin_ligated : (c n i sum : ℕ) (w v : Moved Registers) → Twin n w v → c ≤ n → n ≤ d → EndsWithin c i
          → LigatedAlike c n (steps_of actions i) (ligated actions values ligatures (a + c) i sum w) (ligated actions values ligatures (b + c) i sum v)
      unfolding ligated IsTwinStep
      twin_ligated zero n i sum w v twin low few (inl ends) = absurd (omega (arith, ends))
      twin_ligated zero n i sum w v twin low few (inr none) =
          let whole : a + zero ≡ zero = omega (arith, none.0) in
          let part : b + zero ≡ zero = omega (arith, none.1) in
          rw (whole, part) (record {
            left = 0;
            twin = record { slots = twin.slots; slots_part = twin.slots_part; count = omega (arith, none.0); count_part = omega (arith, none.1); buffer = twin.buffer; line = twin.line };
            less = omega arith;
            bound = λ most. absurd (omega (arith, most));
          })
      twin_ligated (suc c) n i sum w v twin low few ends =
          let More : Type 0 = steps_of actions i ≡ steps_of actions (i + 1) + 1 in
          rw (add-suc a c, add-suc b c)
          (by_step (component_step actions values ligatures (slice_get actions i) (a + c) sum w) (component_step actions values ligatures (slice_get actions i) (b + c) sum v)
          (twin_step More c n (a + c) (b + c) w v refl refl (omega (arith, low)) few twin (slice_get actions i) sum (λ action is last. steps_behind actions i action is last))
          (λ left more y z left_twin enough within ends. twin_ligated c left (i + 1) more y z left_twin enough within ends))
        where
          m : ℕ
          m = steps_of actions i

          -- the same of the rest
          Rest : Type 0
          Rest = (left more : ℕ) (y z : Moved Registers) → Twin left y z → c ≤ left → left ≤ d → EndsWithin c (i + 1)
              → LigatedAlike c left (steps_of actions (i + 1)) (ligated actions values ligatures (a + c) (i + 1) more y) (ligated actions values ligatures (b + c) (i + 1) more z)

          at_most : (left : ℕ) → (left ≡ n) ⊎ (left ≡ c + 1) → left ≤ n
          at_most left (inl all) = omega (arith, all)
          at_most left (inr last) = omega (arith, last, low)

          at_least : (left : ℕ) → (left ≡ n) ⊎ (left ≡ c + 1) → c ≤ left
          at_least left (inl all) = omega (arith, all, low)
          at_least left (inr last) = omega (arith, last)

          bound_of : (left : ℕ) → (left ≡ n) ⊎ (left ≡ c + 1) → (left ≡ n) ⊎ (suc c < left + m)
          bound_of left (inl all) = inl all
          bound_of left (inr last) = inr (omega (arith, last))

          bound_behind : (left after k : ℕ) → m ≡ k + 1 → (left ≡ n) ⊎ (left ≡ c + 1) → (after ≡ left) ⊎ (c < after + k) → (after ≡ n) ⊎ (suc c < after + m)
          bound_behind left after k step which (inr more) = inr (omega (arith, step, more))
          bound_behind left after k step (inl all) (inl same) = inl (same ∙ all)
          bound_behind left after k step (inr last) (inl same) = inr (omega (arith, last, same))

          ends_behind : m ≡ steps_of actions (i + 1) + 1 → EndsWithin (suc c) i → EndsWithin c (i + 1)
          ends_behind step (inl most) = inl (omega (arith, step, most))
          ends_behind step (inr none) = inr none

          by_step : (t u : Step) → IsTwinStep (m ≡ steps_of actions (i + 1) + 1) c n t u → Rest
              → LigatedAlike (suc c) n m (elim t [ Stops z ↦ z | GoesOn more z ↦ ligated actions values ligatures (a + c) (i + 1) more z ]) (elim u [ Stops z ↦ z | GoesOn more z ↦ ligated actions values ligatures (b + c) (i + 1) more z ])
          by_step (Stops w) (Stops v) alike rest = record { left = alike.left; twin = alike.twin; less = at_most alike.left alike.which; bound = λ most. bound_of alike.left alike.which }
          by_step (Stops w) (GoesOn sum v) alike rest = absurd alike
          by_step (GoesOn sum w) (Stops v) alike rest = absurd alike
          by_step (GoesOn sum w) (GoesOn more v) alike rest =
              let step = alike.0 in
              let now = alike.2 in
              let few_left = at_most now.left now.which in
              let after = rest now.left more w v now.twin (at_least now.left now.which) (omega (arith, few_left, few)) (ends_behind step ends) in
              rw alike.1 (record {
                left = after.left;
                twin = after.twin;
                less = omega (arith, few_left, after.less);
                bound = λ most. bound_behind now.left after.left (steps_of actions (i + 1)) step now.which (after.bound (omega (arith, step, most)));
              })

-- Clusters of two sorts
module _ (Front Back : ℕ → Type 0) (apart : (x : ℕ) → Front x → Back x → ⊥) (gs : List hb_glyph_info_t) where
  -- glyphs of the one stand behind a line of the other
  front_frame : All (λ (g : hb_glyph_info_t). Back g.cluster) gs → IsFrame 0 (λ xs. xs ++ gs) (followed_by gs) Front
  front_frame others = record {
    line = λ b. refl;
    lined = λ b xs. refl;
    read = λ xs i below. rw (zero-add i) (get_or_append_left xs gs no_glyph i below);
    write = λ xs i g below. rw (zero-add i) (set-append_left xs gs i g below);
    merge = λ b i j here high. rw (zero-add i, zero-add j) (merge_out_in_front Front Back apart gs b i j here others high);
  }

  -- or before one
  back_frame : (z : ℤ) → All (λ (g : hb_glyph_info_t). Front g.cluster) gs → IsFrame (length gs) (λ xs. gs ++ xs) (moved_on gs z) Back
  back_frame z others = record {
    line = λ b. refl;
    lined = λ b xs. refl;
    read = λ xs i below. get_or-append-add gs xs i no_glyph;
    write = λ xs i g below.
        let place : length gs + i - length gs ≡ i = omega arith in
        set-append_right gs xs (length gs) (length gs + i) g refl (omega arith) ∙ ap (λ n. gs ++ slice_set xs n g) place;
    merge = λ b i j here high. merge_out_in_back Front Back apart gs z b i j others here;
  }

  module _ (actions values : List ℕ) (ligatures : List GlyphId) where
    moved_of : ℕ → List ℕ → Buffer → Moved Registers
    moved_of count slots b = record { registers = record { count = count; slots = slots }; buffer = b }

    same_moved : (m n : ℕ) (xs ys : List ℕ) (b d : Buffer) → m ≡ n → xs ≡ ys → b ≡ d → moved_of m xs b ≡ moved_of n ys d
    same_moved m n xs ys b d count slots buffer = cc

    -- the taking in of components depends on no glyph of another cluster behind the line
    ligated_in_front : (s : Registers) (i : ℕ) (b : Buffer) → ((j : ℕ) → j < s.count → component s j < length b.line) → All (λ (g : hb_glyph_info_t). Front g.cluster) b.line → All (λ (g : hb_glyph_info_t). Back g.cluster) gs
        → ligated actions values ligatures s.count i 0 (record { registers = s; buffer = followed_by gs b }) ≡ left_before gs (ligated actions values ligatures s.count i 0 (record { registers = s; buffer = b }))
    unfolding moved_of
    ligated_in_front s i b inside here others =
        let w : Moved Registers = record { registers = s; buffer = followed_by gs b } in
        let v : Moved Registers = record { registers = s; buffer = b } in
        let count : s.count ≡ 0 + s.count = sym (zero-add s.count) in
        let both =
        twin_ligated 0 0 0 s.count (length b.line) (λ xs. xs ++ gs) (followed_by gs) Front (front_frame others) s s (λ j below. sym (zero-add (component s (0 + j)))) (λ j below. rw (zero-add j) (inside j below))
        actions values ligatures s.count s.count i 0 w v (record { slots = refl; slots_part = refl; count = count; count_part = count; buffer = refl; line = (refl, here) }) (omega arith) (omega arith) (inr (refl, refl)) in
        let twin = both.twin in
        let whole : Moved Registers = ligated actions values ligatures (0 + s.count) i 0 w in
        let part : Moved Registers = ligated actions values ligatures (0 + s.count) i 0 v in
        let equal : whole ≡ left_before gs part =
        same_moved whole.registers.count part.registers.count whole.registers.slots part.registers.slots whole.buffer (followed_by gs part.buffer) (twin.count ∙ sym twin.count_part) (twin.slots ∙ sym twin.slots_part) twin.buffer in
        ap (λ (n : ℕ). ligated actions values ligatures n i 0 w) count ∙ (equal ∙ ap (λ (n : ℕ). left_before gs (ligated actions values ligatures n i 0 v)) (sym count))

    -- nor does an act
    pub act_in_front : (e : GenericStateEntry ℕ) (r : Registers) (b : Buffer) → IsFit r b.cursor (length b.line) → b.cursor < length b.line → All (λ (g : hb_glyph_info_t). Front g.cluster) b.line → All (λ (g : hb_glyph_info_t). Back g.cluster) gs
        → act actions values ligatures e r (followed_by gs b) ≡ left_before gs (act actions values ligatures e r b)
    unfolding act
    act_in_front e r b fit below here others =
        let s : Registers = with_component e r b.cursor in
        let fit_behind = laws.fit_of_component e r b.cursor (length b.line) b.cursor b.cursor fit below in
        let within : nat_lt b.cursor (length b.line) ≡ true = grind (arith, nat_tests, below) in
        let longer : nat_lt b.cursor (length (b.line ++ gs)) ≡ true = (let more : b.cursor < length (b.line ++ gs) = omega (arith, length-append b.line gs, below) in grind (arith, nat_tests, more)) in
        rw (within, longer) (by_flag (has_flag e 0x2000) s fit_behind)
      where
        by_flag : (t : Bool) (s : Registers) → IsFit s b.cursor (length b.line)
            → cond (t && true) (ligated actions values ligatures s.count e.extra 0 (record { registers = s; buffer = followed_by gs b })) (record { registers = s; buffer = followed_by gs b })
            ≡ left_before gs (cond (t && true) (ligated actions values ligatures s.count e.extra 0 (record { registers = s; buffer = b })) (record { registers = s; buffer = b }))
        by_flag true s fit = ligated_in_front s e.extra b fit.within here others
        by_flag false s fit = refl

    -- what acts that take in the same components leave
    pub record BothLigated (z : ℤ) (w v : Moved Registers) : Type 0 where
      pub buffer : w.buffer ≡ moved_on gs z v.buffer
      pub alike : AreAlike (length gs) w.registers v.registers

    -- where as many components as an act takes at most are the same, and in order, it takes in the same
    pub ligated_in_back : (z : ℤ) (a b d i : ℕ) (r s : Registers) (x : Buffer) → IsAlike (length gs) a b d r s → ((j : ℕ) → j < s.count → component s j < length x.line)
        → All (λ (g : hb_glyph_info_t). Front g.cluster) gs → All (λ (g : hb_glyph_info_t). Back g.cluster) x.line → steps_of actions i ≤ d → are_in_order r (r.count - steps_of actions i) (steps_of actions i - 1) ≡ true
        → BothLigated z (ligated actions values ligatures r.count i 0 (record { registers = r; buffer = moved_on gs z x })) (ligated actions values ligatures s.count i 0 (record { registers = s; buffer = x }))
    ligated_in_back z a b d i r s x alike inside others here few ordered =
        let w : Moved Registers = record { registers = r; buffer = moved_on gs z x } in
        let v : Moved Registers = record { registers = s; buffer = x } in
        let both =
        twin_ligated (length gs) a b d (length x.line) (λ xs. gs ++ xs) (moved_on gs z) Back (back_frame z others) r s alike.same (λ j below. inside (b + j) (omega (arith, below, alike.part)))
        actions values ligatures d d i 0 w v (record { slots = refl; slots_part = refl; count = alike.whole; count_part = alike.part; buffer = refl; line = (refl, here) }) (omega arith) (omega arith) (inl few) in
        let twin = both.twin in
        let bound = both.bound few in
        let whole : Moved Registers = ligated actions values ligatures (a + d) i 0 w in
        let part : Moved Registers = ligated actions values ligatures (b + d) i 0 v in
        let left : BothLigated z whole part = record {
          buffer = twin.buffer;
          alike = record {
            older_whole = a;
            older_part = b;
            shared = both.left;
            alike =
                dropped (length gs) a b d (steps_of actions i) both.left r s whole.registers part.registers alike few ordered (some_left both.left bound) both.less bound
                twin.slots twin.count twin.slots_part twin.count_part;
          };
        } in
        counted r.count s.count alike.whole alike.part left
      where
        some_left : (n : ℕ) → (n ≡ d) ⊎ (d < n + steps_of actions i) → 0 < n
        some_left n (inl all) = omega (arith, all, few)
        some_left n (inr more) = omega (arith, more, few)

        counted : (m n : ℕ) → m ≡ a + d → n ≡ b + d
            → BothLigated z (ligated actions values ligatures (a + d) i 0 (record { registers = r; buffer = moved_on gs z x })) (ligated actions values ligatures (b + d) i 0 (record { registers = s; buffer = x }))
            → BothLigated z (ligated actions values ligatures m i 0 (record { registers = r; buffer = moved_on gs z x })) (ligated actions values ligatures n i 0 (record { registers = s; buffer = x }))
        counted m n first second both = rw (first, second) both
