-- The values that a stack takes, over a line and over a part that stands at a place of it.
use Rattle.std.proofs.Common.{◌≡◌, ℕ, ℤ, pos, negsuc, ◌+◌, ◌<◌, ◌≤◌, ◌&&◌, ◌==◌, Bool, true, false, cond, List, [], ◌∷◌, length, nat_le, nat_lt, Option, Some, None, refl, ap, sym, subst, arith}
use Rattle.std.proofs.lemmas.Bool.{and_parts}
use Rattle.std.proofs.lemmas.Bool.Decides.{nat_tests}
use Rattle.std.specs.List.{list_all}
use Rattle.std.specs.Ordering.{int_eq}
use Rattle.aat_buffer.specs.Buffer.{Buffer, glyph_at, position_at, with_position}
use Rattle.aat_glyph.specs.Directions.{is_horizontal}
use Rattle.aat_glyph.specs.declared.glyph.GlyphPosition.{GlyphPosition}
use Rattle.aat_run.specs.Context.{Moved}
use Rattle.aat_run.specs.Switches.{meets}
use Rattle.aat_kerning_machines.specs.Positions.{attached_as, cross_offset, plus, with_advance, with_attachment_flag, with_cross_offset, with_shift}
use Rattle.aat_kerning_machines.specs.Stack.{across, along, ends_list, even, is_odd, popped, with_value_for}
use Rattle.aat_cut_kinds.specs.KerningClosing.{taken_by}
use Rattle.aat_cut_kinds.specs.KerningCuts.{Seen}
use Rattle.aat_cut_kinds.specs.facts.KerningBeside.{Beside, beside_attached, beside_write}
use Rattle.aat_cut_kinds.specs.facts.StacksOver.{Over}

-- a value across or along the stream, by what it asks of the buffer
abbrev across_by : Bool → GlyphPosition → ℤ → ℕ → Buffer → Buffer
across_by h q v i b =
    cond (int_eq v (negsuc 32767)) (with_position b i (with_cross_offset h (pos 0) (attached_as 0 (pos 0) q)))
    (cond (q.attach_type == 0) b (with_attachment_flag (with_position b i (with_cross_offset h (plus (cross_offset h q) v) q))))

abbrev along_by : Bool → Bool → GlyphPosition → ℤ → ℕ → Buffer → Buffer
along_by h asked q v i b =
    cond (cond h asked (asked && int_eq q.y_offset (pos 0))) (with_position b i (with_shift h v (with_advance h v q))) b

module _ (is_cross : Bool) (kern_mask at n long : ℕ) (origin : Buffer) where
  abbrev Same : Buffer → Buffer → Type 0
  Same w p = Beside kern_mask at n long origin w p

  across_beside : (v : ℤ) (i : ℕ) (w p : Buffer) → i < n → Same w p → Same (across v (at + i) w) (across v i p)
  across_beside v i w p below h =
      subst (λ (t : Bool). Same (across v (at + i) w) (across_by t (position_at p i) v i p)) (ap is_horizontal h.direction)
      (subst (λ (x : GlyphPosition). Same (across v (at + i) w) (across_by (is_horizontal w.direction) x v i p)) (h.positions i below)
      (alike (is_horizontal w.direction) (position_at w (at + i))))
    where
      alike : (t : Bool) (x : GlyphPosition) → Beside kern_mask at n long origin (across_by t x v (at + i) w) (across_by t x v i p)
      alike t x = by_value (int_eq v (negsuc 32767)) (x.attach_type == 0)
        where
          by_value : (a c : Bool) → Beside kern_mask at n long origin
              (cond a (with_position w (at + i) (with_cross_offset t (pos 0) (attached_as 0 (pos 0) x))) (cond c w (with_attachment_flag (with_position w (at + i) (with_cross_offset t (plus (cross_offset t x) v) x)))))
              (cond a (with_position p i (with_cross_offset t (pos 0) (attached_as 0 (pos 0) x))) (cond c p (with_attachment_flag (with_position p i (with_cross_offset t (plus (cross_offset t x) v) x)))))
          by_value true c = beside_write kern_mask at n long origin w p i _ _ below refl h
          by_value false true = h
          by_value false false = beside_attached kern_mask at n long origin _ _ (beside_write kern_mask at n long origin w p i _ _ below refl h)

  along_beside : (v : ℤ) (i : ℕ) (w p : Buffer) → i < n → Same w p → Same (along kern_mask v (at + i) w) (along kern_mask v i p)
  along_beside v i w p below h =
      let asked : meets (glyph_at w.line (at + i)).mask kern_mask ≡ meets (glyph_at p.line i).mask kern_mask = ap (λ (s : Seen). s.asked) (h.glyphs i below) in
      subst (λ (t : Bool). Same (along kern_mask v (at + i) w) (along_by t (meets (glyph_at p.line i).mask kern_mask) (position_at p i) v i p)) (ap is_horizontal h.direction)
      (subst (λ (a : Bool). Same (along kern_mask v (at + i) w) (along_by (is_horizontal w.direction) a (position_at p i) v i p)) asked
      (subst (λ (x : GlyphPosition). Same (along kern_mask v (at + i) w) (along_by (is_horizontal w.direction) (meets (glyph_at w.line (at + i)).mask kern_mask) x v i p)) (h.positions i below)
      (alike (is_horizontal w.direction) (meets (glyph_at w.line (at + i)).mask kern_mask) (position_at w (at + i)))))
    where
      alike : (t a : Bool) (x : GlyphPosition) → Beside kern_mask at n long origin (along_by t a x v (at + i) w) (along_by t a x v i p)
      alike t a x = by_test (cond t a (a && int_eq x.y_offset (pos 0)))
        where
          by_test : (c : Bool) → Beside kern_mask at n long origin (cond c (with_position w (at + i) (with_shift t v (with_advance t v x))) w) (cond c (with_position p i (with_shift t v (with_advance t v x))) p)
          by_test true = beside_write kern_mask at n long origin w p i _ _ below refl h
          by_test false = h

  -- both lines have room for a place, or neither
  abbrev pub Room : ℕ → Type 0
  Room i = nat_lt (at + i) long ≡ nat_lt i n

  value_beside :
      (v : ℤ) (i : ℕ) (w p : Buffer) → Room i → Same w p
      → Same (with_value_for is_cross kern_mask v (at + i) w) (with_value_for is_cross kern_mask v i p)
  value_beside v i w p room h =
      let whole : nat_lt (at + i) (length w.line) ≡ nat_lt i n = rw h.line room in
      let part : nat_lt i (length p.line) ≡ nat_lt i n = rw h.line_of_part refl in
      rw (whole, part) (by_test (nat_lt i n) refl is_cross)
    where
      by_test : (t : Bool) → nat_lt i n ≡ t → (c : Bool) → Beside kern_mask at n long origin
          (cond t (cond c (across (even v) (at + i) w) (along kern_mask (even v) (at + i) w)) w)
          (cond t (cond c (across (even v) i p) (along kern_mask (even v) i p)) p)
      by_test true is true = across_beside (even v) i w p (grind (arith, nat_tests, is)) h
      by_test true is false = along_beside (even v) i w p (grind (arith, nat_tests, is)) h
      by_test false is c = h

  module _ (value : ℕ → Option ℤ) (step : ℕ) (P : ℕ → Type 0) (rooms : (i : ℕ) → P i → Room i) where
    -- what the values of a list leave of both
    abbrev pub BothLeft : Moved (List ℕ) → Moved (List ℕ) → Type 0
    BothLeft v u = Same v.buffer u.buffer × Over at P v.registers u.registers

    -- of what is left to take
    abbrev More : List ℕ → List ℕ → Type 0
    More r s =
        (index : ℕ) (w p : Buffer) → Same w p → list_all (nat_le at) (taken_by value step long r index) ≡ true
        → BothLeft (popped is_cross kern_mask value step r index w) (popped is_cross kern_mask value step s index p)

    one_place : (i : ℕ) (r s : List ℕ) → P i → Over at P r s → More r s → More ((at + i) ∷ r) (i ∷ s)
    unfolding popped taken_by
    one_place i r s known over more index w p h apart = by_value (value index) apart
      where
        room : nat_lt (at + i) long ≡ nat_lt i n
        room = rooms i known

        by_end : (v : ℤ) (t : Bool) → (t ≡ false → list_all (nat_le at) (taken_by value step long r (index + step)) ≡ true)
            → BothLeft
            (elim t as (λ _. Moved (List ℕ)) [ true ↦ record { registers = r; buffer = with_value_for is_cross kern_mask v (at + i) w } | false ↦ popped is_cross kern_mask value step r (index + step) (with_value_for is_cross kern_mask v (at + i) w) ])
            (elim t as (λ _. Moved (List ℕ)) [ true ↦ record { registers = s; buffer = with_value_for is_cross kern_mask v i p } | false ↦ popped is_cross kern_mask value step s (index + step) (with_value_for is_cross kern_mask v i p) ])
        by_end v true rest = (value_beside v i w p room h, over)
        by_end v false rest = more (index + step) (with_value_for is_cross kern_mask v (at + i) w) (with_value_for is_cross kern_mask v i p) (value_beside v i w p room h) (rest refl)

        taken_on : (v : ℤ) → (nat_le at (at + i) && list_all (nat_le at) (cond (is_odd v && nat_lt (at + i) long) [] (taken_by value step long r (index + step)))) ≡ true
            → is_odd v && nat_lt (at + i) long ≡ false → list_all (nat_le at) (taken_by value step long r (index + step)) ≡ true
        taken_on v apart is = rw is at (and_parts (nat_le at (at + i)) (list_all (nat_le at) (cond (is_odd v && nat_lt (at + i) long) [] (taken_by value step long r (index + step)))) apart).1

        by_value : (o : Option ℤ)
            → list_all (nat_le at) ((at + i) ∷ elim o as (λ _. List ℕ) [ None ↦ [] | Some v ↦ cond (is_odd v && nat_lt (at + i) long) [] (taken_by value step long r (index + step)) ]) ≡ true
            → BothLeft
            (elim o as (λ _. Moved (List ℕ)) [
              | None ↦ record { registers = r; buffer = w }
              | Some v ↦ elim (ends_list v (at + i) w) as (λ _. Moved (List ℕ)) [ true ↦ record { registers = r; buffer = with_value_for is_cross kern_mask v (at + i) w } | false ↦ popped is_cross kern_mask value step r (index + step) (with_value_for is_cross kern_mask v (at + i) w) ]
            ])
            (elim o as (λ _. Moved (List ℕ)) [
              | None ↦ record { registers = s; buffer = p }
              | Some v ↦ elim (ends_list v i p) as (λ _. Moved (List ℕ)) [ true ↦ record { registers = s; buffer = with_value_for is_cross kern_mask v i p } | false ↦ popped is_cross kern_mask value step s (index + step) (with_value_for is_cross kern_mask v i p) ]
            ])
        by_value None apart = (h, over)
        by_value (Some v) apart =
            let whole : ends_list v (at + i) w ≡ (is_odd v && nat_lt (at + i) long) = rw h.line refl in
            let part : ends_list v i p ≡ (is_odd v && nat_lt (at + i) long) = rw (h.line_of_part, room) refl in
            rw (whole, part) (by_end v (is_odd v && nat_lt (at + i) long) (taken_on v apart))

    -- what a list of values leaves, where it takes no place before the part
    pub popped_beside : (r s : List ℕ) → Over at P r s → More r s
    unfolding popped taken_by
    popped_beside [] [] over index w p h apart = (h, tt)
    popped_beside (j ∷ r) [] over index w p h apart =
        absurd (let first = (and_parts (nat_le at j) _ apart).0 in
        let high : at ≤ j = grind (arith, nat_tests, first) in
        omega (arith, high, over.0))
    popped_beside [] (i ∷ s) over index w p h apart = absurd over
    popped_beside (j ∷ r) (i ∷ s) over index w p h apart =
        subst (λ (x : ℕ). More (x ∷ r) (i ∷ s)) (sym over.0) (one_place i r s over.1 over.2 (popped_beside r s over.2)) index w p h apart

-- values for a place behind the line are used up
pub popped_behind :
    (is_cross : Bool) (kern_mask : ℕ) (value : ℕ → Option ℤ) (step i index : ℕ) (b : Buffer) → length b.line ≤ i
    → (popped is_cross kern_mask value step (i ∷ []) index b).buffer ≡ b
unfolding popped
popped_behind is_cross kern_mask value step i index b past = by_value (value index)
  where
    unused : (v : ℤ) → with_value_for is_cross kern_mask v i b ≡ b
    unused v = let none : nat_lt i (length b.line) ≡ false = grind (arith, nat_tests, past) in rw none refl

    by_end : (v : ℤ) (t : Bool) → (elim t as (λ _. Moved (List ℕ)) [ true ↦ record { registers = []; buffer = with_value_for is_cross kern_mask v i b } | false ↦ record { registers = []; buffer = with_value_for is_cross kern_mask v i b } ]).buffer ≡ b
    by_end v true = unused v
    by_end v false = unused v

    by_value : (o : Option ℤ) → (elim o as (λ _. Moved (List ℕ)) [
      | None ↦ record { registers = []; buffer = b }
      | Some v ↦ elim (ends_list v i b) as (λ _. Moved (List ℕ)) [ true ↦ record { registers = []; buffer = with_value_for is_cross kern_mask v i b } | false ↦ popped is_cross kern_mask value step [] (index + step) (with_value_for is_cross kern_mask v i b) ]
    ]).buffer ≡ b
    by_value None = refl
    by_value (Some v) = by_end v (ends_list v i b)
