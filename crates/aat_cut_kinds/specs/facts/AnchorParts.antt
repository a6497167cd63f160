-- The act of anchors over a line and over a part that stands at a place of it.
use Rattle.std.proofs.Common.{◌≡◌, ◌∙◌, inl, inr, ℕ, ℤ, pos, ◌-ℤ◌, ◌+◌, ◌<◌, ◌≤◌, ◌&&◌, ◌==◌, not, Bool, true, false, cond, List, [], ◌∷◌, length, bit_and, nat_le, nat_lt, Option, Some, None, option_map, refl, ap, sym, subst, arith, slice_get}
use Rattle.std.proofs.lemmas.Bool.{and_parts, not-true}
use Rattle.std.proofs.lemmas.Bool.Decides.{nat_tests}
use Rattle.std.proofs.lemmas.Int.{ints}
use Rattle.std.specs.Int.{int_wrap, w16}
use Rattle.std.specs.List.{list_all}
use Rattle.aat_buffer.specs.Buffer.{Buffer, glyph_at, position_at, position_list, with_position}
use Rattle.aat_glyph.specs.declared.glyph.GlyphPosition.{GlyphPosition}
use Rattle.aat_kerning_tables.specs.AnchorPoints.{Points, point_of}
use Rattle.aat_machine_tables.specs.Entries.{goes_on, has_flag, is_present}
use Rattle.aat_machine_tables.specs.Table.{TableValue}
use Rattle.aat_machine_tables.specs.declared.entries.EntryData.{EntryData}
use Rattle.aat_machine_tables.specs.declared.state_table.GenericStateEntry.{GenericStateEntry}
use Rattle.aat_run.specs.Context.{Moved}
use Rattle.aat_run.specs.Laws.{FitsAlways}
use Rattle.aat_kerning_machines.specs.Anchors.{anchor_act, anchored, attached_to_mark, behind_anchors, by_mark, with_anchor, with_mark}
use Rattle.aat_kerning_machines.specs.KerningLaws.{ChangesPositionsAlone, PositionsAlone}
use Rattle.aat_kerning_machines.specs.KerningMachine.{has_action}
use Rattle.aat_kerning_machines.specs.Positions.{attached_as, on_position}
use Rattle.aat_kerning_machines.specs.facts.AnchorLaws.{of_anchors}
use Rattle.aat_kerning_machines.specs.facts.Writes.{place_of_attachment, place_of_write, same_place}
use Rattle.aat_cut_kinds.specs.KerningClosing.{anchor_touching, only_returns, place_of}
use Rattle.aat_cut_kinds.specs.KerningCuts.{KeepsParts, Seen, by_anchors}
use Rattle.aat_cut_kinds.specs.facts.KerningBeside.{Beside, beside_attached, beside_write}
use Rattle.aat_cut_kinds.specs.facts.KerningParts.{machine_keeps_parts}
use Rattle.aat_cut_kinds.specs.facts.KerningTurns.{ActsInParts, IsWithin}
use Rattle.aat_cut_kinds.specs.facts.StackParts.{same_entries}
use Rattle.aat_cut_kinds.specs.facts.StacksOver.{Over, over_begun}

-- the mark of the whole is that of the part, moved on, or before it where the part has none
abbrev pub MarkOver : ℕ → ℕ → Option ℕ → Option ℕ → Type 0
MarkOver at n r s = Over at (λ i. i < n) (place_of r) (place_of s)

module _ (points : Option Points) (pairs : List (ℕ × ℕ)) (kern_mask : ℕ) where
  pub anchors_keep_places : ChangesPositionsAlone (anchor_act points pairs) FitsAlways
  anchors_keep_places e mark b fit =
      of_anchors (PositionsAlone b) (place_of_write b) (place_of_attachment b) points pairs e mark b (same_place b)

  -- a mark that is set where both stand
  marked_over : (at n c p : ℕ) (e : GenericStateEntry EntryData) (r s : Option ℕ) → c ≡ at + p → p < n → MarkOver at n r s → MarkOver at n (with_mark e r c) (with_mark e s p)
  marked_over at n c p e r s cursor below over = by_flag (has_flag e 0x8000)
    where
      by_flag : (t : Bool) → Over at (λ i. i < n) (place_of (cond t (Some c) r)) (place_of (cond t (Some p) s))
      by_flag true = (cursor, below, tt)
      by_flag false = over

  module _ (at n long : ℕ) (origin w p : Buffer) (h : Beside kern_mask at n long origin w p) (e : GenericStateEntry EntryData) where
    -- what both leave
    abbrev BothLeave : Moved (Option ℕ) → Moved (Option ℕ) → Type 0
    BothLeave v u = Beside kern_mask at n long origin v.buffer u.buffer × (p.cursor < n → MarkOver at n v.registers u.registers)

    -- the cursor stands at a glyph of both, or of neither
    same_test : IsWithin at n long p.cursor → nat_lt w.cursor (length w.line) ≡ nat_lt p.cursor (length p.line)
    same_test (inl below) =
        let cursor = h.cursor in let line = h.line in let part = h.line_of_part in let room = h.room in grind (arith, nat_tests, below, cursor, line, part, room)
    same_test (inr whole) =
        let cursor = h.cursor in let line = h.line in let part = h.line_of_part in grind (arith, nat_tests, whole, cursor, line, part)

    unattached : (r s : Option ℕ) → MarkOver at n r s → BothLeave (record { registers = with_mark e r w.cursor; buffer = w }) (record { registers = with_mark e s p.cursor; buffer = p })
    unattached r s over = (h, λ below. marked_over at n w.cursor p.cursor e r s h.cursor below over)

    -- the same position is changed at both cursors
    beside_on : (v u : Buffer) → Beside kern_mask at n long origin v u → u.cursor < n → (f g : GlyphPosition → GlyphPosition) → ((x : GlyphPosition) → f x ≡ g x)
        → Beside kern_mask at n long origin (on_position f v.cursor v) (on_position g u.cursor u)
    beside_on v u k below f g same =
        subst (λ (c : ℕ). Beside kern_mask at n long origin (with_position v c (f (position_at v c))) (on_position g u.cursor u)) (sym k.cursor)
        (beside_write kern_mask at n long origin v u u.cursor (f (position_at v (at + u.cursor))) (g (position_at u u.cursor)) below
        (same (position_at v (at + u.cursor)) ∙ ap g (k.positions u.cursor below)) k)

    same_chain : (j i c d : ℕ) → j ≡ at + i → c ≡ at + d → pos j -ℤ pos c ≡ pos i -ℤ pos d
    same_chain j i c d place cursor = omega (arith, ints, place, cursor)

    attached_beside : (j i : ℕ) → j ≡ at + i → (v u : Buffer) → Beside kern_mask at n long origin v u → u.cursor < n
        → Beside kern_mask at n long origin (attached_to_mark j v) (attached_to_mark i u)
    attached_beside j i place v u k below =
        beside_attached kern_mask at n long origin _ _
        (beside_on v u k below (attached_as 1 (int_wrap w16 (pos j -ℤ pos v.cursor))) (attached_as 1 (int_wrap w16 (pos i -ℤ pos u.cursor)))
        (λ x. ap (λ (z : ℤ). attached_as 1 (int_wrap w16 z) x) (same_chain j i v.cursor u.cursor place k.cursor)))

    id_at : (c d : ℕ) → c ≡ at + d → d < n → (glyph_at w.line c).glyph_id ≡ (glyph_at p.line d).glyph_id
    id_at c d place below = ap (λ (x : ℕ). (glyph_at w.line x).glyph_id) place ∙ ap (λ (s : Seen). s.id) (h.glyphs d below)

    both_attached : (j i : ℕ) → j ≡ at + i → i < n → p.cursor < n
        → BothLeave (behind_anchors e (Some j) j w (anchored points pairs e.extra.action_index j w)) (behind_anchors e (Some i) i p (anchored points pairs e.extra.action_index i p))
    both_attached j i place known below = by_points points
      where
        over : MarkOver at n (Some j) (Some i)
        over = (place, known, tt)

        some : (v u : Buffer) → Beside kern_mask at n long origin v u → v.cursor ≡ w.cursor → u.cursor ≡ p.cursor
            → Beside kern_mask at n long origin (attached_to_mark j v) (attached_to_mark i u)
            × (p.cursor < n → MarkOver at n (with_mark e (Some j) v.cursor) (with_mark e (Some i) u.cursor))
        some v u k stays stays_part = (
          attached_beside j i place v u k (omega (arith, below, stays_part)),
          λ inside. marked_over at n v.cursor u.cursor e (Some j) (Some i) k.cursor (omega (arith, below, stays_part)) over,
        )

        by_pair : (ps : Points) (o : Option (ℕ × ℕ))
            → BothLeave
            (behind_anchors e (Some j) j w (option_map (λ pair. on_position (with_anchor (point_of ps (glyph_at w.line j).glyph_id pair.0) (point_of ps (glyph_at w.line w.cursor).glyph_id pair.1)) w.cursor w) o))
            (behind_anchors e (Some i) i p (option_map (λ pair. on_position (with_anchor (point_of ps (glyph_at p.line i).glyph_id pair.0) (point_of ps (glyph_at p.line p.cursor).glyph_id pair.1)) p.cursor p) o))
        by_pair ps None = (h, λ inside. over)
        by_pair ps (Some pair) =
            some _ _ (beside_on w p h below _ _ (λ x.
            ap (λ (g : ℕ). with_anchor (point_of ps g pair.0) (point_of ps (glyph_at w.line w.cursor).glyph_id pair.1) x) (id_at j i place known)
            ∙ ap (λ (g : ℕ). with_anchor (point_of ps (glyph_at p.line i).glyph_id pair.0) (point_of ps g pair.1) x) (id_at w.cursor p.cursor h.cursor below))) refl refl

        by_points : (o : Option Points) → BothLeave (behind_anchors e (Some j) j w (anchored o pairs e.extra.action_index j w)) (behind_anchors e (Some i) i p (anchored o pairs e.extra.action_index i p))
        by_points None = some w p h refl refl
        by_points (Some ps) = by_pair ps (slice_get pairs e.extra.action_index)

    -- whether the entry attaches the glyph at the cursor
    module _ (within : IsWithin at n long p.cursor) where
      below_of : (nat_lt w.cursor (length w.line)) ≡ true → p.cursor < n
      below_of test =
          let same = same_test within in
          let part = h.line_of_part in
          let there : nat_lt p.cursor (length p.line) ≡ true = sym same ∙ test in
          grind (arith, nat_tests, there, part)

      same_acts : (has_action e && nat_lt p.cursor (length p.line)) ≡ (has_action e && nat_lt w.cursor (length w.line))
      same_acts = ap (λ (t : Bool). has_action e && t) (sym (same_test within))

      both_marked : (r s : Option ℕ) → MarkOver at n r s
          → list_all (nat_le at) (cond (has_action e && nat_lt w.cursor (length w.line)) (place_of r) []) ≡ true
          → BothLeave (by_mark points pairs e r w) (by_mark points pairs e s p)
      both_marked None None over apart = unattached None None over
      both_marked None (Some i) over apart = absurd over
      both_marked (Some j) None over apart = by_test (has_action e && nat_lt w.cursor (length w.line)) apart
        where
          by_test : (t : Bool) → list_all (nat_le at) (cond t (j ∷ []) []) ≡ true
              → BothLeave (cond t (behind_anchors e (Some j) j w (anchored points pairs e.extra.action_index j w)) (record { registers = with_mark e (Some j) w.cursor; buffer = w })) (record { registers = with_mark e None p.cursor; buffer = p })
          by_test true apart = absurd (let first = (and_parts (nat_le at j) true apart).0 in let high : at ≤ j = grind (arith, nat_tests, first) in omega (arith, high, over.0))
          by_test false apart = unattached (Some j) None over
      both_marked (Some j) (Some i) over apart = rw same_acts (by_test (has_action e && nat_lt w.cursor (length w.line)) refl)
        where
          by_test : (t : Bool) → (has_action e && nat_lt w.cursor (length w.line)) ≡ t
              → BothLeave (cond t (behind_anchors e (Some j) j w (anchored points pairs e.extra.action_index j w)) (record { registers = with_mark e (Some j) w.cursor; buffer = w }))
              (cond t (behind_anchors e (Some i) i p (anchored points pairs e.extra.action_index i p)) (record { registers = with_mark e (Some i) p.cursor; buffer = p }))
          by_test true is = both_attached j i over.0 over.1 (below_of (and_parts (has_action e) (nat_lt w.cursor (length w.line)) is).1)
          by_test false is = unattached (Some j) (Some i) over

  anchors_beside :
      (at n long : ℕ) (origin : Buffer) (e : GenericStateEntry EntryData) (r s : Option ℕ) (w p : Buffer)
      → Beside kern_mask at n long origin w p → MarkOver at n r s → IsWithin at n long p.cursor
      → list_all (nat_le at) (anchor_touching.touched e r w.cursor (length w.line)) ≡ true
      → Beside kern_mask at n long origin (anchor_act points pairs e r w).buffer (anchor_act points pairs e s p).buffer
      × (p.cursor < n → MarkOver at n (anchor_act points pairs e r w).registers (anchor_act points pairs e s p).registers)
  unfolding anchor_act
  anchors_beside at n long origin e r s w p h over within apart = both_marked at n long origin w p h e within r s over apart

  anchors_returned :
      (q n : ℕ) (e : GenericStateEntry EntryData) (r s : Option ℕ) (b : Buffer) → MarkOver 0 q r s → only_returns anchor_touching e ≡ true
      → ((anchor_act points pairs e r b).buffer ≡ b) × MarkOver q n (anchor_act points pairs e r b).registers None
  unfolding anchor_act
  anchors_returned q n e r s b over returns = by_mark_set r (over_begun q (place_of r) (place_of s) over)
    where
      parts : (not (is_present e.extra.action_index) ≡ true) × ((not (has_flag e 0x8000) && (not (goes_on e) && e.new_state == 0)) ≡ true)
      parts = and_parts (not (is_present e.extra.action_index)) (not (has_flag e 0x8000) && (not (goes_on e) && e.new_state == 0)) returns

      none : is_present e.extra.action_index ≡ false
      none = not-true _ parts.0

      no_mark : has_flag e 0x8000 ≡ false
      no_mark = not-true _ (and_parts (not (has_flag e 0x8000)) (not (goes_on e) && e.new_state == 0) parts.1).0

      by_mark_set : (r : Option ℕ) → Over q (λ i. i < n) (place_of r) [] → ((by_mark points pairs e r b).buffer ≡ b) × Over q (λ i. i < n) (place_of (by_mark points pairs e r b).registers) []
      by_mark_set None over = rw no_mark (refl, over)
      by_mark_set (Some j) over = rw (none, no_mark) (refl, over)

  anchors_rest :
      (q : ℕ) (e : GenericStateEntry EntryData) (r s : Option ℕ) (b : Buffer) → MarkOver 0 q r s → true ≡ true → length b.line ≤ b.cursor
      → position_list (anchor_act points pairs e s b).buffer ≡ position_list b
  unfolding anchor_act
  anchors_rest q e r None b over rests past = refl
  anchors_rest q e r (Some i) b over rests past =
      let none : nat_lt b.cursor (length b.line) ≡ false = grind (arith, nat_tests, past) in
      by_action none (has_action e)
    where
      by_action : nat_lt b.cursor (length b.line) ≡ false → (t : Bool)
          → position_list (cond (t && nat_lt b.cursor (length b.line)) (behind_anchors e (Some i) i b (anchored points pairs e.extra.action_index i b)) (record { registers = with_mark e (Some i) b.cursor; buffer = b })).buffer ≡ position_list b
      by_action none true = rw none refl
      by_action none false = refl

  pub anchors_in_parts : ActsInParts anchor_touching (anchor_act points pairs) None kern_mask MarkOver
  anchors_in_parts = record {
    acts = λ at n long origin e r s w p h over within apart. (anchors_beside at n long origin e r s w p h over within apart).0;
    alike = λ at n long origin e r s w p h over below apart. (anchors_beside at n long origin e r s w p h over (inl below) apart).1 below;
    first = λ n. tt;
    begun = λ q n r s over. over_begun q (place_of r) (place_of s) over;
    returned = anchors_returned;
    rests = anchors_rest;
  }

pub anchors_keep_parts : (pays_first : Bool) (kern_mask : ℕ) (points : Option Points) (pairs : List (ℕ × ℕ)) (table : TableValue (GenericStateEntry EntryData))
    → bit_and kern_mask 7 ≡ 0 → KeepsParts kern_mask (by_anchors pays_first points pairs table)
anchors_keep_parts pays_first kern_mask points pairs table free =
    machine_keeps_parts anchor_touching pays_first table _ kern_mask free (anchors_keep_places points pairs kern_mask) MarkOver
    (anchors_in_parts points pairs kern_mask) same_entries
