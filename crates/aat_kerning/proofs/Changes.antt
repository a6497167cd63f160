-- What each part of kerning changes.
use Rattle.std.proofs.Common.{◌≡◌, ℕ, ◌+◌, ◌≤◌, ◌⊎◌, inl, inr, Bool, true, false, cond, List, [], ◌∷◌, length, pos, Option, Some, None, refl, ap, ◌∙◌, arith}
use Rattle.std.specs.Prelude.{IsSome, fold, option_map, reverse}
use Rattle.std.specs.Ordering.{int_eq}
use Rattle.std.proofs.lemmas.List.{length-reverse, length-map, reverse-reverse}
use Rattle.aat_buffer.specs.Buffer.{Buffer, with_line, with_cursor, glyph_at, reversed, position_list}
use Rattle.aat_buffer.specs.Marks.{unsafe_to_break, unsafe_to_concat}
use Rattle.aat_buffer.specs.facts.Cases.{chosen}
use Rattle.aat_glyph.specs.Directions.{is_backward}
use Rattle.aat_glyph.specs.declared.glyph.GlyphPosition.{GlyphPosition}
use Rattle.aat_glyph.specs.declared.glyph.hb_glyph_info_t.{hb_glyph_info_t}
use Rattle.aat_run.specs.Budget.{paid, operations_left}
use Rattle.aat_run.specs.facts.MachineRuns.{paid_less}
use Rattle.aat_kerning_machines.specs.KerningLaws.{GainsBits, SameText, PositionsAlone, IsKernedFrom}
use Rattle.aat_kerning.specs.PairKerning.{pair_kerning, kerned, in_stream, cross_stream, PairValues}
use Rattle.aat_kerning.specs.Pairs.{Pair, pairs_of}
use Rattle.aat_kerning.specs.Positioning.{cursively_attached, in_processing_order, line_marked}
use Rattle.aat_kerning_machines.specs.Positions.{on_positions}
use Rattle.aat_kerning_machines.specs.facts.Writes.{gains_none, gains_more, same_text, text_after, same_place, place_of_write, place_of_attachment}
use Rattle.aat_kerning.proofs.Marked.{IsMarkedLine, line_same, line_twice, line_reversed, line_of_break, line_of_concat}

-- what kerning changes, but for the cursor
pub record IsKernedInside (old new : Buffer) : Type 0 where
  pub line : IsMarkedLine old.line new.line
  pub budget : operations_left new.max_ops ≤ operations_left old.max_ops
  pub text : SameText old new

text_twice : (a b c : Buffer) → SameText a b → SameText b c → SameText a c
text_twice a b c p q =
    let k = gains_more 8 q.scratch_flags.0 a.scratch_flags.0 b.scratch_flags.0 q.scratch_flags.1 p.scratch_flags in
    let scratch : GainsBits 8 a.scratch_flags.0 c.scratch_flags.0 = rw q.scratch_flags.2 k in
    text_after a b c p q.positions q.standing scratch q.settings.direction q.settings.cluster_level q.settings.flags q.settings.max_len
    q.settings.successful

-- what keeps the positions' number and all flags and settings
same_rest :
    (b e : Buffer) → length (position_list e) ≡ length (position_list b) → (IsSome b.positions → IsSome e.positions)
    → e.scratch_flags ≡ b.scratch_flags → e.direction ≡ b.direction → e.cluster_level ≡ b.cluster_level → e.flags ≡ b.flags → e.max_len ≡ b.max_len
    → e.successful ≡ b.successful → SameText b e
same_rest b e positions standing scratch direction level flags max_len successful =
    let none : GainsBits 8 b.scratch_flags.0 e.scratch_flags.0 = rw scratch (gains_none 8 b.scratch_flags.0) in
    text_after b b e (same_text b) positions standing none direction level flags max_len successful

pub inside_twice : (a b c : Buffer) → IsKernedInside a b → IsKernedInside b c → IsKernedInside a c
inside_twice a b c p q = record {
  line = line_twice a.line b.line c.line p.line q.line;
  budget = omega (arith, p.budget, q.budget);
  text = text_twice a b c p.text q.text;
}

pub inside : (a b : Buffer) → IsKernedFrom a b → IsKernedInside a b
inside a b k = record { line = k.line; budget = k.budget; text = k.text }

cursor_twice : (a b c : ℕ) → (b ≡ a) ⊎ (b ≡ 0) → (c ≡ b) ⊎ (c ≡ 0) → (c ≡ a) ⊎ (c ≡ 0)
cursor_twice a b c (inl p) (inl q) = inl (q ∙ p)
cursor_twice a b c (inr p) (inl q) = inr (q ∙ p)
cursor_twice a b c p (inr q) = inr q

pub kerned_twice : (a b c : Buffer) → IsKernedFrom a b → IsKernedFrom b c → IsKernedFrom a c
kerned_twice a b c p q =
    let k = inside_twice a b c (inside a b p) (inside b c q) in
    record { line = k.line; cursor = cursor_twice a.cursor b.cursor c.cursor p.cursor q.cursor; budget = k.budget; text = k.text }

-- where the line alone changes
of_line : (b : Buffer) (gs : List hb_glyph_info_t) → IsMarkedLine b.line gs → IsKernedFrom b (with_line b gs)
of_line b gs marked = record {
  line = marked;
  cursor = inl refl;
  budget = omega arith;
  text = same_rest b (with_line b gs) refl (λ some. some) refl refl refl refl refl refl;
}

pub same : (b : Buffer) → IsKernedFrom b b
same b = of_line b b.line (line_same b.line)

pub of_break : (b : Buffer) (i j : Option ℕ) → IsKernedFrom b (unsafe_to_break b i j)
of_break b i j = of_line b (unsafe_to_break b i j).line (line_of_break b i j)

pub of_concat : (b : Buffer) (i j : Option ℕ) → IsKernedFrom b (unsafe_to_concat b i j)
of_concat b i j = of_line b (unsafe_to_concat b i j).line (line_of_concat b i j)

pub of_place : (b d : Buffer) → PositionsAlone b d → IsKernedFrom b d
of_place b d k = record {
  line = rw k.line (line_same b.line);
  cursor = inl k.cursor;
  budget = rw k.budget (omega arith);
  text = k.text;
}

pub of_cursor : (b : Buffer) (n : ℕ) → IsKernedInside b (with_cursor b n)
of_cursor b n = record {
  line = line_same b.line;
  budget = omega arith;
  text = same_rest b (with_cursor b n) refl (λ some. some) refl refl refl refl refl refl;
}

pub of_payment : (b : Buffer) → IsKernedInside b (paid 1 b)
of_payment b = record {
  line = line_same b.line;
  budget = paid_less 1 b.max_ops;
  text = same_rest b (paid 1 b) refl (λ some. some) refl refl refl refl refl refl;
}

pub of_pair :
    (is_cross : Bool) (values : PairValues) (p : Pair) (b : Buffer) → IsKernedFrom b (kerned is_cross values p b)
unfolding kerned
of_pair is_cross values p b =
    let v = values (glyph_at b.line p.left).glyph_id (glyph_at b.line p.right).glyph_id in
    let moved = cond is_cross (cross_stream p v b) (in_stream p v b) in
    let written : PositionsAlone b moved =
    chosen (PositionsAlone b) is_cross (cross_stream p v b) (in_stream p v b)
    (λ _. place_of_attachment b _ (place_of_write b p.right _ b (same_place b)))
    (λ _. place_of_write b p.right _ _ (place_of_write b p.left _ b (same_place b))) in
    chosen (IsKernedFrom b) (int_eq v (pos 0)) b (unsafe_to_break moved (Some p.left) (Some (p.right + 1))) (λ _. same b)
    (λ _. kerned_twice b moved _ (of_place b moved written) (of_break moved (Some p.left) (Some (p.right + 1))))

pub of_pairs :
    (is_cross : Bool) (values : PairValues) (ps : List Pair) (b : Buffer)
    → IsKernedFrom b (fold (λ x p. kerned is_cross values p x) b ps)
of_pairs is_cross values [] b = same b
of_pairs is_cross values (p ∷ ps) b =
    let d = kerned is_cross values p b in
    kerned_twice b d (fold (λ x p. kerned is_cross values p x) d ps) (of_pair is_cross values p b) (of_pairs is_cross values ps d)

pub of_marked : (asked : Bool) (b : Buffer) → IsKernedFrom b (line_marked asked b)
of_marked asked b =
    chosen (IsKernedFrom b) asked (unsafe_to_concat b None None) b (λ _. of_concat b None None) (λ _. same b)

pub of_pair_kerning : (skips kern_mask : ℕ) (is_cross : Bool) (values : PairValues) (asked : Bool) (b : Buffer)
    → IsKernedFrom b (pair_kerning skips kern_mask is_cross values (line_marked asked b))
unfolding pair_kerning
of_pair_kerning skips kern_mask is_cross values asked b =
    let d = line_marked asked b in
    kerned_twice b d _ (of_marked asked b) (of_pairs is_cross values (pairs_of skips kern_mask d.line) d)

-- what stands still stands where it is changed
some_mapped : {X Y : Type 0} (f : X → Y) (o : Option X) → IsSome o → IsSome (option_map f o)
some_mapped f None some = some
some_mapped f (Some x) some = refl

-- attachment writes positions alone
pub of_attachment : (b : Buffer) → IsKernedFrom b (cursively_attached b)
of_attachment b = record {
  line = line_same b.line;
  cursor = inl refl;
  budget = omega arith;
  text = same_rest b (cursively_attached b) (mapped _ b.positions) (some_mapped _ b.positions) refl refl refl refl refl refl;
}
  where
    mapped : (f : GlyphPosition → GlyphPosition) (qs : Option (List GlyphPosition))
        → length (position_list (on_positions f (record b { positions = qs }))) ≡ length (position_list (record b { positions = qs }))
    mapped f None = refl
    mapped f (Some qs) = length-map qs f

reversed_places : (b : Buffer) → length (position_list (reversed b)) ≡ length (position_list b)
reversed_places b = by_positions b.positions
  where
    by_positions :
        (qs : Option (List GlyphPosition)) → length (position_list (reversed (record b { positions = qs })))
        ≡ length (position_list (record b { positions = qs }))
    by_positions None = refl
    by_positions (Some qs) = length-reverse qs

-- what was kerned in the opposite order, turned back
pub turned_back : (b s : Buffer) → IsKernedFrom (reversed b) s → IsKernedFrom b (reversed s)
turned_back b s k = record {
  line = let turned = line_reversed (reverse b.line) s.line k.line in rw (reverse-reverse b.line) at turned;
  cursor = k.cursor;
  budget = k.budget;
  text = text_twice b (reversed b) (reversed s) (turned b) (text_twice (reversed b) s (reversed s) k.text (turned s));
}
  where
    turned : (d : Buffer) → SameText d (reversed d)
    turned d = same_rest d (reversed d) (reversed_places d) (some_mapped reverse d.positions) refl refl refl refl refl refl

-- what was kerned in processing order, in the order of the line
pub in_order : (b s : Buffer) → IsKernedFrom (in_processing_order b) s → IsKernedFrom b (in_processing_order s)
in_order b s k = by_direction (is_backward b.direction) refl k
  where
    by_direction :
        (t : Bool) → is_backward b.direction ≡ t → IsKernedFrom (cond (is_backward b.direction) (reversed b) b) s
        → IsKernedFrom b (cond (is_backward s.direction) (reversed s) s)
    by_direction true e k =
        let h : IsKernedFrom (reversed b) s = rw e at k in
        let way : is_backward s.direction ≡ true = ap is_backward h.text.settings.direction ∙ e in
        rw way (turned_back b s h)
    by_direction false e k =
        let h : IsKernedFrom b s = rw e at k in
        let way : is_backward s.direction ≡ false = ap is_backward h.text.settings.direction ∙ e in
        rw way h
