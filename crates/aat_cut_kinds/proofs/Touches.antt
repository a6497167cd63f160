-- What a run has found where it stands, and what its turn there touches.
use Rattle.std.proofs.Common.{◌≡◌, ◌∙◌, ℕ, ◌≤◌, ◌&&◌, ◌||◌, not, Bool, true, false, List, [], ◌∷◌, length, nat_le, nat_lt, min, Option, Some, None, is_some, refl, ap, sym, arith}
use Rattle.std.proofs.lemmas.Bool.Decides.{nat_tests}
use Rattle.std.specs.Prelude.{◌+◌}
use Rattle.std.specs.List.{list_all}
use Rattle.aat_machine_tables.specs.Table.{TableValue}
use Rattle.aat_machine_tables.specs.declared.state_table.GenericStateEntry.{GenericStateEntry}
use Rattle.aat_run.specs.Context.{Config, entry_at}
use Rattle.aat_cut_kinds.specs.KerningClosing.{Touching, has_end_entry, is_apart}
use Rattle.aat_cut_kinds.specs.declared.kerning_turns.Found.{Found}
use Rattle.aat_cut_kinds.specs.inside.OpenRuns.{least_of}
use Rattle.aat_cut_kinds.specs.inside.Standings.{found_at}

-- a number is at most the least of some places and of one more where it is at most each
le_min : (q m x : ℕ) → (nat_le q x && nat_le q m) ≡ nat_le q (min m x)
le_min q m x = grind (arith, nat_tests)

and_over : (a b c d : Bool) → (a && c) ≡ d → ((a && b) && c) ≡ (b && d)
and_over true true c d h = h
and_over true false c d h = refl
and_over false true c d h = h
and_over false false c d h = refl

pub least_tells : (q : ℕ) (xs : List ℕ) (m : ℕ) → (list_all (nat_le q) xs && nat_le q m) ≡ nat_le q (least_of xs m)
unfolding least_of
least_tells q [] m = refl
least_tells q (x ∷ xs) m =
    and_over (nat_le q x) (list_all (nat_le q) xs) (nat_le q m) (nat_le q (min m x)) (le_min q m x) ∙ least_tells q xs (min m x)

and_true : (a b : Bool) → b ≡ true → a ≡ (a && b)
and_true true true h = refl
and_true false true h = refl
and_true true false h = absurd (let e = h in cc)
and_true false false h = refl

-- what a run has found: the entry that it takes, and whether it takes a turn
module _ {R T : Type 0} (k : Touching R T) (table : TableValue (GenericStateEntry T)) (c : Config R) (f : Found T)
    (is : f ≡ found_at table c.state c.buffer)
  where
    pub found_entry : (o : Option (GenericStateEntry T)) → f.entry ≡ o → entry_at table c.state c.buffer ≡ o
    found_entry o here = sym (ap (λ (x : Found T). x.entry) is) ∙ here

    pub found_end :
        (has goes t : Bool) → has ≡ is_some f.end
        → goes ≡ (not (nat_lt (c.buffer.cursor + 1) (length c.buffer.line)) || has) → goes ≡ t → has_end_entry k table c.state c.buffer ≡ t
    found_end has goes t ends taken here =
        sym (
        sym here
        ∙ (taken
        ∙ ap (λ (b : Bool). not (nat_lt (c.buffer.cursor + 1) (length c.buffer.line)) || b)
        (ends ∙ ap (λ (x : Found T). is_some x.end) is))
        )

    -- where no turn is taken none is touched
    pub none_touched : (q : ℕ) → q ≤ c.buffer.cursor → f.entry ≡ None → is_apart k table q c ≡ nat_le q c.buffer.cursor
    none_touched q below none =
        let up : nat_le q c.buffer.cursor ≡ true = grind (arith, nat_tests, below) in
        let found = found_entry None none in
        rw (up, found) (or_true (not (has_end_entry k table c.state c.buffer)))
      where
        or_true : (a : Bool) → (a || true) ≡ true
        or_true true = refl
        or_true false = refl

    pub none_taken : (q : ℕ) → q ≤ c.buffer.cursor → has_end_entry k table c.state c.buffer ≡ false → is_apart k table q c ≡ nat_le q c.buffer.cursor
    none_taken q below off =
        let up : nat_le q c.buffer.cursor ≡ true = grind (arith, nat_tests, below) in
        rw (up, off) refl

    pub apart_taken :
        (e : GenericStateEntry T) → f.entry ≡ Some e → (least q : ℕ) → has_end_entry k table c.state c.buffer ≡ true
        → least ≡ least_of (k.touched e c.registers c.buffer.cursor (length c.buffer.line)) c.buffer.cursor
        → q ≤ c.buffer.cursor → is_apart k table q c ≡ nat_le q least
    apart_taken e here least q has is_least below =
        let touched = k.touched e c.registers c.buffer.cursor (length c.buffer.line) in
        let up : nat_le q c.buffer.cursor ≡ true = grind (arith, nat_tests, below) in
        let found = found_entry (Some e) here in
        rw (has, found) (
        and_true (list_all (nat_le q) touched) (nat_le q c.buffer.cursor) up
        ∙ (least_tells q touched c.buffer.cursor ∙ ap (nat_le q) (sym is_least))
        )
