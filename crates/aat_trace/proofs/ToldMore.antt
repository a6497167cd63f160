-- What is told of one subtable more, and of one chain more.
use Rattle.std.proofs.Common.{◌≡◌, ◌⊎◌, inl, inr, ◌∙◌, ap, sym, refl, subst, ℕ, ◌+◌, ◌<◌, ◌≤◌, List, [], ◌∷◌, ◌++◌, take, length, length-append, get_or, append_assoc, add-zero, arith, Option, Some, None}
use Rattle.std.specs.Prelude.{All, Bool, IfSome, fold, map, not}
use Rattle.std.proofs.lemmas.Bool.{false≢true}
use Rattle.std.proofs.lemmas.List.{append-nil, length-map, length-take-le, map-append, take_all, take_more}
use Rattle.std.proofs.lemmas.List.Elements.{All-push}
use Rattle.aat_buffer.specs.Buffer.{Buffer}
use Rattle.aat_machine_tables.specs.declared.morx.Chain.{Chain}
use Rattle.aat_machine_tables.specs.declared.morx.Subtable.{Subtable}
use Rattle.aat_glyph.specs.declared.glyph.Direction.{Direction}
use Rattle.aat_kinds.specs.Kinds.{Sizes, is_reversed}
use Rattle.aat_map.specs.Map.{list_at}
use Rattle.aat_map.specs.SwitchedChains.{SwitchedChain, switched_by, with_switch}
use Rattle.aat_map.specs.facts.Switched.{length-switched_by, switched_by_at}
use Rattle.aat_morx.specs.Substitution.{chain_run, is_skipped, subtable_run}
use Rattle.aat_run.specs.Driven.{StaysWithin}
use Rattle.aat_run.specs.Outcome.{IsOutcome, Outcome, in_order, then_run, untouched}
use Rattle.aat_run.specs.Ranges.{switch_for}
use Rattle.aat_run.specs.Switches.{Switch}
use Rattle.aat_run.specs.declared.ranges.range_flags_t.{range_flags_t}
use Rattle.aat_trace.specs.Told.{IsPart, Told, tells, told_in, told_of, told_of_chains, told_of_subtables}
use Rattle.aat_trace.specs.declared.traced.Trace.{Trace}
use Rattle.aat_trace.specs.declared.traced.TracedSubtable.{TracedSubtable}
use Rattle.aat_run.specs.facts.InOrder.{in_order_more}
use Rattle.aat_run.specs.facts.Settings.{settings_then}
use Rattle.aat_trace.specs.inside.Telling.{AreActed, IsActed, IsAdded, IsLeftOut, IsTaken, TellsMore, TellsOf, told_by}

module _ {X : Type 0} where
  -- a part of a list is a part of a longer one
  pub part_of_more : (xs ys : List X) (y : X) → IsPart xs ys → IsPart xs (ys ++ (y ∷ []))
  part_of_more [] ys y part = tt
  part_of_more (x ∷ xs) [] y part = absurd part
  part_of_more (x ∷ xs) (z ∷ ys) y (inl found) = inl (found.0, part_of_more xs ys y found.1)
  part_of_more (x ∷ xs) (z ∷ ys) y (inr later) = inr (part_of_more (x ∷ xs) ys y later)

  -- and with the same element behind both
  pub more_of_more : (xs ys : List X) (y : X) → IsPart xs ys → IsPart (xs ++ (y ∷ [])) (ys ++ (y ∷ []))
  more_of_more [] [] y part = inl (refl, tt)
  more_of_more [] (z ∷ ys) y part = inr (more_of_more [] ys y tt)
  more_of_more (x ∷ xs) [] y part = absurd part
  more_of_more (x ∷ xs) (z ∷ ys) y (inl found) = inl (found.0, more_of_more xs ys y found.1)
  more_of_more (x ∷ xs) (z ∷ ys) y (inr later) = inr (more_of_more (x ∷ xs) ys y later)

  -- it is no longer than the list
  pub part_short : (xs ys : List X) → IsPart xs ys → length xs ≤ length ys
  part_short [] ys part = omega arith
  part_short (x ∷ xs) [] part = absurd part
  part_short (x ∷ xs) (z ∷ ys) (inl found) = omega (arith, part_short xs ys found.1)
  part_short (x ∷ xs) (z ∷ ys) (inr later) = omega (arith, part_short (x ∷ xs) ys later)

-- nothing more
pub tells_nothing : (a : Trace) → TellsMore a a []
tells_nothing a = record {
  told = λ all h. subst (TellsOf a) (sym (append-nil all)) h;
  acts = λ h. h;
}

-- some more, and then more
pub tells_then : (a b c : Trace) (xs ys : List Told) → TellsMore a b xs → TellsMore b c ys → TellsMore a c (xs ++ ys)
tells_then a b c xs ys first next = record {
  told = λ all h. subst (TellsOf c) (append_assoc all xs ys) (next.told (all ++ xs) (first.told all h));
  acts = λ h. next.acts (first.acts h);
}

-- one subtable more that is left out
left_out : (a b : Trace) (x : Told) (all : List Told) → IsLeftOut a b → TellsOf a all → TellsOf b (all ++ (x ∷ []))
left_out a b x all out h =
    let same : tells b ≡ tells a = ap (λ (ss : List TracedSubtable). map told_in ss) out.same in
    let short : length a.subtables.items ≤ length all = omega (arith, length-map a.subtables.items told_in, part_short (tells a) all h.part) in
    let kept : length b.subtables.items ≡ length a.subtables.items = ap (λ (ss : List TracedSubtable). length ss) out.same in
    record {
      whole = λ said. absurd (false≢true (sym said ∙ out.said));
      part = subst (λ (ts : List Told). IsPart ts (all ++ (x ∷ []))) (sym same) (part_of_more (tells a) all x h.part);
      missing = λ _. omega (arith, length-append all (x ∷ []), short, kept);
    }

-- one subtable more that is taken in
taken_in : (a b : Trace) (s : TracedSubtable) (x : Told) (all : List Told) → IsTaken a b s → told_in s ≡ x → TellsOf a all → TellsOf b (all ++ (x ∷ []))
taken_in a b s x all taken is h =
    let more : tells b ≡ tells a ++ (x ∷ []) =
    ap (λ (ss : List TracedSubtable). map told_in ss) taken.added ∙ map-append told_in a.subtables.items (s ∷ []) ∙ ap (λ (w : Told). tells a ++ (w ∷ [])) is in
    let longer : length b.subtables.items ≡ length a.subtables.items + 1 =
    ap (λ (ss : List TracedSubtable). length ss) taken.added ∙ length-append a.subtables.items (s ∷ []) in
    record {
      whole = λ said. more ∙ ap (λ (ts : List Told). ts ++ (x ∷ [])) (h.whole (sym taken.said ∙ said));
      part = subst (λ (ts : List Told). IsPart ts (all ++ (x ∷ []))) (sym more) (more_of_more (tells a) all x h.part);
      missing = λ said. omega (arith, length-append all (x ∷ []), longer, h.missing (sym taken.said ∙ said));
    }

-- one subtable more, where the trace took it in or not
pub tells_added : (a b : Trace) (t : Option TracedSubtable) (x y : Told) → IsAdded a b t → IfSome t (λ s. told_in s ≡ y) → y ≡ x → IfSome t IsActed → TellsMore a b (x ∷ [])
tells_added a b t x y (inl out) is same acted = record {
  told = λ all h. left_out a b x all out h;
  acts = subst (λ (ss : List TracedSubtable). All IsActed ss) (sym out.same);
}
tells_added a b (Some s) x y (inr taken) is same acted = record {
  told = λ all h. taken_in a b s x all taken (is ∙ same) h;
  acts = λ h. subst (λ (ss : List TracedSubtable). All IsActed ss) (sym taken.added) (All-push IsActed a.subtables.items s h acted);
}
tells_added a b None x y (inr taken) is same acted = absurd taken

-- what a run of a subtable tells
pub told_is : (z : Sizes) (switch : Switch) (i k : ℕ) (s : Subtable) (b d : Buffer) (turns : ℕ) (direction : Direction) (skips turned : Bool) → IsOutcome (subtable_run z switch s b) d turns
    → direction ≡ b.direction → skips ≡ is_skipped switch s direction → turned ≡ is_reversed s.coverage direction
    → told_by (record { chain = i; subtable = k; is_run = not skips; is_reversed = turned; turns = turns }) b.line d.line ≡ told_of z switch i k s b
told_is z switch i k s b d turns direction skips turned ran at skipped reversed =
    ap (λ (o : Outcome). told_by (record { chain = i; subtable = k; is_run = not skips; is_reversed = turned; turns = o.turns }) b.line o.buffer.line) ran
    ∙ ap (λ (x : Bool). record (told_of z switch i k s b) { is_run = not x; is_reversed = turned }) (skipped ∙ ap (λ (x : Direction). is_skipped switch s x) at)
    ∙ ap (λ (x : Bool). record (told_of z switch i k s b) { is_reversed = x }) (reversed ∙ ap (λ (x : Direction). is_reversed s.coverage x) at)

-- one subtable more that was run
pub subtable_ran : (run : Subtable → Buffer → Outcome) (ss : List Subtable) (k : ℕ) (s : Subtable) (b d v : Buffer) (turns more : ℕ) → k < length ss → s ≡ get_or ss k s
    → IsOutcome (in_order run (take k ss) b) d turns → IsOutcome (run s d) v more → IsOutcome (in_order run (take (k + 1) ss) b) v (turns + more)
subtable_ran run ss k s b d v turns more below read so_far ran =
    ap (λ (o : Outcome). record { buffer = o.buffer; turns = turns + o.turns }) ran
    ∙ ap (λ (o : Outcome). then_run o (run s)) so_far
    ∙ sym (in_order_more run ss k s b below read)

-- and what it stays within
pub within_more : (k : ℕ) (b d v : Buffer) (turns more : ℕ) → StaysWithin k b d turns → StaysWithin 1 d v more → StaysWithin (k + 1) b v (turns + more)
within_more k b d v turns more before own = record {
  ids = own.ids;
  counted = omega (arith, own.counted, before.counted, before.extent);
  extent = omega (arith, own.extent, before.extent);
  settings = settings_then b d v before.settings own.settings;
}

-- runs in order leave the same buffer behind outcomes that have the same one
folded_buffer : {X : Type 0} (run : X → Buffer → Outcome) (xs : List X) (o q : Outcome) → o.buffer ≡ q.buffer
    → (fold (λ o x. then_run o (run x)) o xs).buffer ≡ (fold (λ o x. then_run o (run x)) q xs).buffer
folded_buffer run [] o q same = same
folded_buffer run (x ∷ xs) o q same = folded_buffer run xs (then_run o (run x)) (then_run q (run x)) (ap (λ (b : Buffer). (run x b).buffer) same)

-- the first of them, and then the others over what it left
in_order_first : {X : Type 0} (run : X → Buffer → Outcome) (x : X) (xs : List X) (b : Buffer) → (in_order run xs (run x b).buffer).buffer ≡ (in_order run (x ∷ xs) b).buffer
in_order_first run x xs b = folded_buffer run xs (untouched (run x b).buffer) (then_run (untouched b) (run x)) refl

-- one subtable behind others
told_push : (z : Sizes) (switch : Switch) (i n : ℕ) (ss : List Subtable) (s : Subtable) (b : Buffer)
    → told_of_subtables z switch i n (ss ++ (s ∷ [])) b ≡ told_of_subtables z switch i n ss b ++ (told_of z switch i (n + length ss) s (in_order (subtable_run z switch) ss b).buffer ∷ [])
told_push z switch i n [] s b = ap (λ (k : ℕ). told_of z switch i k s b ∷ []) (sym (add-zero n))
told_push z switch i n (x ∷ ss) s b =
    let d : Buffer = (subtable_run z switch x b).buffer in
    let rest : List Told = told_of_subtables z switch i (n + 1) ss d in
    let place : (n + 1) + length ss ≡ n + length (x ∷ ss) = omega arith in
    ap (λ (ts : List Told). told_of z switch i n x b ∷ ts)
    (told_push z switch i (n + 1) ss s d
    ∙ ap (λ (k : ℕ). rest ++ (told_of z switch i k s (in_order (subtable_run z switch) ss d).buffer ∷ [])) place
    ∙ ap (λ (e : Buffer). rest ++ (told_of z switch i (n + length (x ∷ ss)) s e ∷ [])) (in_order_first (subtable_run z switch) x ss b))

-- one subtable more of a chain
pub told_more : (z : Sizes) (switch : Switch) (i : ℕ) (ss : List Subtable) (k : ℕ) (s : Subtable) (b d : Buffer) (turns : ℕ) → k < length ss → s ≡ get_or ss k s
    → IsOutcome (in_order (subtable_run z switch) (take k ss) b) d turns
    → told_of_subtables z switch i 0 (take k ss) b ++ (told_of z switch i k s d ∷ []) ≡ told_of_subtables z switch i 0 (take (k + 1) ss) b
told_more z switch i ss k s b d turns below read so_far =
    let front : List Told = told_of_subtables z switch i 0 (take k ss) b in
    let within : k ≤ length ss = omega arith in
    let place : k ≡ 0 + length (take k ss) = omega (arith, length-take-le k ss within) in
    ap (λ (e : Buffer). front ++ (told_of z switch i k s e ∷ [])) (ap (λ (o : Outcome). o.buffer) so_far)
    ∙ ap (λ (m : ℕ). front ++ (told_of z switch i m s (in_order (subtable_run z switch) (take k ss) b).buffer ∷ [])) place
    ∙ sym (told_push z switch i 0 (take k ss) s b)
    ∙ ap (λ (xs : List Subtable). told_of_subtables z switch i 0 xs b) (ap (λ (y : Subtable). take k ss ++ (y ∷ [])) read ∙ sym (take_more ss k s below))

-- one chain behind others
chains_push : (z : Sizes) (n : ℕ) (cs : List SwitchedChain) (c : SwitchedChain) (b : Buffer)
    → told_of_chains z n (cs ++ (c ∷ [])) b ≡ told_of_chains z n cs b ++ told_of_subtables z c.switch (n + length cs) 0 c.subtables (in_order (chain_run z) cs b).buffer
chains_push z n [] c b = append-nil (told_of_subtables z c.switch n 0 c.subtables b) ∙ ap (λ (k : ℕ). told_of_subtables z c.switch k 0 c.subtables b) (sym (add-zero n))
chains_push z n (x ∷ cs) c b =
    let d : Buffer = (chain_run z x b).buffer in
    let own : List Told = told_of_subtables z x.switch n 0 x.subtables b in
    let rest : List Told = told_of_chains z (n + 1) cs d in
    let place : (n + 1) + length cs ≡ n + length (x ∷ cs) = omega arith in
    ap (λ (ts : List Told). own ++ ts)
    (chains_push z (n + 1) cs c d
    ∙ ap (λ (k : ℕ). rest ++ told_of_subtables z c.switch k 0 c.subtables (in_order (chain_run z) cs d).buffer) place
    ∙ ap (λ (e : Buffer). rest ++ told_of_subtables z c.switch (n + length (x ∷ cs)) 0 c.subtables e) (in_order_first (chain_run z) x cs b))
    ∙ sym (append_assoc own rest (told_of_subtables z c.switch (n + length (x ∷ cs)) 0 c.subtables (in_order (chain_run z) (x ∷ cs) b).buffer))

-- one chain more of a map
pub chains_more : (z : Sizes) (chains : List Chain) (lists : List (List range_flags_t)) (b : Buffer) (i : ℕ) (chain : Chain) (ranges : List range_flags_t) (subtables : List Subtable)
    → i < length chains → chain ≡ get_or chains i chain → ranges ≡ list_at lists i → subtables ≡ chain.subtables.items → (d : Buffer) (turns : ℕ)
    → IsOutcome (in_order (chain_run z) (take i (switched_by chains lists)) b) d turns
    → told_of_chains z 0 (take i (switched_by chains lists)) b ++ told_of_subtables z (switch_for ranges) i 0 subtables d ≡ told_of_chains z 0 (take (i + 1) (switched_by chains lists)) b
chains_more z chains lists b i chain ranges subtables below read listed held d turns so_far =
    let all : List SwitchedChain = switched_by chains lists in
    let here : SwitchedChain = with_switch (switch_for (list_at lists i)) chain in
    let front : List Told = told_of_chains z 0 (take i all) b in
    let within : i < length all = omega (arith, length-switched_by chains lists, below) in
    let low : i ≤ length all = omega arith in
    let place : i ≡ 0 + length (take i all) = omega (arith, length-take-le i all low) in
    ap (λ (rs : List range_flags_t). front ++ told_of_subtables z (switch_for rs) i 0 subtables d) listed
    ∙ ap (λ (ss : List Subtable). front ++ told_of_subtables z here.switch i 0 ss d) held
    ∙ ap (λ (e : Buffer). front ++ told_of_subtables z here.switch i 0 here.subtables e) (ap (λ (o : Outcome). o.buffer) so_far)
    ∙ ap (λ (m : ℕ). front ++ told_of_subtables z here.switch m 0 here.subtables (in_order (chain_run z) (take i all) b).buffer) place
    ∙ sym (chains_push z 0 (take i all) here b)
    ∙ ap (λ (cs : List SwitchedChain). told_of_chains z 0 cs b) (ap (λ (c : SwitchedChain). take i all ++ (c ∷ [])) (switched_by_at chains lists i chain here below read) ∙ sym (take_more all i here within))

-- behind the last chain all are told
pub all_chains_told : (z : Sizes) (chains : List Chain) (lists : List (List range_flags_t)) (b : Buffer) (i : ℕ) → length chains ≤ i
    → told_of_chains z 0 (take i (switched_by chains lists)) b ≡ told_of_chains z 0 (switched_by chains lists) b
all_chains_told z chains lists b i past =
    let whole : length (switched_by chains lists) ≤ i = omega (arith, length-switched_by chains lists, past) in
    ap (λ (cs : List SwitchedChain). told_of_chains z 0 cs b) (take_all i (switched_by chains lists) whole)
