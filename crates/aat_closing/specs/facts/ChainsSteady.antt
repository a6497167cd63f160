-- The closing runs of the subtables of chains one after another, where each of them is even about a cut of texts of a direction.
use Rattle.std.proofs.Common.{◌≡◌, ◌∙◌, ℕ, ◌+◌, ◌<◌, ◌≤◌, ◌&&◌, Bool, true, false, cond, List, [], ◌∷◌, ◌++◌, map, length, take, drop, min, nat_lt, inl, inr, refl, ap, sym, subst, arith, true≢false}
use Rattle.std.proofs.lemmas.List.Elements.{All-append, All-head, All-map, All-nil, All-tail}
use Rattle.std.proofs.lemmas.List.{take-append-drop}
use Rattle.std.specs.Prelude.{All, slice_index_or}
use Rattle.aat_buffer.specs.Buffer.{Buffer, with_line, without_positions}
use Rattle.aat_buffer.specs.Marks.{clusters_stay_apart, concat_marked, on_span, produces_concat}
use Rattle.aat_glyph.specs.declared.glyph.Direction.{Direction}
use Rattle.aat_machine_tables.specs.declared.morx.Subtable.{Subtable}
use Rattle.aat_machine_tables.specs.declared.morx.SubtableKind.{SubtableKind}
use Rattle.aat_machine_tables.specs.declared.morx.SubtableKind.TheVariants.{Rearrangement, Contextual, Ligature, NonContextual, Insertion}
use Rattle.aat_run.specs.Budget.{operations_left}
use Rattle.aat_run.specs.Laws.{HasOrderOf}
use Rattle.aat_run.specs.Switches.{Switch}
use Rattle.aat_map.specs.SwitchedChains.{SwitchedChain}
use Rattle.aat_kinds.specs.Kinds.{Sizes}
use Rattle.aat_morx.specs.Substitution.{is_skipped, prepared}
use Rattle.aat_cut_kinds.specs.Parts.{back_part, front_part}
use Rattle.aat_closing.specs.ClosingChains.{closing_chain, closing_substituted, closing_subtable}
use Rattle.aat_closing.specs.ClosingCuts.{AreEven, IsEven, IsLimitedFrom, is_noncontextual}
use Rattle.aat_closing.specs.ClosingRuns.{Told, closing_ordered, closing_run, nothing_run, told_in_order}
use Rattle.aat_closing.specs.CutsAbout.{AreEvenAbout, ChainsLeaveLimitedPartsAbout, ChainsLeavePartsAbout, IsEvenAbout}
use Rattle.aat_closing.specs.ToldParts.{HasBetween, IsRise, TellsOpen, ToldInParts}
use Rattle.aat_closing.specs.facts.AllKinds.{noncontextual_parts}
use Rattle.aat_closing.specs.facts.OrderedSteady.{PartsBetween, PartsBetweenAtFall, ordered_steady, parts_at_fall, parts_at_rise}
use Rattle.aat_closing.specs.facts.Steady.{IsSteady}
use Rattle.aat_closing.specs.facts.Limited.{with_limits}
use Rattle.aat_closing.specs.facts.ToldLists.{limited_in_order, steady_leave_parts}

-- what leaves each line leaves its parts
unchanged_parts : (q : ℕ) (b : Buffer) (o f g : Told) → o.buffer.line ≡ b.line → f.buffer.line ≡ take q b.line → g.buffer.line ≡ drop q b.line
    → o.buffer.max_ops ≡ b.max_ops → f.buffer.max_ops ≡ b.max_ops → g.buffer.max_ops ≡ b.max_ops → f.is_told ≡ true → g.is_told ≡ true
    → ToldInParts o f g
unchanged_parts q b o f g line front back ops front_ops back_ops front_told back_told = record {
  parts = record {
    line = line ∙ (sym (take-append-drop q b.line) ∙ (ap (λ xs. xs ++ drop q b.line) (sym front) ∙ ap (λ ys. f.buffer.line ++ ys) (sym back)));
    front_budget = rw (ops, front_ops) (omega arith);
    back_budget = rw (ops, back_ops) (omega arith);
  };
  front_told = front_told;
  back_told = back_told;
}

-- nothing is run
nothing_steady : (low c : ℕ) → IsSteady low c nothing_run
nothing_steady low c = record {
  order = λ b. record { rising = λ merges ordered. ordered; falling = λ merges ordered. ordered; clusters = λ k within. (k, within, refl) };
  settings = λ b. record { direction = refl; cluster_level = refl; flags = refl; scratch_flags = refl; max_len = refl; successful = refl };
  cursor = λ b front. front;
  positions = λ b none. none;
  budget = λ b. omega arith;
  longer = λ b. omega arith;
  opens = λ e b ordered merges told is. is;
  limited = λ b y n some fewer. (refl, refl, omega arith, refl, refl);
  parts = λ q b rise between tells. unchanged_parts q b (nothing_run b) (nothing_run (front_part q b)) (nothing_run (back_part q b)) refl refl refl refl refl refl refl refl;
}

-- a noncontextual subtable leaves the parts at each place
kind_alone : (z : Sizes) (on : ℕ → Bool) (kind : SubtableKind) → is_noncontextual kind ≡ true → (q : ℕ) (b : Buffer)
    → ToldInParts (closing_run z on kind b) (closing_run z on kind (front_part q b)) (closing_run z on kind (back_part q b))
kind_alone z on (Rearrangement table) is = absurd (true≢false (sym is))
kind_alone z on (Contextual s) is = absurd (true≢false (sym is))
kind_alone z on (Ligature s) is = absurd (true≢false (sym is))
kind_alone z on (NonContextual lookup) is = noncontextual_parts z on lookup
kind_alone z on (Insertion s) is = absurd (true≢false (sym is))

-- one run after another
joined : Told → Told → Told
joined o t = record { buffer = t.buffer; turns = o.turns + t.turns; is_told = o.is_told && t.is_told }

joined_nothing : (b : Buffer) (t : Told) → t ≡ joined (nothing_run b) t
unfolding joined
joined_nothing b t =
    let turns : t.turns ≡ 0 + t.turns = omega arith in
    λ i. record { buffer = t.buffer; turns = turns i; is_told = t.is_told }

joined_three : (o t u : Told) → joined o (joined t u) ≡ joined (joined o t) u
unfolding joined
joined_three o t u =
    let turns : o.turns + (t.turns + u.turns) ≡ (o.turns + t.turns) + u.turns = omega arith in
    let told : (o.is_told && (t.is_told && u.is_told)) ≡ ((o.is_told && t.is_told) && u.is_told) = by_first o.is_told in
    λ i. record { buffer = u.buffer; turns = turns i; is_told = told i }
  where
    by_first : (a : Bool) → (a && (t.is_told && u.is_told)) ≡ ((a && t.is_told) && u.is_told)
    by_first true = refl
    by_first false = refl

abbrev in_turn : List (Buffer → Told) → Buffer → Told
in_turn runs b = told_in_order (λ (run : Buffer → Told). run) runs b

in_two : (xs ys : List (Buffer → Told)) (b : Buffer) → in_turn (xs ++ ys) b ≡ joined (in_turn xs b) (in_turn ys (in_turn xs b).buffer)
unfolding told_in_order joined
in_two [] ys b = joined_nothing b (in_turn ys b)
in_two (x ∷ xs) ys b =
    ap (joined (x b)) (in_two xs ys (x b).buffer)
    ∙ joined_three (x b) (in_turn xs (x b).buffer) (in_turn ys (in_turn xs (x b).buffer).buffer)

module _ (z : Sizes) (slots : 0 < z.slots) (d : Direction) (low c : ℕ) where
  -- the run of a subtable over texts of the direction
  run_in : Switch → Subtable → Buffer → Told
  run_in switch s b =
      cond (is_skipped switch s d) (nothing_run b) (closing_ordered z (switch.is_on s.feature_flags) s.coverage s.kind b)

  same_run : (switch : Switch) (s : Subtable) (b : Buffer) → b.direction ≡ d → closing_subtable z switch s b ≡ run_in switch s b
  unfolding closing_subtable run_in
  same_run switch s b is =
      ap (λ (e : Direction). cond (is_skipped switch s e) (nothing_run b) (closing_ordered z (switch.is_on s.feature_flags) s.coverage s.kind b)) is

  steady_in : (switch : Switch) (s : Subtable) → IsEvenAbout low c d switch s → IsSteady low c (run_in switch s)
  unfolding run_in
  steady_in switch s even = by_test (is_skipped switch s d) refl
    where
      with_parts : PartsBetween z s.kind low c (switch.is_on s.feature_flags) → PartsBetweenAtFall z s.kind low c (switch.is_on s.feature_flags) → IsSteady low c (closing_ordered z (switch.is_on s.feature_flags) s.coverage s.kind)
      with_parts at_rise at_fall = ordered_steady z slots s.kind low c (switch.is_on s.feature_flags) s.coverage at_rise at_fall

      by_case : is_skipped switch s d ≡ false → IsEvenAbout low c d switch s → IsSteady low c (closing_ordered z (switch.is_on s.feature_flags) s.coverage s.kind)
      by_case runs (inl skipped) = absurd (true≢false (sym skipped ∙ runs))
      by_case runs (inr (inl alone)) =
          with_parts (λ q b rise between tells. kind_alone z (switch.is_on s.feature_flags) s.kind alone q b) (λ never q b fall between tells. kind_alone z (switch.is_on s.feature_flags) s.kind alone q b)
      by_case runs (inr (inr alike)) =
          with_parts (parts_at_rise z slots s.kind low c (switch.is_on s.feature_flags) alike) (parts_at_fall z slots s.kind low c (switch.is_on s.feature_flags) alike)

      by_test : (t : Bool) → is_skipped switch s d ≡ t → IsSteady low c (λ b. cond t (nothing_run b) (closing_ordered z (switch.is_on s.feature_flags) s.coverage s.kind b))
      by_test true is = nothing_steady low c
      by_test false is = by_case is even

  abbrev EvenChain : SwitchedChain → Type 0
  EvenChain k = All (IsEvenAbout low c d k.switch) k.subtables

  runs_of : SwitchedChain → List (Buffer → Told)
  runs_of k = map (run_in k.switch) k.subtables

  runs_in : List SwitchedChain → List (Buffer → Told)
  runs_in [] = []
  runs_in (k ∷ chains) = runs_of k ++ runs_in chains

  chain_steady : (k : SwitchedChain) → EvenChain k → All (λ (run : Buffer → Told). IsSteady low c run) (runs_of k)
  unfolding runs_of
  chain_steady k even =
      All-map (λ (run : Buffer → Told). IsSteady low c run) (run_in k.switch) k.subtables (λ n e within. steady_in k.switch (slice_index_or k.subtables n e) (even n e within))

  all_steady : (chains : List SwitchedChain) → All EvenChain chains → All (λ (run : Buffer → Told). IsSteady low c run) (runs_in chains)
  unfolding runs_in
  all_steady [] even = All-nil (λ (run : Buffer → Told). IsSteady low c run)
  all_steady (k ∷ chains) even =
      All-append (λ (run : Buffer → Told). IsSteady low c run) (runs_of k) (runs_in chains)
      (chain_steady k (All-head EvenChain k chains even)) (all_steady chains (All-tail EvenChain k chains even))

  -- the direction stays
  direction_of : (runs : List (Buffer → Told)) → All (λ (run : Buffer → Told). IsSteady low c run) runs → (b : Buffer) → (in_turn runs b).buffer.direction ≡ b.direction
  unfolding told_in_order
  direction_of [] all b = refl
  direction_of (run ∷ runs) all b =
      direction_of runs (All-tail (λ (it : Buffer → Told). IsSteady low c it) run runs all) (run b).buffer
      ∙ ((All-head (λ (it : Buffer → Told). IsSteady low c it) run runs all).settings b).direction

  chain_is : (switch : Switch) (subtables : List Subtable) → All (IsEvenAbout low c d switch) subtables → (b : Buffer) → b.direction ≡ d
      → told_in_order (closing_subtable z switch) subtables b ≡ in_turn (map (run_in switch) subtables) b
  unfolding told_in_order joined
  chain_is switch [] even b is = refl
  chain_is switch (s ∷ subtables) even b is =
      ap (λ (o : Told). joined o (told_in_order (closing_subtable z switch) subtables o.buffer)) (same_run switch s b is)
      ∙ ap (joined (run_in switch s b))
      (chain_is switch subtables (All-tail (IsEvenAbout low c d switch) s subtables even) (run_in switch s b).buffer
      (((steady_in switch s (All-head (IsEvenAbout low c d switch) s subtables even)).settings b).direction ∙ is))

  chains_are : (chains : List SwitchedChain) → All EvenChain chains → (b : Buffer) → b.direction ≡ d
      → told_in_order (closing_chain z) chains b ≡ in_turn (runs_in chains) b
  unfolding told_in_order joined runs_in runs_of
  chains_are [] even b is = refl
  chains_are (k ∷ chains) even b is =
      let first = All-head EvenChain k chains even in
      ap (λ (o : Told). joined o (told_in_order (closing_chain z) chains o.buffer)) (chain_is k.switch k.subtables first b is)
      ∙ (ap (joined (in_turn (runs_of k) b))
      (chains_are chains (All-tail EvenChain k chains even) (in_turn (runs_of k) b).buffer (direction_of (runs_of k) (chain_steady k first) b ∙ is))
      ∙ sym (in_two (runs_of k) (runs_in chains) b))

-- what runs one after another keep of the order of the clusters, and of the settings
order_in : (low c : ℕ) (runs : List (Buffer → Told)) → All (λ (run : Buffer → Told). IsSteady low c run) runs → (b : Buffer) → HasOrderOf b (in_turn runs b).buffer
unfolding told_in_order
order_in low c [] all b = record { rising = λ merges up. up; falling = λ merges down. down; clusters = λ k within. (k, within, refl) }
order_in low c (run ∷ runs) all b =
    let steady = All-head (λ (it : Buffer → Told). IsSteady low c it) run runs all in
    let here = steady.order b in
    let behind = order_in low c runs (All-tail (λ (it : Buffer → Told). IsSteady low c it) run runs all) (run b).buffer in
    let level = (steady.settings b).cluster_level in
    record {
      rising = λ merges up. behind.rising (λ apart. merges (ap clusters_stay_apart (sym level) ∙ apart)) (here.rising merges up);
      falling = λ merges down. behind.falling (λ apart. merges (ap clusters_stay_apart (sym level) ∙ apart)) (here.falling merges down);
      clusters = λ k within.
          let source = behind.clusters k within in
          let first = here.clusters source.0 source.1 in
          (first.0, first.1, source.2 ∙ first.2);
    }

level_in : (low c : ℕ) (runs : List (Buffer → Told)) → All (λ (run : Buffer → Told). IsSteady low c run) runs → (b : Buffer) → (in_turn runs b).buffer.cluster_level ≡ b.cluster_level
unfolding told_in_order
level_in low c [] all b = refl
level_in low c (run ∷ runs) all b =
    level_in low c runs (All-tail (λ (it : Buffer → Told). IsSteady low c it) run runs all) (run b).buffer
    ∙ ((All-head (λ (it : Buffer → Told). IsSteady low c it) run runs all).settings b).cluster_level

flags_in : (low c : ℕ) (runs : List (Buffer → Told)) → All (λ (run : Buffer → Told). IsSteady low c run) runs → (b : Buffer) → (in_turn runs b).buffer.flags ≡ b.flags
unfolding told_in_order
flags_in low c [] all b = refl
flags_in low c (run ∷ runs) all b =
    flags_in low c runs (All-tail (λ (it : Buffer → Told). IsSteady low c it) run runs all) (run b).buffer
    ∙ ((All-head (λ (it : Buffer → Told). IsSteady low c it) run runs all).settings b).flags

-- what is prepared, where no marks are asked for
prepared_plain : (b : Buffer) → produces_concat b.flags ≡ false → prepared b ≡ without_positions b
prepared_plain b plain =
    ap (λ (t : Bool). with_line (without_positions b) (cond (t && nat_lt 0 (min (length b.line) (length b.line))) (on_span concat_marked 0 (min (length b.line) (length b.line)) b.line) b.line)) plain

-- what the closing runs of chains keep of a line
pub record KeptByChains (old new : Buffer) : Type 0 where
  pub order : HasOrderOf old new
  pub direction : new.direction ≡ old.direction
  pub level : new.cluster_level ≡ old.cluster_level
  pub flags : new.flags ≡ old.flags

pub chains_keep_about : (z : Sizes) → 0 < z.slots → (d : Direction) (low c : ℕ) (chains : List SwitchedChain) → AreEvenAbout low c d chains → (b : Buffer) → b.direction ≡ d → produces_concat b.flags ≡ false
    → KeptByChains b (closing_substituted z chains b).buffer
chains_keep_about z slots d low c chains even b is plain =
    let runs = runs_in z slots d low c chains in
    let all = all_steady z slots d low c chains even in
    let same : closing_substituted z chains b ≡ in_turn runs (without_positions b) =
    ap (told_in_order (closing_chain z) chains) (prepared_plain b plain) ∙ chains_are z slots d low c chains even (without_positions b) is in
    let order = order_in low c runs all (without_positions b) in
    rw same
    (record {
      order = record { rising = order.rising; falling = order.falling; clusters = order.clusters };
      direction = direction_of z slots d low c runs all (without_positions b);
      level = level_in low c runs all (without_positions b);
      flags = flags_in low c runs all (without_positions b);
    })

pub chains_leave_parts_about : ChainsLeavePartsAbout
chains_leave_parts_about z d low c chains slots even q b is front plain rise tells between =
    let runs = runs_in z slots d low c chains in
    let left : (e : Buffer) → e.direction ≡ d → produces_concat e.flags ≡ false → closing_substituted z chains e ≡ in_turn runs (without_positions e) =
    λ e same none. ap (told_in_order (closing_chain z) chains) (prepared_plain e none) ∙ chains_are z slots d low c chains even (without_positions e) same in
    let here = left b is plain in
    let first = left (front_part q b) is plain in
    let second = left (back_part q b) is plain in
    rw (here, first, second)
    (steady_leave_parts (λ (run : Buffer → Told). run) low c runs (all_steady z slots d low c chains even) q (without_positions b) front refl
    (record { behind_first = rise.behind_first; before_end = rise.before_end; before = rise.before; behind = rise.behind; ordered = rise.ordered; merges = rise.merges })
    (subst (TellsOpen c) here tells) (subst (λ (o : Told). HasBetween low c o.buffer.line) here between))

-- what chains leave of a part with limits of its own: the same line, told alike, of whose budget no more is taken
pub record LeftLimitedPart (z : Sizes) (chains : List SwitchedChain) (part own : Buffer) : Type 0 where
  pub line : (closing_substituted z chains own).buffer.line ≡ (closing_substituted z chains part).buffer.line
  pub told : (closing_substituted z chains own).is_told ≡ (closing_substituted z chains part).is_told
  pub budget :
      operations_left own.max_ops + operations_left (closing_substituted z chains part).buffer.max_ops
      ≤ operations_left part.max_ops + operations_left (closing_substituted z chains own).buffer.max_ops

limited_part : (z : Sizes) (slots : 0 < z.slots) (d : Direction) (low c : ℕ) (chains : List SwitchedChain) → AreEvenAbout low c d chains → (part own : Buffer) → IsLimitedFrom part own
    → part.direction ≡ d → produces_concat part.flags ≡ false → 0 < operations_left (closing_substituted z chains part).buffer.max_ops
    → operations_left part.max_ops < operations_left own.max_ops + operations_left (closing_substituted z chains part).buffer.max_ops
    → LeftLimitedPart z chains part own
limited_part z slots d low c chains even part own limited is plain some fewer =
    let runs = runs_in z slots d low c chains in
    let left : (e : Buffer) → e.direction ≡ d → produces_concat e.flags ≡ false → closing_substituted z chains e ≡ in_turn runs (without_positions e) =
    λ e same none. ap (told_in_order (closing_chain z) chains) (prepared_plain e none) ∙ chains_are z slots d low c chains even (without_positions e) same in
    let here = left part is plain in
    let budget = ap (λ (o : Told). operations_left o.buffer.max_ops) here in
    let alike = limited_in_order (λ (run : Buffer → Told). run) low c runs (all_steady z slots d low c chains even) (without_positions part) own.max_ops own.max_len
    (omega (arith, some, budget)) (omega (arith, fewer, budget)) in
    let other : closing_substituted z chains own ≡ in_turn runs (without_positions (with_limits own.max_ops own.max_len part)) =
    ap (closing_substituted z chains) limited ∙ left (with_limits own.max_ops own.max_len part) is plain in
    let other_budget = ap (λ (o : Told). operations_left o.buffer.max_ops) other in
    let taken = alike.2 in
    record {
      line = ap (λ (o : Told). o.buffer.line) other ∙ (alike.0 ∙ sym (ap (λ (o : Told). o.buffer.line) here));
      told = ap (λ (o : Told). o.is_told) other ∙ (alike.1 ∙ sym (ap (λ (o : Told). o.is_told) here));
      budget = omega (arith, taken, budget, other_budget);
    }

-- what they leave of the two parts of a line that is cut at a rise
pub record LeftLimitedParts (z : Sizes) (chains : List SwitchedChain) (q : ℕ) (b front back : Buffer) : Type 0 where
  pub whole : ToldInParts (closing_substituted z chains b) (closing_substituted z chains (front_part q b)) (closing_substituted z chains (back_part q b))
  pub first : LeftLimitedPart z chains (front_part q b) front
  pub second : LeftLimitedPart z chains (back_part q b) back

pub chains_leave_parts_limited :
    (z : Sizes) (d : Direction) (low c : ℕ) (chains : List SwitchedChain) → 0 < z.slots → AreEvenAbout low c d chains → (q : ℕ) (b front back : Buffer) → b.direction ≡ d → b.cursor ≡ 0 → produces_concat b.flags ≡ false → IsRise c q b
    → TellsOpen c (closing_substituted z chains b) → HasBetween low c (closing_substituted z chains b).buffer.line → IsLimitedFrom (front_part q b) front → IsLimitedFrom (back_part q b) back
    → operations_left b.max_ops < operations_left front.max_ops + operations_left (closing_substituted z chains b).buffer.max_ops
    → operations_left b.max_ops < operations_left back.max_ops + operations_left (closing_substituted z chains b).buffer.max_ops
    → LeftLimitedParts z chains q b front back
chains_leave_parts_limited z d low c chains slots even q b front back is cursor plain rise tells between limited_front limited_back few_front few_back =
    let whole = chains_leave_parts_about z d low c chains slots even q b is cursor plain rise tells between in
    let some = tells.budget in
    let more_front = whole.parts.front_budget in
    let more_back = whole.parts.back_budget in
    record {
      whole = whole;
      first = limited_part z slots d low c chains even (front_part q b) front limited_front is plain (omega (arith, some, more_front)) (omega (arith, few_front, more_front));
      second = limited_part z slots d low c chains even (back_part q b) back limited_back is plain (omega (arith, some, more_back)) (omega (arith, few_back, more_back));
    }

pub chains_leave_limited_parts_about : ChainsLeaveLimitedPartsAbout
chains_leave_limited_parts_about z d low c chains slots even q b front back is cursor plain rise tells between limited_front limited_back few_front few_back =
    let parts = chains_leave_parts_limited z d low c chains slots even q b front back is cursor plain rise tells between limited_front limited_back few_front few_back in
    parts.whole.parts.line
    ∙ (ap (λ xs. xs ++ (closing_substituted z chains (back_part q b)).buffer.line) (sym parts.first.line)
    ∙ ap (λ ys. (closing_substituted z chains front).buffer.line ++ ys) (sym parts.second.line))

-- what is on at each cluster, or at none, is alike about each place
even_about : (low c : ℕ) (d : Direction) (switch : Switch) (s : Subtable) → IsEven d switch s → IsEvenAbout low c d switch s
even_about low c d switch s (inl skipped) = inl skipped
even_about low c d switch s (inr (inl alone)) = inr (inl alone)
even_about low c d switch s (inr (inr (inl each))) = inr (inr (inl (λ e high under. each e)))
even_about low c d switch s (inr (inr (inr none))) = inr (inr (inr (λ e high under. none e)))

pub all_even_about : (low c : ℕ) (d : Direction) (chains : List SwitchedChain) → AreEven d chains → AreEvenAbout low c d chains
all_even_about low c d chains even k e within n s inside = even_about low c d (slice_index_or chains k e).switch (slice_index_or (slice_index_or chains k e).subtables n s) (even k e within n s inside)

-- no cluster is from 1 through 0
nowhere_about : (d : Direction) (chains : List SwitchedChain) → AreEvenAbout 1 0 d chains
nowhere_about d chains k e within n s inside = inr (inr (inl (λ x high under. absurd (omega (arith, high, under)))))

-- what chains keep, however their subtables are switched
pub chains_keep_any : (z : Sizes) → 0 < z.slots → (d : Direction) (chains : List SwitchedChain) (b : Buffer) → b.direction ≡ d → produces_concat b.flags ≡ false
    → KeptByChains b (closing_substituted z chains b).buffer
chains_keep_any z slots d chains = chains_keep_about z slots d 1 0 chains (nowhere_about d chains)
