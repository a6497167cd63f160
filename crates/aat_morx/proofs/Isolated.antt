-- Substitution under requests that ask alike at the clusters of the line.
use Rattle.std.proofs.Common.{subst, ◌≡◌, ◌∙◌, ap, sym, refl, ℕ, zero, suc, ◌<◌, ◌≤◌, Bool, true, false, cond, not, ◌&&◌, ◌||◌, List, [], ◌∷◌, map, length, reverse, Option, None, get_or, All, arith}
use Rattle.std.proofs.lemmas.List.{reverse-reverse, length-reverse, length-map, get_or-map}
use Rattle.std.specs.Prelude.{fold, option_map}
use Rattle.aat_buffer.specs.Buffer.{Buffer, with_cursor, reversed, without_positions, no_glyph}
use Rattle.aat_buffer.specs.Clusters.{ComesFrom}
use Rattle.aat_buffer.specs.facts.Cases.{chosen}
use Rattle.aat_buffer.specs.facts.Lines.{length_concat}
use Rattle.aat_buffer.specs.facts.Order.{comes_trans}
use Rattle.aat_machine_tables.specs.declared.morx.Chain.{Chain}
use Rattle.aat_machine_tables.specs.declared.morx.Coverage.{Coverage}
use Rattle.aat_machine_tables.specs.declared.morx.Subtable.{Subtable}
use Rattle.aat_machine_tables.specs.declared.morx.SubtableKind.{SubtableKind}
use Rattle.aat_glyph.specs.declared.glyph.GlyphPosition.{GlyphPosition}
use Rattle.aat_glyph.specs.declared.glyph.hb_glyph_info_t.{hb_glyph_info_t}
use Rattle.aat_kinds.specs.Kinds.{Sizes, is_for, kind_run, reversed_run, is_reversed, ordered_run}
use Rattle.aat_map.proofs.OneRange.{flags_of_one_range}
use Rattle.aat_map.specs.Live.{flags_at_cluster}
use Rattle.aat_map.specs.SwitchedChains.{switched_at, by_requests}
use Rattle.aat_map.specs.declared.feature.feature_range_t.{feature_range_t}
use Rattle.aat_morx.proofs.Alike.{SayAlike, alike_from, kind_alike, kind_off, kind_at_front, kind_makes_none}
use Rattle.aat_morx.proofs.ComingClusters.{comes_of_reverse, comes_of_subtable, comes_of_prepared}
use Rattle.aat_morx.proofs.LawsHold.{subtable_is_bounded}
use Rattle.aat_morx.specs.Isolation.{clusters_asked, GiveSameFlags, AskAlike, RequestsAreIsolated}
use Rattle.aat_morx.specs.Substitution.{is_skipped, subtable_run, chain_run, prepared}
use Rattle.aat_run.specs.Outcome.{Outcome, untouched, then_run}
use Rattle.aat_run.specs.Switches.{Switch, meets}

abbrev front : Buffer → Buffer
front b = with_cursor b 0

-- turned twice
turned_back : (b : Buffer) → b.positions ≡ None → reversed (front (reversed b)) ≡ front b
turned_back b none =
    let same : option_map reverse (option_map reverse b.positions) ≡ b.positions = ap (λ (q : Option (List GlyphPosition)). option_map reverse (option_map reverse q)) none ∙ sym none in
    ap (λ (gs : List hb_glyph_info_t). record b { line = gs; positions = option_map reverse (option_map reverse b.positions); cursor = 0 }) (reverse-reverse b.line)
    ∙ ap (λ (q : Option (List GlyphPosition)). record b { positions = q; cursor = 0 }) same

none_turned : (b : Buffer) → b.positions ≡ None → (reversed b).positions ≡ None
none_turned b none = ap (λ (q : Option (List GlyphPosition)). option_map reverse q) none

-- the runs of a kind in the order of a coverage
module _ (z : Sizes) (some : 0 < z.slots) (coverage : Coverage) (k : SubtableKind) where
  abbrev in_its_order : (ℕ → Bool) → Buffer → Outcome
  in_its_order on b = ordered_run coverage (kind_run z on k) b

  ordered_off : (b : Buffer) → b.positions ≡ None → front (in_its_order (λ _. false) b).buffer ≡ front b
  ordered_off b none =
      let run = kind_run z (λ _. false) k in
      chosen (λ (o : Outcome). front o.buffer ≡ front b) (is_reversed coverage b.direction) (reversed_run run b) (run b)
      (λ _. ap reversed (kind_off z k (reversed b) some (none_turned b none)) ∙ turned_back b none)
      (λ _. kind_off z k b some none)

  ordered_at_front : (on : ℕ → Bool) (b : Buffer) → front (in_its_order on (front b)).buffer ≡ front (in_its_order on b).buffer
  ordered_at_front on b = by_order (is_reversed coverage b.direction)
    where
      by_order : (t : Bool) → front (cond t (reversed_run (kind_run z on k) (front b)) (kind_run z on k (front b))).buffer ≡ front (cond t (reversed_run (kind_run z on k) b) (kind_run z on k b)).buffer
      by_order true = ap reversed (kind_at_front z on k (reversed b) some)
      by_order false = kind_at_front z on k b some

  ordered_alike : (on other : ℕ → Bool) (b : Buffer) → SayAlike on other b.line → in_its_order on b ≡ in_its_order other b
  ordered_alike on other b alike = by_order (is_reversed coverage b.direction)
    where
      turned : ComesFrom b.line (reverse b.line)
      turned = comes_of_reverse b.line

      by_order : (t : Bool) → cond t (reversed_run (kind_run z on k) b) (kind_run z on k b) ≡ cond t (reversed_run (kind_run z other k) b) (kind_run z other k b)
      by_order true =
          ap (λ (o : Outcome). record { buffer = reversed o.buffer; turns = o.turns })
          (kind_alike z on other k (reversed b) some (alike_from on other b.line (reverse b.line) turned (omega (arith, length-reverse b.line)) alike))
      by_order false = kind_alike z on other k b some alike

  ordered_makes_none : (on : ℕ → Bool) (b : Buffer) → b.positions ≡ None → (in_its_order on b).buffer.positions ≡ None
  ordered_makes_none on b none =
      chosen (λ (o : Outcome). o.buffer.positions ≡ None) (is_reversed coverage b.direction) (reversed_run (kind_run z on k) b) (kind_run z on k b)
      (λ _. none_turned (kind_run z on k (reversed b)).buffer (kind_makes_none z on k (reversed b) some (none_turned b none)))
      (λ _. kind_makes_none z on k b some none)

-- in one range a switch says everywhere what it says at 0
abbrev IsEven : Switch → Type 0
IsEven switch = switch.has_one_range ≡ true → (flags x : ℕ) → switch.is_on flags x ≡ switch.is_on flags 0

module _ (z : Sizes) (some : 0 < z.slots) (s : Subtable) where
  -- the run of a subtable that is for text of this direction
  abbrev run_of : Switch → Buffer → Buffer
  run_of switch b = cond (is_for b.direction s.coverage) (in_its_order z some s.coverage s.kind (switch.is_on s.feature_flags) b).buffer b

  -- one that is off over the only range is left out, or might as well run
  subtable_is_run : (switch : Switch) (b : Buffer) → IsEven switch → b.positions ≡ None → front (subtable_run z switch s b).buffer ≡ front (run_of switch b)
  unfolding subtable_run
  subtable_is_run switch b even none = by_cases switch.has_one_range (switch.is_on s.feature_flags 0) (is_for b.direction s.coverage) refl refl
    where
      nowhere : switch.has_one_range ≡ true → switch.is_on s.feature_flags 0 ≡ false → switch.is_on s.feature_flags ≡ (λ _. false)
      nowhere one out = λ i x. (even one s.feature_flags x ∙ out) i

      by_cases : (o a f : Bool) → switch.has_one_range ≡ o → switch.is_on s.feature_flags 0 ≡ a → front (cond ((o && not a) || not f) (untouched b) (in_its_order z some s.coverage s.kind (switch.is_on s.feature_flags) b)).buffer ≡ front (cond f (in_its_order z some s.coverage s.kind (switch.is_on s.feature_flags) b).buffer b)
      by_cases true false true one out =
          sym (ap (λ (on : ℕ → Bool). front (in_its_order z some s.coverage s.kind on b).buffer) (nowhere one out) ∙ ordered_off z some s.coverage s.kind b none)
      by_cases true false false one out = refl
      by_cases true true true one out = refl
      by_cases true true false one out = refl
      by_cases false a true one out = refl
      by_cases false a false one out = refl

  run_at_front : (switch : Switch) (b : Buffer) → front (run_of switch (front b)) ≡ front (run_of switch b)
  run_at_front switch b = by_direction (is_for b.direction s.coverage)
    where
      by_direction : (t : Bool) → front (cond t (in_its_order z some s.coverage s.kind (switch.is_on s.feature_flags) (front b)).buffer (front b)) ≡ front (cond t (in_its_order z some s.coverage s.kind (switch.is_on s.feature_flags) b).buffer b)
      by_direction true = ordered_at_front z some s.coverage s.kind (switch.is_on s.feature_flags) b
      by_direction false = refl

  run_alike : (switch other : Switch) (b : Buffer) → SayAlike (switch.is_on s.feature_flags) (other.is_on s.feature_flags) b.line → run_of switch b ≡ run_of other b
  run_alike switch other b alike =
      ap (λ (o : Outcome). cond (is_for b.direction s.coverage) o.buffer b) (ordered_alike z some s.coverage s.kind (switch.is_on s.feature_flags) (other.is_on s.feature_flags) b alike)

  -- a subtable under two switches that say the same at the clusters of the line
  subtable_isolated : (switch other : Switch) (b d : Buffer) → IsEven switch → IsEven other → b.positions ≡ None
      → SayAlike (switch.is_on s.feature_flags) (other.is_on s.feature_flags) b.line → front b ≡ front d → front (subtable_run z switch s b).buffer ≡ front (subtable_run z other s d).buffer
  subtable_isolated switch other b d even other_even none alike same =
      let d_none : d.positions ≡ None = sym (ap (λ (x : Buffer). x.positions) same) ∙ none in
      subtable_is_run switch b even none
      ∙ (sym (run_at_front switch b)
      ∙ (ap (λ (x : Buffer). front x) (run_alike switch other (front b) alike)
      ∙ (ap (λ (x : Buffer). front (run_of other x)) same
      ∙ (run_at_front other d
      ∙ sym (subtable_is_run other d other_even d_none)))))

  subtable_makes_none : (switch : Switch) (b : Buffer) → b.positions ≡ None → (subtable_run z switch s b).buffer.positions ≡ None
  unfolding subtable_run
  subtable_makes_none switch b none =
      chosen (λ (o : Outcome). o.buffer.positions ≡ None) (is_skipped switch s b.direction) (untouched b) (in_its_order z some s.coverage s.kind (switch.is_on s.feature_flags) b)
      (λ _. none) (λ _. ordered_makes_none z some s.coverage s.kind (switch.is_on s.feature_flags) b none)

-- a line that runs have made of one: no positions stand, its clusters come from there, and it is no shorter
record MadeOf (start b : Buffer) : Type 0 where
  none : b.positions ≡ None
  from : ComesFrom start.line b.line
  longer : length start.line ≤ length b.line

module _ (z : Sizes) (some : 0 < z.slots) (start : Buffer) where
  made_by_subtable : (switch : Switch) (s : Subtable) (b : Buffer) → MadeOf start b → MadeOf start (subtable_run z switch s b).buffer
  made_by_subtable switch s b made = record {
    none = subtable_makes_none z some s switch b made.none;
    from = comes_trans start.line b.line (subtable_run z switch s b).buffer.line made.from (comes_of_subtable z switch s b some);
    longer = omega (arith, made.longer, (subtable_is_bounded z switch s b some).length);
  }

  -- two runs so far, of one buffer but for the cursor
  record RunAlike (o p : Outcome) : Type 0 where
    made : MadeOf start o.buffer
    same : front o.buffer ≡ front p.buffer

  subtables_isolated : (switch other : Switch) → IsEven switch → IsEven other → ((flags : ℕ) → SayAlike (switch.is_on flags) (other.is_on flags) start.line)
      → (ss : List Subtable) (o p : Outcome) → RunAlike o p → RunAlike (fold (λ o s. then_run o (subtable_run z switch s)) o ss) (fold (λ o s. then_run o (subtable_run z other s)) p ss)
  subtables_isolated switch other even other_even alike [] o p both = both
  subtables_isolated switch other even other_even alike (s ∷ ss) o p both =
      subtables_isolated switch other even other_even alike ss (then_run o (subtable_run z switch s)) (then_run p (subtable_run z other s)) (record {
        made = made_by_subtable switch s o.buffer both.made;
        same =
            subtable_isolated z some s switch other o.buffer p.buffer even other_even both.made.none
            (alike_from (switch.is_on s.feature_flags) (other.is_on s.feature_flags) start.line o.buffer.line both.made.from both.made.longer (alike s.feature_flags)) both.same;
      })

-- requests that give the same flags switch alike
says_alike : (requests others : List feature_range_t) (c : Chain) (gs : List hb_glyph_info_t) (flags : ℕ) → All (GiveSameFlags requests others c) (clusters_asked gs)
    → SayAlike (λ x. meets (flags_at_cluster requests c.default_flags c.features.items x) flags) (λ x. meets (flags_at_cluster others c.default_flags c.features.items x) flags) gs
says_alike requests others c [] flags same = record {
  each = λ k low. absurd (omega (arith, low));
  empty = λ _. ap (λ f. meets f flags) (same zero 0 (omega arith));
}
says_alike requests others c (g ∷ gs) flags same = record {
  each = λ k low.
      let cluster : hb_glyph_info_t → ℕ = λ h. h.cluster in
      let read : get_or (map cluster (g ∷ gs)) k 0 ≡ (get_or (g ∷ gs) k no_glyph).cluster = get_or-map cluster (g ∷ gs) k no_glyph 0 low in
      ap (λ f. meets f flags) (subst (GiveSameFlags requests others c) read (same k 0 (omega (arith, low, length-map (g ∷ gs) cluster))));
  empty = λ none. absurd (omega (arith, none));
}

-- one range is even
even_by_requests : (requests : List feature_range_t) (c : Chain) → IsEven (switched_at requests c).switch
even_by_requests requests c one flags x = ap (λ f. meets f flags) (flags_of_one_range requests c.default_flags c.features.items x one)

module _ (z : Sizes) (some : 0 < z.slots) (requests others : List feature_range_t) (b : Buffer) where
  chains_isolated : (chains : List Chain) → AskAlike requests others chains b.line → (o p : Outcome) → RunAlike z some b o p
      → RunAlike z some b (fold (λ o c. then_run o (chain_run z c)) o (by_requests requests chains)) (fold (λ o c. then_run o (chain_run z c)) p (by_requests others chains))
  chains_isolated [] alike o p both = both
  chains_isolated (c ∷ cs) alike o p both =
      let ran = subtables_isolated z some b (switched_at requests c).switch (switched_at others c).switch (even_by_requests requests c) (even_by_requests others c)
      (λ flags. says_alike requests others c b.line flags (alike zero c (omega arith))) c.subtables.items (untouched o.buffer) (untouched p.buffer) (record { made = both.made; same = both.same }) in
      chains_isolated cs (λ k d low. alike (suc k) d (omega (arith, low))) (then_run o (chain_run z (switched_at requests c))) (then_run p (chain_run z (switched_at others c)))
      (record { made = ran.made; same = ran.same })

pub requests_are_isolated : RequestsAreIsolated
requests_are_isolated z requests others chains b some alike =
    let begun : MadeOf b (prepared b) = record { none = refl; from = comes_of_prepared b; longer = omega (arith, length_concat (without_positions b) None None) } in
    (chains_isolated z some requests others b chains alike (untouched (prepared b)) (untouched (prepared b)) (record { made = begun; same = refl })).same
