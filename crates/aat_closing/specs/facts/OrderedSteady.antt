-- The closing runs of subtables that are alike about a place are steady, in the order of any coverage.
use Rattle.std.proofs.Common.{◌≡◌, ◌∙◌, ◌⊎◌, ℕ, ℤ, ◌+◌, ◌<◌, ◌≤◌, Bool, true, false, cond, length, None, inl, inr, sym, arith}
use Rattle.std.proofs.lemmas.Bool.{cases_lt}
use Rattle.std.specs.Prelude.{slice_index_or}
use Rattle.aat_buffer.specs.Buffer.{Buffer}
use Rattle.aat_buffer.specs.Clusters.{ClustersMerge, IsRisingLine}
use Rattle.aat_buffer.specs.Marks.{cluster_at}
use Rattle.aat_machine_tables.specs.declared.morx.Coverage.{Coverage}
use Rattle.aat_machine_tables.specs.declared.morx.SubtableKind.{SubtableKind}
use Rattle.aat_run.specs.Budget.{operations_left}
use Rattle.aat_run.specs.Laws.{HasOrderOf, SameSettings}
use Rattle.aat_kinds.specs.Kinds.{Sizes, is_reversed}
use Rattle.aat_cut_kinds.specs.Open.{is_open}
use Rattle.aat_cut_kinds.specs.Parts.{back_part, front_part}
use Rattle.aat_cut_kinds.specs.facts.Opens.{along, opened}
use Rattle.aat_closing.specs.ClosingRuns.{Told, closing_ordered, closing_run, may_split, turned}
use Rattle.aat_closing.specs.CutsAbout.{IsAlikeAbout, KindsLeavePartsAboutFall, KindsLeavePartsAboutRise, ListsLeavePartsAbout}
use Rattle.aat_closing.specs.facts.Steady.{IsSteady}
use Rattle.aat_closing.specs.ToldParts.{HasBetween, IsFall, IsRise, TellsOpen, ToldInParts}
use Rattle.aat_closing.specs.facts.AllKinds.{kinds_at_fall, kinds_at_rise}
use Rattle.aat_closing.specs.facts.KindParts.{before_at, behind_at}
use Rattle.aat_closing.specs.facts.Limited.{LeavesAlike, with_limits}
use Rattle.aat_closing.specs.facts.LimitedKinds.{closing_runs_limited}
use Rattle.aat_closing.specs.facts.OffParts.{kinds_off_at_fall, kinds_off_at_rise}
use Rattle.aat_closing.specs.facts.ToldKeepsKinds.{closing_runs_keep}
use Rattle.aat_closing.specs.facts.ToldLists.{between_came, steady_leave_parts}
use Rattle.aat_closing.specs.facts.ToldMore.{closing_runs_keep_more}
use Rattle.aat_closing.specs.facts.TurnedSteady.{FallsSteady, turned_steady}

-- at each rise to c the run leaves the parts, where a glyph is from low on and below c, and at each fall
abbrev pub PartsBetween : Sizes → SubtableKind → ℕ → ℕ → (ℕ → Bool) → Type 0
PartsBetween z kind low c on =
    (q : ℕ) (b : Buffer) → IsRise c q b → HasBetween low c (closing_run z on kind b).buffer.line → TellsOpen c (closing_run z on kind b)
    → ToldInParts (closing_run z on kind b) (closing_run z on kind (front_part q b)) (closing_run z on kind (back_part q b))

abbrev pub PartsBetweenAtFall : Sizes → SubtableKind → ℕ → ℕ → (ℕ → Bool) → Type 0
PartsBetweenAtFall z kind low c on =
    may_split kind ≡ false → (q : ℕ) (b : Buffer) → IsFall c q b → HasBetween low c (closing_run z on kind b).buffer.line → TellsOpen c (closing_run z on kind b)
    → ToldInParts (closing_run z on kind b) (closing_run z on kind (front_part q b)) (closing_run z on kind (back_part q b))

-- The place of a cut that is open, with a glyph left from low on and below c, has a cluster from low through c.
module _ (z : Sizes) (slots : 0 < z.slots) (kind : SubtableKind) (low c : ℕ) (on : ℕ → Bool) where
  abbrev left : Buffer → Told
  left b = closing_run z on kind b

  came : (b : Buffer) → HasBetween low c (left b).buffer.line → HasBetween low c b.line
  came b between = between_came low c b.line (left b).buffer.line ((closing_runs_keep z on kind slots).order b).clusters between

  -- at a rise the place is that of c
  about_rise : (q : ℕ) (b : Buffer) → IsRise c q b → HasBetween low c (left b).buffer.line → is_open c (left b).buffer.line ≡ true → (low ≤ cluster_at b.line q) × (cluster_at b.line q ≤ c)
  about_rise q b rise between is =
      let within = rise.before_end in
      let high : c ≤ cluster_at b.line q = behind_at (λ n. c ≤ n) q q b.line (omega arith) within rise.behind in
      let o = opened c (left b).buffer.line is in
      let source = ((closing_runs_keep z on kind slots).order b).clusters o.place o.inside in
      let some = between.2 in
      let below = between.3 in
      (omega (arith, some, below, high), up_to q b rise source.0 source.1 (sym source.2 ∙ o.at) (cases_lt source.0 q))
    where
      up_to : (q : ℕ) (b : Buffer) → IsRise c q b → (p : ℕ) → p < length b.line → cluster_at b.line p ≡ c → ((p < q) ⊎ (q ≤ p)) → cluster_at b.line q ≤ c
      up_to q b rise p inside at (inl front) =
          let within = rise.before_end in
          let below : cluster_at b.line p < c = before_at (λ n. n < c) q p b.line front (omega (arith, within)) rise.before in
          absurd (omega (arith, below, at))
      up_to q b rise p inside at (inr back) =
          let up : cluster_at b.line q ≤ cluster_at b.line p = along (λ n k. n ≤ k) (λ n. omega arith) b.line rise.ordered q p back inside in
          omega (arith, up, at)

  -- at a fall it has the greatest cluster below c
  about_fall : (q : ℕ) (b : Buffer) → IsFall c q b → HasBetween low c (left b).buffer.line → (low ≤ cluster_at b.line q) × (cluster_at b.line q ≤ c)
  about_fall q b fall behind =
      let between = came b behind in
      let within = fall.before_end in
      let below : cluster_at b.line q < c = behind_at (λ n. n < c) q q b.line (omega arith) within fall.behind in
      let some = between.2 in
      let up = from_place q b fall between.0 between.1 between.3 (cases_lt between.0 q) in
      (omega (arith, some, up), omega (arith, below))
    where
      from_place : (q : ℕ) (b : Buffer) → IsFall c q b → (p : ℕ) → p < length b.line → cluster_at b.line p < c → ((p < q) ⊎ (q ≤ p)) → cluster_at b.line p ≤ cluster_at b.line q
      from_place q b fall p inside below (inl front) =
          let within = fall.before_end in
          let high : c ≤ cluster_at b.line p = before_at (λ n. c ≤ n) q p b.line front (omega (arith, within)) fall.before in
          absurd (omega (arith, below, high))
      from_place q b fall p inside below (inr back) = along (λ n k. k ≤ n) (λ n. omega arith) b.line fall.ordered q p back inside

  -- a subtable that is alike about the cut leaves the parts
  pub parts_at_rise : IsAlikeAbout low c on → PartsBetween z kind low c on
  parts_at_rise (inl is_on) q b rise between tells =
      let about = about_rise q b rise between tells.opens in
      kinds_at_rise z on kind slots c q b rise (is_on (cluster_at b.line q) about.0 about.1) tells
  parts_at_rise (inr is_off) q b rise between tells =
      let about = about_rise q b rise between tells.opens in
      kinds_off_at_rise z on kind slots low c is_off q b rise (is_off (cluster_at b.line q) about.0 about.1) between tells

  pub parts_at_fall : IsAlikeAbout low c on → PartsBetweenAtFall z kind low c on
  parts_at_fall (inl is_on) never q b fall between tells =
      let about = about_fall q b fall between in
      kinds_at_fall z on kind slots never c q b fall (is_on (cluster_at b.line q) about.0 about.1) tells
  parts_at_fall (inr is_off) never q b fall between tells =
      let about = about_fall q b fall between in
      kinds_off_at_fall z on kind slots never low c is_off q b fall (is_off (cluster_at b.line q) about.0 about.1) between tells

pub kinds_about_rise : KindsLeavePartsAboutRise
kinds_about_rise z on kind low c slots alike = parts_at_rise z slots kind low c on alike

pub kinds_about_fall : KindsLeavePartsAboutFall
kinds_about_fall z on kind low c slots alike = parts_at_fall z slots kind low c on alike

-- a run that leaves the parts is steady
module _ (z : Sizes) (slots : 0 < z.slots) (kind : SubtableKind) (low c : ℕ) (on : ℕ → Bool) (at_rise : PartsBetween z kind low c on) (at_fall : PartsBetweenAtFall z kind low c on) where
  rises : IsSteady low c (closing_run z on kind)
  rises =
      let keeps = closing_runs_keep z on kind slots in
      let more = closing_runs_keep_more z on kind slots in
      record {
        order = keeps.order;
        settings = keeps.settings;
        cursor = keeps.cursor;
        positions = more.positions;
        budget = keeps.budget;
        longer = more.longer;
        opens = λ d b ordered merges told is. keeps.rising b ordered merges d is;
        limited = closing_runs_limited z on kind slots;
        parts = at_rise;
      }

  falls : FallsSteady low c (closing_run z on kind) (may_split kind)
  falls =
      let keeps = closing_runs_keep z on kind slots in
      let more = closing_runs_keep_more z on kind slots in
      record {
        order = keeps.order;
        settings = keeps.settings;
        cursor = keeps.cursor;
        positions = more.positions;
        budget = keeps.budget;
        longer = more.longer;
        opens = λ never d b ordered merges is. keeps.falling never b ordered merges d is;
        limited = closing_runs_limited z on kind slots;
        parts = at_fall;
      }

-- of two steady runs, the one that the coverage names
module _ (low c : ℕ) (coverage : Coverage) (x y : Buffer → Told) (there : IsSteady low c x) (here : IsSteady low c y) where
  named_steady : IsSteady low c (λ b. cond (is_reversed coverage b.direction) (x b) (y b))
  named_steady = record {
    order = λ b. by_order b (is_reversed coverage b.direction);
    settings = λ b. by_settings b (is_reversed coverage b.direction);
    cursor = λ b. by_cursor b (is_reversed coverage b.direction);
    positions = λ b. by_positions b (is_reversed coverage b.direction);
    budget = λ b. by_budget b (is_reversed coverage b.direction);
    longer = λ b. by_longer b (is_reversed coverage b.direction);
    opens = λ d b. by_opens d b (is_reversed coverage b.direction);
    limited = λ b. by_limited b (is_reversed coverage b.direction);
    parts = λ q b. by_parts q b (is_reversed coverage b.direction);
  }
    where
      by_order : (b : Buffer) (t : Bool) → HasOrderOf b (cond t (x b) (y b)).buffer
      by_order b true = there.order b
      by_order b false = here.order b

      by_settings : (b : Buffer) (t : Bool) → SameSettings b (cond t (x b) (y b)).buffer
      by_settings b true = there.settings b
      by_settings b false = here.settings b

      by_cursor : (b : Buffer) (t : Bool) → b.cursor ≡ 0 → (cond t (x b) (y b)).buffer.cursor ≡ 0
      by_cursor b true = there.cursor b
      by_cursor b false = here.cursor b

      by_positions : (b : Buffer) (t : Bool) → b.positions ≡ None → (cond t (x b) (y b)).buffer.positions ≡ None
      by_positions b true = there.positions b
      by_positions b false = here.positions b

      by_budget : (b : Buffer) (t : Bool) → operations_left (cond t (x b) (y b)).buffer.max_ops ≤ operations_left b.max_ops
      by_budget b true = there.budget b
      by_budget b false = here.budget b

      by_longer : (b : Buffer) (t : Bool) → length b.line ≤ length (cond t (x b) (y b)).buffer.line
      by_longer b true = there.longer b
      by_longer b false = here.longer b

      by_opens : (d : ℕ) (b : Buffer) (t : Bool) → IsRisingLine b.line → ClustersMerge b.cluster_level → (cond t (x b) (y b)).is_told ≡ true → is_open d (cond t (x b) (y b)).buffer.line ≡ true → is_open d b.line ≡ true
      by_opens d b true = there.opens d b
      by_opens d b false = here.opens d b

      by_limited : (b : Buffer) (t : Bool) (m : ℤ) (n : ℕ) → 0 < operations_left (cond t (x b) (y b)).buffer.max_ops
          → operations_left b.max_ops < operations_left m + operations_left (cond t (x b) (y b)).buffer.max_ops
          → LeavesAlike b m n (cond t (x b) (y b)) (cond t (x (with_limits m n b)) (y (with_limits m n b)))
      by_limited b true = there.limited b
      by_limited b false = here.limited b

      by_parts : (q : ℕ) (b : Buffer) (t : Bool) → IsRise c q b → HasBetween low c (cond t (x b) (y b)).buffer.line → TellsOpen c (cond t (x b) (y b))
          → ToldInParts (cond t (x b) (y b)) (cond t (x (front_part q b)) (y (front_part q b))) (cond t (x (back_part q b)) (y (back_part q b)))
      by_parts q b true = there.parts q b
      by_parts q b false = here.parts q b

-- the run in the order of a coverage
pub ordered_steady : (z : Sizes) → 0 < z.slots → (kind : SubtableKind) (low c : ℕ) (on : ℕ → Bool) (coverage : Coverage) → PartsBetween z kind low c on → PartsBetweenAtFall z kind low c on
    → IsSteady low c (closing_ordered z on coverage kind)
ordered_steady z slots kind low c on coverage at_rise at_fall =
    named_steady low c coverage (turned (may_split kind) (closing_run z on kind)) (closing_run z on kind)
    (turned_steady low c (closing_run z on kind) (may_split kind) (falls z slots kind low c on at_rise at_fall)) (rises z slots kind low c on at_rise at_fall)

-- lists of subtables
pub lists_leave_parts_about : ListsLeavePartsAbout
lists_leave_parts_about z low c subtables slots alike =
    steady_leave_parts (λ (s : (ℕ → Bool) × Coverage × SubtableKind). closing_ordered z s.0 s.1 s.2) low c subtables
    (λ k d within. let s = slice_index_or subtables k d in let about = alike k d within in
    ordered_steady z slots s.2 low c s.0 s.1 (parts_at_rise z slots s.2 low c s.0 about) (parts_at_fall z slots s.2 low c s.0 about))
