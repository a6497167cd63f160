-- The laws of an act, which a run asks for, and what a run keeps.
use Rattle.std.specs.Prelude.{◌≡◌, ℕ, ◌+◌, ◌<◌, ◌≤◌, Bool, true, false, length, None}
use Rattle.aat_buffer.specs.Buffer.{Buffer}
use Rattle.aat_machine_tables.specs.Entries.{goes_on}
use Rattle.aat_machine_tables.specs.declared.state_table.GenericStateEntry.{GenericStateEntry}
use Rattle.aat_run.specs.Budget.{potential, extent}
use Rattle.aat_run.specs.Context.{Moved, Context, Config}
use Rattle.aat_run.specs.Machine.{Turn, IsWholeRun}
use Rattle.aat_run.specs.Outcome.{Outcome}
use Rattle.aat_buffer.specs.Clusters.{ClustersMerge, IsRisingLine, IsFallingLine, ComesFrom}

-- what no act touches
pub record SameSettings (old new : Buffer) : Type 0 where
  pub direction : new.direction ≡ old.direction
  pub cluster_level : new.cluster_level ≡ old.cluster_level
  pub flags : new.flags ≡ old.flags
  pub scratch_flags : new.scratch_flags ≡ old.scratch_flags
  pub max_len : new.max_len ≡ old.max_len
  pub successful : new.successful ≡ old.successful

-- passing a glyph keeps the fit
abbrev pub PassesFit : {R : Type 0} → (R → ℕ → ℕ → Type 0) → Type 0
PassesFit {R} fits = (r : R) (p n : ℕ) → fits r p n → p < n → fits r (p + 1) n

-- these registers fit at the front of each line
abbrev pub FitsFresh : {R : Type 0} → (R → ℕ → ℕ → Type 0) → R → Type 0
FitsFresh fits fresh = (n : ℕ) → fits fresh 0 n

-- all fresh registers fit at the front
abbrev pub FitsWhereFresh : {R : Type 0} → (R → Type 0) → (R → ℕ → ℕ → Type 0) → Type 0
FitsWhereFresh {R} is_fresh fits = (r : R) → is_fresh r → FitsFresh fits r

-- all registers fit everywhere
abbrev pub FitsAlways : {R : Type 0} → R → ℕ → ℕ → Type 0
FitsAlways r p n = Unit {0}

module _ {R E : Type 0} (act : E → R → Buffer → Moved R) (fits : R → ℕ → ℕ → Type 0) where
  -- an act that leaves the cursor below the length keeps the fit
  abbrev pub KeepsFit : Type 0
  KeepsFit =
      (e : E) (r : R) (b : Buffer) → fits r b.cursor (length b.line)
      → (act e r b).buffer.cursor < length (act e r b).buffer.line
      → fits (act e r b).registers (act e r b).buffer.cursor (length (act e r b).buffer.line)

  -- no act adds to the potential
  abbrev pub Pays : Type 0
  Pays = (e : E) (r : R) (b : Buffer) → fits r b.cursor (length b.line) → potential (act e r b).buffer ≤ potential b

  -- nor to length and budget
  abbrev pub Bounded : Type 0
  Bounded = (e : E) (r : R) (b : Buffer) → fits r b.cursor (length b.line) → extent (act e r b).buffer ≤ extent b

  -- no act shortens the line
  abbrev pub Lengthens : Type 0
  Lengthens =
      (e : E) (r : R) (b : Buffer) → fits r b.cursor (length b.line) → length b.line ≤ length (act e r b).buffer.line

  -- an act in place keeps the length, the cursor and the positions
  abbrev pub KeepsLength : Type 0
  KeepsLength =
      (e : E) (r : R) (b : Buffer) → fits r b.cursor (length b.line) → length (act e r b).buffer.line ≡ length b.line

  abbrev pub KeepsCursor : Type 0
  KeepsCursor = (e : E) (r : R) (b : Buffer) → fits r b.cursor (length b.line) → (act e r b).buffer.cursor ≡ b.cursor

  abbrev pub KeepsPositions : Type 0
  KeepsPositions =
      (e : E) (r : R) (b : Buffer) → fits r b.cursor (length b.line) → (act e r b).buffer.positions ≡ b.positions

  pub record KeepsPlace : Type 0 where
    pub length : KeepsLength
    pub cursor : KeepsCursor
    pub positions : KeepsPositions

  -- the same, where the context is in place
  abbrev pub KeepsPlaceWhere : Bool → Type 0
  KeepsPlaceWhere in_place = in_place ≡ true → KeepsPlace

  -- an act keeps the number of glyphs, where the context does
  abbrev pub KeepsLengthWhere : Bool → Type 0
  KeepsLengthWhere keeps_length = keeps_length ≡ true → KeepsLength

  -- no act makes positions where none stand
  abbrev pub MakesNoPositions : Type 0
  MakesNoPositions =
      (e : E) (r : R) (b : Buffer) → fits r b.cursor (length b.line)
      → b.positions ≡ None → (act e r b).buffer.positions ≡ None

  -- an act changes line, cursor, positions and budget alone
  abbrev pub KeepsSettings : Type 0
  KeepsSettings = (e : E) (r : R) (b : Buffer) → fits r b.cursor (length b.line) → SameSettings b (act e r b).buffer

  -- unless clusters stay apart, an act keeps an order of the clusters along the line
  abbrev pub KeepsRising : Type 0
  KeepsRising =
      (e : E) (r : R) (b : Buffer) → fits r b.cursor (length b.line)
      → ClustersMerge b.cluster_level
      → IsRisingLine b.line → IsRisingLine (act e r b).buffer.line

  abbrev pub KeepsFalling : Type 0
  KeepsFalling =
      (e : E) (r : R) (b : Buffer) → fits r b.cursor (length b.line)
      → ClustersMerge b.cluster_level
      → IsFallingLine b.line → IsFallingLine (act e r b).buffer.line

  -- each cluster behind an act stood on the line before it
  abbrev pub KeepsClusters : Type 0
  KeepsClusters =
      (e : E) (r : R) (b : Buffer) → fits r b.cursor (length b.line)
      → ComesFrom b.line (act e r b).buffer.line

-- an entry that rests, by a test, is actionable by no registers, and its act leaves them and the line as they are
pub record RestsBy {R E : Type 0} (rests : E → Bool) (actionable : E → R → ℕ → ℕ → Bool) (act : E → R → Buffer → Moved R)
    : Type 0
  where
    pub unactionable : (e : E) → rests e ≡ true → (r : R) (p n : ℕ) → actionable e r p n ≡ false
    pub stays : (e : E) → rests e ≡ true → (r : R) (b : Buffer) → act e r b ≡ record { registers = r; buffer = b }

-- entries are actionable exactly where a test says that they may act, and advance unless 0x4000 is set
pub record ActsByEntries {T : Type 0} (may_act advances actionable : GenericStateEntry T → Bool) : Type 0 where
  pub acting : (e : GenericStateEntry T) → actionable e ≡ may_act e
  pub advancing : (e : GenericStateEntry T) → advances e ≡ goes_on e

-- what a run asks of every context
pub record IsLawful {R E : Type 0} (context : Context R E) (fits : R → ℕ → ℕ → Type 0) : Type 0 where
  pub fresh : FitsFresh fits context.fresh
  pub passes_fit : PassesFit fits
  pub keeps_fit : KeepsFit context.act fits
  pub pays : Pays context.act fits
  pub bounded : Bounded context.act fits
  pub lengthens : Lengthens context.act fits
  pub makes_no_positions : MakesNoPositions context.act fits
  pub keeps_settings : KeepsSettings context.act fits

-- what a context in place keeps besides
abbrev pub StaysInPlace : {R E : Type 0} → Context R E → (R → ℕ → ℕ → Type 0) → Type 0
StaysInPlace context fits = KeepsPlace context.act fits

-- a run's turns are at most n + M + 1; length and budget together do not grow, and the line does not get shorter
pub record IsBounded (b : Buffer) (o : Outcome) : Type 0 where
  pub turns : o.turns ≤ extent b + 1
  pub extent : extent o.buffer ≤ extent b
  pub length : length b.line ≤ length o.buffer.line

-- a run may stand here: the registers fit the cursor and the length
abbrev pub Stands : {R : Type 0} → (R → ℕ → ℕ → Type 0) → Config R → Type 0
Stands fits c = fits c.registers c.buffer.cursor (length c.buffer.line)

-- each run by these turns from registers that fit ends by itself, in no more turns than it is given: the potential and
-- one more
abbrev pub RunsEnd : {R : Type 0} → (Config R → Turn (Config R)) → (R → ℕ → ℕ → Type 0) → Type 0
RunsEnd {R} turn fits = (c : Config R) → Stands fits c → IsWholeRun turn (potential c.buffer + 1) c

-- what an act leaves of the clusters, unless clusters stay apart: those that never fall along the line never fall
-- behind it, and those that never rise never rise; at every level each of them stood on the line before
pub record KeepsClusterOrder {R E : Type 0} (act : E → R → Buffer → Moved R) (fits : R → ℕ → ℕ → Type 0) : Type 0 where
  pub rising : KeepsRising act fits
  pub falling : KeepsFalling act fits
  pub clusters : KeepsClusters act fits

-- where something holds, clusters that never fall along the line never fall behind it, and those that never rise never
-- rise; each of them stood on the line, whether it holds or not
pub record KeepsOrderWhere (holds : Type 0) (old new : Buffer) : Type 0 where
  pub rising : holds → IsRisingLine old.line → IsRisingLine new.line
  pub falling : holds → IsFallingLine old.line → IsFallingLine new.line
  pub clusters : ComesFrom old.line new.line

-- what a run leaves of the clusters: an order along the line, unless they stay apart, and each of them stood on the
-- line
abbrev pub HasOrderOf : Buffer → Buffer → Type 0
HasOrderOf old new = KeepsOrderWhere (ClustersMerge old.cluster_level) old new

-- the eleven laws of a context: fresh registers fit, and what its act keeps, whatever the entry, where they fit
pub record MeetsLaws {R E : Type 0} (act : E → R → Buffer → Moved R) (fits : R → ℕ → ℕ → Type 0) (is_fresh : R → Type 0)
    (in_place keeps_length : Bool) : Type 0
  where
    pub fits_fresh : FitsWhereFresh is_fresh fits
    pub keeps_fit : KeepsFit act fits
    pub passes_fit : PassesFit fits
    pub pays : Pays act fits
    pub bounded : Bounded act fits
    pub lengthens : Lengthens act fits
    pub makes_no_positions : MakesNoPositions act fits
    pub keeps_settings : KeepsSettings act fits
    pub keeps_place : KeepsPlaceWhere act fits in_place
    pub keeps_count : KeepsLengthWhere act fits keeps_length
    pub keeps_order : KeepsClusterOrder act fits
