-- What the calls inside the crate tell.
use Rattle.std.specs.Prelude.{◌≡◌, ◌⊎◌, ◌<◌, ◌++◌, All, false, true, IsSomeAnd, List, [], ◌∷◌, length, Option}
use Rattle.aat_glyph.specs.declared.glyph.hb_glyph_info_t.{hb_glyph_info_t}
use Rattle.aat_trace.specs.Told.{IsInTurn, IsPart, IsReplayed, Told, newly_marked, tells}
use Rattle.aat_trace.specs.declared.telling.SubtableTurns.{SubtableTurns}
use Rattle.aat_trace.specs.declared.traced.Trace.{Trace}
use Rattle.aat_trace.specs.declared.traced.TracedSubtable.{TracedSubtable}

-- what is told of a subtable that found some glyphs and left others
abbrev pub told_by : SubtableTurns → List hb_glyph_info_t → List hb_glyph_info_t → Told
told_by run before after = record {
  chain = run.chain;
  subtable = run.subtable;
  is_run = run.is_run;
  is_reversed = run.is_reversed;
  turns = run.turns;
  before = before;
  after = after;
  marks = newly_marked before after;
}

-- the acts that are told of a subtable lead on, and are of its turns
pub record IsActed (t : TracedSubtable) : Type 0 where
  pub replayed : IsReplayed t
  pub in_turn : IsInTurn t

abbrev pub AreActed : Trace → Type 0
AreActed t = All IsActed t.subtables.items

-- a subtable is left out of a trace, which says so
pub record IsLeftOut (old new : Trace) : Type 0 where
  pub same : new.subtables.items ≡ old.subtables.items
  pub said : new.is_incomplete ≡ true

-- a subtable is taken into a trace, behind the others
pub record IsTaken (old new : Trace) (t : TracedSubtable) : Type 0 where
  pub added : new.subtables.items ≡ old.subtables.items ++ t ∷ []
  pub said : new.is_incomplete ≡ old.is_incomplete

-- what is told of a subtable is taken in, if there is any, or the subtable is left out
abbrev pub IsAdded : Trace → Trace → Option TracedSubtable → Type 0
IsAdded old new told = IsLeftOut old new ⊎ IsSomeAnd told (IsTaken old new)

-- a trace tells all that is to be told, or lacks some of it, and says which of the two
pub record TellsOf (t : Trace) (all : List Told) : Type 0 where
  pub whole : t.is_incomplete ≡ false → tells t ≡ all
  pub part : IsPart (tells t) all
  pub missing : t.is_incomplete ≡ true → length t.subtables.items < length all

-- what is told in a trace behind what was told before: of these subtables besides
pub record TellsMore (old new : Trace) (more : List Told) : Type 0 where
  pub told : (all : List Told) → TellsOf old all → TellsOf new (all ++ more)
  pub acts : AreActed old → AreActed new
