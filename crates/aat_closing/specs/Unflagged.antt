-- What is the same but for the flags of the glyphs, which say where a line can be broken. (No chapter of the manual: these
-- marks are the shaper's own.)
use Rattle.std.specs.Prelude.{◌≡◌, ℕ, Bool, bit_and, List, map}
use Rattle.aat_buffer.specs.Buffer.{Buffer, with_line}
use Rattle.aat_glyph.specs.declared.glyph.hb_glyph_info_t.{hb_glyph_info_t}
use Rattle.aat_run.specs.Context.{Config, Moved}
use Rattle.aat_machine_tables.specs.declared.morx.Coverage.{Coverage}
use Rattle.aat_machine_tables.specs.declared.morx.SubtableKind.{SubtableKind}
use Rattle.aat_run.specs.Outcome.{Outcome, in_order}
use Rattle.aat_map.specs.SwitchedChains.{SwitchedChain}
use Rattle.aat_kinds.specs.Kinds.{Sizes, kind_run, ordered_run}
use Rattle.aat_morx.specs.Substitution.{substituted}
use Rattle.aat_closing.specs.ClosingChains.{closing_substituted}
use Rattle.aat_closing.specs.ClosingRuns.{Told, closing_ordered, closing_run, told_in_order}

-- a glyph without the DEFINED flags (7)
abbrev pub unflagged : hb_glyph_info_t → hb_glyph_info_t
unflagged g = record g { mask = bit_and g.mask 0xFFFFFFF8 }

-- a line without them
abbrev pub bare : List hb_glyph_info_t → List hb_glyph_info_t
bare line = map unflagged line

-- a buffer without them, what an act leaves, and where a run stands
abbrev pub erased : Buffer → Buffer
erased b = with_line b (bare b.line)

abbrev pub erased_left : {R : Type 0} → Moved R → Moved R
erased_left m = record m { buffer = erased m.buffer }

abbrev pub erased_config : {R : Type 0} → Config R → Config R
erased_config c = record c { buffer = erased c.buffer }

-- two buffers are one but for the flags of their glyphs
pub record SameButFlags (a b : Buffer) : Type 0 where
  pub line : map unflagged a.line ≡ map unflagged b.line
  pub rest : a ≡ record b { line = a.line }

-- two acts leave the same but for the flags, whatever flags stood before
abbrev pub AreBlind : {R E : Type 0} → (E → R → Buffer → Moved R) → (E → R → Buffer → Moved R) → Type 0
AreBlind {R} {E} act other =
    (e : E) (r : R) (a b : Buffer) → SameButFlags a b
    → ((act e r a).registers ≡ (other e r b).registers) × SameButFlags (act e r a).buffer (other e r b).buffer

-- an act does not look at the flags
abbrev pub IsBlind : {R E : Type 0} → (E → R → Buffer → Moved R) → Type 0
IsBlind act = AreBlind act act

-- runs left the same but for the flags, in the same number of turns
abbrev pub LeftAlike : Outcome → Outcome → Type 0
LeftAlike o other = SameButFlags o.buffer other.buffer × (o.turns ≡ other.turns)

-- two runs leave that, whatever flags stood before
abbrev pub IsBlindRun : (Buffer → Outcome) → (Buffer → Outcome) → Type 0
IsBlindRun run other = (a b : Buffer) → SameButFlags a b → LeftAlike (run a) (other b)

-- a run that tells what is open left what a run leaves, but for the flags, in the same number of turns
pub record ToldAlike (o : Told) (other : Outcome) : Type 0 where
  pub buffer : SameButFlags o.buffer other.buffer
  pub turns : o.turns ≡ other.turns

-- and so it does of each buffer, whatever flags stood before
abbrev pub IsBlindTold : (Buffer → Told) → (Buffer → Outcome) → Type 0
IsBlindTold run other = (a b : Buffer) → SameButFlags a b → ToldAlike (run a) (other b)

-- what closes changes the flags alone: the closing run of each subtable leaves what its run leaves, but for them
abbrev pub ClosingFlagsAlone : Type 0
ClosingFlagsAlone =
    (z : Sizes) (on : ℕ → Bool) (kind : SubtableKind) → IsBlindTold (closing_run z on kind) (kind_run z on kind)

-- and so do those of subtables one after another, each in the order of its coverage
abbrev pub ListsFlagAlone : Type 0
ListsFlagAlone =
    (z : Sizes) (subtables : List ((ℕ → Bool) × Coverage × SubtableKind))
    → IsBlindTold (told_in_order (λ s. closing_ordered z s.0 s.1 s.2) subtables)
    (in_order (λ s. ordered_run s.1 (kind_run z s.0 s.2)) subtables)

-- and so do those of all chains: they leave what substitution leaves, but for the flags
abbrev pub ChainsFlagAlone : Type 0
ChainsFlagAlone =
    (z : Sizes) (chains : List SwitchedChain) → IsBlindTold (closing_substituted z chains) (substituted z chains)
