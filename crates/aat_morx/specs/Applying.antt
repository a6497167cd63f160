-- What a run of the table under a map leaves, and why it is refused.
use Rattle.std.specs.Prelude.{◌≡◌, true, false, List, Option}
use Rattle.aat_buffer.specs.Buffer.{Buffer}
use Rattle.aat_font.specs.Face.{chains_in, tables_of}
use Rattle.aat_font.specs.declared.face.hb_font_t.{hb_font_t}
use Rattle.aat_kinds.specs.Kinds.{Sizes}
use Rattle.aat_map.specs.Map.{lists_for}
use Rattle.aat_map.specs.SwitchedChains.{switched_by}
use Rattle.aat_morx.specs.Substitution.{substituted}
use Rattle.aat_run.specs.Driven.{IsRefusal}
use Rattle.aat_run.specs.Outcome.{Outcome}
use Rattle.aat_run.specs.declared.error.AatError.{AatError}
use Rattle.aat_run.specs.declared.error.AatError.TheVariants.{BufferFailed}
use Rattle.aat_run.specs.declared.ranges.range_flags_t.{range_flags_t}

-- what all chains of a font leave, each switched by its list of a map
abbrev pub applied : Sizes → hb_font_t → List (List range_flags_t) → Buffer → Outcome
applied z face lists b = substituted z (switched_by (chains_in (tables_of face).morx) lists) b

-- the same by a map, and without one by the default flags of the chains
abbrev pub applied_by : Sizes → hb_font_t → Option (List (List range_flags_t)) → Buffer → Outcome
applied_by z face m b = applied z face (lists_for m (chains_in (tables_of face).morx)) b

-- given the line that substitution leaves of a buffer: a buffer that had failed, before all else; and then why a run
-- is refused that leaves this line
abbrev pub RefusesRun : Buffer → Buffer → AatError → Type 0
RefusesRun old left BufferFailed = old.successful ≡ false
RefusesRun old left error = (old.successful ≡ true) × IsRefusal old left error
