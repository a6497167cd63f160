-- What closing all chains of a font under a map leaves. TrueType Reference Manual: The 'morx' table.
use Rattle.std.specs.Prelude.{List, Option}
use Rattle.aat_buffer.specs.Buffer.{Buffer}
use Rattle.aat_font.specs.Face.{chains_in, tables_of}
use Rattle.aat_font.specs.declared.face.hb_font_t.{hb_font_t}
use Rattle.aat_kinds.specs.Kinds.{Sizes}
use Rattle.aat_map.specs.Map.{lists_for}
use Rattle.aat_map.specs.SwitchedChains.{switched_by}
use Rattle.aat_run.specs.declared.ranges.range_flags_t.{range_flags_t}
use Rattle.aat_closing.specs.ClosingChains.{closing_substituted}
use Rattle.aat_closing.specs.ClosingRuns.{Told}

-- what the closing runs of all chains of a font leave, each switched by its list of a map
abbrev pub closing_applied : Sizes → hb_font_t → List (List range_flags_t) → Buffer → Told
closing_applied z face lists b = closing_substituted z (switched_by (chains_in (tables_of face).morx) lists) b

-- the same by a map, and without one by the default flags of the chains
abbrev pub closing_applied_by : Sizes → hb_font_t → Option (List (List range_flags_t)) → Buffer → Told
closing_applied_by z face m b = closing_applied z face (lists_for m (chains_in (tables_of face).morx)) b
