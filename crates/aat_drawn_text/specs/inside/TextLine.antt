-- What substitution under a map leaves of the line of a text, and whether its machines tell what is open.
use Rattle.std.specs.Prelude.{◌==◌, ◌&&◌, Bool, true, List, length, Option, Some, None, if◌then◌else◌}
use Rattle.aat_buffer.specs.Buffer.{Buffer}
use Rattle.aat_closing.specs.ClosingApplied.{closing_applied_by}
use Rattle.aat_font.specs.declared.face.hb_font_t.{hb_font_t}
use Rattle.aat_kinds.specs.Kinds.{sizes_for}
use Rattle.aat_map.specs.Map.{list_at}
use Rattle.aat_morx.specs.Applying.{applied_by}
use Rattle.aat_run.specs.declared.driver.MachineRun.{MachineRun}
use Rattle.aat_run.specs.declared.ranges.range_flags_t.{range_flags_t}

-- a map gives its first chain one range; without a map each chain has one
abbrev pub gives_one_range : Option (List (List range_flags_t)) → Bool
gives_one_range None = true
gives_one_range (Some m) = length (list_at m 0) == 1

-- what substitution leaves, which closes where that is asked
abbrev pub substituted_so : Bool → hb_font_t → Option (List (List range_flags_t)) → Buffer → Buffer
substituted_so closes face m b =
    if closes then (closing_applied_by (sizes_for face) face m b).buffer
    else (applied_by (sizes_for face) face m b).buffer

-- whether it closes, and its machines tell what is open
abbrev pub tells_so : Bool → hb_font_t → Option (List (List range_flags_t)) → Buffer → Bool
tells_so closes face m b = closes && (closing_applied_by (sizes_for face) face m b).is_told

-- whether closing runs told; nothing was run without the table
abbrev pub told_by : Option MachineRun → Bool
told_by None = true
told_by (Some run) = run.is_through
