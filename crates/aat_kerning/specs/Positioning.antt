-- Kerning by all subtables of a table. TrueType Reference Manual: The 'kerx' table and The 'kern' table.
use Rattle.std.specs.Prelude.{All, IsTrue, ℕ, ◌+◌, ◌&&◌, ◌||◌, not, Bool, true, false, List, pos, negsuc, Option, None, map, fold, if◌then◌else◌}
use Rattle.aat_buffer.specs.Buffer.{Buffer, reversed}
use Rattle.aat_buffer.specs.Marks.{unsafe_to_concat}
use Rattle.aat_kerning_tables.specs.Classes.{kerning_by_classes}
use Rattle.aat_kerning_tables.specs.declared.kern.KernKind.{KernKind}
use Rattle.aat_kerning_tables.specs.declared.kern.KernKind.TheVariants as kind
use Rattle.aat_kerning_tables.specs.declared.kern.KernSubtable.{KernSubtable}
use Rattle.aat_kerning_tables.specs.declared.kerx.KerxFormat.{KerxFormat}
use Rattle.aat_kerning_tables.specs.declared.kerx.KerxFormat.TheVariants.{Format0, Format1, Format2, Format2Classes, Format4, Format6, Format6Classes}
use Rattle.aat_kerning_tables.specs.declared.kerx.KerxSubtable.{KerxSubtable}
use Rattle.aat_kerning_tables.specs.AnchorPoints.{Points}
use Rattle.aat_glyph.specs.Directions.{is_horizontal, is_backward}
use Rattle.aat_glyph.specs.declared.glyph.Direction.{Direction}
use Rattle.aat_lookup.specs.Truth.{is_alike}
use Rattle.aat_kerning_machines.specs.KerningMachine.{driver_run}
use Rattle.aat_run.specs.Outcome.{Outcome, untouched}
use Rattle.aat_kerning.specs.PairKerning.{pair_kerning, value_of}
use Rattle.aat_kerning.specs.Pairs.{kerx_skips, kern_skips}
use Rattle.aat_kerning_machines.specs.Positions.{on_positions, attached_as}
use Rattle.aat_kerning_machines.specs.Stack.{kerx_driver, kern_driver}
use Rattle.aat_kerning_machines.specs.Anchors.{anchor_driver}

-- a subtable, as positioning sees it: its coverage, whether it is of pairs, and its run
pub record Kerning : Type 0 where
  pub horizontal : Bool
  pub has_cross_stream : Bool
  pub variable : Bool
  pub is_pairs : Bool
  pub run : Buffer → Outcome

-- what the subtables so far leave, and whether the cursive attachment was made
pub record Positioned : Type 0 where
  pub buffer : Buffer
  pub turns : ℕ
  pub is_attached : Bool

-- All glyphs are attached to the one before them in processing order, which stands behind them in a backward text,
-- whatever they were attached to: an offset across the line then moves all that follow, up to one that resets it.
-- TrueType Reference Manual: The 'kern' table, cross-stream kerning.
abbrev pub cursively_attached : Buffer → Buffer
cursively_attached b = on_positions (attached_as 2 (if is_backward b.direction then pos 1 else negsuc 0)) b

-- a subtable is for this text where it is not variable and is of the text's orientation.
-- TrueType Reference Manual: The 'kern' table and The 'kerx' table, coverage.
abbrev pub is_for_direction : Kerning → Direction → Bool
is_for_direction k direction = not k.variable && is_alike k.horizontal (is_horizontal direction)

abbrev pub is_for_text : Kerning → Buffer → Bool
is_for_text k b = is_for_direction k b.direction

-- one subtable, on a line in processing order: the first that is for this text and has cross-stream attaches, also
-- where it is then skipped, and pairs are kerned only where kerning is requested
unfoldable pub positioned : Bool → Kerning → Positioned → Positioned
positioned requested k s =
    let b = if k.has_cross_stream && not s.is_attached then cursively_attached s.buffer else s.buffer in
    let o = if k.is_pairs && not requested then untouched b else k.run b in
    if is_for_text k s.buffer
    then record { buffer = o.buffer; turns = s.turns + o.turns; is_attached = s.is_attached || k.has_cross_stream }
    else s

-- the line turned round, where asked
abbrev pub turned_round : Bool → Buffer → Buffer
turned_round asked b = if asked then reversed b else b

-- the line in processing order, and back
abbrev pub in_processing_order : Buffer → Buffer
in_processing_order b = turned_round (is_backward b.direction) b

-- all subtables in order
unfoldable pub positioning : Bool → List Kerning → Buffer → Outcome
positioning requested ks b =
    let before : Positioned = record { buffer = in_processing_order b; turns = 0; is_attached = false } in
    let s = fold (λ s k. positioned requested k s) before ks in
    record { buffer = in_processing_order s.buffer; turns = s.turns }

-- the whole line is marked first, where asked
abbrev pub line_marked : Bool → Buffer → Buffer
line_marked asked b = if asked then unsafe_to_concat b None None else b

-- the run of a `kerx` subtable: pairs, of which format 2 marks the whole line first, a stack machine, or an anchor
-- machine. TrueType Reference Manual: The 'kerx' table, formats 0, 1, 2, 4 and 6.
abbrev pub run_of_kerx_subtable : ℕ → Option Points → Bool → ℕ → KerxFormat → Buffer → Outcome
run_of_kerx_subtable kern_mask points is_cross tuple_count (Format0 pairs) b =
    untouched (pair_kerning kerx_skips kern_mask is_cross (value_of pairs) (line_marked false b))
run_of_kerx_subtable kern_mask points is_cross tuple_count (Format1 s) b =
    driver_run false s.state_table (kerx_driver is_cross kern_mask tuple_count s.values) b
run_of_kerx_subtable kern_mask points is_cross tuple_count (Format2 pairs) b =
    untouched (pair_kerning kerx_skips kern_mask is_cross (value_of pairs) (line_marked true b))
run_of_kerx_subtable kern_mask points is_cross tuple_count (Format2Classes pairs) b =
    untouched (pair_kerning kerx_skips kern_mask is_cross (kerning_by_classes pairs) (line_marked true b))
run_of_kerx_subtable kern_mask points is_cross tuple_count (Format4 s) b =
    driver_run false s.state_table (anchor_driver points s.anchor_points) b
run_of_kerx_subtable kern_mask points is_cross tuple_count (Format6 pairs) b =
    untouched (pair_kerning kerx_skips kern_mask is_cross (value_of pairs) (line_marked false b))
run_of_kerx_subtable kern_mask points is_cross tuple_count (Format6Classes pairs) b =
    untouched (pair_kerning kerx_skips kern_mask is_cross (kerning_by_classes pairs) (line_marked false b))

-- whether a `kerx` subtable is of pairs
abbrev pub is_kerx_pairs : KerxFormat → Bool
is_kerx_pairs (Format0 pairs) = true
is_kerx_pairs (Format1 s) = false
is_kerx_pairs (Format2 pairs) = true
is_kerx_pairs (Format2Classes pairs) = true
is_kerx_pairs (Format4 s) = false
is_kerx_pairs (Format6 pairs) = true
is_kerx_pairs (Format6Classes pairs) = true

-- all of these are of pairs
abbrev pub AreKerxPairs : List KerxSubtable → Type 0
AreKerxPairs subtables = All (λ s. IsTrue (is_kerx_pairs s.format)) subtables

-- whether a `kerx` subtable takes the line turned round, which stands in processing order: a machine from last to first
-- does, pairs never do. TrueType Reference Manual: The 'kerx' table, process direction.
abbrev pub is_turned_round : Bool → KerxFormat → Bool
is_turned_round is_last_to_first format = not (is_kerx_pairs format) && is_last_to_first

-- a run over the line turned round, where asked, which is turned back behind it
abbrev pub run_turned_round : Bool → (Buffer → Outcome) → Buffer → Outcome
run_turned_round asked run b =
    let o = run (turned_round asked b) in record { buffer = turned_round asked o.buffer; turns = o.turns }

-- a `kerx` subtable, as positioning sees it
abbrev pub kerning_of_kerx_subtable : ℕ → Option Points → KerxSubtable → Kerning
kerning_of_kerx_subtable kern_mask points s = record {
  horizontal = s.horizontal;
  has_cross_stream = s.has_cross_stream;
  variable = s.variable;
  is_pairs = is_kerx_pairs s.format;
  run =
      run_turned_round (is_turned_round s.is_last_to_first s.format)
      (run_of_kerx_subtable kern_mask points s.has_cross_stream s.tuple_count s.format);
}

-- kerning by a `kerx` table: the whole line is marked first
unfoldable pub kerx_positioning : Bool → ℕ → Option Points → List KerxSubtable → Buffer → Outcome
kerx_positioning requested kern_mask points subtables b =
    positioning requested (map (kerning_of_kerx_subtable kern_mask points) subtables) (unsafe_to_concat b None None)

-- the run of a `kern` subtable: pairs, which mark the whole line first, or a stack machine. TrueType Reference
-- Manual: The 'kern' table, formats 0 to 3.
abbrev pub run_of_kern_subtable : ℕ → Bool → KernKind → Buffer → Outcome
run_of_kern_subtable kern_mask is_cross (kind.Pairs pairs) b =
    untouched (pair_kerning kern_skips kern_mask is_cross (value_of pairs) (line_marked true b))
run_of_kern_subtable kern_mask is_cross (kind.Classes pairs) b =
    untouched (pair_kerning kern_skips kern_mask is_cross (kerning_by_classes pairs) (line_marked true b))
run_of_kern_subtable kern_mask is_cross (kind.Machine s) b =
    driver_run true s.state_table (kern_driver is_cross kern_mask s.values) b

-- whether a `kern` subtable is of pairs
abbrev pub is_kern_pairs : KernKind → Bool
is_kern_pairs (kind.Pairs pairs) = true
is_kern_pairs (kind.Classes pairs) = true
is_kern_pairs (kind.Machine s) = false

-- all of these are of pairs
abbrev pub AreKernPairs : List KernSubtable → Type 0
AreKernPairs subtables = All (λ s. IsTrue (is_kern_pairs s.kind)) subtables

-- a `kern` subtable, as positioning sees it
abbrev pub kerning_of_kern_subtable : ℕ → KernSubtable → Kerning
kerning_of_kern_subtable kern_mask s = record {
  horizontal = s.horizontal;
  has_cross_stream = s.has_cross_stream;
  variable = s.variable;
  is_pairs = is_kern_pairs s.kind;
  run = run_of_kern_subtable kern_mask s.has_cross_stream s.kind;
}

-- kerning by a `kern` table
unfoldable pub kern_positioning : Bool → ℕ → List KernSubtable → Buffer → Outcome
kern_positioning requested kern_mask subtables b =
    positioning requested (map (kerning_of_kern_subtable kern_mask) subtables) b
