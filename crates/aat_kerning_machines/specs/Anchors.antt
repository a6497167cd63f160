-- The anchor act of kerning machines. TrueType Reference Manual: The 'kerx' table, format 4, and The 'ankr' table.
use Rattle.std.specs.Prelude.{ℕ, ◌<◌, IfSome, ◌&&◌, not, Bool, nat_lt, List, length, pos, ◌-ℤ◌, Option, Some, None, option_map, slice_get, if◌then◌else◌}
use Rattle.std.specs.Int.{int_wrap, w16}
use Rattle.aat_buffer.specs.Buffer.{Buffer, glyph_at}
use Rattle.aat_glyph.specs.declared.glyph.GlyphPosition.{GlyphPosition}
use Rattle.aat_machine_tables.specs.declared.state_table.GenericStateEntry.{GenericStateEntry}
use Rattle.aat_machine_tables.specs.declared.entries.EntryData.{EntryData}
use Rattle.aat_kerning_tables.specs.declared.ankr.Point.{Point}
use Rattle.aat_kerning_tables.specs.AnchorPoints.{Points, point_of}
use Rattle.aat_machine_tables.specs.Entries.{has_flag}
use Rattle.aat_run.specs.Context.{Moved}
use Rattle.aat_kerning_machines.specs.KerningMachine.{Driver, has_action}
use Rattle.aat_kerning_machines.specs.Positions.{on_position, with_attachment_flag, attached_as}

-- the offsets become the marked glyph's point minus the current glyph's, so that the two points meet
abbrev pub with_anchor : Point → Point → GlyphPosition → GlyphPosition
with_anchor marked current q = record q { x_offset = marked.x -ℤ current.x; y_offset = marked.y -ℤ current.y }

-- the current glyph is attached to the marked one as a mark: the chain is the low 16 bits of the way there
abbrev pub attached_to_mark : ℕ → Buffer → Buffer
attached_to_mark mark b =
    with_attachment_flag (on_position (attached_as 1 (int_wrap w16 (pos mark -ℤ pos b.cursor))) b.cursor b)

-- the points of the marked and of the current glyph meet; without anchor points the offsets stay, and None is a missing
-- pair of point indexes. TrueType Reference Manual: The 'ankr' table.
abbrev pub anchored : Option Points → List (ℕ × ℕ) → ℕ → ℕ → Buffer → Option Buffer
anchored None pairs index mark b = Some b
anchored (Some points) pairs index mark b =
    let marked : ℕ → Point = λ i. point_of points (glyph_at b.line mark).glyph_id i in
    let current : ℕ → Point = λ i. point_of points (glyph_at b.line b.cursor).glyph_id i in
    option_map (λ pair. on_position (with_anchor (marked pair.0) (current pair.1)) b.cursor b) (slice_get pairs index)

-- the registers fit where a mark lies within the line
abbrev pub IsFit : Option ℕ → ℕ → ℕ → Type 0
IsFit mark p n = IfSome mark (λ m. m < n)

-- 0x8000 marks the cursor
abbrev pub with_mark : GenericStateEntry EntryData → Option ℕ → ℕ → Option ℕ
with_mark e mark p = if has_flag e 0x8000 then Some p else mark

-- behind the anchors: a missing pair ends the act before the mark
abbrev pub behind_anchors : GenericStateEntry EntryData → Option ℕ → ℕ → Buffer → Option Buffer → Moved (Option ℕ)
behind_anchors e registers mark b None = record { registers = registers; buffer = b }
behind_anchors e registers mark b (Some d) =
    record { registers = with_mark e registers b.cursor; buffer = attached_to_mark mark d }

-- where a mark is set, an index attaches the glyph at the cursor, if one stands there
abbrev pub by_mark :
    Option Points → List (ℕ × ℕ) → GenericStateEntry EntryData → Option ℕ → Buffer → Moved (Option ℕ)
by_mark points pairs e None b = record { registers = with_mark e None b.cursor; buffer = b }
by_mark points pairs e (Some mark) b =
    if has_action e && nat_lt b.cursor (length b.line)
    then behind_anchors e (Some mark) mark b (anchored points pairs e.extra.action_index mark b)
    else record { registers = with_mark e (Some mark) b.cursor; buffer = b }

-- the act of an entry: the attachment, then the mark. TrueType Reference Manual: The 'kerx' table, format 4.
unfoldable pub anchor_act :
    Option Points → List (ℕ × ℕ) → GenericStateEntry EntryData → Option ℕ → Buffer → Moved (Option ℕ)
anchor_act points pairs e mark b = by_mark points pairs e mark b

-- an entry that never acts: it marks no place, and has no index
abbrev pub anchor_rests : GenericStateEntry EntryData → Bool
anchor_rests e = not (has_flag e 0x8000) && not (has_action e)

-- the driver of an anchor subtable, with no mark
abbrev pub anchor_driver : Option Points → List (ℕ × ℕ) → Driver (Option ℕ) (GenericStateEntry EntryData)
anchor_driver points pairs = record {
  fresh = None;
  actionable = has_action;
  act = anchor_act points pairs;
}

-- what a driver holds: the anchor points of the font, where it has them, and the mark
pub record Held : Type 0 where
  pub points : Option Points
  pub mark : Option ℕ

-- these points, with no mark
abbrev pub held_fresh : Option Points → Held
held_fresh points = record { points = points; mark = None }

-- what the mark says of places
abbrev pub held_fit : Held → ℕ → ℕ → Type 0
held_fit h p n = IsFit h.mark p n

-- the act over the points that are held
abbrev pub held_act : List (ℕ × ℕ) → GenericStateEntry EntryData → Held → Buffer → Moved Held
held_act pairs e h b =
    let n = anchor_act h.points pairs e h.mark b in
    record { registers = record h { mark = n.registers }; buffer = n.buffer }
