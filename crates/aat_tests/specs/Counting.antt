-- A context in place that counts, and marks a mask.
use Rattle.std.specs.Prelude.{◌≡◌, ℕ, Bool, ◌+◌, ◌&&◌, length, min, nat_lt, bit_or, if◌then◌else◌}
use Rattle.aat_buffer.specs.Buffer.{Buffer, glyph_at, with_info}
use Rattle.aat_machine_tables.specs.Entries.{is_present}
use Rattle.aat_machine_tables.specs.declared.state_table.GenericStateEntry.{GenericStateEntry}
use Rattle.aat_run.specs.Context.{Moved}
use Rattle.aat_tests.specs.declared.counting.CountingCtx.{CountingCtx}

-- an entry, whose extra is the number of an act
abbrev pub Entry : Type 0
Entry = GenericStateEntry ℕ

-- nothing is counted yet
abbrev pub IsFresh : CountingCtx → Type 0
IsFresh r = r.count ≡ 0

-- an entry with a number acts at each glyph
abbrev pub actionable : Entry → CountingCtx → ℕ → ℕ → Bool
actionable e r p n = is_present e.extra && nat_lt p n

-- the glyph at the cursor gets the bit 256
abbrev pub masked : Buffer → Buffer
masked b =
    with_info b b.cursor (record (glyph_at b.line b.cursor) { mask = bit_or (glyph_at b.line b.cursor).mask 256 })

-- an act is counted, and marks its glyph
abbrev pub act : Entry → CountingCtx → Buffer → Moved CountingCtx
act e r b =
    if actionable e r b.cursor (length b.line)
    then record { registers = record { count = min (r.count + 1) 0xFFFFFFFF }; buffer = masked b }
    else record { registers = r; buffer = b }
