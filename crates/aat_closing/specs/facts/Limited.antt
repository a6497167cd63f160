-- What a run leaves with another budget and another greatest length.
use Rattle.std.specs.Prelude.{◌≡◌, ℕ, ℤ, ◌+◌, ◌<◌, ◌≤◌}
use Rattle.aat_buffer.specs.Buffer.{Buffer}
use Rattle.aat_run.specs.Budget.{operations_left}
use Rattle.aat_closing.specs.ClosingRuns.{Told}

-- a buffer with another budget and another greatest length
abbrev pub with_limits : ℤ → ℕ → Buffer → Buffer
with_limits y n b = record b { max_ops = y; max_len = n }

-- What one run leaves of b is the line that another one leaves of b with the budget y and the greatest length n, told and
-- turned alike; that one takes no more of its budget, and the buffers that they leave differ in these two alone.
abbrev pub LeavesAlike : Buffer → ℤ → ℕ → Told → Told → Type 0
LeavesAlike b y n o d =
    (d.buffer.line ≡ o.buffer.line)
    × (d.is_told ≡ o.is_told)
    × (operations_left y + operations_left o.buffer.max_ops ≤ operations_left b.max_ops + operations_left d.buffer.max_ops)
    × (d.buffer ≡ with_limits d.buffer.max_ops n o.buffer)
    × (d.turns ≡ o.turns)

-- Where a run leaves some of the budget, and takes less of it than another budget has, it leaves the same line and tells
-- the same with that other one, of which it takes no more, and with any greatest length; the buffers that it leaves differ
-- in these two alone.
abbrev pub LimitedTold : (Buffer → Told) → Type 0
LimitedTold run =
    (b : Buffer) (y : ℤ) (n : ℕ) → 0 < operations_left (run b).buffer.max_ops
    → operations_left b.max_ops < operations_left y + operations_left (run b).buffer.max_ops
    → LeavesAlike b y n (run b) (run (with_limits y n b))
