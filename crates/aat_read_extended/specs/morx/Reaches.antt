-- How far the subtables of a chain may reach.
use Rattle.std.specs.Prelude.{ℕ, ◌*◌, ◌/◌, if◌then◌else◌, ◌==◌}

-- how many bytes behind its own end a subtable may use, in a chain of a size: a fourth of the size, shared equally by
-- so many subtables. Fonts have lists that reach behind their subtable; HarfBuzz lets them reach to the end of the table
unfoldable pub allowance : ℕ → ℕ → ℕ
allowance size subtable_count = if subtable_count == 0 then 0 else size / (4 * subtable_count)
