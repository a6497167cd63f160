-- The chains of an extended glyph metamorphosis table.
use Rattle.std.specs.Prelude.{ℕ, List, vec_len, sum_by}
use Rattle.aat_machine_tables.specs.declared.morx.Chain.{Chain}

-- the number of subtables of all chains
abbrev pub subtable_count : List Chain → ℕ
subtable_count chains = sum_by (λ c. vec_len c.subtables) chains
