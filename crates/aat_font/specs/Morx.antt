-- What an extended glyph metamorphosis table holds.
use Rattle.std.specs.Prelude.{List}
use Rattle.aat_machine_tables.specs.declared.morx.Chain.{Chain}
use Rattle.aat_font.specs.declared.morx.Morx.{Morx}

-- the chains in their order
abbrev pub chains_of : Morx → List Chain
chains_of m = m.chains.items
