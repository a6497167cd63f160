-- Examples of substitution as statements over the definitions.
use Rattle.std.specs.Prelude.{◌≡◌, ℕ, true, List, [], ◌∷◌, Some}
use Rattle.aat_buffer.specs.Buffer.{with_zero_positions}
use Rattle.aat_run.specs.Switches.{always_on, by_flags}
use Rattle.aat_map.specs.ChainFlags.{flags_by, nothing_requested}
use Rattle.aat_run.specs.Ranges.{last_cluster}
use Rattle.aat_map.specs.Live.{is_uncut, flags_at_cluster}
use Rattle.aat_map.specs.Requests.{requests_of}
use Rattle.aat_map.specs.SwitchedChains.{SwitchedChain}
use Rattle.aat_morx.specs.Substitution.{substituted}
use Rattle.aat_map.specs.declared.feature.feature_range_t.{feature_range_t}
use Rattle.aat_glyph.specs.declared.glyph.hb_glyph_info_t.{hb_glyph_info_t}
use Rattle.aat_machine_tables.specs.declared.morx.ChainFeature.{ChainFeature}
use Rattle.aat_machine_tables.specs.declared.morx.Subtable.{Subtable}
use Rattle.aat_machine_tables.specs.declared.morx.SubtableKind.TheVariants.{NonContextual}
use Rattle.aat_map.specs.Examples.{ligature_names, liga, ligature_feature}
use Rattle.aat_run.specs.Rows.{glyph, buffer_with, many}
use Rattle.aat_morx.specs.Rows.{sizes}

-- a noncontextual subtable that is on where the chain's flags have their lowest bit
abbrev pub noncontextual_subtable : ℕ → List (ℕ × ℕ) → Subtable
noncontextual_subtable coverage pairs =
    record { kind = NonContextual pairs; coverage = record { 0 = coverage }; feature_flags = 1 }

-- a chain with no feature, where nothing is requested
abbrev pub plain_chain : ℕ → List Subtable → SwitchedChain
plain_chain default_flags subtables =
    record { switch = by_flags true (λ cluster. flags_by nothing_requested default_flags []); subtables = subtables }

-- the line that the rows begin with
abbrev pub line_5_6_5 : List hb_glyph_info_t
line_5_6_5 = glyph 5 0 0 ∷ glyph 6 1 0 ∷ glyph 5 2 0 ∷ []

-- a subtable that is off throughout its chain is not run
abbrev pub OffIsLeftOut : Type 0
OffIsLeftOut =
    substituted sizes (plain_chain 2 (noncontextual_subtable 0x20 ((5, 9) ∷ []) ∷ []) ∷ [])
    (buffer_with line_5_6_5 many)
    ≡ record { buffer = buffer_with line_5_6_5 many; turns = 0 }

-- a subtable for vertical text is not run on a horizontal line
abbrev pub VerticalIsLeftOut : Type 0
VerticalIsLeftOut =
    substituted sizes (plain_chain 1 (noncontextual_subtable 0x80 ((5, 9) ∷ []) ∷ []) ∷ [])
    (buffer_with line_5_6_5 many)
    ≡ record { buffer = buffer_with line_5_6_5 many; turns = 0 }

-- a chain that is always on: 5 becomes 6 by a subtable without feature flags, then 6 becomes 7
abbrev pub always_on_chain : SwitchedChain
always_on_chain = record {
  switch = always_on;
  subtables =
      record (noncontextual_subtable 0x20 ((5, 6) ∷ [])) { feature_flags = 0 }
      ∷ noncontextual_subtable 0x20 ((6, 7) ∷ []) ∷ [];
}

-- where no flags are compiled a subtable is on whatever its feature flags; here two run one after another
abbrev pub AlwaysOnRuns : Type 0
AlwaysOnRuns =
    substituted sizes (always_on_chain ∷ []) (buffer_with line_5_6_5 many)
    ≡ record { buffer = buffer_with (glyph 7 0 0 ∷ glyph 7 1 0 ∷ glyph 7 2 0 ∷ []) many; turns = 6 }

-- where the caller asks for it the whole line gets the mark against joining, also a line of one glyph
abbrev pub WholeLineIsMarked : Type 0
WholeLineIsMarked =
    substituted sizes [] (record (buffer_with (glyph 5 0 0 ∷ []) many) { flags = record { 0 = 64 } })
    ≡ record { buffer = record (buffer_with (glyph 5 0 2 ∷ []) many) { flags = record { 0 = 64 } }; turns = 0 }

-- positions are dropped, also where nothing is substituted
abbrev pub PositionsAreDropped : Type 0
PositionsAreDropped =
    substituted sizes [] (with_zero_positions (buffer_with line_5_6_5 many))
    ≡ record { buffer = buffer_with line_5_6_5 many; turns = 0 }

-- where the font has classes of glyphs a glyph that is replaced gets its new properties, 0 where there are none for it
abbrev pub PropertiesFollowClasses : Type 0
PropertiesFollowClasses =
    substituted (record sizes { classes = Some ((9, 8) ∷ []) })
    (plain_chain 1 (noncontextual_subtable 0x20 ((5, 9) ∷ (6, 7) ∷ []) ∷ []) ∷ [])
    (buffer_with
    (glyph 5 0 0 ∷ record (glyph 6 1 0) { glyph_props = 4 } ∷ record (glyph 4 2 0) { glyph_props = 2 } ∷ [])
    many)
    ≡ record {
      buffer =
          buffer_with
          (record (glyph 9 0 0) { glyph_props = 8 } ∷ glyph 7 1 0 ∷ record (glyph 4 2 0) { glyph_props = 2 } ∷ [])
          many;
      turns = 3;
    }

-- a chain whose flags are asked of requests at each cluster
abbrev pub asked_chain : List feature_range_t → ℕ → List ChainFeature → List Subtable → SwitchedChain
asked_chain requests default_flags features subtables = record {
  switch = by_flags (is_uncut requests) (flags_at_cluster requests default_flags features);
  subtables = subtables;
}

-- row 2: with the common ligatures off over the cluster 1 the glyph there stays
abbrev pub Row2 : Type 0
Row2 =
    substituted sizes (asked_chain (requests_of (Some ligature_names) (liga 0 1 2 ∷ [])) 1 (ligature_feature 3 0 0 ∷ [])
    (noncontextual_subtable 0x20 ((5, 9) ∷ []) ∷ []) ∷ [])
    (buffer_with (glyph 5 0 0 ∷ glyph 5 1 0 ∷ glyph 5 2 0 ∷ []) many)
    ≡ record { buffer = buffer_with (glyph 9 0 0 ∷ glyph 5 1 0 ∷ glyph 9 2 0 ∷ []) many; turns = 3 }

-- row 6: a request up to the last cluster holds there too
abbrev pub Row6 : Type 0
Row6 =
    substituted sizes (asked_chain (requests_of (Some ligature_names) (liga 1 0 last_cluster ∷ [])) 0
    (ligature_feature 2 1 0xFFFFFFFF ∷ []) (noncontextual_subtable 0x20 ((5, 9) ∷ []) ∷ []) ∷ [])
    (buffer_with (glyph 5 last_cluster 0 ∷ []) many)
    ≡ record { buffer = buffer_with (glyph 9 last_cluster 0 ∷ []) many; turns = 1 }
