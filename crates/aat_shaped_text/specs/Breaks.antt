-- Where a text may be broken between two glyphs that are drawn side by side. (No chapter of the manual: where a line
-- may be broken is the shaper's own.)
use Rattle.std.specs.Prelude.{ℕ, ◌+◌, ◌-◌, ◌==◌, ◌&&◌, ◌||◌, not, Bool, true, nat_le, nat_lt, bit_and, bit_or, List, ◌∷◌, [], is_some, length, take, drop, take_while, reverse, filter, fold, map, if◌then◌else◌}
use Rattle.std.specs.List.{list_any, list_all, prefix_len, range_with_len}
use Rattle.std.specs.Option.{option_map_or}
use Rattle.aat_buffer.specs.Marks.{cluster_at}
use Rattle.aat_buffer.specs.Removal.{is_deleted}
use Rattle.aat_glyph.specs.declared.glyph.Direction.{Direction}
use Rattle.aat_glyph.specs.declared.glyph.GlyphPosition.{GlyphPosition}
use Rattle.aat_glyph.specs.declared.glyph.hb_glyph_info_t.{hb_glyph_info_t}
use Rattle.aat_font.specs.Face.{chains_in, kern_in, kerx_in, tables_of}
use Rattle.aat_font.specs.declared.face.hb_font_t.{hb_font_t}
use Rattle.aat_machine_tables.specs.declared.morx.Chain.{Chain}
use Rattle.aat_machine_tables.specs.declared.morx.Subtable.{Subtable}
use Rattle.aat_font.specs.declared.plan.Feature.{Feature}
use Rattle.aat_run.specs.Switches.{meets}
use Rattle.aat_map.specs.Live.{is_uncut}
use Rattle.aat_map.specs.Requests.{requests_of}
use Rattle.aat_kinds.specs.Kinds.{is_for}
use Rattle.aat_kerning.specs.Pairs.{kern_skips, kerx_skips}
use Rattle.aat_kerning.specs.Positioning.{Kerning, is_for_direction, kerning_of_kern_subtable, kerning_of_kerx_subtable}
use Rattle.aat_glyph.specs.placement.Attachments.{parent}
use Rattle.aat_closing.specs.ClosingCuts.{is_noncontextual}
use Rattle.aat_shaped_text.specs.TextFeatures.{ask_evenly}
use Rattle.aat_shaped_text.specs.declared.breaks.BreakRules.{BreakRules}
use Rattle.aat_shaped_text.specs.declared.text.TextGlyph.{TextGlyph}

-- the flags that a chain can come to have in a text: its default ones, and where the text asks for features also those
-- that its own features set
abbrev pub possible_flags : List Feature → Chain → ℕ
possible_flags [] c = c.default_flags
possible_flags (f ∷ features) c = fold (λ flags f. bit_or flags f.enable_flags) c.default_flags c.features.items

-- under these flags a subtable is noncontextual, or not for texts of a direction, or nothing switches it on
abbrev pub keeps_apart : Direction → ℕ → Subtable → Bool
keeps_apart d flags s =
    is_noncontextual s.kind || not (is_for d s.coverage) || not (meets flags s.feature_flags)

-- each subtable of the font's extended glyph metamorphosis table is so, under the features of a text
abbrev pub substitutes_apart : hb_font_t → Direction → List Feature → Bool
substitutes_apart face d features =
    list_all (λ c. list_all (keeps_apart d (possible_flags features c)) c.subtables.items)
    (chains_in (tables_of face).morx)

-- a subtable of kerning is not for texts of a direction, or kerns pairs along the line
abbrev pub kerns_pairs_along : Direction → Kerning → Bool
kerns_pairs_along d k = not (is_for_direction k d) || (k.is_pairs && not k.has_cross_stream)

-- the subtables of the kerning table that is in use, under the kern mask 8
abbrev pub kernings_of : hb_font_t → List Kerning
kernings_of face =
    if is_some (tables_of face).kerx
    then map (kerning_of_kerx_subtable 8 (tables_of face).ankr) (kerx_in (tables_of face).kerx)
    else map (kerning_of_kern_subtable 8) (kern_in (tables_of face).kern)

-- each of them does so
abbrev pub kerns_apart : hb_font_t → Direction → Bool
kerns_apart face d = list_all (kerns_pairs_along d) (kernings_of face)

-- texts of a direction are kerned, and by pairs along the line alone: one of them at least is for these texts
abbrev pub kerns_by_pairs : hb_font_t → Direction → Bool
kerns_by_pairs face d = list_any (λ k. is_for_direction k d) (kernings_of face) && kerns_apart face d

-- the glyph props that the kerning table in use skips
abbrev pub skips_of : hb_font_t → ℕ
skips_of face = if is_some (tables_of face).kerx then kerx_skips else kern_skips

-- the features of a text give each chain one range, or each subtable substitutes its glyphs apart
abbrev pub substitutes_evenly : hb_font_t → Direction → List Feature → Bool
substitutes_evenly face d features =
    is_uncut (requests_of (tables_of face).feat features) || substitutes_apart face d features

-- clusters never fall along a text
abbrev pub is_rising : List TextGlyph → Bool
is_rising [] = true
is_rising (g ∷ []) = true
is_rising (g ∷ h ∷ text) = not (nat_lt h.cluster g.cluster) && is_rising (h ∷ text)

-- a glyph has the cluster of the one at place i of a line
abbrev pub shares_cluster : List hb_glyph_info_t → ℕ → hb_glyph_info_t → Bool
shares_cluster line i g = g.cluster == cluster_at line i

-- the glyphs in a row from place i on that share its cluster
abbrev pub run_from : List hb_glyph_info_t → ℕ → List hb_glyph_info_t
run_from line i = take_while (shares_cluster line i) (drop i line)

-- the glyphs in a row up to place i that share its cluster, from the last to the first
abbrev pub run_up_to : List hb_glyph_info_t → ℕ → List hb_glyph_info_t
run_up_to line i = take_while (shares_cluster line i) (reverse (take (i + 1) line))

-- of the two clusters that meet before place i, the glyphs of the one that comes later in the text
abbrev pub later_run : List hb_glyph_info_t → ℕ → List hb_glyph_info_t
later_run line i =
    if nat_lt (cluster_at line (i - 1)) (cluster_at line i) then run_from line i else run_up_to line (i - 1)

-- how many glyphs before place i are not deleted
abbrev pub kept_before : List hb_glyph_info_t → ℕ → ℕ
kept_before line i = length (filter (λ g. not (is_deleted g)) (take i line))

-- how many deleted glyphs of its cluster stand in a row before the glyph at place i
abbrev pub gone_before : List hb_glyph_info_t → ℕ → ℕ
gone_before line i = prefix_len (λ g. is_deleted g && shares_cluster line i g) (reverse (take i line))

-- the place at which the glyph at place i begins, with the deleted glyphs of its cluster in a row before it
abbrev pub front_of : List hb_glyph_info_t → ℕ → ℕ
front_of line i = i - gone_before line i

-- a glyph is marked UNSAFE_TO_BREAK (1)
abbrev pub is_unsafe : hb_glyph_info_t → Bool
is_unsafe g = not (bit_and g.mask 1 == 0)

-- A line in drawing order, as it stands before deleted glyphs are removed, may be broken before place i: some glyph is
-- kept before it, it starts a cluster, no glyph of the later cluster is marked, and the features ask for the same on
-- both sides, and also between them where substitution is not even.
abbrev pub may_break_at : Bool → List Feature → List hb_glyph_info_t → ℕ → Bool
may_break_at even features line i =
    nat_lt 0 (kept_before line i)
    && not (cluster_at line i == cluster_at line (i - 1))
    && not (list_any is_unsafe (later_run line i))
    && ask_evenly even features (cluster_at line (i - 1)) (cluster_at line i)

-- so it is by these rules
abbrev pub may_break_by : BreakRules → List hb_glyph_info_t → ℕ → Bool
may_break_by rules line i = may_break_at rules.is_even rules.features.now line i

-- no glyph of a line in drawing order from place i on is attached to one before it
abbrev pub is_unchained : Direction → List GlyphPosition → ℕ → Bool
is_unchained d qs i =
    list_all (λ j. option_map_or (nat_le i) (parent d qs j) true) (range_with_len i (length qs - i))
