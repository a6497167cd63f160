-- What maps, requests and plans make of a font's chains. Apple's TrueType Reference Manual, "The 'morx' table",
-- chain header and feature subtables.
use Rattle.std.specs.Prelude.{Bool, List, [], ◌∷◌, map, if◌then◌else◌}
use Rattle.aat_run.specs.Switches.{Switch, always_on, by_flags}
use Rattle.aat_map.specs.Live.{is_uncut, flags_at_cluster}
use Rattle.aat_run.specs.Ranges.{switch_for}
use Rattle.aat_map.specs.Requests.{requests_of}
use Rattle.aat_font.specs.Face.{tables_of}
use Rattle.aat_map.specs.declared.feature.feature_range_t.{feature_range_t}
use Rattle.aat_run.specs.declared.ranges.range_flags_t.{range_flags_t}
use Rattle.aat_machine_tables.specs.declared.morx.Chain.{Chain}
use Rattle.aat_font.specs.declared.face.hb_font_t.{hb_font_t}
use Rattle.aat_font.specs.declared.plan.hb_ot_shape_plan_t.{hb_ot_shape_plan_t}
use Rattle.aat_machine_tables.specs.declared.morx.Subtable.{Subtable}

-- a chain's subtables with how they are switched
pub record SwitchedChain : Type 0 where
  pub switch : Switch
  pub subtables : List Subtable

-- a chain that is switched in some way
abbrev pub with_switch : Switch → Chain → SwitchedChain
with_switch switch c = record { switch = switch; subtables = c.subtables.items }

-- chains that are switched by the lists of a map: one without a list is as one without a range, and lists past the
-- chains are not read
abbrev pub switched_by : List Chain → List (List range_flags_t) → List SwitchedChain
switched_by [] lists = []
switched_by (c ∷ cs) [] = with_switch (switch_for []) c ∷ switched_by cs []
switched_by (c ∷ cs) (l ∷ ls) = with_switch (switch_for l) c ∷ switched_by cs ls

-- a chain that is switched by requests: at each cluster by its flags there
abbrev pub switched_at : List feature_range_t → Chain → SwitchedChain
switched_at requests c =
    with_switch (by_flags (is_uncut requests) (flags_at_cluster requests c.default_flags c.features.items)) c

-- chains that are switched by requests
abbrev pub by_requests : List feature_range_t → List Chain → List SwitchedChain
by_requests requests chains = map (switched_at requests) chains

-- chains that are switched by requests, or where the plan does not ask for that, always on
abbrev pub switched : Bool → List feature_range_t → List Chain → List SwitchedChain
switched applies requests chains = if applies then by_requests requests chains else map (with_switch always_on) chains

-- the requests that a plan makes of a font
abbrev pub plan_requests : hb_ot_shape_plan_t → hb_font_t → List feature_range_t
plan_requests plan face = requests_of (tables_of face).feat plan.user_features.items
