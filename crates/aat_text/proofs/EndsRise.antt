-- The places where lines of a text may end rise, and are within it.
use Rattle.std.proofs.Common.{◌≡◌, ℕ, ◌+◌, ◌<◌, ◌≤◌, true, List, [], ◌∷◌, map, Some, None, sym, ap, subst, ◌∙◌, arith}
use Rattle.std.proofs.Math.Utf8.{scalars}
use Rattle.std.proofs.lemmas.List.Elements.{All-cons, All-nil}
use Rattle.std.proofs.lemmas.List.Kept.{AllPairs-cons}
use Rattle.std.proofs.lemmas.Str.{encodes-chars, scalars-chars}
use Rattle.std.specs.List.{All, AllPairs, concat, cons_option}
use Rattle.std.specs.Prelude.{encode_utf8_all}
use Rattle.aat_text.specs.LineEnds.{end_between, line_end, line_ends, role_at_end, role_at_start}
use Rattle.aat_text.specs.Places.{count_in}
use Rattle.aat_text.specs.TextLaws.{LineEndsRise}
use Rattle.aat_text.specs.declared.lines.LineEnd.{LineEnd}
use Rattle.aat_text.specs.declared.role.Ending.{Ending}
use Rattle.aat_text.specs.declared.role.Ending.TheVariants.{Never, Allowed, Forced}
use Rattle.aat_text.specs.declared.role.LineRole.{LineRole}
use Rattle.aat_text.specs.declared.unit.ClusterUnit.{ClusterUnit}
use Rattle.aat_text.proofs.Pieces.{AreSome, clusters_as_characters, count-append, count_some, scalars-parts}
use Rattle.aat_text.proofs.Placed.{ends_at_start, ends_from}

-- places that rise above one and stay below another
abbrev RiseWithin : ℕ → ℕ → List LineEnd → Type 0
RiseWithin low high [] = Unit {0}
RiseWithin low high (e ∷ ends) = (low < e.place) × (e.place < high) × RiseWithin e.place high ends

-- and so above a lower one
rise_lower : (low place high : ℕ) (ends : List LineEnd) → low ≤ place → RiseWithin place high ends → RiseWithin low high ends
rise_lower low place high [] le h = tt
rise_lower low place high (e ∷ ends) le h = (omega (arith, h.0), h.1, h.2)

-- an end at a place, if there is one, and then those above it
rise_behind : (low place high : ℕ) (ending : Ending) (ends : List LineEnd) → low < place → place < high → RiseWithin place high ends
    → RiseWithin low high (cons_option (line_end place ending) ends)
rise_behind low place high Never ends below within h = rise_lower low place high ends (omega arith) h
rise_behind low place high Allowed ends below within h = (below, within, h)
rise_behind low place high Forced ends below within h = (below, within, h)

ends_rise : (unit : ClusterUnit) (role : LineRole) (low place high : ℕ) (pieces : List (List ℕ)) → AreSome pieces → scalars (concat pieces) ≡ true
    → low < place → place + count_in unit (encode_utf8_all (concat pieces)) ≤ high → RiseWithin low high (ends_from unit (Some role) place (map encode_utf8_all pieces))
ends_rise unit role low place high [] some s below within = tt
ends_rise unit role low place high (piece ∷ pieces) some s below within =
    let bytes = encode_utf8_all piece in
    let parts = scalars-parts piece (concat pieces) s in
    let one = count_some unit piece parts.0 some.0 in
    let all = count-append unit piece (concat pieces) s in
    rise_behind low place high (end_between role (role_at_start bytes)) _ below (omega arith)
    (ends_rise unit (role_at_end bytes) place (place + count_in unit bytes) high pieces some.1 parts.1 (omega arith) (omega arith))

ends_rise_at_start : (unit : ClusterUnit) (high : ℕ) (pieces : List (List ℕ)) → AreSome pieces → scalars (concat pieces) ≡ true
    → count_in unit (encode_utf8_all (concat pieces)) ≤ high → RiseWithin 0 high (ends_from unit None 0 (map encode_utf8_all pieces))
ends_rise_at_start unit high [] some s within = tt
ends_rise_at_start unit high (piece ∷ pieces) some s within =
    let bytes = encode_utf8_all piece in
    let parts = scalars-parts piece (concat pieces) s in
    let one = count_some unit piece parts.0 some.0 in
    let all = count-append unit piece (concat pieces) s in
    ends_rise unit (role_at_end bytes) 0 (0 + count_in unit bytes) high pieces some.1 parts.1 (omega arith) (omega arith)

-- each is above the one and below the other
all_within : (low high : ℕ) (ends : List LineEnd) → RiseWithin low high ends → All (λ e. (low < e.place) × (e.place < high)) ends
all_within low high [] h = All-nil (λ e. (low < e.place) × (e.place < high))
all_within low high (e ∷ ends) h =
    All-cons (λ e. (low < e.place) × (e.place < high)) e ends (h.0, h.1) (all_within low high ends (rise_lower low e.place high ends (omega (arith, h.0)) h.2))

-- and above those before it
pairs_rise : (low high : ℕ) (ends : List LineEnd) → RiseWithin low high ends → AllPairs (λ a b. a.place < b.place) ends
pairs_rise low high [] h = λ i j d lt within. absurd (omega arith)
pairs_rise low high (e ∷ ends) h =
    AllPairs-cons (λ a b. a.place < b.place) e ends (λ k d within. (all_within e.place high ends h.2 k d within).0) (pairs_rise e.place high ends h.2)

pub line_ends_rise : LineEndsRise
line_ends_rise unit text u =
    let made = clusters_as_characters text in
    let s : scalars (concat made.0) ≡ true = ap scalars made.2 ∙ scalars-chars text u in
    let all : count_in unit (encode_utf8_all (concat made.0)) ≡ count_in unit text = ap (λ cs. count_in unit (encode_utf8_all cs)) made.2 ∙ ap (count_in unit) (encodes-chars text u) in
    let same : ends_from unit None 0 (map encode_utf8_all made.0) ≡ line_ends unit text = ends_at_start unit text _ (sym made.1) in
    let rise = ends_rise_at_start unit (count_in unit text) made.0 made.3 s (omega arith) in
    let risen : RiseWithin 0 (count_in unit text) (line_ends unit text) = subst (RiseWithin 0 (count_in unit text)) same rise in
    (pairs_rise 0 (count_in unit text) (line_ends unit text) risen, all_within 0 (count_in unit text) (line_ends unit text) risen)
