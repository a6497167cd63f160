-- Units without an offset have no fault, since their values stand in their records.
use Rattle.std.proofs.Common.{◌≡◌, ℕ, zero, suc, ◌+◌, ◌<◌, ◌≤◌, List, ◌∷◌, length, map, Option, None, false, refl, sym, subst, arith}
use Rattle.std.specs.List.{range_with_len}
use Rattle.std.proofs.lemmas.Bool.Decides.{nat_tests}
use Rattle.aat_bytes.specs.declared.error.Fault.{Fault}
use Rattle.aat_bytes.specs.declared.tag.Tag.{Tag}
use Rattle.aat_read_lookup.specs.Layouts.{first_fault, has_offset, record_size, segment_at, unit_fault, unit_fault_at, unit_place, units_fault}
use Rattle.aat_read_lookup.specs.declared.segment.ValueKind.{ValueKind}
use Rattle.aat_read_lookup.specs.declared.units.UnitKind.{UnitKind}
use Rattle.aat_read_lookup.specs.declared.units.UnitKind.TheVariants.{SegmentSingle, SegmentArray, Single}
use Rattle.aat_read_lookup.specs.declared.units.Units.{Units}
use Rattle.aat_read_lookup.specs.inside.Sound.{AreInside}
use Rattle.aat_read_lookup.proofs.UnitPlaces.{record_inside}

all_none :
    (f : ℕ → Option Fault) (a n : ℕ) → ((k : ℕ) → a ≤ k → k < a + n → f k ≡ None)
    → first_fault (map f (range_with_len a n)) ≡ None
all_none f a zero each = refl
all_none f a (suc n) each =
    let head : f a ≡ None = each a (omega arith) (omega arith) in
    let rest = all_none f (a + 1) n (λ k low high. each k (omega arith) (omega arith)) in
    subst (λ (o : Option Fault). first_fault (o ∷ map f (range_with_len (a + 1) n)) ≡ None) (sym head) rest

in_record :
    (table : Tag) (bytes : List ℕ) (kind : UnitKind) (values : ValueKind) (start at : ℕ) → has_offset kind ≡ false
    → at + record_size kind values ≤ length bytes → unit_fault_at table bytes kind at (segment_at bytes kind values start at) ≡ None
in_record table bytes SegmentSingle values start at none inside = grind (arith, nat_tests)
in_record table bytes SegmentArray values start at none inside = cc
in_record table bytes Single values start at none inside = grind (arith, nat_tests)

-- where units have no offset, none has a fault
pub no_faults :
    (table : Tag) (bytes : List ℕ) (units : Units) → AreInside bytes units → has_offset units.kind ≡ false
    → None ≡ units_fault table bytes units
no_faults table bytes units inside none =
    sym (all_none (unit_fault table bytes units) 0 units.count (λ k low high.
    in_record table bytes units.kind units.values units.start (unit_place units k) none
    (record_inside units.start units.size k units.count (record_size units.kind units.values) (length bytes) (omega arith) inside.wide inside.inside)))
