-- What is known of a layout that is read, whatever the bytes say.
use Rattle.std.proofs.Common.{◌≡◌, ℕ, ◌+◌, ◌-◌, ◌*◌, ◌≤◌, inl, inr, List, length, Option, Some, None, Result, Ok, Err, Bool, true, false, cond, refl, ap, subst, arith}
use Rattle.std.specs.Prelude.{nat_lt, nat_eq, min, ◌&&◌}
use Rattle.std.proofs.Math.Nat.{min-le_left, mul-le-mul_left, mul-le-mul_right}
use Rattle.std.proofs.lemmas.Bool.{cases_lt, lt-ltb}
use Rattle.aat_bytes.specs.Faults.{after}
use Rattle.aat_bytes.specs.Numbers.{be16}
use Rattle.aat_bytes.specs.declared.error.Fault.{Fault}
use Rattle.aat_bytes.specs.declared.tag.Tag.{Tag}
use Rattle.aat_lookup.specs.Keys.{first}
use Rattle.aat_read_lookup.specs.Layouts.{are_crowded, array_of, checked_units, has_offset, is_terminator, layout_at, record_size, searched_at, sized_array_at, trimmed_array_at, unit_bytes, unit_place, units_at, units_fault, unless_fault, without_terminator}
use Rattle.aat_read_lookup.specs.Segments.{is_long, numbers_size, values_end, values_place, values_size}
use Rattle.aat_read_lookup.specs.declared.layout.Layout.{Layout}
use Rattle.aat_read_lookup.specs.declared.layout.Layout.TheVariants.{Array, Searched}
use Rattle.aat_read_lookup.specs.declared.segment.Segment.{Segment}
use Rattle.aat_read_lookup.specs.declared.segment.ValueKind.{ValueKind}
use Rattle.aat_read_lookup.specs.declared.segment.ValueKind.TheVariants.{Word, Long}
use Rattle.aat_read_lookup.specs.declared.segment.Values.TheVariants.{Each, Bytes}
use Rattle.aat_read_lookup.specs.declared.units.UnitKind.{UnitKind}
use Rattle.aat_read_lookup.specs.declared.units.UnitKind.TheVariants.{SegmentSingle, SegmentArray, Single}
use Rattle.aat_read_lookup.specs.declared.units.Units.{Units}
use Rattle.aat_read_lookup.specs.inside.Sound.{AreInside, AreSound}
use Rattle.aat_read_lookup.proofs.SoundUnits.{sound_units}

-- what is read, if anything is, is so
abbrev pub Holds : {X : Type 0} → (X → Type 0) → Result X Fault → Type 0
Holds P (Ok x) = P x
Holds P (Err fault) = Unit

choice :
    {X : Type 0} (P : X → Type 0) (b : Bool) (x y : Result X Fault)
    → (b ≡ true → Holds P x) → (b ≡ false → Holds P y) → Holds P (cond b x y)
choice P true x y first second = first refl
choice P false x y first second = second refl

followed :
    {X Y : Type 0} (P : X → Type 0) (Q : Y → Type 0) (r : Result X Fault) (k : X → Result Y Fault)
    → Holds P r → ((x : X) → P x → Holds Q (k x)) → Holds Q (after r k)
followed P Q (Ok x) k here each = each x here
followed P Q (Err fault) k here each = tt

unless :
    {X : Type 0} (P : X → Type 0) (o : Option Fault) (x : X) → (o ≡ None → P x) → Holds P (unless_fault o x)
unless P None x here = here refl
unless P (Some fault) x here = tt

-- what is made of it, is so
pub taken :
    {X Y : Type 0} (P : X → Type 0) (Q : Y → Type 0) (r : Result X Fault) (g : X → Y) (y : Y)
    → Holds P r → ((x : X) → P x → Q (g x)) → after r (λ x. Ok (g x)) ≡ Ok y → Q y
taken P Q (Ok x) g y here each is = let same : g x ≡ y = cc in subst Q same (each x here)
taken P Q (Err fault) g y here each is = cc

-- the lesser of two numbers
pub at_most : (b : Bool) (x y most : ℕ) → (b ≡ true → x ≤ most) → (b ≡ false → y ≤ most) → cond b x y ≤ most
at_most true x y most first second = first refl
at_most false x y most first second = second refl

-- a test that failed
pub not_below : (a b : ℕ) → nat_lt a b ≡ false → b ≤ a
not_below a b fails = elim (cases_lt a b) [
  | inl lt ↦ let yes : nat_lt a b ≡ true = lt-ltb a b lt in cc
  | inr ge ↦ ge
]

-- each value has a byte
pub sized_by : (kind : ValueKind) (n : ℕ) → n ≤ numbers_size kind n
sized_by Word n = omega arith
sized_by Long n = omega arith

-- more values are no fewer bytes
more_by : (kind : ValueKind) (m n : ℕ) → m ≤ n → numbers_size kind m ≤ numbers_size kind n
more_by Word m n le = omega (arith, le)
more_by Long m n le = omega (arith, le)

module _ (table : Tag) (bytes : List ℕ) (place : ℕ) (values : ValueKind) where
  -- units that stand inside
  pub record Stand (kind : UnitKind) (units : Units) : Type 0 where
    pub starts : units.start ≡ place
    pub kinds : units.kind ≡ kind
    pub sizes : units.values ≡ values
    pub inside : AreInside bytes units

  fewer : (kind : UnitKind) (units : Units) → Stand kind units → Stand kind (record units { count = units.count - 1 })
  fewer kind units stand =
      let less : units.count - 1 ≤ units.count = omega arith in
      let smaller : units.size * (units.count - 1) ≤ units.size * units.count = mul-le-mul_left units.size less in
      record {
        starts = stand.starts;
        kinds = stand.kinds;
        sizes = stand.sizes;
        inside = record { wide = stand.inside.wide; inside = omega (arith, smaller, stand.inside.inside) };
      }

  one_of : (kind : UnitKind) (b : Bool) (x y : Units) → Stand kind x → Stand kind y → Stand kind (cond b x y)
  one_of kind true x y here other = here
  one_of kind false x y here other = other

  without : (kind : UnitKind) (units : Units) → Stand kind units → Stand kind (without_terminator bytes units)
  without kind units stand =
      one_of kind (nat_eq units.count 0) units _ stand
      (one_of kind (is_terminator bytes units.kind (unit_place units (units.count - 1))) _ units (fewer kind units stand) stand)

  units_stand : (kind : UnitKind) → Holds (Stand kind) (units_at table bytes place kind values)
  unfolding units_at
  units_stand kind =
      let size : ℕ = be16 bytes (place + 2) in
      let count : ℕ = be16 bytes (place + 4) in
      choice (Stand kind) (nat_lt (length bytes) (place + 12)) _ _ (λ past. tt) (λ header.
      choice (Stand kind) (nat_lt size (record_size kind values)) _ _ (λ short. tt) (λ wide.
      choice (Stand kind) (nat_lt (length bytes) (place + 12 + size * count)) _ _ (λ past. tt) (λ inside.
      without kind (record { kind = kind; values = values; start = place; size = size; count = count })
      (record { starts = refl; kinds = refl; sizes = refl; inside = record { wide = not_below size (record_size kind values) wide; inside = not_below (length bytes) (place + 12 + size * count) inside } }))))

  -- units that are sound
  pub record AreRead (kind : UnitKind) (units : Units) : Type 0 where
    pub stand : Stand kind units
    pub sound : AreSound bytes units

  units_read : (kind : UnitKind) → Holds (AreRead kind) (checked_units table bytes place kind values)
  unfolding checked_units
  units_read kind =
      followed (Stand kind) (AreRead kind) (units_at table bytes place kind values) _ (units_stand kind) (λ units stand.
      unless (AreRead kind) (units_fault table bytes units) units (λ none.
      record { stand = stand; sound = sound_units table bytes units stand.inside none }))

  -- the records of units stand inside
  room :
      (kind : UnitKind) (units : Units) → AreRead kind units
      → place + 12 + record_size units.kind units.values * units.count ≤ length bytes
  room kind units read =
      let smaller : record_size units.kind units.values * units.count ≤ units.size * units.count =
      mul-le-mul_right units.count read.stand.inside.wide in
      omega (arith, smaller, read.stand.inside.inside, read.stand.starts)

  -- units without offsets are read from their records
  one_value_inside : (kind : UnitKind) (units : Units) → AreRead kind units → has_offset units.kind ≡ false → unit_bytes bytes units ≤ length bytes - place
  one_value_inside kind units read one =
      let fit = room kind units read in
      rw one (omega (arith, fit))

  -- the bytes of units stand behind their place
  bytes_inside : (kind : UnitKind) (units : Units) → AreRead kind units → are_crowded bytes units ≡ false → unit_bytes bytes units ≤ length bytes - place
  bytes_inside SegmentSingle units read roomy = one_value_inside SegmentSingle units read (ap has_offset read.stand.kinds)
  bytes_inside Single units read roomy = one_value_inside Single units read (ap has_offset read.stand.kinds)
  bytes_inside SegmentArray units read roomy =
      let many : has_offset units.kind ≡ true = ap has_offset read.stand.kinds in
      let few : unit_bytes bytes units ≤ length bytes - units.start =
      not_below (length bytes - units.start) (unit_bytes bytes units)
      (subst (λ (b : Bool). (b && nat_lt (length bytes - units.start) (unit_bytes bytes units)) ≡ false) many roomy) in
      subst (λ (p : ℕ). unit_bytes bytes units ≤ length bytes - p) read.stand.starts few

  -- what is known of a layout
  abbrev pub IsRead : Layout → Type 0
  IsRead (Array segment) =
      (segment.count ≤ values_size segment.values segment.count)
      × (values_size segment.values segment.count ≤ length bytes - place)
  IsRead (Searched units) = AreSound bytes units × (unit_bytes bytes units ≤ length bytes - place)

  array_read :
      (segment : Segment)
      → place ≤ values_place segment.values
      → ((n : ℕ) → n ≤ values_size segment.values n)
      → ((m n : ℕ) → m ≤ n → values_size segment.values m ≤ values_size segment.values n)
      → Holds IsRead (array_of table bytes segment)
  unfolding array_of
  array_read segment behind sized more =
      choice IsRead (nat_lt (length bytes) (values_end segment)) _ _ (λ past. tt) (λ fits.
      let inside : values_place segment.values + values_size segment.values segment.count ≤ length bytes =
      not_below (length bytes) (values_end segment) fits in
      let count : ℕ = min segment.count (65536 - segment.first) in
      let fewer : values_size segment.values (min segment.count (65536 - segment.first)) ≤ values_size segment.values segment.count =
      more (min segment.count (65536 - segment.first)) segment.count (min-le_left segment.count (65536 - segment.first)) in
      (sized (min segment.count (65536 - segment.first)), omega (arith, inside, fewer, behind)))

  searched_read : (kind : UnitKind) → Holds IsRead (searched_at table bytes place kind values)
  unfolding searched_at
  searched_read kind =
      followed (AreRead kind) IsRead (checked_units table bytes place kind values) _ (units_read kind) (λ units read.
      choice IsRead (are_crowded bytes units) _ _ (λ crowded. tt) (λ roomy. (read.sound, bytes_inside kind units read roomy)))

  trimmed_read : Holds IsRead (trimmed_array_at table bytes place values)
  unfolding trimmed_array_at
  trimmed_read =
      choice IsRead (nat_lt (length bytes) (place + 6)) _ _ (λ past. tt) (λ header.
      array_read (record { first = be16 bytes (place + 2); count = be16 bytes (place + 4); values = Each values (place + 6) }) (omega arith) (sized_by values) (more_by values))

  sized_read : Holds IsRead (sized_array_at table bytes place values)
  unfolding sized_array_at
  sized_read =
      let size : ℕ = be16 bytes (place + 2) in
      let start : ℕ = be16 bytes (place + 4) in
      let count : ℕ = be16 bytes (place + 6) in
      choice IsRead (nat_lt (length bytes) (place + 8)) _ _ (λ past. tt) (λ header.
      choice IsRead (nat_eq size 1) _ _
      (λ one. array_read (record { first = start; count = count; values = Bytes (place + 8) }) (omega arith) (λ n. omega arith) (λ m n le. omega (arith, le))) (λ more.
      choice IsRead (nat_eq size 2) _ _
      (λ two. array_read (record { first = start; count = count; values = Each Word (place + 8) }) (omega arith) (sized_by Word) (more_by Word)) (λ not_2.
      choice IsRead (is_long values && nat_eq size 4) _ _
      (λ four. array_read (record { first = start; count = count; values = Each Long (place + 8) }) (omega arith) (sized_by Long) (more_by Long)) (λ other. tt))))

  pub layout_read : (glyph_count : ℕ) → Holds IsRead (layout_at table bytes place glyph_count values)
  unfolding layout_at
  layout_read glyph_count =
      let format : ℕ = be16 bytes place in
      choice IsRead (nat_lt (length bytes) (place + 2)) _ _ (λ past. tt) (λ header.
      choice IsRead (nat_eq format 0) _ _
      (λ here. array_read (record { first = 0; count = glyph_count; values = Each values (place + 2) }) (omega arith) (sized_by values) (more_by values)) (λ not_0.
      choice IsRead (nat_eq format 2) _ _ (λ here. searched_read SegmentSingle) (λ not_2.
      choice IsRead (nat_eq format 4) _ _ (λ here. searched_read SegmentArray) (λ not_4.
      choice IsRead (nat_eq format 6) _ _ (λ here. searched_read Single) (λ not_6.
      choice IsRead (nat_eq format 8) _ _ (λ here. trimmed_read) (λ not_8.
      choice IsRead (nat_eq format 10) _ _ (λ here. sized_read) (λ not_10. tt)))))))
