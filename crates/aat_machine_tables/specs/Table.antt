-- State tables as total functions. Apple's TrueType Reference Manual, "Font Tables", section on state tables.
use Rattle.std.specs.Prelude.{ℕ, ◌+◌, ◌*◌, List, if◌then◌else◌, ◌==◌, nat_lt, nat_le, Some, None, Option, option_map, position}
use Rattle.std.specs.Option.{option_or}
use Rattle.aat_lookup.specs.Keys.{first, first_fall, value_in, at_key}
use Rattle.aat_lookup.specs.declared.error.TableError.{TableError}
use Rattle.aat_lookup.specs.declared.error.TableError.TheVariants.{NotRising, FewClasses, ClassOutOfRange}

-- a rule: state, class and entry
abbrev pub Rule : Type 0 → Type 0
Rule E = ℕ × ℕ × E

-- what a state table has: the number of its classes, the classes of glyphs, and its rules
pub record TableValue (E : Type 0) : Type 0 where
  pub class_count : ℕ
  pub classes : List (ℕ × ℕ)
  pub rules : List (Rule E)

-- the table that has these
abbrev pub table_value : {E : Type 0} → ℕ → List (ℕ × ℕ) → List (Rule E) → TableValue E
table_value class_count classes rules = record { class_count = class_count; classes = classes; rules = rules }

-- rules rise by state, then by class
abbrev pub rule_key : {E : Type 0} → Rule E → ℕ
rule_key r = r.0 * 65536 + r.1

-- the class of a glyph, if it has one. Four classes have a fixed meaning: 0 is the end of the text, 1 out of bounds,
-- for glyphs that have no other, 2 the deleted glyph, and 3 the end of a line. A machine deletes a glyph by making it
-- glyph 0xFFFF, and that glyph has class 2 whatever is listed for it
abbrev pub class_of : {E : Type 0} → TableValue E → ℕ → Option ℕ
class_of t g = if g == 65535 then Some 2 else value_in t.classes g

-- a class at or above the count is taken as 1, out of bounds
abbrev pub known_class : ℕ → ℕ → ℕ
known_class count k = if nat_lt k count then k else 1

-- the entry of a state and class, if there is a rule
abbrev pub entry_of : {E : Type 0} → TableValue E → ℕ → ℕ → Option E
entry_of t s k = option_map (λ r. r.2) (at_key rule_key t.rules (s * 65536 + known_class t.class_count k))

-- the place of the first rule whose class is not below the count
abbrev pub first_out_of_range : {E : Type 0} → ℕ → List (Rule E) → Option ℕ
first_out_of_range count rules = position (λ r. nat_le count r.1) rules

-- the earlier of a fall and a class out of range; the fall where both are at one place
abbrev pub earlier_fault : Option ℕ → Option ℕ → Option TableError
earlier_fault None None = None
earlier_fault None (Some place) = Some (ClassOutOfRange place)
earlier_fault (Some fall) None = Some (NotRising fall)
earlier_fault (Some fall) (Some place) =
    if nat_lt place fall then Some (ClassOutOfRange place) else Some (NotRising fall)

-- the first fault of rules: one that is not above the one before it, or whose class is not below the count
abbrev pub rules_fault : {E : Type 0} → ℕ → List (Rule E) → Option TableError
rules_fault count rules = earlier_fault (first_fall rule_key rules) (first_out_of_range count rules)

-- the first fault of a number of classes and rules, where the classes are a lookup: too few classes, then the rules
abbrev pub count_and_rules_fault : {E : Type 0} → ℕ → List (Rule E) → Option TableError
count_and_rules_fault count rules = if nat_lt count 4 then Some FewClasses else rules_fault count rules

-- the first fault of what is to be a state table: too few classes, then a fall of the glyphs, then the rules
abbrev pub table_fault : {E : Type 0} → ℕ → List (ℕ × ℕ) → List (Rule E) → Option TableError
table_fault count classes rules =
    if nat_lt count 4 then Some FewClasses
    else option_or (option_map NotRising (first_fall first classes)) (rules_fault count rules)
