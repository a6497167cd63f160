-- Why a table is refused.
use Rattle.std.specs.Prelude.{◌≡◌, ◌<◌, ℕ, Option, Some, None, option_map}
use Rattle.aat_lookup.specs.declared.error.TableError.{TableError}
use Rattle.aat_lookup.specs.declared.error.TableError.TheVariants.{NotRising, FewClasses, ClassOutOfRange, TooManySubtables, OutOfMemory}

-- the numbers of the errors
abbrev pub number_of_table_error : TableError → ℕ
number_of_table_error (NotRising place) = 1
number_of_table_error FewClasses = 2
number_of_table_error (ClassOutOfRange place) = 3
number_of_table_error TooManySubtables = 4
number_of_table_error OutOfMemory = 5

-- why a list that has to rise makes no table, given the place of its first fall: the fall, and want of memory only
-- where there is none
abbrev pub RefusesRising : Option ℕ → TableError → Type 0
RefusesRising fall (NotRising place) = fall ≡ Some place
RefusesRising fall FewClasses = ⊥
RefusesRising fall (ClassOutOfRange place) = ⊥
RefusesRising fall TooManySubtables = ⊥
RefusesRising fall OutOfMemory = fall ≡ None

-- why a list that has to rise and is kept as it is makes no table, given the place of its first fall: the fall, and no
-- other reason
abbrev pub RefusesFall : Option ℕ → TableError → Type 0
RefusesFall fall e = option_map NotRising fall ≡ Some e

-- why no state table is made, given its first fault: the fault, and want of memory only where there is none
abbrev pub RefusesFault : Option TableError → TableError → Type 0
RefusesFault fault (NotRising place) = fault ≡ Some (NotRising place)
RefusesFault fault FewClasses = fault ≡ Some FewClasses
RefusesFault fault (ClassOutOfRange place) = fault ≡ Some (ClassOutOfRange place)
RefusesFault fault TooManySubtables = ⊥
RefusesFault fault OutOfMemory = fault ≡ None

-- why no table of subtables is made, given their number: there are more than 65,535, and no other reason
abbrev pub RefusesMany : ℕ → TableError → Type 0
RefusesMany count e = (e ≡ TooManySubtables) × (65535 < count)
