-- The numbers of what is found, and how much harm it tells of.
use Rattle.std.specs.Prelude.{ℕ, ◌==◌, ◌||◌, Bool, true, false, if◌then◌else◌}
use Rattle.aat_check.specs.declared.fact.Fact.{Fact}
use Rattle.aat_check.specs.declared.fact.Fact.TheVariants.{TableFault, LeftOut, KernBesideGpos, KerxBesideGpos, PointsWithoutAnkr, MortAlone, RowFalls, ReachesPast, ClassesFault, Stays, MissingEntry, NotSettled, UnreachedState, UnusedRule, ClassesAlike, UnnamedLookup, MayStay, NeverOn, NameWithoutChain, SettingWithoutName, ExclusiveSettings, ValuePast, KeyPast, ListsDeleted, Grows, UnmadeLigature, DeletedStays, DeletedReturns, DeletedGoesIn, ListedPast, MarkInPair}
use Rattle.aat_check.specs.declared.fact.Severity.{Severity}
use Rattle.aat_check.specs.declared.fact.Severity.TheVariants.{Error, Warning, Note}

-- the number of what is found: 1 to 8 are of tables, 10 to 19 of machines, 20 to 23 of chains and names, 30 to 36 of
-- glyphs, and 40 of pairs
abbrev pub number_of : Fact → ℕ
number_of (TableFault _) = 1
number_of (LeftOut _) = 2
number_of KernBesideGpos = 3
number_of KerxBesideGpos = 3
number_of PointsWithoutAnkr = 4
number_of MortAlone = 5
number_of (RowFalls _) = 6
number_of ReachesPast = 7
number_of (ClassesFault _) = 8
number_of Stays = 10
number_of MissingEntry = 11
number_of (NotSettled _) = 12
number_of (UnreachedState _) = 13
number_of (UnusedRule _) = 14
number_of (ClassesAlike _ _) = 15
number_of (UnnamedLookup _ _) = 16
number_of MayStay = 17
number_of Grows = 18
number_of (UnmadeLigature _ _) = 19
number_of NeverOn = 20
number_of NameWithoutChain = 21
number_of (SettingWithoutName _ _) = 22
number_of (ExclusiveSettings _ _) = 23
number_of (ValuePast _ _) = 30
number_of (KeyPast _) = 31
number_of ListsDeleted = 32
number_of (DeletedStays _) = 33
number_of (DeletedReturns _) = 34
number_of (DeletedGoesIn _) = 35
number_of (ListedPast _ _) = 36
number_of (MarkInPair _ _ _) = 40

-- the font does not do what it is made for: a table is not read, a machine stays, has no entry or puts glyphs in without
-- end, two settings exclude one another, or glyphs become ones that are not there
abbrev pub is_error : ℕ → Bool
is_error n = (n == 1) || (n == 10) || (n == 11) || (n == 18) || (n == 23) || (n == 30) || (n == 36)

-- a part of the font does nothing, or not everywhere: a subtable, rows, classes of GDEF, states, a lookup, or what is
-- listed for glyphs that are not there
abbrev pub is_warning : ℕ → Bool
is_warning n = (n == 2) || (n == 6) || (n == 7) || (n == 8) || (n == 13) || (n == 16) || (n == 20) || (n == 31)

-- how much harm a number tells of
abbrev pub severity_of : ℕ → Severity
severity_of n = if is_error n then Error else if is_warning n then Warning else Note

-- an error or a warning, and no note
abbrev pub is_above_note : Severity → Bool
is_above_note Error = true
is_above_note Warning = true
is_above_note Note = false

-- what is found is an error or a warning
abbrev pub is_trouble : Fact → Bool
is_trouble fact = is_above_note (severity_of (number_of fact))
