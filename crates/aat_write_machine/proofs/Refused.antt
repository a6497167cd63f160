-- What is known where something is refused.
use Rattle.std.proofs.Common.{◌≡◌, Some, Result, Err, ap}
use Rattle.aat_machine_tables.specs.Table.{TableValue}
use Rattle.aat_machine_tables.specs.declared.state_table.GenericStateEntry.{GenericStateEntry}
use Rattle.aat_write_machine.specs.MachineRefusals.{rules_refusal}
use Rattle.aat_write_machine.specs.Machines.{class_table_written}
use Rattle.aat_write_machine.specs.MorxWriteErrors.{RefusesWithin, after_written, of_lookup, unless_refused}
use Rattle.aat_write_machine.specs.declared.error.MorxWriteError.{MorxWriteError}
use Rattle.aat_write_machine.specs.declared.error.MorxWriteError.TheVariants.{FewClasses, TooManyRules, OutOfPlace, NoRow, NotNamed, NotRising, TooManyPairs, LookupCount, TooManyLookups, TooLong, OutOfMemory}
use Rattle.aat_write_machine.specs.Lookups.{lookup_written}

-- an error refuses what has it
pub refuses : {X : Type 0} (written : Result X MorxWriteError) (e : MorxWriteError) → written ≡ Err e → RefusesWithin written e
refuses written FewClasses is = is
refuses written TooManyRules is = is
refuses written (OutOfPlace place) is = is
refuses written (NoRow place) is = is
refuses written (NotNamed state) is = is
refuses written (NotRising place) is = is
refuses written TooManyPairs is = is
refuses written (LookupCount count) is = is
refuses written TooManyLookups is = is
refuses written TooLong is = is
refuses written OutOfMemory is = tt

-- rules that are refused make no class table
pub rules_are_refused :
    {T : Type 0} (t : TableValue (GenericStateEntry T)) (e : MorxWriteError)
    → rules_refusal t.class_count t.rules ≡ Some e → class_table_written t ≡ Err e
rules_are_refused t e is = ap (λ o. unless_refused o (of_lookup (lookup_written t.classes))) is

-- what refuses a part refuses the whole, where the whole has the part's error
pub refuses_whole :
    {X Y : Type 0} (part : Result X MorxWriteError) (whole : Result Y MorxWriteError) (e : MorxWriteError)
    → ((f : MorxWriteError) → part ≡ Err f → whole ≡ Err f) → RefusesWithin part e → RefusesWithin whole e
refuses_whole part whole FewClasses carried is = carried FewClasses is
refuses_whole part whole TooManyRules carried is = carried TooManyRules is
refuses_whole part whole (OutOfPlace place) carried is = carried (OutOfPlace place) is
refuses_whole part whole (NoRow place) carried is = carried (NoRow place) is
refuses_whole part whole (NotNamed state) carried is = carried (NotNamed state) is
refuses_whole part whole (NotRising place) carried is = carried (NotRising place) is
refuses_whole part whole TooManyPairs carried is = carried TooManyPairs is
refuses_whole part whole (LookupCount count) carried is = carried (LookupCount count) is
refuses_whole part whole TooManyLookups carried is = carried TooManyLookups is
refuses_whole part whole TooLong carried is = carried TooLong is
refuses_whole part whole OutOfMemory carried is = tt

-- what refuses a part refuses what comes of it
pub refused_behind :
    {X Y : Type 0} (part : Result X MorxWriteError) (next : X → Result Y MorxWriteError) (e : MorxWriteError)
    → RefusesWithin part e → RefusesWithin (after_written part next) e
refused_behind {X = X} part next e is =
    refuses_whole part (after_written part next) e (λ f refused. ap (λ (r : Result X MorxWriteError). after_written r next) refused) is
