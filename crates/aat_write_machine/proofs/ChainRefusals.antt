-- What a call gives that writes a table, from what its parts give.
use Rattle.std.proofs.Common.{ℕ, List, map, Result, Ok, Err, sym, ap, subst}
use Rattle.std.specs.declared.vec.Vec.{Vec}
use Rattle.aat_machine_tables.specs.declared.morx.Chain.{Chain}
use Rattle.aat_read_extended.specs.morx.Chains.{value_of_chain}
use Rattle.aat_write_machine.specs.MorxWriteErrors as subtables
use Rattle.aat_write_machine.specs.declared.error.MorxWriteError.{MorxWriteError}
use Rattle.aat_write_machine.specs.declared.error.MorxWriteError.TheVariants.{FewClasses, TooManyRules, OutOfPlace, NoRow, NotNamed, NotRising, TooManyPairs, LookupCount, TooManyLookups, TooLong, OutOfMemory}
use Rattle.aat_write_machine.specs.ChainBytes.{ChainContent}
use Rattle.aat_write_machine.specs.ChainWriteErrors.{RefusesWithin, Writes, WritesWithin, error_of_subtable}
use Rattle.aat_write_machine.specs.MorxBytes.{chain_content, contents_written, each_written, morx_written}
use Rattle.aat_write_machine.specs.declared.chain_error.ChainWriteError.{ChainWriteError}
use Rattle.aat_write_machine.specs.declared.chain_error.ChainWriteError.TheVariants as errors
use Rattle.aat_write_machine.proofs.EachWritten.{each_made}

-- what refuses a subtable refuses the table
refused_by :
    (contents : Result (List ChainContent) MorxWriteError) (e : MorxWriteError)
    → subtables.RefusesWithin contents e → RefusesWithin (contents_written contents) (error_of_subtable e)
refused_by contents FewClasses is = ap contents_written is
refused_by contents TooManyRules is = ap contents_written is
refused_by contents (OutOfPlace place) is = ap contents_written is
refused_by contents (NoRow place) is = ap contents_written is
refused_by contents (NotNamed state) is = ap contents_written is
refused_by contents (NotRising place) is = ap contents_written is
refused_by contents TooManyPairs is = ap contents_written is
refused_by contents (LookupCount count) is = ap contents_written is
refused_by contents TooManyLookups is = ap contents_written is
refused_by contents TooLong is = ap contents_written is
refused_by contents OutOfMemory is = tt

pub refused :
    (chains : List Chain) (e : MorxWriteError)
    → subtables.RefusesWithin (each_written (λ c. chain_content (value_of_chain c)) chains) e
    → RefusesWithin (morx_written (map value_of_chain chains)) (error_of_subtable e)
refused chains e is =
    subst (λ (r : Result (List ChainContent) MorxWriteError). RefusesWithin (contents_written r) (error_of_subtable e))
    (sym (each_made value_of_chain chain_content chains))
    (refused_by (each_written (λ c. chain_content (value_of_chain c)) chains) e is)

-- want of memory only where there is no error is want of memory
pub within :
    {Z : Type 0} (result : Result (Vec ℕ Z) ChainWriteError) (written : Result (List ℕ) ChainWriteError)
    → Writes result written → WritesWithin result written
within (Ok out) written is = is
within (Err (errors.Subtable e)) written is = is
within (Err errors.TooLong) written is = is
within (Err errors.TooManySubtables) written is = is
within (Err errors.OutOfMemory) written is = tt
