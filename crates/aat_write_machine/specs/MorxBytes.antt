-- A table of chains as bytes. Apple's TrueType Reference Manual, "The 'morx' table".
use Rattle.std.specs.Prelude.{ℕ, List, [], ◌∷◌, Result, Ok, Err}
use Rattle.aat_machine_tables.specs.declared.morx.Subtable.{Subtable}
use Rattle.aat_read_extended.specs.morx.Chains.{ChainValue}
use Rattle.aat_write_machine.specs.MorxWriteErrors.{after_written}
use Rattle.aat_write_machine.specs.SubtableKinds.{kind_number, kind_written}
use Rattle.aat_write_machine.specs.declared.error.MorxWriteError.{MorxWriteError}
use Rattle.aat_write_machine.specs.ChainBytes.{ChainContent, SubtableContent, chains_written}
use Rattle.aat_write_machine.specs.ChainWriteErrors.{error_of_subtable}
use Rattle.aat_write_machine.specs.declared.chain_error.ChainWriteError.{ChainWriteError}

-- what is written of each of some things, or the first error
abbrev pub each_written : {X Y : Type 0} → (X → Result Y MorxWriteError) → List X → Result (List Y) MorxWriteError
each_written write [] = Ok []
each_written write (x ∷ xs) = after_written (write x) (λ y. after_written (each_written write xs) (λ ys. Ok (y ∷ ys)))

-- a subtable with the bytes of what it does, or why it is not written
abbrev pub subtable_content : Subtable → Result SubtableContent MorxWriteError
subtable_content s = after_written (kind_written s.kind) (λ body. Ok (record {
  kind = kind_number s.kind;
  coverage = s.coverage;
  feature_flags = s.feature_flags;
  body = body;
}))

-- a chain with the bytes of its subtables, or why one of them is not written
abbrev pub chain_content : ChainValue → Result ChainContent MorxWriteError
chain_content c = after_written (each_written subtable_content c.subtables) (λ subtables. Ok (record {
  default_flags = c.default_flags;
  features = c.features;
  subtables = subtables;
}))

-- the bytes of chains whose subtables are written, or the first error of a subtable
abbrev pub contents_written : Result (List ChainContent) MorxWriteError → Result (List ℕ) ChainWriteError
contents_written (Ok chains) = chains_written chains
contents_written (Err e) = Err (error_of_subtable e)

-- the bytes of a table, or why it is not written
abbrev pub morx_written : List ChainValue → Result (List ℕ) ChainWriteError
morx_written chains = contents_written (each_written chain_content chains)
