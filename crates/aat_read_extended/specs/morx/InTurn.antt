-- Where a record ends. Apple's TrueType Reference Manual, "The 'morx' table", chain header and
-- metamorphosis subtables.
use Rattle.std.specs.Prelude.{ℕ, ◌+◌, List, length, Result, Ok, Err, if◌then◌else◌, nat_lt}
use Rattle.aat_bytes.specs.Faults.{fault_at}
use Rattle.aat_bytes.specs.Numbers.{be32}
use Rattle.aat_bytes.specs.declared.error.Fault.{Fault}
use Rattle.aat_bytes.specs.declared.error.FaultKind.TheVariants.{PastEnd, ShortLength}
use Rattle.aat_bytes.specs.declared.tags.TheConstants.{MORX}

-- where a record ends that starts at a place: its header has so many bytes, and its length, which counts the header,
-- stands so many bytes behind the place
unfoldable pub end_at : List ℕ → ℕ → ℕ → ℕ → Result ℕ Fault
end_at bytes place header field =
    if nat_lt (length bytes) (place + header) then Err (fault_at MORX PastEnd place) else
    if nat_lt (be32 bytes (place + field)) header then Err (fault_at MORX ShortLength (place + field)) else
    if nat_lt (length bytes) (place + be32 bytes (place + field)) then Err (fault_at MORX PastEnd (place + field)) else
    Ok (place + be32 bytes (place + field))
