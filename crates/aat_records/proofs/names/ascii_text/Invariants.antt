use Rattle.std.proofs.Common.{◌≡◌, map, take}
use Rattle.std.specs.Str.{encode_utf8_all}
use Rattle.std.specs.String.{string_bytes}
use Rattle.aat_records.specs.Names.{ascii_character}
use Rattle.aat_records.proofs.names.ascii_text.Given as goal

-- the characters of the bytes before this one are pushed
abbrev pub invariant-loop-byte : goal.invariant-loop-byte
invariant-loop-byte l = string_bytes l.text ≡ encode_utf8_all (map ascii_character (take l.byte-index l.bytes))
