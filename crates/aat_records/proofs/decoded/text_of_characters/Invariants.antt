use Rattle.std.proofs.Common.{◌≡◌, take, true}
use Rattle.std.specs.Str.{encode_utf8_all}
use Rattle.std.specs.String.{string_bytes}
use Rattle.aat_records.specs.Decoded.{is_utf32}
use Rattle.aat_records.proofs.decoded.text_of_characters.Given as goal

-- the numbers before this one are those of characters, and they are pushed
abbrev pub invariant-loop-number : goal.invariant-loop-number
invariant-loop-number l = record {
  pushed : string_bytes l.text ≡ encode_utf8_all (take l.number-index l.characters);
  characters : is_utf32 (take l.number-index l.characters) ≡ true;
}
