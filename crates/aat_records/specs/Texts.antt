-- What numbers say, in English.
use Rattle.std.specs.Prelude.{ℕ, ◌==◌, List, [], codes, if◌then◌else◌}

-- the text of a status; there is none of other numbers
abbrev pub text_of_status : ℕ → List ℕ
text_of_status number =
    if number == 0 then codes "no error"
    else if number == 1 then codes "the handle holds no font"
    else if number == 2 then codes "out of memory"
    else if number == 3 then codes "the directory of the font file has a fault"
    else if number == 4 then codes "the text is not of its encoding"
    else if number == 5 then codes "the text has more than 4294967295 bytes"
    else if number == 6 then codes "a feature aalt has a value above 65535"
    else if number == 7 then codes "the line of glyphs is too long"
    else if number == 8 then codes "the text is no feature"
    else if number == 9 then codes "a number of the options stands for nothing"
    else if number == 10 then codes "what is asked for is not there"
    else []

-- the text of a kind of fault; there is none of other numbers
abbrev pub text_of_fault : ℕ → List ℕ
text_of_fault number =
    if number == 1 then codes "reaches past the end"
    else if number == 2 then codes "has an unknown version or format"
    else if number == 3 then codes "has a length below that of its header"
    else if number == 4 then codes "is missing"
    else if number == 5 then codes "has a key that is not above the one before it"
    else []
