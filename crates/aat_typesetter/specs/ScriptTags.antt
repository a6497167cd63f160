-- Scripts by their tags of ISO 15924. (No chapter of the manual.)
use Rattle.std.specs.Prelude.{ℕ, ◌==◌, find, Option, option_map, bit_and, bit_or}
use Rattle.ucd_script.specs.declared.Script.{Script}
use Rattle.aat_typesetter.specs.declared.script_tags.TheConstants.{SCRIPTS}

-- a tag with one capital letter, as ISO 15924 has them
abbrev pub cased : ℕ → ℕ
cased tag = bit_or (bit_and tag 0xDFDFDFDF) 0x202020

-- the script of a tag, in whatever case
abbrev pub script_of_tag : ℕ → Option Script
script_of_tag tag = option_map (λ row. row.1) (find (λ row. row.0 == cased tag) SCRIPTS)
