-- Worked examples of tags: each is that of its four letters.
use Rattle.std.specs.Prelude.{◌≡◌, ℕ, List, codes, Some}
use Rattle.aat_bytes.specs.Numbers.{tag_at}
use Rattle.aat_bytes.specs.declared.tag.Tag.{Tag}
use Rattle.aat_bytes.specs.declared.tags.TheConstants.{ANKR, CMAP, FEAT, GDEF, GLYF, GPOS, HEAD, HHEA, HMTX, KERN, KERX, LOCA, MAXP, MORX, NAME, SFNT, STAT, TRAK, TTCF}

-- a tag is that of these letters
abbrev pub Is : List ℕ → Tag → Type 0
Is letters tag = tag_at letters 0 ≡ Some tag

-- the tags of the tables, and of what stands before them
pub record TagExamples : Type 0 where
  pub sfnt : Is (codes "sfnt") SFNT
  pub ttcf : Is (codes "ttcf") TTCF
  pub ankr : Is (codes "ankr") ANKR
  pub cmap : Is (codes "cmap") CMAP
  pub feat : Is (codes "feat") FEAT
  pub gdef : Is (codes "GDEF") GDEF
  pub glyf : Is (codes "glyf") GLYF
  pub gpos : Is (codes "GPOS") GPOS
  pub head : Is (codes "head") HEAD
  pub hhea : Is (codes "hhea") HHEA
  pub hmtx : Is (codes "hmtx") HMTX
  pub kern : Is (codes "kern") KERN
  pub kerx : Is (codes "kerx") KERX
  pub loca : Is (codes "loca") LOCA
  pub maxp : Is (codes "maxp") MAXP
  pub morx : Is (codes "morx") MORX
  pub name : Is (codes "name") NAME
  pub stat : Is (codes "STAT") STAT
  pub trak : Is (codes "trak") TRAK
