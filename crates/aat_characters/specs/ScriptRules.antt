-- What HarfBuzz's shaper of a script does around the layer.
use Rattle.std.specs.Prelude.{Bool, true, false, Option, Some, None, if◌then◌else◌}
use Rattle.ucd_script.specs.declared.Script.{Script}
use Rattle.ucd_script.specs.declared.Script.TheVariants as Scripts
use Rattle.aat_glyph.specs.Directions.{is_vertical}
use Rattle.aat_glyph.specs.declared.glyph.Direction.{Direction}
use Rattle.aat_characters.specs.declared.script_rules.MarkWidths.{MarkWidths}
use Rattle.aat_characters.specs.declared.script_rules.MarkWidths.TheVariants.{Kept, ZeroEarly, ZeroLate}
use Rattle.aat_characters.specs.declared.script_rules.ScriptRules.{ScriptRules}
use Rattle.aat_characters.specs.declared.script_rules.ScriptRules.TheVariants.{Default, Arabic, Hebrew, Hangul, Thai, Indic, Khmer, Myanmar, Universal}

-- the rules of a script along rows
abbrev pub script_rules : Script → ScriptRules
script_rules Scripts.Arabic = Arabic
script_rules Scripts.Syriac = Arabic
script_rules Scripts.Hebrew = Hebrew
script_rules Scripts.Hangul = Hangul
script_rules Scripts.Thai = Thai
script_rules Scripts.Lao = Thai
script_rules Scripts.Bengali = Indic
script_rules Scripts.Devanagari = Indic
script_rules Scripts.Gujarati = Indic
script_rules Scripts.Gurmukhi = Indic
script_rules Scripts.Kannada = Indic
script_rules Scripts.Malayalam = Indic
script_rules Scripts.Oriya = Indic
script_rules Scripts.Tamil = Indic
script_rules Scripts.Telugu = Indic
script_rules Scripts.Khmer = Khmer
script_rules Scripts.Myanmar = Myanmar
script_rules Scripts.Tibetan = Universal
script_rules Scripts.Mongolian = Universal
script_rules Scripts.Sinhala = Universal
script_rules Scripts.Buhid = Universal
script_rules Scripts.Hanunoo = Universal
script_rules Scripts.Tagalog = Universal
script_rules Scripts.Tagbanwa = Universal
script_rules Scripts.Limbu = Universal
script_rules Scripts.TaiLe = Universal
script_rules Scripts.Buginese = Universal
script_rules Scripts.Kharoshthi = Universal
script_rules Scripts.SylotiNagri = Universal
script_rules Scripts.Tifinagh = Universal
script_rules Scripts.Balinese = Universal
script_rules Scripts.Nko = Universal
script_rules Scripts.PhagsPa = Universal
script_rules Scripts.Cham = Universal
script_rules Scripts.KayahLi = Universal
script_rules Scripts.Lepcha = Universal
script_rules Scripts.Rejang = Universal
script_rules Scripts.Saurashtra = Universal
script_rules Scripts.Sundanese = Universal
script_rules Scripts.EgyptianHieroglyphs = Universal
script_rules Scripts.Javanese = Universal
script_rules Scripts.Kaithi = Universal
script_rules Scripts.MeeteiMayek = Universal
script_rules Scripts.TaiTham = Universal
script_rules Scripts.TaiViet = Universal
script_rules Scripts.Batak = Universal
script_rules Scripts.Brahmi = Universal
script_rules Scripts.Mandaic = Universal
script_rules Scripts.Chakma = Universal
script_rules Scripts.Miao = Universal
script_rules Scripts.Sharada = Universal
script_rules Scripts.Takri = Universal
script_rules Scripts.Duployan = Universal
script_rules Scripts.Grantha = Universal
script_rules Scripts.Khojki = Universal
script_rules Scripts.Khudawadi = Universal
script_rules Scripts.Mahajani = Universal
script_rules Scripts.Manichaean = Universal
script_rules Scripts.Modi = Universal
script_rules Scripts.PahawhHmong = Universal
script_rules Scripts.PsalterPahlavi = Universal
script_rules Scripts.Siddham = Universal
script_rules Scripts.Tirhuta = Universal
script_rules Scripts.Ahom = Universal
script_rules Scripts.Multani = Universal
script_rules Scripts.Adlam = Universal
script_rules Scripts.Bhaiksuki = Universal
script_rules Scripts.Marchen = Universal
script_rules Scripts.Newa = Universal
script_rules Scripts.MasaramGondi = Universal
script_rules Scripts.Soyombo = Universal
script_rules Scripts.ZanabazarSquare = Universal
script_rules Scripts.Dogra = Universal
script_rules Scripts.GunjalaGondi = Universal
script_rules Scripts.HanifiRohingya = Universal
script_rules Scripts.Makasar = Universal
script_rules Scripts.Medefaidrin = Universal
script_rules Scripts.OldSogdian = Universal
script_rules Scripts.Sogdian = Universal
script_rules Scripts.Elymaic = Universal
script_rules Scripts.Nandinagari = Universal
script_rules Scripts.NyiakengPuachueHmong = Universal
script_rules Scripts.Wancho = Universal
script_rules Scripts.Chorasmian = Universal
script_rules Scripts.DivesAkuru = Universal
script_rules Scripts.KhitanSmallScript = Universal
script_rules Scripts.Yezidi = Universal
script_rules Scripts.CyproMinoan = Universal
script_rules Scripts.OldUyghur = Universal
script_rules Scripts.Tangsa = Universal
script_rules Scripts.Toto = Universal
script_rules Scripts.Vithkuqi = Universal
script_rules Scripts.Kawi = Universal
script_rules Scripts.NagMundari = Universal
script_rules Scripts.Garay = Universal
script_rules Scripts.GurungKhema = Universal
script_rules Scripts.KiratRai = Universal
script_rules Scripts.OlOnal = Universal
script_rules Scripts.Sunuwar = Universal
script_rules Scripts.Todhri = Universal
script_rules Scripts.TuluTigalari = Universal
script_rules Scripts.BeriaErfe = Universal
script_rules Scripts.Sidetic = Universal
script_rules Scripts.TaiYo = Universal
script_rules Scripts.TolongSiki = Universal
script_rules _ = Default

-- in columns Arabic has the default rules
abbrev pub in_columns : ScriptRules → ScriptRules
in_columns Arabic = Default
in_columns rules = rules

-- the rules of a text with a script, if it has one, that runs in a direction
abbrev pub script_rules_of : Option Script → Direction → ScriptRules
script_rules_of None direction = Default
script_rules_of (Some script) direction =
    if is_vertical direction then in_columns (script_rules script) else script_rules script

-- whether the table `kern` is applied
abbrev pub applies_kern : ScriptRules → Bool
applies_kern Default = true
applies_kern Arabic = true
applies_kern Hebrew = true
applies_kern Hangul = true
applies_kern _ = false

-- what becomes of the widths of marks, without `morx`
abbrev pub own_mark_widths : ScriptRules → MarkWidths
own_mark_widths Default = ZeroLate
own_mark_widths Arabic = ZeroLate
own_mark_widths Hebrew = ZeroLate
own_mark_widths Thai = ZeroLate
own_mark_widths Myanmar = ZeroEarly
own_mark_widths Universal = ZeroEarly
own_mark_widths Hangul = Kept
own_mark_widths Indic = Kept
own_mark_widths Khmer = Kept

-- with `morx` those of all but the default rules stay
abbrev pub mark_widths : ScriptRules → Bool → MarkWidths
mark_widths Default has_morx = ZeroLate
mark_widths rules true = Kept
mark_widths rules false = own_mark_widths rules
