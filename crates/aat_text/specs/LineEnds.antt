-- Where a line of a text may end.
use Rattle.std.specs.Prelude.{ℕ, Bool, true, false, List, drop, fold, map, zip, slice_get, Option, Some, None, if◌then◌else◌}
use Rattle.std.specs.List.{filter_map}
use Rattle.std.specs.Option.{option_map_or}
use Rattle.std.specs.Str.{chars}
use Rattle.ucd_breaks.specs.LineBreak.{line_break}
use Rattle.ucd_breaks.specs.declared.LineBreak.{LineBreak}
use Rattle.ucd_breaks.specs.declared.LineBreak.TheVariants as Class
use Rattle.aat_text.specs.Places.{clusters}
use Rattle.aat_text.specs.declared.lines.LineEnd.{LineEnd}
use Rattle.aat_text.specs.declared.role.Ending.{Ending}
use Rattle.aat_text.specs.declared.role.Ending.TheVariants.{Never, Allowed, Forced}
use Rattle.aat_text.specs.declared.role.LineRole.{LineRole}
use Rattle.aat_text.specs.declared.role.LineRole.TheVariants.{Break, CarriageReturn, LineFeed, Space, ZeroWidthSpace, Joiner, Mark, Closing, Nonstarter, Quotation, BreakAfter, Hyphen, Opening, Number, Letter, Ideograph, Other}
use Rattle.aat_text.specs.declared.unit.ClusterUnit.{ClusterUnit}

-- the role of a class: classes of one role are treated alike
abbrev pub role_of_class : LineBreak → LineRole
role_of_class Class.MandatoryBreak = Break
role_of_class Class.NextLine = Break
role_of_class Class.CarriageReturn = CarriageReturn
role_of_class Class.LineFeed = LineFeed
role_of_class Class.Space = Space
role_of_class Class.ZWSpace = ZeroWidthSpace
role_of_class Class.WordJoiner = Joiner
role_of_class Class.Glue = Joiner
role_of_class Class.CombiningMark = Mark
role_of_class Class.Zwj = Mark
role_of_class Class.ClosePunctuation = Closing
role_of_class Class.CloseParenthesis = Closing
role_of_class Class.Exclamation = Closing
role_of_class Class.BreakSymbols = Closing
role_of_class Class.InfixNumeric = Closing
role_of_class Class.Nonstarter = Nonstarter
role_of_class Class.ConditionalJapaneseStarter = Nonstarter
role_of_class Class.Inseparable = Nonstarter
role_of_class Class.Quotation = Quotation
role_of_class Class.BreakAfter = BreakAfter
role_of_class Class.UnambiguousHyphen = BreakAfter
role_of_class Class.Hyphen = Hyphen
role_of_class Class.OpenPunctuation = Opening
role_of_class Class.Numeric = Number
role_of_class Class.Alphabetic = Letter
role_of_class Class.HebrewLetter = Letter
role_of_class Class.Ideographic = Ideograph
role_of_class Class.EBase = Ideograph
role_of_class Class.EModifier = Ideograph
role_of_class Class.H2 = Ideograph
role_of_class Class.H3 = Ideograph
role_of_class _ = Other

-- whether a line may end between two clusters, by the first of these rules that is for the two roles that meet there
abbrev pub end_between : LineRole → LineRole → Ending
end_between CarriageReturn LineFeed = Never
end_between Break _ = Forced
end_between CarriageReturn _ = Forced
end_between LineFeed _ = Forced
end_between _ Break = Never
end_between _ CarriageReturn = Never
end_between _ LineFeed = Never
end_between _ Space = Never
end_between _ ZeroWidthSpace = Never
end_between ZeroWidthSpace _ = Allowed
end_between _ Closing = Never
end_between _ Joiner = Never
end_between _ Mark = Never
end_between Joiner _ = Never
end_between Space _ = Allowed
end_between _ Nonstarter = Never
end_between _ Quotation = Never
end_between _ BreakAfter = Never
end_between _ Hyphen = Never
end_between BreakAfter _ = Allowed
end_between Hyphen Number = Never
end_between Hyphen _ = Allowed
end_between Ideograph Ideograph = Allowed
end_between Ideograph Letter = Allowed
end_between Ideograph Number = Allowed
end_between Ideograph Opening = Allowed
end_between Letter Ideograph = Allowed
end_between Number Ideograph = Allowed
end_between Closing Ideograph = Allowed
end_between Nonstarter Ideograph = Allowed
end_between _ _ = Never

-- the role of a character
abbrev pub role_of : ℕ → LineRole
role_of character = role_of_class (line_break character)

abbrev pub is_mark : LineRole → Bool
is_mark Mark = true
is_mark _ = false

-- the role of a cluster for what stands before it: that of its first character
abbrev pub role_at_start : List ℕ → LineRole
role_at_start piece = option_map_or role_of (slice_get (chars piece) 0) Letter

-- its role for what follows: that of its last character that is no mark, and of marks alone that of a letter
abbrev pub role_at_end : List ℕ → LineRole
role_at_end piece = fold (λ last role. if is_mark role then last else role) Letter (map role_of (chars piece))

-- the end of a line at a place, if there may be one
abbrev pub line_end : ℕ → Ending → Option LineEnd
line_end place Never = None
line_end place Allowed = Some (record { place = place; is_forced = false })
line_end place Forced = Some (record { place = place; is_forced = true })

-- that between two clusters, at the place of the second
abbrev pub end_before : (ℕ × List ℕ) × (ℕ × List ℕ) → Option LineEnd
end_before (before, after) = line_end after.0 (end_between (role_at_end before.1) (role_at_start after.1))

-- the places between clusters of a text where a line may end
abbrev pub line_ends : ClusterUnit → List ℕ → List LineEnd
line_ends unit text = filter_map end_before (zip (clusters unit text) (drop 1 (clusters unit text)))
