-- Worked examples of kerning tables.
use Rattle.std.specs.Prelude.{◌≡◌, ℕ, List, [], ◌∷◌, ℤ, pos, negsuc, Some, None}
use Rattle.aat_kerning_tables.specs.AnchorPoints.{Points, listed_point, point_of}
use Rattle.aat_kerning_tables.specs.Classes.{ClassValues, kerning_by_classes}
use Rattle.aat_lookup.specs.Keys.{first_fall}
use Rattle.aat_kerning_tables.specs.Pairs.{key_of_pair, kerning_of}
use Rattle.aat_kerning_tables.specs.declared.ankr.Point.{Point}

-- kerning values of pairs
abbrev pub example_pairs : List (ℕ × ℕ × ℤ)
example_pairs = (1, 65535, negsuc 24) ∷ (2, 1, pos 7) ∷ []

-- a pair has its value in the order of its glyphs alone, and rises by the left glyph before the right one
abbrev pub PairsAreOrdered : Type 0
PairsAreOrdered =
    (kerning_of example_pairs 1 65535 ≡ Some (negsuc 24))
    × (kerning_of example_pairs 2 1 ≡ Some (pos 7))
    × (kerning_of example_pairs 1 2 ≡ None)
    × (kerning_of example_pairs 2 0 ≡ None)
    × (first_fall key_of_pair example_pairs ≡ None)
    × (first_fall key_of_pair ((2, 1, pos 7) ∷ (2, 0, pos 7) ∷ []) ≡ Some 1)

-- pairs by two left classes and three right ones, of which the last value is missing
abbrev pub example_classes : ClassValues
example_classes = record {
  left = (7, 1) ∷ (9, 2) ∷ [];
  right = (7, 2) ∷ (8, 1) ∷ (9, 3) ∷ [];
  right_count = 3;
  values = pos 0 ∷ negsuc 4 ∷ pos 0 ∷ pos 10 ∷ pos 11 ∷ [];
}

-- a glyph without a class has class 0, and two classes without a value, or beyond their number, kern by 0
abbrev pub ClassesKern : Type 0
ClassesKern =
    (kerning_by_classes example_classes 7 8 ≡ pos 11)
    × (kerning_by_classes example_classes 7 5 ≡ pos 10)
    × (kerning_by_classes example_classes 5 8 ≡ negsuc 4)
    × (kerning_by_classes example_classes 8 7 ≡ pos 0)
    × (kerning_by_classes example_classes 7 7 ≡ pos 0)
    × (kerning_by_classes example_classes 7 9 ≡ pos 0)
    × (kerning_by_classes example_classes 9 5 ≡ pos 0)

-- an anchor point
abbrev pub example_point : Point
example_point = record { x = pos 100; y = negsuc 199 }

-- a glyph with two anchor points, and one without
abbrev pub example_points : Points
example_points = (7, record { x = pos 0; y = pos 1 } ∷ example_point ∷ []) ∷ (65535, []) ∷ []

-- a point is listed by its glyph, then by its index, and one that is not listed is the origin
abbrev pub PointsAreListed : Type 0
PointsAreListed =
    (listed_point example_points 7 1 ≡ Some example_point)
    × (listed_point example_points 7 2 ≡ None)
    × (listed_point example_points 65535 0 ≡ None)
    × (listed_point example_points 8 0 ≡ None)
    × (point_of example_points 8 0 ≡ record { x = pos 0; y = pos 0 })
