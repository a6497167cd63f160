-- An example of each rule of attachments.
use Rattle.std.specs.Prelude.{◌≡◌, ℤ, pos, negsuc, List, [], ◌∷◌, None}
use Rattle.aat_glyph.specs.declared.glyph.Direction.TheVariants.{LeftToRight, RightToLeft, TopToBottom, BottomToTop}
use Rattle.aat_glyph.specs.declared.glyph.GlyphPosition.{GlyphPosition}
use Rattle.aat_glyph.specs.placement.Attachments.{added_up, no_position, parent}

-- a glyph of a row, with its advance and offsets
abbrev pub in_row : ℤ → ℤ → ℤ → GlyphPosition
in_row advance x y = record no_position { x_advance = advance; x_offset = x; y_offset = y }

-- one of a column
abbrev pub in_column : ℤ → ℤ → ℤ → GlyphPosition
in_column advance x y = record no_position { y_advance = advance; x_offset = x; y_offset = y }

-- attached as a mark
abbrev pub mark : ℤ → GlyphPosition → GlyphPosition
mark chain q = record q { attach_type = 1; attach_chain = chain }

-- attached as a cursive glyph
abbrev pub cursive : ℤ → GlyphPosition → GlyphPosition
cursive chain q = record q { attach_type = 2; attach_chain = chain }

-- a base with the advance 500, and a mark on it, whose anchor point meets that of the base at 100, 200
abbrev pub base_and_mark : List GlyphPosition
base_and_mark = in_row (pos 500) (pos 0) (pos 0) ∷ mark (negsuc 0) (in_row (pos 0) (pos 100) (pos 200)) ∷ []

-- three cursive glyphs in a row; the chain leads from each to the one before it
abbrev pub cursive_row : ℤ → List GlyphPosition
cursive_row chain =
    cursive chain (in_row (pos 500) (pos 1) (pos 10))
    ∷ cursive chain (in_row (pos 400) (pos 2) (pos 20))
    ∷ cursive chain (in_row (pos 300) (pos 3) (pos 30))
    ∷ []

-- so drawn
abbrev pub cursive_row_drawn : ℤ → List GlyphPosition
cursive_row_drawn chain =
    cursive chain (in_row (pos 500) (pos 1) (pos 10))
    ∷ cursive chain (in_row (pos 400) (pos 2) (pos 30))
    ∷ cursive chain (in_row (pos 300) (pos 3) (pos 60))
    ∷ []

-- three in a column
abbrev pub cursive_column : ℤ → List GlyphPosition
cursive_column chain =
    cursive chain (in_column (negsuc 499) (pos 10) (pos 1))
    ∷ cursive chain (in_column (negsuc 399) (pos 20) (pos 2))
    ∷ cursive chain (in_column (negsuc 299) (pos 30) (pos 3))
    ∷ []

-- each rule
pub record AttachmentExamples : Type 0 where
  -- the mark is drawn over the base, 400 back from its own pen
  pub mark_on_base : added_up LeftToRight base_and_mark
      ≡ in_row (pos 500) (pos 0) (pos 0) ∷ mark (negsuc 0) (in_row (pos 0) (negsuc 399) (pos 200)) ∷ []
  -- the chain of a mark is counted in the order of drawing in a backward line too
  pub mark_backward : added_up RightToLeft base_and_mark ≡ added_up LeftToRight base_and_mark
  -- a mark with a chain to the one behind it is drawn where it stands
  pub mark_before_base : added_up RightToLeft
      (mark (pos 1) (in_row (pos 0) (pos 100) (pos 200)) ∷ in_row (pos 500) (pos 0) (pos 0) ∷ [])
      ≡ mark (pos 1) (in_row (pos 0) (pos 100) (pos 200)) ∷ in_row (pos 500) (pos 0) (pos 0) ∷ []
  -- a second mark on the first
  pub mark_on_mark : added_up LeftToRight
      (in_row (pos 500) (pos 7) (pos 0)
      ∷ mark (negsuc 0) (in_row (pos 0) (pos 100) (pos 200))
      ∷ mark (negsuc 0) (in_row (pos 0) (pos 5) (pos 50))
      ∷ [])
      ≡ in_row (pos 500) (pos 7) (pos 0)
      ∷ mark (negsuc 0) (in_row (pos 0) (negsuc 392) (pos 200))
      ∷ mark (negsuc 0) (in_row (pos 0) (negsuc 387) (pos 250))
      ∷ []
  -- a mark on a glyph two places before: the advances between count
  pub mark_across_a_glyph : added_up LeftToRight
      (in_row (pos 500) (pos 0) (pos 0)
      ∷ in_row (pos 300) (pos 0) (pos 0)
      ∷ mark (negsuc 1) (in_row (pos 0) (pos 100) (pos 200))
      ∷ [])
      ≡ in_row (pos 500) (pos 0) (pos 0)
      ∷ in_row (pos 300) (pos 0) (pos 0)
      ∷ mark (negsuc 1) (in_row (pos 0) (negsuc 699) (pos 200))
      ∷ []
  -- cursive glyphs add up across the line alone
  pub cursive_forward : added_up LeftToRight (cursive_row (negsuc 0)) ≡ cursive_row_drawn (negsuc 0)
  -- in a backward line their chain is counted in the order of the text
  pub cursive_backward : added_up RightToLeft (cursive_row (pos 1)) ≡ cursive_row_drawn (pos 1)
  -- in the order of drawing it leads to the glyph behind, which is no parent
  pub cursive_to_behind : added_up RightToLeft (cursive_row (negsuc 0)) ≡ cursive_row (negsuc 0)
  -- in a column they add up in x
  pub cursive_downward : added_up TopToBottom (cursive_column (negsuc 0))
      ≡ cursive (negsuc 0) (in_column (negsuc 499) (pos 10) (pos 1))
      ∷ cursive (negsuc 0) (in_column (negsuc 399) (pos 30) (pos 2))
      ∷ cursive (negsuc 0) (in_column (negsuc 299) (pos 60) (pos 3))
      ∷ []
  -- a mark in a column that is written upwards
  pub mark_in_column : added_up BottomToTop
      (in_column (negsuc 499) (pos 0) (pos 0) ∷ mark (negsuc 0) (in_column (pos 0) (pos 10) (pos 20)) ∷ [])
      ≡ in_column (negsuc 499) (pos 0) (pos 0) ∷ mark (negsuc 0) (in_column (pos 0) (pos 10) (pos 520)) ∷ []
  -- a mark on a cursive glyph takes its offset in both coordinates
  pub mark_on_cursive : added_up LeftToRight
      (in_row (pos 500) (pos 9) (pos 10)
      ∷ cursive (negsuc 0) (in_row (pos 400) (pos 2) (pos 20))
      ∷ mark (negsuc 0) (in_row (pos 0) (pos 100) (pos 200))
      ∷ [])
      ≡ in_row (pos 500) (pos 9) (pos 10)
      ∷ cursive (negsuc 0) (in_row (pos 400) (pos 2) (pos 30))
      ∷ mark (negsuc 0) (in_row (pos 0) (negsuc 297) (pos 230))
      ∷ []
  -- a sum that wraps
  pub wraps : added_up TopToBottom
      (in_column (pos 0) (pos 1) (pos 0) ∷ cursive (negsuc 0) (in_column (pos 0) (pos 2147483647) (pos 0)) ∷ [])
      ≡ in_column (pos 0) (pos 1) (pos 0) ∷ cursive (negsuc 0) (in_column (pos 0) (negsuc 2147483647) (pos 0)) ∷ []
  -- a chain that leaves the line
  pub chain_leaves : added_up LeftToRight
      (in_row (pos 500) (pos 0) (pos 0) ∷ mark (negsuc 1) (in_row (pos 0) (pos 100) (pos 200)) ∷ [])
      ≡ in_row (pos 500) (pos 0) (pos 0) ∷ mark (negsuc 1) (in_row (pos 0) (pos 100) (pos 200)) ∷ []
  -- another attach type
  pub other_type : parent LeftToRight
      (no_position ∷ record no_position { attach_type = 3; attach_chain = negsuc 0 } ∷ []) 1 ≡ None
