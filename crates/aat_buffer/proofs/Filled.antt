-- A list whose elements from a place on are written anew, as many as there are.
use Rattle.std.proofs.Common.{◌≡◌, ◌∙◌, ap, ◌≤◌, ◌-◌, refl, Bool, true, false, if◌then◌else◌, Some, None, IsSome, ℕ, List, ◌++◌, take, drop, length, arith}
use Rattle.std.proofs.lemmas.List.{same_lists, places, length-drop}
use Rattle.std.specs.List.{refill, slice_range}
use Rattle.aat_glyph.specs.declared.glyph.GlyphPosition.{GlyphPosition}
use Rattle.aat_buffer.specs.Buffer.{Buffer, position_list, with_positions_from_cursor}

pub filled : {X : Type 0} (xs ws : List X) (p n : ℕ) → n ≡ length xs → p ≤ length xs → take n ((take p xs ++ (ws ++ drop (length ws) (drop p xs))) ++ drop (length (take p xs ++ (ws ++ drop (length ws) (drop p xs)))) xs) ≡ take p xs ++ refill (length xs - p) (drop p xs) ws
filled xs ws p n e within = same_lists _ _ (grind (arith, places)) (λ k d h. grind (arith, places))

-- what they are
pub from_place : {X : Type 0} (xs : List X) (p n : ℕ) → n ≡ length xs → slice_range xs p n ≡ drop p xs
from_place xs p n e = same_lists _ _ (grind (arith, places)) (λ k d h. grind (arith, places))

-- positions that are shown stand
pub shown_stand : {X : Type 0} (h : Bool) (qs : X) → IsSome (if h then Some qs else None) → h ≡ true
shown_stand true qs some = refl
shown_stand false qs some = absurd (grind (arith, some))

-- how many are left from a place on
pub drop_count : {X : Type 0} (xs ys : List X) (p : ℕ) → ys ≡ drop p xs → length ys ≡ length xs - p
drop_count xs ys p e = ap length e ∙ length-drop p xs

pub from_count : {X : Type 0} (xs ys : List X) (p n : ℕ) → n ≡ length xs → ys ≡ slice_range xs p n → length ys ≡ length xs - p
from_count xs ys p n e lent = drop_count xs ys p (lent ∙ from_place xs p n e)

-- the positions from the cursor on are lent
pub positions_lent : (b v : Buffer) (h : Bool) (xs qs : List GlyphPosition) (p n : ℕ) → record v { positions = if h then Some xs else None } ≡ b → h ≡ true → p ≡ v.cursor → n ≡ length xs → qs ≡ slice_range xs p n → qs ≡ drop b.cursor (position_list b)
positions_lent b v h xs qs p n is stand place e lent = rw (← is, stand, ← place) (lent ∙ from_place xs p n e)

-- and written
pub positions_left : (b v : Buffer) (h : Bool) (xs ws : List GlyphPosition) (p n : ℕ) → record v { positions = if h then Some xs else None } ≡ b → h ≡ true → p ≡ v.cursor → n ≡ length xs → p ≤ length xs → record v { positions = if h then Some (take n ((take p xs ++ (ws ++ drop (length ws) (drop p xs))) ++ drop (length (take p xs ++ (ws ++ drop (length ws) (drop p xs)))) xs)) else None } ≡ with_positions_from_cursor b ws
positions_left b v h xs ws p n is stand place e within = rw (← is, stand, ← place, filled xs ws p n e within) refl
