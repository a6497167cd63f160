-- The places and values of a list, one after another.
use Rattle.std.proofs.Common.{◌≡◌, ℕ, ◌+◌, Bool, true, false, List, [], ◌∷◌, ℤ, Option, Some, None, ◌∙◌, ap, sym, subst, length-set}
use Rattle.aat_buffer.specs.Buffer.{Buffer, position_list}
use Rattle.aat_run.specs.Context.{Moved}
use Rattle.aat_run.specs.inside.Places.{left_with}
use Rattle.aat_kerning_machines.specs.Positions.{IsPlaced}
use Rattle.aat_kerning_machines.specs.Stack.{ends_list, popped, with_value_for}
use Rattle.aat_kerning_machines.specs.facts.StackLaws.{of_place}

module _ (is_cross : Bool) (kern_mask : ℕ) (value : ℕ → Option ℤ) (step : ℕ) (stack : List ℕ) (index : ℕ) (b : Buffer)
  where
    -- an empty stack takes no value
    at_none : stack ≡ [] → popped is_cross kern_mask value step stack index b ≡ left_with [] b
    unfolding popped
    at_none empty = rw empty

    module _ (i : ℕ) (rest : List ℕ) (is_stack : stack ≡ i ∷ rest) where
      -- a missing value ends the list
      at_missing : value index ≡ None → popped is_cross kern_mask value step stack index b ≡ left_with rest b
      unfolding popped
      at_missing missing = rw (is_stack, popped, missing)

      -- a value that ends the list
      at_last :
          (v : ℤ) (d : Buffer) → value index ≡ Some v → d ≡ with_value_for is_cross kern_mask v i b
          → ends_list v i b ≡ true → popped is_cross kern_mask value step stack index b ≡ left_with rest d
      unfolding popped
      at_last v d is_value given last = rw (is_stack, popped, is_value, given, last)

      -- a value behind which the list goes on
      at_next :
          (v : ℤ) (d : Buffer) → value index ≡ Some v → d ≡ with_value_for is_cross kern_mask v i b
          → ends_list v i b ≡ false
          → popped is_cross kern_mask value step stack index b
          ≡ popped is_cross kern_mask value step rest (index + step) d
      unfolding popped
      at_next v d is_value given on = rw (is_stack, popped, is_value, given, on)

    -- where this is all that is left to do, it leaves what the whole does
    module _ (whole : Moved (List ℕ)) (left : popped is_cross kern_mask value step stack index b ≡ whole) where
      pub popped_none : (rest : List ℕ) → stack ≡ [] → rest ≡ [] → left_with rest b ≡ whole
      popped_none rest empty same = rw same (sym (at_none empty) ∙ left)

      module _ (i : ℕ) (rest : List ℕ) (is_stack : stack ≡ i ∷ rest) where
        pub popped_missing : None ≡ value index → left_with rest b ≡ whole
        popped_missing missing = sym (at_missing i rest is_stack (sym missing)) ∙ left

        -- a value as the code has it, v, is the one of the list, w
        module _ (v w : ℤ) (d : Buffer) (same : v ≡ w) (is_value : Some w ≡ value index)
            (given : d ≡ with_value_for is_cross kern_mask v i b)
          where
            found : value index ≡ Some v
            found = sym is_value ∙ ap (λ (x : ℤ). Some x) (sym same)

            pub popped_last : true ≡ ends_list v i b → left_with rest d ≡ whole
            popped_last last = sym (at_last i rest is_stack v d found given (sym last)) ∙ left

            pub popped_on :
                false ≡ ends_list v i b → popped is_cross kern_mask value step rest (index + step) d ≡ whole
            popped_on on = sym (at_next i rest is_stack v d found given (sym on)) ∙ left

-- a value that is given keeps a position for each glyph
pub placed_after :
    (is_cross : Bool) (kern_mask : ℕ) (v : ℤ) (i : ℕ) (b d : Buffer)
    → IsPlaced b → d ≡ with_value_for is_cross kern_mask v i b → IsPlaced d
placed_after is_cross kern_mask v i b d placed given =
    subst IsPlaced (sym given)
    (of_place IsPlaced (λ i q b p. length-set (position_list b) i q ∙ p) (λ b p. p) is_cross kern_mask v i b placed)
