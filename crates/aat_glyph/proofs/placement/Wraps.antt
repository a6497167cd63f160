-- Sums that wrap, as the code makes them.
use Rattle.std.proofs.Common.{◌≡◌, ◌∙◌, ◌+◌, ◌-◌, ◌%◌, ap, sym, arith, w32, to_z, of_z}
use Rattle.std.specs.Prelude.{ℤ}
use Rattle.std.proofs.lemmas.Int.{of_z-to_z}
use Rattle.aat_glyph.specs.placement.Attachments.{minus, plus}

-- a mark's offset
pub mark_offset_is :
    (f o p n : ℤ)
    → to_z w32 ((of_z w32 f + ((of_z w32 o + of_z w32 p) % 4294967296 + (4294967296 - of_z w32 n)) % 4294967296) % 4294967296)
    ≡ plus f (minus (plus o p) n)
mark_offset_is f o p n =
    let sum = (of_z w32 o + of_z w32 p) % 4294967296 in
    ap (λ m. to_z w32 ((of_z w32 f + (m + (4294967296 - of_z w32 n)) % 4294967296) % 4294967296))
    (sym (of_z-to_z w32 sum (omega arith)))
    ∙ ap (λ m. to_z w32 ((of_z w32 f + m) % 4294967296))
    (sym (of_z-to_z w32 ((of_z w32 (to_z w32 sum) + (4294967296 - of_z w32 n)) % 4294967296) (omega arith)))
