-- What writes of positions and of the scratch flag of attachment keep.
use Rattle.std.proofs.Common.{◌≡◌, ℕ, refl, sym, ap, ◌∙◌, arith, length-set, length}
use Rattle.std.specs.Prelude.{IsSome, bit_or}
use Rattle.std.specs.Int.{bit_at}
use Rattle.std.specs.Int.Bits.{or_zero_r}
use Rattle.std.proofs.lemmas.Nat.Bits.{bit_at_or, same_from_bits}
use Rattle.aat_buffer.specs.Buffer.{Buffer, position_list, with_position}
use Rattle.aat_glyph.specs.declared.glyph.GlyphPosition.{GlyphPosition}
use Rattle.aat_kerning_machines.specs.KerningLaws.{GainsBits, SameText, PositionsAlone}
use Rattle.aat_kerning_machines.specs.Positions.{with_attachment_flag}

-- the order of two `|` is free
pub or_assoc : (a b c : ℕ) → bit_or (bit_or a b) c ≡ bit_or a (bit_or b c)
or_assoc a b c = same_from_bits (bit_or (bit_or a b) c) (bit_or a (bit_or b c)) bits
  where
    bits : (i : ℕ) → bit_at (bit_or (bit_or a b) c) i ≡ bit_at (bit_or a (bit_or b c)) i
    bits i =
        rw (bit_at_or (bit_or a b) c i, bit_at_or a b i, bit_at_or a (bit_or b c) i, bit_at_or b c i) (omega arith)

pub gains_none : (allowed n : ℕ) → GainsBits allowed n n
gains_none allowed n = (0, refl, sym (or_zero_r n))

pub gains_more :
    (allowed k n m : ℕ) → bit_or k allowed ≡ allowed → GainsBits allowed n m → GainsBits allowed n (bit_or m k)
gains_more allowed k n m inside g =
    (bit_or g.0 k, or_assoc g.0 k allowed ∙ (ap (bit_or g.0) inside ∙ g.1), ap (λ x. bit_or x k) g.2 ∙ or_assoc n g.0 k)

pub same_text : (b : Buffer) → SameText b b
same_text b = record {
  positions = refl;
  standing = λ some. some;
  scratch_flags = gains_none 8 b.scratch_flags.0;
  settings = record {
    direction = refl;
    cluster_level = refl;
    flags = refl;
    scratch_flags = refl;
    max_len = refl;
    successful = refl;
  };
}

-- what keeps the number of positions and the settings, and of the scratch flags all but the one of attachment
pub text_after :
    (b d e : Buffer) → SameText b d → length (position_list e) ≡ length (position_list d)
    → (IsSome d.positions → IsSome e.positions) → GainsBits 8 b.scratch_flags.0 e.scratch_flags.0 → e.direction ≡ d.direction → e.cluster_level ≡ d.cluster_level
    → e.flags ≡ d.flags → e.max_len ≡ d.max_len → e.successful ≡ d.successful → SameText b e
text_after b d e k positions standing scratch direction level flags max_len successful = record {
  positions = positions ∙ k.positions;
  standing = λ some. standing (k.standing some);
  scratch_flags = scratch;
  settings = record {
    direction = direction ∙ k.settings.direction;
    cluster_level = level ∙ k.settings.cluster_level;
    flags = flags ∙ k.settings.flags;
    scratch_flags = refl;
    max_len = max_len ∙ k.settings.max_len;
    successful = successful ∙ k.settings.successful;
  };
}

pub text_of_write : (b d : Buffer) (i : ℕ) (q : GlyphPosition) → SameText b d → SameText b (with_position d i q)
text_of_write b d i q k =
    text_after b d (with_position d i q) k (length-set (position_list d) i q) (λ some. refl) k.scratch_flags refl refl refl refl refl

pub text_of_attachment : (b d : Buffer) → SameText b d → SameText b (with_attachment_flag d)
text_of_attachment b d k =
    let scratch = gains_more 8 8 b.scratch_flags.0 d.scratch_flags.0 refl k.scratch_flags in
    text_after b d (with_attachment_flag d) k refl (λ some. some) scratch refl refl refl refl refl

pub same_place : (b : Buffer) → PositionsAlone b b
same_place b = record { line = refl; cursor = refl; budget = refl; text = same_text b }

pub place_of_write :
    (b : Buffer) (i : ℕ) (q : GlyphPosition) (d : Buffer) → PositionsAlone b d → PositionsAlone b (with_position d i q)
place_of_write b i q d k =
    record { line = k.line; cursor = k.cursor; budget = k.budget; text = text_of_write b d i q k.text }

pub place_of_attachment : (b d : Buffer) → PositionsAlone b d → PositionsAlone b (with_attachment_flag d)
place_of_attachment b d k =
    record { line = k.line; cursor = k.cursor; budget = k.budget; text = text_of_attachment b d k.text }
