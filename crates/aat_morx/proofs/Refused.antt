-- Why a run is refused, and what it stays within, carried up to what it is a part of.
use Rattle.std.proofs.Common.{◌≡◌, ℕ, ◌+◌, ◌<◌, ◌≤◌, List, take, length, get_or, ap, sym, ◌∙◌, arith}
use Rattle.std.proofs.lemmas.List.{length-reverse}
use Rattle.aat_buffer.specs.Buffer.{Buffer, reversed}
use Rattle.aat_run.specs.Driven.{IsRefusal}
use Rattle.aat_run.specs.Outcome.{Outcome, in_order}
use Rattle.aat_run.specs.declared.error.AatError.{AatError}
use Rattle.aat_run.specs.declared.error.AatError.TheVariants.{AaltValue, TooLong, OutOfMemory, BufferFailed}
use Rattle.aat_run.specs.facts.InOrder.{in_order_more, in_order_part, in_order_lengthens}

-- a reason on the reversed line is one on the line
pub refusal_turned : (b d : Buffer) (e : AatError) → IsRefusal (reversed b) d e → IsRefusal b (reversed d) e
refusal_turned b d (AaltValue value) h = h
refusal_turned b d TooLong h = omega (arith, h, length-reverse d.line)
refusal_turned b d OutOfMemory h = (omega (arith, h.0, length-reverse d.line, length-reverse b.line), omega (arith, h.1, length-reverse b.line))
refusal_turned b d BufferFailed h = h

-- a reason over a line that is no shorter, for a run that leaves no more glyphs than the whole
pub refusal_grown : (a b c d : Buffer) (e : AatError) → IsRefusal b c e → length a.line ≤ length b.line → length c.line ≤ length d.line → b.max_len ≡ a.max_len → IsRefusal a d e
refusal_grown a b c d (AaltValue value) h low high same = h
refusal_grown a b c d TooLong h low high same = omega (arith, h, high, same)
refusal_grown a b c d OutOfMemory h low high same = (omega (arith, h.0, low, high), omega (arith, h.1, low, same))
refusal_grown a b c d BufferFailed h low high same = h

-- a refusal of run i in an order of runs, none of which shortens the line, is one of them all
pub refusal_within : {X : Type 0} (run : X → Buffer → Outcome) (xs : List X) (i : ℕ) (x : X) (b d : Buffer) (e : AatError) → ((x : X) (b : Buffer) → length b.line ≤ length (run x b).buffer.line)
    → i < length xs → x ≡ get_or xs i x → d ≡ (in_order run (take i xs) b).buffer → d.max_len ≡ b.max_len → IsRefusal d (run x d).buffer e → IsRefusal b (in_order run xs b).buffer e
refusal_within run xs i x b d e each below read here same h =
    let low : length b.line ≤ length d.line = rw here (in_order_lengthens run (take i xs) b each) in
    let more : (in_order run (take (i + 1) xs) b).buffer ≡ (run x d).buffer =
    ap (λ (o : Outcome). o.buffer) (in_order_more run xs i x b below read) ∙ ap (λ (y : Buffer). (run x y).buffer) (sym here) in
    let high : length (run x d).buffer.line ≤ length (in_order run xs b).buffer.line = rw (← more) (in_order_part run xs (i + 1) b each) in
    refusal_grown b d (run x d).buffer (in_order run xs b).buffer e h low high same
