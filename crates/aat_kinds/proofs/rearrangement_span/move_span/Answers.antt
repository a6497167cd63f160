use Rattle.std.proofs.Common.{refl, [], ◌∷◌, ◌-◌, ◌+◌, take}
use Rattle.aat_kinds.proofs.Parts.{parts_moved}
use Rattle.aat_kinds.specs.Rearrangement.{size_of}
use Rattle.aat_kinds.proofs.rearrangement_span.move_span.Goals as goal

pub returns-clause-after : goal.returns-clause-after
returns-clause-after g c =
    let start = c.args.start in
    let end = c.args.end in
    let left = c.size-left.result in
    let right = c.size-right.result in
    let front = c.copied_part-front.result in
    let back = c.copied_part-back.result in
    parts_moved c.args.verb c.args.buffer.now c.move_middle.new.buffer c.put_part.new.buffer c.put_part-2.new.buffer
    (take (size_of c.args.verb.front) (front.0 ∷ front.1 ∷ [])) (take (size_of c.args.verb.back) (back.0 ∷ back.1 ∷ [])) start (start + right) (end - left) end left right
    c.size-left.ensures.count c.size-right.ensures.count refl refl c.requires.room c.requires.ordered c.requires.in_line
    c.copied_part-front.ensures c.copied_part-back.ensures
    c.move_middle.ensures.after c.put_part.ensures.after c.put_part-2.ensures.after
