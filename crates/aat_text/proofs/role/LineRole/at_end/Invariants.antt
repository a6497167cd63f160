use Rattle.std.proofs.Common.{◌≡◌, map}
use Rattle.std.specs.List.{fold}
use Rattle.std.specs.Prelude.{if◌then◌else◌}
use Rattle.std.specs.Str.{chars, IsUtf8}
use Rattle.std.specs.Str.Iter.{chars_rest}
use Rattle.aat_text.specs.LineEnds.{is_mark, role_at_end, role_of}
use Rattle.aat_text.proofs.role.LineRole.at_end.Given as goal

abbrev pub invariant-loop-character : goal.invariant-loop-character
invariant-loop-character l = record {
  text : IsUtf8 (chars_rest l.character-iterator);
  left : fold (λ last role. if is_mark role then last else role) l.last (map role_of (chars (chars_rest l.character-iterator)))
      ≡ role_at_end l.fn.piece;
}
