use Rattle.std.proofs.Common.{◌≡◌, ◌+◌, ◌*◌, ◌≤◌, ◌^◌, length, All}
use Rattle.aat_buffer.specs.Buffer.{Is16Bit}
use Rattle.aat_kinds.specs.Ligature.{ligated}
use Rattle.aat_kinds.proofs.ligature.Components.ligate.Given as goal

abbrev pub invariant-loop-left : goal.invariant-loop-left
invariant-loop-left g l = record {
  done : ligated l.subtable.actions l.subtable.components l.subtable.ligatures l.left l.action l.sum (record { registers = l.self; buffer = l.buffer })
      ≡ ligated l.subtable.actions l.subtable.components l.subtable.ligatures l.fn.self.count l.first 0 (record { registers = l.fn.self; buffer = l.fn.buffer });
  slots : l.self.slots ≡ l.fn.self.slots;
  fewer : l.self.count ≤ l.fn.self.count;
  held : l.left ≤ l.self.count;
  sum : l.sum + 65535 * l.left ≤ 65535 * 2 ^ 32;
  actions : l.action + l.left ≤ 2 ^ 33;
  count : length l.buffer.line ≡ length l.fn.buffer.line;
  successful : l.buffer.successful ≡ l.fn.buffer.successful;
  small : All Is16Bit l.buffer.line;
}

abbrev pub decreases-loop-left : goal.decreases-loop-left
decreases-loop-left g l = l.left
