use Rattle.std.proofs.Common.{◌≡◌, length, take, All}
use Rattle.aat_buffer.specs.Buffer.{Is16Bit}
use Rattle.aat_kinds.specs.Insertion.{copies}
use Rattle.aat_kinds.proofs.insertion.records_of.Given as goal

abbrev pub invariant-loop-i : goal.invariant-loop-i
invariant-loop-i l = record {
  copies : take l.i l.records ≡ copies l.fn.model (take l.i l.run);
  small : All Is16Bit (take l.i l.records);
  long : length l.records ≡ 31;
}
