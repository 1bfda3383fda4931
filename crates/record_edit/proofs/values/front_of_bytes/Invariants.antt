use Rattle.std.proofs.Common.{◌≡◌, take, length}
use Rattle.jet_base.specs.Given.{as_stored}
use Rattle.record_edit.proofs.values.front_of_bytes.Given as goal

abbrev pub invariant-loop-byte : goal.invariant-loop-byte
invariant-loop-byte l = record {
  counted : length l.stored.items ≡ l.byte-index;
  stored : l.stored.items ≡ as_stored l.kind (take l.byte-index l.front);
}
