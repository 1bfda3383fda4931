use Rattle.std.proofs.Common.{◌≡◌, replicate, length}
use Rattle.jet_base.specs.Given.{as_stored}
use Rattle.record_edit.proofs.values.front_of_fill.Given as goal

abbrev pub invariant-loop : goal.invariant-loop
invariant-loop l = record {
  counted : length l.stored.items ≡ l.counter;
  stored : l.stored.items ≡ as_stored l.kind (replicate l.counter l.byte);
}
