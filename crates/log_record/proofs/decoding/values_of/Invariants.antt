use Rattle.std.proofs.Common.{◌≡◌, ◌-◌, true}
use Rattle.column_set.specs.Rows.{record_values_in_order}
use Rattle.log_grammar.specs.EntryReading.{values_at}
use Rattle.log_record.proofs.Loop.{with_front}
use Rattle.log_record.proofs.Pushing.{values_up_to}
use Rattle.log_record.proofs.decoding.values_of.Given as goal

abbrev pub invariant-loop : goal.invariant-loop
invariant-loop l = record {
  read : with_front (record_values_in_order l.values) (values_at l.least (l.count - l.counter) l.rest) ≡ values_at 0 l.count l.bytes;
  bound : values_up_to l.least (record_values_in_order l.values) ≡ true;
}
