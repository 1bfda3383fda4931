use Rattle.std.proofs.Common.{◌≡◌, ◌-◌}
use Rattle.log_grammar.specs.EntryReading.{many_at, condition_at}
use Rattle.log_record.proofs.Loop.{with_front}
use Rattle.log_record.proofs.decoding_schema.so_many_conditions.Given as goal

abbrev pub invariant-loop : goal.invariant-loop
invariant-loop l = with_front l.conditions.items (many_at condition_at (l.count - l.counter) l.rest) ≡ many_at condition_at l.count l.bytes
