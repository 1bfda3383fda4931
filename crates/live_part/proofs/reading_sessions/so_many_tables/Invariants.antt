use Rattle.std.proofs.Common.{◌≡◌, ◌-◌, map}
use Rattle.std.specs.Int.{w32}
use Rattle.column_set.specs.NumberReading.{number_at}
use Rattle.jet_base.specs.declared.ids.TableId.{TableId}
use Rattle.log_grammar.specs.EntryReading.{many_at}
use Rattle.live_part.proofs.ReadLoops.{with_front}
use Rattle.live_part.proofs.reading_sessions.so_many_tables.Given as goal

abbrev pub invariant-loop : goal.invariant-loop
invariant-loop l = with_front (map (λ (id : TableId). id.0) l.tables.items) (many_at (number_at w32) (l.count - l.counter) l.rest) ≡ many_at (number_at w32) l.count l.bytes
