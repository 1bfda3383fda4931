use Rattle.std.proofs.Common.{◌∷◌, [], map}
use Rattle.std.specs.Int.{w32}
use Rattle.std.proofs.lemmas.List.{map-append}
use Rattle.std.proofs.lemmas.Result.{err_from_is_err_and}
use Rattle.column_set.specs.NumberReading.{number_at}
use Rattle.jet_base.specs.declared.ids.TableId.{TableId}
use Rattle.log_grammar.specs.EntryReading.{many_at}
use Rattle.live_part.proofs.ReadLoops.{goes_on, ends, is_done}
use Rattle.live_part.proofs.reading_sessions.so_many_tables.Goals as goal

pub returns-in_err-table : goal.returns-in_err-table
returns-in_err-table c =
    let p = err_from_is_err_and c.from_residual.result c.from_residual.ensures.1 in
    rw (p.1, p.2) (ends c.in_err-table.field-0.0 (number_at w32) (map (λ (id : TableId). id.0) c.loop.tables.items) c.args.count c.loop.counter c.loop.rest.now (many_at (number_at w32) c.args.count c.args.bytes.now) c.loop-test.true c.in_err-table.ensures c.loop.invariant)

pub loop-preserved : goal.loop-preserved
loop-preserved c =
    let one : TableId = record { 0 = c.in_ok-table.table } in
    rw (c.in_ok-push.ensures.items, map-append (λ (id : TableId). id.0) c.loop.tables.items (one ∷ []))
    (goes_on (number_at w32) (map (λ (id : TableId). id.0) c.loop.tables.items) c.args.count c.loop.counter c.loop.rest.now c.in_ok-table.table c.in_ok-table.after.now (many_at (number_at w32) c.args.count c.args.bytes.now) c.loop-test.true c.in_ok-table.ensures c.loop.invariant)

pub returns : goal.returns
returns c = is_done (number_at w32) (map (λ (id : TableId). id.0) c.loop.tables.items) c.args.count c.loop.counter c.loop.rest.now (many_at (number_at w32) c.args.count c.args.bytes.now) c.loop-test.false c.loop.invariant
