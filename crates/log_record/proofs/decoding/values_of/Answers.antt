use Rattle.std.proofs.Common.{◌≡◌, ◌≤◌, ◌+◌, ◌-◌, ◌++◌, ◌∷◌, [], ap, ◌∙◌}
use Rattle.std.proofs.lemmas.Result.{err_from_is_err_and}
use Rattle.column_set.specs.RecordValues.{with_values, values_of}
use Rattle.column_set.specs.Rows.{record_values_in_order}
use Rattle.log_grammar.specs.EntryReading.{values_at}
use Rattle.log_grammar.proofs.Grouping.{grouped-in_order}
use Rattle.log_record.proofs.Loop.{value_goes_on, value_ends, values_done, with_front}
use Rattle.log_record.proofs.Pushing.{values-push, bound-push, next_above, values_up_to}
use Rattle.log_record.proofs.decoding.values_of.Goals as goal

pub returns-in_err-column-clause-values : goal.returns-in_err-column-clause-values
returns-in_err-column-clause-values c =
    let p = err_from_is_err_and c.from_residual.result c.from_residual.ensures.1 in
    rw (p.1, p.2) (value_ends c.in_err-column.field-0.0 (record_values_in_order c.loop.values) c.loop.least c.args.count c.loop.counter c.loop.rest.now (values_at 0 c.args.count c.args.bytes.now) c.loop-test.true c.in_err-column.ensures c.loop.invariant.read)

pub loop-preserved : goal.loop-preserved
loop-preserved c =
    let column = c.in_ok-column.column in
    let value = c.in_ok-column.value.now in
    let old = record_values_in_order c.loop.values in
    let le : c.loop.least ≤ column = next_above c.loop.least c.loop.rest.now (column, value) c.in_ok-column.after.now c.in_ok-column.ensures in
    let is : c.push_value.new.self ≡ with_values c.loop.values column (values_of c.loop.values column ++ value ∷ []) = c.in_ok-push_value.ensures ∙ ap (λ v. with_values c.loop.values column (values_of c.loop.values column ++ v ∷ [])) c.in_ok-value.ensures in
    let more : record_values_in_order c.push_value.new.self ≡ old ++ (column, value) ∷ [] = values-push c.loop.values c.push_value.new.self c.loop.least column value c.fields-fields.ensures.formed c.loop.invariant.bound le is in
    record {
      read = ap (λ front. with_front front (values_at column (c.args.count - (c.loop.counter + 1)) c.in_ok-column.after.now)) more ∙ value_goes_on old c.loop.least c.args.count c.loop.counter c.loop.rest.now (column, value) c.in_ok-column.after.now (values_at 0 c.args.count c.args.bytes.now) c.loop-test.true c.in_ok-column.ensures c.loop.invariant.read;
      bound = ap (values_up_to column) more ∙ bound-push old c.loop.least column value c.loop.invariant.bound le;
    }

pub returns-clause-values : goal.returns-clause-values
returns-clause-values c = values_done (record_values_in_order c.loop.values) c.loop.least c.args.count c.loop.counter c.loop.rest.now (values_at 0 c.args.count c.args.bytes.now) c.loop-test.false c.loop.invariant.read

pub returns-clause-formed : goal.returns-clause-formed
returns-clause-formed c = grouped-in_order c.loop.values c.fields-fields-2.ensures.formed
