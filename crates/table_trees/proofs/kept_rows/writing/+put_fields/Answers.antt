use Rattle.common_lemmas.proofs.Results.{OnOk-then}
use Rattle.table_trees.specs.Sources.{found_in}
use Rattle.table_trees.proofs.Written.{fields_written_from}
use Rattle.table_trees.proofs.kept_rows.writing.+put_fields.Goals as goal

pub returns-in-Ok : goal.returns-in-Ok
returns-in-Ok t c =
    OnOk-then c.put_fields.result
    (fields_written_from (found_in c.args.sources.now) c.args.place c.in-Ok.next c.column.result c.values.result.now c.in-Some.field.now c.in-Some.later.now c.args.fields.now c.args.bytes.now.items c.put_values.new.bytes.items c.put_fields.new.bytes.items
    c.in-Some.ensures.cases.0 c.column.ensures c.values.ensures c.in-Ok.ensures.next.0 c.in-Ok.ensures.row)
    c.put_fields.ensures
