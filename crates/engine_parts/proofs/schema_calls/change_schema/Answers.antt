use Rattle.engine_parts.proofs.SchemaCalls.{answers-lawfully, schema-keys}
use Rattle.engine_parts.proofs.schema_calls.change_schema.Goals as goal

pub decide_call-requires-clause-short : goal.decide_call-requires-clause-short
decide_call-requires-clause-short c = schema-keys c.args.request.now c.in_ok-call.call c.requires.schema c.in_ok-call.ensures

pub decide_call-requires-clause-lawful : goal.decide_call-requires-clause-lawful
decide_call-requires-clause-lawful c =
    answers-lawfully (record { create_table = c.steps_of_tables_are_lawful.ensures.create; delete_table = c.steps_of_tables_are_lawful.ensures.delete; add_column = c.steps_of_columns_are_lawful.ensures.create; delete_column = c.steps_of_columns_are_lawful.ensures.delete; delete_index = c.steps_of_indexes_are_lawful.ensures.delete })
    c.args.engine.now c.args.local.now c.args.request.now c.requires.schema c.requires.named
