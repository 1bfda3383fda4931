use Rattle.laws_engine.proofs.AgreeingLemmas.SchemaCalls.{column_added, column_deleted, index_created, index_deleted, table_created, table_deleted}
use Rattle.laws_engine.proofs.agreeing.schema.schema_calls_keep_a_session_in_step.Goals as goal

pub returns-clause-create_table : goal.returns-clause-create_table
returns-clause-create_table c = table_created

pub returns-clause-delete_table : goal.returns-clause-delete_table
returns-clause-delete_table c = table_deleted

pub returns-clause-add_column : goal.returns-clause-add_column
returns-clause-add_column c = column_added

pub returns-clause-delete_column : goal.returns-clause-delete_column
returns-clause-delete_column c = column_deleted

pub returns-clause-create_index : goal.returns-clause-create_index
returns-clause-create_index c = index_created

pub returns-clause-delete_index : goal.returns-clause-delete_index
returns-clause-delete_index c = index_deleted
