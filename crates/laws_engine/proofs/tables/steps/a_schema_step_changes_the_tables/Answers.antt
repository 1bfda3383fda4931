use Rattle.laws_engine.proofs.TableLemmas.SchemaStepping.{stepped_holds}
use Rattle.laws_engine.proofs.tables.steps.a_schema_step_changes_the_tables.Goals as goal

pub returns : goal.returns
returns c = stepped_holds
