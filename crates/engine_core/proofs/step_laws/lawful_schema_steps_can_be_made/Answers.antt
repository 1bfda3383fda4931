use Rattle.engine_core.proofs.SchemaSteps.{lawful_can_make}
use Rattle.engine_core.proofs.step_laws.lawful_schema_steps_can_be_made.Goals as goal

pub returns : goal.returns
returns c = lawful_can_make c.a_primary_index_has_one_entry.ensures
