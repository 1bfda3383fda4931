use Rattle.engine_core.proofs.Storable.{ChangeLaws, lawful_can}
use Rattle.engine_core.proofs.step_laws.lawful_changes_can_be_made.Goals as goal

pub returns : goal.returns
returns c =
    let laws : ChangeLaws = record {
      schema = c.tables_are_told.ensures.schema;
      newest = c.newest_records_are_told.ensures.newest;
    } in
    lawful_can laws
