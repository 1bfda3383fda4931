-- So far each was put in by its number.
use Rattle.std.proofs.Common.{◌≡◌, map, take}
use Rattle.database_state.specs.SchemaSteps.{condition_of}
use Rattle.jet_catalog.proofs.table.TableDef.numbered_conditions.Given as goal

abbrev pub invariant-loop-condition : goal.invariant-loop-condition
invariant-loop-condition l = l.made ≡ map (condition_of l.self.columns) (take l.condition-index l.asked)
