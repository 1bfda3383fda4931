use Rattle.laws_versions.proofs.IndexLemmas.OtherRecords.{taken_new, taken_replaced, taken_primary}
use Rattle.laws_versions.proofs.index.taken.a_key_is_taken_where_an_entry_has_it.Goals as goal

pub returns-clause-inserted : goal.returns-clause-inserted
returns-clause-inserted c = taken_new

pub returns-clause-replaced : goal.returns-clause-replaced
returns-clause-replaced c = taken_replaced

pub returns-clause-primary : goal.returns-clause-primary
returns-clause-primary c = taken_primary
