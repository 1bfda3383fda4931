use Rattle.laws_versions.proofs.KeyLemmas.OrderedTables.{order_kept}
use Rattle.laws_versions.proofs.keys.tables.lawful_entries_keep_tables_in_order.Goals as goal

pub returns-clause-empty : goal.returns-clause-empty
returns-clause-empty c = record { ids = tt; given = tt; rows = tt }

pub returns-clause-kept : goal.returns-clause-kept
returns-clause-kept c = order_kept
