use Rattle.table_versions.proofs.StoredConflicts.{conflict_in_primary}
use Rattle.table_versions.proofs.store.TableVersions.keys_of_a_primary_index_conflict_by_their_record.Goals as goal

pub returns : goal.returns
returns c = λ reader table schema rule key named found primary.
    conflict_in_primary c.a_primary_index_has_one_entry.ensures reader key c.self.inside.newest_put c.self.inside.catalog c.self.inside.trees.tables c.self.inside.versions c.self.invariant.kept c.nodes_are_in_order.ensures.sorted
    c.args.self.now c.self.view_is table schema named rule found primary
