use Rattle.table_versions.proofs.FormedRecords.{record-formed}
use Rattle.table_versions.proofs.store.TableVersions.seen_records_are_formed.Goals as goal

pub returns : goal.returns
returns c = record-formed c.self.inside.newest_put c.self.inside.catalog c.self.inside.trees.tables c.self.inside.versions c.args.self.now c.self.invariant.kept c.nodes_are_in_order.ensures.sorted c.self.view_is
