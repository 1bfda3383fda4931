use Rattle.table_versions.proofs.StoredConflicts.{rule_in_store, rule_is_found}
use Rattle.table_versions.proofs.store.TableVersions.rules_are_legal.Goals as goal

pub returns-clause-found : goal.returns-clause-found
returns-clause-found c table schema named place rule at =
    rule_is_found c.self.inside.newest_put c.self.inside.catalog c.self.inside.trees.tables c.self.inside.versions c.self.invariant.kept c.args.self.now c.self.view_is table schema named place rule at

pub returns-clause-legal : goal.returns-clause-legal
returns-clause-legal c table schema named rule found =
    rule_in_store c.self.inside.newest_put c.self.inside.catalog c.self.inside.trees.tables c.self.inside.versions c.self.invariant.kept c.args.self.now c.self.view_is table schema named rule found
