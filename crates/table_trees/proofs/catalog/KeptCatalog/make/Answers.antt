-- The tree is made of free pages, or is not.
use Rattle.table_trees.proofs.Catalogs.{made_becomes, none_becomes, same_becomes}
use Rattle.table_trees.proofs.catalog.KeptCatalog.make.Goals as goal

pub returns-in-Some-clause-becomes : goal.returns-in-Some-clause-becomes
returns-in-Some-clause-becomes c = same_becomes c.args.space.now c.args.self.now c.requires

pub returns-in-Ok-clause-becomes : goal.returns-in-Ok-clause-becomes
returns-in-Ok-clause-becomes c = made_becomes c.tree_pages_are_own.ensures c.args.space.now c.new.new.space c.args.self.now.tree c.in-Ok.tree c.in-None.is c.in-Ok.ensures.ok.0 c.in-Ok.ensures.ok.1 c.in-Ok.ensures.ok.2

pub returns-in-Err-clause-becomes : goal.returns-in-Err-clause-becomes
returns-in-Err-clause-becomes c = none_becomes c.args.space.now c.new.new.space c.args.self.now.tree c.in-None.is c.in-Err.ensures.err
