-- The tree is made first where there is none, and then does it.
use Rattle.common_lemmas.proofs.Results.{OnOk-then}
use Rattle.index_derive.specs.declared.schema_calls.SchemaStep.TheVariants as step
use Rattle.jet_catalog.specs.Catalog.{catalog_after}
use Rattle.table_trees.proofs.Catalogs.{becomes_then, follows_then, holds_still, holds_tree, tree_follows, tree_same}
use Rattle.table_trees.proofs.Outcomes.{on_err}
use Rattle.table_trees.proofs.catalog.KeptCatalog.create_table.Goals as goal

pub make-requires : goal.make-requires
make-requires c = c.requires.2.tree

pub create_table-requires : goal.create_table-requires
create_table-requires c = let r = c.requires in (r.0, r.1, holds_tree c.make.new.space c.make.new.self.tree c.in-Some.tree r.0 r.1 c.in-Some.is (holds_still c.make.ensures.becomes r.2), r.3)

pub returns-in-Some-clause-ok : goal.returns-in-Some-clause-ok
returns-in-Some-clause-ok c =
    OnOk-then c.create_table.result
    (λ f roots catalog holds takes.
    let now = holds_still c.make.ensures.becomes holds in
    follows_then c.make.ensures.becomes
    (tree_follows c.tree_pages_are_own.ensures c.make.new.space c.make.new.self.tree c.in-Some.tree c.create_table.new.space c.create_table.new.self roots (catalog_after catalog (step.CreateTable c.args.table c.args.name.now)) c.in-Some.is now.tree
    (f roots catalog (holds_tree c.make.new.space c.make.new.self.tree c.in-Some.tree roots catalog c.in-Some.is now) takes)))
    c.create_table.ensures.ok

pub returns-in-Some-clause-err : goal.returns-in-Some-clause-err
returns-in-Some-clause-err c =
    on_err c.create_table.result
    (λ b. becomes_then c.make.ensures.becomes (tree_same c.tree_pages_are_own.ensures c.make.new.space c.make.new.self.tree c.in-Some.tree c.create_table.new.space c.create_table.new.self c.in-Some.is c.make.ensures.becomes.tree b))
    c.create_table.ensures.err
