-- The tree does it; a catalog that has the table has a tree.
use Rattle.common_lemmas.proofs.Results.{OnOk-then}
use Rattle.index_derive.specs.declared.schema_calls.SchemaStep.TheVariants as step
use Rattle.jet_catalog.specs.Catalog.{catalog_after}
use Rattle.table_trees.proofs.Catalogs.{has_tree, holds_tree, tree_follows, tree_same}
use Rattle.table_trees.proofs.Outcomes.{on_err}
use Rattle.table_trees.proofs.catalog.KeptCatalog.create_index.Goals as goal

pub create_index-requires : goal.create_index-requires
create_index-requires c = let r = c.requires in (r.0, r.1, holds_tree c.args.space.now c.args.self.now.tree c.in-Some.tree r.0 r.1 c.in-Some.is r.2, r.3)

pub returns-in-Some-clause-ok : goal.returns-in-Some-clause-ok
returns-in-Some-clause-ok c = OnOk-then c.create_index.result (λ f roots catalog holds takes. tree_follows c.tree_pages_are_own.ensures c.args.space.now c.args.self.now.tree c.in-Some.tree c.create_index.new.space c.create_index.new.self roots (catalog_after catalog (step.CreateIndex c.args.table c.args.rule.now)) c.in-Some.is holds.tree (f roots catalog (holds_tree c.args.space.now c.args.self.now.tree c.in-Some.tree roots catalog c.in-Some.is holds) takes)) c.create_index.ensures.ok

pub returns-in-Some-clause-err : goal.returns-in-Some-clause-err
returns-in-Some-clause-err c = on_err c.create_index.result (λ b. tree_same c.tree_pages_are_own.ensures c.args.space.now c.args.self.now.tree c.in-Some.tree c.create_index.new.space c.create_index.new.self c.in-Some.is c.requires.2.tree b) c.create_index.ensures.err

pub returns-in-None-clause-ok : goal.returns-in-None-clause-ok
returns-in-None-clause-ok c = let r = c.requires in has_tree c.args.space.now c.args.self.now.tree r.0 r.1 c.args.table.0 r.3.t c.in-None.is r.2 r.3.there
