use Rattle.std.proofs.Common.{List, refl, sym, subst}
use Rattle.table_trees.specs.StoredTables.{table_long_values, StoredTable}
use Rattle.stored_variants.specs.SchemaSteps.{IsMade}
use Rattle.variant_trees.proofs.IndexTrees.{in_trees}
use Rattle.variant_trees.proofs.KeptSteps.{new_index}
use Rattle.variant_trees.proofs.MadeTables.{a_tree}
use Rattle.variant_trees.proofs.NewIndexes.{index_created, no_tree_more}
use Rattle.variant_trees.proofs.filling.create_primary.Goals as goal

pub keep_and_make-requires-clause-there : goal.keep_and_make-requires-clause-there
keep_and_make-requires-clause-there c = a_tree (table_long_values c.args.trees.now.tables) c.args.catalog.now.tables c.args.trees.now.tables c.requires.kept c.args.table.0 (in_trees (table_long_values c.args.trees.now.tables) c.args.table.0 c.args.rule.now c.args.catalog.now.tables c.args.trees.now.tables c.requires.fits)

pub keep_and_make-requires-clause-new : goal.keep_and_make-requires-clause-new
keep_and_make-requires-clause-new c = new_index (table_long_values c.args.trees.now.tables) c.args.table c.args.rule.now c.args.catalog.now c.args.trees.now.tables c.requires.fits

pub returns-in-Ok-clause-ok : goal.returns-in-Ok-clause-ok
returns-in-Ok-clause-ok c =
    subst (λ (t : List StoredTable). IsMade c.args.made.now c.args.catalog.now c.args.trees.now.tables c.keep_and_make.new.catalog t) (sym c.keep_and_make.ensures.tables)
    (index_created c.args.made.now c.args.table c.args.rule.now c.requires.step c.args.catalog.now c.args.trees.now.tables c.nodes_are_in_order.ensures.sorted c.requires.fits c.requires.kept c.keep_and_make.new.catalog c.in-Ok.ensures.made c.args.trees.now.tables
    (no_tree_more (table_long_values c.args.trees.now.tables) c.args.table.0 c.args.rule.now c.args.catalog.now.tables c.args.trees.now.tables c.requires.primary c.requires.kept.numbers) (λ table. refl) c.requires.counts)
