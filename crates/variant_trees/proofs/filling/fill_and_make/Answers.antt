use Rattle.std.proofs.Common.{List, sym, subst}
use Rattle.std.specs.Prelude.{IfSome}
use Rattle.database_state.specs.Table.{schema_of, table_with_id}
use Rattle.table_trees.specs.StoredTables.{table_long_values, StoredTable, index_entries, table_nodes}
use Rattle.variant_trees.specs.NewEntries.{HasNewestKeys, OnlyEntries}
use Rattle.variant_trees.proofs.KeptSteps.{shows_in, tree_of_table}
use Rattle.variant_trees.proofs.NewEntries.{still_there}
use Rattle.variant_trees.proofs.filling.fill_and_make.Goals as goal

pub keep_and_make-requires-clause-there : goal.keep_and_make-requires-clause-there
keep_and_make-requires-clause-there c =
    tree_of_table c.fill_table.new.trees.tables c.args.table.0 c.args.rule.now.id.0 (still_there c.args.table.0 c.args.rule.now.id.0 c.args.trees.now.tables c.fill_table.new.trees.tables c.fill_table.ensures.only c.requires.there)

pub keep_and_make-requires-clause-shown : goal.keep_and_make-requires-clause-shown
keep_and_make-requires-clause-shown c = shows_in c.args.trees.now.catalog c.fill_table.new.trees.catalog c.args.catalog.now c.fill_table.ensures.catalog c.requires.shown

pub returns-in-Ok-keep_and_make-clause-only : goal.returns-in-Ok-keep_and_make-clause-only
returns-in-Ok-keep_and_make-clause-only c =
    subst (λ (t : List StoredTable). OnlyEntries c.args.table.0 c.args.rule.now.id.0 c.args.trees.now.tables t) (sym c.keep_and_make.ensures.tables) c.fill_table.ensures.only

pub returns-in-Err-keep_and_make-clause-only : goal.returns-in-Err-keep_and_make-clause-only
returns-in-Err-keep_and_make-clause-only c =
    subst (λ (t : List StoredTable). OnlyEntries c.args.table.0 c.args.rule.now.id.0 c.args.trees.now.tables t) (sym c.keep_and_make.ensures.tables) c.fill_table.ensures.only

pub returns-in-Ok-keep_and_make-clause-filled : goal.returns-in-Ok-keep_and_make-clause-filled
returns-in-Ok-keep_and_make-clause-filled c =
    subst (λ (t : List StoredTable). IfSome (table_with_id c.args.catalog.now.tables c.args.table.0) (λ table. HasNewestKeys (table_long_values c.args.trees.now.tables c.args.table.0) c.args.rule.now (table_nodes c.args.trees.now.tables c.args.table.0) (index_entries t c.args.table.0 c.args.rule.now.id.0) (schema_of table))) (sym c.keep_and_make.ensures.tables) c.in-Ok.ensures.filled

pub returns-in-Err-clause-shown : goal.returns-in-Err-clause-shown
returns-in-Err-clause-shown c = shows_in c.args.trees.now.catalog c.fill_table.new.trees.catalog c.args.catalog.now c.fill_table.ensures.catalog c.requires.shown
