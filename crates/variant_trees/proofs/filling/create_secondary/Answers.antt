use Rattle.std.proofs.Common.{◌≡◌, true, List, ap, sym, subst, ◌∙◌}
use Rattle.std.specs.Prelude.{IfSome, IsSomeAnd}
use Rattle.long_value.specs.Values.{Values}
use Rattle.database_state.specs.Table.{schema_of, table_with_id}
use Rattle.jet_catalog.specs.Catalog.{CatalogState}
use Rattle.table_trees.specs.StoredTables.{table_long_values, StoredTable, has_index, has_table, index_entries, table_nodes}
use Rattle.table_trees.specs.StoredTrees.{with_root_of, without_root_of}
use Rattle.variant_trees.specs.NewEntries.{CanFill, HasNewestKeys, OnlyEntries}
use Rattle.variant_trees.proofs.IndexTrees.{can_fill, in_trees, new_created, new_is_empty, new_is_there, new_nodes, no_index, taken_back}
use Rattle.variant_trees.proofs.KeptSteps.{LacksIndex, new_index, none_yet, shows_in}
use Rattle.variant_trees.proofs.MadeTables.{a_tree}
use Rattle.variant_trees.proofs.NewEntries.{still_there}
use Rattle.variant_trees.proofs.Stepping.{counts_stay}
use Rattle.variant_trees.proofs.filling.create_secondary.Goals as goal

pub add_index-requires-clause-there : goal.add_index-requires-clause-there
add_index-requires-clause-there c =
    a_tree (table_long_values c.args.trees.now.tables) c.args.catalog.now.tables c.args.trees.now.tables c.requires.kept c.args.table.0 (in_trees (table_long_values c.args.trees.now.tables) c.args.table.0 c.args.rule.now c.args.catalog.now.tables c.args.trees.now.tables c.requires.fits)

pub add_index-requires-clause-absent : goal.add_index-requires-clause-absent
add_index-requires-clause-absent c = no_index (table_long_values c.args.trees.now.tables) c.args.table.0 c.args.rule.now c.args.catalog.now.tables c.args.trees.now.tables c.requires.kept c.requires.fits

pub fill_and_make-requires-clause-there : goal.fill_and_make-requires-clause-there
fill_and_make-requires-clause-there c =
    let tables = c.args.catalog.now.tables in let trees = c.args.trees.now.tables in let id = c.args.table.0 in let rule = c.args.rule.now in
    let there : has_table trees id ≡ true = a_tree (table_long_values c.args.trees.now.tables) tables trees c.requires.kept id (in_trees (table_long_values c.args.trees.now.tables) id rule tables trees c.requires.fits) in
    ap (λ (t : List StoredTable). has_index t id rule.id.0) c.in-Ok.ensures.ok ∙ new_is_there (table_long_values c.args.trees.now.tables) c.indexes_beside_a_new_one.ensures.there id rule tables trees there c.requires.kept c.requires.fits

pub fill_and_make-requires-clause-shown : goal.fill_and_make-requires-clause-shown
fill_and_make-requires-clause-shown c =
    let id = c.args.table.0 in let rule = c.args.rule.now in let was = c.args.catalog.now in let root = c.in-Ok.ensures.rooted.0 in
    shows_in (with_root_of id rule.id.0 root c.args.trees.now.catalog) c.add_index.new.self.catalog was c.in-Ok.ensures.rooted.1
    (c.other_roots_are_not_shown.ensures.index_comes c.args.trees.now.catalog was id rule.id.0 root c.requires.shown (none_yet was c.args.table rule (new_index (table_long_values c.args.trees.now.tables) c.args.table rule was c.args.trees.now.tables c.requires.fits)))

pub fill_and_make-requires-clause-new : goal.fill_and_make-requires-clause-new
fill_and_make-requires-clause-new c = new_index (table_long_values c.args.trees.now.tables) c.args.table c.args.rule.now c.args.catalog.now c.args.trees.now.tables c.requires.fits

pub fill_and_make-requires-clause-empty : goal.fill_and_make-requires-clause-empty
fill_and_make-requires-clause-empty c =
    let id = c.args.table.0 in let rule = c.args.rule.now in
    ap (λ (t : List StoredTable). index_entries t id rule.id.0) c.in-Ok.ensures.ok ∙ new_is_empty (table_long_values c.args.trees.now.tables) c.indexes_beside_a_new_one.ensures.entries id rule c.args.catalog.now.tables c.args.trees.now.tables c.requires.kept c.requires.fits

pub fill_and_make-requires-clause-fits : goal.fill_and_make-requires-clause-fits
fill_and_make-requires-clause-fits c =
    let trees = c.args.trees.now.tables in let id = c.args.table.0 in let rule = c.args.rule.now in
    subst (λ (v : Values). IsSomeAnd (table_with_id c.args.catalog.now.tables id) (CanFill v rule (table_nodes c.add_index.new.self.tables id))) (sym (ap (λ (t : List StoredTable). table_long_values t id) c.in-Ok.ensures.ok ∙ c.indexes_after_a_change.ensures.long_values c.args.trees.now.tables c.args.table.0 id _))
    (can_fill (table_long_values c.args.trees.now.tables) id rule c.args.catalog.now.tables trees c.add_index.new.self.tables c.nodes_are_in_order.ensures.sorted
    (λ table. ap (λ (t : List StoredTable). table_nodes t table) c.in-Ok.ensures.ok ∙ new_nodes c.indexes_after_a_change.ensures.nodes trees id rule.id.0 table) c.requires.kept c.requires.fits)

pub remove_index-requires : goal.remove_index-requires
remove_index-requires c =
    let tables = c.args.catalog.now.tables in let trees = c.args.trees.now.tables in let id = c.args.table.0 in let rule = c.args.rule.now in
    let there : has_table trees id ≡ true = a_tree (table_long_values c.args.trees.now.tables) tables trees c.requires.kept id (in_trees (table_long_values c.args.trees.now.tables) id rule tables trees c.requires.fits) in
    still_there id rule.id.0 c.add_index.new.self.tables c.fill_and_make.new.trees.tables c.in-Err-fill_and_make.ensures.only
    (ap (λ (t : List StoredTable). has_index t id rule.id.0) c.in-Ok.ensures.ok ∙ new_is_there (table_long_values c.args.trees.now.tables) c.indexes_beside_a_new_one.ensures.there id rule tables trees there c.requires.kept c.requires.fits)

pub returns-in-Ok-fill_and_make-clause-ok : goal.returns-in-Ok-fill_and_make-clause-ok
returns-in-Ok-fill_and_make-clause-ok c =
    new_created
    (record {
      others = c.indexes_after_a_change.ensures.others;
      nodes = c.indexes_after_a_change.ensures.nodes;
      entries = c.indexes_beside_a_new_one.ensures.entries;
      without = c.indexes_without_one.ensures.others;
    })
    c.args.made.now c.args.table c.args.rule.now c.requires.step c.args.catalog.now c.args.trees.now.tables c.nodes_are_in_order.ensures.sorted c.tables.ensures.numbered c.requires.secondary c.requires.fits c.requires.kept
    c.fill_and_make.new.catalog c.in-Ok-fill_and_make.ensures.made c.add_index.new.self.tables c.fill_and_make.new.trees.tables c.in-Ok.ensures.ok c.in-Ok-fill_and_make.ensures.only
    (subst (λ (v : Values). IfSome (table_with_id c.args.catalog.now.tables c.args.table.0) (λ t. HasNewestKeys v c.args.rule.now (table_nodes c.add_index.new.self.tables c.args.table.0) (index_entries c.fill_and_make.new.trees.tables c.args.table.0 c.args.rule.now.id.0) (schema_of t)))
    (ap (λ (t : List StoredTable). table_long_values t c.args.table.0) c.in-Ok.ensures.ok ∙ c.indexes_after_a_change.ensures.long_values c.args.trees.now.tables c.args.table.0 c.args.table.0 _) c.in-Ok-fill_and_make.ensures.filled)
    (λ table. c.in-Ok-fill_and_make.ensures.only.changes.values table ∙ (ap (λ (t : List StoredTable). table_long_values t table) c.in-Ok.ensures.ok ∙ c.indexes_after_a_change.ensures.long_values c.args.trees.now.tables c.args.table.0 table _))
    (counts_stay c.args.trees.now.tables c.fill_and_make.new.trees.tables
    (λ table. c.in-Ok-fill_and_make.ensures.only.changes.values table ∙ (ap (λ (t : List StoredTable). table_long_values t table) c.in-Ok.ensures.ok ∙ c.indexes_after_a_change.ensures.long_values c.args.trees.now.tables c.args.table.0 table _))
    (λ table. c.in-Ok-fill_and_make.ensures.only.changes.nodes table ∙ ap (λ (t : List StoredTable). table_nodes t table) c.in-Ok.ensures.ok ∙ c.indexes_after_a_change.ensures.nodes c.args.trees.now.tables c.args.table.0 table _) c.requires.counts)

pub returns-in-Err-fill_and_make-clause-err : goal.returns-in-Err-fill_and_make-clause-err
returns-in-Err-fill_and_make-clause-err c =
    let tables = c.args.catalog.now.tables in let trees = c.args.trees.now.tables in let id = c.args.table.0 in let rule = c.args.rule.now in
    let there : has_table trees id ≡ true = a_tree (table_long_values c.args.trees.now.tables) tables trees c.requires.kept id (in_trees (table_long_values c.args.trees.now.tables) id rule tables trees c.requires.fits) in (
      c.in-Err-fill_and_make.ensures.err,
      c.remove_index.ensures.tables
          ∙ taken_back (table_long_values c.args.trees.now.tables) c.indexes_after_a_change.ensures.named id rule.id.0 c.args.catalog.now.greatest_table tables trees c.fill_and_make.new.trees.tables c.tables.ensures.numbered c.requires.kept there
          (no_index (table_long_values c.args.trees.now.tables) id rule tables trees c.requires.kept c.requires.fits)
          (subst (λ (base : List StoredTable). OnlyEntries id rule.id.0 base c.fill_and_make.new.trees.tables) c.in-Ok.ensures.ok c.in-Err-fill_and_make.ensures.only),
    )

pub returns-in-Err-fill_and_make-clause-shown : goal.returns-in-Err-fill_and_make-clause-shown
returns-in-Err-fill_and_make-clause-shown c =
    let id = c.args.table.0 in let rule = c.args.rule.now in let is = c.fill_and_make.new.catalog in
    shows_in (without_root_of id rule.id.0 c.fill_and_make.new.trees.catalog) c.remove_index.new.self.catalog is c.remove_index.ensures.catalog
    (c.other_roots_are_not_shown.ensures.index_goes c.fill_and_make.new.trees.catalog is id rule.id.0 c.fill_and_make.ensures.shown
    (subst (λ (k : CatalogState). LacksIndex rule.id.0 (table_with_id k.tables id)) (sym c.in-Err-fill_and_make.ensures.err) (none_yet c.args.catalog.now c.args.table rule (new_index (table_long_values c.args.trees.now.tables) c.args.table rule c.args.catalog.now c.args.trees.now.tables c.requires.fits))))

pub returns-in-Err-clause-shown : goal.returns-in-Err-clause-shown
returns-in-Err-clause-shown c = shows_in c.args.trees.now.catalog c.add_index.new.self.catalog c.args.catalog.now c.in-Err.ensures.kept c.requires.shown
