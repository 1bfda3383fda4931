use Rattle.own_images.proofs.OwnForest.{catalog_nodes_are, catalog_tree, own_pages, table_trees}
use Rattle.own_images.proofs.laws.the_trees_of_a_store_have_no_fault.Goals as goal

pub returns-clause-catalog : goal.returns-clause-catalog
returns-clause-catalog c store own = catalog_tree (record { fault = c.no_fault_is_told_of_a_tree.ensures.fault; depth = c.no_fault_is_told_of_a_tree.ensures.depth }) store own

pub returns-clause-nodes : goal.returns-clause-nodes
returns-clause-nodes c store own = catalog_nodes_are (record { fault = c.no_fault_is_told_of_a_tree.ensures.fault; depth = c.no_fault_is_told_of_a_tree.ensures.depth }) store own

pub returns-clause-tables : goal.returns-clause-tables
returns-clause-tables c store own = table_trees (record { fault = c.no_fault_is_told_of_a_tree.ensures.fault; depth = c.no_fault_is_told_of_a_tree.ensures.depth }) store own

pub returns-clause-pages : goal.returns-clause-pages
returns-clause-pages c store own = own_pages (record { fault = c.no_fault_is_told_of_a_tree.ensures.fault; depth = c.no_fault_is_told_of_a_tree.ensures.depth }) store own
