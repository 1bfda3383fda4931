use Rattle.std.proofs.Common.{ap, subst, sym, ◌∙◌, List}
use Rattle.std.specs.List.{flat_map}
use Rattle.database_state.specs.Table.{Table}
use Rattle.catalog_grammar.specs.CatalogSteps.{nodes_of_catalog}
use Rattle.catalog_record.specs.CatalogTrees.{nodes_in}
use Rattle.table_trees.specs.StoredTrees.{roots_by_number}
use Rattle.image_opening.specs.KeptNodes.{HaveRoom, items_again, with_items}
use Rattle.image_opening.proofs.KeptCatalogs.{writes_kept}
use Rattle.image_opening.proofs.KeptLoops.{becomes_as}
use Rattle.image_opening.proofs.StayingTables.{stay_opened}
use Rattle.image_opening.proofs.opened.OpenedCatalog.write_as_kept.Goals as goal

pub write_tables-requires-clause-room : goal.write_tables-requires-clause-room
write_tables-requires-clause-room c =
    let frames = c.args.space.now in
    let opened = c.args.self.now in
    subst (λ (l : List Table). HaveRoom (nodes_in frames opened.tree) (flat_map items_again l)) (sym c.tables.ensures.tables) (writes_kept frames opened.tree opened.catalog opened.roots.items c.requires).1.room

pub returns-clause-nodes : goal.returns-clause-nodes
returns-clause-nodes c =
    let frames = c.args.space.now in
    let opened = c.args.self.now in
    becomes_as frames opened.tree c.write_tables.new.space c.write_tables.new.tree (with_items (flat_map items_again c.tables.result.now) (nodes_in frames opened.tree)) (nodes_of_catalog (roots_by_number opened.roots.items) opened.catalog)
    (ap (λ (l : List Table). with_items (flat_map items_again l) (nodes_in frames opened.tree)) c.tables.ensures.tables ∙ (writes_kept frames opened.tree opened.catalog opened.roots.items c.requires).1.written)
    c.write_tables.ensures

pub returns-clause-writable : goal.returns-clause-writable
returns-clause-writable c = (writes_kept c.args.space.now c.args.self.now.tree c.args.self.now.catalog c.args.self.now.roots.items c.requires).1.writable

pub returns-clause-tables : goal.returns-clause-tables
returns-clause-tables c opened shown forest have =
    stay_opened c.other_tree_stays.ensures c.args.space.now c.write_tables.new.space c.args.self.now.tree c.write_tables.new.tree (with_items (flat_map items_again c.tables.result.now) (nodes_in c.args.space.now c.args.self.now.tree)) opened shown c.write_tables.ensures forest have
