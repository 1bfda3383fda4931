use Rattle.std.proofs.Common.{List, subst}
use Rattle.database_state.specs.Table.{Table}
use Rattle.engine_image.specs.MadeTables.{AreMadeTables}
use Rattle.engine_image.proofs.Engines.{forest_made, forest_opened, forest_tables, forest_trees}
use Rattle.engine_image.proofs.making.made_forest.Goals as goal

pub made_tables-requires : goal.made_tables-requires
made_tables-requires c = forest_trees c.requires.0 c.args.space c.args.forest c.tables.result.now c.requires.1 c.tables.ensures.tables

pub write_as_kept-requires : goal.write_as_kept-requires
write_as_kept-requires c = forest_opened c.requires.0 c.args.space c.args.forest c.requires.1

pub of-trees-requires : goal.of-trees-requires
of-trees-requires c =
    let trees = c.args.forest.trees.items in
    let tables = c.in-Ok.tables.items in
    let kept = c.write_as_kept.ensures in
    forest_tables (record { whole = c.values_that_are_not_broken_are_whole.ensures; store = c.whole_values_with_references_are_a_store.ensures }) c.requires.0 c.args.space c.write_as_kept.new.space c.args.forest c.write_as_kept.new.self.tree tables c.requires.1
    (record { nodes = kept.nodes; writable = kept.writable; tables = kept.tables }) (subst (λ (l : List Table). AreMadeTables trees tables l) c.tables.ensures.tables c.in-Ok.ensures)

pub returns-in-Ok : goal.returns-in-Ok
returns-in-Ok c image may =
    let trees = c.args.forest.trees.items in
    let tables = c.in-Ok.tables.items in
    let kept = c.write_as_kept.ensures in
    forest_made image c.args.space c.write_as_kept.new.space c.args.forest c.write_as_kept.new.self.tree tables (record { catalog = c.write_as_kept.new.self.catalog; trees = c.of-trees.result }) may
    (record { nodes = kept.nodes; writable = kept.writable; tables = kept.tables }) (subst (λ (l : List Table). AreMadeTables trees tables l) c.tables.ensures.tables c.in-Ok.ensures) kept.catalog c.of-trees.ensures.tables c.of-trees.ensures.catalog
