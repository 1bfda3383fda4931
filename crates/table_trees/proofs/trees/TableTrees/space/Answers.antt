use Rattle.std.proofs.Common.{ℕ, Option, sym, subst}
use Rattle.table_trees.specs.StoredTrees.{StoredTrees}
use Rattle.table_trees.specs.TreesInSpace.{StandsIn}
use Rattle.table_trees.specs.TreesView.{stored_catalog, stored_tables}
use Rattle.table_trees.proofs.RootsOfTables.{stands_in}
use Rattle.table_trees.proofs.trees.TableTrees.space.Goals as goal

pub returns : goal.returns
returns c =
    let frames = c.self.inside.space in
    let tables = c.self.inside.tables.items in
    subst (λ (s : StoredTrees). StandsIn frames c.root.result s) c.self.view_is
    (subst (λ (root : Option ℕ). StandsIn frames root (record { tables = stored_tables frames tables; catalog = stored_catalog frames c.self.inside.catalog tables })) (sym c.root.ensures)
    (stands_in frames c.self.inside.catalog tables c.self.invariant))
