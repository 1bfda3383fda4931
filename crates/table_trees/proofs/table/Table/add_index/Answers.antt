-- The new index stands behind the others, and the trees of these stay.
use Rattle.std.proofs.Common.{◌≡◌, List, [], ◌∷◌, ◌++◌, refl, sym, ap, subst, ◌∙◌}
use Rattle.page_space.specs.Frames.{Frames}
use Rattle.common_lemmas.proofs.Results.{OnErr-from}
use Rattle.index_tree.specs.IndexTrees.{root_of}
use Rattle.table_trees.specs.TableParts.{TableBecomes, stored_table, tree_roots}
use Rattle.table_trees.specs.declared.table.TableIndex.{TableIndex}
use Rattle.table_trees.specs.declared.table.Table.{Table}
use Rattle.table_trees.proofs.IndexChanges.{index_comes}
use Rattle.table_trees.proofs.TableChanges.{table_same}
use Rattle.table_trees.proofs.table.Table.add_index.Goals as goal

pub returns-in_err-reserve-clause-err : goal.returns-in_err-reserve-clause-err
returns-in_err-reserve-clause-err c =
    let is : Table = record { table = c.args.self.now.table; nodes = c.args.self.now.nodes; long_values = c.args.self.now.long_values; indexes = c.reserve.new.self } in
    OnErr-from c.from_residual.result (TableBecomes c.args.space.now c.args.self.now c.args.space.now is (stored_table c.args.space.now c.args.self.now) (tree_roots c.args.self.now))
    (table_same c.args.space.now c.args.self.now c.requires.table is (record { table = refl; nodes = refl; long_values = refl; items_are = c.in_err-reserve.ensures.items }))

pub returns-in_err-tree-clause-err : goal.returns-in_err-tree-clause-err
returns-in_err-tree-clause-err c =
    let is : Table = record { table = c.args.self.now.table; nodes = c.args.self.now.nodes; long_values = c.args.self.now.long_values; indexes = c.reserve.new.self } in
    OnErr-from c.from_residual-in_err-tree.result (TableBecomes c.args.space.now c.args.self.now c.new.new.space is (stored_table c.args.space.now c.args.self.now) (tree_roots c.args.self.now))
    (subst (λ (new : Frames). TableBecomes c.args.space.now c.args.self.now new is (stored_table c.args.space.now c.args.self.now) (tree_roots c.args.self.now)) (sym c.in_err-tree.ensures.err)
    (table_same c.args.space.now c.args.self.now c.requires.table is (record { table = refl; nodes = refl; long_values = refl; items_are = c.in_ok-reserve.ensures.items })))

pub returns-clause-ok : goal.returns-clause-ok
returns-clause-ok c =
    let made : TableIndex = record { index = c.args.index; tree = c.in_ok-tree.tree } in
    let is : Table = record { table = c.args.self.now.table; nodes = c.args.self.now.nodes; long_values = c.args.self.now.long_values; indexes = c.push.new.self } in
    let pushed : c.push.new.self.items ≡ c.args.self.now.indexes.items ++ made ∷ [] = c.in_ok-push.ensures.items ∙ ap (λ (l : List TableIndex). l ++ made ∷ []) c.in_ok-reserve.ensures.items in (
      root_of made.tree,
      index_comes (record { nodes = c.trees_stay.ensures.nodes; long_values = c.trees_stay.ensures.long_values; indexes = c.trees_stay.ensures.indexes }) c.trees_stay.ensures.own c.args.space.now c.args.self.now c.new.new.space made is c.requires.table c.requires.absent
          c.in_ok-tree.ensures.empty.0 c.in_ok-tree.ensures.empty.1 c.in_ok-tree.ensures.pages (record { table = refl; nodes = refl; long_values = refl; items_are = pushed }),
    )
