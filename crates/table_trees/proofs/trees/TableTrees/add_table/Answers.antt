-- The new table stands behind the others, whose trees stay. Where it is refused, the pages that it took are free again.
use Rattle.std.proofs.Common.{◌≡◌, List, [], ◌∷◌, ◌++◌, sym, ap, subst, ◌∙◌}
use Rattle.common_lemmas.proofs.Results.{OnErr-from}
use Rattle.table_trees.specs.LongTrees.{long_root}
use Rattle.table_trees.specs.NodeTrees.{node_root}
use Rattle.table_trees.specs.StoredTables.{has_table}
use Rattle.table_trees.specs.StoredTrees.{StoredTrees}
use Rattle.table_trees.specs.TreesView.{AreTables, stored_catalog, stored_tables}
use Rattle.table_trees.specs.declared.table.Table.{Table}
use Rattle.table_trees.proofs.StoreChanges.{catalog_same, nothing_comes, stored_trees, table_comes, tables_same, with_table_trees}
use Rattle.table_trees.proofs.trees.TableTrees.add_table.Goals as goal

pub invariant_of-self-2 : goal.invariant_of-self-2
invariant_of-self-2 c =
    let made = c.in_ok-made.made in
    let pushed : c.push.new.self.items ≡ c.self.inside.tables.items ++ made ∷ [] = c.in_ok-push.ensures.items ∙ ap (λ (l : List Table). l ++ made ∷ []) c.in_ok-reserve.ensures.items in
    let absent = ap (λ (s : StoredTrees). has_table s.tables c.args.table.0) c.self.view_is ∙ c.requires in
    let is = c.in_ok-made.ensures.made in
    subst (AreTables c.new.new.space c.self.inside.catalog) (sym pushed) (table_comes (record { tables = c.tables_stay.ensures.tables; catalog = c.tables_stay.ensures.catalog }) c.self.inside.space c.self.inside.tables.items c.new.new.space c.args.table.0 made c.self.invariant absent is.0 is.1 is.2
    (node_root made.nodes) (long_root made.long_values) c.in_ok-made.ensures.roots).0

pub invariant_of-self-in_err-made : goal.invariant_of-self-in_err-made
invariant_of-self-in_err-made c =
    subst (AreTables c.new.new.space c.self.inside.catalog) (sym c.in_ok-reserve.ensures.items) (nothing_comes (record { tables = c.tables_stay.ensures.tables; catalog = c.tables_stay.ensures.catalog }) c.self.inside.space c.self.inside.tables.items c.new.new.space c.self.invariant c.in_err-made.ensures.err).0

pub returns-in_err-made-clause-err : goal.returns-in_err-made-clause-err
returns-in_err-made-clause-err c =
    OnErr-from c.from_residual-in_err-made.result (stored_tables c.new.new.space c.reserve.new.self.items ≡ c.args.self.now.tables)
    (tables_same
    (ap (stored_trees c.new.new.space c.self.inside.catalog) c.in_ok-reserve.ensures.items
    ∙ (nothing_comes (record { tables = c.tables_stay.ensures.tables; catalog = c.tables_stay.ensures.catalog }) c.self.inside.space c.self.inside.tables.items c.new.new.space c.self.invariant c.in_err-made.ensures.err).1
    ∙ c.self.view_is))

pub returns-in_err-made-clause-kept : goal.returns-in_err-made-clause-kept
returns-in_err-made-clause-kept c =
    OnErr-from c.from_residual-in_err-made.result (stored_catalog c.new.new.space c.self.inside.catalog c.reserve.new.self.items ≡ c.args.self.now.catalog)
    (catalog_same
    (ap (stored_trees c.new.new.space c.self.inside.catalog) c.in_ok-reserve.ensures.items
    ∙ (nothing_comes (record { tables = c.tables_stay.ensures.tables; catalog = c.tables_stay.ensures.catalog }) c.self.inside.space c.self.inside.tables.items c.new.new.space c.self.invariant c.in_err-made.ensures.err).1
    ∙ c.self.view_is))

pub returns-clause-ok : goal.returns-clause-ok
returns-clause-ok c =
    let made = c.in_ok-made.made in
    let pushed : c.push.new.self.items ≡ c.self.inside.tables.items ++ made ∷ [] = c.in_ok-push.ensures.items ∙ ap (λ (l : List Table). l ++ made ∷ []) c.in_ok-reserve.ensures.items in
    let absent = ap (λ (s : StoredTrees). has_table s.tables c.args.table.0) c.self.view_is ∙ c.requires in
    let is = c.in_ok-made.ensures.made in
    tables_same
    (ap (stored_trees c.new.new.space c.self.inside.catalog) pushed
    ∙ (table_comes (record { tables = c.tables_stay.ensures.tables; catalog = c.tables_stay.ensures.catalog }) c.self.inside.space c.self.inside.tables.items c.new.new.space c.args.table.0 made c.self.invariant absent is.0 is.1 is.2
    (node_root made.nodes) (long_root made.long_values) c.in_ok-made.ensures.roots).1
    ∙ ap (with_table_trees c.args.table.0 (node_root made.nodes) (long_root made.long_values)) c.self.view_is)

pub returns-clause-rooted : goal.returns-clause-rooted
returns-clause-rooted c =
    let made = c.in_ok-made.made in
    let pushed : c.push.new.self.items ≡ c.self.inside.tables.items ++ made ∷ [] = c.in_ok-push.ensures.items ∙ ap (λ (l : List Table). l ++ made ∷ []) c.in_ok-reserve.ensures.items in
    let absent = ap (λ (s : StoredTrees). has_table s.tables c.args.table.0) c.self.view_is ∙ c.requires in
    let is = c.in_ok-made.ensures.made in (
      node_root made.nodes,
      long_root made.long_values,
      catalog_same
          (ap (stored_trees c.new.new.space c.self.inside.catalog) pushed
          ∙ (table_comes (record { tables = c.tables_stay.ensures.tables; catalog = c.tables_stay.ensures.catalog }) c.self.inside.space c.self.inside.tables.items c.new.new.space c.args.table.0 made c.self.invariant absent is.0 is.1 is.2
          (node_root made.nodes) (long_root made.long_values) c.in_ok-made.ensures.roots).1
          ∙ ap (with_table_trees c.args.table.0 (node_root made.nodes) (long_root made.long_values)) c.self.view_is),
    )
