-- All tables, of which one changes.
use Rattle.std.proofs.Common.{◌≡◌, ℕ, ◌≤◌, ◌==◌, Bool, false, None, List, [], ◌∷◌, ◌++◌, get_or, map, set, refl, sym, ap, subst, ◌∙◌, arith}
use Rattle.std.specs.Prelude.{count_by, remove}
use Rattle.std.specs.List.{flat_map, position_from}
use Rattle.std.proofs.lemmas.Bool.{eqb-true}
use Rattle.common_lemmas.proofs.Booleans.{by_test}
use Rattle.page_image.specs.Page.{Node}
use Rattle.page_space.specs.Frames.{Frames}
use Rattle.cursor_nav.specs.Places.{Pair}
use Rattle.index_tree.specs.IndexTrees.{IsIndexTree, entries_of}
use Rattle.index_tree.specs.declared.index.IndexTree.{IndexTree}
use Rattle.long_value.specs.Values.{Values}
use Rattle.table_trees.specs.Pages.{OthersStay, Rearranges, copies}
use Rattle.table_trees.specs.StoredTables.{StoredIndex, StoredTable, changed_where, has_table, index_entries, is_index, is_table, new_table, part_of, put_indexes, put_long_values, put_nodes, table_indexes, table_long_values, table_nodes, with_indexes, with_long_values, with_nodes, without_table}
use Rattle.table_trees.specs.LongTrees.{IsLongTree, LongBecomes, long_values_in}
use Rattle.table_trees.specs.NodeTrees.{IsNodeTree, NodesBecome, nodes_in}
use Rattle.table_trees.specs.TableParts.{IsTable, TableBecomes, stored_index, stored_table, table_pages, tree_roots}
use Rattle.table_trees.specs.StoredTrees.{StoredRoots, StoredTrees, are_roots_of, new_roots, put_roots, with_table_roots, without_table_roots}
use Rattle.table_trees.specs.KeptCatalogs.{IsKeptCatalog, kept_nodes, kept_pages}
use Rattle.table_trees.specs.TreesView.{AreTables, stored_catalog, stored_tables}
use Rattle.table_trees.specs.declared.catalog.KeptCatalog.{KeptCatalog}
use Rattle.table_trees.specs.declared.long_values.LongTree.{LongTree}
use Rattle.table_trees.specs.declared.nodes.NodeTree.{NodeTree}
use Rattle.table_trees.specs.declared.table.Table.{Table}
use Rattle.table_trees.proofs.Pages.{copies-append}
use Rattle.table_trees.proofs.Lookups.{count-append, count-map, count-no, count-yes, none_passes}
use Rattle.table_trees.proofs.Members.{AreBounded, OneChanges, Steps, all_stay, one_added, one_removed, one_set}
use Rattle.table_trees.proofs.Places.{IsPlaced, count-added, count-without, found_no_part, found_part, none_shown, part_has, step_changed, step_removed, step_same}
use Rattle.table_trees.proofs.TableChanges.{TreesStay, long_change, nodes_change}

-- what the laws of the tables and of the catalog say
pub record TablesStay : Type 0 where
  pub tables : OthersStay IsTable table_pages stored_table
  pub catalog : OthersStay IsKeptCatalog kept_pages kept_nodes

-- what is shown of all
abbrev pub stored_trees : Frames → KeptCatalog → List Table → StoredTrees
stored_trees frames cat tables = record { tables = stored_tables frames tables; catalog = stored_catalog frames cat tables }

abbrev pub put_tables : List StoredTable → StoredTrees → StoredTrees
put_tables tables trees = record trees { tables = tables }

-- of the same, the tables are the same, and the catalog is
pub tables_same : {s t : StoredTrees} → s ≡ t → s.tables ≡ t.tables
tables_same e = ap (λ (v : StoredTrees). v.tables) e

pub catalog_same : {s t : StoredTrees} → s ≡ t → s.catalog ≡ t.catalog
catalog_same e = ap (λ (v : StoredTrees). v.catalog) e

-- a table more, and one less
abbrev pub with_table_trees : ℕ → ℕ → ℕ → StoredTrees → StoredTrees
with_table_trees table records long_values trees = record { tables = trees.tables ++ new_table table ∷ []; catalog = with_table_roots table records long_values trees.catalog }

abbrev pub without_table_trees : ℕ → StoredTrees → StoredTrees
without_table_trees table trees = record { tables = without_table table trees.tables; catalog = without_table_roots table trees.catalog }

-- whether a table has the number
abbrev pub is_named : ℕ → Table → Bool
is_named n table = table.table.0 == n

bounded : {cat : KeptCatalog} → (frames : Frames) (tables : List Table) → AreTables frames cat tables → AreBounded table_pages frames tables
bounded {cat} frames tables are p = omega (arith, are.forest p, copies-append p (kept_pages frames cat) (flat_map (table_pages frames) tables))

-- The catalog stays as the tables take pages and give pages back.
pub catalog_stays : TablesStay → (old new : Frames) (cat : KeptCatalog) (tables : List Table) (after : List ℕ) → AreTables old cat tables → Rearranges old new (flat_map (table_pages old) tables) after
    → IsKeptCatalog new cat × (kept_nodes new cat ≡ kept_nodes old cat) × (kept_pages new cat ≡ kept_pages old cat)
catalog_stays stays old new cat tables after are r =
    stays.catalog old new (flat_map (table_pages old) tables) after cat r are.catalog
    (λ p. omega (arith, are.forest p, copies-append p (kept_pages old cat) (flat_map (table_pages old) tables)))

-- ---- a table that was found

pub found_table : {cat : KeptCatalog} → (frames : Frames) (tables : List Table) (n k : ℕ) (found : Table) → AreTables frames cat tables → IsPlaced (is_named n) tables k found → IsTable frames found
found_table frames tables n k found are place = subst (IsTable frames) (sym place.is) (are.each k found place.within)

pub found_nodes : {cat : KeptCatalog} → (frames : Frames) (tables : List Table) (n k : ℕ) (found : Table) (s : StoredTrees) → AreTables frames cat tables → IsPlaced (is_named n) tables k found → stored_trees frames cat tables ≡ s
    → table_nodes s.tables n ≡ nodes_in frames found.nodes
found_nodes frames tables n k found s are place e = ap (λ (l : List StoredTable). table_nodes l n) (sym (ap (λ (v : StoredTrees). v.tables) e)) ∙ found_part (stored_table frames) (is_table n) (λ x. x.nodes) tables k found place (are.once n)

pub found_long : {cat : KeptCatalog} → (frames : Frames) (tables : List Table) (n k : ℕ) (found : Table) (s : StoredTrees) → AreTables frames cat tables → IsPlaced (is_named n) tables k found → stored_trees frames cat tables ≡ s
    → table_long_values s.tables n ≡ long_values_in frames found.long_values
found_long frames tables n k found s are place e = ap (λ (l : List StoredTable). table_long_values l n) (sym (ap (λ (v : StoredTrees). v.tables) e)) ∙ found_part (stored_table frames) (is_table n) (λ x. x.long_values) tables k found place (are.once n)

pub found_indexes : {cat : KeptCatalog} → (frames : Frames) (tables : List Table) (n k : ℕ) (found : Table) (s : StoredTrees) → AreTables frames cat tables → IsPlaced (is_named n) tables k found → stored_trees frames cat tables ≡ s
    → table_indexes s.tables n ≡ (stored_table frames found).indexes
found_indexes frames tables n k found s are place e = ap (λ (l : List StoredTable). table_indexes l n) (sym (ap (λ (v : StoredTrees). v.tables) e)) ∙ found_part (stored_table frames) (is_table n) (λ x. x.indexes) tables k found place (are.once n)

-- ---- what is kept

kept_by : {old new : Frames} {cat : KeptCatalog} {tables after : List Table} {values : List StoredTable} → TablesStay → AreTables old cat tables → Steps IsTable table_pages stored_table old new tables after values
    → ((m : ℕ) → count_by (is_table m) values ≤ 1) → AreTables new cat after
kept_by {old} {new} {cat} {tables} {after} {values} stays are s once =
    let beside = catalog_stays stays old new cat tables (flat_map (table_pages new) after) are s.rearranges in
    record {
      catalog = beside.0;
      each = s.good;
      forest = λ p.
          let e = are.forest p in
          let b = s.rearranges.balance p in
          let same : copies p (kept_pages new cat) ≡ copies p (kept_pages old cat) = ap (copies p) beside.2 in
          omega (arith, e, b, same, copies-append p (kept_pages old cat) (flat_map (table_pages old) tables), copies-append p (kept_pages new cat) (flat_map (table_pages new) after));
      once = λ m. let same : count_by (is_table m) (stored_tables new after) ≡ count_by (is_table m) values = ap (count_by (is_table m)) s.values_are in omega (arith, same, once m);
    }

-- ---- the roots of the tables

-- the roots, as something that each table shows
abbrev pub roots_shown : Frames → Table → StoredRoots
roots_shown frames table = tree_roots table

roots_stay : TablesStay → OthersStay IsTable table_pages roots_shown
roots_stay stays old new before after table r is bound = let t = stays.tables old new before after table r is bound in (t.0, refl, t.2)

-- no two tables have roots of one number
roots_once : {frames : Frames} {cat : KeptCatalog} {tables : List Table} → AreTables frames cat tables → (m : ℕ) → count_by (are_roots_of m) (map tree_roots tables) ≤ 1
roots_once {frames} {cat} {tables} are m =
    let one = count-map tree_roots (are_roots_of m) tables in
    let other = count-map (stored_table frames) (is_table m) tables in
    omega (arith, one, other, are.once m)

same_count : (q : StoredTable → Bool) (front : List StoredTable) (v w : StoredTable) (back : List StoredTable) → q v ≡ q w → count_by q (front ++ v ∷ back) ≡ count_by q (front ++ w ∷ back)
same_count q front v w back e =
    by_test (q w)
    (λ t. omega (arith, count-append q front (v ∷ back), count-append q front (w ∷ back), count-yes q v back (e ∙ t), count-yes q w back t))
    (λ t. omega (arith, count-append q front (v ∷ back), count-append q front (w ∷ back), count-no q v back (e ∙ t), count-no q w back t))

-- ---- one table becomes another

-- A table that was found has become another, which has this.
pub record Changes (old : Frames) (cat : KeptCatalog) (tables : List Table) (new : Frames) (n k : ℕ) (found changed : Table) (value : StoredTable) (roots : StoredRoots) : Type 0 where
  pub are : AreTables old cat tables
  pub place : IsPlaced (is_named n) tables k found
  pub becomes : TableBecomes old found new changed value roots
  pub number : value.number ≡ found.table.0

one : {cat : KeptCatalog} {roots : StoredRoots} → TablesStay → (old : Frames) (tables : List Table) (new : Frames) (n k : ℕ) (found changed : Table) (value : StoredTable) → Changes old cat tables new n k found changed value roots
    → OneChanges IsTable table_pages stored_table old new tables found (set tables k changed) (value ∷ [])
one stays old tables new n k found changed value c =
    subst (λ (v : StoredTable). OneChanges IsTable table_pages stored_table old new tables found (set tables k changed) (v ∷ [])) c.becomes.stored
    (one_set IsTable table_pages stored_table stays.tables old new tables k found changed c.place.within c.place.is c.are.each (bounded old tables c.are) c.becomes.table c.becomes.pages)

one_roots : {cat : KeptCatalog} {roots : StoredRoots} → TablesStay → (old : Frames) (tables : List Table) (new : Frames) (n k : ℕ) (found changed : Table) (value : StoredTable) → Changes old cat tables new n k found changed value roots
    → OneChanges IsTable table_pages roots_shown old new tables found (set tables k changed) (roots ∷ [])
one_roots stays old tables new n k found changed value c =
    subst (λ (v : StoredRoots). OneChanges IsTable table_pages roots_shown old new tables found (set tables k changed) (v ∷ [])) c.becomes.roots_are
    (one_set IsTable table_pages roots_shown (roots_stay stays) old new tables k found changed c.place.within c.place.is c.are.each (bounded old tables c.are) c.becomes.table c.becomes.pages)

pub kept : {cat : KeptCatalog} {roots : StoredRoots} → TablesStay → (old : Frames) (tables : List Table) (new : Frames) (n k : ℕ) (found changed : Table) (value : StoredTable) → Changes old cat tables new n k found changed value roots → AreTables new cat (set tables k changed)
kept stays old tables new n k found changed value c =
    let o = one stays old tables new n k found changed value c in
    kept_by stays c.are o.steps
    (λ m.
    let same = same_count (is_table m) o.fronts value (stored_table old found) o.backs (ap (λ a. a == m) c.number) in
    let was : count_by (is_table m) (stored_tables old tables) ≡ count_by (is_table m) (o.fronts ++ stored_table old found ∷ o.backs) = ap (count_by (is_table m)) o.was in
    omega (arith, same, was, c.are.once m))

-- the nodes of the catalog stay
same_nodes : {cat : KeptCatalog} {roots : StoredRoots} → TablesStay → (old : Frames) (tables : List Table) (new : Frames) (n k : ℕ) (found changed : Table) (value : StoredTable) → Changes old cat tables new n k found changed value roots
    → kept_nodes new cat ≡ kept_nodes old cat
same_nodes {cat} stays old tables new n k found changed value c =
    (catalog_stays stays old new cat tables (flat_map (table_pages new) (set tables k changed)) c.are (one stays old tables new n k found changed value c).steps.rearranges).1

pub shown : {cat : KeptCatalog} {roots : StoredRoots} → TablesStay → (old : Frames) (tables : List Table) (new : Frames) (n k : ℕ) (found changed : Table) (value : StoredTable) (f : StoredTable → StoredTable) (g : StoredRoots → StoredRoots)
    → Changes old cat tables new n k found changed value roots → value ≡ f (stored_table old found) → roots ≡ g (tree_roots found)
    → stored_trees new cat (set tables k changed) ≡ record { tables = changed_where (is_table n) f (stored_tables old tables); catalog = put_roots (changed_where (are_roots_of n) g (map tree_roots tables)) (stored_catalog old cat tables) }
shown stays old tables new n k found changed value f g c e d =
    let tables_are = (step_changed (is_table n) f (one stays old tables new n k found changed value c) c.place.passes (c.are.once n) e).values_are in
    let roots_are = (step_changed (are_roots_of n) g (one_roots stays old tables new n k found changed value c) c.place.passes (roots_once c.are n) d).values_are in
    let nodes_are = same_nodes stays old tables new n k found changed value c in
    (λ i. record { tables = tables_are i; catalog = record { nodes = nodes_are i; roots = roots_are i } })

-- a change of no root
pub shown_tables : {cat : KeptCatalog} → TablesStay → (old : Frames) (tables : List Table) (new : Frames) (n k : ℕ) (found changed : Table) (value : StoredTable) (f : StoredTable → StoredTable)
    → Changes old cat tables new n k found changed value (tree_roots found) → value ≡ f (stored_table old found)
    → stored_trees new cat (set tables k changed) ≡ put_tables (changed_where (is_table n) f (stored_tables old tables)) (stored_trees old cat tables)
shown_tables stays old tables new n k found changed value f c e =
    let tables_are = (step_changed (is_table n) f (one stays old tables new n k found changed value c) c.place.passes (c.are.once n) e).values_are in
    let roots_are = (step_same (one_roots stays old tables new n k found changed value c) refl).values_are in
    let nodes_are = same_nodes stays old tables new n k found changed value c in
    (λ i. record { tables = tables_are i; catalog = record { nodes = nodes_are i; roots = roots_are i } })

pub shown_same : {cat : KeptCatalog} → TablesStay → (old : Frames) (tables : List Table) (new : Frames) (n k : ℕ) (found changed : Table) (s : StoredTrees) → Changes old cat tables new n k found changed (stored_table old found) (tree_roots found)
    → stored_trees old cat tables ≡ s → stored_trees new cat (set tables k changed) ≡ s
shown_same stays old tables new n k found changed s c e =
    let tables_are = (step_same (one stays old tables new n k found changed (stored_table old found) c) refl).values_are in
    let roots_are = (step_same (one_roots stays old tables new n k found changed (stored_table old found) c) refl).values_are in
    let nodes_are = same_nodes stays old tables new n k found changed (stored_table old found) c in
    (λ i. record { tables = tables_are i; catalog = record { nodes = nodes_are i; roots = roots_are i } }) ∙ e

-- ---- its nodes change

abbrev pub with_node_tree : Table → NodeTree → Table
with_node_tree table nodes = record table { nodes = nodes }

pub nodes_of_one : {cat : KeptCatalog} → TreesStay → (old : Frames) (tables : List Table) (new : Frames) (n k : ℕ) (found : Table) (nodes : NodeTree) (list : List Node) → AreTables old cat tables → IsPlaced (is_named n) tables k found → NodesBecome old found.nodes new nodes list
    → Changes old cat tables new n k found (with_node_tree found nodes) (put_nodes list (stored_table old found)) (tree_roots found)
nodes_of_one stays old tables new n k found nodes list are place b =
    record { are = are; place = place; becomes = nodes_change stays old new found nodes list (found_table old tables n k found are place) b; number = refl }

pub nodes_shown : {cat : KeptCatalog} → TablesStay → TreesStay → (old : Frames) (tables : List Table) (new : Frames) (n k : ℕ) (found : Table) (nodes : NodeTree) (change : List Node → List Node) (s : StoredTrees) → AreTables old cat tables → IsPlaced (is_named n) tables k found
    → stored_trees old cat tables ≡ s → NodesBecome old found.nodes new nodes (change (nodes_in old found.nodes))
    → stored_trees new cat (set tables k (with_node_tree found nodes)) ≡ put_tables (with_nodes n (change (table_nodes s.tables n)) s.tables) s
nodes_shown {cat} stays trees old tables new n k found nodes change s are place e b =
    shown_tables stays old tables new n k found (with_node_tree found nodes) (put_nodes (change (nodes_in old found.nodes)) (stored_table old found)) (put_nodes (change (nodes_in old found.nodes)))
    (nodes_of_one trees old tables new n k found nodes (change (nodes_in old found.nodes)) are place b) refl
    ∙ ap (λ (l : List Node). put_tables (with_nodes n (change l) (stored_tables old tables)) (stored_trees old cat tables)) (sym (found_nodes old tables n k found s are place e))
    ∙ ap (λ (v : StoredTrees). put_tables (with_nodes n (change (table_nodes s.tables n)) v.tables) v) e

pub nodes_kept : {cat : KeptCatalog} → TablesStay → TreesStay → (old : Frames) (tables : List Table) (new : Frames) (n k : ℕ) (found : Table) (nodes : NodeTree) (list : List Node) → AreTables old cat tables → IsPlaced (is_named n) tables k found → NodesBecome old found.nodes new nodes list
    → AreTables new cat (set tables k (with_node_tree found nodes))
nodes_kept stays trees old tables new n k found nodes list are place b =
    kept stays old tables new n k found (with_node_tree found nodes) (put_nodes list (stored_table old found)) (nodes_of_one trees old tables new n k found nodes list are place b)

pub nodes_same : {cat : KeptCatalog} → TablesStay → TreesStay → (old : Frames) (tables : List Table) (new : Frames) (n k : ℕ) (found : Table) (nodes : NodeTree) (s : StoredTrees) → AreTables old cat tables → IsPlaced (is_named n) tables k found → stored_trees old cat tables ≡ s
    → NodesBecome old found.nodes new nodes (nodes_in old found.nodes) → stored_trees new cat (set tables k (with_node_tree found nodes)) ≡ s
nodes_same stays trees old tables new n k found nodes s are place e b =
    shown_same stays old tables new n k found (with_node_tree found nodes) s (nodes_of_one trees old tables new n k found nodes (nodes_in old found.nodes) are place b) e

-- ---- its long values change

abbrev pub with_long_tree : Table → LongTree → Table
with_long_tree table long = record table { long_values = long }

pub long_of_one : {cat : KeptCatalog} → TreesStay → (old : Frames) (tables : List Table) (new : Frames) (n k : ℕ) (found : Table) (long : LongTree) (values : Values) → AreTables old cat tables → IsPlaced (is_named n) tables k found → LongBecomes old found.long_values new long values
    → Changes old cat tables new n k found (with_long_tree found long) (put_long_values values (stored_table old found)) (tree_roots found)
long_of_one stays old tables new n k found long values are place b =
    record { are = are; place = place; becomes = long_change stays old new found long values (found_table old tables n k found are place) b; number = refl }

pub long_shown : {cat : KeptCatalog} → TablesStay → TreesStay → (old : Frames) (tables : List Table) (new : Frames) (n k : ℕ) (found : Table) (long : LongTree) (change : Values → Values) (s : StoredTrees) → AreTables old cat tables → IsPlaced (is_named n) tables k found
    → stored_trees old cat tables ≡ s → LongBecomes old found.long_values new long (change (long_values_in old found.long_values))
    → stored_trees new cat (set tables k (with_long_tree found long)) ≡ put_tables (with_long_values n (change (table_long_values s.tables n)) s.tables) s
long_shown {cat} stays trees old tables new n k found long change s are place e b =
    shown_tables stays old tables new n k found (with_long_tree found long) (put_long_values (change (long_values_in old found.long_values)) (stored_table old found)) (put_long_values (change (long_values_in old found.long_values)))
    (long_of_one trees old tables new n k found long (change (long_values_in old found.long_values)) are place b) refl
    ∙ ap (λ (l : Values). put_tables (with_long_values n (change l) (stored_tables old tables)) (stored_trees old cat tables)) (sym (found_long old tables n k found s are place e))
    ∙ ap (λ (v : StoredTrees). put_tables (with_long_values n (change (table_long_values s.tables n)) v.tables) v) e

pub long_kept : {cat : KeptCatalog} → TablesStay → TreesStay → (old : Frames) (tables : List Table) (new : Frames) (n k : ℕ) (found : Table) (long : LongTree) (values : Values) → AreTables old cat tables → IsPlaced (is_named n) tables k found → LongBecomes old found.long_values new long values
    → AreTables new cat (set tables k (with_long_tree found long))
long_kept stays trees old tables new n k found long values are place b =
    kept stays old tables new n k found (with_long_tree found long) (put_long_values values (stored_table old found)) (long_of_one trees old tables new n k found long values are place b)

pub long_same : {cat : KeptCatalog} → TablesStay → TreesStay → (old : Frames) (tables : List Table) (new : Frames) (n k : ℕ) (found : Table) (long : LongTree) (s : StoredTrees) → AreTables old cat tables → IsPlaced (is_named n) tables k found → stored_trees old cat tables ≡ s
    → LongBecomes old found.long_values new long (long_values_in old found.long_values) → stored_trees new cat (set tables k (with_long_tree found long)) ≡ s
long_same stays trees old tables new n k found long s are place e b =
    shown_same stays old tables new n k found (with_long_tree found long) s (long_of_one trees old tables new n k found long (long_values_in old found.long_values) are place b) e

-- ---- its indexes change

-- the entries of one index
pub indexes_shown : {cat : KeptCatalog} → TablesStay → (old : Frames) (tables : List Table) (new : Frames) (n k : ℕ) (found changed : Table) (change : List StoredIndex → List StoredIndex) (s : StoredTrees) → AreTables old cat tables → IsPlaced (is_named n) tables k found
    → stored_trees old cat tables ≡ s → TableBecomes old found new changed (put_indexes (change (stored_table old found).indexes) (stored_table old found)) (tree_roots found)
    → stored_trees new cat (set tables k changed) ≡ put_tables (with_indexes n (change (table_indexes s.tables n)) s.tables) s
indexes_shown {cat} stays old tables new n k found changed change s are place e b =
    shown_tables stays old tables new n k found changed (put_indexes (change (stored_table old found).indexes) (stored_table old found)) (put_indexes (change (stored_table old found).indexes))
    (record { are = are; place = place; becomes = b; number = refl }) refl
    ∙ ap (λ (l : List StoredIndex). put_tables (with_indexes n (change l) (stored_tables old tables)) (stored_trees old cat tables)) (sym (found_indexes old tables n k found s are place e))
    ∙ ap (λ (v : StoredTrees). put_tables (with_indexes n (change (table_indexes s.tables n)) v.tables) v) e

-- an index more, or less, with its root
pub index_shown : {cat : KeptCatalog} → TablesStay → (old : Frames) (tables : List Table) (new : Frames) (n k : ℕ) (found changed : Table) (change : List StoredIndex → List StoredIndex) (g : StoredRoots → StoredRoots) (s : StoredTrees) → AreTables old cat tables → IsPlaced (is_named n) tables k found
    → stored_trees old cat tables ≡ s → TableBecomes old found new changed (put_indexes (change (stored_table old found).indexes) (stored_table old found)) (g (tree_roots found))
    → stored_trees new cat (set tables k changed) ≡ record { tables = with_indexes n (change (table_indexes s.tables n)) s.tables; catalog = put_roots (changed_where (are_roots_of n) g s.catalog.roots) s.catalog }
index_shown {cat} stays old tables new n k found changed change g s are place e b =
    shown stays old tables new n k found changed (put_indexes (change (stored_table old found).indexes) (stored_table old found)) (put_indexes (change (stored_table old found).indexes)) g
    (record { are = are; place = place; becomes = b; number = refl }) refl refl
    ∙ ap (λ (l : List StoredIndex). all l (stored_trees old cat tables)) (sym (found_indexes old tables n k found s are place e))
    ∙ ap (all (table_indexes s.tables n)) e
  where
    all : List StoredIndex → StoredTrees → StoredTrees
    all l v = record { tables = with_indexes n (change l) v.tables; catalog = put_roots (changed_where (are_roots_of n) g v.catalog.roots) v.catalog }

-- ---- one table less, and one more

pub table_goes : {cat : KeptCatalog} → TablesStay → (old : Frames) (tables : List Table) (new : Frames) (n k : ℕ) (found : Table) → AreTables old cat tables → IsPlaced (is_named n) tables k found → Rearranges old new (table_pages old found) []
    → AreTables new cat (remove tables k) × (stored_trees new cat (remove tables k) ≡ without_table_trees n (stored_trees old cat tables))
table_goes {cat} stays old tables new n k found are place pages =
    let step = step_removed (is_table n) (one_removed IsTable table_pages stored_table stays.tables old new tables k found place.within place.is are.each (bounded old tables are) pages) place.passes (are.once n) in
    let roots = step_removed (are_roots_of n) (one_removed IsTable table_pages roots_shown (roots_stay stays) old new tables k found place.within place.is are.each (bounded old tables are) pages) place.passes (roots_once are n) in
    let beside = catalog_stays stays old new cat tables (flat_map (table_pages new) (remove tables k)) are step.rearranges in (
      kept_by stays are step (λ m. omega (arith, count-without (is_table m) (is_table n) (stored_tables old tables), are.once m)),
      (λ i. record { tables = step.values_are i; catalog = record { nodes = beside.1 i; roots = roots.values_are i } }),
    )

pub table_comes : {cat : KeptCatalog} → TablesStay → (old : Frames) (tables : List Table) (new : Frames) (number : ℕ) (made : Table) → AreTables old cat tables → has_table (stored_tables old tables) number ≡ false
    → IsTable new made → stored_table new made ≡ new_table number → Rearranges old new [] (table_pages new made) → (records long_values : ℕ) → tree_roots made ≡ new_roots number records long_values
    → AreTables new cat (tables ++ made ∷ []) × (stored_trees new cat (tables ++ made ∷ []) ≡ with_table_trees number records long_values (stored_trees old cat tables))
table_comes {cat} stays old tables new number made are absent is shows pages records long_values roots =
    let step = subst (λ (v : StoredTable). Steps IsTable table_pages stored_table old new tables (tables ++ made ∷ []) (stored_tables old tables ++ v ∷ [])) shows
    (one_added IsTable table_pages stored_table stays.tables old new tables made are.each (bounded old tables are) is pages) in
    let rooted = (one_added IsTable table_pages roots_shown (roots_stay stays) old new tables made are.each (bounded old tables are) is pages).values_are in
    let beside = catalog_stays stays old new cat tables (flat_map (table_pages new) (tables ++ made ∷ [])) are step.rearranges in (
      kept_by stays are step
          (λ m. count-added (is_table m) (stored_tables old tables) (new_table number) (are.once m)
          (λ t. none_passes (is_table m) (stored_tables old tables) (ap (λ j. has_table (stored_tables old tables) j) (sym (eqb-true number m t)) ∙ absent))),
      (λ i. record { tables = step.values_are i; catalog = record { nodes = beside.1 i; roots = (rooted ∙ ap (λ (r : StoredRoots). map tree_roots tables ++ r ∷ []) roots) i } }),
    )

-- pages were taken and given back, and no table has them
pub nothing_comes : {cat : KeptCatalog} → TablesStay → (old : Frames) (tables : List Table) (new : Frames) → AreTables old cat tables → Rearranges old new [] [] → AreTables new cat tables × (stored_trees new cat tables ≡ stored_trees old cat tables)
nothing_comes {cat} stays old tables new are r =
    let all = all_stay IsTable table_pages stored_table stays.tables old new [] [] tables r are.each (λ p. omega (arith, bounded old tables are p)) in
    let beside = stays.catalog old new [] [] cat r are.catalog (λ p. omega (arith, are.forest p, copies-append p (kept_pages old cat) (flat_map (table_pages old) tables))) in (
      record {
        catalog = beside.0;
        each = all.0;
        forest = λ p.
            let same : copies p (flat_map (table_pages new) tables) ≡ copies p (flat_map (table_pages old) tables) = ap (copies p) all.2 in
            let same_kept : copies p (kept_pages new cat) ≡ copies p (kept_pages old cat) = ap (copies p) beside.2 in
            omega (arith, same, same_kept, are.forest p, r.balance p, copies-append p (kept_pages old cat) (flat_map (table_pages old) tables), copies-append p (kept_pages new cat) (flat_map (table_pages new) tables));
        once = λ m. let same : count_by (is_table m) (stored_tables new tables) ≡ count_by (is_table m) (stored_tables old tables) = ap (count_by (is_table m)) all.1 in omega (arith, same, are.once m);
      },
      (λ i. record { tables = all.1 i; catalog = record { nodes = beside.1 i; roots = map tree_roots tables } }),
    )

-- ---- a table that was not found

pub no_nodes : (frames : Frames) (cat : KeptCatalog) (tables given : List Table) (n : ℕ) (s : StoredTrees) → given ≡ tables → None ≡ position_from (is_named n) 0 given → stored_trees frames cat tables ≡ s → table_nodes s.tables n ≡ []
no_nodes frames cat tables given n s same none e = ap (λ (l : List StoredTable). table_nodes l n) (sym (ap (λ (v : StoredTrees). v.tables) e)) ∙ found_no_part (stored_table frames) (is_table n) (λ x. x.nodes) tables given same none

pub no_long : (frames : Frames) (cat : KeptCatalog) (tables given : List Table) (n : ℕ) (s : StoredTrees) → given ≡ tables → None ≡ position_from (is_named n) 0 given → stored_trees frames cat tables ≡ s → table_long_values s.tables n ≡ []
no_long frames cat tables given n s same none e = ap (λ (l : List StoredTable). table_long_values l n) (sym (ap (λ (v : StoredTrees). v.tables) e)) ∙ found_no_part (stored_table frames) (is_table n) (λ x. x.long_values) tables given same none

pub no_indexes : (frames : Frames) (cat : KeptCatalog) (tables given : List Table) (n : ℕ) (s : StoredTrees) → given ≡ tables → None ≡ position_from (is_named n) 0 given → stored_trees frames cat tables ≡ s → table_indexes s.tables n ≡ []
no_indexes frames cat tables given n s same none e = ap (λ (l : List StoredTable). table_indexes l n) (sym (ap (λ (v : StoredTrees). v.tables) e)) ∙ found_no_part (stored_table frames) (is_table n) (λ x. x.indexes) tables given same none

pub no_table : (frames : Frames) (cat : KeptCatalog) (tables given : List Table) (n : ℕ) (s : StoredTrees) → given ≡ tables → None ≡ position_from (is_named n) 0 given → stored_trees frames cat tables ≡ s → has_table s.tables n ≡ false
no_table frames cat tables given n s same none e = ap (λ (l : List StoredTable). has_table l n) (sym (ap (λ (v : StoredTrees). v.tables) e)) ∙ none_shown (stored_table frames) (is_table n) tables given same none

-- ---- a property of the nodes and the long values of each table, and of the entries of each index

pub each_nodes : {cat : KeptCatalog} → (P : List Node → Type 0) (frames : Frames) (tables : List Table) (s : StoredTrees) (n : ℕ) → AreTables frames cat tables → stored_trees frames cat tables ≡ s → P []
    → ((nodes : NodeTree) → IsNodeTree frames nodes → P (nodes_in frames nodes)) → P (table_nodes s.tables n)
each_nodes P frames tables s n are e none each =
    subst (λ (l : List StoredTable). P (table_nodes l n)) (ap (λ (v : StoredTrees). v.tables) e)
    (part_has P (stored_table frames) (is_table n) (λ x. x.nodes) tables none (λ k d lt. each (get_or tables k d).nodes (are.each k d lt).nodes))

pub each_long : {cat : KeptCatalog} → (P : Values → Type 0) (frames : Frames) (tables : List Table) (s : StoredTrees) (n : ℕ) → AreTables frames cat tables → stored_trees frames cat tables ≡ s → P []
    → ((long : LongTree) → IsLongTree frames long → P (long_values_in frames long)) → P (table_long_values s.tables n)
each_long P frames tables s n are e none each =
    subst (λ (l : List StoredTable). P (table_long_values l n)) (ap (λ (v : StoredTrees). v.tables) e)
    (part_has P (stored_table frames) (is_table n) (λ x. x.long_values) tables none (λ k d lt. each (get_or tables k d).long_values (are.each k d lt).long_values))

pub each_entries : {cat : KeptCatalog} → (P : List Pair → Type 0) (frames : Frames) (tables : List Table) (s : StoredTrees) (n i : ℕ) → AreTables frames cat tables → stored_trees frames cat tables ≡ s → P []
    → ((index : IndexTree) → IsIndexTree frames index → P (entries_of frames index)) → P (index_entries s.tables n i)
each_entries P frames tables s n i are e none each =
    subst (λ (l : List StoredTable). P (index_entries l n i)) (ap (λ (v : StoredTrees). v.tables) e)
    (part_has (λ (l : List StoredIndex). P (part_of (is_index i) (λ x. x.1) l)) (stored_table frames) (is_table n) (λ x. x.indexes) tables none
    (λ k d lt.
    let items = (get_or tables k d).indexes.items in
    part_has P (stored_index frames) (is_index i) (λ x. x.1) items none (λ j x within. each (get_or items j x).tree ((are.each k d lt).indexes j x within))))
