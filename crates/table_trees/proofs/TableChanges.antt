-- A table of which one tree changes.
use Rattle.std.proofs.Common.{◌≡◌, ℕ, ◌+◌, ◌≤◌, List, [], ◌++◌, map, refl, sym, ap, subst, ◌∙◌, arith}
use Rattle.std.proofs.lemmas.List.Elements.{All-nil}
use Rattle.std.specs.Prelude.{All, count_by}
use Rattle.std.specs.List.{flat_map}
use Rattle.page_image.specs.Page.{Node}
use Rattle.page_space.specs.Frames.{Frames}
use Rattle.btree_inplace.specs.Trees.{AreApart, Exchanges, IsTree, nodes_of, pages_of}
use Rattle.btree_inplace.specs.declared.Tree.{Tree}
use Rattle.cursor_nav.specs.Places.{are_sorted}
use Rattle.index_tree.specs.IndexTrees.{IsIndexTree, entries_of, own_pages}
use Rattle.index_tree.specs.declared.index.IndexTree.{IndexTree}
use Rattle.table_trees.specs.Pages.{AreOwn, OthersStay, Rearranges, copies, times_taken}
use Rattle.table_trees.specs.StoredNodes.{IsShortNode, bookmark_entries}
use Rattle.long_value.specs.Stores.{HasValues}
use Rattle.long_value.specs.Stores as stores
use Rattle.long_value.specs.Shown.{values_in}
use Rattle.long_value.specs.Values.{Values}
use Rattle.long_value.specs.declared.values.LongValues.{LongValues}
use Rattle.table_trees.specs.StoredTables.{StoredIndex, is_index, new_table, put_indexes, put_long_values, put_nodes}
use Rattle.table_trees.specs.StoredTrees.{put_index_roots}
use Rattle.table_trees.specs.LongTrees.{IsLongTree, LongBecomes, long_pages, long_root, long_values_in}
use Rattle.table_trees.specs.NodeTrees.{IsNodeTree, NodesBecome, node_pages, node_root, nodes_in}
use Rattle.table_trees.specs.TableParts.{IsIndex, IsTable, TableBecomes, index_pages, index_root, record_pages, stored_index, stored_table, table_pages, tree_roots}
use Rattle.table_trees.specs.declared.long_values.LongTree.{LongTree}
use Rattle.table_trees.specs.declared.nodes.NodeTree.{NodeTree}
use Rattle.table_trees.specs.declared.table.TableIndex.{TableIndex}
use Rattle.table_trees.specs.declared.table.Table.{Table}
use Rattle.table_trees.proofs.Pages.{apart, beside, copies-append, exchanged, nothing_own, rearranged_twice, still_own}
use Rattle.table_trees.proofs.Members.{Steps, all_stay}

-- ---- the trees that stay

-- what the laws of the trees say
abbrev pub OtherTreeStays : Type 0
OtherTreeStays =
    (old new : Frames) (before after : List ℕ) (tree : Tree) → Exchanges old new before after → IsTree old tree → AreApart (pages_of old tree) before
    → IsTree new tree × (nodes_of new tree ≡ nodes_of old tree) × (pages_of new tree ≡ pages_of old tree) × AreApart (pages_of new tree) after

abbrev pub OtherEntriesStay : Type 0
OtherEntriesStay =
    (old new : Frames) (before after : List ℕ) (index : IndexTree) → Exchanges old new before after → IsIndexTree old index → AreApart (own_pages old index) before
    → IsIndexTree new index × (entries_of new index ≡ entries_of old index) × (own_pages new index ≡ own_pages old index) × AreApart (own_pages new index) after

pub before_own : (old : Frames) (pages before : List ℕ) → ((p : ℕ) → copies p pages + copies p before ≤ times_taken old p) → AreOwn old before
before_own old pages before bound p = omega (arith, bound p)

pub nodes_stay : OtherTreeStays → OthersStay IsNodeTree node_pages nodes_in
nodes_stay stays old new before after nodes r is bound =
    let pages = node_pages old nodes in
    let t = stays old new before after nodes.tree (exchanged old new before after r (before_own old pages before bound)) is.tree (apart old pages before bound) in
    let same : nodes_in new nodes ≡ nodes_in old nodes = t.1 in (
      record {
        tree = t.0;
        in_order = ap (λ (l : List Node). are_sorted (bookmark_entries l)) same ∙ is.in_order;
        short = subst (All IsShortNode) (sym same) is.short;
      },
      same,
      t.2,
    )

pub indexes_stay : OtherEntriesStay → OthersStay IsIndex index_pages stored_index
indexes_stay stays old new before after index r is bound =
    let pages = index_pages old index in
    let t = stays old new before after index.tree (exchanged old new before after r (before_own old pages before bound)) is (apart old pages before bound) in
    (t.0, (λ i. (index.index.0, t.1 i)), t.2)

abbrev pub ValuesAreShown : Type 0
ValuesAreShown = (frames : Frames) (store : LongValues) (values : Values) → HasValues frames store values → values_in frames store ≡ values

abbrev pub OtherValuesStay : Type 0
OtherValuesStay =
    (old new : Frames) (before after : List ℕ) (store : LongValues) (values : Values) → Exchanges old new before after → HasValues old store values → AreApart (stores.own_pages old store) before
    → HasValues new store values × (stores.own_pages new store ≡ stores.own_pages old store) × AreApart (stores.own_pages new store) after

-- a store has the values that it shows
pub has_shown : ValuesAreShown → (frames : Frames) (store : LongValues) (values : Values) → HasValues frames store values → HasValues frames store (values_in frames store)
has_shown shown frames store values has = subst (HasValues frames store) (sym (shown frames store values has)) has

pub long_values_stay : ValuesAreShown → OtherValuesStay → OthersStay IsLongTree long_pages long_values_in
long_values_stay shown stays old new before after long r is bound =
    let pages = long_pages old long in
    let t = stays old new before after long.store (long_values_in old long) (exchanged old new before after r (before_own old pages before bound)) is (apart old pages before bound) in
    (has_shown shown new long.store (long_values_in old long) t.0, shown new long.store (long_values_in old long) t.0, t.1)

-- the trees of one table, as those of its nodes, of its long values and of its indexes stay
pub record TreesStay : Type 0 where
  pub nodes : OthersStay IsNodeTree node_pages nodes_in
  pub long_values : OthersStay IsLongTree long_pages long_values_in
  pub indexes : OthersStay IsIndex index_pages stored_index

pub table_copies : (frames : Frames) (table : Table) (p : ℕ) → copies p (table_pages frames table) ≡ copies p (node_pages frames table.nodes) + (copies p (long_pages frames table.long_values) + copies p (flat_map (index_pages frames) table.indexes.items))
table_copies frames table p =
    let all = copies-append p (record_pages frames table) (flat_map (index_pages frames) table.indexes.items) in
    let first = copies-append p (node_pages frames table.nodes) (long_pages frames table.long_values) in
    omega (arith, all, first)

pub tables_stay : TreesStay → OthersStay IsTable table_pages stored_table
tables_stay stays old new before after table r is bound =
    let items = table.indexes.items in
    let nodes = stays.nodes old new before after table.nodes r is.nodes (λ p. omega (arith, bound p, table_copies old table p)) in
    let long = stays.long_values old new before after table.long_values r is.long_values (λ p. omega (arith, bound p, table_copies old table p)) in
    let indexes = all_stay IsIndex index_pages stored_index stays.indexes old new before after items r is.indexes (λ p. omega (arith, bound p, table_copies old table p)) in
    let pages : table_pages new table ≡ table_pages old table = (λ i. (nodes.2 i ++ long.2 i) ++ indexes.2 i) in (
      record {
        nodes = nodes.0;
        long_values = long.0;
        indexes = indexes.0;
        pages = λ p. let same : copies p (table_pages new table) ≡ copies p (table_pages old table) = ap (copies p) pages in omega (arith, same, bound p, r.balance p);
        once = λ index. let same : count_by (is_index index) (map (stored_index new) items) ≡ count_by (is_index index) (map (stored_index old) items) = ap (count_by (is_index index)) indexes.1 in omega (arith, same, is.once index);
      },
      (λ i. record { number = table.table.0; nodes = nodes.1 i; indexes = indexes.1 i; long_values = long.1 i }),
      pages,
    )

-- ---- its nodes change

pub nodes_change : TreesStay → (old new : Frames) (table : Table) (nodes : NodeTree) (list : List Node) → IsTable old table → NodesBecome old table.nodes new nodes list
    → TableBecomes old table new (record table { nodes = nodes }) (put_nodes list (stored_table old table)) (tree_roots table)
nodes_change stays old new table nodes list is b =
    let items = table.indexes.items in
    let before = node_pages old table.nodes in
    let after = node_pages new nodes in
    let changed : Table = record table { nodes = nodes } in
    let long = stays.long_values old new before after table.long_values b.pages is.long_values (λ p. omega (arith, is.pages p, table_copies old table p)) in
    let indexes = all_stay IsIndex index_pages stored_index stays.indexes old new before after items b.pages is.indexes (λ p. omega (arith, is.pages p, table_copies old table p)) in
    let rest : (p : ℕ) → copies p (flat_map (index_pages new) items) ≡ copies p (flat_map (index_pages old) items) = λ p. ap (copies p) indexes.2 in
    let kept : (p : ℕ) → copies p (long_pages new table.long_values) ≡ copies p (long_pages old table.long_values) = λ p. ap (copies p) long.2 in
    let pages : Rearranges old new (table_pages old table) (table_pages new changed) =
    beside old new before after (table_pages old table) (table_pages new changed) (λ p. copies p (long_pages old table.long_values) + copies p (flat_map (index_pages old) items)) b.pages (table_copies old table) (λ p. omega (arith, table_copies new changed p, rest p, kept p)) in
    record {
      table = record {
        nodes = b.tree;
        long_values = long.0;
        indexes = indexes.0;
        pages = still_own old new (table_pages old table) (table_pages new changed) pages is.pages;
        once = λ index. let same : count_by (is_index index) (map (stored_index new) items) ≡ count_by (is_index index) (map (stored_index old) items) = ap (count_by (is_index index)) indexes.1 in omega (arith, same, is.once index);
      };
      stored = (λ i. record { number = table.table.0; nodes = b.nodes i; indexes = indexes.1 i; long_values = long.1 i });
      pages = pages;
      roots_are = (λ i. record { number = table.table.0; records = b.root i; long_values = long_root table.long_values; indexes = map index_root items });
    }

-- ---- its long values change

pub long_change : TreesStay → (old new : Frames) (table : Table) (long : LongTree) (values : Values) → IsTable old table → LongBecomes old table.long_values new long values
    → TableBecomes old table new (record table { long_values = long }) (put_long_values values (stored_table old table)) (tree_roots table)
long_change stays old new table long values is b =
    let items = table.indexes.items in
    let before = long_pages old table.long_values in
    let after = long_pages new long in
    let changed : Table = record table { long_values = long } in
    let nodes = stays.nodes old new before after table.nodes b.pages is.nodes (λ p. omega (arith, is.pages p, table_copies old table p)) in
    let indexes = all_stay IsIndex index_pages stored_index stays.indexes old new before after items b.pages is.indexes (λ p. omega (arith, is.pages p, table_copies old table p)) in
    let rest : (p : ℕ) → copies p (flat_map (index_pages new) items) ≡ copies p (flat_map (index_pages old) items) = λ p. ap (copies p) indexes.2 in
    let kept : (p : ℕ) → copies p (node_pages new table.nodes) ≡ copies p (node_pages old table.nodes) = λ p. ap (copies p) nodes.2 in
    let pages : Rearranges old new (table_pages old table) (table_pages new changed) =
    beside old new before after (table_pages old table) (table_pages new changed) (λ p. copies p (node_pages old table.nodes) + copies p (flat_map (index_pages old) items)) b.pages (λ p. omega (arith, table_copies old table p)) (λ p. omega (arith, table_copies new changed p, rest p, kept p)) in
    record {
      table = record {
        nodes = nodes.0;
        long_values = b.tree;
        indexes = indexes.0;
        pages = still_own old new (table_pages old table) (table_pages new changed) pages is.pages;
        once = λ index. let same : count_by (is_index index) (map (stored_index new) items) ≡ count_by (is_index index) (map (stored_index old) items) = ap (count_by (is_index index)) indexes.1 in omega (arith, same, is.once index);
      };
      stored = (λ i. record { number = table.table.0; nodes = nodes.1 i; indexes = indexes.1 i; long_values = b.values_are i });
      pages = pages;
      roots_are = (λ i. record { number = table.table.0; records = node_root table.nodes; long_values = b.root i; indexes = map index_root items });
    }

-- ---- its indexes change

-- A table with other indexes.
pub record HasIndexes (was is : Table) (items : List TableIndex) : Type 0 where
  pub table : is.table ≡ was.table
  pub nodes : is.nodes ≡ was.nodes
  pub long_values : is.long_values ≡ was.long_values
  pub items_are : is.indexes.items ≡ items

abbrev pub IndexesStep : Frames → Frames → List TableIndex → List TableIndex → List StoredIndex → Type 0
IndexesStep old new was is values = Steps IsIndex index_pages stored_index old new was is values

pub indexes_change : TreesStay → (old new : Frames) (was is : Table) (items : List TableIndex) (values : List StoredIndex) (roots : List (ℕ × ℕ)) → IsTable old was → HasIndexes was is items → IndexesStep old new was.indexes.items items values
    → ((index : ℕ) → count_by (is_index index) values ≤ 1) → map index_root items ≡ roots → TableBecomes old was new is (put_indexes values (stored_table old was)) (put_index_roots roots (tree_roots was))
indexes_change stays old new was is items values roots good has s once rooted =
    let before = flat_map (index_pages old) was.indexes.items in
    let after = flat_map (index_pages new) is.indexes.items in
    let r : Rearranges old new before after = subst (λ (l : List TableIndex). Rearranges old new before (flat_map (index_pages new) l)) (sym has.items_are) s.rearranges in
    let nodes = stays.nodes old new before after was.nodes r good.nodes (λ p. omega (arith, good.pages p, table_copies old was p)) in
    let long = stays.long_values old new before after was.long_values r good.long_values (λ p. omega (arith, good.pages p, table_copies old was p)) in
    let shows : map (stored_index new) is.indexes.items ≡ values = ap (map (stored_index new)) has.items_are ∙ s.values_are in
    let same_nodes : node_pages new is.nodes ≡ node_pages old was.nodes = ap (node_pages new) has.nodes ∙ nodes.2 in
    let same_long : long_pages new is.long_values ≡ long_pages old was.long_values = ap (long_pages new) has.long_values ∙ long.2 in
    let rest : (p : ℕ) → copies p (node_pages new is.nodes) ≡ copies p (node_pages old was.nodes) = λ p. ap (copies p) same_nodes in
    let kept : (p : ℕ) → copies p (long_pages new is.long_values) ≡ copies p (long_pages old was.long_values) = λ p. ap (copies p) same_long in
    let pages : Rearranges old new (table_pages old was) (table_pages new is) =
    beside old new before after (table_pages old was) (table_pages new is) (λ p. copies p (node_pages old was.nodes) + copies p (long_pages old was.long_values)) r (λ p. omega (arith, table_copies old was p)) (λ p. omega (arith, table_copies new is p, rest p, kept p)) in
    record {
      table = record {
        nodes = subst (IsNodeTree new) (sym has.nodes) nodes.0;
        long_values = subst (IsLongTree new) (sym has.long_values) long.0;
        indexes = subst (All (IsIndex new)) (sym has.items_are) s.good;
        pages = still_own old new (table_pages old was) (table_pages new is) pages good.pages;
        once = λ index. let same : count_by (is_index index) (map (stored_index new) is.indexes.items) ≡ count_by (is_index index) values = ap (count_by (is_index index)) shows in omega (arith, same, once index);
      };
      stored = (λ i. record { number = (has.table i).0; nodes = (ap (nodes_in new) has.nodes ∙ nodes.1) i; indexes = shows i; long_values = (ap (long_values_in new) has.long_values ∙ long.1) i });
      pages = pages;
      roots_are = (λ i. record { number = (has.table i).0; records = node_root (has.nodes i); long_values = long_root (has.long_values i); indexes = (ap (map index_root) has.items_are ∙ rooted) i });
    }

-- nothing has changed
pub table_same : (frames : Frames) (table : Table) → IsTable frames table → (is : Table) → HasIndexes table is table.indexes.items → TableBecomes frames table frames is (stored_table frames table) (tree_roots table)
table_same frames table good is has =
    let pages : table_pages frames is ≡ table_pages frames table = (λ i. (node_pages frames (has.nodes i) ++ long_pages frames (has.long_values i)) ++ flat_map (index_pages frames) (has.items_are i)) in
    record {
      table = record {
        nodes = subst (IsNodeTree frames) (sym has.nodes) good.nodes;
        long_values = subst (IsLongTree frames) (sym has.long_values) good.long_values;
        indexes = subst (All (IsIndex frames)) (sym has.items_are) good.indexes;
        pages = λ p. let same : copies p (table_pages frames is) ≡ copies p (table_pages frames table) = ap (copies p) pages in omega (arith, same, good.pages p);
        once = λ index. let same : count_by (is_index index) (map (stored_index frames) is.indexes.items) ≡ count_by (is_index index) (map (stored_index frames) table.indexes.items) = ap (λ (l : List TableIndex). count_by (is_index index) (map (stored_index frames) l)) has.items_are in omega (arith, same, good.once index);
      };
      stored = (λ i. record { number = (has.table i).0; nodes = nodes_in frames (has.nodes i); indexes = map (stored_index frames) (has.items_are i); long_values = long_values_in frames (has.long_values i) });
      pages = record { balance = λ p. let same : copies p (table_pages frames is) ≡ copies p (table_pages frames table) = ap (copies p) pages in omega (arith, same); others = λ p none gone. refl };
      roots_are = (λ i. record { number = (has.table i).0; records = node_root (has.nodes i); long_values = long_root (has.long_values i); indexes = map index_root (has.items_are i) });
    }

-- ---- a table is made, or is not

-- The nodes of a new table were made, and then its long values.
pub record IsMade (old mid new : Frames) (table : Table) : Type 0 where
  pub nodes : IsNodeTree mid table.nodes
  pub no_node : nodes_in mid table.nodes ≡ []
  pub node_pages_are : Rearranges old mid [] (node_pages mid table.nodes)
  pub long_values : IsLongTree new table.long_values
  pub no_value : long_values_in new table.long_values ≡ []
  pub long_pages_are : Rearranges mid new [] (long_pages new table.long_values)
  pub no_index : table.indexes.items ≡ []

pub table_made : TreesStay → (old mid new : Frames) (table : Table) → IsMade old mid new table → IsTable new table × (stored_table new table ≡ new_table table.table.0) × Rearranges old new [] (table_pages new table)
table_made stays old mid new table m =
    let own = still_own old mid [] (node_pages mid table.nodes) m.node_pages_are (nothing_own old) in
    let nodes = stays.nodes mid new [] (long_pages new table.long_values) table.nodes m.long_pages_are m.nodes (λ p. omega (arith, own p)) in
    let none : (p : ℕ) → copies p (flat_map (index_pages new) table.indexes.items) ≡ 0 = λ p. ap (λ (l : List TableIndex). copies p (flat_map (index_pages new) l)) m.no_index in
    let same : (p : ℕ) → copies p (node_pages new table.nodes) ≡ copies p (node_pages mid table.nodes) = λ p. ap (copies p) nodes.2 in
    let pages : Rearranges old new [] (table_pages new table) =
    rearranged_twice old mid new [] (node_pages mid table.nodes) (table_pages new table) m.node_pages_are
    (beside mid new [] (long_pages new table.long_values) (node_pages mid table.nodes) (table_pages new table) (λ p. copies p (node_pages mid table.nodes)) m.long_pages_are (λ p. omega arith) (λ p. omega (arith, table_copies new table p, none p, same p))) in (
      record {
        nodes = nodes.0;
        long_values = m.long_values;
        indexes = subst (All (IsIndex new)) (sym m.no_index) (All-nil (IsIndex new));
        pages = still_own old new [] (table_pages new table) pages (nothing_own old);
        once = λ index. let zero : count_by (is_index index) (map (stored_index new) table.indexes.items) ≡ 0 = ap (λ (l : List TableIndex). count_by (is_index index) (map (stored_index new) l)) m.no_index in omega (arith, zero);
      },
      (λ i. record { number = table.table.0; nodes = (nodes.1 ∙ m.no_node) i; indexes = map (stored_index new) (m.no_index i); long_values = m.no_value i }),
      pages,
    )
