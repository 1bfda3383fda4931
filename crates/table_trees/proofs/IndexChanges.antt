-- A table of which one index changes.
use Rattle.std.proofs.Common.{◌≡◌, ℕ, ◌+◌, ◌≤◌, ◌==◌, Bool, true, false, List, [], ◌∷◌, ◌++◌, map, set, refl, sym, ap, subst, ◌∙◌, arith}
use Rattle.std.specs.Prelude.{All, count_by, remove}
use Rattle.std.specs.List.{flat_map, list_any}
use Rattle.std.proofs.lemmas.Bool.{eqb-true}
use Rattle.std.proofs.lemmas.List.Elements.{All-head}
use Rattle.page_space.specs.Frames.{Frames}
use Rattle.btree_inplace.specs.Trees.{Exchanges}
use Rattle.cursor_nav.specs.Places.{Pair}
use Rattle.index_tree.specs.IndexTrees.{IsIndexTree, entries_of, own_pages, root_of}
use Rattle.index_tree.specs.declared.index.IndexTree.{IndexTree}
use Rattle.table_trees.specs.Pages.{AreOwn, OthersStay, Rearranges, copies}
use Rattle.table_trees.specs.StoredTables.{changed_where, is_index, part_of, put_entries, put_indexes, without_where}
use Rattle.table_trees.specs.TableParts.{IsIndex, IsTable, TableBecomes, index_pages, index_root, record_pages, stored_index, stored_table, table_pages, tree_roots}
use Rattle.table_trees.specs.StoredTrees.{with_index_root, without_index_root}
use Rattle.table_trees.specs.LongTrees.{IsLongTree, long_pages}
use Rattle.table_trees.specs.NodeTrees.{node_pages}
use Rattle.table_trees.specs.declared.table.TableIndex.{TableIndex}
use Rattle.table_trees.specs.declared.table.Table.{Table}
use Rattle.table_trees.proofs.Pages.{beside, copies-append, nothing_own, rearranged, rearranged_twice, still_own}
use Rattle.table_trees.proofs.Lookups.{count-map, none_passes}
use Rattle.table_trees.proofs.Members.{AreBounded, OneChanges, all_right, all_stay, last_removed, one_added, one_removed, one_set}
use Rattle.table_trees.proofs.Places.{IsPlaced, count-added, count-changed, count-without, found_part, step_changed, step_removed, step_same}
use Rattle.table_trees.proofs.TableChanges.{HasIndexes, IndexesStep, TreesStay, indexes_change, table_copies}

-- what the trees' laws say of an index
abbrev pub IndexPagesAreOwn : Type 0
IndexPagesAreOwn = (frames : Frames) (index : TableIndex) → IsIndex frames index → AreOwn frames (index_pages frames index)

-- whether a root stands behind the number
abbrev is_behind : ℕ → ℕ × ℕ → Bool
is_behind n x = x.0 == n

-- whether an index of a table has the number
abbrev pub is_numbered : ℕ → TableIndex → Bool
is_numbered n x = x.index.0 == n

pub bounded : (frames : Frames) (table : Table) → IsTable frames table → AreBounded index_pages frames table.indexes.items
bounded frames table is p = omega (arith, is.pages p, copies-append p (record_pages frames table) (flat_map (index_pages frames) table.indexes.items))

pub found_index : (frames : Frames) (table : Table) (n k : ℕ) (found : TableIndex) → IsTable frames table → IsPlaced (is_numbered n) table.indexes.items k found → IsIndexTree frames found.tree
found_index frames table n k found is place = subst (λ (x : TableIndex). IsIndexTree frames x.tree) (sym place.is) (is.indexes k found place.within)

pub found_entries : (frames : Frames) (table : Table) (n k : ℕ) (found : TableIndex) → IsTable frames table → IsPlaced (is_numbered n) table.indexes.items k found
    → part_of (is_index n) (λ x. x.1) (stored_table frames table).indexes ≡ entries_of frames found.tree
found_entries frames table n k found is place = found_part (stored_index frames) (is_index n) (λ x. x.1) table.indexes.items k found place (is.once n)

-- ---- one index has other entries

-- The tree of an index that was found has changed.
pub record Changes (old : Frames) (table : Table) (new : Frames) (n k : ℕ) (found : TableIndex) (changed : IndexTree) : Type 0 where
  pub table_is : IsTable old table
  pub place : IsPlaced (is_numbered n) table.indexes.items k found
  pub good : IsIndexTree new changed
  pub pages : Exchanges old new (own_pages old found.tree) (own_pages new changed)
  pub root : root_of changed ≡ root_of found.tree

abbrev pub with_tree : TableIndex → IndexTree → TableIndex
with_tree x tree = record x { tree = tree }

one_changes : TreesStay → IndexPagesAreOwn → (old : Frames) (table : Table) (new : Frames) (n k : ℕ) (found : TableIndex) (changed : IndexTree) → Changes old table new n k found changed
    → OneChanges IsIndex index_pages stored_index old new table.indexes.items found (set table.indexes.items k (with_tree found changed)) (stored_index new (with_tree found changed) ∷ [])
one_changes stays own old table new n k found changed c =
    one_set IsIndex index_pages stored_index stays.indexes old new table.indexes.items k found (with_tree found changed) c.place.within c.place.is c.table_is.indexes (bounded old table c.table_is) c.good
    (rearranged old new (own_pages old found.tree) (own_pages new changed) c.pages (own old found (found_index old table n k found c.table_is c.place)) (own new (with_tree found changed) c.good))

-- ---- the roots of the indexes

-- the root, as something that each index shows
abbrev pub root_shown : Frames → TableIndex → ℕ × ℕ
root_shown frames x = index_root x

roots_stay : TreesStay → OthersStay IsIndex index_pages root_shown
roots_stay stays old new before after x r is bound = let t = stays.indexes old new before after x r is bound in (t.0, refl, t.2)

roots_once : (frames : Frames) (table : Table) → IsTable frames table → (m : ℕ) → count_by (is_behind m) (map index_root table.indexes.items) ≤ 1
roots_once frames table is m =
    let one = count-map index_root (is_behind m) table.indexes.items in
    let other = count-map (stored_index frames) (is_index m) table.indexes.items in
    omega (arith, one, other, is.once m)

same_roots : TreesStay → IndexPagesAreOwn → (old : Frames) (table : Table) (new : Frames) (n k : ℕ) (found : TableIndex) (changed : IndexTree) → Changes old table new n k found changed
    → map index_root (set table.indexes.items k (with_tree found changed)) ≡ map index_root table.indexes.items
same_roots stays own old table new n k found changed c =
    (step_same
    (one_set IsIndex index_pages root_shown (roots_stay stays) old new table.indexes.items k found (with_tree found changed) c.place.within c.place.is c.table_is.indexes (bounded old table c.table_is) c.good
    (rearranged old new (own_pages old found.tree) (own_pages new changed) c.pages (own old found (found_index old table n k found c.table_is c.place)) (own new (with_tree found changed) c.good)))
    (λ i. (found.index.0, c.root i))).values_are

pub entries_change : TreesStay → IndexPagesAreOwn → (old : Frames) (table : Table) (new : Frames) (n k : ℕ) (found : TableIndex) (changed : IndexTree) (is : Table) (entries : List Pair) → Changes old table new n k found changed
    → HasIndexes table is (set table.indexes.items k (with_tree found changed)) → entries_of new changed ≡ entries
    → TableBecomes old table new is (put_indexes (changed_where (is_index n) (put_entries entries) (stored_table old table).indexes) (stored_table old table)) (tree_roots table)
entries_change stays own old table new n k found changed is entries c has e =
    let values = changed_where (is_index n) (put_entries entries) (stored_table old table).indexes in
    let put : stored_index new (with_tree found changed) ≡ put_entries entries (stored_index old found) = (λ i. (found.index.0, e i)) in
    indexes_change stays old new table is (set table.indexes.items k (with_tree found changed)) values (map index_root table.indexes.items) c.table_is has
    (step_changed (is_index n) (put_entries entries) (one_changes stays own old table new n k found changed c) c.place.passes (c.table_is.once n) put)
    (λ m. let same = count-changed (is_index m) (is_index n) (put_entries entries) (stored_table old table).indexes (λ v. refl) in omega (arith, same, c.table_is.once m))
    (same_roots stays own old table new n k found changed c)

pub entries_same : TreesStay → IndexPagesAreOwn → (old : Frames) (table : Table) (new : Frames) (n k : ℕ) (found : TableIndex) (changed : IndexTree) (is : Table) → Changes old table new n k found changed
    → HasIndexes table is (set table.indexes.items k (with_tree found changed)) → entries_of new changed ≡ entries_of old found.tree
    → TableBecomes old table new is (stored_table old table) (tree_roots table)
entries_same stays own old table new n k found changed is c has e =
    let same : stored_index new (with_tree found changed) ≡ stored_index old found = (λ i. (found.index.0, e i)) in
    indexes_change stays old new table is (set table.indexes.items k (with_tree found changed)) (stored_table old table).indexes (map index_root table.indexes.items) c.table_is has
    (step_same (one_changes stays own old table new n k found changed c) same) c.table_is.once
    (same_roots stays own old table new n k found changed c)

-- ---- one index less, and one more

pub index_goes : TreesStay → IndexPagesAreOwn → (old : Frames) (table : Table) (new : Frames) (n k : ℕ) (found : TableIndex) (is : Table) → IsTable old table → IsPlaced (is_numbered n) table.indexes.items k found
    → Exchanges old new (own_pages old found.tree) [] → HasIndexes table is (remove table.indexes.items k)
    → TableBecomes old table new is (put_indexes (without_where (is_index n) (stored_table old table).indexes) (stored_table old table)) (without_index_root n (tree_roots table))
index_goes stays own old table new n k found is good place pages has =
    let moved = rearranged old new (own_pages old found.tree) [] pages (own old found (found_index old table n k found good place)) (nothing_own new) in
    let one = one_removed IsIndex index_pages stored_index stays.indexes old new table.indexes.items k found place.within place.is good.indexes (bounded old table good) moved in
    let rooted = one_removed IsIndex index_pages root_shown (roots_stay stays) old new table.indexes.items k found place.within place.is good.indexes (bounded old table good) moved in
    indexes_change stays old new table is (remove table.indexes.items k) (without_where (is_index n) (stored_table old table).indexes) (without_where (is_behind n) (map index_root table.indexes.items)) good has
    (step_removed (is_index n) one place.passes (good.once n))
    (λ m. omega (arith, count-without (is_index m) (is_index n) (stored_table old table).indexes, good.once m))
    (step_removed (is_behind n) rooted place.passes (roots_once old table good n)).values_are

pub index_comes : TreesStay → IndexPagesAreOwn → (old : Frames) (table : Table) (new : Frames) (made : TableIndex) (is : Table) → IsTable old table → list_any (is_index made.index.0) (stored_table old table).indexes ≡ false
    → IsIndexTree new made.tree → entries_of new made.tree ≡ [] → Exchanges old new [] (own_pages new made.tree) → HasIndexes table is (table.indexes.items ++ made ∷ [])
    → TableBecomes old table new is (put_indexes ((stored_table old table).indexes ++ (made.index.0, []) ∷ []) (stored_table old table)) (with_index_root made.index.0 (root_of made.tree) (tree_roots table))
index_comes stays own old table new made is good absent tree none pages has =
    let moved = rearranged old new [] (own_pages new made.tree) pages (nothing_own old) (own new made tree) in
    let step = one_added IsIndex index_pages stored_index stays.indexes old new table.indexes.items made good.indexes (bounded old table good) tree moved in
    let rooted = (one_added IsIndex index_pages root_shown (roots_stay stays) old new table.indexes.items made good.indexes (bounded old table good) tree moved).values_are in
    let values : (stored_table old table).indexes ++ stored_index new made ∷ [] ≡ (stored_table old table).indexes ++ (made.index.0, []) ∷ [] = (λ i. (stored_table old table).indexes ++ (made.index.0, none i) ∷ []) in
    let new_number : (m : ℕ) → is_index m (made.index.0, []) ≡ true → count_by (is_index m) (stored_table old table).indexes ≡ 0 =
    λ m t. none_passes (is_index m) (stored_table old table).indexes (ap (λ j. list_any (is_index j) (stored_table old table).indexes) (sym (eqb-true made.index.0 m t)) ∙ absent) in
    indexes_change stays old new table is (table.indexes.items ++ made ∷ []) ((stored_table old table).indexes ++ (made.index.0, []) ∷ []) (map index_root table.indexes.items ++ (made.index.0, root_of made.tree) ∷ []) good has
    (subst (IndexesStep old new table.indexes.items (table.indexes.items ++ made ∷ [])) values step)
    (λ m. count-added (is_index m) (stored_table old table).indexes (made.index.0, []) (good.once m) (new_number m))
    rooted

-- ---- all trees go, one after the other

-- The indexes that are left are in order, and the pages of all that is gone are free.
abbrev pub AreLeft : Frames → Frames → List ℕ → List TableIndex → Type 0
AreLeft first now pages left = All (IsIndex now) left × AreBounded index_pages now left × Rearranges first now pages (flat_map (index_pages now) left)

pub long_left : TreesStay → (old mid : Frames) (table : Table) → IsTable old table → Rearranges old mid (node_pages old table.nodes) [] → IsLongTree mid table.long_values × (long_pages mid table.long_values ≡ long_pages old table.long_values)
long_left stays old mid table is r =
    let long = stays.long_values old mid (node_pages old table.nodes) [] table.long_values r is.long_values (λ p. omega (arith, is.pages p, table_copies old table p)) in
    (long.0, long.2)

pub records_gone : TreesStay → (old mid new : Frames) (table : Table) → IsTable old table → Rearranges old mid (node_pages old table.nodes) [] → Rearranges mid new (long_pages mid table.long_values) [] → Rearranges old new (record_pages old table) []
records_gone stays old mid new table is r s =
    let left = long_left stays old mid table is r in
    let same : (p : ℕ) → copies p (long_pages mid table.long_values) ≡ copies p (long_pages old table.long_values) = λ p. ap (copies p) left.1 in
    rearranged_twice old mid new (record_pages old table) (long_pages mid table.long_values) []
    (beside old mid (node_pages old table.nodes) [] (record_pages old table) (long_pages mid table.long_values) (λ p. copies p (long_pages old table.long_values)) r (λ p. copies-append p (node_pages old table.nodes) (long_pages old table.long_values)) (λ p. omega (arith, same p)))
    s

pub records_go : TreesStay → (old new : Frames) (table : Table) → IsTable old table → Rearranges old new (record_pages old table) [] → AreLeft old new (table_pages old table) table.indexes.items
records_go stays old new table is r =
    let items = table.indexes.items in
    let total : (p : ℕ) → copies p (table_pages old table) ≡ copies p (record_pages old table) + copies p (flat_map (index_pages old) items) = λ p. copies-append p (record_pages old table) (flat_map (index_pages old) items) in
    let left = all_stay IsIndex index_pages stored_index stays.indexes old new (record_pages old table) [] items r is.indexes (λ p. omega (arith, is.pages p, total p)) in
    let same : (p : ℕ) → copies p (flat_map (index_pages new) items) ≡ copies p (flat_map (index_pages old) items) = λ p. ap (copies p) left.2 in (
      left.0,
      (λ p. omega (arith, same p, total p, is.pages p, r.balance p)),
      beside old new (record_pages old table) [] (table_pages old table) (flat_map (index_pages new) items) (λ p. copies p (flat_map (index_pages old) items)) r total (λ p. omega (arith, same p)),
    )

pub last_is : (frames : Frames) (items left : List TableIndex) (last : TableIndex) → items ≡ left ++ last ∷ [] → All (IsIndex frames) items → IsIndexTree frames last.tree
last_is frames items left last e h = All-head (IsIndex frames) last [] (all_right (IsIndex frames) left (last ∷ []) (subst (All (IsIndex frames)) e h))

pub last_goes : TreesStay → IndexPagesAreOwn → (first old new : Frames) (pages : List ℕ) (items left : List TableIndex) (last : TableIndex) → items ≡ left ++ last ∷ [] → AreLeft first old pages items → Exchanges old new (own_pages old last.tree) [] → AreLeft first new pages left
last_goes stays own first old new pages items left last e are gone =
    let were : AreLeft first old pages (left ++ last ∷ []) = subst (AreLeft first old pages) e are in
    let is : IsIndexTree old last.tree = last_is old items left last e are.0 in
    let step = last_removed IsIndex index_pages stored_index stays.indexes old new left last were.0 were.1 (rearranged old new (own_pages old last.tree) [] gone (own old last is) (nothing_own new)) in (
      step.good,
      still_own old new (flat_map (index_pages old) (left ++ last ∷ [])) (flat_map (index_pages new) left) step.rearranges were.1,
      rearranged_twice first old new pages (flat_map (index_pages old) (left ++ last ∷ [])) (flat_map (index_pages new) left) were.2 step.rearranges,
    )
