-- A catalog that was read, as the engine keeps it: its items, its nodes, and those that are written again.
use Rattle.std.proofs.Common.{◌≡◌, ℕ, Bool, true, false, inl, inr, Some, List, [], ◌∷◌, ◌++◌, map, refl, sym, ap, subst, ◌∙◌}
use Rattle.std.specs.Prelude.{◌&&◌, ◌||◌, nat_lt, if◌then◌else◌}
use Rattle.std.specs.List.{AllByRecursion, flat_map, list_all}
use Rattle.std.proofs.lemmas.Bool.{and_from}
use Rattle.common_lemmas.proofs.Booleans.{and_left, and_right, by_test}
use Rattle.jet_base.specs.TypeKinds.{is_long_type}
use Rattle.jet_base.specs.declared.ids.TableId.{TableId}
use Rattle.column_set.specs.declared.columns.Column.{Column}
use Rattle.column_set.specs.RecordValues.{tagged_if_long}
use Rattle.index_derive.specs.declared.rules.IndexRule.{IndexRule}
use Rattle.database_state.specs.Table.{Table}
use Rattle.jet_catalog.specs.Catalog.{CatalogState}
use Rattle.page_image.specs.Page.{Node}
use Rattle.page_space.specs.Frames.{Frames}
use Rattle.catalog_grammar.specs.CatalogBytes.{item_fits, item_node}
use Rattle.catalog_grammar.specs.Catalogs.{CatalogTable, catalog_fits, catalog_items, catalog_nodes, column_items, has_rising_parts, index_items, rise_above, tables_told, with_tagged_longs}
use Rattle.catalog_grammar.specs.CatalogSteps.{has_nodes, nodes_of_catalog, rooted_tables}
use Rattle.catalog_grammar.specs.declared.items.CatalogItem.{CatalogItem}
use Rattle.catalog_grammar.specs.declared.items.CatalogItem.TheVariants as item
use Rattle.catalog_grammar.proofs.Rising.{Each, items_rise}
use Rattle.catalog_record.specs.CatalogTrees.{IsCatalogTree, nodes_in}
use Rattle.catalog_record.specs.declared.tree.CatalogTree.{CatalogTree}
use Rattle.table_trees.specs.StoredTrees.{StoredRoots, roots_by_number}
use Rattle.image_findings.specs.CatalogFindings.{CatalogTold, catalog_told, in_order_of_making, table_of, with_order}
use Rattle.image_findings.specs.TreeFindings.{nodes_below}
use Rattle.image_opening.specs.KeptNodes.{HaveRoom, column_again, index_again, items_again, with_items}
use Rattle.image_opening.specs.OpenedCatalogs.{IsOpened, IsRead, stored_roots}
use Rattle.image_opening.proofs.Exact.{AreIn, In, all_in, each_append, items_when_told}
use Rattle.image_opening.proofs.KeptItems.{IsKeptOf, IsWritten, all_fit_kept, have_room, kept_item, written_nodes}
use Rattle.image_opening.proofs.Lists.{map_both}
use Rattle.image_opening.proofs.ManyTables.{telling}
use Rattle.image_opening.proofs.RootedTables.{kept_root, rooted_again, with_kept_roots}
use Rattle.image_opening.proofs.TaggedParts.{numbers_tagged, parts_tagged}

abbrev Rooted : Type 0
Rooted = ℕ × IndexRule

abbrev rules_of : List Rooted → List IndexRule
rules_of indexes = map (λ (index : Rooted). index.1) indexes

abbrev tagged_tables : List CatalogTable → List CatalogTable
tagged_tables bare = map with_tagged_longs bare

abbrev kept_tables : List CatalogTable → List CatalogTable
kept_tables bare = map with_kept_roots (tagged_tables bare)

-- ---- its items

abbrev item_of_root : TableId → Rooted → CatalogItem
item_of_root id index = item.Index id index.0 index.1

abbrev item_of_one : CatalogTable → CatalogItem
item_of_one x = item.Table x.table

tables_kept : (bare : List CatalogTable) → map kept_item (map item_of_one bare) ≡ map item_of_one (kept_tables bare)
tables_kept [] = refl
tables_kept (x ∷ bare) = ap (λ (l : List CatalogItem). item.Table x.table ∷ l) (tables_kept bare)

columns_of_one : (id : TableId) (columns : List Column) → map kept_item (map (item.Column id) columns) ≡ map (item.Column id) (map tagged_if_long columns)
columns_of_one id [] = refl
columns_of_one id (c ∷ columns) = ap (λ (l : List CatalogItem). item.Column id (tagged_if_long c) ∷ l) (columns_of_one id columns)

columns_kept : (bare : List CatalogTable) → map kept_item (flat_map column_items bare) ≡ flat_map column_items (kept_tables bare)
columns_kept [] = refl
columns_kept (x ∷ bare) =
    let first = columns_of_one x.table.id x.columns in
    let others = columns_kept bare in
    map_both kept_item (column_items x) (flat_map column_items bare) ∙ (λ i. first i ++ others i)

indexes_of_one : (id : TableId) (indexes : List Rooted) → map kept_item (map (item_of_root id) indexes) ≡ map (item_of_root id) (map kept_root indexes)
indexes_of_one id [] = refl
indexes_of_one id (index ∷ indexes) = ap (λ (l : List CatalogItem). item_of_root id (kept_root index) ∷ l) (indexes_of_one id indexes)

indexes_kept : (bare : List CatalogTable) → map kept_item (flat_map index_items bare) ≡ flat_map index_items (kept_tables bare)
indexes_kept [] = refl
indexes_kept (x ∷ bare) =
    let first = indexes_of_one x.table.id x.indexes in
    let others = indexes_kept bare in
    map_both kept_item (index_items x) (flat_map index_items bare) ∙ (λ i. first i ++ others i)

items_kept : (greatest : ℕ) (bare : List CatalogTable) → map kept_item (catalog_items greatest bare) ≡ catalog_items greatest (kept_tables bare)
items_kept greatest bare =
    let t = tables_kept bare in
    let c = columns_kept bare in
    let d = indexes_kept bare in
    ap (λ (l : List CatalogItem). item.Greatest greatest ∷ l)
    (map_both kept_item (map item_of_one bare) (flat_map column_items bare ++ flat_map index_items bare)
    ∙ ap (λ (l : List CatalogItem). map kept_item (map item_of_one bare) ++ l) (map_both kept_item (flat_map column_items bare) (flat_map index_items bare))
    ∙ (λ i. t i ++ (c i ++ d i)))

-- ---- it can be written

index_numbers : (indexes : List Rooted) → map (λ (index : Rooted). index.1.id.0) (map kept_root indexes) ≡ map (λ (index : Rooted). index.1.id.0) indexes
index_numbers [] = refl
index_numbers (index ∷ indexes) = ap (λ (l : List ℕ). index.1.id.0 ∷ l) (index_numbers indexes)

parts_kept : (tables : List CatalogTable) → list_all has_rising_parts (map with_kept_roots tables) ≡ list_all has_rising_parts tables
parts_kept [] = refl
parts_kept (x ∷ tables) =
    let first = ap (λ (l : List ℕ). rise_above 0 (map (λ (column : Column). column.id.0) x.columns) && rise_above 0 l) (index_numbers x.indexes) in
    let others = parts_kept tables in
    λ i. first i && others i

abbrev numbers_of : List CatalogTable → List ℕ
numbers_of tables = map (λ (x : CatalogTable). x.table.id.0) tables

numbers_kept : (tables : List CatalogTable) → numbers_of (map with_kept_roots tables) ≡ numbers_of tables
numbers_kept [] = refl
numbers_kept (x ∷ tables) = ap (λ (l : List ℕ). x.table.id.0 ∷ l) (numbers_kept tables)

-- What a catalog keeps that can be written.
record Fits (greatest : ℕ) (tables : List CatalogTable) : Type 0 where
  items : list_all item_fits (catalog_items greatest tables) ≡ true
  numbers : rise_above 0 (numbers_of tables) ≡ true
  parts : list_all has_rising_parts tables ≡ true

fits : (greatest : ℕ) (tables : List CatalogTable) → catalog_fits greatest tables ≡ true → Fits greatest tables
fits greatest tables h =
    let all = list_all item_fits (catalog_items greatest tables) in
    let rest = and_right all (rise_above 0 (numbers_of tables) && list_all has_rising_parts tables) h in
    record {
      items = and_left all (rise_above 0 (numbers_of tables) && list_all has_rising_parts tables) h;
      numbers = and_left (rise_above 0 (numbers_of tables)) (list_all has_rising_parts tables) rest;
      parts = and_right (rise_above 0 (numbers_of tables)) (list_all has_rising_parts tables) rest;
    }

kept_fits : (greatest : ℕ) (bare : List CatalogTable) → Fits greatest bare → catalog_fits greatest (kept_tables bare) ≡ true
kept_fits greatest bare f =
    and_from (list_all item_fits (catalog_items greatest (kept_tables bare))) (rise_above 0 (numbers_of (kept_tables bare)) && list_all has_rising_parts (kept_tables bare))
    (ap (list_all item_fits) (sym (items_kept greatest bare)) ∙ all_fit_kept (catalog_items greatest bare) f.items)
    (and_from (rise_above 0 (numbers_of (kept_tables bare))) (list_all has_rising_parts (kept_tables bare))
    (ap (rise_above 0) (numbers_kept (tagged_tables bare) ∙ numbers_tagged bare) ∙ f.numbers) (parts_kept (tagged_tables bare) ∙ parts_tagged bare ∙ f.parts))

-- ---- which are written again

each_when : (P : CatalogItem → Type 0) (b : Bool) (w : CatalogItem) → (b ≡ true → P w) → Each P (if b then w ∷ [] else [])
each_when P true w f = (f refl, tt)
each_when P false w f = tt

each_left : (P : CatalogItem → Type 0) (xs ys : List CatalogItem) → Each P (xs ++ ys) → Each P xs
each_left P [] ys h = tt
each_left P (x ∷ xs) ys h = (h.0, each_left P xs ys h.1)

each_right : (P : CatalogItem → Type 0) (xs ys : List CatalogItem) → Each P (xs ++ ys) → Each P ys
each_right P [] ys h = h
each_right P (x ∷ xs) ys h = each_right P xs ys h.1

left_in : (all xs ys : List CatalogItem) → AreIn all (xs ++ ys) → AreIn all xs
left_in all xs ys h = each_left (λ x. In x all) xs ys h

right_in : (all xs ys : List CatalogItem) → AreIn all (xs ++ ys) → AreIn all ys
right_in all xs ys h = each_right (λ x. In x all) xs ys h

-- in the order of making, and in another
with_one : (P : IndexRule → Type 0) (rule : IndexRule) (rules : List IndexRule) → P rule → AllByRecursion P rules → AllByRecursion P (with_order rule rules)
with_one P rule [] one h = (one, tt)
with_one P rule (other ∷ rules) one h = put (nat_lt rule.order other.order) (with_one P rule rules one h.1)
  where
    put : (b : Bool) → AllByRecursion P (with_order rule rules) → AllByRecursion P (if b then rule ∷ other ∷ rules else other ∷ with_order rule rules)
    put true k = (one, h)
    put false k = (h.0, k)

ordered : (P : IndexRule → Type 0) (rules : List IndexRule) → AllByRecursion P rules → AllByRecursion P (in_order_of_making rules)
ordered P [] h = tt
ordered P (rule ∷ rules) h = with_one P rule (in_order_of_making rules) h.0 (ordered P rules h.1)

one_out : (P : IndexRule → Type 0) (rule : IndexRule) (rules : List IndexRule) → AllByRecursion P (with_order rule rules) → P rule × AllByRecursion P rules
one_out P rule [] h = h
one_out P rule (other ∷ rules) h = taken (nat_lt rule.order other.order) (one_out P rule rules) h
  where
    taken : (b : Bool) → (AllByRecursion P (with_order rule rules) → P rule × AllByRecursion P rules) → AllByRecursion P (if b then rule ∷ other ∷ rules else other ∷ with_order rule rules) → P rule × AllByRecursion P (other ∷ rules)
    taken true f k = k
    taken false f k = let rest = f k.1 in (rest.0, (k.0, rest.1))

unordered : (P : IndexRule → Type 0) (rules : List IndexRule) → AllByRecursion P (in_order_of_making rules) → AllByRecursion P rules
unordered P [] h = tt
unordered P (rule ∷ rules) h = let out = one_out P rule (in_order_of_making rules) h in (out.0, unordered P rules out.1)

-- what is written again is an item as it is kept
columns_are : (all : List CatalogItem) (id : TableId) (columns : List Column) → AreIn all (map (item.Column id) columns) → Each (IsKeptOf all) (flat_map (column_again id) (map tagged_if_long columns))
columns_are all id [] h = tt
columns_are all id (c ∷ columns) h =
    each_append (IsKeptOf all) (column_again id (tagged_if_long c)) (flat_map (column_again id) (map tagged_if_long columns))
    (each_when (IsKeptOf all) (is_long_type c.kind) (item.Column id (tagged_if_long c)) (λ long. record { x = item.Column id c; there = h.0; kept = refl })) (columns_are all id columns h.1)

each_again : (P : CatalogItem → Type 0) (id : TableId) (rules : List IndexRule) → AllByRecursion (λ rule. Each P (index_again id rule)) rules → Each P (flat_map (index_again id) rules)
each_again P id [] h = tt
each_again P id (rule ∷ rules) h = each_append P (index_again id rule) (flat_map (index_again id) rules) h.0 (each_again P id rules h.1)

again_each : (P : CatalogItem → Type 0) (id : TableId) (rules : List IndexRule) → Each P (flat_map (index_again id) rules) → AllByRecursion (λ rule. Each P (index_again id rule)) rules
again_each P id [] h = tt
again_each P id (rule ∷ rules) h = (each_left P (index_again id rule) (flat_map (index_again id) rules) h, again_each P id rules (each_right P (index_again id rule) (flat_map (index_again id) rules) h))

rules_are : (all : List CatalogItem) (id : TableId) (indexes : List Rooted) → AreIn all (map (item_of_root id) indexes) → AllByRecursion (λ rule. Each (IsKeptOf all) (index_again id rule)) (rules_of indexes)
rules_are all id [] h = tt
rules_are all id (index ∷ indexes) h = (
  each_when (IsKeptOf all) index.1.flags.primary (item.Index id 0 index.1) (λ primary. record { x = item_of_root id index; there = h.0; kept = sym (ap (λ (b : Bool). item.Index id (if b then 0 else index.0) index.1) primary) }),
  rules_are all id indexes h.1,
)

tables_are : (all : List CatalogItem) (bare : List CatalogTable) → AreIn all (flat_map column_items bare) → AreIn all (flat_map index_items bare) → Each (IsKeptOf all) (flat_map items_again (map table_of (tagged_tables bare)))
tables_are all [] h k = tt
tables_are all (x ∷ bare) h k =
    let id = x.table.id in
    let P : CatalogItem → Type 0 = λ y. IsKeptOf all y in
    let C : List CatalogItem = flat_map (column_again id) (map tagged_if_long x.columns) in
    let R : List IndexRule = in_order_of_making (rules_of x.indexes) in
    each_append P (C ++ flat_map (index_again id) R) (flat_map items_again (map table_of (tagged_tables bare)))
    (each_append P C (flat_map (index_again id) R) (columns_are all id x.columns (left_in all (column_items x) (flat_map column_items bare) h))
    (each_again P id R (ordered (λ rule. Each P (index_again id rule)) (rules_of x.indexes) (rules_are all id x.indexes (left_in all (index_items x) (flat_map index_items bare) k)))))
    (tables_are all bare (right_in all (column_items x) (flat_map column_items bare) h) (right_in all (index_items x) (flat_map index_items bare) k))

-- an item is written again, or it is kept as it is
untagged : (tagged : Bool) → (tagged || false) ≡ tagged
untagged true = refl
untagged false = refl

short_column : (c : Column) → is_long_type c.kind ≡ false → tagged_if_long c ≡ c
short_column c short = let same = ap (λ (b : Bool). c.tagged || b) short ∙ untagged c.tagged in λ i. record c { tagged = same i }

columns_written : (again : List CatalogItem) (id : TableId) (columns : List Column) → AreIn again (flat_map (column_again id) (map tagged_if_long columns)) → Each (IsWritten again) (map (item.Column id) columns)
columns_written again id [] h = tt
columns_written again id (c ∷ columns) h =
    let one = column_again id (tagged_if_long c) in
    let others = flat_map (column_again id) (map tagged_if_long columns) in (
      by_test (is_long_type c.kind)
          (λ long. inl (subst (λ (b : Bool). AreIn again (if b then item.Column id (tagged_if_long c) ∷ [] else [])) long (left_in again one others h)).0)
          (λ short. inr (ap (item.Column id) (short_column c short))),
      columns_written again id columns (right_in again one others h),
    )

rules_written : (again : List CatalogItem) (id : TableId) (indexes : List Rooted) → AllByRecursion (λ rule. AreIn again (index_again id rule)) (rules_of indexes) → Each (IsWritten again) (map (item_of_root id) indexes)
rules_written again id [] h = tt
rules_written again id (index ∷ indexes) h = (
  by_test index.1.flags.primary
      (λ primary. inl (subst (λ (l : CatalogItem). AreIn again (l ∷ [])) (sym (ap (λ (b : Bool). item.Index id (if b then 0 else index.0) index.1) primary)) (subst (λ (b : Bool). AreIn again (if b then item.Index id 0 index.1 ∷ [] else [])) primary h.0)).0)
      (λ refuted. inr (ap (λ (b : Bool). item.Index id (if b then 0 else index.0) index.1) refuted)),
  rules_written again id indexes h.1,
)

tables_written : (again : List CatalogItem) (bare : List CatalogTable) → Each (IsWritten again) (map item_of_one bare)
tables_written again [] = tt
tables_written again (x ∷ bare) = (inr refl, tables_written again bare)

-- the columns and the indexes of all tables
record AreWritten (again : List CatalogItem) (bare : List CatalogTable) : Type 0 where
  columns : Each (IsWritten again) (flat_map column_items bare)
  indexes : Each (IsWritten again) (flat_map index_items bare)

parts_written : (again : List CatalogItem) (bare : List CatalogTable) → AreIn again (flat_map items_again (map table_of (tagged_tables bare))) → AreWritten again bare
parts_written again [] h = record { columns = tt; indexes = tt }
parts_written again (x ∷ bare) h =
    let id = x.table.id in
    let C : List CatalogItem = flat_map (column_again id) (map tagged_if_long x.columns) in
    let R : List IndexRule = in_order_of_making (rules_of x.indexes) in
    let own = left_in again (C ++ flat_map (index_again id) R) (flat_map items_again (map table_of (tagged_tables bare))) h in
    let others = parts_written again bare (right_in again (C ++ flat_map (index_again id) R) (flat_map items_again (map table_of (tagged_tables bare))) h) in
    record {
      columns = each_append (IsWritten again) (column_items x) (flat_map column_items bare) (columns_written again id x.columns (left_in again C (flat_map (index_again id) R) own)) others.columns;
      indexes = each_append (IsWritten again) (index_items x) (flat_map index_items bare)
          (rules_written again id x.indexes (unordered (λ rule. AreIn again (index_again id rule)) (rules_of x.indexes) (again_each (λ y. In y again) id R (right_in again C (flat_map (index_again id) R) own)))) others.indexes;
    }

-- ---- the nodes

-- What nodes tell of a catalog can be written again, and then they are as the engine keeps them.
pub record WritesKept (nodes : List Node) (catalog : CatalogState) (roots : List StoredRoots) : Type 0 where
  pub room : HaveRoom nodes (flat_map items_again catalog.tables)
  pub written : with_items (flat_map items_again catalog.tables) nodes ≡ nodes_of_catalog (roots_by_number roots) catalog
  pub writable : has_nodes (roots_by_number roots) catalog ≡ true

abbrev state_of : ℕ → List CatalogTable → CatalogState
state_of greatest tables = record { greatest_table = greatest; tables = map table_of tables }

kept_of : (greatest : ℕ) (bare : List CatalogTable) → catalog_fits greatest bare ≡ true → WritesKept (catalog_nodes greatest bare) (state_of greatest (tagged_tables bare)) (map stored_roots (tagged_tables bare))
kept_of greatest bare h =
    let f = fits greatest bare h in
    let all = catalog_items greatest bare in
    let again = flat_map items_again (map table_of (tagged_tables bare)) in
    let rise = items_rise greatest bare h in
    let ins = all_in all in
    let parts = right_in all (item.Greatest greatest ∷ map item_of_one bare) (flat_map column_items bare ++ flat_map index_items bare) ins in
    let are = tables_are all bare (left_in all (flat_map column_items bare) (flat_map index_items bare) parts) (right_in all (flat_map column_items bare) (flat_map index_items bare) parts) in
    let each = parts_written again bare (all_in again) in
    let every : Each (IsWritten again) all =
    (inr refl, each_append (IsWritten again) (map item_of_one bare) (flat_map column_items bare ++ flat_map index_items bare) (tables_written again bare) (each_append (IsWritten again) (flat_map column_items bare) (flat_map index_items bare) each.columns each.indexes)) in
    let rooted : rooted_tables (roots_by_number (map stored_roots (tagged_tables bare))) (map table_of (tagged_tables bare)) ≡ kept_tables bare =
    rooted_again (tagged_tables bare) (ap (rise_above 0) (numbers_tagged bare) ∙ f.numbers) (parts_tagged bare ∙ f.parts) in
    record {
      room = have_room all again rise f.items are;
      written = written_nodes all again rise are every ∙ ap (map item_node) (items_kept greatest bare) ∙ sym (ap (catalog_nodes greatest) rooted);
      writable = ap (catalog_fits greatest) rooted ∙ kept_fits greatest bare f;
    }

kept_of_told : (nodes : List Node) (told : CatalogTold) → catalog_told nodes ≡ Some told → WritesKept nodes (state_of told.greatest told.tables) (map stored_roots told.tables)
kept_of_told nodes told e =
    let are = items_when_told nodes told e in
    let t = telling are.items told are.fit (ap catalog_told (sym are.nodes_are) ∙ e) in
    subst (λ (l : List CatalogTable). WritesKept nodes (state_of told.greatest l) (map stored_roots l)) (sym t.tables)
    (subst (λ (l : List Node). WritesKept l (state_of told.greatest (tagged_tables (tables_told are.items))) (map stored_roots (tagged_tables (tables_told are.items)))) (t.same ∙ sym are.nodes_are) (kept_of told.greatest (tables_told are.items) t.fits))

kept_of_read : (nodes : List Node) (catalog : CatalogState) (roots : List StoredRoots) → IsRead nodes catalog roots → WritesKept nodes catalog roots
kept_of_read nodes catalog roots is =
    subst (λ (k : CatalogState). WritesKept nodes k roots) (sym is.catalog_is)
    (subst (WritesKept nodes (state_of is.told.greatest is.told.tables)) (sym is.roots_are) (kept_of_told nodes is.told is.telling))

pub writes_kept : (frames : Frames) (tree : CatalogTree) (catalog : CatalogState) (roots : List StoredRoots) → ((root : ℕ) × IsOpened frames root tree catalog roots) → IsCatalogTree frames tree × WritesKept (nodes_in frames tree) catalog roots
writes_kept frames tree catalog roots (root, is) =
    (is.tree_below.is_tree, subst (λ (l : List Node). WritesKept l catalog roots) (sym is.tree_below.nodes) (kept_of_read (nodes_below frames root) catalog roots is.is_read))
