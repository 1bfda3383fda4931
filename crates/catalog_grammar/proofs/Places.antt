-- Where the items of one table stand among those of a catalog.
use Rattle.std.proofs.Common.{◌≡◌, ℕ, true, List, [], ◌∷◌, ◌++◌, length, Some, None, refl, sym, ap, subst, ◌∙◌, append_assoc, arith}
use Rattle.std.specs.Prelude.{find, map}
use Rattle.std.specs.List.{flat_map}
use Rattle.std.proofs.lemmas.List.{append-nil, map-append}
use Rattle.std.proofs.lemmas.List.Concat.{flat_map-append}
use Rattle.jet_base.specs.declared.ids.TableId.{TableId}
use Rattle.column_set.specs.declared.columns.Column.{Column}
use Rattle.index_derive.specs.declared.rules.IndexRule.{IndexRule}
use Rattle.page_image.specs.Page.{Node}
use Rattle.btree_inplace.specs.Changes.{inserted, with_data_at, without_key}
use Rattle.btree_inplace.specs.Order.{has_key}
use Rattle.catalog_grammar.specs.CatalogBytes.{catalog_key, index_data, item_data, item_key, item_node, table_data}
use Rattle.catalog_grammar.specs.Catalogs.{CatalogTable, catalog_fits, catalog_items, catalog_nodes, column_items, index_items}
use Rattle.catalog_grammar.specs.declared.items.CatalogItem.{CatalogItem}
use Rattle.catalog_grammar.specs.declared.items.CatalogItem.TheVariants as item
use Rattle.catalog_grammar.specs.declared.items.TableItem.{TableItem}
use Rattle.catalog_grammar.proofs.Rising.{Rise, items_rise}
use Rattle.catalog_grammar.specs.CatalogParts.{OtherTables, bare_table, with_columns, with_indexes, with_item, with_tables}
use Rattle.catalog_grammar.proofs.ChangedItems.{Splits, absent, added, changed, removed, splits, there}

abbrev pub table_node : CatalogTable → CatalogItem
table_node x = item.Table x.table

abbrev pub column_of : CatalogTable → Column → CatalogItem
column_of x column = item.Column x.table.id column

abbrev pub index_of : CatalogTable → ℕ × IndexRule → CatalogItem
index_of x index = item.Index x.table.id index.0 index.1

-- ---- a table's own node

abbrev pub table_front : ℕ → OtherTables → List CatalogItem
table_front greatest others = item.Greatest greatest ∷ map table_node others.before

abbrev pub table_behind : OtherTables → List CatalogItem → List CatalogItem → List CatalogItem
table_behind others columns indexes = map table_node others.after ++ ((flat_map column_items others.before ++ (columns ++ flat_map column_items others.after)) ++ (flat_map index_items others.before ++ (indexes ++ flat_map index_items others.after)))

pub tables_parted : (greatest : ℕ) (others : OtherTables) (tables : List CatalogTable) → catalog_items greatest (with_tables others tables) ≡ table_front greatest others ++ (map table_node tables ++ table_behind others (flat_map column_items tables) (flat_map index_items tables))
tables_parted greatest others tables = simp (map-append, flat_map-append, append_assoc)

-- ---- the node of a column

abbrev pub column_front : ℕ → OtherTables → CatalogTable → List Column → List CatalogItem
column_front greatest others x left = table_front greatest others ++ ((table_node x ∷ map table_node others.after) ++ (flat_map column_items others.before ++ map (column_of x) left))

abbrev pub column_behind : OtherTables → CatalogTable → List Column → List CatalogItem
column_behind others x right = map (column_of x) right ++ (flat_map column_items others.after ++ (flat_map index_items others.before ++ (index_items x ++ flat_map index_items others.after)))

pub columns_parted : (greatest : ℕ) (others : OtherTables) (x : CatalogTable) (left right columns : List Column) → catalog_items greatest (with_columns others x (left ++ (columns ++ right))) ≡ column_front greatest others x left ++ (map (column_of x) columns ++ column_behind others x right)
columns_parted greatest others x left right columns = simp (map-append, flat_map-append, append_assoc)

-- ---- the node of an index

abbrev pub index_front : ℕ → OtherTables → CatalogTable → List (ℕ × IndexRule) → List CatalogItem
index_front greatest others x left = table_front greatest others ++ ((table_node x ∷ map table_node others.after) ++ ((flat_map column_items others.before ++ (column_items x ++ flat_map column_items others.after)) ++ (flat_map index_items others.before ++ map (index_of x) left)))

abbrev pub index_behind : OtherTables → CatalogTable → List (ℕ × IndexRule) → List CatalogItem
index_behind others x right = map (index_of x) right ++ flat_map index_items others.after

regrouped : (front a b c d e l m r z : List CatalogItem) (t : CatalogItem) → front ++ (t ∷ (a ++ ((b ++ ((c ++ []) ++ d)) ++ (e ++ (((l ++ (m ++ r)) ++ []) ++ z))))) ≡ (front ++ ((t ∷ a) ++ ((b ++ (c ++ d)) ++ (e ++ l)))) ++ (m ++ (r ++ z))
regrouped front a b c d e l m r z t =
    let inner : a ++ ((b ++ ((c ++ []) ++ d)) ++ (e ++ (((l ++ (m ++ r)) ++ []) ++ z))) ≡ (a ++ ((b ++ (c ++ d)) ++ (e ++ l))) ++ (m ++ (r ++ z)) = simp (append_assoc, append-nil) in
    ap (λ (s : List CatalogItem). front ++ (t ∷ s)) inner ∙ sym (append_assoc front (t ∷ (a ++ ((b ++ (c ++ d)) ++ (e ++ l)))) (m ++ (r ++ z)))

pub indexes_parted : (greatest : ℕ) (others : OtherTables) (x : CatalogTable) (left right indexes : List (ℕ × IndexRule)) → catalog_items greatest (with_indexes others x (left ++ (indexes ++ right))) ≡ index_front greatest others x left ++ (map (index_of x) indexes ++ index_behind others x right)
indexes_parted greatest others x left right indexes =
    let f = index_of x in
    tables_parted greatest others (record x { indexes = left ++ (indexes ++ right) } ∷ [])
    ∙ ap (λ (l : List CatalogItem). table_front greatest others ++ (table_node x ∷ table_behind others (column_items x ++ []) (l ++ []))) (map-append f left (indexes ++ right) ∙ ap (λ (l : List CatalogItem). map f left ++ l) (map-append f indexes right))
    ∙ regrouped (table_front greatest others) (map table_node others.after) (flat_map column_items others.before) (column_items x) (flat_map column_items others.after) (flat_map index_items others.before) (map f left) (map f indexes) (map f right) (flat_map index_items others.after) (table_node x)

-- ---- items with one of them, and without it

pub record Parted (without with_it : List CatalogItem) (x : CatalogItem) : Type 0 where
  pub front : List CatalogItem
  pub behind : List CatalogItem
  pub less : without ≡ front ++ behind
  pub whole : with_it ≡ front ++ x ∷ behind
  pub split : Splits front x behind

parted : (greatest : ℕ) (tables fewer : List CatalogTable) (front : List CatalogItem) (x : CatalogItem) (behind : List CatalogItem) → catalog_fits greatest tables ≡ true → catalog_items greatest fewer ≡ front ++ behind → catalog_items greatest tables ≡ front ++ x ∷ behind → Parted (catalog_items greatest fewer) (catalog_items greatest tables) x
parted greatest tables fewer front x behind fits less whole =
    record { front = front; behind = behind; less = less; whole = whole; split = splits front x behind (subst Rise whole (items_rise greatest tables fits)) }

pub table_parted : (greatest : ℕ) (others : OtherTables) (table : TableItem) → catalog_fits greatest (with_tables others (bare_table table ∷ [])) ≡ true → Parted (catalog_items greatest (with_tables others [])) (catalog_items greatest (with_tables others (bare_table table ∷ []))) (item.Table table)
table_parted greatest others table h =
    parted greatest (with_tables others (bare_table table ∷ [])) (with_tables others []) (table_front greatest others) (item.Table table) (table_behind others [] []) h (tables_parted greatest others []) (tables_parted greatest others (bare_table table ∷ []))

pub column_parted : (greatest : ℕ) (others : OtherTables) (x : CatalogTable) (left right : List Column) (column : Column) → catalog_fits greatest (with_columns others x (left ++ column ∷ right)) ≡ true → Parted (catalog_items greatest (with_columns others x (left ++ right))) (catalog_items greatest (with_columns others x (left ++ column ∷ right))) (item.Column x.table.id column)
column_parted greatest others x left right column h =
    parted greatest (with_columns others x (left ++ column ∷ right)) (with_columns others x (left ++ right)) (column_front greatest others x left) (item.Column x.table.id column) (column_behind others x right) h (columns_parted greatest others x left right []) (columns_parted greatest others x left right (column ∷ []))

pub index_parted : (greatest : ℕ) (others : OtherTables) (x : CatalogTable) (left right : List (ℕ × IndexRule)) (index : ℕ × IndexRule) → catalog_fits greatest (with_indexes others x (left ++ index ∷ right)) ≡ true → Parted (catalog_items greatest (with_indexes others x (left ++ right))) (catalog_items greatest (with_indexes others x (left ++ index ∷ right))) (item.Index x.table.id index.0 index.1)
index_parted greatest others x left right index h =
    parted greatest (with_indexes others x (left ++ index ∷ right)) (with_indexes others x (left ++ right)) (index_front greatest others x left) (item.Index x.table.id index.0 index.1) (index_behind others x right) h (indexes_parted greatest others x left right []) (indexes_parted greatest others x left right (index ∷ []))

abbrev nodes : List CatalogItem → List Node
nodes items = map item_node items

pub absent_in : (without with_it : List CatalogItem) (x : CatalogItem) → Parted without with_it x → find (has_key (item_key x)) (map item_node without) ≡ None
absent_in without with_it x p = ap (λ (l : List CatalogItem). find (has_key (item_key x)) (nodes l)) p.less ∙ absent p.front x p.behind p.split

pub added_to : (without with_it : List CatalogItem) (x : CatalogItem) → Parted without with_it x → inserted (map item_node without) (item_node x) ≡ map item_node with_it
added_to without with_it x p = ap (λ (l : List CatalogItem). inserted (nodes l) (item_node x)) p.less ∙ added p.front x p.behind p.split ∙ ap nodes (sym p.whole)

pub there_in : (without with_it : List CatalogItem) (x : CatalogItem) → Parted without with_it x → find (has_key (item_key x)) (map item_node with_it) ≡ Some (item_node x)
there_in without with_it x p = ap (λ (l : List CatalogItem). find (has_key (item_key x)) (nodes l)) p.whole ∙ there p.front x p.behind p.split

pub removed_from : (without with_it : List CatalogItem) (x : CatalogItem) → Parted without with_it x → without_key (map item_node with_it) (item_key x) ≡ map item_node without
removed_from without with_it x p = ap (λ (l : List CatalogItem). without_key (nodes l) (item_key x)) p.whole ∙ removed p.front x p.behind p.split ∙ ap nodes (sym p.less)

-- ---- items with another in the place of one of them

replaced : (items others : List CatalogItem) (front : List CatalogItem) (x now : CatalogItem) (behind : List CatalogItem) → Rise items → items ≡ front ++ x ∷ behind → others ≡ front ++ now ∷ behind → item_key now ≡ item_key x → length (item_data now) ≡ length (item_data x) → with_data_at (map item_node items) (item_key now) (item_data now) ≡ map item_node others
replaced items others front x now behind rise whole other same long =
    ap (λ (l : List CatalogItem). with_data_at (nodes l) (item_key now) (item_data now)) whole ∙ changed front x now behind (splits front x behind (subst Rise whole rise)) same long ∙ ap nodes (sym other)

pub greatest_replaced : (greatest now : ℕ) (tables : List CatalogTable) → catalog_fits greatest tables ≡ true → with_data_at (catalog_nodes greatest tables) (item_key (item.Greatest now)) (item_data (item.Greatest now)) ≡ catalog_nodes now tables
greatest_replaced greatest now tables h =
    let rest = map table_node tables ++ (flat_map column_items tables ++ flat_map index_items tables) in
    replaced (catalog_items greatest tables) (catalog_items now tables) [] (item.Greatest greatest) (item.Greatest now) rest (items_rise greatest tables h) refl refl refl refl

abbrev behind_table : OtherTables → CatalogTable → TableId → List CatalogItem
behind_table others x id = table_behind others (map (λ column. item.Column id column) x.columns ++ []) (map (λ index. item.Index id index.0 index.1) x.indexes ++ [])

pub table_length : (a b : TableItem) → a.name ≡ b.name → length (table_data a) ≡ length (table_data b)
unfolding table_data
table_length a b e = omega (arith, ap length e)

pub table_replaced : (greatest : ℕ) (others : OtherTables) (x : CatalogTable) (now : TableItem) → catalog_fits greatest (with_item others x x.table) ≡ true → now.id ≡ x.table.id → now.name ≡ x.table.name → with_data_at (catalog_nodes greatest (with_item others x x.table)) (item_key (item.Table now)) (item_data (item.Table now)) ≡ catalog_nodes greatest (with_item others x now)
table_replaced greatest others x now h same named =
    let front = table_front greatest others in
    replaced (catalog_items greatest (with_item others x x.table)) (catalog_items greatest (with_item others x now)) front (item.Table x.table) (item.Table now) (behind_table others x x.table.id) (items_rise greatest (with_item others x x.table) h)
    (tables_parted greatest others (record x { table = x.table } ∷ []))
    (tables_parted greatest others (record x { table = now } ∷ []) ∙ ap (λ (id : TableId). front ++ item.Table now ∷ behind_table others x id) same)
    (ap (λ (id : TableId). catalog_key 1 id.0 0) same)
    (table_length now x.table named)

index_length : (a b : ℕ) (rule : IndexRule) → length (index_data a rule) ≡ length (index_data b rule)
unfolding index_data
index_length a b rule = refl

pub root_replaced : (greatest : ℕ) (others : OtherTables) (x : CatalogTable) (left right : List (ℕ × IndexRule)) (index : ℕ × IndexRule) (now : ℕ) → catalog_fits greatest (with_indexes others x (left ++ index ∷ right)) ≡ true → with_data_at (catalog_nodes greatest (with_indexes others x (left ++ index ∷ right))) (item_key (item.Index x.table.id now index.1)) (item_data (item.Index x.table.id now index.1)) ≡ catalog_nodes greatest (with_indexes others x (left ++ (now, index.1) ∷ right))
root_replaced greatest others x left right index now h =
    let tables = with_indexes others x (left ++ index ∷ right) in
    replaced (catalog_items greatest tables) (catalog_items greatest (with_indexes others x (left ++ (now, index.1) ∷ right))) (index_front greatest others x left) (item.Index x.table.id index.0 index.1) (item.Index x.table.id now index.1) (index_behind others x right) (items_rise greatest tables h)
    (indexes_parted greatest others x left right (index ∷ [])) (indexes_parted greatest others x left right ((now, index.1) ∷ [])) refl (index_length now index.0 index.1)
