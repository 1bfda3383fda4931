-- What a change of one table does to the nodes of a catalog.
use Rattle.std.proofs.Common.{◌≡◌, ℕ, true, false, Some, None, List, [], ◌∷◌, ◌++◌, length, refl, sym, ap, subst, ◌∙◌}
use Rattle.std.specs.Prelude.{find, map}
use Rattle.std.specs.List.{flat_map}
use Rattle.std.specs.Option.{option_map}
use Rattle.std.proofs.lemmas.List.{append-nil, map-append}
use Rattle.jet_base.specs.declared.ids.TableId.{TableId}
use Rattle.column_set.specs.declared.columns.Column.{Column}
use Rattle.index_derive.specs.declared.rules.IndexRule.{IndexRule}
use Rattle.page_image.specs.Page.{Node}
use Rattle.btree_inplace.specs.Changes.{inserted, with_data_at, without_key}
use Rattle.btree_inplace.specs.Order.{extent_in, get_in, has_key}
use Rattle.catalog_grammar.specs.CatalogBytes.{catalog_key, item_data, item_key, item_node}
use Rattle.catalog_grammar.specs.Catalogs.{CatalogTable, by_number, catalog_fits, catalog_items, catalog_nodes, column_items, index_items}
use Rattle.catalog_grammar.specs.declared.items.CatalogItem.{CatalogItem}
use Rattle.catalog_grammar.specs.declared.items.CatalogItem.TheVariants as item
use Rattle.catalog_grammar.specs.declared.items.TableItem.{TableItem}
use Rattle.catalog_grammar.proofs.Rising.{Rise, items_rise}
use Rattle.catalog_grammar.specs.CatalogParts.{OtherTables, bare_table, with_columns, with_indexes, with_tables}
use Rattle.catalog_grammar.specs.CatalogSteps.{without_items}
use Rattle.catalog_grammar.proofs.ByNumber.{put_around}
use Rattle.catalog_grammar.proofs.Fitting.{column_less, index_less}
use Rattle.catalog_grammar.proofs.ChangedItems.{splits, there}
use Rattle.catalog_grammar.proofs.Nodes.{absent_before, data_inserted, found_beside}
use Rattle.catalog_grammar.proofs.Numbered.{Around}
use Rattle.catalog_grammar.proofs.Places.{absent_in, added_to, column_parted, greatest_replaced, index_parted, removed_from, table_behind, table_front, table_length, table_parted, table_replaced, tables_parted, there_in}

-- ---- a node that comes, and another that has other data

pub record Added (before : List Node) (x now : CatalogItem) (after : List Node) : Type 0 where
  pub absent : get_in before (item_key x) ≡ None
  pub same_length : extent_in (inserted before (item_node x)) (item_key now) ≡ Some (length (item_data now))
  pub nodes : with_data_at (inserted before (item_node x)) (item_key now) (item_data now) ≡ after

added_beside : (first second third : List Node) (x was now : CatalogItem) → with_data_at first (item_key now) (item_data now) ≡ second → find (has_key (item_key x)) second ≡ None → inserted second (item_node x) ≡ third → has_key (item_key now) (item_node x) ≡ false
    → find (has_key (item_key now)) first ≡ Some (item_node was) → length (item_data was) ≡ length (item_data now) → Added first x now third
added_beside first second third x was now replaced absent added other found long = record {
  absent = ap (option_map (λ (n : Node). n.data)) (absent_before first (item_key x) (item_key now) (item_data now) (ap (find (has_key (item_key x))) replaced ∙ absent));
  same_length = ap (option_map (λ (n : Node). n.extent)) (found_beside first (item_node x) (item_key now) other ∙ found) ∙ ap Some long;
  nodes = data_inserted first (item_node x) (item_key now) (item_data now) other ∙ ap (λ (l : List Node). inserted l (item_node x)) replaced ∙ added;
}

-- the node of a table
pub table_there : (greatest : ℕ) (others : OtherTables) (x : CatalogTable) → catalog_fits greatest (with_tables others (x ∷ [])) ≡ true → find (has_key (item_key (item.Table x.table))) (catalog_nodes greatest (with_tables others (x ∷ []))) ≡ Some (item_node (item.Table x.table))
table_there greatest others x fits =
    let front = table_front greatest others in
    let behind = table_behind others (flat_map column_items (x ∷ [])) (flat_map index_items (x ∷ [])) in
    let whole : catalog_items greatest (with_tables others (x ∷ [])) ≡ front ++ item.Table x.table ∷ behind = tables_parted greatest others (x ∷ []) in
    ap (λ (l : List CatalogItem). find (has_key (item_key (item.Table x.table))) (map item_node l)) whole ∙ there front (item.Table x.table) behind (splits front (item.Table x.table) behind (subst Rise whole (items_rise greatest (with_tables others (x ∷ [])) fits)))

pub column_added : (greatest : ℕ) (others : OtherTables) (x : CatalogTable) (now : TableItem) (left right : List Column) (column : Column) → catalog_fits greatest (with_columns others x (left ++ right)) ≡ true → catalog_fits greatest (with_columns others (record x { table = now }) (left ++ column ∷ right)) ≡ true → now.id ≡ x.table.id → now.name ≡ x.table.name
    → Added (catalog_nodes greatest (with_columns others x (left ++ right))) (item.Column now.id column) (item.Table now) (catalog_nodes greatest (with_columns others (record x { table = now }) (left ++ column ∷ right)))
column_added greatest others x now left right column fits after same named =
    let was : CatalogTable = record x { columns = left ++ right } in
    let is : CatalogTable = record x { table = now } in
    let first = catalog_nodes greatest (with_tables others (was ∷ [])) in
    let p = column_parted greatest others is left right column after in
    added_beside first (catalog_nodes greatest (with_columns others is (left ++ right))) (catalog_nodes greatest (with_columns others is (left ++ column ∷ right))) (item.Column now.id column) (item.Table x.table) (item.Table now)
    (table_replaced greatest others was now fits same named)
    (absent_in _ _ _ p) (added_to _ _ _ p) refl
    (ap (λ (id : TableId). find (has_key (catalog_key 1 id.0 0)) first) same ∙ table_there greatest others was fits)
    (table_length x.table now (sym named))

pub table_added : (greatest now : ℕ) (others : OtherTables) (table : TableItem) → catalog_fits greatest (with_tables others []) ≡ true → catalog_fits now (with_tables others (bare_table table ∷ [])) ≡ true
    → Added (catalog_nodes greatest (with_tables others [])) (item.Table table) (item.Greatest now) (catalog_nodes now (with_tables others (bare_table table ∷ [])))
table_added greatest now others table fits after =
    let p = table_parted now others table after in
    added_beside (catalog_nodes greatest (with_tables others [])) (catalog_nodes now (with_tables others [])) (catalog_nodes now (with_tables others (bare_table table ∷ []))) (item.Table table) (item.Greatest greatest) (item.Greatest now)
    (greatest_replaced greatest now (with_tables others []) fits)
    (absent_in _ _ _ p) (added_to _ _ _ p) refl refl refl

-- ---- the parts of a table that goes, one after the other

abbrev pub rooted_rules : (ℕ → ℕ) → List IndexRule → List (ℕ × IndexRule)
rooted_rules roots rules = map (λ rule. (roots rule.id.0, rule)) rules

-- one more part is out
pub record Out (greatest : ℕ) (x : CatalogItem) (tables fewer : List CatalogTable) : Type 0 where
  pub there : find (has_key (item_key x)) (catalog_nodes greatest tables) ≡ Some (item_node x)
  pub nodes : without_key (catalog_nodes greatest tables) (item_key x) ≡ catalog_nodes greatest fewer
  pub fits : catalog_fits greatest fewer ≡ true

-- the table with these of its indexes, which stand by rising number
abbrev pub with_rules : OtherTables → CatalogTable → (ℕ → ℕ) → List IndexRule → List CatalogTable
with_rules others x roots rules = with_indexes others x (rooted_rules roots (by_number rules))

pub index_out : (greatest : ℕ) (others : OtherTables) (x : CatalogTable) (roots : ℕ → ℕ) (rule : IndexRule) (rules fewer : List IndexRule) → Around rule (by_number rules) (by_number fewer) → catalog_fits greatest (with_rules others x roots rules) ≡ true
    → Out greatest (item.Index x.table.id (roots rule.id.0) rule) (with_rules others x roots rules) (with_rules others x roots fewer)
index_out greatest others x roots rule rules fewer a fits =
    let index = λ (r : IndexRule). let i : ℕ × IndexRule = (roots r.id.0, r) in i in
    let left = rooted_rules roots a.left in
    let right = rooted_rules roots a.right in
    let whole : rooted_rules roots (by_number rules) ≡ left ++ index rule ∷ right = ap (rooted_rules roots) a.whole ∙ map-append index a.left (rule ∷ a.right) in
    let less : rooted_rules roots (by_number fewer) ≡ left ++ right = ap (rooted_rules roots) a.less ∙ map-append index a.left a.right in
    let tables : with_rules others x roots rules ≡ with_indexes others x (left ++ index rule ∷ right) = ap (with_indexes others x) whole in
    let rest : with_rules others x roots fewer ≡ with_indexes others x (left ++ right) = ap (with_indexes others x) less in
    let fits_here : catalog_fits greatest (with_indexes others x (left ++ index rule ∷ right)) ≡ true = ap (catalog_fits greatest) (sym tables) ∙ fits in
    let p = index_parted greatest others x left right (index rule) fits_here in
    let it = item.Index x.table.id (roots rule.id.0) rule in
    record {
      there = ap (λ (l : List CatalogTable). find (has_key (item_key it)) (catalog_nodes greatest l)) tables ∙ there_in _ _ _ p;
      nodes = ap (λ (l : List CatalogTable). without_key (catalog_nodes greatest l) (item_key it)) tables ∙ removed_from _ _ _ p ∙ ap (catalog_nodes greatest) (sym rest);
      fits = ap (catalog_fits greatest) rest ∙ index_less greatest others x left right (index rule) fits_here;
    }

-- one more index
pub record In (greatest : ℕ) (x : CatalogItem) (tables more : List CatalogTable) : Type 0 where
  pub absent : get_in (catalog_nodes greatest tables) (item_key x) ≡ None
  pub nodes : inserted (catalog_nodes greatest tables) (item_node x) ≡ catalog_nodes greatest more

pub index_in : (greatest : ℕ) (others : OtherTables) (x : CatalogTable) (roots : ℕ → ℕ) (rule : IndexRule) (rules fewer : List IndexRule) → Around rule (by_number rules) (by_number fewer) → catalog_fits greatest (with_rules others x roots rules) ≡ true
    → In greatest (item.Index x.table.id (roots rule.id.0) rule) (with_rules others x roots fewer) (with_rules others x roots rules)
index_in greatest others x roots rule rules fewer a fits =
    let index = λ (r : IndexRule). let i : ℕ × IndexRule = (roots r.id.0, r) in i in
    let left = rooted_rules roots a.left in
    let right = rooted_rules roots a.right in
    let tables : with_rules others x roots rules ≡ with_indexes others x (left ++ index rule ∷ right) = ap (with_indexes others x) (ap (rooted_rules roots) a.whole ∙ map-append index a.left (rule ∷ a.right)) in
    let rest : with_rules others x roots fewer ≡ with_indexes others x (left ++ right) = ap (with_indexes others x) (ap (rooted_rules roots) a.less ∙ map-append index a.left a.right) in
    let p = index_parted greatest others x left right (index rule) (ap (catalog_fits greatest) (sym tables) ∙ fits) in
    let it = item.Index x.table.id (roots rule.id.0) rule in
    record {
      absent = ap (λ (l : List CatalogTable). get_in (catalog_nodes greatest l) (item_key it)) rest ∙ ap (option_map (λ (n : Node). n.data)) (absent_in _ _ _ p);
      nodes = ap (λ (l : List CatalogTable). inserted (catalog_nodes greatest l) (item_node it)) rest ∙ added_to _ _ _ p ∙ ap (catalog_nodes greatest) (sym tables);
    }

pub column_out : (greatest : ℕ) (others : OtherTables) (x : CatalogTable) (left right : List Column) (column : Column) → catalog_fits greatest (with_columns others x (left ++ column ∷ right)) ≡ true
    → Out greatest (item.Column x.table.id column) (with_columns others x (left ++ column ∷ right)) (with_columns others x (left ++ right))
column_out greatest others x left right column fits =
    let p = column_parted greatest others x left right column fits in
    record { there = there_in _ _ _ p; nodes = removed_from _ _ _ p; fits = column_less greatest others x left right column fits }

-- all that are out so far
pub record AllOut (greatest : ℕ) (items : List CatalogItem) (tables fewer : List CatalogTable) : Type 0 where
  pub nodes : without_items items (catalog_nodes greatest tables) ≡ catalog_nodes greatest fewer
  pub fits : catalog_fits greatest fewer ≡ true

pub indexes_out : (greatest : ℕ) (others : OtherTables) (x : CatalogTable) (roots : ℕ → ℕ) (done rest : List IndexRule) → catalog_fits greatest (with_rules others x roots (done ++ rest)) ≡ true
    → AllOut greatest (map (λ rule. item.Index x.table.id (roots rule.id.0) rule) done) (with_rules others x roots (done ++ rest)) (with_rules others x roots rest)
indexes_out greatest others x roots [] rest fits = record { nodes = refl; fits = fits }
indexes_out greatest others x roots (rule ∷ done) rest fits =
    let it : IndexRule → CatalogItem = λ rule. item.Index x.table.id (roots rule.id.0) rule in
    let one = index_out greatest others x roots rule (rule ∷ (done ++ rest)) (done ++ rest) (put_around rule (by_number (done ++ rest))) fits in
    let more = indexes_out greatest others x roots done rest one.fits in
    record { nodes = ap (without_items (map it done)) one.nodes ∙ more.nodes; fits = more.fits }

pub columns_out : (greatest : ℕ) (others : OtherTables) (x : CatalogTable) (done rest : List Column) → catalog_fits greatest (with_columns others x (done ++ rest)) ≡ true
    → AllOut greatest (map (λ column. item.Column x.table.id column) done) (with_columns others x (done ++ rest)) (with_columns others x rest)
columns_out greatest others x [] rest fits = record { nodes = refl; fits = fits }
columns_out greatest others x (column ∷ done) rest fits =
    let it : Column → CatalogItem = λ column. item.Column x.table.id column in
    let one = column_out greatest others x [] (done ++ rest) column fits in
    let more = columns_out greatest others x done rest one.fits in
    record { nodes = ap (without_items (map it done)) one.nodes ∙ more.nodes; fits = more.fits }

-- all of them
pub all_indexes_out : (greatest : ℕ) (others : OtherTables) (x : CatalogTable) (roots : ℕ → ℕ) (rules : List IndexRule) → catalog_fits greatest (with_rules others x roots rules) ≡ true
    → AllOut greatest (map (λ rule. item.Index x.table.id (roots rule.id.0) rule) rules) (with_rules others x roots rules) (with_rules others x roots [])
all_indexes_out greatest others x roots rules fits =
    let e : rules ++ [] ≡ rules = append-nil rules in
    subst (λ (l : List IndexRule). AllOut greatest (map (λ rule. item.Index x.table.id (roots rule.id.0) rule) rules) (with_rules others x roots l) (with_rules others x roots [])) e
    (indexes_out greatest others x roots rules [] (ap (λ (l : List IndexRule). catalog_fits greatest (with_rules others x roots l)) e ∙ fits))

pub all_columns_out : (greatest : ℕ) (others : OtherTables) (x : CatalogTable) (columns : List Column) → catalog_fits greatest (with_columns others x columns) ≡ true
    → AllOut greatest (map (λ column. item.Column x.table.id column) columns) (with_columns others x columns) (with_columns others x [])
all_columns_out greatest others x columns fits =
    let e : columns ++ [] ≡ columns = append-nil columns in
    subst (λ (l : List Column). AllOut greatest (map (λ column. item.Column x.table.id column) columns) (with_columns others x l) (with_columns others x [])) e
    (columns_out greatest others x columns [] (ap (λ (l : List Column). catalog_fits greatest (with_columns others x l)) e ∙ fits))
