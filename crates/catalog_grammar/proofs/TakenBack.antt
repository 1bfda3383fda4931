-- The nodes of a catalog once a step is taken back.
use Rattle.std.proofs.Common.{◌≡◌, ℕ, true, Some, List, [], ◌∷◌, ◌++◌, length, refl, sym, ap, subst, ◌∙◌}
use Rattle.std.specs.Prelude.{IsSome}
use Rattle.std.specs.Option.{option_map}
use Rattle.std.proofs.lemmas.List.{append-nil, map-append}
use Rattle.jet_base.specs.declared.ids.TableId.{TableId}
use Rattle.column_set.specs.declared.columns.Column.{Column}
use Rattle.index_derive.specs.declared.schema_calls.SchemaStep.TheVariants as step
use Rattle.column_set.specs.RecordValues.{tagged_if_long}
use Rattle.database_state.specs.SchemaChanges.{new_table, with_column}
use Rattle.database_state.specs.Table.{Table, table_with_id, with_table}
use Rattle.jet_catalog.specs.Catalog.{CatalogState, catalog_after}
use Rattle.page_image.specs.Page.{Node}
use Rattle.btree_inplace.specs.Changes.{with_data_at, without_key}
use Rattle.btree_inplace.specs.Order.{extent_in, get_in}
use Rattle.catalog_grammar.specs.CatalogBytes.{catalog_key, item_data, item_key, item_node}
use Rattle.catalog_grammar.specs.Catalogs.{CatalogTable, catalog_fits, catalog_nodes, table_item}
use Rattle.catalog_grammar.specs.declared.items.CatalogItem.{CatalogItem}
use Rattle.catalog_grammar.specs.declared.items.CatalogItem.TheVariants as item
use Rattle.catalog_grammar.specs.CatalogParts.{OtherTables, bare_table, with_columns, with_tables}
use Rattle.catalog_grammar.specs.CatalogSteps.{HasNodesThrough, Roots, item_of_table, nodes_of_catalog, rooted, rooted_tables}
use Rattle.catalog_grammar.proofs.ByNumber.{columns_around}
use Rattle.catalog_grammar.proofs.Fitting.{table_less}
use Rattle.catalog_grammar.proofs.OneTable.{column_out, table_there}
use Rattle.catalog_grammar.proofs.Places.{greatest_replaced, removed_from, table_length, table_parted, table_replaced, there_in}
use Rattle.catalog_grammar.proofs.StepNodes.{here, some_data}

-- the node under a key goes, and then another has other data
pub record TakenBack (before : List Node) (key : List ℕ) (now : CatalogItem) (after : List Node) : Type 0 where
  pub there : IsSome (get_in before key)
  pub same_length : extent_in (without_key before key) (item_key now) ≡ Some (length (item_data now))
  pub nodes : with_data_at (without_key before key) (item_key now) (item_data now) ≡ after

pub table_taken_back : (roots : Roots) (catalog : CatalogState) (table : TableId) (name : List ℕ) → HasNodesThrough roots catalog (step.CreateTable table name)
    → TakenBack (nodes_of_catalog roots (catalog_after catalog (step.CreateTable table name))) (catalog_key 1 table.0 0) (item.Greatest catalog.greatest_table) (nodes_of_catalog roots catalog)
table_taken_back roots catalog table name through =
    let made = new_table table.0 name in
    let it = table_item made (roots table.0) in
    let greatest = catalog.greatest_table in
    let key = catalog_key 1 table.0 0 in
    let others : OtherTables = record { before = rooted_tables roots catalog.tables; after = [] } in
    let first : rooted_tables roots catalog.tables ≡ with_tables others [] = sym (append-nil (rooted_tables roots catalog.tables)) in
    let last : rooted_tables roots (catalog.tables ++ made ∷ []) ≡ with_tables others (bare_table it ∷ []) = map-append (rooted roots) catalog.tables (made ∷ []) in
    let fits : catalog_fits table.0 (with_tables others (bare_table it ∷ [])) ≡ true = ap (catalog_fits table.0) (sym last) ∙ through.after in
    let p = table_parted table.0 others it fits in
    let nodes = catalog_nodes table.0 (with_tables others (bare_table it ∷ [])) in
    let gone : without_key nodes key ≡ catalog_nodes table.0 (with_tables others []) = removed_from _ _ _ p in
    subst (λ (l : List CatalogTable). TakenBack (catalog_nodes table.0 l) key (item.Greatest greatest) (nodes_of_catalog roots catalog)) (sym last)
    (subst (λ (l : List CatalogTable). TakenBack nodes key (item.Greatest greatest) (catalog_nodes greatest l)) (sym first)
    (record {
      there = some_data nodes key (item_node (item.Table it)) (there_in _ _ _ p);
      same_length = ap (λ (l : List Node). extent_in l (item_key (item.Greatest greatest))) gone;
      nodes = ap (λ (l : List Node). with_data_at l (item_key (item.Greatest greatest)) (item_data (item.Greatest greatest))) gone ∙ greatest_replaced table.0 greatest (with_tables others []) (table_less table.0 others it fits);
    }))

pub column_taken_back : (roots : Roots) (catalog : CatalogState) (table : TableId) (column : Column) (t : Table) → table_with_id catalog.tables table.0 ≡ Some t → HasNodesThrough roots catalog (step.AddColumn table column)
    → TakenBack (nodes_of_catalog roots (catalog_after catalog (step.AddColumn table column))) (catalog_key 2 table.0 column.id.0) (item_of_table roots t) (nodes_of_catalog roots catalog)
column_taken_back roots catalog table column t found through =
    let h = here roots catalog table.0 t found through.before in
    let kept = tagged_if_long column in
    let c = columns_around kept t.columns in
    let greatest = catalog.greatest_table in
    let x = rooted roots t in
    let now = table_item (with_column kept t) (roots t.id) in
    let is : CatalogTable = record x { table = now } in
    let was : CatalogTable = record is { columns = c.left ++ c.right } in
    let first : rooted_tables roots catalog.tables ≡ with_columns h.others x (c.left ++ c.right) = h.before ∙ ap (with_columns h.others x) c.less in
    let last : rooted_tables roots (with_table table.0 (with_column kept) catalog.tables) ≡ with_columns h.others is (c.left ++ kept ∷ c.right) = h.changed (with_column kept) ∙ ap (with_columns h.others is) c.whole in
    let out = column_out greatest h.others is c.left c.right kept (ap (catalog_fits greatest) (sym last) ∙ through.after) in
    let nodes = catalog_nodes greatest (with_columns h.others is (c.left ++ kept ∷ c.right)) in
    let key = catalog_key 2 t.id column.id.0 in
    let it = item.Table x.table in
    subst (λ n. TakenBack (nodes_of_catalog roots (catalog_after catalog (step.AddColumn table column))) (catalog_key 2 n column.id.0) it (nodes_of_catalog roots catalog)) h.is
    (subst (λ (l : List CatalogTable). TakenBack (catalog_nodes greatest l) key it (nodes_of_catalog roots catalog)) (sym last)
    (subst (λ (l : List CatalogTable). TakenBack nodes key it (catalog_nodes greatest l)) (sym first)
    (record {
      there = some_data nodes key (item_node (item.Column now.id kept)) out.there;
      same_length = ap (λ (l : List Node). extent_in l (item_key it)) out.nodes ∙ ap (option_map (λ (n : Node). n.extent)) (table_there greatest h.others was out.fits) ∙ ap Some (table_length now x.table refl);
      nodes = ap (λ (l : List Node). with_data_at l (item_key it) (item_data it)) out.nodes ∙ table_replaced greatest h.others was x.table out.fits refl refl;
    })))
