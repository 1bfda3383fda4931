-- A catalog's tree after the changes of a schema step.
use Rattle.std.proofs.Common.{◌≡◌, ℕ, ◌^◌, true, ◌&&◌, ltb, Some, None, List, [], ◌∷◌, ◌++◌, length, sym, ap, subst, ◌∙◌}
use Rattle.std.specs.Prelude.{IsSome}
use Rattle.std.specs.List.{flat_map, list_all}
use Rattle.std.proofs.lemmas.Bool.{and_parts}
use Rattle.jet_base.specs.Ids.{table_id}
use Rattle.jet_base.specs.declared.ids.TableId.{TableId}
use Rattle.column_set.specs.declared.columns.Column.{Column}
use Rattle.index_derive.specs.declared.rules.IndexRule.{IndexRule}
use Rattle.index_derive.specs.declared.schema_calls.SchemaStep.{SchemaStep}
use Rattle.index_derive.specs.declared.schema_calls.SchemaStep.TheVariants as step
use Rattle.database_state.specs.SchemaChanges.{new_table, with_column}
use Rattle.database_state.specs.Table.{GreatestColumns, Table, table_with_id}
use Rattle.jet_catalog.specs.Catalog.{CatalogState, catalog_after}
use Rattle.page_image.specs.Page.{Node}
use Rattle.page_space.specs.Frames.{Frames}
use Rattle.btree_inplace.specs.Changes.{inserted, with_data_at, without_key}
use Rattle.btree_inplace.specs.Order.{extent_in, get_in}
use Rattle.log_grammar.specs.EntryBytes.{name_fits}
use Rattle.catalog_grammar.specs.CatalogBytes.{catalog_node, greatest_fits, item_data, item_fits, item_key, item_node}
use Rattle.catalog_grammar.specs.Catalogs.{column_items, index_items}
use Rattle.catalog_grammar.specs.declared.items.CatalogItem.{CatalogItem}
use Rattle.catalog_grammar.specs.declared.items.CatalogItem.TheVariants as item
use Rattle.catalog_record.specs.Buffers.{NodeText, text_of}
use Rattle.catalog_grammar.specs.CatalogParts.{with_tables}
use Rattle.catalog_grammar.specs.CatalogSteps.{HasNodesThrough, Roots, has_nodes, item_of_column, item_of_index, item_of_table, nodes_of_catalog, rooted}
use Rattle.catalog_grammar.proofs.Fitting.{all_at, fits_has}
use Rattle.catalog_grammar.proofs.OneTable.{Added}
use Rattle.catalog_grammar.proofs.Places.{table_behind, table_front, tables_parted}
use Rattle.catalog_grammar.proofs.StepFits.{column_fits_in, index_fits_in, table_fits_in}
use Rattle.catalog_grammar.proofs.StepNodes.{here}
use Rattle.catalog_grammar.proofs.TakenBack.{TakenBack}
use Rattle.catalog_record.specs.CatalogTrees.{CatalogBecomes, nodes_in, own_pages}
use Rattle.catalog_record.specs.CatalogsKept.{HoldsCatalog, HoldsStep, TakesColumn, TakesIndex, TakesTable}
use Rattle.catalog_record.specs.declared.tree.CatalogTree.{CatalogTree}
use Rattle.btree_inplace.specs.ExchangeLaws.{exchanges_then}

pub becomes_as : (old : Frames) (was : CatalogTree) (new : Frames) (is : CatalogTree) (list list' : List Node) → list ≡ list' → CatalogBecomes old was new is list → CatalogBecomes old was new is list'
becomes_as old was new is list list' e b = record { tree = b.tree; nodes = b.nodes ∙ e; pages = b.pages; root = b.root }

pub becomes_then : (a b c : Frames) (first second third : CatalogTree) (list list' : List Node) → CatalogBecomes a first b second list → CatalogBecomes b second c third list' → CatalogBecomes a first c third list'
becomes_then a b c first second third list list' s t =
    record { tree = t.tree; nodes = t.nodes; pages = exchanges_then a b c (own_pages a first) (own_pages b second) (own_pages c third) s.pages t.pages; root = t.root ∙ s.root }

-- the tree has the nodes of this catalog now
pub record Follows (old : Frames) (was : CatalogTree) (new : Frames) (is : CatalogTree) (roots : Roots) (after : CatalogState) : Type 0 where
  pub becomes : CatalogBecomes old was new is (nodes_of_catalog roots after)
  pub holds : HoldsCatalog new is roots after

pub follows : (old : Frames) (was : CatalogTree) (new : Frames) (is : CatalogTree) (roots : Roots) (after : CatalogState) (list : List Node) → list ≡ nodes_of_catalog roots after → CatalogBecomes old was new is list → has_nodes roots after ≡ true → Follows old was new is roots after
follows old was new is roots after list e b fits =
    let now = becomes_as old was new is list (nodes_of_catalog roots after) e b in
    record { becomes = now; holds = record { tree = now.tree; nodes = now.nodes; writable = fits } }

-- ---- a node that goes

pub there_now : (old : Frames) (was : CatalogTree) (roots : Roots) (catalog : CatalogState) (key at : List ℕ) → HoldsCatalog old was roots catalog → at ≡ key → IsSome (get_in (nodes_of_catalog roots catalog) key) → IsSome (get_in (nodes_in old was) at)
there_now old was roots catalog key at holds same there =
    subst (λ (k : List ℕ). IsSome (get_in (nodes_in old was) k)) (sym same) (subst (λ (l : List Node). IsSome (get_in l key)) (sym holds.nodes) there)

pub gone_now : (old : Frames) (was : CatalogTree) (new : Frames) (is : CatalogTree) (roots : Roots) (catalog after : CatalogState) (key at : List ℕ) → HoldsCatalog old was roots catalog → at ≡ key → without_key (nodes_of_catalog roots catalog) key ≡ nodes_of_catalog roots after → has_nodes roots after ≡ true → CatalogBecomes old was new is (without_key (nodes_in old was) at) → Follows old was new is roots after
gone_now old was new is roots catalog after key at holds same nodes fits b =
    follows old was new is roots after (without_key (nodes_in old was) at) (ap (without_key (nodes_in old was)) same ∙ ap (λ (l : List Node). without_key l key) holds.nodes ∙ nodes) b fits

-- ---- a node that comes

pub absent_now : (old : Frames) (was : CatalogTree) (roots : Roots) (catalog : CatalogState) (x : CatalogItem) (node : NodeText) → HoldsCatalog old was roots catalog → node ≡ text_of x → get_in (nodes_of_catalog roots catalog) (item_key x) ≡ None → get_in (nodes_in old was) node.key ≡ None
absent_now old was roots catalog x node holds same absent =
    ap (λ (n : NodeText). get_in (nodes_in old was) n.key) same ∙ ap (λ (l : List Node). get_in l (item_key x)) holds.nodes ∙ absent

added_nodes : (old : Frames) (was : CatalogTree) (roots : Roots) (catalog : CatalogState) (x : CatalogItem) (node : NodeText) → HoldsCatalog old was roots catalog → node ≡ text_of x → inserted (nodes_in old was) (catalog_node node.key node.bytes) ≡ inserted (nodes_of_catalog roots catalog) (item_node x)
added_nodes old was roots catalog x node holds same =
    ap (λ (n : NodeText). inserted (nodes_in old was) (catalog_node n.key n.bytes)) same ∙ ap (λ (l : List Node). inserted l (item_node x)) holds.nodes

pub added_now : (old : Frames) (was : CatalogTree) (new : Frames) (is : CatalogTree) (roots : Roots) (catalog after : CatalogState) (x : CatalogItem) (node : NodeText) → HoldsCatalog old was roots catalog → node ≡ text_of x → inserted (nodes_of_catalog roots catalog) (item_node x) ≡ nodes_of_catalog roots after → has_nodes roots after ≡ true → CatalogBecomes old was new is (inserted (nodes_in old was) (catalog_node node.key node.bytes)) → Follows old was new is roots after
added_now old was new is roots catalog after x node holds same nodes fits b =
    follows old was new is roots after (inserted (nodes_in old was) (catalog_node node.key node.bytes)) (added_nodes old was roots catalog x node holds same ∙ nodes) b fits

-- ---- a node that comes, and another that has other data

pub same_length_now : (old : Frames) (was : CatalogTree) (between : Frames) (made : CatalogTree) (roots : Roots) (catalog : CatalogState) (after : List Node) (x now : CatalogItem) (node other : NodeText) → HoldsCatalog old was roots catalog → node ≡ text_of x → other ≡ text_of now → Added (nodes_of_catalog roots catalog) x now after → CatalogBecomes old was between made (inserted (nodes_in old was) (catalog_node node.key node.bytes)) → extent_in (nodes_in between made) other.key ≡ Some (length other.bytes)
same_length_now old was between made roots catalog after x now node other holds same last a b =
    ap (λ (n : NodeText). extent_in (nodes_in between made) n.key) last ∙ ap (λ (l : List Node). extent_in l (item_key now)) (b.nodes ∙ added_nodes old was roots catalog x node holds same) ∙ a.same_length ∙ ap (λ (n : NodeText). Some (length n.bytes)) (sym last)

pub both_now : (old : Frames) (was : CatalogTree) (between : Frames) (made : CatalogTree) (new : Frames) (is : CatalogTree) (roots : Roots) (catalog after : CatalogState) (x now : CatalogItem) (node other : NodeText) → HoldsCatalog old was roots catalog → node ≡ text_of x → other ≡ text_of now → Added (nodes_of_catalog roots catalog) x now (nodes_of_catalog roots after) → has_nodes roots after ≡ true → CatalogBecomes old was between made (inserted (nodes_in old was) (catalog_node node.key node.bytes)) → CatalogBecomes between made new is (with_data_at (nodes_in between made) other.key other.bytes) → Follows old was new is roots after
both_now old was between made new is roots catalog after x now node other holds same last a fits b c =
    follows old was new is roots after (with_data_at (nodes_in between made) other.key other.bytes)
    (ap (λ (n : NodeText). with_data_at (nodes_in between made) n.key n.bytes) last ∙ ap (λ (l : List Node). with_data_at l (item_key now) (item_data now)) (b.nodes ∙ added_nodes old was roots catalog x node holds same) ∙ a.nodes)
    (becomes_then old between new was made is (inserted (nodes_in old was) (catalog_node node.key node.bytes)) (with_data_at (nodes_in between made) other.key other.bytes) b c) fits

-- ---- an index with its root

pub index_is : (roots : Roots) (t : Table) (table : TableId) (root : ℕ) (rule : IndexRule) → t.id ≡ table.0 → (roots table.0).indexes rule.id.0 ≡ root → item.Index table root rule ≡ item_of_index roots t rule
index_is roots t table root rule same is = sym (ap (λ n. item.Index (table_id n) ((roots n).indexes rule.id.0) rule) same ∙ ap (λ n. item.Index table n rule) is)

-- ---- the items that are written

pub column_is : (t : Table) (id : TableId) (column : Column) → id.0 ≡ t.id → item.Column id column ≡ item_of_column t column
column_is t id column e = ap (λ n. item.Column (table_id n) column) e

pub new_table_is : (roots : Roots) (table : TableId) (name : List ℕ) (greatest : GreatestColumns) (records long_values : ℕ) → greatest ≡ record { fixed = 0; variable = 127; tagged = 255 } → (roots table.0).records ≡ records → (roots table.0).long_values ≡ long_values
    → item.Table (record { id = table; name = name; greatest = greatest; records = records; long_values = long_values }) ≡ item_of_table roots (new_table table.0 name)
new_table_is roots table name greatest records long_values g r l = λ i. item.Table (record { id = table; name = name; greatest = g i; records = sym r i; long_values = sym l i })

pub table_is : (roots : Roots) (t : Table) (column : Column) (id : TableId) (name : List ℕ) (greatest : GreatestColumns) (records long_values : ℕ) → id.0 ≡ t.id → name ≡ t.name → (with_column column t).greatest ≡ greatest → (roots t.id).records ≡ records → (roots t.id).long_values ≡ long_values
    → item.Table (record { id = id; name = name; greatest = greatest; records = records; long_values = long_values }) ≡ item_of_table roots (with_column column t)
table_is roots t column id name greatest records long_values e n g r l = λ i. item.Table (record { id = table_id (e i); name = n i; greatest = sym g i; records = sym r i; long_values = sym l i })

-- the name of a table of a catalog can be written
pub name_is_written : (roots : Roots) (catalog : CatalogState) (id : ℕ) (t : Table) → table_with_id catalog.tables id ≡ Some t → has_nodes roots catalog ≡ true → name_fits t.name ≡ true
name_is_written roots catalog id t found fits =
    let h = here roots catalog id t found fits in
    let greatest = catalog.greatest_table in
    let x = rooted roots t in
    let front = table_front greatest h.others in
    let behind = table_behind h.others (flat_map column_items (x ∷ [])) (flat_map index_items (x ∷ [])) in
    let all : list_all item_fits (front ++ item.Table x.table ∷ behind) ≡ true = ap (list_all item_fits) (sym (tables_parted greatest h.others (x ∷ []))) ∙ (fits_has greatest (with_tables h.others (x ∷ [])) h.fits).items in
    let own = all_at item_fits front (item.Table x.table) behind all in
    let a = and_parts (ltb t.id (2 ^ 32)) (ltb x.table.records (2 ^ 32) && (ltb x.table.long_values (2 ^ 32) && (greatest_fits t.greatest && name_fits t.name))) own in
    let b = and_parts (ltb x.table.records (2 ^ 32)) (ltb x.table.long_values (2 ^ 32) && (greatest_fits t.greatest && name_fits t.name)) a.1 in
    let d = and_parts (ltb x.table.long_values (2 ^ 32)) (greatest_fits t.greatest && name_fits t.name) b.1 in
    (and_parts (greatest_fits t.greatest) (name_fits t.name) d.1).1

-- ---- the catalog has nodes through a step

pub table_through : (roots : Roots) (catalog : CatalogState) (table : TableId) (name : List ℕ) (records long_values : ℕ) → has_nodes roots catalog ≡ true → TakesTable roots catalog table name records long_values → HasNodesThrough roots catalog (step.CreateTable table name)
table_through roots catalog table name records long_values fits x = record { before = fits; after = table_fits_in roots catalog table name fits x.numbered x.new x.fits }

pub column_through : (roots : Roots) (catalog : CatalogState) (t : Table) (column : Column) (greatest : GreatestColumns) (records long_values : ℕ) → has_nodes roots catalog ≡ true → TakesColumn roots catalog t column greatest records long_values → HasNodesThrough roots catalog (step.AddColumn (table_id t.id) column)
column_through roots catalog t column greatest records long_values fits x = record { before = fits; after = column_fits_in roots catalog (table_id t.id) column t x.there fits x.fits x.new x.number }

pub index_through : (roots : Roots) (catalog : CatalogState) (table : TableId) (root : ℕ) (rule : IndexRule) → has_nodes roots catalog ≡ true → TakesIndex roots catalog table root rule → HasNodesThrough roots catalog (step.CreateIndex table rule)
index_through roots catalog table root rule fits x = record { before = fits; after = index_fits_in roots catalog table rule x.t x.there fits x.fits x.new x.number }

-- ---- a step that is taken back

pub back_there : (old : Frames) (was : CatalogTree) (roots : Roots) (catalog : CatalogState) (made : SchemaStep) (key at : List ℕ) (now : CatalogItem) → HoldsStep old was roots catalog made → at ≡ key → TakenBack (nodes_of_catalog roots (catalog_after catalog made)) key now (nodes_of_catalog roots catalog) → IsSome (get_in (nodes_in old was) at)
back_there old was roots catalog made key at now holds same back =
    there_now old was roots (catalog_after catalog made) key at (record { tree = holds.tree; nodes = holds.nodes; writable = holds.through.after }) same back.there

back_nodes : (old : Frames) (was : CatalogTree) (mid : Frames) (between : CatalogTree) (nodes : List Node) (key at : List ℕ) → nodes_in old was ≡ nodes → at ≡ key → CatalogBecomes old was mid between (without_key (nodes_in old was) at) → nodes_in mid between ≡ without_key nodes key
back_nodes old was mid between nodes key at has same gone = gone.nodes ∙ ap (without_key (nodes_in old was)) same ∙ ap (λ (l : List Node). without_key l key) has

pub back_length : (old : Frames) (was : CatalogTree) (mid : Frames) (between : CatalogTree) (roots : Roots) (catalog : CatalogState) (made : SchemaStep) (key at : List ℕ) (now : CatalogItem) (node : NodeText) → HoldsStep old was roots catalog made → at ≡ key → node ≡ text_of now
    → TakenBack (nodes_of_catalog roots (catalog_after catalog made)) key now (nodes_of_catalog roots catalog) → CatalogBecomes old was mid between (without_key (nodes_in old was) at) → extent_in (nodes_in mid between) node.key ≡ Some (length node.bytes)
back_length old was mid between roots catalog made key at now node holds same is back gone =
    ap (λ (n : NodeText). extent_in (nodes_in mid between) n.key) is
    ∙ ap (λ (l : List Node). extent_in l (item_key now)) (back_nodes old was mid between (nodes_of_catalog roots (catalog_after catalog made)) key at holds.nodes same gone)
    ∙ back.same_length ∙ ap (λ (n : NodeText). Some (length n.bytes)) (sym is)

pub back_now : (old : Frames) (was : CatalogTree) (mid : Frames) (between : CatalogTree) (new : Frames) (is : CatalogTree) (roots : Roots) (catalog : CatalogState) (made : SchemaStep) (key at : List ℕ) (now : CatalogItem) (node : NodeText) → HoldsStep old was roots catalog made → at ≡ key → node ≡ text_of now
    → TakenBack (nodes_of_catalog roots (catalog_after catalog made)) key now (nodes_of_catalog roots catalog) → CatalogBecomes old was mid between (without_key (nodes_in old was) at) → CatalogBecomes mid between new is (with_data_at (nodes_in mid between) node.key node.bytes) → Follows old was new is roots catalog
back_now old was mid between new is roots catalog made key at now node holds same written back gone put =
    follows old was new is roots catalog (with_data_at (nodes_in mid between) node.key node.bytes)
    (ap (λ (n : NodeText). with_data_at (nodes_in mid between) n.key n.bytes) written
    ∙ ap (λ (l : List Node). with_data_at l (item_key now) (item_data now)) (back_nodes old was mid between (nodes_of_catalog roots (catalog_after catalog made)) key at holds.nodes same gone)
    ∙ back.nodes)
    (becomes_then old mid new was between is (without_key (nodes_in old was) at) (with_data_at (nodes_in mid between) node.key node.bytes) gone put) holds.through.before

pub same_table_is : (roots : Roots) (t : Table) (id : TableId) (name : List ℕ) (greatest : GreatestColumns) (records long_values : ℕ) → id.0 ≡ t.id → name ≡ t.name → greatest ≡ t.greatest → (roots t.id).records ≡ records → (roots t.id).long_values ≡ long_values
    → item.Table (record { id = id; name = name; greatest = greatest; records = records; long_values = long_values }) ≡ item_of_table roots t
same_table_is roots t id name greatest records long_values e n g r l = λ i. item.Table (record { id = table_id (e i); name = n i; greatest = g i; records = sym r i; long_values = sym l i })
