-- The nodes of a catalog after each schema step.
use Rattle.std.proofs.Common.{◌≡◌, ℕ, Bool, true, false, cond, ltb, Option, Some, List, [], ◌∷◌, ◌++◌, refl, sym, ap, subst, ◌∙◌, arith}
use Rattle.std.specs.Prelude.{◌==◌, All, IsSome, filter, find, map, not}
use Rattle.std.specs.Option.{option_map}
use Rattle.std.proofs.lemmas.Bool.{and_parts}
use Rattle.std.proofs.lemmas.List.{append-nil, map-append}
use Rattle.std.proofs.lemmas.List.Elements.{All-tail}
use Rattle.jet_base.specs.declared.ids.ColumnId.{ColumnId}
use Rattle.jet_base.specs.declared.ids.IndexId.{IndexId}
use Rattle.jet_base.specs.declared.ids.TableId.{TableId}
use Rattle.column_set.specs.declared.columns.Column.{Column}
use Rattle.index_derive.specs.declared.rules.IndexRule.{IndexRule}
use Rattle.index_derive.specs.declared.schema_calls.SchemaStep.TheVariants as step
use Rattle.column_set.specs.RecordValues.{tagged_if_long}
use Rattle.database_state.specs.SchemaChanges.{has_column, new_table, with_column, with_index, without_column, without_index}
use Rattle.database_state.specs.Table.{Table, table_with_id, with_table}
use Rattle.jet_catalog.specs.Catalog.{CatalogState, catalog_after}
use Rattle.page_image.specs.Page.{Node}
use Rattle.btree_inplace.specs.Changes.{without_key}
use Rattle.btree_inplace.specs.Order.{get_in, has_key}
use Rattle.catalog_grammar.specs.CatalogBytes.{catalog_key, item_key, item_node}
use Rattle.catalog_grammar.specs.Catalogs.{CatalogTable, by_number, catalog_fits, catalog_nodes, rise_above, table_item, with_number}
use Rattle.catalog_grammar.specs.declared.items.CatalogItem.{CatalogItem}
use Rattle.catalog_grammar.specs.declared.items.CatalogItem.TheVariants as item
use Rattle.catalog_grammar.specs.CatalogParts.{OtherTables, with_columns, with_tables}
use Rattle.catalog_grammar.specs.CatalogSteps.{HasNodesThrough, HasSameRoots, Roots, has_index, has_nodes, item_of_column, item_of_index, item_of_table, items_of_columns, items_of_indexes, nodes_of_catalog, rooted, rooted_tables, without_indexes, without_items, without_parts}
use Rattle.catalog_grammar.proofs.ByNumber.{columns_around, made, number_of, numbers_around, put_around, rules_rise}
use Rattle.catalog_grammar.proofs.Fitting.{columns_number, fits_has, indexes_number, parts_at, table_less, table_number}
use Rattle.catalog_grammar.proofs.Numbered.{Around, any_found, around_as, sole}
use Rattle.catalog_grammar.proofs.OneTable.{Added, In, Out, all_columns_out, all_indexes_out, column_added, column_out, columns_out, index_in, index_out, indexes_out, rooted_rules, table_added, with_rules}
use Rattle.catalog_grammar.proofs.Places.{removed_from, table_parted, there_in}

-- ---- one table of a catalog

-- the table of a number, among the others
pub record Here (roots : Roots) (catalog : CatalogState) (id : ℕ) (t : Table) : Type 0 where
  pub others : OtherTables
  pub is : t.id ≡ id
  pub before : rooted_tables roots catalog.tables ≡ with_tables others (rooted roots t ∷ [])
  pub changed : (f : Table → Table) → rooted_tables roots (with_table id f catalog.tables) ≡ with_tables others (rooted roots (f t) ∷ [])
  pub gone : rooted_tables roots (filter (λ x. not (x.id == id)) catalog.tables) ≡ with_tables others []
  pub fits : catalog_fits catalog.greatest_table (with_tables others (rooted roots t ∷ [])) ≡ true

pub table_numbers : (roots : Roots) (tables : List Table) → map table_number (rooted_tables roots tables) ≡ map (λ t. t.id) tables
table_numbers roots [] = refl
table_numbers roots (t ∷ tables) = ap (λ (l : List ℕ). t.id ∷ l) (table_numbers roots tables)

pub here : (roots : Roots) (catalog : CatalogState) (id : ℕ) (t : Table) → table_with_id catalog.tables id ≡ Some t → has_nodes roots catalog ≡ true → Here roots catalog id t
here roots catalog id t found fits =
    let f = fits_has catalog.greatest_table (rooted_tables roots catalog.tables) fits in
    let s = sole (λ (x : Table). x.id) id 0 catalog.tables t (ap (rise_above 0) (sym (table_numbers roots catalog.tables)) ∙ f.rise) found in
    let others : OtherTables = record { before = rooted_tables roots s.left; after = rooted_tables roots s.right } in
    let before : rooted_tables roots catalog.tables ≡ with_tables others (rooted roots t ∷ []) = ap (rooted_tables roots) s.whole ∙ map-append (rooted roots) s.left (t ∷ s.right) in
    record {
      others = others;
      is = s.is;
      before = before;
      changed = λ f. ap (rooted_tables roots) (s.changed f) ∙ map-append (rooted roots) s.left (f t ∷ s.right);
      gone = ap (rooted_tables roots) s.gone ∙ map-append (rooted roots) s.left s.right;
      fits = ap (catalog_fits catalog.greatest_table) (sym before) ∙ fits;
    }

abbrev pub roots_in : Roots → Table → ℕ → ℕ
roots_in roots t = (roots t.id).indexes

pub rule_numbers : (to : ℕ → ℕ) (rules : List IndexRule) → map indexes_number (rooted_rules to rules) ≡ map number_of rules
rule_numbers to [] = refl
rule_numbers to (rule ∷ rules) = ap (λ (l : List ℕ). rule.id.0 ∷ l) (rule_numbers to rules)

-- the columns of a table rise, and its indexes by their numbers
pub both_rise : (greatest : ℕ) (others : OtherTables) (roots : Roots) (t : Table) → catalog_fits greatest (with_tables others (rooted roots t ∷ [])) ≡ true → (rise_above 0 (map columns_number t.columns) ≡ true) × (rules_rise 0 (by_number t.indexes) ≡ true)
both_rise greatest others roots t fits =
    let rules = rooted_rules (roots_in roots t) (by_number t.indexes) in
    let a = and_parts (rise_above 0 (map columns_number t.columns)) (rise_above 0 (map indexes_number rules)) (parts_at greatest others (rooted roots t) fits) in
    (a.0, ap (rise_above 0) (sym (rule_numbers (roots_in roots t) (by_number t.indexes))) ∙ a.1)

pub some_data : (nodes : List Node) (key : List ℕ) (n : Node) → find (has_key key) nodes ≡ Some n → IsSome (get_in nodes key)
some_data nodes key n found = subst (λ (o : Option Node). IsSome (option_map (λ (m : Node). m.data) o)) (sym found) refl

-- ---- a new table

pub table_made : (roots : Roots) (catalog : CatalogState) (table : TableId) (name : List ℕ) → HasNodesThrough roots catalog (step.CreateTable table name)
    → Added (nodes_of_catalog roots catalog) (item_of_table roots (new_table table.0 name)) (item.Greatest table.0) (nodes_of_catalog roots (catalog_after catalog (step.CreateTable table name)))
table_made roots catalog table name through =
    let made = new_table table.0 name in
    let others : OtherTables = record { before = rooted_tables roots catalog.tables; after = [] } in
    let first : rooted_tables roots catalog.tables ≡ with_tables others [] = sym (append-nil (rooted_tables roots catalog.tables)) in
    let last : rooted_tables roots (catalog.tables ++ made ∷ []) ≡ with_tables others (rooted roots made ∷ []) = map-append (rooted roots) catalog.tables (made ∷ []) in
    let a = table_added catalog.greatest_table table.0 others (table_item made (roots table.0)) (ap (catalog_fits catalog.greatest_table) (sym first) ∙ through.before) (ap (catalog_fits table.0) (sym last) ∙ through.after) in
    subst (λ (l : List CatalogTable). Added (catalog_nodes catalog.greatest_table l) (item_of_table roots made) (item.Greatest table.0) (nodes_of_catalog roots (catalog_after catalog (step.CreateTable table name)))) (sym first)
    (subst (λ (l : List CatalogTable). Added (catalog_nodes catalog.greatest_table (with_tables others [])) (item_of_table roots made) (item.Greatest table.0) (catalog_nodes table.0 l)) (sym last) a)

-- ---- columns

pub column_made : (roots : Roots) (catalog : CatalogState) (table : TableId) (column : Column) (t : Table) → table_with_id catalog.tables table.0 ≡ Some t → HasNodesThrough roots catalog (step.AddColumn table column)
    → Added (nodes_of_catalog roots catalog) (item_of_column t (tagged_if_long column)) (item_of_table roots (with_column column t)) (nodes_of_catalog roots (catalog_after catalog (step.AddColumn table column)))
column_made roots catalog table column t found through =
    let h = here roots catalog table.0 t found through.before in
    let kept = tagged_if_long column in
    let c = columns_around kept t.columns in
    let greatest = catalog.greatest_table in
    let x = rooted roots t in
    let now = table_item (with_column kept t) (roots t.id) in
    let is : CatalogTable = record x { table = now } in
    let first : rooted_tables roots catalog.tables ≡ with_columns h.others x (c.left ++ c.right) = h.before ∙ ap (with_columns h.others x) c.less in
    let last : rooted_tables roots (with_table table.0 (with_column kept) catalog.tables) ≡ with_columns h.others is (c.left ++ kept ∷ c.right) = h.changed (with_column kept) ∙ ap (with_columns h.others is) c.whole in
    let a = column_added greatest h.others x now c.left c.right kept (ap (catalog_fits greatest) (sym first) ∙ through.before) (ap (catalog_fits greatest) (sym last) ∙ through.after) refl refl in
    subst (λ (l : List CatalogTable). Added (catalog_nodes greatest l) (item_of_column t kept) (item.Table now) (nodes_of_catalog roots (catalog_after catalog (step.AddColumn table column)))) (sym first)
    (subst (λ (l : List CatalogTable). Added (catalog_nodes greatest (with_columns h.others x (c.left ++ c.right))) (item_of_column t kept) (item.Table now) (catalog_nodes greatest l)) (sym last) a)

-- a node that goes, under a key
pub record Removed (before : List Node) (key : List ℕ) (after : List Node) : Type 0 where
  pub there : IsSome (get_in before key)
  pub nodes : without_key before key ≡ after

-- the same of a catalog's tables, whose nodes can be written once it is gone
pub record Gone (greatest : ℕ) (tables : List CatalogTable) (key : List ℕ) (fewer : List CatalogTable) : Type 0 where
  pub there : IsSome (get_in (catalog_nodes greatest tables) key)
  pub nodes : without_key (catalog_nodes greatest tables) key ≡ catalog_nodes greatest fewer
  pub fits : catalog_fits greatest fewer ≡ true

gone_as : (greatest : ℕ) (tables fewer tables' fewer' : List CatalogTable) (x : CatalogItem) (key : List ℕ) → tables ≡ tables' → fewer ≡ fewer' → item_key x ≡ key → Out greatest x tables' fewer' → Gone greatest tables key fewer
gone_as greatest tables fewer tables' fewer' x key first last same out =
    let nodes = catalog_nodes greatest tables' in
    subst (λ (k : List ℕ). Gone greatest tables k fewer) same
    (subst (λ (l : List CatalogTable). Gone greatest l (item_key x) fewer) (sym first)
    (subst (λ (l : List CatalogTable). Gone greatest tables' (item_key x) l) (sym last) (record { there = some_data nodes (item_key x) (item_node x) out.there; nodes = out.nodes; fits = out.fits })))

pub column_deleted : (roots : Roots) (catalog : CatalogState) (table : TableId) (column : ColumnId) (t : Table) → table_with_id catalog.tables table.0 ≡ Some t → has_column t column.0 ≡ true → has_nodes roots catalog ≡ true
    → Gone catalog.greatest_table (rooted_tables roots catalog.tables) (catalog_key 2 table.0 column.0) (rooted_tables roots (with_table table.0 (without_column column.0) catalog.tables))
column_deleted roots catalog table column t found has fits =
    let h = here roots catalog table.0 t found fits in
    let c = any_found (λ (x : Column). x.id.0 == column.0) t.columns has in
    let s = sole columns_number column.0 0 t.columns c.0 (both_rise catalog.greatest_table h.others roots t h.fits).0 c.1 in
    let x = rooted roots t in
    let first : rooted_tables roots catalog.tables ≡ with_columns h.others x (s.left ++ c.0 ∷ s.right) = h.before ∙ ap (with_columns h.others x) s.whole in
    let last : rooted_tables roots (with_table table.0 (without_column column.0) catalog.tables) ≡ with_columns h.others x (s.left ++ s.right) = h.changed (without_column column.0) ∙ ap (with_columns h.others x) s.gone in
    gone_as catalog.greatest_table (rooted_tables roots catalog.tables) (rooted_tables roots (with_table table.0 (without_column column.0) catalog.tables)) (with_columns h.others x (s.left ++ c.0 ∷ s.right)) (with_columns h.others x (s.left ++ s.right)) (item_of_column t c.0) (catalog_key 2 table.0 column.0) first last
    (ap (λ n. catalog_key 2 n c.0.id.0) h.is ∙ ap (λ n. catalog_key 2 table.0 n) s.is)
    (column_out catalog.greatest_table h.others x s.left s.right c.0 (ap (catalog_fits catalog.greatest_table) (sym first) ∙ fits))

-- ---- indexes

pub index_made : (roots : Roots) (catalog : CatalogState) (table : TableId) (rule : IndexRule) (t : Table) → table_with_id catalog.tables table.0 ≡ Some t → HasNodesThrough roots catalog (step.CreateIndex table rule)
    → In catalog.greatest_table (item_of_index roots t rule) (rooted_tables roots catalog.tables) (rooted_tables roots (with_table table.0 (with_index rule) catalog.tables))
index_made roots catalog table rule t found through =
    let h = here roots catalog table.0 t found through.before in
    let greatest = catalog.greatest_table in
    let to = roots_in roots t in
    let x = rooted roots t in
    let last = h.changed (with_index rule) in
    let fits : catalog_fits greatest (with_tables h.others (rooted roots (with_index rule t) ∷ [])) ≡ true = ap (catalog_fits greatest) (sym last) ∙ through.after in
    let a = numbers_around t.indexes rule [] 0 (both_rise greatest h.others roots (with_index rule t) fits).1 in
    let around : Around rule (by_number (t.indexes ++ rule ∷ [])) (by_number t.indexes) = around_as (by_number (t.indexes ++ rule ∷ [])) (by_number (t.indexes ++ [])) refl (ap by_number (sym (append-nil t.indexes))) a in
    let i = index_in greatest h.others x to rule (t.indexes ++ rule ∷ []) t.indexes around fits in
    subst (λ (l : List CatalogTable). In greatest (item_of_index roots t rule) l (rooted_tables roots (with_table table.0 (with_index rule) catalog.tables))) (sym h.before)
    (subst (λ (l : List CatalogTable). In greatest (item_of_index roots t rule) (with_tables h.others (x ∷ [])) l) (sym last) i)

pub index_deleted : (roots : Roots) (catalog : CatalogState) (table : TableId) (index : IndexId) (t : Table) → table_with_id catalog.tables table.0 ≡ Some t → has_index t index.0 ≡ true → has_nodes roots catalog ≡ true
    → Gone catalog.greatest_table (rooted_tables roots catalog.tables) (catalog_key 3 table.0 index.0) (rooted_tables roots (with_table table.0 (without_index index.0) catalog.tables))
index_deleted roots catalog table index t found has fits =
    let h = here roots catalog table.0 t found fits in
    let greatest = catalog.greatest_table in
    let to = roots_in roots t in
    let x = rooted roots t in
    let rise = (both_rise greatest h.others roots t h.fits).1 in
    let r = any_found (λ (rule : IndexRule). rule.id.0 == index.0) t.indexes has in
    let m = made index.0 0 t.indexes r.0 rise r.1 in
    let fewer = filter (λ (rule : IndexRule). not (rule.id.0 == index.0)) t.indexes in
    let around : Around r.0 (by_number t.indexes) (by_number fewer) =
    around_as (by_number (m.before ++ r.0 ∷ m.after)) (by_number (m.before ++ m.after)) (ap by_number m.whole) (ap by_number m.gone)
    (numbers_around m.before r.0 m.after 0 (subst (λ (l : List IndexRule). rules_rise 0 (by_number l) ≡ true) m.whole rise)) in
    gone_as greatest (rooted_tables roots catalog.tables) (rooted_tables roots (with_table table.0 (without_index index.0) catalog.tables)) (with_rules h.others x to t.indexes) (with_rules h.others x to fewer) (item_of_index roots t r.0) (catalog_key 3 table.0 index.0) h.before (h.changed (without_index index.0))
    (ap (λ n. catalog_key 3 n r.0.id.0) h.is ∙ ap (λ n. catalog_key 3 table.0 n) m.is)
    (index_out greatest h.others x to r.0 t.indexes fewer around h.fits)

-- ---- a table that goes

abbrev without_rules : CatalogTable → CatalogTable
without_rules x = record x { indexes = [] }

pub indexes_go : (roots : Roots) (catalog : CatalogState) (t : Table) (done rest : List IndexRule) (rule : IndexRule) → table_with_id catalog.tables t.id ≡ Some t → has_nodes roots catalog ≡ true → t.indexes ≡ done ++ rule ∷ rest
    → IsSome (get_in (without_items (items_of_indexes roots t done) (nodes_of_catalog roots catalog)) (item_key (item_of_index roots t rule)))
indexes_go roots catalog t done rest rule found fits parts =
    let h = here roots catalog t.id t found fits in
    let greatest = catalog.greatest_table in
    let to = roots_in roots t in
    let x = rooted roots t in
    let key = item_key (item_of_index roots t rule) in
    let tables : rooted_tables roots catalog.tables ≡ with_rules h.others x to (done ++ rule ∷ rest) = h.before ∙ ap (with_rules h.others x to) parts in
    let so_far = indexes_out greatest h.others x to done (rule ∷ rest) (ap (catalog_fits greatest) (sym tables) ∙ fits) in
    let next = index_out greatest h.others x to rule (rule ∷ rest) rest (put_around rule (by_number rest)) so_far.fits in
    some_data (without_items (items_of_indexes roots t done) (nodes_of_catalog roots catalog)) key (item_node (item_of_index roots t rule))
    (ap (λ (l : List CatalogTable). find (has_key key) (without_items (items_of_indexes roots t done) (catalog_nodes greatest l))) tables ∙ ap (find (has_key key)) so_far.nodes ∙ next.there)

-- the nodes once those of the indexes are out
pub record NoIndexes (roots : Roots) (catalog : CatalogState) (t : Table) (others : OtherTables) : Type 0 where
  pub nodes : without_indexes roots catalog t ≡ catalog_nodes catalog.greatest_table (with_columns others (without_rules (rooted roots t)) t.columns)
  pub fits : catalog_fits catalog.greatest_table (with_columns others (without_rules (rooted roots t)) t.columns) ≡ true

no_indexes : (roots : Roots) (catalog : CatalogState) (id : ℕ) (t : Table) (h : Here roots catalog id t) → NoIndexes roots catalog t h.others
no_indexes roots catalog id t h =
    let greatest = catalog.greatest_table in
    let out = all_indexes_out greatest h.others (rooted roots t) (roots_in roots t) t.indexes h.fits in
    record { nodes = ap (λ (l : List CatalogTable). without_items (items_of_indexes roots t t.indexes) (catalog_nodes greatest l)) h.before ∙ out.nodes; fits = out.fits }

pub columns_go : (roots : Roots) (catalog : CatalogState) (t : Table) (done rest : List Column) (column : Column) → table_with_id catalog.tables t.id ≡ Some t → has_nodes roots catalog ≡ true → t.columns ≡ done ++ column ∷ rest
    → IsSome (get_in (without_items (items_of_columns t done) (without_indexes roots catalog t)) (item_key (item_of_column t column)))
columns_go roots catalog t done rest column found fits parts =
    let h = here roots catalog t.id t found fits in
    let greatest = catalog.greatest_table in
    let n = no_indexes roots catalog t.id t h in
    let x = without_rules (rooted roots t) in
    let key = item_key (item_of_column t column) in
    let fits_here : catalog_fits greatest (with_columns h.others x (done ++ column ∷ rest)) ≡ true = ap (λ (l : List Column). catalog_fits greatest (with_columns h.others x l)) (sym parts) ∙ n.fits in
    let so_far = columns_out greatest h.others x done (column ∷ rest) fits_here in
    let next = column_out greatest h.others x [] rest column so_far.fits in
    some_data (without_items (items_of_columns t done) (without_indexes roots catalog t)) key (item_node (item_of_column t column))
    (ap (λ (l : List Node). find (has_key key) (without_items (items_of_columns t done) l)) (n.nodes ∙ ap (λ (l : List Column). catalog_nodes greatest (with_columns h.others x l)) parts) ∙ ap (find (has_key key)) so_far.nodes ∙ next.there)

pub table_goes : (roots : Roots) (catalog : CatalogState) (table : TableId) (t : Table) → table_with_id catalog.tables table.0 ≡ Some t → has_nodes roots catalog ≡ true
    → Removed (without_parts roots catalog t) (item_key (item_of_table roots t)) (nodes_of_catalog roots (catalog_after catalog (step.DeleteTable table)))
table_goes roots catalog table t found fits =
    let h = here roots catalog table.0 t found fits in
    let greatest = catalog.greatest_table in
    let n = no_indexes roots catalog table.0 t h in
    let x = without_rules (rooted roots t) in
    let out = all_columns_out greatest h.others x t.columns n.fits in
    let key = item_key (item_of_table roots t) in
    let nodes : without_parts roots catalog t ≡ catalog_nodes greatest (with_columns h.others x []) = ap (without_items (items_of_columns t t.columns)) n.nodes ∙ out.nodes in
    let p = table_parted greatest h.others x.table out.fits in
    record {
      there = some_data (without_parts roots catalog t) key (item_node (item_of_table roots t)) (ap (find (has_key key)) nodes ∙ there_in _ _ _ p);
      nodes = ap (λ (l : List Node). without_key l key) nodes ∙ removed_from _ _ _ p ∙ ap (catalog_nodes greatest) (sym h.gone);
    }

-- the tables that are left can be written
pub tables_left : (roots : Roots) (catalog : CatalogState) (table : TableId) (t : Table) → table_with_id catalog.tables table.0 ≡ Some t → has_nodes roots catalog ≡ true → has_nodes roots (catalog_after catalog (step.DeleteTable table)) ≡ true
tables_left roots catalog table t found fits =
    let h = here roots catalog table.0 t found fits in
    let x = without_rules (rooted roots t) in
    let out = all_columns_out catalog.greatest_table h.others x t.columns (no_indexes roots catalog table.0 t h).fits in
    ap (catalog_fits catalog.greatest_table) h.gone ∙ table_less catalog.greatest_table h.others x.table out.fits

-- ---- the roots that count

-- the same of each index
abbrev SameAt : (IndexRule → ℕ × IndexRule) → (IndexRule → ℕ × IndexRule) → List IndexRule → Type 0
SameAt f g [] = Unit {0}
SameAt f g (rule ∷ rules) = (f rule ≡ g rule) × SameAt f g rules

same_put : (f g : IndexRule → ℕ × IndexRule) (x : IndexRule) (rules : List IndexRule) → f x ≡ g x → SameAt f g rules → SameAt f g (with_number x rules)
same_put f g x [] one all = (one, tt)
same_put f g x (y ∷ ys) one all = by_test (ltb x.id.0 y.id.0) (same_put f g x ys one all.1)
  where
    by_test : (b : Bool) → SameAt f g (with_number x ys) → SameAt f g (cond b (x ∷ y ∷ ys) (y ∷ with_number x ys))
    by_test true rest = (one, all)
    by_test false rest = (all.0, rest)

same_by_number : (f g : IndexRule → ℕ × IndexRule) (rules : List IndexRule) → SameAt f g rules → SameAt f g (by_number rules)
same_by_number f g [] all = tt
same_by_number f g (x ∷ rules) all = same_put f g x (by_number rules) all.0 (same_by_number f g rules all.1)

same_map : (f g : IndexRule → ℕ × IndexRule) (rules : List IndexRule) → SameAt f g rules → map f rules ≡ map g rules
same_map f g [] all = refl
same_map f g (x ∷ rules) all = ap (λ (i : ℕ × IndexRule). i ∷ map f rules) all.0 ∙ ap (λ (l : List (ℕ × IndexRule)). g x ∷ l) (same_map f g rules all.1)

same_roots : (one other : ℕ → ℕ) (rules : List IndexRule) → All (λ (rule : IndexRule). one rule.id.0 ≡ other rule.id.0) rules → SameAt (λ rule. (one rule.id.0, rule)) (λ rule. (other rule.id.0, rule)) rules
same_roots one other [] all = tt
same_roots one other (x ∷ rules) all =
    (ap (λ n. let i : ℕ × IndexRule = (n, x) in i) (all 0 x (omega arith)), same_roots one other rules (All-tail (λ (rule : IndexRule). one rule.id.0 ≡ other rule.id.0) x rules all))

same_rooted : (one other : Roots) (t : Table) → HasSameRoots one other t → rooted one t ≡ rooted other t
same_rooted one other t same =
    let f : IndexRule → ℕ × IndexRule = λ rule. (roots_in one t rule.id.0, rule) in
    let g : IndexRule → ℕ × IndexRule = λ rule. (roots_in other t rule.id.0, rule) in
    let indexes : map f (by_number t.indexes) ≡ map g (by_number t.indexes) = same_map f g (by_number t.indexes) (same_by_number f g t.indexes (same_roots (roots_in one t) (roots_in other t) t.indexes same.indexes)) in
    λ i. record { table = record (table_item t (one t.id)) { records = same.records i; long_values = same.long_values i }; columns = t.columns; indexes = indexes i }

pub same_tables : (one other : Roots) (tables : List Table) → All (HasSameRoots one other) tables → rooted_tables one tables ≡ rooted_tables other tables
same_tables one other [] all = refl
same_tables one other (t ∷ tables) all =
    ap (λ (x : CatalogTable). x ∷ rooted_tables one tables) (same_rooted one other t (all 0 t (omega arith)))
    ∙ ap (λ (l : List CatalogTable). rooted other t ∷ l) (same_tables one other tables (All-tail (HasSameRoots one other) t tables all))
