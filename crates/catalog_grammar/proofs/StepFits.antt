-- A catalog that can be written can be written after a step whose own parts can be.
use Rattle.std.proofs.Common.{◌≡◌, ℕ, ◌<◌, ◌≤◌, ◌^◌, Bool, true, false, cond, max, ◌&&◌, ◌||◌, ltb, inl, inr, Some, List, [], ◌∷◌, ◌++◌, refl, sym, ap, ◌∙◌, arith}
use Rattle.std.specs.Prelude.{◌==◌, IsTrue, map, nat_le, nat_lt}
use Rattle.std.specs.List.{list_all, list_any}
use Rattle.std.proofs.lemmas.Bool.{and_from, and_parts, cases_Bool, cases_eq, cases_lt, eq-eqb, le-ltb, leb-true, lt-ltb, ltb-true, ne_eqb}
use Rattle.std.proofs.lemmas.List.{append-nil, map-append}
use Rattle.jet_base.specs.declared.ids.TableId.{TableId}
use Rattle.column_set.specs.declared.columns.Column.{Column}
use Rattle.index_derive.specs.declared.rules.IndexRule.{IndexRule}
use Rattle.index_derive.specs.declared.schema_calls.SchemaStep.TheVariants as step
use Rattle.column_set.specs.RecordValues.{tagged_if_long}
use Rattle.database_state.specs.SchemaChanges.{columns_with, has_column, new_table, with_column, with_column_id, with_index}
use Rattle.database_state.specs.Table.{GreatestColumns, Table, table_with_id}
use Rattle.jet_catalog.specs.Catalog.{CatalogState, IsNumbered, catalog_after, has_new_id, ids_rise}
use Rattle.log_grammar.specs.EntryBytes.{column_fits, name_fits}
use Rattle.catalog_grammar.specs.CatalogBytes.{greatest_fits, item_fits, table_fits}
use Rattle.catalog_grammar.specs.Catalogs.{CatalogTable, by_number, catalog_fits, catalog_items, has_rising_parts, rise_above, table_item}
use Rattle.catalog_grammar.specs.declared.items.CatalogItem.TheVariants as item
use Rattle.catalog_grammar.specs.declared.items.TableItem.{TableItem}
use Rattle.catalog_grammar.specs.CatalogParts.{OtherTables, bare_table, with_columns, with_indexes, with_tables}
use Rattle.catalog_grammar.specs.CatalogSteps.{Roots, has_index, has_nodes, item_of_column, item_of_index, item_of_table, rooted, rooted_tables}
use Rattle.catalog_grammar.proofs.ByNumber.{columns_around, numbers_around, numbers_push}
use Rattle.catalog_grammar.proofs.Fitting.{all_at, all_less, all_more, columns_number, fits_has, has_fits, indexes_number, one_changed, parts_at, table_number}
use Rattle.catalog_grammar.proofs.OneTable.{rooted_rules}
use Rattle.catalog_grammar.proofs.Places.{column_behind, column_front, columns_parted, index_behind, index_front, indexes_parted, table_behind, table_front, tables_parted}
use Rattle.catalog_grammar.proofs.StepNodes.{both_rise, here, roots_in, rule_numbers, table_numbers}

never : {A : Type 0} → true ≡ false → A
never e = absurd (clash e)
  where
    clash : true ≡ false → ⊥
    clash e = cc

-- ---- a new table

rise_push : (low high id : ℕ) (tables : List Table) (name : List ℕ) → ids_rise low high tables ≡ true → high < id → rise_above low (map (λ (t : Table). t.id) (tables ++ new_table id name ∷ [])) ≡ true
rise_push low high id [] name rise lt = and_from (ltb low id) true (lt-ltb low id (let le : low ≤ high = leb-true low high rise in omega arith)) refl
rise_push low high id (t ∷ tables) name rise lt =
    let a = and_parts (ltb low t.id) (ids_rise t.id high tables) rise in
    and_from (ltb low t.id) (rise_above t.id (map (λ (x : Table). x.id) (tables ++ new_table id name ∷ []))) a.0 (rise_push t.id high id tables name a.1 lt)

pub table_fits_in : (roots : Roots) (catalog : CatalogState) (table : TableId) (name : List ℕ) → has_nodes roots catalog ≡ true → IsNumbered catalog → IsTrue (has_new_id catalog (step.CreateTable table name)) → item_fits (item_of_table roots (new_table table.0 name)) ≡ true → has_nodes roots (catalog_after catalog (step.CreateTable table name)) ≡ true
table_fits_in roots catalog table name fits numbered new own =
    let made = new_table table.0 name in
    let it = table_item made (roots table.0) in
    let before = rooted_tables roots catalog.tables in
    let others : OtherTables = record { before = before; after = [] } in
    let f = fits_has catalog.greatest_table before fits in
    let none : with_tables others [] ≡ before = append-nil before in
    let last : rooted_tables roots (catalog.tables ++ made ∷ []) ≡ with_tables others (bare_table it ∷ []) = map-append (rooted roots) catalog.tables (made ∷ []) in
    let behind = table_behind others [] [] in
    let here_items : list_all item_fits (table_front catalog.greatest_table others ++ behind) ≡ true = ap (list_all item_fits) (sym (tables_parted catalog.greatest_table others []) ∙ ap (catalog_items catalog.greatest_table) none) ∙ f.items in
    let rest = (and_parts (item_fits (item.Greatest catalog.greatest_table)) (list_all item_fits (map (λ x. item.Table x.table) before ++ behind)) here_items).1 in
    let small = (and_parts (ltb table.0 (2 ^ 32)) _ own).0 in
    let items : list_all item_fits (catalog_items table.0 (with_tables others (bare_table it ∷ []))) ≡ true =
    ap (list_all item_fits) (tables_parted table.0 others (bare_table it ∷ []))
    ∙ all_more item_fits (table_front table.0 others) (item.Table it) behind (and_from (item_fits (item.Greatest table.0)) (list_all item_fits (map (λ x. item.Table x.table) before ++ behind)) small rest) own in
    ap (catalog_fits table.0) last ∙ has_fits table.0 (with_tables others (bare_table it ∷ [])) (record {
      items = items;
      rise = ap (λ (l : List CatalogTable). rise_above 0 (map table_number l)) (sym last) ∙ ap (rise_above 0) (table_numbers roots (catalog.tables ++ made ∷ [])) ∙ rise_push 0 catalog.greatest_table table.0 catalog.tables name numbered (ltb-true catalog.greatest_table table.0 new);
      parts = all_more has_rising_parts before (bare_table it) [] (ap (list_all has_rising_parts) none ∙ f.parts) refl;
    })

-- ---- a new column

-- a number that all others are above, where they rise and the first one is
all_above : (id low : ℕ) (columns : List Column) → id ≤ low → rise_above low (map columns_number columns) ≡ true → list_all (λ (c : Column). nat_lt id c.id.0) columns ≡ true
all_above id low [] le rise = refl
all_above id low (c ∷ columns) le rise =
    let a = and_parts (ltb low c.id.0) (rise_above c.id.0 (map columns_number columns)) rise in
    let lt : low < c.id.0 = ltb-true _ _ a.0 in
    and_from (ltb id c.id.0) (list_all (λ (x : Column). nat_lt id x.id.0) columns) (lt-ltb id c.id.0 (omega arith)) (all_above id c.id.0 columns (omega arith) a.1)

columns_rise : (column : Column) (low : ℕ) (columns : List Column) → rise_above low (map columns_number columns) ≡ true → list_any (λ (c : Column). c.id.0 == column.id.0) columns ≡ false → low < column.id.0 → rise_above low (map columns_number (columns_with column columns)) ≡ true
columns_rise column low [] rise none above = and_from (ltb low column.id.0) true (lt-ltb low column.id.0 above) refl
columns_rise column low (other ∷ columns) rise none above =
    let id = column.id.0 in
    let first = λ (b : Bool). rise_above low (map columns_number (cond b (column ∷ other ∷ columns) (other ∷ columns_with column columns))) in
    let a = and_parts (ltb low other.id.0) (rise_above other.id.0 (map columns_number columns)) rise in
    elim (cases_lt id other.id.0) [
      | inl lt ↦
          let all : list_all (λ (c : Column). nat_lt id c.id.0) (other ∷ columns) ≡ true = and_from (ltb id other.id.0) (list_all (λ (c : Column). nat_lt id c.id.0) columns) (lt-ltb id other.id.0 lt) (all_above id other.id.0 columns (omega arith) a.1) in
          ap first all ∙ and_from (ltb low id) (ltb id other.id.0 && rise_above other.id.0 (map columns_number columns)) (lt-ltb low id above) (and_from (ltb id other.id.0) (rise_above other.id.0 (map columns_number columns)) (lt-ltb id other.id.0 lt) a.1)
      | inr ge ↦ elim (cases_eq other.id.0 id) [
        | inl same ↦ never (ap (λ (b : Bool). b || list_any (λ (c : Column). c.id.0 == id) columns) (sym (eq-eqb other.id.0 id same)) ∙ none)
        | inr ne ↦
            let rest : list_any (λ (c : Column). c.id.0 == id) columns ≡ false = ap (λ (b : Bool). b || list_any (λ (c : Column). c.id.0 == id) columns) (sym (ne_eqb other.id.0 id ne)) ∙ none in
            let not_all : list_all (λ (c : Column). nat_lt id c.id.0) (other ∷ columns) ≡ false = ap (λ (b : Bool). b && list_all (λ (c : Column). nat_lt id c.id.0) columns) (le-ltb id other.id.0 ge) in
            ap first not_all ∙ and_from (ltb low other.id.0) (rise_above other.id.0 (map columns_number (columns_with column columns))) a.0 (columns_rise column other.id.0 columns a.1 rest (omega arith))
      ]
    ]

-- the greatest columns have the bytes for them
greatest_grow : (greatest : GreatestColumns) (id : ℕ) → greatest_fits greatest ≡ true → id < 2 ^ 16 → greatest_fits (with_column_id greatest id) ≡ true
greatest_grow greatest id fits small =
    let a = and_parts (ltb greatest.fixed (2 ^ 16)) (ltb greatest.variable (2 ^ 16) && ltb greatest.tagged (2 ^ 16)) fits in
    let b = and_parts (ltb greatest.variable (2 ^ 16)) (ltb greatest.tagged (2 ^ 16)) a.1 in
    let fixed : greatest.fixed < 2 ^ 16 = ltb-true _ _ a.0 in
    let variable : greatest.variable < 2 ^ 16 = ltb-true _ _ b.0 in
    let tagged : greatest.tagged < 2 ^ 16 = ltb-true _ _ b.1 in
    elim (cases_Bool (nat_le id 127)) [
      | inl low ↦ ap (λ (t : Bool). greatest_fits (cond t (record greatest { fixed = max greatest.fixed id }) (others greatest id))) low ∙ and_from (ltb (max greatest.fixed id) (2 ^ 16)) (ltb greatest.variable (2 ^ 16) && ltb greatest.tagged (2 ^ 16)) (lt-ltb _ _ (omega arith)) a.1
      | inr high ↦ ap (λ (t : Bool). greatest_fits (cond t (record greatest { fixed = max greatest.fixed id }) (others greatest id))) high ∙ elim (cases_Bool (nat_le id 255)) [
        | inl low ↦ ap (λ (t : Bool). greatest_fits (cond t (record greatest { variable = max greatest.variable id }) (record greatest { tagged = max greatest.tagged id }))) low ∙ and_from (ltb greatest.fixed (2 ^ 16)) (ltb (max greatest.variable id) (2 ^ 16) && ltb greatest.tagged (2 ^ 16)) a.0 (and_from (ltb (max greatest.variable id) (2 ^ 16)) (ltb greatest.tagged (2 ^ 16)) (lt-ltb _ _ (omega arith)) b.1)
        | inr far ↦ ap (λ (t : Bool). greatest_fits (cond t (record greatest { variable = max greatest.variable id }) (record greatest { tagged = max greatest.tagged id }))) far ∙ and_from (ltb greatest.fixed (2 ^ 16)) (ltb greatest.variable (2 ^ 16) && ltb (max greatest.tagged id) (2 ^ 16)) a.0 (and_from (ltb greatest.variable (2 ^ 16)) (ltb (max greatest.tagged id) (2 ^ 16)) b.0 (lt-ltb _ _ (omega arith)))
      ]
    ]
  where
    others : GreatestColumns → ℕ → GreatestColumns
    others greatest id = cond (nat_le id 255) (record greatest { variable = max greatest.variable id }) (record greatest { tagged = max greatest.tagged id })

-- a table whose greatest columns are others
table_grows : (t : TableItem) (greatest : GreatestColumns) → table_fits t ≡ true → greatest_fits greatest ≡ true → table_fits (record t { greatest = greatest }) ≡ true
table_grows t greatest fits more =
    let a = and_parts (ltb t.id.0 (2 ^ 32)) (ltb t.records (2 ^ 32) && (ltb t.long_values (2 ^ 32) && (greatest_fits t.greatest && name_fits t.name))) fits in
    let b = and_parts (ltb t.records (2 ^ 32)) (ltb t.long_values (2 ^ 32) && (greatest_fits t.greatest && name_fits t.name)) a.1 in
    let d = and_parts (ltb t.long_values (2 ^ 32)) (greatest_fits t.greatest && name_fits t.name) b.1 in
    let e = and_parts (greatest_fits t.greatest) (name_fits t.name) d.1 in
    and_from (ltb t.id.0 (2 ^ 32)) (ltb t.records (2 ^ 32) && (ltb t.long_values (2 ^ 32) && (greatest_fits greatest && name_fits t.name))) a.0
    (and_from (ltb t.records (2 ^ 32)) (ltb t.long_values (2 ^ 32) && (greatest_fits greatest && name_fits t.name)) b.0
    (and_from (ltb t.long_values (2 ^ 32)) (greatest_fits greatest && name_fits t.name) d.0 (and_from (greatest_fits greatest) (name_fits t.name) more e.1)))

pub column_fits_in : (roots : Roots) (catalog : CatalogState) (table : TableId) (column : Column) (t : Table) → table_with_id catalog.tables table.0 ≡ Some t → has_nodes roots catalog ≡ true → item_fits (item_of_column t column) ≡ true → has_column t column.id.0 ≡ false → 0 < column.id.0 → has_nodes roots (catalog_after catalog (step.AddColumn table column)) ≡ true
column_fits_in roots catalog table column t found fits own none above =
    let h = here roots catalog table.0 t found fits in
    let greatest = catalog.greatest_table in
    let x = rooted roots t in
    let kept = tagged_if_long column in
    let now = table_item (with_column kept t) (roots t.id) in
    let is : CatalogTable = record x { table = now } in
    let c = columns_around kept t.columns in
    let all = (fits_has greatest (with_tables h.others (x ∷ [])) h.fits).items in
    let front = table_front greatest h.others in
    let behind = table_behind h.others (map (λ column. item.Column x.table.id column) t.columns ++ []) (map (λ index. item.Index x.table.id index.0 index.1) x.indexes ++ []) in
    let here_items : list_all item_fits (front ++ item.Table x.table ∷ behind) ≡ true = ap (list_all item_fits) (sym (tables_parted greatest h.others (x ∷ []))) ∙ all in
    let small : column.id.0 < 2 ^ 16 = ltb-true _ _ (and_parts (ltb column.id.0 (2 ^ 16)) _ (and_parts (ltb t.id (2 ^ 32)) (column_fits column) own).1).0 in
    let was = all_at item_fits front (item.Table x.table) behind here_items in
    let table_now = table_grows x.table (with_column_id t.greatest column.id.0) was (greatest_grow t.greatest column.id.0 (greatest_of x.table was) small) in
    let items_now : list_all item_fits (catalog_items greatest (with_columns h.others is t.columns)) ≡ true =
    ap (list_all item_fits) (tables_parted greatest h.others (is ∷ [])) ∙ all_more item_fits front (item.Table now) behind (all_less item_fits front (item.Table x.table) behind here_items) table_now in
    let before = column_front greatest h.others is c.left in
    let after = column_behind h.others is c.right in
    let parted : list_all item_fits (before ++ after) ≡ true =
    ap (list_all item_fits) (sym (columns_parted greatest h.others is c.left c.right []) ∙ ap (λ (l : List Column). catalog_items greatest (with_columns h.others is l)) (sym c.less)) ∙ items_now in
    let items : list_all item_fits (catalog_items greatest (with_columns h.others is (columns_with kept t.columns))) ≡ true =
    ap (λ (l : List Column). list_all item_fits (catalog_items greatest (with_columns h.others is l))) c.whole ∙ ap (list_all item_fits) (columns_parted greatest h.others is c.left c.right (kept ∷ [])) ∙ all_more item_fits before (item.Column x.table.id kept) after parted own in
    let rise = both_rise greatest h.others roots t h.fits in
    let part = and_parts (rise_above 0 (map columns_number t.columns)) (rise_above 0 (map indexes_number x.indexes)) (parts_at greatest h.others x h.fits) in
    ap (catalog_fits greatest) (h.changed (with_column kept)) ∙ one_changed greatest h.others x (rooted roots (with_column kept t)) h.fits refl items
    (and_from (rise_above 0 (map columns_number (columns_with kept t.columns))) (rise_above 0 (map indexes_number x.indexes)) (columns_rise kept 0 t.columns rise.0 none above) part.1)
  where
    greatest_of : (t : TableItem) → table_fits t ≡ true → greatest_fits t.greatest ≡ true
    greatest_of t fits =
        let a = and_parts (ltb t.id.0 (2 ^ 32)) (ltb t.records (2 ^ 32) && (ltb t.long_values (2 ^ 32) && (greatest_fits t.greatest && name_fits t.name))) fits in
        let b = and_parts (ltb t.records (2 ^ 32)) (ltb t.long_values (2 ^ 32) && (greatest_fits t.greatest && name_fits t.name)) a.1 in
        (and_parts (greatest_fits t.greatest) (name_fits t.name) (and_parts (ltb t.long_values (2 ^ 32)) (greatest_fits t.greatest && name_fits t.name) b.1).1).0

-- ---- a new index

pub index_fits_in : (roots : Roots) (catalog : CatalogState) (table : TableId) (rule : IndexRule) (t : Table) → table_with_id catalog.tables table.0 ≡ Some t → has_nodes roots catalog ≡ true → item_fits (item_of_index roots t rule) ≡ true → has_index t rule.id.0 ≡ false → 0 < rule.id.0 → has_nodes roots (catalog_after catalog (step.CreateIndex table rule)) ≡ true
index_fits_in roots catalog table rule t found fits own none above =
    let h = here roots catalog table.0 t found fits in
    let greatest = catalog.greatest_table in
    let to = roots_in roots t in
    let x = rooted roots t in
    let index : IndexRule → ℕ × IndexRule = λ r. (to r.id.0, r) in
    let rules = t.indexes ++ rule ∷ [] in
    let rise = numbers_push t.indexes rule 0 (both_rise greatest h.others roots t h.fits).1 none above in
    let a = numbers_around t.indexes rule [] 0 rise in
    let left = rooted_rules to a.left in
    let right = rooted_rules to a.right in
    let whole : rooted_rules to (by_number rules) ≡ left ++ index rule ∷ right = ap (rooted_rules to) a.whole ∙ map-append index a.left (rule ∷ a.right) in
    let less : x.indexes ≡ left ++ right = ap (λ (l : List IndexRule). rooted_rules to (by_number l)) (sym (append-nil t.indexes)) ∙ ap (rooted_rules to) a.less ∙ map-append index a.left a.right in
    let before = index_front greatest h.others x left in
    let after = index_behind h.others x right in
    let parted : list_all item_fits (before ++ after) ≡ true =
    ap (list_all item_fits) (sym (indexes_parted greatest h.others x left right []) ∙ ap (λ (l : List (ℕ × IndexRule)). catalog_items greatest (with_indexes h.others x l)) (sym less)) ∙ (fits_has greatest (with_tables h.others (x ∷ [])) h.fits).items in
    let items : list_all item_fits (catalog_items greatest (with_indexes h.others x (rooted_rules to (by_number rules)))) ≡ true =
    ap (λ (l : List (ℕ × IndexRule)). list_all item_fits (catalog_items greatest (with_indexes h.others x l))) whole ∙ ap (list_all item_fits) (indexes_parted greatest h.others x left right (index rule ∷ [])) ∙ all_more item_fits before (item_of_index roots t rule) after parted own in
    let part = and_parts (rise_above 0 (map columns_number t.columns)) (rise_above 0 (map indexes_number x.indexes)) (parts_at greatest h.others x h.fits) in
    ap (catalog_fits greatest) (h.changed (with_index rule)) ∙ one_changed greatest h.others x (rooted roots (with_index rule t)) h.fits refl items
    (and_from (rise_above 0 (map columns_number t.columns)) (rise_above 0 (map indexes_number (rooted_rules to (by_number rules)))) part.0 (ap (rise_above 0) (rule_numbers to (by_number rules)) ∙ rise))
