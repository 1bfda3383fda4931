-- A catalog that can be written can be written with one part less, and with one that fits.
use Rattle.std.proofs.Common.{◌≡◌, ℕ, Bool, true, ◌&&◌, List, [], ◌∷◌, ◌++◌, refl, sym, ap, ◌∙◌}
use Rattle.std.specs.Prelude.{map}
use Rattle.std.specs.List.{list_all}
use Rattle.std.proofs.lemmas.Bool.{and_from, and_parts}
use Rattle.std.proofs.lemmas.List.{map-append}
use Rattle.column_set.specs.declared.columns.Column.{Column}
use Rattle.index_derive.specs.declared.rules.IndexRule.{IndexRule}
use Rattle.catalog_grammar.specs.CatalogBytes.{item_fits}
use Rattle.catalog_grammar.specs.Catalogs.{CatalogTable, catalog_fits, catalog_items, has_rising_parts, rise_above}
use Rattle.catalog_grammar.specs.declared.items.CatalogItem.{CatalogItem}
use Rattle.catalog_grammar.specs.declared.items.CatalogItem.TheVariants as item
use Rattle.catalog_grammar.specs.declared.items.TableItem.{TableItem}
use Rattle.catalog_grammar.specs.CatalogParts.{OtherTables, bare_table, with_columns, with_indexes, with_tables}
use Rattle.catalog_grammar.proofs.Numbered.{rise_less}
use Rattle.catalog_grammar.proofs.Places.{Parted, column_parted, index_parted, table_parted}

-- ---- all of a list

pub all_less : {X : Type 0} (p : X → Bool) (front : List X) (x : X) (behind : List X) → list_all p (front ++ x ∷ behind) ≡ true → list_all p (front ++ behind) ≡ true
all_less p [] x behind all = (and_parts (p x) (list_all p behind) all).1
all_less p (y ∷ front) x behind all =
    let a = and_parts (p y) (list_all p (front ++ x ∷ behind)) all in
    and_from (p y) (list_all p (front ++ behind)) a.0 (all_less p front x behind a.1)

pub all_more : {X : Type 0} (p : X → Bool) (front : List X) (x : X) (behind : List X) → list_all p (front ++ behind) ≡ true → p x ≡ true → list_all p (front ++ x ∷ behind) ≡ true
all_more p [] x behind all one = and_from (p x) (list_all p behind) one all
all_more p (y ∷ front) x behind all one =
    let a = and_parts (p y) (list_all p (front ++ behind)) all in
    and_from (p y) (list_all p (front ++ x ∷ behind)) a.0 (all_more p front x behind a.1 one)

pub all_at : {X : Type 0} (p : X → Bool) (front : List X) (x : X) (behind : List X) → list_all p (front ++ x ∷ behind) ≡ true → p x ≡ true
all_at p [] x behind all = (and_parts (p x) (list_all p behind) all).0
all_at p (y ∷ front) x behind all = all_at p front x behind (and_parts (p y) (list_all p (front ++ x ∷ behind)) all).1

-- ---- what a catalog that can be written has

abbrev pub table_number : CatalogTable → ℕ
table_number x = x.table.id.0

pub record Fits (greatest : ℕ) (tables : List CatalogTable) : Type 0 where
  pub items : list_all item_fits (catalog_items greatest tables) ≡ true
  pub rise : rise_above 0 (map table_number tables) ≡ true
  pub parts : list_all has_rising_parts tables ≡ true

pub fits_has : (greatest : ℕ) (tables : List CatalogTable) → catalog_fits greatest tables ≡ true → Fits greatest tables
fits_has greatest tables fits =
    let a = and_parts (list_all item_fits (catalog_items greatest tables)) (rise_above 0 (map table_number tables) && list_all has_rising_parts tables) fits in
    let b = and_parts (rise_above 0 (map table_number tables)) (list_all has_rising_parts tables) a.1 in
    record { items = a.0; rise = b.0; parts = b.1 }

pub has_fits : (greatest : ℕ) (tables : List CatalogTable) → Fits greatest tables → catalog_fits greatest tables ≡ true
has_fits greatest tables f =
    and_from (list_all item_fits (catalog_items greatest tables)) (rise_above 0 (map table_number tables) && list_all has_rising_parts tables) f.items
    (and_from (rise_above 0 (map table_number tables)) (list_all has_rising_parts tables) f.rise f.parts)

-- one table in the place of another with its number
pub one_changed : (greatest : ℕ) (others : OtherTables) (a b : CatalogTable) → catalog_fits greatest (with_tables others (a ∷ [])) ≡ true → a.table.id.0 ≡ b.table.id.0 → list_all item_fits (catalog_items greatest (with_tables others (b ∷ []))) ≡ true → has_rising_parts b ≡ true → catalog_fits greatest (with_tables others (b ∷ [])) ≡ true
one_changed greatest others a b fits same items parts =
    let f = fits_has greatest (with_tables others (a ∷ [])) fits in
    let numbers : map table_number (with_tables others (b ∷ [])) ≡ map table_number (with_tables others (a ∷ [])) =
    map-append table_number others.before (b ∷ others.after) ∙ ap (λ n. map table_number others.before ++ (n ∷ map table_number others.after)) (sym same) ∙ sym (map-append table_number others.before (a ∷ others.after)) in
    has_fits greatest (with_tables others (b ∷ [])) (record {
      items = items;
      rise = ap (rise_above 0) numbers ∙ f.rise;
      parts = all_more has_rising_parts others.before b others.after (all_less has_rising_parts others.before a others.after f.parts) parts;
    })

-- the parts of one table
pub parts_at : (greatest : ℕ) (others : OtherTables) (a : CatalogTable) → catalog_fits greatest (with_tables others (a ∷ [])) ≡ true → has_rising_parts a ≡ true
parts_at greatest others a fits = all_at has_rising_parts others.before a others.after (fits_has greatest (with_tables others (a ∷ [])) fits).parts

-- ---- one part less

abbrev pub columns_number : Column → ℕ
columns_number column = column.id.0

abbrev pub indexes_number : ℕ × IndexRule → ℕ
indexes_number index = index.1.id.0

fewer_items : (without with_it : List CatalogItem) (x : CatalogItem) → Parted without with_it x → list_all item_fits with_it ≡ true → list_all item_fits without ≡ true
fewer_items without with_it x p all = ap (list_all item_fits) p.less ∙ all_less item_fits p.front x p.behind (ap (list_all item_fits) (sym p.whole) ∙ all)

pub column_less : (greatest : ℕ) (others : OtherTables) (x : CatalogTable) (left right : List Column) (column : Column) → catalog_fits greatest (with_columns others x (left ++ column ∷ right)) ≡ true → catalog_fits greatest (with_columns others x (left ++ right)) ≡ true
column_less greatest others x left right column fits =
    let a : CatalogTable = record x { columns = left ++ column ∷ right } in
    let b : CatalogTable = record x { columns = left ++ right } in
    let h = and_parts (rise_above 0 (map columns_number (left ++ column ∷ right))) (rise_above 0 (map indexes_number x.indexes)) (parts_at greatest others a fits) in
    one_changed greatest others a b fits refl
    (fewer_items _ _ (item.Column x.table.id column) (column_parted greatest others x left right column fits) (fits_has greatest (with_tables others (a ∷ [])) fits).items)
    (and_from (rise_above 0 (map columns_number (left ++ right))) (rise_above 0 (map indexes_number x.indexes)) (rise_less columns_number 0 left column right h.0) h.1)

pub index_less : (greatest : ℕ) (others : OtherTables) (x : CatalogTable) (left right : List (ℕ × IndexRule)) (index : ℕ × IndexRule) → catalog_fits greatest (with_indexes others x (left ++ index ∷ right)) ≡ true → catalog_fits greatest (with_indexes others x (left ++ right)) ≡ true
index_less greatest others x left right index fits =
    let a : CatalogTable = record x { indexes = left ++ index ∷ right } in
    let b : CatalogTable = record x { indexes = left ++ right } in
    let h = and_parts (rise_above 0 (map columns_number x.columns)) (rise_above 0 (map indexes_number (left ++ index ∷ right))) (parts_at greatest others a fits) in
    one_changed greatest others a b fits refl
    (fewer_items _ _ (item.Index x.table.id index.0 index.1) (index_parted greatest others x left right index fits) (fits_has greatest (with_tables others (a ∷ [])) fits).items)
    (and_from (rise_above 0 (map columns_number x.columns)) (rise_above 0 (map indexes_number (left ++ right))) h.0 (rise_less indexes_number 0 left index right h.1))

pub table_less : (greatest : ℕ) (others : OtherTables) (table : TableItem) → catalog_fits greatest (with_tables others (bare_table table ∷ [])) ≡ true → catalog_fits greatest (with_tables others []) ≡ true
table_less greatest others table fits =
    let f = fits_has greatest (with_tables others (bare_table table ∷ [])) fits in
    has_fits greatest (with_tables others []) (record {
      items = fewer_items _ _ (item.Table table) (table_parted greatest others table fits) f.items;
      rise = rise_less table_number 0 others.before (bare_table table) others.after f.rise;
      parts = all_less has_rising_parts others.before (bare_table table) others.after f.parts;
    })
