-- Tables whose long columns are tagged.
use Rattle.std.proofs.Common.{◌≡◌, ℕ, Bool, true, false, not, ◌||◌, List, [], ◌∷◌, map, refl, sym, ap, ◌∙◌}
use Rattle.std.specs.List.{list_all}
use Rattle.std.proofs.lemmas.Bool.{and_from}
use Rattle.common_lemmas.proofs.Booleans.{and_left, and_right}
use Rattle.jet_base.specs.TypeKinds.{is_long_type}
use Rattle.column_set.specs.declared.columns.Column.{Column}
use Rattle.column_set.specs.RecordValues.{tagged_if_long}
use Rattle.catalog_grammar.specs.Catalogs.{CatalogTable, catalog_fits, catalog_items, has_tagged_longs, tables_of_items, with_tagged_longs}
use Rattle.catalog_grammar.proofs.ReadBack.{told_again}

abbrev is_tagged_long : Column → Bool
is_tagged_long column = column.tagged || not (is_long_type column.kind)

-- ---- columns

one_tagged : (tagged long : Bool) → ((tagged || long) || not long) ≡ true
one_tagged true long = refl
one_tagged false true = refl
one_tagged false false = refl

columns_tagged : (columns : List Column) → list_all is_tagged_long (map tagged_if_long columns) ≡ true
columns_tagged [] = refl
columns_tagged (c ∷ columns) = and_from (is_tagged_long (tagged_if_long c)) (list_all is_tagged_long (map tagged_if_long columns)) (one_tagged c.tagged (is_long_type c.kind)) (columns_tagged columns)

same_flag : (tagged long : Bool) → (tagged || not long) ≡ true → (tagged || long) ≡ tagged
same_flag true long h = refl
same_flag false true h = sym h
same_flag false false h = refl

same_column : (c : Column) → is_tagged_long c ≡ true → tagged_if_long c ≡ c
same_column c h = λ i. record c { tagged = same_flag c.tagged (is_long_type c.kind) h i }

same_columns : (columns : List Column) → list_all is_tagged_long columns ≡ true → map tagged_if_long columns ≡ columns
same_columns [] h = refl
same_columns (c ∷ columns) h = λ i. same_column c (and_left (is_tagged_long c) (list_all is_tagged_long columns) h) i ∷ same_columns columns (and_right (is_tagged_long c) (list_all is_tagged_long columns) h) i

-- ---- tables

pub tables_tagged : (tables : List CatalogTable) → list_all has_tagged_longs (map with_tagged_longs tables) ≡ true
tables_tagged [] = refl
tables_tagged (x ∷ tables) = and_from (has_tagged_longs (with_tagged_longs x)) (list_all has_tagged_longs (map with_tagged_longs tables)) (columns_tagged x.columns) (tables_tagged tables)

same_tables : (tables : List CatalogTable) → list_all has_tagged_longs tables ≡ true → map with_tagged_longs tables ≡ tables
same_tables [] h = refl
same_tables (x ∷ tables) h = λ i. record x { columns = same_columns x.columns (and_left (has_tagged_longs x) (list_all has_tagged_longs tables) h) i } ∷ same_tables tables (and_right (has_tagged_longs x) (list_all has_tagged_longs tables) h) i

pub read_tagged : (greatest : ℕ) (tables : List CatalogTable) → catalog_fits greatest tables ≡ true → tables_of_items (catalog_items greatest tables) ≡ map with_tagged_longs tables
read_tagged greatest tables fits = ap (map with_tagged_longs) (told_again greatest tables fits)

pub read_own : (greatest : ℕ) (tables : List CatalogTable) → catalog_fits greatest tables ≡ true → list_all has_tagged_longs tables ≡ true → tables_of_items (catalog_items greatest tables) ≡ tables
read_own greatest tables fits tagged = read_tagged greatest tables fits ∙ same_tables tables tagged
