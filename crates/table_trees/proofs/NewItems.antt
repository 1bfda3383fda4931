-- What a new table, column or index is to the catalog's tree: its item can be written, with the roots of trees that stand.
use Rattle.std.proofs.Common.{◌≡◌, ℕ, ◌==◌, ◌<◌, ◌^◌, Some, List, [], ◌∷◌, sym, ap, subst, ◌∙◌}
use Rattle.std.proofs.lemmas.Bool.{and_from, eqb-true, lt-ltb}
use Rattle.common_lemmas.proofs.Booleans.{by_test}
use Rattle.jet_base.specs.declared.ids.TableId.{TableId}
use Rattle.column_set.specs.declared.columns.Column.{Column}
use Rattle.index_derive.specs.declared.rules.IndexRule.{IndexRule}
use Rattle.database_state.specs.Table.{GreatestColumns, Table, table_with_id}
use Rattle.jet_catalog.specs.Catalog.{CatalogState}
use Rattle.catalog_grammar.specs.CatalogSteps.{Roots}
use Rattle.catalog_record.specs.CatalogsKept.{TakesColumn, TakesIndex, TakesTable}
use Rattle.table_trees.specs.ShownCatalogs.{IsNewColumn, IsNewIndex, IsNewTable}

pub takes_table : (roots : Roots) (catalog : CatalogState) (table : TableId) (name : List ℕ) (records long_values : ℕ) → IsNewTable catalog table name → table.0 < 2 ^ 32 → records < 2 ^ 32 → long_values < 2 ^ 32
    → (roots table.0).records ≡ records → (roots table.0).long_values ≡ long_values → TakesTable roots catalog table name records long_values
takes_table roots catalog table name records long_values new id low high r l = record {
  numbered = new.numbered;
  new = lt-ltb catalog.greatest_table table.0 new.new;
  fits = and_from _ _ (lt-ltb table.0 (2 ^ 32) id) (and_from _ _ (lt-ltb _ (2 ^ 32) (subst (λ n. n < 2 ^ 32) (sym r) low)) (and_from _ _ (lt-ltb _ (2 ^ 32) (subst (λ n. n < 2 ^ 32) (sym l) high)) new.fits));
  records_root = r;
  long_values_root = l;
}

pub takes_column : (roots : Roots) (catalog : CatalogState) (t : Table) (column : Column) (greatest : GreatestColumns) (records long_values : ℕ) → IsNewColumn catalog t column greatest → t.id < 2 ^ 32
    → (roots t.id).records ≡ records → (roots t.id).long_values ≡ long_values → TakesColumn roots catalog t column greatest records long_values
takes_column roots catalog t column greatest records long_values new id r l = record {
  there = new.there;
  fits = and_from _ _ (lt-ltb t.id (2 ^ 32) id) new.fits;
  new = new.new;
  number = new.number;
  greatest_is = new.greatest_is;
  records_root = r;
  long_values_root = l;
}

found_number : (id : ℕ) (tables : List Table) (t : Table) → table_with_id tables id ≡ Some t → t.id ≡ id
found_number id [] t e = absurd cc
found_number id (x ∷ tables) t e =
    by_test (x.id == id)
    (λ h. let same : Some x ≡ Some t = rw h at e in ap (λ (y : Table). y.id) (sym (the_same same)) ∙ eqb-true x.id id h)
    (λ h. found_number id tables t (rw h at e))
  where
    the_same : Some x ≡ Some t → x ≡ t
    the_same s = cc

pub takes_index : (roots : Roots) (catalog : CatalogState) (table : TableId) (root : ℕ) (rule : IndexRule) → IsNewIndex catalog table rule → table.0 < 2 ^ 32 → root < 2 ^ 32
    → (roots table.0).indexes rule.id.0 ≡ root → TakesIndex roots catalog table root rule
takes_index roots catalog table root rule new id low is = record {
  t = new.t;
  there = new.there;
  fits = let same = found_number table.0 catalog.tables new.t new.there in and_from _ _ (lt-ltb new.t.id (2 ^ 32) (subst (λ n. n < 2 ^ 32) (sym same) id)) (and_from _ _ (lt-ltb _ (2 ^ 32) (subst (λ n. n < 2 ^ 32) (sym (ap (λ n. (roots n).indexes rule.id.0) same ∙ is)) low)) new.fits);
  new = new.new;
  number = new.number;
  root_is = is;
}
