-- A sum that is held.
use Rattle.std.proofs.Common.{◌≡◌, ℕ, true, false, List, [], ◌∷◌, ◌++◌, Option, Some, None, map, refl, ap, subst, ◌∙◌}
use Rattle.std.specs.Prelude.{IfSome, IsSomeAnd, is_some, option_map}
use Rattle.common_lemmas.proofs.Booleans.{impossible}
use Rattle.column_set.specs.declared.changes.Change.{Change}
use Rattle.column_set.specs.declared.changes.Change.TheVariants.{Put, Drop, Hold, Add}
use Rattle.column_set.specs.RecordValues.{RecordFields}
use Rattle.database_state.specs.Changes.{is_sum, tables_after}
use Rattle.column_set.specs.ChangedRecords.{changed_bookmark, changed_table}
use Rattle.database_state.specs.Table.{Table, record_in, schema_of, table_with_id}
use Rattle.index_derive.specs.declared.rules.Schema.{Schema}
use Rattle.jet_catalog.specs.Catalog.{CatalogState}
use Rattle.table_trees.specs.StoredTables.{table_long_values, StoredTable}
use Rattle.version_store.specs.declared.calls.By.{By}
use Rattle.version_store.specs.HeldChanges.{HeldChange, is_rewrite, kind_of, new_change}
use Rattle.laws_engine.specs.HeldRecords.{HeldRecord, new_change as new_record}
use Rattle.laws_engine.specs.VersionedTables.{with_change}
use Rattle.stored_variants.specs.RecordRows.{TableValues, held_record_in}
use Rattle.stored_variants.specs.VersionsView.{with_newest, stored_versions, with_newest_by}
use Rattle.variant_trees.specs.GoneKeys.{KeepsValues}
use Rattle.table_versions.proofs.StepInStore.{same_values}
use Rattle.table_versions.proofs.Held.{appended}
use Rattle.stored_variants.proofs.Tables.{table_at}

pub plain_sum : (made : Change) → is_sum made ≡ true → is_rewrite (kind_of made) ≡ false
plain_sum (Put table bookmark copied values) e = impossible e
plain_sum (Drop table bookmark) e = impossible e
plain_sum (Hold table bookmark) e = impossible e
plain_sum (Add table bookmark column amount) e = refl

sum_record : (longs : TableValues) (by : By) (made : Change) → is_sum made ≡ true → (before : Option RecordFields) → held_record_in longs (new_change by made None) ≡ new_record by made before
sum_record longs by (Put table bookmark copied values) e before = impossible e
sum_record longs by (Drop table bookmark) e before = impossible e
sum_record longs by (Hold table bookmark) e before = impossible e
sum_record longs by (Add table bookmark column amount) e before = refl

-- the store with a sum
pub store_summed : (latest : ℕ) (catalog : CatalogState) (trees other : List StoredTable) (held : List HeldChange) (by : By) (made : Change) → is_sum made ≡ true → KeepsValues trees other → map (with_newest other) catalog.tables ≡ tables_after (map (with_newest trees) catalog.tables) made
    → stored_versions latest catalog other (held ++ new_change by made None ∷ []) ≡ record (stored_versions latest catalog trees held) { store = with_change by made (record { tables = map (with_newest trees) catalog.tables; held = map (held_record_in (table_long_values trees)) held }) }
store_summed latest catalog trees other held by made sum keeps shown = λ i. record {
  greatest_table = catalog.greatest_table;
  newest_put = latest;
  store = record {
    tables = shown i;
    held = ((λ j. map (held_record_in (same_values trees other keeps j)) (held ++ new_change by made None ∷ []))
        ∙ appended (table_long_values trees) held (new_change by made None)
        ∙ ap (λ (r : HeldRecord). map (held_record_in (table_long_values trees)) held ++ r ∷ []) (sum_record (table_long_values trees) by made sum (record_in (map (with_newest trees) catalog.tables) (changed_table made) (changed_bookmark made)))) i;
  };
}

-- what is asked of a table with its records is asked of the one in the catalog
pub inputs_of : (longs : TableValues) (P : Schema → Type 0) (trees : List StoredTable) (tables : List Table) (id : ℕ) → IsSomeAnd (table_with_id (map (with_newest_by longs trees) tables) id) (λ t. P (schema_of t)) → IsSomeAnd (table_with_id tables id) (λ t. P (schema_of t))
inputs_of longs P trees tables id h = by (table_with_id tables id) (subst (λ (o : Option Table). IsSomeAnd o (λ t. P (schema_of t))) (table_at longs trees tables id) h)
  where
    by : (o : Option Table) → IsSomeAnd (option_map (with_newest_by longs trees) o) (λ t. P (schema_of t)) → IsSomeAnd o (λ t. P (schema_of t))
    by None h = absurd h
    by (Some t) h = h

pub some_of : (P : Table → Type 0) (o : Option Table) → IsSomeAnd o P → is_some o ≡ true
some_of P None h = absurd h
some_of P (Some x) h = refl

pub if_of : (P : Table → Type 0) (o : Option Table) → IsSomeAnd o P → IfSome o P
if_of P None h = absurd h
if_of P (Some x) h = h
