-- A schema step of the store, once no change is held.
use Rattle.std.proofs.Common.{◌≡◌, ℕ, true, List, [], ◌∷◌, Option, Some, None, map, option_map, refl, sym, ap, subst, ◌∙◌, false}
use Rattle.std.specs.Prelude.{IsSomeAnd, is_some}
use Rattle.database_state.specs.SchemaChanges.{has_column}
use Rattle.database_state.specs.Table.{Table, table_with_id}
use Rattle.index_derive.specs.declared.schema_calls.SchemaStep.{SchemaStep}
use Rattle.jet_catalog.specs.Catalog.{CatalogState}
use Rattle.table_trees.specs.ShownCatalogs.{ShowsCatalog}
use Rattle.table_trees.specs.StoredTables.{table_long_values, StoredTable}
use Rattle.table_trees.specs.StoredTrees.{StoredCatalog, StoredTrees}
use Rattle.long_rows.specs.RowReferences.{identifier}
use Rattle.long_value.specs.Values.{value_of}
use Rattle.stored_variants.specs.CountedValues.{AreCounted, BringsNoValue, HasNoValueBehind}
use Rattle.variant_trees.specs.GoneKeys.{KeepsValues}
use Rattle.version_store.specs.HeldChanges.{HeldChange}
use Rattle.stored_variants.specs.RecordRows.{TableValues, held_record_in}
use Rattle.stored_variants.specs.SchemaSteps.{IsMade, after_step}
use Rattle.stored_variants.specs.StoredVersions.{StoredVersions}
use Rattle.stored_variants.specs.VersionsKept.{AreKept, IsStore, secondary_rule}
use Rattle.stored_variants.specs.VersionsView.{with_newest, stored_versions}
use Rattle.stored_variants.proofs.Tables.{table_at}
use Rattle.index_derive.specs.Entries.{column_is_used}
use Rattle.jet_base.specs.declared.ids.ColumnId.{ColumnId}

none_held : (longs : TableValues) (held : List HeldChange) → map (held_record_in longs) held ≡ [] → held ≡ []
none_held longs [] e = refl
none_held longs (h ∷ held) e = cc

pub nothing_held : (latest : ℕ) (catalog : CatalogState) (trees : List StoredTable) (held : List HeldChange) (now : StoredVersions) → stored_versions latest catalog trees held ≡ now → now.store.held ≡ [] → held ≡ []
nothing_held latest catalog trees held now shows none = none_held (table_long_values trees) held (ap (λ (v : StoredVersions). v.store.held) shows ∙ none)

pub settled_parts : (latest : ℕ) (catalog : CatalogState) (trees : List StoredTable) (held : List HeldChange) → AreKept catalog.tables trees held → (now : StoredVersions) → stored_versions latest catalog trees held ≡ now → now.store.held ≡ [] → AreKept catalog.tables trees []
settled_parts latest catalog trees held kept now shows none = subst (λ (h : List HeldChange). AreKept catalog.tables trees h) (nothing_held latest catalog trees held now shows none) kept

pub settled_counts : (latest : ℕ) (catalog : CatalogState) (trees : List StoredTable) (held : List HeldChange) → AreCounted trees held → (now : StoredVersions) → stored_versions latest catalog trees held ≡ now → now.store.held ≡ [] → AreCounted trees []
settled_counts latest catalog trees held counts now shows none = subst (AreCounted trees) (nothing_held latest catalog trees held now shows none) counts

-- ---- the parts of a store

-- what its parts are, but for the catalog's own nodes
pub record IsStored (latest : ℕ) (catalog : CatalogState) (trees : List StoredTable) (held : List HeldChange) : Type 0 where
  pub kept : AreKept catalog.tables trees held
  pub counts : AreCounted trees held
  pub entries : HasNoValueBehind latest trees

pub parts_of_store : (latest : ℕ) (catalog : CatalogState) (trees : StoredTrees) (held : List HeldChange) → IsStore latest catalog trees held → IsStored latest catalog trees.tables held
parts_of_store latest catalog trees held is = record { kept = is.kept; counts = is.counts; entries = is.entries }

-- no long value has come
pub entries_stay : (latest : ℕ) (old new : List StoredTable) → BringsNoValue old new → HasNoValueBehind latest old → HasNoValueBehind latest new
entries_stay latest old new brings none = λ table number place outside fits place_fits. brings table (identifier number place) (none table number place outside fits place_fits)

pub brings_none : (old new : List StoredTable) → KeepsValues old new → BringsNoValue old new
brings_none old new keeps = λ table id none. ap (value_of id) (keeps table) ∙ none

-- the long values of all tables are the same
pub same_values : (old new : List StoredTable) → KeepsValues old new → table_long_values new ≡ table_long_values old
same_values old new keeps = λ i table. keeps table i

-- what the parts are after the step, and what they show
pub record IsAfterStep (latest : ℕ) (catalog : CatalogState) (trees : List StoredTable) (held : List HeldChange) (made : SchemaStep) (now : StoredVersions) : Type 0 where
  pub stored : IsStored latest catalog trees held
  pub shown : stored_versions latest catalog trees held ≡ after_step made now

pub is_after : (latest : ℕ) (catalog : CatalogState) (trees : List StoredTable) (held : List HeldChange) → HasNoValueBehind latest trees → (now : StoredVersions) → stored_versions latest catalog trees held ≡ now → now.store.held ≡ []
    → (made : SchemaStep) (new : CatalogState) (other : List StoredTable) → IsMade made catalog trees new other → IsAfterStep latest new other held made now
is_after latest catalog trees held entries now shows none made new other is =
    let empty = nothing_held latest catalog trees held now shows none in
    record {
      stored = record {
        kept = subst (λ (h : List HeldChange). AreKept new.tables other h) (sym empty) is.kept;
        counts = subst (AreCounted other) (sym empty) is.counts;
        entries = entries_stay latest trees other is.values entries;
      };
      shown =
          ap (stored_versions latest new other) empty ∙ is.shown latest
          ∙ ap (λ (h : List HeldChange). after_step made (stored_versions latest catalog trees h)) (sym empty) ∙ ap (after_step made) shows;
    }

-- ---- what is asked of a table, in the catalog

pub in_catalog : (latest : ℕ) (catalog : CatalogState) (trees : List StoredTable) (held : List HeldChange) (now : StoredVersions) → stored_versions latest catalog trees held ≡ now → (id : ℕ) → table_with_id now.store.tables id ≡ table_with_id (map (with_newest trees) catalog.tables) id
in_catalog latest catalog trees held now shows id = sym (ap (λ (v : StoredVersions). table_with_id v.store.tables id) shows)

pub there_in_catalog : (latest : ℕ) (catalog : CatalogState) (trees : List StoredTable) (held : List HeldChange) (now : StoredVersions) → stored_versions latest catalog trees held ≡ now → (id : ℕ) → is_some (table_with_id now.store.tables id) ≡ true → is_some (table_with_id catalog.tables id) ≡ true
there_in_catalog latest catalog trees held now shows id there =
    by (table_with_id catalog.tables id) (sym (ap is_some (in_catalog latest catalog trees held now shows id ∙ table_at (table_long_values trees) trees catalog.tables id)) ∙ there)
  where
    by : (o : Option Table) → is_some (option_map (with_newest trees) o) ≡ true → is_some o ≡ true
    by None e = e
    by (Some t) e = refl

pub index_in_catalog : (latest : ℕ) (catalog : CatalogState) (trees : List StoredTable) (held : List HeldChange) (now : StoredVersions) → stored_versions latest catalog trees held ≡ now → (id index : ℕ)
    → IsSomeAnd (table_with_id now.store.tables id) (λ t. is_some (secondary_rule t index) ≡ true) → IsSomeAnd (table_with_id catalog.tables id) (λ t. is_some (secondary_rule t index) ≡ true)
index_in_catalog latest catalog trees held now shows id index there =
    by (table_with_id catalog.tables id)
    (subst (λ (o : Option Table). IsSomeAnd o (λ t. is_some (secondary_rule t index) ≡ true)) (in_catalog latest catalog trees held now shows id ∙ table_at (table_long_values trees) trees catalog.tables id) there)
  where
    by : (o : Option Table) → IsSomeAnd (option_map (with_newest trees) o) (λ t. is_some (secondary_rule t index) ≡ true) → IsSomeAnd o (λ t. is_some (secondary_rule t index) ≡ true)
    by None h = h
    by (Some t) h = h

-- ---- after want of memory

pub unchanged_stored : (latest : ℕ) (catalog same : CatalogState) (trees others : List StoredTable) (held : List HeldChange) → (same ≡ catalog) × (others ≡ trees) → IsStored latest catalog trees held → IsStored latest same others held
unchanged_stored latest catalog same trees others held e stored =
    subst (λ (c : CatalogState). IsStored latest c others held) (sym e.0) (subst (λ (t : List StoredTable). IsStored latest catalog t held) (sym e.1) stored)

pub unchanged_shown : (latest : ℕ) (catalog same : CatalogState) (trees others : List StoredTable) (held : List HeldChange) (now : StoredVersions) → (same ≡ catalog) × (others ≡ trees) → stored_versions latest catalog trees held ≡ now → stored_versions latest same others held ≡ now
unchanged_shown latest catalog same trees others held now e shows = (λ i. stored_versions latest (e.0 i) (e.1 i) held) ∙ shows

-- what is asked of the column, in the catalog
pub unused_in_catalog : (latest : ℕ) (catalog : CatalogState) (trees : List StoredTable) (held : List HeldChange) (now : StoredVersions) → stored_versions latest catalog trees held ≡ now → (id : ℕ) (column : ColumnId)
    → IsSomeAnd (table_with_id now.store.tables id) (λ t. column_is_used column t.indexes ≡ false) → IsSomeAnd (table_with_id catalog.tables id) (λ t. column_is_used column t.indexes ≡ false)
unused_in_catalog latest catalog trees held now shows id column unused =
    by (table_with_id catalog.tables id)
    (subst (λ (o : Option Table). IsSomeAnd o (λ t. column_is_used column t.indexes ≡ false)) (in_catalog latest catalog trees held now shows id ∙ table_at (table_long_values trees) trees catalog.tables id) unused)
  where
    by : (o : Option Table) → IsSomeAnd (option_map (with_newest trees) o) (λ t. column_is_used column t.indexes ≡ false) → IsSomeAnd o (λ t. column_is_used column t.indexes ≡ false)
    by None h = h
    by (Some t) h = h

-- the column is there, in the catalog
pub has_in_catalog : (latest : ℕ) (catalog : CatalogState) (trees : List StoredTable) (held : List HeldChange) (now : StoredVersions) → stored_versions latest catalog trees held ≡ now → (id : ℕ) (column : ColumnId)
    → IsSomeAnd (table_with_id now.store.tables id) (λ t. has_column t column.0 ≡ true) → IsSomeAnd (table_with_id catalog.tables id) (λ t. has_column t column.0 ≡ true)
has_in_catalog latest catalog trees held now shows id column there =
    by (table_with_id catalog.tables id)
    (subst (λ (o : Option Table). IsSomeAnd o (λ t. has_column t column.0 ≡ true)) (in_catalog latest catalog trees held now shows id ∙ table_at (table_long_values trees) trees catalog.tables id) there)
  where
    by : (o : Option Table) → IsSomeAnd (option_map (with_newest trees) o) (λ t. has_column t column.0 ≡ true) → IsSomeAnd o (λ t. has_column t column.0 ≡ true)
    by None h = h
    by (Some t) h = h

-- ---- the catalog beside the trees

-- its nodes have not changed
pub still_shown : (catalog : CatalogState) (was is : StoredCatalog) → is ≡ was → ShowsCatalog was catalog → ShowsCatalog is catalog
still_shown catalog was is same shows = subst (λ (s : StoredCatalog). ShowsCatalog s catalog) (sym same) shows
