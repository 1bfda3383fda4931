-- The rules of a table's indexes.
use Rattle.std.proofs.Common.{◌≡◌, ℕ, zero, suc, ◌≤◌, Bool, true, false, not, cond, List, [], ◌∷◌, Option, Some, None, filter, map, option_map, refl, sym, ap, subst}
use Rattle.std.specs.Prelude.{◌==◌, slice_get, IfSome, IsSomeAnd, unwrap_or}
use Rattle.std.specs.List.{AllByRecursion}
use Rattle.database_state.specs.Table.{Table, schema_of, table_with_id}
use Rattle.index_derive.specs.Schemas.{rule_with_id}
use Rattle.index_derive.specs.declared.rules.IndexRule.{IndexRule}
use Rattle.index_derive.specs.declared.rules.Schema.{Schema}
use Rattle.index_derive.specs.Entries.{is_legal}
use Rattle.jet_catalog.specs.Catalog.{CatalogState}
use Rattle.table_trees.specs.StoredTables.{table_long_values, StoredTable, table_nodes}
use Rattle.version_store.specs.HeldChanges.{HeldChange}
use Rattle.stored_variants.specs.RecordRows.{TableValues, held_record_in}
use Rattle.stored_variants.specs.StoredVersions.{StoredVersions}
use Rattle.stored_variants.specs.VersionsKept.{AreKept, AreKeptWith, IsKeptTable, IsStoredRule, only_secondary}
use Rattle.stored_variants.specs.VersionsView.{stored_versions, with_newest_by}
use Rattle.stored_variants.proofs.Tables.{table_at}
use Rattle.common_lemmas.proofs.Found.{of_found}
use Rattle.common_lemmas.proofs.Lists.{all_append, all_filter}

-- an index that is found is one of the table's
pub stored_rule : (table : Table) (index : ℕ) (rule : IndexRule) → AllByRecursion (IsStoredRule table) table.indexes → rule_with_id (schema_of table) index ≡ Some rule → IsStoredRule table rule
stored_rule table index rule all e =
    of_found (IsStoredRule table) (λ r. r.id.0 == index) (schema_of table).indexes rule e
    (all_append (IsStoredRule table) (filter (λ r. r.flags.primary) table.indexes) (filter (λ r. not r.flags.primary) table.indexes)
    (all_filter (IsStoredRule table) (λ r. r.flags.primary) table.indexes all) (all_filter (IsStoredRule table) (λ r. not r.flags.primary) table.indexes all))

-- and so is one that stands in its schema
pub rule_at : (table : Table) (place : ℕ) (rule : IndexRule) → AllByRecursion (IsStoredRule table) table.indexes → slice_get (schema_of table).indexes place ≡ Some rule → IsStoredRule table rule
rule_at table place rule all =
    all_at (schema_of table).indexes place
    (all_append (IsStoredRule table) (filter (λ r. r.flags.primary) table.indexes) (filter (λ r. not r.flags.primary) table.indexes)
    (all_filter (IsStoredRule table) (λ r. r.flags.primary) table.indexes all) (all_filter (IsStoredRule table) (λ r. not r.flags.primary) table.indexes all))
  where
    all_at : (rules : List IndexRule) (n : ℕ) → AllByRecursion (IsStoredRule table) rules → slice_get rules n ≡ Some rule → IsStoredRule table rule
    all_at [] n h e = cc
    all_at (r ∷ rules) zero h e = subst (IsStoredRule table) (ap (λ (o : Option IndexRule). unwrap_or o r) e) h.0
    all_at (r ∷ rules) (suc n) h e = all_at rules n h.1 e

abbrev pub IsLegalRule : Schema → IndexRule → Type 0
IsLegalRule schema rule = (is_legal rule schema ≡ true) × (rule.key_most ≤ 255)

legal_rule : (table : Table) (index : ℕ) → AllByRecursion (IsStoredRule table) table.indexes → IfSome (only_secondary (rule_with_id (schema_of table) index)) (IsLegalRule (schema_of table))
legal_rule table index all = by (rule_with_id (schema_of table) index) refl
  where
    by : (o : Option IndexRule) → rule_with_id (schema_of table) index ≡ o → IfSome (only_secondary o) (IsLegalRule (schema_of table))
    by None e = tt
    by (Some rule) e = secondary rule.flags.primary
      where
        secondary : (b : Bool) → IfSome (cond b None (Some rule)) (IsLegalRule (schema_of table))
        secondary true = tt
        secondary false = let stored = stored_rule table index rule all e in (stored.legal, stored.short)

-- the secondary index of a number is legal, where the schema is the table's
pub legal_secondary : (longs : TableValues) (tables : List Table) (trees : List StoredTable) (held : List HeldChange) → AreKeptWith longs tables trees held → (table : ℕ) (schema : Schema) → IsSomeAnd (table_with_id (map (with_newest_by longs trees) tables) table) (λ t. schema ≡ schema_of t)
    → (index : ℕ) → IfSome (only_secondary (rule_with_id schema index)) (IsLegalRule schema)
legal_secondary longs tables trees held kept table schema known index =
    by (table_with_id tables table) (kept.each table) (subst (λ (o : Option Table). IsSomeAnd o (λ t. schema ≡ schema_of t)) (table_at longs trees tables table) known)
  where
    by : (o : Option Table) → IfSome o (IsKeptTable trees (longs table) (table_nodes trees table) (map (held_record_in longs) held)) → IsSomeAnd (option_map (with_newest_by longs trees) o) (λ t. schema ≡ schema_of t)
        → IfSome (only_secondary (rule_with_id schema index)) (IsLegalRule schema)
    by None is_kept is = absurd is
    by (Some t) is_kept is = subst (λ (s : Schema). IfSome (only_secondary (rule_with_id s index)) (IsLegalRule s)) (sym is) (legal_rule t index is_kept.rules)

-- the same of what the store shows
pub legal_in_store : (latest : ℕ) (catalog : CatalogState) (trees : List StoredTable) (held : List HeldChange) → AreKept catalog.tables trees held → (now : StoredVersions) → stored_versions latest catalog trees held ≡ now
    → (table : ℕ) (schema : Schema) → IsSomeAnd (table_with_id now.store.tables table) (λ t. schema ≡ schema_of t) → (index : ℕ) (rule : Option IndexRule) → rule ≡ only_secondary (rule_with_id schema index) → IfSome rule (IsLegalRule schema)
legal_in_store latest catalog trees held kept now shows table schema known index rule found =
    subst (λ (o : Option IndexRule). IfSome o (IsLegalRule schema)) (sym found)
    (legal_secondary (table_long_values trees) catalog.tables trees held kept table schema (subst (λ (v : StoredVersions). IsSomeAnd (table_with_id v.store.tables table) (λ t. schema ≡ schema_of t)) (sym shows) known) index)
