-- The entries that a reader sees are in order, and few.
use Rattle.std.proofs.Common.{◌≡◌, ℕ, ◌≤◌, ◌<◌, ◌^◌, Bool, true, List, [], length, Option, Some, None, filter, option_map, refl, sym, ap, subst, ◌∙◌, arith}
use Rattle.std.specs.Prelude.{IsSomeAnd}
use Rattle.std.proofs.lemmas.List.{length-map}
use Rattle.common_lemmas.proofs.Lists.{length-filter}
use Rattle.cursor_nav.specs.Places.{Pair, are_sorted}
use Rattle.database_state.specs.Table.{Table, schema_of, table_with_id}
use Rattle.index_derive.specs.Schemas.{rule_with_id}
use Rattle.index_derive.specs.declared.rules.IndexRule.{IndexRule}
use Rattle.jet_catalog.specs.Catalog.{CatalogState}
use Rattle.page_image.specs.Page.{Node}
use Rattle.table_trees.specs.StoredNodes.{bookmark_entries}
use Rattle.table_trees.specs.StoredTables.{StoredTable, index_entries as entries_in_tree, table_nodes}
use Rattle.version_store.specs.declared.calls.Reader.{Reader}
use Rattle.version_store.specs.HeldChanges.{HeldChange}
use Rattle.laws_engine.specs.VersionedTables.{seen_table}
use Rattle.stored_variants.specs.StoredVersions.{StoredVersions, entries_in, seen_entries}
use Rattle.stored_variants.specs.VersionsView.{stored_versions}
use Rattle.stored_variants.specs.VersionsKept.{AreKept, only_secondary}
use Rattle.table_versions.specs.Walks.{is_shown, stored_entries}
use Rattle.laws_engine.proofs.TableLemmas.SeenTables.{seen_at_id}
use Rattle.table_versions.proofs.ShownEntries.{WalkLaws, seen_of_stored, stored_sorted}

-- what holds of no entries, and of each part of the stored ones, holds of those that a reader sees
seen_by_stored : WalkLaws → (latest : ℕ) (catalog : CatalogState) (trees : List StoredTable) (held : List HeldChange) → AreKept catalog.tables trees held → ((table : ℕ) → are_sorted (bookmark_entries (table_nodes trees table)) ≡ true) → ((table index : ℕ) → are_sorted (entries_in_tree trees table index) ≡ true)
    → (now : StoredVersions) → stored_versions latest catalog trees held ≡ now → (P : List Pair → Type 0) → P [] → (reader : Reader) (table index : ℕ) → ((test : Pair → Bool) (rule : Option IndexRule) → P (filter test (stored_entries trees table rule)))
    → P (seen_entries reader now.store table index)
seen_by_stored laws latest catalog trees held kept nodes entries now shows P none reader table index some = by (table_with_id now.store.tables table) refl
  where
    by : (o : Option Table) → table_with_id now.store.tables table ≡ o → P (seen_entries reader now.store table index)
    by None e = subst P (sym (ap (entries_in index) (seen_at_id reader now.store.held now.store.tables table ∙ ap (option_map (seen_table reader now.store.held)) e))) none
    by (Some t) e =
        let rule : Option IndexRule = only_secondary (rule_with_id (schema_of t) index) in
        let known : IsSomeAnd (table_with_id now.store.tables table) (λ u. schema_of t ≡ schema_of u) = subst (λ (o : Option Table). IsSomeAnd o (λ u. schema_of t ≡ schema_of u)) (sym e) refl in
        subst P (sym (seen_of_stored laws latest catalog trees held kept nodes entries now shows table (schema_of t) known reader index rule refl)) (some (is_shown reader now.store table (schema_of t) rule) rule)

pub seen_sorted : WalkLaws → (latest : ℕ) (catalog : CatalogState) (trees : List StoredTable) (held : List HeldChange) → AreKept catalog.tables trees held → ((table : ℕ) → are_sorted (bookmark_entries (table_nodes trees table)) ≡ true) → ((table index : ℕ) → are_sorted (entries_in_tree trees table index) ≡ true)
    → (now : StoredVersions) → stored_versions latest catalog trees held ≡ now → (reader : Reader) (table index : ℕ) → are_sorted (seen_entries reader now.store table index) ≡ true
seen_sorted laws latest catalog trees held kept nodes entries now shows reader table index =
    seen_by_stored laws latest catalog trees held kept nodes entries now shows (λ es. are_sorted es ≡ true) refl reader table index
    (λ test rule. laws.own.some test (stored_entries trees table rule) (stored_sorted trees table nodes entries rule))

stored_few : (trees : List StoredTable) (table : ℕ) → ((table : ℕ) → length (table_nodes trees table) < 2 ^ 34) → ((table index : ℕ) → length (entries_in_tree trees table index) < 2 ^ 34) → (rule : Option IndexRule) → length (stored_entries trees table rule) < 2 ^ 34
stored_few trees table nodes entries None = subst (λ n. n < 2 ^ 34) (sym (length-map (table_nodes trees table) (λ (n : Node). (n.key, n.key)))) (nodes table)
stored_few trees table nodes entries (Some rule) = entries table rule.id.0

at_most : (m n bound : ℕ) → m ≤ n → n < bound → m < bound
at_most m n bound low few = omega (arith, low, few)

pub seen_few : WalkLaws → (latest : ℕ) (catalog : CatalogState) (trees : List StoredTable) (held : List HeldChange) → AreKept catalog.tables trees held → ((table : ℕ) → are_sorted (bookmark_entries (table_nodes trees table)) ≡ true) → ((table index : ℕ) → are_sorted (entries_in_tree trees table index) ≡ true)
    → ((table : ℕ) → length (table_nodes trees table) < 2 ^ 34) → ((table index : ℕ) → length (entries_in_tree trees table index) < 2 ^ 34)
    → (now : StoredVersions) → stored_versions latest catalog trees held ≡ now → (reader : Reader) (table index : ℕ) → length (seen_entries reader now.store table index) < 2 ^ 34
seen_few laws latest catalog trees held kept nodes entries few_nodes few_entries now shows reader table index =
    seen_by_stored laws latest catalog trees held kept nodes entries now shows (λ es. length es < 2 ^ 34) (omega arith) reader table index
    (λ test rule. at_most (length (filter test (stored_entries trees table rule))) (length (stored_entries trees table rule)) (2 ^ 34) (length-filter test (stored_entries trees table rule)) (stored_few trees table few_nodes few_entries rule))
