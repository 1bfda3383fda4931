-- Of the stored entries of an index those that are shown are the entries of the records that the reader sees.
use Rattle.std.proofs.Common.{◌≡◌, ℕ, Bool, true, false, cond, List, [], ◌∷◌, Option, Some, None, filter, find, map, option_map, refl, sym, ap, subst, ◌∙◌}
use Rattle.std.specs.Prelude.{◌==◌, IfSome, IsSomeAnd, unwrap_or}
use Rattle.std.proofs.lemmas.Bool.{eqb-true}
use Rattle.cursor_nav.specs.Places.{Pair, are_sorted}
use Rattle.database_state.specs.Table.{Rows, Table, entries_of_rule, index_entries, row_at, rows_of, schema_of, table_with_id}
use Rattle.index_derive.specs.Schemas.{rule_with_id}
use Rattle.index_derive.specs.declared.rules.IndexRule.{IndexRule}
use Rattle.index_derive.specs.declared.rules.Schema.{Schema}
use Rattle.index_derive.specs.Entries.{derive, own_order}
use Rattle.jet_catalog.specs.Catalog.{CatalogState}
use Rattle.table_trees.specs.StoredNodes.{bookmark_entries}
use Rattle.table_trees.specs.StoredTables.{table_long_values, StoredTable, index_entries as entries_in_tree, table_nodes}
use Rattle.version_store.specs.declared.calls.Reader.{Reader}
use Rattle.version_store.specs.HeldChanges.{HeldChange}
use Rattle.laws_engine.specs.HeldRecords.{HeldRecord, seen_record}
use Rattle.laws_engine.specs.VersionedTables.{VersionedTables, seen_rows, seen_table}
use Rattle.laws_engine.specs.Variants.{HoldsVariants, shown_entries}
use Rattle.laws_engine.proofs.TableLemmas.SeenTables.{seen_at_id}
use Rattle.laws_engine.specs.Holding.{RowsRise}
use Rattle.stored_variants.specs.RecordRows.{TableValues, held_record_in, rows_of_nodes}
use Rattle.stored_variants.specs.StoredVersions.{StoredVersions, entries_in, seen_entries}
use Rattle.stored_variants.specs.VersionsView.{stored_versions, with_newest_by}
use Rattle.stored_variants.specs.VersionsKept.{AreKept, AreKeptWith, IsKeptTable, only_secondary}
use Rattle.table_versions.specs.Walks.{is_entry_of, is_shown, stored_entries}
use Rattle.table_versions.proofs.OwnOrder.{Laws, own_order_is}
use Rattle.stored_variants.proofs.RisingRows.{rows_rise}
use Rattle.stored_variants.proofs.Tables.{found_number, table_at}

abbrev pub WalksSeen : Type 0
WalksSeen =
    (table : ℕ) (reader : Reader) (held : List HeldRecord) (rows : Rows) (rule : IndexRule) (schema : Schema) (entries : List Pair) → RowsRise rows → HoldsVariants rows held rule schema table entries → are_sorted entries ≡ true
    → shown_entries table reader held rows rule schema entries ≡ derive rule schema (seen_rows table reader held rows)

-- the laws that it rests on
pub record WalkLaws : Type 0 where
  pub walks : WalksSeen
  pub own : Laws

abbrev pub rule_among : List IndexRule → ℕ → Option IndexRule
rule_among rules index = find (λ r. r.id.0 == index) rules

-- the rule that was found has the number
pub rule_number : (index : ℕ) (rules : List IndexRule) (rule : IndexRule) → rule_among rules index ≡ Some rule → rule.id.0 ≡ index
rule_number index [] rule e = cc
rule_number index (r ∷ rules) rule e = by (r.id.0 == index) refl (rule_number index rules rule) e
  where
    by : (b : Bool) → (r.id.0 == index) ≡ b → (rule_among rules index ≡ Some rule → rule.id.0 ≡ index) → cond b (Some r) (rule_among rules index) ≡ Some rule → rule.id.0 ≡ index
    by true h rest e = ap (λ (o : Option IndexRule). (unwrap_or o r).id.0) (sym e) ∙ eqb-true r.id.0 index h
    by false h rest e = rest e

-- the entries that are derived of the records which the reader sees
derived_is : (longs : TableValues) → WalkLaws → (trees : List StoredTable) (held : List HeldRecord) (t : Table) (reader : Reader) (index : ℕ)
    → are_sorted (bookmark_entries (table_nodes trees t.id)) ≡ true → ((index : ℕ) → are_sorted (entries_in_tree trees t.id index) ≡ true) → IsKeptTable trees (longs t.id) (table_nodes trees t.id) held t
    → (rule : Option IndexRule) → rule_with_id (schema_of t) index ≡ rule
    → entries_of_rule (schema_of t) (seen_rows t.id reader held (rows_of_nodes (longs t.id) (table_nodes trees t.id))) rule
    ≡ filter (λ entry. is_entry_of (only_secondary rule) (schema_of t) entry.0 (seen_record t.id entry.1 reader (row_at (rows_of_nodes (longs t.id) (table_nodes trees t.id)) entry.1) held)) (stored_entries trees t.id (only_secondary rule))
derived_is longs walks trees held t reader index sorted each kept None e = own_order_is (longs t.id) walks.own t.id reader held (table_nodes trees t.id) sorted kept.stands
derived_is longs walks trees held t reader index sorted each kept (Some rule) e = by rule.flags.primary refl
  where
    rows : Rows
    rows = rows_of_nodes (longs t.id) (table_nodes trees t.id)

    schema : Schema
    schema = schema_of t

    holds : rule.flags.primary ≡ false → HoldsVariants rows held rule schema t.id (entries_in_tree trees t.id rule.id.0)
    holds secondary =
        let P : Option IndexRule → Type 0 = λ o. IfSome o (λ rule. HoldsVariants rows held rule schema t.id (entries_in_tree trees t.id index)) in
        let found : only_secondary (rule_with_id schema index) ≡ Some rule = ap only_secondary e ∙ ap (λ b. cond b None (Some rule)) secondary in
        let Q : ℕ → Type 0 = λ n. HoldsVariants rows held rule schema t.id (entries_in_tree trees t.id n) in
        subst Q (sym (rule_number index schema.indexes rule e)) (subst P found (kept.entries index))

    by : (b : Bool) → rule.flags.primary ≡ b
        → cond b (own_order (seen_rows t.id reader held rows)) (derive rule schema (seen_rows t.id reader held rows))
        ≡ filter (λ entry. is_entry_of (cond b None (Some rule)) schema entry.0 (seen_record t.id entry.1 reader (row_at rows entry.1) held)) (stored_entries trees t.id (cond b None (Some rule)))
    by true p = own_order_is (longs t.id) walks.own t.id reader held (table_nodes trees t.id) sorted kept.stands
    by false p = sym (walks.walks t.id reader held rows rule schema (entries_in_tree trees t.id rule.id.0) (rows_rise (longs t.id) (table_nodes trees t.id) sorted) (holds p) (each rule.id.0))

-- the same of the tables of the catalog
abbrev pub store_of : TableValues → List StoredTable → List Table → List HeldChange → VersionedTables
store_of longs trees tables held = record { tables = map (with_newest_by longs trees) tables; held = map (held_record_in longs) held }

at_id : (longs : TableValues) → WalkLaws → (tables : List Table) (trees : List StoredTable) (held : List HeldChange) → AreKeptWith longs tables trees held → ((table : ℕ) → are_sorted (bookmark_entries (table_nodes trees table)) ≡ true) → ((table index : ℕ) → are_sorted (entries_in_tree trees table index) ≡ true)
    → (t : Table) → table_with_id tables t.id ≡ Some t → (reader : Reader) (index : ℕ)
    → seen_entries reader (store_of longs trees tables held) t.id index
    ≡ filter (is_shown reader (store_of longs trees tables held) t.id (schema_of t) (only_secondary (rule_with_id (schema_of t) index))) (stored_entries trees t.id (only_secondary (rule_with_id (schema_of t) index)))
unfolding index_entries
at_id longs walks tables trees held kept sorted each t e reader index =
    ap (entries_in index) (seen_at_id reader records (map (with_newest_by longs trees) tables) t.id ∙ ap (option_map (seen_table reader records)) newest)
    ∙ derived_is longs walks trees records t reader index (sorted t.id) (each t.id) (subst P e (kept.each t.id)) (rule_with_id (schema_of t) index) refl
    ∙ ap (λ (o : Option Table). filter (λ entry. is_entry_of rule (schema_of t) entry.0 (seen_record t.id entry.1 reader (row_at (rows_of o) entry.1) records)) (stored_entries trees t.id rule)) (sym newest)
  where
    records : List HeldRecord
    records = map (held_record_in longs) held

    rule : Option IndexRule
    rule = only_secondary (rule_with_id (schema_of t) index)

    newest : table_with_id (map (with_newest_by longs trees) tables) t.id ≡ Some (with_newest_by longs trees t)
    newest = table_at longs trees tables t.id ∙ ap (option_map (with_newest_by longs trees)) e

    P : Option Table → Type 0
    P o = IfSome o (IsKeptTable trees (longs t.id) (table_nodes trees t.id) records)

pub shown_is_seen : (longs : TableValues) → WalkLaws → (tables : List Table) (trees : List StoredTable) (held : List HeldChange) → AreKeptWith longs tables trees held → ((table : ℕ) → are_sorted (bookmark_entries (table_nodes trees table)) ≡ true) → ((table index : ℕ) → are_sorted (entries_in_tree trees table index) ≡ true)
    → (table : ℕ) (schema : Schema) → IsSomeAnd (table_with_id (map (with_newest_by longs trees) tables) table) (λ t. schema ≡ schema_of t) → (reader : Reader) (index : ℕ)
    → seen_entries reader (store_of longs trees tables held) table index
    ≡ filter (is_shown reader (store_of longs trees tables held) table schema (only_secondary (rule_with_id schema index))) (stored_entries trees table (only_secondary (rule_with_id schema index)))
shown_is_seen longs walks tables trees held kept sorted each table schema known reader index =
    by (table_with_id tables table) refl (subst (λ (o : Option Table). IsSomeAnd o (λ t. schema ≡ schema_of t)) (table_at longs trees tables table) known)
  where
    Shown : Schema → ℕ → Type 0
    Shown s n =
        seen_entries reader (store_of longs trees tables held) n index
        ≡ filter (is_shown reader (store_of longs trees tables held) n s (only_secondary (rule_with_id s index))) (stored_entries trees n (only_secondary (rule_with_id s index)))

    by : (o : Option Table) → table_with_id tables table ≡ o → IsSomeAnd (option_map (with_newest_by longs trees) o) (λ t. schema ≡ schema_of t) → Shown schema table
    by None e is = absurd is
    by (Some t) e is =
        let found = found_number table tables t e in
        subst (λ (n : ℕ). Shown schema n) found
        (subst (λ (s : Schema). Shown s t.id) (sym is) (at_id longs walks tables trees held kept sorted each t (ap (table_with_id tables) found ∙ e) reader index))

-- ---- in a store

pub stored_sorted : (trees : List StoredTable) (table : ℕ) → ((table : ℕ) → are_sorted (bookmark_entries (table_nodes trees table)) ≡ true) → ((table index : ℕ) → are_sorted (entries_in_tree trees table index) ≡ true)
    → (rule : Option IndexRule) → are_sorted (stored_entries trees table rule) ≡ true
stored_sorted trees table nodes entries None = nodes table
stored_sorted trees table nodes entries (Some rule) = entries table rule.id.0

-- the entries that the reader sees are those of the stored ones that are shown
pub seen_of_stored : WalkLaws → (latest : ℕ) (catalog : CatalogState) (trees : List StoredTable) (held : List HeldChange) → AreKept catalog.tables trees held → ((table : ℕ) → are_sorted (bookmark_entries (table_nodes trees table)) ≡ true) → ((table index : ℕ) → are_sorted (entries_in_tree trees table index) ≡ true)
    → (now : StoredVersions) → stored_versions latest catalog trees held ≡ now → (table : ℕ) (schema : Schema) → IsSomeAnd (table_with_id now.store.tables table) (λ t. schema ≡ schema_of t) → (reader : Reader) (index : ℕ)
    → (rule : Option IndexRule) → rule ≡ only_secondary (rule_with_id schema index)
    → seen_entries reader now.store table index ≡ filter (is_shown reader now.store table schema rule) (stored_entries trees table rule)
seen_of_stored walks latest catalog trees held kept nodes entries now shows table schema known reader index rule found =
    subst (λ (v : StoredVersions). seen_entries reader v.store table index ≡ filter (is_shown reader v.store table schema rule) (stored_entries trees table rule)) shows
    (subst (λ (o : Option IndexRule). seen_entries reader (store_of (table_long_values trees) trees catalog.tables held) table index ≡ filter (is_shown reader (store_of (table_long_values trees) trees catalog.tables held) table schema o) (stored_entries trees table o)) (sym found)
    (shown_is_seen (table_long_values trees) walks catalog.tables trees held kept nodes entries table schema
    (subst (λ (v : StoredVersions). IsSomeAnd (table_with_id v.store.tables table) (λ t. schema ≡ schema_of t)) (sym shows) known) reader index))
