-- The least entry of a record in an index that a reader sees.
use Rattle.std.proofs.Common.{◌≡◌, ℕ, ◌≤◌, All, Bool, true, false, cond, List, [], ◌∷◌, length, Option, Some, None, find, map, option_map, refl, sym, ap, subst, ◌∙◌}
use Rattle.std.specs.Prelude.{◌==◌, bytes_eq, IfSome, IsOk, IsSomeAnd, is_none, is_some, unwrap_or}
use Rattle.std.specs.List.{AllByRecursion}
use Rattle.std.specs.Ordering.{eq_by_cmp, nat_cmp}
use Rattle.std.specs.Cmp.Lexicographic.{slice_cmp, texts_ties}
use Rattle.std.proofs.lemmas.List.Elements.{All-head, All-tail}
use Rattle.common_lemmas.proofs.Numbers.{bytes_turned, same_bytes}
use Rattle.common_lemmas.proofs.Booleans.{impossible}
use Rattle.btree_inplace.specs.Order.{get_in, has_key}
use Rattle.column_set.specs.RecordValues.{RecordFields}
use Rattle.cursor_nav.specs.Places.{Pair, are_sorted, least_entry_of}
use Rattle.database_state.specs.Lawful.{is_indexable}
use Rattle.column_set.specs.Refusals.{first_refusal}
use Rattle.database_state.specs.Table.{Rows, Table, entries_of_rule, index_entries, record_in, row_at, rows_of, schema_of, table_with_id}
use Rattle.index_derive.specs.Schemas.{rule_with_id}
use Rattle.laws_versions.specs.KeptEntries.{entries_with}
use Rattle.index_derive.specs.declared.rules.IndexRule.{IndexRule}
use Rattle.index_derive.specs.declared.rules.Schema.{Schema}
use Rattle.index_derive.specs.Derived.{next_in}
use Rattle.index_derive.specs.Entries.{derive, entries, key_list, own_order}
use Rattle.jet_catalog.specs.Catalog.{CatalogState}
use Rattle.page_image.specs.Page.{Node}
use Rattle.table_trees.specs.StoredNodes.{IsShortNode, bookmark_entries}
use Rattle.table_trees.specs.StoredTables.{table_long_values, StoredTable, table_nodes}
use Rattle.version_store.specs.declared.calls.Reader.{Reader}
use Rattle.version_store.specs.HeldChanges.{HeldChange, SeenRow, current, row_before, absent, hides, seen_at, seen_before, seen_row}
use Rattle.laws_engine.specs.HeldRecords.{HeldRecord, seen_record}
use Rattle.laws_engine.specs.VersionedTables.{VersionedTables, seen_rows, seen_table}
use Rattle.laws_engine.specs.Variants.{has_variant}
use Rattle.laws_engine.specs.Holding.{RowsRise}
use Rattle.stored_variants.specs.RecordRows.{TableValues, held_record_in, record_of, row_under, rows_of_nodes}
use Rattle.stored_variants.specs.StoredVersions.{StoredVersions, entries_in, seen_entries}
use Rattle.stored_variants.specs.VersionsView.{with_newest, stored_versions, with_newest_by}
use Rattle.stored_variants.specs.VersionsKept.{AreKept, AreKeptWith, IsKeptChange, IsKeptTable, IsRowUnder, only_secondary}
use Rattle.stored_variants.proofs.NodeRecords.{record_at}
use Rattle.table_versions.proofs.OwnOrder.{seen_is_variant}
use Rattle.stored_variants.proofs.RisingRows.{rows_rise}
use Rattle.table_versions.proofs.SeenRecords.{hidden_of, hidden_stands, record_seen, seen_is}
use Rattle.laws_engine.proofs.TableLemmas.SeenTables.{seen_at_id}
use Rattle.laws_engine.proofs.TableLemmas.Rising.{seen_rise}
use Rattle.stored_variants.proofs.Tables.{found_number, table_at}
use Rattle.long_value.specs.Values.{Values}
use Rattle.stored_variants.proofs.TakenRecords.{record_taken, refusals_in}
use Rattle.common_lemmas.proofs.Found.{of_found}
use Rattle.laws_engine.proofs.TableLemmas.ShownEntries.{order_is}

-- ---- the entries of the records that a reader sees

-- the records of a table as a reader sees them
abbrev pub rows_seen : Reader → VersionedTables → ℕ → Rows
rows_seen reader store table = seen_rows table reader store.held (rows_of (table_with_id store.tables table))

pub seen_entries_are : (reader : Reader) (store : VersionedTables) (table : ℕ) (schema : Schema) → IsSomeAnd (table_with_id store.tables table) (λ t. schema ≡ schema_of t) → (index : ℕ)
    → seen_entries reader store table index ≡ index_entries schema (rows_seen reader store table) index
seen_entries_are reader store table schema known index =
    ap (entries_in index) (seen_at_id reader store.held store.tables table) ∙ by (table_with_id store.tables table) refl known
  where
    by : (o : Option Table) → table_with_id store.tables table ≡ o → IsSomeAnd o (λ t. schema ≡ schema_of t) → entries_in index (option_map (seen_table reader store.held) o) ≡ index_entries schema (seen_rows table reader store.held (rows_of o)) index
    by None e is = absurd is
    by (Some t) e is =
        ap (λ (n : ℕ). index_entries (schema_of t) (seen_rows n reader store.held t.rows) index) (found_number table store.tables t e)
        ∙ ap (λ (s : Schema). index_entries s (seen_rows table reader store.held t.rows) index) (sym is)

stored_rise : (longs : TableValues) (tables : List Table) (trees : List StoredTable) → ((table : ℕ) → are_sorted (bookmark_entries (table_nodes trees table)) ≡ true) → (table : ℕ) → RowsRise (rows_of (table_with_id (map (with_newest_by longs trees) tables) table))
stored_rise longs tables trees sorted table = subst (λ (o : Option Table). RowsRise (rows_of o)) (sym (table_at longs trees tables table)) (by (table_with_id tables table))
  where
    by : (o : Option Table) → RowsRise (rows_of (option_map (with_newest_by longs trees) o))
    by None = tt
    by (Some t) = rows_rise (longs t.id) (table_nodes trees t.id) (sorted t.id)

pub seen_in_order : (latest : ℕ) (catalog : CatalogState) (trees : List StoredTable) (held : List HeldChange) → ((table : ℕ) → are_sorted (bookmark_entries (table_nodes trees table)) ≡ true)
    → (now : StoredVersions) → stored_versions latest catalog trees held ≡ now → (reader : Reader) (table : ℕ) → are_sorted (own_order (rows_seen reader now.store table)) ≡ true
seen_in_order latest catalog trees held sorted now shows reader table =
    subst (λ (v : StoredVersions). are_sorted (own_order (rows_seen reader v.store table)) ≡ true) shows
    (order_is (rows_seen reader (stored_versions latest catalog trees held).store table)
    (seen_rise table reader (map (held_record_in (table_long_values trees)) held) (rows_of (table_with_id (map (with_newest trees) catalog.tables) table)) (stored_rise (table_long_values trees) catalog.tables trees sorted table)))

-- ---- the least of a record

swapped_bytes : (xs ys : List ℕ) → bytes_eq xs ys ≡ eq_by_cmp (slice_cmp nat_cmp) ys xs
swapped_bytes xs ys = bytes_turned xs ys ∙ texts_ties ys xs

least_own : (bookmark : List ℕ) (rows : Rows) → least_entry_of bookmark (own_order rows) ≡ option_map (λ x. (bookmark, bookmark)) (row_at rows bookmark)
least_own bookmark [] = refl
least_own bookmark (row ∷ rows) = by (bytes_eq row.0 bookmark) (eq_by_cmp (slice_cmp nat_cmp) bookmark row.0) refl (swapped_bytes row.0 bookmark) (least_own bookmark rows)
  where
    by : (b t : Bool) → bytes_eq row.0 bookmark ≡ b → b ≡ t → least_entry_of bookmark (own_order rows) ≡ option_map (λ x. (bookmark, bookmark)) (row_at rows bookmark)
        → cond b (Some (row.0, row.0)) (least_entry_of bookmark (own_order rows)) ≡ option_map (λ x. (bookmark, bookmark)) (cond t (Some row.1) (row_at rows bookmark))
    by true true e same later = ap (λ key. Some (key, key)) (same_bytes row.0 bookmark e)
    by false false e same later = later
    by true false e same later = impossible (sym same)
    by false true e same later = impossible same

no_least : (bookmark : List ℕ) (es : List Pair) → entries_with bookmark es ≡ [] → least_entry_of bookmark es ≡ None
no_least bookmark [] e = refl
no_least bookmark (x ∷ es) e = by (bytes_eq x.1 bookmark) e (no_least bookmark es)
  where
    is_empty : List Pair → Bool
    is_empty [] = true
    is_empty (y ∷ ys) = false

    by : (b : Bool) → cond b (x ∷ entries_with bookmark es) (entries_with bookmark es) ≡ [] → (entries_with bookmark es ≡ [] → least_entry_of bookmark es ≡ None) → cond b (Some x) (least_entry_of bookmark es) ≡ None
    by true e rest = impossible (ap is_empty e)
    by false e rest = rest e

-- what the least entry is, by the record
abbrev pub least_by : List ℕ → Schema → Option IndexRule → Option RecordFields → Option Pair
least_by bookmark schema rule None = None
least_by bookmark schema None (Some values) = Some (bookmark, bookmark)
least_by bookmark schema (Some rule) (Some values) = option_map (λ key. (key, bookmark)) (next_in (key_list rule schema values) None)

-- the laws that it rests on
pub record LeastLaws : Type 0 where
  pub least : (rule : IndexRule) (schema : Schema) (rows : Rows) (bookmark : List ℕ) (values : RecordFields) → are_sorted (own_order rows) ≡ true → row_at rows bookmark ≡ Some values
      → least_entry_of bookmark (derive rule schema rows) ≡ option_map (λ key. (key, bookmark)) (next_in (key_list rule schema values) None)
  pub no_record : (rule : IndexRule) (schema : Schema) (rows : Rows) (bookmark : List ℕ) → row_at rows bookmark ≡ None → entries_with bookmark (derive rule schema rows) ≡ []

abbrev by_secondary : Schema → Rows → Option IndexRule → List Pair
by_secondary schema rows None = own_order rows
by_secondary schema rows (Some rule) = derive rule schema rows

secondary_entries : (schema : Schema) (rows : Rows) (o : Option IndexRule) → entries_of_rule schema rows o ≡ by_secondary schema rows (only_secondary o)
secondary_entries schema rows None = refl
secondary_entries schema rows (Some rule) = by rule.flags.primary
  where
    by : (b : Bool) → cond b (own_order rows) (derive rule schema rows) ≡ by_secondary schema rows (cond b None (Some rule))
    by true = refl
    by false = refl

least_secondary : LeastLaws → (schema : Schema) (rows : Rows) (bookmark : List ℕ) → are_sorted (own_order rows) ≡ true → (found : Option RecordFields) → row_at rows bookmark ≡ found → (rule : Option IndexRule)
    → least_entry_of bookmark (by_secondary schema rows rule) ≡ least_by bookmark schema rule found
least_secondary laws schema rows bookmark sorted None e None = least_own bookmark rows ∙ ap (option_map (λ x. (bookmark, bookmark))) e
least_secondary laws schema rows bookmark sorted (Some values) e None = least_own bookmark rows ∙ ap (option_map (λ x. (bookmark, bookmark))) e
least_secondary laws schema rows bookmark sorted None e (Some rule) = no_least bookmark (derive rule schema rows) (laws.no_record rule schema rows bookmark e)
least_secondary laws schema rows bookmark sorted (Some values) e (Some rule) = laws.least rule schema rows bookmark values sorted e

least_in_index : LeastLaws → (schema : Schema) (rows : Rows) (index : ℕ) (bookmark : List ℕ) → are_sorted (own_order rows) ≡ true → (found : Option RecordFields) → row_at rows bookmark ≡ found → (rule : Option IndexRule)
    → rule ≡ only_secondary (rule_with_id schema index) → least_entry_of bookmark (index_entries schema rows index) ≡ least_by bookmark schema rule found
unfolding index_entries
least_in_index laws schema rows index bookmark sorted found e rule is =
    ap (least_entry_of bookmark) (secondary_entries schema rows (rule_with_id schema index) ∙ ap (by_secondary schema rows) (sym is)) ∙ least_secondary laws schema rows bookmark sorted found e rule

-- a reader's record is the one of the rows that it sees
abbrev pub ShowsSeen : Type 0
ShowsSeen = (table : ℕ) (reader : Reader) (held : List HeldRecord) (rows : Rows) (bookmark : List ℕ) → row_at (seen_rows table reader held rows) bookmark ≡ seen_record table bookmark reader (row_at rows bookmark) held

pub least_seen : LeastLaws → ShowsSeen → (latest : ℕ) (catalog : CatalogState) (trees : List StoredTable) (held : List HeldChange) → ((table : ℕ) → are_sorted (bookmark_entries (table_nodes trees table)) ≡ true)
    → (now : StoredVersions) → stored_versions latest catalog trees held ≡ now → (reader : Reader) (table : ℕ) (schema : Schema) → IsSomeAnd (table_with_id now.store.tables table) (λ t. schema ≡ schema_of t) → (index : ℕ) (bookmark : List ℕ)
    → (found : Option RecordFields) → found ≡ seen_record table bookmark reader (record_in now.store.tables table bookmark) now.store.held → (rule : Option IndexRule) → rule ≡ only_secondary (rule_with_id schema index)
    → least_entry_of bookmark (seen_entries reader now.store table index) ≡ least_by bookmark schema rule found
least_seen laws shows_seen latest catalog trees held sorted now shows reader table schema known index bookmark found is rule secondary =
    ap (least_entry_of bookmark) (seen_entries_are reader now.store table schema known index)
    ∙ least_in_index laws schema (rows_seen reader now.store table) index bookmark (seen_in_order latest catalog trees held sorted now shows reader table) found
    (shows_seen table reader now.store.held (rows_of (table_with_id now.store.tables table)) bookmark ∙ sym is) rule secondary

-- ---- a record that is seen has a short bookmark

short_node : (bookmark : List ℕ) (nodes : List Node) → All IsShortNode nodes → is_some (get_in nodes bookmark) ≡ true → length bookmark ≤ 255
short_node bookmark [] short there = impossible there
short_node bookmark (n ∷ nodes) short there =
    by (has_key bookmark n) refl there (short_node bookmark nodes (All-tail IsShortNode n nodes short))
  where
    rest_there : List Node → Bool → Bool
    rest_there ns b = is_some (option_map (λ (n : Node). n.data) (cond b (Some n) (find (has_key bookmark) ns)))

    by : (b : Bool) → has_key bookmark n ≡ b → rest_there nodes b ≡ true → (is_some (get_in nodes bookmark) ≡ true → length bookmark ≤ 255) → length bookmark ≤ 255
    by true e there rest = subst (λ (key : List ℕ). length key ≤ 255) (same_bytes n.key bookmark (texts_ties n.key bookmark ∙ e)) (All-head IsShortNode n nodes short).bookmark
    by false e there rest = rest there

-- ---- a record that is seen is refused by no index

abbrev IsIndexed : Values → Option Table → List ℕ → Type 0
IsIndexed vals found row = IfSome found (λ t. is_indexable (schema_of t) (record_of vals row) ≡ true)

abbrev IsSeenIndexed : Values → Option Table → SeenRow → Type 0
IsSeenIndexed vals found current = Unit {0}
IsSeenIndexed vals found (row_before row) = IsIndexed vals found row
IsSeenIndexed vals found absent = Unit {0}

before_indexed : (vals : Values) (found : Option Table) (bookmark : List ℕ) (row : Option (List ℕ)) → IfSome found (λ table. IfSome row (IsRowUnder vals table bookmark)) → IsSeenIndexed vals found (seen_before row)
before_indexed vals None bookmark None is = tt
before_indexed vals None bookmark (Some row) is = tt
before_indexed vals (Some t) bookmark None is = tt
before_indexed vals (Some t) bookmark (Some row) is = is.indexable

seen_indexed : (longs : TableValues) (tables : List Table) (trees : List StoredTable) (table : ℕ) (bookmark : List ℕ) (reader : Reader) (held : List HeldChange) → AllByRecursion (IsKeptChange longs tables trees) held → IsSeenIndexed (longs table) (table_with_id tables table) (seen_row table bookmark reader held)
seen_indexed longs tables trees table bookmark reader [] kept = tt
seen_indexed longs tables trees table bookmark reader (h ∷ held) kept = by (hides table bookmark reader h) refl (seen_indexed longs tables trees table bookmark reader held kept.1)
  where
    by : (b : Bool) → hides table bookmark reader h ≡ b → IsSeenIndexed (longs table) (table_with_id tables table) (seen_row table bookmark reader held) → IsSeenIndexed (longs table) (table_with_id tables table) (seen_at (cond b (Some h) (find (hides table bookmark reader) held)))
    by true hit rest =
        subst (λ (n : ℕ). IsSeenIndexed (longs n) (table_with_id tables n) (seen_before h.before)) (hidden_of table bookmark reader h hit)
        (before_indexed (longs h.table) (table_with_id tables h.table) h.bookmark h.before (kept.0.before (hidden_stands table bookmark reader h hit)))
    by false miss rest = rest

-- the newest record, or the one before a change, is one of the table
record_indexed : (vals : Values) (t : Table) (newest : Option RecordFields) (seen : SeenRow) (values : RecordFields) → IfSome newest (λ v. is_indexable (schema_of t) v ≡ true) → IsSeenIndexed vals (Some t) seen → record_seen vals newest seen ≡ Some values → is_indexable (schema_of t) values ≡ true
record_indexed vals t newest current values own before e = subst (λ (o : Option RecordFields). IfSome o (λ v. is_indexable (schema_of t) v ≡ true)) e own
record_indexed vals t newest (row_before row) values own before e = subst (λ (o : Option RecordFields). IfSome o (λ v. is_indexable (schema_of t) v ≡ true)) e before
record_indexed vals t newest absent values own before e = impossible (ap (λ (o : Option RecordFields). is_some o) e)

newest_indexed : (vals : Values) (t : Table) (bookmark : List ℕ) (row : Option (List ℕ)) → IfSome row (IsRowUnder vals t bookmark) → IfSome (option_map (record_of vals) row) (λ v. is_indexable (schema_of t) v ≡ true)
newest_indexed vals t bookmark None is = tt
newest_indexed vals t bookmark (Some row) is = is.indexable

-- what is known of a record that a reader sees
pub record IsSeen (schema : Schema) (bookmark : List ℕ) (values : RecordFields) : Type 0 where
  pub short : length bookmark ≤ 255
  pub indexable : is_indexable schema values ≡ true

seen_of_table : (longs : TableValues) (tables : List Table) (trees : List StoredTable) (held : List HeldChange) → AreKeptWith longs tables trees held → ((table : ℕ) → are_sorted (bookmark_entries (table_nodes trees table)) ≡ true) → ((table : ℕ) → All IsShortNode (table_nodes trees table))
    → (reader : Reader) (table : ℕ) (schema : Schema) (bookmark : List ℕ) (values : RecordFields) → IsSomeAnd (table_with_id (map (with_newest_by longs trees) tables) table) (λ t. schema ≡ schema_of t)
    → seen_record table bookmark reader (record_in (map (with_newest_by longs trees) tables) table bookmark) (map (held_record_in longs) held) ≡ Some values → IsSeen schema bookmark values
seen_of_table longs tables trees held kept sorted short reader table schema bookmark values known seen =
    by (table_with_id tables table) refl (kept.each table) (subst (λ (o : Option Table). IsSomeAnd o (λ t. schema ≡ schema_of t)) (table_at longs trees tables table) known)
  where
    nodes : List Node
    nodes = table_nodes trees table

    by : (o : Option Table) → table_with_id tables table ≡ o → IfSome o (IsKeptTable trees (longs table) nodes (map (held_record_in longs) held)) → IsSomeAnd (option_map (with_newest_by longs trees) o) (λ t. schema ≡ schema_of t) → IsSeen schema bookmark values
    by None e own is = absurd is
    by (Some t) e own is =
        let number : t.id ≡ table = found_number table tables t e in
        let newest : record_in (map (with_newest_by longs trees) tables) table bookmark ≡ row_at (rows_of_nodes (longs table) nodes) bookmark =
        ap (λ (o : Option Table). row_at (rows_of o) bookmark) (table_at longs trees tables table ∙ ap (option_map (with_newest_by longs trees)) e) ∙ ap (λ (n : ℕ). row_at (rows_of_nodes (longs n) (table_nodes trees n)) bookmark) number in
        let shown : seen_record table bookmark reader (row_at (rows_of_nodes (longs table) nodes) bookmark) (map (held_record_in longs) held) ≡ Some values =
        ap (λ (o : Option RecordFields). seen_record table bookmark reader o (map (held_record_in longs) held)) (sym newest) ∙ seen in
        let variant = seen_is_variant reader table bookmark (row_at (rows_of_nodes (longs table) nodes) bookmark) (map (held_record_in longs) held) (ap (λ (o : Option RecordFields). is_some o) shown) in
        let stands : is_some (get_in nodes bookmark) ≡ true =
        own.stands bookmark ∙ ap (λ (n : ℕ). has_variant (row_at (rows_of_nodes (longs table) nodes) bookmark) (map (held_record_in longs) held) n bookmark) number ∙ variant in
        record {
          short = short_node bookmark nodes (short table) stands;
          indexable =
              ap (λ (s : Schema). is_indexable s values) is
              ∙ record_indexed (longs table) t (row_at (rows_of_nodes (longs table) nodes) bookmark) (seen_row table bookmark reader held) values
              (subst (λ (o : Option RecordFields). IfSome o (λ v. is_indexable (schema_of t) v ≡ true)) (sym (record_at (longs table) nodes (sorted table) bookmark)) (newest_indexed (longs table) t bookmark (row_under nodes bookmark) (own.rows bookmark)))
              (subst (λ (o : Option Table). IsSeenIndexed (longs table) o (seen_row table bookmark reader held)) e (seen_indexed longs tables trees table bookmark reader held kept.changes))
              (sym (seen_is longs table bookmark reader (row_at (rows_of_nodes (longs table) nodes) bookmark) held) ∙ shown);
        }

pub is_seen : (latest : ℕ) (catalog : CatalogState) (trees : List StoredTable) (held : List HeldChange) → AreKept catalog.tables trees held → ((table : ℕ) → are_sorted (bookmark_entries (table_nodes trees table)) ≡ true) → ((table : ℕ) → All IsShortNode (table_nodes trees table))
    → (now : StoredVersions) → stored_versions latest catalog trees held ≡ now → (reader : Reader) (table : ℕ) (schema : Schema) (bookmark : List ℕ) (values : RecordFields) → IsSomeAnd (table_with_id now.store.tables table) (λ t. schema ≡ schema_of t)
    → seen_record table bookmark reader (record_in now.store.tables table bookmark) now.store.held ≡ Some values → IsSeen schema bookmark values
is_seen latest catalog trees held kept sorted short now shows reader table schema bookmark values =
    subst (λ (v : StoredVersions). IsSomeAnd (table_with_id v.store.tables table) (λ t. schema ≡ schema_of t) → seen_record table bookmark reader (record_in v.store.tables table bookmark) v.store.held ≡ Some values → IsSeen schema bookmark values) shows
    (seen_of_table (table_long_values trees) catalog.tables trees held kept sorted short reader table schema bookmark values)

-- a record that no index refuses has keys in each
has_keys : (schema : Schema) (values : RecordFields) (index : ℕ) (rules : List IndexRule) (rule : IndexRule) → is_none (first_refusal (refusals_in schema values rules)) ≡ true → find (λ r. r.id.0 == index) rules ≡ Some rule → IsOk (entries rule schema values)
has_keys schema values index rules rule unrefused found = of_found (λ r. IsOk (entries r schema values)) (λ r. r.id.0 == index) rules rule found (record_taken schema values rules unrefused)

secondary_keys : (schema : Schema) (values : RecordFields) (index : ℕ) (o : Option IndexRule) → ((r : IndexRule) → o ≡ Some r → IsOk (entries r schema values)) → (rule : IndexRule) → Some rule ≡ only_secondary o → IsOk (entries rule schema values)
secondary_keys schema values index None all rule e = impossible (ap (λ (o : Option IndexRule). is_some o) (sym e))
secondary_keys schema values index (Some r) all rule e = by r.flags.primary e
  where
    by : (b : Bool) → Some rule ≡ cond b None (Some r) → IsOk (entries rule schema values)
    by true e = impossible (ap (λ (o : Option IndexRule). is_some o) (sym e))
    by false e = subst (λ (x : IndexRule). IsOk (entries x schema values)) (ap (λ (o : Option IndexRule). unwrap_or o r) (sym e)) (all r refl)

pub has_keys_in : (schema : Schema) (values : RecordFields) (index : ℕ) (rule : IndexRule) → is_indexable schema values ≡ true → Some rule ≡ only_secondary (rule_with_id schema index) → IsOk (entries rule schema values)
has_keys_in schema values index rule indexable e =
    secondary_keys schema values index (rule_with_id schema index) (λ r found. has_keys schema values index schema.indexes r indexable found) rule e
