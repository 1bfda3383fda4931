-- Key conflicts in the store: which records can have a key.
use Rattle.std.proofs.Common.{◌≡◌, ℕ, zero, suc, Bool, true, false, not, ◌&&◌, ◌||◌, cond, List, [], ◌∷◌, length, Option, Some, None, Ok, Err, map, option_map, refl, sym, ap, subst, ◌∙◌}
use Rattle.std.specs.Prelude.{◌==◌, bytes_eq, slice_get, unwrap_or, IfSome, IsSomeAnd, MatchOption}
use Rattle.std.specs.List.{AllByRecursion, list_any}
use Rattle.std.proofs.lemmas.Bool.{and_from, eqb-true}
use Rattle.common_lemmas.proofs.Options.{none_some}
use Rattle.common_lemmas.proofs.Booleans.{and_left, and_right, impossible}
use Rattle.common_lemmas.proofs.Numbers.{same_bytes}
use Rattle.column_set.specs.RecordValues.{RecordFields, has_value}
use Rattle.cursor_nav.specs.Places.{are_sorted}
use Rattle.database_state.specs.Conflicts.{yields_key}
use Rattle.database_state.specs.State.{is_undone}
use Rattle.database_state.specs.Table.{Table, record_in, row_at, rows_of, schema_of, table_with_id}
use Rattle.index_derive.specs.Schemas.{primary_rule, rule_with_id}
use Rattle.index_derive.specs.declared.rules.IndexRule.{IndexRule}
use Rattle.index_derive.specs.declared.rules.Schema.{Schema}
use Rattle.index_derive.specs.Entries.{NullKeyDisallowed, KeyTruncated, entries, is_legal, key_columns, keys_or_none, primary_key, whole_key}
use Rattle.index_derive.specs.Primary.{first_values}
use Rattle.key_normal.specs.KeyBytes.{is_cut}
use Rattle.jet_catalog.specs.Catalog.{CatalogState}
use Rattle.table_trees.specs.StoredNodes.{bookmark_entries}
use Rattle.table_trees.specs.StoredTables.{table_long_values, StoredTable, index_entries, table_nodes}
use Rattle.version_store.specs.declared.calls.Reader.{Reader}
use Rattle.version_store.specs.HeldChanges.{HeldChange, is_record, is_rewrite, is_standing}
use Rattle.laws_engine.specs.HeldRecords.{HeldRecord, has_key_conflict, is_standing_rewrite}
use Rattle.laws_engine.specs.Variants.{HoldsVariants, is_variant_key}
use Rattle.table_versions.specs.KeyConflicts.{AreRowsBefore, conflicts_under}
use Rattle.stored_variants.specs.RecordRows.{TableValues, held_record_in, record_of, row_under, rows_of_nodes}
use Rattle.stored_variants.specs.StoredVersions.{StoredVersions}
use Rattle.stored_variants.specs.VersionsKept.{AreKept, AreKeptWith, IsKeptChange, IsKeptTable, IsRowUnder, only_secondary}
use Rattle.stored_variants.specs.VersionsView.{with_newest, stored_versions, with_newest_by}
use Rattle.table_versions.proofs.KeyConflicts.{conflict_at_entries, conflict_under_one}
use Rattle.table_versions.proofs.SeenRecords.{before_is_row}
use Rattle.table_versions.proofs.StoredRules.{IsLegalRule, rule_at, stored_rule}
use Rattle.stored_variants.proofs.Tables.{found_number, newest_at, table_at}
use Rattle.table_versions.proofs.WithKey.{has_key_and}
use Rattle.long_value.specs.Values.{Values}
use Rattle.laws_versions.proofs.KeyLemmas.BookmarkKeys.{HasOneEntry}

-- ---- rows before changes

pub rows_before : (longs : TableValues) (tables : List Table) (trees : List StoredTable) (held : List HeldChange) → AllByRecursion (IsKeptChange longs tables trees) held → AreRowsBefore longs held
rows_before longs tables trees [] kept place h e standing = none_some h e
rows_before longs tables trees (x ∷ held) kept zero h e standing =
    let same : x ≡ h = ap (λ (o : Option HeldChange). unwrap_or o x) e in
    let is : IsKeptChange longs tables trees h = subst (IsKeptChange longs tables trees) same kept.0 in
    before_is_row (longs h.table) (table_with_id tables h.table) h.bookmark h.before is.named (is.before standing)
rows_before longs tables trees (x ∷ held) kept (suc place) h e standing = rows_before longs tables trees held kept.1 place h e standing

-- ---- the table of a number

-- what holds of each table of the catalog holds of the one that is named
named_table : (longs : TableValues) (P : ℕ → Schema → Type 0) (tables : List Table) (trees : List StoredTable) (held : List HeldChange) → AreKeptWith longs tables trees held
    → ((t : Table) → table_with_id tables t.id ≡ Some t → IsKeptTable trees (longs t.id) (table_nodes trees t.id) (map (held_record_in longs) held) t → P t.id (schema_of t))
    → (table : ℕ) (schema : Schema) → IsSomeAnd (table_with_id (map (with_newest_by longs trees) tables) table) (λ t. schema ≡ schema_of t) → P table schema
named_table longs P tables trees held kept each table schema known =
    by (table_with_id tables table) refl (subst (λ (o : Option Table). IsSomeAnd o (λ t. schema ≡ schema_of t)) (table_at longs trees tables table) known)
  where
    by : (o : Option Table) → table_with_id tables table ≡ o → IsSomeAnd (option_map (with_newest_by longs trees) o) (λ t. schema ≡ schema_of t) → P table schema
    by None e is = absurd is
    by (Some t) e is =
        let found = found_number table tables t e in
        let named : table_with_id tables t.id ≡ Some t = ap (table_with_id tables) found ∙ e in
        let K : Option Table → Type 0 = λ o. IfSome o (IsKeptTable trees (longs t.id) (table_nodes trees t.id) (map (held_record_in longs) held)) in
        subst (λ (n : ℕ). P n schema) found (subst (P t.id) (sym is) (each t named (subst K named (kept.each t.id))))

-- the same in a store
pub in_store : (P : StoredVersions → ℕ → Schema → Type 0) (latest : ℕ) (catalog : CatalogState) (trees : List StoredTable) (held : List HeldChange) → AreKept catalog.tables trees held
    → ((t : Table) → table_with_id catalog.tables t.id ≡ Some t → IsKeptTable trees (table_long_values trees t.id) (table_nodes trees t.id) (map (held_record_in (table_long_values trees)) held) t → P (stored_versions latest catalog trees held) t.id (schema_of t))
    → (now : StoredVersions) → stored_versions latest catalog trees held ≡ now → (table : ℕ) (schema : Schema) → IsSomeAnd (table_with_id now.store.tables table) (λ t. schema ≡ schema_of t) → P now table schema
in_store P latest catalog trees held kept each now shows table schema known =
    subst (λ (v : StoredVersions). P v table schema) shows
    (named_table (table_long_values trees) (P (stored_versions latest catalog trees held)) catalog.tables trees held kept each table schema
    (subst (λ (v : StoredVersions). IsSomeAnd (table_with_id v.store.tables table) (λ t. schema ≡ schema_of t)) (sym shows) known))

-- a rule of the table is legal
pub rule_in_store : (latest : ℕ) (catalog : CatalogState) (trees : List StoredTable) (held : List HeldChange) → AreKept catalog.tables trees held → (now : StoredVersions) → stored_versions latest catalog trees held ≡ now
    → (table : ℕ) (schema : Schema) → IsSomeAnd (table_with_id now.store.tables table) (λ t. schema ≡ schema_of t) → (rule : IndexRule) → rule_with_id schema rule.id.0 ≡ Some rule → IsLegalRule schema rule
rule_in_store latest catalog trees held kept now shows table schema known rule found =
    in_store P latest catalog trees held kept (λ t named is rule e. let stored = stored_rule t rule.id.0 rule is.rules e in (stored.legal, stored.short)) now shows table schema known rule found
  where
    P : StoredVersions → ℕ → Schema → Type 0
    P v n s = (rule : IndexRule) → rule_with_id s rule.id.0 ≡ Some rule → IsLegalRule s rule

-- and a rule that stands in the schema is found by its number
pub rule_is_found : (latest : ℕ) (catalog : CatalogState) (trees : List StoredTable) (held : List HeldChange) → AreKept catalog.tables trees held → (now : StoredVersions) → stored_versions latest catalog trees held ≡ now
    → (table : ℕ) (schema : Schema) → IsSomeAnd (table_with_id now.store.tables table) (λ t. schema ≡ schema_of t) → (place : ℕ) (rule : IndexRule) → slice_get schema.indexes place ≡ Some rule → rule_with_id schema rule.id.0 ≡ Some rule
rule_is_found latest catalog trees held kept now shows table schema known place rule at =
    in_store P latest catalog trees held kept (λ t named is place rule e. (rule_at t place rule is.rules e).found) now shows table schema known place rule at
  where
    P : StoredVersions → ℕ → Schema → Type 0
    P v n s = (place : ℕ) (rule : IndexRule) → slice_get s.indexes place ≡ Some rule → rule_with_id s rule.id.0 ≡ Some rule

-- ---- an index with a tree

abbrev pub OfRecord : Reader → StoredVersions → ℕ → IndexRule → Schema → List ℕ → List ℕ → Bool
OfRecord reader v table rule schema key bookmark = conflicts_under reader rule schema key (yields_key rule schema key (record_in v.store.tables table bookmark)) table bookmark v.store.held

abbrev pub Conflict : Reader → StoredVersions → ℕ → IndexRule → Schema → List ℕ → Bool
Conflict reader v table rule schema key = has_key_conflict reader (record_in v.store.tables) table rule schema key v.store.held

pub newest_rows : (longs : TableValues) (tables : List Table) (trees : List StoredTable) (t : Table) → table_with_id tables t.id ≡ Some t → (bookmark : List ℕ) → record_in (map (with_newest_by longs trees) tables) t.id bookmark ≡ row_at (rows_of_nodes (longs t.id) (table_nodes trees t.id)) bookmark
newest_rows longs tables trees t named bookmark = ap (λ (o : Option Table). row_at (rows_of o) bookmark) (table_at longs trees tables t.id ∙ ap (option_map (with_newest_by longs trees)) named)

pub conflict_in_tree : (reader : Reader) (key : List ℕ) (latest : ℕ) (catalog : CatalogState) (trees : List StoredTable) (held : List HeldChange) → AreKept catalog.tables trees held → (now : StoredVersions) → stored_versions latest catalog trees held ≡ now
    → (table : ℕ) (schema : Schema) → IsSomeAnd (table_with_id now.store.tables table) (λ t. schema ≡ schema_of t) → (rule : IndexRule) → rule_with_id schema rule.id.0 ≡ Some rule → rule.flags.primary ≡ false
    → list_any (has_key_and (OfRecord reader now table rule schema key) key) (index_entries trees table rule.id.0) ≡ Conflict reader now table rule schema key
conflict_in_tree reader key latest catalog trees held kept now shows table schema known rule found secondary =
    in_store P latest catalog trees held kept each now shows table schema known rule found secondary
  where
    P : StoredVersions → ℕ → Schema → Type 0
    P v n s = (rule : IndexRule) → rule_with_id s rule.id.0 ≡ Some rule → rule.flags.primary ≡ false → list_any (has_key_and (OfRecord reader v n rule s key) key) (index_entries trees n rule.id.0) ≡ Conflict reader v n rule s key

    each : (t : Table) → table_with_id catalog.tables t.id ≡ Some t → IsKeptTable trees (table_long_values trees t.id) (table_nodes trees t.id) (map (held_record_in (table_long_values trees)) held) t → P (stored_versions latest catalog trees held) t.id (schema_of t)
    each t named is rule e own =
        conflict_at_entries reader (record_in (map (with_newest trees) catalog.tables)) t.id rule (schema_of t) key (map (held_record_in (table_long_values trees)) held) (index_entries trees t.id rule.id.0)
        (λ bookmark variant.
        holds key bookmark
        ∙ ap (λ (o : Option RecordFields). is_variant_key o (map (held_record_in (table_long_values trees)) held) rule (schema_of t) t.id key bookmark) (sym (newest_rows (table_long_values trees) catalog.tables trees t named bookmark))
        ∙ variant)
      where
        H : Option IndexRule → Type 0
        H o = IfSome o (λ r. HoldsVariants (rows_of_nodes (table_long_values trees t.id) (table_nodes trees t.id)) (map (held_record_in (table_long_values trees)) held) r (schema_of t) t.id (index_entries trees t.id rule.id.0))

        holds : HoldsVariants (rows_of_nodes (table_long_values trees t.id) (table_nodes trees t.id)) (map (held_record_in (table_long_values trees)) held) rule (schema_of t) t.id (index_entries trees t.id rule.id.0)
        holds = subst H (ap only_secondary e ∙ ap (λ b. cond b None (Some rule)) own) (is.entries rule.id.0)

-- ---- the primary index

own_key : HasOneEntry → (rule : IndexRule) (schema : Schema) (key : List ℕ) (values : RecordFields) → is_legal rule schema ≡ true → rule.flags.primary ≡ true → yields_key rule schema key (Some values) ≡ true → key ≡ primary_key rule schema values
own_key law rule schema key values legal primary yields =
    by (rule.flags.disallownull && list_any (λ column. not (has_value values column)) (key_columns rule)) (rule.flags.disallowtruncation && is_cut rule.key_most (whole_key rule schema (first_values rule values)))
    (sym (ap (λ r. list_any (bytes_eq key) (keys_or_none r)) (law rule schema values legal primary)) ∙ yields)
  where
    alone : (b : Bool) → (b || false) ≡ true → b ≡ true
    alone true e = refl
    alone false e = e

    by : (b c : Bool)
        → list_any (bytes_eq key) (keys_or_none (elim b [ true ↦ Err NullKeyDisallowed | false ↦ elim c [ true ↦ Err KeyTruncated | false ↦ Ok (primary_key rule schema values ∷ []) ] ])) ≡ true
        → key ≡ primary_key rule schema values
    by true c h = impossible h
    by false true h = impossible h
    by false false h = same_bytes key (primary_key rule schema values) (alone (bytes_eq key (primary_key rule schema values)) h)

-- the key of a row is the bookmark that it stands under
row_key : (vals : Values) → HasOneEntry → (t : Table) (rule : IndexRule) (key bookmark : List ℕ) → is_legal rule (schema_of t) ≡ true → rule.flags.primary ≡ true → primary_rule (schema_of t) ≡ Some rule
    → (row : Option (List ℕ)) → IfSome row (IsRowUnder vals t bookmark) → yields_key rule (schema_of t) key (option_map (record_of vals) row) ≡ true → bookmark ≡ key
row_key vals law t rule key bookmark legal primary first None is yields = impossible yields
row_key vals law t rule key bookmark legal primary first (Some row) is yields =
    let B : Option IndexRule → Type 0 = λ o. MatchOption o (length bookmark ≡ 8) (λ r. bookmark ≡ primary_key r (schema_of t) (record_of vals row)) in
    subst B first is.own ∙ sym (own_key law rule (schema_of t) key (record_of vals row) legal primary yields)

-- and so is that of the row before a change
changed_key : (longs : TableValues) → HasOneEntry → (tables : List Table) (trees : List StoredTable) (t : Table) → table_with_id tables t.id ≡ Some t → (rule : IndexRule) (key bookmark : List ℕ) → is_legal rule (schema_of t) ≡ true → rule.flags.primary ≡ true → primary_rule (schema_of t) ≡ Some rule
    → (held : List HeldChange) → AllByRecursion (IsKeptChange longs tables trees) held
    → list_any (λ (change : HeldRecord). is_standing_rewrite t.id bookmark change && yields_key rule (schema_of t) key change.before) (map (held_record_in longs) held) ≡ true → bookmark ≡ key
changed_key longs law tables trees t named rule key bookmark legal primary first [] kept any = impossible any
changed_key longs law tables trees t named rule key bookmark legal primary first (h ∷ held) kept any =
    by (is_standing_rewrite t.id bookmark (held_record_in longs h) && yields_key rule (schema_of t) key (held_record_in longs h).before) refl any (changed_key longs law tables trees t named rule key bookmark legal primary first held kept.1)
  where
    here : (is_standing_rewrite t.id bookmark (held_record_in longs h) && yields_key rule (schema_of t) key (held_record_in longs h).before) ≡ true → bookmark ≡ key
    here e =
        let rewrite : is_standing_rewrite t.id bookmark (held_record_in longs h) ≡ true = and_left _ _ e in
        let touched : (is_record t.id bookmark h && is_rewrite h.kind) ≡ true = and_left _ (not (is_undone h.status)) rewrite in
        let at : is_record t.id bookmark h ≡ true = and_left (is_record t.id bookmark h) _ touched in
        let number : h.table ≡ t.id = eqb-true h.table t.id (and_left (h.table == t.id) _ at) in
        let own : h.bookmark ≡ bookmark = same_bytes h.bookmark bookmark (and_right (h.table == t.id) _ at) in
        let standing : is_standing h ≡ true = and_from (is_rewrite h.kind) (not (is_undone h.status)) (and_right (is_record t.id bookmark h) _ touched) (and_right (is_record t.id bookmark h && is_rewrite h.kind) _ rewrite) in
        let R : ℕ → Option Table → List ℕ → Type 0 = λ n o b. IfSome o (λ table. IfSome h.before (IsRowUnder (longs n) table b)) in
        let row : IfSome h.before (IsRowUnder (longs t.id) t bookmark) =
        subst (λ (o : Option Table). R t.id o bookmark) (ap (table_with_id tables) number ∙ named)
        (subst (λ (n : ℕ). R n (table_with_id tables h.table) bookmark) number (subst (R h.table (table_with_id tables h.table)) own (kept.0.before standing))) in
        row_key (longs t.id) law t rule key bookmark legal primary first h.before row
        (sym (ap (λ b. yields_key rule (schema_of t) key (cond b (option_map (record_of (longs h.table)) h.before) None)) standing ∙ ap (λ (n : ℕ). yields_key rule (schema_of t) key (option_map (record_of (longs n)) h.before)) number)
        ∙ and_right (is_standing_rewrite t.id bookmark (held_record_in longs h)) _ e)

    by : (b : Bool) → (is_standing_rewrite t.id bookmark (held_record_in longs h) && yields_key rule (schema_of t) key (held_record_in longs h).before) ≡ b
        → (b || list_any (λ (change : HeldRecord). is_standing_rewrite t.id bookmark change && yields_key rule (schema_of t) key change.before) (map (held_record_in longs) held)) ≡ true
        → (list_any (λ (change : HeldRecord). is_standing_rewrite t.id bookmark change && yields_key rule (schema_of t) key change.before) (map (held_record_in longs) held) ≡ true → bookmark ≡ key) → bookmark ≡ key
    by true e any rest = here e
    by false e any rest = rest any

pub conflict_in_primary : HasOneEntry → (reader : Reader) (key : List ℕ) (latest : ℕ) (catalog : CatalogState) (trees : List StoredTable) (held : List HeldChange) → AreKept catalog.tables trees held → ((table : ℕ) → are_sorted (bookmark_entries (table_nodes trees table)) ≡ true)
    → (now : StoredVersions) → stored_versions latest catalog trees held ≡ now → (table : ℕ) (schema : Schema) → IsSomeAnd (table_with_id now.store.tables table) (λ t. schema ≡ schema_of t) → (rule : IndexRule) → rule_with_id schema rule.id.0 ≡ Some rule → rule.flags.primary ≡ true
    → OfRecord reader now table rule schema key key ≡ Conflict reader now table rule schema key
conflict_in_primary law reader key latest catalog trees held kept sorted now shows table schema known rule found primary =
    in_store P latest catalog trees held kept each now shows table schema known rule found primary
  where
    P : StoredVersions → ℕ → Schema → Type 0
    P v n s = (rule : IndexRule) → rule_with_id s rule.id.0 ≡ Some rule → rule.flags.primary ≡ true → OfRecord reader v n rule s key key ≡ Conflict reader v n rule s key

    each : (t : Table) → table_with_id catalog.tables t.id ≡ Some t → IsKeptTable trees (table_long_values trees t.id) (table_nodes trees t.id) (map (held_record_in (table_long_values trees)) held) t → P (stored_versions latest catalog trees held) t.id (schema_of t)
    each t named is rule e own =
        conflict_under_one reader (record_in (map (with_newest trees) catalog.tables)) t.id rule (schema_of t) key (map (held_record_in (table_long_values trees)) held) key
        (λ bookmark variant. by bookmark (yields_key rule (schema_of t) key (record_in (map (with_newest trees) catalog.tables) t.id bookmark)) refl variant)
      where
        stored : IsLegalRule (schema_of t) rule × (primary_rule (schema_of t) ≡ Some rule)
        stored = let s = stored_rule t rule.id.0 rule is.rules e in ((s.legal, s.short), s.primary own)

        by : (bookmark : List ℕ) (b : Bool) → yields_key rule (schema_of t) key (record_in (map (with_newest trees) catalog.tables) t.id bookmark) ≡ b
            → (b || list_any (λ (change : HeldRecord). is_standing_rewrite t.id bookmark change && yields_key rule (schema_of t) key change.before) (map (held_record_in (table_long_values trees)) held)) ≡ true → bookmark ≡ key
        by bookmark true newest variant =
            row_key (table_long_values trees t.id) law t rule key bookmark stored.0.0 own stored.1 (row_under (table_nodes trees t.id) bookmark) (is.rows bookmark)
            (sym (ap (yields_key rule (schema_of t) key) (newest_at (table_long_values trees) trees catalog.tables kept.numbers sorted t.id bookmark)) ∙ newest)
        by bookmark false newest variant = changed_key (table_long_values trees) law catalog.tables trees t named rule key bookmark stored.0.0 own stored.1 held kept.changes variant
