-- Keys of the primary index that a record of the view has.
use Rattle.std.proofs.Common.{◌≡◌, ℕ, Bool, true, false, not, ◌&&◌, ◌||◌, cond, List, [], ◌∷◌, Option, Some, None, option_map, refl, sym, ap, ◌∙◌}
use Rattle.std.specs.Prelude.{IsSomeAnd, bytes_eq, is_some}
use Rattle.std.specs.List.{list_any}
use Rattle.std.specs.Ordering.{eq_by_cmp, nat_cmp}
use Rattle.std.specs.Cmp.Lexicographic.{slice_cmp, texts_ties}
use Rattle.common_lemmas.proofs.Numbers.{bytes_turned, same_bytes}
use Rattle.column_set.specs.RecordValues.{RecordFields}
use Rattle.cursor_nav.specs.Places.{Pair}
use Rattle.database_state.specs.Puts.{is_replaced}
use Rattle.database_state.specs.Table.{Rows, Table, entries_of_rule, index_entries, record_in, row_at, rows_of, schema_of, table_with_id}
use Rattle.index_derive.specs.Schemas.{rule_with_id}
use Rattle.index_derive.specs.declared.rules.IndexRule.{IndexRule}
use Rattle.index_derive.specs.declared.rules.Schema.{Schema}
use Rattle.index_derive.specs.Entries.{derive, own_order}
use Rattle.version_store.specs.declared.calls.Reader.{Reader}
use Rattle.laws_engine.specs.HeldRecords.{is_change_at, seen_record}
use Rattle.laws_engine.specs.VersionedTables.{VersionedTables, seen_rows, seen_table, seen_tables}
use Rattle.laws_engine.proofs.TableLemmas.SeenTables.{seen_at_id}
use Rattle.table_versions.specs.KeyConflicts.{is_taken_for}
use Rattle.stored_variants.specs.StoredVersions.{entries_in}
use Rattle.table_versions.specs.Shown.{FindsShown}
use Rattle.table_versions.proofs.UntouchedRecords.{sees_newest}

taken_rows : (own : Option (List ℕ)) (key : List ℕ) (rows : Rows) → list_any (λ (entry : Pair). bytes_eq entry.0 key && not (is_replaced own entry.1)) (own_order rows) ≡ (is_some (row_at rows key) && not (is_replaced own key))
taken_rows own key [] = refl
taken_rows own key (row ∷ rows) = by (bytes_eq row.0 key) refl (taken_rows own key rows)
  where
    test : (b : Bool) → bytes_eq row.0 key ≡ b → eq_by_cmp (slice_cmp nat_cmp) key row.0 ≡ b
    test b e = sym (texts_ties key row.0) ∙ bytes_turned key row.0 ∙ e

    either_other : (n s : Bool) → (n || (s && n)) ≡ n
    either_other true s = refl
    either_other false true = refl
    either_other false false = refl

    by : (b : Bool) → bytes_eq row.0 key ≡ b → list_any (λ (entry : Pair). bytes_eq entry.0 key && not (is_replaced own entry.1)) (own_order rows) ≡ (is_some (row_at rows key) && not (is_replaced own key))
        → ((bytes_eq row.0 key && not (is_replaced own row.0)) || list_any (λ (entry : Pair). bytes_eq entry.0 key && not (is_replaced own entry.1)) (own_order rows))
        ≡ (is_some (cond (eq_by_cmp (slice_cmp nat_cmp) key row.0) (Some row.1) (row_at rows key)) && not (is_replaced own key))
    by true e rest =
        (λ i. (e i && not (is_replaced own (same_bytes row.0 key e i))) || rest i)
        ∙ either_other (not (is_replaced own key)) (is_some (row_at rows key))
        ∙ ap (λ b. is_some (cond b (Some row.1) (row_at rows key)) && not (is_replaced own key)) (sym (test true e))
    by false e rest =
        (λ i. (e i && not (is_replaced own row.0)) || rest i)
        ∙ ap (λ b. is_some (cond b (Some row.1) (row_at rows key)) && not (is_replaced own key)) (sym (test false e))

primary_order_is : (schema : Schema) (rows : Rows) (rule : IndexRule) → rule_with_id schema rule.id.0 ≡ Some rule → rule.flags.primary ≡ true → index_entries schema rows rule.id.0 ≡ own_order rows
unfolding index_entries
primary_order_is schema rows rule found primary = ap (entries_of_rule schema rows) found ∙ ap (λ b. cond b (own_order rows) (derive rule schema rows)) primary

-- a key of the primary index is another record's where the reader sees one under it that is not replaced
pub taken_in_primary : FindsShown → (reader : Reader) (store : VersionedTables) (table : ℕ) (schema : Schema) → IsSomeAnd (table_with_id store.tables table) (λ t. schema ≡ schema_of t)
    → (rule : IndexRule) → rule_with_id schema rule.id.0 ≡ Some rule → rule.flags.primary ≡ true → (own : Option (List ℕ)) (key : List ℕ)
    → is_taken_for reader store table rule.id.0 own key ≡ (is_some (seen_record table key reader (record_in store.tables table key) store.held) && not (is_replaced own key))
taken_in_primary finds reader store table schema known rule found primary own key = by (table_with_id store.tables table) refl known
  where
    by : (o : Option Table) → table_with_id store.tables table ≡ o → IsSomeAnd o (λ t. schema ≡ schema_of t)
        → is_taken_for reader store table rule.id.0 own key ≡ (is_some (seen_record table key reader (record_in store.tables table key) store.held) && not (is_replaced own key))
    by None e is = absurd is
    by (Some t) e is =
        ap (λ (o : Option Table). list_any test (entries_in rule.id.0 o)) shown
        ∙ ap (list_any test) (primary_order_is (schema_of t) rows rule (ap (λ (s : Schema). rule_with_id s rule.id.0) (sym is) ∙ found) primary)
        ∙ taken_rows own key rows
        ∙ ap (λ (o : Option RecordFields). is_some o && not (is_replaced own key)) (sym (ap (λ (o : Option Table). row_at (rows_of o) key) shown) ∙ finds reader store table key (ap is_some e))
      where
        test : Pair → Bool
        test entry = bytes_eq entry.0 key && not (is_replaced own entry.1)

        rows : Rows
        rows = seen_rows t.id reader store.held t.rows

        shown : table_with_id (seen_tables reader store) table ≡ Some (seen_table reader store.held t)
        shown = seen_at_id reader store.held store.tables table ∙ ap (option_map (seen_table reader store.held)) e

-- and where no change of the record under it is held, where there is a newest one
pub taken_newest : FindsShown → (reader : Reader) (store : VersionedTables) (table : ℕ) (schema : Schema) → IsSomeAnd (table_with_id store.tables table) (λ t. schema ≡ schema_of t)
    → (rule : IndexRule) → rule_with_id schema rule.id.0 ≡ Some rule → rule.flags.primary ≡ true → (own : Option (List ℕ)) (key : List ℕ) → list_any (is_change_at table key) store.held ≡ false
    → is_taken_for reader store table rule.id.0 own key ≡ (is_some (record_in store.tables table key) && not (is_replaced own key))
taken_newest finds reader store table schema known rule found primary own key untouched =
    taken_in_primary finds reader store table schema known rule found primary own key
    ∙ ap (λ (o : Option RecordFields). is_some o && not (is_replaced own key)) (sees_newest table key reader (record_in store.tables table key) store.held untouched)

pub and_true : (b : Bool) → (b && true) ≡ b
and_true true = refl
and_true false = refl
