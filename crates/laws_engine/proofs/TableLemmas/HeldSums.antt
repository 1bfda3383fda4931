-- What a reader is shown has the sums that it does not see, and its indexes do not see them.
use Rattle.std.proofs.Common.{◌≡◌, ◌⊎◌, inl, inr, ℕ, Bool, true, false, ◌&&◌, cond, List, [], ◌∷◌, ◌++◌, Option, Some, None, refl, sym, ap, ◌∙◌}
use Rattle.std.specs.Prelude.{◌==◌, bytes_eq, filter, flat_map, is_some, option_map}
use Rattle.column_set.specs.declared.changes.Change.{Change}
use Rattle.column_set.specs.declared.changes.Change.TheVariants.{Put, Drop, Hold, Add}
use Rattle.column_set.specs.RecordValues.{RecordFields, values_of}
use Rattle.index_derive.specs.declared.rules.IndexRule.{IndexRule}
use Rattle.index_derive.specs.declared.rules.Schema.{Schema}
use Rattle.cursor_nav.specs.Places.{are_sorted}
use Rattle.index_derive.specs.Entries.{derive, own_order}
use Rattle.database_state.specs.Table.{Table, record_in, row_at, rows_of, table_with_id}
use Rattle.database_state.specs.Conflicts.{yields_key}
use Rattle.database_state.specs.State.{DatabaseState, PastChange, Transaction, transaction_of}
use Rattle.database_state.specs.View.{newest, view}
use Rattle.laws_versions.specs.Records.{Records, is_change_of, records_of}
use Rattle.laws_versions.specs.Readers.{found_record, hides as hides_record, is_unseen as is_unseen_change, until}
use Rattle.laws_versions.proofs.HistoryLemmas.Viewing.{same_there}
use Rattle.laws_versions.specs.EscrowSums.{amounts_to, escrow_value, seen_value, sums_by as sums_by_change, unseen_sums as unseen_kept, with_sums}
use Rattle.laws_versions.proofs.SumLemmas.StoredRecord.{found_with_sums}
use Rattle.laws_versions.proofs.SumLemmas.StoredSums.{other_columns, value_without}
use Rattle.laws_versions.specs.KeySums.{SeesNoSum}
use Rattle.laws_versions.proofs.KeyLemmas.FoundKeys.{found_keys}
use Rattle.version_store.specs.HeldChanges.{kind_of}
use Rattle.version_store.specs.declared.calls.Reader.{Reader}
use Rattle.laws_engine.specs.HeldRecords.{HeldRecord, hides, is_change_at, is_unseen, seen_record}
use Rattle.laws_engine.specs.HeldSums.{sums_by, unseen_sums}
use Rattle.laws_engine.specs.VersionedTables.{VersionedTables, seen_table, seen_tables}
use Rattle.laws_engine.specs.Holding.{AllMatch, AllRise, Holds, RowsRise, begin_of}
use Rattle.laws_engine.proofs.TableLemmas.FoundRecords.{same_hides, same_unseen, seen_is_found}
use Rattle.laws_engine.proofs.TableLemmas.Rising.{all_seen_rise}
use Rattle.laws_engine.proofs.TableLemmas.SeenTables.{seen_at_id, seen_record_in}
use Rattle.laws_engine.proofs.TableLemmas.Views.{no_record, view_defined, view_rises}
use Rattle.laws_engine.proofs.TableLemmas.ShownEntries.{Derived, order_is}

-- ---- the sums of held changes are those of the kept ones

kind_sums : (c : Change) → sums_by (kind_of c) ≡ sums_by_change c
kind_sums (Put t b copied values) = refl
kind_sums (Drop t b) = refl
kind_sums (Hold t b) = refl
kind_sums (Add t b c a) = refl

pub same_sums : (reader : Reader) (t : Option Transaction) → reader.begin ≡ begin_of t → (table : ℕ) (bookmark : List ℕ) (items : List PastChange) (held : List HeldRecord) → AllMatch items held
    → unseen_sums table bookmark reader held ≡ unseen_kept reader.session.0 t table bookmark items
same_sums reader t e table bookmark [] [] m = refl
same_sums reader t e table bookmark [] (h ∷ held) m = absurd m
same_sums reader t e table bookmark (item ∷ items) [] m = absurd m
same_sums reader t e table bookmark (item ∷ items) (h ∷ held) m =
    ap (λ b. flat_map (λ x. sums_by x.kind) (filter mine (cond b [] (h ∷ until (hides table bookmark reader) held)))) (same_hides item h m.0 reader t e table bookmark)
    ∙ elim (hides_record reader.session.0 t table bookmark item) as (λ b. flat_map (λ x. sums_by x.kind) (filter mine (cond b [] (h ∷ until (hides table bookmark reader) held)))
    ≡ flat_map (λ x. sums_by_change x.change) (filter mine_kept (cond b [] (item ∷ until (hides_record reader.session.0 t table bookmark) items)))) [
      | true ↦ refl
      | false ↦ ap (λ b. flat_map (λ x. sums_by x.kind) (cond b (h ∷ filter mine (until (hides table bookmark reader) held)) (filter mine (until (hides table bookmark reader) held)))) same_test
          ∙ elim (mine_kept item) as (λ b. flat_map (λ x. sums_by x.kind) (cond b (h ∷ filter mine (until (hides table bookmark reader) held)) (filter mine (until (hides table bookmark reader) held)))
          ≡ flat_map (λ x. sums_by_change x.change) (cond b (item ∷ filter mine_kept (until (hides_record reader.session.0 t table bookmark) items)) (filter mine_kept (until (hides_record reader.session.0 t table bookmark) items)))) [
            | true ↦ λ i. (ap sums_by m.0.kind ∙ kind_sums item.change) i ++ same_sums reader t e table bookmark items held m.1 i
            | false ↦ same_sums reader t e table bookmark items held m.1
          ]
    ]
  where
    mine : HeldRecord → Bool
    mine x = is_unseen reader x && is_change_at table bookmark x

    mine_kept : PastChange → Bool
    mine_kept x = is_unseen_change reader.session.0 t x && is_change_of table bookmark x.change

    same_test : mine h ≡ mine_kept item
    same_test = λ i. same_unseen item h m.0 reader t e i && ((m.0.table i == table) && bytes_eq (m.0.bookmark i) bookmark)

-- ---- what is shown

-- the record that the session finds, where the table is there
shown_or_none : (base : Records) (dropped kept : List PastChange) (store : VersionedTables) (state : DatabaseState) → Holds base dropped kept store state → (reader : Reader) → reader.begin ≡ begin_of (transaction_of state reader.session.0)
    → (id : ℕ) (bookmark : List ℕ) → ((record_in (seen_tables reader store) id bookmark ≡ None) × (record_in (view state reader.session.0) id bookmark ≡ None))
    ⊎ (record_in (seen_tables reader store) id bookmark ≡ found_record reader.session.0 (transaction_of state reader.session.0) id bookmark (records_of (newest state) id bookmark) kept)
shown_or_none base dropped kept store state h reader e id bookmark = by (table_with_id store.tables id) refl
  where
    by : (t : Option Table) → table_with_id store.tables id ≡ t → ((record_in (seen_tables reader store) id bookmark ≡ None) × (record_in (view state reader.session.0) id bookmark ≡ None))
        ⊎ (record_in (seen_tables reader store) id bookmark ≡ found_record reader.session.0 (transaction_of state reader.session.0) id bookmark (records_of (newest state) id bookmark) kept)
    by None f = inl (
      ap (λ t. row_at (rows_of t) bookmark) (seen_at_id reader store.held store.tables id ∙ ap (option_map (seen_table reader store.held)) f),
      no_record (view state reader.session.0) id bookmark
          (same_there (view state reader.session.0) store.tables (view_defined base dropped kept store state h reader.session.0 ∙ sym h.defined) id ∙ ap is_some f),
    )
    by (Some t) f = inr
        (seen_record_in reader store id bookmark (ap is_some f)
        ∙ ap (λ (r : Records). seen_record id bookmark reader (r id bookmark) store.held) h.newest
        ∙ seen_is_found reader (transaction_of state reader.session.0) e id bookmark (records_of (newest state) id bookmark) kept store.held h.held)

pub shown_with_sums : (base : Records) (dropped kept : List PastChange) (store : VersionedTables) (state : DatabaseState) → Holds base dropped kept store state → (reader : Reader) → reader.begin ≡ begin_of (transaction_of state reader.session.0)
    → (id : ℕ) (bookmark : List ℕ) → record_in (seen_tables reader store) id bookmark ≡ option_map (λ values. with_sums values (unseen_sums id bookmark reader store.held)) (record_in (view state reader.session.0) id bookmark)
shown_with_sums base dropped kept store state h reader e id bookmark = elim (shown_or_none base dropped kept store state h reader e id bookmark) [
  | inl none ↦ none.0 ∙ sym (ap (option_map (λ values. with_sums values (unseen_sums id bookmark reader store.held))) none.1)
  | inr found ↦ found
      ∙ found_with_sums base dropped kept state h.history reader.session.0 id bookmark
      ∙ ap (λ sums. option_map (λ values. with_sums values sums) (record_in (view state reader.session.0) id bookmark)) (sym (same_sums reader (transaction_of state reader.session.0) e id bookmark kept store.held h.held))
]

-- the stored record of one that the session sees
stored_is : (base : Records) (dropped kept : List PastChange) (store : VersionedTables) (state : DatabaseState) → Holds base dropped kept store state → (reader : Reader) → reader.begin ≡ begin_of (transaction_of state reader.session.0)
    → (id : ℕ) (bookmark : List ℕ) (stored seen : RecordFields) → record_in (seen_tables reader store) id bookmark ≡ Some stored → record_in (view state reader.session.0) id bookmark ≡ Some seen
    → stored ≡ with_sums seen (unseen_sums id bookmark reader store.held)
stored_is base dropped kept store state h reader e id bookmark stored seen found view_has =
    same stored (with_sums seen (unseen_sums id bookmark reader store.held))
    (sym found ∙ shown_with_sums base dropped kept store state h reader e id bookmark ∙ ap (option_map (λ values. with_sums values (unseen_sums id bookmark reader store.held))) view_has)
  where
    same : (x y : RecordFields) → Some x ≡ Some y → x ≡ y
    same x y e = cc

pub column_shown : (base : Records) (dropped kept : List PastChange) (store : VersionedTables) (state : DatabaseState) → Holds base dropped kept store state → (reader : Reader) → reader.begin ≡ begin_of (transaction_of state reader.session.0)
    → (id : ℕ) (bookmark : List ℕ) (stored seen : RecordFields) → record_in (seen_tables reader store) id bookmark ≡ Some stored → record_in (view state reader.session.0) id bookmark ≡ Some seen
    → (column : ℕ) → amounts_to column (unseen_sums id bookmark reader store.held) ≡ [] → values_of seen column ≡ values_of stored column
column_shown base dropped kept store state h reader e id bookmark stored seen found view_has column none =
    sym (ap (λ values. values_of values column) (stored_is base dropped kept store state h reader e id bookmark stored seen found view_has) ∙ other_columns seen column (unseen_sums id bookmark reader store.held) none)

pub number_shown : (base : Records) (dropped kept : List PastChange) (store : VersionedTables) (state : DatabaseState) → Holds base dropped kept store state → (reader : Reader) → reader.begin ≡ begin_of (transaction_of state reader.session.0)
    → (id : ℕ) (bookmark : List ℕ) (stored seen : RecordFields) → record_in (seen_tables reader store) id bookmark ≡ Some stored → record_in (view state reader.session.0) id bookmark ≡ Some seen
    → (column : ℕ) → escrow_value seen column ≡ seen_value (escrow_value stored column) (amounts_to column (unseen_sums id bookmark reader store.held))
number_shown base dropped kept store state h reader e id bookmark stored seen found view_has column =
    value_without seen column (unseen_sums id bookmark reader store.held)
    ∙ sym (ap (λ values. seen_value (escrow_value values column) (amounts_to column (unseen_sums id bookmark reader store.held))) (stored_is base dropped kept store state h reader e id bookmark stored seen found view_has))

-- ---- indexes

pub keys_shown : (base : Records) (dropped kept : List PastChange) (store : VersionedTables) (state : DatabaseState) → Holds base dropped kept store state → (reader : Reader) → reader.begin ≡ begin_of (transaction_of state reader.session.0)
    → (id : ℕ) (rule : IndexRule) (schema : Schema) → SeesNoSum rule id kept → (key bookmark : List ℕ)
    → yields_key rule schema key (record_in (seen_tables reader store) id bookmark) ≡ yields_key rule schema key (record_in (view state reader.session.0) id bookmark)
keys_shown base dropped kept store state h reader e id rule schema plain key bookmark = elim (shown_or_none base dropped kept store state h reader e id bookmark) [
  | inl none ↦ ap (yields_key rule schema key) (none.0 ∙ sym none.1)
  | inr found ↦ ap (yields_key rule schema key) found ∙ found_keys base dropped kept state h.history reader.session.0 id rule schema plain bookmark key
]

pub rise_at : (tables : List Table) (id : ℕ) → AllRise tables → RowsRise (rows_of (table_with_id tables id))
rise_at [] id h = tt
rise_at (t ∷ tables) id h = elim (t.id == id) as (λ b. RowsRise (rows_of (cond b (Some t) (table_with_id tables id)))) [ true ↦ h.0 | false ↦ rise_at tables id h.1 ]

pub same_index : Derived → (base : Records) (dropped kept : List PastChange) (store : VersionedTables) (state : DatabaseState) → Holds base dropped kept store state → (reader : Reader) → reader.begin ≡ begin_of (transaction_of state reader.session.0)
    → (id : ℕ) (rule : IndexRule) (schema : Schema) → SeesNoSum rule id kept
    → derive rule schema (rows_of (table_with_id (seen_tables reader store) id)) ≡ derive rule schema (rows_of (table_with_id (view state reader.session.0) id))
same_index derived base dropped kept store state h reader e id rule schema plain =
    derived.same (derive rule schema shown) (derive rule schema viewed) (derived.in_order rule schema shown shown_rise) (derived.in_order rule schema viewed view_rise)
    (λ key bookmark. derived.of_records rule schema shown key bookmark shown_rise ∙ keys_shown base dropped kept store state h reader e id rule schema plain key bookmark ∙ sym (derived.of_records rule schema viewed key bookmark view_rise))
  where
    shown : List (List ℕ × RecordFields)
    shown = rows_of (table_with_id (seen_tables reader store) id)

    viewed : List (List ℕ × RecordFields)
    viewed = rows_of (table_with_id (view state reader.session.0) id)

    shown_rise : are_sorted (own_order shown) ≡ true
    shown_rise = order_is shown (rise_at (seen_tables reader store) id (all_seen_rise reader store.held store.tables h.in_order))

    view_rise : are_sorted (own_order viewed) ≡ true
    view_rise = order_is viewed (rise_at (view state reader.session.0) id (view_rises state h.rise reader.session.0))
