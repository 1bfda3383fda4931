-- Once all sessions are given up, an engine of the committed tables holds what is left.
use Rattle.std.proofs.Common.{◌≡◌, ℕ, ◌+◌, ◌<◌, Bool, true, false, cond, List, [], ◌∷◌, Option, Some, None, refl, sym, ap, subst, ◌∙◌, bytes_eq, arith}
use Rattle.std.specs.Prelude.{◌==◌, find, option_and_then, IfSome}
use Rattle.std.specs.List.{AllByRecursion}
use Rattle.std.proofs.lemmas.Bool.Decides.{nat_tests}
use Rattle.std.proofs.lemmas.Bool.{eqb-true}
use Rattle.column_set.specs.RecordValues.{RecordFields}
use Rattle.cursor_nav.specs.Places.{are_sorted}
use Rattle.laws_versions.proofs.IndexLemmas.Adding.{KeysRise}
use Rattle.laws_versions.proofs.IndexLemmas.Rows.{RowsRise, rise-sorted}
use Rattle.index_derive.specs.declared.rules.IndexRule.{IndexRule}
use Rattle.index_derive.specs.declared.rules.Schema.{Schema}
use Rattle.index_derive.specs.Entries.{is_legal, is_unique, own_order, primary_key}
use Rattle.database_state.specs.Table.{Table, row_at, rows_of, schema_of, table_with_id}
use Rattle.index_derive.specs.Schemas.{primary_rule}
use Rattle.database_state.specs.State.{DatabaseState, LiveSession, PastChange, transaction_of}
use Rattle.database_state.specs.Conflicts.{yields_key}
use Rattle.database_state.specs.View.{view, view_in}
use Rattle.laws_versions.specs.Records.{Records, records_of}
use Rattle.common_lemmas.proofs.Numbers.{equal_bytes}
use Rattle.laws_versions.proofs.HistoryLemmas.Lists.{all_both}
use Rattle.laws_versions.specs.KeySums.{IsApartFromSums, IsPlainIndex, SeesNoSum}
use Rattle.laws_versions.specs.TableOrder.{HasTablesInOrder}
use Rattle.laws_versions.specs.UniqueKeys.{AreUnique, HasFreeKeys, HasOwnKey, HasUniqueIndexes, IsSoundIndex, IsUniqueIndex, IsUniqueTable}
use Rattle.laws_versions.proofs.KeyLemmas.BookmarkKeys.{HasOneEntry, own_key}
use Rattle.laws_versions.proofs.KeyLemmas.CommitKeys.{no_double_key}
use Rattle.laws_versions.proofs.KeyLemmas.EscrowSums.{unseen_now}
use Rattle.laws_versions.proofs.KeyLemmas.Finding.{unique_in_view}
use Rattle.laws_versions.proofs.KeyLemmas.KeySums.{seen_by}
use Rattle.laws_versions.proofs.KeyLemmas.SchemaKeys.{AreUniqueRows}
use Rattle.laws_versions.proofs.KeyLemmas.UniqueKept.{some_at}
use Rattle.laws_versions.proofs.KeyLemmas.UniqueLaws.{rows_found}
use Rattle.laws_versions.specs.Bookmarks.{StandsUnder, is_bookmark}
use Rattle.laws_versions.proofs.RecordLemmas.EachRecord.{RowsHave}
use Rattle.common_lemmas.proofs.Found.{found_passes, of_found}
use Rattle.common_lemmas.proofs.Lists.{all_weaker}
use Rattle.common_lemmas.proofs.Booleans.{impossible}
use Rattle.laws_versions.proofs.RecordLemmas.Standing.{bookmarks_seen}
use Rattle.laws_engine.specs.LawfulSteps.{IsReached}
use Rattle.loggable_steps.specs.Replays.{closed}

-- ---- a label that no session has

abbrev total : List LiveSession → ℕ
total [] = 0
total (s ∷ sessions) = s.label + total sessions

none_at : (n : ℕ) (sessions : List LiveSession) → total sessions < n → find (λ s. s.label == n) sessions ≡ None
none_at n [] h = refl
none_at n (s ∷ sessions) h =
    ap (λ (b : Bool). cond b (Some s) (find (λ s. s.label == n) sessions)) (apart s.label (total sessions) n h) ∙ none_at n sessions (less s.label (total sessions) n h)
  where
    apart : (a b n : ℕ) → a + b < n → (a == n) ≡ false
    apart a b n h = grind (arith, nat_tests)

    less : (a b n : ℕ) → a + b < n → b < n
    less a b n h = omega (arith, h)

abbrev stranger : DatabaseState → ℕ
stranger state = total state.sessions + 1

outside : (state : DatabaseState) → transaction_of state (stranger state) ≡ None
outside state = ap (λ (o : Option LiveSession). option_and_then (λ s. s.transaction) o) (none_at (stranger state) state.sessions (above (total state.sessions)))
  where
    above : (n : ℕ) → n < n + 1
    above n = omega arith

view_outside : (state : DatabaseState) (session : ℕ) → transaction_of state session ≡ None → view state session ≡ state.tables
unfolding view
view_outside state session none = ap (view_in state session) none

-- ---- the records of the committed tables

abbrev pub SeenHave : (ℕ → Schema → List ℕ → RecordFields → Type 0) → DatabaseState → Type 0
SeenHave P state = (session id : ℕ) → IfSome (table_with_id state.tables id) (λ table. (bookmark : List ℕ) → IfSome (records_of (view state session) id bookmark) (P state.number (schema_of table) bookmark))

pub rows_have : (P : ℕ → Schema → List ℕ → RecordFields → Type 0) (state : DatabaseState) → SeenHave P state → RowsHave P state.number state.tables
rows_have P state seen id =
    some_at (λ table. (bookmark : List ℕ) → IfSome (records_of (view state (stranger state)) id bookmark) (P state.number (schema_of table) bookmark))
    (λ table. (bookmark : List ℕ) → IfSome (row_at table.rows bookmark) (P state.number (schema_of table) bookmark)) (table_with_id state.tables id)
    (λ table found made bookmark. subst (λ (o : Option RecordFields). IfSome o (P state.number (schema_of table) bookmark))
    (ap (λ (tables : List Table). records_of tables id bookmark) (view_outside state (stranger state) (outside state)) ∙ ap (λ (o : Option Table). row_at (rows_of o) bookmark) found) (made bookmark))
    (seen (stranger state) id)

-- ---- their keys

-- the laws of indexes
pub record KeyLaws : Type 0 where
  pub one : HasOneEntry
  pub rise : KeysRise

unique_rows : (base : Records) (dropped kept : List PastChange) (state : DatabaseState) → IsReached base dropped kept state → (id : ℕ) (t : Table) → table_with_id state.tables id ≡ Some t → t.id ≡ id → (rule : IndexRule) → SeesNoSum rule t.id kept
    → HasFreeKeys rule (schema_of t) t.id (transaction_of state) base kept → AreUniqueRows rule (schema_of t) t.rows
unique_rows base dropped kept state reached id t found same rule plain keys one other key apart had also =
    (subst (λ (tables : List Table). AreUnique rule (schema_of t) t.id (records_of tables)) (view_outside state (stranger state) (outside state))
    (unique_in_view base dropped kept state reached.history rule (schema_of t) t.id plain keys (stranger state))) one other key apart
    (ap (yields_key rule (schema_of t) key) (rows_found state.tables id t found one) ∙ had) (ap (yields_key rule (schema_of t) key) (rows_found state.tables id t found other) ∙ also)

own_keys : HasOneEntry → (number : ℕ) (rule : IndexRule) (schema : Schema) → primary_rule schema ≡ Some rule → is_legal rule schema ≡ true → rule.flags.primary ≡ true → (bookmark : List ℕ) (o : Option RecordFields)
    → IfSome o (StandsUnder number schema bookmark) → HasOwnKey rule schema bookmark o
own_keys one number rule schema first legal primary bookmark None stands = λ key had. impossible had
own_keys one number rule schema first legal primary bookmark (Some values) stands =
    let yields : yields_key rule schema bookmark (Some values) ≡ true = ap (λ (o : Option IndexRule). is_bookmark number schema o bookmark values) (sym first) ∙ stands in
    let own : bookmark ≡ primary_key rule schema values = own_key one rule schema legal primary values (primary_key rule schema values) (equal_bytes (primary_key rule schema values) (primary_key rule schema values) refl) bookmark yields in
    own_key one rule schema legal primary values bookmark (equal_bytes bookmark (primary_key rule schema values) own)

pub unique_table : KeyLaws → (base : Records) (dropped kept : List PastChange) (state : DatabaseState) → IsReached base dropped kept state → (id : ℕ) (t : Table) → table_with_id state.tables id ≡ Some t → t.id ≡ id → RowsRise t.rows → IsUniqueTable t
unique_table laws base dropped kept state reached id t found same rise =
    all_both (λ rule. IsSoundIndex t rule × IsUniqueIndex (transaction_of state) base kept t rule) (λ rule. SeesNoSum rule t.id kept) _
    (λ rule known plain. (
      known.0,
      λ unique. (
        no_double_key laws.rise rule (schema_of t) t.rows rise (unique_rows base dropped kept state reached id t found same rule plain (known.1 unique).0),
        λ primary bookmark. own_keys laws.one state.number rule (schema_of t) (known.0.2 primary).0 (known.0.2 primary).1 primary bookmark (row_at t.rows bookmark) (stands bookmark),
      ),
    ))
    t.indexes (subst (λ (o : Option Table). IfSome o (HasUniqueIndexes (transaction_of state) base kept)) found (reached.unique.tables id)) (seen_by kept state (unseen_now base kept state reached.sums) id t found)
  where
    stands : (bookmark : List ℕ) → IfSome (row_at t.rows bookmark) (StandsUnder state.number (schema_of t) bookmark)
    stands = subst (λ (o : Option Table). IfSome o (λ table. (bookmark : List ℕ) → IfSome (row_at table.rows bookmark) (StandsUnder state.number (schema_of table) bookmark))) found
        (rows_have StandsUnder state (bookmarks_seen base dropped kept state reached.history (unseen_now base kept state reached.sums) reached.bookmarks) id)

pub plain_tables : (base : Records) (kept : List PastChange) (state : DatabaseState) → (dropped : List PastChange) → IsReached base dropped kept state → (id : ℕ) → IfSome (table_with_id state.tables id) (λ table. AllByRecursion (IsPlainIndex table) table.indexes)
plain_tables base kept state dropped reached id =
    some_at (λ table. AllByRecursion (IsApartFromSums base kept table) table.indexes) (λ table. AllByRecursion (IsPlainIndex table) table.indexes) (table_with_id state.tables id)
    (λ table found apart. all_weaker (IsApartFromSums base kept table) (IsPlainIndex table) (λ rule is. is.0) table.indexes apart) (reached.sums.tables id)

-- ---- all tables

pub unique_tables : KeyLaws → (base : Records) (dropped kept : List PastChange) (state : DatabaseState) → IsReached base dropped kept state → (id : ℕ) → IfSome (table_with_id state.tables id) IsUniqueTable
unique_tables laws base dropped kept state reached id = by (table_with_id state.tables id) refl
  where
    number : (t : Table) → table_with_id state.tables id ≡ Some t → t.id ≡ id
    number t found = eqb-true t.id id (found_passes (λ (table : Table). table.id == id) state.tables t found)

    by : (o : Option Table) → table_with_id state.tables id ≡ o → IfSome o IsUniqueTable
    by None e = tt
    by (Some t) e =
        unique_table laws base dropped kept state reached id t e (number t e)
        (rise-sorted t.rows (of_found (λ (table : Table). are_sorted (own_order table.rows) ≡ true) (λ (table : Table). table.id == id) state.tables t e reached.order.rows))

pub still_in_order : (state : DatabaseState) → HasTablesInOrder state → HasTablesInOrder (closed state)
still_in_order state order = record { ids = order.ids; given = order.given; rows = order.rows }
