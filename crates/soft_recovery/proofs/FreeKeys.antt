-- The keys that are new to a record that is put are free exactly where no unique index refuses a key of it.
use Rattle.std.proofs.Common.{◌≡◌, ℕ, ◌+◌, Bool, true, false, not, ◌&&◌, ◌||◌, cond, List, [], ◌∷◌, ◌++◌, map, filter, Option, Some, None, refl, sym, ap, subst, ◌∙◌}
use Rattle.std.specs.Prelude.{bytes_eq, is_none, IfSome}
use Rattle.std.specs.List.{AllByRecursion, flat_map, list_all, list_any}
use Rattle.std.specs.Option.{option_or}
use Rattle.std.proofs.lemmas.Bool.{and_from}
use Rattle.common_lemmas.proofs.Booleans.{by_test, impossible}
use Rattle.common_lemmas.proofs.Lists.{all_each, all_filter, all_weaker}
use Rattle.common_lemmas.proofs.Numbers.{bytes_turned, equal_bytes, same_bytes}
use Rattle.jet_base.specs.declared.replies.Jet.{Jet}
use Rattle.jet_base.specs.declared.replies.Jet.TheVariants as jet
use Rattle.column_set.specs.RecordValues.{RecordFields}
use Rattle.column_set.specs.Refusals.{Refusals, first_refusal}
use Rattle.cursor_nav.specs.Places.{Pair, are_sorted}
use Rattle.index_derive.specs.declared.rules.IndexRule.{IndexRule}
use Rattle.index_derive.specs.declared.rules.Schema.{Schema}
use Rattle.index_derive.specs.Entries.{derive, is_legal, is_unique, key_list, own_order, primary_key}
use Rattle.index_derive.specs.Schemas.{primary_rule, rule_with_id}
use Rattle.database_state.specs.Conflicts.{has_key_conflict, yields_key}
use Rattle.database_state.specs.Lawful.{has_free_keys}
use Rattle.database_state.specs.Puts.{is_taken, key_refusals, new_keys, replaced_record}
use Rattle.database_state.specs.State.{DatabaseState, PastChange, transaction_of}
use Rattle.database_state.specs.Table.{Rows, Table, index_entries, entries_of_rule, row_at, rows_of, schema_of, table_with_id}
use Rattle.database_state.specs.View.{view}
use Rattle.engine_parts.specs.RefusalLaws.{first_refusal-append}
use Rattle.laws_versions.specs.Bookmarks.{HasBookmarks, StandsUnder, is_bookmark}
use Rattle.laws_versions.specs.History.{IsHistory}
use Rattle.laws_versions.specs.KeptEntries.{has_entry, has_key, without_entries}
use Rattle.laws_versions.specs.KeySums.{HasKeyBefores, IndexesSeeNoSum, IsApartFromSums, SeesNoSum}
use Rattle.laws_versions.specs.Records.{Records, records_of}
use Rattle.laws_versions.specs.UniqueKeys.{AreUnique, HasFreeKeys, HasUniqueIndexes, IsSoundIndex, IsUniqueIndex}
use Rattle.laws_versions.proofs.HistoryLemmas.Lists.{all_both}
use Rattle.laws_versions.proofs.KeyLemmas.BookmarkKeys.{HasOneEntry, own_key}
use Rattle.laws_versions.proofs.KeyLemmas.EscrowSums.{unseen_now}
use Rattle.laws_versions.proofs.KeyLemmas.IndexNumbers.{all_primary_first}
use Rattle.laws_versions.proofs.KeyLemmas.UniqueKept.{id_of}
use Rattle.version_store.specs.declared.calls.Reader.{Reader}
use Rattle.version_cleanup.specs.Cleaning.{reader_in}
use Rattle.laws_engine.specs.EngineState.{EngineState}
use Rattle.laws_engine.specs.Holding.{Holds, RowsRise, begin_of}
use Rattle.laws_engine.specs.HoldsState.{HoldsState}
use Rattle.laws_engine.specs.VersionedTables.{VersionedTables}
use Rattle.laws_engine.proofs.EngineLemmas.RecordsAndConflicts.{begin_told}
use Rattle.laws_engine.proofs.TableLemmas.ShownEntries.{order_is}
use Rattle.laws_engine.proofs.TableLemmas.Views.{view_rises}
use Rattle.common_lemmas.proofs.Found.{of_found}
use Rattle.table_versions.specs.KeyConflicts.{unique_refusals}
use Rattle.record_decisions.specs.Updating.{keys_in}
use Rattle.soft_recovery.specs.LawfulEntries.{HasFreeNewKeys, rows_in}
use Rattle.soft_recovery.proofs.HeldTables.{HasIt, committed_table, viewed_table}

-- ---- rule by rule

flat_alike : {X Y : Type 0} (f g : X → List Y) (xs : List X) → AllByRecursion (λ x. f x ≡ g x) xs → flat_map f xs ≡ flat_map g xs
flat_alike f g [] same = refl
flat_alike f g (x ∷ xs) same = λ i. same.0 i ++ flat_alike f g xs same.1 i

none_of_both : (a b : Option Jet) → is_none (option_or a b) ≡ (is_none a && is_none b)
none_of_both None b = refl
none_of_both (Some x) b = refl

-- nothing is refused exactly where each rule passes
none_refused : {X : Type 0} (f : X → Refusals) (test : X → Bool) (xs : List X) → AllByRecursion (λ x. is_none (first_refusal (f x)) ≡ test x) xs → is_none (first_refusal (flat_map f xs)) ≡ list_all test xs
none_refused f test [] h = refl
none_refused f test (x ∷ xs) h =
    ap (λ (o : Option Jet). is_none o) (first_refusal-append (f x) (flat_map f xs)) ∙ none_of_both (first_refusal (f x)) (first_refusal (flat_map f xs)) ∙ (λ i. h.0 i && none_refused f test xs h.1 i)

-- ---- one rule

abbrev two_refusals : Bool → Bool → Refusals
two_refusals conflict taken = (conflict, jet.WriteConflict) ∷ (taken, jet.KeyDuplicate) ∷ []

none_of_two : (a b : Bool) → is_none (first_refusal (two_refusals a b)) ≡ (not a && not b)
none_of_two true b = refl
none_of_two false true = refl
none_of_two false false = refl

-- keys that are not new are not taken
keys_alike : {K : Type 0} (conflict taken new : K → Bool) (keys : List K) → AllByRecursion (λ key. new key ≡ false → taken key ≡ false) keys
    → (not (list_any conflict (filter new keys)) && not (list_any taken keys)) ≡ list_all (λ key. not (conflict key || taken key)) (filter new keys)
keys_alike conflict taken new [] h = refl
keys_alike conflict taken new (key ∷ keys) h =
    let rest = keys_alike conflict taken new keys h.1 in
    elim (new key) as (λ b. new key ≡ b → (not (list_any conflict (cond b (key ∷ filter new keys) (filter new keys))) && not (taken key || list_any taken keys)) ≡ list_all (λ key. not (conflict key || taken key)) (cond b (key ∷ filter new keys) (filter new keys))) [
      | true ↦ λ e. four (conflict key) (list_any conflict (filter new keys)) (taken key) (list_any taken keys) ∙ ap (λ b. not (conflict key || taken key) && b) rest
      | false ↦ λ e. ap (λ b. not (list_any conflict (filter new keys)) && not (b || list_any taken keys)) (h.0 e) ∙ rest
    ] refl
  where
    four : (c x t y : Bool) → (not (c || x) && not (t || y)) ≡ (not (c || t) && (not x && not y))
    four true x true y = refl
    four true x false y = refl
    four false true true y = refl
    four false true false y = refl
    four false false true y = refl
    four false false false y = refl

-- ---- a key that the record has already is no other record's

refuted : (b : Bool) → (b ≡ true → ⊥) → b ≡ false
refuted true f = absurd (f refl)
refuted false f = refl

abbrev IsKeyAlone : Schema → Rows → IndexRule → List ℕ → Type 0
IsKeyAlone schema rows rule bookmark = (key : List ℕ) → yields_key rule schema key (row_at rows bookmark) ≡ true → is_taken schema rows rule (Some bookmark) key ≡ false

-- in the primary index a record is its own key's
own_untaken : (rows : Rows) (bookmark : List ℕ) → list_any (λ entry. bytes_eq entry.0 bookmark && not (bytes_eq bookmark entry.1)) (own_order rows) ≡ false
own_untaken [] bookmark = refl
own_untaken (row ∷ rows) bookmark =
    (λ i. (bytes_turned row.0 bookmark i && not (bytes_eq bookmark row.0)) || own_untaken rows bookmark i) ∙ never (bytes_eq bookmark row.0)
  where
    never : (b : Bool) → ((b && not b) || false) ≡ false
    never true = refl
    never false = refl

primary_alone : HasOneEntry → (number : ℕ) (schema : Schema) (rows : Rows) (rule : IndexRule) (bookmark : List ℕ) → rule_with_id schema rule.id.0 ≡ Some rule → rule.flags.primary ≡ true → primary_rule schema ≡ Some rule → is_legal rule schema ≡ true
    → IfSome (row_at rows bookmark) (StandsUnder number schema bookmark) → IsKeyAlone schema rows rule bookmark
unfolding index_entries
primary_alone one number schema rows rule bookmark here primary first legal stands key had =
    ap (λ (found : Option IndexRule). list_any (λ entry. bytes_eq entry.0 key && not (bytes_eq bookmark entry.1)) (entries_of_rule schema rows found)) here
    ∙ ap (λ b. list_any (λ entry. bytes_eq entry.0 key && not (bytes_eq bookmark entry.1)) (cond b (own_order rows) (derive rule schema rows))) primary
    ∙ ap (λ (k : List ℕ). list_any (λ entry. bytes_eq entry.0 k && not (bytes_eq bookmark entry.1)) (own_order rows)) (by (row_at rows bookmark) stands had)
    ∙ own_untaken rows bookmark
  where
    by : (o : Option RecordFields) → IfSome o (StandsUnder number schema bookmark) → yields_key rule schema key o ≡ true → key ≡ bookmark
    by None s e = impossible e
    by (Some values) s e =
        own_key one rule schema legal primary values (primary_key rule schema values) (equal_bytes (primary_key rule schema values) _ refl) key e
        ∙ sym (own_key one rule schema legal primary values (primary_key rule schema values) (equal_bytes (primary_key rule schema values) _ refl) bookmark
        (ap (λ (r : Option IndexRule). is_bookmark number schema r bookmark values) (sym first) ∙ s))

-- each entry is among all
entries_there : (entries : List Pair) → AllByRecursion (λ entry. has_entry entry.0 entry.1 entries ≡ true) entries
entries_there [] = tt
entries_there (entry ∷ entries) = (
  ap (λ b. b || has_entry entry.0 entry.1 entries) (and_from _ _ (equal_bytes entry.0 entry.0 refl) (equal_bytes entry.1 entry.1 refl)),
  all_weaker (λ other. has_entry other.0 other.1 entries ≡ true) (λ other. has_entry other.0 other.1 (entry ∷ entries) ≡ true)
      (λ other there. either (bytes_eq entry.0 other.0 && bytes_eq entry.1 other.1) _ there) entries (entries_there entries),
)
  where
    either : (a b : Bool) → b ≡ true → (a || b) ≡ true
    either true b e = refl
    either false b e = e

-- no entry of another record has the key
none_of_others : (key bookmark : List ℕ) (all entries : List Pair) → ((other : List ℕ) → bytes_eq bookmark other ≡ false → has_entry key other all ≡ true → ⊥) → AllByRecursion (λ entry. has_entry entry.0 entry.1 all ≡ true) entries
    → has_key key (without_entries bookmark entries) ≡ false
none_of_others key bookmark all [] alone there = refl
none_of_others key bookmark all (entry ∷ entries) alone there =
    elim (bytes_eq entry.1 bookmark) as (λ b. bytes_eq entry.1 bookmark ≡ b → has_key key (cond (not b) (entry ∷ without_entries bookmark entries) (without_entries bookmark entries)) ≡ false) [
      | true ↦ λ e. none_of_others key bookmark all entries alone there.1
      | false ↦ λ e.
          ap (λ b. b || has_key key (without_entries bookmark entries))
          (refuted (bytes_eq entry.0 key) (λ is. alone entry.1 (bytes_turned bookmark entry.1 ∙ e) (ap (λ (k : List ℕ). has_entry k entry.1 all) (sym (same_bytes entry.0 key is)) ∙ there.0)))
          ∙ none_of_others key bookmark all entries alone there.1
    ] refl

-- the laws of entries that it rests on
abbrev IsTakenByEntries : Type 0
IsTakenByEntries =
    (schema : Schema) (rows : Rows) (rule : IndexRule) (own key : List ℕ) → rule_with_id schema rule.id.0 ≡ Some rule → rule.flags.primary ≡ false → is_taken schema rows rule (Some own) key ≡ has_key key (without_entries own (derive rule schema rows))

abbrev AreOfTheirRecords : Type 0
AreOfTheirRecords =
    (rule : IndexRule) (schema : Schema) (rows : Rows) (key bookmark : List ℕ) → are_sorted (own_order rows) ≡ true → has_entry key bookmark (derive rule schema rows) ≡ yields_key rule schema key (row_at rows bookmark)

secondary_alone : IsTakenByEntries → AreOfTheirRecords → (schema : Schema) (table : ℕ) (rows : Rows) (rule : IndexRule) (bookmark : List ℕ) (records : Records) → ((at : List ℕ) → row_at rows at ≡ records table at) → are_sorted (own_order rows) ≡ true
    → rule_with_id schema rule.id.0 ≡ Some rule → rule.flags.primary ≡ false → AreUnique rule schema table records → IsKeyAlone schema rows rule bookmark
secondary_alone taken_by of_records schema table rows rule bookmark records same sorted here secondary unique key had =
    taken_by schema rows rule bookmark key here secondary
    ∙ none_of_others key bookmark (derive rule schema rows) (derive rule schema rows)
    (λ other apart there. unique bookmark other key apart (ap (yields_key rule schema key) (sym (same bookmark)) ∙ had)
    (ap (yields_key rule schema key) (sym (same other)) ∙ sym (of_records rule schema rows key other sorted) ∙ there))
    (entries_there (derive rule schema rows))

-- ---- the laws that all rests on

abbrev AsksAlike : Type 0
AsksAlike =
    (base : Records) (dropped kept : List PastChange) (store : VersionedTables) (state : DatabaseState) → Holds base dropped kept store state
    → (reader : Reader) → reader.begin ≡ begin_of (transaction_of state reader.session.0)
    → (table : ℕ) (seen : Table) → table_with_id (view state reader.session.0) table ≡ Some seen
    → AllByRecursion (λ rule. SeesNoSum rule table kept × HasKeyBefores rule (schema_of seen) table base kept) (schema_of seen).indexes
    → AllByRecursion (λ rule. (own : Option (List ℕ)) (values : RecordFields)
    → unique_refusals reader store table (schema_of seen) rule own values
    ≡ (list_any (has_key_conflict state reader.session.0 table (schema_of seen) rule) (new_keys rule (schema_of seen) (replaced_record seen.rows own) values), jet.WriteConflict)
    ∷ (list_any (is_taken (schema_of seen) seen.rows rule own) (key_list rule (schema_of seen) values), jet.KeyDuplicate) ∷ []) (schema_of seen).indexes

abbrev FindsUnique : Type 0
FindsUnique =
    (base : Records) (dropped kept : List PastChange) (state : DatabaseState) → IsHistory base dropped kept state → (rule : IndexRule) (schema : Schema) (table : ℕ)
    → SeesNoSum rule table kept → HasFreeKeys rule schema table (transaction_of state) base kept → (session : ℕ) → AreUnique rule schema table (records_of (view state session))

abbrev SeesBookmarks : Type 0
SeesBookmarks =
    (base : Records) (dropped kept : List PastChange) (state : DatabaseState) → IsHistory base dropped kept state → IndexesSeeNoSum kept state → HasBookmarks base kept state → (session id : ℕ)
    → IfSome (table_with_id state.tables id) (λ table. (bookmark : List ℕ) → IfSome (records_of (view state session) id bookmark) (StandsUnder state.number (schema_of table) bookmark))

pub record KeyLaws : Type 0 where
  pub asks : AsksAlike
  pub unique : FindsUnique
  pub bookmarks : SeesBookmarks
  pub one : HasOneEntry
  pub taken_by : IsTakenByEntries
  pub of_records : AreOfTheirRecords

-- ---- a table of the view

-- The table is committed and seen, with one schema.
pub record IsSeenTable (state : DatabaseState) (session table : ℕ) (committed seen : Table) : Type 0 where
  pub found : table_with_id state.tables table ≡ Some committed
  pub viewed : table_with_id (view state session) table ≡ Some seen
  pub same : schema_of committed ≡ schema_of seen

-- each index of its schema
abbrev ApartIn : Records → List PastChange → ℕ → Schema → Type 0
ApartIn base kept table schema = AllByRecursion (λ rule. SeesNoSum rule table kept × HasKeyBefores rule schema table base kept) schema.indexes

apart_in : (engine : EngineState) (state : DatabaseState) (h : HoldsState engine state) (session table : ℕ) (committed seen : Table) → IsSeenTable state session table committed seen → ApartIn h.base h.kept table (schema_of seen)
apart_in engine state h session table committed seen is =
    subst (ApartIn h.base h.kept table) is.same
    (subst (λ (n : ℕ). ApartIn h.base h.kept n (schema_of committed)) (id_of state.tables table committed is.found)
    (all_primary_first (λ rule. SeesNoSum rule committed.id h.kept × HasKeyBefores rule (schema_of committed) committed.id h.base h.kept) committed.indexes
    (all_weaker (IsApartFromSums h.base h.kept committed) (λ rule. SeesNoSum rule committed.id h.kept × HasKeyBefores rule (schema_of committed) committed.id h.base h.kept) (λ rule each. (each.1, each.2)) committed.indexes
    (subst (λ (o : Option Table). IfSome o (λ t. AllByRecursion (IsApartFromSums h.base h.kept t) t.indexes)) is.found (h.reached.sums.tables table)))))

sorted_rows : (state : DatabaseState) (engine : EngineState) → HoldsState engine state → (session table : ℕ) (seen : Table) → table_with_id (view state session) table ≡ Some seen → are_sorted (own_order seen.rows) ≡ true
sorted_rows state engine h session table seen viewed = order_is seen.rows (of_found (λ (t : Table). RowsRise t.rows) _ (view state session) seen viewed (view_rises state h.holds.rise session))

rows_are : (state : DatabaseState) (session table : ℕ) (seen : Table) → table_with_id (view state session) table ≡ Some seen → (at : List ℕ) → row_at seen.rows at ≡ records_of (view state session) table at
rows_are state session table seen viewed at = ap (λ (o : Option Table). row_at (rows_of o) at) (sym viewed)

-- no key that the record under a bookmark has is another record's
alone_in : KeyLaws → (engine : EngineState) (state : DatabaseState) (h : HoldsState engine state) (session table : ℕ) (committed seen : Table) → IsSeenTable state session table committed seen → (bookmark : List ℕ)
    → AllByRecursion (λ rule. is_unique rule ≡ true → IsKeyAlone (schema_of committed) seen.rows rule bookmark) (schema_of committed).indexes
alone_in laws engine state h session table committed seen is bookmark =
    all_primary_first (λ rule. is_unique rule ≡ true → IsKeyAlone (schema_of committed) seen.rows rule bookmark) committed.indexes
    (all_both (λ rule. IsSoundIndex committed rule × IsUniqueIndex (transaction_of state) h.base h.kept committed rule) (λ rule. SeesNoSum rule committed.id h.kept) (λ rule. is_unique rule ≡ true → IsKeyAlone (schema_of committed) seen.rows rule bookmark)
    (λ rule index plain unique. by_test rule.flags.primary
    (λ primary. primary_alone laws.one state.number (schema_of committed) seen.rows rule bookmark index.0.0 primary (index.0.2 primary).0 (index.0.2 primary).1 stands)
    (λ secondary. secondary_alone laws.taken_by laws.of_records (schema_of committed) committed.id seen.rows rule bookmark (records_of (view state session)) same (sorted_rows state engine h session table seen is.viewed) index.0.0 secondary
    (laws.unique h.base h.dropped h.kept state h.reached.history rule (schema_of committed) committed.id plain (index.1 unique).0 session))) committed.indexes
    (subst (λ (o : Option Table). IfSome o (HasUniqueIndexes (transaction_of state) h.base h.kept)) is.found (h.reached.unique.tables table))
    (subst (λ (o : Option Table). IfSome o (λ t. AllByRecursion (λ rule. SeesNoSum rule t.id h.kept) t.indexes)) is.found (unseen_now h.base h.kept state h.reached.sums table)))
  where
    same : (at : List ℕ) → row_at seen.rows at ≡ records_of (view state session) committed.id at
    same at = rows_are state session table seen is.viewed at ∙ ap (λ (n : ℕ). records_of (view state session) n at) (sym (id_of state.tables table committed is.found))

    stands : IfSome (row_at seen.rows bookmark) (StandsUnder state.number (schema_of committed) bookmark)
    stands = subst (λ (o : Option RecordFields). IfSome o (StandsUnder state.number (schema_of committed) bookmark)) (sym (rows_are state session table seen is.viewed bookmark))
        (subst (λ (o : Option Table). IfSome o (λ t. (bookmark : List ℕ) → IfSome (records_of (view state session) table bookmark) (StandsUnder state.number (schema_of t) bookmark))) is.found
        (laws.bookmarks h.base h.dropped h.kept state h.reached.history (unseen_now h.base h.kept state h.reached.sums) h.reached.bookmarks session table) bookmark)

-- ---- all keys

unique_each : (P : IndexRule → Type 0) (rules : List IndexRule) → AllByRecursion (λ rule. is_unique rule ≡ true → P rule) rules → AllByRecursion P (filter is_unique rules)
unique_each P [] h = tt
unique_each P (rule ∷ rules) h =
    elim (is_unique rule) as (λ b. (b ≡ true → P rule) → AllByRecursion P (cond b (rule ∷ filter is_unique rules) (filter is_unique rules))) [
      | true ↦ λ f. (f refl, unique_each P rules h.1)
      | false ↦ λ f. unique_each P rules h.1
    ] h.0

rule_alike : (state : DatabaseState) (session table : ℕ) (schema : Schema) (rows : Rows) (bookmark : List ℕ) (values : RecordFields) (rule : IndexRule) → IsKeyAlone schema rows rule bookmark
    → is_none (first_refusal (two_refusals (list_any (has_key_conflict state session table schema rule) (new_keys rule schema (row_at rows bookmark) values)) (list_any (is_taken schema rows rule (Some bookmark)) (key_list rule schema values))))
    ≡ list_all (λ key. not (has_key_conflict state session table schema rule key || is_taken schema rows rule (Some bookmark) key)) (new_keys rule schema (row_at rows bookmark) values)
rule_alike state session table schema rows bookmark values rule alone =
    none_of_two _ _
    ∙ keys_alike (has_key_conflict state session table schema rule) (is_taken schema rows rule (Some bookmark)) (λ key. not (yields_key rule schema key (row_at rows bookmark))) (key_list rule schema values)
    (all_each (λ key. not (yields_key rule schema key (row_at rows bookmark)) ≡ false → is_taken schema rows rule (Some bookmark) key ≡ false) (λ key old. alone key (has (yields_key rule schema key (row_at rows bookmark)) old)) (key_list rule schema values))
  where
    has : (b : Bool) → not b ≡ false → b ≡ true
    has true e = refl
    has false e = impossible (sym e)

-- what the definitions refuse, and what the engine does
refusals_alike : KeyLaws → (engine : EngineState) (state : DatabaseState) (h : HoldsState engine state) (session table : ℕ) (committed seen : Table) → IsSeenTable state session table committed seen → (own : Option (List ℕ)) (values : RecordFields)
    → keys_in engine session table (schema_of seen) own values ≡ key_refusals state session table (schema_of seen) seen.rows own values
refusals_alike laws engine state h session table committed seen is own values =
    flat_alike f g (filter is_unique (schema_of seen).indexes)
    (all_filter (λ rule. f rule ≡ g rule) is_unique (schema_of seen).indexes
    (all_weaker (λ rule. (own : Option (List ℕ)) (values : RecordFields) → unique_refusals reader engine.store table (schema_of seen) rule own values
    ≡ two_refusals (list_any (has_key_conflict state session table (schema_of seen) rule) (new_keys rule (schema_of seen) (replaced_record seen.rows own) values)) (list_any (is_taken (schema_of seen) seen.rows rule own) (key_list rule (schema_of seen) values)))
    (λ rule. f rule ≡ g rule) (λ rule same. same own values) (schema_of seen).indexes
    (laws.asks h.base h.dropped h.kept engine.store state h.holds reader (begin_told engine state h session) table seen is.viewed (apart_in engine state h session table committed seen is))))
  where
    reader : Reader
    reader = reader_in session engine.sessions

    f : IndexRule → Refusals
    f rule = unique_refusals (reader_in session engine.sessions) engine.store table (schema_of seen) rule own values

    g : IndexRule → Refusals
    g rule = two_refusals (list_any (has_key_conflict state session table (schema_of seen) rule) (new_keys rule (schema_of seen) (replaced_record seen.rows own) values)) (list_any (is_taken (schema_of seen) seen.rows rule own) (key_list rule (schema_of seen) values))

keys_told : KeyLaws → (engine : EngineState) (state : DatabaseState) (h : HoldsState engine state) (session table : ℕ) (committed seen : Table) → IsSeenTable state session table committed seen → (bookmark : List ℕ) (values : RecordFields)
    → is_none (first_refusal (keys_in engine session table (schema_of seen) (Some bookmark) values)) ≡ has_free_keys state session table (schema_of seen) seen.rows bookmark values
keys_told laws engine state h session table committed seen is bookmark values =
    ap (λ (refusals : Refusals). is_none (first_refusal refusals)) (refusals_alike laws engine state h session table committed seen is (Some bookmark) values)
    ∙ none_refused
    (λ rule. two_refusals (list_any (has_key_conflict state session table schema rule) (new_keys rule schema (row_at seen.rows bookmark) values)) (list_any (is_taken schema seen.rows rule (Some bookmark)) (key_list rule schema values)))
    (λ rule. list_all (λ key. not (has_key_conflict state session table schema rule key || is_taken schema seen.rows rule (Some bookmark) key)) (new_keys rule schema (row_at seen.rows bookmark) values))
    (filter is_unique schema.indexes)
    (all_weaker (λ rule. IsKeyAlone schema seen.rows rule bookmark) _ (rule_alike state session table schema seen.rows bookmark values) (filter is_unique schema.indexes)
    (unique_each (λ rule. IsKeyAlone schema seen.rows rule bookmark) schema.indexes
    (subst (λ (s : Schema). AllByRecursion (λ rule. is_unique rule ≡ true → IsKeyAlone s seen.rows rule bookmark) s.indexes) is.same (alone_in laws engine state h session table committed seen is bookmark))))
  where
    schema : Schema
    schema = schema_of seen

pub new_keys_told : KeyLaws → HasFreeNewKeys
new_keys_told laws engine state h session table schema named bookmark values =
    subst (λ (s : Schema). is_none (first_refusal (keys_in engine session table s (Some bookmark) values)) ≡ has_free_keys state session table s (rows_in state session table) bookmark values) (sym viewed.2)
    (subst (λ (o : Option Table). is_none (first_refusal (keys_in engine session table (schema_of viewed.0) (Some bookmark) values)) ≡ has_free_keys state session table (schema_of viewed.0) (rows_of o) bookmark values) (sym viewed.1)
    (keys_told laws engine state h session table committed.0 viewed.0 (record { found = committed.1; viewed = viewed.1; same = sym committed.2 ∙ viewed.2 }) bookmark values))
  where
    committed : HasIt (table_with_id state.tables table) schema
    committed = committed_table engine state h table schema named

    viewed : HasIt (table_with_id (view state session) table) schema
    viewed = viewed_table engine state h session table schema named
