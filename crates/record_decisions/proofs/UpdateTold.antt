-- What the engine holds tells of an update: the schema of the cursor, the keys of unique indexes, and the bookmark.
use Rattle.std.proofs.Common.{◌≡◌, ℕ, ◌≤◌, ◌==◌, true, false, List, [], ◌∷◌, length, map, min, Option, Some, None, filter, refl, sym, ap, subst, ◌∙◌, arith}
use Rattle.std.specs.Prelude.{IfSome, IsSome, IsSomeAnd}
use Rattle.std.specs.List.{AllByRecursion, list_any}
use Rattle.std.proofs.lemmas.Bool.Decides.{nat_tests}
use Rattle.std.proofs.lemmas.List.{length-take}
use Rattle.std.proofs.lemmas.Bool.{not-false}
use Rattle.jet_base.specs.declared.replies.Jet.TheVariants as jet
use Rattle.column_set.specs.RecordValues.{RecordFields}
use Rattle.index_derive.specs.declared.rules.IndexRule.{IndexRule}
use Rattle.index_derive.specs.declared.rules.Schema.{Schema}
use Rattle.index_derive.specs.Entries.{is_unique, key_list, primary_key}
use Rattle.database_state.specs.Conflicts.{has_key_conflict}
use Rattle.database_state.specs.Puts.{is_taken, key_refusals, new_keys, replaced_record}
use Rattle.column_set.specs.Refusals.{Refusals}
use Rattle.database_state.specs.State.{DatabaseState, PastChange, transaction_of}
use Rattle.database_state.specs.Table.{Rows, Table, rows_of, schema_of, table_with_id}
use Rattle.index_derive.specs.Schemas.{primary_rule}
use Rattle.database_state.specs.View.{view}
use Rattle.laws_versions.specs.Records.{Records, records_of}
use Rattle.laws_versions.specs.History.{IsHistory, without_rows}
use Rattle.laws_versions.specs.KeySums.{HasKeyBefores, IndexesSeeNoSum, IsApartFromSums, SeesNoSum}
use Rattle.laws_versions.proofs.KeyLemmas.EscrowSums.{unseen_now}
use Rattle.laws_versions.proofs.KeyLemmas.IndexNumbers.{all_primary_first}
use Rattle.laws_versions.proofs.KeyLemmas.UniqueKept.{id_of}
use Rattle.laws_versions.specs.Bookmarks.{HasBookmarks, StandsUnder, is_bookmark, is_entry_number}
use Rattle.common_lemmas.proofs.Found.{of_found}
use Rattle.common_lemmas.proofs.Booleans.{and_left, impossible}
use Rattle.common_lemmas.proofs.Lists.{all_filter, all_weaker}
use Rattle.common_lemmas.proofs.Numbers.{same_bytes}
use Rattle.version_store.specs.declared.calls.Reader.{Reader}
use Rattle.version_cleanup.specs.Cleaning.{reader_in}
use Rattle.laws_engine.specs.VersionedTables.{VersionedTables}
use Rattle.laws_engine.specs.Holding.{Holds, begin_of}
use Rattle.laws_engine.proofs.TableLemmas.Views.{view_defined}
use Rattle.table_versions.specs.KeyConflicts.{unique_refusals}
use Rattle.session_local.specs.Agreement.{HasSchemaOf, IsStorable, MayReplace}
use Rattle.session_local.specs.Local.{LocalState, OpenCursor, PreparedFor, inserting, replacing, cursor_labelled}
use Rattle.session_local.specs.RecordCalls.{is_other_key, is_primary_changed}
use Rattle.laws_engine.specs.InStep.{IsInStep}
use Rattle.laws_engine.proofs.AgreeingLemmas.Schemas.{defined}
use Rattle.laws_engine.specs.EngineState.{EngineState}
use Rattle.laws_engine.specs.HoldsState.{HoldsState}
use Rattle.laws_engine.proofs.EngineLemmas.RecordsAndConflicts.{begin_told}
use Rattle.record_decisions.specs.Updating.{HasLegalRules, HasShortBookmarks, IsLegalRule, TellsKeys, TellsSchemas, bookmark_by, keys_in, new_bookmark, number_of_change}
use Rattle.record_decisions.proofs.RuleByRule.{asked-alike, found-has}

-- ---- the schema of the cursor

of_table : (c : OpenCursor) (found : Option Table) → HasSchemaOf c found → IsSomeAnd found (λ t. c.schema ≡ schema_of t)
of_table c None has = absurd has
of_table c (Some t) has = has.0

-- it is that of each table which is defined as the committed one
schema_in : (tables : List Table) (state : DatabaseState) (session : ℕ) (local : LocalState) (label : ℕ) (c : OpenCursor) → map without_rows tables ≡ map without_rows state.tables → IsInStep state session local → cursor_labelled local label ≡ Some c
    → IsSomeAnd (table_with_id tables c.cursor.table) (λ t. c.schema ≡ schema_of t)
schema_in tables state session local label c same step found =
    of_table c (table_with_id tables c.cursor.table)
    (defined c tables state.tables same c.cursor.table
    (of_found (λ (c : OpenCursor). HasSchemaOf c (table_with_id state.tables c.cursor.table)) (λ (c : OpenCursor). c.label == label) local.cursors c found step.agrees.schemas))

pub schemas-told : TellsSchemas
schemas-told engine state session local label c h step found = schema_in engine.store.tables state session local label c h.holds.defined step found

-- ---- the keys of the unique indexes

-- the law that they rest on
abbrev pub AsksAlike : Type 0
AsksAlike =
    (base : Records) (dropped not-false : List PastChange) (store : VersionedTables) (state : DatabaseState) → Holds base dropped not-false store state
    → (reader : Reader) → reader.begin ≡ begin_of (transaction_of state reader.session.0)
    → (table : ℕ) (seen : Table) → table_with_id (view state reader.session.0) table ≡ Some seen
    → AllByRecursion (λ rule. SeesNoSum rule table not-false × HasKeyBefores rule (schema_of seen) table base not-false) (schema_of seen).indexes
    → AllByRecursion (λ rule. (own : Option (List ℕ)) (values : RecordFields)
    → unique_refusals reader store table (schema_of seen) rule own values
    ≡ (list_any (has_key_conflict state reader.session.0 table (schema_of seen) rule) (new_keys rule (schema_of seen) (replaced_record seen.rows own) values), jet.WriteConflict)
    ∷ (list_any (is_taken (schema_of seen) seen.rows rule own) (key_list rule (schema_of seen) values), jet.KeyDuplicate) ∷ []) (schema_of seen).indexes

-- what the state is asked for one rule
abbrev asked_of_state : DatabaseState → ℕ → ℕ → Schema → Rows → Option (List ℕ) → RecordFields → IndexRule → Refusals
asked_of_state state session table schema rows own values rule =
    (list_any (has_key_conflict state session table schema rule) (new_keys rule schema (replaced_record rows own) values), jet.WriteConflict)
    ∷ (list_any (is_taken schema rows rule own) (key_list rule schema values), jet.KeyDuplicate) ∷ []

-- the indexes of a schema see no sum, nor anything of one in the records before them
abbrev AreApart : Records → List PastChange → ℕ → Schema → Type 0
AreApart base not-false table schema = AllByRecursion (λ rule. SeesNoSum rule table not-false × HasKeyBefores rule schema table base not-false) schema.indexes

-- so it is for the cursor's schema
apart_at : (tables : List Table) (base : Records) (not-false : List PastChange) (c : OpenCursor) (committed : Option Table) → table_with_id tables c.cursor.table ≡ committed → HasSchemaOf c committed
    → IfSome committed (λ t. AllByRecursion (IsApartFromSums base not-false t) t.indexes) → AreApart base not-false c.cursor.table c.schema
apart_at tables base not-false c None is has apart = absurd has
apart_at tables base not-false c (Some t) is has apart =
    subst (AreApart base not-false c.cursor.table) (sym has.0)
    (subst (λ (n : ℕ). AreApart base not-false n (schema_of t)) (id_of tables c.cursor.table t is)
    (all_primary_first (λ rule. SeesNoSum rule t.id not-false × HasKeyBefores rule (schema_of t) t.id base not-false) t.indexes
    (all_weaker (IsApartFromSums base not-false t) (λ rule. SeesNoSum rule t.id not-false × HasKeyBefores rule (schema_of t) t.id base not-false) (λ rule each. (each.1, each.2)) t.indexes apart)))

keys_at : AsksAlike → (engine : EngineState) (state : DatabaseState) (session table : ℕ) (schema : Schema) (own : Option (List ℕ)) (values : RecordFields) (seen : Option Table) (h : HoldsState engine state)
    → table_with_id (view state session) table ≡ seen → IsSomeAnd seen (λ t. schema ≡ schema_of t) → AreApart h.base h.kept table schema
    → keys_in engine session table schema own values ≡ key_refusals state session table schema (rows_of seen) own values
keys_at alike engine state session table schema own values None h is has apart = absurd has
keys_at alike engine state session table schema own values (Some t) h is has apart =
    let reader : Reader = reader_in session engine.sessions in
    let f : IndexRule → Refusals = λ rule. unique_refusals reader engine.store table (schema_of t) rule own values in
    let g : IndexRule → Refusals = asked_of_state state session table (schema_of t) t.rows own values in
    subst (λ (s : Schema). keys_in engine session table s own values ≡ key_refusals state session table s t.rows own values) (sym has)
    (asked-alike f g (filter is_unique (schema_of t).indexes)
    (all_filter (λ rule. f rule ≡ g rule) is_unique (schema_of t).indexes
    (all_weaker (λ rule. (own : Option (List ℕ)) (values : RecordFields) → unique_refusals reader engine.store table (schema_of t) rule own values ≡ asked_of_state state session table (schema_of t) t.rows own values rule) (λ rule. f rule ≡ g rule)
    (λ rule same. same own values) (schema_of t).indexes
    (alike h.base h.dropped h.kept engine.store state h.holds reader (begin_told engine state h session) table t is (subst (AreApart h.base h.kept table) has apart)))))

pub keys-told : AsksAlike → TellsKeys
keys-told alike engine state session local label c h step found own values =
    keys_at alike engine state session c.cursor.table c.schema own values (table_with_id (view state session) c.cursor.table) h refl
    (schema_in (view state session) state session local label c (view_defined h.base h.dropped h.kept engine.store state h.holds session) step found)
    (apart_at state.tables h.base h.kept c (table_with_id state.tables c.cursor.table) refl
    (of_found (λ (c : OpenCursor). HasSchemaOf c (table_with_id state.tables c.cursor.table)) (λ (c : OpenCursor). c.label == label) local.cursors c found step.agrees.schemas)
    (h.reached.sums.tables c.cursor.table))

-- ---- the bookmark is short

abbrev pub SeesBookmarks : Type 0
SeesBookmarks =
    (base : Records) (dropped not-false : List PastChange) (state : DatabaseState) → IsHistory base dropped not-false state → IndexesSeeNoSum not-false state → HasBookmarks base not-false state → (session id : ℕ)
    → IfSome (table_with_id state.tables id) (λ table. (bookmark : List ℕ) → IfSome (records_of (view state session) id bookmark) (StandsUnder state.number (schema_of table) bookmark))

pub legal-primary : (schema : Schema) (rule : IndexRule) → HasLegalRules schema → primary_rule schema ≡ Some rule → rule.key_most ≤ 255
legal-primary schema rule rules is = (found-has (IsLegalRule schema) (λ (r : IndexRule). r.flags.primary) schema.indexes rule rules is).2

primary_short : (rule : IndexRule) (schema : Schema) (values : RecordFields) → rule.key_most ≤ 255 → length (primary_key rule schema values) ≤ 255
unfolding primary_key
primary_short rule schema values short = most _ _ _ (length-take rule.key_most _) short
  where
    most : (n m k : ℕ) → n ≡ min m k → m ≤ 255 → n ≤ 255
    most n m k e h = omega arith

eight : (n : ℕ) → (n == 8) ≡ true → n ≤ 255
eight n h = grind (arith, nat_tests)

-- the bookmark of a new record
inserted_short : (number : ℕ) (schema : Schema) (values : RecordFields) (rule : Option IndexRule) → HasLegalRules schema → primary_rule schema ≡ rule → length (new_bookmark number schema values rule) ≤ 255
inserted_short number schema values None rules is = eight 8 refl
inserted_short number schema values (Some rule) rules is = primary_short rule schema values (legal-primary schema rule rules is)

-- a record that is seen stands under the number of an entry, where there is no primary index
hidden_short : (number : ℕ) (schema : Schema) (bookmark : List ℕ) (found : Option RecordFields) → IsSome found → IfSome found (StandsUnder number schema bookmark) → primary_rule schema ≡ None → length bookmark ≤ 255
hidden_short number schema bookmark None there stands none = impossible there
hidden_short number schema bookmark (Some values) there stands none =
    let is : is_entry_number number bookmark ≡ true = ap (λ (r : Option IndexRule). is_bookmark number schema r bookmark values) (sym none) ∙ stands in
    eight (length bookmark) (and_left (length bookmark == 8) _ is)

replaced_hidden : (state : DatabaseState) (session : ℕ) (c : OpenCursor) (bookmark : List ℕ) (committed : Option Table) → HasSchemaOf c committed
    → IfSome committed (λ table. (bookmark : List ℕ) → IfSome (records_of (view state session) c.cursor.table bookmark) (StandsUnder state.number (schema_of table) bookmark))
    → MayReplace state session c (replacing bookmark) → primary_rule c.schema ≡ None → length bookmark ≤ 255
replaced_hidden state session c bookmark None has stands may none = absurd has
replaced_hidden state session c bookmark (Some t) has stands may none =
    hidden_short state.number (schema_of t) bookmark (records_of (view state session) c.cursor.table bookmark) may.0 (stands bookmark) (ap primary_rule (sym has.0) ∙ none)

-- the bookmark of a replaced record: its primary key, where there is a primary index
replaced_short : (schema : Schema) (bookmark : List ℕ) (values : RecordFields) (rule : Option IndexRule) → HasLegalRules schema → primary_rule schema ≡ rule → is_other_key schema bookmark values rule ≡ false → (primary_rule schema ≡ None → length bookmark ≤ 255)
    → length bookmark ≤ 255
replaced_short schema bookmark values None rules is same hidden = hidden is
replaced_short schema bookmark values (Some rule) rules is same hidden =
    subst (λ (b : List ℕ). length b ≤ 255) (same_bytes (primary_key rule schema values) bookmark (not-false _ same)) (primary_short rule schema values (legal-primary schema rule rules is))

short_by : SeesBookmarks → (engine : EngineState) (state : DatabaseState) (session : ℕ) (local : LocalState) (label : ℕ) (c : OpenCursor) (for : PreparedFor) (values : RecordFields) → HoldsState engine state → IsInStep state session local
    → cursor_labelled local label ≡ Some c → HasLegalRules c.schema → MayReplace state session c for → is_primary_changed c.schema for values ≡ false → length (bookmark_by engine session c.schema for values) ≤ 255
short_by sees engine state session local label c (inserting copied) values h step found rules may same = inserted_short (number_of_change engine session) c.schema values (primary_rule c.schema) rules refl
short_by sees engine state session local label c (replacing bookmark) values h step found rules may same =
    replaced_short c.schema bookmark values (primary_rule c.schema) rules refl same
    (replaced_hidden state session c bookmark (table_with_id state.tables c.cursor.table)
    (of_found (λ (c : OpenCursor). HasSchemaOf c (table_with_id state.tables c.cursor.table)) (λ (c : OpenCursor). c.label == label) local.cursors c found step.agrees.schemas)
    (sees h.base h.dropped h.kept state h.reached.history (unseen_now h.base h.kept state h.reached.sums) h.reached.bookmarks session c.cursor.table) may)

pub bookmarks-short : SeesBookmarks → HasShortBookmarks
bookmarks-short sees engine state session local label c prepared h step found is rules same =
    let storable : IsStorable state session c (Some prepared) =
    subst (IsStorable state session c) is (of_found (λ (c : OpenCursor). IsStorable state session c c.prepared) (λ (c : OpenCursor). c.label == label) local.cursors c found step.agrees.prepared) in
    short_by sees engine state session local label c prepared.for prepared.values h step found rules storable.3 same
