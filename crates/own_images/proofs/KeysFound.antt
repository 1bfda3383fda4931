-- Of the unique keys of an own engine none is found.
use Rattle.std.proofs.Common.{◌≡◌, ℕ, Bool, true, false, not, List, [], ◌∷◌, Option, Some, None, refl, sym, ap, subst, ◌∙◌}
use Rattle.std.specs.Prelude.{◌==◌, IfSome, filter, find, is_some, length, map, nat_le, option_and_then, option_map, if◌then◌else◌}
use Rattle.std.specs.List.{AllByRecursion}
use Rattle.std.proofs.lemmas.Bool.{and_from}
use Rattle.column_set.specs.ChangedRecords.{changed_table}
use Rattle.common_lemmas.proofs.Finding.{find_map}
use Rattle.common_lemmas.proofs.Found.{of_found}
use Rattle.common_lemmas.proofs.Lists.{all_each, all_weaker, filter_none}
use Rattle.common_lemmas.proofs.Options.{none_some}
use Rattle.cursor_nav.specs.Places.{Pair}
use Rattle.database_state.specs.State.{DatabaseState, LiveSession, PastChange, Status, Transaction, committed, is_undone, transaction_of, uncommitted, undone}
use Rattle.database_state.specs.Table.{Table, primary_first, rows_of, schema_of, table_with_id}
use Rattle.index_derive.specs.Entries.{is_unique}
use Rattle.index_derive.specs.Schemas.{rule_with_id}
use Rattle.index_derive.specs.declared.rules.IndexRule.{IndexRule}
use Rattle.jet_catalog.specs.Catalog.{CatalogState}
use Rattle.laws_engine.proofs.TableLemmas.ExactSums.{Numbers, first_numbers, numbers_back}
use Rattle.laws_engine.proofs.TableLemmas.Rising.{tables_rise}
use Rattle.laws_engine.specs.EngineState.{EngineState}
use Rattle.laws_engine.specs.HeldRecords.{HeldRecord, inverse}
use Rattle.laws_engine.specs.Holding.{AllMatch, AllRise}
use Rattle.laws_engine.specs.HoldsState.{HoldsState}
use Rattle.laws_engine.specs.VersionedTables.{VersionedTables}
use Rattle.laws_images.proofs.OpenedLemmas.SumsInTurn.{held_in_turn, sums_back}
use Rattle.laws_images.proofs.SettledLemmas.HeldStates.{settled_holds}
use Rattle.laws_images.specs.GivenBack.{AllStand}
use Rattle.laws_images.specs.InTurn.{AreInTurn}
use Rattle.laws_images.specs.Settled.{settled, settled_engine, stands}
use Rattle.laws_images.specs.ShownStates.{past_of, session_of, tables_before, with_snapshot}
use Rattle.laws_versions.proofs.HistoryLemmas.SeenRecords.{newest_records}
use Rattle.laws_versions.proofs.HistoryLemmas.Viewing.{same_there}
use Rattle.laws_versions.proofs.KeyLemmas.IndexNumbers.{all_primary_first}
use Rattle.laws_versions.specs.History.{IsPlaced, is_apart_by}
use Rattle.laws_versions.specs.KeySums.{HasKeyBefores, IsApartFromSums, SeesNoSum}
use Rattle.laws_versions.specs.Readers.{is_standing}
use Rattle.laws_versions.specs.Records.{Records, record_after, records_of}
use Rattle.laws_versions.specs.UniqueKeys.{AreUnique, HasFreeKeys, HasUniqueIndexes, IsSoundIndex, IsUniqueIndex}
use Rattle.live_part.specs.LiveBytes.{standing}
use Rattle.page_image.specs.Page.{Node}
use Rattle.stored_variants.specs.VersionsKept.{only_secondary}
use Rattle.version_cleanup.specs.LiveSessions.{LiveState, transaction_in, without_snapshot}
use Rattle.version_cleanup.specs.declared.live.Transaction.{Transaction as LiveTransaction}
use Rattle.version_store.specs.HeldChanges.{HeldChange}
use Rattle.image_findings.specs.EntryFindings.{wanted_entries}
use Rattle.image_findings.specs.Findings.{history_of}
use Rattle.image_findings.specs.Images.{at_least_key, first_of}
use Rattle.image_findings.specs.Images.Finding.{Unique}
use Rattle.image_findings.specs.KeyFindings.{HeldHistory, holders, is_free_through, is_unique_key, key_finding, unique_finding}
use Rattle.image_findings.specs.TableContents.{TableContents}
use Rattle.own_images.proofs.ChangesSound.{transaction_is}
use Rattle.own_images.proofs.Differing.{all_both}
use Rattle.own_images.proofs.FirstHolders.{first_few, first_have}
use Rattle.own_images.proofs.KeysCarried.{AreAsApart, AreCarried, all_standing, carried, free_carried, left_carried, order_carried}
use Rattle.own_images.proofs.KeysFree.{HaveKey, free_through}
use Rattle.own_images.proofs.Missing.{IsOfCatalog, of_catalog}
use Rattle.own_images.proofs.OwnEntries.{HasRules, IsSecondary, first_none, own_rules}
use Rattle.own_images.proofs.RowsSound.{IsOfState, of_state}
use Rattle.own_images.proofs.SettledShown.{own_settled}
use Rattle.own_images.proofs.Walked.{WalkLaws}
use Rattle.own_images.specs.OwnEngines.{IsOwnEngine, engine_of_store, keys_found}
use Rattle.own_images.specs.OwnStores.{OwnStore, contents_of}

-- ---- changes that stand

each_passes : {X : Type 0} (p : X → Bool) (xs : List X) → AllByRecursion (λ x. p x ≡ true) (filter p xs)
each_passes p [] = tt
each_passes {X} p (x ∷ xs) = by (p x) refl (each_passes p xs)
  where
    by : (b : Bool) → p x ≡ b → AllByRecursion (λ y. p y ≡ true) (filter p xs) → AllByRecursion (λ y. p y ≡ true) (if b then x ∷ filter p xs else filter p xs)
    by true e rest = (e, rest)
    by false e rest = rest

kept_stand : (items : List PastChange) (held : List HeldRecord) → AllMatch items held → AllByRecursion (λ h. stands h ≡ true) held → AllByRecursion (λ item. is_standing item ≡ true) items
kept_stand [] [] m all = tt
kept_stand [] (h ∷ held) m all = absurd m
kept_stand (item ∷ items) [] m all = absurd m
kept_stand (item ∷ items) (h ∷ held) m all = (ap (λ (s : Status). not (is_undone s)) (sym m.0.status) ∙ all.0, kept_stand items held m.1 all.1)

stand_in : (number : ℕ) (tables newer : List Table) (transactions : ℕ → Option Transaction) → ((id : ℕ) → is_some (table_with_id newer id) ≡ is_some (table_with_id tables id)) → (items : List PastChange)
    → AllByRecursion (λ item. is_standing item ≡ true) items → AllByRecursion (IsPlaced number tables transactions) items → AllStand newer items
stand_in number tables newer transactions same [] stand placed = tt
stand_in number tables newer transactions same (item ∷ items) stand placed = ((stand.0, same (changed_table item.change) ∙ placed.0.1), stand_in number tables newer transactions same items stand.1 placed.1)

first_rise : (changes : List HeldRecord) (tables : List Table) → AllRise tables → AllRise (tables_before changes tables)
first_rise [] tables rise = rise
first_rise (h ∷ changes) tables rise = tables_rise (tables_before changes tables) (inverse h) (first_rise changes tables rise)

-- ---- transactions that are shown

-- the history of tables with versions, with their sessions
abbrev pub history_in : ℕ → List LiveState → VersionedTables → HeldHistory
history_in number sessions store = history_of (record { limit = 0; number = number; greatest_table = 0; newest_put = number; sessions = sessions; store = store })

transaction_shown : (first : List Table) (past : List PastChange) (sessions : List LiveState) (label : ℕ)
    → option_and_then (λ (s : LiveSession). s.transaction) (find (λ (s : LiveSession). s.label == label) (map (session_of first past) sessions)) ≡ option_map (with_snapshot first past) (transaction_in label sessions)
transaction_shown first past sessions label = ap (option_and_then (λ (s : LiveSession). s.transaction)) (find_map (session_of first past) (λ (s : LiveSession). s.label == label) sessions) ∙ at (find (λ (s : LiveState). s.label == label) sessions)
  where
    at : (o : Option LiveState) → option_and_then (λ (s : LiveSession). s.transaction) (option_map (session_of first past) o) ≡ option_map (with_snapshot first past) (option_and_then (λ (s : LiveState). s.transaction) o)
    at None = refl
    at (Some s) = refl

shown_apart : (first : List Table) (past : List PastChange) (o : Option Transaction) (number : ℕ) (same : Bool) (earlier later : Status)
    → is_apart_by (option_map (with_snapshot first past) (option_map without_snapshot o)) number same earlier later ≡ is_apart_by o number same earlier later
shown_apart first past None number same earlier later = refl
shown_apart first past (Some t) number same earlier uncommitted = refl
shown_apart first past (Some t) number same earlier (committed at) = refl
shown_apart first past (Some t) number same earlier undone = refl

as_apart : (number : ℕ) (engine : EngineState) (state : DatabaseState) → HoldsState engine state → AreAsApart (transaction_of state) (history_in number engine.sessions engine.store).transactions
as_apart number engine state h session count same earlier later =
    let first = tables_before engine.store.held engine.store.tables in
    let past = past_of engine.store.held engine.store.tables in
    ap (λ (o : Option Transaction). is_apart_by o count same earlier later)
    (transaction_shown first past engine.sessions session
    ∙ ap (λ (l : List LiveState). option_map (with_snapshot first past) (transaction_in session l)) (sym h.sessions)
    ∙ ap (λ (o : Option LiveTransaction). option_map (with_snapshot first past) o) (transaction_is state.sessions session))
    ∙ shown_apart first past (transaction_of state session) count same earlier later

-- ---- one key of an index

-- the keys of an index of a table, where it is unique, are free through the kept changes; and it sees no sum
abbrev HasFreeIndex : DatabaseState → Records → List PastChange → Table → IndexRule → Type 0
HasFreeIndex state base kept table rule =
    (is_unique rule ≡ true → HasFreeKeys rule (schema_of table) table.id (transaction_of state) base kept) × SeesNoSum rule table.id kept × HasKeyBefores rule (schema_of table) table.id base kept

key_is_unique : (number : ℕ) (engine : EngineState) (state : DatabaseState) (h : HoldsState engine state) → AllByRecursion (λ x. stands x ≡ true) engine.store.held → (table : Table) (rule : IndexRule) → HasFreeIndex state h.base h.kept table rule
    → is_unique rule ≡ true → (key : List ℕ) → is_unique_key (history_in number engine.sessions engine.store) table rule key ≡ true
key_is_unique number engine state h all table rule index unique key =
    and_from (nat_le (length list) 1) (is_free_through rule (schema_of table) table.id key (history_in number engine.sessions engine.store).transactions [] list past)
    (first_few rule (schema_of table) table.id key first rise (subst (AreUnique rule (schema_of table) table.id) (sym turn.1) free.at_first))
    (free_through rule (schema_of table) table.id key (history_in number engine.sessions engine.store).transactions h.base past [] list
    (all_standing rule (schema_of table) table.id h.base h.kept past carry stand)
    (free_carried rule (schema_of table) table.id h.base h.kept past carry stand free.free_keys)
    (order_carried rule (schema_of table) table.id (transaction_of state) (history_in number engine.sessions engine.store).transactions (as_apart number engine state h) h.base h.kept past carry free.key_order)
    tt
    (left_carried rule (schema_of table) table.id key h.base h.kept past carry)
    (subst (λ (r : Records). HaveKey rule (schema_of table) table.id key r list) turn.1 (first_have rule (schema_of table) table.id key first rise)))
  where
    first : List Table
    first = tables_before engine.store.held engine.store.tables

    past : List PastChange
    past = past_of engine.store.held engine.store.tables

    list : List (List ℕ)
    list = holders rule (schema_of table) key (rows_of (table_with_id first table.id))

    rise : AllRise first
    rise = first_rise engine.store.held engine.store.tables h.holds.in_order

    stand : AllByRecursion (λ item. is_standing item ≡ true) h.kept
    stand = kept_stand h.kept engine.store.held h.holds.held all

    turn : AreInTurn engine.store.held engine.store.tables × (records_of first ≡ h.base)
    turn = held_in_turn engine state h stand

    free : HasFreeKeys rule (schema_of table) table.id (transaction_of state) h.base h.kept
    free = index.0 unique

    carry : AreCarried rule (schema_of table) table.id h.base h.kept past
    carry =
        let keeps = h.reached.history.keeps in
        carried rule (schema_of table) table.id h.base h.kept engine.store.held engine.store.tables h.holds.held
        (stand_in state.number state.tables engine.store.tables (transaction_of state) (same_there engine.store.tables state.tables h.holds.defined) h.kept stand keeps.placed)
        keeps.befores
        (sums_back (Numbers state) h.base h.kept (numbers_back h.base h.kept state h.reached.numbers keeps.placed) (first_numbers h.base h.kept state h.reached.numbers))
        (sym (newest_records h.base h.dropped h.kept state h.reached.history) ∙ sym h.holds.newest)
        (all_weaker (IsPlaced state.number state.tables (transaction_of state)) (λ item. item.after ≡ record_after item.change item.before) (λ item placed. placed.3) h.kept keeps.placed)
        index.1 index.2

-- ---- all keys of a table

none_of_index : (history : HeldHistory) (held : List HeldChange) (t : TableContents) (rule : IndexRule) → (is_unique rule ≡ true → (key : List ℕ) → is_unique_key history t.table rule key ≡ true) → unique_finding history held t rule ≡ None
none_of_index history held t rule each = by (is_unique rule) refl
  where
    keys : List (List ℕ)
    keys = map (λ (p : Pair). p.0) (wanted_entries held t rule)

    by : (b : Bool) → is_unique rule ≡ b → (if b then at_least_key (Unique t.table.name rule.name) (filter (λ key. not (is_unique_key history t.table rule key)) keys) else None) ≡ None
    by false e = refl
    by true e = ap (at_least_key (Unique t.table.name rule.name)) (filter_none (λ key. not (is_unique_key history t.table rule key)) keys (all_each (λ key. not (is_unique_key history t.table rule key) ≡ false) (λ key. ap not (each e key)) keys))

-- a rule that is found is one of the table's
of_table : (P : IndexRule → Type 0) (table : Table) (rule : IndexRule) → AllByRecursion P table.indexes → only_secondary (rule_with_id (schema_of table) rule.id.0) ≡ Some rule → P rule
of_table P table rule all e = of_found P (λ (r : IndexRule). r.id.0 == rule.id.0) (primary_first table.indexes) rule (only (rule_with_id (schema_of table) rule.id.0) e) (all_primary_first P table.indexes all)
  where
    by : (b : Bool) (r : IndexRule) → (if b then None else Some r) ≡ Some rule → Some r ≡ Some rule
    by true r e = none_some rule e
    by false r e = e

    only : (o : Option IndexRule) → only_secondary o ≡ Some rule → o ≡ Some rule
    only None e = none_some rule e
    only (Some r) e = by r.flags.primary r e

free_indexes : (sessions : List LiveState) (store : OwnStore) → IsOwnEngine sessions store → (engine : EngineState) (h : HoldsState engine (settled store.state)) (t : TableContents) → IsOfCatalog store t → AllByRecursion (HasFreeIndex (settled store.state) h.base h.kept t.table) t.table.indexes
free_indexes sessions store own engine h t is =
    let u : IsOfState store.state.tables t.table = of_state store.state.tables t.table (ap (λ (c : CatalogState). table_with_id c.tables t.table.id) own.kept.catalog ∙ is) in
    let transactions = transaction_of (settled store.state) in
    subst (λ (x : Table). AllByRecursion (HasFreeIndex (settled store.state) h.base h.kept x) x.indexes) u.same
    (all_both (λ rule. IsSoundIndex u.own rule × IsUniqueIndex transactions h.base h.kept u.own rule) (IsApartFromSums h.base h.kept u.own) (HasFreeIndex (settled store.state) h.base h.kept u.own)
    (λ rule a b. (λ e. (a.1 e).0, b.1, b.2)) u.own.indexes
    (subst (λ (o : Option Table). IfSome o (HasUniqueIndexes transactions h.base h.kept)) u.found (h.reached.unique.tables t.table.id))
    (subst (λ (o : Option Table). IfSome o (λ table. AllByRecursion (IsApartFromSums h.base h.kept table) table.indexes)) u.found (h.reached.sums.tables t.table.id)))

none_of_table : (sessions : List LiveState) (store : OwnStore) → IsOwnEngine sessions store → (engine : EngineState) → HoldsState engine (settled store.state) → AllByRecursion (λ x. stands x ≡ true) engine.store.held → (t : TableContents) → IsOfCatalog store t → HasRules t
    → key_finding (history_in store.number engine.sessions engine.store) (standing store.held) t ≡ None
none_of_table sessions store own engine h all t is rules =
    let history = history_in store.number engine.sessions engine.store in
    let free = free_indexes sessions store own engine h t is in
    first_none (λ (index : IndexRule × List Node). unique_finding history (standing store.held) t index.0) t.indexes
    (all_weaker (IsSecondary t.table) (λ index. unique_finding history (standing store.held) t index.0 ≡ None)
    (λ index found. none_of_index history (standing store.held) t index.0 (key_is_unique store.number engine (settled store.state) h all t.table index.0 (of_table (HasFreeIndex (settled store.state) h.base h.kept t.table) t.table index.0 free found)))
    t.indexes rules)

-- ---- all tables

pub own_keys : WalkLaws → (sessions : List LiveState) (store : OwnStore) → IsOwnEngine sessions store → keys_found sessions store ≡ None
own_keys walks sessions store own =
    let engine = settled_engine (engine_of_store own.limit sessions store) in
    let tables = contents_of store in
    let held = standing store.held in
    subst (λ (s : VersionedTables). first_of (map (key_finding (history_in store.number sessions s) held) tables) ≡ None) (sym (own_settled walks own.limit sessions store own.kept))
    (first_none (key_finding (history_in store.number sessions engine.store) held) tables
    (all_both (IsOfCatalog store) HasRules (λ t. key_finding (history_in store.number sessions engine.store) held t ≡ None)
    (none_of_table sessions store own engine (settled_holds (engine_of_store own.limit sessions store) store.state own.holds) (each_passes stands (engine_of_store own.limit sessions store).store.held)) tables (of_catalog store own.kept) (own_rules store own.kept)))
