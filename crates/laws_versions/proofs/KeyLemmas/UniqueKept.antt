-- Entries that are no schema steps keep the keys of all unique indexes.
use Rattle.std.proofs.Common.{◌≡◌, ℕ, ◌+◌, Bool, true, false, not, ◌||◌, ◌-◌, cond, List, [], ◌∷◌, ◌++◌, Option, Some, None, refl, sym, ap, subst, ◌∙◌, bytes_eq}
use Rattle.std.specs.Prelude.{◌==◌, nat_lt, map, filter, IfSome}
use Rattle.std.specs.List.{AllByRecursion, list_all}
use Rattle.std.proofs.lemmas.Bool.{eqb-true, not-true}
use Rattle.common_lemmas.proofs.Booleans.{and_left, and_right, impossible}
use Rattle.common_lemmas.proofs.Lists.{all_each, all_weaker}
use Rattle.common_lemmas.proofs.Numbers.{self_equal}
use Rattle.column_set.specs.declared.changes.Change.{Change}
use Rattle.column_set.specs.declared.changes.Change.TheVariants.{Put, Drop, Hold, Add}
use Rattle.column_set.specs.RecordValues.{RecordFields}
use Rattle.index_derive.specs.declared.rules.IndexRule.{IndexRule}
use Rattle.index_derive.specs.declared.rules.Schema.{Schema}
use Rattle.index_derive.specs.declared.log.EntryKind.{EntryKind}
use Rattle.index_derive.specs.declared.log.EntryKind.TheVariants as entry
use Rattle.index_derive.specs.Entries.{is_unique}
use Rattle.database_state.specs.Table.{Rows, Table, row_at, rows_of, schema_of, table_with_id}
use Rattle.index_derive.specs.Schemas.{primary_rule}
use Rattle.database_state.specs.Changes.{without_copied}
use Rattle.column_set.specs.ChangedRecords.{changed_table, changed_bookmark}
use Rattle.database_state.specs.Puts.{is_taken, new_keys}
use Rattle.database_state.specs.State.{DatabaseState, PastChange, Transaction, levels, levels_of, open_changes_of, transaction_of, undone}
use Rattle.database_state.specs.View.{newest, view}
use Rattle.database_state.specs.Conflicts.{has_key_conflict, has_write_conflict, is_concurrent, yields_key}
use Rattle.database_state.specs.Step.{applied, every_change, is_at_level, with_changes_at, with_levels, with_transaction}
use Rattle.database_state.specs.Lawful.{has_free_keys, is_bookmark_of, is_lawful_at, is_lawful_change, is_lawful_kind, is_lawful_put}
use Rattle.laws_versions.specs.Records.{Records, record_after, records_after_items, records_of}
use Rattle.laws_versions.specs.History.{IsHistory, IsPlaced, without_rows}
use Rattle.laws_versions.specs.KeptSteps.{committed_own, is_own_open, kept_after, lowered_own, new_change, undone_where, with_next_number}
use Rattle.laws_versions.specs.Readers.{is_standing}
use Rattle.laws_versions.proofs.HistoryLemmas.EndEntries.{back, same_definitions}
use Rattle.laws_versions.proofs.HistoryLemmas.Ending.{commit_before, commit_change, lower_before, lower_change}
use Rattle.laws_versions.proofs.HistoryLemmas.Entries.{history_later}
use Rattle.laws_versions.proofs.HistoryLemmas.Keeping.{undone_change}
use Rattle.laws_versions.proofs.HistoryLemmas.Lists.{all_both}
use Rattle.laws_versions.proofs.HistoryLemmas.SeenRecords.{newest_records}
use Rattle.laws_versions.proofs.HistoryLemmas.Unhindered.{finds_newest}
use Rattle.laws_versions.specs.UniqueKeys.{BringsKey, HasBookmarkKeys, HasOwnKey, HasUniqueIndexes, HasUniqueKeys, IsSoundIndex, IsUniqueIndex, MeetsKey}
use Rattle.laws_versions.specs.KeySums.{IndexesSeeNoSum, SeesNoSum, adds_to_index}
use Rattle.laws_versions.proofs.KeyLemmas.KeySums.{seen_by, sum_keeps}
use Rattle.laws_versions.proofs.KeyLemmas.BookmarkKeys.{HasOneEntry, newest_own, own_appended, own_free, own_key, own_mapped, own_meets}
use Rattle.laws_versions.proofs.KeyLemmas.FreeKeys.{IsLawfulKey, in_any_order, put_free, put_meets, rules_pass}
use Rattle.laws_versions.proofs.KeyLemmas.KeysOfEntries.{changes_records, commit_after, keys_by_kind, keys_changed, lower_after}

-- ---- tables that change in their rows alone

there : (P : Table → Type 0) → ((t : Table) → P (without_rows t) → P t) → (tables : List Table) (id : ℕ) → IfSome (table_with_id (map without_rows tables) id) P → IfSome (table_with_id tables id) P
there P f [] id h = h
there P f (t ∷ tables) id h = elim (t.id == id) as (λ b. IfSome (cond b (Some (without_rows t)) (table_with_id (map without_rows tables) id)) P → IfSome (cond b (Some t) (table_with_id tables id)) P) [
  | true ↦ λ g. f t g
  | false ↦ λ g. there P f tables id g
] h

back_there : (P : Table → Type 0) → ((t : Table) → P t → P (without_rows t)) → (tables : List Table) (id : ℕ) → IfSome (table_with_id tables id) P → IfSome (table_with_id (map without_rows tables) id) P
back_there P f [] id h = h
back_there P f (t ∷ tables) id h = elim (t.id == id) as (λ b. IfSome (cond b (Some t) (table_with_id tables id)) P → IfSome (cond b (Some (without_rows t)) (table_with_id (map without_rows tables) id)) P) [
  | true ↦ λ g. f t g
  | false ↦ λ g. back_there P f tables id g
] h

pub same_defined : (P : Table → Type 0) → ((t : Table) → P (without_rows t) → P t) → ((t : Table) → P t → P (without_rows t)) → (after tables : List Table) → map without_rows after ≡ map without_rows tables → (id : ℕ)
    → IfSome (table_with_id tables id) P → IfSome (table_with_id after id) P
same_defined P f g after tables e id h = there P f after id (subst (λ (ts : List Table). IfSome (table_with_id ts id) P) (sym e) (back_there P g tables id h))

pub some_at : (P Q : Table → Type 0) (found : Option Table) → ((t : Table) → found ≡ Some t → P t → Q t) → IfSome found P → IfSome found Q
some_at P Q None f h = tt
some_at P Q (Some t) f h = f t refl h

pub id_of : (tables : List Table) (id : ℕ) (t : Table) → table_with_id tables id ≡ Some t → t.id ≡ id
id_of [] id t e = cc
id_of (x ∷ tables) id t e = elim (x.id == id) as (λ b. (x.id == id) ≡ b → cond b (Some x) (table_with_id tables id) ≡ Some t → t.id ≡ id) [
  | true ↦ λ f g. ap (λ (y : Table). y.id) (sym (same_some x t g)) ∙ eqb-true x.id id f
  | false ↦ λ f g. id_of tables id t g
] refl e
  where
    same_some : (x y : Table) → Some x ≡ Some y → x ≡ y
    same_some x y e = cc

-- ---- entries that change no record

pub undone_before : (gone : PastChange → Bool) (item : PastChange) → (undone_where gone item).before ≡ item.before
undone_before gone item = elim (gone item) as (λ b. (cond b (record item { status = undone }) item).before ≡ item.before) [ true ↦ refl | false ↦ refl ]

pub undone_after : (gone : PastChange → Bool) (item : PastChange) → (undone_where gone item).after ≡ item.after
undone_after gone item = elim (gone item) as (λ b. (cond b (record item { status = undone }) item).after ≡ item.after) [ true ↦ refl | false ↦ refl ]

own_undone : (rule : IndexRule) (schema : Schema) (table : ℕ) (base : Records) (kept : List PastChange) (gone : PastChange → Bool) → HasBookmarkKeys rule schema table base kept → HasBookmarkKeys rule schema table base (map (undone_where gone) kept)
own_undone rule schema table base kept gone h = own_mapped rule schema table base kept (undone_where gone) (undone_change gone) (undone_before gone) (undone_after gone) h

own_by_kind : (rule : IndexRule) (schema : Schema) (table : ℕ) (base : Records) (kept : List PastChange) (state : DatabaseState) (label : ℕ) (kind : EntryKind) → changes_records kind ≡ false
    → HasBookmarkKeys rule schema table base kept → HasBookmarkKeys rule schema table base (kept_after state label kind kept)
own_by_kind rule schema table base kept state label entry.Enter plain h = h
own_by_kind rule schema table base kept state label entry.Leave plain h = own_undone rule schema table base kept (is_own_open label every_change) h
own_by_kind rule schema table base kept state label (entry.Open opened) plain h = h
own_by_kind rule schema table base kept state label (entry.Shut opened) plain h = h
own_by_kind rule schema table base kept state label entry.Begin plain h = h
own_by_kind rule schema table base kept state label entry.Save plain h = h
own_by_kind rule schema table base kept state label (entry.Change change) plain h = impossible (sym plain)
own_by_kind rule schema table base kept state label entry.Release plain h =
    own_mapped rule schema table base kept (lowered_own label (levels state label)) (lower_change label (levels state label)) (lower_before label (levels state label)) (lower_after label (levels state label)) h
own_by_kind rule schema table base kept state label entry.Undo plain h = own_undone rule schema table base kept (is_own_open label (is_at_level (levels state label))) h
own_by_kind rule schema table base kept state label entry.UndoAll plain h = own_undone rule schema table base kept (is_own_open label every_change) h
own_by_kind rule schema table base kept state label entry.Commit plain h =
    own_mapped rule schema table base kept (committed_own label (state.number + 1)) (commit_change label (state.number + 1)) (commit_before label (state.number + 1)) (commit_after label (state.number + 1)) h
own_by_kind rule schema table base kept state label (entry.Schema made) plain h = impossible (sym plain)

pub same_tables : (state : DatabaseState) (label : ℕ) (kind : EntryKind) → changes_records kind ≡ false → map without_rows (applied label kind (with_next_number state)).tables ≡ map without_rows state.tables
same_tables state label entry.Enter plain = refl
same_tables state label entry.Leave plain = refl
same_tables state label (entry.Open opened) plain = refl
same_tables state label (entry.Shut opened) plain = refl
same_tables state label entry.Begin plain = refl
same_tables state label entry.Save plain = refl
same_tables state label (entry.Change change) plain = impossible (sym plain)
same_tables state label entry.Release plain = refl
same_tables state label entry.Undo plain =
    elim (nat_lt 1 (levels state label)) as (λ b. map without_rows (cond b (with_levels label (λ n. n - 1) undoing) (with_transaction label None undoing)).tables ≡ map without_rows state.tables) [ true ↦ refl | false ↦ refl ]
  where
    undoing : DatabaseState
    undoing = with_changes_at label (is_at_level (levels state label)) (λ item. record item { status = undone }) (with_next_number state)
same_tables state label entry.UndoAll plain = refl
same_tables state label entry.Commit plain = same_definitions state.tables (open_changes_of label state.past)
same_tables state label (entry.Schema made) plain = impossible (sym plain)

pub unique_by_kind : (base : Records) (dropped kept : List PastChange) (state : DatabaseState) (label : ℕ) (kind : EntryKind) → changes_records kind ≡ false → IsHistory base dropped kept state → IndexesSeeNoSum kept state
    → is_lawful_kind state label kind ≡ true → IsHistory base dropped (kept_after state label kind kept) (applied label kind (with_next_number state))
    → HasUniqueKeys base kept state → HasUniqueKeys base (kept_after state label kind kept) (applied label kind (with_next_number state))
unique_by_kind base dropped kept state label kind plain h sees e h_after unique = record {
  tables = λ id. same_defined (HasUniqueIndexes after_transactions base after_kept) (λ t p. p) (λ t p. p) (applied label kind (with_next_number state)).tables state.tables (same_tables state label kind plain) id
      (some_at (HasUniqueIndexes (transaction_of state) base kept) (HasUniqueIndexes after_transactions base after_kept) (table_with_id state.tables id)
      (λ t f each. all_both (λ rule. IsSoundIndex t rule × IsUniqueIndex (transaction_of state) base kept t rule) (λ rule. SeesNoSum rule t.id kept) (λ rule. IsSoundIndex t rule × IsUniqueIndex after_transactions base after_kept t rule)
      (λ rule both unseen. (
        both.0,
        λ is. let keys = both.1 is in (
          keys_by_kind rule (schema_of t) t.id base dropped kept state label kind plain h unseen e h_after keys.0,
          λ primary. own_by_kind rule (schema_of t) t.id base kept state label kind plain (keys.1 primary),
        ),
      )) t.indexes each (seen_by kept state sees id t f)) (unique.tables id));
}
  where
    after_transactions : ℕ → Option Transaction
    after_transactions = transaction_of (applied label kind (with_next_number state))

    after_kept : List PastChange
    after_kept = kept_after state label kind kept

-- ---- a change

-- the keys of the new change
abbrev NewKeys : DatabaseState → Records → List PastChange → ℕ → Transaction → PastChange → Table → IndexRule → Type 0
NewKeys state base kept label t new table rule =
    ((changed_table new.change ≡ table.id → (key other : List ℕ) → BringsKey rule (schema_of table) key new → bytes_eq (changed_bookmark new.change) other ≡ false → yields_key rule (schema_of table) key (records_after_items is_standing base kept table.id other) ≡ false)
    × AllByRecursion (λ p. is_standing p ≡ true → MeetsKey rule (schema_of table) table.id p new → is_concurrent label (Some t) p ≡ false) kept)
    × (rule.flags.primary ≡ true → changed_table new.change ≡ table.id → HasOwnKey rule (schema_of table) (changed_bookmark new.change) new.before × HasOwnKey rule (schema_of table) (changed_bookmark new.change) new.after)

-- what is known of an index of the table
abbrev IsKnown : DatabaseState → Records → List PastChange → Table → IndexRule → Type 0
IsKnown state base kept table rule = (IsSoundIndex table rule × IsUniqueIndex (transaction_of state) base kept table rule) × SeesNoSum rule table.id kept

-- a change that brings no key
brings_none : (state : DatabaseState) (base : Records) (kept : List PastChange) (label : ℕ) (t : Transaction) (new : PastChange) (table : Table) (rule : IndexRule)
    → (changed_table new.change ≡ table.id → (key : List ℕ) → yields_key rule (schema_of table) key new.after ≡ true → yields_key rule (schema_of table) key new.before ≡ true)
    → (rule.flags.primary ≡ true → changed_table new.change ≡ table.id → HasOwnKey rule (schema_of table) (changed_bookmark new.change) new.before)
    → NewKeys state base kept label t new table rule
brings_none state base kept label t new table rule keeps own = (
  (
    λ of_table key other brings apart. impossible (sym brings.1 ∙ keeps of_table key brings.0),
    all_each (λ p. is_standing p ≡ true → MeetsKey rule (schema_of table) table.id p new → is_concurrent label (Some t) p ≡ false)
        (λ p live meets. impossible (sym meets.3.2.1 ∙ keeps meets.1 meets.3.0 meets.3.2.0)) kept,
  ),
  λ primary of_table. (own primary of_table, λ key had. own primary of_table key (keeps of_table key had)),
)

-- the newest record under a bookmark
newest_before : (base : Records) (dropped kept : List PastChange) (state : DatabaseState) → IsHistory base dropped kept state → records_of (newest (with_next_number state)) ≡ records_after_items is_standing base kept
newest_before base dropped kept state h = newest_records base dropped kept (with_next_number state) (history_later base dropped kept state h)

own_before : (base : Records) (dropped kept : List PastChange) (state : DatabaseState) → IsHistory base dropped kept state → (table : Table) (rule : IndexRule) → SeesNoSum rule table.id kept → HasBookmarkKeys rule (schema_of table) table.id base kept
    → (bookmark : List ℕ) → HasOwnKey rule (schema_of table) bookmark (records_after_items is_standing base kept table.id bookmark)
own_before base dropped kept state h table rule sees own bookmark =
    newest_own rule (schema_of table) table.id kept base h.keeps.befores sees
    (all_weaker (IsPlaced state.number state.tables (transaction_of state)) (λ item. item.after ≡ record_after item.change item.before) (λ item p. p.3) kept h.keeps.placed) own bookmark

parts_of_lawful : (state : DatabaseState) (label : ℕ) (table : Table) (rows : Rows) (bookmark : List ℕ) (copied : Option (List ℕ)) (values : RecordFields) → is_lawful_put state label table rows bookmark copied values ≡ true
    → (has_free_keys state label table.id (schema_of table) rows bookmark values ≡ true) × (is_bookmark_of (state.number + 1) (schema_of table) rows (primary_rule (schema_of table)) bookmark values ≡ true)
parts_of_lawful state label table rows bookmark copied values lawful = (and_right _ _ (and_left _ _ (and_left _ _ (and_left _ _ lawful))), and_right _ _ (and_left _ _ (and_left _ _ lawful)))

put_keys : HasOneEntry → (base : Records) (dropped kept : List PastChange) (state : DatabaseState) (label : ℕ) (t : Transaction) → IsHistory base dropped kept state → transaction_of state label ≡ Some t
    → (table : Table) (rows : Rows) → rows ≡ rows_of (table_with_id (view state label) table.id) → (bookmark : List ℕ) (copied : Option (List ℕ)) (values : RecordFields) (new : PastChange)
    → is_lawful_put state label table rows bookmark copied values ≡ true → changed_bookmark new.change ≡ bookmark → new.before ≡ records_after_items is_standing base kept table.id bookmark
    → new.before ≡ row_at rows bookmark → new.after ≡ Some values
    → AllByRecursion (IsKnown state base kept table) table.indexes
    → AllByRecursion (λ rule. is_unique rule ≡ true → NewKeys state base kept label t new table rule) table.indexes
put_keys one base dropped kept state label t h e table rows is_rows bookmark copied values new lawful of_bookmark newest_is before after each =
    both (IsKnown state base kept table) (λ rule. is_unique rule ≡ true → test rule ≡ true) (λ rule. is_unique rule ≡ true → NewKeys state base kept label t new table rule)
    (λ rule known passes is. elim (rule.flags.primary) as (λ b. rule.flags.primary ≡ b → NewKeys state base kept label t new table rule) [
      | true ↦ λ primary. primary_keys rule primary known.1 known.0.0 ((known.0.1 is).1 primary)
      | false ↦ λ plain.
          let is_lawful_key : IsLawfulKey state label table.id (schema_of table) rule rows bookmark values new = record { found = known.0.0.0; plain = plain; passes = passes is; after = after; before = before; bookmark_of = of_bookmark } in (
            (
              (λ of_table. put_free base dropped kept state h label table.id t e (schema_of table) rule known.1 rows (λ other. ap (λ (r : Rows). row_at r other) is_rows) bookmark values new is_lawful_key),
              all_weaker (λ p. is_standing p ≡ true → MeetsKey rule (schema_of table) table.id p new → is_concurrent label (transaction_of state label) p ≡ false) (λ p. is_standing p ≡ true → MeetsKey rule (schema_of table) table.id p new → is_concurrent label (Some t) p ≡ false)
                  (λ p f live meets. ap (λ u. is_concurrent label u p) (sym e) ∙ f live meets) kept (put_meets base dropped kept state h label table.id (schema_of table) rule rows bookmark values new is_lawful_key),
            ),
            λ primary. impossible (sym plain ∙ primary),
          )
    ] refl)
    table.indexes each (in_any_order (λ rule. is_unique rule ≡ true → test rule ≡ true) table.indexes (rules_pass test is_unique (schema_of table).indexes free))
  where
    test : IndexRule → Bool
    test rule = list_all (λ key. not (has_key_conflict state label table.id (schema_of table) rule key || is_taken (schema_of table) rows rule (Some bookmark) key)) (new_keys rule (schema_of table) (row_at rows bookmark) values)

    both : (P Q R : IndexRule → Type 0) → ((rule : IndexRule) → P rule → Q rule → R rule) → (rules : List IndexRule) → AllByRecursion P rules → AllByRecursion Q rules → AllByRecursion R rules
    both P Q R f [] p q = tt
    both P Q R f (rule ∷ rules) p q = (f rule p.0 q.0, both P Q R f rules p.1 q.1)

    free : list_all test (filter is_unique (schema_of table).indexes) ≡ true
    free = (parts_of_lawful state label table rows bookmark copied values lawful).0

    under : is_bookmark_of (state.number + 1) (schema_of table) rows (primary_rule (schema_of table)) bookmark values ≡ true
    under = (parts_of_lawful state label table rows bookmark copied values lawful).1

    primary_keys : (rule : IndexRule) → rule.flags.primary ≡ true → SeesNoSum rule table.id kept → IsSoundIndex table rule → HasBookmarkKeys rule (schema_of table) table.id base kept → NewKeys state base kept label t new table rule
    primary_keys rule primary sees sound own =
        let legal = sound.2 primary in
        let has : HasOwnKey rule (schema_of table) bookmark (Some values) =
        own_key one rule (schema_of table) legal.1 primary values bookmark (ap (λ found. is_bookmark_of (state.number + 1) (schema_of table) rows found bookmark values) (sym legal.0) ∙ under) in
        let owns : HasOwnKey rule (schema_of table) (changed_bookmark new.change) new.after = λ key had. has key (ap (yields_key rule (schema_of table) key) (sym after) ∙ had) ∙ sym of_bookmark in (
          (
            (λ of_table. own_free rule (schema_of table) table.id (records_after_items is_standing base kept) new (own_before base dropped kept state h table rule sees own) owns),
            own_meets rule (schema_of table) table.id base kept new (λ p. is_concurrent label (Some t) p ≡ false) own owns,
          ),
          λ is of_table. (
            (λ key had. own_before base dropped kept state h table rule sees own bookmark key (ap (yields_key rule (schema_of table) key) (sym newest_is) ∙ had) ∙ sym of_bookmark),
            owns,
          ),
        )

-- the change brings no key to the index
abbrev BringsNone : PastChange → Table → IndexRule → Type 0
BringsNone new table rule = changed_table new.change ≡ table.id → (key : List ℕ) → yields_key rule (schema_of table) key new.after ≡ true → yields_key rule (schema_of table) key new.before ≡ true

-- a change of another table, or one that is no put
other_keys : (base : Records) (dropped kept : List PastChange) (state : DatabaseState) (label : ℕ) (t : Transaction) → IsHistory base dropped kept state → (table : Table) (new : PastChange)
    → new.before ≡ records_after_items is_standing base kept (changed_table new.change) (changed_bookmark new.change)
    → AllByRecursion (BringsNone new table) table.indexes → AllByRecursion (IsKnown state base kept table) table.indexes
    → AllByRecursion (λ rule. is_unique rule ≡ true → NewKeys state base kept label t new table rule) table.indexes
other_keys base dropped kept state label t h table new newest_is keeps each =
    all_both (BringsNone new table) (IsKnown state base kept table) (λ rule. is_unique rule ≡ true → NewKeys state base kept label t new table rule)
    (λ rule brings known is. brings_none state base kept label t new table rule brings
    (λ primary of_table key had. own_before base dropped kept state h table rule known.1 ((known.0.1 is).1 primary) (changed_bookmark new.change) key
    (ap (yields_key rule (schema_of table) key) (sym (newest_is ∙ ap (λ k. records_after_items is_standing base kept k (changed_bookmark new.change)) of_table)) ∙ had))) table.indexes keeps each

keys_of_change : HasOneEntry → (base : Records) (dropped kept : List PastChange) (state : DatabaseState) (label : ℕ) (t : Transaction) (change : Change) → IsHistory base dropped kept state → transaction_of state label ≡ Some t
    → has_write_conflict state label change ≡ false → is_lawful_at state label (table_with_id state.tables (changed_table change)) change ≡ true
    → (new_change label change (with_next_number state)).after ≡ record_after (without_copied change) (new_change label change (with_next_number state)).before
    → (table : Table) → table_with_id state.tables table.id ≡ Some table → AllByRecursion (IsKnown state base kept table) table.indexes
    → AllByRecursion (λ rule. changed_table change ≡ table.id → adds_to_index rule change ≡ false) table.indexes
    → AllByRecursion (λ rule. is_unique rule ≡ true → NewKeys state base kept label t (new_change label change (with_next_number state)) table rule) table.indexes
keys_of_change one base dropped kept state label t (Put id bookmark copied values) h e free lawful after table is_table each adds =
    elim (id.0 == table.id) as (λ b. (id.0 == table.id) ≡ b → AllByRecursion (λ rule. is_unique rule ≡ true → NewKeys state base kept label t (new_change label (Put id bookmark copied values) (with_next_number state)) table rule) table.indexes) [
      | true ↦ λ f.
          let same : id.0 ≡ table.id = eqb-true id.0 table.id f in
          let newest_is : (new_change label (Put id bookmark copied values) (with_next_number state)).before ≡ records_after_items is_standing base kept table.id bookmark =
          ap (λ (r : Records). r id.0 bookmark) (newest_before base dropped kept state h) ∙ ap (λ k. records_after_items is_standing base kept k bookmark) same in
          put_keys one base dropped kept state label t h e table (rows_of (table_with_id (view state label) table.id)) refl bookmark copied values (new_change label (Put id bookmark copied values) (with_next_number state))
          (sym (ap (λ found. is_lawful_at state label found (Put id bookmark copied values)) (ap (table_with_id state.tables) same ∙ is_table)) ∙ lawful) refl newest_is
          (newest_is ∙ sym (ap (λ (r : Records). r table.id bookmark) (newest_records base dropped kept state h)) ∙ sym (ap (λ k. records_of (newest state) k bookmark) same)
          ∙ finds_newest base dropped kept state h label t (Put id bookmark copied values) e refl free ∙ ap (λ k. records_of (view state label) k bookmark) same)
          after each
      | false ↦ λ f. other_keys base dropped kept state label t h table (new_change label (Put id bookmark copied values) (with_next_number state)) (ap (λ (r : Records). r id.0 bookmark) (newest_before base dropped kept state h))
          (all_each (BringsNone (new_change label (Put id bookmark copied values) (with_next_number state)) table) (λ rule of_table. absurd (impossible (sym f ∙ ap (λ k. k == table.id) of_table ∙ self_equal table.id))) table.indexes) each
    ] refl
keys_of_change one base dropped kept state label t (Drop id bookmark) h e free lawful after table is_table each adds =
    other_keys base dropped kept state label t h table (new_change label (Drop id bookmark) (with_next_number state)) (ap (λ (r : Records). r id.0 bookmark) (newest_before base dropped kept state h))
    (all_each (BringsNone (new_change label (Drop id bookmark) (with_next_number state)) table) (λ rule of_table key had. impossible (ap (yields_key rule (schema_of table) key) (sym after) ∙ had)) table.indexes) each
keys_of_change one base dropped kept state label t (Hold id bookmark) h e free lawful after table is_table each adds =
    other_keys base dropped kept state label t h table (new_change label (Hold id bookmark) (with_next_number state)) (ap (λ (r : Records). r id.0 bookmark) (newest_before base dropped kept state h))
    (all_each (BringsNone (new_change label (Hold id bookmark) (with_next_number state)) table) (λ rule of_table key had. ap (yields_key rule (schema_of table) key) (sym after) ∙ had) table.indexes) each
keys_of_change one base dropped kept state label t (Add id bookmark column amount) h e free lawful after table is_table each adds =
    other_keys base dropped kept state label t h table (new_change label (Add id bookmark column amount) (with_next_number state)) (ap (λ (r : Records). r id.0 bookmark) (newest_before base dropped kept state h))
    (all_weaker (λ rule. id.0 ≡ table.id → adds_to_index rule (Add id bookmark column amount) ≡ false) (BringsNone (new_change label (Add id bookmark column amount) (with_next_number state)) table)
    (λ rule unseen of_table key had.
    sym (sum_keeps rule (schema_of table) (Add id bookmark column amount) (unseen of_table) refl (new_change label (Add id bookmark column amount) (with_next_number state)).before key)
    ∙ ap (yields_key rule (schema_of table) key) (sym after) ∙ had) table.indexes adds) each

-- the change with what is known of it
change_by : HasOneEntry → (base : Records) (dropped kept : List PastChange) (state : DatabaseState) (label : ℕ) (t : Transaction) (change : Change) → transaction_of state label ≡ Some t → IsHistory base dropped kept state → IndexesSeeNoSum kept state → IndexesSeeNoSum (kept_after state label (entry.Change change) kept) state
    → is_lawful_change state label change ≡ true → IsHistory base dropped (kept_after state label (entry.Change change) kept) (applied label (entry.Change change) (with_next_number state))
    → HasUniqueKeys base kept state → HasUniqueKeys base (kept_after state label (entry.Change change) kept) (applied label (entry.Change change) (with_next_number state))
change_by one base dropped kept state label t change e h sees sees_after lawful h_after unique = record {
  tables = λ id. some_at (HasUniqueIndexes (transaction_of state) base kept) (HasUniqueIndexes (transaction_of state) base (kept ++ new ∷ [])) (table_with_id state.tables id)
      (λ table is each. both (λ rule. IsSoundIndex table rule × IsUniqueIndex (transaction_of state) base kept table rule) (λ rule. is_unique rule ≡ true → NewKeys state base kept label t new table rule)
      (λ rule. IsSoundIndex table rule × IsUniqueIndex (transaction_of state) base (kept ++ new ∷ []) table rule)
      (λ rule known fresh. (
        known.0,
        λ unique_rule. let keys = known.1 unique_rule in let new_keys = fresh unique_rule in (
          keys_changed rule (schema_of table) table.id state.number state.tables (transaction_of state) base kept t new refl refl e h.keeps.placed new_keys.0.0 new_keys.0.1 keys.0,
          λ primary. own_appended rule (schema_of table) table.id base kept new (new_keys.1 primary) (keys.1 primary),
        ),
      )) table.indexes each
      (keys_of_change one base dropped kept state label t change h e (not-true (has_write_conflict state label change) (and_right _ _ (and_left _ _ lawful))) (and_right _ _ lawful) after table
      (ap (table_with_id state.tables) (id_of state.tables id table is) ∙ is)
      (both (λ rule. IsSoundIndex table rule × IsUniqueIndex (transaction_of state) base kept table rule) (λ rule. SeesNoSum rule table.id kept) (IsKnown state base kept table) (λ rule known plain. (known, plain)) table.indexes each (seen_by kept state sees id table is))
      (all_weaker (λ rule. SeesNoSum rule table.id (kept ++ new ∷ [])) (λ rule. changed_table change ≡ table.id → adds_to_index rule change ≡ false)
      (λ rule plain of_table. unadded rule change ((back (λ item. changed_table item.change ≡ table.id → adds_to_index rule item.change ≡ false) kept (new ∷ []) plain).0 (same_place change ∙ of_table))) table.indexes
      (seen_by (kept ++ new ∷ []) state sees_after id table is)))) (unique.tables id);
}
  where
    new : PastChange
    new = new_change label change (with_next_number state)

    same_place : (c : Change) → changed_table (without_copied c) ≡ changed_table c
    same_place (Put id bookmark copied values) = refl
    same_place (Drop id bookmark) = refl
    same_place (Hold id bookmark) = refl
    same_place (Add id bookmark column amount) = refl

    unadded : (rule : IndexRule) (c : Change) → adds_to_index rule (without_copied c) ≡ false → adds_to_index rule c ≡ false
    unadded rule (Put id bookmark copied values) g = g
    unadded rule (Drop id bookmark) g = g
    unadded rule (Hold id bookmark) g = g
    unadded rule (Add id bookmark column amount) g = g

    after : (new_change label change (with_next_number state)).after ≡ record_after (without_copied change) (new_change label change (with_next_number state)).before
    after = (back (IsPlaced (state.number + 1) state.tables (transaction_of state)) kept (new_change label change (with_next_number state) ∷ []) h_after.keeps.placed).0.3

    both : (P Q R : IndexRule → Type 0) → ((rule : IndexRule) → P rule → Q rule → R rule) → (rules : List IndexRule) → AllByRecursion P rules → AllByRecursion Q rules → AllByRecursion R rules
    both P Q R f [] p q = tt
    both P Q R f (rule ∷ rules) p q = (f rule p.0 q.0, both P Q R f rules p.1 q.1)

pub unique_changed : HasOneEntry → (base : Records) (dropped kept : List PastChange) (state : DatabaseState) (label : ℕ) (change : Change) → IsHistory base dropped kept state → IndexesSeeNoSum kept state → IndexesSeeNoSum (kept_after state label (entry.Change change) kept) state
    → is_lawful_change state label change ≡ true → IsHistory base dropped (kept_after state label (entry.Change change) kept) (applied label (entry.Change change) (with_next_number state))
    → HasUniqueKeys base kept state → HasUniqueKeys base (kept_after state label (entry.Change change) kept) (applied label (entry.Change change) (with_next_number state))
unique_changed one base dropped kept state label change h sees sees_after lawful h_after unique = by (transaction_of state label) refl
  where
    by : (t : Option Transaction) → transaction_of state label ≡ t → HasUniqueKeys base (kept_after state label (entry.Change change) kept) (applied label (entry.Change change) (with_next_number state))
    by None e = impossible (sym (ap (λ u. nat_lt 0 (levels_of u)) e) ∙ and_left _ _ (and_left _ _ lawful))
    by (Some t) e = change_by one base dropped kept state label t change e h sees sees_after lawful h_after unique
