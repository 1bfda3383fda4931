-- The bookmark of an insert is new: no record stands under it, and no concurrent change touches it.
use Rattle.std.proofs.Common.{◌≡◌, ℕ, ◌+◌, ◌<◌, Bool, true, false, ◌&&◌, ◌||◌, cond, List, [], ◌∷◌, Option, Some, None, refl, sym, ap, subst, ◌∙◌, arith, bytes_eq}
use Rattle.std.specs.Prelude.{◌==◌, ◌^◌, filter, if◌then◌else◌, is_some, nat_le, IfSome}
use Rattle.std.specs.List.{AllByRecursion, list_any}
use Rattle.std.proofs.lemmas.Bool.Decides.{nat_tests}
use Rattle.std.proofs.lemmas.Bool.{and_from, eqb-true}
use Rattle.jet_base.specs.ColumnType.{big_endian}
use Rattle.column_set.specs.declared.changes.Change.TheVariants as change
use Rattle.column_set.specs.RecordValues.{RecordFields}
use Rattle.index_derive.specs.declared.rules.IndexRule.{IndexRule}
use Rattle.index_derive.specs.declared.rules.Schema.{Schema}
use Rattle.index_derive.specs.Entries.{entries, is_legal, is_unique, key_list, primary_key}
use Rattle.database_state.specs.Table.{Rows, Table, row_at, schema_of, table_with_id}
use Rattle.index_derive.specs.Schemas.{primary_rule, rule_with_id}
use Rattle.column_set.specs.ChangedRecords.{changed_bookmark, changed_table}
use Rattle.database_state.specs.Puts.{is_cut_refusal, is_null_refusal, is_taken, new_keys, null_refusals}
use Rattle.database_state.specs.State.{PastChange, transaction_of}
use Rattle.database_state.specs.View.{view}
use Rattle.database_state.specs.Conflicts.{collide, has_key_conflict, has_write_conflict, is_concurrent, yields_key}
use Rattle.database_state.specs.Lawful.{log_limit}
use Rattle.laws_versions.proofs.IndexLemmas.OtherRecords.{taken_primary}
use Rattle.laws_versions.specs.Records.{Records, records_of}
use Rattle.laws_versions.proofs.ChangeLemmas.Tests.{or_first, or_second}
use Rattle.laws_versions.proofs.HistoryLemmas.Concurrent.{key_conflict_kept, write_conflict_kept}
use Rattle.laws_versions.proofs.HistoryLemmas.EndEntries.{no_conflict}
use Rattle.laws_versions.proofs.HistoryLemmas.Lists.{all_both}
use Rattle.laws_versions.proofs.KeyLemmas.BookmarkKeys.{HasOneEntry}
use Rattle.laws_versions.proofs.KeyLemmas.EscrowSums.{unseen_now}
use Rattle.laws_versions.proofs.KeyLemmas.FreeKeys.{unfiltered}
use Rattle.laws_versions.specs.Bookmarks.{StandsUnder, TouchesRecord, is_bookmark, is_entry_number}
use Rattle.laws_versions.specs.EachRecord.{HasBoth}
use Rattle.laws_versions.proofs.RecordLemmas.EachRecord.{AtChange}
use Rattle.laws_versions.proofs.RecordLemmas.EntryNumbers.{entry_number-later}
use Rattle.common_lemmas.proofs.Found.{found_passes, of_found}
use Rattle.common_lemmas.proofs.Options.{none_there}
use Rattle.common_lemmas.proofs.Booleans.{and_left, and_right, impossible}
use Rattle.common_lemmas.proofs.Lists.{all_weaker}
use Rattle.common_lemmas.proofs.Numbers.{same_bytes}
use Rattle.laws_versions.proofs.RecordLemmas.PrimaryKeys.{AreUnrefused, each_null, primary_listed}
use Rattle.laws_versions.proofs.RecordLemmas.Standing.{bookmarks_seen}
use Rattle.session_local.specs.Local.{OpenCursor, PreparedFor, inserting, replacing}
use Rattle.session_local.specs.Outcome.{CallInputs, is_outside, rows_seen}
use Rattle.session_local.specs.RecordCalls.{inserted_bookmark, number_of_change, replaced_by}
use Rattle.laws_engine.specs.LawfulSteps.{IsReached}
use Rattle.laws_engine.proofs.LawfulLemmas.ChangeSteps.{IsAtTable}
use Rattle.laws_engine.proofs.LawfulLemmas.Locks.{none_meets}
use Rattle.laws_engine.proofs.LawfulLemmas.PutSteps.{IsFreeIn}

not_any : (p : List ℕ → Bool) (key : List ℕ) (keys : List (List ℕ)) → list_any (bytes_eq key) keys ≡ true → list_any p keys ≡ false → p key ≡ false
not_any p key [] h k = impossible h
not_any p key (x ∷ keys) h k = elim (bytes_eq key x) as (λ b. bytes_eq key x ≡ b → (b || list_any (bytes_eq key) keys) ≡ true → p key ≡ false) [
  | true ↦ λ e g. ap p (same_bytes key x e) ∙ or_first (p x) _ k
  | false ↦ λ e g. not_any p key keys g (or_second (p x) _ k)
] refl h

abbrev pub AreFound : Schema → Type 0
AreFound schema = AllByRecursion (λ rule. (rule_with_id schema rule.id.0 ≡ Some rule) × (rule.flags.primary ≡ true → is_legal rule schema ≡ true)) schema.indexes

-- ---- the key in the primary index

-- the key of the record is among its keys, and is refused in no way
record HasPrimaryKey (asked : CallInputs) (table : ℕ) (schema : Schema) (rows : Rows) (values : RecordFields) (rule : IndexRule) : Type 0 where
  pub found : rule_with_id schema rule.id.0 ≡ Some rule
  pub primary : rule.flags.primary ≡ true
  pub listed : list_any (bytes_eq (primary_key rule schema values)) (key_list rule schema values) ≡ true
  pub free : IsFreeIn asked.state asked.session table schema rows None values rule

has_primary : HasOneEntry → (asked : CallInputs) (table : ℕ) (schema : Schema) (rows : Rows) (values : RecordFields) → AreFound schema → AreUnrefused (null_refusals schema values)
    → AllByRecursion (IsFreeIn asked.state asked.session table schema rows None values) (filter is_unique schema.indexes) → (rule : IndexRule) → primary_rule schema ≡ Some rule → HasPrimaryKey asked table schema rows values rule
has_primary one asked table schema rows values found whole free rule e =
    let is : (rule_with_id schema rule.id.0 ≡ Some rule) × (rule.flags.primary ≡ true → is_legal rule schema ≡ true) = of_found (λ rule. (rule_with_id schema rule.id.0 ≡ Some rule) × (rule.flags.primary ≡ true → is_legal rule schema ≡ true)) (λ r. r.flags.primary) schema.indexes rule e found in
    let primary : rule.flags.primary ≡ true = found_passes (λ r. r.flags.primary) schema.indexes rule e in
    let keys : (is_null_refusal (entries rule schema values) ≡ false) × (is_cut_refusal (entries rule schema values) ≡ false) =
    of_found (λ rule. (is_null_refusal (entries rule schema values) ≡ false) × (is_cut_refusal (entries rule schema values) ≡ false)) (λ r. r.flags.primary) schema.indexes rule e (each_null schema values schema.indexes whole) in
    record {
      found = is.0;
      primary = primary;
      listed = primary_listed one rule schema values (is.1 primary) primary keys.0 keys.1;
      free = of_found (λ rule. is_unique rule ≡ true → IsFreeIn asked.state asked.session table schema rows None values rule) (λ r. r.flags.primary) schema.indexes rule e
          (unfiltered (IsFreeIn asked.state asked.session table schema rows None values) is_unique schema.indexes free) (ap (λ b. b || rule.flags.unique) primary);
    }

-- ---- the record under the bookmark

pub new_row : HasOneEntry → (asked : CallInputs) (schema : Schema) (rows : Rows) (values : RecordFields) → AreFound schema → AreUnrefused (null_refusals schema values) → (table : ℕ)
    → AllByRecursion (IsFreeIn asked.state asked.session table schema rows None values) (filter is_unique schema.indexes)
    → (primary_rule schema ≡ None → row_at rows (big_endian 8 (number_of_change asked)) ≡ None) → row_at rows (inserted_bookmark asked schema (primary_rule schema) values) ≡ None
new_row one asked schema rows values found whole table free hidden =
    elim (primary_rule schema) as (λ o. primary_rule schema ≡ o → row_at rows (inserted_bookmark asked schema o values) ≡ None) [
      | None ↦ λ e. hidden e
      | Some rule ↦ λ e.
          let is = has_primary one asked table schema rows values found whole free rule e in
          none_there (row_at rows (primary_key rule schema values)) (sym (taken_primary schema rows rule (primary_key rule schema values) is.found is.primary)
          ∙ not_any (is_taken schema rows rule None) (primary_key rule schema values) (key_list rule schema values) is.listed is.free.1)
    ] refl

-- the number of the entry is above all before
later_number : (asked : CallInputs) → nat_le log_limit asked.state.number ≡ false → (asked.state.number < number_of_change asked) × (number_of_change asked < 2 ^ 40)
later_number asked few = by (is_outside asked)
  where
    above : (n : ℕ) → n < n + 2
    above n = omega arith

    one_above : (n : ℕ) → n < n + 1
    one_above n = omega arith

    small : (limit most n k : ℕ) → nat_le limit n ≡ false → limit + 2 < most → k < 3 → n + k < most
    small limit most n k e room le = let less : n < limit = below limit n e in omega (arith, less)
      where
        below : (limit n : ℕ) → nat_le limit n ≡ false → n < limit
        below limit n e = grind (arith, nat_tests)

    by : (b : Bool) → (asked.state.number < asked.state.number + (if b then 2 else 1)) × (asked.state.number + (if b then 2 else 1) < 2 ^ 40)
    by true = (above asked.state.number, small log_limit (2 ^ 40) asked.state.number 2 few (omega arith) (omega arith))
    by false = (one_above asked.state.number, small log_limit (2 ^ 40) asked.state.number 1 few (omega arith) (omega arith))

hidden_row : (base : Records) (dropped kept : List PastChange) (asked : CallInputs) (c : OpenCursor) → IsReached base dropped kept asked.state → IsAtTable asked c → nat_le log_limit asked.state.number ≡ false
    → primary_rule c.schema ≡ None → row_at (rows_seen asked c) (big_endian 8 (number_of_change asked)) ≡ None
hidden_row base dropped kept asked c reached at few none = by (row_at (rows_seen asked c) (big_endian 8 (number_of_change asked))) (stands (big_endian 8 (number_of_change asked)))
  where
    stands : (bookmark : List ℕ) → IfSome (row_at (rows_seen asked c) bookmark) (StandsUnder asked.state.number (schema_of at.table) bookmark)
    stands = subst (λ (o : Option Table). IfSome o (λ table. (bookmark : List ℕ) → IfSome (records_of (view asked.state asked.session) c.cursor.table bookmark) (StandsUnder asked.state.number (schema_of table) bookmark))) at.found
        (bookmarks_seen base dropped kept asked.state reached.history (unseen_now base kept asked.state reached.sums) reached.bookmarks asked.session c.cursor.table)

    by : (o : Option RecordFields) → IfSome o (StandsUnder asked.state.number (schema_of at.table) (big_endian 8 (number_of_change asked))) → o ≡ None
    by None s = refl
    by (Some seen) s =
        let later = later_number asked few in
        impossible (sym (entry_number-later asked.state.number (number_of_change asked) later.0 later.1)
        ∙ ap (λ (o : Option IndexRule). is_bookmark asked.state.number (schema_of at.table) o (big_endian 8 (number_of_change asked)) seen) (sym (ap primary_rule (sym at.schema) ∙ none)) ∙ s)

-- ---- the changes under the bookmark

-- what stands before or after a change
one_stands : (number : ℕ) (schema : Schema) (bookmark : List ℕ) (before after : Option RecordFields) → IfSome before (StandsUnder number schema bookmark) → IfSome after (StandsUnder number schema bookmark) → (is_some before || is_some after) ≡ true
    → (A : Type 0) → ((values : RecordFields) → StandsUnder number schema bookmark values → (before ≡ Some values) → A) → ((values : RecordFields) → StandsUnder number schema bookmark values → (after ≡ Some values) → A) → A
one_stands number schema bookmark (Some values) after b a some A f g = f values b refl
one_stands number schema bookmark None (Some values) b a some A f g = g values a refl
one_stands number schema bookmark None None b a some A f g = impossible some

listed_new : (key : List ℕ) (keys : List (List ℕ)) → list_any (bytes_eq key) keys ≡ true → list_any (bytes_eq key) (filter (λ k. true) keys) ≡ true
listed_new key [] h = h
listed_new key (k ∷ keys) h = elim (bytes_eq key k) as (λ b. (b || list_any (bytes_eq key) keys) ≡ true → (b || list_any (bytes_eq key) (filter (λ k. true) keys)) ≡ true) [
  | true ↦ λ e. refl
  | false ↦ λ e. listed_new key keys e
] h

abbrev is_change_at : ℕ → List ℕ → PastChange → Bool
is_change_at table bookmark p = (changed_table p.change == table) && bytes_eq (changed_bookmark p.change) bookmark

-- a change that touches the bookmark is not concurrent
not_concurrent : HasOneEntry → (base : Records) (dropped kept : List PastChange) (asked : CallInputs) (c : OpenCursor) → IsReached base dropped kept asked.state → IsAtTable asked c → nat_le log_limit asked.state.number ≡ false → (values : RecordFields) → AreFound c.schema
    → AreUnrefused (null_refusals c.schema values) → AllByRecursion (IsFreeIn asked.state asked.session c.cursor.table c.schema (rows_seen asked c) None values) (filter is_unique c.schema.indexes)
    → AllByRecursion (λ p. is_change_at c.cursor.table (inserted_bookmark asked c.schema (primary_rule c.schema) values) p ≡ true → is_concurrent asked.session (transaction_of asked.state asked.session) p ≡ false) kept
not_concurrent one base dropped kept asked c reached at few values found whole free =
    elim (primary_rule c.schema) as (λ o. primary_rule c.schema ≡ o
    → AllByRecursion (λ p. is_change_at c.cursor.table (inserted_bookmark asked c.schema o values) p ≡ true → is_concurrent asked.session (transaction_of asked.state asked.session) p ≡ false) kept) [
      | None ↦ λ e. all_both Known TouchesRecord (λ p. is_change_at c.cursor.table (big_endian 8 (number_of_change asked)) p ≡ true → is_concurrent asked.session (transaction_of asked.state asked.session) p ≡ false)
          (λ p known touches mine. hidden e p (both_at p known (eqb-true (changed_table p.change) c.cursor.table (and_left _ _ mine))) touches (same_bytes (changed_bookmark p.change) (big_endian 8 (number_of_change asked)) (and_right (changed_table p.change == c.cursor.table) _ mine)))
          kept reached.bookmarks.records.changes reached.bookmarks.touched
      | Some rule ↦ λ e.
          let is = has_primary one asked c.cursor.table c.schema (rows_seen asked c) values found whole free rule e in
          let none : list_any (λ item. (changed_table item.change == c.cursor.table) && (yields_key rule c.schema (primary_key rule c.schema values) item.before || yields_key rule c.schema (primary_key rule c.schema values) item.after))
          (filter (is_concurrent asked.session (transaction_of asked.state asked.session)) kept) ≡ false =
          sym (key_conflict_kept base dropped kept asked.state reached.history asked.session c.cursor.table c.schema rule (primary_key rule c.schema values))
          ∙ not_any (has_key_conflict asked.state asked.session c.cursor.table c.schema rule) (primary_key rule c.schema values) (new_keys rule c.schema None values) (listed_new (primary_key rule c.schema values) (key_list rule c.schema values) is.listed) is.free.0 in
          three Known TouchesRecord (λ p. ((changed_table p.change == c.cursor.table) && (yields_key rule c.schema (primary_key rule c.schema values) p.before || yields_key rule c.schema (primary_key rule c.schema values) p.after)) ≡ true → is_concurrent asked.session (transaction_of asked.state asked.session) p ≡ false)
          (λ p. is_change_at c.cursor.table (primary_key rule c.schema values) p ≡ true → is_concurrent asked.session (transaction_of asked.state asked.session) p ≡ false)
          (λ p known touches clear mine. clear (and_from _ _ (and_left _ _ mine) (keyed rule e p (primary_key rule c.schema values) (both_at p known (eqb-true (changed_table p.change) c.cursor.table (and_left _ _ mine))) touches
          (same_bytes (changed_bookmark p.change) (primary_key rule c.schema values) (and_right (changed_table p.change == c.cursor.table) _ mine)))))
          kept reached.bookmarks.records.changes reached.bookmarks.touched
          (no_conflict (λ item. (changed_table item.change == c.cursor.table) && (yields_key rule c.schema (primary_key rule c.schema values) item.before || yields_key rule c.schema (primary_key rule c.schema values) item.after))
          (is_concurrent asked.session (transaction_of asked.state asked.session)) kept none)
    ] refl
  where
    Known : PastChange → Type 0
    Known p = AtChange StandsUnder asked.state.number asked.state.tables p

    both_at : (p : PastChange) → AtChange StandsUnder asked.state.number asked.state.tables p → changed_table p.change ≡ c.cursor.table → HasBoth StandsUnder asked.state.number c.schema p
    both_at p known same = subst (λ (s : Schema). HasBoth StandsUnder asked.state.number s p) (sym at.schema)
        (subst (λ (o : Option Table). IfSome o (λ table. HasBoth StandsUnder asked.state.number (schema_of table) p)) (ap (table_with_id asked.state.tables) same ∙ at.found) known)

    hidden : primary_rule c.schema ≡ None → (p : PastChange) → HasBoth StandsUnder asked.state.number c.schema p → (is_some p.before || is_some p.after) ≡ true → changed_bookmark p.change ≡ big_endian 8 (number_of_change asked)
        → is_concurrent asked.session (transaction_of asked.state asked.session) p ≡ false
    hidden e p both touches same =
        let later = later_number asked few in
        let never : is_entry_number asked.state.number (changed_bookmark p.change) ≡ false = ap (is_entry_number asked.state.number) same ∙ entry_number-later asked.state.number (number_of_change asked) later.0 later.1 in
        one_stands asked.state.number c.schema (changed_bookmark p.change) p.before p.after both.0 both.1 touches (is_concurrent asked.session (transaction_of asked.state asked.session) p ≡ false)
        (λ v s f. impossible (sym never ∙ ap (λ (o : Option IndexRule). is_bookmark asked.state.number c.schema o (changed_bookmark p.change) v) (sym e) ∙ s))
        (λ v s f. impossible (sym never ∙ ap (λ (o : Option IndexRule). is_bookmark asked.state.number c.schema o (changed_bookmark p.change) v) (sym e) ∙ s))

    keyed : (rule : IndexRule) → primary_rule c.schema ≡ Some rule → (p : PastChange) (key : List ℕ) → HasBoth StandsUnder asked.state.number c.schema p → (is_some p.before || is_some p.after) ≡ true → changed_bookmark p.change ≡ key
        → (yields_key rule c.schema key p.before || yields_key rule c.schema key p.after) ≡ true
    keyed rule e p key both touches same =
        one_stands asked.state.number c.schema (changed_bookmark p.change) p.before p.after both.0 both.1 touches ((yields_key rule c.schema key p.before || yields_key rule c.schema key p.after) ≡ true)
        (λ v s f. left (yields_key rule c.schema key p.before) (yields_key rule c.schema key p.after) (has v s p.before f))
        (λ v s f. right (yields_key rule c.schema key p.before) (yields_key rule c.schema key p.after) (has v s p.after f))
      where
        has : (v : RecordFields) → StandsUnder asked.state.number c.schema (changed_bookmark p.change) v → (o : Option RecordFields) → o ≡ Some v → yields_key rule c.schema key o ≡ true
        has v s o f = ap (yields_key rule c.schema key) f ∙ ap (λ (k : List ℕ). yields_key rule c.schema k (Some v)) (sym same)
            ∙ ap (λ (o : Option IndexRule). is_bookmark asked.state.number c.schema o (changed_bookmark p.change) v) (sym e) ∙ s

        left : (a b : Bool) → a ≡ true → (a || b) ≡ true
        left true b e = refl
        left false b e = impossible e

        right : (a b : Bool) → b ≡ true → (a || b) ≡ true
        right true b e = refl
        right false b e = e

    three : (P Q R S : PastChange → Type 0) → ((p : PastChange) → P p → Q p → R p → S p) → (items : List PastChange) → AllByRecursion P items → AllByRecursion Q items → AllByRecursion R items → AllByRecursion S items
    three P Q R S f [] h k l = tt
    three P Q R S f (p ∷ items) h k l = (f p h.0 k.0 l.0, three P Q R S f items h.1 k.1 l.1)

-- ---- both

-- What an insert finds under its bookmark: no record, and no concurrent change. Of a replace nothing is said.
abbrev pub IsNewFor : CallInputs → OpenCursor → PreparedFor → RecordFields → Type 0
IsNewFor asked c (inserting copied) values =
    ((was : Option (List ℕ)) → has_write_conflict asked.state asked.session (change.Put (record { 0 = c.cursor.table }) (inserted_bookmark asked c.schema (primary_rule c.schema) values) was values) ≡ false)
    × (primary_rule c.schema ≡ None → row_at (rows_seen asked c) (big_endian 8 (number_of_change asked)) ≡ None)
IsNewFor asked c (replacing bookmark) values = Unit {0}

pub new_for : HasOneEntry → (base : Records) (dropped kept : List PastChange) (asked : CallInputs) (c : OpenCursor) (for : PreparedFor) (values : RecordFields) → IsReached base dropped kept asked.state → IsAtTable asked c → nat_le log_limit asked.state.number ≡ false → AreFound c.schema
    → AreUnrefused (null_refusals c.schema values) → AllByRecursion (IsFreeIn asked.state asked.session c.cursor.table c.schema (rows_seen asked c) (replaced_by for) values) (filter is_unique c.schema.indexes) → IsNewFor asked c for values
new_for one base dropped kept asked c (inserting copied) values reached at few found whole free = (
  λ was. write_conflict_kept base dropped kept asked.state reached.history asked.session (change.Put (record { 0 = c.cursor.table }) (inserted_bookmark asked c.schema (primary_rule c.schema) values) was values)
      ∙ none_meets (λ item. collide item.change (change.Put (record { 0 = c.cursor.table }) (inserted_bookmark asked c.schema (primary_rule c.schema) values) was values)) (is_concurrent asked.session (transaction_of asked.state asked.session)) kept
      (all_weaker (λ p. is_change_at c.cursor.table (inserted_bookmark asked c.schema (primary_rule c.schema) values) p ≡ true → is_concurrent asked.session (transaction_of asked.state asked.session) p ≡ false)
      (λ p. collide p.change (change.Put (record { 0 = c.cursor.table }) (inserted_bookmark asked c.schema (primary_rule c.schema) values) was values) ≡ true → is_concurrent asked.session (transaction_of asked.state asked.session) p ≡ false)
      (λ p f hit. f (and_left _ _ hit)) kept (not_concurrent one base dropped kept asked c reached at few values found whole free)),
  hidden_row base dropped kept asked c reached at few,
)
new_for one base dropped kept asked c (replacing bookmark) values reached at few found whole free = tt
