-- Keys see no sum.
use Rattle.std.proofs.Common.{◌≡◌, ℕ, Bool, true, false, cond, List, [], ◌∷◌, Option, Some, None, refl, sym, ap, subst, ◌∙◌}
use Rattle.std.specs.Prelude.{ℤ, ◌==◌, filter, fold, IfSome}
use Rattle.std.specs.List.{AllByRecursion, list_any}
use Rattle.std.proofs.lemmas.Bool.{eqb-true}
use Rattle.common_lemmas.proofs.Booleans.{and_left, impossible}
use Rattle.common_lemmas.proofs.Lists.{all_weaker}
use Rattle.column_set.specs.declared.changes.Change.{Change}
use Rattle.column_set.specs.declared.changes.Change.TheVariants.{Put, Drop, Hold, Add}
use Rattle.column_set.specs.RecordValues.{RecordFields, values_of}
use Rattle.index_derive.specs.declared.rules.IndexRule.{IndexRule}
use Rattle.index_derive.specs.declared.rules.Schema.{Schema}
use Rattle.database_state.specs.Table.{Table, table_with_id}
use Rattle.database_state.specs.Changes.{escrow_bytes, escrow_sum, is_sum, with_sum}
use Rattle.column_set.specs.ChangedRecords.{changed_table}
use Rattle.database_state.specs.SchemaChanges.{rule_columns}
use Rattle.database_state.specs.State.{DatabaseState, PastChange}
use Rattle.database_state.specs.Conflicts.{yields_key}
use Rattle.laws_versions.specs.Records.{Records, after_item, is_change_of, record_after, records_after_items}
use Rattle.laws_versions.proofs.ChangeLemmas.Tests.{or_first, or_second}
use Rattle.laws_versions.specs.Readers.{is_rewrite}
use Rattle.laws_versions.proofs.SumLemmas.StoredSums.{values_seen}
use Rattle.laws_versions.specs.KeySums.{HasKeyBefores, HasSameKeys, IndexesSeeNoSum, SeesNoSum, adds_to_index, names_column}
use Rattle.laws_versions.specs.Variants.{HasNoSums}
use Rattle.laws_versions.proofs.KeyLemmas.SameColumns.{SameAt, yields_same}

-- ---- one record

-- the keys of a record are those of the record with another sum
pub keys_with_sum : (rule : IndexRule) (schema : Schema) (key : List ℕ) (values : RecordFields) (c : ℕ) (a : ℤ) → names_column rule c ≡ false → yields_key rule schema key (Some (with_sum values c a)) ≡ yields_key rule schema key (Some values)
keys_with_sum rule schema key values c a h = yields_same rule schema schema key (with_sum values c a) values (apart (rule_columns rule) h)
  where
    apart : (ids : List ℕ) → list_any (λ id. id == c) ids ≡ false → AllByRecursion (SameAt schema schema (with_sum values c a) values) ids
    apart [] h = tt
    apart (id ∷ ids) h = (
      (refl, values_seen values c id a ∙ ap (λ b. cond b (escrow_sum (escrow_bytes values c) a ∷ []) (values_of values id)) (or_first (id == c) _ h)),
      apart ids (or_second (id == c) _ h),
    )

-- a sum leaves the keys of its record
pub sum_keeps : (rule : IndexRule) (schema : Schema) (c : Change) → adds_to_index rule c ≡ false → is_sum c ≡ true → (r : Option RecordFields) → HasSameKeys rule schema (record_after c r) r
sum_keeps rule schema (Put t b copied values) h s r = impossible s
sum_keeps rule schema (Drop t b) h s r = impossible s
sum_keeps rule schema (Hold t b) h s r = impossible s
sum_keeps rule schema (Add t b c a) h s None = λ key. refl
sum_keeps rule schema (Add t b c a) h s (Some values) = λ key. keys_with_sum rule schema key values c.0 a h

-- so does a lock
pub keys_stay : (rule : IndexRule) (schema : Schema) (c : Change) → is_rewrite c ≡ false → adds_to_index rule c ≡ false → (r : Option RecordFields) → HasSameKeys rule schema (record_after c r) r
keys_stay rule schema (Put t b copied values) h s r = impossible (sym h)
keys_stay rule schema (Drop t b) h s r = impossible (sym h)
keys_stay rule schema (Hold t b) h s r = λ key. refl
keys_stay rule schema (Add t b c a) h s r = sum_keeps rule schema (Add t b c a) s refl r

-- a change leaves records of the same keys where it found such
pub after_same : (rule : IndexRule) (schema : Schema) (c : Change) → adds_to_index rule c ≡ false → (r s : Option RecordFields) → HasSameKeys rule schema r s → HasSameKeys rule schema (record_after c r) (record_after c s)
after_same rule schema (Put t b copied values) h r s same = λ key. refl
after_same rule schema (Drop t b) h r s same = λ key. refl
after_same rule schema (Hold t b) h r s same = same
after_same rule schema (Add t b c a) h r s same = λ key. sum_keeps rule schema (Add t b c a) h refl r key ∙ same key ∙ sym (sum_keeps rule schema (Add t b c a) h refl s key)

-- ---- all records

pub item_same : (rule : IndexRule) (schema : Schema) (r s : Records) (item : PastChange) (table : ℕ) (bookmark : List ℕ) → (changed_table item.change ≡ table → adds_to_index rule item.change ≡ false)
    → HasSameKeys rule schema (r table bookmark) (s table bookmark) → HasSameKeys rule schema (after_item r item table bookmark) (after_item s item table bookmark)
item_same rule schema r s item table bookmark plain same key =
    elim (is_change_of table bookmark item.change) as (λ b. is_change_of table bookmark item.change ≡ b
    → yields_key rule schema key (cond b (record_after item.change (r table bookmark)) (r table bookmark)) ≡ yields_key rule schema key (cond b (record_after item.change (s table bookmark)) (s table bookmark))) [
      | true ↦ λ e. after_same rule schema item.change (plain (eqb-true (changed_table item.change) table (and_left _ _ e))) (r table bookmark) (s table bookmark) same key
      | false ↦ λ e. same key
    ] refl

pub item_keeps : (rule : IndexRule) (schema : Schema) (r : Records) (item : PastChange) (table : ℕ) (bookmark : List ℕ) → is_sum item.change ≡ true → (changed_table item.change ≡ table → adds_to_index rule item.change ≡ false)
    → HasSameKeys rule schema (after_item r item table bookmark) (r table bookmark)
item_keeps rule schema r item table bookmark sum plain key =
    elim (is_change_of table bookmark item.change) as (λ b. is_change_of table bookmark item.change ≡ b → yields_key rule schema key (cond b (record_after item.change (r table bookmark)) (r table bookmark)) ≡ yields_key rule schema key (r table bookmark)) [
      | true ↦ λ e. sum_keeps rule schema item.change (plain (eqb-true (changed_table item.change) table (and_left _ _ e))) sum (r table bookmark) key
      | false ↦ λ e. refl
    ] refl

-- changes that do not set a record leave its keys
pub left_alone : (rule : IndexRule) (schema : Schema) (test : PastChange → Bool) (t : ℕ) (b : List ℕ) (items : List PastChange)
    → AllByRecursion (λ q. test q ≡ true → is_change_of t b q.change ≡ true → is_rewrite q.change ≡ false) items → SeesNoSum rule t items → (base : Records) → HasSameKeys rule schema (records_after_items test base items t b) (base t b)
left_alone rule schema test t b [] h plain base key = refl
left_alone rule schema test t b (q ∷ items) h plain base key =
    elim (test q) as (λ x. test q ≡ x → yields_key rule schema key (fold after_item base (cond x (q ∷ filter test items) (filter test items)) t b) ≡ yields_key rule schema key (base t b)) [
      | true ↦ λ e. left_alone rule schema test t b items h.1 plain.1 (after_item base q) key
          ∙ elim (is_change_of t b q.change) as (λ x. is_change_of t b q.change ≡ x → yields_key rule schema key (cond x (record_after q.change (base t b)) (base t b)) ≡ yields_key rule schema key (base t b)) [
            | true ↦ λ f. keys_stay rule schema q.change (h.0 e f) (plain.0 (eqb-true (changed_table q.change) t (and_left _ _ f))) (base t b) key
            | false ↦ λ f. refl
          ] refl
      | false ↦ λ e. left_alone rule schema test t b items h.1 plain.1 base key
    ] refl

-- ---- where no escrow column was changed

none_added : (rule : IndexRule) (c : Change) → is_sum c ≡ false → adds_to_index rule c ≡ false
none_added rule (Put t b copied values) h = refl
none_added rule (Drop t b) h = refl
none_added rule (Hold t b) h = refl
none_added rule (Add t b c a) h = impossible (sym h)

pub sees_none : (rule : IndexRule) (table : ℕ) (kept : List PastChange) → HasNoSums kept → SeesNoSum rule table kept
sees_none rule table kept none = all_weaker (λ item. is_sum item.change ≡ false) (λ item. changed_table item.change ≡ table → adds_to_index rule item.change ≡ false) (λ item sum own. none_added rule item.change sum) kept none

pub befores_of_none : (rule : IndexRule) (schema : Schema) (table : ℕ) (kept : List PastChange) (base : Records) → HasNoSums kept → HasKeyBefores rule schema table base kept
befores_of_none rule schema table [] base none = tt
befores_of_none rule schema table (item ∷ kept) base none = ((λ live sum own. impossible (sym none.0 ∙ sum)), befores_of_none rule schema table kept _ none.1)

-- the indexes of a table that was found
pub seen_by : (kept : List PastChange) (state : DatabaseState) → IndexesSeeNoSum kept state → (id : ℕ) (table : Table) → table_with_id state.tables id ≡ Some table → AllByRecursion (λ rule. SeesNoSum rule table.id kept) table.indexes
seen_by kept state sees id table found = subst (λ (o : Option Table). IfSome o (λ t. AllByRecursion (λ rule. SeesNoSum rule t.id kept) t.indexes)) found (sees id)
