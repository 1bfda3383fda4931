-- Keys of a primary index: each is the bookmark of its record.
use Rattle.std.proofs.Common.{◌≡◌, ℕ, Bool, true, false, ◌&&◌, ◌||◌, cond, List, [], ◌∷◌, ◌++◌, Some, Ok, Err, refl, sym, ap, ◌∙◌, bytes_eq}
use Rattle.std.specs.Prelude.{◌==◌, fold, filter, map, not}
use Rattle.std.specs.List.{AllByRecursion, list_any}
use Rattle.std.proofs.lemmas.Bool.{eqb-true, false_from_ne_true}
use Rattle.common_lemmas.proofs.Booleans.{and_left, and_right, impossible}
use Rattle.common_lemmas.proofs.Lists.{all_append, all_map, all_weaker}
use Rattle.common_lemmas.proofs.Numbers.{equal_bytes, same_bytes}
use Rattle.column_set.specs.RecordValues.{RecordFields, has_value}
use Rattle.key_normal.specs.KeyBytes.{is_cut}
use Rattle.index_derive.specs.declared.rules.IndexRule.{IndexRule}
use Rattle.index_derive.specs.declared.rules.Schema.{Schema}
use Rattle.index_derive.specs.Entries.{NullKeyDisallowed, KeyTruncated, entries, is_legal, key_columns, keys_or_none, primary_key, whole_key}
use Rattle.index_derive.specs.Primary.{first_values, primary_entries}
use Rattle.database_state.specs.Changes.{is_sum}
use Rattle.column_set.specs.ChangedRecords.{changed_table, changed_bookmark}
use Rattle.database_state.specs.State.{PastChange}
use Rattle.database_state.specs.Conflicts.{yields_key}
use Rattle.laws_versions.specs.Records.{Records, after_item, is_change_of, record_after, records_after_items}
use Rattle.laws_versions.specs.History.{HasBefores}
use Rattle.laws_versions.specs.Readers.{is_standing}
use Rattle.laws_versions.specs.UniqueKeys.{BringsKey, HasBookmarkKeys, HasOwnKey, MeetsKey}
use Rattle.laws_versions.specs.KeySums.{SeesNoSum}
use Rattle.laws_versions.proofs.KeyLemmas.KeySums.{sum_keeps}

-- what the law of a primary index says
abbrev pub HasOneEntry : Type 0
HasOneEntry = (rule : IndexRule) (schema : Schema) (fields : RecordFields) → is_legal rule schema ≡ true → rule.flags.primary ≡ true → entries rule schema fields ≡ primary_entries rule schema fields

alone : (key own : List ℕ) → list_any (bytes_eq key) (own ∷ []) ≡ true → key ≡ own
alone key own h = same_bytes key own (only (bytes_eq key own) h)
  where
    only : (b : Bool) → (b || false) ≡ true → b ≡ true
    only true e = refl
    only false e = e

pub own_key : HasOneEntry → (rule : IndexRule) (schema : Schema) → is_legal rule schema ≡ true → rule.flags.primary ≡ true → (values : RecordFields) (bookmark : List ℕ) → bytes_eq bookmark (primary_key rule schema values) ≡ true
    → HasOwnKey rule schema bookmark (Some values)
own_key one rule schema legal primary values bookmark is key had =
    by (rule.flags.disallownull && list_any (λ column. not (has_value values column)) (key_columns rule)) (rule.flags.disallowtruncation && is_cut rule.key_most (whole_key rule schema (first_values rule values)))
    (sym (ap (λ found. list_any (bytes_eq key) (keys_or_none found)) (one rule schema values legal primary)) ∙ had)
    ∙ sym (same_bytes bookmark (primary_key rule schema values) is)
  where
    by : (a b : Bool) → list_any (bytes_eq key) (keys_or_none (elim a [ true ↦ Err NullKeyDisallowed | false ↦ elim b [ true ↦ Err KeyTruncated | false ↦ Ok (primary_key rule schema values ∷ []) ] ])) ≡ true → key ≡ primary_key rule schema values
    by true b h = impossible h
    by false true h = impossible h
    by false false h = alone key (primary_key rule schema values) h

-- ---- the newest records

pub newest_own : (rule : IndexRule) (schema : Schema) (table : ℕ) (items : List PastChange) (records : Records) → HasBefores records items → SeesNoSum rule table items → AllByRecursion (λ item. item.after ≡ record_after item.change item.before) items
    → HasBookmarkKeys rule schema table records items → (bookmark : List ℕ) → HasOwnKey rule schema bookmark (records_after_items is_standing records items table bookmark)
newest_own rule schema table [] records befores plain afters h bookmark = h.at_first bookmark
newest_own rule schema table (item ∷ items) records befores plain afters h bookmark =
    elim (is_standing item) as (λ b. is_standing item ≡ b → HasBefores (cond b (after_item records item) records) items → HasOwnKey rule schema bookmark (fold after_item records (cond b (item ∷ filter is_standing items) (filter is_standing items)) table bookmark)) [
      | true ↦ λ live g. newest_own rule schema table items (after_item records item) g plain.1 afters.1 (record { at_first = next live; changes = h.changes.1 }) bookmark
      | false ↦ λ live g. newest_own rule schema table items records g plain.1 afters.1 (record { at_first = h.at_first; changes = h.changes.1 }) bookmark
    ] refl befores.1
  where
    next : is_standing item ≡ true → (at : List ℕ) → HasOwnKey rule schema at (after_item records item table at)
    next live at =
        elim (is_change_of table at item.change) as (λ b. is_change_of table at item.change ≡ b → HasOwnKey rule schema at (cond b (record_after item.change (records table at)) (records table at))) [
          | true ↦ λ mine key had.
              let of_table : changed_table item.change ≡ table = eqb-true (changed_table item.change) table (and_left _ _ mine) in
              let of_bookmark : changed_bookmark item.change ≡ at = same_bytes (changed_bookmark item.change) at (and_right (changed_table item.change == table) _ mine) in
              elim (is_sum item.change) as (λ b. is_sum item.change ≡ b → key ≡ at) [
                | true ↦ λ sum. h.at_first at key (sym (sum_keeps rule schema item.change (plain.0 of_table) sum (records table at) key) ∙ had)
                | false ↦ λ sum.
                    let was : item.before ≡ records table at = befores.0 live sum ∙ ap (λ (k : ℕ). records k (changed_bookmark item.change)) of_table ∙ ap (records table) of_bookmark in
                    (h.changes.0 of_table).1 key (ap (yields_key rule schema key) (afters.0 ∙ ap (record_after item.change) was) ∙ had) ∙ of_bookmark
              ] refl
          | false ↦ λ other. h.at_first at
        ] refl

-- ---- a change

pub own_appended : (rule : IndexRule) (schema : Schema) (table : ℕ) (base : Records) (kept : List PastChange) (new : PastChange)
    → (changed_table new.change ≡ table → HasOwnKey rule schema (changed_bookmark new.change) new.before × HasOwnKey rule schema (changed_bookmark new.change) new.after)
    → HasBookmarkKeys rule schema table base kept → HasBookmarkKeys rule schema table base (kept ++ new ∷ [])
own_appended rule schema table base kept new own h = record {
  at_first = h.at_first;
  changes = all_append (λ item. changed_table item.change ≡ table → HasOwnKey rule schema (changed_bookmark item.change) item.before × HasOwnKey rule schema (changed_bookmark item.change) item.after) kept (new ∷ []) h.changes (own, tt);
}

pub own_mapped : (rule : IndexRule) (schema : Schema) (table : ℕ) (base : Records) (kept : List PastChange) (f : PastChange → PastChange) → ((item : PastChange) → (f item).change ≡ item.change) → ((item : PastChange) → (f item).before ≡ item.before)
    → ((item : PastChange) → (f item).after ≡ item.after) → HasBookmarkKeys rule schema table base kept → HasBookmarkKeys rule schema table base (map f kept)
own_mapped rule schema table base kept f change before after h = record {
  at_first = h.at_first;
  changes = all_map Own f kept (all_weaker Own (λ item. Own (f item)) (λ item own of_table.
      let both = own (ap changed_table (sym (change item)) ∙ of_table) in (
        (λ key had. both.0 key (ap (yields_key rule schema key) (sym (before item)) ∙ had) ∙ ap changed_bookmark (sym (change item))),
        λ key had. both.1 key (ap (yields_key rule schema key) (sym (after item)) ∙ had) ∙ ap changed_bookmark (sym (change item)),
      )) kept h.changes);
}
  where
    Own : PastChange → Type 0
    Own item = changed_table item.change ≡ table → HasOwnKey rule schema (changed_bookmark item.change) item.before × HasOwnKey rule schema (changed_bookmark item.change) item.after

-- what a change brings is free, since no other record has its bookmark as a key
pub own_free : (rule : IndexRule) (schema : Schema) (table : ℕ) (newest : Records) (new : PastChange) → ((bookmark : List ℕ) → HasOwnKey rule schema bookmark (newest table bookmark)) → HasOwnKey rule schema (changed_bookmark new.change) new.after
    → (key other : List ℕ) → BringsKey rule schema key new → bytes_eq (changed_bookmark new.change) other ≡ false → yields_key rule schema key (newest table other) ≡ false
own_free rule schema table newest new owns own key other brings apart =
    false_from_ne_true (yields_key rule schema key (newest table other)) (λ had.
    impossible (sym apart ∙ equal_bytes (changed_bookmark new.change) other (sym (own key brings.0) ∙ owns other key had)))

-- and no other change has it
pub own_meets : (rule : IndexRule) (schema : Schema) (table : ℕ) (base : Records) (kept : List PastChange) (new : PastChange) (A : PastChange → Type 0) → HasBookmarkKeys rule schema table base kept → HasOwnKey rule schema (changed_bookmark new.change) new.after
    → AllByRecursion (λ p. is_standing p ≡ true → MeetsKey rule schema table p new → A p) kept
own_meets rule schema table base kept new A h own =
    all_weaker (λ item. changed_table item.change ≡ table → HasOwnKey rule schema (changed_bookmark item.change) item.before × HasOwnKey rule schema (changed_bookmark item.change) item.after)
    (λ p. is_standing p ≡ true → MeetsKey rule schema table p new → A p)
    (λ p owns live meets. absurd (impossible (sym meets.2 ∙ equal_bytes (changed_bookmark new.change) (changed_bookmark p.change)
    (sym (own meets.3.0 meets.3.2.0) ∙ (owns meets.0).0 meets.3.0 meets.3.1)))) kept h.changes
