-- The derived entries in order, and what a new record adds to them.
use Rattle.std.proofs.Common.{◌≡◌, ℕ, Bool, true, ◌||◌, List, [], ◌∷◌, None, refl, sym, ap, ◌∙◌}
use Rattle.std.specs.List.{list_any, AllByRecursion}
use Rattle.column_set.specs.RecordValues.{RecordFields, lookup_by_key, put_by_key}
use Rattle.index_derive.specs.declared.rules.IndexRule.{IndexRule}
use Rattle.index_derive.specs.declared.rules.Schema.{Schema}
use Rattle.index_derive.specs.Entries.{derive, key_list, own_order, sorted_entries}
use Rattle.index_derive.specs.RisingKeys.{AreRisingKeys}
use Rattle.cursor_nav.specs.Places.{Pair, are_sorted}
use Rattle.laws_versions.specs.KeptEntries.{with_entries}
use Rattle.laws_versions.proofs.IndexLemmas.PairOrder.{IsRising, sorted-rising}
use Rattle.laws_versions.proofs.IndexLemmas.Members.{all_sorted, any_sorted, any_with}
use Rattle.laws_versions.proofs.IndexLemmas.Rising.{IsApart, IsFresh, rising_sorted, rising_with, same_rising}
use Rattle.laws_versions.proofs.IndexLemmas.Rows.{all_entries, entries_of, RowsRise, rise-sorted, rise-put, distinct_entries, fresh_entries, not_equal_missed, any_put}

-- the keys of each record rise
abbrev pub KeysRise : Type 0
KeysRise = (rule : IndexRule) (schema : Schema) (fields : RecordFields) → AreRisingKeys (key_list rule schema fields)

pub derived_is : (rule : IndexRule) (schema : Schema) (rows : List (List ℕ × RecordFields)) → derive rule schema rows ≡ sorted_entries (all_entries (key_list rule schema) rows)
unfolding derive
derived_is rule schema rows = refl

pub rising_derived : KeysRise → (rule : IndexRule) (schema : Schema) (rows : List (List ℕ × RecordFields)) → RowsRise rows → IsRising (derive rule schema rows)
unfolding derive
rising_derived rise rule schema rows h = rising_sorted (all_entries (key_list rule schema) rows) (distinct_entries (key_list rule schema) (rise rule schema) rows h)

pub derived_in_order : KeysRise → (rule : IndexRule) (schema : Schema) (rows : List (List ℕ × RecordFields)) → are_sorted (own_order rows) ≡ true → are_sorted (derive rule schema rows) ≡ true
derived_in_order rise rule schema rows h = sorted-rising (derive rule schema rows) (rising_derived rise rule schema rows (rise-sorted rows h))

pub any_derived : (p : Pair → Bool) (rule : IndexRule) (schema : Schema) (rows : List (List ℕ × RecordFields)) → list_any p (derive rule schema rows) ≡ list_any p (all_entries (key_list rule schema) rows)
unfolding derive
any_derived p rule schema rows = any_sorted p (all_entries (key_list rule schema) rows)

fresh_derived : (rule : IndexRule) (schema : Schema) (bookmark : List ℕ) (rows : List (List ℕ × RecordFields)) → lookup_by_key bookmark rows ≡ None
    → (keys : List (List ℕ)) → AllByRecursion (λ key. IsFresh (key, bookmark) (derive rule schema rows)) keys
unfolding derive
fresh_derived rule schema bookmark rows none [] = tt
fresh_derived rule schema bookmark rows none (key ∷ keys) = (
  all_sorted (IsApart (key, bookmark)) (all_entries (key_list rule schema) rows) (fresh_entries (key_list rule schema) (key, bookmark) rows (not_equal_missed bookmark rows none)),
  fresh_derived rule schema bookmark rows none keys,
)

pub derived_put_rising : KeysRise → (rule : IndexRule) (schema : Schema) (rows : List (List ℕ × RecordFields)) (bookmark : List ℕ) (values : RecordFields)
    → RowsRise rows → lookup_by_key bookmark rows ≡ None
    → derive rule schema (put_by_key bookmark values rows) ≡ with_entries (key_list rule schema values) bookmark (derive rule schema rows)
derived_put_rising rise rule schema rows bookmark values rows_rise none =
    let keys = key_list rule schema values in
    let old = derive rule schema rows in
    same_rising (derive rule schema (put_by_key bookmark values rows)) (with_entries keys bookmark old)
    (rising_derived rise rule schema (put_by_key bookmark values rows) (rise-put bookmark values rows rows_rise))
    (rising_with keys bookmark old (rise rule schema values) (rising_derived rise rule schema rows rows_rise) (fresh_derived rule schema bookmark rows none keys))
    (λ p. any_derived p rule schema (put_by_key bookmark values rows)
    ∙ any_put (key_list rule schema) p bookmark values rows none
    ∙ ap (λ b. list_any p (entries_of bookmark keys) || b) (sym (any_derived p rule schema rows))
    ∙ sym (any_with p keys bookmark old))

pub derived_put : KeysRise → (rule : IndexRule) (schema : Schema) (rows : List (List ℕ × RecordFields)) (bookmark : List ℕ) (values : RecordFields)
    → are_sorted (own_order rows) ≡ true → lookup_by_key bookmark rows ≡ None
    → derive rule schema (put_by_key bookmark values rows) ≡ with_entries (key_list rule schema values) bookmark (derive rule schema rows)
derived_put rise rule schema rows bookmark values sorted none = derived_put_rising rise rule schema rows bookmark values (rise-sorted rows sorted) none
