-- The entries of a session's view among those of all variants.
use Rattle.std.proofs.Common.{◌≡◌, ℕ, Bool, true, false, ◌&&◌, ◌||◌, cond, List, [], ◌∷◌, Option, Some, refl, sym, ap, ◌∙◌, bytes_eq}
use Rattle.std.specs.Prelude.{filter, find}
use Rattle.std.specs.List.{list_any}
use Rattle.std.proofs.lemmas.Bool.{and_from, or_left, or_right}
use Rattle.common_lemmas.proofs.Booleans.{and_left, and_right}
use Rattle.common_lemmas.proofs.Numbers.{same_bytes}
use Rattle.column_set.specs.RecordValues.{RecordFields, lookup_by_key}
use Rattle.cursor_nav.specs.Places.{Pair, are_sorted}
use Rattle.index_derive.specs.Entries.{derive, own_order}
use Rattle.database_state.specs.Table.{rows_of, table_with_id}
use Rattle.laws_versions.specs.KeptEntries.{has_entry}
use Rattle.index_derive.specs.declared.rules.IndexRule.{IndexRule}
use Rattle.index_derive.specs.declared.rules.Schema.{Schema}
use Rattle.database_state.specs.State.{DatabaseState, PastChange, Transaction, transaction_of}
use Rattle.database_state.specs.View.{newest, view}
use Rattle.database_state.specs.Conflicts.{yields_key}
use Rattle.laws_versions.specs.Records.{Records, is_change_of, records_of}
use Rattle.laws_versions.specs.History.{IsHistory}
use Rattle.laws_versions.specs.Readers.{before_or, found_record, hides, is_rewrite, is_standing}
use Rattle.laws_versions.specs.KeySums.{SeesNoSum}
use Rattle.laws_versions.specs.Variants.{HoldsVariants, is_standing_rewrite, is_variant_key, shown_entries}
use Rattle.laws_versions.proofs.KeyLemmas.FoundKeys.{found_keys}

-- ---- what is found is a variant

found_is_variant : (session : ℕ) (t : Option Transaction) (table : ℕ) (rule : IndexRule) (schema : Schema) (key bookmark : List ℕ) (newest : Option RecordFields) (kept : List PastChange)
    → yields_key rule schema key (found_record session t table bookmark newest kept) ≡ true
    → (yields_key rule schema key newest || list_any (λ item. is_standing_rewrite table bookmark item && yields_key rule schema key item.before) kept) ≡ true
found_is_variant session t table rule schema key bookmark newest [] h = or_left (yields_key rule schema key newest) false h
found_is_variant session t table rule schema key bookmark newest (item ∷ kept) h =
    elim (hides session t table bookmark item) as (λ b. hides session t table bookmark item ≡ b
    → yields_key rule schema key (before_or newest (cond b (Some item) (find (hides session t table bookmark) kept))) ≡ true
    → (yields_key rule schema key newest || ((is_standing_rewrite table bookmark item && yields_key rule schema key item.before) || list_any (λ item. is_standing_rewrite table bookmark item && yields_key rule schema key item.before) kept)) ≡ true) [
      | true ↦ λ hit g.
          let touched : (is_change_of table bookmark item.change && is_rewrite item.change) ≡ true = and_left _ _ hit in
          let live : is_standing item ≡ true = and_left _ _ (and_right (is_change_of table bookmark item.change && is_rewrite item.change) _ hit) in
          or_right (yields_key rule schema key newest) _ (or_left (is_standing_rewrite table bookmark item && yields_key rule schema key item.before) _ (and_from _ _ (and_from _ _ touched live) g))
      | false ↦ λ miss g. later (yields_key rule schema key newest) (is_standing_rewrite table bookmark item && yields_key rule schema key item.before) _ (found_is_variant session t table rule schema key bookmark newest kept g)
    ] refl h
  where
    later : (a b c : Bool) → (a || c) ≡ true → (a || (b || c)) ≡ true
    later true b c e = refl
    later false true c e = refl
    later false false c e = e

-- ---- the entries that are shown

shown_by : (seen : Records) (rule : IndexRule) (schema : Schema) (table : ℕ) (key bookmark : List ℕ) (entries : List Pair)
    → has_entry key bookmark (shown_entries seen rule schema table entries)
    ≡ (has_entry key bookmark entries && yields_key rule schema key (seen table bookmark))
shown_by seen rule schema table key bookmark [] = refl
shown_by seen rule schema table key bookmark (entry ∷ entries) =
    elim (yields_key rule schema entry.0 (seen table entry.1)) as (λ b. yields_key rule schema entry.0 (seen table entry.1) ≡ b
    → list_any is_it (cond b (entry ∷ shown_entries seen rule schema table entries) (shown_entries seen rule schema table entries))
    ≡ ((is_it entry || list_any is_it entries) && yields_key rule schema key (seen table bookmark))) [
      | true ↦ λ e. ap (λ b. is_it entry || b) (shown_by seen rule schema table key bookmark entries)
          ∙ here (is_it entry) (list_any is_it entries) (yields_key rule schema key (seen table bookmark)) (λ hit. same hit e)
      | false ↦ λ e. shown_by seen rule schema table key bookmark entries
          ∙ gone (is_it entry) (list_any is_it entries) (yields_key rule schema key (seen table bookmark)) (λ hit. same hit e)
    ] refl
  where
    is_it : List ℕ × List ℕ → Bool
    is_it entry = bytes_eq entry.0 key && bytes_eq entry.1 bookmark

    same : {b : Bool} → is_it entry ≡ true → yields_key rule schema entry.0 (seen table entry.1) ≡ b → yields_key rule schema key (seen table bookmark) ≡ b
    same hit e =
        let k = same_bytes entry.0 key (and_left _ _ hit) in
        let m = same_bytes entry.1 bookmark (and_right (bytes_eq entry.0 key) _ hit) in
        sym (λ i. yields_key rule schema (k i) (seen table (m i))) ∙ e

    here : (a b c : Bool) → (a ≡ true → c ≡ true) → (a || (b && c)) ≡ ((a || b) && c)
    here true b c f = sym (f refl)
    here false b c f = refl

    gone : (a b c : Bool) → (a ≡ true → c ≡ false) → (b && c) ≡ ((a || b) && c)
    gone true true c f = refl
    gone true false c f = sym (f refl)
    gone false b c f = refl

-- Of the entries of all variants, a session is shown exactly those of the records that it sees.
pub walks_by_variants : (base : Records) (dropped kept : List PastChange) (state : DatabaseState) → IsHistory base dropped kept state → (session table : ℕ) (rule : IndexRule) (schema : Schema) → SeesNoSum rule table kept → (entries : List Pair)
    → HoldsVariants (records_of (newest state)) kept rule schema table entries → (key bookmark : List ℕ)
    → has_entry key bookmark (shown_entries (records_of (view state session)) rule schema table entries)
    ≡ yields_key rule schema key (records_of (view state session) table bookmark)
walks_by_variants base dropped kept state h session table rule schema plain entries holds key bookmark =
    shown_by (records_of (view state session)) rule schema table key bookmark entries
    ∙ ap (λ b. b && yields_key rule schema key (records_of (view state session) table bookmark)) (holds key bookmark)
    ∙ inside (is_variant_key (records_of (newest state)) kept rule schema table key bookmark) (yields_key rule schema key (records_of (view state session) table bookmark))
    (λ e. found_is_variant session (transaction_of state session) table rule schema key bookmark (records_of (newest state) table bookmark) kept
    (found_keys base dropped kept state h session table rule schema plain bookmark key ∙ e))
  where
    inside : (a b : Bool) → (b ≡ true → a ≡ true) → (a && b) ≡ b
    inside true b f = refl
    inside false true f = f refl
    inside false false f = refl

-- ---- in order they are the derivation

pub shown_is_derived : ((one other : List Pair) → are_sorted one ≡ true → are_sorted other ≡ true → ((key bookmark : List ℕ) → has_entry key bookmark one ≡ has_entry key bookmark other) → one ≡ other)
    → ((test : Pair → Bool) (entries : List Pair) → are_sorted entries ≡ true → are_sorted (filter test entries) ≡ true)
    → ((rule : IndexRule) (schema : Schema) (rows : List (List ℕ × RecordFields)) → are_sorted (own_order rows) ≡ true → are_sorted (derive rule schema rows) ≡ true)
    → ((rule : IndexRule) (schema : Schema) (rows : List (List ℕ × RecordFields)) (key bookmark : List ℕ) → are_sorted (own_order rows) ≡ true → has_entry key bookmark (derive rule schema rows) ≡ yields_key rule schema key (lookup_by_key bookmark rows))
    → (base : Records) (dropped kept : List PastChange) (state : DatabaseState) → IsHistory base dropped kept state → (session table : ℕ) (rule : IndexRule) (schema : Schema) → SeesNoSum rule table kept → (entries : List Pair)
    → HoldsVariants (records_of (newest state)) kept rule schema table entries → are_sorted entries ≡ true → are_sorted (own_order (rows_of (table_with_id (view state session) table))) ≡ true
    → shown_entries (records_of (view state session)) rule schema table entries ≡ derive rule schema (rows_of (table_with_id (view state session) table))
shown_is_derived same_sorted sorted_filter in_order of_records base dropped kept state h session table rule schema plain entries holds sorted rows_rise =
    same_sorted (shown_entries (records_of (view state session)) rule schema table entries) (derive rule schema (rows_of (table_with_id (view state session) table)))
    (sorted_filter (λ entry. yields_key rule schema entry.0 (records_of (view state session) table entry.1)) entries sorted)
    (in_order rule schema (rows_of (table_with_id (view state session) table)) rows_rise)
    (λ key bookmark. walks_by_variants base dropped kept state h session table rule schema plain entries holds key bookmark
    ∙ sym (of_records rule schema (rows_of (table_with_id (view state session) table)) key bookmark rows_rise))
