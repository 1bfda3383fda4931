-- Records that come behind all others, and records that change.
use Rattle.std.proofs.Common.{◌≡◌, ℕ, true, false, not, cond, List, [], ◌∷◌, ◌++◌, Some, None, refl, sym, ap, ◌∙◌, bytes_eq}
use Rattle.std.specs.List.{AllByRecursion}
use Rattle.std.specs.declared.cmp.Ordering.TheVariants.{Less, Equal, Greater}
use Rattle.std.specs.Ordering.{is_eq}
use Rattle.std.specs.FinMap.Entries.{by_order}
use Rattle.std.proofs.lemmas.Map.Lookups.{exact_bytes}
use Rattle.common_lemmas.proofs.Lists.{all_filter, all_weaker}
use Rattle.column_set.specs.RecordValues.{RecordFields, lookup_by_key, put_by_key, remove_by_key}
use Rattle.index_derive.specs.declared.rules.IndexRule.{IndexRule}
use Rattle.index_derive.specs.declared.rules.Schema.{Schema}
use Rattle.index_derive.specs.Entries.{derive, key_list, own_order}
use Rattle.cursor_nav.specs.Places.{are_sorted}
use Rattle.laws_versions.specs.KeptEntries.{with_entries, without_entries}
use Rattle.index_derive.specs.RisingKeys.{key_cmp, turned_keys}
use Rattle.laws_versions.proofs.IndexLemmas.Rows.{below_after, missed-not_equal, IsBelow, RowsRise, rise-sorted, not_equal_below}
use Rattle.laws_versions.proofs.IndexLemmas.Adding.{KeysRise, derived_put_rising}
use Rattle.laws_versions.proofs.IndexLemmas.Removing.{derived_without}
use Rattle.laws_versions.proofs.IndexLemmas.Standing.{same_test}

-- ---- a record behind all others

below_front : {X : Type 0} (bookmark : List ℕ) (rows more : List (List ℕ × X)) → IsBelow bookmark (rows ++ more) → IsBelow bookmark rows × IsBelow bookmark more
below_front bookmark [] more h = (tt, h)
below_front bookmark (place ∷ rows) more h = let rest = below_front bookmark rows more h.1 in ((h.0, rest.0), rest.1)

rise-front : {X : Type 0} (rows more : List (List ℕ × X)) → RowsRise (rows ++ more) → RowsRise rows
rise-front [] more h = tt
rise-front (place ∷ rows) more h = ((below_front place.0 rows more h.0).0, rise-front rows more h.1)

-- each row comes before it
last_above : {X : Type 0} (rows : List (List ℕ × X)) (bookmark : List ℕ) (x : X) → RowsRise (rows ++ (bookmark, x) ∷ []) → AllByRecursion (λ place. key_cmp bookmark place.0 ≡ Greater) rows
last_above [] bookmark x h = tt
last_above (place ∷ rows) bookmark x h =
    (turned_keys place.0 bookmark Less (below_front place.0 rows ((bookmark, x) ∷ []) h.0).1.0, last_above rows bookmark x h.1)

put-last : {X : Type 0} (rows : List (List ℕ × X)) (bookmark : List ℕ) (x : X) → AllByRecursion (λ place. key_cmp bookmark place.0 ≡ Greater) rows → put_by_key bookmark x rows ≡ rows ++ (bookmark, x) ∷ []
put-last [] bookmark x h = refl
put-last (place ∷ rows) bookmark x h =
    ap (λ r. by_order r ((bookmark, x) ∷ place ∷ rows) ((place.0, x) ∷ rows) (place ∷ put_by_key bookmark x rows)) h.0
    ∙ ap (λ r. place ∷ r) (put-last rows bookmark x h.1)

missed-last : {X : Type 0} (rows : List (List ℕ × X)) (bookmark : List ℕ) → AllByRecursion (λ place. key_cmp bookmark place.0 ≡ Greater) rows → lookup_by_key bookmark rows ≡ None
missed-last rows bookmark h =
    missed-not_equal bookmark rows (all_weaker (λ place. key_cmp bookmark place.0 ≡ Greater) (λ place. is_eq (key_cmp bookmark place.0) ≡ false) (λ place e. ap is_eq e) rows h)

pub derived_row_by_row : KeysRise → (rule : IndexRule) (schema : Schema) (rows : List (List ℕ × RecordFields)) (bookmark : List ℕ) (values : RecordFields)
    → are_sorted (own_order (rows ++ (bookmark, values) ∷ [])) ≡ true
    → derive rule schema (rows ++ (bookmark, values) ∷ []) ≡ with_entries (key_list rule schema values) bookmark (derive rule schema rows)
derived_row_by_row rise rule schema rows bookmark values sorted =
    let all_rise = rise-sorted (rows ++ (bookmark, values) ∷ []) sorted in
    let above = last_above rows bookmark values all_rise in
    ap (derive rule schema) (sym (put-last rows bookmark values above))
    ∙ derived_put_rising rise rule schema rows bookmark values (rise-front rows ((bookmark, values) ∷ []) all_rise) (missed-last rows bookmark above)

-- ---- a record that changes

-- no row has the bookmark once it was removed
missed-removed : {X : Type 0} (bookmark : List ℕ) (rows : List (List ℕ × X)) → lookup_by_key bookmark (remove_by_key bookmark rows) ≡ None
missed-removed bookmark [] = refl
missed-removed bookmark (place ∷ rows) =
    elim (bytes_eq place.0 bookmark) as (λ b. bytes_eq place.0 bookmark ≡ b → lookup_by_key bookmark (cond (not b) (place ∷ remove_by_key bookmark rows) (remove_by_key bookmark rows)) ≡ None) [
      | true ↦ λ e. missed-removed bookmark rows
      | false ↦ λ e. ap (λ b. cond b (Some place.1) (lookup_by_key bookmark (remove_by_key bookmark rows))) (sym (same_test bookmark place.0) ∙ e) ∙ missed-removed bookmark rows
    ] refl

rise-removed : {X : Type 0} (bookmark : List ℕ) (rows : List (List ℕ × X)) → RowsRise rows → RowsRise (remove_by_key bookmark rows)
rise-removed bookmark [] h = tt
rise-removed bookmark (place ∷ rows) h =
    elim (not (bytes_eq place.0 bookmark)) as (λ b. RowsRise (cond b (place ∷ remove_by_key bookmark rows) (remove_by_key bookmark rows))) [
      | true ↦ (all_filter (λ other. key_cmp place.0 other.0 ≡ Less) (λ entry. not (bytes_eq entry.0 bookmark)) rows h.0, rise-removed bookmark rows h.1)
      | false ↦ rise-removed bookmark rows h.1
    ]

-- without the rows of a bookmark that comes before all of them
removed-none : {X : Type 0} (bookmark : List ℕ) (rows : List (List ℕ × X)) → AllByRecursion (λ place. is_eq (key_cmp bookmark place.0) ≡ false) rows → remove_by_key bookmark rows ≡ rows
removed-none bookmark [] h = refl
removed-none bookmark (place ∷ rows) h =
    ap (λ b. cond (not b) (place ∷ remove_by_key bookmark rows) (remove_by_key bookmark rows)) (same_test bookmark place.0 ∙ h.0) ∙ ap (λ r. place ∷ r) (removed-none bookmark rows h.1)

put-below : {X : Type 0} (bookmark : List ℕ) (x : X) (rows : List (List ℕ × X)) → IsBelow bookmark rows → put_by_key bookmark x rows ≡ (bookmark, x) ∷ rows
put-below bookmark x [] h = refl
put-below bookmark x (place ∷ rows) h = ap (λ r. by_order r ((bookmark, x) ∷ place ∷ rows) ((place.0, x) ∷ rows) (place ∷ put_by_key bookmark x rows)) h.0

-- a row that is put is put where it was removed before
put-removed : {X : Type 0} (bookmark : List ℕ) (x : X) (rows : List (List ℕ × X)) → RowsRise rows → put_by_key bookmark x (remove_by_key bookmark rows) ≡ put_by_key bookmark x rows
put-removed bookmark x [] h = refl
put-removed bookmark x (place ∷ rows) h =
    let left = remove_by_key bookmark rows in
    elim (key_cmp bookmark place.0) as (λ r. key_cmp bookmark place.0 ≡ r → put_by_key bookmark x (remove_by_key bookmark (place ∷ rows)) ≡ by_order r ((bookmark, x) ∷ place ∷ rows) ((place.0, x) ∷ rows) (place ∷ put_by_key bookmark x rows)) [
      | Less ↦ λ p.
          let below : IsBelow bookmark (place ∷ rows) = (p, below_after bookmark place.0 rows p h.0) in
          ap (put_by_key bookmark x) (removed-none bookmark (place ∷ rows) (not_equal_below bookmark (place ∷ rows) below)) ∙ put-below bookmark x (place ∷ rows) below
      | Equal ↦ λ p.
          let same : bookmark ≡ place.0 = exact_bytes bookmark place.0 p in
          let gone : remove_by_key bookmark (place ∷ rows) ≡ left = ap (λ b. cond (not b) (place ∷ left) left) (same_test bookmark place.0 ∙ ap is_eq p) in
          let rest : left ≡ rows = ap (λ (b : List ℕ). remove_by_key b rows) same ∙ removed-none place.0 rows (not_equal_below place.0 rows h.0) in
          ap (put_by_key bookmark x) (gone ∙ rest) ∙ ap (λ (b : List ℕ). put_by_key b x rows) same ∙ put-below place.0 x rows h.0
      | Greater ↦ λ p.
          let stays : remove_by_key bookmark (place ∷ rows) ≡ place ∷ left = ap (λ b. cond (not b) (place ∷ left) left) (same_test bookmark place.0 ∙ ap is_eq p) in
          ap (put_by_key bookmark x) stays
          ∙ ap (λ r. by_order r ((bookmark, x) ∷ place ∷ left) ((place.0, x) ∷ left) (place ∷ put_by_key bookmark x left)) p
          ∙ ap (λ r. place ∷ r) (put-removed bookmark x rows h.1)
    ] refl

pub derived_replaced : KeysRise → (rule : IndexRule) (schema : Schema) (rows : List (List ℕ × RecordFields)) (bookmark : List ℕ) (values : RecordFields)
    → are_sorted (own_order rows) ≡ true
    → derive rule schema (put_by_key bookmark values rows) ≡ with_entries (key_list rule schema values) bookmark (without_entries bookmark (derive rule schema rows))
derived_replaced rise rule schema rows bookmark values sorted =
    let rows_rise = rise-sorted rows sorted in
    ap (derive rule schema) (sym (put-removed bookmark values rows rows_rise))
    ∙ derived_put_rising rise rule schema (remove_by_key bookmark rows) bookmark values (rise-removed bookmark rows rows_rise) (missed-removed bookmark rows)
    ∙ ap (with_entries (key_list rule schema values) bookmark) (derived_without rule schema rows bookmark)
