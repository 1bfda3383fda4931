-- What is left of the derived entries when a record goes.
use Rattle.std.proofs.Common.{◌≡◌, ℕ, Bool, true, false, not, cond, List, [], ◌∷◌, ◌++◌, refl, sym, ap, ◌∙◌, bytes_eq}
use Rattle.column_set.specs.RecordValues.{RecordFields, remove_by_key}
use Rattle.index_derive.specs.declared.rules.IndexRule.{IndexRule}
use Rattle.index_derive.specs.declared.rules.Schema.{Schema}
use Rattle.index_derive.specs.Entries.{derive, key_list, sorted_entries}
use Rattle.laws_versions.specs.KeptEntries.{without_entries}
use Rattle.laws_versions.proofs.IndexLemmas.Filtering.{filter-append, sorted-filter}
use Rattle.laws_versions.proofs.IndexLemmas.Rows.{entries_of, all_entries}

-- the entries of a record stay or go together
filter_record : (bookmark other : List ℕ) (keys : List (List ℕ)) → without_entries bookmark (entries_of other keys) ≡ cond (not (bytes_eq other bookmark)) (entries_of other keys) []
filter_record bookmark other [] = none (not (bytes_eq other bookmark))
  where
    none : (b : Bool) → [] ≡ cond b (entries_of other []) []
    none true = refl
    none false = refl
filter_record bookmark other (key ∷ keys) =
    let b = not (bytes_eq other bookmark) in
    ap (λ left. cond b ((key, other) ∷ left) left) (filter_record bookmark other keys) ∙ together b
  where
    together : (b : Bool) → cond b ((key, other) ∷ cond b (entries_of other keys) []) (cond b (entries_of other keys) []) ≡ cond b (entries_of other (key ∷ keys)) []
    together true = refl
    together false = refl

filter_records : {X : Type 0} (keys : X → List (List ℕ)) (bookmark : List ℕ) (rows : List (List ℕ × X)) → all_entries keys (remove_by_key bookmark rows) ≡ without_entries bookmark (all_entries keys rows)
filter_records keys bookmark [] = refl
filter_records keys bookmark (place ∷ rows) =
    let here = entries_of place.0 (keys place.1) in
    kept (not (bytes_eq place.0 bookmark))
    ∙ ap (λ left. cond (not (bytes_eq place.0 bookmark)) here [] ++ left) (filter_records keys bookmark rows)
    ∙ ap (λ left. left ++ without_entries bookmark (all_entries keys rows)) (sym (filter_record bookmark place.0 (keys place.1)))
    ∙ sym (filter-append (λ entry. not (bytes_eq entry.1 bookmark)) here (all_entries keys rows))
  where
    kept : (b : Bool) → all_entries keys (cond b (place ∷ remove_by_key bookmark rows) (remove_by_key bookmark rows))
        ≡ cond b (entries_of place.0 (keys place.1)) [] ++ all_entries keys (remove_by_key bookmark rows)
    kept true = refl
    kept false = refl

pub derived_without : (rule : IndexRule) (schema : Schema) (rows : List (List ℕ × RecordFields)) (bookmark : List ℕ)
    → derive rule schema (remove_by_key bookmark rows) ≡ without_entries bookmark (derive rule schema rows)
unfolding derive
derived_without rule schema rows bookmark =
    ap sorted_entries (filter_records (key_list rule schema) bookmark rows)
    ∙ sorted-filter (λ entry. not (bytes_eq entry.1 bookmark)) (all_entries (key_list rule schema) rows)
