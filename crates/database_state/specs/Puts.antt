-- Why a record may not be put: the refusals of its index entries, in the order in which they are tried.
use Rattle.std.specs.Prelude.{ℕ, Bool, true, false, not, ◌&&◌, List, [], ◌∷◌, ◌++◌, filter, Option, Some, None, Result, Ok, Err, bytes_eq}
use Rattle.std.specs.List.{list_any, flat_map}
use Rattle.jet_base.specs.declared.replies.Jet.TheVariants as jet
use Rattle.column_set.specs.RecordValues.{RecordFields}
use Rattle.index_derive.specs.declared.rules.IndexRule.{IndexRule}
use Rattle.index_derive.specs.declared.rules.Schema.{Schema}
use Rattle.index_derive.specs.Entries.{KeyRefusal, NullKeyDisallowed, KeyTruncated, entries, key_list, is_unique}
use Rattle.database_state.specs.Table.{Rows, row_at, index_entries}
use Rattle.database_state.specs.State.{DatabaseState}
use Rattle.database_state.specs.Conflicts.{yields_key, has_key_conflict}
use Rattle.column_set.specs.Refusals.{Refusals}

-- whether the index refuses the record for a NULL, for a cut key
abbrev pub is_null_refusal : Result (List (List ℕ)) KeyRefusal → Bool
is_null_refusal (Ok keys) = false
is_null_refusal (Err NullKeyDisallowed) = true
is_null_refusal (Err KeyTruncated) = false

abbrev pub is_cut_refusal : Result (List (List ℕ)) KeyRefusal → Bool
is_cut_refusal (Ok keys) = false
is_cut_refusal (Err NullKeyDisallowed) = false
is_cut_refusal (Err KeyTruncated) = true

-- the keys of a record in an index that the record in whose place it comes does not have there
abbrev pub new_keys : IndexRule → Schema → Option RecordFields → RecordFields → List (List ℕ)
new_keys rule schema seen values = filter (λ key. not (yields_key rule schema key seen)) (key_list rule schema values)

-- whether a bookmark is that of the record in whose place another comes
abbrev pub is_replaced : Option (List ℕ) → List ℕ → Bool
is_replaced None bookmark = false
is_replaced (Some own) bookmark = bytes_eq own bookmark

abbrev pub replaced_record : Rows → Option (List ℕ) → Option RecordFields
replaced_record rows None = None
replaced_record rows (Some own) = row_at rows own

-- whether some other record of the view has the key
abbrev pub is_taken : Schema → Rows → IndexRule → Option (List ℕ) → List ℕ → Bool
is_taken schema rows rule own key = list_any (λ entry. bytes_eq entry.0 key && not (is_replaced own entry.1)) (index_entries schema rows rule.id.0)

abbrev pub null_refusals : Schema → RecordFields → Refusals
null_refusals schema values = flat_map (λ rule. (is_null_refusal (entries rule schema values), jet.NullKeyDisallowed) ∷ (is_cut_refusal (entries rule schema values), jet.KeyTruncated) ∷ []) schema.indexes

abbrev pub key_refusals : DatabaseState → ℕ → ℕ → Schema → Rows → Option (List ℕ) → RecordFields → Refusals
key_refusals state session table schema rows own values =
    flat_map (λ rule.
    (list_any (has_key_conflict state session table schema rule) (new_keys rule schema (replaced_record rows own) values), jet.WriteConflict)
    ∷ (list_any (is_taken schema rows rule own) (key_list rule schema values), jet.KeyDuplicate) ∷ [])
    (filter is_unique schema.indexes)

-- First every index, the primary one first, is asked whether it refuses the record's entries; then every unique index,
-- for each first a conflict of a key that is new to the record, then a key that another record of the view has. A replace
-- names the bookmark of its own record; every record is another one to an insert.
unfoldable pub put_refusals : DatabaseState → ℕ → ℕ → Schema → Rows → Option (List ℕ) → RecordFields → Refusals
put_refusals state session table schema rows own values =
    null_refusals schema values ++ key_refusals state session table schema rows own values
