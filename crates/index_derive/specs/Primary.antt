-- The one entry of a record in a primary index.
use Rattle.std.specs.Prelude.{ℕ, true, false, not, ◌&&◌, List, [], ◌∷◌, map, Result, Ok, Err}
use Rattle.std.specs.List.{list_any}
use Rattle.column_set.specs.RecordValues.{RecordFields, values_of, has_value}
use Rattle.key_normal.specs.KeyBytes.{is_cut}
use Rattle.index_derive.specs.declared.rules.IndexRule.{IndexRule}
use Rattle.index_derive.specs.declared.rules.Schema.{Schema}
use Rattle.index_derive.specs.Entries.{KeyValues, KeyRefusal, NullKeyDisallowed, KeyTruncated, key_columns, whole_key, first_or_null, primary_key}

-- the first value or NULL of each key column
abbrev pub first_values : IndexRule → RecordFields → KeyValues
first_values rule fields = map (λ column. first_or_null (values_of fields column)) (key_columns rule)

-- the primary key alone, refused where `disallownull` is set and a key column has no value, and then where `disallowtruncation` is and the key would be cut
abbrev pub primary_entries : IndexRule → Schema → RecordFields → Result (List (List ℕ)) KeyRefusal
primary_entries rule schema fields = elim (rule.flags.disallownull && list_any (λ column. not (has_value fields column)) (key_columns rule)) [
  | true ↦ Err NullKeyDisallowed
  | false ↦ elim (rule.flags.disallowtruncation && is_cut rule.key_most (whole_key rule schema (first_values rule fields))) [
    | true ↦ Err KeyTruncated
    | false ↦ Ok (primary_key rule schema fields ∷ [])
  ]
]
