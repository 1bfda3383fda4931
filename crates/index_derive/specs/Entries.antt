-- The keys that a record has in an index, and an index derived afresh from all records of its table.
use Rattle.std.specs.Prelude.{ℕ, Bool, true, false, cond, not, ◌&&◌, ◌||◌, List, [], ◌∷◌, ◌++◌, map, filter, flat_map, length, take, ◌==◌, nat_le, Option, Some, None, Result, Ok, Err, is_none, count_by, bytes_eq}
use Rattle.std.specs.List.{list_all, list_any}
use Rattle.std.specs.Ordering.{nat_cmp, is_le, ordering_then}
use Rattle.std.specs.Cmp.Lexicographic.{slice_cmp}
use Rattle.std.specs.FinMap.Entries.{by_order}
use Rattle.jet_base.specs.declared.ids.ColumnId.{ColumnId}
use Rattle.jet_base.specs.declared.words.ColType.{ColType}
use Rattle.jet_base.specs.declared.words.ColType.TheVariants.{Binary, Text, LongText}
use Rattle.column_set.specs.RecordValues.{RecordFields, values_of, has_value, column_of_id}
use Rattle.key_normal.specs.KeyBytes.{KeyColumn, key_bytes, cut_key, is_cut}
use Rattle.index_derive.specs.declared.rules.Segment.{Segment}
use Rattle.index_derive.specs.declared.rules.IndexFlags.{IndexFlags}
use Rattle.index_derive.specs.declared.rules.IndexRule.{IndexRule}
use Rattle.index_derive.specs.declared.rules.Schema.{Schema}

-- ---- the columns of a rule

-- whether the schema's column of that number is multi-valued, is a sum
abbrev pub is_multi_column : Schema → ℕ → Bool
is_multi_column schema id = elim (column_of_id schema.columns id) [ Some column ↦ column.multi | None ↦ false ]

abbrev pub is_escrow_column : Schema → ℕ → Bool
is_escrow_column schema id = elim (column_of_id schema.columns id) [ Some column ↦ column.escrow | None ↦ false ]

-- the column's type
abbrev pub type_of_column : Schema → ℕ → ColType
type_of_column schema id = elim (column_of_id schema.columns id) [ Some column ↦ column.kind | None ↦ Binary ]

abbrev pub is_text_type : ColType → Bool
is_text_type Text = true
is_text_type LongText = true
is_text_type _ = false

-- the numbers of the key's columns, and of those that conditions ask of
abbrev pub key_columns : IndexRule → List ℕ
key_columns rule = map (λ segment. segment.column.0) rule.segments

abbrev pub condition_columns : IndexRule → List ℕ
condition_columns rule = map (λ condition. condition.column.0) rule.conditions

-- whether the column stands in a key or a condition of one of the indexes
abbrev pub column_is_used : ColumnId → List IndexRule → Bool
column_is_used column rules = list_any (λ rule. list_any (λ id. id == column.0) (key_columns rule ++ condition_columns rule)) rules

-- whether no two records may have an equal key
abbrev pub is_unique : IndexRule → Bool
is_unique rule = rule.flags.primary || rule.flags.unique

-- ---- which rules are legal

-- whether a number stands twice
abbrev pub has_double_number : List ℕ → Bool
has_double_number [] = false
has_double_number (n ∷ ns) = list_any (λ m. m == n) ns || has_double_number ns

abbrev pub has_ignore_flag : IndexFlags → Bool
has_ignore_flag flags = flags.ignorenull || flags.ignoreanynull || flags.ignorefirstnull

-- a primary index has every record, once, and its keys are bookmarks
abbrev pub is_legal_primary : IndexRule → Schema → Bool
is_legal_primary rule schema =
    not (list_any (is_multi_column schema) (key_columns rule)) && length rule.conditions == 0 && not (has_ignore_flag rule.flags)
    && not rule.flags.tuples && not rule.flags.crossproduct && rule.key_most == 255

-- an index of parts of texts has one ascending column of a text type
abbrev pub is_tuples_key : Schema → List Segment → Bool
is_tuples_key schema (segment ∷ []) = not segment.descending && is_text_type (type_of_column schema segment.column.0)
is_tuples_key schema _ = false

abbrev pub is_legal_tuples : IndexRule → Schema → Bool
is_legal_tuples rule schema = is_tuples_key schema rule.segments && not (rule.flags.primary || rule.flags.unique || rule.flags.crossproduct)

-- 1 to 12 key columns, each once, and up to 12 conditions, none of them on a sum; keys of 255 to 500 bytes at most; at most two multi-valued columns where there is an entry for each combination
unfoldable pub is_legal : IndexRule → Schema → Bool
is_legal rule schema =
    nat_le 1 (length rule.segments) && nat_le (length rule.segments) 12 && not (has_double_number (key_columns rule))
    && nat_le (length rule.conditions) 12 && not (list_any (is_escrow_column schema) (key_columns rule ++ condition_columns rule))
    && nat_le 255 rule.key_most && nat_le rule.key_most 500
    && (not rule.flags.primary || is_legal_primary rule schema)
    && (not rule.flags.crossproduct || nat_le (count_by (is_multi_column schema) (key_columns rule)) 2)
    && (not rule.flags.tuples || is_legal_tuples rule schema)

-- ---- the values that a record brings into an index

-- a value or NULL for each key column
abbrev pub KeyValues : Type 0
KeyValues = List (Option (List ℕ))

-- an index sees the first 255 bytes of each value of a column, and one NULL where there is none
abbrev pub values_or_null : List (List ℕ) → List (Option (List ℕ))
values_or_null [] = None ∷ []
values_or_null (value ∷ values) = map (λ v. Some (take 255 v)) (value ∷ values)

-- the values with which each key column takes part: the first multi-valued one with all of its values, the others with their first. With `crossproduct` each multi-valued one takes part with all. `earlier` tells whether a multi-valued one came before
abbrev pub parts_of_columns : IndexRule → Schema → RecordFields → Bool → List ℕ → List (List (Option (List ℕ)))
parts_of_columns rule schema fields earlier [] = []
parts_of_columns rule schema fields earlier (column ∷ columns) =
    let values = values_or_null (values_of fields column) in
    let is_multi = is_multi_column schema column in
    cond (is_multi && (rule.flags.crossproduct || not earlier)) values (take 1 values) ∷ parts_of_columns rule schema fields (earlier || is_multi) columns

-- all lists with an element of each list
abbrev pub product : {X : Type 0} → List (List X) → List (List X)
product [] = [] ∷ []
product (xs ∷ lists) = let rest = product lists in flat_map (λ x. map (λ ys. x ∷ ys) rest) xs

-- the parts of a text that an index of parts holds: from each start with three bytes or more left, up to ten bytes
abbrev pub parts_of_text : List ℕ → List (List ℕ)
parts_of_text (a ∷ b ∷ c ∷ rest) = take 10 (a ∷ b ∷ c ∷ rest) ∷ parts_of_text (b ∷ c ∷ rest)
parts_of_text _ = []

-- of each value of the one column the parts of its first 1,024 bytes. NULL has none
abbrev pub parts_of_texts : RecordFields → List ℕ → List KeyValues
parts_of_texts fields [] = []
parts_of_texts fields (column ∷ columns) = flat_map (λ value. map (λ part. Some part ∷ []) (parts_of_text (take 1024 value))) (values_of fields column)

-- one for each entry that the flags and the conditions have not left out yet
abbrev pub all_key_values : IndexRule → Schema → RecordFields → List KeyValues
all_key_values rule schema fields = elim rule.flags.tuples [
  | true ↦ parts_of_texts fields (key_columns rule)
  | false ↦ product (parts_of_columns rule schema fields false (key_columns rule))
]

-- ---- which of them have an entry

-- whether the record has a value where a condition asks for one, and none where it asks for NULL
abbrev pub meets_conditions : IndexRule → RecordFields → Bool
meets_conditions rule fields = list_all (λ condition. cond condition.must_be_null (not (has_value fields condition.column.0)) (has_value fields condition.column.0)) rule.conditions

abbrev pub is_first_null : KeyValues → Bool
is_first_null [] = false
is_first_null (value ∷ values) = is_none value

-- whether a flag leaves out an entry of these values
abbrev pub is_ignored : IndexFlags → KeyValues → Bool
is_ignored flags values = flags.ignorenull && list_all is_none values || flags.ignoreanynull && list_any is_none values || flags.ignorefirstnull && is_first_null values

-- ---- keys

-- the columns of the key with their types and directions
abbrev pub columns_of_key : IndexRule → Schema → List KeyColumn
columns_of_key rule schema = map (λ segment. record { kind = type_of_column schema segment.column.0; descending = segment.descending }) rule.segments

-- the bytes of the rule's key for the values, before they are cut
abbrev pub whole_key : IndexRule → Schema → KeyValues → List ℕ
whole_key rule schema values = key_bytes (columns_of_key rule schema) rule.flags.sortnullshigh values

-- a key in its place among rising keys, where it stands once
abbrev pub insert_key : List ℕ → List (List ℕ) → List (List ℕ)
insert_key key [] = key ∷ []
insert_key key (k ∷ ks) = by_order (slice_cmp nat_cmp key k) (key ∷ k ∷ ks) (k ∷ ks) (k ∷ insert_key key ks)

-- the keys in rising order, each once
abbrev pub sorted_keys : List (List ℕ) → List (List ℕ)
sorted_keys [] = []
sorted_keys (key ∷ keys) = insert_key key (sorted_keys keys)

-- why a record is refused by an index
pub data KeyRefusal : Type 0 where
  NullKeyDisallowed : KeyRefusal
  KeyTruncated : KeyRefusal

-- the keys of the values: refused with a NULL where `disallownull` is set, and then with a key that would be cut where `disallowtruncation` is
abbrev pub keys_of : IndexRule → Schema → List KeyValues → Result (List (List ℕ)) KeyRefusal
keys_of rule schema all_values =
    let keys = map (whole_key rule schema) all_values in
    elim (rule.flags.disallownull && list_any (list_any is_none) all_values) [
      | true ↦ Err NullKeyDisallowed
      | false ↦ elim (rule.flags.disallowtruncation && list_any (is_cut rule.key_most) keys) [
        | true ↦ Err KeyTruncated
        | false ↦ Ok (sorted_keys (map (cut_key rule.key_most) keys))
      ]
    ]

-- the keys that a record has in the index, in rising order and each once, or why it is refused
unfoldable pub entries : IndexRule → Schema → RecordFields → Result (List (List ℕ)) KeyRefusal
entries rule schema fields = elim (meets_conditions rule fields) [
  | true ↦ keys_of rule schema (filter (λ values. not (is_ignored rule.flags values)) (all_key_values rule schema fields))
  | false ↦ Ok []
]

abbrev pub keys_or_none : Result (List (List ℕ)) KeyRefusal → List (List ℕ)
keys_or_none (Ok keys) = keys
keys_or_none (Err refusal) = []

-- those keys, none where the record is refused
abbrev pub key_list : IndexRule → Schema → RecordFields → List (List ℕ)
key_list rule schema fields = keys_or_none (entries rule schema fields)

abbrev pub first_or_null : List (List ℕ) → Option (List ℕ)
first_or_null [] = None
first_or_null (value ∷ values) = Some (take 255 value)

-- the one key of a record in an index without multi-valued columns, whatever its flags and conditions
unfoldable pub primary_key : IndexRule → Schema → RecordFields → List ℕ
primary_key rule schema fields = cut_key rule.key_most (whole_key rule schema (map (λ column. first_or_null (values_of fields column)) (key_columns rule)))

-- ---- indexes derived from the records of a table, each under its bookmark

-- by key, and then by bookmark
abbrev pub entry_le : List ℕ × List ℕ → List ℕ × List ℕ → Bool
entry_le x y = is_le (ordering_then (slice_cmp nat_cmp x.0 y.0) (slice_cmp nat_cmp x.1 y.1))

abbrev pub insert_entry : List ℕ × List ℕ → List (List ℕ × List ℕ) → List (List ℕ × List ℕ)
insert_entry entry [] = entry ∷ []
insert_entry entry (e ∷ es) = cond (entry_le entry e) (entry ∷ e ∷ es) (e ∷ insert_entry entry es)

abbrev pub sorted_entries : List (List ℕ × List ℕ) → List (List ℕ × List ℕ)
sorted_entries [] = []
sorted_entries (entry ∷ entries) = insert_entry entry (sorted_entries entries)

-- all pairs of a key of a record and the record's bookmark, sorted
unfoldable pub derive : IndexRule → Schema → List (List ℕ × RecordFields) → List (List ℕ × List ℕ)
derive rule schema records = sorted_entries (flat_map (λ place. map (λ key. (key, place.0)) (key_list rule schema place.1)) records)

-- the order of the records themselves: each bookmark with itself
abbrev pub own_order : {X : Type 0} → List (List ℕ × X) → List (List ℕ × List ℕ)
own_order records = map (λ place. (place.0, place.0)) records

-- whether a byte string stands twice
abbrev pub has_double : List (List ℕ) → Bool
has_double [] = false
has_double (key ∷ keys) = list_any (bytes_eq key) keys || has_double keys

-- whether two records share a key
unfoldable pub has_double_key : IndexRule → Schema → List (List ℕ × RecordFields) → Bool
has_double_key rule schema records = has_double (flat_map (λ place. key_list rule schema place.1) records)

-- opens all of them
unfoldable pub opening : Unit {0}
unfolding is_legal entries primary_key derive has_double_key
opening = tt
