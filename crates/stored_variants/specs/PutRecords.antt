-- Records that are put: their keys, and what is asked of one.
use Rattle.std.specs.Prelude.{◌≡◌, ℕ, ◌≤◌, ◌&&◌, Bool, true, not, List, Option, Some, None, IsOk, ◌<◌, ◌^◌, ◌==◌, [], IsTrue, length, nat_lt}
use Rattle.std.specs.List.{list_all, list_any}
use Rattle.column_set.specs.RecordValues.{RecordFields, record_fits, record_size}
use Rattle.database_state.specs.Conflicts.{yields_key}
use Rattle.database_state.specs.Table.{Table, schema_of}
use Rattle.index_derive.specs.Schemas.{rule_with_id}
use Rattle.index_derive.specs.declared.rules.IndexRule.{IndexRule}
use Rattle.index_derive.specs.declared.rules.Schema.{Schema}
use Rattle.index_derive.specs.Entries.{entries, is_legal}
use Rattle.column_set.specs.declared.changes.Change.{Change}
use Rattle.column_set.specs.declared.changes.Change.TheVariants.{Put, Drop, Hold, Add}
use Rattle.column_set.specs.Record.{is_record}
use Rattle.column_set.specs.Rows.{largest_row}
use Rattle.database_state.specs.Lawful.{is_indexable}
use Rattle.long_rows.specs.KeptRows.{are_values}
use Rattle.stored_variants.specs.VersionsKept.{HoldsNumbers, IsBookmarkOf}

-- ---- keys

-- keys by the number of their index
abbrev pub Keys : Type 0
Keys = ℕ → List ℕ → Bool

-- those of a record in an index, and in several indexes that have trees
abbrev pub rule_keys : Schema → RecordFields → IndexRule → Keys
rule_keys schema values rule other own = (rule.id.0 == other) && yields_key rule schema own (Some values)

abbrev pub record_keys : List IndexRule → Schema → RecordFields → Keys
record_keys rules schema values other own = list_any (λ rule. not rule.flags.primary && rule_keys schema values rule other own) rules

-- An index of a schema is found by its number, and has keys of the record.
pub record HasKeysOf (schema : Schema) (values : RecordFields) (rule : IndexRule) : Type 0 where
  pub found : rule_with_id schema rule.id.0 ≡ Some rule
  pub legal : is_legal rule schema ≡ true
  pub short : rule.key_most ≤ 255
  pub taken : IsOk (entries rule schema values)

-- ---- what can be put

-- the record of a put
abbrev pub put_values : Change → RecordFields
put_values (Put table bookmark copied values) = values
put_values (Drop table bookmark) = []
put_values (Hold table bookmark) = []
put_values (Add table bookmark column amount) = []

-- the bookmark of the record that a put is a copy of, where it is one
abbrev pub copied_bookmark : Change → Option (List ℕ)
copied_bookmark (Put table bookmark copied values) = copied
copied_bookmark (Drop table bookmark) = None
copied_bookmark (Hold table bookmark) = None
copied_bookmark (Add table bookmark column amount) = None

-- A record that fits the columns of a table, and holds numbers in the escrow columns, which no index of it refuses, under a
-- bookmark of its own. Each of its values has at most 1,048,576 bytes, and its row stands in a page.
pub record IsStorable (table : Table) (bookmark : List ℕ) (values : RecordFields) : Type 0 where
  pub columns : record_fits table.columns values ≡ true
  pub numbers : HoldsNumbers (schema_of table) values
  pub indexable : is_indexable (schema_of table) values ≡ true
  pub own : IsBookmarkOf table values bookmark
  pub some : 0 < length bookmark
  pub short : length bookmark ≤ 255
  pub formed : IsTrue (is_record values)
  pub numbered : IsTrue (list_all (λ field. nat_lt field.0 (2 ^ 16)) values)
  pub lengths : IsTrue (list_all (λ field. are_values field.1) values)
  pub small : record_size values ≤ largest_row
