-- Laws of records that are well formed: a new one, with its sums at 0, and one in which a column is set.
use Rattle.std.proofs.Common.{◌≡◌, ℕ, true, false, not, ◌&&◌, List, [], length, map, filter, Some, None, refl, nat_le, nat_lt, if◌then◌else◌, arith}
use Rattle.std.specs.List.{list_all}
use Rattle.std.proofs.lemmas.Bool.Decides.{nat_tests}
use Rattle.std.proofs.lemmas.Bool.{and_from, and_parts, le-leb, leb-true}
use Rattle.jet_base.specs.declared.words.Given.{Given}
use Rattle.jet_base.specs.ColumnType.{largest_value}
use Rattle.jet_base.specs.Given.{given_fits, given_length, given_is_null, given_bytes}
use Rattle.column_set.specs.declared.columns.Column.{Column}
use Rattle.column_set.specs.RecordValues.{RecordFields, values_of, column_of_id, value_fits, values_fit, record_size, stands_in}
use Rattle.record_edit.specs.SetColumn.{stored_value, values_after, fields_after}
use Rattle.index_derive.specs.declared.rules.Schema.{Schema}
use Rattle.session_local.specs.RecordCalls.{with_sums_at_zero}
use Rattle.session_local.specs.SessionSide.{are_distinct}
use Rattle.session_local.specs.WellFormed.{number_of_column, is_sum, is_long_if_sum, has_short_keys, is_well_formed_schema, is_well_formed_record}
use Rattle.session_local.specs.FoundLaws.{values_of-fit}
use Rattle.session_local.specs.FittingLaws.{fits_if, value_fits-given_bytes, values_after-fit}
use Rattle.session_local.specs.RecordLaws.{stands-in, all_with_values, sums_at_zero-stand, sums_at_zero-small}

-- ---- the parts of a schema

pub record SchemaParts (schema : Schema) : Type 0 where
  pub distinct : are_distinct (map number_of_column schema.columns) ≡ true
  pub long : list_all is_long_if_sum schema.columns ≡ true
  pub few : nat_le (length (filter is_sum schema.columns)) 127 ≡ true
  pub short : list_all has_short_keys schema.indexes ≡ true

pub schema_parts : (schema : Schema) → is_well_formed_schema schema ≡ true → SchemaParts schema
schema_parts schema h =
    let last = and_parts (are_distinct (map number_of_column schema.columns) && list_all is_long_if_sum schema.columns && nat_le (length (filter is_sum schema.columns)) 127) (list_all has_short_keys schema.indexes) h in
    let more = and_parts (are_distinct (map number_of_column schema.columns) && list_all is_long_if_sum schema.columns) (nat_le (length (filter is_sum schema.columns)) 127) last.0 in
    let first = and_parts (are_distinct (map number_of_column schema.columns)) (list_all is_long_if_sum schema.columns) more.0 in
    record { distinct = first.0; long = first.1; few = more.1; short = last.1 }

-- ---- a new record

pub new_is_well_formed : (schema : Schema) → is_well_formed_schema schema ≡ true → is_well_formed_record schema.columns (with_sums_at_zero schema.columns []) ≡ true
new_is_well_formed schema h =
    let s = schema_parts schema h in
    let stand = sums_at_zero-stand schema.columns s.distinct s.long in
    let small = sums_at_zero-small schema.columns (leb-true (length (filter is_sum schema.columns)) 127 s.few) in
    and_from (list_all (stands_in schema.columns) (with_sums_at_zero schema.columns [])) (nat_le (record_size (with_sums_at_zero schema.columns [])) 1700)
    stand (le-leb (record_size (with_sums_at_zero schema.columns [])) 1700 small)

-- ---- a value that is set

-- what a value that is not refused is like
pub record IsSettable (column : Column) (sequence : ℕ) (value : Given) (fields : RecordFields) : Type 0 where
  pub fits : given_fits column.kind value ≡ true
  pub small : nat_lt (largest_value column.kind) (given_length value) ≡ false
  pub size : nat_lt 1700 (record_size (fields_after column sequence value fields)) ≡ false

stored_fits : (column : Column) (value : Given) → given_fits column.kind value ≡ true → nat_lt (largest_value column.kind) (given_length value) ≡ false → fits_if (value_fits column.kind) (stored_value column value) ≡ true
stored_fits column value fits small =
    elim (given_is_null value) as (λ b. given_is_null value ≡ b → fits_if (value_fits column.kind) (if b then None else Some (given_bytes column.kind value)) ≡ true) [
      | true ↦ λ e. refl
      | false ↦ λ e. value_fits-given_bytes column.kind value fits small e
    ] refl

not_beyond : (m n : ℕ) → nat_lt n m ≡ false → nat_le m n ≡ true
not_beyond m n h = grind (arith, nat_tests)

pub set_is_well_formed : (columns : List Column) (column : Column) (sequence : ℕ) (value : Given) (fields : RecordFields) → column_of_id columns column.id.0 ≡ Some column → list_all (stands_in columns) fields ≡ true → IsSettable column sequence value fields → is_well_formed_record columns (fields_after column sequence value fields) ≡ true
set_is_well_formed columns column sequence value fields found all s =
    let old = values_of fields column.id.0 in
    let new = values_after column.multi sequence (stored_value column value) old in
    let fit : values_fit column new ≡ true =
    values_after-fit (value_fits column.kind) column.multi sequence (stored_value column value) old (values_of-fit columns fields column.id.0 column all found) (stored_fits column value s.fits s.small) in
    and_from (list_all (stands_in columns) (fields_after column sequence value fields)) (nat_le (record_size (fields_after column sequence value fields)) 1700)
    (all_with_values columns fields column.id.0 new all (stands-in columns column.id.0 column new found fit))
    (not_beyond (record_size (fields_after column sequence value fields)) 1700 s.size)
