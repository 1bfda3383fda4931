-- The row that a put makes of a record.
use Rattle.std.proofs.Common.{◌≡◌, ℕ, List, Option, Some, None, map, sym, ap, subst, ◌∙◌}
use Rattle.std.specs.Prelude.{IfSome, IsTrue}
use Rattle.std.specs.List.{AllByRecursion}
use Rattle.column_set.specs.RecordValues.{RecordFields}
use Rattle.column_set.specs.RowReading.{row_in}
use Rattle.column_set.specs.Rows.{IsRowBytes, RowFields, is_row, is_row_of, row_bytes}
use Rattle.long_rows.specs.RowReferences.{identifiers}
use Rattle.long_rows.specs.KeptRows.{Found, MayKeep, MayTake, given_values, kept_row}
use Rattle.long_value.specs.Values.{Values}
use Rattle.stored_variants.specs.RecordRows.{IsRecordRow}
use Rattle.variant_trees.proofs.UndoneThere.{spelled_row}

pub row_bytes_of : (values : Values) (o : Option (List ℕ)) → IfSome o (IsRecordRow values) → IfSome o IsRowBytes
row_bytes_of values None is = tt
row_bytes_of values (Some row) is = spelled_row values row is

-- What the laws say of the row that a put makes.
pub record KeepLaws : Type 0 where
  pub read : (row : RowFields) → IsTrue (is_row row) → row_in (row_bytes row) ≡ row
  pub form : (found : Found) (fields : RecordFields) → IsTrue (is_row_of (kept_row found fields) fields)
  pub row : (found : Found) (fields : RecordFields) → MayKeep found fields → IsTrue (is_row (kept_row found fields))
  pub names : (found : Found) (fields : RecordFields) → map (λ one. one.0) (given_values (kept_row found fields) fields) ≡ identifiers (Some (kept_row found fields))
  pub take : (found : Found) (fields : RecordFields) → MayKeep found fields → AllByRecursion (MayTake found.values) (given_values (kept_row found fields) fields)

-- What is known of its bytes.
pub record IsKeptRow (found : Found) (fields : RecordFields) (row : List ℕ) : Type 0 where
  pub bytes : IsRowBytes row
  pub read : row_in row ≡ kept_row found fields
  pub form : IsTrue (is_row_of (row_in row) fields)
  pub may : AllByRecursion (MayTake found.values) (given_values (row_in row) fields)
  pub names : map (λ one. one.0) (given_values (row_in row) fields) ≡ identifiers (Some (row_in row))

pub is_kept_row : KeepLaws → (found : Found) (fields : RecordFields) (row : List ℕ) → MayKeep found fields → row ≡ row_bytes (kept_row found fields) → IsKeptRow found fields row
is_kept_row laws found fields row may is = record {
  bytes = (kept_row found fields, laws.row found fields may, is);
  read = read;
  form = subst (λ (r : RowFields). IsTrue (is_row_of r fields)) (sym read) (laws.form found fields);
  may = subst (λ (r : RowFields). AllByRecursion (MayTake found.values) (given_values r fields)) (sym read) (laws.take found fields may);
  names = subst (λ (r : RowFields). map (λ one. one.0) (given_values r fields) ≡ identifiers (Some r)) (sym read) (laws.names found fields);
}
  where
    read : row_in row ≡ kept_row found fields
    read = ap row_in is ∙ laws.read (kept_row found fields) (laws.row found fields may)
