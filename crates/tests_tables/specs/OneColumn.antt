-- The table of these tests, and which records it takes.
use Rattle.std.specs.Prelude.{◌≡◌, ℕ, ◌≤◌, true, false, not, List, [], ◌∷◌, length, IsSomeAnd}
use Rattle.std.specs.List.{list_all}
use Rattle.column_set.specs.declared.columns.Column.{Column}
use Rattle.column_set.specs.RecordValues.{RecordFields, column_of_id, is_kept_column}
use Rattle.database_state.specs.Table.{Table}
use Rattle.index_derive.specs.declared.rules.IndexRule.{IndexRule}
use Rattle.jet_base.specs.Ids.{column_id}
use Rattle.jet_base.specs.declared.words.ColType.TheVariants.{LongBinary}
use Rattle.stored_variants.specs.PutRecords.{IsStorable}
use Rattle.stored_variants.specs.StoredVersions.{StoredVersions}

-- the column of the table, and the names of both
abbrev pub body : Column
body = record { id = column_id 256; name = 98 ∷ []; kind = LongBinary; tagged = true; multi = false; not_null = false; escrow = false; version = false; auto = false }

abbrev pub name : List ℕ
name = 84 ∷ []

-- no table yet
abbrev pub no_table : StoredVersions
no_table = record { greatest_table = 0; newest_put = 0; store = record { tables = []; held = [] } }

-- a record of one value
abbrev pub one_value : List ℕ → RecordFields
one_value value = (256, value ∷ []) ∷ []

-- The columns and the indexes of a table that has no index, a column of long values, and none that the engine keeps.
pub record IsPlain (columns : List Column) (indexes : List IndexRule) : Type 0 where
  pub long : IsSomeAnd (column_of_id columns 256) (λ column. column.kind ≡ LongBinary)
  pub free : list_all (λ column. not (is_kept_column column)) columns ≡ true
  pub plain : indexes ≡ []

-- A table takes each record of one value, under a bookmark of 8 bytes.
abbrev pub TakesOneValue : Table → Type 0
TakesOneValue table = (bookmark value : List ℕ) → length bookmark ≡ 8 → length value ≤ 1048576 → IsStorable table bookmark (one_value value)
