-- The long values that a put takes, and those that it gives back where it fails.
use Rattle.std.proofs.Common.{◌≡◌, ℕ, ◌+◌, ◌<◌, ◌≤◌, Bool, true, false, List, Option, Some, map, refl, sym, ap, subst, ◌∙◌, arith}
use Rattle.std.specs.Prelude.{◌==◌, IfSome, IsSome, IsSomeAnd}
use Rattle.std.proofs.lemmas.Bool.{eqb-true}
use Rattle.btree_inplace.specs.Order.{extent_in}
use Rattle.column_set.specs.Rows.{RowFields}
use Rattle.table_trees.specs.ValuesChanged.{HasLongValues}
use Rattle.long_rows.specs.ReferenceCounts.{count_of, with_all_released, with_all_taken}
use Rattle.long_rows.specs.RowReferences.{identifiers, references, times_among}
use Rattle.long_rows.proofs.Taken.{ValueLaws, taken_all}
use Rattle.long_rows.proofs.InUse.{is_there}
use Rattle.long_value.specs.Values.{AreLong, Values, value_of}
use Rattle.page_image.specs.Page.{Node}
use Rattle.stored_variants.specs.PutRecords.{Keys}
use Rattle.stored_variants.specs.RecordRows.{IsRecordRow, TableValues, row_under}
use Rattle.table_trees.specs.StoredTables.{StoredTable, table_long_values, table_nodes}
use Rattle.version_store.specs.HeldChanges.{HeldChange}
use Rattle.variant_trees.specs.GoneKeys.{AreRows, KeepsValues}
use Rattle.variant_trees.specs.PutStages.{IsHalfPut}
use Rattle.variant_trees.proofs.EntryTrees.{other_number}
use Rattle.variant_trees.proofs.HalfPuts.{row_stays}

-- ---- values that are taken

more : (n m : ℕ) → 0 < m → 0 < n + m
more n m h = omega arith

-- what a row names is there once its values are taken
pub taken_is_there : ValueLaws → (given : List (List ℕ × List ℕ)) (values : Values) (row : RowFields) → map (λ one. one.0) given ≡ identifiers (Some row) → (id : List ℕ) → 0 < references id (Some row) → IsSome (value_of id (with_all_taken given values))
taken_is_there laws given values row names id some =
    is_there (value_of id (with_all_taken given values))
    (subst (λ (n : ℕ). 0 < n) (sym (taken_all laws id given values ∙ ap (λ (ids : List (List ℕ)). count_of id values + times_among id ids) names)) (more (count_of id values) (references id (Some row)) some))

abbrev pub GivenBackLaw : Type 0
GivenBackLaw = (values : Values) (given : List (List ℕ × List ℕ)) (row : Option RowFields) → AreLong values → map (λ one. one.0) given ≡ identifiers row → with_all_released (identifiers row) (with_all_taken given values) ≡ values

-- the values are as they were once all are given back
pub all_given_back : GivenBackLaw → (table : ℕ) (given : List (List ℕ × List ℕ)) (row : RowFields) (old mid new : List StoredTable) → AreLong (table_long_values old table) → map (λ one. one.0) given ≡ identifiers (Some row)
    → HasLongValues table (with_all_taken given (table_long_values old table)) old mid → HasLongValues table (with_all_released (identifiers (Some row)) (table_long_values mid table)) mid new → HasLongValues table (table_long_values old table) old new
all_given_back law table given row old mid new long names taken back = record {
  named = back.named ∙ ap (with_all_released (identifiers (Some row))) taken.named ∙ law (table_long_values old table) given (Some row) long names;
  others = λ other apart. back.others other apart ∙ taken.others other apart;
  nodes = λ other. back.nodes other ∙ taken.nodes other;
  indexes = λ other. back.indexes other ∙ taken.indexes other;
  numbers = back.numbers ∙ taken.numbers;
}

-- each table has the values that it had
pub values_same : (table : ℕ) (mid new : List StoredTable) → HasLongValues table (table_long_values mid table) mid new → KeepsValues mid new
values_same table mid new long = λ other. by other (table == other) refl
  where
    by : (other : ℕ) (b : Bool) → (table == other) ≡ b → table_long_values new other ≡ table_long_values mid other
    by other true e = subst (λ (n : ℕ). table_long_values new n ≡ table_long_values mid n) (eqb-true table other e) long.named
    by other false e = long.others other (λ is. other_number table other e (sym is))

-- ---- what stays with the values

pub rows_stay : (old new : List StoredTable) → KeepsValues old new → (held : List HeldChange) → AreRows (table_long_values old) held → AreRows (table_long_values new) held
rows_stay old new same held rows = subst (λ (longs : TableValues). AreRows longs held) (λ i n. sym (same n) i) rows

-- the newest row still stands for a record
pub newest_stays : (table : ℕ) (bookmark : List ℕ) (keys : Keys) (old new : List StoredTable) → IsHalfPut table bookmark keys old new → KeepsValues old new → IfSome (row_under (table_nodes old table) bookmark) (IsRecordRow (table_long_values old table))
    → IfSome (row_under (table_nodes new table) bookmark) (IsRecordRow (table_long_values new table))
newest_stays table bookmark keys old new half same newest =
    subst (λ (o : Option (List ℕ)). IfSome o (IsRecordRow (table_long_values new table))) (sym (row_stays table bookmark keys old new half))
    (subst (λ (v : Values). IfSome (row_under (table_nodes old table) bookmark) (IsRecordRow v)) (sym (same table)) newest)

-- ---- what stays with the nodes

pub room_moved : (table : ℕ) (bookmark : List ℕ) (size : ℕ) (values : Values) (mid new : List StoredTable) → HasLongValues table values mid new → IsSomeAnd (extent_in (table_nodes mid table) bookmark) (λ extent. size ≤ extent) → IsSomeAnd (extent_in (table_nodes new table) bookmark) (λ extent. size ≤ extent)
room_moved table bookmark size values mid new long room = subst (λ (nodes : List Node). IsSomeAnd (extent_in nodes bookmark) (λ extent. size ≤ extent)) (sym (long.nodes table)) room
