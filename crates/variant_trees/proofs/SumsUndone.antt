-- A sum that is undone.
use Rattle.std.proofs.Common.{◌≡◌, ℕ, zero, suc, ◌+◌, ◌-◌, ◌%◌, ◌^◌, ◌<◌, true, List, Option, Some, None, map, refl, sym, ap, subst, ◌∙◌, arith}
use Rattle.std.specs.Prelude.{ℤ, pos, negsuc, neg_ℤ, FitsSigned, IfSome, IsSomeAnd, is_some}
use Rattle.std.specs.Int.{w32, cast_unsigned}
use Rattle.common_lemmas.proofs.Booleans.{impossible}
use Rattle.column_set.specs.declared.changes.Change.TheVariants.{Add}
use Rattle.database_state.specs.Changes.{rows_with_sum, tables_after}
use Rattle.database_state.specs.Table.{Table, row_at, schema_of, table_with_id, with_table}
use Rattle.index_derive.specs.Entries.{is_escrow_column}
use Rattle.jet_base.specs.declared.ids.ColumnId.{ColumnId}
use Rattle.jet_base.specs.declared.ids.TableId.{TableId}
use Rattle.table_trees.specs.StoredTables.{table_long_values, StoredTable, table_nodes}
use Rattle.version_store.specs.declared.calls.ChangeKind.{ChangeKind}
use Rattle.version_store.specs.declared.calls.ChangeKind.TheVariants as kind
use Rattle.version_store.specs.HeldChanges.{HeldChange}
use Rattle.laws_engine.specs.HeldRecords.{inverse}
use Rattle.stored_variants.specs.RecordRows.{IsRecordRow, held_record_in, row_under}
use Rattle.variant_trees.specs.UndoneChanges.{IsBack, WasOpen}
use Rattle.stored_variants.specs.CountedValues.{AreCounted}
use Rattle.stored_variants.specs.VersionsKept.{AddsToEscrow, AreKept, IsKeptChange}
use Rattle.stored_variants.specs.VersionsView.{with_newest}
use Rattle.long_value.specs.Values.{value_of}
use Rattle.variant_trees.specs.GoneKeys.{KeepsValues}
use Rattle.variant_trees.proofs.OpenUndone.{all_place}
use Rattle.stored_variants.proofs.Tables.{newest_is_row}

and_of : (P : Table → Type 0) (o : Option Table) → is_some o ≡ true → IfSome o P → IsSomeAnd o P
and_of P None e h = impossible e
and_of P (Some x) e h = h

whole : (n : ℕ) → n ≡ 0 → n ≡ (0 + (4294967296 - 0)) % 4294967296
whole n e = omega (arith, e)

above : (k : ℕ) → suc k < 2147483648 → 4294967296 - suc k ≡ (0 + (4294967296 - suc k)) % 4294967296
above k h = omega (arith, h)

below : (k : ℕ) → k < 2147483648 → suc k ≡ (0 + (4294967296 - (4294967296 - suc k))) % 4294967296
below k h = omega (arith, h)

-- the opposite amount as a number of 32 bits
pub opposite_is : (amount : ℤ) → FitsSigned w32 amount → cast_unsigned w32 (neg_ℤ amount) ≡ (0 + (2 ^ 32 - cast_unsigned w32 amount)) % 2 ^ 32
opposite_is (pos zero) f = whole 0 refl
opposite_is (pos (suc k)) f = above k f.sfits
opposite_is (negsuc k) f = below k f.sfits

-- the escrow column of a sum that is held
pub sum_column : (tables : List Table) (trees : List StoredTable) (now : List HeldChange) (place table : ℕ) (held : List HeldChange) (h : HeldChange) → WasOpen tables trees now place table held h → (column : ColumnId) (amount : ℤ) → h.kind ≡ kind.Add column amount
    → IsSomeAnd (table_with_id tables table) (λ t. is_escrow_column (schema_of t) column.0 ≡ true)
sum_column tables trees now place table held h was column amount is =
    let kept : IsKeptChange (table_long_values trees) tables trees h = all_place (IsKeptChange (table_long_values trees) tables trees) held place h was.kept.changes was.at in
    and_of (λ t. is_escrow_column (schema_of t) column.0 ≡ true) (table_with_id tables table) (ap (λ n. is_some (table_with_id tables n)) (sym was.named) ∙ kept.named)
    (subst (λ (k : ChangeKind). IfSome (table_with_id tables table) (λ t. AddsToEscrow (schema_of t) k)) is
    (subst (λ (n : ℕ). IfSome (table_with_id tables n) (λ t. AddsToEscrow (schema_of t) h.kind)) was.named kept.sum))

pub sum_back : (tables : List Table) (trees other : List StoredTable) (now : List HeldChange) (place : ℕ) (table : TableId) (held : List HeldChange) (h : HeldChange) → WasOpen tables trees now place table.0 held h → (column : ColumnId) (amount : ℤ) → h.kind ≡ kind.Add column amount
    → (bookmark : List ℕ) → h.bookmark ≡ bookmark → AreKept tables other now → AreCounted other now → KeepsValues trees other → map (with_newest other) tables ≡ tables_after (map (with_newest trees) tables) (Add table bookmark column (neg_ℤ amount)) → IsBack tables trees other now h
sum_back tables trees other now place table held h was column amount is bookmark at kept counts same shown = record {
  kept = kept;
  counts = counts;
  held = λ i. map (held_record_in (λ n. same n i)) now;
  values = λ n id none. ap (value_of id) (same n) ∙ none;
  shown =
      shown
      ∙ (λ i. with_table (sym was.named i) (λ t. record t { rows = rows_with_sum t.rows (sym at i) (row_at t.rows (sym at i)) column.0 (neg_ℤ amount) }) (map (with_newest trees) tables))
      ∙ sym (ap (λ (k : ChangeKind). tables_after (map (with_newest trees) tables) (inverse (record (held_record_in (table_long_values trees) h) { kind = k }))) is);
}

pub newest_now : (tables : List Table) (trees : List StoredTable) (now : List HeldChange) (place table : ℕ) (held : List HeldChange) (h : HeldChange) → WasOpen tables trees now place table held h → (bookmark : List ℕ) → IfSome (row_under (table_nodes trees table) bookmark) (IsRecordRow (table_long_values trees table))
newest_now tables trees now place table held h was bookmark = newest_is_row (table_long_values trees) tables trees held was.kept table bookmark
