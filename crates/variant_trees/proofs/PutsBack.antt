-- The steps of an undo: the row before the change comes back, and what is left of the newest one goes.
use Rattle.std.proofs.Common.{◌≡◌, ℕ, ◌≤◌, Bool, true, false, ◌&&◌, cond, List, [], length, map, Option, Some, None, option_map, refl, sym, ap, subst, ◌∙◌}
use Rattle.std.specs.Prelude.{◌==◌, IfSome, IsSomeAnd, bytes_eq, is_some, slice_get, unwrap_or}
use Rattle.std.specs.List.{AllByRecursion}
use Rattle.std.proofs.lemmas.Bool.{eqb-true}
use Rattle.common_lemmas.proofs.Numbers.{equal_bytes, same_bytes, self_equal}
use Rattle.common_lemmas.proofs.Booleans.{impossible}
use Rattle.btree_inplace.specs.Order.{extent_in, get_in}
use Rattle.database_state.specs.State.{undone}
use Rattle.database_state.specs.Table.{Table, row_at}
use Rattle.index_derive.specs.declared.rules.Schema.{Schema}
use Rattle.table_trees.specs.StoredTables.{table_long_values, StoredTable, table_nodes}
use Rattle.version_store.specs.HeldChanges.{HeldChange, undone_at, with_status}
use Rattle.column_set.specs.RowReading.{row_in}
use Rattle.long_rows.specs.ReferenceCounts.{with_row}
use Rattle.stored_variants.specs.CountedValues.{newest_rows}
use Rattle.stored_variants.proofs.CountedRows.{newest_with, same_newest}
use Rattle.stored_variants.specs.PutRecords.{HasKeysOf}
use Rattle.variant_trees.specs.LeftVariants.{AreLeft}
use Rattle.stored_variants.specs.RecordRows.{IsRecordRow, record_of, row_in_node, row_under, rows_of_nodes}
use Rattle.variant_trees.specs.UndoneChanges.{CanPutBack, IsUndone, rows_put_back, tables_put_back}
use Rattle.stored_variants.specs.VersionsView.{with_newest_by}
use Rattle.stored_variants.specs.VersionsKept.{AreKeptWith, IsKeptChange}
use Rattle.stored_variants.proofs.Dropped.{TreeLaws}
use Rattle.stored_variants.proofs.NodeRecords.{no_byte, record_at}
use Rattle.variant_trees.proofs.OpenUndone.{all_place}
use Rattle.variant_trees.proofs.PutBack.{kept_back, kept_unchanged, tables_back, tables_unchanged}
use Rattle.variant_trees.proofs.Refilled.{Fills, Undoes, change_back, filled, row_filled}
use Rattle.variant_trees.proofs.UndoneThere.{node_of_extent, room_for, row_in_bytes, same_at, undone_there}
use Rattle.stored_variants.proofs.SameRecords.{AreInOrder}

-- What is known once the change's bookmark and the bytes of the row before it are read.
pub record Reads (schema : Schema) (table : ℕ) (trees : List StoredTable) (now : List HeldChange) (place : ℕ) (bookmark row : List ℕ) : Type 0 where
  pub change : HeldChange
  pub can : CanPutBack schema table trees now place change
  pub is_bookmark : change.bookmark ≡ bookmark
  pub is_row : unwrap_or change.before [] ≡ row

-- ---- the node

pub room_read : (schema : Schema) (table : ℕ) (trees : List StoredTable) (now : List HeldChange) (place : ℕ) (bookmark row : List ℕ) → Reads schema table trees now place bookmark row → is_some (get_in (table_nodes trees table) bookmark) ≡ true
    → IsSomeAnd (extent_in (table_nodes trees table) bookmark) (λ extent. length row ≤ extent)
room_read schema table trees now place bookmark row reads node =
    subst (λ (r : List ℕ). IsSomeAnd (extent_in (table_nodes trees table) bookmark) (λ extent. length r ≤ extent)) reads.is_row
    (subst (λ (b : List ℕ). IsSomeAnd (extent_in (table_nodes trees table) b) (λ extent. length (unwrap_or reads.change.before []) ≤ extent)) reads.is_bookmark
    (room_for (table_nodes trees table) reads.change.bookmark reads.change.before reads.can.room (subst (λ (b : List ℕ). is_some (get_in (table_nodes trees table) b) ≡ true) (sym reads.is_bookmark) node)))

-- bytes that come back have a node
pub node_of_bytes : (schema : Schema) (table : ℕ) (trees : List StoredTable) (now : List HeldChange) (place : ℕ) (bookmark row : List ℕ) → Reads schema table trees now place bookmark row → (length row == 0) ≡ false → is_some (get_in (table_nodes trees table) bookmark) ≡ true
node_of_bytes schema table trees now place bookmark row reads some =
    subst (λ (b : List ℕ). is_some (get_in (table_nodes trees table) b) ≡ true) reads.is_bookmark
    (by reads.change.before reads.can.room (ap (λ (r : List ℕ). length r == 0) reads.is_row ∙ some))
  where
    by : (o : Option (List ℕ)) → IfSome o (λ r. IsSomeAnd (extent_in (table_nodes trees table) reads.change.bookmark) (λ extent. length r ≤ extent)) → (length (unwrap_or o []) == 0) ≡ false → is_some (get_in (table_nodes trees table) reads.change.bookmark) ≡ true
    by None room e = impossible (sym e)
    by (Some r) room e = node_of_extent (λ extent. length r ≤ extent) (table_nodes trees table) reads.change.bookmark room

-- ---- the row

row_is : (schema : Schema) (table : ℕ) (trees : List StoredTable) (now : List HeldChange) (place : ℕ) (bookmark row : List ℕ) (reads : Reads schema table trees now place bookmark row) → row_in_node row ≡ reads.change.before
row_is schema table trees now place bookmark row reads = ap row_in_node (sym reads.is_row) ∙ row_in_bytes (table_long_values trees table) reads.change.before reads.can.row

-- the newest row is spelled, and the indexes have its keys
pub newest_read : (schema : Schema) (table : ℕ) (trees : List StoredTable) (now : List HeldChange) (place : ℕ) (bookmark row : List ℕ) → Reads schema table trees now place bookmark row → (gone : List ℕ) → row_under (table_nodes trees table) bookmark ≡ Some gone
    → IsRecordRow (table_long_values trees table) gone × AllByRecursion (HasKeysOf schema (record_of (table_long_values trees table) gone)) schema.indexes × (length bookmark ≤ 255)
newest_read schema table trees now place bookmark row reads gone is =
    subst (λ (o : Option (List ℕ)). IfSome o (λ r. IsRecordRow (table_long_values trees table) r × AllByRecursion (HasKeysOf schema (record_of (table_long_values trees table) r)) schema.indexes × (length bookmark ≤ 255))) is
    (subst (λ (b : List ℕ). IfSome (row_under (table_nodes trees table) b) (λ r. IsRecordRow (table_long_values trees table) r × AllByRecursion (HasKeysOf schema (record_of (table_long_values trees table) r)) schema.indexes × (length b ≤ 255))) reads.is_bookmark reads.can.newest)

-- the row that is back is spelled
pub back_spelled : (laws : TreeLaws) (schema : Schema) (table : ℕ) (trees : List StoredTable) (now : List HeldChange) (place : ℕ) (bookmark row : List ℕ) → Reads schema table trees now place bookmark row → Fills laws trees table bookmark row
    → IfSome (row_under (table_nodes (filled trees table bookmark row) table) bookmark) (IsRecordRow (table_long_values trees table))
back_spelled laws schema table trees now place bookmark row reads known =
    subst (λ (o : Option (List ℕ)). IfSome o (IsRecordRow (table_long_values trees table))) (sym (row_filled laws trees table bookmark row known.table known.node table bookmark ∙ by (table == table) (bytes_eq bookmark bookmark) (self_equal table) (equal_bytes bookmark bookmark refl) ∙ row_is schema table trees now place bookmark row reads)) reads.can.row
  where
    by : (a b : Bool) → a ≡ true → b ≡ true → cond (a && b) (row_in_node row) (row_under (table_nodes trees table) bookmark) ≡ row_in_node row
    by true true e f = refl
    by true false e f = impossible f
    by false b e f = impossible e

-- ---- what is kept

-- the change was open
was_open : (schema : Schema) (table : ℕ) (trees : List StoredTable) (now : List HeldChange) (place : ℕ) (bookmark row : List ℕ) (reads : Reads schema table trees now place bookmark row) (held : List HeldChange) (h : HeldChange) → IsUndone held place h now → reads.change ≡ with_status undone h
was_open schema table trees now place bookmark row reads held h was =
    same_at now place reads.change (with_status undone h) reads.can.at (ap (λ (changes : List HeldChange). slice_get changes place) was.after ∙ undone_there held place h was.at)

undoes : (schema : Schema) (table : ℕ) (trees : List StoredTable) (now : List HeldChange) (place : ℕ) (bookmark row : List ℕ) → Reads schema table trees now place bookmark row → (held : List HeldChange) (h : HeldChange) → IsUndone held place h now → Undoes held place h row
undoes schema table trees now place bookmark row reads held h was = record {
  at = was.at;
  rewrites = was.rewrites;
  is_uncommitted = was.is_uncommitted;
  before = row_is schema table trees now place bookmark row reads ∙ ap (λ (x : HeldChange). x.before) (was_open schema table trees now place bookmark row reads held h was);
}

-- the record is where the change says
abbrev pub IsAt : ℕ → List ℕ → HeldChange → Type 0
IsAt table bookmark h = (h.table ≡ table) × (h.bookmark ≡ bookmark)

is_at : (schema : Schema) (table : ℕ) (trees : List StoredTable) (now : List HeldChange) (place : ℕ) (bookmark row : List ℕ) → Reads schema table trees now place bookmark row → (held : List HeldChange) (h : HeldChange) → IsUndone held place h now → IsAt table bookmark h
is_at schema table trees now place bookmark row reads held h was =
    let same = was_open schema table trees now place bookmark row reads held h was in
    (sym (ap (λ (x : HeldChange). x.table) same) ∙ reads.can.named, sym (ap (λ (x : HeldChange). x.bookmark) same) ∙ reads.is_bookmark)

-- what is said of a change's record holds where that is
at_record : (P : ℕ → List ℕ → Type 0) (table : ℕ) (bookmark : List ℕ) (h : HeldChange) → IsAt table bookmark h → P h.table h.bookmark → P table bookmark
at_record P table bookmark h at p = subst (λ (n : ℕ). P n bookmark) at.0 (subst (P h.table) at.1 p)

to_record : (P : ℕ → List ℕ → Type 0) (table : ℕ) (bookmark : List ℕ) (h : HeldChange) → IsAt table bookmark h → P table bookmark → P h.table h.bookmark
to_record P table bookmark h at p = subst (λ (n : ℕ). P n h.bookmark) (sym at.0) (subst (P table) (sym at.1) p)

pub left_back : (laws : TreeLaws) (schema : Schema) (table : ℕ) (trees : List StoredTable) (now : List HeldChange) (place : ℕ) (bookmark row : List ℕ) → Reads schema table trees now place bookmark row → Fills laws trees table bookmark row
    → (gone : List ℕ) → row_under (table_nodes trees table) bookmark ≡ Some gone → (tables : List Table) (held : List HeldChange) (h : HeldChange) → IsUndone held place h now → AreKeptWith (table_long_values trees) tables trees held → AreLeft (table_long_values trees) tables (filled trees table bookmark row) now table bookmark (record_of (table_long_values trees table) gone)
left_back laws schema table trees now place bookmark row reads known gone is tables held h was kept =
    subst (λ (changes : List HeldChange). AreLeft (table_long_values trees) tables (filled trees table bookmark row) changes table bookmark (record_of (table_long_values trees table) gone)) (sym was.after)
    (at_record (λ n b. AreLeft (table_long_values trees) tables (filled trees n b row) (undone_at (Some place) held) n b (record_of (table_long_values trees table) gone)) table bookmark h at
    (change_back (table_long_values trees) laws trees held place h row (undoes schema table trees now place bookmark row reads held h was)
    (to_record (λ n b. Fills laws trees n b row) table bookmark h at known) (record_of (table_long_values trees table) gone)
    (to_record (λ n b. row_at (rows_of_nodes (table_long_values trees n) (table_nodes trees n)) b ≡ Some (record_of (table_long_values trees table) gone)) table bookmark h at (record_at (table_long_values trees table) (table_nodes trees table) (known.sorted table) bookmark ∙ ap (option_map (record_of (table_long_values trees table))) is))
    tables (all_place (IsKeptChange (table_long_values trees) tables trees) held place h kept.changes was.at) kept))
  where
    at : IsAt table bookmark h
    at = is_at schema table trees now place bookmark row reads held h was

pub all_back : (laws : TreeLaws) (schema : Schema) (table : ℕ) (trees : List StoredTable) (now : List HeldChange) (place : ℕ) (bookmark row : List ℕ) → Reads schema table trees now place bookmark row → Fills laws trees table bookmark row
    → row_under (table_nodes trees table) bookmark ≡ None → (tables : List Table) (held : List HeldChange) (h : HeldChange) → IsUndone held place h now → AreKeptWith (table_long_values trees) tables trees held → AreKeptWith (table_long_values trees) tables (filled trees table bookmark row) now
all_back laws schema table trees now place bookmark row reads known is tables held h was kept =
    subst (λ (changes : List HeldChange). AreKeptWith (table_long_values trees) tables (filled trees table bookmark row) changes) (sym was.after)
    (at_record (λ n b. AreKeptWith (table_long_values trees) tables (filled trees n b row) (undone_at (Some place) held)) table bookmark h at
    (kept_back (table_long_values trees) laws trees held place h row (undoes schema table trees now place bookmark row reads held h was)
    (to_record (λ n b. Fills laws trees n b row) table bookmark h at known)
    (to_record (λ n b. row_at (rows_of_nodes (table_long_values trees n) (table_nodes trees n)) b ≡ None) table bookmark h at (record_at (table_long_values trees table) (table_nodes trees table) (known.sorted table) bookmark ∙ ap (option_map (record_of (table_long_values trees table))) is))
    tables (all_place (IsKeptChange (table_long_values trees) tables trees) held place h kept.changes was.at) kept))
  where
    at : IsAt table bookmark h
    at = is_at schema table trees now place bookmark row reads held h was

no_bytes : (row : List ℕ) → (length row == 0) ≡ true → row_in_node row ≡ None
no_bytes row e = no_byte row e

pub none_back : (schema : Schema) (table : ℕ) (trees : List StoredTable) (now : List HeldChange) (place : ℕ) (bookmark row : List ℕ) → Reads schema table trees now place bookmark row → AreInOrder trees
    → row_under (table_nodes trees table) bookmark ≡ None → (length row == 0) ≡ true → (tables : List Table) (held : List HeldChange) (h : HeldChange) → IsUndone held place h now → AreKeptWith (table_long_values trees) tables trees held → AreKeptWith (table_long_values trees) tables trees now
none_back schema table trees now place bookmark row reads sorted is empty tables held h was kept =
    subst (AreKeptWith (table_long_values trees) tables trees) (sym was.after)
    (kept_unchanged (table_long_values trees) trees held place h row undoing (sym undoing.before ∙ no_bytes row empty)
    (to_record (λ n b. row_at (rows_of_nodes (table_long_values trees n) (table_nodes trees n)) b ≡ None) table bookmark h (is_at schema table trees now place bookmark row reads held h was) (record_at (table_long_values trees table) (table_nodes trees table) (sorted table) bookmark ∙ ap (option_map (record_of (table_long_values trees table))) is))
    tables kept)
  where
    undoing : Undoes held place h row
    undoing = undoes schema table trees now place bookmark row reads held h was

-- ---- what is shown

pub shown_back : (laws : TreeLaws) (schema : Schema) (table : ℕ) (trees : List StoredTable) (now : List HeldChange) (place : ℕ) (bookmark row : List ℕ) → Reads schema table trees now place bookmark row → Fills laws trees table bookmark row
    → (tables : List Table) (h : HeldChange) → slice_get now place ≡ Some h → map (with_newest_by (table_long_values trees) (filled trees table bookmark row)) tables ≡ tables_put_back (table_long_values trees table) (map (with_newest_by (table_long_values trees) trees) tables) h
shown_back laws schema table trees now place bookmark row reads known tables h at =
    subst (λ (x : HeldChange). map (with_newest_by (table_long_values trees) (filled trees table bookmark row)) tables ≡ tables_put_back (table_long_values trees table) (map (with_newest_by (table_long_values trees) trees) tables) x) (same_at now place reads.change h reads.can.at at)
    (at_record (λ n b. map (with_newest_by (table_long_values trees) (filled trees n b row)) tables ≡ tables_put_back (table_long_values trees n) (map (with_newest_by (table_long_values trees) trees) tables) reads.change) table bookmark reads.change own
    (tables_back (table_long_values trees) laws trees reads.change row (row_is schema table trees now place bookmark row reads) (to_record (λ n b. Fills laws trees n b row) table bookmark reads.change own known) tables))
  where
    own : IsAt table bookmark reads.change
    own = (reads.can.named, reads.is_bookmark)

pub shown_unchanged : (schema : Schema) (table : ℕ) (trees : List StoredTable) (now : List HeldChange) (place : ℕ) (bookmark row : List ℕ) → Reads schema table trees now place bookmark row → AreInOrder trees
    → row_under (table_nodes trees table) bookmark ≡ None → (length row == 0) ≡ true → (tables : List Table) (h : HeldChange) → slice_get now place ≡ Some h → map (with_newest_by (table_long_values trees) trees) tables ≡ tables_put_back (table_long_values trees table) (map (with_newest_by (table_long_values trees) trees) tables) h
shown_unchanged schema table trees now place bookmark row reads sorted is empty tables h at =
    subst (λ (x : HeldChange). map (with_newest_by (table_long_values trees) trees) tables ≡ tables_put_back (table_long_values trees table) (map (with_newest_by (table_long_values trees) trees) tables) x) (same_at now place reads.change h reads.can.at at)
    (subst (λ (n : ℕ). map (with_newest_by (table_long_values trees) trees) tables ≡ tables_put_back (table_long_values trees n) (map (with_newest_by (table_long_values trees) trees) tables) reads.change) reads.can.named
    (tables_unchanged (table_long_values trees) trees reads.change (sym (row_is schema table trees now place bookmark row reads) ∙ no_bytes row empty)
    (to_record (λ n b. row_at (rows_of_nodes (table_long_values trees n) (table_nodes trees n)) b ≡ None) table bookmark reads.change (reads.can.named, reads.is_bookmark) (record_at (table_long_values trees table) (table_nodes trees table) (sorted table) bookmark ∙ ap (option_map (record_of (table_long_values trees table))) is)) tables))

-- ---- the newest rows

-- those of the table have the row before the change in its place
pub rows_back : (laws : TreeLaws) (schema : Schema) (table : ℕ) (trees : List StoredTable) (now : List HeldChange) (place : ℕ) (bookmark row : List ℕ) → Reads schema table trees now place bookmark row → Fills laws trees table bookmark row
    → (h : HeldChange) → slice_get now place ≡ Some h → (other : ℕ) → newest_rows (table_nodes (filled trees table bookmark row) other) ≡ rows_put_back h table other (newest_rows (table_nodes trees other))
rows_back laws schema table trees now place bookmark row reads known h at other =
    by (table == other) refl ∙ ap (λ (x : HeldChange). rows_put_back x table other (newest_rows (table_nodes trees other))) (same_at now place reads.change h reads.can.at at)
  where
    new : List StoredTable
    new = filled trees table bookmark row

    row_then : (b : Bool) → (table == other) ≡ b → (own : List ℕ) → row_under (table_nodes new other) own ≡ cond (b && bytes_eq bookmark own) (row_in_node row) (row_under (table_nodes trees other) own)
    row_then b e own = row_filled laws trees table bookmark row known.table known.node other own ∙ ap (λ t. cond (t && bytes_eq bookmark own) (row_in_node row) (row_under (table_nodes trees other) own)) e

    by : (b : Bool) → (table == other) ≡ b → newest_rows (table_nodes new other) ≡ rows_put_back reads.change table other (newest_rows (table_nodes trees other))
    by true e =
        newest_with (table_nodes trees other) (table_nodes new other) bookmark (row_in_node row) (known.sorted other) (known.sorted_then other) (row_then true e)
        ∙ (λ i. with_row (sym reads.is_bookmark i) (option_map row_in (row_is schema table trees now place bookmark row reads i)) (newest_rows (table_nodes trees other)))
        ∙ sym (ap (λ b. cond b (with_row reads.change.bookmark (option_map row_in reads.change.before) (newest_rows (table_nodes trees other))) (newest_rows (table_nodes trees other))) e)
    by false e =
        same_newest (table_nodes new other) (table_nodes trees other) (known.sorted_then other) (known.sorted other) (row_then false e)
        ∙ sym (ap (λ b. cond b (with_row reads.change.bookmark (option_map row_in reads.change.before) (newest_rows (table_nodes trees other))) (newest_rows (table_nodes trees other))) e)

-- where there was none before, and is none, nothing changes
pub rows_unchanged : (schema : Schema) (table : ℕ) (trees : List StoredTable) (now : List HeldChange) (place : ℕ) (bookmark row : List ℕ) → Reads schema table trees now place bookmark row → AreInOrder trees
    → row_under (table_nodes trees table) bookmark ≡ None → (length row == 0) ≡ true → (h : HeldChange) → slice_get now place ≡ Some h → (other : ℕ) → newest_rows (table_nodes trees other) ≡ rows_put_back h table other (newest_rows (table_nodes trees other))
rows_unchanged schema table trees now place bookmark row reads sorted is empty h at other =
    by (table == other) refl ∙ ap (λ (x : HeldChange). rows_put_back x table other (newest_rows (table_nodes trees other))) (same_at now place reads.change h reads.can.at at)
  where
    none : reads.change.before ≡ None
    none = sym (row_is schema table trees now place bookmark row reads) ∙ no_bytes row empty

    gone : (b : Bool) → (table == other) ≡ true → (own : List ℕ) → bytes_eq bookmark own ≡ b → row_under (table_nodes trees other) own ≡ cond b None (row_under (table_nodes trees other) own)
    gone true e own f = (λ i. row_under (table_nodes trees (sym (eqb-true table other e) i)) (sym (same_bytes bookmark own f) i)) ∙ is
    gone false e own f = refl

    by : (b : Bool) → (table == other) ≡ b → newest_rows (table_nodes trees other) ≡ rows_put_back reads.change table other (newest_rows (table_nodes trees other))
    by true e =
        newest_with (table_nodes trees other) (table_nodes trees other) bookmark None (sorted other) (sorted other) (λ own. gone (bytes_eq bookmark own) e own refl)
        ∙ (λ i. with_row (sym reads.is_bookmark i) (option_map row_in (sym none i)) (newest_rows (table_nodes trees other)))
        ∙ sym (ap (λ b. cond b (with_row reads.change.bookmark (option_map row_in reads.change.before) (newest_rows (table_nodes trees other))) (newest_rows (table_nodes trees other))) e)
    by false e = sym (ap (λ b. cond b (with_row reads.change.bookmark (option_map row_in reads.change.before) (newest_rows (table_nodes trees other))) (newest_rows (table_nodes trees other))) e)
