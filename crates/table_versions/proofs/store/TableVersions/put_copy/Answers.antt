use Rattle.std.proofs.Common.{◌≡◌, ◌+◌, ◌≤◌, ◌++◌, List, ℕ, Option, Some, length, sym, ap, subst, ◌∙◌, arith}
use Rattle.std.specs.Prelude.{IfSome, option_copied}
use Rattle.column_set.specs.RowReading.{row_in}
use Rattle.column_set.specs.Rows.{IsRowBytes}
use Rattle.table_trees.specs.StoredTables.{table_long_values, table_nodes}
use Rattle.version_store.specs.declared.calls.Reader.{Reader}
use Rattle.version_store.specs.HeldChanges.{seen_row}
use Rattle.stored_variants.specs.RecordRows.{IsRecordRow, row_under}
use Rattle.stored_variants.proofs.Tables.{newest_is_row}
use Rattle.table_versions.proofs.SeenRecords.{row_seen_is, seen_is_row}
use Rattle.table_versions.proofs.store.TableVersions.put_copy.Goals as goal

within : (n m : ℕ) → n ≡ 0 → m ≤ 1700 → n + m ≤ 1700
within n m none low = omega arith

pub append-requires : goal.append-requires
append-requires c =
    let longs = table_long_values c.self.inside.trees.tables in
    let id = c.table.result.0 in
    let reader : Reader = record { session = c.args.by.session; begin = Some c.args.by.begin } in
    let is = sym (ap option_copied c.in-Some.is) ∙ c.shown_row.ensures in
    let row : IsRecordRow (longs id) c.in-Some.bytes.now = subst (λ (o : Option (List ℕ)). IfSome o (IsRecordRow (longs id))) (sym is)
    (row_seen_is (longs id) (row_under (table_nodes c.self.inside.trees.tables id) c.args.copied.now) (seen_row id c.args.copied.now reader c.self.inside.versions)
    (newest_is_row longs c.self.inside.catalog.tables c.self.inside.trees.tables c.self.inside.versions c.self.invariant.kept id c.args.copied.now)
    (seen_is_row longs c.self.inside.catalog.tables c.self.inside.trees.tables id c.args.copied.now reader c.self.inside.versions c.self.invariant.kept.changes)) in
    let none : length c.new-row.result.items ≡ 0 = ap (λ (items : List ℕ). length items) c.new-row.ensures in
    within (length c.new-row.result.items) (length c.in-Some.bytes.now) none row.small

pub put_beside-requires-clause-copied : goal.put_beside-requires-clause-copied
put_beside-requires-clause-copied c =
    let longs = table_long_values c.self.inside.trees.tables in
    let id = c.table.result.0 in
    let reader : Reader = record { session = c.args.by.session; begin = Some c.args.by.begin } in
    let is = sym (ap option_copied c.in-Some.is) ∙ c.shown_row.ensures in
    let row : IsRecordRow (longs id) c.in-Some.bytes.now = subst (λ (o : Option (List ℕ)). IfSome o (IsRecordRow (longs id))) (sym is)
    (row_seen_is (longs id) (row_under (table_nodes c.self.inside.trees.tables id) c.args.copied.now) (seen_row id c.args.copied.now reader c.self.inside.versions)
    (newest_is_row longs c.self.inside.catalog.tables c.self.inside.trees.tables c.self.inside.versions c.self.invariant.kept id c.args.copied.now)
    (seen_is_row longs c.self.inside.catalog.tables c.self.inside.trees.tables id c.args.copied.now reader c.self.inside.versions c.self.invariant.kept.changes)) in
    let same : c.as_slice.result.now ≡ c.in-Some.bytes.now = c.as_slice.ensures.value ∙ c.append.ensures ∙ ap (λ (items : List ℕ). items ++ c.in-Some.bytes.now) c.new-row.ensures in
    subst IsRowBytes (sym same) (row_in c.in-Some.bytes.now, row.formed, row.spelled)
