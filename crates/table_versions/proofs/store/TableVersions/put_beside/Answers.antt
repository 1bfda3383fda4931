use Rattle.std.proofs.Common.{◌≡◌, ℕ, ◌<◌, ◌^◌, List, [], ◌∷◌, ◌++◌, Some, sym, ap, subst, ◌∙◌, arith}
use Rattle.std.specs.Prelude.{IsSomeAnd, option_copied}
use Rattle.column_set.specs.RecordValues.{RecordFields}
use Rattle.column_set.specs.ChangedRecords.{changed_bookmark, changed_table}
use Rattle.database_state.specs.Table.{schema_of, table_with_id}
use Rattle.table_trees.specs.StoredTables.{table_long_values, table_nodes}
use Rattle.version_store.specs.HeldChanges.{new_change}
use Rattle.stored_variants.specs.PutRecords.{IsStorable, put_values}
use Rattle.stored_variants.specs.RecordRows.{row_under}
use Rattle.stored_variants.specs.StoredVersions.{StoredVersions}
use Rattle.table_versions.proofs.PutDone.{IsAfterNone, IsAfterPut, PutGiven, PutLaws, after_none, after_put, asked_of_put, may_keep, put_as, row_room, same_as, storable_in}
use Rattle.table_versions.proofs.Span.{RowSizes}
use Rattle.table_versions.proofs.StepInStore.{IsStored, parts_of_store, still_shown}
use Rattle.table_versions.proofs.store.TableVersions.put_beside.Goals as goal

laws : (c : goal.After-schema) → PutLaws
laws c = record {
  read = c.rows_are_read_back.ensures;
  formed = c.form_of_a_kept_row.ensures.row;
  size = c.form_of_a_kept_row.ensures.size;
  names = c.kept_rows_stand_for_their_records.ensures.names;
  stand = c.kept_rows_stand_for_their_records.ensures.stand;
  none_other = c.kept_rows_stand_for_their_records.ensures.none_other;
  taken = c.rows_stand_as_values_change.ensures.taken;
  counts = c.values_keep_their_counts.ensures.changed;
}

stored : (c : goal.After-schema) → IsStored c.self.inside.newest_put c.self.inside.catalog c.self.inside.trees.tables c.self.inside.versions
stored c = parts_of_store c.self.inside.newest_put c.self.inside.catalog c.self.inside.trees c.self.inside.versions c.self.invariant

later : (c : goal.After-schema) → c.self.inside.newest_put < c.args.by.number
later c = subst (λ (v : StoredVersions). v.newest_put < c.args.by.number) (sym c.self.view_is) c.requires.later

number_fits : (c : goal.After-schema) → c.args.by.number < 2 ^ 64
number_fits c = omega arith

found : (c : goal.After-schema) → table_with_id c.self.inside.catalog.tables (changed_table c.args.change.now) ≡ Some c.in-Some-by_id.def.now
found c = ap (table_with_id c.self.inside.catalog.tables) (sym c.table-table.ensures) ∙ sym c.in-Some-by_id.ensures

storable : (c : goal.After-schema) → IsStorable c.in-Some-by_id.def.now (changed_bookmark c.args.change.now) (put_values c.args.change.now)
storable c =
    storable_in c.self.inside.trees.tables c.self.inside.catalog.tables (changed_table c.args.change.now) (changed_bookmark c.args.change.now) (put_values c.args.change.now) c.in-Some-by_id.def.now (found c)
    (subst (λ (v : StoredVersions). IsSomeAnd (table_with_id v.store.tables (changed_table c.args.change.now)) (λ table. IsStorable table (changed_bookmark c.args.change.now) (put_values c.args.change.now))) (sym c.self.view_is) c.requires.storable)

-- the same by the words that the call is given
own_storable : (c : goal.After-schema) → IsStorable c.in-Some-by_id.def.now c.as_bytes-bookmark.result.now c.in-Some.values.now
own_storable c =
    subst (λ (bookmark : List ℕ). IsStorable c.in-Some-by_id.def.now bookmark c.in-Some.values.now) (sym (c.as_bytes-bookmark.ensures ∙ c.bookmark.ensures))
    (subst (λ (values : RecordFields). IsStorable c.in-Some-by_id.def.now (changed_bookmark c.args.change.now) values) (sym c.in-Some.ensures) (storable c))

given : (c : goal.After-schema) → PutGiven (table_long_values c.self.inside.trees.tables) c.self.inside.catalog.tables c.self.inside.trees.tables c.self.inside.versions c.table-table.result.0 c.schema.result.now c.as_bytes-bookmark.result.now c.in-Some.values.now
given c =
    asked_of_put (table_long_values c.self.inside.trees.tables) c.self.inside.catalog.tables c.self.inside.trees.tables c.self.inside.versions c.self.invariant.kept c.nodes_are_in_order.ensures.sorted c.table-table.result.0 c.in-Some-by_id.def.now (sym c.in-Some-by_id.ensures) c.schema.result.now c.schema.ensures
    c.as_bytes-bookmark.result.now c.in-Some.values.now (own_storable c)

pub put_record-requires-clause-there : goal.put_record-requires-clause-there
put_record-requires-clause-there c = (given c).there

pub put_record-requires-clause-rules : goal.put_record-requires-clause-rules
put_record-requires-clause-rules c = (given c).rules

pub put_record-requires-clause-fits : goal.put_record-requires-clause-fits
put_record-requires-clause-fits c = (given c).fits

pub put_record-requires-clause-may : goal.put_record-requires-clause-may
put_record-requires-clause-may c =
    may_keep (laws c) c.self.inside.newest_put c.self.inside.catalog c.self.inside.trees.tables c.self.inside.versions (stored c) c.args.by.number (later c) (number_fits c) c.table-table.result.0 c.in-Some-by_id.def.now c.as_bytes-bookmark.result.now (option_copied c.args.copied) c.in-Some.values.now
    c.requires.copied (own_storable c)

pub put_record-requires-clause-some : goal.put_record-requires-clause-some
put_record-requires-clause-some c = (given c).some

pub put_record-requires-clause-short : goal.put_record-requires-clause-short
put_record-requires-clause-short c = (given c).short

pub put_record-requires-clause-newest : goal.put_record-requires-clause-newest
put_record-requires-clause-newest c = (given c).newest

pub put_record-requires-clause-rows : goal.put_record-requires-clause-rows
put_record-requires-clause-rows c = (given c).rows

pub put_record-requires-clause-keys : goal.put_record-requires-clause-keys
put_record-requires-clause-keys c = (given c).keys

pub put_record-requires-clause-room : goal.put_record-requires-clause-room
put_record-requires-clause-room c =
    let sizes : RowSizes = record { bytes = c.size_of_a_row.ensures.bytes; size = c.size_of_a_row.ensures.record_size } in
    row_room sizes c.self.inside.newest_put c.self.inside.catalog c.self.inside.trees.tables c.self.inside.versions c.self.invariant.kept c.nodes_are_in_order.ensures.sorted c.args.self.now c.self.view_is
    c.args.by c.args.change.now c.table-table.result.0 c.as_bytes-bookmark.result.now c.table-table.ensures (c.as_bytes-bookmark.ensures ∙ c.bookmark.ensures)
    ∙ c.requires.room

-- ---- what the put leaves

laws_then : (c : goal.After-nodes_are_in_order-in-Ok) → PutLaws
laws_then c = record {
  read = c.rows_are_read_back.ensures;
  formed = c.form_of_a_kept_row.ensures.row;
  size = c.form_of_a_kept_row.ensures.size;
  names = c.kept_rows_stand_for_their_records.ensures.names;
  stand = c.kept_rows_stand_for_their_records.ensures.stand;
  none_other = c.kept_rows_stand_for_their_records.ensures.none_other;
  taken = c.rows_stand_as_values_change.ensures.taken;
  counts = c.values_keep_their_counts.ensures.changed;
}

stored_then : (c : goal.After-nodes_are_in_order-in-Ok) → IsStored c.self.inside.newest_put c.self.inside.catalog c.self.inside.trees.tables c.self.inside.versions
stored_then c = parts_of_store c.self.inside.newest_put c.self.inside.catalog c.self.inside.trees c.self.inside.versions c.self.invariant

later_then : (c : goal.After-nodes_are_in_order-in-Ok) → c.self.inside.newest_put < c.args.by.number
later_then c = subst (λ (v : StoredVersions). v.newest_put < c.args.by.number) (sym c.self.view_is) c.requires.later

number_fits_then : (c : goal.After-nodes_are_in_order-in-Ok) → c.args.by.number < 2 ^ 64
number_fits_then c = omega arith

found_then : (c : goal.After-nodes_are_in_order-in-Ok) → table_with_id c.self.inside.catalog.tables (changed_table c.args.change.now) ≡ Some c.in-Some-by_id.def.now
found_then c = ap (table_with_id c.self.inside.catalog.tables) (sym c.table-table.ensures) ∙ sym c.in-Some-by_id.ensures

storable_then : (c : goal.After-nodes_are_in_order-in-Ok) → IsStorable c.in-Some-by_id.def.now (changed_bookmark c.args.change.now) (put_values c.args.change.now)
storable_then c =
    storable_in c.self.inside.trees.tables c.self.inside.catalog.tables (changed_table c.args.change.now) (changed_bookmark c.args.change.now) (put_values c.args.change.now) c.in-Some-by_id.def.now (found_then c)
    (subst (λ (v : StoredVersions). IsSomeAnd (table_with_id v.store.tables (changed_table c.args.change.now)) (λ table. IsStorable table (changed_bookmark c.args.change.now) (put_values c.args.change.now))) (sym c.self.view_is) c.requires.storable)

after : (c : goal.After-nodes_are_in_order-in-Ok) → IsAfterPut c.self.inside.catalog c.put_record.new.trees.tables c.put_record.new.versions c.args.by c.args.change.now c.args.self.now
after c =
    let sizes : RowSizes = record { bytes = c.size_of_a_row.ensures.bytes; size = c.size_of_a_row.ensures.record_size } in
    after_put sizes (laws_then c) c.self.inside.newest_put c.self.inside.catalog c.self.inside.trees.tables c.self.inside.versions (stored_then c) c.nodes_are_in_order.ensures.sorted c.nodes_are_in_order.ensures.short c.args.self.now c.self.view_is c.tables.ensures.numbered
    c.args.by (later_then c) c.args.change.now c.requires.put c.in-Some-by_id.def.now (found_then c) (storable_then c) (option_copied c.args.copied)
    (may_keep (laws_then c) c.self.inside.newest_put c.self.inside.catalog c.self.inside.trees.tables c.self.inside.versions (stored_then c) c.args.by.number (later_then c) (number_fits_then c) (changed_table c.args.change.now) c.in-Some-by_id.def.now (changed_bookmark c.args.change.now)
    (option_copied c.args.copied) (put_values c.args.change.now) c.requires.copied (storable_then c))
    c.put_record.new.trees.tables
    (put_as c.args.by.number c.self.inside.trees.tables c.put_record.new.trees.tables (option_copied c.args.copied) c.table-table.result.0 (changed_table c.args.change.now) c.table-table.ensures c.as_bytes-bookmark.result.now (changed_bookmark c.args.change.now) (c.as_bytes-bookmark.ensures ∙ c.bookmark.ensures)
    c.schema.result.now (schema_of c.in-Some-by_id.def.now) c.schema.ensures c.in-Some.values.now (put_values c.args.change.now) c.in-Some.ensures c.in-Ok.ensures.put)
    c.nodes_are_in_order-in-Ok.ensures.sorted c.put_record.new.versions
    (c.in-Ok.ensures.held ∙ (λ i. c.self.inside.versions ++ new_change c.args.by c.args.change.now (row_under (table_nodes c.self.inside.trees.tables (c.table-table.ensures i)) ((c.as_bytes-bookmark.ensures ∙ c.bookmark.ensures) i)) ∷ []))

-- ---- what a put that fails leaves

stored_else : (c : goal.After-nodes_are_in_order-in-Err) → IsStored c.self.inside.newest_put c.self.inside.catalog c.self.inside.trees.tables c.self.inside.versions
stored_else c = parts_of_store c.self.inside.newest_put c.self.inside.catalog c.self.inside.trees c.self.inside.versions c.self.invariant

found_else : (c : goal.After-nodes_are_in_order-in-Err) → table_with_id c.self.inside.catalog.tables (changed_table c.args.change.now) ≡ Some c.in-Some-by_id.def.now
found_else c = ap (table_with_id c.self.inside.catalog.tables) (sym c.table-table.ensures) ∙ sym c.in-Some-by_id.ensures

none : (c : goal.After-nodes_are_in_order-in-Err) → IsAfterNone c.self.inside.newest_put c.self.inside.catalog c.put_record.new.trees.tables c.put_record.new.versions c.args.self.now
none c =
    after_none c.self.inside.newest_put c.self.inside.catalog c.self.inside.trees.tables c.self.inside.versions (stored_else c) c.nodes_are_in_order.ensures.sorted c.args.self.now c.self.view_is c.tables.ensures.numbered
    (changed_table c.args.change.now) c.in-Some-by_id.def.now (found_else c) c.put_record.new.trees.tables
    (same_as c.self.inside.trees.tables c.put_record.new.trees.tables c.table-table.result.0 (changed_table c.args.change.now) c.table-table.ensures c.schema.result.now (schema_of c.in-Some-by_id.def.now) c.schema.ensures c.in-Err.ensures.same)
    c.nodes_are_in_order-in-Err.ensures.sorted c.put_record.new.versions c.in-Err.ensures.unheld

pub invariant_of-self : goal.invariant_of-self
invariant_of-self c = record {
  kept = (after c).stored.kept;
  shows = still_shown c.self.inside.catalog c.self.inside.trees.catalog c.put_record.new.trees.catalog c.put_record.ensures.catalog c.self.invariant.shows;
  counts = (after c).stored.counts;
  entries = (after c).stored.entries;
}

pub invariant_of-self-in-Err : goal.invariant_of-self-in-Err
invariant_of-self-in-Err c = record {
  kept = (none c).stored.kept;
  shows = still_shown c.self.inside.catalog c.self.inside.trees.catalog c.put_record.new.trees.catalog c.put_record.ensures.catalog c.self.invariant.shows;
  counts = (none c).stored.counts;
  entries = (none c).stored.entries;
}

pub returns-in-Ok-clause-ok : goal.returns-in-Ok-clause-ok
returns-in-Ok-clause-ok c = (after c).shown

pub returns-in-Err-clause-err : goal.returns-in-Err-clause-err
returns-in-Err-clause-err c = (none c).shown
