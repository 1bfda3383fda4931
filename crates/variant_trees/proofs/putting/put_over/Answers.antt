use Rattle.std.proofs.Common.{ℕ, List, [], ◌∷◌, ◌++◌, Option, find, length, option_map, sym, ap, subst, ◌∙◌}
use Rattle.std.specs.List.{AllByRecursion}
use Rattle.column_set.specs.RowReading.{row_in}
use Rattle.long_rows.specs.KeptRows.{MayTake, given_values}
use Rattle.long_value.specs.Values.{Values}
use Rattle.table_trees.specs.StoredTables.{StoredTable, table_long_values, table_nodes}
use Rattle.variant_trees.specs.GoneKeys.{AreRows, KeepsValues, held_from}
use Rattle.stored_variants.specs.PutRecords.{record_keys}
use Rattle.variant_trees.specs.PutStages.{HasVariantKeys, IsHalfPut, IsPut}
use Rattle.stored_variants.specs.RecordRows.{record_of, row_under}
use Rattle.version_store.specs.HeldChanges.{HeldChange, has_room, new_change}
use Rattle.variant_trees.proofs.KeysPut.{taken_rules}
use Rattle.variant_trees.proofs.HalfPuts.{half_put, half_put_moved, put_done, ready_put, room_stays, row_stays, table_stays}
use Rattle.btree_inplace.specs.Order.{has_key}
use Rattle.variant_trees.proofs.NewPuts.{node_there}
use Rattle.variant_trees.proofs.RoomMade.{NodeLaws}
use Rattle.variant_trees.proofs.TakenValues.{newest_stays, room_moved, rows_stay, values_same}
use Rattle.variant_trees.proofs.putting.put_over.Goals as goal

pub take_back-requires-clause-newest : goal.take_back-requires-clause-newest
take_back-requires-clause-newest c =
    let half : IsHalfPut c.args.table.0 c.args.bookmark.now (record_keys c.args.schema.now.indexes c.args.schema.now c.args.values.now) c.args.trees.now.tables c.put_keys.new.trees.tables =
    half_put c.args.table.0 c.args.bookmark.now (length c.args.row.now) (record_keys c.args.schema.now.indexes c.args.schema.now c.args.values.now) c.args.trees.now.tables c.make_room.new.trees.tables c.put_keys.new.trees.tables c.in-Ok.ensures.ok c.in-Err-put_keys.ensures.err in
    newest_stays c.args.table.0 c.args.bookmark.now (record_keys c.args.schema.now.indexes c.args.schema.now c.args.values.now) c.args.trees.now.tables c.put_keys.new.trees.tables half
    (λ other. c.in-Err-put_keys.ensures.err.others.values other ∙ c.in-Ok.ensures.ok.values other) c.requires.newest

pub take_back-requires-clause-rows : goal.take_back-requires-clause-rows
take_back-requires-clause-rows c =
    rows_stay c.args.trees.now.tables c.put_keys.new.trees.tables (λ other. c.in-Err-put_keys.ensures.err.others.values other ∙ c.in-Ok.ensures.ok.values other) c.args.versions.now c.requires.rows

pub take_back-requires-clause-there : goal.take_back-requires-clause-there
take_back-requires-clause-there c =
    table_stays c.args.table.0 c.make_room.new.trees.tables c.put_keys.new.trees.tables c.in-Err-put_keys.ensures.err.others.numbers
    ∙ table_stays c.args.table.0 c.args.trees.now.tables c.make_room.new.trees.tables c.in-Ok.ensures.ok.numbers ∙ c.requires.there

pub returns-in-Err-put_keys-clause-same : goal.returns-in-Err-put_keys-clause-same
returns-in-Err-put_keys-clause-same c =
    c.take_back.ensures.back c.args.trees.now.tables
    (half_put c.args.table.0 c.args.bookmark.now (length c.args.row.now) (record_keys c.args.schema.now.indexes c.args.schema.now c.args.values.now) c.args.trees.now.tables c.make_room.new.trees.tables c.put_keys.new.trees.tables c.in-Ok.ensures.ok c.in-Err-put_keys.ensures.err)
    (λ other. c.in-Err-put_keys.ensures.err.others.values other ∙ c.in-Ok.ensures.ok.values other)
    (node_there (find (has_key c.args.bookmark.now) (table_nodes c.args.trees.now.tables c.args.table.0)) c.args.extent c.requires.node) c.requires.keys

pub take_and_hold-requires-clause-there : goal.take_and_hold-requires-clause-there
take_and_hold-requires-clause-there c =
    table_stays c.args.table.0 c.make_room.new.trees.tables c.put_keys.new.trees.tables c.in-Ok-put_keys.ensures.ok.others.numbers
    ∙ table_stays c.args.table.0 c.args.trees.now.tables c.make_room.new.trees.tables c.in-Ok.ensures.ok.numbers ∙ c.requires.there

pub take_and_hold-requires-clause-may : goal.take_and_hold-requires-clause-may
take_and_hold-requires-clause-may c =
    subst (λ (v : Values). AllByRecursion (MayTake v) (given_values (row_in c.args.row.now) c.args.values.now)) (sym (c.in-Ok-put_keys.ensures.ok.others.values c.args.table.0 ∙ c.in-Ok.ensures.ok.values c.args.table.0)) c.requires.may

pub take_and_hold-requires-clause-room : goal.take_and_hold-requires-clause-room
take_and_hold-requires-clause-room c =
    let half : IsHalfPut c.args.table.0 c.args.bookmark.now (record_keys c.args.schema.now.indexes c.args.schema.now c.args.values.now) c.args.trees.now.tables c.put_keys.new.trees.tables =
    ready_put c.args.table.0 c.args.bookmark.now (length c.args.row.now) (record_keys c.args.schema.now.indexes c.args.schema.now c.args.values.now) c.args.trees.now.tables c.make_room.new.trees.tables c.put_keys.new.trees.tables c.in-Ok.ensures.ok c.in-Ok-put_keys.ensures.ok in
    ap (λ (o : Option (List ℕ)). has_room c.args.by c.args.change.now o c.args.versions.now) (row_stays c.args.table.0 c.args.bookmark.now (record_keys c.args.schema.now.indexes c.args.schema.now c.args.values.now) c.args.trees.now.tables c.put_keys.new.trees.tables half) ∙ c.requires.room

pub replace-requires : goal.replace-requires
replace-requires c =
    room_moved c.args.table.0 c.args.bookmark.now (length c.args.row.now) _ c.put_keys.new.trees.tables c.take_and_hold.new.trees.tables c.in-Ok-take_and_hold.ensures.ok
    (room_stays c.args.table.0 c.args.bookmark.now (length c.args.row.now) (record_keys c.args.schema.now.indexes c.args.schema.now c.args.values.now) c.args.trees.now.tables c.make_room.new.trees.tables c.put_keys.new.trees.tables c.in-Ok.ensures.ok c.in-Ok-put_keys.ensures.ok)

pub returns-in-Ok-take_and_hold-clause-put : goal.returns-in-Ok-take_and_hold-clause-put
returns-in-Ok-take_and_hold-clause-put c =
    let laws : NodeLaws = record {
      named = c.nodes_after_a_change.ensures.named;
      others = c.nodes_after_a_change.ensures.others;
      indexes = c.nodes_after_a_change.ensures.indexes;
      values = c.nodes_after_a_change.ensures.long_values;
      put = c.nodes_by_bookmark.ensures.put;
      removed = c.nodes_by_bookmark.ensures.removed;
      replaced = c.nodes_by_bookmark.ensures.replaced;
      widened = c.nodes_by_bookmark.ensures.widened;
    } in
    subst (λ (trees : List StoredTable). IsPut c.args.table.0 c.args.bookmark.now c.args.row.now (given_values (row_in c.args.row.now) c.args.values.now) (record_keys c.args.schema.now.indexes c.args.schema.now c.args.values.now) c.args.trees.now.tables trees) (sym c.replace.ensures.tables)
    (put_done laws c.args.table.0 c.args.bookmark.now c.args.row.now (length c.args.row.now) (given_values (row_in c.args.row.now) c.args.values.now) (record_keys c.args.schema.now.indexes c.args.schema.now c.args.values.now) c.args.trees.now.tables c.make_room.new.trees.tables c.put_keys.new.trees.tables c.take_and_hold.new.trees.tables
    (table_stays c.args.table.0 c.put_keys.new.trees.tables c.take_and_hold.new.trees.tables c.in-Ok-take_and_hold.ensures.ok.numbers
    ∙ table_stays c.args.table.0 c.make_room.new.trees.tables c.put_keys.new.trees.tables c.in-Ok-put_keys.ensures.ok.others.numbers
    ∙ table_stays c.args.table.0 c.args.trees.now.tables c.make_room.new.trees.tables c.in-Ok.ensures.ok.numbers ∙ c.requires.there)
    c.in-Ok.ensures.ok c.in-Ok-put_keys.ensures.ok c.in-Ok-take_and_hold.ensures.ok)

pub returns-in-Ok-take_and_hold-clause-held : goal.returns-in-Ok-take_and_hold-clause-held
returns-in-Ok-take_and_hold-clause-held c =
    let half : IsHalfPut c.args.table.0 c.args.bookmark.now (record_keys c.args.schema.now.indexes c.args.schema.now c.args.values.now) c.args.trees.now.tables c.put_keys.new.trees.tables =
    ready_put c.args.table.0 c.args.bookmark.now (length c.args.row.now) (record_keys c.args.schema.now.indexes c.args.schema.now c.args.values.now) c.args.trees.now.tables c.make_room.new.trees.tables c.put_keys.new.trees.tables c.in-Ok.ensures.ok c.in-Ok-put_keys.ensures.ok in
    c.in-Ok-take_and_hold.ensures.held
    ∙ ap (λ (o : Option (List ℕ)). c.args.versions.now ++ new_change c.args.by c.args.change.now o ∷ []) (row_stays c.args.table.0 c.args.bookmark.now (record_keys c.args.schema.now.indexes c.args.schema.now c.args.values.now) c.args.trees.now.tables c.put_keys.new.trees.tables half)

pub take_back-requires-in-Err-take_and_hold-clause-rules : goal.take_back-requires-in-Err-take_and_hold-clause-rules
take_back-requires-in-Err-take_and_hold-clause-rules c =
    taken_rules c.args.schema.now c.args.values.now c.args.table.0 c.args.trees.now.tables c.args.schema.now.indexes c.requires.rules

pub take_back-requires-in-Err-take_and_hold-clause-newest : goal.take_back-requires-in-Err-take_and_hold-clause-newest
take_back-requires-in-Err-take_and_hold-clause-newest c =
    let half : IsHalfPut c.args.table.0 c.args.bookmark.now (record_keys c.args.schema.now.indexes c.args.schema.now c.args.values.now) c.args.trees.now.tables c.take_and_hold.new.trees.tables =
    half_put_moved c.args.table.0 c.args.bookmark.now (record_keys c.args.schema.now.indexes c.args.schema.now c.args.values.now) c.args.trees.now.tables c.put_keys.new.trees.tables c.take_and_hold.new.trees.tables (table_long_values c.put_keys.new.trees.tables c.args.table.0)
    (ready_put c.args.table.0 c.args.bookmark.now (length c.args.row.now) (record_keys c.args.schema.now.indexes c.args.schema.now c.args.values.now) c.args.trees.now.tables c.make_room.new.trees.tables c.put_keys.new.trees.tables c.in-Ok.ensures.ok c.in-Ok-put_keys.ensures.ok)
    c.in-Err-take_and_hold.ensures.err in
    let same : KeepsValues c.args.trees.now.tables c.take_and_hold.new.trees.tables = λ other. values_same c.args.table.0 c.put_keys.new.trees.tables c.take_and_hold.new.trees.tables c.in-Err-take_and_hold.ensures.err other ∙ c.in-Ok-put_keys.ensures.ok.others.values other ∙ c.in-Ok.ensures.ok.values other in
    newest_stays c.args.table.0 c.args.bookmark.now (record_keys c.args.schema.now.indexes c.args.schema.now c.args.values.now) c.args.trees.now.tables c.take_and_hold.new.trees.tables half same c.requires.newest

pub take_back-requires-in-Err-take_and_hold-clause-rows : goal.take_back-requires-in-Err-take_and_hold-clause-rows
take_back-requires-in-Err-take_and_hold-clause-rows c =
    let same : KeepsValues c.args.trees.now.tables c.take_and_hold.new.trees.tables = λ other. values_same c.args.table.0 c.put_keys.new.trees.tables c.take_and_hold.new.trees.tables c.in-Err-take_and_hold.ensures.err other ∙ c.in-Ok-put_keys.ensures.ok.others.values other ∙ c.in-Ok.ensures.ok.values other in
    subst (λ (held : List HeldChange). AreRows (table_long_values c.take_and_hold.new.trees.tables) held) (sym c.in-Err-take_and_hold.ensures.unheld) (rows_stay c.args.trees.now.tables c.take_and_hold.new.trees.tables same c.args.versions.now c.requires.rows)

pub take_back-requires-in-Err-take_and_hold-clause-there : goal.take_back-requires-in-Err-take_and_hold-clause-there
take_back-requires-in-Err-take_and_hold-clause-there c =
    table_stays c.args.table.0 c.put_keys.new.trees.tables c.take_and_hold.new.trees.tables c.in-Err-take_and_hold.ensures.err.numbers
    ∙ table_stays c.args.table.0 c.make_room.new.trees.tables c.put_keys.new.trees.tables c.in-Ok-put_keys.ensures.ok.others.numbers
    ∙ table_stays c.args.table.0 c.args.trees.now.tables c.make_room.new.trees.tables c.in-Ok.ensures.ok.numbers ∙ c.requires.there

pub returns-in-Err-take_and_hold-clause-same : goal.returns-in-Err-take_and_hold-clause-same
returns-in-Err-take_and_hold-clause-same c =
    let half : IsHalfPut c.args.table.0 c.args.bookmark.now (record_keys c.args.schema.now.indexes c.args.schema.now c.args.values.now) c.args.trees.now.tables c.take_and_hold.new.trees.tables =
    half_put_moved c.args.table.0 c.args.bookmark.now (record_keys c.args.schema.now.indexes c.args.schema.now c.args.values.now) c.args.trees.now.tables c.put_keys.new.trees.tables c.take_and_hold.new.trees.tables (table_long_values c.put_keys.new.trees.tables c.args.table.0)
    (ready_put c.args.table.0 c.args.bookmark.now (length c.args.row.now) (record_keys c.args.schema.now.indexes c.args.schema.now c.args.values.now) c.args.trees.now.tables c.make_room.new.trees.tables c.put_keys.new.trees.tables c.in-Ok.ensures.ok c.in-Ok-put_keys.ensures.ok)
    c.in-Err-take_and_hold.ensures.err in
    let same : KeepsValues c.args.trees.now.tables c.take_and_hold.new.trees.tables = λ other. values_same c.args.table.0 c.put_keys.new.trees.tables c.take_and_hold.new.trees.tables c.in-Err-take_and_hold.ensures.err other ∙ c.in-Ok-put_keys.ensures.ok.others.values other ∙ c.in-Ok.ensures.ok.values other in
    c.take_back-in-Err-take_and_hold.ensures.back c.args.trees.now.tables half same
    (node_there (find (has_key c.args.bookmark.now) (table_nodes c.args.trees.now.tables c.args.table.0)) c.args.extent c.requires.node)
    (subst (λ (held : List HeldChange). HasVariantKeys (option_map (record_of (table_long_values c.args.trees.now.tables c.args.table.0)) (row_under (table_nodes c.args.trees.now.tables c.args.table.0) c.args.bookmark.now)) (held_from (table_long_values c.args.trees.now.tables) 0 held) c.args.schema.now c.args.table.0 c.args.bookmark.now c.args.trees.now.tables)
    (sym c.in-Err-take_and_hold.ensures.unheld) c.requires.keys)
