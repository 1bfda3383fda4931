use Rattle.std.proofs.Common.{◌≡◌, ℕ, List, [], ◌∷◌, ◌++◌, Option, None, option_map, refl, sym, ap, subst, ◌∙◌}
use Rattle.std.specs.Prelude.{IfSome, IsSome, OnErr, OnOk}
use Rattle.std.specs.List.{AllByRecursion}
use Rattle.btree_inplace.specs.Order.{extent_in}
use Rattle.column_set.specs.RowReading.{row_in}
use Rattle.long_rows.specs.KeptRows.{MayTake, given_values}
use Rattle.long_value.specs.Values.{Values}
use Rattle.stored_variants.specs.RecordRows.{IsRecordRow, record_of, row_under}
use Rattle.version_store.specs.HeldChanges.{HeldChange, has_room, new_change}
use Rattle.variant_trees.specs.GoneKeys.{AreRows, KeepsValues, held_from}
use Rattle.stored_variants.specs.PutRecords.{record_keys}
use Rattle.variant_trees.specs.PutStages.{CanTake, HasVariantKeys, IsNewPut, IsPut, IsSame}
use Rattle.variant_trees.proofs.KeysPut.{rules_stay, taken_rules}
use Rattle.variant_trees.proofs.HalfPuts.{table_stays}
use Rattle.variant_trees.proofs.NewPuts.{no_row, no_row_under, new_node_is_there, new_put, new_put_done, new_put_moved, new_put_with_keys}
use Rattle.variant_trees.proofs.TakenValues.{rows_stay, values_same}
use Rattle.table_trees.specs.StoredTables.{StoredTable, has_table, table_long_values, table_nodes}
use Rattle.variant_trees.proofs.putting.put_row.Goals as goal

-- ---- a node that is there

pub put_over-requires-clause-there : goal.put_over-requires-clause-there
put_over-requires-clause-there c = ap (λ (trees : List StoredTable). has_table trees c.args.table.0) (c.in-Ok.ensures.same (subst IsSome (sym c.in-Some.is) refl)) ∙ c.requires.there

pub put_over-requires-clause-rules : goal.put_over-requires-clause-rules
put_over-requires-clause-rules c =
    subst (λ (trees : List StoredTable). AllByRecursion (CanTake c.args.schema.now c.args.values.now c.args.table.0 trees) c.args.schema.now.indexes) (sym (c.in-Ok.ensures.same (subst IsSome (sym c.in-Some.is) refl))) c.requires.rules

pub put_over-requires-clause-may : goal.put_over-requires-clause-may
put_over-requires-clause-may c =
    subst (λ (trees : List StoredTable). AllByRecursion (MayTake (table_long_values trees c.args.table.0)) (given_values (row_in c.args.row.now) c.args.values.now)) (sym (c.in-Ok.ensures.same (subst IsSome (sym c.in-Some.is) refl))) c.requires.may

pub put_over-requires-clause-node : goal.put_over-requires-clause-node
put_over-requires-clause-node c =
    ap (λ (trees : List StoredTable). extent_in (table_nodes trees c.args.table.0) c.args.bookmark.now) (c.in-Ok.ensures.same (subst IsSome (sym c.in-Some.is) refl)) ∙ sym c.in-Ok.ensures.node ∙ c.in-Some.is

pub put_over-requires-clause-newest : goal.put_over-requires-clause-newest
put_over-requires-clause-newest c =
    subst (λ (trees : List StoredTable). IfSome (row_under (table_nodes trees c.args.table.0) c.args.bookmark.now) (IsRecordRow (table_long_values trees c.args.table.0))) (sym (c.in-Ok.ensures.same (subst IsSome (sym c.in-Some.is) refl))) c.requires.newest

pub put_over-requires-clause-rows : goal.put_over-requires-clause-rows
put_over-requires-clause-rows c =
    subst (λ (trees : List StoredTable). AreRows (table_long_values trees) c.args.versions.now) (sym (c.in-Ok.ensures.same (subst IsSome (sym c.in-Some.is) refl))) c.requires.rows

pub put_over-requires-clause-keys : goal.put_over-requires-clause-keys
put_over-requires-clause-keys c =
    subst (λ (trees : List StoredTable). HasVariantKeys (option_map (record_of (table_long_values trees c.args.table.0)) (row_under (table_nodes trees c.args.table.0) c.args.bookmark.now)) (held_from (table_long_values trees) 0 c.args.versions.now) c.args.schema.now c.args.table.0 c.args.bookmark.now trees) (sym (c.in-Ok.ensures.same (subst IsSome (sym c.in-Some.is) refl))) c.requires.keys

pub put_over-requires-clause-room : goal.put_over-requires-clause-room
put_over-requires-clause-room c =
    ap (λ (trees : List StoredTable). has_room c.args.by c.args.change.now (row_under (table_nodes trees c.args.table.0) c.args.bookmark.now) c.args.versions.now) (c.in-Ok.ensures.same (subst IsSome (sym c.in-Some.is) refl)) ∙ c.requires.room

pub returns-in-Some-clause-put : goal.returns-in-Some-clause-put
returns-in-Some-clause-put c =
    subst (λ (trees : List StoredTable). OnOk c.put_over.result (IsPut c.args.table.0 c.args.bookmark.now c.args.row.now (given_values (row_in c.args.row.now) c.args.values.now) (record_keys c.args.schema.now.indexes c.args.schema.now c.args.values.now) trees c.put_over.new.trees.tables)) (c.in-Ok.ensures.same (subst IsSome (sym c.in-Some.is) refl)) c.put_over.ensures.put

pub returns-in-Some-clause-held : goal.returns-in-Some-clause-held
returns-in-Some-clause-held c =
    subst (λ (trees : List StoredTable). OnOk c.put_over.result (c.put_over.new.versions ≡ c.args.versions.now ++ new_change c.args.by c.args.change.now (row_under (table_nodes trees c.args.table.0) c.args.bookmark.now) ∷ [])) (c.in-Ok.ensures.same (subst IsSome (sym c.in-Some.is) refl)) c.put_over.ensures.held

pub returns-in-Some-clause-same : goal.returns-in-Some-clause-same
returns-in-Some-clause-same c =
    subst (λ (trees : List StoredTable). OnErr c.put_over.result (IsSame c.args.table.0 c.args.schema.now trees c.put_over.new.trees.tables)) (c.in-Ok.ensures.same (subst IsSome (sym c.in-Some.is) refl)) c.put_over.ensures.same

-- ---- a node that is put

pub put_keys-requires-clause-rules : goal.put_keys-requires-clause-rules
put_keys-requires-clause-rules c =
    rules_stay c.args.schema.now c.args.values.now c.args.table.0 c.args.trees.now.tables c.insert_row.new.trees.tables ((c.in-Ok.ensures.new c.in-None.is).indexes c.args.table.0) c.args.schema.now.indexes c.requires.rules

pub take_back_new-requires-clause-rows : goal.take_back_new-requires-clause-rows
take_back_new-requires-clause-rows c =
    rows_stay c.args.trees.now.tables c.put_keys.new.trees.tables (λ other. c.in-Err-put_keys.ensures.err.others.values other ∙ (c.in-Ok.ensures.new c.in-None.is).values other) c.args.versions.now c.requires.rows

pub take_back_new-requires-clause-there : goal.take_back_new-requires-clause-there
take_back_new-requires-clause-there c =
    table_stays c.args.table.0 c.insert_row.new.trees.tables c.put_keys.new.trees.tables c.in-Err-put_keys.ensures.err.others.numbers
    ∙ table_stays c.args.table.0 c.args.trees.now.tables c.insert_row.new.trees.tables (c.in-Ok.ensures.new c.in-None.is).numbers ∙ c.requires.there

pub take_back_new-requires-clause-node : goal.take_back_new-requires-clause-node
take_back_new-requires-clause-node c =
    new_node_is_there c.args.table.0 c.args.bookmark.now c.args.row.now (record_keys c.args.schema.now.indexes c.args.schema.now c.args.values.now) c.args.trees.now.tables c.put_keys.new.trees.tables
    (new_put c.args.table.0 c.args.bookmark.now c.args.row.now (record_keys c.args.schema.now.indexes c.args.schema.now c.args.values.now) c.args.trees.now.tables c.insert_row.new.trees.tables c.put_keys.new.trees.tables (c.in-Ok.ensures.new c.in-None.is) c.in-Err-put_keys.ensures.err)

pub returns-in-Err-put_keys-clause-same : goal.returns-in-Err-put_keys-clause-same
returns-in-Err-put_keys-clause-same c =
    c.take_back_new.ensures.back c.args.trees.now.tables c.args.row.now
    (new_put c.args.table.0 c.args.bookmark.now c.args.row.now (record_keys c.args.schema.now.indexes c.args.schema.now c.args.values.now) c.args.trees.now.tables c.insert_row.new.trees.tables c.put_keys.new.trees.tables (c.in-Ok.ensures.new c.in-None.is) c.in-Err-put_keys.ensures.err)
    (λ other. c.in-Err-put_keys.ensures.err.others.values other ∙ (c.in-Ok.ensures.new c.in-None.is).values other)
    (no_row (table_nodes c.args.trees.now.tables c.args.table.0) c.args.bookmark.now (sym c.in-Ok.ensures.node ∙ c.in-None.is))
    (subst (λ (o : Option (List ℕ)). HasVariantKeys (option_map (record_of (table_long_values c.args.trees.now.tables c.args.table.0)) o) (held_from (table_long_values c.args.trees.now.tables) 0 c.args.versions.now) c.args.schema.now c.args.table.0 c.args.bookmark.now c.args.trees.now.tables)
    (no_row_under (table_nodes c.args.trees.now.tables c.args.table.0) c.args.bookmark.now (sym c.in-Ok.ensures.node ∙ c.in-None.is)) c.requires.keys)

pub take_and_hold-requires-clause-there : goal.take_and_hold-requires-clause-there
take_and_hold-requires-clause-there c =
    table_stays c.args.table.0 c.insert_row.new.trees.tables c.put_keys.new.trees.tables c.in-Ok-put_keys.ensures.ok.others.numbers
    ∙ table_stays c.args.table.0 c.args.trees.now.tables c.insert_row.new.trees.tables (c.in-Ok.ensures.new c.in-None.is).numbers ∙ c.requires.there

pub take_and_hold-requires-clause-may : goal.take_and_hold-requires-clause-may
take_and_hold-requires-clause-may c =
    subst (λ (v : Values). AllByRecursion (MayTake v) (given_values (row_in c.args.row.now) c.args.values.now)) (sym (c.in-Ok-put_keys.ensures.ok.others.values c.args.table.0 ∙ (c.in-Ok.ensures.new c.in-None.is).values c.args.table.0)) c.requires.may

pub take_and_hold-requires-clause-room : goal.take_and_hold-requires-clause-room
take_and_hold-requires-clause-room c =
    ap (λ (o : Option (List ℕ)). has_room c.args.by c.args.change.now o c.args.versions.now) (sym (no_row_under (table_nodes c.args.trees.now.tables c.args.table.0) c.args.bookmark.now (sym c.in-Ok.ensures.node ∙ c.in-None.is))) ∙ c.requires.room

pub returns-in-Ok-take_and_hold-clause-held : goal.returns-in-Ok-take_and_hold-clause-held
returns-in-Ok-take_and_hold-clause-held c =
    c.in-Ok-take_and_hold.ensures.held
    ∙ ap (λ (o : Option (List ℕ)). c.args.versions.now ++ new_change c.args.by c.args.change.now o ∷ []) (sym (no_row_under (table_nodes c.args.trees.now.tables c.args.table.0) c.args.bookmark.now (sym c.in-Ok.ensures.node ∙ c.in-None.is)))

pub returns-in-Ok-take_and_hold-clause-put : goal.returns-in-Ok-take_and_hold-clause-put
returns-in-Ok-take_and_hold-clause-put c =
    new_put_done c.args.table.0 c.args.bookmark.now c.args.row.now (given_values (row_in c.args.row.now) c.args.values.now) (record_keys c.args.schema.now.indexes c.args.schema.now c.args.values.now) c.args.trees.now.tables c.insert_row.new.trees.tables c.put_keys.new.trees.tables c.take_and_hold.new.trees.tables
    (c.in-Ok.ensures.new c.in-None.is) c.in-Ok-put_keys.ensures.ok c.in-Ok-take_and_hold.ensures.ok

pub take_back_new-requires-in-Err-take_and_hold-clause-rules : goal.take_back_new-requires-in-Err-take_and_hold-clause-rules
take_back_new-requires-in-Err-take_and_hold-clause-rules c =
    taken_rules c.args.schema.now c.args.values.now c.args.table.0 c.args.trees.now.tables c.args.schema.now.indexes c.requires.rules

pub take_back_new-requires-in-Err-take_and_hold-clause-rows : goal.take_back_new-requires-in-Err-take_and_hold-clause-rows
take_back_new-requires-in-Err-take_and_hold-clause-rows c =
    let same : KeepsValues c.args.trees.now.tables c.take_and_hold.new.trees.tables = λ other. values_same c.args.table.0 c.put_keys.new.trees.tables c.take_and_hold.new.trees.tables c.in-Err-take_and_hold.ensures.err other ∙ c.in-Ok-put_keys.ensures.ok.others.values other ∙ (c.in-Ok.ensures.new c.in-None.is).values other in
    subst (λ (held : List HeldChange). AreRows (table_long_values c.take_and_hold.new.trees.tables) held) (sym c.in-Err-take_and_hold.ensures.unheld) (rows_stay c.args.trees.now.tables c.take_and_hold.new.trees.tables same c.args.versions.now c.requires.rows)

pub take_back_new-requires-in-Err-take_and_hold-clause-there : goal.take_back_new-requires-in-Err-take_and_hold-clause-there
take_back_new-requires-in-Err-take_and_hold-clause-there c =
    table_stays c.args.table.0 c.put_keys.new.trees.tables c.take_and_hold.new.trees.tables c.in-Err-take_and_hold.ensures.err.numbers
    ∙ table_stays c.args.table.0 c.insert_row.new.trees.tables c.put_keys.new.trees.tables c.in-Ok-put_keys.ensures.ok.others.numbers
    ∙ table_stays c.args.table.0 c.args.trees.now.tables c.insert_row.new.trees.tables (c.in-Ok.ensures.new c.in-None.is).numbers ∙ c.requires.there

pub take_back_new-requires-in-Err-take_and_hold-clause-node : goal.take_back_new-requires-in-Err-take_and_hold-clause-node
take_back_new-requires-in-Err-take_and_hold-clause-node c =
    let put : IsNewPut c.args.table.0 c.args.bookmark.now c.args.row.now (record_keys c.args.schema.now.indexes c.args.schema.now c.args.values.now) c.args.trees.now.tables c.take_and_hold.new.trees.tables =
    new_put_moved c.args.table.0 c.args.bookmark.now c.args.row.now (record_keys c.args.schema.now.indexes c.args.schema.now c.args.values.now) c.args.trees.now.tables c.put_keys.new.trees.tables c.take_and_hold.new.trees.tables (table_long_values c.put_keys.new.trees.tables c.args.table.0)
    (new_put_with_keys c.args.table.0 c.args.bookmark.now c.args.row.now (record_keys c.args.schema.now.indexes c.args.schema.now c.args.values.now) c.args.trees.now.tables c.insert_row.new.trees.tables c.put_keys.new.trees.tables (c.in-Ok.ensures.new c.in-None.is) c.in-Ok-put_keys.ensures.ok)
    c.in-Err-take_and_hold.ensures.err in
    new_node_is_there c.args.table.0 c.args.bookmark.now c.args.row.now (record_keys c.args.schema.now.indexes c.args.schema.now c.args.values.now) c.args.trees.now.tables c.take_and_hold.new.trees.tables put

pub returns-in-Err-take_and_hold-clause-same : goal.returns-in-Err-take_and_hold-clause-same
returns-in-Err-take_and_hold-clause-same c =
    let put : IsNewPut c.args.table.0 c.args.bookmark.now c.args.row.now (record_keys c.args.schema.now.indexes c.args.schema.now c.args.values.now) c.args.trees.now.tables c.take_and_hold.new.trees.tables =
    new_put_moved c.args.table.0 c.args.bookmark.now c.args.row.now (record_keys c.args.schema.now.indexes c.args.schema.now c.args.values.now) c.args.trees.now.tables c.put_keys.new.trees.tables c.take_and_hold.new.trees.tables (table_long_values c.put_keys.new.trees.tables c.args.table.0)
    (new_put_with_keys c.args.table.0 c.args.bookmark.now c.args.row.now (record_keys c.args.schema.now.indexes c.args.schema.now c.args.values.now) c.args.trees.now.tables c.insert_row.new.trees.tables c.put_keys.new.trees.tables (c.in-Ok.ensures.new c.in-None.is) c.in-Ok-put_keys.ensures.ok)
    c.in-Err-take_and_hold.ensures.err in
    let same : KeepsValues c.args.trees.now.tables c.take_and_hold.new.trees.tables = λ other. values_same c.args.table.0 c.put_keys.new.trees.tables c.take_and_hold.new.trees.tables c.in-Err-take_and_hold.ensures.err other ∙ c.in-Ok-put_keys.ensures.ok.others.values other ∙ (c.in-Ok.ensures.new c.in-None.is).values other in
    c.take_back_new-in-Err-take_and_hold.ensures.back c.args.trees.now.tables c.args.row.now put same
    (no_row (table_nodes c.args.trees.now.tables c.args.table.0) c.args.bookmark.now (sym c.in-Ok.ensures.node ∙ c.in-None.is))
    (subst (λ (held : List HeldChange). HasVariantKeys None (held_from (table_long_values c.args.trees.now.tables) 0 held) c.args.schema.now c.args.table.0 c.args.bookmark.now c.args.trees.now.tables) (sym c.in-Err-take_and_hold.ensures.unheld)
    (subst (λ (o : Option (List ℕ)). HasVariantKeys (option_map (record_of (table_long_values c.args.trees.now.tables c.args.table.0)) o) (held_from (table_long_values c.args.trees.now.tables) 0 c.args.versions.now) c.args.schema.now c.args.table.0 c.args.bookmark.now c.args.trees.now.tables)
    (no_row_under (table_nodes c.args.trees.now.tables c.args.table.0) c.args.bookmark.now (sym c.in-Ok.ensures.node ∙ c.in-None.is)) c.requires.keys))
