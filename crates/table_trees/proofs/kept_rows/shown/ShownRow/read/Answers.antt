use Rattle.std.proofs.Common.{◌≤◌, ℕ, List, [], length, sym, ap, ◌∙◌}
use Rattle.std.specs.Prelude.{slice_index_or}
use Rattle.column_set.specs.RecordValues.{values_of}
use Rattle.long_rows.specs.RowReferences.{identifier}
use Rattle.long_value.specs.Stores.{read_upto}
use Rattle.long_value.specs.Values.{value_of}
use Rattle.table_trees.specs.StoredTables.{table_long_values}
use Rattle.table_trees.proofs.ReadWhole.{apart_seen, as_seen, here_seen, read_bytes, read_count, there_some}
use Rattle.table_trees.proofs.kept_rows.shown.ShownRow.read.Goals as goal

pub read_long-requires : goal.read_long-requires
read_long-requires c =
    let values = table_long_values c.self.inside.trees.now.tables c.self.inside.table.0 in
    let apart = apart_seen values c.self.inside.row c.args.self.now c.args.column.0 c.args.at (c.in-Some.entry, c.in-Some.place, c.in-Some.size) (sym c.self.view_is) c.self.invariant.1 c.in-Some.ensures in
    there_some c.in-Some.size (value_of (identifier c.in-Some.entry c.in-Some.place) values) apart.long

pub returns-in-Some-clause-count : goal.returns-in-Some-clause-count
returns-in-Some-clause-count c =
    let values = table_long_values c.self.inside.trees.now.tables c.self.inside.table.0 in
    let apart = apart_seen values c.self.inside.row c.args.self.now c.args.column.0 c.args.at (c.in-Some.entry, c.in-Some.place, c.in-Some.size) (sym c.self.view_is) c.self.invariant.1 c.in-Some.ensures in
    let count = read_count c.in-Some.size (value_of (identifier c.in-Some.entry c.in-Some.place) values) (slice_index_or (values_of c.args.self.now c.args.column.0) c.args.at []) c.read_long.result (length c.args.into.now) apart.long apart.bytes c.read_long.ensures.count in
    (apart.within, count.0, count.1)

pub returns-in-Some-clause-bytes : goal.returns-in-Some-clause-bytes
returns-in-Some-clause-bytes c =
    let values = table_long_values c.self.inside.trees.now.tables c.self.inside.table.0 in
    let apart = apart_seen values c.self.inside.row c.args.self.now c.args.column.0 c.args.at (c.in-Some.entry, c.in-Some.place, c.in-Some.size) (sym c.self.view_is) c.self.invariant.1 c.in-Some.ensures in
    read_bytes c.in-Some.size (value_of (identifier c.in-Some.entry c.in-Some.place) values) (slice_index_or (values_of c.args.self.now c.args.column.0) c.args.at []) c.read_long.result c.args.into.now c.read_long.new.into apart.long apart.bytes c.read_long.ensures.bytes

pub returns-in-Some-value-clause-count : goal.returns-in-Some-value-clause-count
returns-in-Some-value-clause-count c =
    let values = table_long_values c.self.inside.trees.now.tables c.self.inside.table.0 in
    let here = here_seen values c.self.inside.row c.args.self.now c.args.column.0 c.args.at c.in-Some-value.bytes.now (sym c.self.view_is) c.self.invariant.0 c.in-None.ensures c.in-Some-value.ensures in
    (here.0, ap length here.1, c.copy_front.ensures.count)

pub returns-in-Some-value-clause-bytes : goal.returns-in-Some-value-clause-bytes
returns-in-Some-value-clause-bytes c =
    let values = table_long_values c.self.inside.trees.now.tables c.self.inside.table.0 in
    let here = here_seen values c.self.inside.row c.args.self.now c.args.column.0 c.args.at c.in-Some-value.bytes.now (sym c.self.view_is) c.self.invariant.0 c.in-None.ensures c.in-Some-value.ensures in
    c.copy_front.ensures.bytes ∙ ap (λ (b : List ℕ). read_upto c.copy_front.result b c.args.into.now) here.1

pub returns-in-None-value-clause-count : goal.returns-in-None-value-clause-count
returns-in-None-value-clause-count c =
    let values = table_long_values c.self.inside.trees.now.tables c.self.inside.table.0 in
    as_seen (λ (n : ℕ) (x : List ℕ). n ≤ c.args.at) values c.self.inside.row c.args.self.now c.args.column.0 c.args.at (sym c.self.view_is) c.in-None.ensures c.in-None-value.ensures
