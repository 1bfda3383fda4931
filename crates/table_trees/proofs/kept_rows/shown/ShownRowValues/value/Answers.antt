use Rattle.std.proofs.Common.{◌≡◌, ◌<◌, ◌≤◌, ℕ, List, [], length, take, sym}
use Rattle.std.specs.Prelude.{MatchOption, slice_index_or}
use Rattle.column_set.specs.Reading.{IsFront}
use Rattle.column_set.specs.RecordValues.{values_of}
use Rattle.column_set.specs.Rows.{here_fields}
use Rattle.long_rows.specs.RowReferences.{identifier}
use Rattle.long_value.specs.Values.{value_of}
use Rattle.table_trees.specs.StoredTables.{table_long_values}
use Rattle.table_trees.proofs.ReadWhole.{apart_seen, as_seen, first_bytes, first_front, front_of_some, here_front, there_some}
use Rattle.table_trees.proofs.kept_rows.shown.ShownRowValues.value.Goals as goal

pub first_part-requires : goal.first_part-requires
first_part-requires c =
    let values = table_long_values c.self.inside.trees.now.tables c.self.inside.table.0 in
    let apart = apart_seen values c.self.inside.row c.args.self.now c.args.column.0 c.args.at (c.in-Some.entry, c.in-Some.place, c.in-Some.field-0-2) (sym c.self.view_is) c.self.invariant.1 c.in-Some.ensures in
    there_some c.in-Some.field-0-2 (value_of (identifier c.in-Some.entry c.in-Some.place) values) apart.long

pub returns-in-Some-clause-found : goal.returns-in-Some-clause-found
returns-in-Some-clause-found c =
    let values = table_long_values c.self.inside.trees.now.tables c.self.inside.table.0 in
    let apart = apart_seen values c.self.inside.row c.args.self.now c.args.column.0 c.args.at (c.in-Some.entry, c.in-Some.place, c.in-Some.field-0-2) (sym c.self.view_is) c.self.invariant.1 c.in-Some.ensures in
    (apart.within, first_front c.in-Some.field-0-2 (value_of (identifier c.in-Some.entry c.in-Some.place) values) c.first_part.result.now (slice_index_or (values_of c.args.self.now c.args.column.0) c.args.at []) apart.long apart.bytes c.first_part.ensures)

pub returns-in-None-clause-found : goal.returns-in-None-clause-found
returns-in-None-clause-found c =
    let values = table_long_values c.self.inside.trees.now.tables c.self.inside.table.0 in
    as_seen (λ (n : ℕ) (x : List ℕ). MatchOption c.value.result (n ≤ c.args.at) (λ bytes. (c.args.at < n) × IsFront bytes.now x)) values c.self.inside.row c.args.self.now c.args.column.0 c.args.at (sym c.self.view_is) c.in-None.ensures c.value.ensures

pub returns-in-Some-clause-front : goal.returns-in-Some-clause-front
returns-in-Some-clause-front c =
    let values = table_long_values c.self.inside.trees.now.tables c.self.inside.table.0 in
    let apart = apart_seen values c.self.inside.row c.args.self.now c.args.column.0 c.args.at (c.in-Some.entry, c.in-Some.place, c.in-Some.field-0-2) (sym c.self.view_is) c.self.invariant.1 c.in-Some.ensures in
    first_bytes c.in-Some.field-0-2 (value_of (identifier c.in-Some.entry c.in-Some.place) values) c.first_part.result.now (slice_index_or (values_of c.args.self.now c.args.column.0) c.args.at []) apart.long apart.bytes c.first_part.ensures

pub returns-in-None-clause-front : goal.returns-in-None-clause-front
returns-in-None-clause-front c =
    let values = table_long_values c.self.inside.trees.now.tables c.self.inside.table.0 in
    front_of_some (length (values_of (here_fields c.self.inside.row) c.args.column.0) ≤ c.args.at)
    (λ bytes. (c.args.at < length (values_of (here_fields c.self.inside.row) c.args.column.0)) × IsFront bytes.now (slice_index_or (values_of (here_fields c.self.inside.row) c.args.column.0) c.args.at []))
    (λ bytes. bytes.now ≡ take 1024 (slice_index_or (values_of c.args.self.now c.args.column.0) c.args.at []))
    (λ bytes found. here_front values c.self.inside.row c.args.self.now c.args.column.0 c.args.at bytes.now (sym c.self.view_is) c.self.invariant.0 c.in-None.ensures found)
    c.value.result c.value.ensures
