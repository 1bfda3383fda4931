use Rattle.std.proofs.Common.{◌<◌, ◌≤◌, ℕ, List, [], sym}
use Rattle.std.specs.Prelude.{MatchOption, slice_index_or}
use Rattle.btree_inplace.specs.Trees.{nodes_of}
use Rattle.column_set.specs.Reading.{IsFront}
use Rattle.column_set.specs.RecordValues.{values_of}
use Rattle.image_contents.proofs.ReadRows.{apart_seen, as_seen, first_front, there_some}
use Rattle.image_contents.proofs.rows.shown.ImageRowValues.value.Goals as goal
use Rattle.long_rows.specs.RowReferences.{identifier}
use Rattle.long_value.specs.Shown.{shown_values}
use Rattle.long_value.specs.Values.{value_of}

pub first_part-requires-clause-tree : goal.first_part-requires-clause-tree
first_part-requires-clause-tree c = c.self.invariant.0

pub first_part-requires-clause-values : goal.first_part-requires-clause-values
first_part-requires-clause-values c = c.self.invariant.1

pub first_part-requires-clause-there : goal.first_part-requires-clause-there
first_part-requires-clause-there c =
    let values = shown_values (nodes_of c.self.inside.space.now c.self.inside.long_values.now) in
    let apart = apart_seen values c.self.inside.row c.args.self.now c.args.column.0 c.args.at (c.in-Some.entry, c.in-Some.place, c.in-Some.field-0-2) (sym c.self.view_is) c.self.invariant.2 c.in-Some.ensures in
    there_some c.in-Some.field-0-2 (value_of (identifier c.in-Some.entry c.in-Some.place) values) apart.long

pub returns-in-Some : goal.returns-in-Some
returns-in-Some c =
    let values = shown_values (nodes_of c.self.inside.space.now c.self.inside.long_values.now) in
    let apart = apart_seen values c.self.inside.row c.args.self.now c.args.column.0 c.args.at (c.in-Some.entry, c.in-Some.place, c.in-Some.field-0-2) (sym c.self.view_is) c.self.invariant.2 c.in-Some.ensures in
    (apart.within, first_front c.in-Some.field-0-2 (value_of (identifier c.in-Some.entry c.in-Some.place) values) c.first_part.result.now (slice_index_or (values_of c.args.self.now c.args.column.0) c.args.at []) apart.long apart.bytes c.first_part.ensures)

pub returns-in-None : goal.returns-in-None
returns-in-None c =
    let values = shown_values (nodes_of c.self.inside.space.now c.self.inside.long_values.now) in
    as_seen (λ (n : ℕ) (x : List ℕ). MatchOption c.value.result (n ≤ c.args.at) (λ bytes. (c.args.at < n) × IsFront bytes.now x)) values c.self.inside.row c.args.self.now c.args.column.0 c.args.at (sym c.self.view_is) c.in-None.ensures c.value.ensures
