-- States of which something is forgotten, for worked examples.
use Rattle.std.specs.Prelude.{ℕ, Bool, false, List, [], ◌∷◌, map, Option, Some, None, slice_get, unwrap_or, if◌then◌else◌}
use Rattle.jet_base.specs.Ids.{column_id}
use Rattle.index_derive.specs.declared.rules.IndexRule.{IndexRule}
use Rattle.index_derive.specs.Entries.{key_list}
use Rattle.column_set.specs.RecordValues.{RecordFields}
use Rattle.database_state.specs.Changes.{is_sum}
use Rattle.database_state.specs.Conflicts.{has_key_conflict}
use Rattle.database_state.specs.Equivalence.{essence}
use Rattle.database_state.specs.State.{DatabaseState, PastChange, is_undone}
use Rattle.database_state.specs.VersionStore.{from_oldest_needed}
use Rattle.examples_definitions.specs.States.{fields, put, unique_rule}
use Rattle.examples_definitions.specs.Runs.{sample_schema}

-- without the changes before the oldest needed one
abbrev pub cleaned : DatabaseState → DatabaseState
cleaned state = record state { past = from_oldest_needed state.sessions state.past }

-- an undone change with this record before it, and as a put of no value
abbrev undone_as : Option RecordFields → PastChange → PastChange
undone_as before item = if is_undone item.status then record item { change = put 3 []; before = before; after = None } else item

abbrev pub with_undone : Option RecordFields → DatabaseState → DatabaseState
with_undone before state = record state { past = map (undone_as before) state.past }

-- a sum with this record before and after it
abbrev sum_with : RecordFields → PastChange → PastChange
sum_with values item = if is_sum item.change then record item { before = Some values; after = Some values } else item

abbrev pub with_sums : RecordFields → DatabaseState → DatabaseState
with_sums values state = record state { past = map (sum_with values) state.past }

-- the numbers of the changes that a state's essence keeps, and what they cost
abbrev pub numbers_kept : DatabaseState → List ℕ
numbers_kept state = map (λ e. e.item.number) (essence state).past

abbrev pub costs_kept : DatabaseState → List ℕ
costs_kept state = map (λ e. e.cost) (essence state).past

-- an index on the sum, as none is made
abbrev pub sum_rule : IndexRule
sum_rule = record unique_rule { segments = record { column = column_id 3; descending = false } ∷ [] }

-- whether a session would meet a key of the sum there
abbrev pub meets_sum : DatabaseState → ℕ → ℕ → Bool
meets_sum state session n = has_key_conflict state session 1 sample_schema sum_rule (unwrap_or (slice_get (key_list sum_rule sample_schema (fields 0 0 n)) 0) [])
