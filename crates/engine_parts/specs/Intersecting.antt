-- What the ranges of several cursors have in common, over any view of the indexes and the records.
use Rattle.std.specs.Prelude.{ℕ, ◌==◌, Bool, true, false, List, [], ◌∷◌, ◌++◌, Option, Some, None, Result, Ok, Err, if◌then◌else◌}
use Rattle.std.specs.List.{list_all}
use Rattle.jet_base.specs.declared.ids.CursorId.{CursorId}
use Rattle.jet_base.specs.declared.replies.Jet.{Jet}
use Rattle.jet_base.specs.declared.replies.Jet.TheVariants as jet
use Rattle.cursor_nav.specs.declared.cursor.Moved.{Moved}
use Rattle.cursor_nav.specs.Navigation.{CursorState, answer_of, current_answer}
use Rattle.index_intersect.specs.CursorRanges.{cursor_range}
use Rattle.index_intersect.specs.Intersection.{intersection}
use Rattle.index_intersect.specs.declared.ranges.IndexRange.{IndexRange}
use Rattle.session_local.specs.declared.decision.Decision.{Decision}
use Rattle.session_local.specs.declared.reply.Value.TheVariants as value
use Rattle.session_local.specs.Local.{LocalState, OpenCursor, cursor_labelled}
use Rattle.session_local.specs.Navigating.{EntriesOf, RecordsOf}
use Rattle.temp_table.specs.TempRows.{TempRows}

-- the range of a cursor that is on a record that is there, or the refusal
abbrev pub range_if : Result Moved Jet → CursorState → Result IndexRange Jet
range_if (Ok moved) cursor = Ok (cursor_range cursor)
range_if (Err reply) cursor = Err reply

abbrev pub range_at : RecordsOf → Option OpenCursor → Result IndexRange Jet
range_at has_record None = Err jet.InvalidTableId
range_at has_record (Some c) = range_if (answer_of (current_answer (has_record c.cursor.table) c.cursor.place) 0) c.cursor

-- what follows a range, or its refusal
abbrev pub ranges_if : Result IndexRange Jet → (IndexRange → Result (List IndexRange) Jet) → Result (List IndexRange) Jet
ranges_if (Ok range) next = next range
ranges_if (Err reply) next = Err reply

-- the ranges of the cursors with these labels behind others, or the first refusal
abbrev pub ranges_behind : RecordsOf → LocalState → List IndexRange → List CursorId → Result (List IndexRange) Jet
ranges_behind has_record local ranges [] = Ok ranges
ranges_behind has_record local ranges (label ∷ labels) = ranges_if (range_at has_record (cursor_labelled local label.0)) (λ range. ranges_behind has_record local (ranges ++ range ∷ []) labels)

abbrev pub are_of_one_table : List IndexRange → Bool
are_of_one_table [] = true
are_of_one_table (first ∷ others) = list_all (λ other. other.table.0 == first.table.0) others

-- the bookmarks that lie in ranges of one table, or the refusal
abbrev pub common_of : EntriesOf → Result (List IndexRange) Jet → Result (List (List ℕ)) Jet
common_of entries (Err reply) = Err reply
common_of entries (Ok ranges) = if are_of_one_table ranges then Ok (intersection entries ranges) else Err jet.InvalidParameter

abbrev pub common_at : EntriesOf → RecordsOf → LocalState → List CursorId → Result (List (List ℕ)) Jet
common_at entries has_record local labels = common_of entries (ranges_behind has_record local [] labels)

-- a temporary table that was filled, with so many rows
abbrev pub filled_decision : TempRows → ℕ → Decision
filled_decision table count = record { step = None; reply = record { jet = jet.Success; value = value.Count count }; table = None; copied = None; temp = Some table; buffers = None; flush = false }
