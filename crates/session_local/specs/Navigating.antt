-- What a call that moves a cursor comes to, over any view of the indexes and the records.
use Rattle.std.specs.Prelude.{ℕ, Bool, List, Option, Some, None, find, bytes_eq}
use Rattle.jet_base.specs.declared.replies.Jet.TheVariants as jet
use Rattle.index_derive.specs.declared.rules.IndexRule.{IndexRule}
use Rattle.cursor_nav.specs.Places.{Pair}
use Rattle.cursor_nav.specs.Navigation.{CursorState, Navigated, moved, index_set, sought, ranged, gone_to}
use Rattle.database_state.specs.Table.{primary_order}
use Rattle.session_local.specs.declared.request.Request.{Request}
use Rattle.session_local.specs.declared.request.Request.TheVariants as call
use Rattle.session_local.specs.Local.{LocalState, OpenCursor, with_cursor}

-- the sorted entries of an index of a table, and whether a table has a record under a bookmark
abbrev pub EntriesOf : Type 0
EntriesOf = ℕ → ℕ → List Pair

abbrev pub RecordsOf : Type 0
RecordsOf = ℕ → List ℕ → Bool

abbrev pub set_to : EntriesOf → CursorState → ℕ → Navigated
set_to entries cursor index = record { jet = jet.Success; cursor = index_set cursor (entries cursor.table index) index }

abbrev pub set_to_rule : EntriesOf → CursorState → Option IndexRule → Navigated
set_to_rule entries cursor None = record { jet = jet.IndexNotFound; cursor = cursor }
set_to_rule entries cursor (Some rule) = set_to entries cursor rule.id.0

-- the current index by name, or the primary order without one
abbrev pub set_to_named : EntriesOf → OpenCursor → Option (List ℕ) → Navigated
set_to_named entries c None = set_to entries c.cursor (primary_order c.schema)
set_to_named entries c (Some name) = set_to_rule entries c.cursor (find (λ rule. bytes_eq rule.name name) c.schema.indexes)

-- what the call answers at its cursor, and where it leaves it; any other call leaves it as it is
abbrev pub navigated_by : EntriesOf → RecordsOf → OpenCursor → Request → Navigated
navigated_by entries has_record c (call.SetCurrentIndex cursor index) = set_to_named entries c index
navigated_by entries has_record c (call.Move cursor way) = moved c.cursor (entries c.cursor.table c.cursor.index) way
navigated_by entries has_record c (call.Seek cursor by) = sought c.cursor (entries c.cursor.table c.cursor.index) by
navigated_by entries has_record c (call.SetIndexRange cursor upper inclusive) = ranged c.cursor (entries c.cursor.table c.cursor.index) upper inclusive
navigated_by entries has_record c (call.GotoBookmark cursor bookmark) = gone_to c.cursor (entries c.cursor.table c.cursor.index) (has_record c.cursor.table) bookmark
navigated_by entries has_record c _ = record { jet = jet.Success; cursor = c.cursor }

-- the session's own state after the call
abbrev pub navigated_on : LocalState → Option OpenCursor → (OpenCursor → Navigated) → LocalState
navigated_on local None move = local
navigated_on local (Some c) move = with_cursor local (record c { cursor = (move c).cursor })
