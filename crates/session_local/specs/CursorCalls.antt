-- Cursors and navigation.
use Rattle.std.specs.Prelude.{ℕ, ◌==◌, Bool, not, ◌&&◌, ◌||◌, nat_le, nat_lt, length, List, [], ◌∷◌, slice_get, Option, Some, None, is_some, is_none, bytes_eq, find}
use Rattle.jet_base.specs.declared.replies.Jet.TheVariants as jet
use Rattle.jet_base.specs.declared.words.Given.{Given}
use Rattle.jet_base.specs.declared.words.Way.{Way}
use Rattle.jet_base.specs.Given.{given_fits}
use Rattle.index_derive.specs.declared.rules.IndexRule.{IndexRule}
use Rattle.index_derive.specs.declared.rules.Segment.{Segment}
use Rattle.index_derive.specs.declared.entries.Place.TheVariants.{On}
use Rattle.index_derive.specs.declared.log.EntryKind.TheVariants as entry
use Rattle.cursor_nav.specs.declared.seek_by.SeekBy.{SeekBy}
use Rattle.cursor_nav.specs.Places.{Pair, least_entry_of, place_key, place_bookmark}
use Rattle.cursor_nav.specs.Navigation.{MadeKey, new_cursor, moved, index_set, sought, ranged, count_from, without_range}
use Rattle.cursor_nav.specs.MakingKeys.{begun_key, segment_kind, with_segment}
use Rattle.database_state.specs.Table.{Table, row_at, schema_of, primary_order, table_named}
use Rattle.index_derive.specs.Schemas.{rule_with_id}
use Rattle.session_local.specs.Answer.{ShownValue, Nothing, Count, Bytes}
use Rattle.session_local.specs.Local.{OpenCursor, cursor_labelled, with_cursor, with_new_cursor, without_cursor}
use Rattle.session_local.specs.Outcome.{CallInputs, Outcome, said, refused, done, navigated, unless, one, rows_seen, entries_seen, number_refusals, current_refusals}

-- whole bytes, as the reply shows them
abbrev pub whole : List ℕ → ShownValue
whole bytes = Bytes bytes (length bytes)

-- ---- opening and closing

abbrev pub opened : CallInputs → ℕ → Option Table → Outcome
opened asked label None = refused asked jet.ObjectNotFound
opened asked label (Some table) =
    unless asked (number_refusals asked)
    (λ _. done
    (with_new_cursor asked.local (record {
      label = label;
      schema = schema_of table;
      cursor = new_cursor table.id (primary_order (schema_of table));
      prepared = None;
    }))
    Nothing
    (one asked (entry.Open (record { 0 = table.id }))))

-- A new cursor stands before the first entry of the primary order.
abbrev pub open_table : CallInputs → ℕ → List ℕ → Outcome
open_table asked label name =
    unless asked
    ((is_some (cursor_labelled asked.local label), jet.InvalidTableId) ∷ (nat_le 16 (length asked.local.cursors), jet.OutOfCursors) ∷ [])
    (λ _. opened asked label (table_named asked.state.tables name))

abbrev pub close_table : CallInputs → OpenCursor → Outcome
close_table asked open_cursor = done (without_cursor asked.local open_cursor.label) Nothing (one asked (entry.Shut (record { 0 = open_cursor.cursor.table })))

-- ---- the current index

abbrev pub index_chosen : CallInputs → OpenCursor → ℕ → Outcome
index_chosen asked open_cursor index =
    done (with_cursor asked.local (record open_cursor { cursor = index_set open_cursor.cursor (entries_seen asked open_cursor index) index })) Nothing None

abbrev pub index_chosen_by : CallInputs → OpenCursor → Option IndexRule → Outcome
index_chosen_by asked open_cursor None = refused asked jet.IndexNotFound
index_chosen_by asked open_cursor (Some rule) = index_chosen asked open_cursor rule.id.0

-- Without a name it is the primary order.
abbrev pub set_current_index : CallInputs → OpenCursor → Option (List ℕ) → Outcome
set_current_index asked open_cursor None = index_chosen asked open_cursor (primary_order open_cursor.schema)
set_current_index asked open_cursor (Some name) = index_chosen_by asked open_cursor (find (λ r. bytes_eq r.name name) open_cursor.schema.indexes)

-- ---- moves and seeks

abbrev pub current_entries : CallInputs → OpenCursor → List Pair
current_entries asked open_cursor = entries_seen asked open_cursor open_cursor.cursor.index

abbrev pub move_cursor : CallInputs → OpenCursor → Way → Outcome
move_cursor asked open_cursor to = navigated asked open_cursor (moved open_cursor.cursor (current_entries asked open_cursor) to)

abbrev pub seek_key : CallInputs → OpenCursor → SeekBy → Outcome
seek_key asked open_cursor seek = navigated asked open_cursor (sought open_cursor.cursor (current_entries asked open_cursor) seek)

abbrev pub set_index_range : CallInputs → OpenCursor → Bool → Bool → Outcome
set_index_range asked open_cursor upper inclusive = navigated asked open_cursor (ranged open_cursor.cursor (current_entries asked open_cursor) upper inclusive)

abbrev pub remove_index_range : CallInputs → OpenCursor → Outcome
remove_index_range asked open_cursor = done (with_cursor asked.local (record open_cursor { cursor = without_range open_cursor.cursor })) Nothing None

-- ---- keys

abbrev pub segment_made : CallInputs → OpenCursor → IndexRule → MadeKey → Given → Option Segment → Outcome
segment_made asked open_cursor rule key value None = refused asked jet.KeyIsMade
segment_made asked open_cursor rule key value (Some segment) =
    let type = segment_kind open_cursor.schema.columns segment in
    unless asked ((not (given_fits type value), jet.InvalidBufferSize) ∷ [])
    (λ _. done
    (with_cursor asked.local (record open_cursor { cursor = record open_cursor.cursor { key = Some (with_segment rule type segment value key) } }))
    Nothing None)

abbrev pub key_made_in : CallInputs → OpenCursor → Bool → Given → Option IndexRule → Outcome
key_made_in asked open_cursor fresh value None = refused asked jet.NoCurrentIndex
key_made_in asked open_cursor fresh value (Some rule) =
    unless asked ((not fresh && is_none open_cursor.cursor.key, jet.KeyNotMade) ∷ [])
    (λ _. let key = begun_key fresh open_cursor.cursor.key in
    segment_made asked open_cursor rule key value (slice_get rule.segments key.segments))

-- The next segment of a key in the current index. The order of hidden keys has none.
abbrev pub make_key : CallInputs → OpenCursor → Bool → Given → Outcome
make_key asked open_cursor fresh value = key_made_in asked open_cursor fresh value (rule_with_id open_cursor.schema open_cursor.cursor.index)

-- ---- what the place shows

abbrev pub index_record_count : CallInputs → OpenCursor → Option ℕ → Outcome
index_record_count asked open_cursor most =
    let place = open_cursor.cursor.place in
    unless asked (current_refusals (rows_seen asked open_cursor) place)
    (λ _. said asked jet.Success (Count (count_from open_cursor.cursor (current_entries asked open_cursor) (place_key place, place_bookmark place) most)))

abbrev pub retrieve_key : CallInputs → OpenCursor → Outcome
retrieve_key asked open_cursor =
    unless asked (current_refusals (rows_seen asked open_cursor) open_cursor.cursor.place)
    (λ _. said asked jet.Success (whole (place_key open_cursor.cursor.place)))

abbrev pub get_bookmark : CallInputs → OpenCursor → Outcome
get_bookmark asked open_cursor =
    unless asked (current_refusals (rows_seen asked open_cursor) open_cursor.cursor.place)
    (λ _. said asked jet.Success (whole (place_bookmark open_cursor.cursor.place)))

abbrev pub gone_to : CallInputs → OpenCursor → Option Pair → Outcome
gone_to asked open_cursor None = refused asked jet.NoCurrentRecord
gone_to asked open_cursor (Some entry) =
    done (with_cursor asked.local (record open_cursor { cursor = record open_cursor.cursor { place = On entry.0 entry.1; range = None } })) Nothing None

-- The place is the record's least entry in the current index; a range ends, and after a refusal nothing moved.
abbrev pub goto_bookmark : CallInputs → OpenCursor → List ℕ → Outcome
goto_bookmark asked open_cursor bookmark =
    unless asked
    (((length bookmark == 0) || nat_lt 255 (length bookmark), jet.InvalidBookmark)
    ∷ (is_none (row_at (rows_seen asked open_cursor) bookmark), jet.RecordDeleted) ∷ [])
    (λ _. gone_to asked open_cursor (least_entry_of bookmark (current_entries asked open_cursor)))
