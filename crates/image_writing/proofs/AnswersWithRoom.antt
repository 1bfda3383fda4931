-- What the calls are answered in a state and in one with another past, which differ in the room in the version store alone.
use Rattle.std.proofs.Common.{◌≡◌, ℕ, ◌+◌, ◌-◌, ◌<◌, ◌⊎◌, inl, inr, Bool, true, false, not, ◌&&◌, ◌||◌, cond, List, [], ◌∷◌, ◌++◌, Option, Some, None, Result, Ok, Err, length, refl, sym, ap, ◌∙◌, subst, arith}
use Rattle.std.specs.Prelude.{◌==◌, ℤ, pos, nat_lt, nat_le, filter, find, flat_map, is_none, is_some, slice_get, unwrap_or, if◌then◌else◌, bytes_eq}
use Rattle.std.specs.List.{list_any}
use Rattle.jet_base.specs.declared.ids.CursorId.{CursorId}
use Rattle.jet_base.specs.declared.replies.Jet.{Jet}
use Rattle.jet_base.specs.declared.replies.Jet.TheVariants as jet
use Rattle.jet_base.specs.declared.words.ColType.TheVariants as kind
use Rattle.jet_base.specs.declared.words.Given.{Given}
use Rattle.jet_base.specs.declared.words.Prepare.{Prepare}
use Rattle.jet_base.specs.declared.words.Prepare.TheVariants as prepare
use Rattle.jet_base.specs.ColumnType.{number_of}
use Rattle.jet_base.specs.Given.{given_fits}
use Rattle.column_set.specs.declared.columns.Column.{Column}
use Rattle.column_set.specs.declared.changes.Change.{Change}
use Rattle.column_set.specs.declared.changes.Change.TheVariants as change
use Rattle.column_set.specs.ChangedRecords.{changed_table, changed_bookmark}
use Rattle.column_set.specs.RecordValues.{RecordFields, column_named, is_missing_a_value, values_of}
use Rattle.column_set.specs.Refusals.{Refusals, first_refusal}
use Rattle.record_edit.specs.SetColumn.{set_refusals, size_refusals, fields_after}
use Rattle.index_derive.specs.declared.rules.IndexRule.{IndexRule}
use Rattle.index_derive.specs.declared.rules.Schema.{Schema}
use Rattle.index_derive.specs.declared.rules.Segment.{Segment}
use Rattle.index_derive.specs.declared.schema_calls.SchemaStep.{SchemaStep}
use Rattle.index_derive.specs.declared.log.EntryKind.TheVariants as entry
use Rattle.index_derive.specs.Entries.{is_unique, key_list}
use Rattle.index_derive.specs.Schemas.{primary_rule, rule_with_id}
use Rattle.cursor_nav.specs.Places.{Pair, least_entry_of, place_bookmark, place_key}
use Rattle.cursor_nav.specs.Navigation.{MadeKey, new_cursor, moved, index_set, sought, ranged, count_from}
use Rattle.cursor_nav.specs.MakingKeys.{begun_key, segment_kind, with_segment}
use Rattle.database_state.specs.Changes.{escrow_bytes}
use Rattle.database_state.specs.Conflicts.{collide, concurrent_changes, has_key_conflict, has_write_conflict, yields_key}
use Rattle.database_state.specs.Puts.{is_taken, key_refusals, new_keys, null_refusals, put_refusals, replaced_record}
use Rattle.database_state.specs.SchemaChanges.{schema_refusal}
use Rattle.database_state.specs.SchemaSteps.{table_step, deleted_table_step, column_step, deleted_column_step, index_step, deleted_index_step}
use Rattle.database_state.specs.State.{DatabaseState, PastChange, levels}
use Rattle.database_state.specs.Table.{Rows, Table, index_entries, primary_order, record_in, row_at, rows_of, schema_of, table_named, table_with_id}
use Rattle.database_state.specs.VersionStore.{cost_of, version_span}
use Rattle.database_state.specs.View.{newest, view}
use Rattle.session_local.specs.declared.request.Request.{Request}
use Rattle.session_local.specs.declared.request.Request.TheVariants as call
use Rattle.session_local.specs.Answer.{Nothing, Number, Count}
use Rattle.session_local.specs.Calls.{answer, answer_begun, answer_not_begun, prepare_update}
use Rattle.session_local.specs.CursorCalls.{close_table, current_entries, get_bookmark, move_cursor, remove_index_range, seek_key, set_index_range, gone_to, goto_bookmark, index_record_count, retrieve_key, index_chosen, index_chosen_by, key_made_in, make_key, opened, segment_made, set_current_index, whole}
use Rattle.session_local.specs.IntersectCalls.{are_of_one_table, common_bookmarks, common_in, current_cursor, current_cursors, current_or, filled_by, filled_with, intersect_indexes, joined}
use Rattle.session_local.specs.Local.{LocalState, OpenCursor, PreparedFor, PreparedUpdate, cursor_labelled, temp_labelled, with_cursor, with_new_cursor, without_prepared, inserting, replacing, new_session}
use Rattle.session_local.specs.Outcome.{CallInputs, Outcome, at_cursor, current_refusals, done, is_outside, navigated, number_refusals, on_cursor, one, refused, rows_seen, said, span_refusals, step_of_change, unless, unless_refused}
use Rattle.session_local.specs.RecordCalls.{bookmark_at, bookmark_for, column_shown, conflict_refusals, copied_in, current, delete, drop_at, escrow_update, get_lock, hold_at, inserted_bookmark, is_primary_changed, on_column, on_prepared, own_refusals, prepare_copy, prepare_replace, prepared_refusals, put_of, record_at, replaced_by, retrieve_column, retrieve_copy, set_column, set_column_in, sum_in, transaction_refusals, update, update_with, value_shown, with_prepared, with_sums_at_zero}
use Rattle.session_local.specs.SessionCalls.{begin_session}
use Rattle.session_local.specs.SchemaCalls.{schema_changed}
use Rattle.laws_engine.proofs.EquivalentLemmas.Lawful.{schema_alike}

-- the call, asked of the state with another past under another limit
abbrev pub again : CallInputs → ℕ → List PastChange → CallInputs
again asked limit past = record asked { limit = limit; state = record asked.state { past = past } }

-- What is read of the past, but for the span, is the same.
pub record ReadsAlike (asked : CallInputs) (past : List PastChange) : Type 0 where
  pub view : view asked.state asked.session ≡ view (record asked.state { past = past }) asked.session
  pub newest : newest asked.state ≡ newest (record asked.state { past = past })
  pub concurrent : concurrent_changes asked.state asked.session ≡ concurrent_changes (record asked.state { past = past }) asked.session

-- where there is room for a change, there is room for it in the other
abbrev pub FindsRoom : CallInputs → ℕ → List PastChange → Type 0
FindsRoom asked limit past =
    (cost : ℕ) → 0 < cost → nat_lt asked.limit (version_span asked.state + cost) ≡ false → nat_lt limit (version_span (record asked.state { past = past }) + cost) ≡ false

-- There is no room for the change, or the outcome is the same.
abbrev pub GoesWith : CallInputs → Outcome → Outcome → Type 0
GoesWith asked one other = (one ≡ refused asked jet.VersionStoreOutOfMemory) ⊎ (one ≡ other)

-- ---- refusals

refused_alike : (asked : CallInputs) (limit : ℕ) (past : List PastChange) (reply : Option Jet) (f g : Unit {0} → Outcome) → f tt ≡ g tt → unless_refused asked reply f ≡ unless_refused (again asked limit past) reply g
refused_alike asked limit past None f g e = e
refused_alike asked limit past (Some reply) f g e = refl

unless_alike : (asked : CallInputs) (limit : ℕ) (past : List PastChange) (r s : Refusals) (f g : Unit {0} → Outcome) → r ≡ s → f tt ≡ g tt → unless asked r f ≡ unless (again asked limit past) s g
unless_alike asked limit past r s f g same e = refused_alike asked limit past (first_refusal r) f g e ∙ ap (λ rs. unless_refused (again asked limit past) (first_refusal rs) g) same

plain_alike : (asked : CallInputs) (limit : ℕ) (past : List PastChange) (refusals : Refusals) (f : Unit {0} → Outcome) → unless asked refusals f ≡ unless (again asked limit past) refusals f
plain_alike asked limit past refusals f = unless_alike asked limit past refusals refusals f f refl refl

-- The first of them is for want of room, or they have the same first one.
record EndsWith (r s : Refusals) : Type 0 where
  first : (first_refusal r ≡ Some jet.VersionStoreOutOfMemory) ⊎ (first_refusal r ≡ first_refusal s)

one_more : (x : Bool × Jet) (r s : Refusals) → EndsWith r s → EndsWith (x ∷ r) (x ∷ s)
one_more x r s h = record { first = by x.0 }
  where
    by : (b : Bool) → (cond b (Some x.1) (first_refusal r) ≡ Some jet.VersionStoreOutOfMemory) ⊎ (cond b (Some x.1) (first_refusal r) ≡ cond b (Some x.1) (first_refusal s))
    by true = inr refl
    by false = h.first

more : (xs r s : Refusals) → EndsWith r s → EndsWith (xs ++ r) (xs ++ s)
more [] r s h = h
more (x ∷ xs) r s h = one_more x (xs ++ r) (xs ++ s) (more xs r s h)

more_alike : (xs ys r s : Refusals) → xs ≡ ys → EndsWith r s → EndsWith (xs ++ r) (ys ++ s)
more_alike xs ys r s e h = subst (λ (l : Refusals). EndsWith (xs ++ r) (l ++ s)) e (more xs r s h)

last : (a b : Bool) → (a ≡ false → b ≡ false) → EndsWith ((a, jet.VersionStoreOutOfMemory) ∷ []) ((b, jet.VersionStoreOutOfMemory) ∷ [])
last true b h = record { first = inl refl }
last false b h = record { first = inr (sym (ap (λ x. cond x (Some jet.VersionStoreOutOfMemory) None) (h refl))) }

unless_with : (asked : CallInputs) (limit : ℕ) (past : List PastChange) (r s : Refusals) (f g : Unit {0} → Outcome) → EndsWith r s → f tt ≡ g tt → GoesWith asked (unless asked r f) (unless (again asked limit past) s g)
unless_with asked limit past r s f g ends e = by ends.first
  where
    by : (first_refusal r ≡ Some jet.VersionStoreOutOfMemory) ⊎ (first_refusal r ≡ first_refusal s) → GoesWith asked (unless asked r f) (unless (again asked limit past) s g)
    by (inl full) = inl (ap (λ reply. unless_refused asked reply f) full)
    by (inr same) = inr (ap (λ reply. unless_refused asked reply f) same ∙ refused_alike asked limit past (first_refusal s) f g e)

-- what a change costs
costs_some : (made : Change) (before : Option RecordFields) → 0 < cost_of made before
costs_some (change.Put table bookmark copied values) before = omega arith
costs_some (change.Drop table bookmark) before = omega arith
costs_some (change.Hold table bookmark) before = omega arith
costs_some (change.Add table bookmark column amount) before = omega arith

span_with : (asked : CallInputs) (limit : ℕ) (past : List PastChange) → ReadsAlike asked past → FindsRoom asked limit past → (made other : Change) → made ≡ other → EndsWith (span_refusals asked made) (span_refusals (again asked limit past) other)
span_with asked limit past reads room made other same =
    subst (λ (s : Refusals). EndsWith (span_refusals asked made) s) there
    (last (nat_lt asked.limit (version_span asked.state + cost)) (nat_lt limit (version_span (again asked limit past).state + cost)) (room cost (costs_some made before)))
  where
    before : Option RecordFields
    before = record_in (newest asked.state) (changed_table made) (changed_bookmark made)

    cost : ℕ
    cost = cost_of made before

    there : ((nat_lt limit (version_span (again asked limit past).state + cost), jet.VersionStoreOutOfMemory) ∷ []) ≡ span_refusals (again asked limit past) other
    there = λ i. (nat_lt limit (version_span (again asked limit past).state + cost_of (same i) (record_in (reads.newest i) (changed_table (same i)) (changed_bookmark (same i)))), jet.VersionStoreOutOfMemory) ∷ []

-- ---- cursors, columns and updates

cursor_with : (asked : CallInputs) (limit : ℕ) (past : List PastChange) (label : ℕ) (f g : OpenCursor → Outcome) → ((c : OpenCursor) → GoesWith asked (f c) (g c)) → GoesWith asked (at_cursor asked label f) (at_cursor (again asked limit past) label g)
cursor_with asked limit past label f g e = by (cursor_labelled asked.local label)
  where
    by : (found : Option OpenCursor) → GoesWith asked (on_cursor asked found f) (on_cursor (again asked limit past) found g)
    by None = inr refl
    by (Some c) = e c

column_with : (asked : CallInputs) (limit : ℕ) (past : List PastChange) (found : Option Column) (f g : Column → Outcome) → ((column : Column) → GoesWith asked (f column) (g column)) → GoesWith asked (on_column asked found f) (on_column (again asked limit past) found g)
column_with asked limit past None f g e = inr refl
column_with asked limit past (Some column) f g e = e column

column_alike : (asked : CallInputs) (limit : ℕ) (past : List PastChange) (found : Option Column) (f g : Column → Outcome) → ((column : Column) → f column ≡ g column) → on_column asked found f ≡ on_column (again asked limit past) found g
column_alike asked limit past None f g e = refl
column_alike asked limit past (Some column) f g e = e column

prepared_alike : (asked : CallInputs) (limit : ℕ) (past : List PastChange) (found : Option PreparedUpdate) (f g : PreparedUpdate → Outcome) → ((prepared : PreparedUpdate) → f prepared ≡ g prepared)
    → on_prepared asked found f ≡ on_prepared (again asked limit past) found g
prepared_alike asked limit past None f g e = refl
prepared_alike asked limit past (Some prepared) f g e = e prepared

-- ---- what is read of the state

abbrev rows_in : OpenCursor → List Table → Rows
rows_in c tables = rows_of (table_with_id tables c.cursor.table)

abbrev entries_in : OpenCursor → ℕ → List Table → List Pair
entries_in c index tables = index_entries c.schema (rows_in c tables) index

abbrev record_under : OpenCursor → List Table → RecordFields
record_under c tables = unwrap_or (row_at (rows_in c tables) (bookmark_at c)) []

abbrev current_in : OpenCursor → List Table → Refusals
current_in c tables = current_refusals (rows_in c tables) c.cursor.place

conflict_alike : (asked : CallInputs) (limit : ℕ) (past : List PastChange) → ReadsAlike asked past → (made : Change) → conflict_refusals asked made ≡ conflict_refusals (again asked limit past) made
unfolding has_write_conflict
conflict_alike asked limit past reads made = ap (λ changes. (list_any (λ item. collide item.change made) changes, jet.WriteConflict) ∷ []) reads.concurrent

put_alike : (asked : CallInputs) (limit : ℕ) (past : List PastChange) → ReadsAlike asked past → (table : ℕ) (schema : Schema) (rows : Rows) (own : Option (List ℕ)) (values : RecordFields)
    → put_refusals asked.state asked.session table schema rows own values ≡ put_refusals (again asked limit past).state asked.session table schema rows own values
unfolding put_refusals has_key_conflict
put_alike asked limit past reads table schema rows own values =
    ap (λ changes. null_refusals schema values
    ++ flat_map (λ rule.
    (list_any (conflicts changes rule) (new_keys rule schema (replaced_record rows own) values), jet.WriteConflict)
    ∷ (list_any (is_taken schema rows rule own) (key_list rule schema values), jet.KeyDuplicate) ∷ [])
    (filter is_unique schema.indexes)) reads.concurrent
  where
    conflicts : List PastChange → IndexRule → List ℕ → Bool
    conflicts changes rule key = list_any (λ item. (changed_table item.change == table) && (yields_key rule schema key item.before || yields_key rule schema key item.after)) changes

-- ---- sessions, schemas, tables

schema_call_alike : (asked : CallInputs) (limit : ℕ) (past : List PastChange) (made : SchemaStep) → schema_changed asked made ≡ schema_changed (again asked limit past) made
schema_call_alike asked limit past made =
    refused_alike asked limit past (schema_refusal asked.state asked.session made) (next asked) (next (again asked limit past))
    (plain_alike asked limit past (number_refusals asked) (λ _. done asked.local Nothing (one asked (entry.Schema made))))
    ∙ ap (λ refusal. unless_refused (again asked limit past) refusal (next (again asked limit past))) (schema_alike asked.state past asked.session made)
  where
    next : CallInputs → Unit {0} → Outcome
    next a _ = unless a (number_refusals a) (λ _. done a.local Nothing (one a (entry.Schema made)))

opened_alike : (asked : CallInputs) (limit : ℕ) (past : List PastChange) (label : ℕ) (found : Option Table) → opened asked label found ≡ opened (again asked limit past) label found
opened_alike asked limit past label None = refl
opened_alike asked limit past label (Some table) =
    plain_alike asked limit past (number_refusals asked)
    (λ _. done
    (with_new_cursor asked.local (record { label = label; schema = schema_of table; cursor = new_cursor table.id (primary_order (schema_of table)); prepared = None }))
    Nothing (one asked (entry.Open (record { 0 = table.id }))))

begin_session_alike : (asked : CallInputs) (limit : ℕ) (past : List PastChange) → begin_session asked ≡ begin_session (again asked limit past)
begin_session_alike asked limit past =
    plain_alike asked limit past ((asked.local.begun, jet.SessionInUse) ∷ (nat_le 64 (length asked.state.sessions), jet.OutOfSessions) ∷ number_refusals asked)
    (λ _. done new_session Nothing (one asked entry.Enter))

-- ---- navigation

chosen_alike : (asked : CallInputs) (limit : ℕ) (past : List PastChange) → ReadsAlike asked past → (c : OpenCursor) (index : ℕ) → index_chosen asked c index ≡ index_chosen (again asked limit past) c index
chosen_alike asked limit past reads c index = λ i. done (with_cursor asked.local (record c { cursor = index_set c.cursor (entries_in c index (reads.view i)) index })) Nothing None

index_alike : (asked : CallInputs) (limit : ℕ) (past : List PastChange) → ReadsAlike asked past → (c : OpenCursor) (name : Option (List ℕ)) → set_current_index asked c name ≡ set_current_index (again asked limit past) c name
index_alike asked limit past reads c None = chosen_alike asked limit past reads c (primary_order c.schema)
index_alike asked limit past reads c (Some name) = by (find (λ r. bytes_eq r.name name) c.schema.indexes)
  where
    by : (rule : Option IndexRule) → index_chosen_by asked c rule ≡ index_chosen_by (again asked limit past) c rule
    by None = refl
    by (Some rule) = chosen_alike asked limit past reads c rule.id.0

key_alike : (asked : CallInputs) (limit : ℕ) (past : List PastChange) (c : OpenCursor) (fresh : Bool) (value : Given) (rule : Option IndexRule) → key_made_in asked c fresh value rule ≡ key_made_in (again asked limit past) c fresh value rule
key_alike asked limit past c fresh value None = refl
key_alike asked limit past c fresh value (Some rule) =
    unless_alike asked limit past ((not fresh && is_none c.cursor.key, jet.KeyNotMade) ∷ []) ((not fresh && is_none c.cursor.key, jet.KeyNotMade) ∷ [])
    (λ _. segment_made asked c rule key value (slice_get rule.segments key.segments)) (λ _. segment_made (again asked limit past) c rule key value (slice_get rule.segments key.segments)) refl
    (by (slice_get rule.segments key.segments))
  where
    key : MadeKey
    key = begun_key fresh c.cursor.key

    by : (segment : Option Segment) → segment_made asked c rule (begun_key fresh c.cursor.key) value segment ≡ segment_made (again asked limit past) c rule (begun_key fresh c.cursor.key) value segment
    by None = refl
    by (Some segment) =
        plain_alike asked limit past ((not (given_fits (segment_kind c.schema.columns segment) value), jet.InvalidBufferSize) ∷ [])
        (λ _. done
        (with_cursor asked.local (record c { cursor = record c.cursor { key = Some (with_segment rule (segment_kind c.schema.columns segment) segment value (begun_key fresh c.cursor.key)) } }))
        Nothing None)

count_alike : (asked : CallInputs) (limit : ℕ) (past : List PastChange) → ReadsAlike asked past → (c : OpenCursor) (most : Option ℕ) → index_record_count asked c most ≡ index_record_count (again asked limit past) c most
count_alike asked limit past reads c most =
    unless_alike asked limit past _ _ _ _ (λ i. current_in c (reads.view i))
    (λ i. said asked jet.Success (Count (count_from c.cursor (entries_in c c.cursor.index (reads.view i)) (place_key c.cursor.place, place_bookmark c.cursor.place) most)))

shown_key_alike : (asked : CallInputs) (limit : ℕ) (past : List PastChange) → ReadsAlike asked past → (c : OpenCursor) → retrieve_key asked c ≡ retrieve_key (again asked limit past) c
shown_key_alike asked limit past reads c = unless_alike asked limit past _ _ _ _ (λ i. current_in c (reads.view i)) refl

bookmark_alike : (asked : CallInputs) (limit : ℕ) (past : List PastChange) → ReadsAlike asked past → (c : OpenCursor) → get_bookmark asked c ≡ get_bookmark (again asked limit past) c
bookmark_alike asked limit past reads c = unless_alike asked limit past _ _ _ _ (λ i. current_in c (reads.view i)) refl

goto_alike : (asked : CallInputs) (limit : ℕ) (past : List PastChange) → ReadsAlike asked past → (c : OpenCursor) (bookmark : List ℕ) → goto_bookmark asked c bookmark ≡ goto_bookmark (again asked limit past) c bookmark
goto_alike asked limit past reads c bookmark =
    unless_alike asked limit past _ _ _ _
    (λ i. ((length bookmark == 0) || nat_lt 255 (length bookmark), jet.InvalidBookmark) ∷ (is_none (row_at (rows_in c (reads.view i)) bookmark), jet.RecordDeleted) ∷ [])
    (ap (λ tables. gone_to asked c (least_entry_of bookmark (entries_in c c.cursor.index tables))) reads.view ∙ by (least_entry_of bookmark (current_entries (again asked limit past) c)))
  where
    by : (found : Option Pair) → gone_to asked c found ≡ gone_to (again asked limit past) c found
    by None = refl
    by (Some entry) = refl

-- ---- intersections

current_alike : (asked : CallInputs) (limit : ℕ) (past : List PastChange) → ReadsAlike asked past → (found : Option OpenCursor) → current_cursor asked found ≡ current_cursor (again asked limit past) found
current_alike asked limit past reads None = refl
current_alike asked limit past reads (Some c) = λ i. current_or (first_refusal (current_in c (reads.view i))) c

cursors_alike : (asked : CallInputs) (limit : ℕ) (past : List PastChange) → ReadsAlike asked past → (labels : List CursorId) → current_cursors asked labels ≡ current_cursors (again asked limit past) labels
cursors_alike asked limit past reads [] = refl
cursors_alike asked limit past reads (label ∷ labels) = λ i. joined (current_alike asked limit past reads (cursor_labelled asked.local label.0) i) (cursors_alike asked limit past reads labels i)

filled_alike : (asked : CallInputs) (limit : ℕ) (past : List PastChange) → ReadsAlike asked past → (temp : CursorId) (found : Result (List OpenCursor) Jet) → filled_by asked temp found ≡ filled_by (again asked limit past) temp found
filled_alike asked limit past reads temp (Err reply) = refl
filled_alike asked limit past reads temp (Ok cursors) =
    let refusals : Refusals = (not (are_of_one_table cursors), jet.InvalidParameter) ∷ [] in
    unless_alike asked limit past refusals refusals
    (λ _. filled_with asked temp (common_bookmarks asked cursors)) (λ _. filled_with (again asked limit past) temp (common_bookmarks (again asked limit past) cursors))
    refl
    (λ i. filled_with asked temp (common_in (reads.view i) cursors))

intersect_alike : (asked : CallInputs) (limit : ℕ) (past : List PastChange) → ReadsAlike asked past → (temp : CursorId) (labels : List CursorId) → intersect_indexes asked temp labels ≡ intersect_indexes (again asked limit past) temp labels
intersect_alike asked limit past reads temp labels =
    let refusals : Refusals = (is_some (temp_labelled asked.local.temps temp), jet.InvalidTableId) ∷ (nat_le 4 (length asked.local.temps), jet.OutOfCursors) ∷ [] in
    unless_alike asked limit past refusals refusals
    (λ _. filled_by asked temp (current_cursors asked labels)) (λ _. filled_by (again asked limit past) temp (current_cursors (again asked limit past) labels))
    refl
    (filled_alike asked limit past reads temp (current_cursors asked labels) ∙ ap (filled_by (again asked limit past) temp) (cursors_alike asked limit past reads labels))

-- ---- prepared updates

copy_alike : (asked : CallInputs) (limit : ℕ) (past : List PastChange) → ReadsAlike asked past → (c : OpenCursor) → prepare_copy asked c ≡ prepare_copy (again asked limit past) c
copy_alike asked limit past reads c =
    unless_alike asked limit past _ _ _ _ (λ i. prepared_refusals c ++ current_in c (reads.view i))
    (λ i. done (with_prepared asked c (Some (record { for = inserting (Some (bookmark_at c)); values = with_sums_at_zero c.schema.columns (record_under c (reads.view i)) }))) Nothing None)

-- what a change asks in the end: conflicts, the number, and room
change_with : (asked : CallInputs) (limit : ℕ) (past : List PastChange) → ReadsAlike asked past → FindsRoom asked limit past → (made : Change)
    → EndsWith (conflict_refusals asked made ++ number_refusals asked ++ span_refusals asked made) (conflict_refusals (again asked limit past) made ++ number_refusals (again asked limit past) ++ span_refusals (again asked limit past) made)
change_with asked limit past reads room made =
    more_alike (conflict_refusals asked made) (conflict_refusals (again asked limit past) made) (number_refusals asked ++ span_refusals asked made) (number_refusals asked ++ span_refusals (again asked limit past) made)
    (conflict_alike asked limit past reads made)
    (more (number_refusals asked) (span_refusals asked made) (span_refusals (again asked limit past) made) (span_with asked limit past reads room made made refl))

-- and before that the record under the cursor
record_with : (asked : CallInputs) (limit : ℕ) (past : List PastChange) → ReadsAlike asked past → (c : OpenCursor) (r s : Refusals) → EndsWith r s → EndsWith (current asked c ++ r) (current (again asked limit past) c ++ s)
record_with asked limit past reads c r s h = more_alike (current asked c) (current (again asked limit past) c) r s (λ i. current_in c (reads.view i)) h

replace_with : (asked : CallInputs) (limit : ℕ) (past : List PastChange) → ReadsAlike asked past → FindsRoom asked limit past → (c : OpenCursor) → GoesWith asked (prepare_replace asked c) (prepare_replace (again asked limit past) c)
replace_with asked limit past reads room c =
    unless_with asked limit past _ _ _ _
    (more (prepared_refusals c) _ _ (more (transaction_refusals asked) _ _ (record_with asked limit past reads c _ _ (more (own_refusals asked c) _ _ (change_with asked limit past reads room (hold_at c))))))
    (λ i. done (with_prepared asked c (Some (record { for = replacing (bookmark_at c); values = record_under c (reads.view i) }))) Nothing (step_of_change asked (hold_at c)))

prepare_with : (asked : CallInputs) (limit : ℕ) (past : List PastChange) → ReadsAlike asked past → FindsRoom asked limit past → (c : OpenCursor) (how : Prepare) → GoesWith asked (prepare_update asked c how) (prepare_update (again asked limit past) c how)
prepare_with asked limit past reads room c prepare.Insert =
    inr (plain_alike asked limit past (prepared_refusals c) (λ _. done (with_prepared asked c (Some (record { for = inserting None; values = with_sums_at_zero c.schema.columns [] }))) Nothing None))
prepare_with asked limit past reads room c prepare.InsertCopy = inr (copy_alike asked limit past reads c)
prepare_with asked limit past reads room c prepare.Replace = replace_with asked limit past reads room c
prepare_with asked limit past reads room c prepare.Cancel = inr (plain_alike asked limit past ((is_none c.prepared, jet.UpdateNotPrepared) ∷ []) (λ _. done (with_prepared asked c None) Nothing None))

set_alike : (asked : CallInputs) (limit : ℕ) (past : List PastChange) (c : OpenCursor) (name : List ℕ) (sequence : ℕ) (value : Given) → set_column asked c name sequence value ≡ set_column (again asked limit past) c name sequence value
set_alike asked limit past c name sequence value =
    prepared_alike asked limit past c.prepared (λ prepared. on_column asked (column_named c.schema.columns name) (set_column_in asked c prepared sequence value))
    (λ prepared. on_column (again asked limit past) (column_named c.schema.columns name) (set_column_in (again asked limit past) c prepared sequence value))
    (λ prepared. column_alike asked limit past (column_named c.schema.columns name) (set_column_in asked c prepared sequence value) (set_column_in (again asked limit past) c prepared sequence value) (by prepared))
  where
    set : PreparedUpdate → Column → Unit {0} → Outcome
    set prepared column _ = done (with_prepared asked c (Some (record prepared { values = fields_after column sequence value prepared.values }))) Nothing None

    by : (prepared : PreparedUpdate) (column : Column) → set_column_in asked c prepared sequence value column ≡ set_column_in (again asked limit past) c prepared sequence value column
    by prepared column =
        unless_alike asked limit past (set_refusals column sequence value prepared.values) (set_refusals column sequence value prepared.values)
        (λ _. unless asked (size_refusals column sequence value prepared.values) (set prepared column)) (λ _. unless (again asked limit past) (size_refusals column sequence value prepared.values) (set prepared column)) refl
        (plain_alike asked limit past (size_refusals column sequence value prepared.values) (set prepared column))

-- ---- columns

value_alike : (asked : CallInputs) (limit : ℕ) (past : List PastChange) (column : Column) (most : ℕ) (value : Option (List ℕ)) → value_shown asked column most value ≡ value_shown (again asked limit past) column most value
value_alike asked limit past column most None = refl
value_alike asked limit past column most (Some value) = refl

shown_alike : (asked : CallInputs) (limit : ℕ) (past : List PastChange) (sequence most : ℕ) (fields : RecordFields) (column : Column) → column_shown asked sequence most fields column ≡ column_shown (again asked limit past) sequence most fields column
shown_alike asked limit past sequence most fields column =
    ap (λ (o : Outcome). cond (sequence == 0) (said asked jet.Success (Number (pos (length (values_of fields column.id.0))))) o) (value_alike asked limit past column most (slice_get (values_of fields column.id.0) (sequence - 1)))

retrieve_alike : (asked : CallInputs) (limit : ℕ) (past : List PastChange) → ReadsAlike asked past → (c : OpenCursor) (name : List ℕ) (sequence most : ℕ) → retrieve_column asked c name sequence most ≡ retrieve_column (again asked limit past) c name sequence most
retrieve_alike asked limit past reads c name sequence most =
    unless_alike asked limit past _ _ _ _ (λ i. current_in c (reads.view i))
    (column_alike asked limit past (column_named c.schema.columns name) (column_shown asked sequence most (record_at asked c)) (column_shown (again asked limit past) sequence most (record_at (again asked limit past) c))
    (λ column. shown_alike asked limit past sequence most (record_at asked c) column ∙ ap (λ tables. column_shown (again asked limit past) sequence most (record_under c tables) column) reads.view))

own_copy_alike : (asked : CallInputs) (limit : ℕ) (past : List PastChange) (c : OpenCursor) (name : List ℕ) (sequence most : ℕ) → retrieve_copy asked c name sequence most ≡ retrieve_copy (again asked limit past) c name sequence most
own_copy_alike asked limit past c name sequence most =
    prepared_alike asked limit past c.prepared (λ prepared. on_column asked (column_named c.schema.columns name) (column_shown asked sequence most prepared.values))
    (λ prepared. on_column (again asked limit past) (column_named c.schema.columns name) (column_shown (again asked limit past) sequence most prepared.values))
    (λ prepared. column_alike asked limit past (column_named c.schema.columns name) (column_shown asked sequence most prepared.values) (column_shown (again asked limit past) sequence most prepared.values)
    (shown_alike asked limit past sequence most prepared.values))

-- ---- changes

delete_with : (asked : CallInputs) (limit : ℕ) (past : List PastChange) → ReadsAlike asked past → FindsRoom asked limit past → (c : OpenCursor) → GoesWith asked (delete asked c) (delete (again asked limit past) c)
delete_with asked limit past reads room c =
    unless_with asked limit past _ _ _ _ (record_with asked limit past reads c _ _ (more (own_refusals asked c) _ _ (change_with asked limit past reads room (drop_at c)))) refl

lock_with : (asked : CallInputs) (limit : ℕ) (past : List PastChange) → ReadsAlike asked past → FindsRoom asked limit past → (c : OpenCursor) → GoesWith asked (get_lock asked c) (get_lock (again asked limit past) c)
lock_with asked limit past reads room c =
    unless_with asked limit past _ _ _ _ (more (transaction_refusals asked) _ _ (record_with asked limit past reads c _ _ (change_with asked limit past reads room (hold_at c)))) refl

sum_with : (asked : CallInputs) (limit : ℕ) (past : List PastChange) → ReadsAlike asked past → FindsRoom asked limit past → (c : OpenCursor) (amount : ℤ) (column : Column) → GoesWith asked (sum_in asked c amount column) (sum_in (again asked limit past) c amount column)
sum_with asked limit past reads room c amount column =
    let sum = change.Add (record { 0 = c.cursor.table }) (bookmark_at c) column.id amount in
    unless_with asked limit past _ _ _ _ (one_more (not column.escrow, jet.InvalidColumnType) _ _ (more (own_refusals asked c) _ _ (change_with asked limit past reads room sum)))
    (λ i. done asked.local (Number (number_of kind.Long (escrow_bytes (record_under c (reads.view i)) column.id.0))) (step_of_change asked sum))

-- the first refusals are the same, and what follows goes with it
follow_with : (asked : CallInputs) (limit : ℕ) (past : List PastChange) (r s : Refusals) (f g : Unit {0} → Outcome) → r ≡ s → GoesWith asked (f tt) (g tt) → GoesWith asked (unless asked r f) (unless (again asked limit past) s g)
follow_with asked limit past r s f g same e = subst (λ (rs : Refusals). GoesWith asked (unless asked r f) (unless (again asked limit past) rs g)) same (by (first_refusal r))
  where
    by : (reply : Option Jet) → GoesWith asked (unless_refused asked reply f) (unless_refused (again asked limit past) reply g)
    by None = e
    by (Some reply) = inr refl

escrow_with : (asked : CallInputs) (limit : ℕ) (past : List PastChange) → ReadsAlike asked past → FindsRoom asked limit past → (c : OpenCursor) (name : List ℕ) (amount : ℤ) → GoesWith asked (escrow_update asked c name amount) (escrow_update (again asked limit past) c name amount)
escrow_with asked limit past reads room c name amount =
    follow_with asked limit past _ _ _ _ (λ i. transaction_refusals asked ++ current_in c (reads.view i))
    (column_with asked limit past (column_named c.schema.columns name) (sum_in asked c amount) (sum_in (again asked limit past) c amount) (sum_with asked limit past reads room c amount))

-- ---- Update

-- the bookmark is told by the number of the state alone
inserted_alike : (asked : CallInputs) (limit : ℕ) (past : List PastChange) (schema : Schema) (rule : Option IndexRule) (values : RecordFields) → inserted_bookmark asked schema rule values ≡ inserted_bookmark (again asked limit past) schema rule values
inserted_alike asked limit past schema None values = refl
inserted_alike asked limit past schema (Some rule) values = refl

marked_alike : (asked : CallInputs) (limit : ℕ) (past : List PastChange) (schema : Schema) (for : PreparedFor) (values : RecordFields) → bookmark_for asked schema for values ≡ bookmark_for (again asked limit past) schema for values
marked_alike asked limit past schema (inserting copied) values = inserted_alike asked limit past schema (primary_rule schema) values
marked_alike asked limit past schema (replacing bookmark) values = refl

update_with-room : (asked : CallInputs) (limit : ℕ) (past : List PastChange) → ReadsAlike asked past → FindsRoom asked limit past → (c : OpenCursor) (prepared : PreparedUpdate) → GoesWith asked (update_with asked c prepared) (update_with (again asked limit past) c prepared)
update_with-room asked limit past reads room c prepared =
    unless_with asked limit past _ _ (made asked) (made (again asked limit past))
    (one_more (is_missing_a_value c.schema.columns prepared.values, jet.NullInvalid) _ _
    (one_more (is_primary_changed c.schema prepared.for prepared.values, jet.RecordPrimaryChanged) _ _
    (more_alike (keys asked ++ number_refusals asked) (keys (again asked limit past) ++ number_refusals (again asked limit past)) _ _ (ap (λ refusals. refusals ++ number_refusals asked) alike)
    (span_with asked limit past reads room _ _ put))))
    (λ i. done (with_prepared asked c None) (whole (marked i)) (step_of_change asked (put i)))
  where
    marked : bookmark_for asked c.schema prepared.for prepared.values ≡ bookmark_for (again asked limit past) c.schema prepared.for prepared.values
    marked = marked_alike asked limit past c.schema prepared.for prepared.values

    put : put_of asked c prepared (bookmark_for asked c.schema prepared.for prepared.values) ≡ put_of (again asked limit past) c prepared (bookmark_for (again asked limit past) c.schema prepared.for prepared.values)
    put = λ i. change.Put (record { 0 = c.cursor.table }) (marked i) (copied_in (rows_in c (reads.view i)) prepared.for) prepared.values

    made : CallInputs → Unit {0} → Outcome
    made a _ =
        let bookmark = bookmark_for a c.schema prepared.for prepared.values in
        done (with_prepared a c None) (whole bookmark) (step_of_change a (put_of a c prepared bookmark))

    keys : CallInputs → Refusals
    keys a = put_refusals a.state a.session c.cursor.table c.schema (rows_seen a c) (replaced_by prepared.for) prepared.values

    alike : keys asked ≡ keys (again asked limit past)
    alike =
        ap (λ tables. put_refusals asked.state asked.session c.cursor.table c.schema (rows_in c tables) (replaced_by prepared.for) prepared.values) reads.view
        ∙ put_alike asked limit past reads c.cursor.table c.schema (rows_seen (again asked limit past) c) (replaced_by prepared.for) prepared.values

update_goes : (asked : CallInputs) (limit : ℕ) (past : List PastChange) → ReadsAlike asked past → FindsRoom asked limit past → (c : OpenCursor) → GoesWith asked (update asked c) (update (again asked limit past) c)
update_goes asked limit past reads room c = by c.prepared
  where
    by : (found : Option PreparedUpdate) → GoesWith asked (on_prepared asked found (update_with asked c)) (on_prepared (again asked limit past) found (update_with (again asked limit past) c))
    by None = inr refl
    by (Some prepared) = update_with-room asked limit past reads room c prepared

-- ---- every call

begun_with : (asked : CallInputs) (limit : ℕ) (past : List PastChange) → ReadsAlike asked past → FindsRoom asked limit past → (request : Request) → GoesWith asked (answer_begun asked request) (answer_begun (again asked limit past) request)
begun_with asked limit past reads room call.BeginSession = inr (begin_session_alike asked limit past)
begun_with asked limit past reads room call.EndSession = inr refl
begun_with asked limit past reads room call.BeginTransaction =
    inr (plain_alike asked limit past ((nat_le 7 (levels asked.state asked.session), jet.TransTooDeep) ∷ number_refusals asked) (λ _. done asked.local Nothing (one asked (if is_outside asked then entry.Begin else entry.Save))))
begun_with asked limit past reads room (call.CommitTransaction lazy) =
    inr (plain_alike asked limit past ((is_outside asked, jet.NotInTransaction) ∷ [])
    (λ _. if nat_lt 1 (levels asked.state asked.session) then done asked.local Nothing (one asked entry.Release) else done (without_prepared asked.local) Nothing (one asked entry.Commit)))
begun_with asked limit past reads room (call.Rollback all) =
    inr (plain_alike asked limit past ((is_outside asked, jet.NotInTransaction) ∷ []) (λ _. done (without_prepared asked.local) Nothing (one asked (if all then entry.UndoAll else entry.Undo))))
begun_with asked limit past reads room (call.CreateTable table) = inr (schema_call_alike asked limit past (table_step asked.state table))
begun_with asked limit past reads room (call.DeleteTable table) = inr (schema_call_alike asked limit past (deleted_table_step asked.state table))
begun_with asked limit past reads room (call.AddColumn table column kind flags) = inr (schema_call_alike asked limit past (column_step asked.state table column kind flags))
begun_with asked limit past reads room (call.DeleteColumn table column) = inr (schema_call_alike asked limit past (deleted_column_step asked.state table column))
begun_with asked limit past reads room (call.CreateIndex table index flags key_most segments conditions) = inr (schema_call_alike asked limit past (index_step asked.state table index flags key_most segments conditions))
begun_with asked limit past reads room (call.DeleteIndex table index) = inr (schema_call_alike asked limit past (deleted_index_step asked.state table index))
begun_with asked limit past reads room (call.OpenTable cursor table) =
    inr (unless_alike asked limit past ((is_some (cursor_labelled asked.local cursor.0), jet.InvalidTableId) ∷ (nat_le 16 (length asked.local.cursors), jet.OutOfCursors) ∷ [])
    ((is_some (cursor_labelled asked.local cursor.0), jet.InvalidTableId) ∷ (nat_le 16 (length asked.local.cursors), jet.OutOfCursors) ∷ [])
    (λ _. opened asked cursor.0 (table_named asked.state.tables table)) (λ _. opened (again asked limit past) cursor.0 (table_named asked.state.tables table)) refl
    (opened_alike asked limit past cursor.0 (table_named asked.state.tables table)))
begun_with asked limit past reads room (call.CloseTable cursor) = cursor_with asked limit past cursor.0 (close_table asked) (close_table (again asked limit past)) (λ c. inr refl)
begun_with asked limit past reads room (call.SetCurrentIndex cursor index) =
    cursor_with asked limit past cursor.0 (λ c. set_current_index asked c index) (λ c. set_current_index (again asked limit past) c index) (λ c. inr (index_alike asked limit past reads c index))
begun_with asked limit past reads room (call.Move cursor to) =
    cursor_with asked limit past cursor.0 (λ c. move_cursor asked c to) (λ c. move_cursor (again asked limit past) c to) (λ c. inr (λ i. navigated asked c (moved c.cursor (entries_in c c.cursor.index (reads.view i)) to)))
begun_with asked limit past reads room (call.MakeKey cursor fresh value) =
    cursor_with asked limit past cursor.0 (λ c. make_key asked c fresh value) (λ c. make_key (again asked limit past) c fresh value) (λ c. inr (key_alike asked limit past c fresh value (rule_with_id c.schema c.cursor.index)))
begun_with asked limit past reads room (call.Seek cursor by) =
    cursor_with asked limit past cursor.0 (λ c. seek_key asked c by) (λ c. seek_key (again asked limit past) c by) (λ c. inr (λ i. navigated asked c (sought c.cursor (entries_in c c.cursor.index (reads.view i)) by)))
begun_with asked limit past reads room (call.SetIndexRange cursor upper inclusive) =
    cursor_with asked limit past cursor.0 (λ c. set_index_range asked c upper inclusive) (λ c. set_index_range (again asked limit past) c upper inclusive)
    (λ c. inr (λ i. navigated asked c (ranged c.cursor (entries_in c c.cursor.index (reads.view i)) upper inclusive)))
begun_with asked limit past reads room (call.RemoveIndexRange cursor) = cursor_with asked limit past cursor.0 (remove_index_range asked) (remove_index_range (again asked limit past)) (λ c. inr refl)
begun_with asked limit past reads room (call.IndexRecordCount cursor most) =
    cursor_with asked limit past cursor.0 (λ c. index_record_count asked c most) (λ c. index_record_count (again asked limit past) c most) (λ c. inr (count_alike asked limit past reads c most))
begun_with asked limit past reads room (call.RetrieveKey cursor) = cursor_with asked limit past cursor.0 (retrieve_key asked) (retrieve_key (again asked limit past)) (λ c. inr (shown_key_alike asked limit past reads c))
begun_with asked limit past reads room (call.GetBookmark cursor) = cursor_with asked limit past cursor.0 (get_bookmark asked) (get_bookmark (again asked limit past)) (λ c. inr (bookmark_alike asked limit past reads c))
begun_with asked limit past reads room (call.GotoBookmark cursor bookmark) =
    cursor_with asked limit past cursor.0 (λ c. goto_bookmark asked c bookmark) (λ c. goto_bookmark (again asked limit past) c bookmark) (λ c. inr (goto_alike asked limit past reads c bookmark))
begun_with asked limit past reads room (call.PrepareUpdate cursor how) =
    cursor_with asked limit past cursor.0 (λ c. prepare_update asked c how) (λ c. prepare_update (again asked limit past) c how) (λ c. prepare_with asked limit past reads room c how)
begun_with asked limit past reads room (call.SetColumn cursor column sequence value) =
    cursor_with asked limit past cursor.0 (λ c. set_column asked c column sequence value) (λ c. set_column (again asked limit past) c column sequence value) (λ c. inr (set_alike asked limit past c column sequence value))
begun_with asked limit past reads room (call.RetrieveColumn cursor column sequence true most) =
    cursor_with asked limit past cursor.0 (λ c. retrieve_copy asked c column sequence most) (λ c. retrieve_copy (again asked limit past) c column sequence most) (λ c. inr (own_copy_alike asked limit past c column sequence most))
begun_with asked limit past reads room (call.RetrieveColumn cursor column sequence false most) =
    cursor_with asked limit past cursor.0 (λ c. retrieve_column asked c column sequence most) (λ c. retrieve_column (again asked limit past) c column sequence most) (λ c. inr (retrieve_alike asked limit past reads c column sequence most))
begun_with asked limit past reads room (call.Update cursor) = cursor_with asked limit past cursor.0 (update asked) (update (again asked limit past)) (update_goes asked limit past reads room)
begun_with asked limit past reads room (call.Delete cursor) = cursor_with asked limit past cursor.0 (delete asked) (delete (again asked limit past)) (delete_with asked limit past reads room)
begun_with asked limit past reads room (call.GetLock cursor) = cursor_with asked limit past cursor.0 (get_lock asked) (get_lock (again asked limit past)) (lock_with asked limit past reads room)
begun_with asked limit past reads room (call.EscrowUpdate cursor column amount) =
    cursor_with asked limit past cursor.0 (λ c. escrow_update asked c column amount) (λ c. escrow_update (again asked limit past) c column amount) (λ c. escrow_with asked limit past reads room c column amount)
begun_with asked limit past reads room (call.TempOpen temp unique columns) = inr refl
begun_with asked limit past reads room (call.TempPut temp values) = inr refl
begun_with asked limit past reads room (call.TempMove temp way) = inr refl
begun_with asked limit past reads room (call.TempRead temp column) = inr refl
begun_with asked limit past reads room (call.TempCount temp) = inr refl
begun_with asked limit past reads room (call.TempClose temp) = inr refl
begun_with asked limit past reads room (call.IntersectIndexes temp cursors) = inr (intersect_alike asked limit past reads temp cursors)

not_begun_alike : (asked : CallInputs) (limit : ℕ) (past : List PastChange) (request : Request) → answer_not_begun asked request ≡ answer_not_begun (again asked limit past) request
not_begun_alike asked limit past call.BeginSession = begin_session_alike asked limit past
not_begun_alike asked limit past call.EndSession = refl
not_begun_alike asked limit past call.BeginTransaction = refl
not_begun_alike asked limit past (call.CommitTransaction lazy) = refl
not_begun_alike asked limit past (call.Rollback all) = refl
not_begun_alike asked limit past (call.CreateTable table) = refl
not_begun_alike asked limit past (call.DeleteTable table) = refl
not_begun_alike asked limit past (call.AddColumn table column kind flags) = refl
not_begun_alike asked limit past (call.DeleteColumn table column) = refl
not_begun_alike asked limit past (call.CreateIndex table index flags key_most segments conditions) = refl
not_begun_alike asked limit past (call.DeleteIndex table index) = refl
not_begun_alike asked limit past (call.OpenTable cursor table) = refl
not_begun_alike asked limit past (call.CloseTable cursor) = refl
not_begun_alike asked limit past (call.SetCurrentIndex cursor index) = refl
not_begun_alike asked limit past (call.Move cursor to) = refl
not_begun_alike asked limit past (call.MakeKey cursor fresh value) = refl
not_begun_alike asked limit past (call.Seek cursor by) = refl
not_begun_alike asked limit past (call.SetIndexRange cursor upper inclusive) = refl
not_begun_alike asked limit past (call.RemoveIndexRange cursor) = refl
not_begun_alike asked limit past (call.IndexRecordCount cursor most) = refl
not_begun_alike asked limit past (call.RetrieveKey cursor) = refl
not_begun_alike asked limit past (call.GetBookmark cursor) = refl
not_begun_alike asked limit past (call.GotoBookmark cursor bookmark) = refl
not_begun_alike asked limit past (call.PrepareUpdate cursor how) = refl
not_begun_alike asked limit past (call.SetColumn cursor column sequence value) = refl
not_begun_alike asked limit past (call.RetrieveColumn cursor column sequence copy most) = refl
not_begun_alike asked limit past (call.Update cursor) = refl
not_begun_alike asked limit past (call.Delete cursor) = refl
not_begun_alike asked limit past (call.GetLock cursor) = refl
not_begun_alike asked limit past (call.EscrowUpdate cursor column amount) = refl
not_begun_alike asked limit past (call.TempOpen temp unique columns) = refl
not_begun_alike asked limit past (call.TempPut temp values) = refl
not_begun_alike asked limit past (call.TempMove temp way) = refl
not_begun_alike asked limit past (call.TempRead temp column) = refl
not_begun_alike asked limit past (call.TempCount temp) = refl
not_begun_alike asked limit past (call.TempClose temp) = refl
not_begun_alike asked limit past (call.IntersectIndexes temp cursors) = refl

pub answers_with : (asked : CallInputs) (limit : ℕ) (past : List PastChange) → ReadsAlike asked past → FindsRoom asked limit past → (request : Request) → GoesWith asked (answer asked request) (answer (again asked limit past) request)
unfolding answer
answers_with asked limit past reads room request = by asked.local.begun
  where
    by : (b : Bool) → GoesWith asked (elim b [ true ↦ answer_begun asked request | false ↦ answer_not_begun asked request ]) (elim b [ true ↦ answer_begun (again asked limit past) request | false ↦ answer_not_begun (again asked limit past) request ])
    by true = begun_with asked limit past reads room request
    by false = inr (not_begun_alike asked limit past request)
