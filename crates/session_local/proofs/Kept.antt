-- What keeps a session's own state well formed.
use Rattle.std.proofs.Common.{◌≡◌, ℕ, ◌≤◌, ◌==◌, Bool, true, false, cond, not, ◌&&◌, ◌||◌, List, [], ◌∷◌, ◌++◌, length, map, filter, Option, Some, None, refl, nat_le, nat_lt, is_some, is_none, if◌then◌else◌}
use Rattle.std.specs.List.{list_all, AllByRecursion}
use Rattle.std.specs.Prelude.{bytes_eq}
use Rattle.std.proofs.lemmas.Bool.{and_from, and_parts, le-leb, leb-true, not-false}
use Rattle.jet_base.specs.declared.ids.CursorId.{CursorId}
use Rattle.jet_base.specs.declared.replies.Jet.{Jet}
use Rattle.jet_base.specs.declared.replies.Jet.TheVariants as jet
use Rattle.jet_base.specs.declared.words.Given.{Given}
use Rattle.jet_base.specs.declared.words.Prepare.{Prepare}
use Rattle.jet_base.specs.declared.words.Prepare.TheVariants as prepare
use Rattle.jet_base.specs.ColumnType.{largest_value}
use Rattle.jet_base.specs.Given.{given_fits, given_length, given_is_null}
use Rattle.column_set.specs.declared.columns.Column.{Column}
use Rattle.column_set.specs.RecordValues.{RecordFields, values_of, column_named, record_size, is_kept_column, has_value, stands_in}
use Rattle.record_edit.specs.SetColumn.{refusal_in_column, values_after, fields_after}
use Rattle.index_derive.specs.declared.rules.Schema.{Schema}
use Rattle.cursor_nav.specs.Navigation.{Navigated}
use Rattle.cursor_nav.specs.MakingKeys.{key_made}
use Rattle.temp_table.specs.TempRows.{TempRows}
use Rattle.session_local.specs.declared.request.Request.{Request}
use Rattle.session_local.specs.declared.request.Request.TheVariants as call
use Rattle.index_derive.specs.declared.log.Step.{Step}
use Rattle.database_state.specs.Table.{Table, schema_of, table_with_id}
use Rattle.database_state.specs.State.{DatabaseState}
use Rattle.session_local.specs.Agreement.{HasSchemaOf, IsStorable, Agrees}
use Rattle.session_local.specs.Local.{LocalState, OpenCursor, PreparedUpdate, no_session, cursor_labelled, with_new_cursor, without_cursor, without_prepared, unprepared}
use Rattle.session_local.specs.Finishing.{Decided, after_step, begun_with, is_release, temps_with, with_update_on, with_update_at, with_opened, with_copied, with_filled, opened_cursor, finished}
use Rattle.session_local.specs.Navigating.{navigated_on}
use Rattle.session_local.specs.Changing.{Changed, cursor_if, insert_prepared_at, update_cancelled_at, update_prepared_at, new_update, value_set_in, value_set_on, changed_by, changed_unless, changed_to, refused_by, local_after}
use Rattle.session_local.specs.WellFormed.{is_well_formed_schema, is_well_formed_record, is_well_formed_update, is_well_formed_cursor, is_well_formed_table, is_well_formed_on, is_well_formed_copy, IsWellFormed}
use Rattle.session_local.specs.FormedLaws.{IsSettable, new_is_well_formed, schema_parts, set_is_well_formed}
use Rattle.session_local.specs.FoundLaws.{by_number}
use Rattle.common_lemmas.proofs.Found.{all_found}
use Rattle.common_lemmas.proofs.Lists.{all_filtered}

-- ---- the parts of a cursor

pub schema_of_cursor : (c : OpenCursor) → is_well_formed_cursor c ≡ true → is_well_formed_schema c.schema ≡ true
schema_of_cursor c h = (and_parts (is_well_formed_schema c.schema) (is_well_formed_update c.schema.columns c.prepared) h).0

pub update_of_cursor : (c : OpenCursor) → is_well_formed_cursor c ≡ true → is_well_formed_update c.schema.columns c.prepared ≡ true
update_of_cursor c h = (and_parts (is_well_formed_schema c.schema) (is_well_formed_update c.schema.columns c.prepared) h).1

pub record_parts : (columns : List Column) (fields : RecordFields) → is_well_formed_record columns fields ≡ true → (list_all (stands_in columns) fields ≡ true) × (record_size fields ≤ 1700)
record_parts columns fields h =
    let parts = and_parts (list_all (stands_in columns) fields) (nat_le (record_size fields) 1700) h in
    (parts.0, leb-true (record_size fields) 1700 parts.1)

with_update : (c : OpenCursor) (update : Option PreparedUpdate) → is_well_formed_schema c.schema ≡ true → is_well_formed_update c.schema.columns update ≡ true → is_well_formed_cursor (record c { prepared = update }) ≡ true
with_update c update schema fit = and_from (is_well_formed_schema c.schema) (is_well_formed_update c.schema.columns update) schema fit

-- ---- a value that is set

tested : (b : Bool) (reply : Jet) (rest : Option Jet) → cond b (Some reply) rest ≡ None → (b ≡ false) × (rest ≡ None)
tested false reply rest h = (refl, h)
tested true reply rest h = cc

settable : (column : Column) (sequence : ℕ) (value : Given) (fields : RecordFields) → refusal_in_column column sequence value fields ≡ None → IsSettable column sequence value fields
settable column sequence value fields h =
    let one = tested column.escrow jet.ColumnNotUpdatable _ h in
    let two = tested (not column.multi && nat_lt 1 sequence) jet.BadItagSequence _ one.1 in
    let three = tested (not (given_fits column.kind value)) jet.InvalidBufferSize _ two.1 in
    let four = tested (nat_lt (largest_value column.kind) (given_length value)) jet.ColumnTooBig _ three.1 in
    let five = tested (given_is_null value && column.not_null && (length (values_after column.multi sequence None (values_of fields column.id.0)) == 0)) jet.NullInvalid _ four.1 in
    let six = tested (nat_lt 1700 (record_size (fields_after column sequence value fields))) jet.RecordTooBig _ five.1 in
    record { fits = not-false _ three.0; small = four.0; size = six.0 }

-- ---- call by call

-- a cursor, where there is one
abbrev pub is_well_formed_if : Option OpenCursor → Bool
is_well_formed_if None = true
is_well_formed_if (Some c) = is_well_formed_cursor c

cursor_if-kept : (reply : Jet) (c : OpenCursor) → is_well_formed_cursor c ≡ true → is_well_formed_if (cursor_if reply c) ≡ true
cursor_if-kept jet.Success c h = h
cursor_if-kept _ c h = refl

unless-kept : (reply : Option Jet) (c : OpenCursor) → (reply ≡ None → is_well_formed_cursor c ≡ true) → is_well_formed_if (changed_unless reply c).cursor ≡ true
unless-kept None c h = h refl
unless-kept (Some reply) c h = refl

insert-kept : (c : OpenCursor) → is_well_formed_cursor c ≡ true → is_well_formed_if (insert_prepared_at c).cursor ≡ true
insert-kept c h =
    let schema = schema_of_cursor c h in
    let fit : is_well_formed_update c.schema.columns (Some (new_update c)) ≡ true = new_is_well_formed c.schema schema in
    elim (is_some c.prepared) as (λ b. is_well_formed_if (Changed.cursor (if b then refused_by jet.AlreadyPrepared else changed_to (record c { prepared = Some (new_update c) }))) ≡ true) [
      | true ↦ refl
      | false ↦ with_update c (Some (new_update c)) schema fit
    ]

cancel-kept : (c : OpenCursor) → is_well_formed_cursor c ≡ true → is_well_formed_if (update_cancelled_at c).cursor ≡ true
cancel-kept c h =
    elim (is_none c.prepared) as (λ b. is_well_formed_if (Changed.cursor (if b then refused_by jet.UpdateNotPrepared else changed_to (record c { prepared = None }))) ≡ true) [
      | true ↦ refl
      | false ↦ with_update c None (schema_of_cursor c h) refl
    ]

prepare-kept : (c : OpenCursor) (how : Prepare) → is_well_formed_cursor c ≡ true → is_well_formed_if (update_prepared_at c how).cursor ≡ true
prepare-kept c prepare.Insert h = insert-kept c h
prepare-kept c prepare.Cancel h = cancel-kept c h
prepare-kept c prepare.InsertCopy h = h
prepare-kept c prepare.Replace h = h

value_in-kept : (c : OpenCursor) (update : PreparedUpdate) (name : List ℕ) (sequence : ℕ) (value : Given) (column : Option Column) → is_well_formed_cursor c ≡ true → is_well_formed_update c.schema.columns (Some update) ≡ true → column_named c.schema.columns name ≡ column → is_well_formed_if (value_set_in c update sequence value column).cursor ≡ true
value_in-kept c update name sequence value None h fit found = refl
value_in-kept c update name sequence value (Some column) h fit found =
    let schema = schema_of_cursor c h in
    let its = by_number (λ o. bytes_eq o.name name) c.schema.columns column (schema_parts c.schema schema).distinct found in
    unless-kept (refusal_in_column column sequence value update.values)
    (record c { prepared = Some (record update { values = fields_after column sequence value update.values }) })
    (λ none. with_update c (Some (record update { values = fields_after column sequence value update.values })) schema
    (set_is_well_formed c.schema.columns column sequence value update.values its (record_parts c.schema.columns update.values fit).0 (settable column sequence value update.values none)))

value_on-kept : (c : OpenCursor) (name : List ℕ) (sequence : ℕ) (value : Given) (update : Option PreparedUpdate) → is_well_formed_cursor c ≡ true → c.prepared ≡ update → is_well_formed_if (value_set_on c name sequence value update).cursor ≡ true
value_on-kept c name sequence value None h is = refl
value_on-kept c name sequence value (Some update) h is =
    value_in-kept c update name sequence value (column_named c.schema.columns name) h (rw is at (update_of_cursor c h)) refl

-- a cursor after a change
pub changed-kept : (c : OpenCursor) (request : Request) → is_well_formed_cursor c ≡ true → is_well_formed_if (changed_by c request).cursor ≡ true
changed-kept c (call.MakeKey cursor fresh value) h = cursor_if-kept (key_made c.cursor c.schema fresh value).jet (record c { cursor = (key_made c.cursor c.schema fresh value).cursor }) h
changed-kept c (call.RemoveIndexRange cursor) h = h
changed-kept c (call.PrepareUpdate cursor how) h = prepare-kept c how h
changed-kept c (call.SetColumn cursor column sequence value) h = value_on-kept c column sequence value c.prepared h refl
changed-kept c _ h = h

-- ---- a session's own state

pub put-kept : (new : OpenCursor) (cursors : List OpenCursor) → list_all is_well_formed_cursor cursors ≡ true → is_well_formed_cursor new ≡ true → list_all is_well_formed_cursor (map (λ c. if c.label == new.label then new else c) cursors) ≡ true
put-kept new [] all one = refl
put-kept new (x ∷ xs) all one =
    let parts : (is_well_formed_cursor x ≡ true) × (list_all is_well_formed_cursor xs ≡ true) = and_parts _ _ all in
    let rest = put-kept new xs parts.1 one in
    elim (x.label == new.label) as (λ b. (is_well_formed_cursor (if b then new else x) && list_all is_well_formed_cursor (map (λ c. if c.label == new.label then new else c) xs)) ≡ true) [
      | true ↦ and_from (is_well_formed_cursor new) (list_all is_well_formed_cursor (map (λ c. if c.label == new.label then new else c) xs)) one rest
      | false ↦ and_from (is_well_formed_cursor x) (list_all is_well_formed_cursor (map (λ c. if c.label == new.label then new else c) xs)) parts.0 rest
    ]

pub local_after-kept : (local : LocalState) (c : Option OpenCursor) → IsWellFormed local → is_well_formed_if c ≡ true → IsWellFormed (local_after local c)
local_after-kept local None all one = all
local_after-kept local (Some c) all one = put-kept c local.cursors all one

unprepared-kept : (cursors : List OpenCursor) → list_all is_well_formed_cursor cursors ≡ true → list_all is_well_formed_cursor (map unprepared cursors) ≡ true
unprepared-kept [] all = refl
unprepared-kept (x ∷ xs) all =
    let parts : (is_well_formed_cursor x ≡ true) × (list_all is_well_formed_cursor xs ≡ true) = and_parts _ _ all in
    and_from (is_well_formed_cursor (unprepared x)) (list_all is_well_formed_cursor (map unprepared xs)) (with_update x None (schema_of_cursor x parts.0) refl) (unprepared-kept xs parts.1)

push-kept : (new : OpenCursor) (cursors : List OpenCursor) → list_all is_well_formed_cursor cursors ≡ true → is_well_formed_cursor new ≡ true → list_all is_well_formed_cursor (cursors ++ new ∷ []) ≡ true
push-kept new [] all one = rw one refl
push-kept new (x ∷ xs) all one =
    let parts : (is_well_formed_cursor x ≡ true) × (list_all is_well_formed_cursor xs ≡ true) = and_parts _ _ all in
    and_from (is_well_formed_cursor x) (list_all is_well_formed_cursor (xs ++ new ∷ [])) parts.0 (push-kept new xs parts.1 one)

filtered-kept : (test : OpenCursor → Bool) (cursors : List OpenCursor) → list_all is_well_formed_cursor cursors ≡ true → list_all is_well_formed_cursor (filter test cursors) ≡ true
filtered-kept test cursors all = all_filtered is_well_formed_cursor test cursors all

-- the cursor of a label
pub found-kept : (local : LocalState) (label : ℕ) (c : OpenCursor) → IsWellFormed local → cursor_labelled local label ≡ Some c → is_well_formed_cursor c ≡ true
found-kept local label c all found = all_found is_well_formed_cursor (λ o. o.label == label) local.cursors c all found

-- ---- what a decision leaves

after_step-kept : (step : Option Step) (without after : LocalState) → IsWellFormed without → IsWellFormed after → IsWellFormed (after_step step without after)
after_step-kept None without after one other = one
after_step-kept (Some step) without after one other = other

update_at-kept : (local : LocalState) (label : ℕ) (found : Option OpenCursor) (update : Option PreparedUpdate) → IsWellFormed local → cursor_labelled local label ≡ found → is_well_formed_on found update ≡ true → IsWellFormed (with_update_on local found update)
update_at-kept local label None update all is fit = all
update_at-kept local label (Some c) update all is fit =
    put-kept (record c { prepared = update }) local.cursors all (with_update c update (schema_of_cursor c (found-kept local label c all is)) fit)

copied-kept : (local : LocalState) (label : ℕ) (update : Option PreparedUpdate) → IsWellFormed local → is_well_formed_on (cursor_labelled local label) update ≡ true → IsWellFormed (with_copied local label update)
copied-kept local label None all fit = all
copied-kept local label (Some update) all fit = update_at-kept local label (cursor_labelled local label) (Some update) all refl fit

no_update : (found : Option OpenCursor) → is_well_formed_on found None ≡ true
no_update None = refl
no_update (Some c) = refl

opened-kept : (local : LocalState) (label : ℕ) (table : Option (ℕ × Schema)) → IsWellFormed local → is_well_formed_table table ≡ true → IsWellFormed (with_opened local label table)
opened-kept local label None all fit = all
opened-kept local label (Some table) all fit =
    elim (not local.begun || (is_some (cursor_labelled local label) || nat_le 16 (length local.cursors))) as (λ b. IsWellFormed (if b then local else with_new_cursor local (opened_cursor label table))) [
      | true ↦ all
      | false ↦ push-kept (opened_cursor label table) local.cursors all (and_from (is_well_formed_schema table.1) true fit refl)
    ]

begun-kept : (buffers : Bool) (local : LocalState) → IsWellFormed local → IsWellFormed (begun_with buffers local)
begun-kept true local all = refl
begun-kept false local all = all

commit-kept : (release : Bool) (local : LocalState) → IsWellFormed local → IsWellFormed (if release then local else without_prepared local)
commit-kept true local all = all
commit-kept false local all = unprepared-kept local.cursors all

filled-kept : (local : LocalState) (label : CursorId) (table : Option TempRows) → IsWellFormed local → IsWellFormed (with_filled local label table)
filled-kept local label None all = all
filled-kept local label (Some table) all =
    elim local.begun as (λ b. IsWellFormed (if b then record local { temps = temps_with local.temps label table } else local)) [
      | true ↦ all
      | false ↦ all
    ]

pub finished-kept : (local : LocalState) (request : Request) (decided : Decided) → IsWellFormed local → is_well_formed_table decided.table ≡ true → is_well_formed_copy local request decided.copied ≡ true → IsWellFormed (finished local request decided)
finished-kept local call.BeginSession decided all table copied = after_step-kept decided.step local (begun_with decided.buffers local) all (begun-kept decided.buffers local all)
finished-kept local call.EndSession decided all table copied = after_step-kept decided.step local no_session all refl
finished-kept local (call.CommitTransaction lazy) decided all table copied = after_step-kept decided.step local (if is_release decided.step then local else without_prepared local) all (commit-kept (is_release decided.step) local all)
finished-kept local (call.Rollback every) decided all table copied = after_step-kept decided.step local (without_prepared local) all (unprepared-kept local.cursors all)
finished-kept local (call.OpenTable cursor name) decided all table copied = after_step-kept decided.step local (with_opened local cursor.0 decided.table) all (opened-kept local cursor.0 decided.table all table)
finished-kept local (call.CloseTable cursor) decided all table copied = after_step-kept decided.step local (without_cursor local cursor.0) all (filtered-kept (λ c. not (c.label == cursor.0)) local.cursors all)
finished-kept local (call.PrepareUpdate cursor how) decided all table copied = copied-kept local cursor.0 decided.copied all copied
finished-kept local (call.Update cursor) decided all table copied = after_step-kept decided.step local (with_update_at local cursor.0 None) all (update_at-kept local cursor.0 (cursor_labelled local cursor.0) None all refl (no_update (cursor_labelled local cursor.0)))
finished-kept local (call.IntersectIndexes temp cursors) decided all table copied = filled-kept local temp decided.temp all
finished-kept local _ decided all table copied = all

-- ---- moves

moved-kept : (local : LocalState) (label : ℕ) (found : Option OpenCursor) (move : OpenCursor → Navigated) → IsWellFormed local → cursor_labelled local label ≡ found → IsWellFormed (navigated_on local found move)
moved-kept local label None move all is = all
moved-kept local label (Some c) move all is = put-kept (record c { cursor = (move c).cursor }) local.cursors all (found-kept local label c all is)

pub navigated-kept : (local : LocalState) (label : ℕ) (move : OpenCursor → Navigated) → IsWellFormed local → IsWellFormed (navigated_on local (cursor_labelled local label) move)
navigated-kept local label move all = moved-kept local label (cursor_labelled local label) move all refl

-- ---- agreement with the database

abbrev has_well_formed_schema : Table → Bool
has_well_formed_schema table = is_well_formed_schema (schema_of table)

schema-agrees : (tables : List Table) (c : OpenCursor) (found : Option Table) → list_all has_well_formed_schema tables ≡ true → table_with_id tables c.cursor.table ≡ found → HasSchemaOf c found → is_well_formed_schema c.schema ≡ true
schema-agrees tables c None all is has = absurd has
schema-agrees tables c (Some table) all is has = rw has.0 (all_found has_well_formed_schema (λ t. t.id == c.cursor.table) tables table all is)

update-agrees : (state : DatabaseState) (session : ℕ) (c : OpenCursor) (update : Option PreparedUpdate) → IsStorable state session c update → is_well_formed_update c.schema.columns update ≡ true
update-agrees state session c None fit = refl
update-agrees state session c (Some update) fit =
    let stand = and_parts (list_all (stands_in c.schema.columns) update.values) (list_all (λ column. not (is_kept_column column) || has_value update.values column.id.0) c.schema.columns) fit.1 in
    and_from (list_all (stands_in c.schema.columns) update.values) (nat_le (record_size update.values) 1700) stand.0 (le-leb (record_size update.values) 1700 fit.0)

cursors-agree : (state : DatabaseState) (session : ℕ) (cursors : List OpenCursor) → list_all has_well_formed_schema state.tables ≡ true → AllByRecursion (λ c. HasSchemaOf c (table_with_id state.tables c.cursor.table)) cursors → AllByRecursion (λ c. IsStorable state session c c.prepared) cursors → list_all is_well_formed_cursor cursors ≡ true
cursors-agree state session [] tables schemas prepared = refl
cursors-agree state session (c ∷ cs) tables schemas prepared =
    let schema = schema-agrees state.tables c (table_with_id state.tables c.cursor.table) tables refl schemas.0 in
    and_from (is_well_formed_cursor c) (list_all is_well_formed_cursor cs)
    (and_from (is_well_formed_schema c.schema) (is_well_formed_update c.schema.columns c.prepared) schema (update-agrees state session c c.prepared prepared.0))
    (cursors-agree state session cs tables schemas.1 prepared.1)

pub agrees-kept : (state : DatabaseState) (session : ℕ) (local : LocalState) → Agrees state session local → list_all has_well_formed_schema state.tables ≡ true → IsWellFormed local
agrees-kept state session local agrees tables = cursors-agree state session local.cursors tables agrees.schemas agrees.prepared
