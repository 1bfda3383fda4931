-- The calls that a session answers by itself are answered as the definitions say.
use Rattle.std.proofs.Common.{◌≡◌, ℕ, Bool, true, false, cond, not, ◌&&◌, ◌||◌, List, [], ◌∷◌, ◌++◌, Option, Some, None, refl, ap, ◌∙◌, is_some, is_none, slice_get, if◌then◌else◌}
use Rattle.jet_base.specs.declared.ids.CursorId.{CursorId}
use Rattle.jet_base.specs.declared.replies.Jet.{Jet}
use Rattle.jet_base.specs.declared.replies.Jet.TheVariants as jet
use Rattle.jet_base.specs.declared.words.Given.{Given}
use Rattle.jet_base.specs.declared.words.Prepare.TheVariants as prepare
use Rattle.jet_base.specs.Given.{given_fits}
use Rattle.column_set.specs.declared.columns.Column.{Column}
use Rattle.column_set.specs.RecordValues.{column_named}
use Rattle.column_set.specs.Refusals.{Refusals, first_refusal}
use Rattle.record_edit.specs.SetColumn.{set_refusals, size_refusals, refusal_in_column, fields_after}
use Rattle.index_derive.specs.declared.rules.IndexRule.{IndexRule}
use Rattle.index_derive.specs.declared.rules.Segment.{Segment}
use Rattle.cursor_nav.specs.Navigation.{MadeKey}
use Rattle.cursor_nav.specs.MakingKeys.{begun_key, segment_kind, with_segment, key_made, key_made_in as made_in, segment_made as made_of}
use Rattle.index_derive.specs.Schemas.{rule_with_id}
use Rattle.session_local.specs.declared.request.Request.{Request}
use Rattle.session_local.specs.declared.request.Request.TheVariants as call
use Rattle.session_local.specs.declared.open_temp.OpenTemp.{OpenTemp}
use Rattle.session_local.specs.Answer.{Nothing}
use Rattle.session_local.specs.Local.{LocalState, OpenCursor, PreparedUpdate, cursor_labelled, with_cursor}
use Rattle.session_local.specs.Outcome.{CallInputs, Outcome, refused, done, unless, unless_refused, on_cursor, at_cursor}
use Rattle.session_local.specs.Calls.{answer, answer_begun, answer_not_begun, is_always_local}
use Rattle.session_local.specs.CursorCalls.{close_table, set_current_index, move_cursor, key_made_in, segment_made, make_key, seek_key, set_index_range, remove_index_range, index_record_count, retrieve_key, get_bookmark, goto_bookmark}
use Rattle.session_local.specs.RecordCalls.{with_prepared, on_prepared, on_column, prepare_insert, cancel_update, set_column_in, set_column, prepare_copy, prepare_replace, retrieve_column, retrieve_copy, update, delete, get_lock, escrow_update}
use Rattle.session_local.specs.TempCalls.{TempOutcome, of_temps, temp_outcome}
use Rattle.session_local.specs.LocalCalls.{cursor_of, is_answered_begun, is_begin}
use Rattle.session_local.specs.Changing.{with_key, key_made_at, insert_prepared_at, update_cancelled_at, new_update, value_set_in, value_set_on, value_set_at, changed_by, change_at, changed_unless, changed_to, refused_by, outcome_of_change}

-- ---- refusals

-- one refusal
if_refused : (asked : CallInputs) (b : Bool) (reply : Jet) (next : Unit {0} → Outcome) → unless asked ((b, reply) ∷ []) next ≡ (if b then refused asked reply else next tt)
if_refused asked true reply next = refl
if_refused asked false reply next = refl

-- refusals behind one another
unless-unless : (asked : CallInputs) (refusals others : Refusals) (next : Unit {0} → Outcome) → unless asked refusals (λ _. unless asked others next) ≡ unless_refused asked (first_refusal (refusals ++ others)) next
unless-unless asked [] others next = refl
unless-unless asked (refusal ∷ refusals) others next =
    elim refusal.0 as (λ b. unless_refused asked (cond b (Some refusal.1) (first_refusal refusals)) (λ _. unless asked others next) ≡ unless_refused asked (cond b (Some refusal.1) (first_refusal (refusals ++ others))) next) [
      | true ↦ refl
      | false ↦ unless-unless asked refusals others next
    ]

-- ---- MakeKey

segment_is : (asked : CallInputs) (c : OpenCursor) (rule : IndexRule) (key : MadeKey) (value : Given) (segment : Option Segment) → segment_made asked c rule key value segment ≡ outcome_of_change asked (with_key c (made_of c.cursor c.schema.columns rule key value segment))
segment_is asked c rule key value None = refl
segment_is asked c rule key value (Some segment) =
    let type = segment_kind c.schema.columns segment in
    let made : OpenCursor = record c { cursor = record c.cursor { key = Some (with_segment rule type segment value key) } } in
    elim (given_fits type value) as (λ b. unless asked ((not b, jet.InvalidBufferSize) ∷ []) (λ _. done (with_cursor asked.local made) Nothing None)
    ≡ outcome_of_change asked (with_key c (if b then record { jet = jet.Success; cursor = record c.cursor { key = Some (with_segment rule type segment value key) } } else record { jet = jet.InvalidBufferSize; cursor = c.cursor }))) [
      | true ↦ refl
      | false ↦ refl
    ]

key_is : (asked : CallInputs) (c : OpenCursor) (fresh : Bool) (value : Given) (rule : Option IndexRule) → key_made_in asked c fresh value rule ≡ outcome_of_change asked (with_key c (made_in c.cursor c.schema.columns fresh value rule))
key_is asked c fresh value None = refl
key_is asked c fresh value (Some rule) =
    let key = begun_key fresh c.cursor.key in
    let segment = slice_get rule.segments key.segments in
    elim (not fresh && is_none c.cursor.key) as (λ b. unless asked ((b, jet.KeyNotMade) ∷ []) (λ _. segment_made asked c rule key value segment)
    ≡ outcome_of_change asked (with_key c (if b then record { jet = jet.KeyNotMade; cursor = c.cursor } else made_of c.cursor c.schema.columns rule key value segment))) [
      | true ↦ refl
      | false ↦ segment_is asked c rule key value segment
    ]

pub make_key-is : (asked : CallInputs) (c : OpenCursor) (fresh : Bool) (value : Given) → make_key asked c fresh value ≡ outcome_of_change asked (key_made_at c fresh value)
unfolding key_made
make_key-is asked c fresh value = key_is asked c fresh value (rule_with_id c.schema c.cursor.index)

-- ---- PrepareUpdate

pub insert-is : (asked : CallInputs) (c : OpenCursor) → prepare_insert asked c ≡ outcome_of_change asked (insert_prepared_at c)
insert-is asked c =
    elim (is_some c.prepared) as (λ b. unless asked ((b, jet.AlreadyPrepared) ∷ []) (λ _. done (with_prepared asked c (Some (new_update c))) Nothing None)
    ≡ outcome_of_change asked (if b then refused_by jet.AlreadyPrepared else changed_to (record c { prepared = Some (new_update c) }))) [
      | true ↦ refl
      | false ↦ refl
    ]

pub cancel-is : (asked : CallInputs) (c : OpenCursor) → cancel_update asked c ≡ outcome_of_change asked (update_cancelled_at c)
cancel-is asked c =
    elim (is_none c.prepared) as (λ b. unless asked ((b, jet.UpdateNotPrepared) ∷ []) (λ _. done (with_prepared asked c None) Nothing None)
    ≡ outcome_of_change asked (if b then refused_by jet.UpdateNotPrepared else changed_to (record c { prepared = None }))) [
      | true ↦ refl
      | false ↦ refl
    ]

-- ---- SetColumn

unless_refused-is : (asked : CallInputs) (reply : Option Jet) (c : OpenCursor) → unless_refused asked reply (λ _. done (with_cursor asked.local c) Nothing None) ≡ outcome_of_change asked (changed_unless reply c)
unless_refused-is asked None c = refl
unless_refused-is asked (Some reply) c = refl

value_in-is : (asked : CallInputs) (c : OpenCursor) (prepared : PreparedUpdate) (sequence : ℕ) (value : Given) (column : Option Column) → on_column asked column (set_column_in asked c prepared sequence value) ≡ outcome_of_change asked (value_set_in c prepared sequence value column)
value_in-is asked c prepared sequence value None = refl
value_in-is asked c prepared sequence value (Some column) =
    let new : OpenCursor = record c { prepared = Some (record prepared { values = fields_after column sequence value prepared.values }) } in
    unless-unless asked (set_refusals column sequence value prepared.values) (size_refusals column sequence value prepared.values) (λ _. done (with_cursor asked.local new) Nothing None)
    ∙ unless_refused-is asked (refusal_in_column column sequence value prepared.values) new

value_on-is : (asked : CallInputs) (c : OpenCursor) (name : List ℕ) (sequence : ℕ) (value : Given) (prepared : Option PreparedUpdate) → on_prepared asked prepared (λ update. on_column asked (column_named c.schema.columns name) (set_column_in asked c update sequence value)) ≡ outcome_of_change asked (value_set_on c name sequence value prepared)
value_on-is asked c name sequence value None = refl
value_on-is asked c name sequence value (Some prepared) = value_in-is asked c prepared sequence value (column_named c.schema.columns name)

pub set_column-is : (asked : CallInputs) (c : OpenCursor) (name : List ℕ) (sequence : ℕ) (value : Given) → set_column asked c name sequence value ≡ outcome_of_change asked (value_set_at c name sequence value)
set_column-is asked c name sequence value = value_on-is asked c name sequence value c.prepared

-- ---- cursors by their labels

same_label : (one other : ℕ) → Some one ≡ Some other → one ≡ other
same_label one other e = cc

missing : (asked : CallInputs) (one label : ℕ) (next : OpenCursor → Outcome) → Some one ≡ Some label → cursor_labelled asked.local label ≡ None → at_cursor asked one next ≡ refused asked jet.InvalidTableId
missing asked one label next same none = rw (same_label one label same, none) refl

-- a call at a label that no cursor has
pub unknown : (asked : CallInputs) (request : Request) (label : ℕ) → cursor_of request ≡ Some label → cursor_labelled asked.local label ≡ None → answer_begun asked request ≡ refused asked jet.InvalidTableId
unknown asked (call.CloseTable cursor) label same none = missing asked cursor.0 label (close_table asked) same none
unknown asked (call.SetCurrentIndex cursor index) label same none = missing asked cursor.0 label (λ c. set_current_index asked c index) same none
unknown asked (call.Move cursor way) label same none = missing asked cursor.0 label (λ c. move_cursor asked c way) same none
unknown asked (call.MakeKey cursor fresh value) label same none = missing asked cursor.0 label (λ c. make_key asked c fresh value) same none
unknown asked (call.Seek cursor by) label same none = missing asked cursor.0 label (λ c. seek_key asked c by) same none
unknown asked (call.SetIndexRange cursor upper inclusive) label same none = missing asked cursor.0 label (λ c. set_index_range asked c upper inclusive) same none
unknown asked (call.RemoveIndexRange cursor) label same none = missing asked cursor.0 label (remove_index_range asked) same none
unknown asked (call.IndexRecordCount cursor most) label same none = missing asked cursor.0 label (λ c. index_record_count asked c most) same none
unknown asked (call.RetrieveKey cursor) label same none = missing asked cursor.0 label (retrieve_key asked) same none
unknown asked (call.GetBookmark cursor) label same none = missing asked cursor.0 label (get_bookmark asked) same none
unknown asked (call.GotoBookmark cursor bookmark) label same none = missing asked cursor.0 label (λ c. goto_bookmark asked c bookmark) same none
unknown asked (call.PrepareUpdate cursor prepare.Insert) label same none = missing asked cursor.0 label (prepare_insert asked) same none
unknown asked (call.PrepareUpdate cursor prepare.InsertCopy) label same none = missing asked cursor.0 label (prepare_copy asked) same none
unknown asked (call.PrepareUpdate cursor prepare.Replace) label same none = missing asked cursor.0 label (prepare_replace asked) same none
unknown asked (call.PrepareUpdate cursor prepare.Cancel) label same none = missing asked cursor.0 label (cancel_update asked) same none
unknown asked (call.SetColumn cursor column sequence value) label same none = missing asked cursor.0 label (λ c. set_column asked c column sequence value) same none
unknown asked (call.RetrieveColumn cursor column sequence true most) label same none = missing asked cursor.0 label (λ c. retrieve_copy asked c column sequence most) same none
unknown asked (call.RetrieveColumn cursor column sequence false most) label same none = missing asked cursor.0 label (λ c. retrieve_column asked c column sequence most) same none
unknown asked (call.Update cursor) label same none = missing asked cursor.0 label (update asked) same none
unknown asked (call.Delete cursor) label same none = missing asked cursor.0 label (delete asked) same none
unknown asked (call.GetLock cursor) label same none = missing asked cursor.0 label (get_lock asked) same none
unknown asked (call.EscrowUpdate cursor column amount) label same none = missing asked cursor.0 label (λ c. escrow_update asked c column amount) same none
unknown asked _ label same none = cc

there : (asked : CallInputs) (one label : ℕ) (c : OpenCursor) (next : OpenCursor → Outcome) (o : Outcome) → Some one ≡ Some label → cursor_labelled asked.local label ≡ Some c → next c ≡ o → at_cursor asked one next ≡ o
there asked one label c next o same found is = rw (same_label one label same, found) is

abbrev pub NoRetrieval : Request → Type 0
NoRetrieval request = (cursor : CursorId) (column : List ℕ) (sequence : ℕ) (copy : Bool) (most : ℕ) → request ≡ call.RetrieveColumn cursor column sequence copy most → ⊥

-- a call that changes its cursor
pub changes : (asked : CallInputs) (request : Request) (label : ℕ) (c : OpenCursor) → cursor_of request ≡ Some label → is_always_local request ≡ true → NoRetrieval request → cursor_labelled asked.local label ≡ Some c → answer_begun asked request ≡ outcome_of_change asked (changed_by c request)
changes asked (call.MakeKey cursor fresh value) label c same local other found = there asked cursor.0 label c (λ o. make_key asked o fresh value) _ same found (make_key-is asked c fresh value)
changes asked (call.RemoveIndexRange cursor) label c same local other found = there asked cursor.0 label c (remove_index_range asked) _ same found refl
changes asked (call.PrepareUpdate cursor prepare.Insert) label c same local other found = there asked cursor.0 label c (prepare_insert asked) _ same found (insert-is asked c)
changes asked (call.PrepareUpdate cursor prepare.Cancel) label c same local other found = there asked cursor.0 label c (cancel_update asked) _ same found (cancel-is asked c)
changes asked (call.PrepareUpdate cursor prepare.InsertCopy) label c same local other found = cc
changes asked (call.PrepareUpdate cursor prepare.Replace) label c same local other found = cc
changes asked (call.SetColumn cursor column sequence value) label c same local other found = there asked cursor.0 label c (λ o. set_column asked o column sequence value) _ same found (set_column-is asked c column sequence value)
changes asked (call.RetrieveColumn cursor column sequence copy most) label c same local other found = absurd (other cursor column sequence copy most refl)
changes asked _ label c same local other found = cc

-- the same of a label that a cursor may have
pub change_is : (asked : CallInputs) (request : Request) (label : ℕ) (found : Option OpenCursor) → cursor_of request ≡ Some label → is_always_local request ≡ true → NoRetrieval request → cursor_labelled asked.local label ≡ found → answer_begun asked request ≡ outcome_of_change asked (change_at found request)
change_is asked request label None same local other found = unknown asked request label same found
change_is asked request label (Some c) same local other found = changes asked request label c same local other found

-- RetrieveColumn from the copy buffer
pub retrieves : (asked : CallInputs) (request : Request) (cursor : CursorId) (column : List ℕ) (sequence : ℕ) (copy : Bool) (most label : ℕ) → request ≡ call.RetrieveColumn cursor column sequence copy most → is_always_local request ≡ true → cursor_of request ≡ Some label → answer_begun asked request ≡ on_cursor asked (cursor_labelled asked.local label) (λ c. retrieve_copy asked c column sequence most)
retrieves asked request cursor column sequence copy most label is local same =
    let copied : copy ≡ true = rw is at local in
    let its : Some cursor.0 ≡ Some label = rw is at same in
    rw (is, copied, same_label cursor.0 label its) refl

-- ---- whether a session answers by itself

lacks : (local : LocalState) (one label : ℕ) (always : Bool) → Some one ≡ Some label → (always || is_none (cursor_labelled local one)) ≡ (always || is_none (cursor_labelled local label))
lacks local one label always same = rw (same_label one label same) refl

pub by_itself-at : (local : LocalState) (request : Request) (label : ℕ) → cursor_of request ≡ Some label → is_answered_begun local request ≡ (is_always_local request || is_none (cursor_labelled local label))
by_itself-at local (call.CloseTable cursor) label same = lacks local cursor.0 label false same
by_itself-at local (call.SetCurrentIndex cursor index) label same = lacks local cursor.0 label false same
by_itself-at local (call.Move cursor way) label same = lacks local cursor.0 label false same
by_itself-at local (call.MakeKey cursor fresh value) label same = refl
by_itself-at local (call.Seek cursor by) label same = lacks local cursor.0 label false same
by_itself-at local (call.SetIndexRange cursor upper inclusive) label same = lacks local cursor.0 label false same
by_itself-at local (call.RemoveIndexRange cursor) label same = refl
by_itself-at local (call.IndexRecordCount cursor most) label same = lacks local cursor.0 label false same
by_itself-at local (call.RetrieveKey cursor) label same = lacks local cursor.0 label false same
by_itself-at local (call.GetBookmark cursor) label same = lacks local cursor.0 label false same
by_itself-at local (call.GotoBookmark cursor bookmark) label same = lacks local cursor.0 label false same
by_itself-at local (call.PrepareUpdate cursor prepare.Insert) label same = refl
by_itself-at local (call.PrepareUpdate cursor prepare.Cancel) label same = refl
by_itself-at local (call.PrepareUpdate cursor prepare.InsertCopy) label same = lacks local cursor.0 label false same
by_itself-at local (call.PrepareUpdate cursor prepare.Replace) label same = lacks local cursor.0 label false same
by_itself-at local (call.SetColumn cursor column sequence value) label same = refl
by_itself-at local (call.RetrieveColumn cursor column sequence copy most) label same = lacks local cursor.0 label copy same
by_itself-at local (call.Update cursor) label same = lacks local cursor.0 label false same
by_itself-at local (call.Delete cursor) label same = lacks local cursor.0 label false same
by_itself-at local (call.GetLock cursor) label same = lacks local cursor.0 label false same
by_itself-at local (call.EscrowUpdate cursor column amount) label same = lacks local cursor.0 label false same
by_itself-at local _ label same = cc

-- ---- temporary tables

some_told : (told other : TempOutcome) → Some told ≡ Some other → told ≡ other
some_told told other e = cc

none_told : {A : Type 0} (told : TempOutcome) → None ≡ Some told → A
none_told told e = cc

told_none : {A : Type 0} (told : TempOutcome) → Some told ≡ None → A
told_none told e = cc

-- a call on temporary tables
pub temps_told : (asked : CallInputs) (request : Request) (told : TempOutcome) → temp_outcome asked.local.temps request ≡ Some told → answer_begun asked request ≡ of_temps asked told
temps_told asked (call.TempOpen temp unique columns) told is = ap (of_temps asked) (some_told _ told is)
temps_told asked (call.TempPut temp values) told is = ap (of_temps asked) (some_told _ told is)
temps_told asked (call.TempMove temp way) told is = ap (of_temps asked) (some_told _ told is)
temps_told asked (call.TempRead temp column) told is = ap (of_temps asked) (some_told _ told is)
temps_told asked (call.TempCount temp) told is = ap (of_temps asked) (some_told _ told is)
temps_told asked (call.TempClose temp) told is = ap (of_temps asked) (some_told _ told is)
temps_told asked _ told is = none_told told is

-- a session answers it by itself
pub temps_itself : (local : LocalState) (temps : List OpenTemp) (request : Request) (told : TempOutcome) → temp_outcome temps request ≡ Some told → is_answered_begun local request ≡ true
temps_itself local temps (call.TempOpen temp unique columns) told is = refl
temps_itself local temps (call.TempPut temp values) told is = refl
temps_itself local temps (call.TempMove temp way) told is = refl
temps_itself local temps (call.TempRead temp column) told is = refl
temps_itself local temps (call.TempCount temp) told is = refl
temps_itself local temps (call.TempClose temp) told is = refl
temps_itself local temps _ told is = none_told told is

-- a call at no cursor and no temporary table is not answered so, but for BeginSession, OpenTable and IntersectIndexes
pub by_itself-nowhere : (local : LocalState) (request : Request) → cursor_of request ≡ None → (request ≡ call.BeginSession → ⊥) → ((cursor : CursorId) (table : List ℕ) → request ≡ call.OpenTable cursor table → ⊥) → ((temp : CursorId) (cursors : List CursorId) → request ≡ call.IntersectIndexes temp cursors → ⊥) → temp_outcome local.temps request ≡ None → is_answered_begun local request ≡ false
by_itself-nowhere local call.BeginSession none begin opens fills other = absurd (begin refl)
by_itself-nowhere local (call.OpenTable cursor table) none begin opens fills other = absurd (opens cursor table refl)
by_itself-nowhere local call.EndSession none begin opens fills other = refl
by_itself-nowhere local call.BeginTransaction none begin opens fills other = refl
by_itself-nowhere local (call.CommitTransaction lazy) none begin opens fills other = refl
by_itself-nowhere local (call.Rollback all) none begin opens fills other = refl
by_itself-nowhere local (call.CreateTable table) none begin opens fills other = refl
by_itself-nowhere local (call.DeleteTable table) none begin opens fills other = refl
by_itself-nowhere local (call.AddColumn table column kind flags) none begin opens fills other = refl
by_itself-nowhere local (call.DeleteColumn table column) none begin opens fills other = refl
by_itself-nowhere local (call.CreateIndex table index flags key_most segments conditions) none begin opens fills other = refl
by_itself-nowhere local (call.DeleteIndex table index) none begin opens fills other = refl
by_itself-nowhere local (call.TempOpen temp unique columns) none begin opens fills other = told_none _ other
by_itself-nowhere local (call.TempPut temp values) none begin opens fills other = told_none _ other
by_itself-nowhere local (call.TempMove temp way) none begin opens fills other = told_none _ other
by_itself-nowhere local (call.TempRead temp column) none begin opens fills other = told_none _ other
by_itself-nowhere local (call.TempCount temp) none begin opens fills other = told_none _ other
by_itself-nowhere local (call.TempClose temp) none begin opens fills other = told_none _ other
by_itself-nowhere local (call.IntersectIndexes temp cursors) none begin opens fills other = absurd (fills temp cursors refl)
by_itself-nowhere local _ none begin opens fills other = cc

-- ---- sessions that were not begun, and those that were

pub answer-begun : (asked : CallInputs) (request : Request) → asked.local.begun ≡ true → answer asked request ≡ answer_begun asked request
unfolding answer
answer-begun asked request begun = rw begun refl

pub answer-not_begun : (asked : CallInputs) (request : Request) → asked.local.begun ≡ false → is_begin request ≡ false → answer asked request ≡ refused asked jet.InvalidSesid
unfolding answer
answer-not_begun asked request begun other =
    ap (λ b. elim b [ true ↦ answer_begun asked request | false ↦ answer_not_begun asked request ]) begun ∙ refuses asked request other
  where
    refuses : (asked : CallInputs) (request : Request) → is_begin request ≡ false → answer_not_begun asked request ≡ refused asked jet.InvalidSesid
    refuses asked call.BeginSession other = cc
    refuses asked _ other = refl
