-- What a session answers by itself at a cursor where it shows no value, and the cursor after it.
use Rattle.std.specs.Prelude.{◌≡◌, ℕ, Bool, List, [], Option, Some, None, Result, Ok, Err, is_some, is_none, unwrap_or, if◌then◌else◌}
use Rattle.jet_base.specs.declared.replies.Jet.{Jet}
use Rattle.jet_base.specs.declared.replies.Jet.TheVariants as jet
use Rattle.jet_base.specs.declared.memory.OutOfMemory.{OutOfMemory}
use Rattle.jet_base.specs.declared.words.Given.{Given}
use Rattle.jet_base.specs.declared.words.Prepare.{Prepare}
use Rattle.jet_base.specs.declared.words.Prepare.TheVariants as prepare
use Rattle.column_set.specs.declared.columns.Column.{Column}
use Rattle.column_set.specs.RecordValues.{column_named}
use Rattle.record_edit.specs.SetColumn.{refusal_in_column, fields_after}
use Rattle.cursor_nav.specs.Navigation.{Navigated, without_range}
use Rattle.cursor_nav.specs.MakingKeys.{key_made}
use Rattle.session_local.specs.declared.request.Request.{Request}
use Rattle.session_local.specs.declared.request.Request.TheVariants as call
use Rattle.session_local.specs.Answer.{Nothing}
use Rattle.session_local.specs.Local.{LocalState, OpenCursor, PreparedUpdate, inserting, with_cursor}
use Rattle.session_local.specs.SessionSide.{HeldState}
use Rattle.session_local.specs.Holding.{begun_with_cursors}
use Rattle.session_local.specs.Outcome.{CallInputs, Outcome}
use Rattle.session_local.specs.RecordCalls.{with_sums_at_zero}

-- the answer, and the cursor after it where the call is not refused
pub record Changed : Type 0 where
  pub jet : Jet
  pub cursor : Option OpenCursor

abbrev pub refused_by : Jet → Changed
refused_by reply = record { jet = reply; cursor = None }

abbrev pub changed_to : OpenCursor → Changed
changed_to c = record { jet = jet.Success; cursor = Some c }

abbrev pub changed_unless : Option Jet → OpenCursor → Changed
changed_unless (Some reply) c = refused_by reply
changed_unless None c = changed_to c

-- ---- call by call

-- the cursor of a success
abbrev pub cursor_if : Jet → OpenCursor → Option OpenCursor
cursor_if jet.Success c = Some c
cursor_if _ c = None

abbrev pub with_key : OpenCursor → Navigated → Changed
with_key c made = record { jet = made.jet; cursor = cursor_if made.jet (record c { cursor = made.cursor }) }

abbrev pub key_made_at : OpenCursor → Bool → Given → Changed
key_made_at c fresh value = with_key c (key_made c.cursor c.schema fresh value)

abbrev pub range_removed_at : OpenCursor → Changed
range_removed_at c = changed_to (record c { cursor = without_range c.cursor })

-- an insert of a record that has its sums alone
abbrev pub new_update : OpenCursor → PreparedUpdate
new_update c = record { for = inserting None; values = with_sums_at_zero c.schema.columns [] }

abbrev pub insert_prepared_at : OpenCursor → Changed
insert_prepared_at c = if is_some c.prepared then refused_by jet.AlreadyPrepared else changed_to (record c { prepared = Some (new_update c) })

abbrev pub update_cancelled_at : OpenCursor → Changed
update_cancelled_at c = if is_none c.prepared then refused_by jet.UpdateNotPrepared else changed_to (record c { prepared = None })

abbrev pub update_prepared_at : OpenCursor → Prepare → Changed
update_prepared_at c prepare.Insert = insert_prepared_at c
update_prepared_at c prepare.Cancel = update_cancelled_at c
update_prepared_at c _ = changed_to c

abbrev pub value_set_in : OpenCursor → PreparedUpdate → ℕ → Given → Option Column → Changed
value_set_in c update sequence value None = refused_by jet.ColumnNotFound
value_set_in c update sequence value (Some column) =
    changed_unless (refusal_in_column column sequence value update.values)
    (record c { prepared = Some (record update { values = fields_after column sequence value update.values }) })

abbrev pub value_set_on : OpenCursor → List ℕ → ℕ → Given → Option PreparedUpdate → Changed
value_set_on c name sequence value None = refused_by jet.UpdateNotPrepared
value_set_on c name sequence value (Some update) = value_set_in c update sequence value (column_named c.schema.columns name)

abbrev pub value_set_at : OpenCursor → List ℕ → ℕ → Given → Changed
value_set_at c name sequence value = value_set_on c name sequence value c.prepared

-- what a call that a session answers by itself does at its cursor, but for one that shows a value
abbrev pub changed_by : OpenCursor → Request → Changed
changed_by c (call.MakeKey cursor fresh value) = key_made_at c fresh value
changed_by c (call.RemoveIndexRange cursor) = range_removed_at c
changed_by c (call.PrepareUpdate cursor how) = update_prepared_at c how
changed_by c (call.SetColumn cursor column sequence value) = value_set_at c column sequence value
changed_by c _ = changed_to c

-- ---- what is left

abbrev pub cursor_after : OpenCursor → Changed → OpenCursor
cursor_after c change = unwrap_or change.cursor c

-- what the code did at a cursor: the change, or nothing where there was no memory
abbrev pub ChangesTo : OpenCursor → Changed → Result Jet OutOfMemory → OpenCursor → Type 0
ChangesTo old change (Ok reply) new = (reply ≡ change.jet) × (new ≡ cursor_after old change)
ChangesTo old change (Err e) new = new ≡ old

-- the session's own state with the cursor in its place
abbrev pub local_after : LocalState → Option OpenCursor → LocalState
local_after local None = local
local_after local (Some c) = with_cursor local c

-- what the code did to what a session holds
abbrev pub held_after : HeldState → Option OpenCursor → HeldState
held_after held c = record held { cursors = (local_after (begun_with_cursors held.cursors) c).cursors }

abbrev pub ChangesBy : HeldState → Changed → Result Jet OutOfMemory → HeldState → Type 0
ChangesBy old change (Ok reply) new = (reply ≡ change.jet) × (new ≡ held_after old change.cursor)
ChangesBy old change (Err e) new = new ≡ old

-- a change at the cursor that was found by its label
abbrev pub change_at : Option OpenCursor → Request → Changed
change_at None request = refused_by jet.InvalidTableId
change_at (Some c) request = changed_by c request

abbrev pub outcome_of_change : CallInputs → Changed → Outcome
outcome_of_change asked change = record {
  answered = record { jet = change.jet; shown = Nothing };
  local = local_after asked.local change.cursor;
  step = None;
}
