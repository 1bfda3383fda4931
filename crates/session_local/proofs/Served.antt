-- What the code does with a call, once the session was begun, is what the definitions say.
use Rattle.std.proofs.Common.{◌≡◌, ℕ, ◌==◌, Bool, true, false, ◌||◌, List, [], Option, Some, None, Result, Ok, Err, refl, sym, ap, subst, ◌∙◌, is_some, is_none, find, if◌then◌else◌}
use Rattle.std.specs.Prelude.{IfOk, IfErr, MatchOption}
use Rattle.std.specs.List.{list_all, position}
use Rattle.common_lemmas.proofs.Booleans.{or_false}
use Rattle.jet_base.specs.declared.ids.CursorId.{CursorId}
use Rattle.jet_base.specs.declared.memory.OutOfMemory.{OutOfMemory}
use Rattle.jet_base.specs.declared.replies.Jet.{Jet}
use Rattle.jet_base.specs.declared.replies.Jet.TheVariants as jet
use Rattle.column_set.specs.RecordValues.{column_named}
use Rattle.database_state.specs.State.{empty_state}
use Rattle.session_local.specs.declared.reply.Reply.{Reply}
use Rattle.session_local.specs.declared.request.Request.{Request}
use Rattle.session_local.specs.declared.request.Request.TheVariants as call
use Rattle.session_local.specs.declared.open_temp.OpenTemp.{OpenTemp}
use Rattle.session_local.specs.Answer.{answered_by}
use Rattle.session_local.specs.Local.{LocalState, OpenCursor, no_session, cursor_labelled, temp_labelled}
use Rattle.session_local.specs.SessionSide.{SessionSide, HeldState}
use Rattle.session_local.specs.Holding.{local_of, side_with}
use Rattle.session_local.specs.Outcome.{CallInputs, Outcome, refused, on_cursor}
use Rattle.session_local.specs.Calls.{answer, answer_begun, is_always_local}
use Rattle.session_local.specs.RecordCalls.{on_column, column_shown, retrieve_copy}
use Rattle.session_local.specs.TempCalls.{TempOutcome, of_temps, temp_outcome}
use Rattle.session_local.specs.LocalCalls.{cursor_of, is_answered_begun, is_answered_locally, plain, reply_if_taken, reply_not_begun, IsAnswer, StepsBy}
use Rattle.session_local.specs.Changing.{change_at, held_after, local_after, outcome_of_change, ChangesBy}
use Rattle.session_local.specs.ChangingTemps.{TempStepsBy}
use Rattle.session_local.specs.WellFormed.{is_well_formed_cursor, IsWellFormed}
use Rattle.session_local.proofs.Outcomes.{on_cursor-all, on_prepared-all, on_column-all}
use Rattle.session_local.proofs.Finishes.{shows_column}
use Rattle.session_local.proofs.Steps.{NoRetrieval, unknown, change_is, retrieves, temps_told, temps_itself, by_itself-at, by_itself-nowhere, answer-begun, answer-not_begun}
use Rattle.session_local.proofs.Distinct.{is_some-position}
use Rattle.session_local.proofs.Answered.{answered-kept}

or_true : (b : Bool) → (b || true) ≡ true
or_true true = refl
or_true false = refl

-- ---- what a session holds

abbrev local_with : List OpenCursor → List OpenTemp → LocalState
local_with cursors temps = record { begun = true; cursors = cursors; temps = temps }

same_local : (old new : HeldState) → new.cursors ≡ old.cursors → new.temps ≡ old.temps → local_of old ≡ local_of new
same_local old new cursors temps = ap (λ cs. local_with cs old.temps) (sym cursors) ∙ ap (λ ts. local_with new.cursors ts) (sym temps)

-- ---- refusals

refused_step : (old : HeldState) (request : Request) (reply : Jet) → is_answered_begun (local_of old) request ≡ true → ((asked : CallInputs) → asked.local ≡ local_of old → answer_begun asked request ≡ refused asked reply) → StepsBy old request (Ok (Some (plain reply))) old
refused_step old request reply itself is =
    (itself, λ asked same. (ap (λ (o : Outcome). o.answered) (is asked same), ap (λ (o : Outcome). o.local) (is asked same) ∙ same))

pub begin_step : (old : HeldState) (request : Request) → request ≡ call.BeginSession → StepsBy old request (Ok (Some (plain jet.SessionInUse))) old
begin_step old request is = rw is (refused_step old call.BeginSession jet.SessionInUse refl (λ asked same. begins asked (ap (λ (l : LocalState). l.begun) same)))
  where
    begins : (asked : CallInputs) → asked.local.begun ≡ true → answer_begun asked call.BeginSession ≡ refused asked jet.SessionInUse
    begins asked begun = rw begun refl

taken : (asked : CallInputs) (cursor : CursorId) (table : List ℕ) → is_some (cursor_labelled asked.local cursor.0) ≡ true → answer_begun asked (call.OpenTable cursor table) ≡ refused asked jet.InvalidTableId
taken asked cursor table found = rw found refl

pub taken_step : (old : HeldState) (request : Request) (cursor : CursorId) (table : List ℕ) (at : ℕ) → request ≡ call.OpenTable cursor table → position (λ o. o.label == cursor.0) old.cursors ≡ Some at → StepsBy old request (Ok (Some (plain jet.InvalidTableId))) old
taken_step old request cursor table at is place =
    let there : is_some (find (λ o. o.label == cursor.0) old.cursors) ≡ true = sym (is_some-position (λ o. o.label == cursor.0) old.cursors) ∙ ap is_some place in
    rw is (refused_step old (call.OpenTable cursor table) jet.InvalidTableId there (λ asked same. taken asked cursor table (ap (λ (l : LocalState). is_some (cursor_labelled l cursor.0)) same ∙ there)))

pub free_step : (old : HeldState) (request : Request) (cursor : CursorId) (table : List ℕ) → request ≡ call.OpenTable cursor table → find (λ o. o.label == cursor.0) old.cursors ≡ None → StepsBy old request (Ok None) old
free_step old request cursor table is found = rw is (ap is_some found, refl)

-- ---- a temporary table whose label is taken

taken_temp : (asked : CallInputs) (temp : CursorId) (cursors : List CursorId) → is_some (temp_labelled asked.local.temps temp) ≡ true → answer_begun asked (call.IntersectIndexes temp cursors) ≡ refused asked jet.InvalidTableId
taken_temp asked temp cursors found = rw found refl

taken_or_free : (old : HeldState) (temp : CursorId) (cursors : List CursorId) (taken : Bool) → is_some (temp_labelled old.temps temp) ≡ taken → StepsBy old (call.IntersectIndexes temp cursors) (Ok (if taken then Some (plain jet.InvalidTableId) else None)) old
taken_or_free old temp cursors true e =
    refused_step old (call.IntersectIndexes temp cursors) jet.InvalidTableId e (λ asked same. taken_temp asked temp cursors (ap (λ (l : LocalState). is_some (temp_labelled l.temps temp)) same ∙ e))
taken_or_free old temp cursors false e = (e, refl)

pub taken_temp_step : (old : HeldState) (request : Request) (temp : CursorId) (cursors : List CursorId) (reply : Option Reply) → request ≡ call.IntersectIndexes temp cursors → reply ≡ reply_if_taken old.temps temp → StepsBy old request (Ok reply) old
taken_temp_step old request temp cursors reply is told =
    subst (λ (r : Request). StepsBy old r (Ok reply) old) (sym is)
    (subst (λ (o : Option Reply). StepsBy old (call.IntersectIndexes temp cursors) (Ok o) old) (sym told) (taken_or_free old temp cursors (is_some (temp_labelled old.temps temp)) refl))

-- ---- calls on temporary tables

told_step : (old new : HeldState) (request : Request) (reply : Reply) → temp_outcome old.temps request ≡ Some (record { answered = answered_by reply new.reply; temps = new.temps }) → new.cursors ≡ old.cursors → StepsBy old request (Ok (Some reply)) new
told_step old new request reply told kept =
    let outcome : TempOutcome = record { answered = answered_by reply new.reply; temps = new.temps } in (
      temps_itself (local_of old) old.temps request outcome told,
      λ asked same.
          let o : answer_begun asked request ≡ of_temps asked outcome = temps_told asked request outcome (ap (λ (l : LocalState). temp_outcome l.temps request) same ∙ told) in (
            ap (λ (o : Outcome). o.answered) o,
            ap (λ (o : Outcome). o.local) o ∙ ap (λ (l : LocalState). record l { temps = new.temps }) same ∙ ap (λ cs. local_with cs new.temps) (sym kept),
          ),
    )

-- the same of every call that is made at no cursor
pub nowhere_step : (old new : HeldState) (request : Request) (result : Result (Option Reply) OutOfMemory) → cursor_of request ≡ None → (request ≡ call.BeginSession → ⊥) → ((cursor : CursorId) (table : List ℕ) → request ≡ call.OpenTable cursor table → ⊥) → ((temp : CursorId) (cursors : List CursorId) → request ≡ call.IntersectIndexes temp cursors → ⊥) → TempStepsBy old request result new → StepsBy old request result new
nowhere_step old new request (Ok (Some reply)) none begin opens fills does = told_step old new request reply does.0 does.1
nowhere_step old new request (Ok None) none begin opens fills does = (by_itself-nowhere (local_of old) request none begin opens fills does.0, does.1)
nowhere_step old new request (Err e) none begin opens fills does = does

-- ---- calls at a label

pub unknown_step : (old : HeldState) (request : Request) (label : ℕ) → cursor_of request ≡ Some label → find (λ o. o.label == label) old.cursors ≡ None → StepsBy old request (Ok (Some (plain jet.InvalidTableId))) old
unknown_step old request label same none =
    refused_step old request jet.InvalidTableId
    (by_itself-at (local_of old) request label same ∙ ap (λ (o : Option OpenCursor). is_always_local request || is_none o) none ∙ or_true (is_always_local request))
    (λ asked is. unknown asked request label same (ap (λ (l : LocalState). cursor_labelled l label) is ∙ none))

not_none : (found : Option OpenCursor) → is_some found ≡ true → is_none found ≡ false
not_none (Some c) h = refl
not_none None h = cc

pub other_step : (old : HeldState) (request : Request) (label at : ℕ) → cursor_of request ≡ Some label → is_always_local request ≡ false → position (λ o. o.label == label) old.cursors ≡ Some at → StepsBy old request (Ok None) old
other_step old request label at same shared place =
    let there = not_none (find (λ o. o.label == label) old.cursors) (sym (is_some-position (λ o. o.label == label) old.cursors) ∙ ap is_some place) in
    (by_itself-at (local_of old) request label same ∙ ap (λ b. is_always_local request || b) there ∙ or_false (is_always_local request) ∙ shared, refl)

always_itself : (local : LocalState) (request : Request) (label : ℕ) → cursor_of request ≡ Some label → is_always_local request ≡ true → is_answered_begun local request ≡ true
always_itself local request label same always = by_itself-at local request label same ∙ ap (λ b. b || is_none (cursor_labelled local label)) always

rebuilt : (held : HeldState) (c : Option OpenCursor) → local_of (held_after held c) ≡ local_after (local_of held) c
rebuilt held None = refl
rebuilt held (Some c) = refl

pub changed_step : (old new : HeldState) (request : Request) (label : ℕ) (reply : Jet) → cursor_of request ≡ Some label → is_always_local request ≡ true → NoRetrieval request → ChangesBy old (change_at (find (λ o. o.label == label) old.cursors) request) (Ok reply) new → StepsBy old request (Ok (Some (plain reply))) new
changed_step old new request label reply same always other does =
    let change = change_at (find (λ o. o.label == label) old.cursors) request in (
      always_itself (local_of old) request label same always,
      λ asked is.
          let o : answer_begun asked request ≡ outcome_of_change asked change = change_is asked request label (find (λ o. o.label == label) old.cursors) same always other (ap (λ (l : LocalState). cursor_labelled l label) is) in (
            ap (λ (o : Outcome). o.answered) o ∙ ap (λ j. answered_by (plain j) new.reply) (sym does.0),
            ap (λ (o : Outcome). o.local) o ∙ ap (λ l. local_after l change.cursor) is ∙ sym (rebuilt old change.cursor) ∙ ap local_of (sym does.1),
          ),
    )

copy_keeps : (asked : CallInputs) (found : Option OpenCursor) (column : List ℕ) (sequence most : ℕ) → (on_cursor asked found (λ c. retrieve_copy asked c column sequence most)).local ≡ asked.local
copy_keeps asked found column sequence most =
    let P = λ (o : Outcome). o.local ≡ asked.local in
    on_cursor-all P asked found (λ c. retrieve_copy asked c column sequence most) refl
    (λ c is. on_prepared-all P asked c.prepared
    (λ update. on_column asked (column_named c.schema.columns column) (column_shown asked sequence most update.values))
    (λ reply. refl)
    (λ update. on_column-all P asked (column_named c.schema.columns column) (column_shown asked sequence most update.values)
    (λ reply. refl)
    (λ shown. shows_column asked sequence most update.values shown)))

pub copied_step : (old new : HeldState) (request : Request) (cursor : CursorId) (column : List ℕ) (sequence : ℕ) (copy : Bool) (most label : ℕ) (reply : Reply) → request ≡ call.RetrieveColumn cursor column sequence copy most → cursor_of request ≡ Some label → is_always_local request ≡ true
    → ((asked : CallInputs) → answered_by reply new.reply ≡ (on_cursor asked (find (λ o. o.label == label) old.cursors) (λ c. retrieve_copy asked c column sequence most)).answered) → new.cursors ≡ old.cursors → new.temps ≡ old.temps → StepsBy old request (Ok (Some reply)) new
copied_step old new request cursor column sequence copy most label reply is same always shown kept temps = (
  always_itself (local_of old) request label same always,
  λ asked its.
      let found = find (λ (o : OpenCursor). o.label == label) old.cursors in
      let o : answer_begun asked request ≡ on_cursor asked found (λ c. retrieve_copy asked c column sequence most) =
      retrieves asked request cursor column sequence copy most label is always same ∙ ap (λ (l : LocalState). on_cursor asked (cursor_labelled l label) (λ c. retrieve_copy asked c column sequence most)) its in (
        ap (λ (o : Outcome). o.answered) o ∙ sym (shown asked),
        ap (λ (o : Outcome). o.local) o ∙ copy_keeps asked found column sequence most ∙ its ∙ same_local old new kept temps,
      ),
)

-- ---- whole sessions

abbrev whole_side : ℕ → HeldState → SessionSide
whole_side session held = side_with session (Some held)

pub itself-begun : (old new : HeldState) (request : Request) (result : Result (Option Reply) OutOfMemory) → StepsBy old request result new → IfOk result (λ made. is_some made ≡ is_answered_locally (local_of old) request)
itself-begun old new request (Ok (Some reply)) does = sym does.0
itself-begun old new request (Ok None) does = sym does.0
itself-begun old new request (Err e) does = tt

pub answers-begun : (session : ℕ) (old new : HeldState) (request : Request) (result : Result (Option Reply) OutOfMemory) → StepsBy old request result new → IfOk result (λ made. MatchOption made (whole_side session new ≡ whole_side session old) (λ reply. IsAnswer (local_of old) request (answered_by reply new.reply) (local_of new)))
answers-begun session old new request (Ok (Some reply)) does =
    λ asked is.
    let told = does.1 asked is in
    let whole = answer-begun asked request (ap (λ (l : LocalState). l.begun) is) in
    (ap (λ (o : Outcome). o.answered) whole ∙ told.0, ap (λ (o : Outcome). o.local) whole ∙ told.1)
answers-begun session old new request (Ok None) does = ap (whole_side session) does.1
answers-begun session old new request (Err e) does = tt

pub unchanged-begun : (session : ℕ) (old new : HeldState) (request : Request) (result : Result (Option Reply) OutOfMemory) → StepsBy old request result new → IfErr result (λ _. whole_side session new ≡ whole_side session old)
unchanged-begun session old new request (Ok (Some reply)) does = tt
unchanged-begun session old new request (Ok None) does = tt
unchanged-begun session old new request (Err e) does = ap (whole_side session) does

-- a call as it is asked of a database in which there is nothing
abbrev asked_alone : HeldState → CallInputs
asked_alone held = record { limit = 0; state = empty_state; session = 0; local = local_of held }

pub kept-begun : (old new : HeldState) (request : Request) (result : Result (Option Reply) OutOfMemory) → IsWellFormed (local_of old) → StepsBy old request result new → IsWellFormed (local_of new)
kept-begun old new request (Ok (Some reply)) all does =
    let asked = asked_alone old in
    let told = does.1 asked refl in
    let whole = answer-begun asked request refl in
    let after : (answer asked request).local ≡ local_of new = ap (λ (o : Outcome). o.local) whole ∙ told.1 in
    ap (λ (l : LocalState). list_all is_well_formed_cursor l.cursors) (sym after) ∙ answered-kept asked request does.0 all
kept-begun old new request (Ok None) all does = ap (λ (h : HeldState). list_all is_well_formed_cursor h.cursors) does.1 ∙ all
kept-begun old new request (Err e) all does = ap (λ (h : HeldState). list_all is_well_formed_cursor h.cursors) does ∙ all

pub itself-not_begun : (request : Request) → is_some (reply_not_begun request) ≡ is_answered_locally no_session request
itself-not_begun call.BeginSession = refl
itself-not_begun _ = refl

pub answers-not_begun : (session : ℕ) (request : Request) → MatchOption (reply_not_begun request) (side_with session None ≡ side_with session None) (λ reply. IsAnswer no_session request (answered_by reply []) no_session)
answers-not_begun session call.BeginSession = refl
answers-not_begun session request = λ asked is. let o = answer-not_begun asked request (ap (λ (l : LocalState). l.begun) is) refl in (ap (λ (o : Outcome). o.answered) o, ap (λ (o : Outcome). o.local) o ∙ is)

pub session-begun : (session : ℕ) (begun : Option HeldState) (held : HeldState) (now : SessionSide) → begun ≡ Some held → side_with session begun ≡ now → whole_side session held ≡ now
session-begun session begun held now is seen = ap (side_with session) (sym is) ∙ seen

pub answer_clause-begun : (session : ℕ) (held new : HeldState) (now : SessionSide) (request : Request) (result : Result (Option Reply) OutOfMemory) → whole_side session held ≡ now → StepsBy held request result new → IfOk result (λ made. MatchOption made (whole_side session new ≡ now) (λ reply. IsAnswer now.state request (answered_by reply new.reply) (local_of new)))
answer_clause-begun session held new now request result seen does =
    subst (λ (n : SessionSide). IfOk result (λ made. MatchOption made (whole_side session new ≡ n) (λ reply. IsAnswer n.state request (answered_by reply new.reply) (local_of new)))) seen (answers-begun session held new request result does)

pub kept_clause-begun : (session : ℕ) (held new : HeldState) (now : SessionSide) (request : Request) (result : Result (Option Reply) OutOfMemory) → whole_side session held ≡ now → IsWellFormed now.state → StepsBy held request result new → IsWellFormed (local_of new)
kept_clause-begun session held new now request result seen all does =
    kept-begun held new request result (ap (λ (n : SessionSide). list_all is_well_formed_cursor n.state.cursors) seen ∙ all) does

pub answer_clause-not_begun : (session : ℕ) (begun : Option HeldState) (now : SessionSide) (request : Request) (made : Option Reply) → begun ≡ None → side_with session begun ≡ now → made ≡ reply_not_begun request → MatchOption made (side_with session begun ≡ now) (λ reply. IsAnswer now.state request (answered_by reply (side_with session begun).reply) (side_with session begun).state)
answer_clause-not_begun session (Some held) now request made is seen told = cc
answer_clause-not_begun session None now request made is seen told =
    subst (λ (m : Option Reply). MatchOption m (side_with session None ≡ now) (λ reply. IsAnswer now.state request (answered_by reply []) no_session)) (sym told)
    (subst (λ (n : SessionSide). MatchOption (reply_not_begun request) (side_with session None ≡ n) (λ reply. IsAnswer n.state request (answered_by reply []) no_session)) seen (answers-not_begun session request))
