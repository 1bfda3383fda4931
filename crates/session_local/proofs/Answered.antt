-- A call that a session answers by itself keeps its own state well formed.
use Rattle.std.proofs.Common.{◌≡◌, ℕ, Bool, true, false, not, ◌||◌, List, Option, Some, None, refl, sym, ◌∙◌, is_none}
use Rattle.jet_base.specs.declared.ids.CursorId.{CursorId}
use Rattle.column_set.specs.RecordValues.{column_named}
use Rattle.session_local.specs.declared.request.Request.{Request}
use Rattle.session_local.specs.declared.request.Request.TheVariants as call
use Rattle.session_local.specs.Local.{OpenCursor, cursor_labelled}
use Rattle.session_local.specs.Outcome.{CallInputs, Outcome}
use Rattle.session_local.specs.Calls.{answer, answer_begun, answer_not_begun, is_always_local}
use Rattle.session_local.specs.RecordCalls.{on_column, column_shown, retrieve_copy, retrieve_column}
use Rattle.session_local.specs.TempCalls.{temp_outcome}
use Rattle.session_local.specs.LocalCalls.{cursor_of, is_begin, is_answered_begun, is_answered_locally}
use Rattle.session_local.specs.Changing.{changed_by}
use Rattle.session_local.specs.WellFormed.{IsWellFormed}
use Rattle.session_local.proofs.Outcomes.{on_cursor-all, on_prepared-all, on_column-all}
use Rattle.session_local.proofs.Finishes.{shows_column}
use Rattle.session_local.proofs.Kept.{changed-kept, local_after-kept, found-kept}
use Rattle.session_local.proofs.Steps.{NoRetrieval, unknown, changes, by_itself-at, by_itself-nowhere}

abbrev IsKept : Outcome → Type 0
IsKept outcome = IsWellFormed outcome.local

left : (b : Bool) → (b || false) ≡ true → b ≡ true
left true h = refl
left false h = cc

at_label : (asked : CallInputs) (request : Request) (label : ℕ) (found : Option OpenCursor) → cursor_of request ≡ Some label → NoRetrieval request → is_answered_begun asked.local request ≡ true → cursor_labelled asked.local label ≡ found → IsWellFormed asked.local → IsKept (answer_begun asked request)
at_label asked request label None same other h is all = rw (unknown asked request label same is) all
at_label asked request label (Some c) same other h is all =
    let told : (is_always_local request || is_none (cursor_labelled asked.local label)) ≡ true = sym (by_itself-at asked.local request label same) ∙ h in
    let always : is_always_local request ≡ true = left (is_always_local request) (rw is at told) in
    rw (changes asked request label c same always other is)
    (local_after-kept asked.local (changed_by c request).cursor all (changed-kept c request (found-kept asked.local label c all is)))

anywhere : (asked : CallInputs) (request : Request) (label : Option ℕ) → cursor_of request ≡ label → NoRetrieval request → (request ≡ call.BeginSession → ⊥) → ((cursor : CursorId) (table : List ℕ) → request ≡ call.OpenTable cursor table → ⊥) → ((temp : CursorId) (cursors : List CursorId) → request ≡ call.IntersectIndexes temp cursors → ⊥) → temp_outcome asked.local.temps request ≡ None → is_answered_begun asked.local request ≡ true → IsWellFormed asked.local → IsKept (answer_begun asked request)
anywhere asked request None same other begin opens fills temps h all = let never = by_itself-nowhere asked.local request same begin opens fills temps in cc
anywhere asked request (Some label) same other begin opens fills temps h all = at_label asked request label (cursor_labelled asked.local label) same other h refl all

begun : (asked : CallInputs) (request : Request) → asked.local.begun ≡ true → is_answered_begun asked.local request ≡ true → IsWellFormed asked.local → IsKept (answer_begun asked request)
begun asked call.BeginSession is_begun h all = rw is_begun all
begun asked (call.OpenTable cursor table) is_begun h all = rw h all
begun asked (call.RetrieveColumn cursor column sequence true most) is_begun h all =
    on_cursor-all IsKept asked (cursor_labelled asked.local cursor.0) (λ c. retrieve_copy asked c column sequence most) all
    (λ c found. on_prepared-all IsKept asked c.prepared
    (λ update. on_column asked (column_named c.schema.columns column) (column_shown asked sequence most update.values))
    (λ reply. all)
    (λ update. on_column-all IsKept asked (column_named c.schema.columns column) (column_shown asked sequence most update.values)
    (λ reply. all)
    (λ shown. rw (shows_column asked sequence most update.values shown) all)))
begun asked (call.RetrieveColumn cursor column sequence false most) is_begun h all =
    on_cursor-all (λ o. cursor_labelled asked.local cursor.0 ≡ None → IsKept o) asked (cursor_labelled asked.local cursor.0) (λ c. retrieve_column asked c column sequence most) (λ none. all)
    (λ c found none. cc) (missing (cursor_labelled asked.local cursor.0) h)
  where
    missing : (found : Option OpenCursor) → is_none found ≡ true → found ≡ None
    missing None h = refl
    missing (Some c) h = cc
begun asked (call.TempOpen temp unique columns) is_begun h all = all
begun asked (call.TempPut temp values) is_begun h all = all
begun asked (call.TempMove temp way) is_begun h all = all
begun asked (call.TempRead temp column) is_begun h all = all
begun asked (call.TempCount temp) is_begun h all = all
begun asked (call.TempClose temp) is_begun h all = all
begun asked (call.IntersectIndexes temp cursors) is_begun h all = rw h all
begun asked request is_begun h all = anywhere asked request (cursor_of request) refl (λ cursor column sequence copy most e. cc) (λ e. cc) (λ cursor table e. cc) (λ temp cursors e. cc) refl h all

not_begun : (asked : CallInputs) (request : Request) → not (is_begin request) ≡ true → IsWellFormed asked.local → IsKept (answer_not_begun asked request)
not_begun asked call.BeginSession h all = cc
not_begun asked _ h all = all

pub answered-kept : (asked : CallInputs) (request : Request) → is_answered_locally asked.local request ≡ true → IsWellFormed asked.local → IsWellFormed (answer asked request).local
unfolding answer
answered-kept asked request h all =
    elim asked.local.begun as (λ b. asked.local.begun ≡ b → elim b [ true ↦ is_answered_begun asked.local request | false ↦ not (is_begin request) ] ≡ true → IsKept (elim b [ true ↦ answer_begun asked request | false ↦ answer_not_begun asked request ])) [
      | true ↦ λ e k. begun asked request e k all
      | false ↦ λ e k. not_begun asked request k all
    ] refl h
