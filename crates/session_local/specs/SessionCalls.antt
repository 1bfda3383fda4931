-- Sessions and transactions.
use Rattle.std.specs.Prelude.{Bool, nat_le, nat_lt, length, [], ◌∷◌, if◌then◌else◌}
use Rattle.jet_base.specs.declared.replies.Jet.TheVariants as jet
use Rattle.index_derive.specs.declared.log.EntryKind.TheVariants as entry
use Rattle.database_state.specs.State.{levels}
use Rattle.session_local.specs.Answer.{Nothing}
use Rattle.session_local.specs.Local.{new_session, no_session, without_prepared}
use Rattle.session_local.specs.Outcome.{CallInputs, Outcome, done, unless, one, is_outside, number_refusals}

abbrev pub begin_session : CallInputs → Outcome
begin_session asked =
    unless asked
    ((asked.local.begun, jet.SessionInUse)
    ∷ (nat_le 64 (length asked.state.sessions), jet.OutOfSessions)
    ∷ number_refusals asked)
    (λ _. done new_session Nothing (one asked entry.Enter))

-- The end of a session undoes its transaction, closes its cursors and drops its temporary tables.
abbrev pub end_session : CallInputs → Outcome
end_session asked = done no_session Nothing (one asked entry.Leave)

abbrev pub begin_transaction : CallInputs → Outcome
begin_transaction asked =
    unless asked
    ((nat_le 7 (levels asked.state asked.session), jet.TransTooDeep) ∷ number_refusals asked)
    (λ _. done asked.local Nothing (one asked (if is_outside asked then entry.Begin else entry.Save)))

-- An inner commit keeps the changes for the level below. The outermost one drops every prepared update.
abbrev pub commit_transaction : CallInputs → Outcome
commit_transaction asked =
    unless asked
    ((is_outside asked, jet.NotInTransaction) ∷ [])
    (λ _. if nat_lt 1 (levels asked.state asked.session) then done asked.local Nothing (one asked entry.Release)
    else done (without_prepared asked.local) Nothing (one asked entry.Commit))

-- Every rollback drops every prepared update.
abbrev pub rollback : CallInputs → Bool → Outcome
rollback asked all =
    unless asked
    ((is_outside asked, jet.NotInTransaction) ∷ [])
    (λ _. done (without_prepared asked.local) Nothing (one asked (if all then entry.UndoAll else entry.Undo)))
