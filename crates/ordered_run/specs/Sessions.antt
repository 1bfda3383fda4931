-- The sessions of a run by label: each one's own side, and the number after its last call that looked at the shared state.
use Rattle.std.specs.Prelude.{◌≡◌, ◌≢◌, ◌<◌, ℕ, List, [], length, get_or, slice_set}
use Rattle.session_local.specs.Local.{no_session}
use Rattle.session_local.specs.SessionSide.{SessionSide}
use Rattle.session_local.specs.Run.{RunState, SessionRun, session_run}
use Rattle.ordered_run.specs.declared.sessions.RunSession.{RunSession}

-- a session that made no call
abbrev pub fresh_session : ℕ → RunSession
fresh_session label = record { local = record { session = label; state = no_session; reply = [] }; last = 0 }

-- Item n of the list is the session of label n. One that has no item is as one that made no call.
abbrev pub session_at : List RunSession → ℕ → RunSession
session_at sessions label = get_or sessions label (fresh_session label)

-- the greatest label of a session
abbrev pub last_label : ℕ
last_label = 99

-- no session made a call
abbrev pub AreFresh : List RunSession → Type 0
AreFresh sessions = (label : ℕ) → session_at sessions label ≡ fresh_session label

-- a session that may be written
abbrev pub HasPlace : List RunSession → ℕ → Type 0
HasPlace sessions label = label < length sessions

-- every session but this one is as it was
abbrev pub OthersStay : ℕ → List RunSession → List RunSession → Type 0
OthersStay label before after = (other : ℕ) → other ≢ label → session_at after other ≡ session_at before other

-- ---- what is written

abbrev pub with_local : List RunSession → ℕ → SessionSide → List RunSession
with_local sessions label local = slice_set sessions label (record (session_at sessions label) { local = local })

abbrev pub with_last : List RunSession → ℕ → ℕ → List RunSession
with_last sessions label last = slice_set sessions label (record (session_at sessions label) { last = last })

-- ---- the sessions of a run

-- what a run has of a session
abbrev pub in_run : RunSession → SessionRun
in_run session = record { local = session.local.state; last = session.last }

-- each session is as the run has it
abbrev pub AreSessionsOf : List RunSession → RunState → Type 0
AreSessionsOf sessions run = (label : ℕ) → session_run run label ≡ in_run (session_at sessions label)
