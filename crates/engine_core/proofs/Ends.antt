-- What is to end, and by how many bytes.
use Rattle.std.proofs.Common.{◌≡◌, ℕ, ◌+◌, ◌-◌, ◌*◌, ◌≤◌, true, false, cond, List, map, length, Option, Some, None, sym, ap, subst, ◌∙◌, arith}
use Rattle.std.specs.Prelude.{◌==◌, nat_lt, find, is_some, option_map}
use Rattle.common_lemmas.proofs.Booleans.{and_left, impossible}
use Rattle.index_derive.specs.declared.log.Entry.{Entry}
use Rattle.index_derive.specs.declared.log.EntryKind.{EntryKind}
use Rattle.index_derive.specs.declared.log.EntryKind.TheVariants as entry
use Rattle.database_state.specs.State.{DatabaseState, LiveSession, levels}
use Rattle.database_state.specs.Step.{with_one, without_one}
use Rattle.database_state.specs.Lawful.{has_open as has_open_in, is_lawful, is_lawful_kind}
use Rattle.laws_versions.specs.History.{EachTwo}
use Rattle.version_cleanup.specs.declared.live.Transaction.{Transaction}
use Rattle.version_cleanup.specs.LiveSessions.{LiveState, at_levels, began, ended, entered, left, levels_in, levels_of, live_state, lowered, new_session, opened, saved, session_in, sessions_after, shut, with_session}
use Rattle.laws_engine.specs.EngineState.{EngineState}
use Rattle.laws_engine.specs.EngineSteps.{engine_after}
use Rattle.laws_engine.specs.HoldsState.{HoldsState}
use Rattle.laws_engine.proofs.EngineLemmas.SessionTotals.{EndsBy, RisesTo, ends_by, grows, in_levels, inserted, le_self, left_fewer, level_of, levels_there, one_level, one_more_open, rise_told, shut_fewer, shut_no_more, two_levels}
use Rattle.laws_engine.proofs.EngineLemmas.Sessions.{live_alike, session_alike}
use Rattle.engine_core.specs.Ends.{begun_bytes, end_bytes, end_bytes_of, ended_bytes}
use Rattle.loggable_steps.proofs.Spelled.{kind_of}

-- ---- more

opened_grows : (table : ℕ) (s : LiveState) → end_bytes_of (opened table s) ≤ end_bytes_of s + 13
opened_grows table s = by (length (with_one table s.open_tables)) (length s.open_tables) (levels_of s.transaction) (one_more_open table s.open_tables)
  where
    by : (a b c : ℕ) → a ≡ b + 1 → 9 + 13 * a + 9 * c ≤ (9 + 13 * b + 9 * c) + 13
    by a b c e = omega (arith, e)

began_grows : (number : ℕ) (s : LiveState) → end_bytes_of (began number s) ≤ end_bytes_of s + 9
began_grows number s = by (length s.open_tables) (levels_of s.transaction)
  where
    by : (a b : ℕ) → 9 + 13 * a + 9 * 1 ≤ (9 + 13 * a + 9 * b) + 9
    by a b = omega arith

saved_grows : (s : LiveState) → end_bytes_of (saved s) ≤ end_bytes_of s + 9
saved_grows s = by (length s.open_tables) s.transaction
  where
    none : (a : ℕ) → 9 + 13 * a + 9 * 0 ≤ (9 + 13 * a + 9 * 0) + 9
    none a = omega arith

    some : (a b : ℕ) → 9 + 13 * a + 9 * (b + 1) ≤ (9 + 13 * a + 9 * b) + 9
    some a b = omega arith

    by : (a : ℕ) (t : Option Transaction) → 9 + 13 * a + 9 * levels_of (at_levels (λ n. n + 1) t) ≤ (9 + 13 * a + 9 * levels_of t) + 9
    by a None = none a
    by a (Some t) = some a t.levels

-- ---- less

lowered_keeps : (s : LiveState) → end_bytes_of (lowered s) ≤ end_bytes_of s
lowered_keeps s = by (length s.open_tables) s.transaction
  where
    some : (a b : ℕ) → 9 + 13 * a + 9 * (b - 1) ≤ 9 + 13 * a + 9 * b
    some a b = omega arith

    by : (a : ℕ) (t : Option Transaction) → 9 + 13 * a + 9 * levels_of (at_levels (λ n. n - 1) t) ≤ 9 + 13 * a + 9 * levels_of t
    by a None = le_self (9 + 13 * a + 9 * 0)
    by a (Some t) = some a t.levels

ended_keeps : (s : LiveState) → end_bytes_of (ended s) ≤ end_bytes_of s
ended_keeps s = by (length s.open_tables) (levels_of s.transaction)
  where
    by : (a b : ℕ) → 9 + 13 * a + 9 * 0 ≤ 9 + 13 * a + 9 * b
    by a b = omega arith

lowered_ends : (s : LiveState) → 1 ≤ levels_of s.transaction → 9 + end_bytes_of (lowered s) ≤ end_bytes_of s
lowered_ends s h = by (length s.open_tables) s.transaction h
  where
    none : (a : ℕ) → 1 ≤ 0 → 9 + (9 + 13 * a + 9 * 0) ≤ 9 + 13 * a + 9 * 0
    none a h = omega (arith, h)

    some : (a b : ℕ) → 1 ≤ b → 9 + (9 + 13 * a + 9 * (b - 1)) ≤ 9 + 13 * a + 9 * b
    some a b h = omega (arith, h)

    by : (a : ℕ) (t : Option Transaction) → 1 ≤ levels_of t → 9 + (9 + 13 * a + 9 * levels_of (at_levels (λ n. n - 1) t)) ≤ 9 + 13 * a + 9 * levels_of t
    by a None h = none a h
    by a (Some t) h = some a t.levels h

ended_ends : (s : LiveState) → 1 ≤ levels_of s.transaction → 9 + end_bytes_of (ended s) ≤ end_bytes_of s
ended_ends s h = by (length s.open_tables) (levels_of s.transaction) h
  where
    by : (a b : ℕ) → 1 ≤ b → 9 + (9 + 13 * a + 9 * 0) ≤ 9 + 13 * a + 9 * b
    by a b h = omega (arith, h)

shut_keeps : (table : ℕ) (s : LiveState) → end_bytes_of (shut table s) ≤ end_bytes_of s
shut_keeps table s = by (length (without_one table s.open_tables)) (length s.open_tables) (levels_of s.transaction) (shut_no_more table s.open_tables)
  where
    by : (a b c : ℕ) → a ≤ b → 9 + 13 * a + 9 * c ≤ 9 + 13 * b + 9 * c
    by a b c h = omega (arith, h)

shut_ends : (table label : ℕ) (sessions : List LiveSession) → has_open_in (find (λ s. s.label == label) sessions) table ≡ true → EndsBy end_bytes_of 13 (shut table) (session_in label (map live_state sessions))
shut_ends table label sessions h = subst (EndsBy end_bytes_of 13 (shut table)) (sym (session_alike label sessions)) (by (find (λ s. s.label == label) sessions) h)
  where
    less : (a b c : ℕ) → a + 1 ≡ b → 13 + (9 + 13 * a + 9 * c) ≤ 9 + 13 * b + 9 * c
    less a b c e = omega (arith, e)

    by : (o : Option LiveSession) → has_open_in o table ≡ true → EndsBy end_bytes_of 13 (shut table) (option_map live_state o)
    by None h = impossible h
    by (Some s) h = less (length (without_one table s.open_tables)) (length s.open_tables) (levels_of (live_state s).transaction) (shut_fewer table s.open_tables h)

-- a session ends by bytes of its own
end_counts : (s : LiveState) → 9 ≤ end_bytes_of s
end_counts s = by (length s.open_tables) (levels_of s.transaction)
  where
    by : (a b : ℕ) → 9 ≤ 9 + 13 * a + 9 * b
    by a b = omega arith

-- ---- by kind

begins : (k a b : ℕ) → a ≤ b + k → 0 + a ≤ b + k
begins k a b h = omega (arith, h)

ends : (k a b : ℕ) → k + a ≤ b → k + a ≤ b + 0
ends k a b h = omega (arith, h)

stays : (a : ℕ) → 0 + a ≤ a + 0
stays a = omega arith

by_kind : (engine : EngineState) (state : DatabaseState) (session : ℕ) (kind : EntryKind) → HoldsState engine state → is_lawful_kind state session kind ≡ true → EachTwo RisesTo engine.sessions
    → ended_bytes kind + end_bytes (sessions_after (engine.number + 1) session kind engine.sessions) ≤ end_bytes engine.sessions + begun_bytes kind
by_kind engine state session entry.Enter h e rise =
    by (end_bytes (entered session engine.sessions)) (end_bytes engine.sessions) (inserted end_bytes_of (new_session session) engine.sessions)
  where
    by : (a b : ℕ) → a ≡ (9 + 13 * 0 + 9 * 0) + b → 0 + a ≤ b + 9
    by a b e = omega (arith, e)
by_kind engine state session (entry.Open table) h e rise =
    begins 13 (end_bytes (with_session session (opened table.0) engine.sessions)) (end_bytes engine.sessions) (grows end_bytes_of 13 session (opened table.0) (opened_grows table.0) engine.sessions rise)
by_kind engine state session entry.Begin h e rise =
    begins 9 (end_bytes (with_session session (began (engine.number + 1)) engine.sessions)) (end_bytes engine.sessions) (grows end_bytes_of 9 session (began (engine.number + 1)) (began_grows (engine.number + 1)) engine.sessions rise)
by_kind engine state session entry.Save h e rise =
    begins 9 (end_bytes (with_session session saved engine.sessions)) (end_bytes engine.sessions) (grows end_bytes_of 9 session saved saved_grows engine.sessions rise)
by_kind engine state session (entry.Change change) h e rise = stays (end_bytes engine.sessions)
by_kind engine state session (entry.Schema made) h e rise = stays (end_bytes engine.sessions)
by_kind engine state session entry.Leave h e rise =
    ends 9 (end_bytes (left session engine.sessions)) (end_bytes engine.sessions)
    (left_fewer end_bytes_of 9 end_counts session engine.sessions (ap (λ (sessions : List LiveState). is_some (session_in session sessions)) (sym h.sessions) ∙ live_alike session state.sessions ∙ e))
by_kind engine state session (entry.Shut table) h e rise =
    ends 13 (end_bytes (with_session session (shut table.0) engine.sessions)) (end_bytes engine.sessions)
    (ends_by end_bytes_of 13 session (shut table.0) (shut_keeps table.0) engine.sessions (subst (λ (sessions : List LiveState). EndsBy end_bytes_of 13 (shut table.0) (session_in session sessions)) h.sessions (shut_ends table.0 session state.sessions e)))
by_kind engine state session entry.Release h e rise =
    ends 9 (end_bytes (with_session session lowered engine.sessions)) (end_bytes engine.sessions)
    (ends_by end_bytes_of 9 session lowered lowered_keeps engine.sessions (in_levels end_bytes_of 9 lowered lowered_ends session engine.sessions (levels_there engine state session h (two_levels (levels state session) e))))
by_kind engine state session entry.UndoAll h e rise =
    ends 9 (end_bytes (with_session session ended engine.sessions)) (end_bytes engine.sessions)
    (ends_by end_bytes_of 9 session ended ended_keeps engine.sessions (in_levels end_bytes_of 9 ended ended_ends session engine.sessions (levels_there engine state session h (level_of (levels state session) e))))
by_kind engine state session entry.Commit h e rise =
    ends 9 (end_bytes (with_session session ended engine.sessions)) (end_bytes engine.sessions)
    (ends_by end_bytes_of 9 session ended ended_keeps engine.sessions (in_levels end_bytes_of 9 ended ended_ends session engine.sessions (levels_there engine state session h (one_level (levels state session) (and_left _ _ e)))))
by_kind engine state session entry.Undo h e rise =
    let is_in : 1 ≤ levels_in session engine.sessions = levels_there engine state session h (level_of (levels state session) e) in
    elim (nat_lt 1 (levels_in session engine.sessions)) as (λ b. 9 + end_bytes (cond b (with_session session lowered engine.sessions) (with_session session ended engine.sessions)) ≤ end_bytes engine.sessions + 0) [
      | true ↦ ends 9 (end_bytes (with_session session lowered engine.sessions)) (end_bytes engine.sessions)
          (ends_by end_bytes_of 9 session lowered lowered_keeps engine.sessions (in_levels end_bytes_of 9 lowered lowered_ends session engine.sessions is_in))
      | false ↦ ends 9 (end_bytes (with_session session ended engine.sessions)) (end_bytes engine.sessions)
          (ends_by end_bytes_of 9 session ended ended_keeps engine.sessions (in_levels end_bytes_of 9 ended ended_ends session engine.sessions is_in))
    ]

pub entry_keeps : (engine : EngineState) (state : DatabaseState) (made : Entry) → HoldsState engine state → is_lawful state made ≡ true → ended_bytes made.kind + end_bytes (engine_after engine made).sessions ≤ end_bytes engine.sessions + begun_bytes made.kind
entry_keeps engine state made h e = by_kind engine state made.session.0 made.kind h (kind_of state made e) (rise_told engine state h)
