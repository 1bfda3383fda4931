-- Laws of the sessions of a database state, entry by entry, without their snapshots.
use Rattle.std.proofs.Common.{◌≡◌, ℕ, ◌+◌, ◌-◌, Bool, true, false, not, List, [], ◌∷◌, map, Option, Some, None, refl, sym, ap, ◌∙◌}
use Rattle.std.specs.Prelude.{◌==◌, nat_lt, filter, find, option_map, option_and_then, if◌then◌else◌}
use Rattle.index_derive.specs.declared.log.Entry.{Entry}
use Rattle.index_derive.specs.declared.log.EntryKind.{EntryKind}
use Rattle.index_derive.specs.declared.log.EntryKind.TheVariants as entry
use Rattle.database_state.specs.State.{DatabaseState, LiveSession, Transaction as WholeTransaction, levels, levels_of as whole_levels_of, undone}
use Rattle.database_state.specs.Step as step
use Rattle.database_state.specs.Step.{state_after}
use Rattle.version_cleanup.specs.declared.live.Transaction.{Transaction}
use Rattle.version_cleanup.specs.LiveSessions.{LiveState, live_state, without_snapshot, with_session, session_in, levels_of, levels_in, insert_session, new_session, left, opened, shut, began, ended, at_levels, lowered, level_ended, sessions_after}

abbrev changed : ℕ → (LiveSession → LiveSession) → List LiveSession → List LiveSession
changed label change sessions = map (λ s. if s.label == label then change s else s) sessions

changed-alike : (label : ℕ) (whole : LiveSession → LiveSession) (change : LiveState → LiveState) (sessions : List LiveSession) → ((s : LiveSession) → live_state (whole s) ≡ change (live_state s)) → map live_state (changed label whole sessions) ≡ with_session label change (map live_state sessions)
changed-alike label whole change [] same = refl
changed-alike label whole change (s ∷ sessions) same =
    ap (λ (x : LiveState). x ∷ map live_state (changed label whole sessions)) (at (s.label == label)) ∙ ap (λ (l : List LiveState). (if s.label == label then change (live_state s) else live_state s) ∷ l) (changed-alike label whole change sessions same)
  where
    at : (b : Bool) → live_state (if b then whole s else s) ≡ (if b then change (live_state s) else live_state s)
    at true = same s
    at false = refl

levels-alike : (whole count : ℕ → ℕ) (o : Option WholeTransaction) → ((n : ℕ) → whole n ≡ count n) → option_map without_snapshot (step.at_levels whole o) ≡ at_levels count (option_map without_snapshot o)
levels-alike whole count None same = refl
levels-alike whole count (Some t) same = ap (λ (n : ℕ). let r : Transaction = record { levels = n; begin = t.begin } in Some r) (same t.levels)

with_levels-alike : (label : ℕ) (count : ℕ → ℕ) (sessions : List LiveSession) → map live_state (changed label (λ s. record s { transaction = step.at_levels count s.transaction }) sessions) ≡ with_session label (λ s. record s { transaction = at_levels count s.transaction }) (map live_state sessions)
with_levels-alike label count sessions =
    changed-alike label (λ (s : LiveSession). record s { transaction = step.at_levels count s.transaction }) (λ (s : LiveState). record s { transaction = at_levels count s.transaction }) sessions
    (λ (s : LiveSession). ap (λ (o : Option Transaction). let r : LiveState = record { label = s.label; open_tables = s.open_tables; transaction = o } in r) (levels-alike count count s.transaction (λ (n : ℕ). refl)))

inserted-alike : (new : LiveSession) (sessions : List LiveSession) → map live_state (step.insert_session new sessions) ≡ insert_session (live_state new) (map live_state sessions)
inserted-alike new [] = refl
inserted-alike new (s ∷ sessions) = at (nat_lt new.label s.label) (inserted-alike new sessions)
  where
    at : (b : Bool) → map live_state (step.insert_session new sessions) ≡ insert_session (live_state new) (map live_state sessions)
        → map live_state (if b then new ∷ s ∷ sessions else s ∷ step.insert_session new sessions) ≡ (if b then live_state new ∷ live_state s ∷ map live_state sessions else live_state s ∷ insert_session (live_state new) (map live_state sessions))
    at true rest = refl
    at false rest = ap (λ (l : List LiveState). live_state s ∷ l) rest

-- a session that changes and then goes is gone as before
left-alike : (label : ℕ) (whole : LiveSession → LiveSession) (sessions : List LiveSession) → ((s : LiveSession) → (whole s).label ≡ s.label) → map live_state (filter (λ s. not (s.label == label)) (changed label whole sessions)) ≡ left label (map live_state sessions)
left-alike label whole [] same = refl
left-alike label whole (s ∷ sessions) same = at (s.label == label) refl (left-alike label whole sessions same)
  where
    rest_of : List LiveSession
    rest_of = filter (λ s. not (s.label == label)) (changed label whole sessions)

    at : (b : Bool) → (s.label == label) ≡ b → map live_state rest_of ≡ left label (map live_state sessions)
        → map live_state (if not ((if b then whole s else s).label == label) then (if b then whole s else s) ∷ rest_of else rest_of) ≡ (if not b then live_state s ∷ left label (map live_state sessions) else left label (map live_state sessions))
    at true e rest = ap (λ (c : Bool). map live_state (if not c then whole s ∷ rest_of else rest_of)) (ap (λ (n : ℕ). n == label) (same s) ∙ e) ∙ rest
    at false e rest = ap (λ (c : Bool). map live_state (if not c then s ∷ rest_of else rest_of)) e ∙ ap (λ (l : List LiveState). live_state s ∷ l) rest

found-alike : (label : ℕ) (sessions : List LiveSession) → session_in label (map live_state sessions) ≡ option_map live_state (find (λ s. s.label == label) sessions)
found-alike label [] = refl
found-alike label (s ∷ sessions) = at (s.label == label) (found-alike label sessions)
  where
    at : (b : Bool) → session_in label (map live_state sessions) ≡ option_map live_state (find (λ s. s.label == label) sessions)
        → (if b then Some (live_state s) else session_in label (map live_state sessions)) ≡ option_map live_state (if b then Some s else find (λ s. s.label == label) sessions)
    at true rest = refl
    at false rest = rest

levels_in-alike : (label : ℕ) (state : DatabaseState) → levels_in label (map live_state state.sessions) ≡ levels state label
levels_in-alike label state =
    ap (λ (o : Option LiveState). levels_of (option_and_then (λ (s : LiveState). s.transaction) o)) (found-alike label state.sessions) ∙ at (find (λ s. s.label == label) state.sessions)
  where
    of_transaction : (o : Option WholeTransaction) → levels_of (option_map without_snapshot o) ≡ whole_levels_of o
    of_transaction None = refl
    of_transaction (Some t) = refl

    at : (o : Option LiveSession) → levels_of (option_and_then (λ (s : LiveState). s.transaction) (option_map live_state o)) ≡ whole_levels_of (option_and_then (λ (s : LiveSession). s.transaction) o)
    at None = refl
    at (Some s) = of_transaction s.transaction

undone-alike : (label : ℕ) (state : DatabaseState) → map live_state (step.innermost_undone label state).sessions ≡ level_ended label (map live_state state.sessions)
undone-alike label state =
    at (nat_lt 1 (levels state label))
    ∙ ap (λ (n : ℕ). if nat_lt 1 n then with_session label lowered (map live_state state.sessions) else with_session label ended (map live_state state.sessions)) (sym (levels_in-alike label state))
  where
    undoing : DatabaseState
    undoing = step.with_changes_at label (step.is_at_level (levels state label)) (λ item. record item { status = undone }) state

    at : (b : Bool) → map live_state (if b then step.with_levels label (λ n. n - 1) undoing else step.with_transaction label None undoing).sessions
        ≡ (if b then with_session label lowered (map live_state state.sessions) else with_session label ended (map live_state state.sessions))
    at true = with_levels-alike label (λ n. n - 1) state.sessions
    at false = changed-alike label (λ (s : LiveSession). record s { transaction = None }) ended state.sessions (λ (s : LiveSession). refl)

entered-alike : (label : ℕ) (sessions : List LiveSession) → map live_state (step.insert_session (record { label = label; open_tables = []; transaction = None }) sessions) ≡ insert_session (new_session label) (map live_state sessions)
entered-alike label sessions = inserted-alike (record { label = label; open_tables = []; transaction = None }) sessions

sessions-alike : (state : DatabaseState) (label : ℕ) (kind : EntryKind) → map live_state (step.applied label kind state).sessions ≡ sessions_after state.number label kind (map live_state state.sessions)
sessions-alike state label entry.Enter = entered-alike label state.sessions
sessions-alike state label entry.Leave = left-alike label (λ (s : LiveSession). record s { transaction = None }) state.sessions (λ (s : LiveSession). refl)
sessions-alike state label (entry.Open table) = changed-alike label (λ (s : LiveSession). record s { open_tables = step.with_one table.0 s.open_tables }) (opened table.0) state.sessions (λ (s : LiveSession). refl)
sessions-alike state label (entry.Shut table) = changed-alike label (λ (s : LiveSession). record s { open_tables = step.without_one table.0 s.open_tables }) (shut table.0) state.sessions (λ (s : LiveSession). refl)
sessions-alike state label entry.Begin =
    changed-alike label (λ (s : LiveSession). record s { transaction = Some (record { levels = 1; begin = state.number; snapshot = state.tables }) }) (began state.number) state.sessions (λ (s : LiveSession). refl)
sessions-alike state label entry.Save = with_levels-alike label (λ n. n + 1) state.sessions
sessions-alike state label (entry.Change change) = refl
sessions-alike state label entry.Release = with_levels-alike label (λ n. n - 1) state.sessions
sessions-alike state label entry.Undo = undone-alike label state
sessions-alike state label entry.UndoAll = changed-alike label (λ (s : LiveSession). record s { transaction = None }) ended state.sessions (λ (s : LiveSession). refl)
sessions-alike state label entry.Commit = changed-alike label (λ (s : LiveSession). record s { transaction = None }) ended state.sessions (λ (s : LiveSession). refl)
sessions-alike state label (entry.Schema made) = refl

-- so an entry does to the sessions what it does to them without their snapshots
pub entries-alike : (state : DatabaseState) (made : Entry) → map live_state (state_after state made).sessions ≡ sessions_after (state.number + 1) made.session.0 made.kind (map live_state state.sessions)
unfolding state_after
entries-alike state made = sessions-alike (record state { number = state.number + 1 }) made.session.0 made.kind
