-- A live session and its open tables, after an entry of its own or of another session.
use Rattle.std.proofs.Common.{◌≡◌, ℕ, ◌+◌, ◌-◌, Bool, true, false, cond, List, [], ◌∷◌, Option, Some, None, refl, sym, ap, subst, ◌∙◌}
use Rattle.std.specs.Prelude.{◌==◌, is_some, map, nat_lt, option_map, if◌then◌else◌}
use Rattle.common_lemmas.proofs.Numbers.{self_equal, unequal_turned}
use Rattle.common_lemmas.proofs.Booleans.{impossible}
use Rattle.index_derive.specs.declared.log.EntryKind.{EntryKind}
use Rattle.index_derive.specs.declared.log.EntryKind.TheVariants as entry
use Rattle.database_state.specs.State.{DatabaseState, LiveSession, levels, live_session, undone}
use Rattle.database_state.specs.Step.{all_undone, applied, at_levels, insert_session, is_at_level, with_changes_at, with_levels, with_one, with_transaction, without_one}
use Rattle.laws_versions.specs.KeptSteps.{with_next_number}
use Rattle.laws_versions.proofs.HistoryLemmas.Transactions.{found-left, found-with, labelled}
use Rattle.session_local.specs.Agreement.{open_tables_of}

-- it lives as before, with the same tables open
abbrev pub IsSameSession : Option LiveSession → Option LiveSession → Type 0
IsSameSession one other = (is_some other ≡ is_some one) × (open_tables_of other ≡ open_tables_of one)

from_path : (one other : Option LiveSession) → other ≡ one → IsSameSession one other
from_path one other e = (ap is_some e, ap open_tables_of e)

-- ---- a session that comes

insert_other : (new : LiveSession) (x : ℕ) (sessions : List LiveSession) → (x == new.label) ≡ false → labelled x (insert_session new sessions) ≡ labelled x sessions
insert_other new x [] e = ap (λ b. cond b (Some new) None) (unequal_turned x new.label e)
insert_other new x (s ∷ sessions) e = elim (nat_lt new.label s.label) as (λ b. labelled x (cond b (new ∷ s ∷ sessions) (s ∷ insert_session new sessions)) ≡ labelled x (s ∷ sessions)) [
  | true ↦ ap (λ b. cond b (Some new) (labelled x (s ∷ sessions))) (unequal_turned x new.label e)
  | false ↦ ap (λ o. cond (s.label == x) (Some s) o) (insert_other new x sessions e)
]

pub insert_own : (new : LiveSession) (sessions : List LiveSession) → labelled new.label sessions ≡ None → labelled new.label (insert_session new sessions) ≡ Some new
insert_own new [] e = ap (λ b. cond b (Some new) None) (self_equal new.label)
insert_own new (s ∷ sessions) e = elim (nat_lt new.label s.label) as (λ b. labelled new.label (cond b (new ∷ s ∷ sessions) (s ∷ insert_session new sessions)) ≡ Some new) [
  | true ↦ ap (λ b. cond b (Some new) (labelled new.label (s ∷ sessions))) (self_equal new.label)
  | false ↦ elim (s.label == new.label) as (λ b. cond b (Some s) (labelled new.label sessions) ≡ None → cond b (Some s) (labelled new.label (insert_session new sessions)) ≡ Some new) [
    | true ↦ λ f. absurd (never f)
    | false ↦ λ f. insert_own new sessions f
  ] e
]
  where
    never : Some s ≡ None → ⊥
    never f = cc

-- ---- a session that changes

-- another session
with_other : (label x : ℕ) (change : LiveSession → LiveSession) → ((s : LiveSession) → (change s).label ≡ s.label) → (sessions : List LiveSession) → (x == label) ≡ false → labelled x (map (λ s. if s.label == label then change s else s) sessions) ≡ labelled x sessions
with_other label x change same sessions other = found-with label x change same sessions ∙ ap (λ b. cond b (option_map change (labelled x sessions)) (labelled x sessions)) other

-- any session, where the open tables stay
pub with_any : (label x : ℕ) (change : LiveSession → LiveSession) → ((s : LiveSession) → (change s).label ≡ s.label) → ((s : LiveSession) → (change s).open_tables ≡ s.open_tables) → (sessions : List LiveSession)
    → IsSameSession (labelled x sessions) (labelled x (map (λ s. if s.label == label then change s else s) sessions))
with_any label x change same keep sessions = subst (λ (o : Option LiveSession). IsSameSession (labelled x sessions) o) (sym (found-with label x change same sessions)) (either (x == label) (labelled x sessions))
  where
    either : (b : Bool) (found : Option LiveSession) → IsSameSession found (cond b (option_map change found) found)
    either true None = (refl, refl)
    either true (Some s) = (refl, keep s)
    either false found = (refl, refl)

-- the session itself
pub with_own : (label : ℕ) (change : LiveSession → LiveSession) → ((s : LiveSession) → (change s).label ≡ s.label) → (sessions : List LiveSession) → labelled label (map (λ s. if s.label == label then change s else s) sessions) ≡ option_map change (labelled label sessions)
with_own label change same sessions = found-with label label change same sessions ∙ ap (λ b. cond b (option_map change (labelled label sessions)) (labelled label sessions)) (self_equal label)

-- ---- entries that open and close no table

abbrev pub keeps_sessions : EntryKind → Bool
keeps_sessions entry.Enter = false
keeps_sessions entry.Leave = false
keeps_sessions (entry.Open table) = false
keeps_sessions (entry.Shut table) = false
keeps_sessions _ = true

pub own_live : (state : DatabaseState) (label : ℕ) (kind : EntryKind) → keeps_sessions kind ≡ true → (x : ℕ) → IsSameSession (live_session state x) (live_session (applied label kind (with_next_number state)) x)
own_live state label entry.Enter plain x = impossible plain
own_live state label entry.Leave plain x = impossible plain
own_live state label (entry.Open table) plain x = impossible plain
own_live state label (entry.Shut table) plain x = impossible plain
own_live state label entry.Begin plain x = with_any label x (λ s. record s { transaction = Some (record { levels = 1; begin = state.number + 1; snapshot = state.tables }) }) (λ s. refl) (λ s. refl) state.sessions
own_live state label entry.Save plain x = with_any label x (λ s. record s { transaction = at_levels (λ n. n + 1) s.transaction }) (λ s. refl) (λ s. refl) state.sessions
own_live state label (entry.Change change) plain x = (refl, refl)
own_live state label entry.Release plain x = with_any label x (λ s. record s { transaction = at_levels (λ n. n - 1) s.transaction }) (λ s. refl) (λ s. refl) state.sessions
own_live state label entry.Undo plain x =
    elim (nat_lt 1 (levels state label)) as (λ b. IsSameSession (live_session state x) (live_session (cond b (with_levels label (λ n. n - 1) undoing) (with_transaction label None undoing)) x)) [
      | true ↦ with_any label x (λ s. record s { transaction = at_levels (λ n. n - 1) s.transaction }) (λ s. refl) (λ s. refl) state.sessions
      | false ↦ with_any label x (λ s. record s { transaction = None }) (λ s. refl) (λ s. refl) state.sessions
    ]
  where
    undoing : DatabaseState
    undoing = with_changes_at label (is_at_level (levels state label)) (λ item. record item { status = undone }) (with_next_number state)
own_live state label entry.UndoAll plain x = with_any label x (λ s. record s { transaction = None }) (λ s. refl) (λ s. refl) state.sessions
own_live state label entry.Commit plain x = with_any label x (λ s. record s { transaction = None }) (λ s. refl) (λ s. refl) state.sessions
own_live state label (entry.Schema made) plain x = (refl, refl)

-- ---- entries of others

pub others_live : (state : DatabaseState) (label : ℕ) (kind : EntryKind) (x : ℕ) → (x == label) ≡ false → IsSameSession (live_session state x) (live_session (applied label kind (with_next_number state)) x)
others_live state label entry.Enter x other = from_path (live_session state x) (live_session (applied label entry.Enter (with_next_number state)) x) (insert_other (record { label = label; open_tables = []; transaction = None }) x state.sessions other)
others_live state label entry.Leave x other =
    from_path (live_session state x) (live_session (applied label entry.Leave (with_next_number state)) x)
    (found-left label x (all_undone label (with_next_number state)).sessions
    ∙ ap (λ b. cond b None (labelled x (all_undone label (with_next_number state)).sessions)) other
    ∙ with_other label x (λ s. record s { transaction = None }) (λ s. refl) state.sessions other)
others_live state label (entry.Open table) x other =
    from_path (live_session state x) (live_session (applied label (entry.Open table) (with_next_number state)) x) (with_other label x (λ s. record s { open_tables = with_one table.0 s.open_tables }) (λ s. refl) state.sessions other)
others_live state label (entry.Shut table) x other =
    from_path (live_session state x) (live_session (applied label (entry.Shut table) (with_next_number state)) x) (with_other label x (λ s. record s { open_tables = without_one table.0 s.open_tables }) (λ s. refl) state.sessions other)
others_live state label entry.Begin x other = own_live state label entry.Begin refl x
others_live state label entry.Save x other = own_live state label entry.Save refl x
others_live state label (entry.Change change) x other = own_live state label (entry.Change change) refl x
others_live state label entry.Release x other = own_live state label entry.Release refl x
others_live state label entry.Undo x other = own_live state label entry.Undo refl x
others_live state label entry.UndoAll x other = own_live state label entry.UndoAll refl x
others_live state label entry.Commit x other = own_live state label entry.Commit refl x
others_live state label (entry.Schema made) x other = own_live state label (entry.Schema made) refl x
