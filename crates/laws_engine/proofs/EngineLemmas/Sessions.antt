-- The sessions of a state beside those without snapshots.
use Rattle.std.proofs.Common.{◌≡◌, ℕ, suc, Bool, true, false, not, ◌&&◌, ◌||◌, cond, List, [], ◌∷◌, map, length, Option, Some, None, refl, ap, ◌∙◌, arith}
use Rattle.std.specs.Prelude.{◌==◌, nat_lt, min, find, option_map, option_and_then, is_some}
use Rattle.std.specs.List.{list_any}
use Rattle.std.proofs.lemmas.Bool.Decides.{nat_tests}
use Rattle.database_state.specs.State.{DatabaseState, LiveSession, Transaction as WholeTransaction, levels, levels_of as whole_levels_of, transaction_of}
use Rattle.version_cleanup.specs.declared.live.Transaction.{Transaction}
use Rattle.version_cleanup.specs.LiveSessions.{LiveState, begin_of as live_begin, has_open, has_other_transaction, is_live, lesser, levels_in, levels_of, live_state, oldest_begin, session_in, transaction_in, without_snapshot}
use Rattle.laws_engine.specs.Holding.{begin_of, earlier, oldest_begin as whole_oldest}

-- ---- one session

pub session_alike : (label : ℕ) (sessions : List LiveSession) → session_in label (map live_state sessions) ≡ option_map live_state (find (λ s. s.label == label) sessions)
session_alike label [] = refl
session_alike label (s ∷ sessions) = at (s.label == label) (session_alike label sessions)
  where
    at : (b : Bool) → session_in label (map live_state sessions) ≡ option_map live_state (find (λ s. s.label == label) sessions)
        → cond b (Some (live_state s)) (session_in label (map live_state sessions)) ≡ option_map live_state (cond b (Some s) (find (λ s. s.label == label) sessions))
    at true rest = refl
    at false rest = rest

pub live_alike : (label : ℕ) (sessions : List LiveSession) → is_live label (map live_state sessions) ≡ is_some (find (λ s. s.label == label) sessions)
live_alike label sessions = ap is_some (session_alike label sessions) ∙ at (find (λ s. s.label == label) sessions)
  where
    at : (o : Option LiveSession) → is_some (option_map live_state o) ≡ is_some o
    at None = refl
    at (Some s) = refl

pub transaction_alike : (label : ℕ) (state : DatabaseState) → transaction_in label (map live_state state.sessions) ≡ option_map without_snapshot (transaction_of state label)
transaction_alike label state = ap (option_and_then (λ (s : LiveState). s.transaction)) (session_alike label state.sessions) ∙ at (find (λ s. s.label == label) state.sessions)
  where
    at : (o : Option LiveSession) → option_and_then (λ (s : LiveState). s.transaction) (option_map live_state o) ≡ option_map without_snapshot (option_and_then (λ (s : LiveSession). s.transaction) o)
    at None = refl
    at (Some s) = refl

pub levels_alike : (label : ℕ) (state : DatabaseState) → levels_in label (map live_state state.sessions) ≡ levels state label
levels_alike label state = ap levels_of (transaction_alike label state) ∙ at (transaction_of state label)
  where
    at : (o : Option WholeTransaction) → levels_of (option_map without_snapshot o) ≡ whole_levels_of o
    at None = refl
    at (Some t) = refl

pub begin_alike : (label : ℕ) (state : DatabaseState) → option_map (λ t. t.begin) (transaction_in label (map live_state state.sessions)) ≡ begin_of (transaction_of state label)
begin_alike label state = ap (option_map (λ (t : Transaction). t.begin)) (transaction_alike label state) ∙ at (transaction_of state label)
  where
    at : (o : Option WholeTransaction) → option_map (λ (t : Transaction). t.begin) (option_map without_snapshot o) ≡ begin_of o
    at None = refl
    at (Some t) = refl

-- ---- all sessions

pub count_alike : (sessions : List LiveSession) → length (map live_state sessions) ≡ length sessions
count_alike [] = refl
count_alike (s ∷ sessions) = ap (λ (n : ℕ). suc n) (count_alike sessions)

pub other_alike : (label : ℕ) (sessions : List LiveSession) → has_other_transaction label (map live_state sessions) ≡ list_any (λ s. not (s.label == label) && is_some s.transaction) sessions
other_alike label [] = refl
other_alike label (s ∷ sessions) = λ i. (not (s.label == label) && at s.transaction i) || other_alike label sessions i
  where
    at : (o : Option WholeTransaction) → is_some (option_map without_snapshot o) ≡ is_some o
    at None = refl
    at (Some t) = refl

pub open_alike : (table : ℕ) (sessions : List LiveSession) → has_open table (map live_state sessions) ≡ list_any (λ s. list_any (λ id. id == table) s.open_tables) sessions
open_alike table [] = refl
open_alike table (s ∷ sessions) = ap (λ (b : Bool). list_any (λ id. id == table) s.open_tables || b) (open_alike table sessions)

-- the least of two begins is the earlier
lesser_earlier : (one other : Option ℕ) → lesser one other ≡ earlier one other
lesser_earlier None other = refl
lesser_earlier (Some n) None = refl
lesser_earlier (Some n) (Some m) = ap (λ (k : ℕ). Some k) (at (nat_lt m n) refl)
  where
    at : (b : Bool) → nat_lt m n ≡ b → min n m ≡ cond b m n
    at true e = grind (arith, nat_tests)
    at false e = grind (arith, nat_tests)

pub oldest_alike : (sessions : List LiveSession) → oldest_begin (map live_state sessions) ≡ whole_oldest sessions
oldest_alike [] = refl
oldest_alike (s ∷ sessions) = lesser_earlier (live_begin (live_state s)) (oldest_begin (map live_state sessions)) ∙ (λ i. earlier (at s.transaction i) (oldest_alike sessions i))
  where
    at : (o : Option WholeTransaction) → option_map (λ (t : Transaction). t.begin) (option_map without_snapshot o) ≡ begin_of o
    at None = refl
    at (Some t) = refl
