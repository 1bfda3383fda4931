-- What is read of two states that differ in their pasts alone, and not in the essence of these.
use Rattle.std.proofs.Common.{◌≡◌, ℕ, Bool, true, false, not, ◌&&◌, ◌||◌, cond, List, [], ◌∷◌, Option, Some, None, refl, sym, ap, subst, ◌∙◌}
use Rattle.std.specs.Prelude.{◌==◌, map, filter, find, option_and_then, sum, sum_by}
use Rattle.std.specs.List.{list_any}
use Rattle.std.proofs.lemmas.List.Sums.{sum-map}
use Rattle.common_lemmas.proofs.Booleans.{and_left, and_right, impossible}
use Rattle.column_set.specs.declared.changes.Change.{Change}
use Rattle.database_state.specs.Table.{table_with_id}
use Rattle.database_state.specs.Changes.{tables_after_all}
use Rattle.column_set.specs.ChangedRecords.{changed_table}
use Rattle.database_state.specs.State.{DatabaseState, LiveSession, PastChange, Status, Transaction, uncommitted, committed, undone, change_of, is_open, is_undone, is_open_change_of, open_changes, open_changes_of, transaction_of}
use Rattle.database_state.specs.View.{newest, view, view_in}
use Rattle.database_state.specs.Conflicts.{collide, concurrent_changes, has_write_conflict, is_after_begin, is_concurrent, is_concurrent_status}
use Rattle.database_state.specs.VersionStore.{cost_of, from_oldest_needed, is_needed_status, version_span}
use Rattle.database_state.specs.Equivalence.{AreEquivalent, EssentialChange, columns_of, essence, essential_change}
use Rattle.laws_engine.proofs.EquivalentLemmas.Essential.{any_mapped, essential_status, kept_of, kept_of_standing, open_needed, open_stands, read_alike}

-- ---- one state with two pasts

abbrev pub with_past : DatabaseState → List PastChange → DatabaseState
with_past state past = record state { past = past }

-- the pasts are of one essence
abbrev pub SamePast : DatabaseState → List PastChange → Type 0
SamePast state past = map (essential_change state.tables) (from_oldest_needed state.sessions state.past) ≡ map (essential_change state.tables) (from_oldest_needed state.sessions past)

-- what holds of one state with two pasts of one essence holds of two equivalent states
pub by_past : (P : DatabaseState → DatabaseState → Type 0) → ((state : DatabaseState) (past : List PastChange) → SamePast state past → P state (with_past state past))
    → (one other : DatabaseState) → AreEquivalent one other → P one other
by_past P h one other e = subst (P one) same (h one other.past (ap (λ x. x.past) (e ∙ sym (ap essence same))))
  where
    same : with_past one other.past ≡ other
    same = λ i. record { number = (e i).number; greatest_table = (e i).greatest_table; tables = (e i).tables; sessions = (e i).sessions; past = other.past }

-- ---- open changes

pub open_alike : (state : DatabaseState) (past : List PastChange) → SamePast state past → open_changes state.past ≡ open_changes past
open_alike state past e =
    read_alike state.tables state.sessions (λ x. is_open x.status) change_of (λ x. open_needed state.sessions x.status)
    (λ x. ap is_open (essential_status state.tables x))
    (λ x p. kept_of_standing change_of (columns_of (table_with_id state.tables (changed_table x.change))) x (open_stands x.status p) refl) state.past past e

pub own_open_alike : (state : DatabaseState) (past : List PastChange) → SamePast state past → (session : ℕ) → open_changes_of session state.past ≡ open_changes_of session past
own_open_alike state past e session =
    read_alike state.tables state.sessions (is_open_change_of session) change_of (λ x p. open_needed state.sessions x.status (and_left (is_open x.status) (x.session == session) p))
    (λ x. kept_of (is_open_change_of session) (columns_of (table_with_id state.tables (changed_table x.change))) x refl refl)
    (λ x p. kept_of_standing change_of (columns_of (table_with_id state.tables (changed_table x.change))) x (open_stands x.status (and_left (is_open x.status) (x.session == session) p)) refl) state.past past e

pub newest_alike : (state : DatabaseState) (past : List PastChange) → SamePast state past → newest state ≡ newest (with_past state past)
unfolding newest
newest_alike state past e = ap (tables_after_all state.tables) (open_alike state past e)

pub view_alike : (state : DatabaseState) (past : List PastChange) → SamePast state past → (session : ℕ) → view state session ≡ view (with_past state past) session
unfolding view
view_alike state past e session = by (transaction_of state session)
  where
    by : (transaction : Option Transaction) → view_in state session transaction ≡ view_in (with_past state past) session transaction
    by None = refl
    by (Some transaction) = ap (tables_after_all transaction.snapshot) (own_open_alike state past e session)

-- whether an open change of the session passes
pub any_own_alike : (state : DatabaseState) (past : List PastChange) → SamePast state past → (session : ℕ) (test : Change → Bool)
    → list_any (λ item. is_open_change_of session item && test item.change) state.past ≡ list_any (λ item. is_open_change_of session item && test item.change) past
any_own_alike state past e session test = by state.past ∙ ap (list_any test) (own_open_alike state past e session) ∙ sym (by past)
  where
    either : (b : Bool) (x : PastChange) (xs : List PastChange)
        → ((b && test x.change) || list_any test (map change_of (filter (is_open_change_of session) xs))) ≡ list_any test (map change_of (cond b (x ∷ filter (is_open_change_of session) xs) (filter (is_open_change_of session) xs)))
    either true x xs = refl
    either false x xs = refl

    by : (items : List PastChange) → list_any (λ item. is_open_change_of session item && test item.change) items ≡ list_any test (map change_of (filter (is_open_change_of session) items))
    by [] = refl
    by (x ∷ xs) = ap (λ b. (is_open_change_of session x && test x.change) || b) (by xs) ∙ either (is_open_change_of session x) x xs

-- ---- concurrent changes

found_begin : (sessions : List LiveSession) (session number : ℕ) → is_after_begin (option_and_then (λ (s : LiveSession). s.transaction) (find (λ (s : LiveSession). s.label == session) sessions)) number ≡ true
    → list_any (λ s. is_after_begin s.transaction number) sessions ≡ true
found_begin [] session number h = h
found_begin (s ∷ sessions) session number h = by (found_begin sessions session number) (s.label == session) h
  where
    or_first : (a b : Bool) → a ≡ true → (a || b) ≡ true
    or_first true b e = e
    or_first false b e = impossible e

    or_second : (a b : Bool) → b ≡ true → (a || b) ≡ true
    or_second true b e = refl
    or_second false b e = e

    by : (is_after_begin (option_and_then (λ (s : LiveSession). s.transaction) (find (λ (s : LiveSession). s.label == session) sessions)) number ≡ true → list_any (λ s. is_after_begin s.transaction number) sessions ≡ true)
        → (b : Bool) → is_after_begin (option_and_then (λ (s : LiveSession). s.transaction) (cond b (Some s) (find (λ (s : LiveSession). s.label == session) sessions))) number ≡ true
        → (is_after_begin s.transaction number || list_any (λ s. is_after_begin s.transaction number) sessions) ≡ true
    by rest true g = or_first (is_after_begin s.transaction number) (list_any (λ s. is_after_begin s.transaction number) sessions) g
    by rest false g = or_second (is_after_begin s.transaction number) (list_any (λ s. is_after_begin s.transaction number) sessions) (rest g)

pub concurrent_needed : (state : DatabaseState) (session : ℕ) (status : Status) → is_concurrent_status (transaction_of state session) status ≡ true → is_needed_status state.sessions status ≡ true
concurrent_needed state session uncommitted h = refl
concurrent_needed state session (committed number) h = found_begin state.sessions session number h
concurrent_needed state session undone h = h

pub concurrent_stands : (transaction : Option Transaction) (status : Status) → is_concurrent_status transaction status ≡ true → is_undone status ≡ false
concurrent_stands transaction uncommitted h = refl
concurrent_stands transaction (committed number) h = refl
concurrent_stands transaction undone h = impossible h

-- what is read of the concurrent changes, where the essence keeps it of those that stand
pub concurrent_alike : {Y : Type 0} (state : DatabaseState) (past : List PastChange) → SamePast state past → (session : ℕ) (h : PastChange → Y)
    → ((x : PastChange) → is_undone x.status ≡ false → h (essential_change state.tables x).item ≡ h x)
    → map h (concurrent_changes state session) ≡ map h (concurrent_changes (with_past state past) session)
unfolding concurrent_changes
concurrent_alike state past e session h same =
    read_alike state.tables state.sessions (is_concurrent session (transaction_of state session)) h
    (λ x p. concurrent_needed state session x.status (and_right (not (x.session == session)) (is_concurrent_status (transaction_of state session) x.status) p))
    (λ x. kept_of (is_concurrent session (transaction_of state session)) (columns_of (table_with_id state.tables (changed_table x.change))) x refl refl)
    (λ x p. same x (concurrent_stands (transaction_of state session) x.status (and_right (not (x.session == session)) (is_concurrent_status (transaction_of state session) x.status) p))) state.past past e

pub write_conflict_alike : (state : DatabaseState) (past : List PastChange) → SamePast state past → (session : ℕ) (change : Change) → has_write_conflict state session change ≡ has_write_conflict (with_past state past) session change
unfolding has_write_conflict
write_conflict_alike state past e session change =
    any_mapped (λ made. collide made change) change_of (concurrent_changes state session)
    ∙ ap (list_any (λ made. collide made change)) (concurrent_alike state past e session change_of (λ x p. kept_of_standing change_of (columns_of (table_with_id state.tables (changed_table x.change))) x p refl))
    ∙ sym (any_mapped (λ made. collide made change) change_of (concurrent_changes (with_past state past) session))

-- ---- the span

pub span_alike : (state : DatabaseState) (past : List PastChange) → SamePast state past → version_span state ≡ version_span (with_past state past)
unfolding version_span
span_alike state past e = by (from_oldest_needed state.sessions state.past) ∙ ap (λ es. sum (map (λ (e : EssentialChange). e.cost) es)) e ∙ sym (by (from_oldest_needed state.sessions past))
  where
    costs : (items : List PastChange) → map (λ item. cost_of item.change item.before) items ≡ map (λ (e : EssentialChange). e.cost) (map (essential_change state.tables) items)
    costs [] = refl
    costs (x ∷ xs) = λ i. cost_of x.change x.before ∷ costs xs i

    by : (items : List PastChange) → sum_by (λ item. cost_of item.change item.before) items ≡ sum (map (λ (e : EssentialChange). e.cost) (map (essential_change state.tables) items))
    by items = sym (sum-map (λ item. cost_of item.change item.before) items) ∙ ap sum (costs items)
