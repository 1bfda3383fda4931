-- What the sessions still need of the past after an entry: no more than before it.
use Rattle.std.proofs.Common.{◌≡◌, ℕ, Bool, true, false, ◌||◌, cond, List, [], ◌∷◌, Option, Some, None, refl, sym, ap, ◌∙◌}
use Rattle.std.specs.Prelude.{◌==◌, nat_lt, map, filter, if◌then◌else◌}
use Rattle.std.specs.List.{AllByRecursion, list_any}
use Rattle.common_lemmas.proofs.Booleans.{impossible}
use Rattle.database_state.specs.State.{LiveSession, PastChange, Status, Transaction, uncommitted, committed, undone, is_open}
use Rattle.database_state.specs.Conflicts.{is_after_begin}
use Rattle.database_state.specs.Step.{at_levels, insert_session}
use Rattle.database_state.specs.VersionStore.{is_needed, is_needed_status, from_oldest_needed}
use Rattle.laws_engine.proofs.EquivalentLemmas.Essential.{open_needed}

-- whether some session's transaction began before the number
abbrev pub is_needed_at : List LiveSession → ℕ → Bool
is_needed_at sessions number = list_any (λ s. is_after_begin s.transaction number) sessions

-- other sessions need no more of what was committed at the number
abbrev pub NeedsLess : List LiveSession → List LiveSession → ℕ → Type 0
NeedsLess sessions others number = is_needed_at others number ≡ true → is_needed_at sessions number ≡ true

or_more : (a b c d : Bool) → (a ≡ true → c ≡ true) → (b ≡ true → d ≡ true) → (a || b) ≡ true → (c || d) ≡ true
or_more true b c d f g h = ap (λ x. x || d) (f refl)
or_more false b true d f g h = refl
or_more false b false d f g h = g h

-- ---- what becomes of the sessions

abbrev pub with_one : ℕ → (LiveSession → LiveSession) → List LiveSession → List LiveSession
with_one label change sessions = map (λ s. if s.label == label then change s else s) sessions

pub less_with : (label : ℕ) (change : LiveSession → LiveSession) (number : ℕ) → ((s : LiveSession) → is_after_begin (change s).transaction number ≡ true → is_after_begin s.transaction number ≡ true)
    → (sessions : List LiveSession) → NeedsLess sessions (with_one label change sessions) number
less_with label change number less [] h = h
less_with label change number less (s ∷ sessions) h =
    or_more (is_after_begin (cond (s.label == label) (change s) s).transaction number) (is_needed_at (with_one label change sessions) number) (is_after_begin s.transaction number) (is_needed_at sessions number)
    (by (s.label == label)) (less_with label change number less sessions) h
  where
    by : (b : Bool) → is_after_begin (cond b (change s) s).transaction number ≡ true → is_after_begin s.transaction number ≡ true
    by true g = less s g
    by false g = g

pub less_without : (test : LiveSession → Bool) (number : ℕ) (sessions : List LiveSession) → NeedsLess sessions (filter test sessions) number
less_without test number [] h = h
less_without test number (s ∷ sessions) h = by (less_without test number sessions) (test s) h
  where
    by : NeedsLess sessions (filter test sessions) number → (b : Bool) → is_needed_at (cond b (s ∷ filter test sessions) (filter test sessions)) number ≡ true → is_needed_at (s ∷ sessions) number ≡ true
    by rest true g = or_more (is_after_begin s.transaction number) (is_needed_at (filter test sessions) number) (is_after_begin s.transaction number) (is_needed_at sessions number) (λ e. e) rest g
    by rest false g = or_more false (is_needed_at (filter test sessions) number) (is_after_begin s.transaction number) (is_needed_at sessions number) impossible rest g

pub less_inserted : (label number : ℕ) (sessions : List LiveSession) → NeedsLess sessions (insert_session (record { label = label; open_tables = []; transaction = None }) sessions) number
less_inserted label number [] h = h
less_inserted label number (s ∷ sessions) h = by (less_inserted label number sessions) (nat_lt label s.label) h
  where
    new : LiveSession
    new = record { label = label; open_tables = []; transaction = None }

    by : NeedsLess sessions (insert_session new sessions) number → (b : Bool) → is_needed_at (cond b (new ∷ s ∷ sessions) (s ∷ insert_session new sessions)) number ≡ true → is_needed_at (s ∷ sessions) number ≡ true
    by rest true g = g
    by rest false g = or_more (is_after_begin s.transaction number) (is_needed_at (insert_session new sessions) number) (is_after_begin s.transaction number) (is_needed_at sessions number) (λ e. e) rest g

-- ---- transactions

pub less_ended : (number : ℕ) (t : Option Transaction) → is_after_begin None number ≡ true → is_after_begin t number ≡ true
less_ended number t h = impossible h

pub same_begin : (change : ℕ → ℕ) (number : ℕ) (t : Option Transaction) → is_after_begin (at_levels change t) number ≡ true → is_after_begin t number ≡ true
same_begin change number None h = h
same_begin change number (Some t) h = h

-- a transaction that begins later needs nothing that is committed
pub less_begun : (begin : Option Transaction) (number : ℕ) → is_after_begin begin number ≡ false → (t : Option Transaction) → is_after_begin begin number ≡ true → is_after_begin t number ≡ true
less_begun begin number late t h = impossible (sym late ∙ h)

-- ---- changes

-- of changes with this status
pub less_status : (sessions others : List LiveSession) (status : Status) → ((number : ℕ) → status ≡ committed number → NeedsLess sessions others number)
    → is_needed_status others status ≡ true → is_needed_status sessions status ≡ true
less_status sessions others uncommitted less h = refl
less_status sessions others (committed number) less h = less number refl h
less_status sessions others undone less h = h

-- of changes of which those that pass become another
pub less_changed : (sessions others : List LiveSession) (test : PastChange → Bool) (change : PastChange → PastChange) → ((x : PastChange) → test x ≡ true → is_open x.status ≡ true)
    → (x : PastChange) → (is_needed others x ≡ true → is_needed sessions x ≡ true) → is_needed others (if test x then change x else x) ≡ true → is_needed sessions x ≡ true
less_changed sessions others test change own x less h = by (test x) refl h
  where
    by : (b : Bool) → test x ≡ b → is_needed others (cond b (change x) x) ≡ true → is_needed sessions x ≡ true
    by true e g = open_needed sessions x.status (own x e)
    by false e g = less g

pub none_needed : (sessions : List LiveSession) (items : List PastChange) → AllByRecursion (λ item. is_needed sessions item ≡ false) items → from_oldest_needed sessions items ≡ []
none_needed sessions [] h = refl
none_needed sessions (x ∷ xs) h = ap (λ b. cond b (x ∷ xs) (from_oldest_needed sessions xs)) h.0 ∙ none_needed sessions xs h.1
