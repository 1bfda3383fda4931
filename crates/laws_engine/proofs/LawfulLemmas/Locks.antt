-- A record that a session has locked meets no write conflict of it.
use Rattle.std.proofs.Common.{◌≡◌, ℕ, Bool, true, false, not, ◌&&◌, ◌||◌, cond, List, [], ◌∷◌, Option, Some, None, refl, sym, ap, subst, ◌∙◌, arith}
use Rattle.std.specs.Prelude.{◌==◌, filter, nat_lt}
use Rattle.std.specs.List.{AllByRecursion, list_any}
use Rattle.std.proofs.lemmas.Bool.Decides.{nat_tests}
use Rattle.std.proofs.lemmas.List.Folds.{list_any-append}
use Rattle.std.proofs.lemmas.Bool.{and_from, eqb-true}
use Rattle.common_lemmas.proofs.Booleans.{and_left, and_right, impossible}
use Rattle.common_lemmas.proofs.Lists.{all_weaker}
use Rattle.common_lemmas.proofs.Numbers.{self_equal}
use Rattle.column_set.specs.declared.changes.Change.{Change}
use Rattle.column_set.specs.declared.changes.Change.TheVariants.{Put, Drop, Hold, Add}
use Rattle.database_state.specs.Changes.{is_sum}
use Rattle.column_set.specs.ChangedRecords.{changed_table, changed_bookmark}
use Rattle.database_state.specs.State.{DatabaseState, PastChange, Status, Transaction, committed, is_open, is_open_change_of, is_undone, transaction_of, uncommitted, undone}
use Rattle.database_state.specs.Conflicts.{collide, is_after_begin, is_concurrent, is_concurrent_status, has_write_conflict}
use Rattle.laws_versions.specs.Records.{Records, is_change_of}
use Rattle.laws_versions.proofs.ChangeLemmas.Commuting.{both_touch}
use Rattle.laws_versions.proofs.ChangeLemmas.Tests.{contradicted}
use Rattle.laws_versions.specs.History.{EachTwo, InOrder, IsHistory, IsPassed, IsPassedBy, is_apart, is_apart_by, is_begun_after}
use Rattle.laws_versions.specs.Readers.{is_standing}
use Rattle.laws_versions.proofs.HistoryLemmas.Concurrent.{write_conflict_kept}
use Rattle.laws_versions.proofs.HistoryLemmas.Keeping.{also_open, open_live}
use Rattle.session_local.specs.Agreement.{has_lock, is_lock_on}

-- what is a lock of the record
lock_of : (table : ℕ) (bookmark : List ℕ) (change : Change) → is_lock_on table bookmark change ≡ true → (is_change_of table bookmark change ≡ true) × (is_sum change ≡ false)
lock_of table bookmark (Hold id other) e = (e, refl)
lock_of table bookmark (Put id other copied values) e = impossible e
lock_of table bookmark (Drop id other) e = impossible e
lock_of table bookmark (Add id other column amount) e = impossible e

not_concurrent_own : (session : ℕ) (t : Option Transaction) (p : PastChange) → p.session ≡ session → is_concurrent session t p ≡ false
not_concurrent_own session t p e = ap (λ b. not b && is_concurrent_status t p.status) (ap (λ k. k == session) e ∙ self_equal session)

-- an earlier change that is apart from an open one of the session
earlier_apart : (transactions : ℕ → Option Transaction) (session : ℕ) (p : PastChange) (s : Status) (number : ℕ) → (not (is_undone s) ≡ true → is_apart_by (transactions session) number (p.session == session) s uncommitted ≡ true)
    → (not (p.session == session) && is_concurrent_status (transactions session) s) ≡ false
earlier_apart transactions session p uncommitted number apart = ap (λ b. not b && true) (only (p.session == session) (apart refl))
  where
    only : (a : Bool) → ((a && true) || (false && is_begun_after (transactions session) uncommitted)) ≡ true → a ≡ true
    only true e = refl
    only false e = e
earlier_apart transactions session p (committed at) number apart =
    ap (λ b. not (p.session == session) && b) (settled (transactions session) (right (p.session == session) (nat_lt at number) (is_begun_after (transactions session) (committed at)) (apart refl))) ∙ none (not (p.session == session))
  where
    right : (a b c : Bool) → ((a && false) || (b && c)) ≡ true → c ≡ true
    right true b c e = and_right b c e
    right false b c e = and_right b c e

    settled : (t : Option Transaction) → is_begun_after t (committed at) ≡ true → is_after_begin t at ≡ false
    settled None e = refl
    settled (Some t) e = less at t.begin e
      where
        less : (a b : ℕ) → nat_lt a b ≡ true → nat_lt b a ≡ false
        less a b e = grind (arith, nat_tests)

    none : (b : Bool) → (b && false) ≡ false
    none true = refl
    none false = refl
earlier_apart transactions session p undone number apart = none (not (p.session == session))
  where
    none : (b : Bool) → (b && false) ≡ false
    none true = refl
    none false = refl

undone_apart : (session : ℕ) (t : Option Transaction) (p : PastChange) → is_standing p ≡ false → is_concurrent session t p ≡ false
undone_apart session t p e = by p.status e
  where
    by : (s : Status) → not (is_undone s) ≡ false → (not (p.session == session) && is_concurrent_status t s) ≡ false
    by uncommitted e = impossible (sym e)
    by (committed at) e = impossible (sym e)
    by undone e = none (not (p.session == session))
      where
        none : (b : Bool) → (b && false) ≡ false
        none true = refl
        none false = refl

pub is_own_lock : ℕ → ℕ → List ℕ → PastChange → Bool
is_own_lock session table bookmark item = is_open_change_of session item && is_lock_on table bookmark item.change

open_status : (s : Status) → is_open s ≡ true → s ≡ uncommitted
open_status uncommitted e = refl
open_status (committed at) e = impossible e
open_status undone e = impossible e

-- of two changes of the record, one of them a lock
touching : (table : ℕ) (bookmark : List ℕ) (p q : Change) → is_change_of table bookmark p ≡ true → is_change_of table bookmark q ≡ true → (is_sum p && is_sum q) ≡ false → collide p q ≡ true
touching table bookmark p q mine also sums = and_from _ _ (both_touch table bookmark p q mine also) (ap not sums)

before_lock : (transactions : ℕ → Option Transaction) (session table : ℕ) (bookmark : List ℕ) (p l : PastChange) → is_own_lock session table bookmark l ≡ true → InOrder transactions p l → is_change_of table bookmark p.change ≡ true → is_concurrent session (transactions session) p ≡ false
unfolding is_own_lock
before_lock transactions session table bookmark p l lock order mine =
    let own : is_open_change_of session l ≡ true = and_left _ _ lock in
    let of_l : l.session ≡ session = eqb-true l.session session (and_right (is_open l.status) _ own) in
    let is = lock_of table bookmark l.change (and_right (is_open_change_of session l) _ lock) in
    let open_l : l.status ≡ uncommitted = open_status l.status (and_left _ _ own) in
    earlier_apart transactions session p p.status l.number (λ live.
    subst (λ (k : ℕ). is_apart_by (transactions k) l.number (p.session == k) p.status uncommitted ≡ true) of_l
    (subst (λ (s : Status). is_apart_by (transactions l.session) l.number (p.session == l.session) p.status s ≡ true) open_l
    (order live (open_live l.status (and_left _ _ own)) (touching table bookmark p.change l.change mine is.0 (ap (λ b. is_sum p.change && b) is.1 ∙ none (is_sum p.change))))))
  where
    none : (b : Bool) → (b && false) ≡ false
    none true = refl
    none false = refl

behind_lock : (transactions : ℕ → Option Transaction) (session table : ℕ) (bookmark : List ℕ) (l p : PastChange) → is_own_lock session table bookmark l ≡ true → InOrder transactions l p → is_change_of table bookmark p.change ≡ true → is_concurrent session (transactions session) p ≡ false
unfolding is_own_lock
behind_lock transactions session table bookmark l p lock order mine =
    elim (is_standing p) as (λ b. is_standing p ≡ b → is_concurrent session (transactions session) p ≡ false) [
      | true ↦ λ live.
          let own : is_open_change_of session l ≡ true = and_left _ _ lock in
          let of_l : l.session ≡ session = eqb-true l.session session (and_right (is_open l.status) _ own) in
          let is = lock_of table bookmark l.change (and_right (is_open_change_of session l) _ lock) in
          let apart : is_apart transactions l p ≡ true = order (open_live l.status (and_left _ _ own)) live (touching table bookmark l.change p.change is.0 mine (ap (λ b. b && is_sum p.change) is.1)) in
          let also : is_open_change_of session p ≡ true = also_open transactions session l p l.status p.status (and_left _ _ own) of_l apart in
          not_concurrent_own session (transactions session) p (eqb-true p.session session (and_right (is_open p.status) _ also))
      | false ↦ λ gone. undone_apart session (transactions session) p gone
    ] refl

one_clear : (transactions : ℕ → Option Transaction) (session table : ℕ) (bookmark : List ℕ) (p : PastChange) (items : List PastChange) → list_any (is_own_lock session table bookmark) items ≡ true → AllByRecursion (InOrder transactions p) items
    → is_change_of table bookmark p.change ≡ true → is_concurrent session (transactions session) p ≡ false
one_clear transactions session table bookmark p [] lock order mine = impossible lock
one_clear transactions session table bookmark p (l ∷ items) lock order mine =
    elim (is_own_lock session table bookmark l) as (λ b. is_own_lock session table bookmark l ≡ b → (b || list_any (is_own_lock session table bookmark) items) ≡ true → is_concurrent session (transactions session) p ≡ false) [
      | true ↦ λ e f. before_lock transactions session table bookmark p l e order.0 mine
      | false ↦ λ e f. one_clear transactions session table bookmark p items f order.1 mine
    ] refl lock

all_clear : (transactions : ℕ → Option Transaction) (session table : ℕ) (bookmark : List ℕ) (items : List PastChange) → EachTwo (InOrder transactions) items → list_any (is_own_lock session table bookmark) items ≡ true
    → AllByRecursion (λ p. is_change_of table bookmark p.change ≡ true → is_concurrent session (transactions session) p ≡ false) items
unfolding is_own_lock
all_clear transactions session table bookmark [] order lock = tt
all_clear transactions session table bookmark (l ∷ items) order lock =
    elim (is_own_lock session table bookmark l) as (λ b. is_own_lock session table bookmark l ≡ b → (b || list_any (is_own_lock session table bookmark) items) ≡ true
    → (is_change_of table bookmark l.change ≡ true → is_concurrent session (transactions session) l ≡ false) × AllByRecursion (λ p. is_change_of table bookmark p.change ≡ true → is_concurrent session (transactions session) p ≡ false) items) [
      | true ↦ λ e f. (
        (λ mine. not_concurrent_own session (transactions session) l (eqb-true l.session session (and_right (is_open l.status) _ (and_left _ _ e)))),
        all_weaker (InOrder transactions l) (λ p. is_change_of table bookmark p.change ≡ true → is_concurrent session (transactions session) p ≡ false) (λ p o mine. behind_lock transactions session table bookmark l p e o mine) items order.0,
      )
      | false ↦ λ e f. ((λ mine. one_clear transactions session table bookmark l items f order.0 mine), all_clear transactions session table bookmark items order.1 f)
    ] refl lock

pub none_meets : (test concurrent : PastChange → Bool) (items : List PastChange) → AllByRecursion (λ p. test p ≡ true → concurrent p ≡ false) items → list_any test (filter concurrent items) ≡ false
none_meets test concurrent [] h = refl
none_meets test concurrent (p ∷ items) h = elim (concurrent p) as (λ b. concurrent p ≡ b → list_any test (cond b (p ∷ filter concurrent items) (filter concurrent items)) ≡ false) [
  | true ↦ λ e. ap (λ b. b || list_any test (filter concurrent items)) (contradicted (test p) (λ t. sym e ∙ h.0 t)) ∙ none_meets test concurrent items h.1
  | false ↦ λ e. none_meets test concurrent items h.1
] refl

-- the lock is among the kept changes
pub lock_kept : (base : Records) (dropped kept : List PastChange) (state : DatabaseState) (session table : ℕ) (bookmark : List ℕ) → IsHistory base dropped kept state → has_lock state session table bookmark ≡ true → list_any (is_own_lock session table bookmark) kept ≡ true
unfolding is_own_lock
lock_kept base dropped kept state session table bookmark h lock =
    sym (ap (λ b. b || list_any (is_own_lock session table bookmark) kept) (none dropped h.passed))
    ∙ sym (list_any-append (is_own_lock session table bookmark) dropped kept) ∙ sym (ap (list_any (is_own_lock session table bookmark)) h.past) ∙ lock
  where
    closed : (s : Status) → IsPassedBy state.number (transaction_of state) s → is_open s ≡ false
    closed uncommitted p = absurd p
    closed (committed at) p = refl
    closed undone p = refl

    none : (items : List PastChange) → AllByRecursion (IsPassed state.number (transaction_of state)) items → list_any (λ item. is_open_change_of session item && is_lock_on table bookmark item.change) items ≡ false
    none [] p = refl
    none (item ∷ items) p = ap (λ b. ((b && (item.session == session)) && is_lock_on table bookmark item.change) || list_any (λ item. is_open_change_of session item && is_lock_on table bookmark item.change) items) (closed item.status p.0) ∙ none items p.1

pub locked_free : (base : Records) (dropped kept : List PastChange) (state : DatabaseState) (session : ℕ) (change : Change) → IsHistory base dropped kept state → has_lock state session (changed_table change) (changed_bookmark change) ≡ true → has_write_conflict state session change ≡ false
locked_free base dropped kept state session change h lock =
    write_conflict_kept base dropped kept state h session change
    ∙ none_meets (λ item. collide item.change change) (is_concurrent session (transaction_of state session)) kept
    (all_weaker (λ p. is_change_of (changed_table change) (changed_bookmark change) p.change ≡ true → is_concurrent session (transaction_of state session) p ≡ false) (λ p. collide p.change change ≡ true → is_concurrent session (transaction_of state session) p ≡ false)
    (λ p f hit. f (and_left _ _ hit)) kept
    (all_clear (transaction_of state) session (changed_table change) (changed_bookmark change) kept h.keeps.in_order (lock_kept base dropped kept state session (changed_table change) (changed_bookmark change) h lock)))
