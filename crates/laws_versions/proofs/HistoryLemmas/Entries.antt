-- What each entry leaves of the history.
use Rattle.std.proofs.Common.{◌≡◌, ℕ, ◌+◌, ◌-◌, ◌≤◌, Bool, true, false, ◌&&◌, cond, List, [], ◌∷◌, ◌++◌, Option, Some, None, refl, sym, ap, subst, ◌∙◌, arith}
use Rattle.std.specs.Prelude.{◌==◌, nat_lt, is_some, map, IfSome}
use Rattle.std.specs.List.{AllByRecursion}
use Rattle.std.proofs.lemmas.Bool.Decides.{nat_tests}
use Rattle.std.proofs.lemmas.List.{map-append}
use Rattle.std.proofs.lemmas.Bool.{and_from, eqb-true}
use Rattle.common_lemmas.proofs.Booleans.{and_left, and_right, impossible}
use Rattle.common_lemmas.proofs.Lists.{all_each, all_map, all_weaker}
use Rattle.common_lemmas.proofs.Numbers.{self_equal}
use Rattle.database_state.specs.Table.{Table}
use Rattle.database_state.specs.State.{DatabaseState, PastChange, LiveSession, Transaction, Status, uncommitted, committed, undone, is_open, is_open_change_of, live_session, transaction_of, levels_of, levels, with_session}
use Rattle.database_state.specs.Step.{entered, left, with_transaction, began, at_levels, with_levels, with_changes_at, is_at_level, every_change, innermost_undone, all_undone}
use Rattle.laws_versions.specs.Records.{Records}
use Rattle.laws_versions.specs.History.{IsBegun, IsHistory, IsOpenIn, IsPassed, IsPassedBy, IsPlaced, KeepsHistory, LevelsRise}
use Rattle.laws_versions.specs.KeptSteps.{is_own_open, undone_where, with_next_number}
use Rattle.laws_versions.proofs.HistoryLemmas.Beginning.{keeps_begun, passed_begun}
use Rattle.laws_versions.proofs.HistoryLemmas.Keeping.{Follows, StaysOpen, goes_apart, keeps_followed, keeps_later, keeps_undone, passed_followed, passed_later, with_at, open_in}
use Rattle.laws_versions.proofs.HistoryLemmas.Lists.{all_both}
use Rattle.laws_versions.proofs.HistoryLemmas.Transactions.{same-with, transaction-begun, transaction-ended, transaction-entered, transaction-left, transaction-levels}

-- ---- the number

pub history_later : (base : Records) (dropped kept : List PastChange) (state : DatabaseState) → IsHistory base dropped kept state → IsHistory base dropped kept (with_next_number state)
history_later base dropped kept state h = record {
  past = h.past;
  passed = passed_later state.number (transaction_of state) dropped h.passed;
  keeps = keeps_later state.number state.tables (transaction_of state) base kept h.keeps;
}

-- ---- sessions whose transaction stays

pub history_entered : (base : Records) (dropped kept : List PastChange) (label : ℕ) (state : DatabaseState) → is_some (live_session state label) ≡ false → IsHistory base dropped kept state → IsHistory base dropped kept (entered label state)
history_entered base dropped kept label state none h = record {
  past = h.past;
  passed = subst (λ t. AllByRecursion (IsPassed state.number t) dropped) (sym (transaction-entered label state none)) h.passed;
  keeps = subst (λ t. KeepsHistory state.number state.tables t base kept) (sym (transaction-entered label state none)) h.keeps;
}

pub history_with : (base : Records) (dropped kept : List PastChange) (label : ℕ) (change : LiveSession → LiveSession) → ((s : LiveSession) → (change s).label ≡ s.label) → ((s : LiveSession) → (change s).transaction ≡ s.transaction) → (state : DatabaseState)
    → IsHistory base dropped kept state → IsHistory base dropped kept (with_session label change state)
history_with base dropped kept label change same keep state h = record {
  past = h.past;
  passed = subst (λ t. AllByRecursion (IsPassed state.number t) dropped) (sym (same-with label change same keep state)) h.passed;
  keeps = subst (λ t. KeepsHistory state.number state.tables t base kept) (sym (same-with label change same keep state)) h.keeps;
}

-- ---- transactions that go on, or end

follows_self : (n : ℕ) (tables : List Table) (base : Records) (kept : List PastChange) (t : Option Transaction) → IfSome t (IsBegun n tables base kept) → Follows t t
follows_self n tables base kept None h = tt
follows_self n tables base kept (Some t) h = (refl, refl, h.levels)

pub follows_at : (n : ℕ) (tables : List Table) (base : Records) (kept : List PastChange) (transactions : ℕ → Option Transaction) → ((x : ℕ) → IfSome (transactions x) (IsBegun n tables base kept)) → (label : ℕ) (u : Option Transaction) → Follows (transactions label) u
    → (x : ℕ) → Follows (transactions x) (with_at label u transactions x)
follows_at n tables base kept transactions begun label u f x =
    elim (x == label) as (λ b. (x == label) ≡ b → Follows (transactions x) (cond b u (transactions x))) [
      | true ↦ λ e. subst (λ (k : ℕ). Follows (transactions k) u) (sym (eqb-true x label e)) f
      | false ↦ λ e. follows_self n tables base kept (transactions x) (begun x)
    ] refl

stays_at : (n : ℕ) (tables : List Table) (transactions : ℕ → Option Transaction) (label : ℕ) (u : Option Transaction) (item : PastChange) → IsPlaced n tables transactions item
    → (is_open_change_of label item ≡ true → IsOpenIn item (transactions label) → IsOpenIn item u) → StaysOpen (with_at label u transactions) item
stays_at n tables transactions label u item placed f opens =
    let inside = open_in n transactions item item.status opens placed.2 in
    elim (item.session == label) as (λ b. (item.session == label) ≡ b → IsOpenIn item (cond b u (transactions item.session))) [
      | true ↦ λ e. f (and_from _ _ opens e) (subst (λ (k : ℕ). IsOpenIn item (transactions k)) (eqb-true item.session label e) inside)
      | false ↦ λ e. inside
    ] refl

-- a history whose transactions go on or end
pub history_moved : (base : Records) (dropped kept : List PastChange) (label : ℕ) (u : Option Transaction) (state after : DatabaseState) → after.number ≡ state.number → after.tables ≡ state.tables → after.past ≡ state.past
    → transaction_of after ≡ with_at label u (transaction_of state) → Follows (transaction_of state label) u
    → AllByRecursion (λ item. is_open_change_of label item ≡ true → IsOpenIn item (transaction_of state label) → IsOpenIn item u) kept
    → IsHistory base dropped kept state → IsHistory base dropped kept after
history_moved base dropped kept label u state after number tables past e f stays h =
    let follows = follows_at state.number state.tables base kept (transaction_of state) h.keeps.begun label u f in
    record {
      past = past ∙ h.past;
      passed = subst (λ t. AllByRecursion (IsPassed after.number t) dropped) (sym e) (subst (λ (n : ℕ). AllByRecursion (IsPassed n (with_at label u (transaction_of state))) dropped) (sym number)
          (passed_followed state.number (transaction_of state) (with_at label u (transaction_of state)) follows dropped h.passed));
      keeps = subst (λ t. KeepsHistory after.number after.tables t base kept) (sym e) (subst (λ (n : ℕ). KeepsHistory n after.tables (with_at label u (transaction_of state)) base kept) (sym number)
          (subst (λ ts. KeepsHistory state.number ts (with_at label u (transaction_of state)) base kept) (sym tables)
          (keeps_followed state.number state.tables (transaction_of state) (with_at label u (transaction_of state)) base kept follows
          (all_both (IsPlaced state.number state.tables (transaction_of state)) (λ item. is_open_change_of label item ≡ true → IsOpenIn item (transaction_of state label) → IsOpenIn item u) (StaysOpen (with_at label u (transaction_of state)))
          (stays_at state.number state.tables (transaction_of state) label u) kept h.keeps.placed stays) h.keeps)));
    }

-- a level more
pub more : (t : Option Transaction) → Follows t (at_levels (λ n. n + 1) t)
more None = tt
more (Some t) = (refl, refl, above t.levels)
  where
    above : (n : ℕ) → 1 ≤ n + 1
    above n = omega arith

deeper : (item : PastChange) (t : Option Transaction) → IsOpenIn item t → IsOpenIn item (at_levels (λ n. n + 1) t)
deeper item None h = h
deeper item (Some t) h = (h.0, h.1, omega (arith, h.2))

pub history_saved : (base : Records) (dropped kept : List PastChange) (label : ℕ) (state : DatabaseState) → IsHistory base dropped kept state → IsHistory base dropped kept (with_levels label (λ n. n + 1) state)
history_saved base dropped kept label state h =
    history_moved base dropped kept label (at_levels (λ n. n + 1) (transaction_of state label)) state (with_levels label (λ n. n + 1) state) refl refl refl
    (transaction-levels label (λ n. n + 1) state) (more (transaction_of state label))
    (all_each (λ item. is_open_change_of label item ≡ true → IsOpenIn item (transaction_of state label) → IsOpenIn item (at_levels (λ n. n + 1) (transaction_of state label))) (λ item own inside. deeper item (transaction_of state label) inside) kept) h

-- ---- a begin

pub history_begun : (base : Records) (dropped kept : List PastChange) (label : ℕ) (state : DatabaseState) → is_some (live_session state label) ≡ true → transaction_of state label ≡ None → IsHistory base dropped kept state
    → IsHistory base dropped kept (began label (with_next_number state))
history_begun base dropped kept label state live none h =
    let t : Transaction = record { levels = 1; begin = state.number + 1; snapshot = state.tables } in
    record {
      past = h.past;
      passed = subst (λ u. AllByRecursion (IsPassed (state.number + 1) u) dropped) (sym (transaction-begun label (record { levels = 1; begin = state.number + 1; snapshot = state.tables }) (with_next_number state) live))
          (passed_begun state.number label (transaction_of state) (record { levels = 1; begin = state.number + 1; snapshot = state.tables }) refl dropped h.passed);
      keeps = subst (λ u. KeepsHistory (state.number + 1) state.tables u base kept) (sym (transaction-begun label (record { levels = 1; begin = state.number + 1; snapshot = state.tables }) (with_next_number state) live))
          (keeps_begun state.number label state.tables (transaction_of state) base kept none h.keeps);
    }

-- ---- changes undone

map_same : {X : Type 0} (f : X → X) (xs : List X) → AllByRecursion (λ x. f x ≡ x) xs → map f xs ≡ xs
map_same f [] h = refl
map_same f (x ∷ xs) h = λ i. h.0 i ∷ map_same f xs h.1 i

passed_closed : (n : ℕ) (transactions : ℕ → Option Transaction) (s : Status) → IsPassedBy n transactions s → is_open s ≡ false
passed_closed n transactions uncommitted h = absurd h
passed_closed n transactions (committed m) h = refl
passed_closed n transactions undone h = refl

-- what passed is open for no one
pub passed_own : (n : ℕ) (transactions : ℕ → Option Transaction) (label : ℕ) (item : PastChange) → IsPassed n transactions item → is_open_change_of label item ≡ false
passed_own n transactions label item h = ap (λ b. b && (item.session == label)) (passed_closed n transactions item.status h)

pub history_undone : (base : Records) (dropped kept : List PastChange) (label : ℕ) (test : PastChange → Bool) (state : DatabaseState)
    → ((p q : PastChange) → is_own_open label test p ≡ true → is_open_change_of label q ≡ true → IsPlaced state.number state.tables (transaction_of state) q → LevelsRise p q → test q ≡ true)
    → IsHistory base dropped kept state → IsHistory base dropped (map (undone_where (is_own_open label test)) kept) (with_changes_at label test (λ item. record item { status = undone }) state)
history_undone base dropped kept label test state suffix h = record {
  past = ap (map (undone_where (is_own_open label test))) h.past ∙ map-append (undone_where (is_own_open label test)) dropped kept
      ∙ ap (λ xs. xs ++ map (undone_where (is_own_open label test)) kept)
      (map_same (undone_where (is_own_open label test)) dropped (all_weaker (IsPassed state.number (transaction_of state)) (λ item. undone_where (is_own_open label test) item ≡ item)
      (λ item p. ap (λ b. cond (b && test item) (record item { status = undone }) item) (passed_own state.number (transaction_of state) label item p)) dropped h.passed));
  passed = h.passed;
  keeps = keeps_undone state.number state.tables (transaction_of state) base kept (is_own_open label test) (λ item e. and_left (is_open item.status) _ (and_left _ _ e))
      (goes_apart state.number state.tables (transaction_of state) base kept label test (λ item. Unit {0}) (all_each (λ item. Unit {0}) (λ item. tt) kept) (λ p q e own placed each rise less. suffix p q e own placed rise) h.keeps) h.keeps;
}

-- no open change of the session stays
pub history_all_undone : (base : Records) (dropped kept : List PastChange) (label : ℕ) (state : DatabaseState) → IsHistory base dropped kept state
    → IsHistory base dropped (map (undone_where (is_own_open label every_change)) kept) (all_undone label state)
history_all_undone base dropped kept label state h =
    let undoing : DatabaseState = with_changes_at label every_change (λ item. record item { status = undone }) state in
    history_moved base dropped (map (undone_where (is_own_open label every_change)) kept) label None (with_changes_at label every_change (λ item. record item { status = undone }) state) (all_undone label state) refl refl refl
    (transaction-ended label (with_changes_at label every_change (λ item. record item { status = undone }) state)) tt
    (all_map (λ item. is_open_change_of label item ≡ true → IsOpenIn item (transaction_of state label) → ⊥) (undone_where (is_own_open label every_change)) kept
    (all_each (λ item. is_open_change_of label (undone_where (is_own_open label every_change) item) ≡ true → IsOpenIn (undone_where (is_own_open label every_change) item) (transaction_of state label) → ⊥) (λ item own inside. none item own) kept))
    (history_undone base dropped kept label every_change state (λ p q e own placed rise. refl) h)
  where
    none : (item : PastChange) → is_open_change_of label (undone_where (is_own_open label every_change) item) ≡ true → ⊥
    none item =
        elim (is_open_change_of label item) as (λ b. is_open_change_of label item ≡ b → is_open_change_of label (cond (b && true) (record item { status = undone }) item) ≡ true → ⊥) [
          | true ↦ λ e own. impossible own
          | false ↦ λ e own. impossible (sym e ∙ own)
        ] refl

-- the innermost level
pub fewer : (t : Option Transaction) → nat_lt 1 (levels_of t) ≡ true → Follows t (at_levels (λ n. n - 1) t)
fewer None e = tt
fewer (Some t) e = (refl, refl, above t.levels e)
  where
    above : (n : ℕ) → nat_lt 1 n ≡ true → 1 ≤ n - 1
    above n e = grind (arith, nat_tests)

-- behind an open change of the innermost level a session has none of another level
pub at_innermost : (label : ℕ) (state : DatabaseState) (p q : PastChange) → is_own_open label (is_at_level (levels state label)) p ≡ true → is_open_change_of label q ≡ true → IsPlaced state.number state.tables (transaction_of state) q → LevelsRise p q
    → (q.level == levels state label) ≡ true
at_innermost label state p q e own placed rise =
    let own_p : is_open_change_of label p ≡ true = and_left _ _ e in
    let of_p : p.session ≡ label = eqb-true p.session label (and_right (is_open p.status) _ own_p) in
    let of_q : q.session ≡ label = eqb-true q.session label (and_right (is_open q.status) _ own) in
    let low : p.level ≡ levels state label = eqb-true p.level (levels state label) (and_right (is_open_change_of label p) _ e) in
    let le = rise (and_left _ _ own_p) (and_left _ _ own) (of_p ∙ sym of_q) in
    let inside : IsOpenIn q (transaction_of state label) = subst (λ (k : ℕ). IsOpenIn q (transaction_of state k)) of_q (open_in state.number (transaction_of state) q q.status (and_left _ _ own) placed.2) in
    between p.level q.level (levels state label) le low (at_most (transaction_of state label) inside)
  where
    at_most : (t : Option Transaction) → IsOpenIn q t → q.level ≤ levels_of t
    at_most None inside = absurd inside
    at_most (Some t) inside = inside.2

    between : (a b c : ℕ) → a ≤ b → a ≡ c → b ≤ c → (b == c) ≡ true
    between a b c le e up = grind (arith, nat_tests)

pub history_innermost_undone : (base : Records) (dropped kept : List PastChange) (label : ℕ) (state : DatabaseState) → IsHistory base dropped kept state
    → IsHistory base dropped (map (undone_where (is_own_open label (is_at_level (levels state label)))) kept) (innermost_undone label state)
history_innermost_undone base dropped kept label state h =
    elim (nat_lt 1 (levels state label)) as (λ b. nat_lt 1 (levels state label) ≡ b → IsHistory base dropped kept_after (cond b (with_levels label (λ n. n - 1) undoing) (with_transaction label None undoing))) [
      | true ↦ λ e.
          history_moved base dropped kept_after label (at_levels (λ n. n - 1) (transaction_of state label)) undoing (with_levels label (λ n. n - 1) undoing) refl refl refl
          (transaction-levels label (λ n. n - 1) undoing) (fewer (transaction_of state label) e)
          (each (λ item inside. IsOpenIn item (at_levels (λ n. n - 1) (transaction_of state label))) (λ item own other inside. shallower item (transaction_of state label) other inside)) made
      | false ↦ λ e.
          history_moved base dropped kept_after label None undoing (with_transaction label None undoing) refl refl refl
          (transaction-ended label undoing) tt
          (each (λ item inside. ⊥) (λ item own other inside. not_last item (transaction_of state label) other e inside)) made
    ] refl
  where
    gone : PastChange → Bool
    gone = is_own_open label (is_at_level (levels state label))

    kept_after : List PastChange
    kept_after = map (undone_where (is_own_open label (is_at_level (levels state label)))) kept

    undoing : DatabaseState
    undoing = with_changes_at label (is_at_level (levels state label)) (λ item. record item { status = undone }) state

    made : IsHistory base dropped kept_after undoing
    made = history_undone base dropped kept label (is_at_level (levels state label)) state (at_innermost label state) h

    shallower : (item : PastChange) (t : Option Transaction) → (item.level == levels_of t) ≡ false → IsOpenIn item t → IsOpenIn item (at_levels (λ n. n - 1) t)
    shallower item None other inside = inside
    shallower item (Some t) other inside = (inside.0, inside.1, below item.level t.levels other inside.2)
      where
        below : (a b : ℕ) → (a == b) ≡ false → a ≤ b → a ≤ b - 1
        below a b ne le = grind (arith, nat_tests)

    not_last : (item : PastChange) (t : Option Transaction) → (item.level == levels_of t) ≡ false → nat_lt 1 (levels_of t) ≡ false → IsOpenIn item t → ⊥
    not_last item None other e inside = inside
    not_last item (Some t) other e inside = alone item.level t.levels other e inside.1 inside.2
      where
        alone : (a b : ℕ) → (a == b) ≡ false → nat_lt 1 b ≡ false → 1 ≤ a → a ≤ b → ⊥
        alone a b ne e one le = grind (arith, nat_tests)

    each : (P : (item : PastChange) → IsOpenIn item (transaction_of state label) → Type 0)
        → ((item : PastChange) → is_open_change_of label item ≡ true → (item.level == levels state label) ≡ false → (inside : IsOpenIn item (transaction_of state label)) → P item inside)
        → AllByRecursion (λ item. is_open_change_of label item ≡ true → (inside : IsOpenIn item (transaction_of state label)) → P item inside) kept_after
    each P f =
        all_map (λ item. is_open_change_of label item ≡ true → (inside : IsOpenIn item (transaction_of state label)) → P item inside) (undone_where (is_own_open label (is_at_level (levels state label)))) kept
        (all_each (λ item. is_open_change_of label (undone_where (is_own_open label (is_at_level (levels state label))) item) ≡ true → (inside : IsOpenIn (undone_where (is_own_open label (is_at_level (levels state label))) item) (transaction_of state label)) → P (undone_where (is_own_open label (is_at_level (levels state label))) item) inside) one kept)
      where
        beside : (a b : Bool) → a ≡ true → (a && b) ≡ false → b ≡ false
        beside true b e g = g
        beside false b e g = impossible e

        one : (item : PastChange) → is_open_change_of label (undone_where (is_own_open label (is_at_level (levels state label))) item) ≡ true
            → (inside : IsOpenIn (undone_where (is_own_open label (is_at_level (levels state label))) item) (transaction_of state label)) → P (undone_where (is_own_open label (is_at_level (levels state label))) item) inside
        one item =
            elim (is_open_change_of label item && (item.level == levels state label)) as (λ b. (is_open_change_of label item && (item.level == levels state label)) ≡ b
            → is_open_change_of label (cond b (record item { status = undone }) item) ≡ true → (inside : IsOpenIn (cond b (record item { status = undone }) item) (transaction_of state label)) → P (cond b (record item { status = undone }) item) inside) [
              | true ↦ λ e own inside. impossible own
              | false ↦ λ e own inside. f item own (beside (is_open_change_of label item) (item.level == levels state label) own e) inside
            ] refl

-- ---- a session that leaves

pub history_left : (base : Records) (dropped kept : List PastChange) (label : ℕ) (state : DatabaseState) → IsHistory base dropped kept state
    → IsHistory base dropped (map (undone_where (is_own_open label every_change)) kept) (left label (all_undone label state))
history_left base dropped kept label state h =
    let made = history_all_undone base dropped kept label state h in
    let ended : transaction_of (all_undone label state) label ≡ None = ap (λ (t : ℕ → Option Transaction). t label) (transaction-ended label (with_changes_at label every_change (λ item. record item { status = undone }) state)) ∙ ap (λ b. cond b None (transaction_of state label)) (self_equal label) in
    history_moved base dropped (map (undone_where (is_own_open label every_change)) kept) label None (all_undone label state) (left label (all_undone label state)) refl refl refl
    (transaction-left label (all_undone label state)) tt
    (all_each (λ item. is_open_change_of label item ≡ true → IsOpenIn item (transaction_of (all_undone label state) label) → ⊥) (λ item own inside. subst (IsOpenIn item) ended inside) (map (undone_where (is_own_open label every_change)) kept)) made
