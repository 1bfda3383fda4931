-- Whoever sees the later of two colliding changes sees the earlier.
use Rattle.std.proofs.Common.{◌≡◌, ℕ, ◌<◌, ◌≤◌, Bool, true, false, not, ◌&&◌, ◌||◌, List, Option, Some, None, refl, ap, subst, arith}
use Rattle.std.specs.Prelude.{◌==◌, nat_lt}
use Rattle.std.proofs.lemmas.Bool.Decides.{nat_tests}
use Rattle.std.proofs.lemmas.Bool.{eqb-true}
use Rattle.common_lemmas.proofs.Booleans.{and_left, and_right}
use Rattle.database_state.specs.Table.{Table}
use Rattle.database_state.specs.State.{DatabaseState, PastChange, Transaction, Status, uncommitted, committed, undone, is_open, is_undone, transaction_of}
use Rattle.database_state.specs.Conflicts.{collide, is_after_begin}
use Rattle.laws_versions.specs.Records.{Records}
use Rattle.laws_versions.specs.History.{EachTwo, InOrder, IsHistory, IsPlaced, IsPlacedBy, KeepsHistory, is_apart, is_apart_by}
use Rattle.laws_versions.specs.Readers.{is_standing, sees, was_committed_status}
use Rattle.laws_versions.proofs.HistoryLemmas.Lists.{each_both}

abbrev pub SeenEarlier : ℕ → Option Transaction → PastChange → PastChange → Type 0
SeenEarlier session t earlier later = is_standing earlier ≡ true → sees session t later ≡ true → collide earlier.change later.change ≡ true → sees session t earlier ≡ true

-- ---- by their states

-- what the later's place tells of its number
abbrev NumberBelow : ℕ → Status → Type 0
NumberBelow number uncommitted = Unit {0}
NumberBelow number (committed at) = number < at
NumberBelow number undone = Unit {0}

or_case : (a b c : Bool) → (a ≡ true → c ≡ true) → (b ≡ true → c ≡ true) → (a || b) ≡ true → c ≡ true
or_case true b c f g h = f refl
or_case false b c f g h = g h

lower : (t : Option Transaction) (m n : ℕ) → m ≤ n → not (is_after_begin t n) ≡ true → not (is_after_begin t m) ≡ true
lower None m n le h = refl
lower (Some t) m n le h = grind (arith, nat_tests)

-- the later was committed and is seen
by_commit : (t u : Option Transaction) (number n : ℕ) (same : Bool) (own : Bool) (earlier : Status) → number < n → not (is_undone earlier) ≡ true → not (is_after_begin t n) ≡ true
    → is_apart_by u number same earlier (committed n) ≡ true → (was_committed_status t earlier || (is_open earlier && own)) ≡ true
by_commit t u number n true own uncommitted lt live seen h = cc
by_commit t u number n false own uncommitted lt live seen h = cc
by_commit t u number n same own undone lt live seen h = cc
by_commit t u number n same own (committed m) lt live seen h =
    or_case (same && (m == n)) (nat_lt m number && true) _
    (λ e. let eq = eqb-true m n (and_right same _ e) in shown m (lower t m n (omega arith) seen))
    (λ e. let below : nat_lt m number ≡ true = and_left _ _ e in let less = less_from m number below in shown m (lower t m n (omega arith) seen))
    h
  where
    less_from : (a b : ℕ) → nat_lt a b ≡ true → a < b
    less_from a b h = grind (arith, nat_tests)

    shown : (m : ℕ) → not (is_after_begin t m) ≡ true → (not (is_after_begin t m) || false) ≡ true
    shown m h = ap (λ b. b || false) h

-- the later is the session's own and open
by_own : (t : Option Transaction) (number : ℕ) (same : Bool) (earlier : Status) → not (is_undone earlier) ≡ true
    → is_apart_by t number same earlier uncommitted ≡ true → (was_committed_status t earlier || (is_open earlier && same)) ≡ true
by_own t number true uncommitted live h = refl
by_own t number false uncommitted live h = cc
by_own t number same undone live h = cc
by_own None number true (committed m) live h = refl
by_own None number false (committed m) live h = refl
by_own (Some t) number same (committed m) live h =
    or_case (same && false) (nat_lt m number && nat_lt m t.begin) _
    (λ e. none same e) (λ e. shown (and_right (nat_lt m number) _ e)) h
  where
    none : (s : Bool) → (s && false) ≡ true → (not (nat_lt t.begin m) || (false && same)) ≡ true
    none true e = cc
    none false e = cc

    shown : nat_lt m t.begin ≡ true → (not (nat_lt t.begin m) || (false && same)) ≡ true
    shown e = ap (λ b. b || false) (past m t.begin e)
      where
        past : (a b : ℕ) → nat_lt a b ≡ true → not (nat_lt b a) ≡ true
        past a b e = grind (arith, nat_tests)

by_state : (session : ℕ) (transactions : ℕ → Option Transaction) (p q : PastChange) (later : Status) → NumberBelow q.number later → is_standing p ≡ true
    → is_apart_by (transactions q.session) q.number (p.session == q.session) p.status later ≡ true → (was_committed_status (transactions session) later || (is_open later && (q.session == session))) ≡ true
    → (was_committed_status (transactions session) p.status || (is_open p.status && (p.session == session))) ≡ true
by_state session transactions p q uncommitted below live apart seen =
    let own : q.session ≡ session = eqb-true q.session session seen in
    by_own (transactions session) q.number (p.session == session) p.status live
    (subst (λ (k : ℕ). is_apart_by (transactions k) q.number (p.session == k) p.status uncommitted ≡ true) own apart)
by_state session transactions p q (committed n) below live apart seen =
    by_commit (transactions session) (transactions q.session) q.number n (p.session == q.session) (p.session == session) p.status below live (or_false _ seen) apart
  where
    or_false : (a : Bool) → (a || false) ≡ true → a ≡ true
    or_false true h = refl
    or_false false h = h
by_state session transactions p q undone below live apart seen = cc

live_seen : (t : Option Transaction) (own : Bool) (s : Status) → (was_committed_status t s || (is_open s && own)) ≡ true → not (is_undone s) ≡ true
live_seen t own uncommitted h = refl
live_seen t own (committed n) h = refl
live_seen t own undone h = cc

number_below : (number : ℕ) (transactions : ℕ → Option Transaction) (item : PastChange) (s : Status) → IsPlacedBy number transactions item s → NumberBelow item.number s
number_below number transactions item uncommitted h = tt
number_below number transactions item (committed n) h = h.0
number_below number transactions item undone h = tt

-- of two that are apart, as those that collide are
pub seen_where_apart : (number : ℕ) (tables : List Table) (transactions : ℕ → Option Transaction) (session : ℕ) (p q : PastChange) → IsPlaced number tables transactions q → is_standing p ≡ true → (is_standing q ≡ true → is_apart transactions p q ≡ true)
    → sees session (transactions session) q ≡ true → sees session (transactions session) p ≡ true
seen_where_apart number tables transactions session p q placed_q live apart seen =
    by_state session transactions p q q.status (number_below number transactions q q.status placed_q.2) live
    (apart (live_seen (transactions session) (q.session == session) q.status seen)) seen

seen_pair : (number : ℕ) (tables : List Table) (transactions : ℕ → Option Transaction) (session : ℕ) (p q : PastChange) → IsPlaced number tables transactions p → IsPlaced number tables transactions q → InOrder transactions p q
    → SeenEarlier session (transactions session) p q
seen_pair number tables transactions session p q placed_p placed_q order live seen hit = seen_where_apart number tables transactions session p q placed_q live (λ standing. order live standing hit) seen

pub seen_earlier : (number : ℕ) (tables : List Table) (transactions : ℕ → Option Transaction) (base : Records) (kept : List PastChange) → KeepsHistory number tables transactions base kept
    → (session : ℕ) → EachTwo (SeenEarlier session (transactions session)) kept
seen_earlier number tables transactions base kept h session =
    each_both (IsPlaced number tables transactions) (InOrder transactions) (SeenEarlier session (transactions session)) (seen_pair number tables transactions session) kept h.placed h.in_order

pub seen_in_order : (base : Records) (dropped kept : List PastChange) (state : DatabaseState) → IsHistory base dropped kept state → (session : ℕ) → EachTwo (SeenEarlier session (transaction_of state session)) kept
seen_in_order base dropped kept state h session = seen_earlier state.number state.tables (transaction_of state) base kept h.keeps session
