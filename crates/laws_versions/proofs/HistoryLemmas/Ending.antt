-- What a commit, the release of a level and a clean do to the changes that are kept.
use Rattle.std.proofs.Common.{◌≡◌, ◌≢◌, ℕ, ◌+◌, ◌-◌, ◌<◌, ◌≤◌, Bool, true, false, not, ◌&&◌, ◌||◌, cond, List, ◌∷◌, Option, Some, None, refl, sym, ap, subst, ◌∙◌, arith}
use Rattle.std.specs.Prelude.{◌==◌, nat_lt, is_some, map, IfSome, if◌then◌else◌}
use Rattle.std.proofs.lemmas.Bool.Decides.{nat_tests}
use Rattle.std.proofs.lemmas.Bool.{and_from, eqb-true}
use Rattle.common_lemmas.proofs.Booleans.{and_left, and_right, impossible}
use Rattle.common_lemmas.proofs.Lists.{all_each, all_map, all_weaker}
use Rattle.common_lemmas.proofs.Numbers.{self_equal}
use Rattle.database_state.specs.Table.{Table, table_with_id}
use Rattle.column_set.specs.ChangedRecords.{changed_table}
use Rattle.database_state.specs.State.{PastChange, Transaction, Status, uncommitted, committed, undone, is_open, is_undone, is_open_change_of}
use Rattle.database_state.specs.Conflicts.{collide}
use Rattle.laws_versions.specs.Records.{Records, after_item, records_after_items, records_of}
use Rattle.laws_versions.proofs.ChangeLemmas.Folds.{folded-cons, folded-map}
use Rattle.laws_versions.specs.History.{InOrder, InOrderWhere, IsBegun, IsOpenIn, IsPassed, IsPassedBy, IsPlaced, IsPlacedBy, KeepsHistory, LevelsRise, NumbersRise, is_apart_by, is_begun_after, is_settled_for, without_rows}
use Rattle.laws_versions.specs.KeptSteps.{committed_own, lowered_own}
use Rattle.laws_versions.specs.Readers.{is_standing, was_committed, was_committed_status}
use Rattle.laws_versions.proofs.HistoryLemmas.Befores.{at, befores-map}
use Rattle.laws_versions.proofs.HistoryLemmas.Keeping.{apart_moved, some_at, some_map, with_at}
use Rattle.laws_versions.proofs.HistoryLemmas.Lists.{each_map}
use Rattle.laws_versions.proofs.HistoryLemmas.Viewing.{same_there}
use Rattle.laws_versions.proofs.HistoryLemmas.SeenRecords.{own_open}

-- ---- all open changes of a session committed

pub commit_change : (session number : ℕ) (item : PastChange) → (committed_own session number item).change ≡ item.change
commit_change session number item = elim (is_open_change_of session item) as (λ b. (cond b (record item { status = committed number }) item).change ≡ item.change) [ true ↦ refl | false ↦ refl ]

pub commit_before : (session number : ℕ) (item : PastChange) → (committed_own session number item).before ≡ item.before
commit_before session number item = elim (is_open_change_of session item) as (λ b. (cond b (record item { status = committed number }) item).before ≡ item.before) [ true ↦ refl | false ↦ refl ]

commit_number : (session number : ℕ) (item : PastChange) → (committed_own session number item).number ≡ item.number
commit_number session number item = elim (is_open_change_of session item) as (λ b. (cond b (record item { status = committed number }) item).number ≡ item.number) [ true ↦ refl | false ↦ refl ]

live_open : (s : Status) → is_open s ≡ true → true ≡ not (is_undone s)
live_open uncommitted e = refl
live_open (committed n) e = refl
live_open undone e = impossible e

pub commit_live : (session number : ℕ) (item : PastChange) → is_standing (committed_own session number item) ≡ is_standing item
commit_live session number item = elim (is_open_change_of session item) as (λ b. is_open_change_of session item ≡ b → is_standing (cond b (record item { status = committed number }) item) ≡ is_standing item) [
  | true ↦ λ e. live_open item.status (and_left _ _ e)
  | false ↦ λ e. refl
] refl

-- in the committed tables: those of before, and the session's own
commit_seen : (session number : ℕ) (item : PastChange) → was_committed None (committed_own session number item) ≡ (was_committed None item || is_open_change_of session item)
commit_seen session number item = elim (is_open_change_of session item) as (λ b. was_committed None (cond b (record item { status = committed number }) item) ≡ (was_committed None item || b)) [
  | true ↦ with_true (was_committed None item)
  | false ↦ with_false (was_committed None item)
]
  where
    with_true : (b : Bool) → true ≡ (b || true)
    with_true true = refl
    with_true false = refl

    with_false : (b : Bool) → b ≡ (b || false)
    with_false true = refl
    with_false false = refl

-- no transaction that began before sees them
commit_unseen : (session n : ℕ) (t : Transaction) → t.begin ≤ n → (item : PastChange) → was_committed (Some t) (committed_own session (n + 1) item) ≡ was_committed (Some t) item
commit_unseen session n t le item = elim (is_open_change_of session item) as (λ b. is_open_change_of session item ≡ b → was_committed (Some t) (cond b (record item { status = committed (n + 1) }) item) ≡ was_committed (Some t) item) [
  | true ↦ λ e. later t.begin n le ∙ none item.status (and_left _ _ e)
  | false ↦ λ e. refl
] refl
  where
    later : (a n : ℕ) → a ≤ n → not (nat_lt a (n + 1)) ≡ false
    later a n le = grind (arith, nat_tests)

    none : (s : Status) → is_open s ≡ true → false ≡ was_committed_status (Some t) s
    none uncommitted e = refl
    none (committed k) e = impossible e
    none undone e = refl

-- one that is committed, and one that is not
pub order_committed : (Meet : PastChange → PastChange → Type 0) (session n : ℕ) (transactions : ℕ → Option Transaction) (p q : PastChange) → (Meet (committed_own session (n + 1) p) (committed_own session (n + 1) q) → Meet p q)
    → InOrderWhere Meet transactions p q → InOrderWhere Meet (with_at session None transactions) (committed_own session (n + 1) p) (committed_own session (n + 1) q)
order_committed Meet session n transactions p q same h live_p live_q meet =
    let live_before_p : is_standing p ≡ true = sym (commit_live session (n + 1) p) ∙ live_p in
    let live_before_q : is_standing q ≡ true = sym (commit_live session (n + 1) q) ∙ live_q in
    let apart = h live_before_p live_before_q (same meet) in
    elim (is_open_change_of session p) as (λ b. is_open_change_of session p ≡ b → is_apart_of (cond b (record p { status = committed (n + 1) }) p) (committed_own session (n + 1) q) ≡ true) [
      | true ↦ λ own_p. elim (is_open_change_of session q) as (λ b. is_open_change_of session q ≡ b → is_apart_of (record p { status = committed (n + 1) }) (cond b (record q { status = committed (n + 1) }) q) ≡ true) [
        | true ↦ λ own_q. both (p.session == q.session) (ap (λ k. k == q.session) (eqb-true p.session session (and_right (is_open p.status) _ own_p)) ∙ swapped (eqb-true q.session session (and_right (is_open q.status) _ own_q))) (nat_lt (n + 1) q.number && is_settled_for (with_at session None transactions q.session) (committed (n + 1)) (committed (n + 1)))
        | false ↦ λ not_q. absurd (first p.status q.status (own_open session p own_p) (eqb-true p.session session (and_right (is_open p.status) _ own_p)) not_q apart)
      ] refl
      | false ↦ λ not_p. elim (is_open_change_of session q) as (λ b. is_open_change_of session q ≡ b → is_apart_of p (cond b (record q { status = committed (n + 1) }) q) ≡ true) [
        | true ↦ λ own_q. second p.status q.status (own_open session q own_q) (eqb-true q.session session (and_right (is_open q.status) _ own_q)) not_p apart
        | false ↦ λ not_q. apart_moved (transactions q.session) (with_at session None transactions q.session) q.number (p.session == q.session) p.status q.status
            (λ opens e. subst (λ u. is_begun_after u p.status ≡ true) (sym (ap (λ b. cond b None (transactions q.session)) (beside (is_open q.status) (q.session == session) opens not_q))) e) apart
      ] refl
    ] refl
  where
    is_apart_of : PastChange → PastChange → Bool
    is_apart_of p q = is_apart_by (with_at session None transactions q.session) q.number (p.session == q.session) p.status q.status

    swapped : {k : ℕ} → k ≡ session → (session == k) ≡ true
    swapped e = ap (λ k. session == k) e ∙ self_equal session

    both : (same : Bool) → same ≡ true → (rest : Bool) → ((same && ((n + 1) == (n + 1))) || rest) ≡ true
    both same e rest = ap (λ b. (b && ((n + 1) == (n + 1))) || rest) e ∙ ap (λ b. b || rest) (self_equal (n + 1))

    beside : (a b : Bool) → a ≡ true → (a && b) ≡ false → b ≡ false
    beside true b e f = f
    beside false b e f = impossible e

    or_none : (a : Bool) → ((a && true) || false) ≡ true → a ≡ true
    or_none true e = refl
    or_none false e = e

    never : (a : Bool) → ((a && false) || false) ≡ true → ⊥
    never true e = impossible e
    never false e = impossible e

    first : (sp sq : Status) → is_open sp ≡ true → p.session ≡ session → (is_open sq && (q.session == session)) ≡ false → is_apart_by (transactions q.session) q.number (p.session == q.session) sp sq ≡ true → ⊥
    first uncommitted uncommitted e of_p not_q apart =
        let same : p.session ≡ q.session = eqb-true p.session q.session (or_none (p.session == q.session) apart) in
        impossible (sym not_q ∙ ap (λ k. k == session) (sym same ∙ of_p) ∙ self_equal session)
    first uncommitted (committed k) e of_p not_q apart = never (p.session == q.session) apart
    first uncommitted undone e of_p not_q apart = never (p.session == q.session) apart
    first (committed k) sq e of_p not_q apart = impossible e
    first undone sq e of_p not_q apart = impossible e

    settled : (a b c : Bool) → ((a && false) || (b && c)) ≡ true → b ≡ true
    settled true b c e = and_left b c e
    settled false b c e = and_left b c e

    second : (sp sq : Status) → is_open sq ≡ true → q.session ≡ session → (is_open sp && (p.session == session)) ≡ false → is_apart_by (transactions q.session) q.number (p.session == q.session) sp sq ≡ true
        → is_apart_by (with_at session None transactions q.session) q.number (p.session == q.session) sp (committed (n + 1)) ≡ true
    second uncommitted uncommitted e of_q not_p apart =
        let same : p.session ≡ q.session = eqb-true p.session q.session (or_none (p.session == q.session) apart) in
        impossible (sym not_p ∙ ap (λ k. k == session) (same ∙ of_q) ∙ self_equal session)
    second (committed k) uncommitted e of_q not_p apart =
        ap (λ b. ((p.session == q.session) && (k == (n + 1))) || (b && true)) (settled (p.session == q.session) (nat_lt k q.number) _ apart) ∙ last ((p.session == q.session) && (k == (n + 1)))
      where
        last : (b : Bool) → (b || true) ≡ true
        last true = refl
        last false = refl
    second undone uncommitted e of_q not_p apart = absurd (never (p.session == q.session) apart)
    second sp (committed k) e of_q not_p apart = impossible e
    second sp undone e of_q not_p apart = impossible e

levels_committed : (session n : ℕ) (p q : PastChange) → LevelsRise p q → LevelsRise (committed_own session n p) (committed_own session n q)
levels_committed session n p q h =
    elim (is_open_change_of session p) as (λ b. LevelsRise (cond b (record p { status = committed n }) p) (committed_own session n q)) [
      | true ↦ λ open_p open_q same. impossible open_p
      | false ↦ elim (is_open_change_of session q) as (λ b. LevelsRise p (cond b (record q { status = committed n }) q)) [
        | true ↦ λ open_p open_q same. impossible open_q
        | false ↦ h
      ]
    ]

placed_committed : (session n : ℕ) (tables after : List Table) (transactions : ℕ → Option Transaction) → map without_rows after ≡ map without_rows tables
    → ((x : ℕ) → IfSome (transactions x) (λ t. t.begin ≤ n)) → (item : PastChange) → IsPlaced n tables transactions item → IsPlaced (n + 1) after (with_at session None transactions) (committed_own session (n + 1) item)
placed_committed session n tables after transactions same begins item h =
    elim (is_open_change_of session item) as (λ b. is_open_change_of session item ≡ b → IsPlaced (n + 1) after (with_at session None transactions) (cond b (record item { status = committed (n + 1) }) item)) [
      | true ↦ λ own. (
        omega (arith, h.0),
        there,
        (
          omega (arith, h.0),
          le_self (n + 1),
          some_at (λ t. n + 1 < t.begin) session None transactions item.session (λ e. tt) (λ e. impossible (sym e ∙ and_right (is_open item.status) _ own)),
          λ x. some_at (λ t. n + 1 ≢ t.begin) session None transactions x (λ e. tt) (λ e. some_map (λ t. t.begin ≤ n) (λ t. n + 1 ≢ t.begin) (λ t le eq. apart n t.begin le eq) (transactions x) (begins x)),
        ),
        h.3,
      )
      | false ↦ λ not_own. (omega (arith, h.0), there, by item.status not_own h.2, h.3)
    ] refl
  where
    there : is_some (table_with_id after (changed_table item.change)) ≡ true
    there = same_there after tables same (changed_table item.change) ∙ h.1

    le_self : (k : ℕ) → k ≤ k
    le_self k = omega arith

    apart : (n b : ℕ) → b ≤ n → n + 1 ≡ b → ⊥
    apart n b le e = omega arith

    by : (s : Status) → (is_open s && (item.session == session)) ≡ false → IsPlacedBy n transactions item s → IsPlacedBy (n + 1) (with_at session None transactions) item s
    by uncommitted other h = subst (IsOpenIn item) (sym (ap (λ b. cond b None (transactions item.session)) other)) h
    by (committed at) other h = (
      h.0,
      omega (arith, h.1),
      some_at (λ t. at < t.begin) session None transactions item.session (λ e. tt) (λ e. h.2),
      λ x. some_at (λ t. at ≢ t.begin) session None transactions x (λ e. tt) (λ e. h.3 x),
    )
    by undone other h = tt

pub keeps_committed : (session n : ℕ) (tables after : List Table) (transactions : ℕ → Option Transaction) (base : Records) (kept : List PastChange)
    → records_of after ≡ records_after_items (λ item. was_committed None item || is_open_change_of session item) base kept → map without_rows after ≡ map without_rows tables
    → KeepsHistory n tables transactions base kept → KeepsHistory (n + 1) after (with_at session None transactions) base (map (committed_own session (n + 1)) kept)
keeps_committed session n tables after transactions base kept made same h = record {
  committed = made ∙ sym (folded-map (was_committed None) (λ item. was_committed None item || is_open_change_of session item) (committed_own session (n + 1)) (commit_change session (n + 1)) kept
      (all_each (λ item. was_committed None (committed_own session (n + 1) item) ≡ (was_committed None item || is_open_change_of session item)) (commit_seen session (n + 1)) kept) base);
  begun = λ x. some_at (IsBegun (n + 1) after base (map (committed_own session (n + 1)) kept)) session None transactions x (λ e. tt)
      (λ e. some_map (IsBegun n tables base kept) (IsBegun (n + 1) after base (map (committed_own session (n + 1)) kept))
      (λ t b. record {
        snapshot = b.snapshot ∙ sym (folded-map (was_committed (Some t)) (was_committed (Some t)) (committed_own session (n + 1)) (commit_change session (n + 1)) kept
            (all_each (λ item. was_committed (Some t) (committed_own session (n + 1) item) ≡ was_committed (Some t) item) (commit_unseen session n t b.begin) kept) base);
        defined = b.defined ∙ sym same;
        begin = omega (arith, b.begin);
        levels = b.levels;
      }) (transactions x) (h.begun x));
  in_order = each_map (IsPlaced n tables transactions) (InOrder transactions) (InOrder (with_at session None transactions)) (committed_own session (n + 1))
      (λ p q pp pq. order_committed (λ p q. collide p.change q.change ≡ true) session n transactions p q
      (λ hit. ap (λ c. collide c q.change) (sym (commit_change session (n + 1) p)) ∙ ap (collide (committed_own session (n + 1) p).change) (sym (commit_change session (n + 1) q)) ∙ hit)) kept h.placed h.in_order;
  numbers = each_map (λ item. Unit {0}) NumbersRise NumbersRise (committed_own session (n + 1)) (λ p q x y lt. subst (λ (a : ℕ). a < (committed_own session (n + 1) q).number) (sym (commit_number session (n + 1) p)) (subst (λ (b : ℕ). p.number < b) (sym (commit_number session (n + 1) q)) lt)) kept (all_each (λ item. Unit {0}) (λ item. tt) kept) h.numbers;
  levels = each_map (λ item. Unit {0}) LevelsRise LevelsRise (committed_own session (n + 1)) (λ p q x y. levels_committed session (n + 1) p q) kept (all_each (λ item. Unit {0}) (λ item. tt) kept) h.levels;
  befores = befores-map (committed_own session (n + 1)) (commit_change session (n + 1)) (commit_before session (n + 1)) (commit_live session (n + 1)) kept base h.befores;
  placed = all_map (IsPlaced (n + 1) after (with_at session None transactions)) (committed_own session (n + 1)) kept
      (all_weaker (IsPlaced n tables transactions) (λ item. IsPlaced (n + 1) after (with_at session None transactions) (committed_own session (n + 1) item))
      (placed_committed session n tables after transactions same (λ x. some_map (IsBegun n tables base kept) (λ t. t.begin ≤ n) (λ t b. b.begin) (transactions x) (h.begun x))) kept h.placed);
}

-- ---- a level released

pub lowered : (P : PastChange → Type 0) (session level : ℕ) (item : PastChange) → P (record item { level = item.level - 1 }) → P item → P (lowered_own session level item)
lowered P session level item f g = elim (is_open_change_of session item && (item.level == level)) as (λ b. P (cond b (record item { level = item.level - 1 }) item)) [ true ↦ f | false ↦ g ]

pub lower_change : (session level : ℕ) (item : PastChange) → (lowered_own session level item).change ≡ item.change
lower_change session level item = lowered (λ i. i.change ≡ item.change) session level item refl refl

pub lower_before : (session level : ℕ) (item : PastChange) → (lowered_own session level item).before ≡ item.before
lower_before session level item = lowered (λ i. i.before ≡ item.before) session level item refl refl

lower_number : (session level : ℕ) (item : PastChange) → (lowered_own session level item).number ≡ item.number
lower_number session level item = lowered (λ i. i.number ≡ item.number) session level item refl refl

pub lower_status : (session level : ℕ) (item : PastChange) → (lowered_own session level item).status ≡ item.status
lower_status session level item = lowered (λ i. i.status ≡ item.status) session level item refl refl

order_lowered : (transactions : ℕ → Option Transaction) (session level : ℕ) (p q : PastChange) → InOrder transactions p q → InOrder transactions (lowered_own session level p) (lowered_own session level q)
order_lowered transactions session level p q h =
    lowered (λ i. InOrder transactions i (lowered_own session level q)) session level p
    (lowered (λ i. InOrder transactions (record p { level = p.level - 1 }) i) session level q h h)
    (lowered (λ i. InOrder transactions p i) session level q h h)

levels_lowered : (session level : ℕ) (p q : PastChange) → LevelsRise p q → (is_open_change_of session q ≡ true → q.level ≤ level) → LevelsRise (lowered_own session level p) (lowered_own session level q)
levels_lowered session level p q h most =
    elim (is_open_change_of session p && (p.level == level)) as (λ b. (is_open_change_of session p && (p.level == level)) ≡ b → LevelsRise (cond b (record p { level = p.level - 1 }) p) (lowered_own session level q)) [
      | true ↦ λ low_p. elim (is_open_change_of session q && (q.level == level)) as (λ b. LevelsRise (record p { level = p.level - 1 }) (cond b (record q { level = q.level - 1 }) q)) [
        | true ↦ λ open_p open_q same. less_both p.level q.level (h open_p open_q same)
        | false ↦ λ open_p open_q same. less_left p.level q.level (h open_p open_q same)
      ]
      | false ↦ λ not_p. elim (is_open_change_of session q && (q.level == level)) as (λ b. (is_open_change_of session q && (q.level == level)) ≡ b → LevelsRise p (cond b (record q { level = q.level - 1 }) q)) [
        | true ↦ λ low_q open_p open_q same.
            let own_q : is_open_change_of session q ≡ true = and_left _ _ low_q in
            let own_p : is_open_change_of session p ≡ true = and_from _ _ open_p (ap (λ k. k == session) same ∙ and_right (is_open q.status) _ own_q) in
            let at_level : q.level ≡ level = eqb-true q.level level (and_right (is_open_change_of session q) _ low_q) in
            below p.level q.level level (h open_p open_q same) at_level (beside (is_open_change_of session p) (p.level == level) own_p not_p)
        | false ↦ λ not_q. h
      ] refl
    ] refl
  where
    less_both : (a b : ℕ) → a ≤ b → a - 1 ≤ b - 1
    less_both a b le = omega arith

    less_left : (a b : ℕ) → a ≤ b → a - 1 ≤ b
    less_left a b le = omega arith

    below : (a b c : ℕ) → a ≤ b → b ≡ c → (a == c) ≡ false → a ≤ b - 1
    below a b c le e ne = grind (arith, nat_tests)

    beside : (a b : Bool) → a ≡ true → (a && b) ≡ false → b ≡ false
    beside true b e f = f
    beside false b e f = impossible e

placed_lowered : (n : ℕ) (tables : List Table) (transactions : ℕ → Option Transaction) (session level : ℕ) → 2 ≤ level → (item : PastChange) → IsPlaced n tables transactions item → IsPlaced n tables transactions (lowered_own session level item)
placed_lowered n tables transactions session level two item h =
    elim (is_open_change_of session item && (item.level == level)) as (λ b. (is_open_change_of session item && (item.level == level)) ≡ b → IsPlaced n tables transactions (cond b (record item { level = item.level - 1 }) item)) [
      | true ↦ λ low. (h.0, h.1, by item.status (eqb-true item.level level (and_right (is_open_change_of session item) _ low)) h.2, h.3)
      | false ↦ λ e. h
    ] refl
  where
    inside : (t : Option Transaction) → item.level ≡ level → IsOpenIn item t → IsOpenIn (record item { level = item.level - 1 }) t
    inside None e h = h
    inside (Some t) e h = (h.0, omega (arith, two, e), omega (arith, h.2))

    by : (s : Status) → item.level ≡ level → IsPlacedBy n transactions item s → IsPlacedBy n transactions (record item { level = item.level - 1 }) s
    by uncommitted e h = inside (transactions item.session) e h
    by (committed at) e h = h
    by undone e h = h

pub keeps_lowered : (n : ℕ) (tables : List Table) (transactions : ℕ → Option Transaction) (base : Records) (kept : List PastChange) (session : ℕ) (t : Transaction) → transactions session ≡ Some t → 2 ≤ t.levels
    → KeepsHistory n tables transactions base kept → KeepsHistory n tables transactions base (map (lowered_own session t.levels) kept)
keeps_lowered n tables transactions base kept session t e two h = record {
  committed = h.committed ∙ same None;
  begun = λ x. some_map (IsBegun n tables base kept) (IsBegun n tables base (map (lowered_own session t.levels) kept)) (λ u b. record { snapshot = b.snapshot ∙ same (Some u); defined = b.defined; begin = b.begin; levels = b.levels }) (transactions x) (h.begun x);
  in_order = each_map (λ item. Unit {0}) (InOrder transactions) (InOrder transactions) (lowered_own session t.levels) (λ p q x y. order_lowered transactions session t.levels p q) kept (all_each (λ item. Unit {0}) (λ item. tt) kept) h.in_order;
  numbers = each_map (λ item. Unit {0}) NumbersRise NumbersRise (lowered_own session t.levels) (λ p q x y lt. subst (λ (a : ℕ). a < (lowered_own session t.levels q).number) (sym (lower_number session t.levels p)) (subst (λ (b : ℕ). p.number < b) (sym (lower_number session t.levels q)) lt)) kept (all_each (λ item. Unit {0}) (λ item. tt) kept) h.numbers;
  levels = each_map (IsPlaced n tables transactions) LevelsRise LevelsRise (lowered_own session t.levels) (λ p q pp pq rise. levels_lowered session t.levels p q rise (most q pq)) kept h.placed h.levels;
  befores = befores-map (lowered_own session t.levels) (lower_change session t.levels) (lower_before session t.levels) (λ item. ap (λ s. not (is_undone s)) (lower_status session t.levels item)) kept base h.befores;
  placed = all_map (IsPlaced n tables transactions) (lowered_own session t.levels) kept (all_weaker (IsPlaced n tables transactions) (λ item. IsPlaced n tables transactions (lowered_own session t.levels item)) (placed_lowered n tables transactions session t.levels two) kept h.placed);
}
  where
    same : (u : Option Transaction) → records_after_items (was_committed u) base kept ≡ records_after_items (was_committed u) base (map (lowered_own session t.levels) kept)
    same u = sym (folded-map (was_committed u) (was_committed u) (lowered_own session t.levels) (lower_change session t.levels) kept
        (all_each (λ item. was_committed u (lowered_own session t.levels item) ≡ was_committed u item) (λ item. ap (was_committed_status u) (lower_status session t.levels item)) kept) base)

    most : (q : PastChange) → IsPlaced n tables transactions q → is_open_change_of session q ≡ true → q.level ≤ t.levels
    most q placed own = by q.status (and_left _ _ own) placed.2
      where
        by : (s : Status) → is_open s ≡ true → IsPlacedBy n transactions q s → q.level ≤ t.levels
        by uncommitted o h = (subst (IsOpenIn q) (ap transactions (eqb-true q.session session (and_right (is_open q.status) _ own)) ∙ e) h).2
        by (committed k) o h = impossible o
        by undone o h = impossible o

-- ---- the oldest change forgotten

-- every reader sees it, or no one does
settled_seen : (n : ℕ) (transactions : ℕ → Option Transaction) (s : Status) → IsPassedBy n transactions s → (x : ℕ) (t : Transaction) → transactions x ≡ Some t → was_committed_status (Some t) s ≡ not (is_undone s)
settled_seen n transactions uncommitted h x t e = absurd h
settled_seen n transactions (committed at) h x t e = past at t.begin (subst (λ u. IfSome u (λ t. at < t.begin)) e (h.1 x))
  where
    past : (a b : ℕ) → a < b → not (nat_lt b a) ≡ true
    past a b lt = grind (arith, nat_tests)
settled_seen n transactions undone h x t e = refl

settled_none : (n : ℕ) (transactions : ℕ → Option Transaction) (s : Status) → IsPassedBy n transactions s → was_committed_status None s ≡ not (is_undone s)
settled_none n transactions uncommitted h = absurd h
settled_none n transactions (committed at) h = refl
settled_none n transactions undone h = refl

pub keeps_cleaned : (n : ℕ) (tables : List Table) (transactions : ℕ → Option Transaction) (base : Records) (item : PastChange) (kept : List PastChange) → IsPassed n transactions item
    → KeepsHistory n tables transactions base (item ∷ kept) → KeepsHistory n tables transactions (if is_standing item then after_item base item else base) kept
keeps_cleaned n tables transactions base item kept passed h = record {
  committed = h.committed ∙ same None (settled_none n transactions item.status passed);
  begun = λ x. by_some x (transactions x) refl (h.begun x);
  in_order = h.in_order.1;
  numbers = h.numbers.1;
  levels = h.levels.1;
  befores = h.befores.1;
  placed = h.placed.1;
}
  where
    same : (u : Option Transaction) → was_committed u item ≡ is_standing item → records_after_items (was_committed u) base (item ∷ kept) ≡ records_after_items (was_committed u) (cond (is_standing item) (after_item base item) base) kept
    same u e = folded-cons (was_committed u) base item kept ∙ ap (λ b. records_after_items (was_committed u) (cond b (after_item base item) base) kept) e

    by_some : (x : ℕ) (t : Option Transaction) → transactions x ≡ t → IfSome t (IsBegun n tables base (item ∷ kept)) → IfSome t (IsBegun n tables (cond (is_standing item) (after_item base item) base) kept)
    by_some x None e b = tt
    by_some x (Some t) e b = record { snapshot = b.snapshot ∙ same (Some t) (settled_seen n transactions item.status passed x t e); defined = b.defined; begin = b.begin; levels = b.levels }
