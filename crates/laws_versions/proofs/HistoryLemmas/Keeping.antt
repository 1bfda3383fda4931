-- What keeps the history of the changes that are kept.
use Rattle.std.proofs.Common.{◌≡◌, ◌≢◌, ℕ, ◌+◌, ◌<◌, ◌≤◌, Bool, true, false, not, ◌&&◌, ◌||◌, cond, List, ◌∷◌, ◌++◌, [], Option, Some, None, refl, sym, ap, subst, ◌∙◌, arith}
use Rattle.std.specs.Prelude.{◌==◌, nat_lt, map, IfSome, if◌then◌else◌}
use Rattle.std.specs.List.{AllByRecursion}
use Rattle.std.proofs.lemmas.Bool.{and_from, eqb-true}
use Rattle.common_lemmas.proofs.Booleans.{and_left, and_right, impossible}
use Rattle.common_lemmas.proofs.Lists.{all_each, all_map, all_weaker}
use Rattle.common_lemmas.proofs.Numbers.{self_equal}
use Rattle.database_state.specs.Table.{Table}
use Rattle.database_state.specs.State.{PastChange, Transaction, Status, uncommitted, committed, undone, is_open, is_undone, is_open_change_of}
use Rattle.database_state.specs.Conflicts.{collide}
use Rattle.laws_versions.specs.Records.{Records, records_after_items, records_of}
use Rattle.laws_versions.proofs.ChangeLemmas.Folds.{folded-map}
use Rattle.laws_versions.proofs.ChangeLemmas.Tests.{contradicted}
use Rattle.laws_versions.specs.History.{EachTwo, InOrder, IsBegun, IsOpenIn, IsPassed, IsPassedBy, IsPlaced, IsPlacedBy, InOrderWhere, KeepsHistory, LevelsRise, NumbersRise, is_apart_by, is_begun_after, is_committed_before, is_same_status, without_rows}
use Rattle.laws_versions.specs.KeptSteps.{is_own_open, undone_where}
use Rattle.laws_versions.specs.Readers.{is_standing, was_committed, was_committed_status}
use Rattle.laws_versions.proofs.HistoryLemmas.Befores.{GoesApart, at, befores-undo}
use Rattle.laws_versions.proofs.HistoryLemmas.Lists.{all_both, each_and, each_both, each_map}

-- ---- tests

pub some_map : {X : Type 0} (P Q : X → Type 0) → ((x : X) → P x → Q x) → (o : Option X) → IfSome o P → IfSome o Q
some_map P Q f None h = tt
some_map P Q f (Some x) h = f x h

-- ---- the transactions, but for one session's

abbrev pub with_at : ℕ → Option Transaction → (ℕ → Option Transaction) → ℕ → Option Transaction
with_at label t transactions session = if session == label then t else transactions session

pub some_at : (P : Transaction → Type 0) (label : ℕ) (t : Option Transaction) (transactions : ℕ → Option Transaction) (x : ℕ) → ((x == label) ≡ true → IfSome t P) → ((x == label) ≡ false → IfSome (transactions x) P) → IfSome (with_at label t transactions x) P
some_at P label t transactions x f g =
    elim (x == label) as (λ b. (x == label) ≡ b → IfSome (cond b t (transactions x)) P) [ true ↦ f | false ↦ g ] refl

-- ---- a later number

placed_later : (n : ℕ) (tables : List Table) (transactions : ℕ → Option Transaction) (item : PastChange) → IsPlaced n tables transactions item → IsPlaced (n + 1) tables transactions item
placed_later n tables transactions item h = (more item.number n h.0, h.1, by item.status h.2, h.3)
  where
    more : (a b : ℕ) → a ≤ b → a ≤ b + 1
    more a b le = omega arith

    by : (s : Status) → IsPlacedBy n transactions item s → IsPlacedBy (n + 1) transactions item s
    by uncommitted h = h
    by (committed at) h = (h.0, more at n h.1, h.2, h.3)
    by undone h = h

pub keeps_later : (n : ℕ) (tables : List Table) (transactions : ℕ → Option Transaction) (base : Records) (kept : List PastChange) → KeepsHistory n tables transactions base kept → KeepsHistory (n + 1) tables transactions base kept
keeps_later n tables transactions base kept h = record {
  committed = h.committed;
  begun = λ session. some_map (IsBegun n tables base kept) (IsBegun (n + 1) tables base kept) (λ t b. record { snapshot = b.snapshot; defined = b.defined; begin = omega (arith, b.begin); levels = b.levels }) (transactions session) (h.begun session);
  in_order = h.in_order;
  numbers = h.numbers;
  levels = h.levels;
  befores = h.befores;
  placed = all_weaker (IsPlaced n tables transactions) (IsPlaced (n + 1) tables transactions) (placed_later n tables transactions) kept h.placed;
}

passed_by_later : (n : ℕ) (transactions : ℕ → Option Transaction) (s : Status) → IsPassedBy n transactions s → IsPassedBy (n + 1) transactions s
passed_by_later n transactions uncommitted h = h
passed_by_later n transactions (committed at) h = (omega (arith, h.0), h.1)
passed_by_later n transactions undone h = h

pub passed_later : (n : ℕ) (transactions : ℕ → Option Transaction) (items : List PastChange) → AllByRecursion (IsPassed n transactions) items → AllByRecursion (IsPassed (n + 1) transactions) items
passed_later n transactions items h = all_weaker (IsPassed n transactions) (IsPassed (n + 1) transactions) (λ item. passed_by_later n transactions item.status) items h

-- ---- transactions that end, or change their levels

abbrev pub Follows : Option Transaction → Option Transaction → Type 0
Follows t None = Unit {0}
Follows None (Some u) = ⊥
Follows (Some t) (Some u) = (u.begin ≡ t.begin) × (u.snapshot ≡ t.snapshot) × (1 ≤ u.levels)

begun_moved : (t u : Option Transaction) (s : Status) → Follows t u → (u ≡ None → ⊥) → is_begun_after t s ≡ true → is_begun_after u s ≡ true
begun_moved t None s f some h = absurd (some refl)
begun_moved None (Some u) s f some h = absurd f
begun_moved (Some t) (Some u) s f some h = subst (λ (n : ℕ). is_committed_before n s ≡ true) (sym f.0) h

or_and : (a b c d : Bool) → (c ≡ true → d ≡ true) → (a || (b && c)) ≡ true → (a || (b && d)) ≡ true
or_and true b c d f h = refl
or_and false true c d f h = f h
or_and false false c d f h = h

pub apart_moved : (t u : Option Transaction) (number : ℕ) (same : Bool) (earlier later : Status) → (is_open later ≡ true → is_begun_after t earlier ≡ true → is_begun_after u earlier ≡ true)
    → is_apart_by t number same earlier later ≡ true → is_apart_by u number same earlier later ≡ true
apart_moved t u number same earlier uncommitted f h = or_and (same && is_same_status earlier uncommitted) (is_committed_before number earlier) (is_begun_after t earlier) (is_begun_after u earlier) (f refl) h
apart_moved t u number same earlier (committed n) f h = h
apart_moved t u number same earlier undone f h = h

pub open_in : (n : ℕ) (transactions : ℕ → Option Transaction) (item : PastChange) (s : Status) → is_open s ≡ true → IsPlacedBy n transactions item s → IsOpenIn item (transactions item.session)
open_in n transactions item uncommitted e h = h
open_in n transactions item (committed m) e h = impossible e
open_in n transactions item undone e h = impossible e

not_none : (item : PastChange) (t : Option Transaction) → IsOpenIn item t → t ≡ None → ⊥
not_none item t h e = subst (IsOpenIn item) e h

-- open changes stay inside their transactions
abbrev pub StaysOpen : (ℕ → Option Transaction) → PastChange → Type 0
StaysOpen transactions item = is_open item.status ≡ true → IsOpenIn item (transactions item.session)

followed_some : (P : ℕ → Type 0) (t u : Option Transaction) → Follows t u → IfSome t (λ x. P x.begin) → IfSome u (λ x. P x.begin)
followed_some P t None f h = tt
followed_some P None (Some u) f h = absurd f
followed_some P (Some t) (Some u) f h = subst P (sym f.0) h

begun_followed : (n : ℕ) (tables : List Table) (base : Records) (kept : List PastChange) (t u : Option Transaction) → Follows t u → IfSome t (IsBegun n tables base kept) → IfSome u (IsBegun n tables base kept)
begun_followed n tables base kept t None f h = tt
begun_followed n tables base kept None (Some u) f h = absurd f
begun_followed n tables base kept (Some t) (Some u) f h = record {
  snapshot = ap records_of f.1 ∙ h.snapshot ∙ ap (λ test. records_after_items test base kept) (λ i (item : PastChange). same item.status i);
  defined = ap (map without_rows) f.1 ∙ h.defined;
  begin = subst (λ (k : ℕ). k ≤ n) (sym f.0) h.begin;
  levels = f.2;
}
  where
    same : (s : Status) → was_committed_status (Some t) s ≡ was_committed_status (Some u) s
    same uncommitted = refl
    same (committed m) = ap (λ (k : ℕ). not (nat_lt k m)) (sym f.0)
    same undone = refl

placed_followed : (n : ℕ) (tables : List Table) (one other : ℕ → Option Transaction) → ((x : ℕ) → Follows (one x) (other x)) → (item : PastChange) → StaysOpen other item → IsPlaced n tables one item → IsPlaced n tables other item
placed_followed n tables one other follows item stays h = (h.0, h.1, by item.status stays h.2, h.3)
  where
    by : (s : Status) → (is_open s ≡ true → IsOpenIn item (other item.session)) → IsPlacedBy n one item s → IsPlacedBy n other item s
    by uncommitted stays h = stays refl
    by (committed at) stays h = (
      h.0,
      h.1,
      followed_some (λ k. at < k) (one item.session) (other item.session) (follows item.session) h.2,
      λ x. followed_some (λ k. at ≢ k) (one x) (other x) (follows x) (h.3 x),
    )
    by undone stays h = h

-- the order of two that meet in some way
pub order_followed : (Meet : PastChange → PastChange → Type 0) (one other : ℕ → Option Transaction) → ((x : ℕ) → Follows (one x) (other x)) → (p q : PastChange) → StaysOpen other q → InOrderWhere Meet one p q → InOrderWhere Meet other p q
order_followed Meet one other follows p q stays order live_p live_q meet =
    apart_moved (one q.session) (other q.session) q.number (p.session == q.session) p.status q.status
    (λ e. begun_moved (one q.session) (other q.session) p.status (follows q.session) (not_none q (other q.session) (stays e))) (order live_p live_q meet)

pub keeps_followed : (n : ℕ) (tables : List Table) (one other : ℕ → Option Transaction) (base : Records) (kept : List PastChange) → ((x : ℕ) → Follows (one x) (other x)) → AllByRecursion (StaysOpen other) kept
    → KeepsHistory n tables one base kept → KeepsHistory n tables other base kept
keeps_followed n tables one other base kept follows stays h = record {
  committed = h.committed;
  begun = λ x. begun_followed n tables base kept (one x) (other x) (follows x) (h.begun x);
  in_order = each_both (StaysOpen other) (InOrder one) (InOrder other)
      (λ p q sp sq. order_followed (λ p q. collide p.change q.change ≡ true) one other follows p q sq) kept stays h.in_order;
  numbers = h.numbers;
  levels = h.levels;
  befores = h.befores;
  placed = all_both (StaysOpen other) (IsPlaced n tables one) (IsPlaced n tables other) (placed_followed n tables one other follows) kept stays h.placed;
}

pub passed_followed : (n : ℕ) (one other : ℕ → Option Transaction) → ((x : ℕ) → Follows (one x) (other x)) → (items : List PastChange) → AllByRecursion (IsPassed n one) items → AllByRecursion (IsPassed n other) items
passed_followed n one other follows items h = all_weaker (IsPassed n one) (IsPassed n other) (λ item. by item.status) items h
  where
    by : (s : Status) → IsPassedBy n one s → IsPassedBy n other s
    by uncommitted h = h
    by (committed at) h = (h.0, λ x. followed_some (λ k. at < k) (one x) (other x) (follows x) (h.1 x))
    by undone h = h

-- ---- changes undone

undone_committed : (t : Option Transaction) (gone : PastChange → Bool) → ((item : PastChange) → gone item ≡ true → is_open item.status ≡ true) → (item : PastChange) → was_committed t (undone_where gone item) ≡ was_committed t item
undone_committed t gone opens item =
    elim (gone item) as (λ b. gone item ≡ b → was_committed t (cond b (record item { status = undone }) item) ≡ was_committed t item) [
      | true ↦ λ e. by item.status (opens item e)
      | false ↦ λ e. refl
    ] refl
  where
    by : (s : Status) → is_open s ≡ true → false ≡ was_committed_status t s
    by uncommitted e = refl
    by (committed n) e = impossible e
    by undone e = refl

pub undone_change : (gone : PastChange → Bool) (item : PastChange) → (undone_where gone item).change ≡ item.change
undone_change gone item = elim (gone item) as (λ b. (cond b (record item { status = undone }) item).change ≡ item.change) [ true ↦ refl | false ↦ refl ]

undone_number : (gone : PastChange → Bool) (item : PastChange) → (undone_where gone item).number ≡ item.number
undone_number gone item = elim (gone item) as (λ b. (cond b (record item { status = undone }) item).number ≡ item.number) [ true ↦ refl | false ↦ refl ]

pub open_live : (s : Status) → is_open s ≡ true → not (is_undone s) ≡ true
open_live uncommitted e = refl
open_live (committed n) e = refl
open_live undone e = impossible e

pub order_undone : (Meet : PastChange → PastChange → Type 0) (transactions : ℕ → Option Transaction) (gone : PastChange → Bool) (p q : PastChange) → InOrderWhere Meet transactions p q → InOrderWhere Meet transactions (undone_where gone p) (undone_where gone q)
order_undone Meet transactions gone p q h =
    elim (gone p) as (λ b. InOrderWhere Meet transactions (cond b (record p { status = undone }) p) (undone_where gone q)) [
      | true ↦ λ live_p live_q hit. impossible live_p
      | false ↦ elim (gone q) as (λ b. InOrderWhere Meet transactions p (cond b (record q { status = undone }) q)) [
        | true ↦ λ live_p live_q hit. impossible live_q
        | false ↦ h
      ]
    ]

levels_undone : (gone : PastChange → Bool) (p q : PastChange) → LevelsRise p q → LevelsRise (undone_where gone p) (undone_where gone q)
levels_undone gone p q h =
    elim (gone p) as (λ b. LevelsRise (cond b (record p { status = undone }) p) (undone_where gone q)) [
      | true ↦ λ open_p open_q same. impossible open_p
      | false ↦ elim (gone q) as (λ b. LevelsRise p (cond b (record q { status = undone }) q)) [
        | true ↦ λ open_p open_q same. impossible open_q
        | false ↦ h
      ]
    ]

placed_undone : (n : ℕ) (tables : List Table) (transactions : ℕ → Option Transaction) (gone : PastChange → Bool) (item : PastChange) → IsPlaced n tables transactions item → IsPlaced n tables transactions (undone_where gone item)
placed_undone n tables transactions gone item h = elim (gone item) as (λ b. IsPlaced n tables transactions (cond b (record item { status = undone }) item)) [ true ↦ (h.0, h.1, tt, h.3) | false ↦ h ]

pub keeps_undone : (n : ℕ) (tables : List Table) (transactions : ℕ → Option Transaction) (base : Records) (kept : List PastChange) (gone : PastChange → Bool) → ((item : PastChange) → gone item ≡ true → is_open item.status ≡ true)
    → EachTwo (GoesApart gone) kept → KeepsHistory n tables transactions base kept → KeepsHistory n tables transactions base (map (undone_where gone) kept)
keeps_undone n tables transactions base kept gone opens apart h = record {
  committed = h.committed ∙ same None;
  begun = λ x. some_map (IsBegun n tables base kept) (IsBegun n tables base (map (undone_where gone) kept)) (λ t b. record { snapshot = b.snapshot ∙ same (Some t); defined = b.defined; begin = b.begin; levels = b.levels }) (transactions x) (h.begun x);
  in_order = each_map (λ item. Unit {0}) (InOrder transactions) (InOrder transactions) (undone_where gone) (λ p q x y. order_undone (λ p q. collide p.change q.change ≡ true) transactions gone p q) kept (all_each (λ item. Unit {0}) (λ item. tt) kept) h.in_order;
  numbers = each_map (λ item. Unit {0}) NumbersRise NumbersRise (undone_where gone) (λ p q x y lt. subst (λ (a : ℕ). a < (undone_where gone q).number) (sym (undone_number gone p)) (subst (λ (b : ℕ). p.number < b) (sym (undone_number gone q)) lt)) kept (all_each (λ item. Unit {0}) (λ item. tt) kept) h.numbers;
  levels = each_map (λ item. Unit {0}) LevelsRise LevelsRise (undone_where gone) (λ p q x y. levels_undone gone p q) kept (all_each (λ item. Unit {0}) (λ item. tt) kept) h.levels;
  befores = befores-undo gone (λ item e. open_live item.status (opens item e)) kept base h.befores apart;
  placed = all_map (IsPlaced n tables transactions) (undone_where gone) kept (all_weaker (IsPlaced n tables transactions) (λ item. IsPlaced n tables transactions (undone_where gone item)) (placed_undone n tables transactions gone) kept h.placed);
}
  where
    same : (t : Option Transaction) → records_after_items (was_committed t) base kept ≡ records_after_items (was_committed t) base (map (undone_where gone) kept)
    same t = sym (folded-map (was_committed t) (was_committed t) (undone_where gone) (undone_change gone) kept (all_each (λ item. was_committed t (undone_where gone item) ≡ was_committed t item) (undone_committed t gone opens) kept) base)

-- whoever collides with an open change of the session behind it is one too
pub also_open : (transactions : ℕ → Option Transaction) (session : ℕ) (p q : PastChange) (sp sq : Status) → is_open sp ≡ true → p.session ≡ session → is_apart_by (transactions q.session) q.number (p.session == q.session) sp sq ≡ true
    → (is_open sq && (q.session == session)) ≡ true
also_open transactions session p q uncommitted uncommitted e of_p apart =
    let same : p.session ≡ q.session = eqb-true p.session q.session (or_none (p.session == q.session) apart) in
    ap (λ k. k == session) (sym same ∙ of_p) ∙ self_equal session
  where
    or_none : (a : Bool) → ((a && true) || false) ≡ true → a ≡ true
    or_none true e = refl
    or_none false e = e
also_open transactions session p q uncommitted (committed k) e of_p apart = impossible (sym (none (p.session == q.session)) ∙ apart)
  where
    none : (a : Bool) → ((a && false) || false) ≡ false
    none true = refl
    none false = refl
also_open transactions session p q uncommitted undone e of_p apart = impossible (sym (none (p.session == q.session)) ∙ apart)
  where
    none : (a : Bool) → ((a && false) || false) ≡ false
    none true = refl
    none false = refl
also_open transactions session p q (committed k) sq e of_p apart = impossible e
also_open transactions session p q undone sq e of_p apart = impossible e

-- the open changes of a session that pass a test collide with none that stays behind them
pub goes_apart : (n : ℕ) (tables : List Table) (transactions : ℕ → Option Transaction) (base : Records) (kept : List PastChange) (session : ℕ) (test : PastChange → Bool) (Each : PastChange → Type 0) → AllByRecursion Each kept
    → ((p q : PastChange) → (is_open_change_of session p && test p) ≡ true → is_open_change_of session q ≡ true → IsPlaced n tables transactions q → Each q → LevelsRise p q → NumbersRise p q → test q ≡ true)
    → KeepsHistory n tables transactions base kept → EachTwo (GoesApart (λ item. is_open_change_of session item && test item)) kept
goes_apart n tables transactions base kept session test Each every next h =
    each_both (λ q. IsPlaced n tables transactions q × Each q) (λ p q. InOrder transactions p q × (LevelsRise p q × NumbersRise p q)) (GoesApart (λ item. is_open_change_of session item && test item))
    (λ p q pp pq r goes live stays. contradicted (collide p.change q.change) (λ hit.
    let own : is_open_change_of session p ≡ true = and_left _ _ goes in
    let open_p : is_open p.status ≡ true = and_left _ _ own in
    let of_p : p.session ≡ session = eqb-true p.session session (and_right (is_open p.status) _ own) in
    let apart = r.0 (open_live p.status open_p) live hit in
    let also : is_open_change_of session q ≡ true = also_open transactions session p q p.status q.status open_p of_p apart in
    sym (and_from _ _ also (next p q goes also pq.0 pq.1 r.1.0 r.1.1)) ∙ stays))
    kept (all_both (IsPlaced n tables transactions) Each (λ q. IsPlaced n tables transactions q × Each q) (λ q a b. (a, b)) kept h.placed every) (each_and (InOrder transactions) (λ p q. LevelsRise p q × NumbersRise p q) kept h.in_order (each_and LevelsRise NumbersRise kept h.levels h.numbers))

goes_apart_last : (n : ℕ) (tables : List Table) (transactions : ℕ → Option Transaction) (base : Records) (kept : List PastChange) (session last : ℕ) → AllByRecursion (λ q. is_open_change_of session q ≡ true → q.number ≤ last) kept
    → KeepsHistory n tables transactions base kept → EachTwo (GoesApart (is_own_open session (λ item. item.number == last))) kept
goes_apart_last n tables transactions base kept session last most h =
    goes_apart n tables transactions base kept session (λ item. item.number == last) (λ q. is_open_change_of session q ≡ true → q.number ≤ last) most
    (λ p q goes also placed le rise less. absurd (past p.number q.number last (eqb-true p.number last (and_right (is_open_change_of session p) _ goes)) less (le also))) h
  where
    past : (a b k : ℕ) → a ≡ k → a < b → b ≤ k → ⊥
    past a b k e lt le = omega arith

-- The newest open change of a session undone alone: an undo of a level goes one by one.
pub keeps_undone_last : (n : ℕ) (tables : List Table) (transactions : ℕ → Option Transaction) (base : Records) (kept : List PastChange) (session last : ℕ) → AllByRecursion (λ q. is_open_change_of session q ≡ true → q.number ≤ last) kept
    → KeepsHistory n tables transactions base kept → KeepsHistory n tables transactions base (map (undone_where (is_own_open session (λ item. item.number == last))) kept)
keeps_undone_last n tables transactions base kept session last most h =
    keeps_undone n tables transactions base kept (is_own_open session (λ item. item.number == last)) (λ item e. and_left (is_open item.status) _ (and_left _ _ e))
    (goes_apart_last n tables transactions base kept session last most h) h

-- what stands behind the newest open change of a session does not collide with it
pub newest_apart : (n : ℕ) (tables : List Table) (transactions : ℕ → Option Transaction) (base : Records) (front : List PastChange) (item : PastChange) (rest : List PastChange) (session : ℕ)
    → KeepsHistory n tables transactions base (front ++ item ∷ rest) → is_open_change_of session item ≡ true → AllByRecursion (λ later. is_open_change_of session later ≡ false) rest
    → AllByRecursion (λ later. is_standing later ≡ true → collide item.change later.change ≡ false) rest
newest_apart n tables transactions base front item rest session h own none =
    all_both (λ later. is_open_change_of session later ≡ false) (InOrder transactions item) (λ later. is_standing later ≡ true → collide item.change later.change ≡ false)
    (λ later off order live. contradicted (collide item.change later.change) (λ hit.
    sym (also_open transactions session item later item.status later.status (and_left _ _ own) (eqb-true item.session session (and_right (is_open item.status) _ own)) (order (open_live item.status (and_left _ _ own)) live hit)) ∙ off))
    rest none (back front h.in_order).0
  where
    back : (xs : List PastChange) → EachTwo (InOrder transactions) (xs ++ item ∷ rest) → EachTwo (InOrder transactions) (item ∷ rest)
    back [] order = order
    back (x ∷ xs) order = back xs order.1
