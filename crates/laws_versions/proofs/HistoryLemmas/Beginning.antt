-- What a begin, a change, a commit and the end of a level do to the changes that are kept.
use Rattle.std.proofs.Common.{◌≡◌, ◌≢◌, ℕ, ◌+◌, ◌<◌, ◌≤◌, Bool, true, false, not, ◌&&◌, ◌||◌, cond, List, [], ◌∷◌, ◌++◌, Option, Some, None, refl, sym, ap, subst, ◌∙◌, arith}
use Rattle.std.specs.Prelude.{◌==◌, nat_lt, is_some, IfSome}
use Rattle.std.specs.List.{AllByRecursion}
use Rattle.std.proofs.lemmas.Bool.Decides.{nat_tests}
use Rattle.std.proofs.lemmas.Bool.{eqb-true}
use Rattle.common_lemmas.proofs.Lists.{all_append, all_weaker}
use Rattle.common_lemmas.proofs.Booleans.{impossible}
use Rattle.database_state.specs.Table.{Table, table_with_id}
use Rattle.database_state.specs.Changes.{is_sum}
use Rattle.column_set.specs.ChangedRecords.{changed_table}
use Rattle.database_state.specs.State.{PastChange, Transaction, Status, uncommitted, committed, undone, is_open, is_undone}
use Rattle.database_state.specs.Conflicts.{collide, is_concurrent, is_concurrent_status}
use Rattle.laws_versions.specs.Records.{Records, after_item, record_after, records_after_items}
use Rattle.laws_versions.proofs.ChangeLemmas.Folds.{folded-append, folded-same}
use Rattle.laws_versions.specs.History.{InOrder, InOrderWhere, IsBegun, IsOpenIn, IsPassed, IsPassedBy, IsPlaced, IsPlacedBy, KeepsHistory, LevelsRise, NumbersRise, is_apart_by, is_begun_after}
use Rattle.laws_versions.specs.Readers.{is_standing, was_committed, was_committed_status}
use Rattle.laws_versions.proofs.HistoryLemmas.Befores.{at, befores-append}
use Rattle.laws_versions.proofs.HistoryLemmas.Keeping.{apart_moved, some_at, some_map, with_at}
use Rattle.laws_versions.proofs.HistoryLemmas.Lists.{all_both, each_append, each_both}
use Rattle.laws_versions.proofs.HistoryLemmas.Viewing.{none_open}

-- ---- a transaction begins

not_own : (n : ℕ) (tables : List Table) (transactions : ℕ → Option Transaction) (session : ℕ) → transactions session ≡ None → (item : PastChange) → IsPlaced n tables transactions item → is_open item.status ≡ true → (item.session == session) ≡ false
not_own n tables transactions session e item placed opens = beside (is_open item.status) (item.session == session) opens (none_open n tables transactions session e item placed)
  where
    beside : (a b : Bool) → a ≡ true → (a && b) ≡ false → b ≡ false
    beside true b e f = f
    beside false b e f = impossible e

elsewhere : (label : ℕ) (t : Option Transaction) (transactions : ℕ → Option Transaction) (x : ℕ) → (x == label) ≡ false → transactions x ≡ with_at label t transactions x
elsewhere label t transactions x e = sym (ap (λ b. cond b t (transactions x)) e)

placed_begun : (n session : ℕ) (tables : List Table) (transactions : ℕ → Option Transaction) → transactions session ≡ None → (t : Transaction) → t.begin ≡ n + 1 → (item : PastChange) → IsPlaced n tables transactions item
    → IsPlaced (n + 1) tables (with_at session (Some t) transactions) item
placed_begun n session tables transactions none t e item h = (omega (arith, h.0), h.1, by item.status (not_own n tables transactions session none item h) h.2, h.3)
  where
    by : (s : Status) → (is_open s ≡ true → (item.session == session) ≡ false) → IsPlacedBy n transactions item s → IsPlacedBy (n + 1) (with_at session (Some t) transactions) item s
    by uncommitted other h = subst (IsOpenIn item) (elsewhere session (Some t) transactions item.session (other refl)) h
    by (committed at) other h = (
      h.0,
      omega (arith, h.1),
      some_at (λ x. at < x.begin) session (Some t) transactions item.session (λ p. omega (arith, h.1, e)) (λ p. h.2),
      λ x. some_at (λ x. at ≢ x.begin) session (Some t) transactions x (λ p q. less at n t.begin h.1 e q) (λ p. h.3 x),
    )
      where
        less : (a n b : ℕ) → a ≤ n → b ≡ n + 1 → a ≡ b → ⊥
        less a n b le p q = omega arith
    by undone other h = tt

-- every commit was before
was_settled : (n : ℕ) (tables : List Table) (transactions : ℕ → Option Transaction) (t : Transaction) → n ≤ t.begin → (item : PastChange) → IsPlaced n tables transactions item → was_committed None item ≡ was_committed (Some t) item
was_settled n tables transactions t le item h = by item.status h.2
  where
    by : (s : Status) → IsPlacedBy n transactions item s → was_committed_status None s ≡ was_committed_status (Some t) s
    by uncommitted h = refl
    by (committed at) h = sym (past at t.begin (omega (arith, h.1)))
      where
        past : (a b : ℕ) → a ≤ b → not (nat_lt b a) ≡ true
        past a b le = grind (arith, nat_tests)
    by undone h = refl

-- the order of two that meet in some way
pub order_begun : (Meet : PastChange → PastChange → Type 0) (n session : ℕ) (tables : List Table) (transactions : ℕ → Option Transaction) → transactions session ≡ None → (t : Transaction) → (p q : PastChange) → IsPlaced n tables transactions q
    → InOrderWhere Meet transactions p q → InOrderWhere Meet (with_at session (Some t) transactions) p q
order_begun Meet n session tables transactions none t p q placed order live_p live_q meet =
    apart_moved (transactions q.session) (with_at session (Some t) transactions q.session) q.number (p.session == q.session) p.status q.status
    (λ opens e. subst (λ u. is_begun_after u p.status ≡ true) (elsewhere session (Some t) transactions q.session (not_own n tables transactions session none q placed opens)) e)
    (order live_p live_q meet)

pub keeps_begun : (n session : ℕ) (tables : List Table) (transactions : ℕ → Option Transaction) (base : Records) (kept : List PastChange) → transactions session ≡ None
    → KeepsHistory n tables transactions base kept
    → KeepsHistory (n + 1) tables (with_at session (Some (record { levels = 1; begin = n + 1; snapshot = tables })) transactions) base kept
keeps_begun n session tables transactions base kept none h =
    let t : Transaction = record { levels = 1; begin = n + 1; snapshot = tables } in
    record {
      committed = h.committed;
      begun = λ x. some_at (IsBegun (n + 1) tables base kept) session (Some (record { levels = 1; begin = n + 1; snapshot = tables })) transactions x
          (λ e. record {
            snapshot = h.committed ∙ folded-same (was_committed None) (was_committed (Some (record { levels = 1; begin = n + 1; snapshot = tables }))) kept
                (all_weaker (IsPlaced n tables transactions) (λ item. was_committed None item ≡ was_committed (Some (record { levels = 1; begin = n + 1; snapshot = tables })) item)
                (was_settled n tables transactions (record { levels = 1; begin = n + 1; snapshot = tables }) (omega arith)) kept h.placed) base;
            defined = refl;
            begin = omega arith;
            levels = omega arith;
          })
          (λ e. some_map (IsBegun n tables base kept) (IsBegun (n + 1) tables base kept) (λ t b. record { snapshot = b.snapshot; defined = b.defined; begin = omega (arith, b.begin); levels = b.levels }) (transactions x) (h.begun x));
      in_order = each_both (IsPlaced n tables transactions) (InOrder transactions) (InOrder (with_at session (Some (record { levels = 1; begin = n + 1; snapshot = tables })) transactions))
          (λ p q pp pq. order_begun (λ p q. collide p.change q.change ≡ true) n session tables transactions none (record { levels = 1; begin = n + 1; snapshot = tables }) p q pq) kept h.placed h.in_order;
      numbers = h.numbers;
      levels = h.levels;
      befores = h.befores;
      placed = all_weaker (IsPlaced n tables transactions) (IsPlaced (n + 1) tables (with_at session (Some (record { levels = 1; begin = n + 1; snapshot = tables })) transactions))
          (placed_begun n session tables transactions none (record { levels = 1; begin = n + 1; snapshot = tables }) refl) kept h.placed;
    }

pub passed_begun : (n session : ℕ) (transactions : ℕ → Option Transaction) (t : Transaction) → t.begin ≡ n + 1 → (items : List PastChange) → AllByRecursion (IsPassed n transactions) items
    → AllByRecursion (IsPassed (n + 1) (with_at session (Some t) transactions)) items
passed_begun n session transactions t e items h = all_weaker (IsPassed n transactions) (IsPassed (n + 1) (with_at session (Some t) transactions)) (λ item. by item.status) items h
  where
    by : (s : Status) → IsPassedBy n transactions s → IsPassedBy (n + 1) (with_at session (Some t) transactions) s
    by uncommitted h = h
    by (committed at) h = (omega (arith, h.0), λ x. some_at (λ x. at < x.begin) session (Some t) transactions x (λ p. omega (arith, h.0, e)) (λ p. h.1 x))
    by undone h = h

-- ---- a change

-- no conflict leaves a change that collides before
pub order_new : (Meet : PastChange → PastChange → Type 0) (n : ℕ) (tables : List Table) (transactions : ℕ → Option Transaction) (t : Transaction) (new : PastChange) → new.number ≡ n + 1 → new.status ≡ uncommitted → transactions new.session ≡ Some t → (p : PastChange) → IsPlaced n tables transactions p
    → (is_standing p ≡ true → Meet p new → is_concurrent new.session (Some t) p ≡ false) → InOrderWhere Meet transactions p new
order_new Meet n tables transactions t new number is_new e p placed free live live_new hit =
    subst (λ s. is_apart_by (transactions new.session) new.number (p.session == new.session) p.status s ≡ true) (sym is_new)
    (by (p.session == new.session) refl p.status placed.2 live (free live hit))
  where
    below : (at : ℕ) → at ≤ n → nat_lt at new.number ≡ true
    below at le = let less : at < new.number = omega (arith, number) in test at new.number less
      where
        test : (a b : ℕ) → a < b → nat_lt a b ≡ true
        test a b lt = grind (arith, nat_tests)

    begun : (at : ℕ) → at ≢ t.begin → nat_lt t.begin at ≡ false → nat_lt at t.begin ≡ true
    begun at ne f = test at t.begin ne f
      where
        test : (a b : ℕ) → (a ≡ b → ⊥) → nat_lt b a ≡ false → nat_lt a b ≡ true
        test a b ne f = grind (arith, nat_tests)

    own_begun : (at : ℕ) → at < t.begin → nat_lt at t.begin ≡ true
    own_begun at lt = grind (arith, nat_tests)

    settled : (at : ℕ) (same : Bool) → nat_lt at new.number ≡ true → nat_lt at t.begin ≡ true → ((same && false) || (nat_lt at new.number && is_begun_after (transactions new.session) (committed at))) ≡ true
    settled at same a b = ap (λ u. (same && false) || (nat_lt at new.number && is_begun_after u (committed at))) e ∙ ap (λ c. (same && false) || (c && nat_lt at t.begin)) a ∙ ap (λ c. (same && false) || c) b ∙ last same
      where
        last : (s : Bool) → ((s && false) || true) ≡ true
        last true = refl
        last false = refl

    by : (same : Bool) → (p.session == new.session) ≡ same → (s : Status) → IsPlacedBy n transactions p s → not (is_undone s) ≡ true → (not (p.session == new.session) && is_concurrent_status (Some t) s) ≡ false
        → is_apart_by (transactions new.session) new.number (p.session == new.session) s uncommitted ≡ true
    by true is uncommitted h live free = ap (λ b. (b && true) || (false && is_begun_after (transactions new.session) uncommitted)) is
    by false is uncommitted h live free = impossible (sym free ∙ ap (λ b. not b && true) is)
    by true is (committed at) h live free =
        settled at (p.session == new.session) (below at h.1)
        (own_begun at (subst (λ u. IfSome u (λ x. at < x.begin)) (ap transactions (eqb-true p.session new.session is) ∙ e) h.2))
    by false is (committed at) h live free =
        settled at (p.session == new.session) (below at h.1)
        (begun at (subst (λ u. IfSome u (λ x. at ≢ x.begin)) e (h.3 new.session)) (sym (ap (λ b. not b && nat_lt t.begin at) is) ∙ free))
    by same is undone h live free = impossible live

levels_new : (n : ℕ) (tables : List Table) (transactions : ℕ → Option Transaction) (t : Transaction) (new : PastChange) → new.level ≡ t.levels → transactions new.session ≡ Some t → (p : PastChange) → IsPlaced n tables transactions p → LevelsRise p new
levels_new n tables transactions t new level e p placed open_p open_new same = by p.status open_p placed.2
  where
    by : (s : Status) → is_open s ≡ true → IsPlacedBy n transactions p s → p.level ≤ new.level
    by uncommitted o h = let inside : IsOpenIn p (Some t) = subst (IsOpenIn p) (ap transactions same ∙ e) h in omega (arith, inside.2, level)
    by (committed k) o h = impossible o
    by undone o h = impossible o

pub keeps_changed : (n : ℕ) (tables : List Table) (transactions : ℕ → Option Transaction) (base : Records) (kept : List PastChange) (t : Transaction) (new : PastChange)
    → new.number ≡ n + 1 → new.status ≡ uncommitted → new.level ≡ t.levels → transactions new.session ≡ Some t → is_some (table_with_id tables (changed_table new.change)) ≡ true → new.after ≡ record_after new.change new.before
    → (is_sum new.change ≡ false → new.before ≡ at (records_after_items is_standing base kept) new.change)
    → AllByRecursion (λ p. is_standing p ≡ true → collide p.change new.change ≡ true → is_concurrent new.session (Some t) p ≡ false) kept
    → KeepsHistory n tables transactions base kept → KeepsHistory (n + 1) tables transactions base (kept ++ new ∷ [])
keeps_changed n tables transactions base kept t new number is_new level e there after before free h = record {
  committed = h.committed ∙ same None;
  begun = λ x. some_map (IsBegun n tables base kept) (IsBegun (n + 1) tables base (kept ++ new ∷ [])) (λ t b. record { snapshot = b.snapshot ∙ same (Some t); defined = b.defined; begin = omega (arith, b.begin); levels = b.levels }) (transactions x) (h.begun x);
  in_order = each_append (InOrder transactions) kept new h.in_order
      (all_both (IsPlaced n tables transactions) (λ p. is_standing p ≡ true → collide p.change new.change ≡ true → is_concurrent new.session (Some t) p ≡ false) (λ p. InOrder transactions p new)
      (order_new (λ p q. collide p.change q.change ≡ true) n tables transactions t new number is_new e) kept h.placed free);
  numbers = each_append NumbersRise kept new h.numbers (all_weaker (IsPlaced n tables transactions) (λ p. NumbersRise p new) (λ p placed. omega (arith, placed.0, number)) kept h.placed);
  levels = each_append LevelsRise kept new h.levels (all_weaker (IsPlaced n tables transactions) (λ p. LevelsRise p new) (levels_new n tables transactions t new level e) kept h.placed);
  befores = befores-append kept base new h.befores (λ live sum. before sum);
  placed = all_append (IsPlaced (n + 1) tables transactions) kept (new ∷ [])
      (all_weaker (IsPlaced n tables transactions) (IsPlaced (n + 1) tables transactions) (λ item p. (omega (arith, p.0), p.1, later item item.status p.2, p.3)) kept h.placed)
      ((omega (arith, number), there, subst (IsPlacedBy (n + 1) transactions new) (sym is_new) inside, after), tt);
}
  where
    same : (u : Option Transaction) → records_after_items (was_committed u) base kept ≡ records_after_items (was_committed u) base (kept ++ new ∷ [])
    same u = sym (folded-append (was_committed u) base kept new ∙ ap (λ s. cond (was_committed_status u s) (after_item (records_after_items (was_committed u) base kept) new) (records_after_items (was_committed u) base kept)) is_new)

    later : (item : PastChange) (s : Status) → IsPlacedBy n transactions item s → IsPlacedBy (n + 1) transactions item s
    later item uncommitted h = h
    later item (committed at) h = (h.0, omega (arith, h.1), h.2, h.3)
    later item undone h = h

    begun : IsBegun n tables base kept t
    begun = subst (λ u. IfSome u (IsBegun n tables base kept)) e (h.begun new.session)

    inside : IsOpenIn new (transactions new.session)
    inside = subst (IsOpenIn new) (sym e) (omega (arith, begun.begin, number), omega (arith, begun.levels, level), omega (arith, level))
