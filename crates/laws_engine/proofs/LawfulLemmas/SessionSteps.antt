-- The steps of sessions and of transactions, of opening and of closing.
use Rattle.std.proofs.Common.{◌≡◌, ℕ, ◌+◌, ◌≤◌, Bool, true, false, not, ◌||◌, cond, List, [], ◌∷◌, Option, Some, None, refl, sym, ap, subst, ◌∙◌, arith, bytes_eq}
use Rattle.std.specs.Prelude.{◌==◌, count_by, find, fold, if◌then◌else◌, is_some, length, map, nat_le, nat_lt}
use Rattle.std.specs.List.{list_any}
use Rattle.std.proofs.lemmas.Bool.Decides.{nat_tests}
use Rattle.std.proofs.lemmas.Bool.{and_from}
use Rattle.common_lemmas.proofs.Numbers.{self_equal}
use Rattle.common_lemmas.proofs.Booleans.{impossible}
use Rattle.jet_base.specs.declared.ids.CursorId.{CursorId}
use Rattle.jet_base.specs.declared.replies.Jet.TheVariants as jet
use Rattle.index_derive.specs.declared.log.EntryKind.TheVariants as entry
use Rattle.database_state.specs.Table.{Table, table_named, table_with_id}
use Rattle.database_state.specs.State.{LiveSession, PastChange, levels, live_session}
use Rattle.database_state.specs.Lawful.{has_open, is_lawful, log_limit}
use Rattle.laws_versions.proofs.IndexLemmas.Adding.{KeysRise}
use Rattle.laws_versions.specs.Records.{Records}
use Rattle.laws_versions.proofs.ChangeLemmas.Tests.{or_first, or_second}
use Rattle.laws_versions.proofs.KeyLemmas.EscrowSums.{unseen_now}
use Rattle.laws_versions.proofs.KeyLemmas.LawfulCommits.{commit_lawful}
use Rattle.session_local.specs.declared.request.Request.TheVariants as call
use Rattle.session_local.specs.Agreement.{Agrees, cursor_table, open_tables_of}
use Rattle.session_local.specs.Calls.{answer}
use Rattle.session_local.specs.CursorCalls.{close_table, opened}
use Rattle.session_local.specs.Answer.{Nothing}
use Rattle.session_local.specs.Local.{OpenCursor, cursor_labelled, without_prepared}
use Rattle.session_local.specs.Outcome.{CallInputs, done, is_outside, number_refusals, one}
use Rattle.session_local.specs.SessionCalls.{begin_session}
use Rattle.laws_engine.specs.LawfulSteps.{HasLawfulStep, IsReached}
use Rattle.laws_engine.proofs.LawfulLemmas.Refusals.{at_found, past, when_begun}

-- ---- numbers

pub below : (limit n : ℕ) → nat_le limit n ≡ false → nat_lt n limit ≡ true
below limit n e = grind (arith, nat_tests)

some_level : (n : ℕ) → (n == 0) ≡ false → nat_le 1 n ≡ true
some_level n e = grind (arith, nat_tests)

few_levels : (n : ℕ) → nat_le 7 n ≡ false → nat_le n 6 ≡ true
few_levels n e = grind (arith, nat_tests)

inner_level : (n : ℕ) → nat_lt 1 n ≡ true → nat_le 2 n ≡ true
inner_level n e = grind (arith, nat_tests)

last_level : (n : ℕ) → (n == 0) ≡ false → nat_lt 1 n ≡ false → n ≡ 1
last_level n e f = grind (arith, nat_tests)

-- ---- sessions

begin_lawful : (asked : CallInputs) → Agrees asked.state asked.session asked.local → HasLawfulStep asked.state (begin_session asked)
unfolding is_lawful
begin_lawful asked agrees = past asked ((asked.local.begun, jet.SessionInUse) ∷ (nat_le 64 (length asked.state.sessions), jet.OutOfSessions) ∷ number_refusals asked) _ (λ r. (
  and_from _ _ (below log_limit asked.state.number r.1.1.0) (and_from _ _ (ap not (sym agrees.begun ∙ r.0)) (below 64 (length asked.state.sessions) r.1.0)),
  tt,
))

pub session_begins : (asked : CallInputs) → Agrees asked.state asked.session asked.local → HasLawfulStep asked.state (answer asked call.BeginSession)
session_begins asked agrees = when_begun asked call.BeginSession (λ e. begin_lawful asked agrees) (λ e. begin_lawful asked agrees)

pub session_ends : (asked : CallInputs) → Agrees asked.state asked.session asked.local → HasLawfulStep asked.state (answer asked call.EndSession)
unfolding is_lawful
session_ends asked agrees = when_begun asked call.EndSession (λ e. (sym agrees.begun ∙ e, tt)) (λ e. tt)

-- ---- transactions

pub transaction_begins : (asked : CallInputs) → Agrees asked.state asked.session asked.local → HasLawfulStep asked.state (answer asked call.BeginTransaction)
unfolding is_lawful
transaction_begins asked agrees = when_begun asked call.BeginTransaction
    (λ begun. past asked ((nat_le 7 (levels asked.state asked.session), jet.TransTooDeep) ∷ number_refusals asked) _ (λ r.
    elim (is_outside asked) as (λ b. is_outside asked ≡ b → (is_lawful asked.state (record { session = record { 0 = asked.session }; kind = if b then entry.Begin else entry.Save }) ≡ true) × Unit {0}) [
      | true ↦ λ e. (and_from _ _ (below log_limit asked.state.number r.1.0) (and_from _ _ (sym agrees.begun ∙ begun) e), tt)
      | false ↦ λ e. (and_from _ _ (below log_limit asked.state.number r.1.0) (and_from _ _ (some_level (levels asked.state asked.session) e) (few_levels (levels asked.state asked.session) r.0)), tt)
    ] refl))
    (λ e. tt)

pub rolled_back : (asked : CallInputs) (all : Bool) → Agrees asked.state asked.session asked.local → HasLawfulStep asked.state (answer asked (call.Rollback all))
unfolding is_lawful
rolled_back asked all agrees = when_begun asked (call.Rollback all)
    (λ begun. past asked ((is_outside asked, jet.NotInTransaction) ∷ []) _ (λ r.
    elim all as (λ b. (is_lawful asked.state (record { session = record { 0 = asked.session }; kind = if b then entry.UndoAll else entry.Undo }) ≡ true) × Unit {0}) [
      | true ↦ (some_level (levels asked.state asked.session) r.0, tt)
      | false ↦ (some_level (levels asked.state asked.session) r.0, tt)
    ]))
    (λ e. tt)

pub commits : KeysRise → (base : Records) (dropped kept : List PastChange) (asked : CallInputs) (lazy : Bool) → IsReached base dropped kept asked.state → Agrees asked.state asked.session asked.local → HasLawfulStep asked.state (answer asked (call.CommitTransaction lazy))
unfolding is_lawful
commits rise base dropped kept asked lazy reached agrees = when_begun asked (call.CommitTransaction lazy)
    (λ begun. past asked ((is_outside asked, jet.NotInTransaction) ∷ []) _ (λ r.
    elim (nat_lt 1 (levels asked.state asked.session)) as (λ b. nat_lt 1 (levels asked.state asked.session) ≡ b
    → HasLawfulStep asked.state (if b then done asked.local Nothing (one asked entry.Release) else done (without_prepared asked.local) Nothing (one asked entry.Commit))) [
      | true ↦ λ e. (released asked e, tt)
      | false ↦ λ e. (commit_lawful rise base dropped kept asked.state asked.session reached.history (unseen_now base kept asked.state reached.sums) reached.unique reached.order (last_level (levels asked.state asked.session) r.0 e), tt)
    ] refl))
    (λ e. tt)
  where
    released : (asked : CallInputs) → nat_lt 1 (levels asked.state asked.session) ≡ true → is_lawful asked.state (record { session = record { 0 = asked.session }; kind = entry.Release }) ≡ true
    released asked e = inner_level (levels asked.state asked.session) e

-- ---- opening

named_there : (tables : List Table) (name : List ℕ) (t : Table) → table_named tables name ≡ Some t → is_some (table_with_id tables t.id) ≡ true
named_there [] name t e = absurd (none t e)
  where
    none : (t : Table) → None ≡ Some t → ⊥
    none t e = cc
named_there (x ∷ tables) name t e = elim (bytes_eq x.name name) as (λ b. cond b (Some x) (table_named tables name) ≡ Some t → is_some (cond (x.id == t.id) (Some x) (table_with_id tables t.id)) ≡ true) [
  | true ↦ λ f. ap (λ k. is_some (cond (x.id == k) (Some x) (table_with_id tables k))) (ap (λ (y : Table). y.id) (sym (same x t f))) ∙ ap (λ b. is_some (cond b (Some x) (table_with_id tables x.id))) (self_equal x.id)
  | false ↦ λ f. later (x.id == t.id) (named_there tables name t f)
] e
  where
    same : (a b : Table) → Some a ≡ Some b → a ≡ b
    same a b e = cc

    later : (b : Bool) → is_some (table_with_id tables t.id) ≡ true → is_some (cond b (Some x) (table_with_id tables t.id)) ≡ true
    later true h = refl
    later false h = h

pub table_opens : (asked : CallInputs) (cursor : CursorId) (name : List ℕ) → Agrees asked.state asked.session asked.local → HasLawfulStep asked.state (answer asked (call.OpenTable cursor name))
unfolding is_lawful
table_opens asked cursor name agrees = when_begun asked (call.OpenTable cursor name)
    (λ begun. past asked ((is_some (cursor_labelled asked.local cursor.0), jet.InvalidTableId) ∷ (nat_le 16 (length asked.local.cursors), jet.OutOfCursors) ∷ []) (λ _. opened asked cursor.0 (table_named asked.state.tables name)) (λ r.
    elim (table_named asked.state.tables name) as (λ o. table_named asked.state.tables name ≡ o → HasLawfulStep asked.state (opened asked cursor.0 o)) [
      | None ↦ λ e. tt
      | Some t ↦ λ e. past asked (number_refusals asked) _ (λ s. (opens t begun s.0 e, tt))
    ] refl))
    (λ e. tt)
  where
    opens : (t : Table) → asked.local.begun ≡ true → nat_le log_limit asked.state.number ≡ false → table_named asked.state.tables name ≡ Some t
        → is_lawful asked.state (record { session = record { 0 = asked.session }; kind = entry.Open (record { 0 = t.id }) }) ≡ true
    opens t begun few e = and_from _ _ (below log_limit asked.state.number few) (and_from _ _ (sym agrees.begun ∙ begun) (named_there asked.state.tables name t e))

-- ---- closing

counted : (p : ℕ → Bool) (xs : List ℕ) (n : ℕ) → n ≤ fold (λ a x. a + cond (p x) 1 0) n xs
counted p [] n = omega arith
counted p (x ∷ xs) n = more n (cond (p x) 1 0) (fold (λ a x. a + cond (p x) 1 0) (n + cond (p x) 1 0) xs) (counted p xs (n + cond (p x) 1 0))
  where
    more : (a b c : ℕ) → a + b ≤ c → a ≤ c
    more a b c le = omega arith

-- what is counted is there
none_counted : (p : ℕ → Bool) (xs : List ℕ) → list_any p xs ≡ false → (n : ℕ) → fold (λ a x. a + cond (p x) 1 0) n xs ≡ n
none_counted p [] e n = refl
none_counted p (x ∷ xs) e n = ap (λ b. fold (λ a x. a + cond (p x) 1 0) (n + cond b 1 0) xs) (or_first (p x) _ e) ∙ none_counted p xs (or_second (p x) _ e) (n + 0) ∙ zero n
  where
    zero : (n : ℕ) → n + 0 ≡ n
    zero n = omega arith

some_counted : (p : ℕ → Bool) (xs : List ℕ) → list_any p xs ≡ true → (n : ℕ) → n + 1 ≤ fold (λ a x. a + cond (p x) 1 0) n xs
some_counted p [] e n = impossible e
some_counted p (x ∷ xs) e n = elim (p x) as (λ b. (b || list_any p xs) ≡ true → n + 1 ≤ fold (λ a x. a + cond (p x) 1 0) (n + cond b 1 0) xs) [
  | true ↦ λ f. counted p xs (n + 1)
  | false ↦ λ f. subst (λ (k : ℕ). n + 1 ≤ fold (λ a x. a + cond (p x) 1 0) k xs) (zero n) (some_counted p xs f n)
] e
  where
    zero : (n : ℕ) → n ≡ n + 0
    zero n = omega arith

pub same_members : (p : ℕ → Bool) (one other : List ℕ) → count_by p one ≡ count_by p other → list_any p one ≡ true → list_any p other ≡ true
same_members p one other e h = by (list_any p other) refl
  where
    by : (b : Bool) → list_any p other ≡ b → list_any p other ≡ true
    by true f = f
    by false f = absurd (less (fold (λ a x. a + cond (p x) 1 0) 0 one) (some_counted p one h 0) (e ∙ none_counted p other f 0))
      where
        less : (n : ℕ) → 0 + 1 ≤ n → n ≡ 0 → ⊥
        less n le e = omega arith

pub cursor_there : (label : ℕ) (cursors : List OpenCursor) (c : OpenCursor) → find (λ c. c.label == label) cursors ≡ Some c → list_any (λ n. n == c.cursor.table) (map cursor_table cursors) ≡ true
cursor_there label [] c e = absurd (none c e)
  where
    none : (c : OpenCursor) → None ≡ Some c → ⊥
    none c e = cc
cursor_there label (x ∷ cursors) c e = elim (x.label == label) as (λ b. cond b (Some x) (find (λ c. c.label == label) cursors) ≡ Some c → ((x.cursor.table == c.cursor.table) || list_any (λ n. n == c.cursor.table) (map cursor_table cursors)) ≡ true) [
  | true ↦ λ f. ap (λ b. b || list_any (λ n. n == c.cursor.table) (map cursor_table cursors)) (ap (λ (y : OpenCursor). y.cursor.table == c.cursor.table) (same x c f) ∙ self_equal c.cursor.table)
  | false ↦ λ f. later (x.cursor.table == c.cursor.table) _ (cursor_there label cursors c f)
] e
  where
    same : (a b : OpenCursor) → Some a ≡ Some b → a ≡ b
    same a b e = cc

    later : (a b : Bool) → b ≡ true → (a || b) ≡ true
    later true b e = refl
    later false b e = e

pub table_closes : (asked : CallInputs) (cursor : CursorId) → Agrees asked.state asked.session asked.local → HasLawfulStep asked.state (answer asked (call.CloseTable cursor))
unfolding is_lawful
table_closes asked cursor agrees = when_begun asked (call.CloseTable cursor)
    (λ begun. at_found asked cursor.0 (close_table asked) (λ c e. (
      open_there c.cursor.table (live_session asked.state asked.session)
          (same_members (λ n. n == c.cursor.table) (map cursor_table asked.local.cursors) (open_tables_of (live_session asked.state asked.session)) (agrees.tables c.cursor.table) (cursor_there cursor.0 asked.local.cursors c e)),
      tt,
    )))
    (λ e. tt)
  where
    open_there : (table : ℕ) (s : Option LiveSession) → list_any (λ n. n == table) (open_tables_of s) ≡ true → has_open s table ≡ true
    open_there table None e = e
    open_there table (Some s) e = e
