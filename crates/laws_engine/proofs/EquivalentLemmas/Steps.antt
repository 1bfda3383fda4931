-- What an entry leads to from two states of one essence.
use Rattle.std.proofs.Common.{◌≡◌, ℕ, ◌+◌, ◌-◌, ◌≤◌, Bool, true, false, not, ◌&&◌, cond, List, [], ◌∷◌, ◌++◌, Option, Some, None, refl, sym, ap, ◌∙◌, arith}
use Rattle.std.specs.Prelude.{◌==◌, nat_lt, filter, map, if◌then◌else◌}
use Rattle.std.specs.List.{AllByRecursion}
use Rattle.std.proofs.lemmas.Bool.Decides.{nat_tests}
use Rattle.std.proofs.lemmas.List.{map-append}
use Rattle.common_lemmas.proofs.Booleans.{and_left}
use Rattle.common_lemmas.proofs.Lists.{all_each}
use Rattle.column_set.specs.declared.changes.Change.{Change}
use Rattle.index_derive.specs.declared.log.EntryKind.{EntryKind}
use Rattle.index_derive.specs.declared.log.EntryKind.TheVariants as entry
use Rattle.database_state.specs.Table.{Table, record_in}
use Rattle.database_state.specs.Changes.{tables_after, tables_after_all, without_copied}
use Rattle.column_set.specs.ChangedRecords.{changed_table, changed_bookmark}
use Rattle.database_state.specs.State.{DatabaseState, LiveSession, PastChange, Transaction, uncommitted, committed, undone, is_open, is_open_change_of, levels, open_changes_of}
use Rattle.database_state.specs.View.{newest}
use Rattle.database_state.specs.VersionStore.{is_needed, from_oldest_needed}
use Rattle.database_state.specs.Equivalence.{EssentialChange, essence, essential_change}
use Rattle.database_state.specs.Step.{applied, at_levels, every_change, insert_session, is_at_level, with_changes_at, with_levels, with_transaction, with_one as with_table, without_one as without_table}
use Rattle.laws_engine.proofs.EquivalentLemmas.Essential.{forgotten, stay_alike}
use Rattle.laws_engine.proofs.EquivalentLemmas.Reading.{SamePast, newest_alike, own_open_alike, with_past}
use Rattle.laws_engine.proofs.EquivalentLemmas.Sessions.{NeedsLess, less_begun, less_changed, less_ended, less_inserted, less_status, less_with, less_without, same_begin, with_one}
use Rattle.laws_engine.proofs.EquivalentLemmas.Changing.{changed_alike, columns_after, committed_alike, lowered_alike, same_essence, told_own, undone_alike}

-- a change that was committed, was so at this number at most
abbrev pub IsReached : ℕ → PastChange → Type 0
IsReached number x = (at : ℕ) → x.status ≡ committed at → at ≤ number

-- what is asked of a past before an entry: none is needed before a schema step
abbrev pub IsReady : DatabaseState → List PastChange → EntryKind → Type 0
IsReady state past entry.Begin = AllByRecursion (IsReached state.number) past
IsReady state past (entry.Schema made) = from_oldest_needed state.sessions past ≡ []
IsReady state past _ = Unit {0}

-- ---- the past stays, and the sessions need no more of it

map_same : (items : List PastChange) → map (λ (x : PastChange). x) items ≡ items
map_same [] = refl
map_same (x ∷ xs) = λ i. x ∷ map_same xs i

same_past : (state : DatabaseState) (past : List PastChange) (others : List LiveSession) → SamePast state past
    → AllByRecursion (λ x. is_needed others x ≡ true → is_needed state.sessions x ≡ true) state.past → AllByRecursion (λ x. is_needed others x ≡ true → is_needed state.sessions x ≡ true) past
    → map (essential_change state.tables) (from_oldest_needed others state.past) ≡ map (essential_change state.tables) (from_oldest_needed others past)
same_past state past others e p q =
    ap (λ items. map (essential_change state.tables) (from_oldest_needed others items)) (sym (map_same state.past))
    ∙ stay_alike state.tables state.tables state.sessions others (λ x. x) (λ e. e) (λ x. refl) state.past past p q e
    ∙ ap (λ items. map (essential_change state.tables) (from_oldest_needed others items)) (map_same past)

-- the same for all changes, where it holds of any number
any_past : (state : DatabaseState) (past : List PastChange) (others : List LiveSession) → SamePast state past → ((number : ℕ) → NeedsLess state.sessions others number)
    → map (essential_change state.tables) (from_oldest_needed others state.past) ≡ map (essential_change state.tables) (from_oldest_needed others past)
any_past state past others e less =
    same_past state past others e (all_each (λ x. is_needed others x ≡ true → is_needed state.sessions x ≡ true) (λ x. less_status state.sessions others x.status (λ n f. less n)) state.past)
    (all_each (λ x. is_needed others x ≡ true → is_needed state.sessions x ≡ true) (λ x. less_status state.sessions others x.status (λ n f. less n)) past)

-- ---- the session's own open changes become others

-- what becomes of a change is needed only where the change was
abbrev IsLess : List LiveSession → List LiveSession → ℕ → (PastChange → Bool) → (PastChange → PastChange) → PastChange → Type 0
IsLess sessions others label test change x = is_needed others (if is_open_change_of label x && test x then change x else x) ≡ true → is_needed sessions x ≡ true

own_past : (state : DatabaseState) (past : List PastChange) (label : ℕ) (after : List Table) (others : List LiveSession) (test : PastChange → Bool) (change : PastChange → PastChange) (essential : EssentialChange → EssentialChange)
    → ((x : PastChange) → (is_open_change_of label (essential_change state.tables x).item && test (essential_change state.tables x).item) ≡ (is_open_change_of label x && test x))
    → ((x : PastChange) → essential_change after x ≡ essential_change state.tables x)
    → ((x : PastChange) → (is_open_change_of label x && test x) ≡ true → essential_change after (change x) ≡ essential (essential_change state.tables x))
    → ((number : ℕ) → NeedsLess state.sessions others number) → SamePast state past
    → map (essential_change after) (from_oldest_needed others (with_changes_at label test change state).past) ≡ map (essential_change after) (from_oldest_needed others (with_changes_at label test change (with_past state past)).past)
own_past state past label after others test change essential told same step less e =
    stay_alike state.tables after state.sessions others
    (λ x. if is_open_change_of label x && test x then change x else x)
    (λ es. if is_open_change_of label es.item && test es.item then essential es else es)
    (changed_alike state.tables after (λ x. is_open_change_of label x && test x) change essential told same step)
    state.past past (all_each (IsLess state.sessions others label test change) each state.past) (all_each (IsLess state.sessions others label test change) each past) e
  where
    each : (x : PastChange) → IsLess state.sessions others label test change x
    each x =
        less_changed state.sessions others (λ x. is_open_change_of label x && test x) change
        (λ y own. and_left (is_open y.status) (y.session == label) (and_left (is_open_change_of label y) (test y) own))
        x (less_status state.sessions others x.status (λ n f. less n))

abbrev pub undone_essence : EssentialChange → EssentialChange
undone_essence e = record e { item = forgotten (record e.item { status = undone }) }

undone_past : (state : DatabaseState) (past : List PastChange) (label : ℕ) (others : List LiveSession) (test : PastChange → Bool)
    → ((x : PastChange) → (is_open_change_of label (essential_change state.tables x).item && test (essential_change state.tables x).item) ≡ (is_open_change_of label x && test x))
    → ((number : ℕ) → NeedsLess state.sessions others number) → SamePast state past
    → map (essential_change state.tables) (from_oldest_needed others (with_changes_at label test (λ item. record item { status = undone }) state).past)
    ≡ map (essential_change state.tables) (from_oldest_needed others (with_changes_at label test (λ item. record item { status = undone }) (with_past state past)).past)
undone_past state past label others test told less e =
    own_past state past label state.tables others test (λ item. record item { status = undone }) undone_essence told (λ x. refl)
    (λ x own. undone_alike state.tables x (and_left (is_open x.status) (x.session == label) (and_left (is_open_change_of label x) (test x) own))) less e

-- ---- a new change

from_more : (sessions : List LiveSession) (items : List PastChange) (new : PastChange) → is_needed sessions new ≡ true → from_oldest_needed sessions (items ++ new ∷ []) ≡ from_oldest_needed sessions items ++ new ∷ []
from_more sessions [] new e = ap (λ b. cond b (new ∷ []) []) e
from_more sessions (x ∷ xs) new e = by (from_more sessions xs new e) (is_needed sessions x)
  where
    by : from_oldest_needed sessions (xs ++ new ∷ []) ≡ from_oldest_needed sessions xs ++ new ∷ [] → (b : Bool)
        → cond b (x ∷ xs ++ new ∷ []) (from_oldest_needed sessions (xs ++ new ∷ [])) ≡ cond b (x ∷ xs) (from_oldest_needed sessions xs) ++ new ∷ []
    by rest true = refl
    by rest false = rest

more_past : (state : DatabaseState) (past : List PastChange) → SamePast state past → (one other : PastChange) → one ≡ other → is_needed state.sessions one ≡ true
    → map (essential_change state.tables) (from_oldest_needed state.sessions (state.past ++ one ∷ [])) ≡ map (essential_change state.tables) (from_oldest_needed state.sessions (past ++ other ∷ []))
more_past state past e one other same needed =
    ap (map (essential_change state.tables)) (from_more state.sessions state.past one needed)
    ∙ map-append (essential_change state.tables) (from_oldest_needed state.sessions state.past) (one ∷ [])
    ∙ ap (λ es. es ++ essential_change state.tables one ∷ []) e
    ∙ sym (map-append (essential_change state.tables) (from_oldest_needed state.sessions past) (one ∷ []))
    ∙ sym (ap (map (essential_change state.tables)) (from_more state.sessions past one needed))
    ∙ ap (λ (new : PastChange). map (essential_change state.tables) (from_oldest_needed state.sessions (past ++ new ∷ []))) same

-- the new change, by the newest tables
abbrev new_in : ℕ → Change → DatabaseState → List Table → PastChange
new_in label change state tables = record {
  number = state.number;
  session = label;
  level = levels state label;
  change = without_copied change;
  before = record_in tables (changed_table change) (changed_bookmark change);
  after = record_in (tables_after tables change) (changed_table change) (changed_bookmark change);
  status = uncommitted;
}

-- the state without the open changes of a level
abbrev level_undone : ℕ → ℕ → DatabaseState → DatabaseState
level_undone label level state = with_changes_at label (is_at_level level) (λ item. record item { status = undone }) state

-- ---- entry by entry, in the state whose number is already the entry's own

abbrev ended : LiveSession → LiveSession
ended s = record s { transaction = None }

ends_less : (state : DatabaseState) (label number : ℕ) → NeedsLess state.sessions (with_one label ended state.sessions) number
ends_less state label number = less_with label ended number (λ s. less_ended number s.transaction) state.sessions

left_less : (state : DatabaseState) (label number : ℕ) → NeedsLess state.sessions (filter (λ s. not (s.label == label)) (with_one label ended state.sessions)) number
left_less state label number h = ends_less state label number (less_without (λ s. not (s.label == label)) number (with_one label ended state.sessions) h)

levels_less : (state : DatabaseState) (label : ℕ) (change : ℕ → ℕ) (number : ℕ) → NeedsLess state.sessions (with_one label (λ s. record s { transaction = at_levels change s.transaction }) state.sessions) number
levels_less state label change number = less_with label (λ s. record s { transaction = at_levels change s.transaction }) number (λ s. same_begin change number s.transaction) state.sessions

opens_less : (state : DatabaseState) (label : ℕ) (change : List ℕ → List ℕ) (number : ℕ) → NeedsLess state.sessions (with_one label (λ s. record s { open_tables = change s.open_tables }) state.sessions) number
opens_less state label change number = less_with label (λ s. record s { open_tables = change s.open_tables }) number (λ s h. h) state.sessions

every_told : (state : DatabaseState) (label : ℕ) (x : PastChange)
    → (is_open_change_of label (essential_change state.tables x).item && every_change (essential_change state.tables x).item) ≡ (is_open_change_of label x && every_change x)
every_told state label = told_own state.tables label every_change (λ columns x. refl) (λ columns x. refl)

level_told : (state : DatabaseState) (label level : ℕ) (x : PastChange)
    → (is_open_change_of label (essential_change state.tables x).item && is_at_level level (essential_change state.tables x).item) ≡ (is_open_change_of label x && is_at_level level x)
level_told state label level = told_own state.tables label (is_at_level level) (λ columns x. refl) (λ columns x. refl)

pub applied_alike : (state : DatabaseState) (past : List PastChange) → SamePast state past → (label : ℕ) (kind : EntryKind) → IsReady state state.past kind → IsReady state past kind
    → essence (applied label kind state) ≡ essence (applied label kind (with_past state past))
applied_alike state past e label entry.Enter p q =
    let same = any_past state past (insert_session (record { label = label; open_tables = []; transaction = None }) state.sessions) e (λ number. less_inserted label number state.sessions) in
    λ i. record { number = state.number; greatest_table = state.greatest_table; tables = state.tables; sessions = insert_session (record { label = label; open_tables = []; transaction = None }) state.sessions; past = same i }
applied_alike state past e label entry.Leave p q =
    let same = undone_past state past label (filter (λ s. not (s.label == label)) (with_one label ended state.sessions)) every_change (every_told state label) (left_less state label) e in
    λ i. record { number = state.number; greatest_table = state.greatest_table; tables = state.tables; sessions = filter (λ s. not (s.label == label)) (with_one label ended state.sessions); past = same i }
applied_alike state past e label (entry.Open table) p q =
    let same = any_past state past (with_one label (λ s. record s { open_tables = with_table table.0 s.open_tables }) state.sessions) e (opens_less state label (with_table table.0)) in
    λ i. record { number = state.number; greatest_table = state.greatest_table; tables = state.tables; sessions = with_one label (λ s. record s { open_tables = with_table table.0 s.open_tables }) state.sessions; past = same i }
applied_alike state past e label (entry.Shut table) p q =
    let same = any_past state past (with_one label (λ s. record s { open_tables = without_table table.0 s.open_tables }) state.sessions) e (opens_less state label (without_table table.0)) in
    λ i. record { number = state.number; greatest_table = state.greatest_table; tables = state.tables; sessions = with_one label (λ s. record s { open_tables = without_table table.0 s.open_tables }) state.sessions; past = same i }
applied_alike state past e label entry.Begin p q =
    let same = same_past state past (with_one label (λ s. record s { transaction = begun }) state.sessions) e (each state.past p) (each past q) in
    λ i. record { number = state.number; greatest_table = state.greatest_table; tables = state.tables; sessions = with_one label (λ s. record s { transaction = begun }) state.sessions; past = same i }
  where
    begun : Option Transaction
    begun = Some (record { levels = 1; begin = state.number; snapshot = state.tables })

    late : (begin number : ℕ) → number ≤ begin → nat_lt begin number ≡ false
    late begin number h = grind (arith, nat_tests)

    each : (items : List PastChange) → AllByRecursion (IsReached state.number) items
        → AllByRecursion (λ x. is_needed (with_one label (λ s. record s { transaction = begun }) state.sessions) x ≡ true → is_needed state.sessions x ≡ true) items
    each [] r = tt
    each (x ∷ xs) r = (
      less_status state.sessions (with_one label (λ s. record s { transaction = begun }) state.sessions) x.status
          (λ n f. less_with label (λ s. record s { transaction = begun }) n (λ s. less_begun begun n (late state.number n (r.0 n f)) s.transaction) state.sessions),
      each xs r.1,
    )
applied_alike state past e label entry.Save p q =
    let same = any_past state past (with_one label (λ s. record s { transaction = at_levels (λ n. n + 1) s.transaction }) state.sessions) e (levels_less state label (λ n. n + 1)) in
    λ i. record { number = state.number; greatest_table = state.greatest_table; tables = state.tables; sessions = with_one label (λ s. record s { transaction = at_levels (λ n. n + 1) s.transaction }) state.sessions; past = same i }
applied_alike state past e label (entry.Change change) p q =
    let made = ap (new_in label change state) (newest_alike state past e) in
    let same = more_past state past e (new_in label change state (newest state)) (new_in label change state (newest (with_past state past))) made refl in
    λ i. record { number = state.number; greatest_table = state.greatest_table; tables = state.tables; sessions = state.sessions; past = same i }
applied_alike state past e label entry.Release p q =
    let same = own_past state past label state.tables (with_one label (λ s. record s { transaction = at_levels (λ n. n - 1) s.transaction }) state.sessions) (is_at_level (levels state label)) (λ item. record item { level = item.level - 1 })
    (λ es. record es { item = record es.item { level = es.item.level - 1 } }) (level_told state label (levels state label)) (λ x. refl) (λ x own. lowered_alike state.tables x) (levels_less state label (λ n. n - 1)) e in
    λ i. record { number = state.number; greatest_table = state.greatest_table; tables = state.tables; sessions = with_one label (λ s. record s { transaction = at_levels (λ n. n - 1) s.transaction }) state.sessions; past = same i }
applied_alike state past e label entry.Undo p q = by (nat_lt 1 (levels state label))
  where
    by : (b : Bool) → essence (cond b (with_levels label (λ n. n - 1) (level_undone label (levels state label) state)) (with_transaction label None (level_undone label (levels state label) state)))
        ≡ essence (cond b (with_levels label (λ n. n - 1) (level_undone label (levels state label) (with_past state past))) (with_transaction label None (level_undone label (levels state label) (with_past state past))))
    by true =
        let same = undone_past state past label (with_one label (λ s. record s { transaction = at_levels (λ n. n - 1) s.transaction }) state.sessions) (is_at_level (levels state label)) (level_told state label (levels state label)) (levels_less state label (λ n. n - 1)) e in
        λ i. record { number = state.number; greatest_table = state.greatest_table; tables = state.tables; sessions = with_one label (λ s. record s { transaction = at_levels (λ n. n - 1) s.transaction }) state.sessions; past = same i }
    by false =
        let same = undone_past state past label (with_one label ended state.sessions) (is_at_level (levels state label)) (level_told state label (levels state label)) (ends_less state label) e in
        λ i. record { number = state.number; greatest_table = state.greatest_table; tables = state.tables; sessions = with_one label ended state.sessions; past = same i }
applied_alike state past e label entry.UndoAll p q =
    let same = undone_past state past label (with_one label ended state.sessions) every_change (every_told state label) (ends_less state label) e in
    λ i. record { number = state.number; greatest_table = state.greatest_table; tables = state.tables; sessions = with_one label ended state.sessions; past = same i }
applied_alike state past e label entry.Commit p q =
    let changes = own_open_alike state past e label in
    let after = tables_after_all state.tables (open_changes_of label state.past) in
    let same = own_past state past label after (with_one label ended state.sessions) every_change (λ item. record item { status = committed state.number })
    (λ es. record es { item = record es.item { status = committed state.number } }) (every_told state label)
    (same_essence state.tables after (λ id. columns_after id (open_changes_of label state.past) state.tables))
    (λ x own. committed_alike state.tables after state.number x (columns_after (changed_table x.change) (open_changes_of label state.past) state.tables)
    (and_left (is_open x.status) (x.session == label) (and_left (is_open_change_of label x) (every_change x) own))) (ends_less state label) e in
    (λ i. record { number = state.number; greatest_table = state.greatest_table; tables = after; sessions = with_one label ended state.sessions; past = same i })
    ∙ ap (λ made. essence (with_transaction label None
    (with_changes_at label every_change (λ item. record item { status = committed state.number })
    (record (with_past state past) { tables = tables_after_all state.tables made })))) changes
applied_alike state past e label (entry.Schema made) p q =
    let after = applied label (entry.Schema made) state in
    let none = ap (map (essential_change after.tables)) p ∙ sym (ap (map (essential_change after.tables)) q) in
    λ i. record { number = after.number; greatest_table = after.greatest_table; tables = after.tables; sessions = after.sessions; past = none i }
