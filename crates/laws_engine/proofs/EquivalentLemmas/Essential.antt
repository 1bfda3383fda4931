-- What the essence of a past keeps of its changes.
use Rattle.std.proofs.Common.{◌≡◌, Bool, true, false, ◌||◌, cond, List, [], ◌∷◌, None, refl, sym, ap, ◌∙◌}
use Rattle.std.specs.Prelude.{map, filter, option_map, if◌then◌else◌}
use Rattle.std.specs.List.{AllByRecursion, list_any}
use Rattle.common_lemmas.proofs.Booleans.{impossible}
use Rattle.column_set.specs.declared.columns.Column.{Column}
use Rattle.database_state.specs.Table.{Table, table_with_id}
use Rattle.database_state.specs.Changes.{is_sum}
use Rattle.column_set.specs.ChangedRecords.{changed_table}
use Rattle.database_state.specs.State.{LiveSession, PastChange, Status, uncommitted, committed, undone, is_open, is_undone}
use Rattle.database_state.specs.VersionStore.{is_needed, is_needed_status, from_oldest_needed}
use Rattle.database_state.specs.Equivalence.{EssentialChange, columns_of, essential_item, essential_change, without_record, without_sums}
use Rattle.laws_versions.proofs.ChangeLemmas.Tests.{contradicted}

-- ---- one change

-- an undone change, without its records
abbrev pub forgotten : PastChange → PastChange
forgotten item = record item { change = without_record item.change; before = None; after = None }

-- a sum, without the sums of its records
abbrev pub summed : List Column → PastChange → PastChange
summed columns item = record item { before = option_map (without_sums columns) item.before; after = option_map (without_sums columns) item.after }

-- what both leave is left
pub kept_of : {X : Type 0} (h : PastChange → X) (columns : List Column) (item : PastChange) → h (forgotten item) ≡ h item → h (summed columns item) ≡ h item → h (essential_item columns item) ≡ h item
kept_of h columns item e f = by (is_undone item.status) (is_sum item.change)
  where
    by : (a b : Bool) → h (cond a (forgotten item) (cond b (summed columns item) item)) ≡ h item
    by true b = e
    by false true = f
    by false false = refl

-- of a change that stands no more than its sums is forgotten
pub kept_of_standing : {X : Type 0} (h : PastChange → X) (columns : List Column) (item : PastChange) → is_undone item.status ≡ false → h (summed columns item) ≡ h item → h (essential_item columns item) ≡ h item
kept_of_standing h columns item e f = ap (λ a. h (cond a (forgotten item) (cond (is_sum item.change) (summed columns item) item))) e ∙ by (is_sum item.change)
  where
    by : (b : Bool) → h (cond b (summed columns item) item) ≡ h item
    by true = f
    by false = refl

pub essential_status : (tables : List Table) (item : PastChange) → (essential_change tables item).item.status ≡ item.status
essential_status tables item = kept_of (λ x. x.status) (columns_of (table_with_id tables (changed_table item.change))) item refl refl

-- ---- open changes

pub open_stands : (status : Status) → is_open status ≡ true → is_undone status ≡ false
open_stands uncommitted e = refl
open_stands (committed number) e = refl
open_stands undone e = impossible e

pub open_needed : (sessions : List LiveSession) (status : Status) → is_open status ≡ true → is_needed_status sessions status ≡ true
open_needed sessions uncommitted e = refl
open_needed sessions (committed number) e = impossible e
open_needed sessions undone e = impossible e

-- ---- from the oldest needed change on

abbrev pub from_essential : List LiveSession → List EssentialChange → List EssentialChange
from_essential sessions [] = []
from_essential sessions (e ∷ es) = if is_needed sessions e.item then e ∷ es else from_essential sessions es

pub essential_from : (tables : List Table) (sessions : List LiveSession) (items : List PastChange)
    → map (essential_change tables) (from_oldest_needed sessions items) ≡ from_essential sessions (map (essential_change tables) items)
essential_from tables sessions [] = refl
essential_from tables sessions (x ∷ xs) =
    both (essential_from tables sessions xs) (is_needed sessions x)
    ∙ ap (λ s. cond (is_needed_status sessions s) (essential_change tables x ∷ map (essential_change tables) xs) (from_essential sessions (map (essential_change tables) xs))) (sym (essential_status tables x))
  where
    both : map (essential_change tables) (from_oldest_needed sessions xs) ≡ from_essential sessions (map (essential_change tables) xs)
        → (b : Bool) → map (essential_change tables) (cond b (x ∷ xs) (from_oldest_needed sessions xs)) ≡ cond b (essential_change tables x ∷ map (essential_change tables) xs) (from_essential sessions (map (essential_change tables) xs))
    both rest true = refl
    both rest false = rest

-- where other sessions need no more of what becomes of the changes, the oldest ones are not missed
pub from_fewer : (sessions others : List LiveSession) (f : PastChange → PastChange) (items : List PastChange) → AllByRecursion (λ x. is_needed others (f x) ≡ true → is_needed sessions x ≡ true) items
    → from_oldest_needed others (map f items) ≡ from_oldest_needed others (map f (from_oldest_needed sessions items))
from_fewer sessions others f [] h = refl
from_fewer sessions others f (x ∷ xs) h = by (from_fewer sessions others f xs h.1) (is_needed sessions x) refl
  where
    by : from_oldest_needed others (map f xs) ≡ from_oldest_needed others (map f (from_oldest_needed sessions xs)) → (b : Bool) → is_needed sessions x ≡ b → from_oldest_needed others (map f (x ∷ xs)) ≡ from_oldest_needed others (map f (cond b (x ∷ xs) (from_oldest_needed sessions xs)))
    by rest true e = refl
    by rest false e = ap (λ b. cond b (f x ∷ map f xs) (from_oldest_needed others (map f xs))) (contradicted (is_needed others (f x)) (λ g. sym (h.0 g) ∙ e)) ∙ rest

map_along : {X Y Z W : Type 0} (f : X → Y) (e : Y → Z) (d : X → W) (g : W → Z) → ((x : X) → e (f x) ≡ g (d x)) → (xs : List X) → map e (map f xs) ≡ map g (map d xs)
map_along f e d g h [] = refl
map_along f e d g h (x ∷ xs) = λ i. h x i ∷ map_along f e d g h xs i

-- Two pasts of one essence stay so, where each change becomes what its essence tells and the sessions need no more of them.
pub stay_alike : (tables after : List Table) (sessions others : List LiveSession) (f : PastChange → PastChange) (g : EssentialChange → EssentialChange) → ((x : PastChange) → essential_change after (f x) ≡ g (essential_change tables x))
    → (one other : List PastChange) → AllByRecursion (λ x. is_needed others (f x) ≡ true → is_needed sessions x ≡ true) one → AllByRecursion (λ x. is_needed others (f x) ≡ true → is_needed sessions x ≡ true) other
    → map (essential_change tables) (from_oldest_needed sessions one) ≡ map (essential_change tables) (from_oldest_needed sessions other)
    → map (essential_change after) (from_oldest_needed others (map f one)) ≡ map (essential_change after) (from_oldest_needed others (map f other))
stay_alike tables after sessions others f g h one other p q e = by one p ∙ ap (λ es. from_essential others (map g es)) e ∙ sym (by other q)
  where
    by : (items : List PastChange) → AllByRecursion (λ x. is_needed others (f x) ≡ true → is_needed sessions x ≡ true) items
        → map (essential_change after) (from_oldest_needed others (map f items)) ≡ from_essential others (map g (map (essential_change tables) (from_oldest_needed sessions items)))
    by items r =
        ap (map (essential_change after)) (from_fewer sessions others f items r)
        ∙ essential_from after others (map f (from_oldest_needed sessions items))
        ∙ ap (from_essential others) (map_along f (essential_change after) (essential_change tables) g h (from_oldest_needed sessions items))

-- ---- what is read of the changes that pass a test

filter_from : (sessions : List LiveSession) (test : PastChange → Bool) → ((x : PastChange) → test x ≡ true → is_needed sessions x ≡ true) → (items : List PastChange) → filter test items ≡ filter test (from_oldest_needed sessions items)
filter_from sessions test needed [] = refl
filter_from sessions test needed (x ∷ xs) = by (filter_from sessions test needed xs) (is_needed sessions x) refl
  where
    by : filter test xs ≡ filter test (from_oldest_needed sessions xs) → (b : Bool) → is_needed sessions x ≡ b → filter test (x ∷ xs) ≡ filter test (cond b (x ∷ xs) (from_oldest_needed sessions xs))
    by rest true e = refl
    by rest false e = ap (λ b. cond b (x ∷ filter test xs) (filter test xs)) (contradicted (test x) (λ g. sym (needed x g) ∙ e)) ∙ rest

pub read_essential : {Y : Type 0} (tables : List Table) (test : PastChange → Bool) (h : PastChange → Y) → ((x : PastChange) → test (essential_change tables x).item ≡ test x)
    → ((x : PastChange) → test x ≡ true → h (essential_change tables x).item ≡ h x)
    → (items : List PastChange) → map h (filter test items) ≡ map (λ (e : EssentialChange). h e.item) (filter (λ (e : EssentialChange). test e.item) (map (essential_change tables) items))
read_essential tables test h told same [] = refl
read_essential tables test h told same (x ∷ xs) =
    by (read_essential tables test h told same xs) (test x) refl
    ∙ ap (λ b. map (λ (e : EssentialChange). h e.item) (cond b (essential_change tables x ∷ filter (λ (e : EssentialChange). test e.item) (map (essential_change tables) xs)) (filter (λ (e : EssentialChange). test e.item) (map (essential_change tables) xs)))) (sym (told x))
  where
    by : map h (filter test xs) ≡ map (λ (e : EssentialChange). h e.item) (filter (λ (e : EssentialChange). test e.item) (map (essential_change tables) xs))
        → (b : Bool) → test x ≡ b → map h (cond b (x ∷ filter test xs) (filter test xs))
        ≡ map (λ (e : EssentialChange). h e.item) (cond b (essential_change tables x ∷ filter (λ (e : EssentialChange). test e.item) (map (essential_change tables) xs)) (filter (λ (e : EssentialChange). test e.item) (map (essential_change tables) xs)))
    by rest true f = λ i. sym (same x f) i ∷ rest i
    by rest false f = rest

-- Of two pasts of one essence the changes that pass a test tell the same, where the test passes needed changes alone and the
-- essence keeps what the test and the reader read.
pub read_alike : {Y : Type 0} (tables : List Table) (sessions : List LiveSession) (test : PastChange → Bool) (h : PastChange → Y) → ((x : PastChange) → test x ≡ true → is_needed sessions x ≡ true)
    → ((x : PastChange) → test (essential_change tables x).item ≡ test x) → ((x : PastChange) → test x ≡ true → h (essential_change tables x).item ≡ h x)
    → (one other : List PastChange) → map (essential_change tables) (from_oldest_needed sessions one) ≡ map (essential_change tables) (from_oldest_needed sessions other)
    → map h (filter test one) ≡ map h (filter test other)
read_alike tables sessions test h needed told same one other e = by one ∙ ap (λ es. map (λ (e : EssentialChange). h e.item) (filter (λ (e : EssentialChange). test e.item) es)) e ∙ sym (by other)
  where
    by : (items : List PastChange) → map h (filter test items) ≡ map (λ (e : EssentialChange). h e.item) (filter (λ (e : EssentialChange). test e.item) (map (essential_change tables) (from_oldest_needed sessions items)))
    by items = ap (map h) (filter_from sessions test needed items) ∙ read_essential tables test h told same (from_oldest_needed sessions items)

pub any_mapped : {X Y : Type 0} (test : Y → Bool) (h : X → Y) (xs : List X) → list_any (λ x. test (h x)) xs ≡ list_any test (map h xs)
any_mapped test h [] = refl
any_mapped test h (x ∷ xs) = ap (λ b. test (h x) || b) (any_mapped test h xs)
