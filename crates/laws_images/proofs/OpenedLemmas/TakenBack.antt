-- A change that is taken back and made again.
use Rattle.std.proofs.Common.{◌≡◌, ℕ, Bool, true, false, not, cond, Option, Some, None, List, [], ◌∷◌, refl, sym, ap, subst, ◌∙◌}
use Rattle.std.specs.Prelude.{◌==◌, ◌&&◌, bytes_eq, filter, fold, map, is_some, unwrap_or, if◌then◌else◌}
use Rattle.std.specs.List.{AllByRecursion}
use Rattle.std.proofs.lemmas.Bool.{eqb-true}
use Rattle.common_lemmas.proofs.Booleans.{and_left, and_right, impossible}
use Rattle.common_lemmas.proofs.Numbers.{equal_bytes, same_bytes, self_equal}
use Rattle.column_set.specs.declared.changes.Change.{Change}
use Rattle.column_set.specs.RecordValues.{RecordFields}
use Rattle.column_set.specs.ChangedRecords.{changed_table, changed_bookmark}
use Rattle.database_state.specs.State.{PastChange, change_of, is_undone}
use Rattle.database_state.specs.Table.{Table, record_in, table_with_id}
use Rattle.laws_versions.specs.Records.{IsThere, Records, after_item, is_change_of, record_after, records_after, records_after_items, records_of}
use Rattle.laws_versions.proofs.ChangeLemmas.Folds.{folded-cons}
use Rattle.laws_versions.proofs.ChangeLemmas.Projecting.{all_projected, projected, stays}
use Rattle.laws_versions.specs.History.{HasBefores}
use Rattle.laws_versions.specs.Readers.{is_standing}
use Rattle.version_store.specs.declared.calls.ChangeKind.{ChangeKind}
use Rattle.version_store.specs.declared.calls.ChangeKind.TheVariants as kind
use Rattle.laws_engine.specs.HeldRecords.{HeldRecord, inverse, inverse_of}
use Rattle.laws_images.specs.InTurn.{AreInTurn, CanLeave}
use Rattle.laws_images.specs.ShownStates.{change_made, past_change, past_of, tables_before, tables_with}

-- ---- where a change and its inverse are

pub made_table : (what : ChangeKind) (table : ℕ) (bookmark : List ℕ) (after : Option RecordFields) → changed_table (change_made what table bookmark after) ≡ table
made_table kind.Put table bookmark after = refl
made_table kind.Drop table bookmark after = refl
made_table kind.Hold table bookmark after = refl
made_table (kind.Add column amount) table bookmark after = refl

pub made_bookmark : (what : ChangeKind) (table : ℕ) (bookmark : List ℕ) (after : Option RecordFields) → changed_bookmark (change_made what table bookmark after) ≡ bookmark
made_bookmark kind.Put table bookmark after = refl
made_bookmark kind.Drop table bookmark after = refl
made_bookmark kind.Hold table bookmark after = refl
made_bookmark (kind.Add column amount) table bookmark after = refl

pub inverse_table : (what : ChangeKind) (table : ℕ) (bookmark : List ℕ) (before : Option RecordFields) → changed_table (inverse_of what table bookmark before) ≡ table
inverse_table kind.Put table bookmark None = refl
inverse_table kind.Put table bookmark (Some values) = refl
inverse_table kind.Drop table bookmark None = refl
inverse_table kind.Drop table bookmark (Some values) = refl
inverse_table kind.Hold table bookmark before = refl
inverse_table (kind.Add column amount) table bookmark before = refl

pub inverse_bookmark : (what : ChangeKind) (table : ℕ) (bookmark : List ℕ) (before : Option RecordFields) → changed_bookmark (inverse_of what table bookmark before) ≡ bookmark
inverse_bookmark kind.Put table bookmark None = refl
inverse_bookmark kind.Put table bookmark (Some values) = refl
inverse_bookmark kind.Drop table bookmark None = refl
inverse_bookmark kind.Drop table bookmark (Some values) = refl
inverse_bookmark kind.Hold table bookmark before = refl
inverse_bookmark (kind.Add column amount) table bookmark before = refl

-- ---- one record

some_is : (o : Option RecordFields) → is_some o ≡ true → Some (unwrap_or o []) ≡ o
some_is None e = impossible e
some_is (Some values) e = refl

again : (what : ChangeKind) (table : ℕ) (bookmark : List ℕ) (held_before after : Option RecordFields) → CanLeave what (record_after (inverse_of what table bookmark held_before) after) after → record_after (change_made what table bookmark after) (record_after (inverse_of what table bookmark held_before) after) ≡ after
again kind.Put table bookmark held_before after can = some_is after can
again kind.Drop table bookmark held_before after can = sym can
again kind.Hold table bookmark held_before after can = refl
again (kind.Add column amount) table bookmark held_before after can = can

-- ---- all records

again_at : (h : HeldRecord) (r : Records) (t : ℕ) (b : List ℕ) → CanLeave h.kind (record_after (inverse h) (r h.table h.bookmark)) (r h.table h.bookmark)
    → records_after (records_after r (inverse h)) (change_made h.kind h.table h.bookmark (r h.table h.bookmark)) t b ≡ r t b
again_at h r t b can =
    ap (λ (x : Bool). cond x (record_after made (cond (is_change_of t b (inverse h)) (record_after (inverse h) (r t b)) (r t b))) (cond (is_change_of t b (inverse h)) (record_after (inverse h) (r t b)) (r t b))) place
    ∙ ap (λ (y : Bool). cond ((h.table == t) && bytes_eq h.bookmark b) (record_after made (cond y (record_after (inverse h) (r t b)) (r t b))) (cond y (record_after (inverse h) (r t b)) (r t b))) back
    ∙ at ((h.table == t) && bytes_eq h.bookmark b) refl
  where
    made : Change
    made = change_made h.kind h.table h.bookmark (r h.table h.bookmark)

    place : is_change_of t b made ≡ ((h.table == t) && bytes_eq h.bookmark b)
    place = ap (λ n. (n == t) && bytes_eq (changed_bookmark made) b) (made_table h.kind h.table h.bookmark (r h.table h.bookmark)) ∙ ap (λ (k : List ℕ). (h.table == t) && bytes_eq k b) (made_bookmark h.kind h.table h.bookmark (r h.table h.bookmark))

    back : is_change_of t b (inverse h) ≡ ((h.table == t) && bytes_eq h.bookmark b)
    back = ap (λ n. (n == t) && bytes_eq (changed_bookmark (inverse h)) b) (inverse_table h.kind h.table h.bookmark h.before) ∙ ap (λ (k : List ℕ). (h.table == t) && bytes_eq k b) (inverse_bookmark h.kind h.table h.bookmark h.before)

    own : ((h.table == t) && bytes_eq h.bookmark b) ≡ true → r h.table h.bookmark ≡ r t b
    own e = ap (λ n. r n h.bookmark) (eqb-true h.table t (and_left (h.table == t) (bytes_eq h.bookmark b) e)) ∙ ap (r t) (same_bytes h.bookmark b (and_right (h.table == t) (bytes_eq h.bookmark b) e))

    at : (x : Bool) → ((h.table == t) && bytes_eq h.bookmark b) ≡ x → cond x (record_after made (cond x (record_after (inverse h) (r t b)) (r t b))) (cond x (record_after (inverse h) (r t b)) (r t b)) ≡ r t b
    at true e = ap (λ (o : Option RecordFields). record_after made (record_after (inverse h) o)) (sym (own e)) ∙ again h.kind h.table h.bookmark h.before (r h.table h.bookmark) can ∙ own e
    at false e = refl

pub again_all : (h : HeldRecord) (r : Records) → CanLeave h.kind (record_after (inverse h) (r h.table h.bookmark)) (r h.table h.bookmark)
    → records_after (records_after r (inverse h)) (change_made h.kind h.table h.bookmark (r h.table h.bookmark)) ≡ r
again_all h r can = λ i t b. again_at h r t b can i

-- ---- all held changes

there : (h : HeldRecord) (tables : List Table) → is_some (table_with_id tables h.table) ≡ true → IsThere tables (inverse h)
there h tables e = ap (λ n. is_some (table_with_id tables n)) (inverse_table h.kind h.table h.bookmark h.before) ∙ e

pub step_back : (h : HeldRecord) (changes : List HeldRecord) (tables : List Table) → AreInTurn (h ∷ changes) tables → records_of (tables_before (h ∷ changes) tables) ≡ records_after (records_of (tables_before changes tables)) (inverse h)
step_back h changes tables turn = projected (tables_before changes tables) (inverse h) (there h (tables_before changes tables) turn.1)

step_again : (h : HeldRecord) (changes : List HeldRecord) (tables : List Table) → AreInTurn (h ∷ changes) tables
    → after_item (records_of (tables_before (h ∷ changes) tables)) (past_change h (record_in (tables_before changes tables) h.table h.bookmark)) ≡ records_of (tables_before changes tables)
step_again h changes tables turn =
    ap (λ (r : Records). records_after r (change_made h.kind h.table h.bookmark (record_in (tables_before changes tables) h.table h.bookmark))) (step_back h changes tables turn)
    ∙ again_all h (records_of (tables_before changes tables)) turn.2

stands : (h : HeldRecord) (after : Option RecordFields) → is_undone h.status ≡ false → is_standing (past_change h after) ≡ true
stands h after e = ap not e

pub newest : (changes : List HeldRecord) (tables : List Table) → AreInTurn changes tables → records_after_items is_standing (records_of (tables_before changes tables)) (past_of changes tables) ≡ records_of tables
newest [] tables turn = refl
newest (h ∷ changes) tables turn =
    let item = past_change h (record_in (tables_before changes tables) h.table h.bookmark) in
    let base = records_of (tables_before (h ∷ changes) tables) in
    folded-cons is_standing base item (past_of changes tables)
    ∙ ap (λ (b : Bool). records_after_items is_standing (cond b (after_item base item) base) (past_of changes tables)) (stands h (record_in (tables_before changes tables) h.table h.bookmark) turn.0)
    ∙ ap (λ (r : Records). records_after_items is_standing r (past_of changes tables)) (step_again h changes tables turn)
    ∙ newest changes tables turn.3

here : (h : HeldRecord) → is_change_of h.table h.bookmark (inverse h) ≡ true
here h =
    ap (λ n. (n == h.table) && bytes_eq (changed_bookmark (inverse h)) h.bookmark) (inverse_table h.kind h.table h.bookmark h.before)
    ∙ ap (λ (k : List ℕ). (h.table == h.table) && bytes_eq k h.bookmark) (inverse_bookmark h.kind h.table h.bookmark h.before)
    ∙ ap (λ (b : Bool). b && bytes_eq h.bookmark h.bookmark) (self_equal h.table) ∙ equal_bytes h.bookmark h.bookmark refl

at_own : (h : HeldRecord) (changes : List HeldRecord) (tables : List Table) → AreInTurn (h ∷ changes) tables → records_of (tables_before (h ∷ changes) tables) h.table h.bookmark ≡ record_after (inverse h) (record_in (tables_before changes tables) h.table h.bookmark)
at_own h changes tables turn =
    ap (λ (r : Records). r h.table h.bookmark) (step_back h changes tables turn)
    ∙ ap (λ (b : Bool). cond b (record_after (inverse h) (record_in (tables_before changes tables) h.table h.bookmark)) (record_in (tables_before changes tables) h.table h.bookmark)) (here h)

own : (h : HeldRecord) (after : Option RecordFields) (base : Records) → base h.table h.bookmark ≡ record_after (inverse h) after → record_after (inverse h) after ≡ base (changed_table (change_made h.kind h.table h.bookmark after)) (changed_bookmark (change_made h.kind h.table h.bookmark after))
own h after base e = sym e ∙ sym (ap (λ n. base n (changed_bookmark (change_made h.kind h.table h.bookmark after))) (made_table h.kind h.table h.bookmark after) ∙ ap (base h.table) (made_bookmark h.kind h.table h.bookmark after))

-- Each change has exactly the record before it that the earlier ones leave.
abbrev pub IsExact : Records → List PastChange → Type 0
IsExact records [] = Unit {0}
IsExact records (item ∷ items) = (is_standing item ≡ true → item.before ≡ records (changed_table item.change) (changed_bookmark item.change)) × IsExact (if is_standing item then after_item records item else records) items

pub exact : (changes : List HeldRecord) (tables : List Table) → AreInTurn changes tables → IsExact (records_of (tables_before changes tables)) (past_of changes tables)
exact [] tables turn = tt
exact (h ∷ changes) tables turn =
    let after = record_in (tables_before changes tables) h.table h.bookmark in
    let item = past_change h after in
    let base = records_of (tables_before (h ∷ changes) tables) in
    let rest : IsExact (records_of (tables_before changes tables)) (past_of changes tables) = exact changes tables turn.3 in (
      λ standing. own h after base (at_own h changes tables turn),
      subst (λ (b : Bool). IsExact (cond b (after_item base item) base) (past_of changes tables)) (sym (stands h after turn.0))
          (subst (λ (r : Records). IsExact r (past_of changes tables)) (sym (step_again h changes tables turn)) rest),
    )

exact_befores : (records : Records) (items : List PastChange) → IsExact records items → HasBefores records items
exact_befores records [] h = tt
exact_befores records (item ∷ items) h = (λ standing other. h.0 standing, exact_befores (if is_standing item then after_item records item else records) items h.1)

pub befores : (changes : List HeldRecord) (tables : List Table) → AreInTurn changes tables → HasBefores (records_of (tables_before changes tables)) (past_of changes tables)
befores changes tables turn = exact_befores (records_of (tables_before changes tables)) (past_of changes tables) (exact changes tables turn)

-- ---- readers

pub stays_before : (changes : List HeldRecord) (tables : List Table) (id : ℕ) → is_some (table_with_id (tables_before changes tables) id) ≡ is_some (table_with_id tables id)
stays_before [] tables id = refl
stays_before (h ∷ changes) tables id = stays (tables_before changes tables) (inverse h) id ∙ stays_before changes tables id

all_there : (changes : List HeldRecord) (tables first : List Table) → ((id : ℕ) → is_some (table_with_id first id) ≡ is_some (table_with_id tables id)) → AreInTurn changes tables → (test : PastChange → Bool) → AllByRecursion (IsThere first) (map change_of (filter test (past_of changes tables)))
all_there [] tables first same turn test = tt
all_there (h ∷ changes) tables first same turn test = at (test (past_change h after)) (all_there changes tables first same turn.3 test)
  where
    after : Option RecordFields
    after = record_in (tables_before changes tables) h.table h.bookmark

    at : (b : Bool) → AllByRecursion (IsThere first) (map change_of (filter test (past_of changes tables))) → AllByRecursion (IsThere first) (map change_of (cond b (past_change h after ∷ filter test (past_of changes tables)) (filter test (past_of changes tables))))
    at true rest = (ap (λ n. is_some (table_with_id first n)) (made_table h.kind h.table h.bookmark after) ∙ same h.table ∙ sym (stays_before changes tables h.table) ∙ turn.1, rest)
    at false rest = rest

folds : (base : Records) (items : List PastChange) → fold records_after base (map change_of items) ≡ fold after_item base items
folds base [] = refl
folds base (item ∷ items) = folds (after_item base item) items

pub readers : (changes : List HeldRecord) (tables : List Table) → AreInTurn changes tables → (test : PastChange → Bool) → records_of (tables_with test (tables_before changes tables) (past_of changes tables)) ≡ records_after_items test (records_of (tables_before changes tables)) (past_of changes tables)
readers changes tables turn test =
    all_projected (tables_before changes tables) (map change_of (filter test (past_of changes tables))) (all_there changes tables (tables_before changes tables) (stays_before changes tables) turn test)
    ∙ folds (records_of (tables_before changes tables)) (filter test (past_of changes tables))
