-- What held changes tell of the kept ones, from the newest records back.
use Rattle.std.proofs.Common.{◌≡◌, ℕ, Bool, true, false, not, ◌&&◌, cond, List, [], ◌∷◌, Option, Some, None, refl, sym, ap, subst, ◌∙◌, bytes_eq}
use Rattle.std.specs.Prelude.{◌==◌, is_some, map, neg_ℤ, option_map, unwrap_or, IfSome}
use Rattle.std.specs.List.{AllByRecursion}
use Rattle.std.proofs.lemmas.Bool.{eqb-true}
use Rattle.common_lemmas.proofs.Booleans.{and_left, and_right, impossible}
use Rattle.common_lemmas.proofs.Numbers.{same_bytes}
use Rattle.column_set.specs.declared.changes.Change.{Change}
use Rattle.column_set.specs.declared.changes.Change.TheVariants.{Put, Drop, Hold, Add}
use Rattle.column_set.specs.declared.columns.Column.{Column}
use Rattle.column_set.specs.RecordValues.{RecordFields}
use Rattle.database_state.specs.Table.{Table, schema_of, table_with_id}
use Rattle.database_state.specs.Changes.{is_sum, with_sum, without_copied}
use Rattle.column_set.specs.ChangedRecords.{changed_table, changed_bookmark}
use Rattle.database_state.specs.State.{PastChange, Status, is_undone}
use Rattle.database_state.specs.VersionStore.{cost_of}
use Rattle.database_state.specs.Equivalence.{columns_of, essential_change, without_record, without_sums}
use Rattle.laws_versions.specs.Records.{Records, after_item, is_change_of, record_after, records_after_items}
use Rattle.laws_versions.proofs.ChangeLemmas.Folds.{folded-cons}
use Rattle.laws_versions.specs.History.{HasBefores}
use Rattle.laws_versions.specs.Readers.{is_rewrite, is_standing}
use Rattle.laws_versions.proofs.HistoryLemmas.Keeping.{some_map}
use Rattle.laws_versions.proofs.KeyLemmas.UniqueKept.{id_of}
use Rattle.laws_versions.specs.RecordNumbers.{AddsToEscrow}
use Rattle.laws_versions.specs.SumBefores.{AreSameButForSums, HasSumBefores}
use Rattle.laws_versions.proofs.RecordLemmas.ClearedSums.{IsOfEscrow, sum_same}
use Rattle.version_store.specs.declared.calls.ChangeKind.{ChangeKind}
use Rattle.version_store.specs.declared.calls.ChangeKind.TheVariants as kind
use Rattle.version_store.specs.HeldChanges.{kind_of, is_rewrite as rewrites}
use Rattle.laws_engine.specs.HeldRecords.{HeldRecord}
use Rattle.laws_engine.specs.Holding.{AllMatch, Matches}
use Rattle.laws_engine.proofs.TableLemmas.TakingBack.{GoesBack, TakesBack, at_itself}
use Rattle.laws_engine.proofs.EquivalentLemmas.Essential.{forgotten, summed}
use Rattle.laws_engine.specs.UncopiedPast.{AreUncopied, IsUncopied}

-- ---- a change, by its kind, its record, and what it leaves

-- the record that a put left
abbrev left_by : Option RecordFields → RecordFields
left_by None = []
left_by (Some values) = values

abbrev change_by : ChangeKind → ℕ → List ℕ → Option RecordFields → Change
change_by kind.Put table bookmark after = Put (record { 0 = table }) bookmark None (left_by after)
change_by kind.Drop table bookmark after = Drop (record { 0 = table }) bookmark
change_by kind.Hold table bookmark after = Hold (record { 0 = table }) bookmark
change_by (kind.Add column amount) table bookmark after = Add (record { 0 = table }) bookmark column amount

change_told : (change : Change) → change ≡ without_copied change → (seen : Option RecordFields) → change ≡ change_by (kind_of change) (changed_table change) (changed_bookmark change) (record_after change seen)
change_told (Put table bookmark copied values) h seen = h
change_told (Drop table bookmark) h seen = refl
change_told (Hold table bookmark) h seen = refl
change_told (Add table bookmark column amount) h seen = refl

bare_told : (change : Change) → change ≡ without_copied change → without_record change ≡ change_by (kind_of change) (changed_table change) (changed_bookmark change) None
bare_told (Put table bookmark copied values) h = ap without_record h
bare_told (Drop table bookmark) h = refl
bare_told (Hold table bookmark) h = refl
bare_told (Add table bookmark column amount) h = refl

rewrite_told : (change : Change) → is_rewrite change ≡ rewrites (kind_of change)
rewrite_told (Put table bookmark copied values) = refl
rewrite_told (Drop table bookmark) = refl
rewrite_told (Hold table bookmark) = refl
rewrite_told (Add table bookmark column amount) = refl

lock_leaves : (change : Change) → is_rewrite change ≡ false → is_sum change ≡ false → (seen : Option RecordFields) → record_after change seen ≡ seen
lock_leaves (Put table bookmark copied values) h g seen = cc
lock_leaves (Drop table bookmark) h g seen = cc
lock_leaves (Hold table bookmark) h g seen = refl
lock_leaves (Add table bookmark column amount) h g seen = cc

-- ---- two changes of one held change

-- what the held change tells of both
record AreOne (x y : PastChange) : Type 0 where
  number : x.number ≡ y.number
  session : x.session ≡ y.session
  level : x.level ≡ y.level
  kind : kind_of x.change ≡ kind_of y.change
  table : changed_table x.change ≡ changed_table y.change
  bookmark : changed_bookmark x.change ≡ changed_bookmark y.change
  status : x.status ≡ y.status
  before : is_standing x ≡ true → is_rewrite x.change ≡ true → x.before ≡ y.before
  cost : cost_of x.change x.before ≡ cost_of y.change y.before

are_one : (x y : PastChange) (held : HeldRecord) → Matches x held → Matches y held → AreOne x y
are_one x y held m n = record {
  number = sym m.number ∙ n.number;
  session = sym m.session ∙ n.session;
  level = sym m.level ∙ n.level;
  kind = kinds;
  table = sym m.table ∙ n.table;
  bookmark = sym m.bookmark ∙ n.bookmark;
  status = states;
  before = λ stands rewrites_it. sym (m.before stands rewrites_it)
      ∙ n.before (sym (ap (λ (s : Status). not (is_undone s)) states) ∙ stands) (rewrite_told y.change ∙ sym (ap rewrites kinds) ∙ sym (rewrite_told x.change) ∙ rewrites_it);
  cost = sym m.cost ∙ n.cost;
}
  where
    kinds : kind_of x.change ≡ kind_of y.change
    kinds = sym m.kind ∙ n.kind

    states : x.status ≡ y.status
    states = sym m.status ∙ n.status

-- an undone one
undone_essence : (tables : List Table) (x y : PastChange) → AreOne x y → IsUncopied x → IsUncopied y → is_undone x.status ≡ true → essential_change tables x ≡ essential_change tables y
undone_essence tables x y one p q undone =
    ap (λ a. record { item = cond a (forgotten x) (rest x); cost = cost_of x.change x.before }) undone
    ∙ (λ i. record {
      item = record { number = one.number i; session = one.session i; level = one.level i; change = bare i; before = None; after = None; status = one.status i };
      cost = one.cost i;
    })
    ∙ sym (ap (λ a. record { item = cond a (forgotten y) (rest y); cost = cost_of y.change y.before }) (sym (ap is_undone one.status) ∙ undone))
  where
    rest : PastChange → PastChange
    rest z = cond (is_sum z.change) (summed (columns_of (table_with_id tables (changed_table z.change))) z) z

    bare : without_record x.change ≡ without_record y.change
    bare = bare_told x.change p ∙ (λ i. change_by (one.kind i) (one.table i) (one.bookmark i) None) ∙ sym (bare_told y.change q)

-- one that stands and is a sum keeps its records but for their sums
summed_essence : (tables : List Table) (x : PastChange) → is_undone x.status ≡ false → is_sum x.change ≡ true → essential_change tables x ≡ record { item = summed (columns_of (table_with_id tables (changed_table x.change))) x; cost = cost_of x.change x.before }
summed_essence tables x stands sum =
    let columns = columns_of (table_with_id tables (changed_table x.change)) in
    ap (λ a. record { item = cond a (forgotten x) (cond (is_sum x.change) (summed columns x) x); cost = cost_of x.change x.before }) stands
    ∙ ap (λ b. record { item = cond b (summed columns x) x; cost = cost_of x.change x.before }) sum

-- one that stands and is no sum keeps all
standing_essence : (tables : List Table) (x : PastChange) → is_undone x.status ≡ false → is_sum x.change ≡ false → essential_change tables x ≡ record { item = x; cost = cost_of x.change x.before }
standing_essence tables x stands plain =
    let columns = columns_of (table_with_id tables (changed_table x.change)) in
    ap (λ a. record { item = cond a (forgotten x) (cond (is_sum x.change) (summed columns x) x); cost = cost_of x.change x.before }) stands
    ∙ ap (λ b. record { item = cond b (summed columns x) x; cost = cost_of x.change x.before }) plain

-- ---- one that stands, by what it leaves

-- the records before it
before_same : (x y : PastChange) → AreOne x y → is_standing x ≡ true → is_sum x.change ≡ false → is_sum y.change ≡ false → (base other : Records)
    → x.before ≡ base (changed_table x.change) (changed_bookmark x.change) → y.before ≡ other (changed_table y.change) (changed_bookmark y.change) → after_item base x ≡ after_item other y → base ≡ other
before_same x y one stands plain plain_y base other before_x before_y after = λ i table bookmark. point table bookmark i
  where
    test : (table : ℕ) (bookmark : List ℕ) → is_change_of table bookmark x.change ≡ is_change_of table bookmark y.change
    test table bookmark = λ i. (one.table i == table) && bytes_eq (one.bookmark i) bookmark

    at : (table : ℕ) (bookmark : List ℕ) → after_item base x table bookmark ≡ after_item other y table bookmark
    at table bookmark = λ i. after i table bookmark

    elsewhere : (table : ℕ) (bookmark : List ℕ) → is_change_of table bookmark x.change ≡ false → base table bookmark ≡ other table bookmark
    elsewhere table bookmark e =
        sym (ap (λ b. cond b (record_after x.change (base table bookmark)) (base table bookmark)) e)
        ∙ at table bookmark
        ∙ ap (λ b. cond b (record_after y.change (other table bookmark)) (other table bookmark)) (sym (test table bookmark) ∙ e)

    -- a lock leaves its record as it is
    locked : (b : Bool) (change : Change) (seen : Option RecordFields) → record_after change seen ≡ seen → cond b (record_after change seen) seen ≡ seen
    locked true change seen e = e
    locked false change seen e = refl

    here : (table : ℕ) (bookmark : List ℕ) (b : Bool) → is_rewrite x.change ≡ b → is_change_of table bookmark x.change ≡ true → base table bookmark ≡ other table bookmark
    here table bookmark true rewrite e =
        let t : changed_table x.change ≡ table = eqb-true (changed_table x.change) table (and_left (changed_table x.change == table) (bytes_eq (changed_bookmark x.change) bookmark) e) in
        let k : changed_bookmark x.change ≡ bookmark = same_bytes (changed_bookmark x.change) bookmark (and_right (changed_table x.change == table) (bytes_eq (changed_bookmark x.change) bookmark) e) in
        (λ i. base (sym t i) (sym k i))
        ∙ sym before_x ∙ one.before stands rewrite ∙ before_y
        ∙ (λ i. other (sym one.table i) (sym one.bookmark i)) ∙ (λ i. other (t i) (k i))
    here table bookmark false rewrite e =
        sym (locked (is_change_of table bookmark x.change) x.change (base table bookmark) (lock_leaves x.change rewrite plain (base table bookmark)))
        ∙ at table bookmark
        ∙ locked (is_change_of table bookmark y.change) y.change (other table bookmark)
        (lock_leaves y.change (rewrite_told y.change ∙ sym (ap rewrites one.kind) ∙ sym (rewrite_told x.change) ∙ rewrite) plain_y (other table bookmark))

    by : (table : ℕ) (bookmark : List ℕ) (b : Bool) → is_change_of table bookmark x.change ≡ b → base table bookmark ≡ other table bookmark
    by table bookmark true e = here table bookmark (is_rewrite x.change) refl e
    by table bookmark false e = elsewhere table bookmark e

    point : (table : ℕ) (bookmark : List ℕ) → base table bookmark ≡ other table bookmark
    point table bookmark = by table bookmark (is_change_of table bookmark x.change) refl

-- the change itself
change_same : (x y : PastChange) → AreOne x y → IsUncopied x → IsUncopied y → (base other : Records) → after_item base x ≡ after_item other y → x.change ≡ y.change
change_same x y one p q base other after =
    change_told x.change p (base (changed_table x.change) (changed_bookmark x.change))
    ∙ (λ i. change_by (one.kind i) (one.table i) (one.bookmark i) (made i))
    ∙ sym (change_told y.change q (other (changed_table y.change) (changed_bookmark y.change)))
  where
    own : (z : PastChange) (records : Records) → after_item records z (changed_table z.change) (changed_bookmark z.change) ≡ record_after z.change (records (changed_table z.change) (changed_bookmark z.change))
    own z records =
        ap (λ b. cond b (record_after z.change (records (changed_table z.change) (changed_bookmark z.change))) (records (changed_table z.change) (changed_bookmark z.change))) (at_itself z.change)

    made : record_after x.change (base (changed_table x.change) (changed_bookmark x.change)) ≡ record_after y.change (other (changed_table y.change) (changed_bookmark y.change))
    made = sym (own x base) ∙ (λ i. after i (one.table i) (one.bookmark i)) ∙ own y other

-- ---- a sum that stands, by the records that hold numbers

-- a sum tells the record that it found
sum_told : (P Q : RecordFields → Type 0) (c : Change) → is_sum c ≡ true → GoesBack P c → GoesBack Q c → (r s : Option RecordFields) → IfSome r P → IfSome s Q → record_after c r ≡ record_after c s → r ≡ s
sum_told P Q (Put table bookmark copied values) sum back back_too r s p q e = impossible sum
sum_told P Q (Drop table bookmark) sum back back_too r s p q e = impossible sum
sum_told P Q (Hold table bookmark) sum back back_too r s p q e = impossible sum
sum_told P Q (Add table bookmark column amount) sum back back_too None None p q e = refl
sum_told P Q (Add table bookmark column amount) sum back back_too None (Some w) p q e = absurd (nothing e)
  where
    nothing : None ≡ Some (with_sum w column.0 amount) → ⊥
    nothing e = cc
sum_told P Q (Add table bookmark column amount) sum back back_too (Some v) None p q e = absurd (nothing (sym e))
  where
    nothing : None ≡ Some (with_sum v column.0 amount) → ⊥
    nothing e = cc
sum_told P Q (Add table bookmark column amount) sum back back_too (Some v) (Some w) p q e =
    ap Some (sym (back v p) ∙ ap (λ (o : Option RecordFields). with_sum (unwrap_or o []) column.0 (neg_ℤ amount)) e ∙ back_too w q)

-- so it tells all records before it
sum_before_same : (P Q : ℕ → List ℕ → RecordFields → Type 0) (x y : PastChange) → x.change ≡ y.change → is_sum x.change ≡ true → TakesBack P x → TakesBack Q y → (base other : Records)
    → ((table : ℕ) (bookmark : List ℕ) → IfSome (base table bookmark) (P table bookmark)) → ((table : ℕ) (bookmark : List ℕ) → IfSome (other table bookmark) (Q table bookmark)) → after_item base x ≡ after_item other y → base ≡ other
sum_before_same P Q x y same sum takes takes_too base other first first_too after = λ i table bookmark. by table bookmark (is_change_of table bookmark x.change) refl i
  where
    at : (table : ℕ) (bookmark : List ℕ) → cond (is_change_of table bookmark x.change) (record_after x.change (base table bookmark)) (base table bookmark) ≡ cond (is_change_of table bookmark x.change) (record_after x.change (other table bookmark)) (other table bookmark)
    at table bookmark = (λ i. after i table bookmark) ∙ sym (ap (λ (c : Change). cond (is_change_of table bookmark c) (record_after c (other table bookmark)) (other table bookmark)) same)

    own : base (changed_table x.change) (changed_bookmark x.change) ≡ other (changed_table x.change) (changed_bookmark x.change)
    own = sum_told (P (changed_table x.change) (changed_bookmark x.change)) (Q (changed_table x.change) (changed_bookmark x.change)) x.change sum takes.1
        (subst (λ (c : Change). GoesBack (Q (changed_table c) (changed_bookmark c)) c) (sym same) takes_too.1)
        (base (changed_table x.change) (changed_bookmark x.change)) (other (changed_table x.change) (changed_bookmark x.change)) (first (changed_table x.change) (changed_bookmark x.change)) (first_too (changed_table x.change) (changed_bookmark x.change))
        (sym (ap (λ b. cond b (record_after x.change (base (changed_table x.change) (changed_bookmark x.change))) (base (changed_table x.change) (changed_bookmark x.change))) (at_itself x.change))
        ∙ at (changed_table x.change) (changed_bookmark x.change)
        ∙ ap (λ b. cond b (record_after x.change (other (changed_table x.change) (changed_bookmark x.change))) (other (changed_table x.change) (changed_bookmark x.change))) (at_itself x.change))

    by : (table : ℕ) (bookmark : List ℕ) (b : Bool) → is_change_of table bookmark x.change ≡ b → base table bookmark ≡ other table bookmark
    by table bookmark true e =
        let t : changed_table x.change ≡ table = eqb-true (changed_table x.change) table (and_left (changed_table x.change == table) (bytes_eq (changed_bookmark x.change) bookmark) e) in
        let k : changed_bookmark x.change ≡ bookmark = same_bytes (changed_bookmark x.change) bookmark (and_right (changed_table x.change == table) (bytes_eq (changed_bookmark x.change) bookmark) e) in
        (λ i. base (sym t i) (sym k i)) ∙ own ∙ (λ i. other (t i) (k i))
    by table bookmark false e =
        sym (ap (λ b. cond b (record_after x.change (base table bookmark)) (base table bookmark)) e)
        ∙ at table bookmark
        ∙ ap (λ b. cond b (record_after x.change (other table bookmark)) (other table bookmark)) e

-- ---- all of them

abbrev pub LeavesAfter : PastChange → Type 0
LeavesAfter item = item.after ≡ record_after item.change item.before

-- what is known of kept changes and their starting point: the records before and after them, and that a sum can be taken back
pub record IsKnownPast (tables : List Table) (P : ℕ → List ℕ → RecordFields → Type 0) (base : Records) (items : List PastChange) : Type 0 where
  pub befores : HasBefores base items
  pub afters : AllByRecursion LeavesAfter items
  pub uncopied : AreUncopied items
  pub there : AllByRecursion (λ item. is_some (table_with_id tables (changed_table item.change)) ≡ true) items
  pub escrow : AllByRecursion (λ item. IfSome (table_with_id tables (changed_table item.change)) (λ t. AddsToEscrow (schema_of t) item.change)) items
  pub sums : (id : ℕ) → IfSome (table_with_id tables id) (λ t. HasSumBefores t.columns t.id base items)
  pub first : (table : ℕ) (bookmark : List ℕ) → IfSome (base table bookmark) (P table bookmark)
  pub back : AllByRecursion (TakesBack P) items

rest_known : (tables : List Table) (P : ℕ → List ℕ → RecordFields → Type 0) (base : Records) (x : PastChange) (xs : List PastChange) → IsKnownPast tables P base (x ∷ xs) → IsKnownPast tables P (cond (is_standing x) (after_item base x) base) xs
rest_known tables P base x xs known = record {
  befores = known.befores.1;
  afters = known.afters.1;
  uncopied = known.uncopied.1;
  there = known.there.1;
  escrow = known.escrow.1;
  sums = λ id. some_map (λ t. HasSumBefores t.columns t.id base (x ∷ xs)) (λ t. HasSumBefores t.columns t.id (cond (is_standing x) (after_item base x) base) xs) (λ t had. had.1) (table_with_id tables id) (known.sums id);
  first = λ table bookmark. elim (is_standing x) as (λ b. IfSome (cond b (after_item base x) base table bookmark) (P table bookmark)) [ true ↦ left table bookmark | false ↦ known.first table bookmark ];
  back = known.back.1;
}
  where
    left : (table : ℕ) (bookmark : List ℕ) → IfSome (after_item base x table bookmark) (P table bookmark)
    left table bookmark = elim (is_change_of table bookmark x.change) as (λ b. is_change_of table bookmark x.change ≡ b → IfSome (cond b (record_after x.change (base table bookmark)) (base table bookmark)) (P table bookmark)) [
      | true ↦ λ e.
          subst (λ (t : ℕ). IfSome (record_after x.change (base t bookmark)) (P t bookmark)) (eqb-true (changed_table x.change) table (and_left (changed_table x.change == table) (bytes_eq (changed_bookmark x.change) bookmark) e))
          (subst (λ (k : List ℕ). IfSome (record_after x.change (base (changed_table x.change) k)) (P (changed_table x.change) k)) (same_bytes (changed_bookmark x.change) bookmark (and_right (changed_table x.change == table) (bytes_eq (changed_bookmark x.change) bookmark) e))
          (known.back.0.0 (base (changed_table x.change) (changed_bookmark x.change)) (known.first (changed_table x.change) (changed_bookmark x.change))))
      | false ↦ λ e. known.first table bookmark
    ] refl

-- the record before a sum that stands, but for its sums
sum_before : (tables : List Table) (P : ℕ → List ℕ → RecordFields → Type 0) (base : Records) (x : PastChange) (xs : List PastChange) → IsKnownPast tables P base (x ∷ xs) → is_standing x ≡ true → is_sum x.change ≡ true
    → AreSameButForSums (columns_of (table_with_id tables (changed_table x.change))) x.before (base (changed_table x.change) (changed_bookmark x.change))
sum_before tables P base x xs known stands sum = by (table_with_id tables (changed_table x.change)) refl known.there.0 (known.sums (changed_table x.change))
  where
    by : (o : Option Table) → table_with_id tables (changed_table x.change) ≡ o → is_some o ≡ true → IfSome o (λ t. HasSumBefores t.columns t.id base (x ∷ xs)) → AreSameButForSums (columns_of o) x.before (base (changed_table x.change) (changed_bookmark x.change))
    by None f there had = impossible there
    by (Some t) f there had = had.0 stands sum (sym (id_of tables (changed_table x.change) t f))

-- a sum is of an escrow column
sum_of_escrow : (tables : List Table) (P : ℕ → List ℕ → RecordFields → Type 0) (base : Records) (x : PastChange) (xs : List PastChange) → IsKnownPast tables P base (x ∷ xs) → IsOfEscrow (columns_of (table_with_id tables (changed_table x.change))) x.change
sum_of_escrow tables P base x xs known = by (table_with_id tables (changed_table x.change)) known.there.0 known.escrow.0
  where
    at : (t : Table) (c : Change) → AddsToEscrow (schema_of t) c → IsOfEscrow t.columns c
    at t (Put table bookmark copied values) adds = tt
    at t (Drop table bookmark) adds = tt
    at t (Hold table bookmark) adds = tt
    at t (Add table bookmark column amount) adds = adds.0

    by : (o : Option Table) → is_some o ≡ true → IfSome o (λ t. AddsToEscrow (schema_of t) x.change) → IsOfEscrow (columns_of o) x.change
    by None there adds = impossible there
    by (Some t) there adds = at t x.change adds

-- what the kept changes and their starting point come to
pub record IsOnePast (tables : List Table) (base other : Records) (xs ys : List PastChange) : Type 0 where
  pub base_same : base ≡ other
  pub essence : map (essential_change tables) xs ≡ map (essential_change tables) ys

-- one change more, in front
one_more : (tables others : List Table) → ((id : ℕ) → columns_of (table_with_id tables id) ≡ columns_of (table_with_id others id)) → (P Q : ℕ → List ℕ → RecordFields → Type 0) (x y : PastChange) (xs ys : List PastChange) (h : HeldRecord) → Matches x h → Matches y h
    → (base other : Records) → IsKnownPast tables P base (x ∷ xs) → IsKnownPast others Q other (y ∷ ys)
    → IsOnePast tables (cond (is_standing x) (after_item base x) base) (cond (is_standing y) (after_item other y) other) xs ys → IsOnePast tables base other (x ∷ xs) (y ∷ ys)
one_more tables others alike P Q x y xs ys h m n base other known known_too rest = by (is_undone x.status) refl
  where
    one : AreOne x y
    one = are_one x y h m n

    forgot : is_undone x.status ≡ true → IsOnePast tables base other (x ∷ xs) (y ∷ ys)
    forgot undone =
        let left : is_standing x ≡ false = ap not undone in
        let right : is_standing y ≡ false = ap (λ (s : Status). not (is_undone s)) (sym one.status) ∙ left in
        record {
          base_same = sym (ap (λ b. cond b (after_item base x) base) left) ∙ rest.base_same ∙ ap (λ b. cond b (after_item other y) other) right;
          essence = λ i. undone_essence tables x y one known.uncopied.0 known_too.uncopied.0 undone i ∷ rest.essence i;
        }

    stood : is_undone x.status ≡ false → is_standing y ≡ true
    stood stands = ap (λ (s : Status). not (is_undone s)) (sym one.status) ∙ ap not stands

    left_same : is_undone x.status ≡ false → after_item base x ≡ after_item other y
    left_same stands = sym (ap (λ b. cond b (after_item base x) base) (ap not stands)) ∙ rest.base_same ∙ ap (λ b. cond b (after_item other y) other) (stood stands)

    -- no sum
    whole : is_undone x.status ≡ false → is_sum x.change ≡ false → IsOnePast tables base other (x ∷ xs) (y ∷ ys)
    whole stands plain =
        let after = left_same stands in
        let change : x.change ≡ y.change = change_same x y one known.uncopied.0 known_too.uncopied.0 base other after in
        let plain_too : is_sum y.change ≡ false = ap is_sum (sym change) ∙ plain in
        let before_x : x.before ≡ base (changed_table x.change) (changed_bookmark x.change) = known.befores.0 (ap not stands) plain in
        let before_y : y.before ≡ other (changed_table y.change) (changed_bookmark y.change) = known_too.befores.0 (stood stands) plain_too in
        let same : base ≡ other = before_same x y one (ap not stands) plain plain_too base other before_x before_y after in
        let before : x.before ≡ y.before = before_x ∙ (λ i. same i (one.table i) (one.bookmark i)) ∙ sym before_y in
        let made : x.after ≡ y.after = known.afters.0 ∙ (λ i. record_after (change i) (before i)) ∙ sym known_too.afters.0 in
        record {
          base_same = same;
          essence = λ i.
              (standing_essence tables x stands plain
              ∙ (λ j. record {
                item = record { number = one.number j; session = one.session j; level = one.level j; change = change j; before = before j; after = made j; status = one.status j };
                cost = one.cost j;
              })
              ∙ sym (standing_essence tables y (sym (ap is_undone one.status) ∙ stands) plain_too)) i ∷ rest.essence i;
        }

    -- a sum
    added : is_undone x.status ≡ false → is_sum x.change ≡ true → IsOnePast tables base other (x ∷ xs) (y ∷ ys)
    added stands sum =
        let after = left_same stands in
        let change : x.change ≡ y.change = change_same x y one known.uncopied.0 known_too.uncopied.0 base other after in
        let sum_too : is_sum y.change ≡ true = ap is_sum (sym change) ∙ sum in
        let same : base ≡ other = sum_before_same P Q x y change sum known.back.0 known_too.back.0 base other known.first known_too.first after in
        let here : List Column = columns_of (table_with_id tables (changed_table x.change)) in
        let here_too : List Column = columns_of (table_with_id tables (changed_table y.change)) in
        let before_y : AreSameButForSums here_too y.before (other (changed_table y.change) (changed_bookmark y.change)) =
        subst (λ (columns : List Column). AreSameButForSums columns y.before (other (changed_table y.change) (changed_bookmark y.change))) (sym (alike (changed_table y.change))) (sum_before others Q other y ys known_too (stood stands) sum_too) in
        let before : option_map (without_sums here) x.before ≡ option_map (without_sums here_too) y.before =
        sum_before tables P base x xs known (ap not stands) sum
        ∙ (λ i. option_map (without_sums (columns_of (table_with_id tables (one.table i)))) (same i (one.table i) (one.bookmark i)))
        ∙ sym before_y in
        let escrow : IsOfEscrow here x.change = sum_of_escrow tables P base x xs known in
        let escrow_too : IsOfEscrow here_too y.change = subst (λ (c : Change). IsOfEscrow (columns_of (table_with_id tables (changed_table c))) c) change escrow in
        let made : option_map (without_sums here) x.after ≡ option_map (without_sums here_too) y.after =
        ap (option_map (without_sums here)) known.afters.0
        ∙ sum_same here x.change escrow sum x.before
        ∙ before
        ∙ sym (sum_same here_too y.change escrow_too sum_too y.before)
        ∙ sym (ap (option_map (without_sums here_too)) known_too.afters.0) in
        record {
          base_same = same;
          essence = λ i.
              (summed_essence tables x stands sum
              ∙ (λ j. record {
                item = record { number = one.number j; session = one.session j; level = one.level j; change = change j; before = before j; after = made j; status = one.status j };
                cost = one.cost j;
              })
              ∙ sym (summed_essence tables y (sym (ap is_undone one.status) ∙ stands) sum_too)) i ∷ rest.essence i;
        }

    of_kind : (b : Bool) → is_sum x.change ≡ b → is_undone x.status ≡ false → IsOnePast tables base other (x ∷ xs) (y ∷ ys)
    of_kind true sum stands = added stands sum
    of_kind false plain stands = whole stands plain

    by : (b : Bool) → is_undone x.status ≡ b → IsOnePast tables base other (x ∷ xs) (y ∷ ys)
    by true undone = forgot undone
    by false stands = of_kind (is_sum x.change) refl stands

pub one_past : (tables others : List Table) → ((id : ℕ) → columns_of (table_with_id tables id) ≡ columns_of (table_with_id others id)) → (P Q : ℕ → List ℕ → RecordFields → Type 0) (xs ys : List PastChange) (held : List HeldRecord) → AllMatch xs held → AllMatch ys held
    → (base other : Records) → IsKnownPast tables P base xs → IsKnownPast others Q other ys → records_after_items is_standing base xs ≡ records_after_items is_standing other ys → IsOnePast tables base other xs ys
one_past tables others alike P Q [] [] [] m n base other known known_too e = record { base_same = e; essence = refl }
one_past tables others alike P Q [] [] (h ∷ held) m n base other known known_too e = absurd m
one_past tables others alike P Q [] (y ∷ ys) [] m n base other known known_too e = absurd n
one_past tables others alike P Q [] (y ∷ ys) (h ∷ held) m n base other known known_too e = absurd m
one_past tables others alike P Q (x ∷ xs) [] [] m n base other known known_too e = absurd m
one_past tables others alike P Q (x ∷ xs) [] (h ∷ held) m n base other known known_too e = absurd n
one_past tables others alike P Q (x ∷ xs) (y ∷ ys) [] m n base other known known_too e = absurd m
one_past tables others alike P Q (x ∷ xs) (y ∷ ys) (h ∷ held) m n base other known known_too e =
    one_more tables others alike P Q x y xs ys h m.0 n.0 base other known known_too
    (one_past tables others alike P Q xs ys held m.1 n.1 (cond (is_standing x) (after_item base x) base) (cond (is_standing y) (after_item other y) other) (rest_known tables P base x xs known) (rest_known others Q other y ys known_too)
    (sym (folded-cons is_standing base x xs) ∙ e ∙ folded-cons is_standing other y ys))
