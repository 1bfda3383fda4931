-- Changes that are taken back leave what the others made.
use Rattle.std.proofs.Common.{◌≡◌, ℕ, Bool, true, false, not, ◌&&◌, cond, List, [], ◌∷◌, map, filter, Option, Some, None, refl, sym, ap, subst, ◌∙◌, arith}
use Rattle.std.specs.Prelude.{neg_ℤ, ◌==◌, bytes_eq, fold, is_some, option_map, IfSome}
use Rattle.std.specs.List.{AllByRecursion}
use Rattle.std.proofs.lemmas.Bool.Decides.{nat_tests}
use Rattle.std.proofs.lemmas.Bool.{and_from, eqb-true}
use Rattle.common_lemmas.proofs.Booleans.{and_left, and_right, impossible}
use Rattle.common_lemmas.proofs.Numbers.{equal_bytes, same_bytes, self_equal}
use Rattle.jet_base.specs.Ids.{table_id}
use Rattle.column_set.specs.declared.changes.Change.{Change}
use Rattle.column_set.specs.declared.changes.Change.TheVariants.{Put, Drop, Hold, Add}
use Rattle.column_set.specs.RecordValues.{RecordFields}
use Rattle.database_state.specs.Table.{Table, table_with_id}
use Rattle.database_state.specs.Changes.{is_sum, tables_after, with_sum}
use Rattle.column_set.specs.ChangedRecords.{changed_table, changed_bookmark}
use Rattle.database_state.specs.State.{PastChange, undone}
use Rattle.database_state.specs.Conflicts.{collide}
use Rattle.laws_versions.specs.Records.{Records, IsThere, after_item, is_change_of, record_after, records_after, records_after_items, records_of}
use Rattle.laws_versions.proofs.ChangeLemmas.Projecting.{projected}
use Rattle.laws_versions.specs.History.{EachTwo, HasBefores, without_rows}
use Rattle.laws_versions.specs.KeptSteps.{undone_where}
use Rattle.laws_versions.specs.Readers.{is_standing, is_rewrite as rewrites}
use Rattle.laws_versions.proofs.HistoryLemmas.Befores.{GoesApart}
use Rattle.laws_versions.proofs.HistoryLemmas.EndEntries.{same_definitions}
use Rattle.laws_versions.proofs.HistoryLemmas.FoundRecord.{fold-at}
use Rattle.laws_versions.proofs.HistoryLemmas.Keeping.{undone_change as same_change}
use Rattle.laws_versions.proofs.HistoryLemmas.Undoing.{IsLastOf, made_last}
use Rattle.laws_versions.proofs.HistoryLemmas.Viewing.{same_there}
use Rattle.laws_versions.specs.Variants.{EachLeaves}
use Rattle.laws_versions.proofs.KeyLemmas.VariantKeys.{each_variant}
use Rattle.version_store.specs.HeldChanges.{kind_of}
use Rattle.laws_engine.specs.HeldRecords.{HeldRecord, as_undone, inverse, inverse_of, undone_change}
use Rattle.laws_engine.specs.VersionedTables.{tables_taken_back}
use Rattle.laws_engine.specs.Holding.{AllMatch, AllRise, Matches}
use Rattle.laws_engine.proofs.TableLemmas.Rising.{tables_rise}

-- ---- definitions, order and matches

pub taken_defined : (test : HeldRecord → Bool) (held : List HeldRecord) (tables : List Table) → map without_rows (tables_taken_back test held tables) ≡ map without_rows tables
taken_defined test [] tables = refl
taken_defined test (h ∷ held) tables = by (test h) (taken_defined test held tables)
  where
    by : (b : Bool) → map without_rows (tables_taken_back test held tables) ≡ map without_rows tables
        → map without_rows (cond b (tables_after (tables_taken_back test held tables) (inverse h)) (tables_taken_back test held tables)) ≡ map without_rows tables
    by true rest = same_definitions (tables_taken_back test held tables) (inverse h ∷ []) ∙ rest
    by false rest = rest

pub taken_rise : (test : HeldRecord → Bool) (held : List HeldRecord) (tables : List Table) → AllRise tables → AllRise (tables_taken_back test held tables)
taken_rise test [] tables rise = rise
taken_rise test (h ∷ held) tables rise = by (test h) (taken_rise test held tables rise)
  where
    by : (b : Bool) → AllRise (tables_taken_back test held tables) → AllRise (cond b (tables_after (tables_taken_back test held tables) (inverse h)) (tables_taken_back test held tables))
    by true rest = tables_rise (tables_taken_back test held tables) (inverse h) rest
    by false rest = rest

-- the two tests agree on a kept change and the held one that it is
abbrev pub SameTest : (PastChange → Bool) → (HeldRecord → Bool) → Type 0
SameTest gone test = (item : PastChange) (h : HeldRecord) → Matches item h → test h ≡ gone item

one_undone : (gone : PastChange → Bool) (test : HeldRecord → Bool) → SameTest gone test → (item : PastChange) (h : HeldRecord) → Matches item h → Matches (undone_where gone item) (undone_change test h)
one_undone gone test same item h m = subst (λ b. Matches (undone_where gone item) (cond b (as_undone h) h)) (sym (same item h m)) (by (gone item))
  where
    by : (b : Bool) → Matches (cond b (record item { status = undone }) item) (cond b (as_undone h) h)
    by true = record { number = m.number; session = m.session; level = m.level; kind = m.kind; table = m.table; bookmark = m.bookmark; status = refl; before = λ live rewrite. impossible live; cost = m.cost }
    by false = m

pub all_undone_match : (gone : PastChange → Bool) (test : HeldRecord → Bool) → SameTest gone test → (items : List PastChange) (held : List HeldRecord) → AllMatch items held → AllMatch (map (undone_where gone) items) (map (undone_change test) held)
all_undone_match gone test same [] [] m = tt
all_undone_match gone test same [] (h ∷ held) m = absurd m
all_undone_match gone test same (item ∷ items) [] m = absurd m
all_undone_match gone test same (item ∷ items) (h ∷ held) m = (one_undone gone test same item h m.0, all_undone_match gone test same items held m.1)

-- ---- records

-- taking back one change gives its record what it was before
abbrev restored : Change → Option RecordFields → Records → Records
restored change before records table bookmark = cond (is_change_of table bookmark change) before (records table bookmark)

-- a test of the very record
pub at_itself : (change : Change) → is_change_of (changed_table change) (changed_bookmark change) change ≡ true
at_itself change = ap (λ b. b && bytes_eq (changed_bookmark change) (changed_bookmark change)) (self_equal (changed_table change)) ∙ equal_bytes (changed_bookmark change) (changed_bookmark change) refl

-- what holds of the change's own record holds where the test says so
at_its_record : (change : Change) (P : ℕ → List ℕ → Type 0) (table : ℕ) (bookmark : List ℕ) → is_change_of table bookmark change ≡ true → P (changed_table change) (changed_bookmark change) → P table bookmark
at_its_record change P table bookmark e p =
    subst (λ k. P table k) (same_bytes (changed_bookmark change) bookmark (and_right (changed_table change == table) _ e))
    (subst (λ n. P n (changed_bookmark change)) (eqb-true (changed_table change) table (and_left _ _ e)) p)

rewritten : (change : Change) (held before : Option RecordFields) (records : Records) → held ≡ before → records_after records (inverse_of (kind_of change) (changed_table change) (changed_bookmark change) held) ≡ restored change held records
    → records_after records (inverse_of (kind_of change) (changed_table change) (changed_bookmark change) held) ≡ restored change before records
rewritten change held before records e p = p ∙ ap (λ (x : Option RecordFields). restored change x records) e

-- a lock is taken back by nothing, and leaves what it found
kind_inverse : (change : Change) (held before : Option RecordFields) (records : Records) → is_sum change ≡ false → (rewrites change ≡ true → held ≡ before) → (rewrites change ≡ false → before ≡ records (changed_table change) (changed_bookmark change))
    → records_after records (inverse_of (kind_of change) (changed_table change) (changed_bookmark change) held) ≡ restored change before records
kind_inverse (Put t b copied values) None before records none same lock = rewritten (Put t b copied values) None before records (same refl) refl
kind_inverse (Put t b copied values) (Some old) before records none same lock = rewritten (Put t b copied values) (Some old) before records (same refl) refl
kind_inverse (Drop t b) None before records none same lock = rewritten (Drop t b) None before records (same refl) refl
kind_inverse (Drop t b) (Some old) before records none same lock = rewritten (Drop t b) (Some old) before records (same refl) refl
kind_inverse (Hold t b) held before records none same lock = λ i table bookmark. at table bookmark i
  where
    at : (table : ℕ) (bookmark : List ℕ) → cond (is_change_of table bookmark (Hold t b)) (records table bookmark) (records table bookmark) ≡ cond (is_change_of table bookmark (Hold t b)) before (records table bookmark)
    at table bookmark = by (is_change_of table bookmark (Hold t b)) refl
      where
        by : (x : Bool) → is_change_of table bookmark (Hold t b) ≡ x → cond x (records table bookmark) (records table bookmark) ≡ cond x before (records table bookmark)
        by false e = refl
        by true e = at_its_record (Hold t b) (λ n k. records n k ≡ before) table bookmark e (sym (lock refl))
kind_inverse (Add t b column amount) held before records none same lock = impossible (sym none)

-- what goes leaves its record to no change that stays behind it
apart_from : (item later : Change) → collide item later ≡ false → is_sum item ≡ false → is_change_of (changed_table item) (changed_bookmark item) later ≡ false
apart_from item later e none = by (is_change_of (changed_table item) (changed_bookmark item) later) refl
  where
    turned : (a b : ℕ) → (a == b) ≡ true → (b == a) ≡ true
    turned a b e = grind (arith, nat_tests)

    by : (x : Bool) → is_change_of (changed_table item) (changed_bookmark item) later ≡ x → x ≡ false
    by false f = refl
    by true f =
        sym (ap (λ b. b && not (is_sum item && is_sum later)) (and_from _ _ (turned (changed_table later) (changed_table item) (and_left _ _ f))
        (equal_bytes (changed_bookmark item) (changed_bookmark later) (sym (same_bytes (changed_bookmark later) (changed_bookmark item) (and_right (changed_table later == changed_table item) _ f)))))
        ∙ ap (λ b. not (b && is_sum later)) none)
        ∙ e

untouched : (gone : PastChange → Bool) (item : PastChange) → gone item ≡ true → is_sum item.change ≡ false → (items : List PastChange) → AllByRecursion (GoesApart gone item) items → (base : Records)
    → records_after_items is_standing base (map (undone_where gone) items) (changed_table item.change) (changed_bookmark item.change) ≡ base (changed_table item.change) (changed_bookmark item.change)
untouched gone item goes none [] apart base = refl
untouched gone item goes none (next ∷ items) apart base = by (gone next) (is_standing next) refl refl (untouched gone item goes none items apart.1 base) (untouched gone item goes none items apart.1 (after_item base next))
  where
    t : ℕ
    t = changed_table item.change

    b : List ℕ
    b = changed_bookmark item.change

    rest : List PastChange
    rest = map (undone_where gone) items

    by : (x y : Bool) → gone next ≡ x → is_standing next ≡ y → records_after_items is_standing base rest t b ≡ base t b → records_after_items is_standing (after_item base next) rest t b ≡ after_item base next t b
        → fold after_item base (filter is_standing (cond x (record next { status = undone }) next ∷ rest)) t b ≡ base t b
    by true y e f without with_it = without
    by false false e f without with_it = ap (λ c. fold after_item base (cond c (next ∷ filter is_standing rest) (filter is_standing rest)) t b) f ∙ without
    by false true e f without with_it =
        ap (λ c. fold after_item base (cond c (next ∷ filter is_standing rest) (filter is_standing rest)) t b) f ∙ with_it
        ∙ ap (λ c. cond c (record_after next.change (base t b)) (base t b)) (apart_from item.change next.change (apart.0 goes f e) none)

-- ---- sums

-- the opposite sum gives the very record back
abbrev pub GoesBack : (RecordFields → Type 0) → Change → Type 0
GoesBack P (Put table bookmark copied values) = Unit {0}
GoesBack P (Drop table bookmark) = Unit {0}
GoesBack P (Hold table bookmark) = Unit {0}
GoesBack P (Add table bookmark column amount) = (values : RecordFields) → P values → with_sum (with_sum values column.0 amount) column.0 (neg_ℤ amount) ≡ values

-- it does so of each record of the change that has something, which the change leaves
abbrev pub TakesBack : (ℕ → List ℕ → RecordFields → Type 0) → PastChange → Type 0
TakesBack P item =
    ((before : Option RecordFields) → IfSome before (P (changed_table item.change) (changed_bookmark item.change)) → IfSome (record_after item.change before) (P (changed_table item.change) (changed_bookmark item.change)))
    × GoesBack (P (changed_table item.change) (changed_bookmark item.change)) item.change

sum_inverse : (P : RecordFields → Type 0) (c : Change) (held : Option RecordFields) (records : Records) → is_sum c ≡ true → GoesBack P c → IfSome (records (changed_table c) (changed_bookmark c)) P
    → records_after (records_after records c) (inverse_of (kind_of c) (changed_table c) (changed_bookmark c) held) ≡ records
sum_inverse P (Put t b copied values) held records sum goes first = impossible sum
sum_inverse P (Drop t b) held records sum goes first = impossible sum
sum_inverse P (Hold t b) held records sum goes first = impossible sum
sum_inverse P (Add t b column amount) held records sum goes first = λ i table bookmark. at table bookmark i
  where
    twice : (o : Option RecordFields) → IfSome o P → option_map (λ values. with_sum values column.0 (neg_ℤ amount)) (option_map (λ values. with_sum values column.0 amount) o) ≡ o
    twice None p = refl
    twice (Some values) p = ap (λ (v : RecordFields). Some v) (goes values p)

    at : (table : ℕ) (bookmark : List ℕ) → records_after (records_after records (Add t b column amount)) (Add (table_id t.0) b column (neg_ℤ amount)) table bookmark ≡ records table bookmark
    at table bookmark = elim (is_change_of table bookmark (Add t b column amount)) as (λ x. is_change_of table bookmark (Add t b column amount) ≡ x
        → cond x (option_map (λ values. with_sum values column.0 (neg_ℤ amount)) (cond x (option_map (λ values. with_sum values column.0 amount) (records table bookmark)) (records table bookmark)))
        (cond x (option_map (λ values. with_sum values column.0 amount) (records table bookmark)) (records table bookmark)) ≡ records table bookmark) [
          | true ↦ λ f. twice (records table bookmark) (at_its_record (Add t b column amount) (λ n k. IfSome (records n k) P) table bookmark f first)
          | false ↦ λ f. refl
        ] refl

-- what a change leaves, it leaves undone too
leaves_undone : (P : ℕ → List ℕ → RecordFields → Type 0) (gone : PastChange → Bool) (t : ℕ) (b : List ℕ) (items : List PastChange) → AllByRecursion (TakesBack P) items → EachLeaves (P t b) t b (map (undone_where gone) items)
leaves_undone P gone t b [] exact = tt
leaves_undone P gone t b (item ∷ items) exact = (
  subst (λ (c : Change). is_change_of t b c ≡ true → (before : Option RecordFields) → IfSome before (P t b) → IfSome (record_after c before) (P t b)) (sym (same_change gone item))
      (λ mine. at_its_record item.change (λ n k. (before : Option RecordFields) → IfSome before (P n k) → IfSome (record_after item.change before) (P n k)) t b mine exact.0.0),
  leaves_undone P gone t b items exact.1,
)

-- what goes is the last of its record among those that stay
last_of : (gone : PastChange → Bool) (item : PastChange) → gone item ≡ true → (items : List PastChange) → AllByRecursion (GoesApart gone item) items → IsLastOf item (map (undone_where gone) items)
last_of gone item goes [] apart = tt
last_of gone item goes (next ∷ items) apart = (
  elim (gone next) as (λ x. gone next ≡ x → is_standing (cond x (record next { status = undone }) next) ≡ true → collide item.change (cond x (record next { status = undone }) next).change ≡ false) [
    | true ↦ λ f live. impossible live
    | false ↦ λ f live. apart.0 goes live f
  ] refl,
  last_of gone item goes items apart.1,
)

-- ---- all of them

pub taken_records : (P : ℕ → List ℕ → RecordFields → Type 0) (gone : PastChange → Bool) (test : HeldRecord → Bool) → SameTest gone test → ((item : PastChange) → gone item ≡ true → is_standing item ≡ true) → (tables : List Table) (kept : List PastChange) (held : List HeldRecord) (base : Records)
    → AllMatch kept held → HasBefores base kept → ((table : ℕ) (bookmark : List ℕ) → IfSome (base table bookmark) (P table bookmark)) → AllByRecursion (TakesBack P) kept → EachTwo (GoesApart gone) kept → AllByRecursion (λ item. IsThere tables item.change) kept → records_of tables ≡ records_after_items is_standing base kept
    → records_of (tables_taken_back test held tables) ≡ records_after_items is_standing base (map (undone_where gone) kept)
taken_records P gone test same stands tables [] [] base m befores first exact apart there e = e
taken_records P gone test same stands tables [] (h ∷ held) base m befores first exact apart there e = absurd m
taken_records P gone test same stands tables (item ∷ items) [] base m befores first exact apart there e = absurd m
taken_records P gone test same stands tables (item ∷ items) (h ∷ held) base m befores first exact apart there e =
    ap (λ b. records_of (cond b (tables_after (tables_taken_back test held tables) (inverse h)) (tables_taken_back test held tables))) (same item h m.0)
    ∙ by (gone item) (is_standing item) refl refl befores.0 befores.1 e (taken_records P gone test same stands tables items held base m.1) (taken_records P gone test same stands tables items held (after_item base item) m.1)
  where
    later : List Table
    later = tables_taken_back test held tables

    rest : List PastChange
    rest = map (undone_where gone) items

    Step : Records → Type 0
    Step start = HasBefores start items → ((table : ℕ) (bookmark : List ℕ) → IfSome (start table bookmark) (P table bookmark)) → AllByRecursion (TakesBack P) items → EachTwo (GoesApart gone) items → AllByRecursion (λ item. IsThere tables item.change) items → records_of tables ≡ records_after_items is_standing start items
        → records_of later ≡ records_after_items is_standing start rest

    t : ℕ
    t = changed_table item.change

    b : List ℕ
    b = changed_bookmark item.change

    first_after : (table : ℕ) (bookmark : List ℕ) → IfSome (after_item base item table bookmark) (P table bookmark)
    first_after table bookmark = elim (is_change_of table bookmark item.change) as (λ x. is_change_of table bookmark item.change ≡ x → IfSome (cond x (record_after item.change (base table bookmark)) (base table bookmark)) (P table bookmark)) [
      | true ↦ λ f. at_its_record item.change (λ n k. IfSome (record_after item.change (base n k)) (P n k)) table bookmark f (exact.0.0 (base t b) (first t b))
      | false ↦ λ f. first table bookmark
    ] refl

    made : Records
    made = records_after_items is_standing (after_item base item) rest

    inverse_table : (k : Change) (o : Option RecordFields) → changed_table (inverse_of (kind_of k) (changed_table k) (changed_bookmark k) o) ≡ changed_table k
    inverse_table (Put t b copied values) None = refl
    inverse_table (Put t b copied values) (Some old) = refl
    inverse_table (Drop t b) None = refl
    inverse_table (Drop t b) (Some old) = refl
    inverse_table (Hold t b) o = refl
    inverse_table (Add t b column amount) o = refl

    there_still : is_some (table_with_id later (changed_table (inverse h))) ≡ is_some (table_with_id tables (changed_table (inverse h)))
    there_still = same_there later tables (taken_defined test held tables) (changed_table (inverse h))

    there_at : is_some (table_with_id tables (changed_table (inverse h))) ≡ true
    there_at = ap (λ n. is_some (table_with_id tables n)) ((λ i. changed_table (inverse_of (m.0.kind i) (m.0.table i) (m.0.bookmark i) h.before)) ∙ inverse_table item.change h.before) ∙ there.0

    inverted : records_of later ≡ made → records_of (tables_after later (inverse h)) ≡ records_after made (inverse_of (kind_of item.change) t b h.before)
    inverted is =
        projected later (inverse h) (there_still ∙ there_at)
        ∙ ap (λ (r : Records). records_after r (inverse h)) is
        ∙ (λ i. records_after made (inverse_of (m.0.kind i) (m.0.table i) (m.0.bookmark i) h.before))

    back_sum : gone item ≡ true → is_standing item ≡ true → is_sum item.change ≡ true → records_of later ≡ made → records_of (tables_after later (inverse h)) ≡ records_after_items is_standing base rest
    back_sum goes stays sum is =
        inverted is
        ∙ ap (λ (r : Records). records_after r (inverse_of (kind_of item.change) t b h.before))
        (ap (λ c. fold after_item base (cond c (item ∷ filter is_standing rest) (filter is_standing rest))) (sym stays) ∙ made_last base [] item rest stays (last_of gone item goes items apart.0))
        ∙ sum_inverse (P t b) item.change h.before (records_after_items is_standing base rest) sum exact.0.1 (each_variant (P t b) is_standing t b rest (leaves_undone P gone t b items exact.1) base (first t b))

    back : gone item ≡ true → is_standing item ≡ true → is_sum item.change ≡ false → item.before ≡ base t b → records_of later ≡ made → records_of (tables_after later (inverse h)) ≡ records_after_items is_standing base rest
    back goes stays none found is =
        inverted is
        ∙ kind_inverse item.change h.before (base t b) made none (λ rewrite. m.0.before stays rewrite ∙ found) locked
        ∙ (λ i table bookmark. at table bookmark i)
      where
        locked : rewrites item.change ≡ false → base t b ≡ made t b
        locked off = sym (untouched gone item goes none items apart.0 (after_item base item) ∙ ap (λ c. cond c (record_after item.change (base t b)) (base t b)) (at_itself item.change) ∙ found_by item.change none off (base t b))
          where
            found_by : (c : Change) → is_sum c ≡ false → rewrites c ≡ false → (o : Option RecordFields) → record_after c o ≡ o
            found_by (Put t b copied values) none off o = impossible (sym off)
            found_by (Drop t b) none off o = impossible (sym off)
            found_by (Hold t b) none off o = refl
            found_by (Add t b column amount) none off o = impossible (sym none)

        at : (table : ℕ) (bookmark : List ℕ) → restored item.change (base t b) made table bookmark ≡ records_after_items is_standing base rest table bookmark
        at table bookmark = one (is_change_of table bookmark item.change) refl
          where
            one : (x : Bool) → is_change_of table bookmark item.change ≡ x → cond x (base t b) (made table bookmark) ≡ records_after_items is_standing base rest table bookmark
            one true f = at_its_record item.change (λ n k. base t b ≡ records_after_items is_standing base rest n k) table bookmark f (sym (untouched gone item goes none items apart.0 base))
            one false f = fold-at (filter is_standing rest) table bookmark (after_item base item) base (ap (λ c. cond c (record_after item.change (base table bookmark)) (base table bookmark)) f)

    by : (x y : Bool) → gone item ≡ x → is_standing item ≡ y → (is_standing item ≡ true → is_sum item.change ≡ false → item.before ≡ base t b) → HasBefores (cond y (after_item base item) base) items
        → records_of tables ≡ fold after_item base (cond y (item ∷ filter is_standing items) (filter is_standing items)) → Step base → Step (after_item base item)
        → records_of (cond x (tables_after later (inverse h)) later) ≡ fold after_item base (filter is_standing (cond x (record item { status = undone }) item ∷ rest))
    by false true f g found more is without with_it = with_it more first_after exact.1 apart.1 there.1 is ∙ ap (λ c. fold after_item base (cond c (item ∷ filter is_standing rest) (filter is_standing rest))) (sym g)
    by false false f g found more is without with_it = without more first exact.1 apart.1 there.1 is ∙ ap (λ c. fold after_item base (cond c (item ∷ filter is_standing rest) (filter is_standing rest))) (sym g)
    by true true f g found more is without with_it =
        elim (is_sum item.change) as (λ x. is_sum item.change ≡ x → records_of (tables_after later (inverse h)) ≡ records_after_items is_standing base rest) [
          | true ↦ λ sum. back_sum f g sum (with_it more first_after exact.1 apart.1 there.1 is)
          | false ↦ λ none. back f g none (found g none) (with_it more first_after exact.1 apart.1 there.1 is)
        ] refl
    by true false f g found more is without with_it = impossible (sym g ∙ stands item f)
