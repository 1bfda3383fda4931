-- Keys of a unique index that are free whenever a past change brings them.
use Rattle.std.proofs.Common.{◌≡◌, ℕ, Bool, true, false, ◌&&◌, ◌||◌, cond, List, [], ◌∷◌, Option, Some, refl, sym, ap, subst, ◌∙◌}
use Rattle.std.specs.Prelude.{not, ◌==◌, map, filter, length, nat_le, bytes_eq, if◌then◌else◌}
use Rattle.std.specs.List.{AllByRecursion, list_all, list_any}
use Rattle.std.specs.Ordering.{eq_by_cmp, nat_cmp}
use Rattle.std.specs.Cmp.Lexicographic.{slice_cmp, texts_ties}
use Rattle.std.proofs.lemmas.Bool.{and_from, eq-eqb, eqb-true}
use Rattle.column_set.specs.ChangedRecords.{changed_bookmark, changed_table}
use Rattle.column_set.specs.RecordValues.{RecordFields}
use Rattle.common_lemmas.proofs.Booleans.{and_left, and_right, impossible}
use Rattle.common_lemmas.proofs.Lists.{all_each, all_weaker}
use Rattle.common_lemmas.proofs.Numbers.{equal_bytes, same_bytes, self_equal}
use Rattle.database_state.specs.Conflicts.{yields_key}
use Rattle.database_state.specs.State.{PastChange, Transaction}
use Rattle.database_state.specs.Table.{Rows, Table, row_at, rows_of, schema_of, table_with_id}
use Rattle.index_derive.specs.declared.rules.IndexRule.{IndexRule}
use Rattle.index_derive.specs.declared.rules.Schema.{Schema}
use Rattle.laws_images.proofs.OpenedLemmas.TakenBack.{IsExact}
use Rattle.laws_versions.specs.History.{EachTwo, is_apart}
use Rattle.laws_versions.specs.Readers.{is_standing}
use Rattle.laws_versions.specs.Records.{Records, after_item, is_change_of, record_after, records_of}
use Rattle.laws_versions.specs.UniqueKeys.{BringsFreeKeys, BringsKey, HasFreeKeys, HasOwnKey, InKeyOrder}
use Rattle.image_findings.specs.KeyFindings.{HeldHistory, brings_key, had_key, holders, holders_after, is_free_through, is_unique_key, may_bring, without_holder}
use Rattle.image_findings.proofs.SoundRecords.{many}
use Rattle.image_findings.proofs.Tests.{or_first, or_second}

-- each change stands, and its record is what it makes of the one before
abbrev pub AreSteps : List PastChange → Type 0
AreSteps items = AllByRecursion (λ item. (is_standing item ≡ true) × (item.after ≡ record_after item.change item.before)) items

-- ---- one step

at_own : (item : PastChange) → is_change_of (changed_table item.change) (changed_bookmark item.change) item.change ≡ true
at_own item = and_from (changed_table item.change == changed_table item.change) (bytes_eq (changed_bookmark item.change) (changed_bookmark item.change)) (self_equal (changed_table item.change)) (equal_bytes (changed_bookmark item.change) (changed_bookmark item.change) refl)

-- what a record after a change has: it is the change's own one, or stood before
after_at : (table : ℕ) (C : List ℕ → Option RecordFields → Type 0) (records : Records) (item : PastChange) → item.before ≡ records (changed_table item.change) (changed_bookmark item.change) → item.after ≡ record_after item.change item.before
    → (changed_table item.change ≡ table → C (changed_bookmark item.change) item.after) → ((b : List ℕ) → is_change_of table b item.change ≡ false → C b (records table b)) → (b : List ℕ) → C b (after_item records item table b)
after_at table C records item exact made own other b = by (is_change_of table b item.change) refl
  where
    by : (x : Bool) → is_change_of table b item.change ≡ x → C b (cond x (record_after item.change (records table b)) (records table b))
    by true e =
        let t : changed_table item.change ≡ table = eqb-true (changed_table item.change) table (and_left (changed_table item.change == table) (bytes_eq (changed_bookmark item.change) b) e) in
        let k : changed_bookmark item.change ≡ b = same_bytes (changed_bookmark item.change) b (and_right (changed_table item.change == table) (bytes_eq (changed_bookmark item.change) b) e) in
        let is : item.after ≡ record_after item.change (records table b) = made ∙ ap (record_after item.change) (exact ∙ ap (λ n. records n (changed_bookmark item.change)) t ∙ ap (records table) k) in
        subst (C b) is (subst (λ (c : List ℕ). C c item.after) k (own t))
    by false e = other b e

next_exact : (records : Records) (item : PastChange) (items : List PastChange) → is_standing item ≡ true → IsExact (if is_standing item then after_item records item else records) items → IsExact (after_item records item) items
next_exact records item items stands e = subst (λ b. IsExact (cond b (after_item records item) records) items) stands e

module _ (rule : IndexRule) (schema : Schema) (table : ℕ) (transactions : ℕ → Option Transaction) where
  -- ---- of one key

  abbrev pub FreeAt : List ℕ → Records → List PastChange → Type 0
  FreeAt key records [] = Unit {0}
  FreeAt key records (item ∷ items) =
      (changed_table item.change ≡ table → (other : List ℕ) → BringsKey rule schema key item → bytes_eq (changed_bookmark item.change) other ≡ false → yields_key rule schema key (records table other) ≡ false) × FreeAt key (after_item records item) items

  abbrev pub OrderAt : List ℕ → PastChange → PastChange → Type 0
  OrderAt key earlier later =
      changed_table earlier.change ≡ table → changed_table later.change ≡ table → bytes_eq (changed_bookmark later.change) (changed_bookmark earlier.change) ≡ false → yields_key rule schema key earlier.before ≡ true → BringsKey rule schema key later
      → is_apart transactions earlier later ≡ true

  pub record IsFreeKey (base : Records) (items : List PastChange) (key : List ℕ) : Type 0 where
    pub at_first : (one other : List ℕ) → bytes_eq one other ≡ false → yields_key rule schema key (base table one) ≡ true → yields_key rule schema key (base table other) ≡ true → ⊥
    pub free : FreeAt key base items
    pub order : EachTwo (OrderAt key) items

  -- ---- of all keys

  all_free : (records : Records) (items : List PastChange) → AreSteps items → ((key : List ℕ) → FreeAt key records items) → BringsFreeKeys rule schema table records items
  all_free records [] steps free = tt
  all_free records (item ∷ items) steps free = (
    λ stands own key other brings apart. (free key).0 own other brings apart,
    subst (λ b. BringsFreeKeys rule schema table (cond b (after_item records item) records) items) (sym steps.0.0) (all_free (after_item records item) items steps.1 (λ key. (free key).1)),
  )

  one_order : (earlier : PastChange) (items : List PastChange) → ((key : List ℕ) → AllByRecursion (OrderAt key earlier) items) → AllByRecursion (InKeyOrder rule schema table transactions earlier) items
  one_order earlier [] order = tt
  one_order earlier (later ∷ items) order = ((λ one two meets. (order meets.3.0).0 meets.0 meets.1 meets.2 meets.3.1 meets.3.2), one_order earlier items (λ key. (order key).1))

  all_order : (items : List PastChange) → ((key : List ℕ) → EachTwo (OrderAt key) items) → EachTwo (InKeyOrder rule schema table transactions) items
  all_order [] order = tt
  all_order (item ∷ items) order = (one_order item items (λ key. (order key).0), all_order items (λ key. (order key).1))

  pub free_keys : (base : Records) (items : List PastChange) → AreSteps items → ((key : List ℕ) → IsFreeKey base items key) → HasFreeKeys rule schema table transactions base items
  free_keys base items steps each = record {
    at_first = λ one other key apart first second. (each key).at_first one other apart first second;
    free_keys = all_free base items steps (λ key. (each key).free);
    key_order = all_order items (λ key. (each key).order);
  }

  -- ---- a key that no record has

  none_free : (key : List ℕ) (records : Records) (items : List PastChange) → AllByRecursion (λ item. changed_table item.change ≡ table → yields_key rule schema key item.after ≡ false) items → FreeAt key records items
  none_free key records [] none = tt
  none_free key records (item ∷ items) none = ((λ own other brings apart. impossible (sym (none.0 own) ∙ brings.0)), none_free key (after_item records item) items none.1)

  none_order : (key : List ℕ) (items : List PastChange) → AllByRecursion (λ item. changed_table item.change ≡ table → yields_key rule schema key item.after ≡ false) items → EachTwo (OrderAt key) items
  none_order key [] none = tt
  none_order key (item ∷ items) none = (
    all_weaker (λ later. changed_table later.change ≡ table → yields_key rule schema key later.after ≡ false) (OrderAt key item) (λ later absent first second apart had brings. impossible (sym (absent second) ∙ brings.0)) items none.1,
    none_order key items none.1,
  )

  pub absent_key : (base : Records) (items : List PastChange) (key : List ℕ) → ((b : List ℕ) → yields_key rule schema key (base table b) ≡ false) → AllByRecursion (λ item. changed_table item.change ≡ table → yields_key rule schema key item.after ≡ false) items
      → IsFreeKey base items key
  absent_key base items key first none = record {
    at_first = λ one other apart had has. impossible (sym (first one) ∙ had);
    free = none_free key base items none;
    order = none_order key items none;
  }

  -- ---- keys that are bookmarks

  same_own : (key one other : List ℕ) → key ≡ one → key ≡ other → bytes_eq one other ≡ true
  same_own key one other e f = equal_bytes one other (sym e ∙ f)

  own_free : (key : List ℕ) (records : Records) (items : List PastChange) → IsExact records items → AreSteps items → ((b : List ℕ) → HasOwnKey rule schema b (records table b))
      → AllByRecursion (λ item. changed_table item.change ≡ table → HasOwnKey rule schema (changed_bookmark item.change) item.after) items → FreeAt key records items
  own_free key records [] exact steps first own = tt
  own_free key records (item ∷ items) exact steps first own = (
    (λ of other brings apart. none (own.0 of key brings.0) other apart (yields_key rule schema key (records table other)) refl),
    own_free key (after_item records item) items (next_exact records item items steps.0.0 exact.1) steps.1
        (after_at table (HasOwnKey rule schema) records item (exact.0 steps.0.0) steps.0.1 own.0 (λ b e. first b)) own.1,
  )
    where
      none : key ≡ changed_bookmark item.change → (other : List ℕ) → bytes_eq (changed_bookmark item.change) other ≡ false → (x : Bool) → yields_key rule schema key (records table other) ≡ x → x ≡ false
      none is other apart true e = impossible (sym apart ∙ same_own key (changed_bookmark item.change) other is (first other key e))
      none is other apart false e = refl

  own_order : (key : List ℕ) (items : List PastChange) → AllByRecursion (λ item. changed_table item.change ≡ table → HasOwnKey rule schema (changed_bookmark item.change) item.before × HasOwnKey rule schema (changed_bookmark item.change) item.after) items → EachTwo (OrderAt key) items
  own_order key [] own = tt
  own_order key (item ∷ items) own = (
    all_weaker (λ later. changed_table later.change ≡ table → HasOwnKey rule schema (changed_bookmark later.change) later.before × HasOwnKey rule schema (changed_bookmark later.change) later.after) (OrderAt key item)
        (λ later is one other apart had brings. impossible (sym apart ∙ same_own key (changed_bookmark later.change) (changed_bookmark item.change) ((is other).1 key brings.0) ((own.0 one).0 key had))) items own.1,
    own_order key items own.1,
  )

  pub own_key_free : (base : Records) (items : List PastChange) → IsExact base items → AreSteps items → ((b : List ℕ) → HasOwnKey rule schema b (base table b))
      → AllByRecursion (λ item. changed_table item.change ≡ table → HasOwnKey rule schema (changed_bookmark item.change) item.before × HasOwnKey rule schema (changed_bookmark item.change) item.after) items → (key : List ℕ) → IsFreeKey base items key
  own_key_free base items exact steps first own key = record {
    at_first = λ one other apart had has. impossible (sym apart ∙ same_own key one other (first one key had) (first other key has));
    free = own_free key base items exact steps first
        (all_weaker (λ item. changed_table item.change ≡ table → HasOwnKey rule schema (changed_bookmark item.change) item.before × HasOwnKey rule schema (changed_bookmark item.change) item.after)
        (λ item. changed_table item.change ≡ table → HasOwnKey rule schema (changed_bookmark item.change) item.after) (λ item is of. (is of).1) items own);
    order = own_order key items own;
  }

  -- ---- a key whose holders were followed

  abbrev Holds : List ℕ → List (List ℕ) → Records → Type 0
  Holds key list records = (b : List ℕ) → yields_key rule schema key (records table b) ≡ true → list_any (bytes_eq b) list ≡ true

  among_own : (own other : List ℕ) (list : List (List ℕ)) → list_all (bytes_eq own) list ≡ true → list_any (bytes_eq other) list ≡ true → bytes_eq own other ≡ true
  among_own own other [] all any = impossible any
  among_own own other (x ∷ list) all any = by (bytes_eq other x) refl any (among_own own other list (and_right (bytes_eq own x) (list_all (bytes_eq own) list) all))
    where
      by : (b : Bool) → bytes_eq other x ≡ b → (b || list_any (bytes_eq other) list) ≡ true → (list_any (bytes_eq other) list ≡ true → bytes_eq own other ≡ true) → bytes_eq own other ≡ true
      by true e any rest = ap (bytes_eq own) (same_bytes other x e) ∙ and_left (bytes_eq own x) (list_all (bytes_eq own) list) all
      by false e any rest = rest any

  stays_holder : (own b : List ℕ) (list : List (List ℕ)) → bytes_eq own b ≡ false → list_any (bytes_eq b) list ≡ true → list_any (bytes_eq b) (without_holder own list) ≡ true
  stays_holder own b [] apart any = any
  stays_holder own b (x ∷ list) apart any = by (bytes_eq own x) refl (bytes_eq b x) refl any (stays_holder own b list apart)
    where
      by : (o : Bool) → bytes_eq own x ≡ o → (y : Bool) → bytes_eq b x ≡ y → (y || list_any (bytes_eq b) list) ≡ true → (list_any (bytes_eq b) list ≡ true → list_any (bytes_eq b) (without_holder own list) ≡ true)
          → list_any (bytes_eq b) (cond (not o) (x ∷ without_holder own list) (without_holder own list)) ≡ true
      by true e true f any rest = impossible (sym apart ∙ ap (bytes_eq own) (same_bytes b x f) ∙ e)
      by true e false f any rest = rest any
      by false e true f any rest = or_first (bytes_eq b x) (list_any (bytes_eq b) (without_holder own list)) f
      by false e false f any rest = or_second (bytes_eq b x) (list_any (bytes_eq b) (without_holder own list)) (rest any)

  in_after : (key : List ℕ) (item : PastChange) (list : List (List ℕ)) (b : List ℕ) → list_any (bytes_eq b) (without_holder (changed_bookmark item.change) list) ≡ true → list_any (bytes_eq b) (holders_after rule schema key item list) ≡ true
  in_after key item list b any = by (yields_key rule schema key item.after)
    where
      by : (x : Bool) → list_any (bytes_eq b) (cond x (changed_bookmark item.change ∷ without_holder (changed_bookmark item.change) list) (without_holder (changed_bookmark item.change) list)) ≡ true
      by true = or_second (bytes_eq b (changed_bookmark item.change)) (list_any (bytes_eq b) (without_holder (changed_bookmark item.change) list)) any
      by false = any

  own_in_after : (key : List ℕ) (item : PastChange) (list : List (List ℕ)) → yields_key rule schema key item.after ≡ true → list_any (bytes_eq (changed_bookmark item.change)) (holders_after rule schema key item list) ≡ true
  own_in_after key item list has =
      ap (λ x. list_any (bytes_eq (changed_bookmark item.change)) (cond x (changed_bookmark item.change ∷ without_holder (changed_bookmark item.change) list) (without_holder (changed_bookmark item.change) list))) has
      ∙ or_first (bytes_eq (changed_bookmark item.change) (changed_bookmark item.change)) (list_any (bytes_eq (changed_bookmark item.change)) (without_holder (changed_bookmark item.change) list)) (equal_bytes (changed_bookmark item.change) (changed_bookmark item.change) refl)

  may : (a b : Bool) → (not a || b) ≡ true → a ≡ true → b ≡ true
  may true b h e = h
  may false b h e = impossible e

  brings_is : (key : List ℕ) (item : PastChange) → BringsKey rule schema key item → brings_key rule schema key item ≡ true
  brings_is key item brings = and_from (yields_key rule schema key item.after) (not (yields_key rule schema key item.before)) brings.0 (ap not brings.1)

  not_own : (item : PastChange) (b : List ℕ) → (changed_table item.change == table) ≡ true → is_change_of table b item.change ≡ false → bytes_eq (changed_bookmark item.change) b ≡ false
  not_own item b own e = sym (ap (λ x. x && bytes_eq (changed_bookmark item.change) b) own) ∙ e

  follow_free : (key : List ℕ) (earlier : List PastChange) (list : List (List ℕ)) (records : Records) (items : List PastChange) → IsExact records items → AreSteps items → Holds key list records
      → is_free_through rule schema table key transactions earlier list items ≡ true → FreeAt key records items
  follow_free key earlier list records [] exact steps holds h = tt
  follow_free key earlier list records (item ∷ items) exact steps holds h =
      by (changed_table item.change == table) refl h
      (λ next. follow_free key (item ∷ earlier) (holders_after rule schema key item list) (after_item records item) items (next_exact records item items steps.0.0 exact.1) steps.1 next)
      (λ next. follow_free key earlier list (after_item records item) items (next_exact records item items steps.0.0 exact.1) steps.1 next)
    where
      own : List ℕ
      own = changed_bookmark item.change

      bring : Bool
      bring = not (brings_key rule schema key item) || may_bring rule schema table key transactions earlier list item

      others : Bool
      others = is_free_through rule schema table key transactions (item ∷ earlier) (holders_after rule schema key item list) items

      none : bring ≡ true → (other : List ℕ) → BringsKey rule schema key item → bytes_eq own other ≡ false → (x : Bool) → yields_key rule schema key (records table other) ≡ x → x ≡ false
      none b other brings apart true e =
          let all = and_left (list_all (bytes_eq own) list) (list_all (λ e. not (had_key rule schema table key item e) || is_apart transactions e item) earlier)
          (may (brings_key rule schema key item) (may_bring rule schema table key transactions earlier list item) b (brings_is key item brings)) in
          impossible (sym apart ∙ among_own own other list all (holds other e))
      none b other brings apart false e = refl

      by : (x : Bool) → (changed_table item.change == table) ≡ x → cond x (bring && others) (is_free_through rule schema table key transactions earlier list items) ≡ true
          → (Holds key (holders_after rule schema key item list) (after_item records item) → others ≡ true → FreeAt key (after_item records item) items)
          → (Holds key list (after_item records item) → is_free_through rule schema table key transactions earlier list items ≡ true → FreeAt key (after_item records item) items) → FreeAt key records (item ∷ items)
      by true e h here there = (
        (λ of other brings apart. none (and_left bring others h) other brings apart (yields_key rule schema key (records table other)) refl),
        here
            (after_at table (λ b o. yields_key rule schema key o ≡ true → list_any (bytes_eq b) (holders_after rule schema key item list) ≡ true) records item (exact.0 steps.0.0) steps.0.1 (λ of has. own_in_after key item list has)
            (λ b f has. in_after key item list b (stays_holder own b list (not_own item b e f) (holds b has))))
            (and_right bring others h),
      )
      by false e h here there = (
        (λ of other brings apart. impossible (sym e ∙ eq-eqb (changed_table item.change) table of)),
        there
            (after_at table (λ b o. yields_key rule schema key o ≡ true → list_any (bytes_eq b) list ≡ true) records item (exact.0 steps.0.0) steps.0.1
            (λ of has. impossible (sym e ∙ eq-eqb (changed_table item.change) table of)) (λ b f has. holds b has)) h,
      )

  -- each later change that brings the key is apart from the earlier ones that had it
  abbrev IsApartFrom : List ℕ → List PastChange → PastChange → Type 0
  IsApartFrom key earlier later = changed_table later.change ≡ table → brings_key rule schema key later ≡ true → list_all (λ e. not (had_key rule schema table key later e) || is_apart transactions e later) earlier ≡ true

  follow_marks : (key : List ℕ) (earlier : List PastChange) (list : List (List ℕ)) (items : List PastChange) → is_free_through rule schema table key transactions earlier list items ≡ true → AllByRecursion (IsApartFrom key earlier) items
  follow_marks key earlier list [] h = tt
  follow_marks key earlier list (item ∷ items) h =
      by (changed_table item.change == table) refl h (λ next. follow_marks key (item ∷ earlier) (holders_after rule schema key item list) items next) (λ next. follow_marks key earlier list items next)
    where
      bring : Bool
      bring = not (brings_key rule schema key item) || may_bring rule schema table key transactions earlier list item

      others : Bool
      others = is_free_through rule schema table key transactions (item ∷ earlier) (holders_after rule schema key item list) items

      by : (x : Bool) → (changed_table item.change == table) ≡ x → cond x (bring && others) (is_free_through rule schema table key transactions earlier list items) ≡ true
          → (others ≡ true → AllByRecursion (IsApartFrom key (item ∷ earlier)) items) → (is_free_through rule schema table key transactions earlier list items ≡ true → AllByRecursion (IsApartFrom key earlier) items) → AllByRecursion (IsApartFrom key earlier) (item ∷ items)
      by true e h here there = (
        (λ of brings. and_right (list_all (bytes_eq (changed_bookmark item.change)) list) (list_all (λ e. not (had_key rule schema table key item e) || is_apart transactions e item) earlier)
            (may (brings_key rule schema key item) (may_bring rule schema table key transactions earlier list item) (and_left bring others h) brings)),
        all_weaker (IsApartFrom key (item ∷ earlier)) (IsApartFrom key earlier)
            (λ later is of brings. and_right (not (had_key rule schema table key later item) || is_apart transactions item later) (list_all (λ e. not (had_key rule schema table key later e) || is_apart transactions e later) earlier) (is of brings)) items (here (and_right bring others h)),
      )
      by false e h here there = ((λ of brings. impossible (sym e ∙ eq-eqb (changed_table item.change) table of)), there h)

  had_is : (key : List ℕ) (earlier later : PastChange) → changed_table earlier.change ≡ table → bytes_eq (changed_bookmark later.change) (changed_bookmark earlier.change) ≡ false → yields_key rule schema key earlier.before ≡ true → had_key rule schema table key later earlier ≡ true
  had_is key earlier later of apart had =
      and_from (changed_table earlier.change == table) (not (bytes_eq (changed_bookmark later.change) (changed_bookmark earlier.change)) && yields_key rule schema key earlier.before) (eq-eqb (changed_table earlier.change) table of)
      (and_from (not (bytes_eq (changed_bookmark later.change) (changed_bookmark earlier.change))) (yields_key rule schema key earlier.before) (ap not apart) had)

  follow_order : (key : List ℕ) (earlier : List PastChange) (list : List (List ℕ)) (items : List PastChange) → is_free_through rule schema table key transactions earlier list items ≡ true → EachTwo (OrderAt key) items
  follow_order key earlier list [] h = tt
  follow_order key earlier list (item ∷ items) h =
      by (changed_table item.change == table) refl h (λ next. follow_order key (item ∷ earlier) (holders_after rule schema key item list) items next) (λ next. follow_order key earlier list items next)
    where
      bring : Bool
      bring = not (brings_key rule schema key item) || may_bring rule schema table key transactions earlier list item

      others : Bool
      others = is_free_through rule schema table key transactions (item ∷ earlier) (holders_after rule schema key item list) items

      by : (x : Bool) → (changed_table item.change == table) ≡ x → cond x (bring && others) (is_free_through rule schema table key transactions earlier list items) ≡ true
          → (others ≡ true → EachTwo (OrderAt key) items) → (is_free_through rule schema table key transactions earlier list items ≡ true → EachTwo (OrderAt key) items) → EachTwo (OrderAt key) (item ∷ items)
      by true e h here there = (
        all_weaker (IsApartFrom key (item ∷ earlier)) (OrderAt key item)
            (λ later is one other apart had brings. may (had_key rule schema table key later item) (is_apart transactions item later)
            (and_left (not (had_key rule schema table key later item) || is_apart transactions item later) (list_all (λ e. not (had_key rule schema table key later e) || is_apart transactions e later) earlier) (is other (brings_is key later brings)))
            (had_is key item later one apart had)) items
            (follow_marks key (item ∷ earlier) (holders_after rule schema key item list) items (and_right bring others h)),
        here (and_right bring others h),
      )
      by false e h here there = (all_each (OrderAt key item) (λ later one. impossible (sym e ∙ eq-eqb (changed_table item.change) table one)) items, there h)

  -- ---- at first

  is_holder : (key : List ℕ) (rows : Rows) (b : List ℕ) → yields_key rule schema key (row_at rows b) ≡ true → list_any (bytes_eq b) (holders rule schema key rows) ≡ true
  is_holder key [] b has = impossible has
  is_holder key (row ∷ rows) b has = by (eq_by_cmp (slice_cmp nat_cmp) b row.0) refl has (is_holder key rows b)
    where
      more : (x : Bool) → list_any (bytes_eq b) (holders rule schema key rows) ≡ true → list_any (bytes_eq b) (map (λ (r : List ℕ × RecordFields). r.0) (cond x (row ∷ filter (λ r. yields_key rule schema key (Some r.1)) rows) (filter (λ r. yields_key rule schema key (Some r.1)) rows))) ≡ true
      more true any = or_second (bytes_eq b row.0) (list_any (bytes_eq b) (holders rule schema key rows)) any
      more false any = any

      by : (x : Bool) → eq_by_cmp (slice_cmp nat_cmp) b row.0 ≡ x → yields_key rule schema key (cond x (Some row.1) (row_at rows b)) ≡ true → (yields_key rule schema key (row_at rows b) ≡ true → list_any (bytes_eq b) (holders rule schema key rows) ≡ true)
          → list_any (bytes_eq b) (holders rule schema key (row ∷ rows)) ≡ true
      by true e has rest =
          ap (λ x. list_any (bytes_eq b) (map (λ (r : List ℕ × RecordFields). r.0) (cond x (row ∷ filter (λ r. yields_key rule schema key (Some r.1)) rows) (filter (λ r. yields_key rule schema key (Some r.1)) rows)))) has
          ∙ or_first (bytes_eq b row.0) (list_any (bytes_eq b) (holders rule schema key rows)) (texts_ties b row.0 ∙ e)
      by false e has rest = more (yields_key rule schema key (Some row.1)) (rest has)

  same_holder : (one other : List ℕ) (list : List (List ℕ)) → nat_le (length list) 1 ≡ true → list_any (bytes_eq one) list ≡ true → list_any (bytes_eq other) list ≡ true → bytes_eq one other ≡ true
  same_holder one other [] few a b = impossible a
  same_holder one other (x ∷ []) few a b = equal_bytes one other (same_bytes one x (alone (bytes_eq one x) a) ∙ sym (same_bytes other x (alone (bytes_eq other x) b)))
    where
      alone : (y : Bool) → (y || false) ≡ true → y ≡ true
      alone true e = e
      alone false e = e
  same_holder one other (x ∷ y ∷ list) few a b = impossible (many (length list) few)

pub followed_key : (history : HeldHistory) (t : Table) (rule : IndexRule) → IsExact (records_of history.first) history.past → AreSteps history.past → (key : List ℕ) → is_unique_key history t rule key ≡ true
    → IsFreeKey rule (schema_of t) t.id history.transactions (records_of history.first) history.past key
followed_key history t rule exact steps key h =
    let first = holders rule (schema_of t) key (rows_of (table_with_id history.first t.id)) in
    let few = and_left (nat_le (length first) 1) (is_free_through rule (schema_of t) t.id key history.transactions [] first history.past) h in
    let through = and_right (nat_le (length first) 1) (is_free_through rule (schema_of t) t.id key history.transactions [] first history.past) h in
    record {
      at_first = λ one other apart had has. impossible (sym apart ∙ same_holder rule (schema_of t) t.id history.transactions one other first few
          (is_holder rule (schema_of t) t.id history.transactions key (rows_of (table_with_id history.first t.id)) one had) (is_holder rule (schema_of t) t.id history.transactions key (rows_of (table_with_id history.first t.id)) other has));
      free = follow_free rule (schema_of t) t.id history.transactions key [] first (records_of history.first) history.past exact steps (λ b has. is_holder rule (schema_of t) t.id history.transactions key (rows_of (table_with_id history.first t.id)) b has) through;
      order = follow_order rule (schema_of t) t.id history.transactions key [] first history.past through;
    }
