-- A key is free through a history whose changes bring free keys.
use Rattle.std.proofs.Common.{◌≡◌, ℕ, Bool, true, false, not, ◌&&◌, ◌||◌, List, [], ◌∷◌, Option, refl, sym, ap, subst, ◌∙◌}
use Rattle.std.specs.Prelude.{◌==◌, bytes_eq, if◌then◌else◌}
use Rattle.std.specs.List.{AllByRecursion, list_all}
use Rattle.std.proofs.lemmas.Bool.{and_from, eqb-true}
use Rattle.column_set.specs.ChangedRecords.{changed_bookmark, changed_table}
use Rattle.common_lemmas.proofs.Booleans.{and_left, and_right, by_test, impossible}
use Rattle.common_lemmas.proofs.Lists.{all_listed, all_weaker}
use Rattle.database_state.specs.Conflicts.{yields_key}
use Rattle.database_state.specs.State.{PastChange, Transaction}
use Rattle.index_derive.specs.declared.rules.IndexRule.{IndexRule}
use Rattle.index_derive.specs.declared.rules.Schema.{Schema}
use Rattle.laws_versions.specs.History.{EachTwo, is_apart}
use Rattle.laws_versions.specs.Readers.{is_standing}
use Rattle.laws_versions.specs.Records.{Records, after_item, record_after, records_after}
use Rattle.laws_versions.specs.UniqueKeys.{BringsFreeKeys, InKeyOrder}
use Rattle.image_findings.specs.KeyFindings.{brings_key, had_key, holders_after, is_free_through, may_bring, without_holder}

-- the record that a change leaves has the key where the one after it is told to have it
abbrev pub LeavesKeys : IndexRule → Schema → ℕ → List ℕ → Records → List PastChange → Type 0
LeavesKeys rule schema table key records [] = Unit {0}
LeavesKeys rule schema table key records (item ∷ items) =
    (changed_table item.change ≡ table → yields_key rule schema key item.after ≡ true → yields_key rule schema key (records_after records item.change table (changed_bookmark item.change)) ≡ true)
    × LeavesKeys rule schema table key (records_after records item.change) items

abbrev pub HaveKey : IndexRule → Schema → ℕ → List ℕ → Records → List (List ℕ) → Type 0
HaveKey rule schema table key records list = AllByRecursion (λ bookmark. yields_key rule schema key (records table bookmark) ≡ true) list

-- ---- bookmarks that have the key

-- a record that a change is not of stays
other_stays : (rule : IndexRule) (schema : Schema) (table : ℕ) (key : List ℕ) (records : Records) (item : PastChange) (bookmark : List ℕ) → ((changed_table item.change == table) && bytes_eq (changed_bookmark item.change) bookmark) ≡ false
    → yields_key rule schema key (records table bookmark) ≡ true → yields_key rule schema key (records_after records item.change table bookmark) ≡ true
other_stays rule schema table key records item bookmark other has =
    ap (λ (b : Bool). yields_key rule schema key (if b then record_after item.change (records table bookmark) else records table bookmark)) other ∙ has

and_none : (a b : Bool) → b ≡ false → (a && b) ≡ false
and_none true b e = e
and_none false b e = refl

without_stays : (rule : IndexRule) (schema : Schema) (table : ℕ) (key : List ℕ) (records : Records) (item : PastChange) (list : List (List ℕ)) → HaveKey rule schema table key records list
    → HaveKey rule schema table key (records_after records item.change) (without_holder (changed_bookmark item.change) list)
without_stays rule schema table key records item [] has = tt
without_stays rule schema table key records item (bookmark ∷ list) has = by (without_stays rule schema table key records item list has.1) (bytes_eq (changed_bookmark item.change) bookmark) refl
  where
    by : HaveKey rule schema table key (records_after records item.change) (without_holder (changed_bookmark item.change) list) → (b : Bool) → bytes_eq (changed_bookmark item.change) bookmark ≡ b
        → HaveKey rule schema table key (records_after records item.change) (if not b then bookmark ∷ without_holder (changed_bookmark item.change) list else without_holder (changed_bookmark item.change) list)
    by rest true e = rest
    by rest false e = (other_stays rule schema table key records item bookmark (and_none (changed_table item.change == table) (bytes_eq (changed_bookmark item.change) bookmark) e) has.0, rest)

after_stays : (rule : IndexRule) (schema : Schema) (table : ℕ) (key : List ℕ) (records : Records) (item : PastChange) (list : List (List ℕ)) → HaveKey rule schema table key records list
    → (yields_key rule schema key item.after ≡ true → yields_key rule schema key (records_after records item.change table (changed_bookmark item.change)) ≡ true)
    → HaveKey rule schema table key (records_after records item.change) (holders_after rule schema key item list)
after_stays rule schema table key records item list has left = by (yields_key rule schema key item.after) refl (without_stays rule schema table key records item list has)
  where
    by : (b : Bool) → yields_key rule schema key item.after ≡ b → HaveKey rule schema table key (records_after records item.change) (without_holder (changed_bookmark item.change) list)
        → HaveKey rule schema table key (records_after records item.change) (if b then changed_bookmark item.change ∷ without_holder (changed_bookmark item.change) list else without_holder (changed_bookmark item.change) list)
    by true e rest = (left e, rest)
    by false e rest = rest

-- ---- who brings a key may

turned : (b : Bool) → not b ≡ true → b ≡ false
turned true e = sym e
turned false e = refl

own_holder : (rule : IndexRule) (schema : Schema) (table : ℕ) (key : List ℕ) (records : Records) (item : PastChange) → ((other : List ℕ) → bytes_eq (changed_bookmark item.change) other ≡ false → yields_key rule schema key (records table other) ≡ false)
    → (bookmark : List ℕ) → yields_key rule schema key (records table bookmark) ≡ true → bytes_eq (changed_bookmark item.change) bookmark ≡ true
own_holder rule schema table key records item free bookmark has = by_test (bytes_eq (changed_bookmark item.change) bookmark) (λ e. e) (λ e. impossible (sym (free bookmark e) ∙ has))

apart_or : (rule : IndexRule) (schema : Schema) (table : ℕ) (key : List ℕ) (transactions : ℕ → Option Transaction) (item : PastChange) → is_standing item ≡ true → (changed_table item.change == table) ≡ true → brings_key rule schema key item ≡ true
    → (e : PastChange) → is_standing e ≡ true → InKeyOrder rule schema table transactions e item → (not (had_key rule schema table key item e) || is_apart transactions e item) ≡ true
apart_or rule schema table key transactions item stands own brings e before order = by (had_key rule schema table key item e) refl
  where
    by : (b : Bool) → had_key rule schema table key item e ≡ b → (not b || is_apart transactions e item) ≡ true
    by false f = refl
    by true f =
        let first = changed_table e.change == table in
        let other = not (bytes_eq (changed_bookmark item.change) (changed_bookmark e.change)) in
        let had = yields_key rule schema key e.before in
        let rest = and_right first (other && had) f in
        order before stands (
          eqb-true (changed_table e.change) table (and_left first (other && had) f),
          eqb-true (changed_table item.change) table own,
          turned (bytes_eq (changed_bookmark item.change) (changed_bookmark e.change)) (and_left other had rest),
          (key, and_right other had rest, (and_left (yields_key rule schema key item.after) (not (yields_key rule schema key item.before)) brings, turned (yields_key rule schema key item.before) (and_right (yields_key rule schema key item.after) (not (yields_key rule schema key item.before)) brings))),
        )

-- ---- through all changes

abbrev pub OrderedBefore : IndexRule → Schema → ℕ → (ℕ → Option Transaction) → List PastChange → PastChange → Type 0
OrderedBefore rule schema table transactions items e = (is_standing e ≡ true) × AllByRecursion (InKeyOrder rule schema table transactions e) items

pub free_through : (rule : IndexRule) (schema : Schema) (table : ℕ) (key : List ℕ) (transactions : ℕ → Option Transaction) (records : Records) (items earlier : List PastChange) (list : List (List ℕ)) → AllByRecursion (λ item. is_standing item ≡ true) items
    → BringsFreeKeys rule schema table records items → EachTwo (InKeyOrder rule schema table transactions) items → AllByRecursion (OrderedBefore rule schema table transactions items) earlier → LeavesKeys rule schema table key records items → HaveKey rule schema table key records list
    → is_free_through rule schema table key transactions earlier list items ≡ true
free_through rule schema table key transactions records [] earlier list stands free two before left has = refl
free_through rule schema table key transactions records (item ∷ items) earlier list stands free two before left has =
    by (λ more holders prior own. free_through rule schema table key transactions (records_after records item.change) items more holders stands.1 (subst (λ (b : Bool). BringsFreeKeys rule schema table (if b then after_item records item else records) items) stands.0 free.1) two.1 prior left.1 own)
    (changed_table item.change == table) refl
  where
    Ordered : List PastChange → Type 0
    Ordered more = AllByRecursion (OrderedBefore rule schema table transactions items) more

    later : Ordered earlier
    later = all_weaker (OrderedBefore rule schema table transactions (item ∷ items)) (OrderedBefore rule schema table transactions items) (λ e o. (o.0, o.1.1)) earlier before

    may : (changed_table item.change == table) ≡ true → (b : Bool) → brings_key rule schema key item ≡ b → (not b || may_bring rule schema table key transactions earlier list item) ≡ true
    may own false e = refl
    may own true e =
        let brought : (yields_key rule schema key item.after ≡ true) × (yields_key rule schema key item.before ≡ false) = (and_left (yields_key rule schema key item.after) (not (yields_key rule schema key item.before)) e, turned (yields_key rule schema key item.before) (and_right (yields_key rule schema key item.after) (not (yields_key rule schema key item.before)) e)) in
        and_from (list_all (bytes_eq (changed_bookmark item.change)) list) (list_all (λ p. not (had_key rule schema table key item p) || is_apart transactions p item) earlier)
        (all_listed (bytes_eq (changed_bookmark item.change)) list
        (all_weaker (λ bookmark. yields_key rule schema key (records table bookmark) ≡ true) (λ bookmark. bytes_eq (changed_bookmark item.change) bookmark ≡ true)
        (own_holder rule schema table key records item (λ other differ. free.0 stands.0 (eqb-true (changed_table item.change) table own) key other brought differ)) list has))
        (all_listed (λ p. not (had_key rule schema table key item p) || is_apart transactions p item) earlier
        (all_weaker (OrderedBefore rule schema table transactions (item ∷ items)) (λ p. (not (had_key rule schema table key item p) || is_apart transactions p item) ≡ true) (λ p o. apart_or rule schema table key transactions item stands.0 own e p o.0 o.1.0) earlier before))

    by : ((more : List PastChange) (holders : List (List ℕ)) → Ordered more → HaveKey rule schema table key (records_after records item.change) holders → is_free_through rule schema table key transactions more holders items ≡ true)
        → (b : Bool) → (changed_table item.change == table) ≡ b
        → (if b then (not (brings_key rule schema key item) || may_bring rule schema table key transactions earlier list item) && is_free_through rule schema table key transactions (item ∷ earlier) (holders_after rule schema key item list) items
        else is_free_through rule schema table key transactions earlier list items) ≡ true
    by again false e =
        again earlier list later
        (all_weaker (λ bookmark. yields_key rule schema key (records table bookmark) ≡ true) (λ bookmark. yields_key rule schema key (records_after records item.change table bookmark) ≡ true)
        (λ bookmark own. other_stays rule schema table key records item bookmark (ap (λ (x : Bool). x && bytes_eq (changed_bookmark item.change) bookmark) e) own) list has)
    by again true e =
        and_from (not (brings_key rule schema key item) || may_bring rule schema table key transactions earlier list item) (is_free_through rule schema table key transactions (item ∷ earlier) (holders_after rule schema key item list) items)
        (may e (brings_key rule schema key item) refl)
        (again (item ∷ earlier) (holders_after rule schema key item list) ((stands.0, two.0), later) (after_stays rule schema table key records item list has (left.0 (eqb-true (changed_table item.change) table e))))
