-- Each record that a held change is of has a variant: the newest one, or one before a put or a drop.
use Rattle.std.proofs.Common.{◌≡◌, ℕ, ℤ, Bool, true, false, not, ◌&&◌, ◌||◌, List, [], ◌∷◌, Option, Some, None, refl, sym, ap, subst, ◌∙◌}
use Rattle.std.specs.Prelude.{◌==◌, bytes_eq, filter, fold, is_some, is_none, option_map, if◌then◌else◌}
use Rattle.std.specs.List.{AllByRecursion, list_any}
use Rattle.std.proofs.lemmas.Bool.{eqb-true}
use Rattle.column_set.specs.declared.changes.Change.{Change}
use Rattle.column_set.specs.declared.changes.Change.TheVariants.{Put, Drop, Hold, Add}
use Rattle.column_set.specs.declared.columns.Column.{Column}
use Rattle.column_set.specs.ChangedRecords.{changed_bookmark, changed_table}
use Rattle.column_set.specs.RecordValues.{RecordFields}
use Rattle.common_lemmas.proofs.Booleans.{and_left, and_right, impossible}
use Rattle.common_lemmas.proofs.Lists.{all_weaker}
use Rattle.common_lemmas.proofs.Numbers.{equal_bytes, same_bytes, self_equal}
use Rattle.database_state.specs.Changes.{is_sum, with_sum}
use Rattle.database_state.specs.Equivalence.{without_sums}
use Rattle.database_state.specs.State.{PastChange, is_undone}
use Rattle.laws_versions.specs.Bookmarks.{TouchesRecord}
use Rattle.laws_versions.specs.History.{HasBefores}
use Rattle.laws_versions.specs.Readers.{is_rewrite, is_standing}
use Rattle.laws_versions.specs.Records.{Records, is_change_of, record_after, records_after, after_item, records_after_items}
use Rattle.laws_versions.specs.SumBefores.{HasSumBefores}
use Rattle.version_store.specs.HeldChanges.{kind_of}
use Rattle.version_store.specs.HeldChanges as held_changes
use Rattle.laws_engine.specs.HeldRecords.{HeldRecord, is_standing_rewrite}
use Rattle.laws_engine.specs.Holding.{AllMatch, Matches}

-- a put or a drop of the record has one before it
abbrev pub brings_variant : ℕ → List ℕ → HeldRecord → Bool
brings_variant table bookmark held = is_standing_rewrite table bookmark held && is_some held.before

abbrev left_by : Records → List PastChange → Records
left_by records items = records_after_items is_standing records items

abbrev HasSome : Records → List PastChange → List HeldRecord → ℕ → List ℕ → Type 0
HasSome records items held table bookmark = (is_some (left_by records items table bookmark) || list_any (brings_variant table bookmark) held) ≡ true

-- ---- tests

or_more : (a b c : Bool) → (a || c) ≡ true → (a || (b || c)) ≡ true
or_more true b c h = refl
or_more false true c h = refl
or_more false false c h = h

or_here : (a b c : Bool) → b ≡ true → (a || (b || c)) ≡ true
or_here true b c h = refl
or_here false true c h = refl
or_here false false c h = impossible h

or_first : (a b : Bool) → a ≡ true → (a || b) ≡ true
or_first true b h = refl
or_first false b h = impossible h

-- ---- a change and the held one

pub record_of_change : (c : Change) (table : ℕ) (bookmark : List ℕ) → is_change_of table bookmark c ≡ true → (changed_table c ≡ table) × (changed_bookmark c ≡ bookmark)
record_of_change c table bookmark e =
    (eqb-true (changed_table c) table (and_left (changed_table c == table) (bytes_eq (changed_bookmark c) bookmark) e), same_bytes (changed_bookmark c) bookmark (and_right (changed_table c == table) (bytes_eq (changed_bookmark c) bookmark) e))

pub own_record : (c : Change) → is_change_of (changed_table c) (changed_bookmark c) c ≡ true
own_record c = ap (λ (b : Bool). b && bytes_eq (changed_bookmark c) (changed_bookmark c)) (self_equal (changed_table c)) ∙ equal_bytes (changed_bookmark c) (changed_bookmark c) refl

pub same_rewrite : (c : Change) → held_changes.is_rewrite (kind_of c) ≡ is_rewrite c
same_rewrite (Put table bookmark copied values) = refl
same_rewrite (Drop table bookmark) = refl
same_rewrite (Hold table bookmark) = refl
same_rewrite (Add table bookmark column amount) = refl

-- a held put or drop that stands, and has a record before it, is a variant of its record
brought : (item : PastChange) (h : HeldRecord) (table : ℕ) (bookmark : List ℕ) → Matches item h → is_standing item ≡ true → is_rewrite item.change ≡ true → is_change_of table bookmark item.change ≡ true → is_some item.before ≡ true → brings_variant table bookmark h ≡ true
brought item h table bookmark m stands rewrites own before =
    ap (λ (k : ℕ). (((k == table) && bytes_eq h.bookmark bookmark) && held_changes.is_rewrite h.kind && not (is_undone h.status)) && is_some h.before) m.table
    ∙ ap (λ (k : List ℕ). (((changed_table item.change == table) && bytes_eq k bookmark) && held_changes.is_rewrite h.kind && not (is_undone h.status)) && is_some h.before) m.bookmark
    ∙ ap (λ (b : Bool). (b && held_changes.is_rewrite h.kind && not (is_undone h.status)) && is_some h.before) own
    ∙ ap (λ (b : Bool). (b && not (is_undone h.status)) && is_some h.before) (ap held_changes.is_rewrite m.kind ∙ same_rewrite item.change ∙ rewrites)
    ∙ ap (λ (b : Bool). b && is_some h.before) (ap (λ s. not (is_undone s)) m.status ∙ stands)
    ∙ ap is_some (m.before stands rewrites) ∙ before

-- ---- a record that is there has a variant, whatever comes after

summed : (column : ℕ) (amount : ℤ) (found : Option RecordFields) → is_some found ≡ true → is_some (option_map (λ values. with_sum values column amount) found) ≡ true
summed column amount None h = impossible h
summed column amount (Some values) h = refl

stays : (table : ℕ) (bookmark : List ℕ) (records : Records) (items : List PastChange) (held : List HeldRecord) → AllMatch items held → HasBefores records items → is_some (records table bookmark) ≡ true → HasSome records items held table bookmark
stays table bookmark records [] [] m befores here = or_first (is_some (records table bookmark)) false here
stays table bookmark records [] (h ∷ held) m befores here = absurd m
stays table bookmark records (item ∷ items) [] m befores here = absurd m
stays table bookmark records (item ∷ items) (h ∷ held) m befores here = by (λ next later there. stays table bookmark next items held m.1 later there) (is_standing item) refl befores.1
  where
    Again : Type 0
    Again = (next : Records) → HasBefores next items → is_some (next table bookmark) ≡ true → HasSome next items held table bookmark

    others : Bool
    others = list_any (brings_variant table bookmark) held

    rest : Again → (next : Records) → HasBefores next items → is_some (next table bookmark) ≡ true → (is_some (left_by next items table bookmark) || (brings_variant table bookmark h || others)) ≡ true
    rest again next later there = or_more (is_some (left_by next items table bookmark)) (brings_variant table bookmark h) others (again next later there)

    before_is : is_standing item ≡ true → is_sum item.change ≡ false → is_change_of table bookmark item.change ≡ true → is_some item.before ≡ true
    before_is stands plain own =
        ap is_some (befores.0 stands plain) ∙ ap (λ (k : ℕ). is_some (records k (changed_bookmark item.change))) (record_of_change item.change table bookmark own).0
        ∙ ap (λ (k : List ℕ). is_some (records table k)) (record_of_change item.change table bookmark own).1 ∙ here

    made : Again → (c : Change) → item.change ≡ c → is_standing item ≡ true → is_change_of table bookmark item.change ≡ true → HasBefores (records_after records item.change) items
        → (is_some (left_by (records_after records item.change) items table bookmark) || (brings_variant table bookmark h || others)) ≡ true
    made again (Put t b copied values) e stands own later =
        or_here (is_some (left_by (records_after records item.change) items table bookmark)) (brings_variant table bookmark h) others (brought item h table bookmark m.0 stands (ap is_rewrite e) own (before_is stands (ap is_sum e) own))
    made again (Drop t b) e stands own later =
        or_here (is_some (left_by (records_after records item.change) items table bookmark)) (brings_variant table bookmark h) others (brought item h table bookmark m.0 stands (ap is_rewrite e) own (before_is stands (ap is_sum e) own))
    made again (Hold t b) e stands own later =
        rest again (records_after records item.change) later (ap (λ (x : Bool). is_some (if x then record_after item.change (records table bookmark) else records table bookmark)) own ∙ ap (λ (x : Change). is_some (record_after x (records table bookmark))) e ∙ here)
    made again (Add t b column amount) e stands own later =
        rest again (records_after records item.change) later (ap (λ (x : Bool). is_some (if x then record_after item.change (records table bookmark) else records table bookmark)) own ∙ ap (λ (x : Change). is_some (record_after x (records table bookmark))) e ∙ summed column.0 amount (records table bookmark) here)

    own : Again → (b : Bool) → is_change_of table bookmark item.change ≡ b → is_standing item ≡ true → HasBefores (records_after records item.change) items
        → (is_some (left_by (records_after records item.change) items table bookmark) || (brings_variant table bookmark h || others)) ≡ true
    own again true e stands later = made again item.change refl stands e later
    own again false e stands later = rest again (records_after records item.change) later (ap (λ (x : Bool). is_some (if x then record_after item.change (records table bookmark) else records table bookmark)) e ∙ here)

    by : Again → (b : Bool) → is_standing item ≡ b → HasBefores (if b then records_after records item.change else records) items
        → (is_some (fold after_item records (if b then item ∷ filter is_standing items else filter is_standing items) table bookmark) || (brings_variant table bookmark h || others)) ≡ true
    by again true e later = own again (is_change_of table bookmark item.change) refl e later
    by again false e later = rest again records later here

-- ---- the record of a change that stands

pub same_if_some : (columns : List Column) (one other : Option RecordFields) → option_map (without_sums columns) one ≡ option_map (without_sums columns) other → is_some one ≡ true → is_some other ≡ true
same_if_some columns one other e h = mapped other ∙ sym (ap is_some e) ∙ sym (mapped one) ∙ h
  where
    mapped : (o : Option RecordFields) → is_some o ≡ is_some (option_map (without_sums columns) o)
    mapped None = refl
    mapped (Some values) = refl

-- what is said of a change that stands, of a table
abbrev pub HasVariant : Records → List PastChange → List HeldRecord → ℕ → HeldRecord → Type 0
HasVariant records items all table h = is_undone h.status ≡ false → (h.table == table) ≡ true → HasSome records items all table h.bookmark

touched_before : (item : PastChange) → TouchesRecord item → item.after ≡ record_after item.change item.before → is_none (record_after item.change item.before) ≡ true → is_some item.before ≡ true
touched_before item touched after none = at item.before item.after (record_after item.change item.before) touched after none
  where
    at : (before after left : Option RecordFields) → (is_some before || is_some after) ≡ true → after ≡ left → is_none left ≡ true → is_some before ≡ true
    at (Some x) after left t e n = refl
    at None None left t e n = t
    at None (Some y) left t e n = impossible (ap is_none e ∙ n)

pub either_before : (before after left : Option RecordFields) → (is_some before || is_some after) ≡ true → after ≡ left → (is_some left ≡ is_some before) → is_some before ≡ true
either_before (Some x) after left t e same = refl
either_before None after left t e same = sym same ∙ ap is_some (sym e) ∙ t

pub after_sum : (column : ℕ) (amount : ℤ) (found : Option RecordFields) → is_some (option_map (λ values. with_sum values column amount) found) ≡ is_some found
after_sum column amount None = refl
after_sum column amount (Some values) = refl

pub all_have : (columns : List Column) (table : ℕ) (records : Records) (items : List PastChange) (held : List HeldRecord) → AllMatch items held → HasBefores records items → HasSumBefores columns table records items → AllByRecursion TouchesRecord items
    → AllByRecursion (λ item. item.after ≡ record_after item.change item.before) items → AllByRecursion (HasVariant records items held table) held
all_have columns table records [] [] m befores sums touched afters = tt
all_have columns table records [] (h ∷ held) m befores sums touched afters = absurd m
all_have columns table records (item ∷ items) [] m befores sums touched afters = absurd m
all_have columns table records (item ∷ items) (h ∷ held) m befores sums touched afters = (
  λ stands is. first (ap (λ s. not (is_undone s)) (sym m.0.status) ∙ ap not stands) is,
  by (λ next later laters. all_have columns table next items held m.1 later laters touched.1 afters.1) (is_standing item) refl befores.1 sums.1,
)
  where
    lifted : (next : Records) → AllByRecursion (HasVariant next items held table) held
        → AllByRecursion (λ (x : HeldRecord). is_undone x.status ≡ false → (x.table == table) ≡ true → (is_some (left_by next items table x.bookmark) || (brings_variant table x.bookmark h || list_any (brings_variant table x.bookmark) held)) ≡ true) held
    lifted next all =
        all_weaker (HasVariant next items held table) (λ (x : HeldRecord). is_undone x.status ≡ false → (x.table == table) ≡ true → (is_some (left_by next items table x.bookmark) || (brings_variant table x.bookmark h || list_any (brings_variant table x.bookmark) held)) ≡ true)
        (λ x one stands is. or_more (is_some (left_by next items table x.bookmark)) (brings_variant table x.bookmark h) (list_any (brings_variant table x.bookmark) held) (one stands is)) held all

    by : ((next : Records) → HasBefores next items → HasSumBefores columns table next items → AllByRecursion (HasVariant next items held table) held) → (b : Bool) → is_standing item ≡ b
        → HasBefores (if b then records_after records item.change else records) items → HasSumBefores columns table (if b then after_item records item else records) items
        → AllByRecursion (λ (x : HeldRecord). is_undone x.status ≡ false → (x.table == table) ≡ true → (is_some (fold after_item records (if b then item ∷ filter is_standing items else filter is_standing items) table x.bookmark) || (brings_variant table x.bookmark h || list_any (brings_variant table x.bookmark) held)) ≡ true) held
    by again true e later laters = lifted (records_after records item.change) (again (records_after records item.change) later laters)
    by again false e later laters = lifted records (again records later laters)

    -- a put leaves a record
    put_leaves : is_standing item ≡ true → is_some (record_after item.change (records (changed_table item.change) (changed_bookmark item.change))) ≡ true → HasBefores (if is_standing item then records_after records item.change else records) items
        → HasSome records (item ∷ items) (h ∷ held) (changed_table item.change) (changed_bookmark item.change)
    put_leaves stands leaves later = at (is_standing item) stands later
      where
        at : (b : Bool) → b ≡ true → HasBefores (if b then records_after records item.change else records) items
            → (is_some (fold after_item records (if b then item ∷ filter is_standing items else filter is_standing items) (changed_table item.change) (changed_bookmark item.change))
            || (brings_variant (changed_table item.change) (changed_bookmark item.change) h || list_any (brings_variant (changed_table item.change) (changed_bookmark item.change)) held)) ≡ true
        at false e later = impossible e
        at true e later =
            or_more (is_some (left_by (records_after records item.change) items (changed_table item.change) (changed_bookmark item.change))) (brings_variant (changed_table item.change) (changed_bookmark item.change) h)
            (list_any (brings_variant (changed_table item.change) (changed_bookmark item.change)) held)
            (stays (changed_table item.change) (changed_bookmark item.change) (records_after records item.change) items held m.1 later
            (ap (λ (x : Bool). is_some (if x then record_after item.change (records (changed_table item.change) (changed_bookmark item.change)) else records (changed_table item.change) (changed_bookmark item.change))) (own_record item.change) ∙ leaves))

    changed : (c : Change) → item.change ≡ c → is_standing item ≡ true → changed_table item.change ≡ table → HasSome records (item ∷ items) (h ∷ held) (changed_table item.change) (changed_bookmark item.change)
    changed (Put t b copied values) e stands is = put_leaves stands (ap (λ (x : Change). is_some (record_after x (records (changed_table item.change) (changed_bookmark item.change)))) e) befores.1
    changed (Drop t b) e stands is =
        let before = touched_before item touched.0 afters.0 (ap (λ (x : Change). is_none (record_after x item.before)) e) in
        or_here (is_some (left_by records (item ∷ items) (changed_table item.change) (changed_bookmark item.change))) (brings_variant (changed_table item.change) (changed_bookmark item.change) h) (list_any (brings_variant (changed_table item.change) (changed_bookmark item.change)) held)
        (brought item h (changed_table item.change) (changed_bookmark item.change) m.0 stands (ap is_rewrite e) (own_record item.change) before)
    changed (Hold t b) e stands is =
        let before = either_before item.before item.after (record_after item.change item.before) touched.0 afters.0 (ap (λ (x : Change). is_some (record_after x item.before)) e) in
        stays (changed_table item.change) (changed_bookmark item.change) records (item ∷ items) (h ∷ held) m befores (ap is_some (sym (befores.0 stands (ap is_sum e))) ∙ before)
    changed (Add t b column amount) e stands is =
        let before = either_before item.before item.after (record_after item.change item.before) touched.0 afters.0 (ap (λ (x : Change). is_some (record_after x item.before)) e ∙ after_sum column.0 amount item.before) in
        stays (changed_table item.change) (changed_bookmark item.change) records (item ∷ items) (h ∷ held) m befores
        (same_if_some columns item.before (records (changed_table item.change) (changed_bookmark item.change)) (sums.0 stands (ap is_sum e) is) before)

    first : is_standing item ≡ true → (h.table == table) ≡ true → HasSome records (item ∷ items) (h ∷ held) table h.bookmark
    first stands is =
        let same : changed_table item.change ≡ table = sym m.0.table ∙ eqb-true h.table table is in
        subst (λ (k : List ℕ). HasSome records (item ∷ items) (h ∷ held) table k) (sym m.0.bookmark)
        (subst (λ (k : ℕ). HasSome records (item ∷ items) (h ∷ held) k (changed_bookmark item.change)) same (changed item.change refl stands same))
