-- The held changes of a history, as past ones with the records that they left, have the keys of its kept changes.
use Rattle.std.proofs.Common.{◌≡◌, ℕ, Bool, true, false, not, ◌&&◌, List, [], ◌∷◌, Option, refl, sym, ap, subst, ◌∙◌}
use Rattle.std.specs.Prelude.{◌==◌, bytes_eq, if◌then◌else◌}
use Rattle.std.specs.List.{AllByRecursion}
use Rattle.column_set.specs.ChangedRecords.{changed_bookmark, changed_table}
use Rattle.column_set.specs.RecordValues.{RecordFields}
use Rattle.column_set.specs.declared.changes.Change.{Change}
use Rattle.common_lemmas.proofs.Numbers.{equal_bytes, self_equal}
use Rattle.database_state.specs.Changes.{is_sum}
use Rattle.database_state.specs.Conflicts.{yields_key}
use Rattle.database_state.specs.State.{PastChange, Status, Transaction, is_undone}
use Rattle.database_state.specs.Table.{Table, record_in}
use Rattle.index_derive.specs.declared.rules.IndexRule.{IndexRule}
use Rattle.index_derive.specs.declared.rules.Schema.{Schema}
use Rattle.laws_engine.specs.HeldRecords.{HeldRecord}
use Rattle.laws_engine.specs.Holding.{AllMatch, Matches}
use Rattle.laws_images.proofs.OpenedLemmas.InTurns.{in_turn}
use Rattle.laws_images.proofs.OpenedLemmas.TakenBack.{again_all, exact, made_bookmark, made_table, step_back}
use Rattle.laws_images.specs.GivenBack.{AllStand, SumsGiveBack}
use Rattle.laws_images.specs.InTurn.{AreInTurn}
use Rattle.laws_images.specs.ShownStates.{past_change, past_of, tables_before}
use Rattle.laws_versions.proofs.ChangeLemmas.Folds.{folded-cons}
use Rattle.laws_versions.proofs.KeyLemmas.KeySums.{after_same}
use Rattle.laws_versions.specs.History.{EachTwo, HasBefores, is_apart_by}
use Rattle.laws_versions.specs.KeySums.{HasKeyBefores, HasSameKeys, SeesNoSum, adds_to_index}
use Rattle.laws_versions.specs.Readers.{is_standing}
use Rattle.laws_versions.specs.Records.{Records, after_item, is_change_of, record_after, records_after, records_after_items, records_of}
use Rattle.laws_versions.specs.UniqueKeys.{BringsFreeKeys, InKeyOrder}
use Rattle.own_images.proofs.KeysFree.{LeavesKeys}

-- Two changes are of one record, number, session and state. In an index of their table the records before them have the same keys, and so
-- have those after them.
pub record HasKeysOf (rule : IndexRule) (schema : Schema) (table : ℕ) (item past : PastChange) : Type 0 where
  pub number : past.number ≡ item.number
  pub session : past.session ≡ item.session
  pub status : past.status ≡ item.status
  pub table_is : changed_table past.change ≡ changed_table item.change
  pub bookmark : changed_bookmark past.change ≡ changed_bookmark item.change
  pub before : changed_table item.change ≡ table → HasSameKeys rule schema past.before item.before
  pub after : changed_table item.change ≡ table → HasSameKeys rule schema past.after item.after

-- It leaves the records that the other leaves, and the one that it names.
pub record IsCarried (rule : IndexRule) (schema : Schema) (table : ℕ) (records : Records) (item past : PastChange) : Type 0 where
  pub keys : HasKeysOf rule schema table item past
  pub leaves : after_item records past ≡ after_item records item
  pub own : after_item records past (changed_table past.change) (changed_bookmark past.change) ≡ past.after

abbrev pub AreCarried : IndexRule → Schema → ℕ → Records → List PastChange → List PastChange → Type 0
AreCarried rule schema table records [] [] = Unit {0}
AreCarried rule schema table records [] (p ∷ past) = ⊥
AreCarried rule schema table records (item ∷ items) [] = ⊥
AreCarried rule schema table records (item ∷ items) (p ∷ past) = IsCarried rule schema table records item p × AreCarried rule schema table (after_item records item) items past

-- ---- what is so of the one is so of the other

stands_as : (item past : PastChange) → past.status ≡ item.status → is_standing past ≡ is_standing item
stands_as item past e = ap (λ (s : Status). not (is_undone s)) e

pub all_standing : (rule : IndexRule) (schema : Schema) (table : ℕ) (records : Records) (items past : List PastChange) → AreCarried rule schema table records items past → AllByRecursion (λ item. is_standing item ≡ true) items → AllByRecursion (λ item. is_standing item ≡ true) past
all_standing rule schema table records [] [] c stands = tt
all_standing rule schema table records [] (p ∷ past) c stands = absurd c
all_standing rule schema table records (item ∷ items) [] c stands = absurd c
all_standing rule schema table records (item ∷ items) (p ∷ past) c stands = (stands_as item p c.0.keys.status ∙ stands.0, all_standing rule schema table (after_item records item) items past c.1 stands.1)

pub free_carried : (rule : IndexRule) (schema : Schema) (table : ℕ) (records : Records) (items past : List PastChange) → AreCarried rule schema table records items past → AllByRecursion (λ item. is_standing item ≡ true) items
    → BringsFreeKeys rule schema table records items → BringsFreeKeys rule schema table records past
free_carried rule schema table records [] [] c stands free = tt
free_carried rule schema table records [] (p ∷ past) c stands free = absurd c
free_carried rule schema table records (item ∷ items) [] c stands free = absurd c
free_carried rule schema table records (item ∷ items) (p ∷ past) c stands free = (
  λ standing of key other brings differ. free.0 stands.0 (sym k.table_is ∙ of) key other (sym (k.after (sym k.table_is ∙ of) key) ∙ brings.0, sym (k.before (sym k.table_is ∙ of) key) ∙ brings.1) (ap (λ (b : List ℕ). bytes_eq b other) (sym k.bookmark) ∙ differ),
  subst (λ (b : Bool). BringsFreeKeys rule schema table (if b then after_item records p else records) past) (sym (stands_as item p k.status ∙ stands.0))
      (subst (λ (r : Records). BringsFreeKeys rule schema table r past) (sym c.0.leaves)
      (free_carried rule schema table (after_item records item) items past c.1 stands.1 (subst (λ (b : Bool). BringsFreeKeys rule schema table (if b then after_item records item else records) items) stands.0 free.1))),
)
  where
    k : HasKeysOf rule schema table item p
    k = c.0.keys

pub left_carried : (rule : IndexRule) (schema : Schema) (table : ℕ) (key : List ℕ) (records : Records) (items past : List PastChange) → AreCarried rule schema table records items past → LeavesKeys rule schema table key records past
left_carried rule schema table key records [] [] c = tt
left_carried rule schema table key records [] (p ∷ past) c = absurd c
left_carried rule schema table key records (item ∷ items) [] c = absurd c
left_carried rule schema table key records (item ∷ items) (p ∷ past) c = (
  λ of has. ap (λ (n : ℕ). yields_key rule schema key (after_item records p n (changed_bookmark p.change))) (sym of) ∙ ap (yields_key rule schema key) c.0.own ∙ has,
  subst (λ (r : Records). LeavesKeys rule schema table key r past) (sym c.0.leaves) (left_carried rule schema table key (after_item records item) items past c.1),
)

-- changes are apart by the one transactions where they are by the others
abbrev pub AreAsApart : (ℕ → Option Transaction) → (ℕ → Option Transaction) → Type 0
AreAsApart transactions others = (session number : ℕ) (same : Bool) (earlier later : Status) → is_apart_by (others session) number same earlier later ≡ is_apart_by (transactions session) number same earlier later

pub order_carried : (rule : IndexRule) (schema : Schema) (table : ℕ) (transactions others : ℕ → Option Transaction) → AreAsApart transactions others → (records : Records) (items past : List PastChange) → AreCarried rule schema table records items past
    → EachTwo (InKeyOrder rule schema table transactions) items → EachTwo (InKeyOrder rule schema table others) past
order_carried rule schema table transactions others same records [] [] c order = tt
order_carried rule schema table transactions others same records [] (p ∷ past) c order = absurd c
order_carried rule schema table transactions others same records (item ∷ items) [] c order = absurd c
order_carried rule schema table transactions others same records (item ∷ items) (p ∷ past) c order = (behind (after_item records item) items past c.1 order.0, order_carried rule schema table transactions others same (after_item records item) items past c.1 order.1)
  where
    k : HasKeysOf rule schema table item p
    k = c.0.keys

    one : (later q : PastChange) → HasKeysOf rule schema table later q → InKeyOrder rule schema table transactions item later → InKeyOrder rule schema table others p q
    one later q l ordered first second meets =
        let of : changed_table later.change ≡ table = sym l.table_is ∙ meets.1 in
        (λ i. is_apart_by (others (l.session i)) (l.number i) (k.session i == l.session i) (k.status i) (l.status i))
        ∙ same later.session later.number (item.session == later.session) item.status later.status
        ∙ ordered (sym (stands_as item p k.status) ∙ first) (sym (stands_as later q l.status) ∙ second) (
          sym k.table_is ∙ meets.0,
          of,
          (λ i. bytes_eq (sym l.bookmark i) (sym k.bookmark i)) ∙ meets.2,
          (meets.3.0, sym (k.before (sym k.table_is ∙ meets.0) meets.3.0) ∙ meets.3.1, (sym (l.after of meets.3.0) ∙ meets.3.2.0, sym (l.before of meets.3.0) ∙ meets.3.2.1)),
        )

    behind : (records : Records) (items past : List PastChange) → AreCarried rule schema table records items past → AllByRecursion (InKeyOrder rule schema table transactions item) items → AllByRecursion (InKeyOrder rule schema table others p) past
    behind records [] [] d each = tt
    behind records [] (q ∷ past) d each = absurd d
    behind records (later ∷ items) [] d each = absurd d
    behind records (later ∷ items) (q ∷ past) d each = (one later q d.0.keys each.0, behind (after_item records later) items past d.1 each.1)

-- ---- one held change

abbrev own_record : Records → Change → Option RecordFields
own_record records change = records (changed_table change) (changed_bookmark change)

at_itself : (change : Change) → is_change_of (changed_table change) (changed_bookmark change) change ≡ true
at_itself change = ap (λ (b : Bool). b && bytes_eq (changed_bookmark change) (changed_bookmark change)) (self_equal (changed_table change)) ∙ equal_bytes (changed_bookmark change) (changed_bookmark change) refl

-- Taken back and made again, a held change leaves what the kept one leaves.
one_carried : (rule : IndexRule) (schema : Schema) (table : ℕ) (base : Records) (item : PastChange) (h : HeldRecord) (held : List HeldRecord) (tables : List Table) → Matches item h → is_standing item ≡ true
    → (is_sum item.change ≡ false → item.before ≡ own_record base item.change) → item.after ≡ record_after item.change item.before → (changed_table item.change ≡ table → adds_to_index rule item.change ≡ false)
    → (is_sum item.change ≡ true → changed_table item.change ≡ table → HasSameKeys rule schema item.before (own_record base item.change))
    → AreInTurn (h ∷ held) tables → records_of (tables_before (h ∷ held) tables) ≡ base → records_of (tables_before held tables) ≡ after_item base item
    → IsCarried rule schema table base item (past_change h (record_in (tables_before held tables) h.table h.bookmark))
one_carried rule schema table base item h held tables m stands befores made plain sums turn first left = record {
  keys = record {
    number = m.number;
    session = m.session;
    status = m.status;
    table_is = table_is;
    bookmark = bookmark_is;
    before = λ of key. ap (yields_key rule schema key) before_is ∙ same of key;
    after = λ of key. ap (yields_key rule schema key) after_is ∙ after_same rule schema item.change (plain of) (own_record base item.change) item.before (same of) key ∙ ap (yields_key rule schema key) (sym made);
  };
  leaves = again ∙ left;
  own = ap (λ (r : Records). own_record r p.change) again ∙ (λ i. records_of (tables_before held tables) (made_table h.kind h.table h.bookmark after i) (made_bookmark h.kind h.table h.bookmark after i));
}
  where
    after : Option RecordFields
    after = record_in (tables_before held tables) h.table h.bookmark

    p : PastChange
    p = past_change h after

    table_is : changed_table p.change ≡ changed_table item.change
    table_is = made_table h.kind h.table h.bookmark after ∙ m.table

    bookmark_is : changed_bookmark p.change ≡ changed_bookmark item.change
    bookmark_is = made_bookmark h.kind h.table h.bookmark after ∙ m.bookmark

    again : after_item base p ≡ records_of (tables_before held tables)
    again = ap (λ (r : Records). after_item r p) (sym first ∙ step_back h held tables turn) ∙ again_all h (records_of (tables_before held tables)) turn.2

    before_is : p.before ≡ own_record base item.change
    before_is = (exact (h ∷ held) tables turn).0 (ap not turn.0) ∙ ap (λ (r : Records). own_record r p.change) first ∙ (λ i. base (table_is i) (bookmark_is i))

    after_is : p.after ≡ record_after item.change (own_record base item.change)
    after_is =
        ap (λ (r : Records). r h.table h.bookmark) left ∙ (λ i. after_item base item (m.table i) (m.bookmark i))
        ∙ ap (λ (b : Bool). if b then record_after item.change (own_record base item.change) else own_record base item.change) (at_itself item.change)

    same : changed_table item.change ≡ table → HasSameKeys rule schema (own_record base item.change) item.before
    same of key = by (is_sum item.change) refl
      where
        by : (b : Bool) → is_sum item.change ≡ b → yields_key rule schema key (own_record base item.change) ≡ yields_key rule schema key item.before
        by true e = sym (sums e of key)
        by false e = ap (yields_key rule schema key) (sym (befores e))

-- ---- all of them

pub carried : (rule : IndexRule) (schema : Schema) (table : ℕ) (base : Records) (items : List PastChange) (held : List HeldRecord) (tables : List Table) → AllMatch items held → AllStand tables items → HasBefores base items → SumsGiveBack base items
    → records_after_items is_standing base items ≡ records_of tables → AllByRecursion (λ item. item.after ≡ record_after item.change item.before) items → SeesNoSum rule table items → HasKeyBefores rule schema table base items
    → AreCarried rule schema table base items (past_of held tables)
carried rule schema table base [] [] tables m stand befores backs e afters plain keys = tt
carried rule schema table base [] (h ∷ held) tables m stand befores backs e afters plain keys = absurd m
carried rule schema table base (item ∷ items) [] tables m stand befores backs e afters plain keys = absurd m
carried rule schema table base (item ∷ items) (h ∷ held) tables m stand befores backs e afters plain keys =
    let stands = stand.0.0 in
    let next : HasBefores (after_item base item) items = subst (λ (b : Bool). HasBefores (if b then records_after base item.change else base) items) stands befores.1 in
    let newest : records_after_items is_standing (after_item base item) items ≡ records_of tables =
    sym (folded-cons is_standing base item items ∙ ap (λ (b : Bool). records_after_items is_standing (if b then after_item base item else base) items) stands) ∙ e in
    let turn = in_turn base (item ∷ items) (h ∷ held) tables m stand befores backs e in (
      one_carried rule schema table base item h held tables m.0 stands (befores.0 stands) afters.0 plain.0 (keys.0 stands) turn.0 turn.1 (in_turn (after_item base item) items held tables m.1 stand.1 next backs.1 newest).1,
      carried rule schema table (after_item base item) items held tables m.1 stand.1 next backs.1 newest afters.1 plain.1 (subst (λ (b : Bool). HasKeyBefores rule schema table (if b then after_item base item else base) items) stands keys.1),
    )
