-- No reader finds a key of a unique index at two records.
use Rattle.std.proofs.Common.{◌≡◌, ◌⊎◌, inl, inr, ℕ, Bool, true, false, not, ◌&&◌, cond, List, [], ◌∷◌, refl, sym, ap, subst, ◌∙◌, bytes_eq}
use Rattle.std.specs.Prelude.{◌==◌, filter, fold}
use Rattle.std.specs.List.{AllByRecursion}
use Rattle.std.proofs.lemmas.Bool.{and_from, eqb-true}
use Rattle.common_lemmas.proofs.Booleans.{and_left, and_right, impossible}
use Rattle.common_lemmas.proofs.Lists.{all_weaker}
use Rattle.common_lemmas.proofs.Numbers.{equal_bytes, same_bytes, self_equal}
use Rattle.column_set.specs.declared.changes.Change.{Change}
use Rattle.index_derive.specs.declared.rules.IndexRule.{IndexRule}
use Rattle.index_derive.specs.declared.rules.Schema.{Schema}
use Rattle.database_state.specs.Changes.{is_sum}
use Rattle.column_set.specs.ChangedRecords.{changed_table, changed_bookmark}
use Rattle.database_state.specs.State.{PastChange}
use Rattle.database_state.specs.Conflicts.{yields_key}
use Rattle.laws_versions.specs.Records.{Records, after_item, is_change_of, record_after, records_after_items}
use Rattle.laws_versions.proofs.ChangeLemmas.Commuting.{both_touch}
use Rattle.laws_versions.specs.History.{EachTwo, HasBefores}
use Rattle.laws_versions.specs.Readers.{is_standing}
use Rattle.laws_versions.specs.UniqueKeys.{AreUnique, BringsFreeKeys, BringsKey, SeesEarlier}
use Rattle.laws_versions.specs.KeySums.{HasSameKeys, SeesNoSum, adds_to_index}
use Rattle.laws_versions.proofs.KeyLemmas.KeySums.{after_same, item_keeps, item_same}

-- ---- a record that the reader has as it was before a change that it does not see

-- no change that the reader sees touches it or brings a key that it has
abbrev pub IsShut : IndexRule → Schema → ℕ → (PastChange → Bool) → Records → List ℕ → PastChange → Type 0
IsShut rule schema table test r bookmark q =
    test q ≡ true → changed_table q.change ≡ table
    → (bytes_eq (changed_bookmark q.change) bookmark ≡ true → ⊥)
    × ((key : List ℕ) → yields_key rule schema key (r table bookmark) ≡ true → BringsKey rule schema key q → bytes_eq (changed_bookmark q.change) bookmark ≡ false → ⊥)

-- each record has the keys of the newest so far, or is shut
abbrev pub AreOpenOrShut : IndexRule → Schema → ℕ → (PastChange → Bool) → Records → Records → List PastChange → Type 0
AreOpenOrShut rule schema table test r newest items =
    (bookmark : List ℕ) → HasSameKeys rule schema (r table bookmark) (newest table bookmark) ⊎ AllByRecursion (IsShut rule schema table test r bookmark) items

-- the changed record, and any other
here : (table : ℕ) (bookmark : List ℕ) (c : Change) → changed_table c ≡ table → bytes_eq (changed_bookmark c) bookmark ≡ true → is_change_of table bookmark c ≡ true
here table bookmark c e f = and_from _ _ (ap (λ k. k == table) e ∙ self_equal table) f

touched : (r : Records) (item : PastChange) (table : ℕ) (bookmark : List ℕ) (b : Bool) → is_change_of table bookmark item.change ≡ b → after_item r item table bookmark ≡ cond b (record_after item.change (r table bookmark)) (r table bookmark)
touched r item table bookmark b e = ap (λ x. cond x (record_after item.change (r table bookmark)) (r table bookmark)) e

-- a change that the reader sees
pub open_seen : (rule : IndexRule) (schema : Schema) (table : ℕ) (test : PastChange → Bool) (r newest : Records) (item : PastChange) (items : List PastChange) → test item ≡ true → (changed_table item.change ≡ table → adds_to_index rule item.change ≡ false)
    → AreOpenOrShut rule schema table test r newest (item ∷ items) → AreOpenOrShut rule schema table test (after_item r item) (after_item newest item) items
open_seen rule schema table test r newest item items seen plain either bookmark =
    elim (is_change_of table bookmark item.change) as (λ b. is_change_of table bookmark item.change ≡ b
    → HasSameKeys rule schema (after_item r item table bookmark) (after_item newest item table bookmark) ⊎ AllByRecursion (IsShut rule schema table test (after_item r item) bookmark) items) [
      | true ↦ λ e. elim (either bookmark) [
        | inl same ↦ inl (item_same rule schema r newest item table bookmark plain same)
        | inr shut ↦ absurd ((shut.0 seen (eqb-true (changed_table item.change) table (and_left _ _ e))).0 (and_right (changed_table item.change == table) _ e))
      ]
      | false ↦ λ e. elim (either bookmark) [
        | inl same ↦ inl (item_same rule schema r newest item table bookmark plain same)
        | inr shut ↦ inr (all_weaker (IsShut rule schema table test r bookmark) (IsShut rule schema table test (after_item r item) bookmark)
            (λ q h t own. ((h t own).0, λ key had. (h t own).1 key (ap (yields_key rule schema key) (sym (touched r item table bookmark false e)) ∙ had))) items shut.1)
      ]
    ] refl

-- one that it does not see
pub open_unseen : (rule : IndexRule) (schema : Schema) (table : ℕ) (test : PastChange → Bool) (r newest : Records) (item : PastChange) (items : List PastChange) → test item ≡ false → is_standing item ≡ true
    → (changed_table item.change ≡ table → adds_to_index rule item.change ≡ false) → (is_sum item.change ≡ false → item.before ≡ newest (changed_table item.change) (changed_bookmark item.change))
    → AllByRecursion (SeesEarlier rule schema table test item) items → AreOpenOrShut rule schema table test r newest (item ∷ items) → AreOpenOrShut rule schema table test r (after_item newest item) items
open_unseen rule schema table test r newest item items unseen live plain before earlier either bookmark =
    elim (is_sum item.change) as (λ b. is_sum item.change ≡ b → HasSameKeys rule schema (r table bookmark) (after_item newest item table bookmark) ⊎ AllByRecursion (IsShut rule schema table test r bookmark) items) [
      | true ↦ λ sum. elim (either bookmark) [
        | inl same ↦ inl (λ key. same key ∙ sym (item_keeps rule schema newest item table bookmark sum plain key))
        | inr old ↦ inr old.1
      ]
      | false ↦ λ sum. elim (is_change_of table bookmark item.change) as (λ b. is_change_of table bookmark item.change ≡ b
          → HasSameKeys rule schema (r table bookmark) (after_item newest item table bookmark) ⊎ AllByRecursion (IsShut rule schema table test r bookmark) items) [
            | true ↦ λ e. elim (either bookmark) [
              | inl same ↦ inr (all_weaker (SeesEarlier rule schema table test item) (IsShut rule schema table test r bookmark) (λ q h. shut sum e same q h) items earlier)
              | inr old ↦ inr old.1
            ]
            | false ↦ λ e. elim (either bookmark) [
              | inl same ↦ inl (λ key. same key ∙ ap (yields_key rule schema key) (sym (touched newest item table bookmark false e)))
              | inr old ↦ inr old.1
            ]
          ] refl
    ] refl
  where
    never : true ≡ false → ⊥
    never e = impossible (sym e)

    shut : is_sum item.change ≡ false → is_change_of table bookmark item.change ≡ true → HasSameKeys rule schema (r table bookmark) (newest table bookmark) → (q : PastChange) → SeesEarlier rule schema table test item q → IsShut rule schema table test r bookmark q
    shut sum e same q h seen own =
        let of_table : changed_table item.change ≡ table = eqb-true (changed_table item.change) table (and_left _ _ e) in
        let of_bookmark : changed_bookmark item.change ≡ bookmark = same_bytes (changed_bookmark item.change) bookmark (and_right (changed_table item.change == table) _ e) in
        let was : item.before ≡ newest table bookmark = before sum ∙ ap (λ (k : ℕ). newest k (changed_bookmark item.change)) of_table ∙ ap (newest table) of_bookmark in (
          (λ hit. never (sym (h live seen (inl (and_from _ _ (both_touch table bookmark item.change q.change e (here table bookmark q.change own hit)) (ap (λ s. not (s && is_sum q.change)) sum)))) ∙ unseen)),
          λ key had brings apart. never (sym (h live seen (inr (of_table, own, ap (bytes_eq (changed_bookmark q.change)) of_bookmark ∙ apart, (key, ap (yields_key rule schema key) was ∙ sym (same key) ∙ had, brings)))) ∙ unseen),
        )

-- ---- the keys

-- a sum that the reader sees
unique_summed : (rule : IndexRule) (schema : Schema) (table : ℕ) (r : Records) (item : PastChange) → is_sum item.change ≡ true → (changed_table item.change ≡ table → adds_to_index rule item.change ≡ false)
    → AreUnique rule schema table r → AreUnique rule schema table (after_item r item)
unique_summed rule schema table r item sum plain unique one other key apart had also =
    unique one other key apart (sym (item_keeps rule schema r item table one sum plain key) ∙ had) (sym (item_keeps rule schema r item table other sum plain key) ∙ also)

-- another change that it sees
unique_seen : (rule : IndexRule) (schema : Schema) (table : ℕ) (test : PastChange → Bool) (r newest : Records) (item : PastChange) (items : List PastChange) → test item ≡ true
    → (changed_table item.change ≡ table → adds_to_index rule item.change ≡ false)
    → item.before ≡ newest (changed_table item.change) (changed_bookmark item.change) → item.after ≡ record_after item.change item.before
    → (changed_table item.change ≡ table → (key other : List ℕ) → BringsKey rule schema key item → bytes_eq (changed_bookmark item.change) other ≡ false → yields_key rule schema key (newest table other) ≡ false)
    → AreOpenOrShut rule schema table test r newest (item ∷ items) → AreUnique rule schema table r → AreUnique rule schema table (after_item r item)
unique_seen rule schema table test r newest item items seen plain before after free either unique one other key apart had also =
    elim (is_change_of table one item.change) as (λ b. is_change_of table one item.change ≡ b → ⊥) [
      | true ↦ λ e. mine one other apart e (off one other apart e) had also
      | false ↦ λ e. elim (is_change_of table other item.change) as (λ b. is_change_of table other item.change ≡ b → ⊥) [
        | true ↦ λ f. mine other one (turned one other apart) f e also had
        | false ↦ λ f. unique one other key apart (ap (yields_key rule schema key) (sym (touched r item table one false e)) ∙ had) (ap (yields_key rule schema key) (sym (touched r item table other false f)) ∙ also)
      ] refl
    ] refl
  where
    never : true ≡ false → ⊥
    never e = impossible (sym e)

    refuse : (b : Bool) → (b ≡ true → ⊥) → b ≡ false
    refuse true f = absurd (f refl)
    refuse false f = refl

    turned : (a b : List ℕ) → bytes_eq a b ≡ false → bytes_eq b a ≡ false
    turned a b e = refuse (bytes_eq b a) (λ f. never (sym (equal_bytes a b (sym (same_bytes b a f))) ∙ e))

    off : (a b : List ℕ) → bytes_eq a b ≡ false → is_change_of table a item.change ≡ true → is_change_of table b item.change ≡ false
    off a b e f = refuse (is_change_of table b item.change) (λ g. never (sym (equal_bytes a b (sym (same_bytes (changed_bookmark item.change) a (and_right (changed_table item.change == table) _ f)) ∙ same_bytes (changed_bookmark item.change) b (and_right (changed_table item.change == table) _ g))) ∙ e))

    -- the record that was changed, beside another
    mine : (own beside : List ℕ) → bytes_eq own beside ≡ false → is_change_of table own item.change ≡ true → is_change_of table beside item.change ≡ false
        → yields_key rule schema key (after_item r item table own) ≡ true → yields_key rule schema key (after_item r item table beside) ≡ true → ⊥
    mine own beside e f g had also =
        let of_table : changed_table item.change ≡ table = eqb-true (changed_table item.change) table (and_left _ _ f) in
        let of_bookmark : changed_bookmark item.change ≡ own = same_bytes (changed_bookmark item.change) own (and_right (changed_table item.change == table) _ f) in
        let same : HasSameKeys rule schema (r table own) (newest table own) = elim (either own) [ inl s ↦ s | inr shut ↦ absurd ((shut.0 seen of_table).0 (and_right (changed_table item.change == table) _ f)) ] in
        let was : item.before ≡ newest table own = before ∙ ap (λ (k : ℕ). newest k (changed_bookmark item.change)) of_table ∙ ap (newest table) of_bookmark in
        let made : yields_key rule schema key item.after ≡ true = ap (yields_key rule schema key) (after ∙ ap (record_after item.change) was)
        ∙ sym (after_same rule schema item.change (plain of_table) (r table own) (newest table own) same key)
        ∙ ap (yields_key rule schema key) (sym (touched r item table own true f)) ∙ had in
        let stays : yields_key rule schema key (r table beside) ≡ true = ap (yields_key rule schema key) (sym (touched r item table beside false g)) ∙ also in
        elim (yields_key rule schema key item.before) as (λ b. yields_key rule schema key item.before ≡ b → ⊥) [
          | true ↦ λ old. unique own beside key e (same key ∙ ap (yields_key rule schema key) (sym was) ∙ old) stays
          | false ↦ λ new.
              let elsewhere : bytes_eq (changed_bookmark item.change) beside ≡ false = ap (λ (k : List ℕ). bytes_eq k beside) of_bookmark ∙ e in
              elim (either beside) [
                | inl s ↦ never (sym stays ∙ s key ∙ free of_table key beside (made, new) elsewhere)
                | inr shut ↦ (shut.0 seen of_table).1 key stays (made, new) elsewhere
              ]
        ] refl

pub unique_throughout : (rule : IndexRule) (schema : Schema) (table : ℕ) (test : PastChange → Bool) → ((item : PastChange) → test item ≡ true → is_standing item ≡ true) → (items : List PastChange) (r newest : Records)
    → HasBefores newest items → SeesNoSum rule table items → AllByRecursion (λ item. item.after ≡ record_after item.change item.before) items → BringsFreeKeys rule schema table newest items → EachTwo (SeesEarlier rule schema table test) items
    → AreOpenOrShut rule schema table test r newest items → AreUnique rule schema table r → AreUnique rule schema table (records_after_items test r items)
unique_throughout rule schema table test alive [] r newest befores plain afters free earlier either unique = unique
unique_throughout rule schema table test alive (item ∷ items) r newest befores plain afters free earlier either unique =
    elim (test item) as (λ b. test item ≡ b → AreUnique rule schema table (fold after_item r (cond b (item ∷ filter test items) (filter test items)))) [
      | true ↦ λ seen.
          let live = alive item seen in
          let next : cond (is_standing item) (after_item newest item) newest ≡ after_item newest item = ap (λ b. cond b (after_item newest item) newest) live in
          unique_throughout rule schema table test alive items (after_item r item) (after_item newest item)
          (subst (λ (x : Records). HasBefores x items) next befores.1) plain.1 afters.1 (subst (λ (x : Records). BringsFreeKeys rule schema table x items) next free.1) earlier.1
          (open_seen rule schema table test r newest item items seen plain.0 either)
          (elim (is_sum item.change) as (λ b. is_sum item.change ≡ b → AreUnique rule schema table (after_item r item)) [
            | true ↦ λ sum. unique_summed rule schema table r item sum plain.0 unique
            | false ↦ λ sum. unique_seen rule schema table test r newest item items seen plain.0 (befores.0 live sum) afters.0 (free.0 live) either unique
          ] refl)
      | false ↦ λ unseen. elim (is_standing item) as (λ b. is_standing item ≡ b → HasBefores (cond b (after_item newest item) newest) items → BringsFreeKeys rule schema table (cond b (after_item newest item) newest) items
          → AreUnique rule schema table (records_after_items test r items)) [
            | true ↦ λ live g f. unique_throughout rule schema table test alive items r (after_item newest item) g plain.1 afters.1 f earlier.1
                (open_unseen rule schema table test r newest item items unseen live plain.0 (befores.0 live) earlier.0 either) unique
            | false ↦ λ live g f. unique_throughout rule schema table test alive items r newest g plain.1 afters.1 f earlier.1 (tails either) unique
          ] refl befores.1 free.1
    ] refl
  where
    tails : AreOpenOrShut rule schema table test r newest (item ∷ items) → AreOpenOrShut rule schema table test r newest items
    tails h bookmark = elim (h bookmark) [ inl s ↦ inl s | inr shut ↦ inr shut.1 ]
