-- What keeps the keys of a unique index free.
use Rattle.std.proofs.Common.{◌≡◌, ◌⊎◌, inl, inr, ℕ, Bool, true, false, not, ◌&&◌, cond, List, [], ◌∷◌, ◌++◌, refl, sym, ap, subst, ◌∙◌, bytes_eq}
use Rattle.std.specs.Prelude.{◌==◌, map, filter, fold}
use Rattle.std.specs.List.{AllByRecursion}
use Rattle.std.proofs.lemmas.Bool.{and_from, eqb-true}
use Rattle.common_lemmas.proofs.Booleans.{and_left, and_right, impossible}
use Rattle.common_lemmas.proofs.Lists.{all_weaker}
use Rattle.common_lemmas.proofs.Numbers.{same_bytes}
use Rattle.index_derive.specs.declared.rules.IndexRule.{IndexRule}
use Rattle.index_derive.specs.declared.rules.Schema.{Schema}
use Rattle.database_state.specs.Changes.{is_sum}
use Rattle.column_set.specs.ChangedRecords.{changed_table, changed_bookmark}
use Rattle.database_state.specs.State.{PastChange, undone}
use Rattle.database_state.specs.Conflicts.{collide, yields_key}
use Rattle.laws_versions.specs.Records.{Records, record_after, after_item, records_after_items, is_change_of}
use Rattle.laws_versions.specs.Readers.{is_standing}
use Rattle.laws_versions.specs.History.{EachTwo, HasBefores}
use Rattle.laws_versions.specs.KeySums.{HasSameKeys, SeesNoSum}
use Rattle.laws_versions.proofs.KeyLemmas.KeySums.{item_keeps, item_same}
use Rattle.laws_versions.specs.UniqueKeys.{BringsKey, BringsFreeKeys, SeesEarlier}
use Rattle.laws_versions.proofs.ChangeLemmas.Commuting.{both_touch}
use Rattle.laws_versions.specs.KeptSteps.{undone_where}
use Rattle.laws_versions.proofs.ChangeLemmas.Folds.{folded-cons}
use Rattle.laws_versions.proofs.KeyLemmas.UniqueThroughout.{AreOpenOrShut, open_seen, open_unseen}

never : {A : Type 0} → true ≡ false → A
never e = impossible (sym e)

-- ---- some changes undone

abbrev stays : (PastChange → Bool) → PastChange → Bool
stays gone item = is_standing item && not (gone item)

free_undone : (rule : IndexRule) (schema : Schema) (table : ℕ) (gone : PastChange → Bool) → ((item : PastChange) → gone item ≡ true → is_standing item ≡ true) → (items : List PastChange) (r newest : Records)
    → HasBefores newest items → SeesNoSum rule table items → EachTwo (SeesEarlier rule schema table (stays gone)) items → AreOpenOrShut rule schema table (stays gone) r newest items
    → BringsFreeKeys rule schema table newest items → BringsFreeKeys rule schema table r (map (undone_where gone) items)
free_undone rule schema table gone alive [] r newest befores plain earlier either free = tt
free_undone rule schema table gone alive (item ∷ items) r newest befores plain earlier either free =
    elim (gone item) as (λ b. gone item ≡ b → BringsFreeKeys rule schema table r (cond b (record item { status = undone }) item ∷ map (undone_where gone) items)) [
      | true ↦ λ goes.
          let live = alive item goes in (
            (λ l. impossible l),
            free_undone rule schema table gone alive items r (after_item newest item)
                (subst (λ (x : Records). HasBefores x items) (ap (λ b. cond b (after_item newest item) newest) live) befores.1) plain.1 earlier.1
                (open_unseen rule schema table (stays gone) r newest item items (ap (λ b. is_standing item && not b) goes ∙ last (is_standing item)) live plain.0 (befores.0 live) earlier.0 either)
                (subst (λ (x : Records). BringsFreeKeys rule schema table x items) (ap (λ b. cond b (after_item newest item) newest) live) free.1),
          )
      | false ↦ λ left. elim (is_standing item) as (λ b. is_standing item ≡ b → HasBefores (cond b (after_item newest item) newest) items → BringsFreeKeys rule schema table (cond b (after_item newest item) newest) items
          → (b ≡ true → changed_table item.change ≡ table → (key other : List ℕ) → BringsKey rule schema key item → bytes_eq (changed_bookmark item.change) other ≡ false → yields_key rule schema key (r table other) ≡ false)
          × BringsFreeKeys rule schema table (cond b (after_item r item) r) (map (undone_where gone) items)) [
            | true ↦ λ live g f.
                let seen : stays gone item ≡ true = and_from _ _ live (ap not left) in (
                  (λ l own key other brings apart. elim (either other) [
                    | inl same ↦ same key ∙ free.0 live own key other brings apart
                    | inr shut ↦ refuse (yields_key rule schema key (r table other)) (λ had. (shut.0 seen own).1 key had brings apart)
                  ]),
                  free_undone rule schema table gone alive items (after_item r item) (after_item newest item) g plain.1 earlier.1 (open_seen rule schema table (stays gone) r newest item items seen plain.0 either) f,
                )
            | false ↦ λ live g f. ((λ l. impossible l), free_undone rule schema table gone alive items r newest g plain.1 earlier.1 (tails either) f)
          ] refl befores.1 free.1
    ] refl
  where
    last : (b : Bool) → (b && false) ≡ false
    last true = refl
    last false = refl

    refuse : (b : Bool) → (b ≡ true → ⊥) → b ≡ false
    refuse true f = absurd (f refl)
    refuse false f = refl

    tails : AreOpenOrShut rule schema table (stays gone) r newest (item ∷ items) → AreOpenOrShut rule schema table (stays gone) r newest items
    tails h bookmark = elim (h bookmark) [ inl s ↦ inl s | inr shut ↦ inr shut.1 ]

pub keys_undone : (rule : IndexRule) (schema : Schema) (table : ℕ) (gone : PastChange → Bool) → ((item : PastChange) → gone item ≡ true → is_standing item ≡ true) → (items : List PastChange) (base : Records)
    → HasBefores base items → SeesNoSum rule table items → EachTwo (SeesEarlier rule schema table (λ item. is_standing item && not (gone item))) items
    → BringsFreeKeys rule schema table base items → BringsFreeKeys rule schema table base (map (undone_where gone) items)
keys_undone rule schema table gone alive items base befores plain earlier free = free_undone rule schema table gone alive items base base befores plain earlier (λ bookmark. inl (λ key. refl)) free

-- ---- a change

-- what is known of a record while going on: the reader's has the keys of the newest, or that one not the key, and then no change that it sees touches it
abbrev IsSameOrBare : IndexRule → Schema → List ℕ → ℕ → List ℕ → (PastChange → Bool) → Records → Records → List PastChange → Type 0
IsSameOrBare rule schema key table bookmark test r newest items =
    HasSameKeys rule schema (r table bookmark) (newest table bookmark)
    ⊎ ((yields_key rule schema key (newest table bookmark) ≡ false) × AllByRecursion (λ q. test q ≡ true → is_change_of table bookmark q.change ≡ true → ⊥) items)

-- A key of a newest record is one of the reader's record, where no change that the reader does not see left it there.
pub key_of_newest : (rule : IndexRule) (schema : Schema) (key : List ℕ) (table : ℕ) (bookmark : List ℕ) (test : PastChange → Bool) → ((item : PastChange) → test item ≡ true → is_standing item ≡ true) → (items : List PastChange) (r newest : Records)
    → HasBefores newest items → SeesNoSum rule table items → AllByRecursion (λ item. item.after ≡ record_after item.change item.before) items
    → AllByRecursion (λ p. is_standing p ≡ true → test p ≡ false → is_change_of table bookmark p.change ≡ true → yields_key rule schema key p.after ≡ false) items
    → EachTwo (λ p q. is_standing p ≡ true → test q ≡ true → collide p.change q.change ≡ true → test p ≡ true) items
    → IsSameOrBare rule schema key table bookmark test r newest items
    → yields_key rule schema key (records_after_items is_standing newest items table bookmark) ≡ true → yields_key rule schema key (records_after_items test r items table bookmark) ≡ true
key_of_newest rule schema key table bookmark test alive [] r newest befores plain afters bare earlier either had =
    elim either [ inl same ↦ same key ∙ had | inr c ↦ never (sym had ∙ c.0) ]
key_of_newest rule schema key table bookmark test alive (p ∷ items) r newest befores plain afters bare earlier either had =
    elim (is_standing p) as (λ b. is_standing p ≡ b → HasBefores (cond b (after_item newest p) newest) items → yields_key rule schema key (fold after_item newest (cond b (p ∷ filter is_standing items) (filter is_standing items)) table bookmark) ≡ true
    → yields_key rule schema key (records_after_items test r (p ∷ items) table bookmark) ≡ true) [
      | true ↦ λ live g h.
          elim (test p) as (λ b. test p ≡ b → yields_key rule schema key (fold after_item r (cond b (p ∷ filter test items) (filter test items)) table bookmark) ≡ true) [
            | true ↦ λ seen. key_of_newest rule schema key table bookmark test alive items (after_item r p) (after_item newest p) g plain.1 afters.1 bare.1 earlier.1 (both seen) h
            | false ↦ λ unseen. key_of_newest rule schema key table bookmark test alive items r (after_item newest p) g plain.1 afters.1 bare.1 earlier.1 (one live unseen) h
          ] refl
      | false ↦ λ live g h.
          ap (λ b. yields_key rule schema key (fold after_item r (cond b (p ∷ filter test items) (filter test items)) table bookmark)) (refuse (test p) (λ e. sym (alive p e) ∙ live))
          ∙ key_of_newest rule schema key table bookmark test alive items r newest g plain.1 afters.1 bare.1 earlier.1 (tails either) h
    ] refl befores.1 had
  where
    refuse : (b : Bool) → (b ≡ true → true ≡ false) → b ≡ false
    refuse true f = f refl
    refuse false f = refl

    tails : IsSameOrBare rule schema key table bookmark test r newest (p ∷ items) → IsSameOrBare rule schema key table bookmark test r newest items
    tails e = elim e [ inl s ↦ inl s | inr c ↦ inr (c.0, c.1.1) ]

    off : (x : Records) → is_change_of table bookmark p.change ≡ false → after_item x p table bookmark ≡ x table bookmark
    off x e = ap (λ b. cond b (record_after p.change (x table bookmark)) (x table bookmark)) e

    both : test p ≡ true → IsSameOrBare rule schema key table bookmark test (after_item r p) (after_item newest p) items
    both seen = elim either [
      | inl same ↦ inl (item_same rule schema r newest p table bookmark plain.0 same)
      | inr c ↦ inr (ap (yields_key rule schema key) (off newest (refuse (is_change_of table bookmark p.change) (λ e. absurd (c.1.0 seen e)))) ∙ c.0, c.1.1)
    ]

    one : is_standing p ≡ true → test p ≡ false → IsSameOrBare rule schema key table bookmark test r (after_item newest p) items
    one live unseen = elim (is_sum p.change) as (λ b. is_sum p.change ≡ b → IsSameOrBare rule schema key table bookmark test r (after_item newest p) items) [
      | true ↦ λ sum. elim either [
        | inl same ↦ inl (λ k. same k ∙ sym (item_keeps rule schema newest p table bookmark sum plain.0 k))
        | inr c ↦ inr (item_keeps rule schema newest p table bookmark sum plain.0 key ∙ c.0, c.1.1)
      ]
      | false ↦ λ sum. rewritten sum live unseen
    ] refl
      where
        rewritten : is_sum p.change ≡ false → is_standing p ≡ true → test p ≡ false → IsSameOrBare rule schema key table bookmark test r (after_item newest p) items
        rewritten sum live unseen =
            elim (is_change_of table bookmark p.change) as (λ b. is_change_of table bookmark p.change ≡ b → IsSameOrBare rule schema key table bookmark test r (after_item newest p) items) [
              | true ↦ λ e.
                  let of_table : changed_table p.change ≡ table = eqb-true (changed_table p.change) table (and_left _ _ e) in
                  let of_bookmark : changed_bookmark p.change ≡ bookmark = same_bytes (changed_bookmark p.change) bookmark (and_right (changed_table p.change == table) _ e) in
                  let was : p.before ≡ newest table bookmark = befores.0 live sum ∙ ap (λ (k : ℕ). newest k (changed_bookmark p.change)) of_table ∙ ap (newest table) of_bookmark in
                  let is : after_item newest p table bookmark ≡ p.after = ap (λ b. cond b (record_after p.change (newest table bookmark)) (newest table bookmark)) e ∙ ap (record_after p.change) (sym was) ∙ sym afters.0 in
                  inr (
                    ap (yields_key rule schema key) is ∙ bare.0 live unseen e,
                    all_weaker (λ q. is_standing p ≡ true → test q ≡ true → collide p.change q.change ≡ true → test p ≡ true) (λ q. test q ≡ true → is_change_of table bookmark q.change ≡ true → ⊥)
                        (λ q h seen mine. never (sym (h live seen (and_from _ _ (both_touch table bookmark p.change q.change e mine) (ap (λ s. not (s && is_sum q.change)) sum))) ∙ unseen)) items earlier.0,
                  )
              | false ↦ λ e. elim either [
                | inl same ↦ inl (λ k. same k ∙ ap (yields_key rule schema k) (sym (off newest e)))
                | inr c ↦ inr (ap (yields_key rule schema key) (off newest e) ∙ c.0, c.1.1)
              ]
            ] refl

-- ---- one more

pub keys_append : (rule : IndexRule) (schema : Schema) (table : ℕ) (items : List PastChange) (base : Records) (new : PastChange) → BringsFreeKeys rule schema table base items
    → (is_standing new ≡ true → changed_table new.change ≡ table → (key other : List ℕ) → BringsKey rule schema key new → bytes_eq (changed_bookmark new.change) other ≡ false → yields_key rule schema key (records_after_items is_standing base items table other) ≡ false)
    → BringsFreeKeys rule schema table base (items ++ new ∷ [])
keys_append rule schema table [] base new h e = (e, tt)
keys_append rule schema table (item ∷ items) base new h e = (
  h.0,
  keys_append rule schema table items (cond (is_standing item) (after_item base item) base) new h.1
      (λ live own key other brings apart. ap (λ (r : Records). yields_key rule schema key (r table other)) (sym (folded-cons is_standing base item items)) ∙ e live own key other brings apart),
)
