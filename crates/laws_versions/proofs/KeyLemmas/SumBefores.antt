-- The keys of the records before sums, when a change comes behind them, or some change their state.
use Rattle.std.proofs.Common.{◌≡◌, ℕ, Bool, true, false, not, ◌&&◌, cond, List, [], ◌∷◌, ◌++◌, refl, sym, ap, subst, ◌∙◌, bytes_eq}
use Rattle.std.specs.Prelude.{◌==◌, map}
use Rattle.std.specs.List.{AllByRecursion}
use Rattle.common_lemmas.proofs.Lists.{all_each, all_map, all_weaker}
use Rattle.common_lemmas.proofs.Booleans.{impossible}
use Rattle.column_set.specs.declared.changes.Change.{Change}
use Rattle.index_derive.specs.declared.rules.IndexRule.{IndexRule}
use Rattle.index_derive.specs.declared.rules.Schema.{Schema}
use Rattle.database_state.specs.Changes.{is_sum}
use Rattle.column_set.specs.ChangedRecords.{changed_table, changed_bookmark}
use Rattle.database_state.specs.State.{PastChange, undone}
use Rattle.database_state.specs.Conflicts.{collide, yields_key}
use Rattle.laws_versions.specs.Records.{Records, after_item, is_change_of, record_after, records_after, records_after_items}
use Rattle.laws_versions.proofs.ChangeLemmas.Folds.{folded-cons}
use Rattle.laws_versions.specs.History.{EachTwo}
use Rattle.laws_versions.specs.KeptSteps.{undone_where}
use Rattle.laws_versions.specs.Readers.{is_standing}
use Rattle.laws_versions.proofs.HistoryLemmas.Befores.{GoesApart, at}
use Rattle.laws_versions.proofs.HistoryLemmas.Lists.{all_both}
use Rattle.laws_versions.specs.KeySums.{HasKeyBefores, HasSameKeys, SeesNoSum, adds_to_index}
use Rattle.laws_versions.proofs.KeyLemmas.KeySums.{item_keeps, item_same}

-- ---- sums that are not seen

pub sees_mapped : (rule : IndexRule) (table : ℕ) (f : PastChange → PastChange) → ((item : PastChange) → (f item).change ≡ item.change) → (kept : List PastChange) → SeesNoSum rule table kept → SeesNoSum rule table (map f kept)
sees_mapped rule table f change kept h =
    all_map (λ item. changed_table item.change ≡ table → adds_to_index rule item.change ≡ false) f kept
    (all_weaker (λ item. changed_table item.change ≡ table → adds_to_index rule item.change ≡ false) (λ item. changed_table (f item).change ≡ table → adds_to_index rule (f item).change ≡ false)
    (λ item unseen own. ap (adds_to_index rule) (change item) ∙ unseen (sym (ap changed_table (change item)) ∙ own)) kept h)

-- ---- one more

pub key_befores-append : (rule : IndexRule) (schema : Schema) (table : ℕ) (items : List PastChange) (base : Records) (new : PastChange) → HasKeyBefores rule schema table base items
    → (is_sum new.change ≡ true → HasSameKeys rule schema new.before (at (records_after_items is_standing base items) new.change)) → HasKeyBefores rule schema table base (items ++ new ∷ [])
key_befores-append rule schema table [] base new h e = ((λ live sum own. e sum), tt)
key_befores-append rule schema table (item ∷ items) base new h e = (
  h.0,
  key_befores-append rule schema table items (cond (is_standing item) (after_item base item) base) new h.1
      (λ sum key. e sum key ∙ ap (λ (r : Records). yields_key rule schema key (at r new.change)) (folded-cons is_standing base item items)),
)

-- ---- others of the same state

pub key_befores-map : (rule : IndexRule) (schema : Schema) (table : ℕ) (f : PastChange → PastChange) → ((item : PastChange) → (f item).change ≡ item.change) → ((item : PastChange) → (f item).before ≡ item.before)
    → ((item : PastChange) → is_standing (f item) ≡ is_standing item) → (items : List PastChange) (base : Records) → HasKeyBefores rule schema table base items → HasKeyBefores rule schema table base (map f items)
key_befores-map rule schema table f change before live [] base h = tt
key_befores-map rule schema table f change before live (item ∷ items) base h = (
  (λ alive sum own key. ap (yields_key rule schema key) (before item)
      ∙ h.0 (sym (live item) ∙ alive) (ap is_sum (sym (change item)) ∙ sum) (ap changed_table (sym (change item)) ∙ own) key
      ∙ ap (λ c. yields_key rule schema key (at base c)) (sym (change item))),
  subst (λ (r : Records). HasKeyBefores rule schema table r (map f items)) (ap (λ c. cond (is_standing item) (records_after base c) base) (sym (change item)) ∙ ap (λ b. cond b (records_after base (f item).change) base) (sym (live item)))
      (key_befores-map rule schema table f change before live items (cond (is_standing item) (after_item base item) base) h.1),
)

-- ---- some undone

-- a sum that stays finds the same keys in both records
abbrev Agree : IndexRule → Schema → ℕ → (PastChange → Bool) → Records → Records → PastChange → Type 0
Agree rule schema table gone r s item = is_standing item ≡ true → gone item ≡ false → is_sum item.change ≡ true → changed_table item.change ≡ table → HasSameKeys rule schema (at r item.change) (at s item.change)

off : (p q : Change) → collide p q ≡ false → is_sum p ≡ false → is_change_of (changed_table q) (changed_bookmark q) p ≡ false
off p q h sum = by ((changed_table p == changed_table q) && bytes_eq (changed_bookmark p) (changed_bookmark q)) (is_sum p) (is_sum q) sum (sym (grouped (changed_table p == changed_table q) (bytes_eq (changed_bookmark p) (changed_bookmark q)) (not (is_sum p && is_sum q))) ∙ h)
  where
    grouped : (a b c : Bool) → ((a && b) && c) ≡ ((a && b) && c)
    grouped a b c = refl

    by : (a b c : Bool) → b ≡ false → (a && not (b && c)) ≡ false → a ≡ false
    by true true c e g = impossible (sym e)
    by true false c e g = impossible (sym g)
    by false b c e g = refl

agree-gone : (rule : IndexRule) (schema : Schema) (table : ℕ) (gone : PastChange → Bool) (r s : Records) (item q : PastChange) → gone item ≡ true → (changed_table item.change ≡ table → adds_to_index rule item.change ≡ false)
    → GoesApart gone item q → Agree rule schema table gone r s q → Agree rule schema table gone (after_item r item) s q
agree-gone rule schema table gone r s item q goes plain apart agree live stays sum own key =
    elim (is_sum item.change) as (λ b. is_sum item.change ≡ b → yields_key rule schema key (at (after_item r item) q.change) ≡ yields_key rule schema key (at r q.change)) [
      | true ↦ λ added. item_keeps rule schema r item (changed_table q.change) (changed_bookmark q.change) added (λ same. plain (same ∙ own)) key
      | false ↦ λ set. ap (λ b. yields_key rule schema key (cond b (record_after item.change (at r q.change)) (at r q.change))) (off item.change q.change (apart goes live stays) set)
    ] refl
    ∙ agree live stays sum own key

agree-stays : (rule : IndexRule) (schema : Schema) (table : ℕ) (gone : PastChange → Bool) (r s : Records) (item q : PastChange) → (changed_table item.change ≡ table → adds_to_index rule item.change ≡ false)
    → Agree rule schema table gone r s q → Agree rule schema table gone (after_item r item) (after_item s item) q
agree-stays rule schema table gone r s item q plain agree live stays sum own =
    item_same rule schema r s item (changed_table q.change) (changed_bookmark q.change) (λ same. plain (same ∙ own)) (agree live stays sum own)

undone_from : (rule : IndexRule) (schema : Schema) (table : ℕ) (gone : PastChange → Bool) → ((item : PastChange) → gone item ≡ true → is_standing item ≡ true) → (items : List PastChange) (r s : Records) → HasKeyBefores rule schema table r items
    → SeesNoSum rule table items → EachTwo (GoesApart gone) items → AllByRecursion (Agree rule schema table gone r s) items → HasKeyBefores rule schema table s (map (undone_where gone) items)
undone_from rule schema table gone alive [] r s h plain apart agree = tt
undone_from rule schema table gone alive (item ∷ items) r s h plain apart agree =
    elim (gone item) as (λ b. gone item ≡ b → HasKeyBefores rule schema table s (cond b (record item { status = undone }) item ∷ map (undone_where gone) items)) [
      | true ↦ λ goes. (
        (λ live sum own. impossible live),
        undone_from rule schema table gone alive items (after_item r item) s
            (subst (λ (x : Records). HasKeyBefores rule schema table x items) (ap (λ b. cond b (after_item r item) r) (alive item goes)) h.1) plain.1
            apart.1 (all_both (GoesApart gone item) (Agree rule schema table gone r s) (Agree rule schema table gone (after_item r item) s) (λ q. agree-gone rule schema table gone r s item q goes plain.0) items apart.0 agree.1),
      )
      | false ↦ λ stays. (
        (λ live sum own key. h.0 live sum own key ∙ agree.0 live stays sum own key),
        elim (is_standing item) as (λ b. HasKeyBefores rule schema table (cond b (after_item r item) r) items → HasKeyBefores rule schema table (cond b (after_item s item) s) (map (undone_where gone) items)) [
          | true ↦ λ g. undone_from rule schema table gone alive items (after_item r item) (after_item s item) g plain.1 apart.1
              (all_weaker (Agree rule schema table gone r s) (Agree rule schema table gone (after_item r item) (after_item s item)) (λ q. agree-stays rule schema table gone r s item q plain.0) items agree.1)
          | false ↦ λ g. undone_from rule schema table gone alive items r s g plain.1 apart.1 agree.1
        ] h.1,
      )
    ] refl

pub key_befores-undo : (rule : IndexRule) (schema : Schema) (table : ℕ) (gone : PastChange → Bool) → ((item : PastChange) → gone item ≡ true → is_standing item ≡ true) → (items : List PastChange) (base : Records)
    → SeesNoSum rule table items → EachTwo (GoesApart gone) items → HasKeyBefores rule schema table base items → HasKeyBefores rule schema table base (map (undone_where gone) items)
key_befores-undo rule schema table gone alive items base plain apart h =
    undone_from rule schema table gone alive items base base h plain apart (all_each (Agree rule schema table gone base base) (λ item live stays sum own key. refl) items)
