-- The records before the kept changes, when one comes behind them, or some change their state.
use Rattle.std.proofs.Common.{◌≡◌, Bool, true, false, not, ◌&&◌, cond, List, [], ◌∷◌, ◌++◌, Option, refl, sym, ap, subst, ◌∙◌}
use Rattle.std.specs.Prelude.{map}
use Rattle.std.specs.List.{AllByRecursion}
use Rattle.common_lemmas.proofs.Lists.{all_weaker}
use Rattle.common_lemmas.proofs.Booleans.{impossible}
use Rattle.column_set.specs.declared.changes.Change.{Change}
use Rattle.column_set.specs.RecordValues.{RecordFields}
use Rattle.database_state.specs.Changes.{is_sum}
use Rattle.column_set.specs.ChangedRecords.{changed_table, changed_bookmark}
use Rattle.database_state.specs.State.{PastChange, undone}
use Rattle.database_state.specs.Conflicts.{collide}
use Rattle.laws_versions.specs.Records.{Records, after_item, is_change_of, record_after, records_after, records_after_items}
use Rattle.laws_versions.proofs.ChangeLemmas.Folds.{folded-cons}
use Rattle.laws_versions.specs.History.{EachTwo, HasBefores}
use Rattle.laws_versions.specs.KeptSteps.{undone_where}
use Rattle.laws_versions.specs.Readers.{is_standing}
use Rattle.laws_versions.proofs.HistoryLemmas.Lists.{all_both}

-- what stands under the record of a change
abbrev pub at : Records → Change → Option RecordFields
at records change = records (changed_table change) (changed_bookmark change)

-- ---- one more

pub befores-append : (items : List PastChange) (base : Records) (new : PastChange) → HasBefores base items
    → (is_standing new ≡ true → is_sum new.change ≡ false → new.before ≡ at (records_after_items is_standing base items) new.change)
    → HasBefores base (items ++ new ∷ [])
befores-append [] base new h e = (e, tt)
befores-append (item ∷ items) base new h e = (
  h.0,
  befores-append items (cond (is_standing item) (after_item base item) base) new h.1
      (λ live sum. e live sum ∙ ap (λ (r : Records). at r new.change) (folded-cons is_standing base item items)),
)

-- ---- others of the same state

pub befores-map : (f : PastChange → PastChange) → ((item : PastChange) → (f item).change ≡ item.change) → ((item : PastChange) → (f item).before ≡ item.before) → ((item : PastChange) → is_standing (f item) ≡ is_standing item)
    → (items : List PastChange) (base : Records) → HasBefores base items → HasBefores base (map f items)
befores-map f change before live [] base h = tt
befores-map f change before live (item ∷ items) base h = (
  (λ alive sum. before item ∙ h.0 (sym (live item) ∙ alive) (ap is_sum (sym (change item)) ∙ sum) ∙ ap (at base) (sym (change item))),
  subst (λ (r : Records). HasBefores r (map f items)) (ap (λ c. cond (is_standing item) (records_after base c) base) (sym (change item)) ∙ ap (λ b. cond b (records_after base (f item).change) base) (sym (live item)))
      (befores-map f change before live items (cond (is_standing item) (after_item base item) base) h.1),
)

-- ---- some undone

-- a change that goes collides with none that stays behind it
abbrev pub GoesApart : (PastChange → Bool) → PastChange → PastChange → Type 0
GoesApart gone earlier later = gone earlier ≡ true → is_standing later ≡ true → gone later ≡ false → collide earlier.change later.change ≡ false

-- a change that stays finds the same in both records
abbrev Agree : (PastChange → Bool) → Records → Records → PastChange → Type 0
Agree gone r s item = is_standing item ≡ true → gone item ≡ false → is_sum item.change ≡ false → at r item.change ≡ at s item.change

off : (p q : Change) → collide p q ≡ false → is_sum q ≡ false → is_change_of (changed_table q) (changed_bookmark q) p ≡ false
off p q h sum = by (is_change_of (changed_table q) (changed_bookmark q) p) (is_sum p) (is_sum q) sum h
  where
    by : (a b c : Bool) → c ≡ false → (a && not (b && c)) ≡ false → a ≡ false
    by true true true e g = e
    by true true false e g = g
    by true false c e g = g
    by false b c e g = refl

agree-gone : (gone : PastChange → Bool) (r s : Records) (item q : PastChange) → gone item ≡ true → GoesApart gone item q → Agree gone r s q → Agree gone (after_item r item) s q
agree-gone gone r s item q goes apart agree live stays sum =
    ap (λ b. cond b (record_after item.change (at r q.change)) (at r q.change)) (off item.change q.change (apart goes live stays) sum) ∙ agree live stays sum

agree-stays : (gone : PastChange → Bool) (r s : Records) (item q : PastChange) → Agree gone r s q → Agree gone (after_item r item) (after_item s item) q
agree-stays gone r s item q agree live stays sum =
    ap (λ (x : Option RecordFields). cond (is_change_of (changed_table q.change) (changed_bookmark q.change) item.change) (record_after item.change x) x) (agree live stays sum)

befores-undone : (gone : PastChange → Bool) → ((item : PastChange) → gone item ≡ true → is_standing item ≡ true) → (items : List PastChange) (r s : Records) → HasBefores r items → EachTwo (GoesApart gone) items
    → AllByRecursion (Agree gone r s) items → HasBefores s (map (undone_where gone) items)
befores-undone gone alive [] r s h apart agree = tt
befores-undone gone alive (item ∷ items) r s h apart agree =
    elim (gone item) as (λ b. gone item ≡ b → HasBefores s (cond b (record item { status = undone }) item ∷ map (undone_where gone) items)) [
      | true ↦ λ goes. (
        (λ live sum. impossible live),
        befores-undone gone alive items (after_item r item) s
            (subst (λ (x : Records). HasBefores x items) (ap (λ b. cond b (after_item r item) r) (alive item goes)) h.1)
            apart.1 (all_both (GoesApart gone item) (Agree gone r s) (Agree gone (after_item r item) s) (λ q. agree-gone gone r s item q goes) items apart.0 agree.1),
      )
      | false ↦ λ stays. (
        (λ live sum. h.0 live sum ∙ agree.0 live stays sum),
        elim (is_standing item) as (λ b. HasBefores (cond b (after_item r item) r) items → HasBefores (cond b (after_item s item) s) (map (undone_where gone) items)) [
          | true ↦ λ g. befores-undone gone alive items (after_item r item) (after_item s item) g apart.1 (all_weaker (Agree gone r s) (Agree gone (after_item r item) (after_item s item)) (λ q. agree-stays gone r s item q) items agree.1)
          | false ↦ λ g. befores-undone gone alive items r s g apart.1 agree.1
        ] h.1,
      )
    ] refl

pub befores-undo : (gone : PastChange → Bool) → ((item : PastChange) → gone item ≡ true → is_standing item ≡ true) → (items : List PastChange) (base : Records) → HasBefores base items → EachTwo (GoesApart gone) items
    → HasBefores base (map (undone_where gone) items)
befores-undo gone alive items base h apart = befores-undone gone alive items base base h apart (all items)
  where
    all : (xs : List PastChange) → AllByRecursion (Agree gone base base) xs
    all [] = tt
    all (x ∷ xs) = ((λ live stays sum. refl), all xs)
