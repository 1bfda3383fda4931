-- What the newest records are once a change is undone behind which nothing collides.
use Rattle.std.proofs.Common.{◌≡◌, Bool, true, false, not, ◌&&◌, cond, List, [], ◌∷◌, ◌++◌, refl, sym, ap, ◌∙◌}
use Rattle.std.specs.Prelude.{filter, fold}
use Rattle.std.specs.List.{AllByRecursion}
use Rattle.std.proofs.lemmas.List.Elements.{filter-append}
use Rattle.std.proofs.lemmas.List.Sums.{fold-append}
use Rattle.std.proofs.lemmas.Bool.{and_from}
use Rattle.common_lemmas.proofs.Lists.{all_weaker}
use Rattle.common_lemmas.proofs.Numbers.{equal_bytes, self_equal}
use Rattle.column_set.specs.declared.changes.Change.{Change}
use Rattle.database_state.specs.Changes.{is_sum}
use Rattle.column_set.specs.ChangedRecords.{changed_table, changed_bookmark}
use Rattle.database_state.specs.State.{PastChange}
use Rattle.database_state.specs.Conflicts.{collide}
use Rattle.laws_versions.specs.Records.{Records, after_item, is_change_of, record_after, records_after_items}
use Rattle.laws_versions.proofs.ChangeLemmas.Commuting.{both_touch, commute}
use Rattle.laws_versions.specs.History.{HasBefores}
use Rattle.laws_versions.specs.Readers.{is_standing}
use Rattle.laws_versions.proofs.HistoryLemmas.Befores.{at}
use Rattle.laws_versions.proofs.HistoryLemmas.Merging.{Commute, moved}

-- no later change that stands collides with it
abbrev pub IsLastOf : PastChange → List PastChange → Type 0
IsLastOf item rest = AllByRecursion (λ q. is_standing q ≡ true → collide item.change q.change ≡ false) rest

split : (base : Records) (front rest : List PastChange) → records_after_items is_standing base (front ++ rest) ≡ records_after_items is_standing (records_after_items is_standing base front) rest
split base front rest = ap (fold after_item base) (filter-append is_standing front rest) ∙ fold-append after_item base (filter is_standing front) (filter is_standing rest)

-- it may as well have been made last
pub made_last : (base : Records) (front : List PastChange) (item : PastChange) (rest : List PastChange) → is_standing item ≡ true → IsLastOf item rest
    → records_after_items is_standing base (front ++ item ∷ rest) ≡ after_item (records_after_items is_standing base (front ++ rest)) item
made_last base front item rest live last =
    split base front (item ∷ rest)
    ∙ ap (λ b. fold after_item (records_after_items is_standing base front) (cond b (item ∷ filter is_standing rest) (filter is_standing rest))) live
    ∙ sym (moved after_item is_standing item (records_after_items is_standing base front) rest
    (all_weaker (λ q. is_standing q ≡ true → collide item.change q.change ≡ false) (λ q. is_standing q ≡ true → Commute after_item item q) (λ q h l. commute item q (h l)) rest last))
    ∙ ap (λ r. after_item r item) (sym (split base front rest))

-- ---- the record before it

before_at : (base : Records) (front : List PastChange) (item : PastChange) (rest : List PastChange) → HasBefores base (front ++ item ∷ rest) → is_standing item ≡ true → is_sum item.change ≡ false
    → item.before ≡ at (records_after_items is_standing base front) item.change
before_at base [] item rest h live sum = h.0 live sum
before_at base (first ∷ front) item rest h live sum =
    before_at (cond (is_standing first) (after_item base first) base) front item rest h.1 live sum
    ∙ elim (is_standing first) as (λ b. at (records_after_items is_standing (cond b (after_item base first) base) front) item.change ≡ at (fold after_item base (cond b (first ∷ filter is_standing front) (filter is_standing front))) item.change) [ true ↦ refl | false ↦ refl ]

off : (p q : Change) → collide p q ≡ false → is_sum p ≡ false → is_change_of (changed_table p) (changed_bookmark p) q ≡ false
off p q h sum = by (is_change_of (changed_table p) (changed_bookmark p) q) refl
  where
    self : is_change_of (changed_table p) (changed_bookmark p) p ≡ true
    self = and_from _ _ (self_equal (changed_table p)) (equal_bytes (changed_bookmark p) (changed_bookmark p) refl)

    by : (b : Bool) → is_change_of (changed_table p) (changed_bookmark p) q ≡ b → b ≡ false
    by true e = sym (and_from _ _ (both_touch (changed_table p) (changed_bookmark p) p q self e) (ap (λ s. not (s && is_sum q)) sum)) ∙ h
    by false e = refl

beside : (rest : List PastChange) (item : PastChange) → is_sum item.change ≡ false → IsLastOf item rest → (r : Records) → at (records_after_items is_standing r rest) item.change ≡ at r item.change
beside [] item sum last r = refl
beside (q ∷ rest) item sum last r =
    elim (is_standing q) as (λ b. is_standing q ≡ b → at (fold after_item r (cond b (q ∷ filter is_standing rest) (filter is_standing rest))) item.change ≡ at r item.change) [
      | true ↦ λ e. beside rest item sum last.1 (after_item r q) ∙ ap (λ b. cond b (record_after q.change (at r item.change)) (at r item.change)) (off item.change q.change (last.0 e) sum)
      | false ↦ λ e. beside rest item sum last.1 r
    ] refl

-- without it its record is the one before it
pub given_back : (base : Records) (front : List PastChange) (item : PastChange) (rest : List PastChange) → HasBefores base (front ++ item ∷ rest) → is_standing item ≡ true → is_sum item.change ≡ false → IsLastOf item rest
    → at (records_after_items is_standing base (front ++ rest)) item.change ≡ item.before
given_back base front item rest h live sum last =
    ap (λ (r : Records). at r item.change) (split base front rest)
    ∙ beside rest item sum last (records_after_items is_standing base front)
    ∙ sym (before_at base front item rest h live sum)
