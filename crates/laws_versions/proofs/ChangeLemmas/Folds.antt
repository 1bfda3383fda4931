-- The records after items that were changed, added or moved.
use Rattle.std.proofs.Common.{◌≡◌, Bool, true, false, cond, List, [], ◌∷◌, ◌++◌, refl, ap, ◌∙◌}
use Rattle.std.specs.Prelude.{map, filter, fold}
use Rattle.std.specs.List.{AllByRecursion}
use Rattle.std.proofs.lemmas.List.Elements.{filter-append}
use Rattle.std.proofs.lemmas.List.Sums.{fold-append}
use Rattle.database_state.specs.State.{PastChange}
use Rattle.laws_versions.specs.Records.{Records, records_after, after_item, records_after_items}

-- items become others of the same change, and of those the same pass
pub folded-map : (test before : PastChange → Bool) (f : PastChange → PastChange) → ((item : PastChange) → (f item).change ≡ item.change) → (items : List PastChange) → AllByRecursion (λ item. test (f item) ≡ before item) items → (base : Records)
    → records_after_items test base (map f items) ≡ records_after_items before base items
folded-map test before f same [] h base = refl
folded-map test before f same (item ∷ items) h base =
    ap (λ b. fold after_item base (cond b (f item ∷ filter test (map f items)) (filter test (map f items)))) h.0
    ∙ elim (before item) as (λ b. fold after_item base (cond b (f item ∷ filter test (map f items)) (filter test (map f items))) ≡ fold after_item base (cond b (item ∷ filter before items) (filter before items))) [
      | true ↦ ap (λ c. fold after_item (records_after base c) (filter test (map f items))) (same item) ∙ folded-map test before f same items h.1 (after_item base item)
      | false ↦ folded-map test before f same items h.1 base
    ]

pub folded-same : (test before : PastChange → Bool) (items : List PastChange) → AllByRecursion (λ item. test item ≡ before item) items → (base : Records)
    → records_after_items test base items ≡ records_after_items before base items
folded-same test before [] h base = refl
folded-same test before (item ∷ items) h base =
    ap (λ b. fold after_item base (cond b (item ∷ filter test items) (filter test items))) h.0
    ∙ elim (before item) as (λ b. fold after_item base (cond b (item ∷ filter test items) (filter test items)) ≡ fold after_item base (cond b (item ∷ filter before items) (filter before items))) [
      | true ↦ folded-same test before items h.1 (after_item base item)
      | false ↦ folded-same test before items h.1 base
    ]

pub folded-append : (test : PastChange → Bool) (base : Records) (items : List PastChange) (new : PastChange)
    → records_after_items test base (items ++ new ∷ []) ≡ cond (test new) (after_item (records_after_items test base items) new) (records_after_items test base items)
folded-append test base items new =
    ap (fold after_item base) (filter-append test items (new ∷ []))
    ∙ fold-append after_item base (filter test items) (filter test (new ∷ []))
    ∙ elim (test new) as (λ b. fold after_item (records_after_items test base items) (cond b (new ∷ []) []) ≡ cond b (after_item (records_after_items test base items) new) (records_after_items test base items)) [ true ↦ refl | false ↦ refl ]

pub folded-cons : (test : PastChange → Bool) (base : Records) (item : PastChange) (items : List PastChange)
    → records_after_items test base (item ∷ items) ≡ records_after_items test (cond (test item) (after_item base item) base) items
folded-cons test base item items = elim (test item) as (λ b. fold after_item base (cond b (item ∷ filter test items) (filter test items)) ≡ records_after_items test (cond b (after_item base item) base) items) [ true ↦ refl | false ↦ refl ]
