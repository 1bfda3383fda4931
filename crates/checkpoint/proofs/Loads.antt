-- What is read of page slots.
use Rattle.std.proofs.Common.{◌≡◌, ⊎_elim, ℕ, suc, ◌+◌, ◌<◌, ◌≤◌, List, [], ◌∷◌, ◌++◌, Option, Some, None, IfSome, length, get_or, take, drop, refl, sym, ◌∙◌, ap, subst, arith}
use Rattle.std.proofs.lemmas.Bool.{cases_lt}
use Rattle.std.proofs.lemmas.List.{get_or_append_left, get_or_default, get_or_past, get_or_push, take_all}
use Rattle.page_image.specs.Page.{IsPage, PageContents, page_bytes}
use Rattle.checkpoint.specs.declared.fault.CheckFault.{CheckFault}
use Rattle.checkpoint.specs.declared.fault.CheckFault.TheVariants.{CheckpointCorrupt, LogSequenceEnd, ReadVerifyFailure, VolumeFault, OutOfMemory}
use Rattle.checkpoint.specs.Opening.{HasBadSlot, HoldsPage, slot_of, slot_start}
use Rattle.checkpoint.specs.Shape.{HasOwnNumber}
use Rattle.checkpoint.specs.Found.{HoldsOnly}
use Rattle.checkpoint.specs.Parts.{BearsNumber, ExplainsSlots, IsBadSlot, SaysOnly}

-- the bytes that were read of a whole slot
pub slot_read : (database into : List ℕ) (number slot at n : ℕ) → at ≡ slot_start number slot → n ≡ 4096 → length into ≡ 4096 → take n into ≡ take n (drop at database) → into ≡ slot_of database number slot
slot_read database into number slot at n place count size read =
    sym (take_all 4096 into (omega (arith, size))) ∙ subst (λ k. take k into ≡ take k (drop at database)) count read ∙ ap (λ k. take 4096 (drop k database)) place

pub page_holds : (found : Option PageContents) (database into : List ℕ) (number slot : ℕ) → slot < 2 → slot_start number slot + 4096 ≤ length database → into ≡ slot_of database number slot
    → IfSome found (λ page. IsPage page × (into ≡ page_bytes page) × (page.number ≡ number)) → IfSome found (HoldsPage database number slot)
page_holds None database into number slot small whole read is = tt
page_holds (Some page) database into number slot small whole read is =
    record { one_of_two = small; whole = whole; is_page = is.0; bytes = sym read ∙ is.1; own_number = is.2 }

-- lists that agree at each place
pub same_list : (xs ys : List (Option PageContents)) → length xs ≡ length ys → ((p : ℕ) → p < length ys → get_or xs p None ≡ get_or ys p None) → xs ≡ ys
same_list [] [] same each = refl
same_list [] (y ∷ ys) same each = absurd (omega (arith, same))
same_list (x ∷ xs) [] same each = absurd (omega (arith, same))
same_list (x ∷ xs) (y ∷ ys) same each =
    ap (λ k. k ∷ xs) (each 0 (omega arith)) ∙ ap (λ (l : List (Option PageContents)). y ∷ l) (same_list xs ys (omega (arith, same)) (λ p lt. each (suc p) (omega (arith, lt))))

-- one page more
pub more_pages : (P : ℕ → Option PageContents → Type 0) (pages : List (Option PageContents)) (page : Option PageContents) (n : ℕ) → length pages ≡ n
    → ((p : ℕ) → p < n → P p (get_or pages p None)) → P n page → (p : ℕ) → p < n + 1 → P p (get_or (pages ++ page ∷ []) p None)
more_pages P pages page n count before here p lt = ⊎_elim
    (λ (below : p < n). subst (λ o. P p o) (sym (get_or_append_left pages (page ∷ []) None p (omega (arith, below, count)))) (before p below))
    (λ (above : n ≤ p).
    let same : p ≡ n = omega (arith, above, lt) in
    subst (λ k. P k (get_or (pages ++ page ∷ []) k None)) (sym same) (subst (λ o. P n o) (sym (get_or_push pages page None n count)) here))
    (cases_lt p n)

pub holds_only : (database slots : List ℕ) (pages : List (Option PageContents)) → length pages ≡ length slots
    → ((p : ℕ) → p < length slots → SaysOnly database p (get_or slots p 2) (get_or pages p None)) → HoldsOnly database slots pages
holds_only database slots pages count says = (
  record { count = sym count; each = λ p lt. (says p (omega (arith, lt, count))).says },
  λ others holds.
      same_list others pages (sym holds.count ∙ sym count)
      (λ p lt. (says p (omega (arith, lt, count))).only (get_or others p None) (holds.each p (omega (arith, lt, count, holds.count)))),
)

pub own_numbers : (pages : List (Option PageContents)) (n : ℕ) → length pages ≡ n → ((p : ℕ) → p < n → BearsNumber p (get_or pages p None)) → (p : ℕ) → HasOwnNumber pages p
own_numbers pages n count each p = ⊎_elim
    (λ (below : p < n). each p below)
    (λ (above : n ≤ p). subst (λ o. BearsNumber p o) (sym (get_or_past pages p None (omega (arith, above, count)))) tt)
    (cases_lt p n)

-- one bad slot is a bad slot of the checkpoint
pub slot_is_bad : (database slots : List ℕ) (p d : ℕ) → p < length slots → IsBadSlot database p (get_or slots p d) → HasBadSlot database slots
slot_is_bad database slots p d within bad =
    let same : get_or slots p d ≡ get_or slots p 2 = get_or_default slots p d 2 within in
    (p, within, subst (λ s. s < 2) same bad.in_use, subst (λ s. (page : PageContents) → HoldsPage database p s page → ⊥) same bad.no_page)

pub explains_slots : (A B : Type 0) (fault : CheckFault) → (A → B) → ExplainsSlots A fault → ExplainsSlots B fault
explains_slots A B CheckpointCorrupt more says = says
explains_slots A B LogSequenceEnd more says = says
explains_slots A B ReadVerifyFailure more says = more says
explains_slots A B VolumeFault more says = tt
explains_slots A B OutOfMemory more says = tt
